use Rattle.yak_model.specs.Graph.{Fields}
use Rattle.yak_model.proofs.Maps.{put-shown}
use Rattle.yak_model.proofs.graph.ObjectMap.put.Goals as goal

pub returns-clause-ok : goal.returns-clause-ok
returns-clause-ok c =
    put-shown c.self.inside.held c.insert.new.self c.args.self.now c.args.name c.new.result (Fields c.args.fields.items) (c.in_ok-insert.ensures.updates.0) c.new.ensures c.self.view_is
