use Rattle.std.proofs.Common.{◌∙◌}
use Rattle.yak_model.proofs.Undone.{undone}
use Rattle.yak_model.proofs.graph.GraphState.make.Goals as goal

pub returns-in-Err-clause-err : goal.returns-in-Err-clause-err
returns-in-Err-clause-err c =
    undone c.args.self.now c.write.new.self c.drop_made.new.self c.args.thread _ c.requires.thread (c.in-Err.ensures.err ∙ c.in_ok-push_made.ensures.ok) c.drop_made.ensures
