use Rattle.object_layout.specs.declared.calls.Call.TheVariants.{Store}
use Rattle.heap_core.specs.Steps.{plain}
use Rattle.mutator.specs.Running.{view_in}
use Rattle.mutator.proofs.Meanwhile.{makes_since, makes_stored, meanwhile_flushes, meanwhile_loads, meanwhile_none, place_in}
use Rattle.mutator.proofs.running.Mutator.store_or_flush.Goals as goal

pub loop-init : goal.loop-init
loop-init g c = (c.requires.heap, meanwhile_none (view_in c.args.self.now.inside) (place_in c.args.self.now.inside c.args.self.now.present))

pub returns-in-Ok-clause-made : goal.returns-in-Ok-clause-made
returns-in-Ok-clause-made g c =
    let v = view_in c.args.self.now.inside in
    let u = view_in c.loop.self.inside in
    let w = view_in c.store.new.self.inside in
    makes_since v u w (Store c.args.s c.args.f c.args.x) (plain c.in-Ok.reply) c.loop.invariant.1
    (makes_stored u w c.args.s c.args.f c.args.x c.in-Ok.reply c.loop.invariant.1.place_is c.in-Ok.ensures.answered)

pub loop-preserved : goal.loop-preserved
loop-preserved g c =
    let v = view_in c.args.self.now.inside in
    let u = view_in c.loop.self.inside in
    let x = view_in c.store.new.self.inside in
    let full = c.in_default.ensures.full in
    (c.flush.ensures.heap, meanwhile_flushes v x (view_in c.flush.new.self.inside) (meanwhile_loads v u x full.more full.lasting c.loop.invariant.1 full.view) c.flush.ensures.flushes)
