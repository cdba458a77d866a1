use Rattle.std.proofs.Math.Logic.{∥∥₁_map}
use Rattle.std.proofs.Common.{◌≡◌, sym, ap, ◌∙◌, subst}
use Rattle.epoch_lattice.specs.declared.Space.TheVariants.{Region}
use Rattle.heap_words.specs.Contents.{Contents, contents, depth_of}
use Rattle.heap_words.proofs.Contents.{depth_of-fits, length-heap, length-scratch}
use Rattle.yak_model.specs.Spaces.{innermost}
use Rattle.escape_closure.specs.Ends.{EndPlanned}
use Rattle.escape_closure.specs.Targets.{TargetsWritten}
use Rattle.escape_closure.proofs.NoMoves.{planned_none}
use Rattle.escape_closure.proofs.Told.{SomeAimed, currents_told, pool_told, table_told}
use Rattle.escape_closure.proofs.Written.{region_is}
use Rattle.escape_closure.proofs.planning.plan_escaping.Goals as goal

pub plan_moves_below-requires-clause-aimed : goal.plan_moves_below-requires-clause-aimed
plan_moves_below-requires-clause-aimed g c = ∥∥₁_map c.requires.aimed (λ z. (z.0, z.1, z.2, c.args.escaping, z.3))

pub returns-then-escaping-eq0-clause-planned : goal.returns-then-escaping-eq0-clause-planned
returns-then-escaping-eq0-clause-planned g c s before st written =
    let m = c.args.map in
    let t = c.args.thread in
    let ws = g.W.Words.words c.args.words.now in
    let old = contents m ws in
    let depth = depth_of old t in
    let areas = c.requires.sound.areas in
    let some : SomeAimed m old = ∥∥₁_map c.requires.aimed (λ z. (z.0, z.1, z.2, z.3.frame)) in
    let depth_is : depth ≡ depth_of before t = ap (λ (x : Contents). depth_of x t) written.frame in
    let region : innermost s.graph t ≡ Region t depth = region_is m before s st t depth c.requires.thread depth_is c.requires.depth in
    let none : TargetsWritten m s st.places t before old 0 = subst (λ n. TargetsWritten m s st.places t before old n) c.if-escaping-eq0.true written in
    let planned : EndPlanned m old old s st.places t 0 = planned_none m before old s st t depth areas c.requires.thread c.requires.depth (depth_of-fits m ws t c.requires.thread c.requires.sound) none region depth_is (length-heap m ws c.requires.sound.whole) (length-scratch m ws c.requires.sound.whole)
    (table_told m old areas some) (pool_told m old some) (currents_told m old some) in
    rw c.empty_plan.ensures.words (c.empty_plan.ensures.none ∙ sym c.if-escaping-eq0.true, subst (λ n. EndPlanned m old old s st.places t n) (sym c.empty_plan.ensures.none) planned)

pub returns-clause-planned : goal.returns-clause-planned
returns-clause-planned g c s before st written = c.plan_moves_below.ensures.planned s before st c.args.escaping written

pub returns-clause-reads : goal.returns-clause-reads
returns-clause-reads g c s before st written = c.plan_moves_below.ensures.reads s before st c.args.escaping written
