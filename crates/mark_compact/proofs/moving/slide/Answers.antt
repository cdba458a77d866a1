use Rattle.std.proofs.Math.Logic.{∥∥₁_map}
use Rattle.std.proofs.Common.{◌≡◌, ℕ, List, sym, ap, subst}
use Rattle.heap_words.specs.Contents.{Contents, contents}
use Rattle.yak_model.specs.State.{view}
use Rattle.relocation.specs.Moves.{move_at}
use Rattle.mark_compact.specs.Collecting.{Led, Planned}
use Rattle.mark_compact.proofs.moving.slide.Goals as goal

pub correct_references-requires-clause-planned : goal.correct_references-requires-clause-planned
correct_references-requires-clause-planned g c =
    let old = contents c.args.map (g.W.Words.words c.args.words.now) in
    ∥∥₁_map c.requires.stands (λ q. (old, q.0, q.1, c.plan_collection-plan.ensures.planned q.0 q.1))

pub move_objects-requires-clause-led : goal.move_objects-requires-clause-led
move_objects-requires-clause-led g c =
    let m = c.args.map in
    let count = c.plan_collection-plan.result.count in
    let old = contents m (g.W.Words.words c.args.words.now) in
    let planned = contents m (g.W.Words.words c.plan_collection-plan.new.words) in
    let now = contents m (g.W.Words.words c.correct_references.new.words) in
    ∥∥₁_map c.requires.stands (λ q.
    let p = c.plan_collection-plan.ensures.planned q.0 q.1 in
    let led = c.correct_references.ensures.led old q.0 q.1 p in
    let scratch : now.scratch ≡ planned.scratch = ap (λ (x : Contents). x.scratch) led.frame in
    let both : (p : Planned m old q.0 q.1.places planned count (move_at now.scratch)) × Led m (view q.0) q.1.places p.dropped planned now count (move_at now.scratch) = subst (λ (sc : List ℕ). (p : Planned m old q.0 q.1.places planned count (move_at sc)) × Led m (view q.0) q.1.places p.dropped planned now count (move_at sc)) (sym scratch) (p, led) in
    (old, planned, q.0, q.1, both.0, both.1))

pub returns-clause-lain : goal.returns-clause-lain
returns-clause-lain g c s h =
    let m = c.args.map in
    let count = c.plan_collection-plan.result.count in
    let old = contents m (g.W.Words.words c.args.words.now) in
    let planned = contents m (g.W.Words.words c.plan_collection-plan.new.words) in
    let now = contents m (g.W.Words.words c.correct_references.new.words) in
    let p = c.plan_collection-plan.ensures.planned s h in
    let led = c.correct_references.ensures.led old s h p in
    let scratch : now.scratch ≡ planned.scratch = ap (λ (x : Contents). x.scratch) led.frame in
    let both : (p : Planned m old s h.places planned count (move_at now.scratch)) × Led m (view s) h.places p.dropped planned now count (move_at now.scratch) = subst (λ (sc : List ℕ). (p : Planned m old s h.places planned count (move_at sc)) × Led m (view s) h.places p.dropped planned now count (move_at sc)) (sym scratch) (p, led) in
    c.move_objects.ensures.lain old planned s h both.0 both.1
