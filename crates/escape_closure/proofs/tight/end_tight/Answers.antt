use Rattle.std.proofs.Props.{props}
use Rattle.std.proofs.Math.Logic.{∥∥₁_elim, ∥∥₁_map}
use Rattle.std.proofs.Common.{◌≡◌, ap, subst, ◌∙◌, arith}
use Rattle.heap_words.specs.Contents.{Contents, contents, depth_of}
use Rattle.escape_closure.specs.Ends.{TightEnded}
use Rattle.escape_closure.proofs.Outcomes.{tight_from, tight_readied}
use Rattle.escape_closure.proofs.TightReadies.{tight_frame}
use Rattle.escape_closure.proofs.Written.{innermost_region}
use Rattle.escape_closure.proofs.tight.end_tight.Goals as goal

pub plan_tight-packing-requires-clause-depth : goal.plan_tight-packing-requires-clause-depth
plan_tight-packing-requires-clause-depth g c =
    ∥∥₁_elim c.requires.recorded (hlevel props) (λ q.
    let b = c.begin_end.ensures.begun q.0 q.1 q.2 in
    let steps = ap (λ (x : Contents). depth_of x c.args.thread) b.written.frame ∙ ap (λ (x : Contents). depth_of x c.args.thread) b.frame in
    omega (arith, c.requires.depth, steps))

pub plan_tight-packing-requires-clause-aimed : goal.plan_tight-packing-requires-clause-aimed
plan_tight-packing-requires-clause-aimed g c = ∥∥₁_map c.requires.recorded (λ q. let b = c.begin_end.ensures.begun q.0 q.1 q.2 in (q.0, b.filing, b.later, c.begin_end.result, b.written))

pub finish_tight-requires-clause-depth : goal.finish_tight-requires-clause-depth
finish_tight-requires-clause-depth g c =
    let m = c.args.map in
    let t = c.args.thread in
    let old = contents m (g.W.Words.words c.args.words.now) in
    let mid = contents m (g.W.Words.words c.begin_end.new.words) in
    let planned = contents m (g.W.Words.words c.plan_tight-packing.new.words) in
    ∥∥₁_elim c.requires.recorded (hlevel props) (λ q.
    let b = c.begin_end.ensures.begun q.0 q.1 q.2 in
    let ready = tight_readied m old q.0 q.1 t c.begin_end.result mid b c.requires.thread c.requires.depth planned c.plan_tight-packing.result.plan.count c.plan_tight-packing.result.cursor.next c.plan_tight-packing.result.cursor.room c.plan_tight-packing.ensures.sliding in
    let frame = tight_frame m b.filing mid planned q.0 b.later t c.plan_tight-packing.result.plan.count c.plan_tight-packing.result.cursor.next c.requires.sound.areas c.requires.thread ready.deep ready in
    let steps = ap (λ (x : Contents). depth_of x t) frame in
    let deep = ready.deep in
    omega (arith, deep, steps))

pub finish_tight-requires-clause-ready : goal.finish_tight-requires-clause-ready
finish_tight-requires-clause-ready g c =
    let m = c.args.map in
    let t = c.args.thread in
    let old = contents m (g.W.Words.words c.args.words.now) in
    let mid = contents m (g.W.Words.words c.begin_end.new.words) in
    let planned = contents m (g.W.Words.words c.plan_tight-packing.new.words) in
    ∥∥₁_map c.requires.recorded (λ q.
    let b = c.begin_end.ensures.begun q.0 q.1 q.2 in
    (b.filing, mid, q.0, b.later, tight_readied m old q.0 q.1 t c.begin_end.result mid b c.requires.thread c.requires.depth planned c.plan_tight-packing.result.plan.count c.plan_tight-packing.result.cursor.next c.plan_tight-packing.result.cursor.room c.plan_tight-packing.ensures.sliding))

pub returns-clause-ended : goal.returns-clause-ended
returns-clause-ended g c s h recorded =
    let m = c.args.map in
    let t = c.args.thread in
    let old = contents m (g.W.Words.words c.args.words.now) in
    let mid = contents m (g.W.Words.words c.begin_end.new.words) in
    let planned = contents m (g.W.Words.words c.plan_tight-packing.new.words) in
    let d = contents m (g.W.Words.words c.finish_tight.new.words) in
    let b = c.begin_end.ensures.begun s h recorded in
    let ready = tight_readied m old s h t c.begin_end.result mid b c.requires.thread c.requires.depth planned c.plan_tight-packing.result.plan.count c.plan_tight-packing.result.cursor.next c.plan_tight-packing.result.cursor.room c.plan_tight-packing.ensures.sliding in
    let same : c.plan_tight-packing.result.plan.count ≡ c.from.result = omega (arith, c.from.ensures) in
    subst (λ i. TightEnded m old d s h t i) same (tight_from m old s h t c.begin_end.result mid b d c.plan_tight-packing.result.plan.count (innermost_region m old s h t c.requires.thread c.requires.depth) (c.finish_tight.ensures.ended b.filing mid s b.later ready))
