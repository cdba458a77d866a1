use Rattle.std.proofs.Common.{◌≡◌, ◌≢◌, ◌+◌, ◌<◌, ℕ, List, Option, length, arith, ap, sym, subst, ◌∙◌, get_or}
use Rattle.std.specs.List.{AllPairs, Contains}
use Rattle.std.specs.Option.{MatchOption}
use Rattle.object_layout.specs.declared.values.Addr.{Addr}
use Rattle.heap_words.specs.Map.{heap_length}
use Rattle.heap_words.specs.Contents.{Contents, contents}
use Rattle.heap_words.proofs.Contents.{length-heap}
use Rattle.yak_model.specs.Plans.{forward}
use Rattle.relocation.specs.Moves.{Numbered, move_at}
use Rattle.remember_sets.specs.Filed.{SetsHold, chain}
use Rattle.escape_closure.specs.Referring.{SlotsCorrected}
use Rattle.escape_closure.proofs.Corrects.{numbered_outside, slot_done, slots_none, word_same}
use Rattle.escape_closure.proofs.Walked.{at-end, at-slot, begins, comes-to, found, goes-on, stands-at, walked}
use Rattle.escape_closure.proofs.references.correct_slots.Given as given
use Rattle.escape_closure.proofs.references.correct_slots.Goals as goal
use Rattle.escape_closure.proofs.references.correct_slots.Goals.{After-correct_slot, After-next_slot-next}

pub first_slot-next-requires-clause-sets : goal.first_slot-next-requires-clause-sets
first_slot-next-requires-clause-sets g c = c.requires.slots.sets

pub loop-next-init : goal.loop-next-init
loop-next-init g c =
    let m = c.args.map in
    let old = contents m (g.W.Words.words c.args.words.now) in
    let region = c.args.region in
    let slots : List ℕ = chain m old region in
    let f = forward c.args.plan.now.count (move_at old.scratch) in
    let once : AllPairs (λ (x y : ℕ). x ≢ y) slots = c.requires.slots.sets.once region c.requires.region in
    let told = begins c.first_slot-next.result slots c.first_slot-next.ensures.first in
    let none : walked c.first_slot-next.result slots ≡ 0 = comes-to c.first_slot-next.result slots 0 once told in
    record {
      sound = rw c.first_slot-next.ensures.words c.requires.sound;
      base = c.first_slot-next.ensures.base;
      reads = omega (arith, c.first_slot-next.ensures.reads);
      at = stands-at c.first_slot-next.result slots 0 once told;
      in_heap = c.first_slot-next.ensures.in_heap;
      corrected = rw c.first_slot-next.ensures.words (subst (λ n. SlotsCorrected m f old old region n) (sym none) (slots_none m f old region));
      plan = rw c.first_slot-next.ensures.words c.requires.plan;
    }

pub correct_slot-requires-clause-plan : goal.correct_slot-requires-clause-plan
correct_slot-requires-clause-plan g c =
    let m = c.args.map in
    let mid = contents m (g.W.Words.words c.loop-next.words) in
    subst (λ (s : List ℕ). Numbered m mid.heap c.args.plan.now.count (move_at s)) (sym (ap (λ (x : Contents). x.scratch) c.loop-next.invariant.corrected.frame)) c.loop-next.invariant.plan

pub correct_slot-requires-clause-within : goal.correct_slot-requires-clause-within
correct_slot-requires-clause-within g c = subst (λ (x : Option Addr). MatchOption x (Unit {0}) (λ (a : Addr). a.0 < heap_length c.args.map)) c.in-Some.is c.loop-next.invariant.in_heap

pub correct_slot-requires-clause-lead : goal.correct_slot-requires-clause-lead
correct_slot-requires-clause-lead g c b e =
    let m = c.args.map in
    let ws = g.W.Words.words c.args.words.now in
    let old = contents m ws in
    let mid = contents m (g.W.Words.words c.loop-next.words) in
    let slots : List ℕ = chain m old c.args.region in
    let count = c.args.plan.now.count in
    let i : ℕ = walked c.loop-next.next slots in
    let at = at-slot c.loop-next.next c.in-Some.slot slots c.in-Some.is c.loop-next.invariant.at in
    let word = word_same m (forward count (move_at old.scratch)) old mid c.args.region i count (move_at old.scratch) c.requires.region c.requires.slots (length-heap m ws c.requires.sound.whole) at.0 c.loop-next.invariant.corrected in
    c.requires.slots.lead i b at.0 (sym word ∙ ap (λ a. get_or mid.heap a 0) at.1 ∙ e)

-- the slots so far and this one
more : (g : given.Over) (c : After-correct_slot g) → (let m = c.args.map in let old = contents m (g.W.Words.words c.args.words.now) in SlotsCorrected m (forward c.args.plan.now.count (move_at old.scratch)) old (contents m (g.W.Words.words c.correct_slot.new.words)) c.args.region (walked c.loop-next.next (chain m old c.args.region) + 1))
more g c =
    let m = c.args.map in
    let ws = g.W.Words.words c.args.words.now in
    let old = contents m ws in
    let mid = contents m (g.W.Words.words c.loop-next.words) in
    let new = contents m (g.W.Words.words c.correct_slot.new.words) in
    let slots : List ℕ = chain m old c.args.region in
    let count = c.args.plan.now.count in
    let at = at-slot c.loop-next.next c.in-Some.slot slots c.in-Some.is c.loop-next.invariant.at in
    let scratch : mid.scratch ≡ old.scratch = ap (λ (x : Contents). x.scratch) c.loop-next.invariant.corrected.frame in
    slot_done m (forward count (move_at old.scratch)) old mid c.args.region (walked c.loop-next.next slots) count (move_at old.scratch) c.requires.region c.requires.slots (length-heap m ws c.requires.sound.whole) at.0 c.loop-next.invariant.corrected new (forward count (move_at mid.scratch)) c.in-Some.slot.0 (ap (λ (s : List ℕ). forward count (move_at s)) scratch) (sym at.1) c.correct_slot.ensures.outside c.correct_slot.ensures.inside

pub next_slot-next-requires-clause-sets : goal.next_slot-next-requires-clause-sets
next_slot-next-requires-clause-sets g c = subst (SetsHold c.args.map) (sym (more g (goal.at.next_slot-next-requires-clause-sets g c).After-correct_slot).frame) c.requires.slots.sets

pub next_slot-next-requires-clause-filed : goal.next_slot-next-requires-clause-filed
next_slot-next-requires-clause-filed g c =
    let m = c.args.map in
    let old = contents m (g.W.Words.words c.args.words.now) in
    let here : Contains (chain m old c.args.region) c.in-Some.slot.0 = found c.loop-next.next c.in-Some.slot (chain m old c.args.region) c.in-Some.is c.loop-next.invariant.at in
    (c.args.region, c.requires.region, subst (λ (x : Contents). Contains (chain m x c.args.region) c.in-Some.slot.0) (sym (more g (goal.at.next_slot-next-requires-clause-filed g c).After-correct_slot).frame) here)

-- the walk a slot further
next : (g : given.Over) (c : After-next_slot-next g) → chain c.args.map (contents c.args.map (g.W.Words.words c.correct_slot.new.words)) c.args.region ≡ chain c.args.map (contents c.args.map (g.W.Words.words c.args.words.now)) c.args.region → (let slots : List ℕ = chain c.args.map (contents c.args.map (g.W.Words.words c.args.words.now)) c.args.region in let k : ℕ = walked c.loop-next.next slots + 1 in MatchOption c.next_slot-next.result (k ≡ length slots) (λ (b : Addr). (k < length slots) × (get_or slots k 0 ≡ b.0)))
next g c same =
    let m = c.args.map in
    let old = contents m (g.W.Words.words c.args.words.now) in
    let slots : List ℕ = chain m old c.args.region in
    goes-on c.loop-next.next c.next_slot-next.result c.in-Some.slot slots _ c.in-Some.is c.loop-next.invariant.at same (c.next_slot-next.ensures.next c.args.region c.requires.region)

pub loop-next-smaller : goal.loop-next-smaller
loop-next-smaller g c =
    let m = c.args.map in
    let slots : List ℕ = chain m (contents m (g.W.Words.words c.args.words.now)) c.args.region in
    let once : AllPairs (λ (x y : ℕ). x ≢ y) slots = c.requires.slots.sets.once c.args.region c.requires.region in
    let at = at-slot c.loop-next.next c.in-Some.slot slots c.in-Some.is c.loop-next.invariant.at in
    let same = ap (λ (x : Contents). chain m x c.args.region) (more g (goal.at.loop-next-smaller g c).After-correct_slot).frame in
    omega (arith, comes-to c.next_slot-next.result slots (walked c.loop-next.next slots + 1) once (next g c same), at.0)

pub loop-next-preserved : goal.loop-next-preserved
loop-next-preserved g c =
    let m = c.args.map in
    let old = contents m (g.W.Words.words c.args.words.now) in
    let new = contents m (g.W.Words.words c.correct_slot.new.words) in
    let slots : List ℕ = chain m old c.args.region in
    let count = c.args.plan.now.count in
    let moves = move_at old.scratch in
    let f = forward count moves in
    let once : AllPairs (λ (x y : ℕ). x ≢ y) slots = c.requires.slots.sets.once c.args.region c.requires.region in
    let k : ℕ = walked c.loop-next.next slots in
    let at = at-slot c.loop-next.next c.in-Some.slot slots c.in-Some.is c.loop-next.invariant.at in
    let done = more g (goal.at.loop-next-preserved g c).After-correct_slot in
    let told = next g c (ap (λ (x : Contents). chain m x c.args.region) done.frame) in
    let to : walked c.next_slot-next.result slots ≡ k + 1 = comes-to c.next_slot-next.result slots (k + 1) once told in
    record {
      sound = rw c.next_slot-next.ensures.words c.correct_slot.ensures.sound;
      base = c.next_slot-next.ensures.base ∙ (c.correct_slot.ensures.base ∙ c.loop-next.invariant.base);
      reads = omega (arith, c.next_slot-next.ensures.reads, c.correct_slot.ensures.reads, c.loop-next.invariant.reads, to);
      at = stands-at c.next_slot-next.result slots (k + 1) once told;
      in_heap = c.next_slot-next.ensures.in_heap;
      corrected = rw c.next_slot-next.ensures.words (subst (λ n. SlotsCorrected m f old new c.args.region n) (sym to) done);
      plan = rw c.next_slot-next.ensures.words (numbered_outside m f old new c.args.region (k + 1) count moves c.requires.slots (omega (arith, at.0)) done c.requires.plan);
    }

pub returns-clause-corrected : goal.returns-clause-corrected
returns-clause-corrected g c =
    let m = c.args.map in
    let old = contents m (g.W.Words.words c.args.words.now) in
    let new = contents m (g.W.Words.words c.loop-next.words) in
    let end = at-end c.loop-next.next (chain m old c.args.region) c.in_default.is c.loop-next.invariant.at in
    subst (λ n. SlotsCorrected m (forward c.args.plan.now.count (move_at old.scratch)) old new c.args.region n) end c.loop-next.invariant.corrected

pub returns-clause-reads : goal.returns-clause-reads
returns-clause-reads g c =
    let m = c.args.map in
    let end = at-end c.loop-next.next (chain m (contents m (g.W.Words.words c.args.words.now)) c.args.region) c.in_default.is c.loop-next.invariant.at in
    omega (arith, c.loop-next.invariant.reads, end)
