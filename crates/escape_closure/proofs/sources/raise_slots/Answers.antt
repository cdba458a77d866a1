use Rattle.std.proofs.Math.Logic.{∥∥₁_map}
use Rattle.std.proofs.Common.{◌≡◌, ◌≢◌, ◌<◌, ◌+◌, ℕ, List, Option, length, ap, sym, subst, arith, ◌∙◌, below_more, get_or}
use Rattle.std.specs.List.{AllPairs, Contains}
use Rattle.std.specs.Option.{MatchOption}
use Rattle.object_layout.specs.declared.values.Addr.{Addr}
use Rattle.heap_words.specs.Map.{heap_length}
use Rattle.heap_words.specs.Contents.{contents}
use Rattle.epoch_lattice.specs.Lattice.{space_index}
use Rattle.remember_sets.specs.Filed.{chain}
use Rattle.escape_closure.specs.Raising.{AreSlotsPaid, IsSlotPaid}
use Rattle.escape_closure.proofs.Owes.{stays}
use Rattle.escape_closure.proofs.Fields.{then_on}
use Rattle.escape_closure.proofs.Outside.{chain-then, chain_now, sets-held, sets-then, slot_still}
use Rattle.escape_closure.proofs.Walked.{at-end, at-slot, begins, comes-to, found, goes-on, stands-at, walked}
use Rattle.escape_closure.proofs.sources.raise_slots.Goals as goal

pub first_slot-next-requires-clause-sets : goal.first_slot-next-requires-clause-sets
first_slot-next-requires-clause-sets g c = sets-held _ _ _ _ c.requires.some

pub raise_slot-tally-requires-clause-within : goal.raise_slot-tally-requires-clause-within
raise_slot-tally-requires-clause-within g c = subst (λ (x : Option Addr). MatchOption x (Unit {0}) (λ (a : Addr). a.0 < heap_length c.args.map)) c.in-Some.is c.loop-next.invariant.in_heap

pub raise_slot-tally-requires-clause-some : goal.raise_slot-tally-requires-clause-some
raise_slot-tally-requires-clause-some g c =
    ∥∥₁_map c.requires.some (λ q.
    let m = c.args.map in
    let was = contents m (g.W.Words.words c.args.words.now) in
    let here : Contains (chain m was c.args.region) c.in-Some.slot.0 = found c.loop-next.next c.in-Some.slot (chain m was c.args.region) c.in-Some.is c.loop-next.invariant.at in
    let filed : Contains (chain m q.0.laid.before c.args.region) c.in-Some.slot.0 = subst (λ (l : List ℕ). Contains l c.in-Some.slot.0) (chain_now m q.0 was c.args.tally c.args.region q.2) here in
    (q.0, ap space_index q.1 ∙ sym c.index_of-index.ensures.index, (c.loop-next.invariant.raising q.0 q.1 q.2 q.3).0.raising, q.3, (c.args.region, c.requires.region, filed)))

pub next_slot-next-requires-clause-sets : goal.next_slot-next-requires-clause-sets
next_slot-next-requires-clause-sets g c =
    let m = c.args.map in
    let was = contents m (g.W.Words.words c.args.words.now) in
    sets-then m c.args.region was _ c.args.tally _ c.requires.some (λ e index rz recorded.
    let now = c.loop-next.invariant.raising e index rz recorded in
    let here : Contains (chain m was c.args.region) c.in-Some.slot.0 = found c.loop-next.next c.in-Some.slot (chain m was c.args.region) c.in-Some.is c.loop-next.invariant.at in
    let filed : Contains (chain m e.laid.before c.args.region) c.in-Some.slot.0 = subst (λ (l : List ℕ). Contains l c.in-Some.slot.0) (chain_now m e was c.args.tally c.args.region rz) here in
    (c.raise_slot-tally.ensures.raising e (ap space_index index ∙ sym c.index_of-index.ensures.index) now.0.raising recorded (c.args.region, c.requires.region, filed)).0.raising)

pub next_slot-next-requires-clause-filed : goal.next_slot-next-requires-clause-filed
next_slot-next-requires-clause-filed g c =
    let m = c.args.map in
    let was = contents m (g.W.Words.words c.args.words.now) in
    let here : Contains (chain m was c.args.region) c.in-Some.slot.0 = found c.loop-next.next c.in-Some.slot (chain m was c.args.region) c.in-Some.is c.loop-next.invariant.at in
    let same = chain-then m c.args.region was _ c.args.tally _ c.requires.some (λ e index rz recorded.
    let now = c.loop-next.invariant.raising e index rz recorded in
    let filed : Contains (chain m e.laid.before c.args.region) c.in-Some.slot.0 = subst (λ (l : List ℕ). Contains l c.in-Some.slot.0) (chain_now m e was c.args.tally c.args.region rz) here in
    (c.raise_slot-tally.ensures.raising e (ap space_index index ∙ sym c.index_of-index.ensures.index) now.0.raising recorded (c.args.region, c.requires.region, filed)).0.raising) in
    (c.args.region, c.requires.region, subst (λ (l : List ℕ). Contains l c.in-Some.slot.0) (sym same) here)

pub loop-next-init : goal.loop-next-init
loop-next-init g c =
    let m = c.args.map in
    let was = contents m (g.W.Words.words c.args.words.now) in
    let slots : List ℕ = chain m was c.args.region in
    let once : AllPairs (λ (x y : ℕ). x ≢ y) slots = (sets-held m c.args.region was c.args.tally c.requires.some).once c.args.region c.requires.region in
    let told = begins c.first_slot-next.result slots c.first_slot-next.ensures.first in
    let none : walked c.first_slot-next.result slots ≡ 0 = comes-to c.first_slot-next.result slots 0 once told in
    record {
      sound = rw c.first_slot-next.ensures.words c.requires.sound;
      base = c.first_slot-next.ensures.base;
      reads = omega (arith, c.first_slot-next.ensures.reads);
      at = stands-at c.first_slot-next.result slots 0 once told;
      in_heap = c.first_slot-next.ensures.in_heap;
      raising = λ e index rz recorded. rw c.first_slot-next.ensures.words (stays _ e _ _ rz, λ j lt. absurd (omega (arith, lt, none)));
    }

pub loop-next-smaller : goal.loop-next-smaller
loop-next-smaller g c =
    let m = c.args.map in
    let was = contents m (g.W.Words.words c.args.words.now) in
    let slots : List ℕ = chain m was c.args.region in
    let here : Contains slots c.in-Some.slot.0 = found c.loop-next.next c.in-Some.slot slots c.in-Some.is c.loop-next.invariant.at in
    let same = chain-then m c.args.region was _ c.args.tally _ c.requires.some (λ e index rz recorded.
    let now = c.loop-next.invariant.raising e index rz recorded in
    let filed : Contains (chain m e.laid.before c.args.region) c.in-Some.slot.0 = subst (λ (l : List ℕ). Contains l c.in-Some.slot.0) (chain_now m e was c.args.tally c.args.region rz) here in
    (c.raise_slot-tally.ensures.raising e (ap space_index index ∙ sym c.index_of-index.ensures.index) now.0.raising recorded (c.args.region, c.requires.region, filed)).0.raising) in
    let once : AllPairs (λ (x y : ℕ). x ≢ y) slots = (sets-held m c.args.region was c.args.tally c.requires.some).once c.args.region c.requires.region in
    let told = goes-on c.loop-next.next c.next_slot-next.result c.in-Some.slot slots _ c.in-Some.is c.loop-next.invariant.at same (c.next_slot-next.ensures.next c.args.region c.requires.region) in
    let at = at-slot c.loop-next.next c.in-Some.slot slots c.in-Some.is c.loop-next.invariant.at in
    omega (arith, comes-to c.next_slot-next.result slots (walked c.loop-next.next slots + 1) once told, at.0)

pub loop-next-preserved : goal.loop-next-preserved
loop-next-preserved g c =
    let m = c.args.map in
    let was = contents m (g.W.Words.words c.args.words.now) in
    let mid = contents m (g.W.Words.words c.loop-next.words) in
    let new = contents m (g.W.Words.words c.raise_slot-tally.new.words) in
    let slots : List ℕ = chain m was c.args.region in
    let here : Contains slots c.in-Some.slot.0 = found c.loop-next.next c.in-Some.slot slots c.in-Some.is c.loop-next.invariant.at in
    let same = chain-then m c.args.region was _ c.args.tally _ c.requires.some (λ e index rz recorded.
    let now = c.loop-next.invariant.raising e index rz recorded in
    let filed : Contains (chain m e.laid.before c.args.region) c.in-Some.slot.0 = subst (λ (l : List ℕ). Contains l c.in-Some.slot.0) (chain_now m e was c.args.tally c.args.region rz) here in
    (c.raise_slot-tally.ensures.raising e (ap space_index index ∙ sym c.index_of-index.ensures.index) now.0.raising recorded (c.args.region, c.requires.region, filed)).0.raising) in
    let once : AllPairs (λ (x y : ℕ). x ≢ y) slots = (sets-held m c.args.region was c.args.tally c.requires.some).once c.args.region c.requires.region in
    let k : ℕ = walked c.loop-next.next slots in
    let told = goes-on c.loop-next.next c.next_slot-next.result c.in-Some.slot slots _ c.in-Some.is c.loop-next.invariant.at same (c.next_slot-next.ensures.next c.args.region c.requires.region) in
    let at = at-slot c.loop-next.next c.in-Some.slot slots c.in-Some.is c.loop-next.invariant.at in
    let next : walked c.next_slot-next.result slots ≡ k + 1 = comes-to c.next_slot-next.result slots (k + 1) once told in
    record {
      sound = rw c.next_slot-next.ensures.words c.raise_slot-tally.ensures.sound;
      base = c.next_slot-next.ensures.base ∙ (c.raise_slot-tally.ensures.base ∙ c.loop-next.invariant.base);
      reads = omega (arith, c.next_slot-next.ensures.reads, c.raise_slot-tally.ensures.reads, c.loop-next.invariant.reads, next);
      at = stands-at c.next_slot-next.result slots (k + 1) once told;
      in_heap = c.next_slot-next.ensures.in_heap;
      raising = λ e index rz recorded.
          let now = c.loop-next.invariant.raising e index rz recorded in
          let chains : slots ≡ chain m e.laid.before e.region = chain_now m e was c.args.tally c.args.region rz ∙ ap (chain m e.laid.before) (sym index) in
          let filed : Contains (chain m e.laid.before c.args.region) c.in-Some.slot.0 = subst (λ (l : List ℕ). Contains l c.in-Some.slot.0) (chain_now m e was c.args.tally c.args.region rz) here in
          let step = c.raise_slot-tally.ensures.raising e (ap space_index index ∙ sym c.index_of-index.ensures.index) now.0.raising recorded (c.args.region, c.requires.region, filed) in
          let slot : c.in-Some.slot.0 ≡ get_or (chain m e.laid.before e.region) k 0 = sym at.1 ∙ ap (λ (l : List ℕ). get_or l k 0) chains in
          let paid : IsSlotPaid e new (get_or (chain m e.laid.before e.region) k 0) = subst (IsSlotPaid e new) slot step.1 in
          let all : AreSlotsPaid m e new (k + 1) = below_more (λ i. IsSlotPaid e new (get_or (chain m e.laid.before e.region) i 0)) k (λ i lt. slot_still e mid new (get_or (chain m e.laid.before e.region) i 0) step.0.rises (now.1 i lt)) paid in
          rw c.next_slot-next.ensures.words (then_on m e was mid new _ _ now.0 step.0, subst (AreSlotsPaid m e new) (sym next) all);
    }

pub returns-clause-raising : goal.returns-clause-raising
returns-clause-raising g c e index rz recorded =
    let m = c.args.map in
    let was = contents m (g.W.Words.words c.args.words.now) in
    let new = contents m (g.W.Words.words c.loop-next.words) in
    let slots : List ℕ = chain m was c.args.region in
    let now = c.loop-next.invariant.raising e index rz recorded in
    let end : walked c.loop-next.next slots ≡ length slots = at-end c.loop-next.next slots c.in_default.is c.loop-next.invariant.at in
    let n : walked c.loop-next.next slots ≡ length (chain m e.laid.before e.region) = end ∙ ap (λ (l : List ℕ). length l) (chain_now m e was c.args.tally c.args.region rz) ∙ ap (λ y. length (chain m e.laid.before y)) (sym index) in
    (now.0, subst (AreSlotsPaid m e new) n now.1, omega (arith, n, c.loop-next.invariant.reads))
