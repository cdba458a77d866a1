-- The moves of a lawful plan can be made, whatever plan of which state it is.
use Rattle.std.proofs.Props.{props}
use Rattle.std.proofs.Math.Logic.{∥∥₁_elim, ∥∥₁_map, ⊎_elim}
use Rattle.std.proofs.Common.{ℕ, ◌+◌, ◌-◌, ◌/◌, ◌%◌, ◌≤◌, ◌<◌, List, get_or, arith, inl, inr}
use Rattle.std.proofs.lemmas.Bool.{cases_lt}
use Rattle.object_layout.specs.declared.TheConstants.{HEADER_BASE, MAX_FIELDS, MAX_SPACE, SPACE_UNIT}
use Rattle.heap_words.specs.declared.map.Areas.{Areas}
use Rattle.heap_words.specs.Map.{IsAreas}
use Rattle.epoch_lattice.specs.declared.Space.{Space}
use Rattle.epoch_lattice.specs.declared.Space.TheVariants.{Control, Region}
use Rattle.epoch_lattice.specs.declared.TheConstants.{MAX_DEPTH}
use Rattle.epoch_lattice.specs.Lattice.{IsValid}
use Rattle.yak_model.specs.Plans.{AreApart, Move, forwarded}
use Rattle.relocation.specs.Moves.{AllMovable, HasHeader, IsReadyPlan, size_at}
use Rattle.relocation.proofs.Lawful.{lawful-movable}

-- the header at an address, as the word tells it
abbrev pub IsTold : List ℕ → ℕ → Type 0
IsTold heap a = ((get_or heap a 0 - HEADER_BASE) % SPACE_UNIT ≤ MAX_FIELDS) × ((get_or heap a 0 - HEADER_BASE) / SPACE_UNIT ≤ MAX_SPACE) × (HEADER_BASE ≤ get_or heap a 0)

pub told_of : (heap : List ℕ) (a : ℕ) → HasHeader heap a → IsTold heap a
told_of heap a (h, ok, e) = (omega (arith, ok.0, e), omega (arith, ok.0, ok.1, e), omega (arith, e))

pub of_told : (heap : List ℕ) (a : ℕ) → IsTold heap a → HasHeader heap a
of_told heap a w = (record { fields = (get_or heap a 0 - HEADER_BASE) % SPACE_UNIT; space = (get_or heap a 0 - HEADER_BASE) / SPACE_UNIT }, (w.0, w.1), omega (arith, w.2))

valid_prop : (x : Space) → IsProp (IsValid MAX_DEPTH x)
valid_prop Control = hlevel props
valid_prop (Region t d) = hlevel props

apart_told : (a n b k : ℕ) → ∥ AreApart a n b k ∥₁ → AreApart a n b k
apart_told a n b k some = ⊎_elim
    (λ (less : b < a + n). inr (∥∥₁_elim some (hlevel props) (λ q. ⊎_elim (λ (h : a + n ≤ b). absurd (omega (arith, h, less))) (λ (h : b + k ≤ a). h) q)))
    (λ (le : a + n ≤ b). inl le)
    (cases_lt b (a + n))

movable_told : (m : Areas) (heap : List ℕ) (count : ℕ) (moves : ℕ → Move) → ∥ AllMovable m heap count moves ∥₁ → AllMovable m heap count moves
movable_told m heap count moves some = record {
  each = λ k lt. record {
    header = of_told heap (moves k).old (∥∥₁_elim some (hlevel props) (λ q. told_of heap (moves k).old (q.each k lt).header));
    space = ∥∥₁_elim some (valid_prop (moves k).space) (λ q. (q.each k lt).space);
    old = ∥∥₁_elim some (hlevel props) (λ q. (q.each k lt).old);
    new = ∥∥₁_elim some (hlevel props) (λ q. (q.each k lt).new);
  };
  apart = λ j k less lt. apart_told (moves j).new (size_at heap (moves j).old) (moves k).new (size_at heap (moves k).old) (∥∥₁_map some (λ q. q.apart j k less lt));
  later = λ j k less lt. apart_told (moves j).new (size_at heap (moves j).old) (moves k).old (size_at heap (moves k).old) (∥∥₁_map some (λ q. q.later j k less lt));
}

-- the moves of a plan that is ready can be made
pub ready-movable : (m : Areas) (heap : List ℕ) (count : ℕ) (moves : ℕ → Move) → IsAreas m → ∥ IsReadyPlan m heap count moves ∥₁ → AllMovable m heap count moves
ready-movable m heap count moves areas some = movable_told m heap count moves (∥∥₁_map some (λ q. lawful-movable m heap count moves q.state q.places (forwarded count moves q.places) q.work q.dropped areas q.lawful q.holds))
