-- Which slots are fields of moved objects, and which lie outside a space.
use Rattle.std.proofs.Common.{◌≡◌, ◌≢◌, ◌↔◌, ℕ, zero, suc, ◌+◌, ◌≤◌, ◌<◌, Bool, not, eqb, List, length, sym, ap, subst, ◌∙◌, arith}
use Rattle.std.specs.List.{Contains, range_with_len}
use Rattle.std.proofs.Math.Logic.{⊎_elim}
use Rattle.std.proofs.lemmas.Bool.{cases_eq, eq-eqb, eqb-false, ne_eqb, not-true}
use Rattle.std.proofs.lemmas.List.Sums.{count_by-le-length, length-filter}
use Rattle.std.proofs.lemmas.List.FromFn.{get_or-range_with_len, length-range_with_len}
use Rattle.std.proofs.lemmas.List.Elements.{Contains-append_cases, Contains-append_left, Contains-append_right}
use Rattle.object_layout.specs.declared.TheConstants.{OBJECT_WORDS}
use Rattle.heap_words.specs.declared.map.Areas.{Areas}
use Rattle.heap_words.specs.Contents.{Contents}
use Rattle.epoch_lattice.specs.declared.Space.{Space}
use Rattle.epoch_lattice.specs.Lattice.{space_index}
use Rattle.yak_model.specs.Plans.{Move}
use Rattle.yak_model.proofs.Chains.{contains-none}
use Rattle.relocation.specs.Moves.{fields_at}
use Rattle.remember_sets.specs.Filed.{outside, page_word}
use Rattle.remember_sets.proofs.Filtered.{contains-filter, filter-contains}
use Rattle.forwarding.specs.Slots.{slots_at, slots_brought}

-- a slot is a field of the object at the new place of one of the first moves
pub record IsBrought (heap : List ℕ) (count : ℕ) (moves : ℕ → Move) (a : ℕ) : Type 0 where
  pub move : ℕ
  pub among : move < count
  pub field : ℕ
  pub within : field < fields_at heap (moves move).new
  pub place : a ≡ (moves move).new + OBJECT_WORDS + field

in_range : (a n i : ℕ) → Contains (range_with_len a n) i → (f : ℕ) × (f < n) × (i ≡ a + f)
in_range a n i h =
    let lt : h.0 < n = omega (arith, h.1, length-range_with_len a n) in
    (h.0, lt, sym h.2 ∙ get_or-range_with_len a n h.0 i lt)

range_has : (a n f : ℕ) → f < n → Contains (range_with_len a n) (a + f)
range_has a n f lt = (f, omega (arith, lt, length-range_with_len a n), get_or-range_with_len a n f (a + f) lt)

pub brought-tells : (heap : List ℕ) (count : ℕ) (moves : ℕ → Move) (a : ℕ) → Contains (slots_brought heap count moves) a → IsBrought heap count moves a
unfolding slots_brought
brought-tells heap zero moves a h = absurd (contains-none a h)
brought-tells heap (suc k) moves a h =
    ⊎_elim
    (λ (d : Contains (slots_brought heap k moves) a). let b = brought-tells heap k moves a d in record { move = b.move; among = omega (arith, b.among); field = b.field; within = b.within; place = b.place })
    (λ (d : Contains (slots_at heap (moves k).new) a). let b = in_range ((moves k).new + OBJECT_WORDS) (fields_at heap (moves k).new) a d in record { move = k; among = omega arith; field = b.0; within = b.1; place = b.2 })
    (Contains-append_cases (slots_brought heap k moves) (slots_at heap (moves k).new) a h)

brought-at : (heap : List ℕ) (count : ℕ) (moves : ℕ → Move) (k f : ℕ) → k < count → f < fields_at heap (moves k).new → Contains (slots_brought heap count moves) ((moves k).new + OBJECT_WORDS + f)
unfolding slots_brought
brought-at heap zero moves k f lt within = absurd (omega (arith, lt))
brought-at heap (suc n) moves k f lt within =
    let a : ℕ = (moves k).new + OBJECT_WORDS + f in
    ⊎_elim
    (λ (e : k ≡ n). Contains-append_right (slots_brought heap n moves) (slots_at heap (moves n).new) a (subst (λ j. Contains (slots_at heap (moves j).new) a) e (range_has ((moves k).new + OBJECT_WORDS) (fields_at heap (moves k).new) f within)))
    (λ (ne : k ≢ n). Contains-append_left (slots_brought heap n moves) (slots_at heap (moves n).new) a (brought-at heap n moves k f (omega (arith, lt, ne)) within))
    (cases_eq k n)

pub brought-since : (heap : List ℕ) (count : ℕ) (moves : ℕ → Move) (a : ℕ) → IsBrought heap count moves a → Contains (slots_brought heap count moves) a
brought-since heap count moves a b = subst (Contains (slots_brought heap count moves)) (sym b.place) (brought-at heap count moves b.move b.field b.among b.within)

-- the slots outside a space
pub outside-has : (m : Areas) (c : Contents) (x : Space) (slots : List ℕ) (a : ℕ) → Contains (outside m c x slots) a ↔ (Contains slots a × (page_word m c a ≢ space_index x + 1))
outside-has m c x slots a =
    let test : ℕ → Bool = λ b. not (eqb (page_word m c b) (space_index x + 1)) in (
      λ h. let w = filter-contains test slots a h in (w.0, eqb-false (page_word m c a) (space_index x + 1) (not-true (eqb (page_word m c a) (space_index x + 1)) w.1)),
      λ w. contains-filter test slots a w.0 (ap not (ne_eqb (page_word m c a) (space_index x + 1) w.1)),
    )

pub few_outside : (m : Areas) (c : Contents) (x : Space) (slots : List ℕ) → length (outside m c x slots) ≤ length slots
few_outside m c x slots = omega (arith, length-filter (λ (a : ℕ). not (eqb (page_word m c a) (space_index x + 1))) slots, count_by-le-length (λ (a : ℕ). not (eqb (page_word m c a) (space_index x + 1))) slots)

-- two tests that go together are the same
pub same_test : (x y w : ℕ) → (x ≡ w → y ≡ w) → (y ≡ w → x ≡ w) → eqb x w ≡ eqb y w
same_test x y w to from = ⊎_elim
    (λ (e : x ≡ w). eq-eqb x w e ∙ sym (eq-eqb y w (to e)))
    (λ (ne : x ≢ w). ne_eqb x w ne ∙ sym (ne_eqb y w (λ e. ne (from e))))
    (cases_eq x w)
