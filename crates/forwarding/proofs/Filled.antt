-- The pages that a slide fills.
use Rattle.std.proofs.Common.{◌≡◌, ◌⊎◌, ℕ, zero, suc, ◌+◌, ◌*◌, ◌/◌, ◌≤◌, ◌<◌, true, List, ap, subst, arith}
use Rattle.std.specs.Prelude.{◌==◌}
use Rattle.std.proofs.lemmas.Bool.{cases_eq, cases_lt, eq-eqb}
use Rattle.std.proofs.Math.Logic.{⊎_elim}
use Rattle.heap_words.specs.declared.map.Areas.{Areas}
use Rattle.heap_words.specs.Map.{page_words}
use Rattle.yak_model.specs.Plans.{Move}
use Rattle.relocation.specs.Slide.{GoesBehind, GoesOn, IsFirstPage, IsPageOf, brought}

-- a page of the space between the first one and that of an object holds one of the objects up to it
pub page_holds : (m : Areas) (slid : ℕ) (table : List (List ℕ)) (count : ℕ) (size at : ℕ → ℕ) → (0 < count → (q : ℕ) × IsFirstPage slid table 0 q × (at 0 ≡ page_words m * q)) → ((k : ℕ) → k + 1 < count → GoesBehind m (at k) (size k) (at (k + 1)) (size (k + 1)) ⊎ GoesOn m slid table (at k) (size k) (at (k + 1)) (size (k + 1))) → ((k : ℕ) → k < count → 1 ≤ size k) → (k p : ℕ) → k < count → IsPageOf slid table p → p ≤ at k / page_words m → (j : ℕ) × (j < count) × (at j / page_words m ≡ p)
page_holds m slid table count size at begins follows some zero p lt own le =
    let w = begins lt in
    ⊎_elim
    (λ (before : p < w.0). absurd (w.1.none_between p (omega arith) before own))
    (λ (beyond : w.0 ≤ p). let place = w.2 in (0, lt, omega (arith, place, beyond, le)))
    (cases_lt p w.0)
page_holds m slid table count size at begins follows some (suc k) p lt own le =
    let more : k + 1 ≡ suc k = omega arith in
    let next : k + 1 < count = omega (arith, lt) in
    let at_next : at (k + 1) ≡ at (suc k) = ap at more in
    ⊎_elim
    (λ (beyond : at k / page_words m < p). ⊎_elim
    (λ (g : GoesBehind m (at k) (size k) (at (k + 1)) (size (k + 1))).
    absurd (let one = some (k + 1) next in let fits = g.0 in let place = g.1 in omega (arith, one, fits, place, at_next, le, beyond)))
    (λ (g : GoesOn m slid table (at k) (size k) (at (k + 1)) (size (k + 1))).
    let w = g.1 in
    ⊎_elim
    (λ (less : p < w.0). absurd (w.1.none_between p (omega (arith, beyond)) less own))
    (λ (least : w.0 ≤ p). let place = w.2 in (suc k, lt, omega (arith, place, at_next, least, le)))
    (cases_lt p w.0))
    (follows k next))
    (λ (before : p ≤ at k / page_words m). page_holds m slid table count size at begins follows some k p (omega (arith, lt)) own before)
    (cases_lt (at k / page_words m) p)

-- where an object came, there are words
pub some_brought : (m : Areas) (heap : List ℕ) (count : ℕ) (moves : ℕ → Move) (k p : ℕ) → k < count → (moves k).new / page_words m ≡ p → 1 ≤ brought m heap count moves p
unfolding brought
some_brought m heap zero moves k p lt e = absurd (omega (arith, lt))
some_brought m heap (suc n) moves k p lt e = ⊎_elim
    (λ (last : k ≡ n).
    let test : ((moves n).new / page_words m == p) ≡ true = eq-eqb ((moves n).new / page_words m) p (subst (λ i. (moves i).new / page_words m ≡ p) last e) in
    rw test (omega arith))
    (λ (other : k ≡ n → ⊥).
    let before = some_brought m heap n moves k p (omega (arith, lt, other)) e in
    omega (arith, before))
    (cases_eq k n)
