use Rattle.std.proofs.Common.{◌≡◌, ℕ, ◌+◌, ◌-◌, ◌*◌, ◌≤◌, ◌<◌, true, false, List, zero, suc, refl, arith}
use Rattle.std.proofs.lemmas.Bool.{cases_eq, eq-eqb, ne_eqb}
use Rattle.std.proofs.Math.Logic.{⊎_elim}
use Rattle.std.specs.Prelude.{◌==◌}
use Rattle.heap_words.specs.declared.map.Areas.{Areas}
use Rattle.heap_words.specs.Map.{page_words}
use Rattle.yak_model.specs.Placed.{space_word}
use Rattle.relocation.specs.Slide.{IsPageOf, pages_before}

-- no page of the space lies between
pub pages_before-gap : (slid : ℕ) (table : List (List ℕ)) (a b : ℕ) → a ≤ b → ((p : ℕ) → a ≤ p → p < b → IsPageOf slid table p → ⊥) → pages_before slid table b ≡ pages_before slid table a
unfolding pages_before
pages_before-gap slid table a zero le none = let e : a ≡ 0 = omega arith in rw e refl
pages_before-gap slid table a (suc b) le none = ⊎_elim
    (λ (e : a ≡ suc b). rw e refl)
    (λ (ne : a ≡ suc b → ⊥).
    let le' : a ≤ b = omega arith in
    let test : (space_word table b == slid) ≡ false = ne_eqb (space_word table b) slid (none b le' (omega arith)) in
    rw test (omega (arith, pages_before-gap slid table a b le' (λ p low high. none p low (omega arith)))))
    (cases_eq a (suc b))

pages_before-step : (slid : ℕ) (table : List (List ℕ)) (p : ℕ) → IsPageOf slid table p → pages_before slid table (suc p) ≡ pages_before slid table p + 1
unfolding pages_before
pages_before-step slid table p h = let test : (space_word table p == slid) ≡ true = eq-eqb (space_word table p) slid h in rw test refl

pub pages_before-at : (slid : ℕ) (table : List (List ℕ)) (p : ℕ) → IsPageOf slid table p → pages_before slid table (p + 1) ≡ pages_before slid table p + 1
pages_before-at slid table p h = let e : p + 1 ≡ suc p = omega arith in rw e (pages_before-step slid table p h)

-- the pages stay half full where an object does not fit and the next page is taken
pub dense-taken : (m : Areas) (slid : ℕ) (table : List (List ℕ)) (next q w room size : ℕ) → page_words m * pages_before slid table next ≤ 2 * w + room → room < size → size ≤ page_words m → next ≤ q → ((p : ℕ) → next ≤ p → p < q → IsPageOf slid table p → ⊥) → IsPageOf slid table q → page_words m * pages_before slid table (q + 1) ≤ 2 * (w + size) + (page_words m - size)
dense-taken m slid table next q w room size h less small le none control = omega (arith, pages_before-gap slid table next q le none, pages_before-at slid table q control)
