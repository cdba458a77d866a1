use Rattle.std.proofs.Common.{◌≡◌, ◌⊎◌, ℕ, ◌+◌, ◌≤◌, ◌<◌, List, length, get_or, set, refl, sym, ap, ◌∙◌, arith, inl, inr, get_or-set_same, get_or-set_other}
use Rattle.std.proofs.lemmas.Bool.{cases_eq, cases_lt}
use Rattle.std.proofs.Math.Logic.{⊎_elim}
use Rattle.heap_words.specs.declared.map.Areas.{Areas}
use Rattle.yak_model.specs.Plans.{Move}
use Rattle.relocation.specs.Moves.{HasHeader, size_at, corrected_word}
use Rattle.relocation.proofs.Moving.{fields_at-same}
use Rattle.relocation.specs.Fields.{FieldsCorrected, MovesCorrected, LeadWithin, Lined}

pub fields-more : (f : ℕ → ℕ) (was now : List ℕ) (a n : ℕ) → FieldsCorrected f was now a n → 3 ≤ n → a + n < length now → FieldsCorrected f was (set now (a + n) (corrected_word f (get_or now (a + n) 0))) a (n + 1)
fields-more f was now a n h three within =
    let v : ℕ = corrected_word f (get_or now (a + n) 0) in
    let read : get_or now (a + n) 0 ≡ get_or was (a + n) 0 = h.outside (a + n) (inr (omega arith)) in
    record {
      inside = λ i low high. ⊎_elim
          (λ (e : i ≡ a + n). rw e (get_or-set_same now (a + n) v 0 within ∙ ap (corrected_word f) read))
          (λ (ne : i ≡ a + n → ⊥). get_or-set_other now (a + n) i v 0 ne ∙ h.inside i low (omega arith))
          (cases_eq i (a + n));
      outside = λ i out. ⊎_elim
          (λ (lt : i < a + 3). get_or-set_other now (a + n) i v 0 (λ e. omega arith) ∙ h.outside i (inl lt))
          (λ (le : a + (n + 1) ≤ i). get_or-set_other now (a + n) i v 0 (λ e. omega arith) ∙ h.outside i (inr (omega arith)))
          out;
    }

pub moves-none : (f : ℕ → ℕ) (was : List ℕ) (moves : ℕ → Move) → MovesCorrected f was was 0 moves
moves-none f was moves = record { fields = λ k i lt. absurd (omega arith); others = λ i h. refl }

-- the next object of a plan is as it was
pub next-same : (m : Areas) (f : ℕ → ℕ) (was now : List ℕ) (count k : ℕ) (moves : ℕ → Move) → Lined m was count moves → MovesCorrected f was now k moves → k < count → (i : ℕ) → (moves k).old ≤ i → get_or now i 0 ≡ get_or was i 0
next-same m f was now count k moves lined done lt i low = done.others i (λ j lj. inr (let o = lined.ordered j k lj lt in omega (arith, o)))

pub next-size : (m : Areas) (f : ℕ → ℕ) (was now : List ℕ) (count k : ℕ) (moves : ℕ → Move) → Lined m was count moves → MovesCorrected f was now k moves → k < count → size_at now (moves k).old ≡ size_at was (moves k).old
next-size m f was now count k moves lined done lt = ap (λ n. n + 3) (fields_at-same was now (moves k).old (next-same m f was now count k moves lined done lt (moves k).old (omega arith)))

pub next-header : (m : Areas) (f : ℕ → ℕ) (was now : List ℕ) (count k : ℕ) (moves : ℕ → Move) → Lined m was count moves → MovesCorrected f was now k moves → k < count → HasHeader now (moves k).old
next-header m f was now count k moves lined done lt = let h = lined.headers k lt in (h.0, h.1, next-same m f was now count k moves lined done lt (moves k).old (omega arith) ∙ h.2)

pub next-lead : (m : Areas) (f : ℕ → ℕ) (was now : List ℕ) (count k : ℕ) (moves : ℕ → Move) → Lined m was count moves → MovesCorrected f was now k moves → k < count → LeadWithin m now ((moves k).old + 3) ((moves k).old + size_at now (moves k).old)
next-lead m f was now count k moves lined done lt i b low high e =
    let size = next-size m f was now count k moves lined done lt in
    lined.lead k lt i b low (omega (arith, size)) (sym (next-same m f was now count k moves lined done lt i (omega arith)) ∙ e)

pub next-beside : (m : Areas) (f : ℕ → ℕ) (was now : List ℕ) (count k : ℕ) (moves : ℕ → Move) → Lined m was count moves → MovesCorrected f was now k moves → k < count → (j : ℕ) → j < count → ((moves j).old + 2 < (moves k).old + 3) ⊎ ((moves k).old + size_at now (moves k).old ≤ (moves j).old + 2)
next-beside m f was now count k moves lined done lt j lj =
    let size = next-size m f was now count k moves lined done lt in
    ⊎_elim
    (λ (less : j < k). inl (let o = lined.ordered j k less lt in omega (arith, o)))
    (λ (le : k ≤ j). ⊎_elim
    (λ (e : k ≡ j). inl (let q : (moves k).old ≡ (moves j).old = ap (λ i. (moves i).old) e in omega (arith, q)))
    (λ (ne : k ≡ j → ⊥). inr (let more : k < j = omega arith in let o = lined.ordered k j more lj in omega (arith, o, size)))
    (cases_eq k j))
    (cases_lt j k)

pub moves-more : (m : Areas) (f : ℕ → ℕ) (was now next : List ℕ) (count k : ℕ) (moves : ℕ → Move) → Lined m was count moves → MovesCorrected f was now k moves → k < count → FieldsCorrected f now next (moves k).old (size_at now (moves k).old) → MovesCorrected f was next (k + 1) moves
moves-more m f was now next count k moves lined done lt one =
    let size = next-size m f was now count k moves lined done lt in
    record {
      fields = λ j i lj low high. ⊎_elim
          (λ (e : j ≡ k).
          let q : (moves j).old ≡ (moves k).old = ap (λ x. (moves x).old) e in
          let z : size_at was (moves j).old ≡ size_at was (moves k).old = ap (size_at was) q in
          one.inside i (omega (arith, q)) (omega (arith, q, z, size)) ∙ ap (corrected_word f) (next-same m f was now count k moves lined done lt i (omega (arith, q))))
          (λ (ne : j ≡ k → ⊥).
          let less : j < k = omega arith in
          let o = lined.ordered j k less lt in
          one.outside i (inl (omega (arith, o))) ∙ done.fields j i less low high)
          (cases_eq j k);
      others = λ i h. one.outside i (⊎_elim (λ (low : i < (moves k).old + 3). inl low) (λ (high : (moves k).old + size_at was (moves k).old ≤ i). inr (omega (arith, size))) (h k (omega arith))) ∙ done.others i (λ j lj. h j (omega arith));
    }
