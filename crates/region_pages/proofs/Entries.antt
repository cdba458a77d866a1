-- The entries of the page table and the current pages after a write.
use Rattle.std.proofs.Common.{◌≡◌, ◌≢◌, ℕ, ◌-◌, ◌≤◌, ◌<◌, List, [], ◌∷◌, length, get_or, set, refl, sym, ap, ◌∙◌, arith, inl, inr, ◌⊎◌, ⊎_elim, get_or-set_same, get_or-set_other}
use Rattle.std.proofs.lemmas.Bool.{cases_eq, cases_lt}
use Rattle.std.proofs.lemmas.List.{set-set, set_past}
use Rattle.heap_words.specs.Cells.{row, row_set}
use Rattle.yak_model.specs.Placed.{space_word, used_mark}
use Rattle.yak_model.specs.Stands.{current}

two : (r : List ℕ) (a b : ℕ) → length r ≡ 2 → set (set r 0 a) 1 b ≡ a ∷ b ∷ []
two [] a b h = absurd (omega arith)
two (x ∷ []) a b h = absurd (omega arith)
two (x ∷ y ∷ []) a b h = refl
two (x ∷ y ∷ z ∷ r) a b h = absurd (omega arith)

-- both words of an entry written
pub entry-both : (table : List (List ℕ)) (p a b : ℕ) → p < length table → length (row table p) ≡ 2 → row_set (row_set table p 0 a) p 1 b ≡ set table p (a ∷ b ∷ [])
entry-both table p a b lt long =
    let e = get_or-set_same table p (set (row table p) 0 a) [] lt in
    set-set table p (set (row table p) 0 a) (set (row (row_set table p 0 a) p) 1 b) ∙ ap (λ (r : List ℕ). set table p (set r 1 b)) e ∙ ap (λ (r : List ℕ). set table p r) (two (row table p) a b long)

-- the entry that was written, and another
pub entry-same : (table : List (List ℕ)) (p : ℕ) (r : List ℕ) → p < length table → row (set table p r) p ≡ r
entry-same table p r lt = get_or-set_same table p r [] lt

pub entry-other : (table : List (List ℕ)) (p q : ℕ) (r : List ℕ) → q ≢ p → row (set table p r) q ≡ row table q
entry-other table p q r ne = get_or-set_other table p q r [] ne

-- a used mark written
pub space-with_used : (table : List (List ℕ)) (p q u : ℕ) → space_word (row_set table p 1 u) q ≡ space_word table q
space-with_used table p q u =
    ⊎_elim (λ (e : q ≡ p).
    let ne : 0 ≢ 1 = omega arith in
    ⊎_elim (λ (lt : p < length table). rw e (ap (λ (r : List ℕ). get_or r 0 0) (get_or-set_same table p (set (row table p) 1 u) [] lt) ∙ get_or-set_other (row table p) 1 0 u 0 ne))
    (λ (past : length table ≤ p). ap (λ (t : List (List ℕ)). space_word t q) (set_past table p (set (row table p) 1 u) past))
    (cases_lt p (length table)))
    (λ (ne : q ≢ p). ap (λ (r : List ℕ). get_or r 0 0) (get_or-set_other table p q (set (row table p) 1 u) [] ne))
    (cases_eq q p)

pub used-with_used : (table : List (List ℕ)) (p u : ℕ) → p < length table → length (row table p) ≡ 2 → used_mark (row_set table p 1 u) p ≡ u
used-with_used table p u lt long =
    let within : 1 < length (row table p) = omega arith in
    ap (λ (r : List ℕ). get_or r 1 0) (get_or-set_same table p (set (row table p) 1 u) [] lt) ∙ get_or-set_same (row table p) 1 u 0 within

pub used-with_used_other : (table : List (List ℕ)) (p q u : ℕ) → q ≢ p → used_mark (row_set table p 1 u) q ≡ used_mark table q
used-with_used_other table p q u ne = ap (λ (r : List ℕ). get_or r 1 0) (get_or-set_other table p q (set (row table p) 1 u) [] ne)

-- a current page written
pub current-same : (currents : List (List ℕ)) (t d v : ℕ) → t - 1 < length currents → d < length (row currents (t - 1)) → current (row_set currents (t - 1) d v) t d ≡ v
current-same currents t d v ht hd =
    ap (λ (r : List ℕ). get_or r d 0) (get_or-set_same currents (t - 1) (set (row currents (t - 1)) d v) [] ht) ∙ get_or-set_same (row currents (t - 1)) d v 0 hd

pub current-other_thread : (currents : List (List ℕ)) (t d u e v : ℕ) → u - 1 ≢ t - 1 → current (row_set currents (t - 1) d v) u e ≡ current currents u e
current-other_thread currents t d u e v ne = ap (λ (r : List ℕ). get_or r e 0) (get_or-set_other currents (t - 1) (u - 1) (set (row currents (t - 1)) d v) [] ne)

pub current-other_depth : (currents : List (List ℕ)) (t d e v : ℕ) → t - 1 < length currents → e ≢ d → current (row_set currents (t - 1) d v) t e ≡ current currents t e
current-other_depth currents t d e v ht ne = ap (λ (r : List ℕ). get_or r e 0) (get_or-set_same currents (t - 1) (set (row currents (t - 1)) d v) [] ht) ∙ get_or-set_other (row currents (t - 1)) d e v 0 ne

-- whether a current page is the one that was written
pub current-cases : (currents : List (List ℕ)) (t d u e v : ℕ) → 1 ≤ t → 1 ≤ u → t - 1 < length currents → d < length (row currents (t - 1)) → ((u ≡ t) × (e ≡ d) × (current (row_set currents (t - 1) d v) u e ≡ v)) ⊎ (((u ≡ t) × (e ≡ d) → ⊥) × (current (row_set currents (t - 1) d v) u e ≡ current currents u e))
current-cases currents t d u e v ht hu inside slot =
    ⊎_elim (λ (p : u ≡ t).
    ⊎_elim (λ (q : e ≡ d). inl (p, q, ap (λ (x : ℕ). current (row_set currents (t - 1) d v) x e) p ∙ ap (λ (x : ℕ). current (row_set currents (t - 1) d v) t x) q ∙ current-same currents t d v inside slot))
    (λ (ne : e ≢ d). inr (λ h. ne h.1, ap (λ (x : ℕ). current (row_set currents (t - 1) d v) x e) p ∙ current-other_depth currents t d e v inside ne ∙ ap (λ (x : ℕ). current currents x e) (sym p)))
    (cases_eq e d))
    (λ (ne : u ≢ t). let apart : u - 1 ≢ t - 1 = omega arith in inr (λ h. ne h.0, current-other_thread currents t d u e v apart))
    (cases_eq u t)
