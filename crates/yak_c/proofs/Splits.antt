-- Memory as the two numbers and the words after them.
use Rattle.std.proofs.Common.{zero, suc, ◌≡◌, ℕ, ◌-◌, ◌≤◌, List, [], ◌∷◌, ◌++◌, length, slice_index, slice_set, take, drop, refl, ◌∙◌, ap, arith}
use Rattle.std.proofs.lemmas.List.{append-nil}
use borrow.Rule.Slice.PartMut.{put_mid}

whole : (xs : List ℕ) (n : ℕ) → length xs ≤ n → take n xs ≡ xs
whole [] zero h = refl
whole [] (suc n) h = refl
whole (x ∷ xs) zero h = absurd (omega (arith, h))
whole (x ∷ xs) (suc n) h = ap (λ ys. x ∷ ys) (whole xs n (omega (arith, h)))

nothing : (xs : List ℕ) (n : ℕ) → length xs ≤ n → drop n xs ≡ []
nothing [] zero h = refl
nothing [] (suc n) h = refl
nothing (x ∷ xs) zero h = absurd (omega (arith, h))
nothing (x ∷ xs) (suc n) h = nothing xs n (omega (arith, h))

-- the words that are lent
pub lent_is : (memory : List ℕ) → take (length memory - 2) (drop 2 memory) ≡ drop 2 memory
lent_is [] = refl
lent_is (x ∷ []) = refl
lent_is (x ∷ y ∷ words) = whole words (length (x ∷ y ∷ words) - 2) (omega arith)

-- memory after other words were left in that part
pub left_is : (memory words : List ℕ) → 2 ≤ length memory → put_mid 2 (length memory - 2) memory words ≡ slice_index memory 0 ∷ slice_index memory 1 ∷ words
left_is [] words h = absurd (omega (arith, h))
left_is (x ∷ []) words h = absurd (omega (arith, h))
left_is (x ∷ y ∷ rest) words h =
    ap (λ zs. x ∷ y ∷ (words ++ zs)) (nothing rest (length (x ∷ y ∷ rest) - 2) (omega arith))
    ∙ ap (λ zs. x ∷ y ∷ zs) (append-nil words)

-- memory after both numbers and the words were written
pub opened_is : (memory words : List ℕ) (p t : ℕ) → 2 ≤ length memory → put_mid 2 (length (slice_set (slice_set memory 0 p) 1 t) - 2) (slice_set (slice_set memory 0 p) 1 t) words ≡ p ∷ t ∷ words
opened_is [] words p t h = absurd (omega (arith, h))
opened_is (x ∷ []) words p t h = absurd (omega (arith, h))
opened_is (x ∷ y ∷ rest) words p t h = left_is (p ∷ t ∷ rest) words (omega arith)
