-- Words with the same groups.
use Rattle.std.proofs.Common.{zero, suc, ◌≡◌, ℕ, ◌+◌, ◌*◌, ◌^◌, ◌/◌, ◌%◌, ◌<◌, ◌≤◌, List, length, get_or, arith, subst, inl, inr}
use Rattle.yak_model.specs.declared.TheConstants.{BYTE_VALUES, GROUP_BYTES}
use Rattle.std.proofs.lemmas.Grind.{same_number_lists}
use Rattle.std.proofs.Math.Nat.{pow-le-pow_right}
use Rattle.std.proofs.lemmas.Bool.{cases_lt}
use Rattle.yak_model.specs.Tables.{AreBytes, digits, group, groups}

pub power_bound : (i : ℕ) → i ≤ 6 → BYTE_VALUES ^ i ≤ BYTE_VALUES ^ 6
power_bound i h = let pos : 0 < BYTE_VALUES = omega arith in pow-le-pow_right pos h

both_equal : (a b c d : ℕ) → b < BYTE_VALUES → d < BYTE_VALUES → a * BYTE_VALUES + b ≡ c * BYTE_VALUES + d → (a ≡ c) × (b ≡ d)
both_equal a b c d hb hd e = (omega (arith, hb, hd, e), omega (arith, hb, hd, e))

digits_equal : (xs ys : List ℕ) → AreBytes xs → AreBytes ys → (s n : ℕ) → digits xs s n ≡ digits ys s n → (k : ℕ) → k < n → get_or xs (s + k) 0 ≡ get_or ys (s + k) 0
digits_equal xs ys bx by s zero e k h = absurd (omega (arith, h))
digits_equal xs ys bx by s (suc n) e k h =
    let both = both_equal (digits xs s n) (get_or xs (s + n) 0) (digits ys s n) (get_or ys (s + n) 0) (bx (s + n)) (by (s + n)) e in
    elim (cases_lt k n) [
      | inl lt ↦ digits_equal xs ys bx by s n both.0 k lt
      | inr past ↦ let same : n ≡ k = omega (arith, h, past) in subst (λ j. get_or xs (s + j) 0 ≡ get_or ys (s + j) 0) same both.1
    ]

pub equal_words : (xs ys : List ℕ) → AreBytes xs → AreBytes ys → length xs ≡ length ys → ((i : ℕ) → i < groups (length xs) → group xs i ≡ group ys i) → xs ≡ ys
unfolding group
equal_words xs ys bx by size same =
    same_number_lists xs ys size (λ k h.
    let i : ℕ = k / GROUP_BYTES in
    let place : GROUP_BYTES * i + k % GROUP_BYTES ≡ k = omega arith in
    let inside : k % GROUP_BYTES < GROUP_BYTES = omega arith in
    let bound : i < groups (length xs) = omega (arith, h) in
    subst (λ j. get_or xs j 0 ≡ get_or ys j 0) place (digits_equal xs ys bx by (GROUP_BYTES * i) GROUP_BYTES (same i bound) (k % GROUP_BYTES) inside))
