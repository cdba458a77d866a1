-- The bytes of a group.
use Rattle.std.proofs.Common.{zero, suc, ◌≡◌, ◌≢◌, ◌⊎◌, inl, inr, ℕ, ◌+◌, ◌*◌, ◌/◌, ◌%◌, ◌<◌, ◌≤◌, List, [], ◌∷◌, get_or, set, take, length, refl, ◌∙◌, ap, sym, subst, arith, get_or-set_same, get_or-set_other}
use Rattle.yak_model.specs.declared.TheConstants.{BYTE_VALUES, GROUP_BYTES}
use Rattle.std.proofs.lemmas.Bool.{cases_lt}
use Rattle.std.proofs.lemmas.List.{ext_get_or, get_or-take}
use Rattle.yak_model.specs.Tables.{AreBytes, digits, group}

digits_div : (word : List ℕ) (start n : ℕ) → AreBytes word → digits word start (suc n) / BYTE_VALUES ≡ digits word start n
digits_div word start n bytes = let b = bytes (start + n) in omega (arith, b)

pub digits_over : (word : List ℕ) (start n m : ℕ) → AreBytes word → m ≡ n + 1 → digits word start m / BYTE_VALUES ≡ digits word start n
digits_over word start n m bytes e = let q : suc n ≡ m = omega (arith, e) in subst (λ k. digits word start k / BYTE_VALUES ≡ digits word start n) q (digits_div word start n bytes)

digits_mod : (word : List ℕ) (start n : ℕ) → AreBytes word → digits word start (suc n) % BYTE_VALUES ≡ get_or word (start + n) 0
digits_mod word start n bytes = let b = bytes (start + n) in omega (arith, b)

pub digits_last : (word : List ℕ) (start n m : ℕ) → AreBytes word → m ≡ n + 1 → digits word start m % BYTE_VALUES ≡ get_or word (start + n) 0
digits_last word start n m bytes e = let q : suc n ≡ m = omega (arith, e) in subst (λ k. digits word start k % BYTE_VALUES ≡ get_or word (start + n) 0) q (digits_mod word start n bytes)

pub length_front : (n : ℕ) (xs : List ℕ) → n ≤ length xs → length (take n xs) ≡ n
length_front zero [] h = refl
length_front zero (x ∷ xs) h = refl
length_front (suc n) [] h = absurd (omega (arith, h))
length_front (suc n) (x ∷ xs) h = ap suc (length_front n xs (omega (arith, h)))

-- the front of a buffer that has the bytes of a word
pub same_front : (word buffer : List ℕ) (n : ℕ) → n ≡ length word → n ≤ length buffer → ((j : ℕ) → j < n → get_or buffer j 0 ≡ get_or word j 0) → take n buffer ≡ word
same_front word buffer n size long same =
    let taken : length (take n buffer) ≡ n = length_front n buffer long in
    ext_get_or 0 (take n buffer) word (taken ∙ size) (λ i h. let below : i < n = omega (arith, h, taken) in get_or-take n buffer i 0 below ∙ same i below)

pub group_digits : (word : List ℕ) (i : ℕ) → group word i ≡ digits word (GROUP_BYTES * i) GROUP_BYTES
unfolding group
group_digits word i = refl

pub next_group : (i : ℕ) → (i + 1) % GROUP_BYTES ≢ 0 → i / GROUP_BYTES ≡ (i + 1) / GROUP_BYTES
next_group i ne = elim (zero_cases ((i + 1) % GROUP_BYTES)) [ inl e ↦ absurd (ne e) | inr some ↦ omega (arith, some) ]
  where
    zero_cases : (n : ℕ) → (n ≡ 0) ⊎ (0 < n)
    zero_cases zero = inl refl
    zero_cases (suc n) = inr (omega arith)

-- one more byte of the word in the buffer
pub front_more : (word buffer : List ℕ) (n b : ℕ) → n < length buffer → ((j : ℕ) → j < n → get_or buffer j 0 ≡ get_or word j 0) → b ≡ get_or word n 0 → (j : ℕ) → j < n + 1 → get_or (set buffer n b) j 0 ≡ get_or word j 0
front_more word buffer n b within old new j h = elim (cases_lt j n) [
  | inl lt ↦ get_or-set_other buffer n j b 0 (λ e. omega (arith, lt, e)) ∙ old j lt
  | inr past ↦ let e : j ≡ n = omega (arith, past, h) in ap (λ k. get_or (set buffer n b) k 0) e ∙ get_or-set_same buffer n b 0 within ∙ new ∙ ap (λ k. get_or word k 0) (sym e)
]
