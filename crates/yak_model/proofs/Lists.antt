-- References in lists of values.
use Rattle.std.proofs.Common.{◌≡◌, ◌⊎◌, ℕ, zero, suc, List, [], ◌∷◌, get_or, set, take, replicate, refl, ◌∙◌, arith, inl, inr}
use Rattle.std.proofs.lemmas.List.{get_or_default}
use Rattle.std.specs.List.{Contains}
use Rattle.object_layout.specs.declared.names.Name.{Name}
use Rattle.yak_model.specs.declared.datum.Datum.{Datum}
use Rattle.yak_model.specs.declared.datum.Datum.TheVariants as datum

pub slot_on_list : (xs : List Datum) (i : ℕ) (n : Name) → get_or xs i datum.Null ≡ datum.Object n → Contains xs (datum.Object n)
slot_on_list [] i n h = cc
slot_on_list (x ∷ xs) zero n h = (0, omega arith, h)
slot_on_list (x ∷ xs) (suc i) n h =
    let c : Contains xs (datum.Object n) = slot_on_list xs i n h in
    (suc c.0, omega (arith, c.1), c.2)

pub set_cases : {A : Type 0} (xs : List A) (i j : ℕ) (x d : A) → (get_or (set xs i x) j d ≡ x) ⊎ (get_or (set xs i x) j d ≡ get_or xs j d)
set_cases [] i j x d = inr refl
set_cases (y ∷ ys) zero zero x d = inl refl
set_cases (y ∷ ys) zero (suc j) x d = inr refl
set_cases (y ∷ ys) (suc i) zero x d = inr refl
set_cases (y ∷ ys) (suc i) (suc j) x d = set_cases ys i j x d

pub contains_cons : {A : Type 0} (y : A) (ys : List A) (x : A) → Contains ys x → Contains (y ∷ ys) x
contains_cons y ys x c = (suc c.0, omega (arith, c.1), c.2)

pub contains_cases : {A : Type 0} (y : A) (ys : List A) (x : A) → Contains (y ∷ ys) x → (y ≡ x) ⊎ Contains ys x
contains_cases y ys x (zero, lt, e) = inl e
contains_cases y ys x (suc k, lt, e) = inr (k, omega (arith, lt), e)

pub contains_set : {A : Type 0} (xs : List A) (i : ℕ) (v x : A) → Contains (set xs i v) x → Contains xs x ⊎ (v ≡ x)
contains_set [] i v x c = inl c
contains_set (y ∷ ys) zero v x c =
    elim (contains_cases v ys x c) [ inl e ↦ inr e | inr d ↦ inl (contains_cons y ys x d) ]
contains_set (y ∷ ys) (suc i) v x c =
    elim (contains_cases y (set ys i v) x c) [
      | inl e ↦ inl (0, omega arith, e)
      | inr d ↦ elim (contains_set ys i v x d) [ inl k ↦ inl (contains_cons y ys x k) | inr e ↦ inr e ]
    ]

pub contains_take : {A : Type 0} (n : ℕ) (xs : List A) (x : A) → Contains (take n xs) x → Contains xs x
contains_take zero xs x c = absurd (omega (arith, c.1))
contains_take (suc n) [] x c = c
contains_take (suc n) (y ∷ ys) x c =
    elim (contains_cases y (take n ys) x c) [ inl e ↦ (0, omega arith, e) | inr d ↦ contains_cons y ys x (contains_take n ys x d) ]

pub contains_replicate : {A : Type 0} (n : ℕ) (v x : A) → Contains (replicate n v) x → v ≡ x
contains_replicate zero v x c = absurd (omega (arith, c.1))
contains_replicate (suc n) v x c = elim (contains_cases v (replicate n v) x c) [ inl e ↦ e | inr d ↦ contains_replicate n v x d ]

pub replicate_cases : {A : Type 0} (n i : ℕ) (x d : A) → (get_or (replicate n x) i d ≡ x) ⊎ (get_or (replicate n x) i d ≡ d)
replicate_cases zero i x d = inr refl
replicate_cases (suc n) zero x d = inl refl
replicate_cases (suc n) (suc i) x d = replicate_cases n i x d

pub contains_at : (fields : List Datum) (name : Name) (c : Contains fields (datum.Object name)) → get_or fields c.0 datum.Null ≡ datum.Object name
contains_at fields name c = get_or_default fields c.0 datum.Null (datum.Object name) c.1 ∙ c.2
