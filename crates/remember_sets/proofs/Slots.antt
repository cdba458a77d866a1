-- Lists of slots: where one stands, and the list without it or with another at its place.
use Rattle.std.proofs.Common.{◌≡◌, ◌≢◌, ◌⊎◌, inl, inr, ℕ, zero, suc, ◌+◌, ◌<◌, not, eqb, List, [], ◌∷◌, ◌++◌, length, refl, sym, ap, subst, ◌∙◌, arith}
use Rattle.std.specs.List.{AllPairs, Contains}
use Rattle.std.proofs.Math.Logic.{⊎_elim}
use Rattle.std.proofs.lemmas.Bool.{cases_eq, cond-true, cond-false, eq-eqb, ne_eqb}
use Rattle.std.proofs.lemmas.List.{get_or_default}
use Rattle.std.proofs.lemmas.List.Elements.{Contains-append_left, Contains-append_right}
use Rattle.yak_model.proofs.Chains.{contains-cases, contains-here, contains-none, contains-there}
use Rattle.remember_sets.specs.Filed.{moved_slot, without_slot}

-- the numbers of a list are apart
pub pairs-head : (a : ℕ) (l : List ℕ) → AllPairs (λ (x y : ℕ). x ≢ y) (a ∷ l) → Contains l a → ⊥
pairs-head a l h (k, lt, e) = h 0 (suc k) a (omega arith) (omega (arith, lt)) (sym e)

pub pairs-tail : (a : ℕ) (l : List ℕ) → AllPairs (λ (x y : ℕ). x ≢ y) (a ∷ l) → AllPairs (λ (x y : ℕ). x ≢ y) l
pairs-tail a l h i j d lt in_list = h (suc i) (suc j) d (omega (arith, lt)) (omega (arith, in_list))

pub pairs-left : (l k : List ℕ) → AllPairs (λ (x y : ℕ). x ≢ y) (l ++ k) → AllPairs (λ (x y : ℕ). x ≢ y) l
pairs-left [] k h i j d lt in_list = absurd (omega arith)
pairs-left (a ∷ l) k h zero zero d lt in_list = absurd (omega arith)
pairs-left (a ∷ l) k h (suc i) zero d lt in_list = absurd (omega arith)
pairs-left (a ∷ l) k h zero (suc j) d lt in_list =
    let lt' : j < length l = omega (arith, in_list) in
    λ e. pairs-head a (l ++ k) h (Contains-append_left l k a (j, lt', get_or_default l j a d lt' ∙ sym e))
pairs-left (a ∷ l) k h (suc i) (suc j) d lt in_list = pairs-left l k (pairs-tail a (l ++ k) h) i j d (omega (arith, lt)) (omega (arith, in_list))

pub pairs-right : (l k : List ℕ) → AllPairs (λ (x y : ℕ). x ≢ y) (l ++ k) → AllPairs (λ (x y : ℕ). x ≢ y) k
pairs-right [] k h = h
pairs-right (a ∷ l) k h = pairs-right l k (pairs-tail a (l ++ k) h)

-- a number in the middle stands on no other place
pub not-before : (l k : List ℕ) (a : ℕ) → AllPairs (λ (x y : ℕ). x ≢ y) (l ++ a ∷ k) → Contains l a → ⊥
not-before [] k a h c = contains-none a c
not-before (b ∷ l) k a h c =
    ⊎_elim (λ (e : b ≡ a). pairs-head b (l ++ a ∷ k) h (Contains-append_right l (a ∷ k) b (subst (λ x. Contains (a ∷ k) x) (sym e) (contains-here a k))))
    (λ (d : Contains l a). not-before l k a (pairs-tail b (l ++ a ∷ k) h) d)
    (contains-cases b l a c)

pub not-behind : (l k : List ℕ) (a : ℕ) → AllPairs (λ (x y : ℕ). x ≢ y) (l ++ a ∷ k) → Contains k a → ⊥
not-behind l k a h = pairs-head a k (pairs-right l (a ∷ k) h)

-- the lists before and behind a number that stands in a list
pub split-at : (a : ℕ) (l : List ℕ) → Contains l a → (before : List ℕ) × (behind : List ℕ) × (l ≡ before ++ a ∷ behind)
split-at a [] c = absurd (contains-none a c)
split-at a (x ∷ l) c =
    ⊎_elim (λ (e : x ≡ a). ([], l, ap (λ y. y ∷ l) e))
    (λ (d : Contains l a). (let p = split-at a l d in (x ∷ p.0, p.1, ap (λ (y : List ℕ). x ∷ y) p.2)))
    (contains-cases x l a c)

-- a list without a number
pub without-same : (a : ℕ) (l : List ℕ) → without_slot a (a ∷ l) ≡ without_slot a l
without-same a l = cond-false (not (eqb a a)) (a ∷ without_slot a l) (without_slot a l) (ap not (eq-eqb a a refl))

pub without-other : (a b : ℕ) (l : List ℕ) → b ≢ a → without_slot a (b ∷ l) ≡ b ∷ without_slot a l
without-other a b l ne = cond-true (not (eqb b a)) (b ∷ without_slot a l) (without_slot a l) (ap not (ne_eqb b a ne))

pub without-none : (a : ℕ) (l : List ℕ) → (Contains l a → ⊥) → without_slot a l ≡ l
without-none a [] h = refl
without-none a (b ∷ l) h =
    without-other a b l (λ e. h (subst (λ x. Contains (b ∷ l) x) e (contains-here b l))) ∙ ap (λ (y : List ℕ). b ∷ y) (without-none a l (λ c. h (contains-there b l a c)))

pub without-middle : (a : ℕ) (l k : List ℕ) → (Contains l a → ⊥) → (Contains k a → ⊥) → without_slot a (l ++ a ∷ k) ≡ l ++ k
without-middle a [] k h g = without-same a k ∙ without-none a k g
without-middle a (b ∷ l) k h g =
    without-other a b (l ++ a ∷ k) (λ e. h (subst (λ x. Contains (b ∷ l) x) e (contains-here b l))) ∙ ap (λ (y : List ℕ). b ∷ y) (without-middle a l k (λ c. h (contains-there b l a c)) g)

pub contains-without : (a b : ℕ) (l : List ℕ) → b ≢ a → Contains l b → Contains (without_slot a l) b
contains-without a b [] ne c = absurd (contains-none b c)
contains-without a b (x ∷ l) ne c =
    ⊎_elim (λ (e : x ≡ a).
    let d : Contains l b = ⊎_elim (λ (f : x ≡ b). absurd (ne (sym f ∙ e))) (λ d. d) (contains-cases x l b c) in
    subst (λ y. Contains (without_slot a (y ∷ l)) b) (sym e) (subst (λ (y : List ℕ). Contains y b) (sym (without-same a l)) (contains-without a b l ne d)))
    (λ (n : x ≡ a → ⊥).
    subst (λ (y : List ℕ). Contains y b) (sym (without-other a x l n))
    (⊎_elim (λ (f : x ≡ b). subst (λ y. Contains (x ∷ without_slot a l) y) f (contains-here x (without_slot a l)))
    (λ (d : Contains l b). contains-there x (without_slot a l) b (contains-without a b l ne d))
    (contains-cases x l b c)))
    (cases_eq x a)

pub without-contains : (a b : ℕ) (l : List ℕ) → Contains (without_slot a l) b → (b ≢ a) × Contains l b
without-contains a b [] c = absurd (contains-none b c)
without-contains a b (x ∷ l) c =
    ⊎_elim (λ (e : x ≡ a).
    let d : Contains (without_slot a l) b = subst (λ (y : List ℕ). Contains y b) (ap (λ y. without_slot a (y ∷ l)) e ∙ without-same a l) c in
    let r = without-contains a b l d in
    (r.0, contains-there x l b r.1))
    (λ (n : x ≡ a → ⊥).
    ⊎_elim (λ (f : x ≡ b). (λ (g : b ≡ a). n (f ∙ g), subst (λ y. Contains (x ∷ l) y) f (contains-here x l)))
    (λ (d : Contains (without_slot a l) b). (let r = without-contains a b l d in (r.0, contains-there x l b r.1)))
    (contains-cases x (without_slot a l) b (subst (λ (y : List ℕ). Contains y b) (without-other a x l n) c)))
    (cases_eq x a)

-- a list with another number at the place of one
pub moved-none : (a b : ℕ) (l : List ℕ) → (Contains l a → ⊥) → moved_slot a b l ≡ l
moved-none a b [] h = refl
moved-none a b (x ∷ l) h =
    ap (λ y. y ∷ moved_slot a b l) (cond-false (eqb x a) b x (ne_eqb x a (λ e. h (subst (λ y. Contains (x ∷ l) y) e (contains-here x l))))) ∙ ap (λ (y : List ℕ). x ∷ y) (moved-none a b l (λ c. h (contains-there x l a c)))

pub moved-middle : (a b : ℕ) (l k : List ℕ) → (Contains l a → ⊥) → (Contains k a → ⊥) → moved_slot a b (l ++ a ∷ k) ≡ l ++ b ∷ k
moved-middle a b [] k h g = ap (λ y. y ∷ moved_slot a b k) (cond-true (eqb a a) b a (eq-eqb a a refl)) ∙ ap (λ (y : List ℕ). b ∷ y) (moved-none a b k g)
moved-middle a b (x ∷ l) k h g =
    ap (λ y. y ∷ moved_slot a b (l ++ a ∷ k)) (cond-false (eqb x a) b x (ne_eqb x a (λ e. h (subst (λ y. Contains (x ∷ l) y) e (contains-here x l))))) ∙ ap (λ (y : List ℕ). x ∷ y) (moved-middle a b l k (λ c. h (contains-there x l a c)) g)

pub moved-same : (a : ℕ) (l : List ℕ) → moved_slot a a l ≡ l
moved-same a [] = refl
moved-same a (x ∷ l) =
    ⊎_elim (λ (e : x ≡ a). ap (λ y. y ∷ moved_slot a a l) (cond-true (eqb x a) a x (eq-eqb x a e) ∙ sym e) ∙ ap (λ (y : List ℕ). x ∷ y) (moved-same a l))
    (λ (ne : x ≡ a → ⊥). ap (λ y. y ∷ moved_slot a a l) (cond-false (eqb x a) a x (ne_eqb x a ne)) ∙ ap (λ (y : List ℕ). x ∷ y) (moved-same a l))
    (cases_eq x a)

-- which slots a list has after one was moved
pub moved-has : (a b i : ℕ) (l : List ℕ) → Contains (moved_slot a b l) i → ((i ≡ b) × Contains l a) ⊎ ((i ≢ a) × Contains l i)
moved-has a b i [] c = absurd (contains-none i c)
moved-has a b i (x ∷ l) c =
    ⊎_elim (λ (e : x ≡ a).
    let here : moved_slot a b (x ∷ l) ≡ b ∷ moved_slot a b l = ap (λ y. y ∷ moved_slot a b l) (cond-true (eqb x a) b x (eq-eqb x a e)) in
    ⊎_elim (λ (f : b ≡ i). inl (sym f, subst (Contains (x ∷ l)) e (contains-here x l))) (λ (d : Contains (moved_slot a b l) i). later a b i x l (moved-has a b i l d)) (contains-cases b (moved_slot a b l) i (subst (λ (y : List ℕ). Contains y i) here c)))
    (λ (ne : x ≡ a → ⊥).
    let here : moved_slot a b (x ∷ l) ≡ x ∷ moved_slot a b l = ap (λ y. y ∷ moved_slot a b l) (cond-false (eqb x a) b x (ne_eqb x a ne)) in
    ⊎_elim (λ (f : x ≡ i). inr (λ (z : i ≡ a). ne (f ∙ z), subst (Contains (x ∷ l)) f (contains-here x l))) (λ (d : Contains (moved_slot a b l) i). later a b i x l (moved-has a b i l d)) (contains-cases x (moved_slot a b l) i (subst (λ (y : List ℕ). Contains y i) here c)))
    (cases_eq x a)
  where
    later : (a b i x : ℕ) (l : List ℕ) → ((i ≡ b) × Contains l a) ⊎ ((i ≢ a) × Contains l i) → ((i ≡ b) × Contains (x ∷ l) a) ⊎ ((i ≢ a) × Contains (x ∷ l) i)
    later a b i x l h = ⊎_elim (λ (p : (i ≡ b) × Contains l a). inl (p.0, contains-there x l a p.1)) (λ (p : (i ≢ a) × Contains l i). inr (p.0, contains-there x l i p.1)) h
