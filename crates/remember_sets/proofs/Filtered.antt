-- Which elements a filter keeps.
use Rattle.std.proofs.Common.{◌≡◌, ℕ, Bool, true, false, List, [], ◌∷◌, sym, ap, subst, ◌∙◌}
use Rattle.std.specs.List.{Contains, filter}
use Rattle.std.proofs.Math.Logic.{⊎_elim}
use Rattle.std.proofs.lemmas.Bool.{cases_Bool, cond-false, cond-true}
use Rattle.yak_model.proofs.Chains.{contains-cases, contains-here, contains-none, contains-there}

pub contains-filter : (p : ℕ → Bool) (l : List ℕ) (a : ℕ) → Contains l a → p a ≡ true → Contains (filter p l) a
contains-filter p [] a c t = absurd (contains-none a c)
contains-filter p (x ∷ l) a c t =
    ⊎_elim (λ (e : x ≡ a).
    let yes : p x ≡ true = ap p e ∙ t in
    subst (λ (k : List ℕ). Contains k a) (sym (cond-true (p x) (x ∷ filter p l) (filter p l) yes)) (subst (Contains (x ∷ filter p l)) e (contains-here x (filter p l))))
    (λ (d : Contains l a).
    ⊎_elim (λ (yes : p x ≡ true). subst (λ (k : List ℕ). Contains k a) (sym (cond-true (p x) (x ∷ filter p l) (filter p l) yes)) (contains-there x (filter p l) a (contains-filter p l a d t)))
    (λ (no : p x ≡ false). subst (λ (k : List ℕ). Contains k a) (sym (cond-false (p x) (x ∷ filter p l) (filter p l) no)) (contains-filter p l a d t))
    (cases_Bool (p x)))
    (contains-cases x l a c)

pub filter-contains : (p : ℕ → Bool) (l : List ℕ) (a : ℕ) → Contains (filter p l) a → Contains l a × (p a ≡ true)
filter-contains p [] a c = absurd (contains-none a c)
filter-contains p (x ∷ l) a c =
    ⊎_elim (λ (yes : p x ≡ true).
    ⊎_elim (λ (e : x ≡ a). (subst (Contains (x ∷ l)) e (contains-here x l), ap p (sym e) ∙ yes))
    (λ (d : Contains (filter p l) a). (let r = filter-contains p l a d in (contains-there x l a r.0, r.1)))
    (contains-cases x (filter p l) a (subst (λ (k : List ℕ). Contains k a) (cond-true (p x) (x ∷ filter p l) (filter p l) yes) c)))
    (λ (no : p x ≡ false). (let r = filter-contains p l a (subst (λ (k : List ℕ). Contains k a) (cond-false (p x) (x ∷ filter p l) (filter p l) no) c) in (contains-there x l a r.0, r.1)))
    (cases_Bool (p x))
