-- How many names a list of different names has.
use Rattle.std.proofs.Common.{◌≡◌, ◌≢◌, ℕ, ◌+◌, ◌≤◌, ◌<◌, Bool, true, false, refl, sym, ap, subst, ◌∙◌, arith, inl, inr, zero, suc}
use Rattle.std.proofs.lemmas.Bool.{cases_eq}
use Rattle.std.specs.FinSet as names
use Rattle.object_layout.specs.declared.names.Name.{Name}
use Rattle.yak_model.specs.Spaces.{Counts}
use Rattle.yak_model.proofs.Names.{name_cmp-IsAntisymmetric, name_cmp_total}
use Rattle.escape_closure.proofs.Counted.{counts_as, counts_more, counts_none}

both_ways : (p q : Bool) → (p ≡ true → q ≡ true) → (q ≡ true → p ≡ true) → p ≡ q
both_ways true q f g = sym (f refl)
both_ways false true f g = g refl
both_ways false false f g = refl

-- a collection has one count
pub count_unique : (collection : Name → Type 0) (a b : ℕ) → Counts collection a → Counts collection b → a ≡ b
count_unique collection a b p q =
    let same : p.0 ≡ q.0 = names.same_set name_cmp_total name_cmp-IsAntisymmetric _ _ (λ n. both_ways _ _ (λ h. (q.1 n).1 ((p.1 n).0 h)) (λ h. (p.1 n).1 ((q.1 n).0 h))) in
    p.2 ∙ ap names.len same ∙ sym q.2

abbrev among_first : (ℕ → Name) → ℕ → Name → Type 0
among_first name k n = (j : ℕ) × (j < k) × (name j ≡ n)

counts_first : (name : ℕ → Name) (count : ℕ) → ((j k : ℕ) → j < k → k < count → name j ≢ name k) → (k : ℕ) → k ≤ count → Counts (among_first name k) k
counts_first name count different zero le = counts_none (among_first name 0) (λ n i. omega (arith, i.1))
counts_first name count different (suc k) le =
    let before = counts_first name count different k (omega (arith, le)) in
    let more : Counts (among_first name (suc k)) (k + 1) = counts_more (among_first name k) (among_first name (suc k)) k (name k) before
    (λ i. different i.0 k i.1 (omega (arith, le)) i.2)
    (k, omega arith, refl)
    (λ n i. (i.0, omega (arith, i.1), i.2))
    (λ n ne i. elim (cases_eq i.0 k) [ inl e ↦ absurd (ne (sym i.2 ∙ ap name e)) | inr apart ↦ (i.0, omega (arith, i.1, apart), i.2) ])
    in
    subst (Counts (among_first name (suc k))) (omega arith) more

-- names by number, all different, are as many as the collection that they make up
pub counts_listed : (collection : Name → Type 0) (name : ℕ → Name) (count : ℕ) → ((j k : ℕ) → j < k → k < count → name j ≢ name k) → ((k : ℕ) → k < count → collection (name k)) → ((n : Name) → collection n → (k : ℕ) × (k < count) × (name k ≡ n)) → Counts collection count
counts_listed collection name count different each all = counts_as (among_first name count) collection count (counts_first name count different count (omega arith)) (λ n i. subst collection i.2 (each i.0 i.1)) all
