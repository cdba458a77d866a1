-- The order of names, and finite maps from names.
use Rattle.std.proofs.Common.{◌≡◌, ◌≢◌, ◌⊎◌, ℕ, List, ◌∷◌, cond, true, false, ◌&&◌, nat_eq, refl, ◌∙◌, arith, ap, sym, inl, inr, Some, true≢false}
use Rattle.std.proofs.lemmas.Bool.Decides.{nat_tests}
use Rattle.std.specs.declared.cmp.Ordering.{Ordering}
use Rattle.std.specs.declared.cmp.Ordering.TheVariants.{Less, Equal, Greater}
use Rattle.std.specs.Ordering.{nat_cmp, eq_by_cmp, is_eq, ordering_then}
use Rattle.std.specs.Cmp.{IsTotalOrder, nat_cmp_total, on_total, then_total, tied_itself}
use Rattle.std.specs.FinMap.{FinMap, find, get, insert, get-insert, IsAntisymmetric}
use Rattle.object_layout.specs.declared.names.Name.{Name}
use Rattle.yak_model.specs.Names.{name_cmp}

pub name_cmp_total : IsTotalOrder name_cmp
name_cmp_total = then_total (on_total (λ (n : Name). n.thread) nat_cmp_total) (on_total (λ (n : Name). n.serial) nat_cmp_total)

-- the numbers are equal where they tie
nat_tied : (x y : ℕ) → is_eq (nat_cmp x y) ≡ nat_eq y x
nat_tied x y = grind (arith, nat_tests)

both_tied : (a b : Ordering) → is_eq (ordering_then a b) ≡ (is_eq a && is_eq b)
both_tied Less b = refl
both_tied Equal b = refl
both_tied Greater b = refl

pub same_name_test : (q k : Name) → eq_by_cmp name_cmp q k ≡ (nat_eq k.thread q.thread && nat_eq k.serial q.serial)
same_name_test q k =
    both_tied (nat_cmp q.thread k.thread) (nat_cmp q.serial k.serial)
    ∙ (λ i. nat_tied q.thread k.thread i && nat_tied q.serial k.serial i)

left-equal : (a b c d : ℕ) → (nat_eq a b && nat_eq c d) ≡ true → b ≡ a
left-equal a b c d h = grind (arith, nat_tests)

right-equal : (a b c d : ℕ) → (nat_eq a b && nat_eq c d) ≡ true → d ≡ c
right-equal a b c d h = grind (arith, nat_tests)

-- names whose test holds are equal
pub same_name : (q k : Name) → (nat_eq k.thread q.thread && nat_eq k.serial q.serial) ≡ true → q ≡ k
same_name q k h =
    let t : q.thread ≡ k.thread = left-equal k.thread q.thread k.serial q.serial h in
    let s : q.serial ≡ k.serial = right-equal k.thread q.thread k.serial q.serial h in
    λ i. record { thread = t i; serial = s i }

pub name_cmp-IsAntisymmetric : IsAntisymmetric name_cmp
name_cmp-IsAntisymmetric x y h = same_name x y (sym (same_name_test x y) ∙ ap is_eq h)

-- two names are equal or they are not
pub same_or_other : (a b : Name) → (a ≡ b) ⊎ (a ≢ b)
same_or_other a b =
    elim (nat_eq b.thread a.thread && nat_eq b.serial a.serial) as (λ t. (nat_eq b.thread a.thread && nat_eq b.serial a.serial) ≡ t → (a ≡ b) ⊎ (a ≢ b)) [
      | true ↦ λ h. inl (same_name a b h)
      | false ↦ λ h. inr (λ e. true≢false (sym (ap is_eq (tied_itself name_cmp_total a)) ∙ ap (λ c. is_eq (name_cmp a c)) e ∙ same_name_test a b ∙ h))
    ] refl

pub get-same : {X : Type 0} (m : FinMap name_cmp X) (k : Name) (v : X) → get (insert m k v) k ≡ Some v
get-same m k v =
    get-insert name_cmp_total m k v k
    ∙ ap (λ r. cond (is_eq r) (Some v) (get m k)) (tied_itself name_cmp_total k)

pub get-other : {X : Type 0} (m : FinMap name_cmp X) (k : Name) (v : X) (q : Name) → q ≢ k → get (insert m k v) q ≡ get m q
get-other m k v q n =
    get-insert name_cmp_total m k v q
    ∙ elim (eq_by_cmp name_cmp q k) as (λ t. eq_by_cmp name_cmp q k ≡ t → cond t (Some v) (get m q) ≡ get m q) [
      | true ↦ λ h. absurd (n (same_name q k (sym (same_name_test q k) ∙ h)))
      | false ↦ λ h. refl
    ] refl

-- what a scan finds
pub find_same : {X : Type 0} (q k : Name) (v : X) (es : List (Name × X)) → q ≡ k → find name_cmp q ((k, v) ∷ es) ≡ Some v
find_same q k v es e =
    ap (λ r. cond (is_eq r) (Some v) (find name_cmp q es)) (ap (λ n. name_cmp q n) (sym e) ∙ tied_itself name_cmp_total q)

pub find_other : {X : Type 0} (q k : Name) (v : X) (es : List (Name × X)) → q ≢ k → find name_cmp q ((k, v) ∷ es) ≡ find name_cmp q es
find_other q k v es n =
    elim (eq_by_cmp name_cmp q k) as (λ t. eq_by_cmp name_cmp q k ≡ t → cond t (Some v) (find name_cmp q es) ≡ find name_cmp q es) [
      | true ↦ λ h. absurd (n (same_name q k (sym (same_name_test q k) ∙ h)))
      | false ↦ λ h. refl
    ] refl

pub different : (q k : Name) → q ≢ k → eq_by_cmp name_cmp q k ≡ false
different q k n =
    elim (eq_by_cmp name_cmp q k) as (λ t. eq_by_cmp name_cmp q k ≡ t → t ≡ false) [
      | true ↦ λ h. absurd (n (same_name q k (sym (same_name_test q k) ∙ h)))
      | false ↦ λ h. refl
    ] refl
