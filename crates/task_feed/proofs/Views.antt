-- Sums over the views of all passes, where one of them changes.
use Rattle.std.proofs.Common.{◌≡◌, ◌≢◌, ℕ, zero, suc, ◌+◌, ◌≤◌, List, [], ◌∷◌, ◌++◌, set, sum_by, refl, ap, sym, subst, ⊎_elim, arith}
use mathlib.Core.Option.{some, some-ne-none, some-injective}
use lib.ListN.{get_elem?}
use Rattle.std.proofs.lemmas.List.Sums.{sum_by-cons}
use Rattle.crossbeam_queue.proofs.Lists.{at_set, at_snoc}
use Rattle.task_feed.specs.Hands.{idle}
use Rattle.task_feed.specs.declared.hands.Hand.{Hand}

pub sum_set : (f : Hand → ℕ) (views : List Hand) (pass : ℕ) (v w : Hand) → get_elem? views pass ≡ some v → sum_by f (set views pass w) + f v ≡ sum_by f views + f w
sum_set f [] pass v w e = absurd (some-ne-none v (sym e))
sum_set f (x ∷ xs) zero v w e =
    let same = ap f (some-injective x v e) in omega (arith, sum_by-cons f w xs, sum_by-cons f x xs, same)
sum_set f (x ∷ xs) (suc k) v w e =
    omega (arith, sum_by-cons f x (set xs k w), sum_by-cons f x xs, sum_set f xs k v w e)

pub part_le : (f : Hand → ℕ) (views : List Hand) (pass : ℕ) (v : Hand) → get_elem? views pass ≡ some v → f v ≤ sum_by f views
part_le f [] pass v e = absurd (some-ne-none v (sym e))
part_le f (x ∷ xs) zero v e = let same = ap f (some-injective x v e) in omega (arith, sum_by-cons f x xs, same)
part_le f (x ∷ xs) (suc k) v e = omega (arith, sum_by-cons f x xs, part_le f xs k v e)

abbrev pub Each : (Hand → Type 0) → List Hand → Type 0
Each F views = (pass : ℕ) (v : Hand) → get_elem? views pass ≡ some v → F v

pub each_set : (F : Hand → Type 0) (views : List Hand) (pass : ℕ) (w : Hand) → F w → Each F views → Each F (set views pass w)
each_set F views pass w mine others j u e =
    ⊎_elim (λ (x : (j ≡ pass) × (w ≡ u)). subst F x.1 mine) (λ (x : (j ≢ pass) × (get_elem? views j ≡ some u)). others j u x.1) (at_set views pass j w u e)

pub each_snoc : (F : Hand → Type 0) (views : List Hand) (w : Hand) → F w → Each F views → Each F (views ++ w ∷ [])
each_snoc F views w mine others j u e = ⊎_elim (λ x. others j u x) (λ (is : w ≡ u). subst F is mine) (at_snoc views w u j e)

-- a pass with no part is idle
abbrev pub Idles : Hand → Type 0
Idles v = v.parts ≡ 0 → v ≡ idle

none : (f : Hand → ℕ) (views : List Hand) → f idle ≡ 0 → Each Idles views → sum_by (λ (v : Hand). v.parts) views ≡ 0 → sum_by f views ≡ 0
none f [] z each e = refl
none f (x ∷ xs) z each e =
    let c = sum_by-cons (λ (v : Hand). v.parts) x xs in
    let is : x ≡ idle = each 0 x refl (omega (arith, c, e)) in
    let rest = none f xs z (λ j u at. each (suc j) u at) (omega (arith, c, e)) in
    let here = ap f is in
    omega (arith, sum_by-cons f x xs, rest, here, z)

-- What is summed over all passes is what the pass with all parts has.
pub whole : (f : Hand → ℕ) (views : List Hand) (pass : ℕ) (v : Hand) → f idle ≡ 0 → Each Idles views → get_elem? views pass ≡ some v
    → sum_by (λ (u : Hand). u.parts) views ≡ v.parts → sum_by f views ≡ f v
whole f views pass v z each at all =
    let without = set views pass idle in
    let kept = sum_set f views pass v idle at in
    let parts = sum_set (λ (u : Hand). u.parts) views pass v idle at in
    let rest = none f without z (each_set Idles views pass idle (λ _. refl) each) (omega (arith, parts, all)) in
    omega (arith, kept, rest, z)

-- The others have no part, where one has them all.
pub others_idle : (views : List Hand) (pass j : ℕ) (v u : Hand) → get_elem? views pass ≡ some v → sum_by (λ (w : Hand). w.parts) views ≡ v.parts
    → j ≢ pass → get_elem? views j ≡ some u → u.parts ≡ 0
others_idle [] pass j v u at all other here = absurd (some-ne-none v (sym at))
others_idle (x ∷ xs) zero zero v u at all other here = absurd (other refl)
others_idle (x ∷ xs) zero (suc j) v u at all other here =
    let same = ap (λ (w : Hand). w.parts) (some-injective x v at) in
    let le = part_le (λ (w : Hand). w.parts) xs j u here in
    omega (arith, sum_by-cons (λ (w : Hand). w.parts) x xs, same, le, all)
others_idle (x ∷ xs) (suc pass) zero v u at all other here =
    let same = ap (λ (w : Hand). w.parts) (some-injective x u here) in
    let le = part_le (λ (w : Hand). w.parts) xs pass v at in
    omega (arith, sum_by-cons (λ (w : Hand). w.parts) x xs, same, le, all)
others_idle (x ∷ xs) (suc pass) (suc j) v u at all other here =
    let le = part_le (λ (w : Hand). w.parts) xs pass v at in
    let c = sum_by-cons (λ (w : Hand). w.parts) x xs in
    others_idle xs pass j v u at (omega (arith, c, le, all)) (λ e. other (ap suc e)) here
