-- Sums over views.
use Rattle.std.proofs.Common.{◌≡◌, ◌≢◌, ℕ, zero, suc, ◌+◌, ◌≤◌, List, [], ◌∷◌, ◌++◌, set, refl, sym, ap, arith}
use mathlib.Core.Option.{some, some-ne-none, some-injective}
use lib.ListN.{get_elem?}
use Rattle.safepoint_gate.specs.declared.rule.View.{View}
use Rattle.safepoint_gate.specs.Rule.{total}

pub total_set : (f : View → ℕ) (views : List View) (i : ℕ) (v w : View) → get_elem? views i ≡ some v → total f (set views i w) + f v ≡ total f views + f w
total_set f [] i v w at = absurd (some-ne-none v (sym at))
total_set f (x ∷ xs) zero v w at = let e : f x ≡ f v = ap f (some-injective x v at) in omega arith
total_set f (x ∷ xs) (suc i) v w at = let r = total_set f xs i v w at in omega arith

pub total_at : (f : View → ℕ) (views : List View) (i : ℕ) (v : View) → get_elem? views i ≡ some v → f v ≤ total f views
total_at f [] i v at = absurd (some-ne-none v (sym at))
total_at f (x ∷ xs) zero v at = let e : f x ≡ f v = ap f (some-injective x v at) in omega arith
total_at f (x ∷ xs) (suc i) v at = let r = total_at f xs i v at in omega arith

pub total_two : (f : View → ℕ) (views : List View) (i j : ℕ) (v u : View) → i ≢ j → get_elem? views i ≡ some v → get_elem? views j ≡ some u → f v + f u ≤ total f views
total_two f [] i j v u apart at there = absurd (some-ne-none v (sym at))
total_two f (x ∷ xs) zero zero v u apart at there = absurd (apart refl)
total_two f (x ∷ xs) zero (suc j) v u apart at there = let e : f x ≡ f v = ap f (some-injective x v at) in let r = total_at f xs j u there in omega arith
total_two f (x ∷ xs) (suc i) zero v u apart at there = let e : f x ≡ f u = ap f (some-injective x u there) in let r = total_at f xs i v at in omega arith
total_two f (x ∷ xs) (suc i) (suc j) v u apart at there = let r = total_two f xs i j v u (λ e. apart (ap suc e)) at there in omega arith

pub total_below : (f g : View → ℕ) (views : List View) → ((j : ℕ) (v : View) → get_elem? views j ≡ some v → f v ≤ g v) → total f views ≤ total g views
total_below f g [] le = omega arith
total_below f g (x ∷ xs) le = let h = le 0 x refl in let r = total_below f g xs (λ j v at. le (suc j) v at) in omega arith

pub total_snoc : (f : View → ℕ) (views : List View) (w : View) → total f (views ++ w ∷ []) ≡ total f views + f w
total_snoc f [] w = omega arith
total_snoc f (x ∷ xs) w = let r = total_snoc f xs w in omega arith

pub set_there : (views : List View) (i : ℕ) (v w : View) → get_elem? views i ≡ some v → get_elem? (set views i w) i ≡ some w
set_there [] i v w at = absurd (some-ne-none v (sym at))
set_there (x ∷ xs) zero v w at = refl
set_there (x ∷ xs) (suc i) v w at = set_there xs i v w at
