-- Seats in order of thread.
use Rattle.std.proofs.Common.{◌≡◌, ◌⊎◌, ⊎_elim, inl, inr, ℕ, zero, suc, ◌+◌, List, [], ◌∷◌, ◌++◌, drop, take, length, refl, sym, subst, ◌∙◌, arith}
use mathlib.Core.Option.{some, some-ne-none, some-injective}
use lib.ListN.{get_elem?}
use Rattle.atomic_table.specs.Seated.{TableId}
use Rattle.heap_words.specs.declared.map.Areas.{Areas}
use Rattle.safepoint_gate.specs.declared.seats.Away.{Away}
use Rattle.safepoint_gate.specs.Rule.{away_view, fresh}
use Rattle.safepoint_gate.specs.Made.{AllFresh}
use Rattle.safepoint_gate.specs.Steps.{first_thread}

pub fresh-head : (k n m : ℕ) → n ≡ suc m → first_thread (fresh k n) ≡ k
fresh-head k zero m e = absurd (omega arith)
fresh-head k (suc n) m e = refl

pub fresh-rest : (k n m : ℕ) → n ≡ suc m → drop 1 (fresh k n) ≡ fresh (k + 1) m
fresh-rest k zero m e = absurd (omega arith)
fresh-rest k (suc n) m e = let same : n ≡ m = omega arith in let next : suc k ≡ k + 1 = omega arith in λ i. fresh (next i) (same i)

pub fresh-first : (k n m : ℕ) → n ≡ suc m → take 1 (fresh k n) ≡ fresh k 1
fresh-first k zero m e = absurd (omega arith)
fresh-first k (suc n) m e = refl

get_snoc : (l : List Away) (a b : Away) (j : ℕ) → get_elem? (l ++ a ∷ []) j ≡ some b → (get_elem? l j ≡ some b) ⊎ ((j ≡ length l) × (a ≡ b))
get_snoc [] a b zero e = inr (refl, some-injective a b e)
get_snoc [] a b (suc j) e = absurd (some-ne-none b (sym e))
get_snoc (x ∷ xs) a b zero e = inl e
get_snoc (x ∷ xs) a b (suc j) e = ⊎_elim inl (λ (t : (j ≡ length xs) × (a ≡ b)). inr ((let q = t.0 in omega arith), t.1)) (get_snoc xs a b j e)

pub fresh-snoc : (z : TableId) (m : Areas) (seats : List Away) (a : Away) (k : ℕ) → length seats ≡ k → AllFresh z m seats → a.seat.table_id ≡ z → a.seat.me.0 ≡ away_view m (fresh (k + 1) 1) → AllFresh z m (seats ++ a ∷ [])
fresh-snoc z m seats a k long all table view j b e = ⊎_elim (all j b) (λ (t : (j ≡ length seats) × (a ≡ b)). let at : k ≡ j = sym long ∙ sym t.0 in subst (λ (x : ℕ × Away). (x.1.seat.table_id ≡ z) × (x.1.seat.me.0 ≡ away_view m (fresh (x.0 + 1) 1))) (λ i. (at i, t.1 i)) (table, view)) (get_snoc seats a b j e)
