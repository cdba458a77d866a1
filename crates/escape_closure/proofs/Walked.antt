-- Where a walk through a chain has come to.
use Rattle.std.proofs.Common.{◌≡◌, ◌≢◌, ◌<◌, ◌+◌, ◌∷◌, ℕ, zero, suc, cond, eqb, List, [], Option, Some, None, get_or, length, sym, ap, subst, ◌∙◌, arith}
use Rattle.std.specs.List.{AllPairs, Contains}
use Rattle.std.specs.Option.{MatchOption}
use Rattle.std.proofs.lemmas.Bool.{cond-true, cond-false, eq-eqb, ne_eqb}
use Rattle.std.proofs.lemmas.List.{get_or_default}
use Rattle.std.proofs.lemmas.List.Elements.{Contains-get_or}
use Rattle.object_layout.specs.declared.values.Addr.{Addr}
use Rattle.remember_sets.proofs.Slots.{pairs-head, pairs-tail}

-- the place of a slot
pub place : ℕ → List ℕ → ℕ
place a [] = 0
place a (b ∷ more) = cond (eqb b a) 0 (place a more + 1)

-- the slots behind which a walk stands
pub walked : Option Addr → List ℕ → ℕ
walked None slots = length slots
walked (Some a) slots = place a.0 slots

-- the walk stands at a slot, or at the end
abbrev pub StandsAt : Option Addr → List ℕ → Type 0
StandsAt o slots = MatchOption o (walked o slots ≡ length slots) (λ a. (walked o slots < length slots) × (get_or slots (walked o slots) 0 ≡ a.0))

pub place-of : (l : List ℕ) (k a : ℕ) → AllPairs (λ (x y : ℕ). x ≢ y) l → k < length l → get_or l k 0 ≡ a → place a l ≡ k
unfolding place
place-of [] k a once lt e = absurd (omega (arith, lt))
place-of (b ∷ l) zero a once lt e = cond-true (eqb b a) 0 (place a l + 1) (eq-eqb b a e)
place-of (b ∷ l) (suc k) a once lt e =
    let in_rest : k < length l = omega (arith, lt) in
    let ne : b ≢ a = λ q. pairs-head b l once (k, in_rest, get_or_default l k b 0 in_rest ∙ e ∙ sym q) in
    let next : place a l + 1 ≡ suc k = omega (arith, place-of l k a (pairs-tail b l once) in_rest e) in
    cond-false (eqb b a) 0 (place a l + 1) (ne_eqb b a ne) ∙ next

-- the walk comes to the place that a call tells
pub comes-to : (o : Option Addr) (l : List ℕ) (k : ℕ) → AllPairs (λ (x y : ℕ). x ≢ y) l → MatchOption o (k ≡ length l) (λ a. (k < length l) × (get_or l k 0 ≡ a.0)) → walked o l ≡ k
unfolding walked
comes-to None l k once e = sym e
comes-to (Some a) l k once e = place-of l k a.0 once e.0 e.1

pub stands-at : (o : Option Addr) (l : List ℕ) (k : ℕ) → AllPairs (λ (x y : ℕ). x ≢ y) l → MatchOption o (k ≡ length l) (λ a. (k < length l) × (get_or l k 0 ≡ a.0)) → StandsAt o l
stands-at o l k once e = subst (λ j. MatchOption o (j ≡ length l) (λ a. (j < length l) × (get_or l j 0 ≡ a.0))) (sym (comes-to o l k once e)) e

pub begins : (o : Option Addr) (l : List ℕ) → MatchOption o (l ≡ []) (λ a. (0 < length l) × (get_or l 0 0 ≡ a.0)) → MatchOption o (0 ≡ length l) (λ a. (0 < length l) × (get_or l 0 0 ≡ a.0))
begins None l e = sym (ap (λ (x : List ℕ). length x) e)
begins (Some a) l e = e

-- the slot at which the walk stands
pub at-slot : (o : Option Addr) (a : Addr) (l : List ℕ) → o ≡ Some a → StandsAt o l → (walked o l < length l) × (get_or l (walked o l) 0 ≡ a.0)
at-slot o a l e at = subst (λ (x : Option Addr). StandsAt x l → (walked x l < length l) × (get_or l (walked x l) 0 ≡ a.0)) (sym e) (λ h. h) at

pub found : (o : Option Addr) (a : Addr) (l : List ℕ) → o ≡ Some a → StandsAt o l → Contains l a.0
found o a l e at =
    let s = at-slot o a l e at in
    subst (Contains l) s.1 (Contains-get_or l (walked o l) 0 s.0)

-- the walk goes on
pub goes-on : (o r : Option Addr) (a : Addr) (l k : List ℕ) → o ≡ Some a → StandsAt o l → k ≡ l → ((i : ℕ) → i < length k → get_or k i 0 ≡ a.0 → MatchOption r (i + 1 ≡ length k) (λ (b : Addr). (i + 1 < length k) × (get_or k (i + 1) 0 ≡ b.0))) → MatchOption r (walked o l + 1 ≡ length l) (λ (b : Addr). (walked o l + 1 < length l) × (get_or l (walked o l + 1) 0 ≡ b.0))
goes-on o r a l k e at same next =
    let s = at-slot o a l e at in
    subst (λ (x : List ℕ). (i : ℕ) → i < length x → get_or x i 0 ≡ a.0 → MatchOption r (i + 1 ≡ length x) (λ (b : Addr). (i + 1 < length x) × (get_or x (i + 1) 0 ≡ b.0))) same next (walked o l) s.0 s.1

-- the walk is at its end
pub at-end : (o : Option Addr) (l : List ℕ) → o ≡ None → StandsAt o l → walked o l ≡ length l
at-end o l e at = subst (λ (x : Option Addr). StandsAt x l → walked x l ≡ length l) (sym e) (λ h. h) at
