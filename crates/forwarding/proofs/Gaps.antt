-- Slots that lie between the old places of moved objects.
use Rattle.std.proofs.Common.{◌≡◌, ℕ, zero, suc, ◌+◌, ◌≤◌, ◌<◌, ◌&&◌, ◌||◌, Bool, true, false, not, eqb, ltb, List, refl, sym, ap, ◌∙◌, add-one, arith}
use Rattle.std.proofs.Math.Logic.{⊎_elim}
use Rattle.std.proofs.lemmas.Bool.{and_left, and_right, cases_eq, cases_lt, eq-eqb, le-ltb, lt-ltb, ne_eqb, or_from}
use Rattle.yak_model.specs.Plans.{Move}
use Rattle.relocation.specs.Moves.{size_at}
use Rattle.forwarding.specs.Slots.{in_old}

-- a slot stays unless it lies from one word to another, and is of those that go
abbrev pub beside : (ℕ → Bool) → ℕ → ℕ → ℕ → Bool
beside is from to b = not ((not (ltb b from) && ltb b to) && is b)

bool-and : (p i : Bool) → p ≡ false → not (p && i) ≡ true
bool-and p i e = ap not (and_left p i e)

pub beside-none : (is : ℕ → Bool) (from b : ℕ) → beside is from from b ≡ true
beside-none is from b =
    bool-and (not (ltb b from) && ltb b from) (is b)
    (⊎_elim (λ (lt : b < from). and_left (not (ltb b from)) (ltb b from) (ap not (lt-ltb b from lt))) (λ (le : from ≤ b). and_right (not (ltb b from)) (ltb b from) (le-ltb b from le)) (cases_lt b from))

-- four truth tables
both : (i : Bool) → (true && not i) ≡ not (true && i)
both true = refl
both false = refl

pub beside-more : (is : ℕ → Bool) (from to b : ℕ) → from ≤ to → (beside is from to b && not (eqb b to && is b)) ≡ beside is from (to + 1) b
beside-more is from to b le =
    ⊎_elim (λ (lt : b < from).
    ap (λ p. not ((not p && ltb b to) && is b) && not (eqb b to && is b)) (lt-ltb b from lt) ∙ ap (λ p. true && not (p && is b)) (ne_eqb b to (omega (arith, lt, le))) ∙ sym (ap (λ p. not ((not p && ltb b (to + 1)) && is b)) (lt-ltb b from lt)))
    (λ (ge : from ≤ b).
    ⊎_elim (λ (lt : b < to).
    ap (λ p. not ((not p && ltb b to) && is b) && not (eqb b to && is b)) (le-ltb b from ge) ∙ ap (λ p. not ((true && p) && is b) && not (eqb b to && is b)) (lt-ltb b to lt) ∙ ap (λ p. not (true && is b) && not (p && is b)) (ne_eqb b to (omega (arith, lt))) ∙ same (is b) ∙ sym (ap (λ p. not ((not p && ltb b (to + 1)) && is b)) (le-ltb b from ge) ∙ ap (λ p. not ((true && p) && is b)) (lt-ltb b (to + 1) (omega (arith, lt)))))
    (λ (past : to ≤ b).
    ⊎_elim (λ (e : b ≡ to).
    ap (λ p. not ((not p && ltb b to) && is b) && not (eqb b to && is b)) (le-ltb b from ge) ∙ ap (λ p. not ((true && p) && is b) && not (eqb b to && is b)) (le-ltb b to past) ∙ ap (λ p. not (false && is b) && not (p && is b)) (eq-eqb b to e) ∙ sym (ap (λ p. not ((not p && ltb b (to + 1)) && is b)) (le-ltb b from ge) ∙ ap (λ p. not ((true && p) && is b)) (lt-ltb b (to + 1) (omega (arith, e)))))
    (λ (ne : b ≡ to → ⊥).
    ap (λ p. not ((not p && ltb b to) && is b) && not (eqb b to && is b)) (le-ltb b from ge) ∙ ap (λ p. not ((true && p) && is b) && not (eqb b to && is b)) (le-ltb b to past) ∙ ap (λ p. not (false && is b) && not (p && is b)) (ne_eqb b to ne) ∙ sym (ap (λ p. not ((not p && ltb b (to + 1)) && is b)) (le-ltb b from ge) ∙ ap (λ p. not ((true && p) && is b)) (le-ltb b (to + 1) (omega (arith, past, ne)))))
    (cases_eq b to))
    (cases_lt b to))
    (cases_lt b from)
  where
    same : (i : Bool) → (not (true && i) && not (false && i)) ≡ not (true && i)
    same true = refl
    same false = refl

-- a slot before a word stays unless it is of those that go and in none of the first objects
abbrev pub kept-to : (is old : ℕ → Bool) → ℕ → ℕ → Bool
kept-to is old from b = not (ltb b from && (is b && not (old b)))

pub kept-none : (is old : ℕ → Bool) (b : ℕ) → kept-to is old 0 b ≡ true
kept-none is old b = ap (λ p. not (p && (is b && not (old b)))) (le-ltb b 0 (omega arith))

table-1 : (i o : Bool) → (not (true && (i && not o)) && true) ≡ not (true && (i && not (o || false)))
table-1 true true = refl
table-1 true false = refl
table-1 false true = refl
table-1 false false = refl

table-2 : (i : Bool) → (true && not (true && i)) ≡ not (true && (i && not (false || false)))
table-2 true = refl
table-2 false = refl

table-3 : (i o : Bool) → true ≡ not (true && (i && not (o || true)))
table-3 true true = refl
table-3 true false = refl
table-3 false true = refl
table-3 false false = refl

-- one object more: the gap before it, and its own words
pub kept-more : (is old : ℕ → Bool) (from at size b : ℕ) → from ≤ at → (from ≤ b → old b ≡ false) → (kept-to is old from b && beside is from at b) ≡ kept-to is (λ a. old a || (not (ltb a at) && ltb a (at + size))) (at + size) b
kept-more is old from at size b le none =
    ⊎_elim (λ (lt : b < from).
    ap (λ p. not (p && (is b && not (old b))) && not ((not p && ltb b at) && is b)) (lt-ltb b from lt) ∙ table-1 (is b) (old b) ∙ sym (ap (λ p. not (p && (is b && not (old b || (not (ltb b at) && p))))) (lt-ltb b (at + size) (omega (arith, lt, le))) ∙ ap (λ p. not (true && (is b && not (old b || (not p && true))))) (lt-ltb b at (omega (arith, lt, le)))))
    (λ (ge : from ≤ b).
    ⊎_elim (λ (lt : b < at).
    ap (λ p. not (p && (is b && not (old b))) && not ((not p && ltb b at) && is b)) (le-ltb b from ge) ∙ ap (λ p. true && not ((true && p) && is b)) (lt-ltb b at lt) ∙ table-2 (is b) ∙ sym (ap (λ p. not (p && (is b && not (old b || (not (ltb b at) && p))))) (lt-ltb b (at + size) (omega (arith, lt))) ∙ ap (λ p. not (true && (is b && not (old b || (not p && true))))) (lt-ltb b at lt) ∙ ap (λ p. not (true && (is b && not (p || false)))) (none ge)))
    (λ (past : at ≤ b).
    ⊎_elim (λ (in_object : b < at + size).
    ap (λ p. not (p && (is b && not (old b))) && not ((not p && ltb b at) && is b)) (le-ltb b from ge) ∙ ap (λ p. true && not ((true && p) && is b)) (le-ltb b at past) ∙ table-3 (is b) (old b) ∙ sym (ap (λ p. not (p && (is b && not (old b || (not (ltb b at) && p))))) (lt-ltb b (at + size) in_object) ∙ ap (λ p. not (true && (is b && not (old b || (not p && true))))) (le-ltb b at past)))
    (λ (behind : at + size ≤ b).
    ap (λ p. not (p && (is b && not (old b))) && not ((not p && ltb b at) && is b)) (le-ltb b from ge) ∙ ap (λ p. true && not ((true && p) && is b)) (le-ltb b at past) ∙ sym (ap (λ p. not (p && (is b && not (old b || (not (ltb b at) && p))))) (le-ltb b (at + size) behind)))
    (cases_lt b (at + size)))
    (cases_lt b at))
    (cases_lt b from)

-- and the gap behind the last one
table-4 : (i o : Bool) → (not (true && (i && not o)) && true) ≡ not (i && not o)
table-4 true true = refl
table-4 true false = refl
table-4 false true = refl
table-4 false false = refl

table-5 : (i : Bool) → (true && not (true && i)) ≡ not (i && not false)
table-5 true = refl
table-5 false = refl

pub kept-all : (is old : ℕ → Bool) (from length b : ℕ) → b < length → (from ≤ b → old b ≡ false) → (kept-to is old from b && beside is from length b) ≡ not (is b && not (old b))
kept-all is old from length b fits none =
    ⊎_elim (λ (lt : b < from). ap (λ p. not (p && (is b && not (old b))) && not ((not p && ltb b length) && is b)) (lt-ltb b from lt) ∙ table-4 (is b) (old b))
    (λ (ge : from ≤ b). ap (λ p. not (p && (is b && not (old b))) && not ((not p && ltb b length) && is b)) (le-ltb b from ge) ∙ ap (λ p. true && not ((true && p) && is b)) (lt-ltb b length fits) ∙ table-5 (is b) ∙ sym (ap (λ p. not (is b && not p)) (none ge)))
    (cases_lt b from)

-- the objects of the first moves
pub in_old-none : (heap : List ℕ) (moves : ℕ → Move) (b : ℕ) → in_old heap 0 moves b ≡ false
unfolding in_old
in_old-none heap moves b = refl

pub in_old-suc : (heap : List ℕ) (k : ℕ) (moves : ℕ → Move) (b : ℕ) → in_old heap (suc k) moves b ≡ (in_old heap k moves b || (not (ltb b (moves k).old) && ltb b ((moves k).old + size_at heap (moves k).new)))
unfolding in_old
in_old-suc heap k moves b = refl

pub in_old-more : (heap : List ℕ) (k : ℕ) (moves : ℕ → Move) (b : ℕ) → in_old heap (k + 1) moves b ≡ (in_old heap k moves b || (not (ltb b (moves k).old) && ltb b ((moves k).old + size_at heap (moves k).new)))
in_old-more heap k moves b = ap (λ n. in_old heap n moves b) (add-one k) ∙ in_old-suc heap k moves b

-- behind the first objects there is none of them
pub in_old-past : (heap : List ℕ) (count : ℕ) (moves : ℕ → Move) (b : ℕ) → ((k : ℕ) → k < count → (moves k).old + size_at heap (moves k).new ≤ b) → in_old heap count moves b ≡ false
in_old-past heap zero moves b past = in_old-none heap moves b
in_old-past heap (suc k) moves b past =
    in_old-suc heap k moves b ∙ or_from (in_old heap k moves b) (not (ltb b (moves k).old) && ltb b ((moves k).old + size_at heap (moves k).new)) (in_old-past heap k moves b (λ j lt. past j (omega (arith, lt)))) (and_right (not (ltb b (moves k).old)) (ltb b ((moves k).old + size_at heap (moves k).new)) (le-ltb b ((moves k).old + size_at heap (moves k).new) (past k (omega arith))))
