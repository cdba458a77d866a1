-- Runs of three words that don't touch each other fit where they lie, so that a lawful plan stands in the scratch area.
use Rattle.std.proofs.Props.{props}
use Rattle.std.proofs.Math.Logic.{⊎_elim, ∥∥₁_elim}
use Rattle.std.proofs.Common.{◌≡◌, ◌≢◌, ◌⊎◌, ℕ, zero, suc, ◌+◌, ◌*◌, ◌≤◌, ◌<◌, Bool, true, false, cond, leb, List, refl, sym, subst, arith, inl, inr}
use Rattle.std.proofs.lemmas.Bool.{cases_eq, cases_lt}
use Rattle.std.proofs.lemmas.Bool.Decides.{nat_tests}
use Rattle.object_layout.specs.declared.names.Name.{Name}
use Rattle.heap_words.specs.declared.map.Areas.{Areas}
use Rattle.heap_words.specs.Map.{heap_length}
use Rattle.yak_model.specs.State.{State}
use Rattle.yak_model.specs.Plans.{IsLawfulPlan, Move}
use Rattle.relocation.specs.declared.plans.TheConstants.{MOVE_WORDS}
use Rattle.relocation.specs.Moves.{IsReadyPlan}

le_test : (a b : ℕ) → a ≤ b → leb a b ≡ true
le_test a b h = grind (arith, nat_tests)

gt_test : (a b : ℕ) → b < a → leb a b ≡ false
gt_test a b h = grind (arith, nat_tests)

cond_most : (b : Bool) → cond b 1 0 ≤ 1
cond_most true = omega arith
cond_most false = omega arith

-- how many of the first runs end by an address
abbrev ended : (ℕ → ℕ) → ℕ → ℕ → ℕ
ended starts n zero = 0
ended starts n (suc k) = ended starts n k + cond (leb (starts k + 3) n) 1 0

all_ended : (starts : ℕ → ℕ) (n c : ℕ) → ((k : ℕ) → k < c → starts k + 3 ≤ n) → ended starts n c ≡ c
all_ended starts n zero h = refl
all_ended starts n (suc c) h =
    let rest : ended starts n c ≡ c = all_ended starts n c (λ k lt. h k (omega (arith, lt))) in
    rw (le_test (starts c + 3) n (h c (omega arith))) (omega (arith, rest))

none_ended : (starts : ℕ → ℕ) (c : ℕ) → ended starts 0 c ≡ 0
none_ended starts zero = refl
none_ended starts (suc c) = rw (gt_test (starts c + 3) 0 (omega arith)) (omega (arith, none_ended starts c))

-- fewer runs end by an address than by another by which all of them end too
fewer : (starts : ℕ → ℕ) (a b c : ℕ) → ((k : ℕ) → k < c → starts k + 3 ≤ a → starts k + 3 ≤ b) → ended starts a c ≤ ended starts b c
fewer starts a b zero h = omega arith
fewer starts a b (suc c) h =
    let rest : ended starts a c ≤ ended starts b c = fewer starts a b c (λ k lt. h k (omega (arith, lt))) in
    ⊎_elim
    (λ (past : a < starts c + 3). rw (gt_test (starts c + 3) a past) (omega (arith, rest)))
    (λ (by : starts c + 3 ≤ a). rw (le_test (starts c + 3) a by, le_test (starts c + 3) b (h c (omega arith) by)) (omega (arith, rest)))
    (cases_lt a (starts c + 3))

-- all but one of them do
one_more : (starts : ℕ → ℕ) (a b c one : ℕ) → ((k : ℕ) → k < c → k ≢ one → starts k + 3 ≤ a → starts k + 3 ≤ b) → ended starts a c ≤ ended starts b c + 1
one_more starts a b zero one h = omega arith
one_more starts a b (suc c) one h = ⊎_elim
    (λ (this : c ≡ one).
    let rest : ended starts a c ≤ ended starts b c = fewer starts a b c (λ k lt. h k (omega (arith, lt)) (λ e. omega (arith, e, this, lt))) in
    let most = cond_most (leb (starts c + 3) a) in
    omega (arith, rest, most))
    (λ (other : c ≢ one).
    let rest : ended starts a c ≤ ended starts b c + 1 = one_more starts a b c one (λ k lt. h k (omega (arith, lt))) in
    ⊎_elim
    (λ (past : a < starts c + 3). rw (gt_test (starts c + 3) a past) (omega (arith, rest)))
    (λ (by : starts c + 3 ≤ a). rw (le_test (starts c + 3) a by, le_test (starts c + 3) b (h c (omega arith) other by)) (omega (arith, rest)))
    (cases_lt a (starts c + 3)))
    (cases_eq c one)

-- a run that ends at an address, or none does
ending_at : (starts : ℕ → ℕ) (c v : ℕ) → ((k : ℕ) × (k < c) × (starts k + 3 ≡ v)) ⊎ ((k : ℕ) → k < c → starts k + 3 ≢ v)
ending_at starts zero v = inr (λ k lt. absurd (omega (arith, lt)))
ending_at starts (suc c) v = ⊎_elim
    (λ (e : starts c + 3 ≡ v). inl (c, (let lt : c < suc c = omega arith in lt), e))
    (λ (ne : starts c + 3 ≢ v). ⊎_elim
    (λ (found : (k : ℕ) × (k < c) × (starts k + 3 ≡ v)). inl (found.0, (let lt : found.0 < suc c = omega (arith, found.1) in lt), found.2))
    (λ (none : (k : ℕ) → k < c → starts k + 3 ≢ v). inr (λ k lt. ⊎_elim (λ (e : k ≡ c). subst (λ j. starts j + 3 ≢ v) (sym e) ne) (λ (q : k ≢ c). none k (omega (arith, lt, q))) (cases_eq k c)))
    (ending_at starts c v))
    (cases_eq (starts c + 3) v)

-- the runs don't touch each other
abbrev Disjoint : (ℕ → ℕ) → ℕ → Type 0
Disjoint starts c = (j k : ℕ) → j < c → k < c → j ≢ k → (starts j + 3 ≤ starts k) ⊎ (starts k + 3 ≤ starts j)

fit : (starts : ℕ → ℕ) (c : ℕ) → Disjoint starts c → (n b : ℕ) → b ≤ n → 3 * ended starts b c ≤ b
fit starts c apart zero b le =
    let z : b ≡ 0 = omega arith in
    rw (z, none_ended starts c) (omega arith)
fit starts c apart (suc n) b le = ⊎_elim
    (λ (lt : b < suc n). fit starts c apart n b (omega (arith, lt)))
    (λ (ge : suc n ≤ b). ⊎_elim
    (λ (found : (k : ℕ) × (k < c) × (starts k + 3 ≡ b)).
    let from : ℕ = starts found.0 in
    let before : 3 * ended starts from c ≤ from = fit starts c apart n from (omega (arith, found.2, le)) in
    let more : ended starts b c ≤ ended starts from c + 1 = one_more starts b from c found.0 (λ k lt ne by. ⊎_elim (λ (h : starts k + 3 ≤ from). h) (λ (h : from + 3 ≤ starts k). absurd (omega (arith, h, by, found.2))) (apart k found.0 lt found.1 ne)) in
    omega (arith, before, more, found.2))
    (λ (none : (k : ℕ) → k < c → starts k + 3 ≢ b).
    let before : 3 * ended starts n c ≤ n = fit starts c apart n n (omega arith) in
    let same : ended starts b c ≤ ended starts n c = fewer starts b n c (λ k lt by. let ne : starts k + 3 ≢ b = none k lt in omega (arith, by, ne, le)) in
    omega (arith, before, same, ge))
    (ending_at starts c b))
    (cases_lt b (suc n))

-- a lawful plan has at most so many moves
lawful-room : (m : Areas) (count : ℕ) (moves : ℕ → Move) (s : State) (at : Name → ℕ) (dropped : Name → Bool) → IsLawfulPlan m count moves s at dropped → MOVE_WORDS * count ≤ heap_length m
lawful-room m count moves s at dropped plan =
    let least : (k : ℕ) → k < count → 3 ≤ plan.words k = λ k lt. omega (arith, (plan.present k lt).4) in
    let pair : (j k : ℕ) → j < k → k < count → ((moves j).new + 3 ≤ (moves k).new) ⊎ ((moves k).new + 3 ≤ (moves j).new) = λ j k less lt. ⊎_elim
    (λ (h : (moves j).new + plan.words j ≤ (moves k).new). inl (omega (arith, h, least j (omega (arith, less, lt)))))
    (λ (h : (moves k).new + plan.words k ≤ (moves j).new). inr (omega (arith, h, least k lt)))
    (plan.apart j k less lt)
    in
    let apart : Disjoint (λ k. (moves k).new) count = λ j k hj hk ne. ⊎_elim
    (λ (less : j < k). pair j k less hk)
    (λ (le : k ≤ j). ⊎_elim (λ (h : (moves k).new + 3 ≤ (moves j).new). inr h) (λ (h : (moves j).new + 3 ≤ (moves k).new). inl h) (pair k j (omega (arith, le, ne)) hj))
    (cases_lt j k)
    in
    let within : (k : ℕ) → k < count → (moves k).new + 3 ≤ heap_length m = λ k lt. (let page = plan.in_page k lt in omega (arith, page.1, page.3, least k lt)) in
    let all : ended (λ k. (moves k).new) (heap_length m) count ≡ count = all_ended (λ k. (moves k).new) (heap_length m) count within in
    let most = fit (λ k. (moves k).new) count apart (heap_length m) (heap_length m) (omega arith) in
    omega (arith, all, most)

-- the moves of a plan that is ready stand in the scratch area
pub ready-room : (m : Areas) (heap : List ℕ) (count : ℕ) (moves : ℕ → Move) → ∥ IsReadyPlan m heap count moves ∥₁ → MOVE_WORDS * count ≤ heap_length m
ready-room m heap count moves some = ∥∥₁_elim some (hlevel props) (λ q. lawful-room m count moves q.state q.places q.dropped q.lawful)
