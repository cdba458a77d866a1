-- Slots that have followed moves.
use Rattle.std.proofs.Common.{◌≡◌, ◌≢◌, ◌⊎◌, inl, inr, ℕ, zero, suc, ◌+◌, ◌<◌, List, refl, sym, ap, subst, ◌∙◌, add-one, arith}
use Rattle.std.specs.List.{Contains}
use Rattle.std.proofs.Math.Logic.{⊎_elim}
use Rattle.std.proofs.lemmas.Bool.{cases_eq}
use Rattle.object_layout.specs.declared.TheConstants.{OBJECT_WORDS}
use Rattle.yak_model.specs.Plans.{Move}
use Rattle.relocation.specs.Moves.{fields_at}
use Rattle.remember_sets.specs.Filed.{moved_slot}
use Rattle.remember_sets.proofs.Slots.{moved-has}
use Rattle.forwarding.specs.Slots.{followed, moved_run}

-- a slot of the list now is one of the run that has gone, or one outside the run
pub run-has : (old new n i : ℕ) (l : List ℕ) → Contains (moved_run old new n l) i → ((j : ℕ) × (j < n) × (i ≡ new + j)) ⊎ (((j : ℕ) → j < n → i ≢ old + j) × Contains l i)
run-has old new zero i l c = inr (λ j lt. absurd (omega (arith, lt)), c)
run-has old new (suc n) i l c =
    ⊎_elim (λ (p : (i ≡ new + n) × Contains (moved_run old new n l) (old + n)). inl (n, omega arith, p.0))
    (λ (p : (i ≢ old + n) × Contains (moved_run old new n l) i).
    ⊎_elim (λ (q : (j : ℕ) × (j < n) × (i ≡ new + j)). inl (q.0, omega (arith, q.1), q.2))
    (λ (q : ((j : ℕ) → j < n → i ≢ old + j) × Contains l i). inr (λ j lt. ⊎_elim (λ (e : j ≡ n) (z : i ≡ old + j). p.0 (z ∙ ap (λ k. old + k) e)) (λ (ne : j ≡ n → ⊥). q.0 j (omega (arith, lt, ne))) (cases_eq j n), q.1))
    (run-has old new n i l p.1))
    (moved-has (old + n) (new + n) i (moved_run old new n l) c)

pub run-more : (old new n : ℕ) (l : List ℕ) → moved_run old new (n + 1) l ≡ moved_slot (old + n) (new + n) (moved_run old new n l)
run-more old new n l = ap (λ k. moved_run old new k l) (add-one n)

pub followed-none : (heap : List ℕ) (moves : ℕ → Move) (l : List ℕ) → followed heap 0 moves l ≡ l
unfolding followed
followed-none heap moves l = refl

pub followed-suc : (heap : List ℕ) (k : ℕ) (moves : ℕ → Move) (l : List ℕ) → followed heap (suc k) moves l ≡ moved_run ((moves k).old + OBJECT_WORDS) ((moves k).new + OBJECT_WORDS) (fields_at heap (moves k).new) (followed heap k moves l)
unfolding followed
followed-suc heap k moves l = refl

pub followed-more : (heap : List ℕ) (k : ℕ) (moves : ℕ → Move) (l : List ℕ) → followed heap (k + 1) moves l ≡ moved_run ((moves k).old + OBJECT_WORDS) ((moves k).new + OBJECT_WORDS) (fields_at heap (moves k).new) (followed heap k moves l)
followed-more heap k moves l = ap (λ n. followed heap n moves l) (add-one k) ∙ followed-suc heap k moves l

-- a slot of the list now is a field at its new place, or one that no move of the first has taken away
pub record WasThere (heap : List ℕ) (count : ℕ) (moves : ℕ → Move) (l : List ℕ) (i : ℕ) : Type 0 where
  pub was : Contains l i
  pub not_old : (k f : ℕ) → k < count → f < fields_at heap (moves k).new → i ≢ (moves k).old + OBJECT_WORDS + f

pub record IsNewField (heap : List ℕ) (count : ℕ) (moves : ℕ → Move) (i : ℕ) : Type 0 where
  pub move : ℕ
  pub among : move < count
  pub field : ℕ
  pub within : field < fields_at heap (moves move).new
  pub place : i ≡ (moves move).new + OBJECT_WORDS + field

pub followed-has : (heap : List ℕ) (count : ℕ) (moves : ℕ → Move) (l : List ℕ) (i : ℕ) → Contains (followed heap count moves l) i → IsNewField heap count moves i ⊎ WasThere heap count moves l i
followed-has heap zero moves l i c = inr (record { was = subst (λ (k : List ℕ). Contains k i) (followed-none heap moves l) c; not_old = λ k f lt. absurd (omega (arith, lt)) })
followed-has heap (suc k) moves l i c =
    ⊎_elim (λ (p : (j : ℕ) × (j < fields_at heap (moves k).new) × (i ≡ (moves k).new + OBJECT_WORDS + j)). inl (record { move = k; among = omega arith; field = p.0; within = p.1; place = p.2 }))
    (λ (p : ((j : ℕ) → j < fields_at heap (moves k).new → i ≢ (moves k).old + OBJECT_WORDS + j) × Contains (followed heap k moves l) i).
    ⊎_elim (λ (n : IsNewField heap k moves i). inl (record { move = n.move; among = omega (arith, n.among); field = n.field; within = n.within; place = n.place }))
    (λ (w : WasThere heap k moves l i). inr (record {
      was = w.was;
      not_old = λ j f lt within. ⊎_elim (λ (e : j ≡ k). subst (λ n. f < fields_at heap (moves n).new → i ≢ (moves n).old + OBJECT_WORDS + f) (sym e) (p.0 f) within) (λ (ne : j ≡ k → ⊥). w.not_old j f (omega (arith, lt, ne)) within) (cases_eq j k);
    }))
    (followed-has heap k moves l i p.1))
    (run-has ((moves k).old + OBJECT_WORDS) ((moves k).new + OBJECT_WORDS) (fields_at heap (moves k).new) i (followed heap k moves l) (subst (λ (x : List ℕ). Contains x i) (followed-suc heap k moves l) c))
