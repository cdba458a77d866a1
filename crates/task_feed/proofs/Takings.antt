-- What a task more does to a row.
use Rattle.std.proofs.Common.{◌≡◌, ℕ, ◌+◌, ◌<◌, List, [], ◌∷◌, ◌++◌, Some, All, cond, length, nat_lt, subst, ap, sym, ◌∙◌, append_assoc, arith}
use Rattle.std.proofs.lemmas.List.Elements.{All-push, All-tail}
use Rattle.task_feed.specs.Dealt.{IsAscending, places}
use Rattle.task_feed.specs.Hands.{HasAll, HasTaken, IsWhole, hand}
use Rattle.task_feed.specs.declared.hands.Hand.{Hand}
use Rattle.task_feed.proofs.Rows.{ascends, places_append, row_fits}

-- a row with a task more, behind what was taken before
pub record OneMore (before row : List ℕ) (task put : ℕ) (v w : Hand) : Type 0 where
  pub fits : length row < put
  pub ascending : IsAscending (row ++ task ∷ [])
  pub within : All (λ other. other < put) (row ++ task ∷ [])
  pub below : All (λ earlier. earlier < task) row
  pub hand_is : w ≡ hand v.parts v.all put v.due 0 (before ++ (row ++ task ∷ []))
  pub none : v.ends ≡ 0

all_right : (P : ℕ → Type 0) (xs ys : List ℕ) → All P (xs ++ ys) → All P ys
all_right P [] ys h = h
all_right P (x ∷ xs) ys h = all_right P xs ys (All-tail P x (xs ++ ys) h)

pub one_more : (before row : List ℕ) (task put : ℕ) (v w : Hand) → v.put ≡ put → v.taken ≡ before ++ row → IsAscending row → All (λ other. other < put) row → HasTaken v (Some task) w
    → OneMore before row task put v w
one_more before row task put v w put_is taken ascending within h =
    let below = all_right (λ (earlier : ℕ). earlier < task) before row (subst (All (λ (earlier : ℕ). earlier < task)) taken h.2) in
    let least = row_fits row task ascending below in
    let most : task < put = omega (arith, h.1, put_is) in
    record {
      fits = omega (arith, least, most);
      ascending = ascends row task ascending below;
      within = All-push (λ (other : ℕ). other < put) row task within most;
      below = below;
      hand_is = h.0 ∙ ap (λ (n : ℕ). hand v.parts v.all n v.due v.ends (v.taken ++ task ∷ [])) put_is
          ∙ ap (λ (e : ℕ). hand v.parts v.all put v.due e (v.taken ++ task ∷ [])) h.3
          ∙ ap (λ (l : List ℕ). hand v.parts v.all put v.due 0 l) (ap (λ (l : List ℕ). l ++ task ∷ []) taken ∙ append_assoc before row (task ∷ []));
      none = h.3;
    }

-- who has all tasks has each once
pub all_told : (before row : List ℕ) (put : ℕ) (v : Hand) → v.put ≡ put → v.taken ≡ before ++ row → HasAll v
    → (task : ℕ) → places task before + places task row ≡ cond (nat_lt task put) 1 0
all_told before row put v put_is taken all task =
    sym (places_append task before row) ∙ ap (places task) (sym taken) ∙ all task ∙ ap (λ (n : ℕ). cond (nat_lt task n) 1 0) put_is

-- the hand that has taken a task more of what is left
pub drained : (before now row : List ℕ) (parts all put ends : ℕ) (v w : Hand) → v.parts ≡ parts → v.all ≡ all → v.ends ≡ ends → v.ends ≡ 0 → now ≡ row
    → w ≡ hand v.parts v.all put v.due 0 (before ++ row) → w ≡ hand parts all put w.due ends (before ++ now)
drained before now row parts all put ends v w parts_is all_is ends_is none same is =
    is
    ∙ ap (λ (p : ℕ). hand p v.all put v.due 0 (before ++ row)) parts_is
    ∙ ap (λ (a : ℕ). hand parts a put v.due 0 (before ++ row)) all_is
    ∙ ap (λ (e : ℕ). hand parts all put v.due e (before ++ row)) (sym none ∙ ends_is)
    ∙ ap (λ (l : List ℕ). hand parts all put v.due ends (before ++ l)) (sym same)
    ∙ ap (λ (d : ℕ). hand parts all put d ends (before ++ now)) (sym (ap (λ (u : Hand). u.due) is))

-- a hand with the same parts has all parts too
pub same_whole : (v w : Hand) → v.parts ≡ w.parts → v.all ≡ w.all → IsWhole w → IsWhole v
same_whole v w parts all whole = record { has_part = omega (arith, parts, whole.has_part); has_all = parts ∙ whole.has_all ∙ sym all }
