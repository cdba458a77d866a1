-- The rule of a feed's queue, and what its calls tell.
use Rattle.std.specs.Prelude.{◌≡◌, ◌≢◌, ℕ, zero, suc, ◌+◌, ◌-◌, ◌<◌, ◌≤◌, List, [], ◌∷◌, ◌++◌, Option, Some, None, All, cond, length, nat_lt, replicate, sum_by}
use mathlib.Core.Option.{some}
use lib.ListN.{get_elem?}
use Rattle.task_feed.specs.Dealt.{places}
use Rattle.task_feed.specs.declared.hands.Hand.{Hand}

abbrev pub hand : ℕ → ℕ → ℕ → ℕ → ℕ → List ℕ → Hand
hand parts all put due ends taken = record { parts = parts; all = all; put = put; due = due; ends = ends; taken = taken }

-- a pass that has nothing
abbrev pub idle : Hand
idle = hand 0 0 0 0 0 []

-- what the queue holds: so many tasks, by their numbers from one on, and behind them so many signs of the end
abbrev pub slips : ℕ → ℕ → ℕ → List (Option ℕ)
slips from zero signs = replicate signs None
slips from (suc tasks) signs = Some from ∷ slips (suc from) tasks signs

-- A pass with no part has nothing, and each other knows how many parts there are and how many tasks were put.
pub record IsHand (all put : ℕ) (v : Hand) : Type 0 where
  pub idle_is : v.parts ≡ 0 → v ≡ idle
  pub all_is : v.parts ≢ 0 → v.all ≡ all
  pub put_is : v.parts ≢ 0 → v.put ≡ put

-- It has all parts.
pub record IsWhole (v : Hand) : Type 0 where
  pub has_part : 0 < v.parts
  pub has_all : v.parts ≡ v.all

-- The tasks below a number were taken, each by one pass, and the others are in the queue, in order. Behind them stands the sign of
-- the end for each pass that it waits for. A sign of the end was taken only after all tasks.
pub record Deals (items : List (Option ℕ)) (views : List Hand) : Type 0 where
  pub gone : ℕ
  pub rest : ℕ
  pub all : ℕ
  pub queue : items ≡ slips gone rest (sum_by (λ (v : Hand). v.due) views)
  pub parts : sum_by (λ (v : Hand). v.parts) views ≡ all
  pub ended : 0 < sum_by (λ (v : Hand). v.ends) views → rest ≡ 0
  pub once : (task : ℕ) → sum_by (λ (v : Hand). places task v.taken) views ≡ cond (nat_lt task gone) 1 0
  pub each : (pass : ℕ) (v : Hand) → get_elem? views pass ≡ some v → IsHand all (gone + rest) v

-- ---- parts

-- what is left of a hand that gives a part to a taker, and what the taker gets
abbrev pub left_share : Hand → Hand
left_share v = hand (v.parts - 1) v.all v.put (v.due - 1) v.ends v.taken

abbrev pub right_share : Hand → Hand
right_share v = hand 1 v.all v.put 1 0 []

abbrev pub together : Hand → Hand → Hand
together v w = hand (v.parts + w.parts) v.all v.put (v.due + w.due) (v.ends + w.ends) (v.taken ++ w.taken)

-- ---- calls

-- Each task that was put was taken by this pass, once.
abbrev pub HasAll : Hand → Type 0
HasAll v = (task : ℕ) → places task v.taken ≡ cond (nat_lt task v.put) 1 0

-- A task was put, or a sign of the end, with which there are as many parts as signs.
abbrev pub HasPut : Hand → Option ℕ → Hand → Type 0
HasPut v (Some task) w = w ≡ hand v.parts v.all (v.put + 1) v.due v.ends v.taken
HasPut v None w = w ≡ hand (v.due + 1) (v.due + 1) v.put (v.due + 1) v.ends v.taken

-- Who has all parts knows how much is in the queue at most.
abbrev pub HasRoom : Hand → List (Option ℕ) → Type 0
HasRoom v items = IsWhole v → length items ≤ v.put + v.due

-- A task was taken, before any sign of the end and after all earlier tasks, or a sign of the end after all tasks.
abbrev pub HasTaken : Hand → Option ℕ → Hand → Type 0
HasTaken v (Some task) w =
    (w ≡ hand v.parts v.all v.put v.due v.ends (v.taken ++ task ∷ [])) × (task < v.put) × All (λ earlier. earlier < task) v.taken × (v.ends ≡ 0)
HasTaken v None w =
    (w ≡ hand v.parts v.all v.put (v.due - 1) (v.ends + 1) v.taken) × (0 < v.due) × (IsWhole v → HasAll v)

-- The queue isn't empty while a sign of the end waits for the pass. Where it is empty, who has all parts has all tasks.
abbrev pub HasLeft : Hand → List (Option ℕ) → Type 0
HasLeft v items = (0 < v.due → 0 < length items) × (IsWhole v → length items ≡ 0 → HasAll v)
