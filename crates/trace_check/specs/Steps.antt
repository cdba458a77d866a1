-- Entries of a history one after the other, as far as the next one depends on the last.
use Rattle.std.specs.Prelude.{◌≡◌, ℕ, List, [], ◌∷◌, ◌++◌, Option, Some, None}
use Rattle.object_layout.specs.Calls.{IsCall}
use Rattle.yak_model.specs.declared.history.Entry as history
use Rattle.yak_model.specs.declared.history.Entry.TheVariants as happened
use Rattle.yak_model.specs.Lawful.{BeginsWithCause, EndsCollected}
use Rattle.yak_model.specs.Spaces.{SpaceState}
use Rattle.trace_check.specs.declared.traces.Step.{Step}
use Rattle.trace_check.specs.declared.traces.Step.TheVariants.{Said, Collected}
use Rattle.trace_check.specs.Breaks.{HasRoom}

-- the thread that makes a step
abbrev pub thread_of : Step → ℕ
thread_of (Said thread asked said) = thread
thread_of (Collected thread) = thread

-- the entry of a history that a step is
abbrev pub entry_of : Step → history.Entry
entry_of (Said thread asked said) = happened.Said thread asked said
entry_of (Collected thread) = happened.Collected thread

-- the number of an integer is one that a value can hold
abbrev pub IsPossible : Step → Type 0
IsPossible (Said thread asked said) = IsCall asked
IsPossible (Collected thread) = Unit {0}

-- a history of the last step alone
abbrev pub last_alone : Option Step → List history.Entry
last_alone None = []
last_alone (Some step) = entry_of step ∷ []

-- the history ends with this step, or is empty where there is none
abbrev pub IsLast : List history.Entry → Option Step → Type 0
IsLast before None = before ≡ []
IsLast before (Some step) = (former : List history.Entry) × (before ≡ former ++ entry_of step ∷ [])

-- a collection that is the last step was made inside the call that comes next
abbrev pub IsCaused : Option Step → Step → Type 0
IsCaused last step = (t : ℕ) → EndsCollected (last_alone last) t → BeginsWithCause (entry_of step ∷ []) t

-- a step may come after the last one, as far as collections and room in so many pages go
pub record MayFollow (pages : ℕ) (last : Option Step) (s : SpaceState) (step : Step) : Type 0 where
  pub caused : IsCaused last step
  pub room : HasRoom pages (last_alone last) s (entry_of step)
