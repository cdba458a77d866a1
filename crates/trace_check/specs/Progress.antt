-- Traces that were checked so far.
use Rattle.std.specs.Prelude.{◌≡◌, ◌≤◌, ℕ, List, [], ◌∷◌, ◌++◌, Option, length}
use Rattle.script_text.specs.declared.scripts.Line.{Line}
use Rattle.script_text.specs.ScriptContents.{ScriptContents}
use Rattle.yak_model.specs.Graph.{standard_limits}
use Rattle.yak_model.specs.declared.history.Entry as history
use Rattle.yak_model.specs.declared.history.Entry.TheVariants as happened
use Rattle.yak_model.specs.Lawful.{BeginsWithCause}
use Rattle.yak_model.specs.Spaces.{SpaceState, spaces}
use Rattle.trace_check.specs.declared.traces.Entry.{Entry}
use Rattle.trace_check.specs.declared.traces.Step.{Step}
use Rattle.trace_check.specs.Traces.{history_of, told}
use Rattle.trace_check.specs.Breaks.{AllContinue, EachTells, HasRoom, Leaves, NamesNext}
use Rattle.trace_check.specs.Cursors.{PointAtNext}
use Rattle.trace_check.specs.Steps.{IsLast, IsPossible, entry_of, thread_of}

-- a step of one of so many threads, with a number that a value can hold
pub record IsStepOf (threads : ℕ) (step : Step) : Type 0 where
  pub some : 1 ≤ thread_of step
  pub few : thread_of step ≤ threads
  pub possible : IsPossible step

-- an entry names a line in its turn, and tells this step
pub record Names (lines : List Line) (before : List Entry) (next : Entry) (step : Step) : Type 0 where
  pub named : NamesNext lines before next
  pub tells : told lines next ≡ entry_of step ∷ []

-- a script of so many pages and threads
abbrev pub script_of : ℕ → ℕ → List Line → ScriptContents
script_of pages threads lines = record { heap = record { pages = pages; threads = threads }; lines = lines }

-- each entry of a history may come where it comes, but that a collection at its end may still lack its cause
abbrev pub HasBegun : ℕ → ℕ → List history.Entry → Type 0
HasBegun pages threads whole =
    (before : List history.Entry) (entry : history.Entry) (rest : List history.Entry) (s : SpaceState) → whole ≡ before ++ entry ∷ rest → spaces standard_limits threads before s
    → HasRoom pages before s entry × ((t : ℕ) → entry ≡ happened.Collected t → (rest ≡ [] → ⊥) → BeginsWithCause rest t)

-- these entries don't break, and leave this state, last step and places of next lines
pub record IsAt (script : ScriptContents) (before : List Entry) (s : SpaceState) (last : Option Step) (cursors : List ℕ) : Type 0 where
  pub goes : AllContinue script before
  pub each : EachTells script.lines before
  pub state : Leaves script before s
  pub ends : IsLast (history_of script.lines before) last
  pub points : PointAtNext script.lines script.heap.threads before cursors
  pub begun : HasBegun script.heap.pages script.heap.threads (history_of script.lines before)
  pub threads : length s.graph.threads ≡ script.heap.threads
  pub limits : s.graph.limits ≡ standard_limits
