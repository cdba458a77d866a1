-- Lawful traces, and the first entry that breaks one.
use Rattle.std.specs.Prelude.{◌≡◌, ◌+◌, ◌≤◌, ◌⊎◌, ℕ, List, [], ◌∷◌, ◌++◌, length}
use Rattle.script_text.specs.declared.scripts.Line.{Line}
use Rattle.script_text.specs.ScriptContents.{ScriptContents}
use Rattle.yak_model.specs.Graph.{standard_limits}
use Rattle.yak_model.specs.declared.history.Entry as history
use Rattle.yak_model.specs.declared.history.Entry.TheVariants as happened
use Rattle.yak_model.specs.Lawful.{BeginsWithCause, EndsCollected, IsLawful, IsReplyLawful}
use Rattle.yak_model.specs.Machine.{CanTurn}
use Rattle.yak_model.specs.Spaces.{SpaceState, spaces}
use Rattle.trace_check.specs.declared.traces.Entry.{Entry}
use Rattle.trace_check.specs.declared.traces.Entry.TheVariants as entry
use Rattle.trace_check.specs.Traces.{all_named, history_of, lines_at, own, told}

-- the history that entries tell leaves this state of the script's heap
abbrev pub Leaves : ScriptContents → List Entry → SpaceState → Type 0
Leaves script entries s = spaces standard_limits script.heap.threads (history_of script.lines entries) s

-- an entry names the first line of its thread that no entry before it names: the thread's lines are those named before, this one,
-- and others
abbrev pub NamesNext : List Line → List Entry → Entry → Type 0
NamesNext lines before (entry.Said number reply) =
    (line : Line) × (later : List Line) × (lines_at lines number ≡ line ∷ []) × (own line.thread lines ≡ own line.thread (all_named lines before) ++ line ∷ later)
NamesNext lines before (entry.Collected thread) = Unit {0}

-- an entry of a history may come in this state, as far as the room in so many pages goes
abbrev pub HasRoom : ℕ → List history.Entry → SpaceState → history.Entry → Type 0
HasRoom pages before s (happened.Said thread asked said) = IsReplyLawful pages before s thread said
HasRoom pages before s (happened.Collected thread) = Unit {0}

-- An entry doesn't break the trace after these: it names a line in its turn, it is the cause of a collection that stands directly
-- before it, and the heap can do what it tells in the state that the entries before it leave.
pub record Continues (script : ScriptContents) (before : List Entry) (next : Entry) : Type 0 where
  pub named : NamesNext script.lines before next
  pub step : history.Entry
  pub tells : told script.lines next ≡ step ∷ []
  pub caused : (t : ℕ) → EndsCollected (history_of script.lines before) t → BeginsWithCause (step ∷ []) t
  pub allowed : (s : SpaceState) → Leaves script before s → CanTurn s step × HasRoom script.heap.pages (history_of script.lines before) s step

-- No entry breaks.
abbrev pub AllContinue : ScriptContents → List Entry → Type 0
AllContinue script entries = (before : List Entry) (next : Entry) (rest : List Entry) → entries ≡ before ++ next ∷ rest → Continues script before next

-- All is told: no collection is left without the call that made it, and each command line is named.
pub record IsWhole (script : ScriptContents) (entries : List Entry) : Type 0 where
  pub settled : (t : ℕ) → EndsCollected (history_of script.lines entries) t → ⊥
  pub named : (t : ℕ) → 1 ≤ t → t ≤ script.heap.threads → own t (all_named script.lines entries) ≡ own t script.lines

-- This entry, counted from 1, is the first that breaks; or none breaks, not all is told, and it is one past the last.
abbrev pub TraceBreaksAt : ScriptContents → List Entry → ℕ → Type 0
TraceBreaksAt script entries k =
    ((before : List Entry) × (next : Entry) × (rest : List Entry) × (entries ≡ before ++ next ∷ rest) × AllContinue script before × (Continues script before next → ⊥) × (k ≡ length before + 1))
    ⊎ (AllContinue script entries × (IsWhole script entries → ⊥) × (k ≡ length entries + 1))

-- each entry names a command line or tells a collection
abbrev pub EachTells : List Line → List Entry → Type 0
EachTells lines [] = Unit {0}
EachTells lines (first ∷ rest) = ((step : history.Entry) × (told lines first ≡ step ∷ [])) × EachTells lines rest

-- The entries tell a history that a heap of the script's pages and threads may make. It names each command line once, and the
-- lines of a thread in their order.
pub record IsLawfulTrace (script : ScriptContents) (entries : List Entry) : Type 0 where
  pub each : EachTells script.lines entries
  pub order : (t : ℕ) → 1 ≤ t → t ≤ script.heap.threads → own t (all_named script.lines entries) ≡ own t script.lines
  pub lawful : IsLawful standard_limits script.heap.threads script.heap.pages (history_of script.lines entries)
