-- What the entries of a trace name, and the history that they tell.
use Rattle.std.specs.Prelude.{◌≤◌, ◌==◌, ℕ, List, [], ◌∷◌, ◌++◌, filter, map}
use Rattle.script_text.specs.declared.scripts.Line.{Line}
use Rattle.script_text.specs.ScriptContents.{ScriptContents}
use Rattle.trace_check.specs.declared.traces.Entry.{Entry}
use Rattle.trace_check.specs.declared.traces.Entry.TheVariants as entry
use Rattle.yak_model.specs.declared.history.Entry as history
use Rattle.yak_model.specs.declared.history.Entry.TheVariants as happened

-- a script, and the entries of a run of it
pub record Trace : Type 0 where
  pub script : ScriptContents
  pub entries : List Entry

-- the command lines of a number: one at most, since the numbers of a script rise
abbrev pub lines_at : List Line → ℕ → List Line
lines_at lines number = filter (λ line. line.number == number) lines

-- the command lines of a thread
abbrev pub own : ℕ → List Line → List Line
own thread lines = filter (λ line. line.thread == thread) lines

-- the command line that an entry names
abbrev pub named : List Line → Entry → List Line
named lines (entry.Said number reply) = lines_at lines number
named lines (entry.Collected thread) = []

-- the command lines that entries name, one after the other
abbrev pub all_named : List Line → List Entry → List Line
all_named lines [] = []
all_named lines (first ∷ rest) = named lines first ++ all_named lines rest

-- what an entry tells of the history: the call of the line that it names, with its reply, or a collection
abbrev pub told : List Line → Entry → List history.Entry
told lines (entry.Said number reply) = map (λ line. happened.Said line.thread line.call reply) (lines_at lines number)
told lines (entry.Collected thread) = happened.Collected thread ∷ []

-- the history that entries tell
abbrev pub history_of : List Line → List Entry → List history.Entry
history_of lines [] = []
history_of lines (first ∷ rest) = told lines first ++ history_of lines rest

-- a collection is made by one of so many threads
abbrev pub IsOfThreads : ℕ → Entry → Type 0
IsOfThreads threads (entry.Said number reply) = Unit {0}
IsOfThreads threads (entry.Collected thread) = (1 ≤ thread) × (thread ≤ threads)

-- so is each collection
abbrev pub AreOfThreads : ℕ → List Entry → Type 0
AreOfThreads threads [] = Unit {0}
AreOfThreads threads (first ∷ rest) = IsOfThreads threads first × AreOfThreads threads rest
