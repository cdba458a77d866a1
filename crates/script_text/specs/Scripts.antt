-- A script, line by line, and the first line that is none of one.
use Rattle.std.specs.Prelude.{◌≡◌, ◌≤◌, ◌+◌, ◌⊎◌, ℕ, List, [], ◌∷◌, ◌++◌, codes, decimal, slice_index}
use Rattle.object_layout.specs.declared.calls.Call.{Call}
use Rattle.object_layout.specs.declared.TheConstants.{MAX_THREADS}
use Rattle.heap_words.specs.declared.TheConstants.{MAX_PAGES}
use Rattle.script_text.specs.declared.faults.Reason.{Reason}
use Rattle.script_text.specs.declared.faults.Reason.TheVariants.{BadHeader}
use Rattle.script_text.specs.declared.faults.Bad.{Bad}
use Rattle.script_text.specs.declared.faults.ReadError.{ReadError}
use Rattle.script_text.specs.declared.faults.ReadError.TheVariants.{Refused, Memory}
use Rattle.script_text.specs.declared.scripts.Line.{Line}
use Rattle.script_text.specs.Commands.{IsSayable, command_words}
use Rattle.script_text.specs.ScriptContents.{ScriptContents, Heap}
use Rattle.script_text.specs.Faults.{Faulty}
use Rattle.script_text.specs.Words.{lines, words}

-- a line that holds no command: it has no word, or begins with #
abbrev pub IsSilent : List ℕ → Type 0
IsSilent line = (words line ≡ []) ⊎ (slice_index line 0 ≡ 35)

-- a command line of one of so many threads
pub record IsCommand (threads : ℕ) (line : List ℕ) (thread : ℕ) (call : Call) : Type 0 where
  pub loud : IsSilent line → ⊥
  pub spelled : words line ≡ command_words thread call
  pub sayable : IsSayable threads thread call

-- a line that is none of a script, with the first reason
pub record IsFault (threads : ℕ) (line : List ℕ) (reason : Reason) : Type 0 where
  pub loud : IsSilent line → ⊥
  pub fault : Faulty threads (words line) reason

-- the words of a header
abbrev pub header_words : Heap → List (List ℕ)
header_words heap = codes "heap" ∷ decimal heap.pages ∷ decimal heap.threads ∷ []

-- a heap within the limits
pub record IsPossible (heap : Heap) : Type 0 where
  pub some_pages : 1 ≤ heap.pages
  pub few_pages : heap.pages ≤ MAX_PAGES
  pub some_threads : 1 ≤ heap.threads
  pub few_threads : heap.threads ≤ MAX_THREADS

-- a line that is the header of a heap
pub record IsHeader (line : List ℕ) (heap : Heap) : Type 0 where
  pub spelled : words line ≡ header_words heap
  pub possible : IsPossible heap

-- the lines, numbered from a number on, hold these commands
abbrev pub Holds : ℕ → ℕ → List (List ℕ) → List Line → Type 0
Holds threads number [] commands = commands ≡ []
Holds threads number (line ∷ lines) commands =
    (IsSilent line × Holds threads (number + 1) lines commands)
    ⊎ ((thread : ℕ) × (call : Call) × (others : List Line) × IsCommand threads line thread call
    × (commands ≡ record { number = number; thread = thread; call = call } ∷ others) × Holds threads (number + 1) lines others)

-- of the lines, numbered from a number on, the first that is a fault
abbrev pub FirstFault : ℕ → ℕ → List (List ℕ) → Bad → Type 0
FirstFault threads number [] bad = ⊥
FirstFault threads number (line ∷ lines) bad =
    (IsFault threads line bad.reason × (bad.line ≡ number))
    ⊎ ((IsSilent line ⊎ ((thread : ℕ) × (call : Call) × IsCommand threads line thread call)) × FirstFault threads (number + 1) lines bad)

-- the lines are a header and, from line 2 on, the commands of this script
abbrev pub IsScriptOf : List (List ℕ) → ScriptContents → Type 0
IsScriptOf [] script = ⊥
IsScriptOf (line ∷ lines) script = IsHeader line script.heap × Holds script.heap.threads 2 lines script.lines

-- the first bad line is line 1 where it is no header, and else the first fault from line 2 on
abbrev pub IsBadOf : List (List ℕ) → Bad → Type 0
IsBadOf [] bad = (bad.line ≡ 1) × (bad.reason ≡ BadHeader)
IsBadOf (line ∷ lines) bad =
    (((heap : Heap) → IsHeader line heap → ⊥) × (bad.line ≡ 1) × (bad.reason ≡ BadHeader))
    ⊎ ((heap : Heap) × IsHeader line heap × FirstFault heap.threads 2 lines bad)

-- the bytes are this script
abbrev pub IsScript : List ℕ → ScriptContents → Type 0
IsScript bytes script = IsScriptOf (lines bytes) script

-- the bytes are no script, and this is their first bad line, with its first reason
abbrev pub IsBadLine : List ℕ → Bad → Type 0
IsBadLine bytes bad = IsBadOf (lines bytes) bad

-- what an error says of lines
abbrev pub RefusesOf : List (List ℕ) → ReadError → Type 0
RefusesOf lines (Refused bad) = IsBadOf lines bad
RefusesOf lines Memory = Unit {0}

-- what an error says of the bytes
abbrev pub Refuses : List ℕ → ReadError → Type 0
Refuses bytes error = RefusesOf (lines bytes) error

-- a good line adds its command, if it holds one
abbrev pub Adds : ℕ → ℕ → List ℕ → List Line → List Line → Type 0
Adds threads number line before after =
    (IsSilent line × (after ≡ before))
    ⊎ ((thread : ℕ) × (call : Call) × IsCommand threads line thread call × (after ≡ before ++ record { number = number; thread = thread; call = call } ∷ []))

-- what an error at a line says of it
abbrev pub Stops : ℕ → ℕ → List ℕ → ReadError → Type 0
Stops threads number line (Refused bad) = IsFault threads line bad.reason × (bad.line ≡ number)
Stops threads number line Memory = Unit {0}
