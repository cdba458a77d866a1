-- Which texts are traces, and the first line that is none of one.
use Rattle.std.specs.Prelude.{◌≡◌, ◌≤◌, ◌<◌, ◌+◌, ◌⊎◌, ℕ, List, [], ◌∷◌, ◌++◌, codes, decimal, drop, length, slice_index_or, take}
use Rattle.script_text.specs.declared.faults.Bad.{Bad}
use Rattle.script_text.specs.ScriptContents.{ScriptContents}
use Rattle.script_text.specs.Replies.{IsReply, reply_words}
use Rattle.script_text.specs.Scripts.{IsBadOf, IsScriptOf, IsSilent}
use Rattle.script_text.specs.Words.{words}
use Rattle.trace_check.specs.declared.traces.Entry.{Entry}
use Rattle.trace_check.specs.declared.traces.Entry.TheVariants as entry
use Rattle.trace_check.specs.declared.traces.TraceError.{TraceError}
use Rattle.trace_check.specs.declared.traces.TraceError.TheVariants as error
use Rattle.trace_check.specs.Traces.{Trace}

-- ---- lines

-- a line that parts a script from its trace: its only word is ==
pub record IsMark (line : List ℕ) : Type 0 where
  pub loud : IsSilent line → ⊥
  pub spelled : words line ≡ codes "==" ∷ []

-- the line at a place
abbrev pub text_line : List (List ℕ) → ℕ → List ℕ
text_line lines i = slice_index_or lines i []

-- the first mark stands behind so many lines
pub record IsMarked (lines : List (List ℕ)) (before : ℕ) : Type 0 where
  pub within : before < length lines
  pub mark : IsMark (text_line lines before)
  pub first : (i : ℕ) → i < before → IsMark (text_line lines i) → ⊥

-- no line is a mark
abbrev pub HasNoMark : List (List ℕ) → Type 0
HasNoMark lines = (i : ℕ) → i < length lines → IsMark (text_line lines i) → ⊥

-- the words of the line of an entry
abbrev pub entry_words : Entry → List (List ℕ)
entry_words (entry.Said number reply) = decimal number ∷ reply_words reply
entry_words (entry.Collected thread) = codes "collected" ∷ decimal thread ∷ []

-- what an entry may hold, where there are so many threads
abbrev pub IsEntry : ℕ → Entry → Type 0
IsEntry threads (entry.Said number reply) = (number ≤ 4294967295) × IsReply reply
IsEntry threads (entry.Collected thread) = (1 ≤ thread) × (thread ≤ threads)

-- the numbers of an entry are those of its type
abbrev pub HasNumbers : Entry → Type 0
HasNumbers (entry.Said number reply) = (number ≤ 4294967295) × IsReply reply
HasNumbers (entry.Collected thread) = Unit {0}

-- so are those of each entry
abbrev pub HaveNumbers : List Entry → Type 0
HaveNumbers [] = Unit {0}
HaveNumbers (first ∷ rest) = HasNumbers first × HaveNumbers rest

-- each entry may stand where there are so many threads
abbrev pub AreEntries : ℕ → List Entry → Type 0
AreEntries threads [] = Unit {0}
AreEntries threads (first ∷ rest) = IsEntry threads first × AreEntries threads rest

-- a line of an entry
pub record IsEntryLine (threads : ℕ) (line : List ℕ) (told : Entry) : Type 0 where
  pub loud : IsSilent line → ⊥
  pub spelled : words line ≡ entry_words told
  pub possible : IsEntry threads told

-- a line that is none of a trace
pub record IsNoEntry (threads : ℕ) (line : List ℕ) : Type 0 where
  pub loud : IsSilent line → ⊥
  pub none : (told : Entry) → IsEntryLine threads line told → ⊥

-- the lines hold these entries
abbrev pub HoldsEntries : ℕ → List (List ℕ) → List Entry → Type 0
HoldsEntries threads [] entries = entries ≡ []
HoldsEntries threads (line ∷ lines) entries =
    (IsSilent line × HoldsEntries threads lines entries)
    ⊎ ((told : Entry) × (others : List Entry) × IsEntryLine threads line told × (entries ≡ told ∷ others) × HoldsEntries threads lines others)

-- of the lines, numbered from a number on, the first that is none of a trace
abbrev pub FirstNoEntry : ℕ → ℕ → List (List ℕ) → ℕ → Type 0
FirstNoEntry threads number [] bad = ⊥
FirstNoEntry threads number (line ∷ lines) bad =
    (IsNoEntry threads line × (bad ≡ number))
    ⊎ ((IsSilent line ⊎ ((told : Entry) × IsEntryLine threads line told)) × FirstNoEntry threads (number + 1) lines bad)

-- a good line adds its entry, if it holds one
abbrev pub AddsEntry : ℕ → List ℕ → List Entry → List Entry → Type 0
AddsEntry threads line before after =
    (IsSilent line × (after ≡ before)) ⊎ ((told : Entry) × IsEntryLine threads line told × (after ≡ before ++ told ∷ []))

-- what an error at a line says of it
abbrev pub StopsAt : ℕ → ℕ → List ℕ → TraceError → Type 0
StopsAt threads number line (error.Script bad) = ⊥
StopsAt threads number line (error.BadTrace bad) = IsNoEntry threads line × (bad ≡ number)
StopsAt threads number line error.Memory = Unit {0}

-- what an error says of lines of entries, numbered from a number on
abbrev pub RefusesEntries : ℕ → ℕ → List (List ℕ) → TraceError → Type 0
RefusesEntries threads number lines (error.Script bad) = ⊥
RefusesEntries threads number lines (error.BadTrace bad) = FirstNoEntry threads number lines bad
RefusesEntries threads number lines error.Memory = Unit {0}

-- ---- texts

-- the lines are a script, a mark, and the lines of these entries
abbrev pub IsTraceOf : List (List ℕ) → Trace → Type 0
IsTraceOf lines trace = (before : ℕ) × IsMarked lines before × IsScriptOf (take before lines) trace.script × HoldsEntries trace.script.heap.threads (drop (before + 1) lines) trace.entries

-- what stands before the mark, or all where there is none, is no script
abbrev pub IsBadScript : List (List ℕ) → Bad → Type 0
IsBadScript lines bad = ((before : ℕ) × IsMarked lines before × IsBadOf (take before lines) bad) ⊎ (HasNoMark lines × IsBadOf lines bad)

-- a script is followed by a line that is none of a trace, or there is no mark, which is told of the line behind the last
abbrev pub IsBadTrace : List (List ℕ) → ℕ → Type 0
IsBadTrace lines number =
    ((before : ℕ) × (script : ScriptContents) × IsMarked lines before × IsScriptOf (take before lines) script × FirstNoEntry script.heap.threads (before + 2) (drop (before + 1) lines) number)
    ⊎ ((script : ScriptContents) × HasNoMark lines × IsScriptOf lines script × (number ≡ length lines + 1))

-- what an error says of the lines
abbrev pub RefusesTrace : List (List ℕ) → TraceError → Type 0
RefusesTrace lines (error.Script bad) = IsBadScript lines bad
RefusesTrace lines (error.BadTrace number) = IsBadTrace lines number
RefusesTrace lines error.Memory = Unit {0}
