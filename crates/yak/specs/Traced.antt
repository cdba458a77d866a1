-- How making a trace and checking one end: the status, what it says of the input, and what is written. No heap is kept.
use Rattle.std.specs.Prelude.{◌≡◌, ◌<◌, ◌≤◌, ◌⊎◌, ℕ, List, [], ◌++◌, codes, decimal, length}
use Rattle.std.specs.Io.KnownBytes.{Appends}
use Rattle.yak_io.specs.Causes.{Rose}
use Rattle.yak_io.specs.declared.TheConstants.{INPUT_LIMIT}
use Rattle.script_text.specs.declared.faults.Bad.{Bad}
use Rattle.script_text.specs.ScriptContents.{ScriptContents}
use Rattle.script_text.specs.Scripts.{IsBadLine, IsScript}
use Rattle.script_text.specs.Words.{lines}
use Rattle.trace_check.specs.declared.traces.Entry.{Entry}
use Rattle.trace_check.specs.Breaks.{IsLawfulTrace, TraceBreaksAt}
use Rattle.trace_check.specs.Reading.{IsBadScript, IsBadTrace, IsTraceOf}
use Rattle.trace_check.specs.Texts.{trace_text}
use Rattle.trace_check.specs.Traces.{Trace, all_named}
use Rattle.yak.specs.declared.endings.Status.{Status}
use Rattle.yak.specs.declared.endings.Status.TheVariants.{Done, Usage, Refused, ReadFault, WriteFault, NoMemory, TooLarge, OutOfHeap, LongWord, BadTrace, NotLawful}
use Rattle.yak.specs.declared.forms.Tracing.{Tracing}
use Rattle.yak.specs.declared.forms.Tracing.TheVariants.{Make, Check}
use Rattle.yak.specs.Keeping.{Keeping}
use Rattle.yak.specs.Endings.{CutBy, EndsBy, EndsRefused, Input, IsFaultless, IsInput, IsTooLarge, KeepsNothing, Meaning, Output, Refuses, WritesNothing, refusal_line}

-- ---- what is written

-- the text is a trace of the script, which names the command lines in their order, is lawful, and reads as it was
pub record IsTraceText (script : ScriptContents) (text : List ℕ) : Type 0 where
  pub entries : List Entry
  pub order : all_named script.lines entries ≡ script.lines
  pub lawful : IsLawfulTrace script entries
  pub written : text ≡ trace_text script entries
  pub reads : IsTraceOf (lines text) (record { script = script; entries = entries })

-- the bytes are a script, and the text is a trace of it
pub record Traces (bytes text : List ℕ) : Type 0 where
  pub script : ScriptContents
  pub read : IsScript bytes script
  pub made : IsTraceText script text

-- what is written of a lawful trace
abbrev pub lawful_line : List ℕ
lawful_line = codes "lawful\n"

-- the bytes are a trace that is lawful, and the text says so
pub record SaysLawful (bytes text : List ℕ) : Type 0 where
  pub trace : Trace
  pub read : IsTraceOf (lines bytes) trace
  pub lawful : IsLawfulTrace trace.script trace.entries
  pub written : text ≡ lawful_line

-- the line that tells the entry that breaks a trace
abbrev pub entry_line : ℕ → List ℕ
entry_line entry = codes "entry " ++ decimal entry ++ codes "\n"

-- the bytes are a trace, and the text tells the first entry that breaks it
pub record TellsBreak (bytes text : List ℕ) : Type 0 where
  pub trace : Trace
  pub read : IsTraceOf (lines bytes) trace
  pub entry : ℕ
  pub breaks : TraceBreaksAt trace.script trace.entries entry
  pub written : text ≡ entry_line entry

-- the line that tells a line that isn't one of a trace
abbrev pub bad_trace_line : ℕ → List ℕ
bad_trace_line line = codes "line " ++ decimal line ++ codes ": bad trace\n"

-- a script is followed by no trace, and the text tells the first line that isn't one of a trace
pub record TellsBadTrace (bytes text : List ℕ) : Type 0 where
  pub line : ℕ
  pub refused : IsBadTrace (lines bytes) line
  pub written : text ≡ bad_trace_line line

-- what stands before a trace is no script, and the text tells why
pub record TellsBadScript (bytes text : List ℕ) : Type 0 where
  pub bad : Bad
  pub refused : IsBadScript (lines bytes) bad
  pub written : text ≡ refusal_line bad

-- ---- what each status says

-- what tracing a text of bytes comes to: a status, and the text that belongs to it
abbrev pub traces_to : Status → List ℕ → List ℕ → Type 0
traces_to Done bytes text = Traces bytes text
traces_to Refused bytes text = Refuses bytes text
traces_to NoMemory bytes text = text ≡ []
traces_to Usage bytes text = ⊥
traces_to ReadFault bytes text = ⊥
traces_to WriteFault bytes text = ⊥
traces_to TooLarge bytes text = ⊥
traces_to OutOfHeap bytes text = ⊥
traces_to LongWord bytes text = ⊥
traces_to BadTrace bytes text = ⊥
traces_to NotLawful bytes text = ⊥

-- what checking a text of bytes comes to
abbrev pub checks_to : Status → List ℕ → List ℕ → Type 0
checks_to Done bytes text = SaysLawful bytes text
checks_to Refused bytes text = TellsBadScript bytes text
checks_to BadTrace bytes text = TellsBadTrace bytes text
checks_to NotLawful bytes text = TellsBreak bytes text
checks_to NoMemory bytes text = text ≡ []
checks_to Usage bytes text = ⊥
checks_to ReadFault bytes text = ⊥
checks_to WriteFault bytes text = ⊥
checks_to TooLarge bytes text = ⊥
checks_to OutOfHeap bytes text = ⊥
checks_to LongWord bytes text = ⊥

-- what either comes to
abbrev pub tracing_to : Tracing → Status → List ℕ → List ℕ → Type 0
tracing_to Make status bytes text = traces_to status bytes text
tracing_to Check status bytes text = checks_to status bytes text

-- the bytes of the input come to the status and the text
abbrev pub OfInput : Tracing → Status → Input → List ℕ → Type 0
OfInput tracing status input text = (bytes : List ℕ) × IsInput input bytes × tracing_to tracing status bytes text

-- what a status says of the input, and the text that belongs to it
abbrev pub tracing_means : Tracing → Status → Input → List ℕ → Type 0
tracing_means tracing Done input text = OfInput tracing Done input text
tracing_means tracing Refused input text = OfInput tracing Refused input text
tracing_means tracing BadTrace input text = OfInput tracing BadTrace input text
tracing_means tracing NotLawful input text = OfInput tracing NotLawful input text
tracing_means tracing ReadFault input text = Rose input.faults_before input.faults_after × (text ≡ [])
tracing_means tracing TooLarge input text = IsTooLarge input × (text ≡ [])
tracing_means tracing NoMemory input text = text ≡ []
tracing_means tracing Usage input text = ⊥
tracing_means tracing WriteFault input text = ⊥
tracing_means tracing OutOfHeap input text = ⊥
tracing_means tracing LongWord input text = ⊥

-- the same, where no heap is kept
abbrev pub traced_means : Tracing → Meaning
traced_means tracing status input text kept = tracing_means tracing status input text × KeepsNothing kept

-- ---- how it ends

-- the bytes of the input are a script, and its trace was written
abbrev pub EndsTraced : Input → Output → Type 0
EndsTraced input output = (bytes : List ℕ) × IsInput input bytes × ((text : List ℕ) × Traces bytes text × Appends output.before output.after text)

-- the bytes of the input are a lawful trace, and this was written
abbrev pub EndsLawful : Input → Output → Type 0
EndsLawful input output = (bytes : List ℕ) × IsInput input bytes × ((text : List ℕ) × SaysLawful bytes text × Appends output.before output.after text)

-- the bytes of the input are a trace that breaks, and its first entry that does was written
abbrev pub EndsBroken : Input → Output → Type 0
EndsBroken input output = (bytes : List ℕ) × IsInput input bytes × ((text : List ℕ) × TellsBreak bytes text × Appends output.before output.after text)

-- a script is followed by no trace, and the first line that isn't one was written
abbrev pub EndsBadTrace : Input → Output → Type 0
EndsBadTrace input output = (bytes : List ℕ) × IsInput input bytes × ((text : List ℕ) × TellsBadTrace bytes text × Appends output.before output.after text)

-- what stands before a trace is no script, and the line that tells why was written
abbrev pub EndsBadScript : Input → Output → Type 0
EndsBadScript input output = (bytes : List ℕ) × IsInput input bytes × ((text : List ℕ) × TellsBadScript bytes text × Appends output.before output.after text)

-- What both have in common: a run with this input and output answered the number and kept this.
pub record AnswersTracing (tracing : Tracing) (number : ℕ) (input : Input) (output : Output) (keeping : Keeping) : Type 0 where
  pub ending : EndsBy (traced_means tracing) number input output keeping
  pub read_fault : number ≡ 3 → Rose input.faults_before input.faults_after × WritesNothing output
  pub write_fault : number ≡ 4 → Rose output.faults_before output.faults_after
  pub cut : number ≡ 4 → CutBy (traced_means tracing) input output
  pub no_memory : number ≡ 5 → WritesNothing output
  pub too_large : number ≡ 6 → IsTooLarge input × WritesNothing output
  pub no_others : (number ≡ 1) ⊎ (number ≡ 7) ⊎ (number ≡ 8) → ⊥
  pub kept : KeepsNothing keeping
  pub every_excess : (bytes : List ℕ) → IsFaultless input output bytes → INPUT_LIMIT < length bytes → (number ≡ 6) ⊎ (number ≡ 5)

-- A run that made a trace with this input and output answered the number and kept this.
pub record AnswersTrace (number : ℕ) (input : Input) (output : Output) (keeping : Keeping) : Type 0 where
  pub both : AnswersTracing Make number input output keeping
  pub traces : number ≡ 0 → EndsTraced input output
  pub refused : number ≡ 2 → EndsRefused input output
  pub no_check : (number ≡ 9) ⊎ (number ≡ 10) → ⊥
  pub every_script : (bytes : List ℕ) (script : ScriptContents) → IsFaultless input output bytes → length bytes ≤ INPUT_LIMIT → IsScript bytes script
      → (number ≡ 0) ⊎ (number ≡ 5)
  pub every_refusal : (bytes : List ℕ) (bad : Bad) → IsFaultless input output bytes → length bytes ≤ INPUT_LIMIT → IsBadLine bytes bad
      → (number ≡ 2) ⊎ (number ≡ 5)

-- A run that checked a trace with this input and output answered the number and kept this.
pub record AnswersCheck (number : ℕ) (input : Input) (output : Output) (keeping : Keeping) : Type 0 where
  pub both : AnswersTracing Check number input output keeping
  pub lawful : number ≡ 0 → EndsLawful input output
  pub refused : number ≡ 2 → EndsBadScript input output
  pub bad_trace : number ≡ 9 → EndsBadTrace input output
  pub not_lawful : number ≡ 10 → EndsBroken input output
  pub every_lawful : (bytes : List ℕ) (trace : Trace) → IsFaultless input output bytes → length bytes ≤ INPUT_LIMIT → IsTraceOf (lines bytes) trace
      → IsLawfulTrace trace.script trace.entries → (number ≡ 0) ⊎ (number ≡ 5)
  pub every_break : (bytes : List ℕ) (trace : Trace) (entry : ℕ) → IsFaultless input output bytes → length bytes ≤ INPUT_LIMIT → IsTraceOf (lines bytes) trace
      → TraceBreaksAt trace.script trace.entries entry → (number ≡ 10) ⊎ (number ≡ 5)
  pub every_bad_script : (bytes : List ℕ) (bad : Bad) → IsFaultless input output bytes → length bytes ≤ INPUT_LIMIT → IsBadScript (lines bytes) bad
      → (number ≡ 2) ⊎ (number ≡ 5)
  pub every_bad_trace : (bytes : List ℕ) (line : ℕ) → IsFaultless input output bytes → length bytes ≤ INPUT_LIMIT → IsBadTrace (lines bytes) line
      → (number ≡ 9) ⊎ (number ≡ 5)
