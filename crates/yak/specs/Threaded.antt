-- How a run in threads ends: its status, what the status says of the input, what is written, and what is kept.
use Rattle.std.specs.Prelude.{◌≡◌, ◌≢◌, ◌<◌, ◌≤◌, ◌⊎◌, ℕ, List, [], length}
use Rattle.std.specs.Io.KnownBytes.{Appends}
use Rattle.yak_io.specs.Causes.{Rose}
use Rattle.object_layout.specs.declared.replies.Reply.{Reply}
use Rattle.safepoint_gate.specs.declared.rule.View.{View}
use Rattle.yak_io.specs.declared.TheConstants.{INPUT_LIMIT}
use Rattle.script_text.specs.declared.faults.Bad.{Bad}
use Rattle.script_text.specs.ScriptContents.{ScriptContents}
use Rattle.script_text.specs.Scripts.{IsScript, IsBadLine}
use Rattle.script_runner.specs.Threaded.{IsThreaded}
use Rattle.yak.specs.declared.endings.Status.{Status}
use Rattle.yak.specs.declared.endings.Status.TheVariants.{Done, Usage, Refused, ReadFault, WriteFault, NoMemory, TooLarge, OutOfHeap, LongWord, BadTrace, NotLawful}
use Rattle.yak.specs.Keeping.{Keeping, shared}
use Rattle.yak.specs.Endings.{CutBy, EndsBy, EndsRefused, Input, IsFaultless, IsInput, IsTooLarge, KeepsNothing, Meaning, Output, Refuses, WritesNothing}
use Rattle.yak.specs.Texts.{replies_text}

-- the bytes are a script, whose threads ran and left words of this view, and the text tells the replies
pub record RunsThreads (bytes text : List ℕ) (v : View) : Type 0 where
  pub script : ScriptContents
  pub replies : List Reply
  pub read : IsScript bytes script
  pub run : IsThreaded script.heap script.lines replies v
  pub written : text ≡ replies_text script.lines replies

-- what reading a text of bytes and running it in threads comes to: a status, the text that belongs to it, and the heap
abbrev pub runs_to : Status → List ℕ → List ℕ → Keeping → Type 0
runs_to Done bytes text kept = (v : View) × (kept ≡ shared v) × RunsThreads bytes text v
runs_to Refused bytes text kept = Refuses bytes text × KeepsNothing kept
runs_to NoMemory bytes text kept = (text ≡ []) × KeepsNothing kept
runs_to Usage bytes text kept = ⊥
runs_to ReadFault bytes text kept = ⊥
runs_to WriteFault bytes text kept = ⊥
runs_to OutOfHeap bytes text kept = ⊥
runs_to LongWord bytes text kept = ⊥
runs_to BadTrace bytes text kept = ⊥
runs_to NotLawful bytes text kept = ⊥
runs_to TooLarge bytes text kept = ⊥

-- what a status says of the input, the text that belongs to it, and the heap that is kept
abbrev pub threads_mean : Meaning
threads_mean Done input text kept = (bytes : List ℕ) × IsInput input bytes × ((v : View) × (kept ≡ shared v) × RunsThreads bytes text v)
threads_mean Refused input text kept = ((bytes : List ℕ) × IsInput input bytes × Refuses bytes text) × KeepsNothing kept
threads_mean ReadFault input text kept = Rose input.faults_before input.faults_after × (text ≡ []) × KeepsNothing kept
threads_mean NoMemory input text kept = (text ≡ []) × KeepsNothing kept
threads_mean TooLarge input text kept = IsTooLarge input × (text ≡ []) × KeepsNothing kept
threads_mean Usage input text kept = ⊥
threads_mean WriteFault input text kept = ⊥
threads_mean OutOfHeap input text kept = ⊥
threads_mean LongWord input text kept = ⊥
threads_mean BadTrace input text kept = ⊥
threads_mean NotLawful input text kept = ⊥

-- the headline: the input is a script, its threads ran, the replies to its calls were written, and the heap is kept
abbrev pub EndsThreaded : Input → Output → Keeping → Type 0
EndsThreaded input output kept =
    (bytes : List ℕ) × IsInput input bytes × ((text : List ℕ) × (v : View) × (kept ≡ shared v) × RunsThreads bytes text v × Appends output.before output.after text)

-- A run in threads with this input and output answered the number and kept this.
pub record AnswersThreads (number : ℕ) (input : Input) (output : Output) (keeping : Keeping) : Type 0 where
  pub ending : EndsBy threads_mean number input output keeping
  pub runs : number ≡ 0 → EndsThreaded input output keeping
  pub refused : number ≡ 2 → EndsRefused input output
  pub read_fault : number ≡ 3 → Rose input.faults_before input.faults_after × WritesNothing output
  pub write_fault : number ≡ 4 → Rose output.faults_before output.faults_after
  pub cut : number ≡ 4 → CutBy threads_mean input output
  pub no_memory : number ≡ 5 → WritesNothing output
  pub too_large : number ≡ 6 → IsTooLarge input × WritesNothing output
  pub no_others : (number ≡ 1) ⊎ (number ≡ 7) ⊎ (number ≡ 8) ⊎ (number ≡ 9) ⊎ (number ≡ 10) → ⊥
  pub kept : number ≢ 0 → KeepsNothing keeping
  pub every_script : (bytes : List ℕ) (script : ScriptContents) → IsFaultless input output bytes → length bytes ≤ INPUT_LIMIT → IsScript bytes script
      → (number ≡ 0) ⊎ (number ≡ 5)
  pub every_refusal : (bytes : List ℕ) (bad : Bad) → IsFaultless input output bytes → length bytes ≤ INPUT_LIMIT → IsBadLine bytes bad
      → (number ≡ 2) ⊎ (number ≡ 5)
  pub every_excess : (bytes : List ℕ) → IsFaultless input output bytes → INPUT_LIMIT < length bytes → (number ≡ 6) ⊎ (number ≡ 5)
