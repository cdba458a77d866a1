-- How a count by workers with threads of their own ends: its status, what the status says of the input, what is written, and what is kept.
use Rattle.std.specs.Prelude.{◌≡◌, ◌≢◌, ◌*◌, ◌<◌, ◌≤◌, ◌⊎◌, ℕ, Bool, true, false, List, [], length}
use Rattle.std.specs.List.{flat_map}
use Rattle.std.specs.Io.KnownBytes.{Appends}
use Rattle.yak_io.specs.Causes.{Rose}
use Rattle.object_layout.specs.declared.replies.Census.{Census}
use Rattle.heap_words.specs.declared.map.Areas.{Areas}
use Rattle.heap_words.specs.Map.{page_words}
use Rattle.yak_model.specs.Room.{least_room}
use Rattle.yak_model.specs.Texts.{counts_of, words_of}
use Rattle.safepoint_gate.specs.declared.finished.Finished.{Finished}
use Rattle.safepoint_gate.specs.declared.rule.View.{View}
use Rattle.yak_io.specs.declared.TheConstants.{INPUT_LIMIT}
use Rattle.group_jobs.specs.LongWords.{has_long_word}
use Rattle.group_jobs.specs.Printing.{count_line}
use Rattle.group_jobs.specs.Shared.{IsCountedFed, IsCountedShared, TellsWhyShared}
use Rattle.group_jobs.specs.declared.count.CountError.TheVariants as CountError
use Rattle.yak.specs.declared.endings.Status.{Status}
use Rattle.yak.specs.declared.endings.Status.TheVariants.{Done, Usage, Refused, ReadFault, WriteFault, NoMemory, TooLarge, OutOfHeap, LongWord, BadTrace, NotLawful}
use Rattle.yak.specs.declared.forms.Options.{Options}
use Rattle.yak.specs.Keeping.{Keeping, shared}
use Rattle.yak.specs.Endings.{CutBy, EndsBy, EndsLong, Input, IsFaultless, IsInput, IsTooLarge, KeepsNothing, Meaning, Output, TellsLong, WritesNothing}

-- the size of the heap that the command asks for: its pages, and a thread for each worker
abbrev pub size_of_heap : Options → Areas
size_of_heap options = record { pages = options.pages; threads = options.workers }

-- The words of the bytes were counted in tasks of so many lines, and so the workers left the heap: each counted its fixed share of
-- the tasks, or, where they took the tasks from a queue, each those of its row, for some rows in which each task stands once.
abbrev pub IsCountedBy : Bool → Areas → ℕ → List ℕ → View → Type 0
IsCountedBy false size lines bytes v = IsCountedShared size lines bytes v
IsCountedBy true size lines bytes v = (rows : List (List ℕ)) × IsCountedFed size lines bytes rows v

-- The words of the bytes, none of them too long, were counted by the command's workers in a heap of the command's pages, which have
-- room for the root and the tables of the counts. They left it so, and the text has one line for each word, in ascending order.
pub record CountsShared (options : Options) (bytes text : List ℕ) (v : View) : Type 0 where
  pub short : has_long_word bytes ≡ false
  pub heap : IsCountedBy options.feed (size_of_heap options) options.task bytes v
  pub written : text ≡ flat_map count_line (counts_of (words_of bytes))
  pub room : least_room (words_of bytes) ≤ page_words (size_of_heap options) * options.pages

-- The words of the bytes, none of them too long, found no room in a heap of the command's pages and workers, which tells why, as all
-- workers left it.
pub record RunsOutShared (options : Options) (bytes : List ℕ) (v : View) : Type 0 where
  pub short : has_long_word bytes ≡ false
  pub census : Census
  pub finished : Finished
  pub left : v ≡ finished.seat.me.0
  pub why : TellsWhyShared (size_of_heap options) options.task bytes (CountError.OutOfHeap census finished)

-- what counting the words of a text of bytes by these workers comes to: a status, the text that belongs to it, and the heap
abbrev pub shares_to : Options → Status → List ℕ → List ℕ → Keeping → Type 0
shares_to options Done bytes text kept = (v : View) × (kept ≡ shared v) × CountsShared options bytes text v
shares_to options OutOfHeap bytes text kept = ((v : View) × (kept ≡ shared v) × RunsOutShared options bytes v) × (text ≡ [])
shares_to options LongWord bytes text kept = TellsLong bytes text × KeepsNothing kept
shares_to options NoMemory bytes text kept = (text ≡ []) × KeepsNothing kept
shares_to options Usage bytes text kept = ⊥
shares_to options Refused bytes text kept = ⊥
shares_to options ReadFault bytes text kept = ⊥
shares_to options WriteFault bytes text kept = ⊥
shares_to options TooLarge bytes text kept = ⊥
shares_to options BadTrace bytes text kept = ⊥
shares_to options NotLawful bytes text kept = ⊥

-- the bytes of the input come to the status, the text and the heap
abbrev pub SharesInput : Options → Meaning
SharesInput options status input text kept = (bytes : List ℕ) × IsInput input bytes × shares_to options status bytes text kept

-- what a status says of the input, the text that belongs to it, and the heap that is kept
abbrev pub shares_mean : Options → Meaning
shares_mean options Done input text kept = SharesInput options Done input text kept
shares_mean options OutOfHeap input text kept = SharesInput options OutOfHeap input text kept
shares_mean options LongWord input text kept = SharesInput options LongWord input text kept
shares_mean options ReadFault input text kept = Rose input.faults_before input.faults_after × (text ≡ []) × KeepsNothing kept
shares_mean options NoMemory input text kept = (text ≡ []) × KeepsNothing kept
shares_mean options TooLarge input text kept = IsTooLarge input × (text ≡ []) × KeepsNothing kept
shares_mean options Usage input text kept = ⊥
shares_mean options Refused input text kept = ⊥
shares_mean options WriteFault input text kept = ⊥
shares_mean options BadTrace input text kept = ⊥
shares_mean options NotLawful input text kept = ⊥

-- the headline of such a count: the workers counted the words of the input, their counts were written, and the heap is kept
abbrev pub EndsCountedShared : Options → Input → Output → Keeping → Type 0
EndsCountedShared options input output kept =
    (bytes : List ℕ) × IsInput input bytes × ((text : List ℕ) × (v : View) × (kept ≡ shared v) × CountsShared options bytes text v × Appends output.before output.after text)

-- the heap of such a count ran out, nothing was written, and the heap is kept
abbrev pub EndsOutShared : Options → Input → Output → Keeping → Type 0
EndsOutShared options input output kept =
    ((bytes : List ℕ) × IsInput input bytes × ((v : View) × (kept ≡ shared v) × RunsOutShared options bytes v)) × WritesNothing output

-- A count by workers with threads of their own, with this input and output answered the number and kept this.
pub record AnswersShared (options : Options) (number : ℕ) (input : Input) (output : Output) (keeping : Keeping) : Type 0 where
  pub ending : EndsBy (shares_mean options) number input output keeping
  pub counts : number ≡ 0 → EndsCountedShared options input output keeping
  pub read_fault : number ≡ 3 → Rose input.faults_before input.faults_after × WritesNothing output
  pub write_fault : number ≡ 4 → Rose output.faults_before output.faults_after
  pub cut : number ≡ 4 → CutBy (shares_mean options) input output
  pub no_memory : number ≡ 5 → WritesNothing output
  pub too_large : number ≡ 6 → IsTooLarge input × WritesNothing output
  pub out_of_heap : number ≡ 7 → EndsOutShared options input output keeping
  pub long_word : number ≡ 8 → EndsLong input output
  pub no_others : (number ≡ 1) ⊎ (number ≡ 2) ⊎ (number ≡ 9) ⊎ (number ≡ 10) → ⊥
  pub kept : number ≢ 0 → number ≢ 7 → KeepsNothing keeping
  pub every_count : (bytes : List ℕ) → IsFaultless input output bytes → length bytes ≤ INPUT_LIMIT → has_long_word bytes ≡ false
      → (number ≡ 0) ⊎ (number ≡ 7) ⊎ (number ≡ 5)
  pub every_long_word : (bytes : List ℕ) → IsFaultless input output bytes → length bytes ≤ INPUT_LIMIT → has_long_word bytes ≡ true
      → (number ≡ 8) ⊎ (number ≡ 5)
  pub every_excess : (bytes : List ℕ) → IsFaultless input output bytes → INPUT_LIMIT < length bytes → (number ≡ 6) ⊎ (number ≡ 5)
