-- How a run of the program ends: its status, what the status says of the words and of the input, and what is written.
use Rattle.std.specs.Prelude.{◌≡◌, ◌≢◌, ◌+◌, ◌*◌, ◌<◌, ◌≤◌, ◌⊎◌, ℕ, true, false, List, [], ◌++◌, length, codes, decimal, Option, Some, IfSome}
use Rattle.std.specs.List.{flat_map}
use Rattle.std.specs.Io.KnownBytes.{Appends}
use Rattle.yak_io.specs.Causes.{Rose}
use Rattle.yak_io.specs.Transfers.{TookAll, TookFront}
use Rattle.yak_io.specs.declared.TheConstants.{INPUT_LIMIT}
use Rattle.script_text.specs.declared.faults.Bad.{Bad}
use Rattle.script_text.specs.ScriptContents.{ScriptContents}
use Rattle.script_text.specs.Reasons.{bad_text}
use Rattle.yak.specs.declared.endings.Status.{Status}
use Rattle.yak.specs.declared.endings.Status.TheVariants.{Done, Usage, Refused, ReadFault, WriteFault, NoMemory, TooLarge, OutOfHeap, LongWord, BadTrace, NotLawful}
use Rattle.object_layout.specs.declared.replies.Reply.{Reply}
use Rattle.script_text.specs.Scripts.{IsScript, IsBadLine}
use Rattle.script_runner.specs.Runs.{Held, IsRun}
use Rattle.yak.specs.Keeping.{Keeping, nothing, alone}
use Rattle.heap_words.specs.Contents.{contents}
use Rattle.heap_words.specs.Map.{page_words}
use Rattle.yak_model.specs.Room.{least_room, most_room}
use Rattle.yak_model.specs.Texts.{counts_of, words_of}
use Rattle.group_jobs.specs.LongWords.{has_long_word, long_word_line}
use Rattle.group_jobs.specs.Printing.{count_line}
use Rattle.group_jobs.specs.Alone.{HoldsCounts}
use Rattle.group_jobs.specs.Tallies.{busy_tasks}
use Rattle.group_jobs.specs.Tasks.{AreTasks}
use Rattle.group_jobs.specs.declared.tasks.Task.{Task}
use Rattle.yak.specs.declared.forms.Options.{Options}
use Rattle.yak.specs.Forms.{IsAsked, IsCount, IsGen, IsReading, IsReplay}
use Rattle.yak.specs.Generator.{generated}
use Rattle.yak.specs.Texts.{replies_text, summary}

-- what is written for words of no form that is answered
abbrev pub usage_line : List ℕ
usage_line = codes "usage: yak replay | threads | count [--workers n] [--task lines] [--pages p] [--feed] | gen n | trace | check\n"

-- what a source tells before and after a run, and its counts of faults
pub record Input : Type 0 where
  pub before : Option (List ℕ)
  pub after : Option (List ℕ)
  pub faults_before : ℕ
  pub faults_after : ℕ

-- such a record, from its parts
abbrev pub input_of : Option (List ℕ) → Option (List ℕ) → ℕ → ℕ → Input
input_of before after faults_before faults_after = record { before = before; after = after; faults_before = faults_before; faults_after = faults_after }

-- the same of a sink
pub record Output : Type 0 where
  pub before : Option (List ℕ)
  pub after : Option (List ℕ)
  pub faults_before : ℕ
  pub faults_after : ℕ

-- such a record, from its parts
abbrev pub output_of : Option (List ℕ) → Option (List ℕ) → ℕ → ℕ → Output
output_of before after faults_before faults_after = record { before = before; after = after; faults_before = faults_before; faults_after = faults_after }

-- the bytes are the whole input, which is not too large
pub record IsInput (input : Input) (bytes : List ℕ) : Type 0 where
  pub whole : TookAll input.before input.after bytes
  pub within : length bytes ≤ INPUT_LIMIT

-- more bytes were given than an input may have
abbrev pub IsTooLarge : Input → Type 0
IsTooLarge input = IfSome input.before (λ told. INPUT_LIMIT < length told)

-- the bytes are a script, which ran and left this heap, and the text tells the replies
pub record Replays (bytes text : List ℕ) (held : Held) : Type 0 where
  pub script : ScriptContents
  pub replies : List Reply
  pub read : IsScript bytes script
  pub run : IsRun script.heap script.lines replies held
  pub written : text ≡ replies_text script.lines replies

-- the script of so many rounds ran and left this heap, and the text sums up the replies
pub record Generates (rounds : ℕ) (text : List ℕ) (held : Held) : Type 0 where
  pub replies : List Reply
  pub run : IsRun (generated rounds).heap (generated rounds).lines replies held
  pub written : text ≡ summary (generated rounds).lines replies

-- The words of the bytes, none of them too long, were counted by one worker in a heap of the command's pages, which have room for
-- the root and the tables of the counts. It left the heap with a table of the counts, and the text has one line for each word, in
-- ascending order.
pub record Counts (options : Options) (bytes text : List ℕ) (held : Held) : Type 0 where
  pub short : has_long_word bytes ≡ false
  pub map : held.map ≡ record { pages = options.pages; threads = 1 }
  pub heap : HoldsCounts held.map (contents held.map held.words) (words_of bytes)
  pub written : text ≡ flat_map count_line (counts_of (words_of bytes))
  pub room : least_room (words_of bytes) ≤ page_words (record { pages = options.pages; threads = 1 }) * options.pages

-- The words of the bytes, none of them too long, found no room in a heap of the command's pages, which are no more than the count of
-- its tasks may fill. There is a word.
pub record RunsOut (options : Options) (bytes : List ℕ) : Type 0 where
  pub short : has_long_word bytes ≡ false
  pub some : words_of bytes ≢ []
  pub tasks : List Task
  pub cut : AreTasks bytes options.task tasks
  pub room : page_words (record { pages = options.pages; threads = 1 }) * options.pages
      ≤ 2 * most_room 1 (busy_tasks bytes tasks) (words_of bytes) + 2 * page_words (record { pages = options.pages; threads = 1 })

-- the line that tells the first line with a word that is too long
abbrev pub long_line : ℕ → List ℕ
long_line line = codes "line " ++ decimal line ++ codes ": long word\n"

-- the bytes have a word that is too long, and this text tells the line of the first one
pub record TellsLong (bytes text : List ℕ) : Type 0 where
  pub long : has_long_word bytes ≡ true
  pub line : ℕ
  pub first : long_word_line bytes ≡ Some line
  pub written : text ≡ long_line line

-- the line that tells the first bad line of a text and its reason
abbrev pub refusal_line : Bad → List ℕ
refusal_line bad = bad_text bad ++ codes "\n"

-- the bytes are no script, and this text tells why
pub record Refuses (bytes text : List ℕ) : Type 0 where
  pub bad : Bad
  pub refused : IsBadLine bytes bad
  pub line : text ≡ refusal_line bad

-- what is kept of a heap, where any is: nothing but after a script ran or a text was counted
abbrev pub KeepsNothing : Keeping → Type 0
KeepsNothing kept = kept ≡ nothing

-- what reading and running a text of bytes comes to: a status, the text that belongs to it, and the heap
abbrev pub comes_to : Status → List ℕ → List ℕ → Keeping → Type 0
comes_to Done bytes text kept = (held : Held) × (kept ≡ alone held) × Replays bytes text held
comes_to Refused bytes text kept = Refuses bytes text × KeepsNothing kept
comes_to NoMemory bytes text kept = (text ≡ []) × KeepsNothing kept
comes_to Usage bytes text kept = ⊥
comes_to ReadFault bytes text kept = ⊥
comes_to WriteFault bytes text kept = ⊥
comes_to OutOfHeap bytes text kept = ⊥
comes_to LongWord bytes text kept = ⊥
comes_to BadTrace bytes text kept = ⊥
comes_to NotLawful bytes text kept = ⊥
comes_to TooLarge bytes text kept = ⊥

-- what the generated script of so many rounds comes to
abbrev pub generates : Status → ℕ → List ℕ → Keeping → Type 0
generates Done rounds text kept = (held : Held) × (kept ≡ alone held) × Generates rounds text held
generates NoMemory rounds text kept = (text ≡ []) × KeepsNothing kept
generates Refused rounds text kept = ⊥
generates Usage rounds text kept = ⊥
generates ReadFault rounds text kept = ⊥
generates WriteFault rounds text kept = ⊥
generates OutOfHeap rounds text kept = ⊥
generates LongWord rounds text kept = ⊥
generates BadTrace rounds text kept = ⊥
generates NotLawful rounds text kept = ⊥
generates TooLarge rounds text kept = ⊥

-- what counting the words of a text of bytes by one worker comes to
abbrev pub counts : Status → Options → List ℕ → List ℕ → Keeping → Type 0
counts Done options bytes text kept = (held : Held) × (kept ≡ alone held) × Counts options bytes text held
counts OutOfHeap options bytes text kept = RunsOut options bytes × (text ≡ []) × KeepsNothing kept
counts LongWord options bytes text kept = TellsLong bytes text × KeepsNothing kept
counts BadTrace options bytes text kept = ⊥
counts NotLawful options bytes text kept = ⊥
counts NoMemory options bytes text kept = (text ≡ []) × KeepsNothing kept
counts Refused options bytes text kept = ⊥
counts Usage options bytes text kept = ⊥
counts ReadFault options bytes text kept = ⊥
counts WriteFault options bytes text kept = ⊥
counts TooLarge options bytes text kept = ⊥

-- why an input gave no bytes to read
abbrev pub gives_none : Status → Input → Type 0
gives_none ReadFault input = Rose input.faults_before input.faults_after
gives_none TooLarge input = IsTooLarge input
gives_none NoMemory input = Unit {0}
gives_none Done input = ⊥
gives_none Usage input = ⊥
gives_none Refused input = ⊥
gives_none WriteFault input = ⊥
gives_none OutOfHeap input = ⊥
gives_none LongWord input = ⊥
gives_none BadTrace input = ⊥
gives_none NotLawful input = ⊥

-- what a status says of the input, the text that belongs to it, and what is kept
abbrev pub Meaning : Type 1
Meaning = Status → Input → List ℕ → Keeping → Type 0

-- what a status says of the words and of the input, the text that belongs to it, and the heap that is kept
abbrev pub belongs : List (List ℕ) → Meaning
belongs words Done input text kept =
    (IsReplay words × ((bytes : List ℕ) × IsInput input bytes × ((held : Held) × (kept ≡ alone held) × Replays bytes text held)))
    ⊎ ((rounds : ℕ) × IsGen words rounds × ((held : Held) × (kept ≡ alone held) × Generates rounds text held))
    ⊎ ((options : Options) × IsCount words options × ((bytes : List ℕ) × IsInput input bytes × ((held : Held) × (kept ≡ alone held) × Counts options bytes text held)))
belongs words Usage input text kept = (IsAsked words → ⊥) × (text ≡ usage_line) × KeepsNothing kept
belongs words Refused input text kept = IsReplay words × ((bytes : List ℕ) × IsInput input bytes × Refuses bytes text) × KeepsNothing kept
belongs words ReadFault input text kept = IsReading words × Rose input.faults_before input.faults_after × (text ≡ []) × KeepsNothing kept
belongs words WriteFault input text kept = ⊥
belongs words NoMemory input text kept = (text ≡ []) × KeepsNothing kept
belongs words TooLarge input text kept = IsReading words × IsTooLarge input × (text ≡ []) × KeepsNothing kept
belongs words OutOfHeap input text kept =
    ((options : Options) × IsCount words options × ((bytes : List ℕ) × IsInput input bytes × RunsOut options bytes)) × (text ≡ []) × KeepsNothing kept
belongs words LongWord input text kept =
    ((options : Options) × IsCount words options × ((bytes : List ℕ) × IsInput input bytes × TellsLong bytes text)) × KeepsNothing kept
belongs words BadTrace input text kept = ⊥
belongs words NotLawful input text kept = ⊥

-- the text of a status was written, where the statuses mean this
pub record IsWritten (means : Meaning) (input : Input) (output : Output) (status : Status) (text : List ℕ) (kept : Keeping) : Type 0 where
  pub meaning : means status input text kept
  pub all : Appends output.before output.after text

-- the writing failed within the text of another status
pub record IsCut (means : Meaning) (input : Input) (output : Output) (instead : Status) (text : List ℕ) (unkept : Keeping) : Type 0 where
  pub meaning : means instead input text unkept
  pub some : 0 < length text
  pub front : TookFront output.before output.after text
  pub rose : Rose output.faults_before output.faults_after

-- the writing failed: a front was written of the text that belongs to another status
abbrev pub CutBy : Meaning → Input → Output → Type 0
CutBy means input output = (instead : Status) × (text : List ℕ) × (unkept : Keeping) × IsCut means input output instead text unkept

-- a run with this input and output, whose statuses mean this, ends with a status
abbrev pub ends_by : Meaning → Status → Input → Output → Keeping → Type 0
ends_by means WriteFault input output kept = KeepsNothing kept × CutBy means input output
ends_by means status input output kept = (text : List ℕ) × IsWritten means input output status text kept

-- a run on one core, on these words, ends with a status
abbrev pub ends : Status → List (List ℕ) → Input → Output → Keeping → Type 0
ends status words input output kept = ends_by (belongs words) status input output kept

-- the number that stands for a status
abbrev pub number_of : Status → ℕ
number_of Done = 0
number_of Usage = 1
number_of Refused = 2
number_of ReadFault = 3
number_of WriteFault = 4
number_of NoMemory = 5
number_of TooLarge = 6
number_of OutOfHeap = 7
number_of LongWord = 8
number_of BadTrace = 9
number_of NotLawful = 10

-- a number stands for a status with which a run ends, where the statuses mean this
abbrev pub EndsBy : Meaning → ℕ → Input → Output → Keeping → Type 0
EndsBy means number input output kept = (status : Status) × (number ≡ number_of status) × ends_by means status input output kept

-- the headline: the input is a script, the replies to its calls were written, and the heap is kept
abbrev pub EndsReplayed : Input → Output → Keeping → Type 0
EndsReplayed input output kept =
    (bytes : List ℕ) × IsInput input bytes × ((text : List ℕ) × (held : Held) × (kept ≡ alone held) × Replays bytes text held × Appends output.before output.after text)

-- the input is no script, and the line that tells why was written
abbrev pub EndsRefused : Input → Output → Type 0
EndsRefused input output = (bytes : List ℕ) × IsInput input bytes × ((text : List ℕ) × Refuses bytes text × Appends output.before output.after text)

-- the generated script of so many rounds ran, its summary was written, and the heap is kept
abbrev pub EndsGenerated : ℕ → Output → Keeping → Type 0
EndsGenerated rounds output kept = (text : List ℕ) × (held : Held) × (kept ≡ alone held) × Generates rounds text held × Appends output.before output.after text

-- the headline of a count: the words of the input were counted, their counts were written, and the heap is kept
abbrev pub EndsCounted : Options → Input → Output → Keeping → Type 0
EndsCounted options input output kept =
    (bytes : List ℕ) × IsInput input bytes × ((text : List ℕ) × (held : Held) × (kept ≡ alone held) × Counts options bytes text held × Appends output.before output.after text)

-- the input has a word that is too long, and the line that tells its place was written
abbrev pub EndsLong : Input → Output → Type 0
EndsLong input output = (bytes : List ℕ) × IsInput input bytes × ((text : List ℕ) × TellsLong bytes text × Appends output.before output.after text)

-- the heap of a count ran out, and nothing was written
abbrev pub EndsOut : Options → Input → Output → Type 0
EndsOut options input output = ((bytes : List ℕ) × IsInput input bytes × RunsOut options bytes) × Appends output.before output.after []

-- nothing is written
abbrev pub WritesNothing : Output → Type 0
WritesNothing output = Appends output.before output.after []

-- the input is told, and neither end counted a fault
pub record IsFaultless (input : Input) (output : Output) (bytes : List ℕ) : Type 0 where
  pub told : input.before ≡ Some bytes
  pub read_well : Rose input.faults_before input.faults_after → ⊥
  pub written_well : Rose output.faults_before output.faults_after → ⊥
