-- Tables of a count in the objects that a caller knows.
use Rattle.std.specs.Prelude.{◌≡◌, ◌≢◌, ℕ, ◌+◌, ◌*◌, ◌≤◌, ◌<◌, Bool, true, false, List, [], ◌∷◌, Some, length, cond, count_by}
use Rattle.std.specs.List.{All, flat_map, sum_by}
use Rattle.std.specs.FinMap as finite
use Rattle.object_layout.specs.declared.names.Name.{Name}
use Rattle.object_layout.specs.declared.TheConstants.{WORD_LIMIT}
use Rattle.yak_model.specs.declared.TheConstants.{BUCKETS, ENTRY_FIELDS}
use Rattle.yak_model.specs.declared.datum.Datum.{Datum}
use Rattle.yak_model.specs.declared.datum.Datum.TheVariants as datum
use Rattle.yak_model.specs.Graph.{Fields, Thread}
use Rattle.yak_model.specs.Private.{KnownObjects}
use Rattle.yak_model.specs.Room.{entry_words, key_words, table_words}
use Rattle.yak_model.specs.Standing.{Standing}
use Rattle.yak_model.specs.Tables.{IsCountTable, Link}
use Rattle.yak_model.specs.Texts.{word_counts, words_of}
use Rattle.heap_tables.specs.Adds.{AreAfter, IsNowhere}
use Rattle.heap_tables.specs.Runs.{next_of, slot_in, stack_in}
use Rattle.heap_tables.specs.Epochs.{GrowsBy}
use Rattle.group_jobs.specs.Epochs.{IsOneEpoch, IsWithin}
use Rattle.group_jobs.specs.Tasks.{task_bytes}
use Rattle.group_jobs.specs.declared.tasks.Task.{Task}
use Rattle.group_jobs.specs.declared.TheConstants.{MOST_WORDS, PART_SLOT, TOTAL_SLOT}

-- ---- words

-- Each word is short enough to be counted.
abbrev pub AreShort : List (List ℕ) → Type 0
AreShort words = All (λ word. length word ≤ WORD_LIMIT) words

-- the words of the objects that it takes at most to put the words into a table: a key and an entry for each
abbrev pub part_room : List (List ℕ) → ℕ
part_room words = sum_by (λ word. key_words word + entry_words) words

-- the same to put them into a table and to add that to another: a key and two entries for each
abbrev pub words_room : List (List ℕ) → ℕ
words_room words = sum_by (λ word. key_words word + 2 * entry_words) words

-- whether there are words
abbrev pub is_busy : List (List ℕ) → Bool
is_busy [] = false
is_busy (word ∷ words) = true

-- the words that a task takes at most
abbrev pub task_room : List (List ℕ) → ℕ
task_room words = cond (is_busy words) table_words 0 + words_room words

-- the words of a table of the total that a task makes, by whether there was one before and is one after
abbrev pub new_total : Bool → Bool → ℕ
new_total false true = table_words
new_total has after = 0

-- the words of tasks, in order
abbrev pub words_in : List ℕ → List Task → List (List ℕ)
words_in bytes tasks = flat_map (λ task. words_of (task_bytes bytes task)) tasks

-- the tasks of a text that have words
abbrev pub busy_tasks : List ℕ → List Task → ℕ
busy_tasks bytes tasks = count_by (λ task. is_busy (words_of (task_bytes bytes task))) tasks

-- the words that the tasks take at most
abbrev pub tasks_room : List ℕ → List Task → ℕ
tasks_room bytes tasks = table_words * busy_tasks bytes tasks + words_room (words_in bytes tasks)

-- Each task is a part of the text.
abbrev pub AreWithin : List ℕ → List Task → Type 0
AreWithin bytes tasks = All (λ task. (task.start ≤ task.end) × (task.end ≤ length bytes)) tasks

-- ---- tables

-- The slot of the total refers to a table of a known map, which counts these words.
pub record Tally (s : Standing) (known : KnownObjects) (done : List (List ℕ)) : Type 0 where
  pub name : Name
  pub slot : slot_in s TOTAL_SLOT ≡ datum.Object name
  pub table : IsCountTable known name (word_counts done)

-- The links are no entries of any of the chains.
abbrev pub AreApart : List Link → (ℕ → List Link) → Type 0
AreApart links buckets = All (λ link. IsNowhere link.entry buckets) links

-- Beside it the slot of a part refers to another table, of this name, which counts other words, and they share no entry. The thread
-- made the part's table, and after it the entries of that table and their keys.
pub record Tallies (s : Standing) (known : KnownObjects) (name : Name) (done doing : List (List ℕ)) : Type 0 where
  pub total : Tally s known done
  pub slot : slot_in s PART_SLOT ≡ datum.Object name
  pub table : IsCountTable known name (word_counts doing)
  pub other : total.name ≢ name
  pub apart : (b : ℕ) → b < BUCKETS → AreApart (total.table.buckets b) table.buckets
  pub thread : name.thread ≡ s.thread
  pub made : name.serial ≤ s.own.made
  pub after : (b : ℕ) → b < BUCKETS → AreAfter name (table.buckets b)

-- So many words were counted, and so many more may come.
abbrev pub HasTally : Standing → (KnownObjects → Type 0) → ℕ → Type 0
HasTally s knows more = (known : KnownObjects) × (done : List (List ℕ)) × knows known × Tally s known done × (length done + more ≤ MOST_WORDS)

abbrev pub HasTallies : Standing → (KnownObjects → Type 0) → ℕ → Type 0
HasTallies s knows more =
    (known : KnownObjects) × (name : Name) × (done : List (List ℕ)) × (doing : List (List ℕ)) × knows known × Tallies s known name done doing × (length done + (length doing + more) ≤ MOST_WORDS)

-- An object with these fields is no table and no entry, by how many they are.
abbrev pub IsAside : List Datum → Type 0
IsAside values = (length values ≢ BUCKETS) × (length values ≢ ENTRY_FIELDS)

-- The lowest slot and the known objects that are no tables and no entries are as they were.
pub record KeepsAside (s : Standing) (known : KnownObjects) (now : Standing) (later : KnownObjects) : Type 0 where
  pub slot : slot_in now 0 ≡ slot_in s 0
  pub objects : (name : Name) (values : List Datum) → finite.get known name ≡ Some (Fields values) → IsAside values → finite.get later name ≡ Some (Fields values)

-- A known map has the tables with these counts, and what is no part of them is as it was.
abbrev pub KnowsTally : Standing → KnownObjects → Standing → (KnownObjects → Type 0) → List (List ℕ) → Type 0
KnowsTally s known now knows done = (later : KnownObjects) × knows later × Tally now later done × KeepsAside s known now later

abbrev pub KnowsTallies : Standing → KnownObjects → Standing → (KnownObjects → Type 0) → Name → List (List ℕ) → List (List ℕ) → Type 0
KnowsTallies s known now knows name done doing =
    (later : KnownObjects) × knows later × Tallies now later name done doing × KeepsAside s known now later

-- The object is a table of the words' counts, and its thread made its entries and their keys after it.
pub record IsPartTable (known : KnownObjects) (name : Name) (words : List (List ℕ)) : Type 0 where
  pub table : IsCountTable known name (word_counts words)
  pub after : (b : ℕ) → b < BUCKETS → AreAfter name (table.buckets b)

-- The words of a part, which has its table, were added to the table of the total.
abbrev pub KnowsPart : Standing → KnownObjects → Standing → (KnownObjects → Type 0) → Name → List (List ℕ) → List (List ℕ) → Type 0
KnowsPart s known now knows name done words =
    (later : KnownObjects) × knows later × Tally now later done × KeepsAside s known now later × IsPartTable later name words

-- The thread has the same stack and depth, and has made at most so many more objects.
pub record KeepsPlace (own after : Thread) (more : ℕ) : Type 0 where
  pub stack : after.stack ≡ own.stack
  pub depth : after.depth ≡ own.depth
  pub made : after.made ≤ own.made + more

-- ---- how far a count has come

-- These words were counted: there is a table of them on top of the root, or there are none and there is no table yet.
abbrev pub IsProgress : Bool → Standing → KnownObjects → List (List ℕ) → Type 0
IsProgress true s known done = (length (stack_in s) ≡ PART_SLOT) × Tally s known done
IsProgress false s known done = (length (stack_in s) ≡ TOTAL_SLOT) × (done ≡ [])

abbrev pub HasProgress : Bool → Standing → (KnownObjects → Type 0) → ℕ → Type 0
HasProgress has s knows more =
    (known : KnownObjects) × (done : List (List ℕ)) × knows known × IsProgress has s known done × (length done + more ≤ MOST_WORDS)

abbrev pub KnowsProgress : Bool → Standing → KnownObjects → Standing → (KnownObjects → Type 0) → List (List ℕ) → Type 0
KnowsProgress has s known now knows done = (later : KnownObjects) × knows later × IsProgress has now later done × KeepsAside s known now later

-- ---- a task

-- The task's words were counted in an epoch of its own, which was begun after no more than calls within no epoch. If there are
-- words, the first object that was made in the epoch is their table.
pub record CountsEpoch {S : Type 0} (standing : S → Standing) (knows : S → KnownObjects → Type 0) (s after : S) (words : List (List ℕ)) : Type 0 where
  pub ready : S
  pub thread : (standing ready).thread ≡ (standing s).thread
  pub before : GrowsBy IsWithin (standing s).list (standing ready).list
  pub epoch : GrowsBy (IsOneEpoch (standing s).thread) (standing ready).list (standing after).list
  pub part : words ≢ [] → (later : KnownObjects) × knows after later × IsPartTable later (next_of (standing ready)) words
