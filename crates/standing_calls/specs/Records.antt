-- What a call records of the references that cross into regions.
use Rattle.std.specs.Prelude.{◌≡◌, ◌≢◌, ◌⊎◌, ℕ, ◌+◌, ◌-◌, ◌^◌, ◌<◌, [], ◌∷◌, ◌++◌, length, replicate, slice_index_or, slice_set, bit_or, Option, Some, None}
use Rattle.object_layout.specs.declared.names.Name.{Name}
use Rattle.object_layout.specs.declared.TheConstants.{OBJECT_WORDS}
use Rattle.object_layout.specs.declared.calls.Call.{Call}
use Rattle.object_layout.specs.declared.calls.Call.TheVariants.{Load, Store}
use Rattle.object_layout.specs.declared.replies.Reply.{Reply}
use Rattle.object_layout.specs.declared.replies.Reply.TheVariants.{Ok, Refused}
use Rattle.object_layout.specs.declared.replies.Refusal.TheVariants.{StackFull}
use Rattle.heap_words.specs.declared.map.Areas.{Areas}
use Rattle.heap_words.specs.declared.TheConstants.{BUFFER_ENTRIES, STACK_SLOTS}
use Rattle.heap_words.specs.Cells.{row_set}
use Rattle.heap_words.specs.Contents.{Contents, buffer_of, readers_of, stack_of, with_heap, with_stack}
use Rattle.epoch_lattice.specs.declared.Space.{Space}
use Rattle.epoch_lattice.specs.declared.Space.TheVariants.{Region}
use Rattle.yak_model.specs.declared.datum.Datum.{Datum}
use Rattle.yak_model.specs.declared.datum.Datum.TheVariants as datum
use Rattle.yak_model.specs.Graph.{fields_at, slot_of}
use Rattle.yak_model.specs.Spaces.{SpaceState, home_of}
use Rattle.yak_model.specs.State.{IsDatum, object_of}
use Rattle.yak_model.specs.Placed.{datum_word}
use Rattle.yak_model.specs.Recorded.{Enters}
use Rattle.remember_sets.specs.Filed.{BuffersHold, ChainsBecome, PagesKnown, SetsHold, all_filed, logged, with_sets}

-- The space of the object to which a value refers, if it refers to one.
abbrev pub home_at : SpaceState → Datum → Option Space
home_at s (datum.Object n) = home_of s n
home_at s datum.Null = None
home_at s (datum.Int i) = None

-- The chains of recorded slots are as they were.
pub record SameFiled (was now : Contents) : Type 0 where
  pub firsts : now.firsts ≡ was.firsts
  pub sets : now.sets ≡ was.sets

-- The chains, the store buffers and the readers of regions are as they were.
pub record SameRecords (was now : Contents) : Type 0 where
  pub filed : SameFiled was now
  pub buffers : now.buffers ≡ was.buffers
  pub readers : now.readers ≡ was.readers

-- The space is a region of another thread.
abbrev pub IsOther : ℕ → Option Space → Type 0
IsOther t space = (u : ℕ) × (d : ℕ) × (space ≡ Some (Region u d)) × (u ≢ t)

-- A thread's bit is set in the readers word of a region, and no other bit of the readers words.
abbrev pub SetsBit : Contents → Contents → ℕ → ℕ → ℕ → Type 0
SetsBit was now t u d = now.readers ≡ row_set was.readers (u - 1) (d - 1) (bit_or (readers_of was u d) (2 ^ (t - 1)))

-- A thread becomes a reader of a space where that is a region of another thread, and of nothing else.
abbrev pub MarksReader : Contents → Contents → ℕ → Option Space → Type 0
MarksReader was now t space =
    ((u : ℕ) × (d : ℕ) × (space ≡ Some (Region u d)) × (u ≢ t) × SetsBit was now t u d)
    ⊎ ((IsOther t space → ⊥) × (now.readers ≡ was.readers))

-- Two spaces are the same, or neither is a region of another thread.
abbrev pub AreAlikeOthers : ℕ → Option Space → Option Space → Type 0
AreAlikeOthers t told space = (told ≡ space) ⊎ ((IsOther t told → ⊥) × (IsOther t space → ⊥))

-- A load makes the thread a reader of the region of another thread that the value enters, and records nothing else.
pub record RecordsLoad (was now : Contents) (t : ℕ) (space : Option Space) : Type 0 where
  pub filed : SameFiled was now
  pub buffers : now.buffers ≡ was.buffers
  pub reader : MarksReader was now t space

-- A reference in an object of one space enters a region other than that space, where these are the spaces of the object and
-- of what the value refers to.
abbrev pub Crosses : Option Space → Option Space → Type 0
Crosses (Some from) (Some to) = Enters from to
Crosses (Some from) None = ⊥
Crosses None to = ⊥

-- A thread's store buffer has room, and the slot is put behind its entries.
pub record LogsInto (was now : Contents) (t slot : ℕ) : Type 0 where
  pub room : length (buffer_of was t) < BUFFER_ENTRIES
  pub filed : SameFiled was now
  pub buffers : now.buffers ≡ slice_set was.buffers (t - 1) (buffer_of was t ++ slot ∷ [])

-- A thread's store buffer is full, the entries of all buffers are filed one after another, and then the slot is the only entry.
pub record FilesBefore (m : Areas) (was now : Contents) (t slot : ℕ) : Type 0 where
  pub full : length (buffer_of was t) ≡ BUFFER_ENTRIES
  pub filed : ChainsBecome m was now (λ x slots. all_filed m was x (logged was) slots)
  pub buffers : now.buffers ≡ slice_set (replicate m.threads []) (t - 1) (slot ∷ [])

-- A slot becomes an entry of a thread's store buffer.
abbrev pub Logs : Areas → Contents → Contents → ℕ → ℕ → Type 0
Logs m was now t slot = LogsInto was now t slot ⊎ FilesBefore m was now t slot

-- A field's slot is recorded where a reference from the one space to the other crosses, and nothing is where it doesn't.
abbrev pub RecordsSlot : Areas → Contents → Contents → ℕ → ℕ → Option Space → Option Space → Type 0
RecordsSlot m was now t slot from to =
    (Crosses from to × Logs m was now t slot × (now.readers ≡ was.readers))
    ⊎ ((Crosses from to → ⊥) × SameRecords was now)

-- What a call with its reply records, where `at` gives the address of each name. Only loads and stores record anything.
abbrev pub Records : Areas → SpaceState → (Name → ℕ) → Contents → Contents → ℕ → Call → Reply → Type 0
Records m s at was now t (Load k f) Ok = RecordsLoad was now t (home_at s (slice_index_or (fields_at s.graph (slot_of s.graph t k)) f datum.Null))
Records m s at was now t (Store k f x) Ok =
    (n : Name) → slot_of s.graph t k ≡ datum.Object n → RecordsSlot m was now t (at n + OBJECT_WORDS + f) (home_of s n) (home_at s (slot_of s.graph t x))
Records m s at was now t asked said = SameRecords was now

-- ---- the steps of a call

-- A word is that of a value of the state, where `at` gives the address of each name.
pub record IsWordOf (s : SpaceState) (at : Name → ℕ) (word : ℕ) : Type 0 where
  pub value : Datum
  pub fits : IsDatum (object_of s) value
  pub laid : word ≡ datum_word at value

-- A loaded word was put on a thread's stack, and the thread became a reader where it had to; or the stack was full and nothing
-- has changed.
abbrev pub IsLoaded : Contents → Contents → ℕ → ℕ → Option Space → Reply → Type 0
IsLoaded was now thread word space said =
    ((length (stack_of was thread) < STACK_SLOTS) × (said ≡ Ok) × (now ≡ record (with_stack was thread (stack_of was thread ++ word ∷ [])) { readers = now.readers }) × MarksReader was now thread space)
    ⊎ ((length (stack_of was thread) ≡ STACK_SLOTS) × (said ≡ Refused StackFull) × (now ≡ was))

-- The contents with the chains and the store buffers of others.
abbrev pub with_logs : Contents → Contents → Contents
with_logs c d = record (with_sets c d) { buffers = d.buffers }

-- A word was stored at an address, of which the slot was recorded where a reference from the one space to the other crosses.
pub record IsStored (m : Areas) (was now : Contents) (t slot word : ℕ) (from to : Option Space) : Type 0 where
  pub records : RecordsSlot m was now t slot from to
  pub rest : now ≡ with_heap (with_logs was now) slot word
  pub sets : SetsHold m now

-- The chains, the store buffers and the page table are such that slots can be filed.
abbrev pub LogsHold : Areas → Contents → Type 0
LogsHold m c = SetsHold m c × BuffersHold m c × PagesKnown m c
