-- In what the words may differ from what the state shows, for a call in flight.
use Rattle.std.specs.Prelude.{◌≡◌, ℕ, ◌+◌, ◌≤◌, ◌<◌, length}
use Rattle.std.specs.List.{All, Contains}
use Rattle.heap_words.specs.declared.map.Areas.{Areas}
use Rattle.heap_words.specs.declared.TheConstants.{BUFFER_ENTRIES, STACK_SLOTS}
use Rattle.heap_words.specs.Map.{heap_at, heap_length, page_at}
use Rattle.epoch_lattice.specs.Lattice.{inner_of, space_index}
use Rattle.region_pages.specs.declared.TheConstants.{SPACE_WORD, USED_MARK}
use Rattle.calls_in_flight.specs.Flight.{Cover}
use Rattle.calls_in_flight.specs.Steps.{current_at, entry_at, length_at, made_at, slot_at}
use Rattle.calls_in_flight.specs.Actors.{Actor}

-- What a covered place may be, and how its word may differ.
pub data MayDiffer (m : Areas) (a : Actor) (c : Cover) : Type 0 where
  -- a slot above the stack's length, or an entry behind the store buffer
  above_stack : (k : ℕ) → length a.told.stack ≤ k → k < STACK_SLOTS → c.place ≡ slot_at m a.thread k → MayDiffer m a c
  behind_buffer : (k : ℕ) → k < BUFFER_ENTRIES → c.place ≡ entry_at m a.thread k → MayDiffer m a c
  -- the top slot and the stack's length of a load of which the entry stands in the history
  loaded_slot : (k : ℕ) → length a.told.stack ≡ k + 1 → c.place ≡ slot_at m a.thread k → MayDiffer m a c
  loaded_length : c.place ≡ length_at m a.thread → c.stands + 1 ≡ length a.told.stack → c.shown ≡ length a.told.stack → MayDiffer m a c
  -- the words of an object that is being made, its page's used mark, the number made, and where its page was claimed, the current page and the page's space
  in_object : heap_at m ≤ c.place → c.place < heap_at m + heap_length m → MayDiffer m a c
  marked : (p : ℕ) → p < m.pages → c.place ≡ page_at m p + USED_MARK → MayDiffer m a c
  counted : c.place ≡ made_at m a.thread → c.stands ≡ a.told.made + 1 → c.shown ≡ a.told.made → MayDiffer m a c
  turned : (p : ℕ) → Contains a.flight.claimed p → c.place ≡ current_at m a.thread a.told.depth → c.stands ≡ p + 1 → MayDiffer m a c
  entered : (p : ℕ) → Contains a.flight.claimed p → c.place ≡ page_at m p + SPACE_WORD → c.stands ≡ space_index (inner_of a.thread a.told.depth) + 1 → MayDiffer m a c

-- The words differ for the call in flight in nothing else.
abbrev pub DiffersOnly : Areas → Actor → Type 0
DiffersOnly m a = All (MayDiffer m a) a.flight.covers
