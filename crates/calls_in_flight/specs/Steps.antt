-- The single steps of a thread on words of its own that add no entry to the history, and the call in flight after each.
use Rattle.std.specs.Prelude.{◌≡◌, ℕ, ◌+◌, ◌<◌, List, [], ◌∷◌, length, slice_index}
use Rattle.object_layout.specs.declared.TheConstants.{MAX_DEPTH}
use Rattle.heap_words.specs.declared.map.Areas.{Areas}
use Rattle.heap_words.specs.declared.TheConstants.{BUFFER_LENGTH, CURRENT_PAGES, DEPTH_WORD, MADE_WORD, STACK_LENGTH, STACK_SLOTS}
use Rattle.heap_words.specs.Map.{block_at, buffer_start, stack_start}
use Rattle.calls_in_flight.specs.Flight.{Cover, Flight, IsBare, flight_at}
use Rattle.calls_in_flight.specs.Whole.{whole}
use Rattle.calls_in_flight.specs.Owning.{IsOwn}

-- Where a thread's block has the depth, the number made, the stack's length, a slot of the stack, a current page, and the store
-- buffer's length and an entry of it.
abbrev pub depth_at : Areas → ℕ → ℕ
depth_at m t = block_at m t + DEPTH_WORD

abbrev pub made_at : Areas → ℕ → ℕ
made_at m t = block_at m t + MADE_WORD

abbrev pub length_at : Areas → ℕ → ℕ
length_at m t = block_at m t + STACK_LENGTH

abbrev pub slot_at : Areas → ℕ → ℕ → ℕ
slot_at m t k = block_at m t + (stack_start m + k)

abbrev pub current_at : Areas → ℕ → ℕ → ℕ
current_at m t d = block_at m t + (CURRENT_PAGES + d)

abbrev pub logged_at : Areas → ℕ → ℕ
logged_at m t = block_at m t + BUFFER_LENGTH

abbrev pub entry_at : Areas → ℕ → ℕ → ℕ
entry_at m t k = block_at m t + (buffer_start m + k)

-- The call in flight with other covers.
abbrev pub with_covers : Flight → List Cover → Flight
with_covers f covers = record f { covers = covers }

-- A word is stored at a place of the thread's own that isn't covered. The place becomes covered, and shows the word that stood
-- there.
pub record Lays (m : Areas) (ws : List ℕ) (fs : List Flight) (i a w : ℕ) (f : Flight) : Type 0 where
  pub inside : i < length fs
  pub own : IsOwn m (whole m ws fs) (flight_at fs i) a
  pub bare : IsBare (flight_at fs i).covers a
  pub after : f ≡ with_covers (flight_at fs i) (record { place = a; stands = w; shown = slice_index ws a } ∷ (flight_at fs i).covers)

-- The word that the last cover shows is stored at its place, which then is covered no more.
pub record Settles (ws : List ℕ) (fs : List Flight) (i a w : ℕ) (f : Flight) : Type 0 where
  pub inside : i < length fs
  pub covers : (flight_at fs i).covers ≡ record { place = a; stands = slice_index ws a; shown = w } ∷ f.covers
  pub after : f ≡ with_covers (flight_at fs i) f.covers

-- A word that was put above a thread's stack becomes its top slot, as the stack's length is stored.
pub record Grows (m : Areas) (ws : List ℕ) (fs : List Flight) (i n w : ℕ) (f : Flight) : Type 0 where
  pub inside : i < length fs
  pub count : slice_index ws (length_at m (flight_at fs i).thread) ≡ n
  pub room : n < STACK_SLOTS
  pub cover : Cover
  pub covers : (flight_at fs i).covers ≡ cover ∷ []
  pub place : cover.place ≡ slot_at m (flight_at fs i).thread n
  pub word : cover.stands ≡ w
  pub after : f ≡ with_covers (flight_at fs i) []

-- The top slot of a thread's stack is dropped, as the stack's length is stored.
pub record Shrinks (m : Areas) (ws : List ℕ) (fs : List Flight) (i n : ℕ) : Type 0 where
  pub inside : i < length fs
  pub covers : (flight_at fs i).covers ≡ []
  pub count : slice_index ws (length_at m (flight_at fs i).thread) ≡ n + 1

-- A thread's depth is stored, one deeper than before.
pub record Deepens (m : Areas) (ws : List ℕ) (fs : List Flight) (i d : ℕ) : Type 0 where
  pub inside : i < length fs
  pub covers : (flight_at fs i).covers ≡ []
  pub before : slice_index ws (depth_at m (flight_at fs i).thread) ≡ d
  pub room : d < MAX_DEPTH
