-- The single steps of a store and of a load, and the call in flight after each.
use Rattle.std.specs.Prelude.{◌≡◌, ◌≢◌, ℕ, ◌+◌, ◌<◌, List, [], ◌∷◌, length, slice_index, Option, Some, None}
use Rattle.std.specs.List.{Contains}
use Rattle.heap_words.specs.declared.map.Areas.{Areas}
use Rattle.heap_words.specs.declared.TheConstants.{BUFFER_ENTRIES, STACK_SLOTS}
use Rattle.heap_words.specs.Map.{heap_at}
use Rattle.heap_words.specs.Contents.{Contents, buffer_of, stack_of}
use Rattle.epoch_lattice.specs.declared.Space.{Space}
use Rattle.epoch_lattice.specs.declared.Space.TheVariants.{Region}
use Rattle.yak_model.specs.Graph.{slot_of}
use Rattle.yak_model.specs.Spaces.{SpaceState}
use Rattle.yak_model.specs.Stands.{Stands}
use Rattle.standing_calls.specs.Fields.{IsFieldOf}
use Rattle.standing_calls.specs.Records.{Crosses, IsWordOf, home_at}
use Rattle.calls_in_flight.specs.Flight.{Cover, Flight, Reading, flight_at}
use Rattle.calls_in_flight.specs.Whole.{whole}
use Rattle.calls_in_flight.specs.Steps.{entry_at, length_at, logged_at, slot_at, with_covers}

-- A heap word is field f of the object of a slot of the thread, in every state for which the words stand.
abbrev pub IsFieldIn : Areas → Contents → ℕ → ℕ → ℕ → ℕ → Type 0
IsFieldIn m c t k f a = (s : SpaceState) (h : Stands m c s) → IsFieldOf s h.places.at t k f a

-- The entry that was put above a thread's store buffer becomes its last one, as the buffer's length is stored: a field of an object
-- to which the own stack refers.
pub record Logs (m : Areas) (ws : List ℕ) (fs : List Flight) (i n k j a : ℕ) (f : Flight) : Type 0 where
  pub inside : i < length fs
  pub count : slice_index ws (logged_at m (flight_at fs i).thread) ≡ n
  pub room : n < BUFFER_ENTRIES
  pub cover : Cover
  pub covers : (flight_at fs i).covers ≡ cover ∷ []
  pub place : cover.place ≡ entry_at m (flight_at fs i).thread n
  pub word : cover.stands ≡ a
  pub field : IsFieldIn m (whole m ws fs) (flight_at fs i).thread k j a
  pub after : f ≡ with_covers (flight_at fs i) []

-- The word of slot x is stored into field j of the object of slot k, which is heap word a. Where the new reference crosses, the
-- slot stands in the thread's store buffer.
pub record StoresField (m : Areas) (ws : List ℕ) (fs : List Flight) (i k j x a w : ℕ) : Type 0 where
  pub inside : i < length fs
  pub covers : (flight_at fs i).covers ≡ []
  pub field : IsFieldIn m (whole m ws fs) (flight_at fs i).thread k j a
  pub slot : x < length (stack_of (whole m ws fs) (flight_at fs i).thread)
  pub word : w ≡ slice_index (stack_of (whole m ws fs) (flight_at fs i).thread) x
  pub logged : (s : SpaceState) → Stands m (whole m ws fs) s → Crosses (home_at s (slot_of s.graph (flight_at fs i).thread k)) (home_at s (slot_of s.graph (flight_at fs i).thread x)) → Contains (buffer_of (whole m ws fs) (flight_at fs i).thread) a

-- The region of another thread that a reference to this space enters, of which the thread becomes a reader.
abbrev pub IsEntered : ℕ → Option Space → Option Reading → Type 0
IsEntered t space None = (u d : ℕ) → space ≡ Some (Region u d) → u ≡ t
IsEntered t space (Some r) = (space ≡ Some (Region r.owner r.depth)) × (r.owner ≢ t)

-- Field j of the object of slot k, which is heap word a, is loaded. The state has it on the thread's stack from then on, while
-- the slot, the stack's length and the reader's bit are still to be stored.
pub record LoadsField (m : Areas) (ws : List ℕ) (fs : List Flight) (i n k j a : ℕ) (space : Option Space) (f : Flight) : Type 0 where
  pub inside : i < length fs
  pub covers : (flight_at fs i).covers ≡ []
  pub none : (flight_at fs i).reading ≡ None
  pub count : slice_index ws (length_at m (flight_at fs i).thread) ≡ n
  pub room : n < STACK_SLOTS
  pub field : IsFieldIn m (whole m ws fs) (flight_at fs i).thread k j a
  pub told : (s : SpaceState) (h : Stands m (whole m ws fs) s) (v : IsWordOf s h.places.at (slice_index ws (heap_at m + a))) → space ≡ home_at s v.value
  pub reading : Option Reading
  pub entered : IsEntered (flight_at fs i).thread space reading
  pub after : f ≡ record (flight_at fs i) {
    covers = record { place = slot_at m (flight_at fs i).thread n; stands = slice_index ws (slot_at m (flight_at fs i).thread n); shown = slice_index ws (heap_at m + a) } ∷ record { place = length_at m (flight_at fs i).thread; stands = n; shown = n + 1 } ∷ [];
    reading = reading;
  }
