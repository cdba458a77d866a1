-- What a thread knows is so.
use Rattle.std.specs.Prelude.{◌≡◌, ◌⊎◌, ◌↔◌, ℕ, ◌+◌, ◌≤◌, ◌<◌, length, slice_index_or, Some}
use Rattle.std.specs.List.{Contains}
use Rattle.object_layout.specs.declared.TheConstants.{MAX_DEPTH, MAX_SERIAL, OBJECT_WORDS}
use Rattle.object_layout.specs.declared.headers.Header.{Header}
use Rattle.object_layout.specs.Layout.{IsHeader, header_word}
use Rattle.heap_words.specs.declared.map.Areas.{Areas}
use Rattle.heap_words.specs.declared.TheConstants.{BUFFER_ENTRIES, STACK_SLOTS}
use Rattle.heap_words.specs.Map.{HasRegion, HasThread, heap_at, heap_length, max_depth, page_at, page_words}
use Rattle.epoch_lattice.specs.declared.Space.{Space}
use Rattle.epoch_lattice.specs.declared.Space.TheVariants.{Region}
use Rattle.epoch_lattice.specs.Lattice.{IsValid, space_index}
use Rattle.yak_model.specs.declared.datum.Datum.{Datum}
use Rattle.yak_model.specs.declared.datum.Datum.TheVariants as datum
use Rattle.yak_model.specs.Spaces.{SpaceState}
use Rattle.region_pages.specs.declared.TheConstants.{POOL_LENGTH, USED_MARK}
use Rattle.standing_calls.specs.Records.{home_at}
use Rattle.calls_in_flight.specs.Actors.{Actor, Agrees, HasHeader, HasMet, HasSpace, HoldsPage, RefersTo, Shows}
use Rattle.calls_in_flight.specs.FieldSteps.{IsWordFor}
use Rattle.calls_in_flight.specs.Steps.{current_at, depth_at, length_at, logged_at, made_at, slot_at}

-- the value of a slot
abbrev pub slot_told : Actor → ℕ → Datum
slot_told a k = slice_index_or a.told.stack k datum.Null

-- A header that was met is that of an object in a valid space of the heap.
pub record IsHeaderIn (m : Areas) (word : ℕ) : Type 0 where
  pub fields : ℕ
  pub space : Space
  pub valid : IsValid MAX_DEPTH space
  pub region : (u d : ℕ) → space ≡ Region u d → HasRegion m u d
  pub header : IsHeader (record { fields = fields; space = space_index space })
  pub is_word : word ≡ header_word (record { fields = fields; space = space_index space })

-- What a thread knows is so in a state in which it has what it has.
pub record Sees (m : Areas) (a : Actor) (s : SpaceState) : Type 0 where
  pub thread : HasThread m a.thread
  pub agrees : Agrees m a s.graph
  -- its block
  pub length_is : (n : ℕ) → Shows a (length_at m a.thread) n → n ≡ length a.told.stack
  pub few_slots : length a.told.stack ≤ STACK_SLOTS
  pub depth_is : (n : ℕ) → Shows a (depth_at m a.thread) n → n ≡ a.told.depth
  pub not_deep : a.told.depth ≤ max_depth m
  pub made_is : (n : ℕ) → Shows a (made_at m a.thread) n → n ≡ a.told.made
  pub serials : a.told.made ≤ MAX_SERIAL
  pub logged : (n : ℕ) → Shows a (logged_at m a.thread) n → n ≤ BUFFER_ENTRIES
  -- the slots of its stack
  pub slots : (k word : ℕ) → k < length a.told.stack → Shows a (slot_at m a.thread k) word → IsWordFor m (slot_told a k) word
  pub same : (j k v w : ℕ) → j < length a.told.stack → k < length a.told.stack → Shows a (slot_at m a.thread j) v → Shows a (slot_at m a.thread k) w → v ≡ w ↔ slot_told a j ≡ slot_told a k
  -- the objects to which they refer
  pub headers : (k at word : ℕ) → RefersTo m a k at → HasMet a (heap_at m + at) word → IsHeaderIn m word
  pub ends : (k at : ℕ) (h : Header) → RefersTo m a k at → HasHeader m a at h → at + OBJECT_WORDS + h.fields ≤ heap_length m
  pub spaces : (k at : ℕ) (x : Space) → RefersTo m a k at → HasSpace m a at x → home_at s (slot_told a k) ≡ Some x
  -- its pages, and the pool
  pub currents : (d word : ℕ) → d ≤ max_depth m → Shows a (current_at m a.thread d) word → (word ≡ 0) ⊎ ((p : ℕ) × (word ≡ p + 1) × (p < m.pages))
  pub claimed : (p : ℕ) → Contains a.flight.claimed p → p < m.pages
  pub marks : (p used : ℕ) → HoldsPage m a p → Shows a (page_at m p + USED_MARK) used → used ≤ page_words m
  pub pool : (n : ℕ) → HasMet a POOL_LENGTH n → n ≤ m.pages
