-- The making of an object: what stands in the words when the stack's length is stored, which adds the entry of the call.
use Rattle.std.specs.Prelude.{◌≡◌, ◌⊎◌, ℕ, ◌+◌, ◌*◌, ◌≤◌, ◌<◌, List, [], ◌∷◌, length, slice_index}
use Rattle.std.specs.List.{All}
use Rattle.object_layout.specs.declared.names.Name.{Name}
use Rattle.object_layout.specs.declared.TheConstants.{MAX_FIELDS, MAX_SERIAL, OBJECT_WORDS}
use Rattle.object_layout.specs.Layout.{header_word, name_word}
use Rattle.heap_words.specs.declared.map.Areas.{Areas}
use Rattle.heap_words.specs.declared.TheConstants.{STACK_SLOTS}
use Rattle.heap_words.specs.Map.{heap_at, page_at, page_words}
use Rattle.epoch_lattice.specs.declared.Space.{Space}
use Rattle.epoch_lattice.specs.Lattice.{inner_of, space_index}
use Rattle.region_pages.specs.declared.TheConstants.{SPACE_WORD, USED_MARK}
use Rattle.calls_in_flight.specs.Flight.{Cover, Flight, flight_at}
use Rattle.calls_in_flight.specs.Steps.{current_at, depth_at, length_at, made_at, slot_at, with_covers}

-- An object of k null fields stands at heap word a, with its header and name.
pub record IsNew (m : Areas) (ws : List ℕ) (a k : ℕ) (x : Space) (name : Name) : Type 0 where
  pub header : slice_index ws (heap_at m + a) ≡ header_word (record { fields = k; space = space_index x })
  pub named : slice_index ws (heap_at m + (a + 1)) ≡ name_word name
  pub zero : (i : ℕ) → 2 ≤ i → i < k + OBJECT_WORDS → slice_index ws (heap_at m + (a + i)) ≡ 0

-- A cover lies in the heap, from one word up to another.
abbrev pub LiesAt : Areas → ℕ → ℕ → Cover → Type 0
LiesAt m a end k = (heap_at m + a ≤ k.place) × (k.place < heap_at m + end)

-- An object of k fields stands whole behind the used words of a page, as the next one that a thread makes in its innermost space.
-- The thread's stack has room for the reference to it.
pub record Makes (m : Areas) (ws : List ℕ) (fs : List Flight) (i k : ℕ) : Type 0 where
  pub inside : i < length fs
  pub few : k ≤ MAX_FIELDS
  pub n : ℕ
  pub count : slice_index ws (length_at m (flight_at fs i).thread) ≡ n
  pub room : n < STACK_SLOTS
  pub made : ℕ
  pub unspent : made < MAX_SERIAL
  pub depth : ℕ
  pub deep : slice_index ws (depth_at m (flight_at fs i).thread) ≡ depth
  pub page : ℕ
  pub used : ℕ
  pub fits : used + (k + OBJECT_WORDS) ≤ page_words m
  pub stands : IsNew m ws (page_words m * page + used) k (inner_of (flight_at fs i).thread depth) (record { thread = (flight_at fs i).thread; serial = made + 1 })

-- The words of the object, and what else was stored for it.
abbrev pub slot_cover : {m : Areas} {ws : List ℕ} {fs : List Flight} {i k : ℕ} → Makes m ws fs i k → ℕ → Cover
slot_cover {m} {ws} {fs} {i} {k} h shown = record { place = slot_at m (flight_at fs i).thread h.n; stands = 2 * ((page_words m * h.page + h.used) + 1); shown = shown }

abbrev pub made_cover : {m : Areas} {ws : List ℕ} {fs : List Flight} {i k : ℕ} → Makes m ws fs i k → Cover
made_cover {m} {ws} {fs} {i} {k} h = record { place = made_at m (flight_at fs i).thread; stands = h.made + 1; shown = h.made }

abbrev pub mark_cover : {m : Areas} {ws : List ℕ} {fs : List Flight} {i k : ℕ} → Makes m ws fs i k → ℕ → Cover
mark_cover {m} {ws} {fs} {i} {k} h shown = record { place = page_at m h.page + USED_MARK; stands = h.used + (k + OBJECT_WORDS); shown = shown }

abbrev pub entry_cover : {m : Areas} {ws : List ℕ} {fs : List Flight} {i k : ℕ} → Makes m ws fs i k → ℕ → Cover
entry_cover {m} {ws} {fs} {i} {k} h shown = record { place = page_at m h.page + SPACE_WORD; stands = space_index (inner_of (flight_at fs i).thread h.depth) + 1; shown = shown }

abbrev pub page_cover : {m : Areas} {ws : List ℕ} {fs : List Flight} {i k : ℕ} → Makes m ws fs i k → ℕ → Cover
page_cover {m} {ws} {fs} {i} {k} h shown = record { place = current_at m (flight_at fs i).thread h.depth; stands = h.page + 1; shown = shown }

-- The object stands in the thread's current page.
pub record MakesInCurrent (m : Areas) (ws : List ℕ) (fs : List Flight) (i k : ℕ) (h : Makes m ws fs i k) (f : Flight) : Type 0 where
  pub above : ℕ
  pub object : List Cover
  pub within : All (LiesAt m (page_words m * h.page + h.used) (page_words m * h.page + h.used + (k + OBJECT_WORDS))) object
  pub covers : (flight_at fs i).covers ≡ slot_cover h above ∷ made_cover h ∷ mark_cover h h.used ∷ object
  pub current : slice_index ws (current_at m (flight_at fs i).thread h.depth) ≡ h.page + 1
  pub after : f ≡ with_covers (flight_at fs i) []

-- The object stands at the front of a page that the thread has claimed for it, since its current page, which the state still has,
-- has no room for it or isn't there.
pub record MakesOnClaimed (m : Areas) (ws : List ℕ) (fs : List Flight) (i k : ℕ) (h : Makes m ws fs i k) (f : Flight) : Type 0 where
  pub above : ℕ
  pub current : ℕ
  pub mark : ℕ
  pub entry : ℕ
  pub object : List Cover
  pub within : All (LiesAt m (page_words m * h.page + h.used) (page_words m * h.page + h.used + (k + OBJECT_WORDS))) object
  pub covers : (flight_at fs i).covers ≡ slot_cover h above ∷ made_cover h ∷ page_cover h current ∷ mark_cover h mark ∷ entry_cover h entry ∷ object
  pub front : h.used ≡ 0
  pub rest : List ℕ
  pub claimed : (flight_at fs i).claimed ≡ h.page ∷ rest
  pub short : (current ≡ 0) ⊎ ((p : ℕ) × (current ≡ p + 1) × (page_words m < slice_index ws (page_at m p + USED_MARK) + (k + OBJECT_WORDS)))
  pub after : f ≡ record (flight_at fs i) { covers = []; claimed = rest }
