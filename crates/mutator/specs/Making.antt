-- What the parts of a new object's making do before its entry is told.
use Rattle.std.specs.Prelude.{◌≡◌, ℕ, ◌+◌, ◌≤◌, ◌<◌, List, [], ◌∷◌, ◌++◌, true, false}
use Rattle.std.specs.List.{All}
use Rattle.object_layout.specs.declared.TheConstants.{MAX_FIELDS, OBJECT_WORDS}
use Rattle.object_layout.specs.declared.headers.Header.{Header}
use Rattle.object_layout.specs.declared.names.Name.{Name}
use Rattle.object_layout.specs.Layout.{header_word, name_word}
use Rattle.heap_words.specs.declared.TheConstants.{HEAD_WORDS}
use Rattle.heap_words.specs.declared.map.Areas.{Areas}
use Rattle.heap_words.specs.Map.{heap_at, max_depth, page_at, page_words, pool_at}
use Rattle.epoch_lattice.specs.Lattice.{inner_of, space_index}
use Rattle.region_pages.specs.declared.TheConstants.{SPACE_WORD, USED_MARK}
use Rattle.calls_in_flight.specs.declared.notes.Cover.{Cover}
use Rattle.calls_in_flight.specs.declared.notes.Known.{Known}
use Rattle.calls_in_flight.specs.Actors.{Actor, HasMet, Shows}
use Rattle.calls_in_flight.specs.Flight.{at_rest}
use Rattle.calls_in_flight.specs.Making.{LiesAt}
use Rattle.calls_in_flight.specs.OwnStores.{HasNoRoomFor, IsInCurrent}
use Rattle.calls_in_flight.specs.Steps.{current_at, with_covers}
use Rattle.safepoint_gate.specs.declared.rule.View.{View}
use Rattle.safepoint_gate.specs.Singles.{IsSo, actor, loads_of, moved, put_of}
use Rattle.mutator.specs.declared.new_objects.Room.{Room}
use Rattle.mutator.specs.Quick.{ShowsFull, ShowsNoPage}

-- The thread has loaded more, and something else is in flight.
abbrev pub Loads : View → List Known → View → Type 0
Loads v more w = w ≡ moved v (actor w).flight w.lasting (loads_of v ++ more) (put_of v)

-- It has loaded nothing more.
abbrev pub Flies : View → View → Type 0
Flies v w = w ≡ moved v (actor w).flight w.lasting (loads_of v) (put_of v)

-- What it knew to be shown at a place it still knows.
abbrev pub KeepsShown : View → View → Type 0
KeepsShown v w = (place word : ℕ) → Shows (actor v) place word → Shows (actor w) place word

-- No word of the pool was loaded.
abbrev pub AreOwn : List Known → Type 0
AreOwn more = All (λ (k : Known). HEAD_WORDS ≤ k.place) more

-- ---- the search for room

-- The thread looked at words of its own.
pub record Searches (v w : View) : Type 0 where
  pub more : List Known
  pub view : Loads v more w
  pub flight : (actor w).flight ≡ (actor v).flight
  pub so : IsSo w
  pub shows : KeepsShown v w
  pub own : AreOwn more

-- There is room for so many words behind the used words of the current page.
pub record FindsRoom (v : View) (size : ℕ) (room : Room) (w : View) : Type 0 where
  pub searches : Searches v w
  pub there : room.page < w.map.pages
  pub fits : room.used + size ≤ page_words w.map
  pub current : IsInCurrent w.map (actor w) room.page room.used
  pub unclaimed : room.claimed ≡ false

-- There is none.
pub record FindsNone (v : View) (size : ℕ) (w : View) : Type 0 where
  pub searches : Searches v w
  pub full : ShowsFull v searches.more (actor v).told.depth size
  pub none : HasNoRoomFor w.map (actor w) size

-- A page was claimed.
pub record ClaimsRoom (v : View) (room : Room) (w : View) : Type 0 where
  pub more : List Known
  pub view : Loads v more w
  pub flight : (actor w).flight ≡ record (at_rest (actor v).thread) { claimed = room.page ∷ [] }
  pub shows : (place word : ℕ) → place < pool_at v.map → Shows (actor v) place word → Shows (actor w) place word
  pub there : room.page < w.map.pages
  pub front : room.used ≡ 0
  pub claimed : room.claimed ≡ true
  pub found : ShowsNoPage more → ⊥

-- No page was left.
pub record ClaimsNone (v w : View) : Type 0 where
  pub more : List Known
  pub view : Loads v more w
  pub flight : (actor w).flight ≡ (actor v).flight
  pub so : IsSo w
  pub none : ShowsNoPage more

-- ---- the object

-- There is room for an object of so many fields, in the current page or on the page that was claimed for it, and these covers are in
-- flight.
pub record HasRoom (m : Areas) (a : Actor) (room : Room) (fields : ℕ) (covers : List Cover) : Type 0 where
  pub few : fields ≤ MAX_FIELDS
  pub there : room.page < m.pages
  pub deep : a.told.depth ≤ max_depth m
  pub fits : room.used + (fields + OBJECT_WORDS) ≤ page_words m
  pub in_current : room.claimed ≡ false → IsInCurrent m a room.page room.used × (a.flight ≡ record (at_rest a.thread) { covers = covers })
  pub on_claimed : room.claimed ≡ true → (room.used ≡ 0) × HasNoRoomFor m a (fields + OBJECT_WORDS) × (a.flight ≡ record (at_rest a.thread) { covers = covers; claimed = room.page ∷ [] })

-- Room was found for an object of so many fields, by loads that don't show that no page was left. What the thread knew of the places
-- before the pool it still knows.
pub record GetsRoom (v : View) (fields : ℕ) (room : Room) (w : View) : Type 0 where
  pub more : List Known
  pub view : Loads v more w
  pub shows : (place word : ℕ) → place < pool_at v.map → Shows (actor v) place word → Shows (actor w) place word
  pub has : HasRoom w.map (actor w) room fields []
  pub found : ShowsNoPage more → ⊥

-- None was found, as the loads show.
pub record GetsNone (v : View) (fields : ℕ) (w : View) : Type 0 where
  pub more : List Known
  pub view : Loads v more w
  pub flight : (actor w).flight ≡ (actor v).flight
  pub so : IsSo w
  pub full : ShowsFull v more (actor v).told.depth (fields + OBJECT_WORDS)
  pub none : ShowsNoPage more

-- The first words of an object were stored from a heap word on, so many.
pub record WritesObject (v : View) (front : ℕ) (header : Header) (name : Name) (count : ℕ) (w : View) : Type 0 where
  pub view : Flies v w
  pub object : List Cover
  pub lies : All (LiesAt v.map front (front + count)) object
  pub flight : (actor w).flight ≡ with_covers (actor v).flight object
  pub shows : KeepsShown v w
  pub header_met : HasMet (actor w) (heap_at v.map + front) (header_word header)
  pub name_met : HasMet (actor w) (heap_at v.map + (front + 1)) (name_word name)
  pub zero_met : (i : ℕ) → 2 ≤ i → i < count → HasMet (actor w) (heap_at v.map + (front + i)) 0

-- What a page's entry and the block say of the page was stored.
abbrev pub mark_over : Areas → Room → ℕ → ℕ → Cover
mark_over m room size shown = record { place = page_at m room.page + USED_MARK; stands = room.used + size; shown = shown }

abbrev pub entry_over : Areas → Actor → Room → ℕ → Cover
entry_over m a room shown = record { place = page_at m room.page + SPACE_WORD; stands = space_index (inner_of a.thread a.told.depth) + 1; shown = shown }

abbrev pub page_over : Areas → Actor → Room → ℕ → Cover
page_over m a room shown = record { place = current_at m a.thread a.told.depth; stands = room.page + 1; shown = shown }

pub record EntersPage (v : View) (room : Room) (size : ℕ) (w : View) : Type 0 where
  pub view : Flies v w
  pub shows : KeepsShown v w
  pub met : (place word : ℕ) → heap_at v.map ≤ place → HasMet (actor v) place word → HasMet (actor w) place word
  pub in_current : room.claimed ≡ false → (actor w).flight ≡ with_covers (actor v).flight (mark_over v.map room size room.used ∷ (actor v).flight.covers)
  pub on_claimed : room.claimed ≡ true
      → (current : ℕ) × (mark : ℕ) × (entry : ℕ) × ((actor w).flight ≡ with_covers (actor v).flight (page_over v.map (actor v) room current ∷ mark_over v.map room size mark ∷ entry_over v.map (actor v) room entry ∷ (actor v).flight.covers))
