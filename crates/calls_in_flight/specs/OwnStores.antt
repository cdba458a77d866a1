-- The stores of a thread to words of its own, as far as it knows what it does.
use Rattle.std.specs.Prelude.{◌≡◌, ◌≢◌, ◌⊎◌, ℕ, ◌+◌, ◌*◌, ◌≤◌, ◌<◌, List, [], ◌∷◌, length, Option, None, Some, false}
use Rattle.std.specs.List.{All, Contains}
use Rattle.object_layout.specs.declared.TheConstants.{MAX_DEPTH, MAX_FIELDS, MAX_INT, MAX_SERIAL, OBJECT_WORDS}
use Rattle.object_layout.specs.declared.calls.Call.{Call}
use Rattle.object_layout.specs.declared.calls.Call.TheVariants.{Int, Null, Dup, Pop, New, Begin}
use Rattle.object_layout.specs.declared.calls.Event.{Event}
use Rattle.object_layout.specs.declared.replies.Reply.TheVariants.{Ok}
use Rattle.object_layout.specs.Layout.{header_word, name_word}
use Rattle.heap_words.specs.declared.map.Areas.{Areas}
use Rattle.heap_words.specs.declared.TheConstants.{BUFFER_ENTRIES, STACK_SLOTS}
use Rattle.heap_words.specs.Map.{heap_at, max_depth, page_at, page_words, total_of}
use Rattle.epoch_lattice.specs.Lattice.{inner_of, space_index}
use Rattle.region_pages.specs.declared.TheConstants.{SPACE_WORD, USED_MARK}
use Rattle.calls_in_flight.specs.Flight.{Cover, Flight, IsBare, at_rest}
use Rattle.calls_in_flight.specs.Making.{LiesAt}
use Rattle.calls_in_flight.specs.Steps.{current_at, depth_at, entry_at, length_at, logged_at, made_at, slot_at, with_covers}
use Rattle.calls_in_flight.specs.Actors.{Actor, HasMet, HasOnly, IsAtRest, Shows}
use Rattle.calls_in_flight.specs.FieldSteps.{MeetsCrossing, StoresInto}

-- the event of a call that was done
abbrev pub done_by : Call → Event
done_by asked = record { call = asked; reply = Ok; collected = false }

-- ---- the placing of an object

-- The page is the thread's current one in its innermost space, and its used words are so many.
abbrev pub IsInCurrent : Areas → Actor → ℕ → ℕ → Type 0
IsInCurrent m a p used = Shows a (current_at m a.thread a.told.depth) (p + 1) × Shows a (page_at m p + USED_MARK) used

-- The thread has no current page there, or one with fewer words left than so many.
abbrev pub HasNoRoomFor : Areas → Actor → ℕ → Type 0
HasNoRoomFor m a size = Shows a (current_at m a.thread a.told.depth) 0 ⊎ ((p : ℕ) × (used : ℕ) × IsInCurrent m a p used × (page_words m < used + size))

-- An object of so many fields is placed behind the used words of the current page, or else at the front of the page that was
-- claimed for it.
pub record Placing (m : Areas) (a : Actor) : Type 0 where
  pub fields : ℕ
  pub few : fields ≤ MAX_FIELDS
  pub page : ℕ
  pub there : page < m.pages
  pub deep : a.told.depth ≤ max_depth m
  pub used : ℕ
  pub fits : used + (fields + OBJECT_WORDS) ≤ page_words m
  pub placed : IsInCurrent m a page used ⊎ ((used ≡ 0) × (a.flight.claimed ≡ page ∷ []) × HasNoRoomFor m a (fields + OBJECT_WORDS))

-- the heap word at which it stands, and its words
abbrev pub front_of : {m : Areas} {a : Actor} → Placing m a → ℕ
front_of {m} p = page_words m * p.page + p.used

abbrev pub placed_words : {m : Areas} {a : Actor} → Placing m a → ℕ
placed_words p = p.fields + OBJECT_WORDS

-- ---- what is in flight when it has been made

abbrev pub slot_laid : {m : Areas} {a : Actor} → Placing m a → ℕ → Cover
slot_laid {m} {a} p shown = record { place = slot_at m a.thread (length a.told.stack); stands = 2 * (front_of p + 1); shown = shown }

abbrev pub made_laid : Areas → Actor → Cover
made_laid m a = record { place = made_at m a.thread; stands = a.told.made + 1; shown = a.told.made }

abbrev pub mark_laid : {m : Areas} {a : Actor} → Placing m a → ℕ → Cover
mark_laid {m} p shown = record { place = page_at m p.page + USED_MARK; stands = p.used + placed_words p; shown = shown }

abbrev pub entry_laid : {m : Areas} {a : Actor} → Placing m a → ℕ → Cover
entry_laid {m} {a} p shown = record { place = page_at m p.page + SPACE_WORD; stands = space_index (inner_of a.thread a.told.depth) + 1; shown = shown }

abbrev pub page_laid : {m : Areas} {a : Actor} → Placing m a → ℕ → Cover
page_laid {m} {a} p shown = record { place = current_at m a.thread a.told.depth; stands = p.page + 1; shown = shown }

-- The object stands whole in the current page, or at the front of the claimed page, and nothing else is in flight.
pub data IsLaid (m : Areas) (a : Actor) (p : Placing m a) : Type 0 where
  in_current : (above : ℕ) (object : List Cover) → All (LiesAt m (front_of p) (front_of p + placed_words p)) object → IsInCurrent m a p.page p.used
      → HasOnly a (slot_laid p above ∷ made_laid m a ∷ mark_laid p p.used ∷ object) → IsLaid m a p
  on_claimed : (above current mark entry : ℕ) (object : List Cover) → All (LiesAt m (front_of p) (front_of p + placed_words p)) object → p.used ≡ 0 → HasNoRoomFor m a (placed_words p)
      → a.flight ≡ record (at_rest a.thread) { covers = slot_laid p above ∷ made_laid m a ∷ page_laid p current ∷ mark_laid p mark ∷ entry_laid p entry ∷ object; claimed = p.page ∷ [] } → IsLaid m a p

pub record IsMade (m : Areas) (a : Actor) (p : Placing m a) : Type 0 where
  pub room : length a.told.stack < STACK_SLOTS
  pub unspent : a.told.made < MAX_SERIAL
  pub header : HasMet a (heap_at m + front_of p) (header_word (record { fields = p.fields; space = space_index (inner_of a.thread a.told.depth) }))
  pub name : HasMet a (heap_at m + (front_of p + 1)) (name_word (record { thread = a.thread; serial = a.told.made + 1 }))
  pub zero : (i : ℕ) → 2 ≤ i → i < placed_words p → HasMet a (heap_at m + (front_of p + i)) 0
  pub laid : IsLaid m a p

-- ---- the kinds of store

-- What a call puts on the stack has this word.
abbrev pub IsPushOf : Areas → Actor → Call → ℕ → Type 0
IsPushOf m a (Int i) word = (i ≤ MAX_INT) × (word ≡ 2 * i + 1)
IsPushOf m a Null word = word ≡ 0
IsPushOf m a (Dup k) word = (k < length a.told.stack) × Shows a (slot_at m a.thread k) word
IsPushOf m a asked word = ⊥

-- A thread may store the word at the place, and tell the event.
pub data MayStore (m : Areas) (a : Actor) : ℕ → ℕ → Option Event → Type 0 where
  -- a slot above the stack, and the entry behind the store buffer
  above_stack : (k word : ℕ) → length a.told.stack ≤ k → k < STACK_SLOTS → IsBare a.flight.covers (slot_at m a.thread k) → MayStore m a (slot_at m a.thread k) word None
  behind_buffer : (n word : ℕ) → Shows a (logged_at m a.thread) n → n < BUFFER_ENTRIES → IsBare a.flight.covers (entry_at m a.thread n) → MayStore m a (entry_at m a.thread n) word None
  -- what the placing of an object asks: its words, the page's used mark, the number made, and the page as the current one and as one
  -- of the thread's innermost space where it was claimed
  in_object : (p : Placing m a) (i word : ℕ) → i < placed_words p → IsBare a.flight.covers (heap_at m + (front_of p + i)) → MayStore m a (heap_at m + (front_of p + i)) word None
  marks : (p : Placing m a) → IsBare a.flight.covers (page_at m p.page + USED_MARK) → MayStore m a (page_at m p.page + USED_MARK) (p.used + placed_words p) None
  counts : (p : Placing m a) → IsBare a.flight.covers (made_at m a.thread) → MayStore m a (made_at m a.thread) (a.told.made + 1) None
  enters : (p : Placing m a) → Contains a.flight.claimed p.page → IsBare a.flight.covers (page_at m p.page + SPACE_WORD) → MayStore m a (page_at m p.page + SPACE_WORD) (space_index (inner_of a.thread a.told.depth) + 1) None
  turns : (p : Placing m a) → Contains a.flight.claimed p.page → IsBare a.flight.covers (current_at m a.thread a.told.depth) → MayStore m a (current_at m a.thread a.told.depth) (p.page + 1) None
  -- the word that the last cover shows
  settles : (c : Cover) (rest : List Cover) → a.flight.covers ≡ c ∷ rest → 1 ≤ c.place → c.place < total_of m → MayStore m a c.place c.shown None
  -- the store buffer's length, over an entry that must be recorded
  logs : (n : ℕ) (c : Cover) (asked : Call) (at field word : ℕ) → Shows a (logged_at m a.thread) n → n < BUFFER_ENTRIES → HasOnly a (c ∷ []) → c.place ≡ entry_at m a.thread n → c.stands ≡ at + OBJECT_WORDS + field
      → StoresInto m a asked at field word → MeetsCrossing m a at word → MayStore m a (logged_at m a.thread) (n + 1) None
  -- the stack's length, over a slot more, a slot less, or the reference to a new object
  pushes : (asked : Call) (c : Cover) → IsPushOf m a asked c.stands → length a.told.stack < STACK_SLOTS → HasOnly a (c ∷ []) → c.place ≡ slot_at m a.thread (length a.told.stack) → MayStore m a (length_at m a.thread) (length a.told.stack + 1) (Some (done_by asked))
  pops : (n : ℕ) → length a.told.stack ≡ n + 1 → IsAtRest a → MayStore m a (length_at m a.thread) n (Some (done_by Pop))
  makes : (p : Placing m a) → IsMade m a p → MayStore m a (length_at m a.thread) (length a.told.stack + 1) (Some (done_by (New p.fields)))
  -- the depth
  begins : a.told.depth < MAX_DEPTH → IsAtRest a → MayStore m a (depth_at m a.thread) (a.told.depth + 1) (Some (done_by Begin))

-- What is in flight after a store that tells no event: the place is covered, or its cover is settled, or an entry was put into the
-- store buffer. Where the thread had met a word at a place that becomes covered, the cover shows that.
pub record FliesOn (m : Areas) (a : Actor) (place word : ℕ) (f : Flight) : Type 0 where
  pub lays : IsBare a.flight.covers place → place ≢ logged_at m a.thread
      → (shown : ℕ) × ((was : ℕ) → HasMet a place was → shown ≡ was) × (f ≡ with_covers a.flight (record { place = place; stands = word; shown = shown } ∷ a.flight.covers))
  pub settles : (c : Cover) (rest : List Cover) → a.flight.covers ≡ c ∷ rest → c.place ≡ place → f ≡ with_covers a.flight rest
  pub logs : place ≡ logged_at m a.thread → f ≡ at_rest a.thread
