-- A thread that makes calls while the gate is open, and what it knows of the words that it has met.
use Rattle.std.specs.Prelude.{◌≡◌, ◌≤◌, ◌<◌, ◌⊎◌, ◌==◌, ℕ, ◌+◌, ◌*◌, List, [], ◌∷◌, length, None, cond, false}
use Rattle.std.specs.List.{Contains}
use Rattle.object_layout.specs.declared.TheConstants.{MAX_DEPTH}
use Rattle.object_layout.specs.declared.calls.Call.{Call}
use Rattle.object_layout.specs.declared.calls.Call.TheVariants.{End, Collect, Census}
use Rattle.object_layout.specs.declared.calls.Event.{Event}
use Rattle.object_layout.specs.declared.headers.Header.{Header}
use Rattle.object_layout.specs.declared.replies.Refusal.{Refusal}
use Rattle.object_layout.specs.declared.replies.Reply.{Reply}
use Rattle.object_layout.specs.declared.replies.Reply.TheVariants.{Refused}
use Rattle.object_layout.specs.Calls.{IsCall}
use Rattle.object_layout.specs.Layout.{IsHeader, header_word}
use Rattle.heap_words.specs.declared.map.Areas.{Areas}
use Rattle.heap_words.specs.Map.{block_at, block_words, heap_at, heap_length, max_depth, page_at, page_words}
use Rattle.epoch_lattice.specs.declared.Space.{Space}
use Rattle.epoch_lattice.specs.Lattice.{IsValid, space_index}
use Rattle.yak_model.specs.Graph.{Graph, Thread, answers, fields_at, refusal_of, slot_of, standard_limits, thread_of, IsThread}
use Rattle.region_pages.specs.declared.TheConstants.{USED_MARK}
use Rattle.standing_calls.specs.Turned.{IsIdle}
use Rattle.calls_in_flight.specs.Flight.{Cover, Flight, IsBare, at_rest}
use Rattle.calls_in_flight.specs.Kinds.{IsPlainReply}
use Rattle.calls_in_flight.specs.Knowing.{Known}
use Rattle.calls_in_flight.specs.Steps.{current_at, slot_at, with_covers}

-- A thread of this number: what it has, its call in flight, and words that it has met and that last.
pub record Actor : Type 0 where
  pub thread : ℕ
  pub told : Thread
  pub flight : Flight
  pub lasting : List Known

-- Nothing of it is in flight, or these covers alone.
abbrev pub IsAtRest : Actor → Type 0
IsAtRest a = a.flight ≡ at_rest a.thread

abbrev pub HasOnly : Actor → List Cover → Type 0
HasOnly a covers = a.flight ≡ with_covers (at_rest a.thread) covers

-- ---- words that it has met

-- It has met the word at a place where it lasts.
abbrev pub HasMet : Actor → ℕ → ℕ → Type 0
HasMet a place word = Contains a.lasting (record { place = place; word = word })

-- It knows which word a place shows apart from its call in flight: that which it has met there, or that which its cover shows.
pub data Shows (a : Actor) (place word : ℕ) : Type 0 where
  met : IsBare a.flight.covers place → HasMet a place word → Shows a place word
  under : (stands : ℕ) → Contains a.flight.covers (record { place = place; stands = stands; shown = word }) → Shows a place word

-- what it has met elsewhere
abbrev pub forget : ℕ → List Known → List Known
forget place [] = []
forget place (k ∷ known) = cond (k.place == place) (forget place known) (k ∷ forget place known)

-- and a word at this place
abbrev pub learn : ℕ → ℕ → List Known → List Known
learn place word known = record { place = place; word = word } ∷ forget place known

-- ---- objects and pages

-- Slot k of its stack refers to the object at a heap word.
pub record RefersTo (m : Areas) (a : Actor) (k at : ℕ) : Type 0 where
  pub slot : k < length a.told.stack
  pub word : Shows a (slot_at m a.thread k) (2 * (at + 1))
  pub within : at < heap_length m

-- It has met the header of the object there.
abbrev pub HasHeader : Areas → Actor → ℕ → Header → Type 0
HasHeader m a at h = IsHeader h × HasMet a (heap_at m + at) (header_word h)

-- The header that it has met there is that of an object of this space.
abbrev pub HasSpace : Areas → Actor → ℕ → Space → Type 0
HasSpace m a at x = (fields : ℕ) × IsValid MAX_DEPTH x × HasHeader m a at (record { fields = fields; space = space_index x })

-- A page is its own by what it knows: a current page that its block names, or one that it has claimed.
abbrev pub HoldsPage : Areas → Actor → ℕ → Type 0
HoldsPage m a p = (p < m.pages) × (((d : ℕ) × (d ≤ max_depth m) × Shows a (current_at m a.thread d) (p + 1)) ⊎ Contains a.flight.claimed p)

-- The places that it may load as its own: its block, the page table's entries of its own pages, and the words above the used mark
-- of one.
pub data MayLoad (m : Areas) (a : Actor) (place : ℕ) : Type 0 where
  in_block : block_at m a.thread ≤ place → place < block_at m a.thread + block_words m → MayLoad m a place
  in_entry : (p j : ℕ) → HoldsPage m a p → j < 2 → place ≡ page_at m p + j → MayLoad m a place
  in_page : (p i used : ℕ) → HoldsPage m a p → Shows a (page_at m p + USED_MARK) used → used ≤ i → i < page_words m → place ≡ heap_at m + (page_words m * p + i) → MayLoad m a place
  in_claimed : (p i : ℕ) → p < m.pages → Contains a.flight.claimed p → i < page_words m → place ≡ heap_at m + (page_words m * p + i) → MayLoad m a place

-- The places of words that last, which it may load: its own ones, and the headers of the objects to which its stack refers.
abbrev pub MayMeet : Areas → Actor → ℕ → Type 0
MayMeet m a place = MayLoad m a place ⊎ ((k : ℕ) × (at : ℕ) × RefersTo m a k at × (place ≡ heap_at m + at))

-- ---- entries

-- A graph in which the thread has what it has, and in which each object to which its stack refers has as many fields as the header
-- that it has met says.
pub record Agrees (m : Areas) (a : Actor) (g : Graph) : Type 0 where
  pub limits : g.limits ≡ standard_limits
  pub there : IsThread g a.thread
  pub has : thread_of g a.thread ≡ a.told
  pub fields : (k at : ℕ) (h : Header) → RefersTo m a k at → HasHeader m a at h → length (fields_at g (slot_of g a.thread k)) ≡ h.fields

-- By what it knows a call isn't refused, or is so answered without a change.
abbrev pub IsLet : Areas → Actor → Call → Type 0
IsLet m a asked = (g : Graph) → Agrees m a g → refusal_of g a.thread asked ≡ None

abbrev pub IsAnswered : Areas → Actor → Call → Reply → Type 0
IsAnswered m a asked said = (g : Graph) → Agrees m a g → answers g a.thread asked said g

-- A call that a thread makes without closing the gate.
abbrev pub IsQuick : Call → Type 0
IsQuick End = ⊥
IsQuick Collect = ⊥
IsQuick Census = ⊥
IsQuick asked = Unit {0}

-- A load may tell the entry of this event: a call that only shows something, or a refusal.
pub record MayTell (m : Areas) (a : Actor) (event : Event) : Type 0 where
  pub number : IsCall event.call
  pub quick : IsQuick event.call
  pub alone : event.collected ≡ false
  pub idle : IsIdle event.call event.reply
  pub plain : IsPlainReply event.reply
  pub rests : IsAtRest a
  pub answered : IsAnswered m a event.call event.reply

-- It is a refusal.
abbrev pub IsRefusal : Event → Type 0
IsRefusal event = (why : Refusal) × (event.reply ≡ Refused why)
