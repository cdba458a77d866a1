-- What the barriers tell.
use Rattle.std.specs.Prelude.{◌≡◌, ℕ, ◌+◌, ◌≤◌, ◌<◌, List, [], ◌∷◌, ◌++◌, Bool, true, false, None}
use Rattle.object_layout.specs.declared.TheConstants.{OBJECT_WORDS}
use Rattle.object_layout.specs.declared.calls.Call.{Call}
use Rattle.object_layout.specs.declared.calls.Call.TheVariants.{Store}
use Rattle.object_layout.specs.declared.calls.Event.{Event}
use Rattle.object_layout.specs.declared.replies.Reply.TheVariants.{Ok}
use Rattle.heap_words.specs.declared.TheConstants.{BUFFER_ENTRIES}
use Rattle.epoch_lattice.specs.declared.Space.{Space}
use Rattle.yak_model.specs.declared.datum.Datum.{Datum}
use Rattle.yak_model.specs.Graph.{refusal_of}
use Rattle.yak_model.specs.Recorded.{Enters}
use Rattle.calls_in_flight.specs.declared.notes.Known.{Known}
use Rattle.calls_in_flight.specs.Actors.{HasMet, HasSpace, RefersTo}
use Rattle.calls_in_flight.specs.FieldSteps.{IsLogged, IsWordFor, MeetsCrossing, MeetsNone, StoresInto, length_loaded, slot_loaded}
use Rattle.calls_in_flight.specs.Flight.{at_rest}
use Rattle.calls_in_flight.specs.OwnStores.{done_by}
use Rattle.calls_in_flight.specs.Steps.{logged_at, with_covers}
use Rattle.safepoint_gate.specs.declared.rule.View.{View}
use Rattle.safepoint_gate.specs.Singles.{IsSo, Says, acting, actor, loads_of, moved, put_of}
use Rattle.safepoint_gate.specs.Steps.{first_thread}
use Rattle.barriers.specs.Shown.{LoadedSpace, MustRecord, PutsEntry, WasLoaded}

-- The thread has loaded more, and nothing else has changed but what it has met.
abbrev pub OnlyLoads : View → List Known → List Known → View → Type 0
OnlyLoads v more lasting w = w ≡ moved v (actor v).flight lasting (loads_of v ++ more) (put_of v)

-- ---- loads

-- The thread has loaded the header of an object of this space. What it had met it still has.
pub record MeetsSpace (v : View) (at : ℕ) (x : Space) (w : View) : Type 0 where
  pub more : List Known
  pub lasting : List Known
  pub view : OnlyLoads v more lasting w
  pub so : IsSo w
  pub space : HasSpace w.map (actor w) at x
  pub shown : LoadedSpace v.map more at x
  pub kept : (place word : ℕ) → HasMet (actor v) place word → HasMet (actor w) place word

-- A field was loaded, and its value's word is this. The reader's bit is set where it must be, and the slot and the stack's length
-- are still to be stored.
pub record FieldBarred (v : View) (event : Event) (word : ℕ) (w : View) : Type 0 where
  pub more : List Known
  pub lasting : List Known
  pub above : ℕ
  pub says : Says v event (with_covers (at_rest (first_thread v.own)) (slot_loaded v.map (actor v) above word ∷ length_loaded v.map (actor v) ∷ [])) (loads_of v ++ more) (put_of v) w.own
  pub view : w ≡ acting v w.own lasting
  pub value : Datum
  pub pushed : says.has ≡ record { stack = (actor v).told.stack ++ value ∷ []; depth = (actor v).told.depth; made = (actor v).told.made }
  pub is_word : IsWordFor v.map value word

-- ---- stores

-- The headers of the objects of two slots were loaded, and a reference from the one's space to the other's crosses. The call stores
-- the reference of the one slot into the object of the other.
pub record LoadsCross (v : View) (more : List Known) (w : View) (asked : Call) : Type 0 where
  pub slot : ℕ
  pub field : ℕ
  pub from : ℕ
  pub call : asked ≡ Store slot field from
  pub at : ℕ
  pub to : ℕ
  pub refers : RefersTo w.map (actor w) slot at
  pub leads : RefersTo w.map (actor w) from to
  pub x : Space
  pub y : Space
  pub header : LoadedSpace v.map more at x
  pub other : LoadedSpace v.map more to y
  pub crosses : Enters x y

-- By the headers that it has loaded the thread knows whether the slot must be recorded.
pub record Crossed (v : View) (asked : Call) (at field word : ℕ) (told : Bool) (w : View) : Type 0 where
  pub more : List Known
  pub lasting : List Known
  pub view : OnlyLoads v more lasting w
  pub stores : StoresInto w.map (actor w) asked at field word
  pub crossing : told ≡ true → MeetsCrossing w.map (actor w) at word × LoadsCross v more w asked
  pub none : told ≡ false → MeetsNone w.map (actor w) at word

-- The slot was put into the thread's store buffer, which was loaded to have room, before the store that comes.
pub record HasLogged (v : View) (asked : Call) (at field word : ℕ) (w : View) : Type 0 where
  pub more : List Known
  pub lasting : List Known
  pub view : w ≡ moved v (at_rest (first_thread v.own)) lasting (loads_of v ++ more) (put_of v + 1)
  pub stores : StoresInto w.map (actor w) asked at field word
  pub crossing : MeetsCrossing w.map (actor w) at word
  pub logged : IsLogged w.map (actor w) (at + OBJECT_WORDS + field)
  pub shown : (n : ℕ) × WasLoaded more (logged_at v.map (first_thread v.own)) n × (n < BUFFER_ENTRIES)

-- The thread's store buffer was loaded to be full, and it has put at least as many entries there. What it had met it still has.
pub record HasNoRoomToLog (v : View) (w : View) : Type 0 where
  pub more : List Known
  pub lasting : List Known
  pub view : OnlyLoads v more lasting w
  pub so : IsSo w
  pub full : WasLoaded more (logged_at v.map (first_thread v.own)) BUFFER_ENTRIES
  pub many : BUFFER_ENTRIES ≤ put_of v
  pub kept : (place word : ℕ) → HasMet (actor v) place word → HasMet (actor w) place word

-- A field was stored by the call. An entry was put into the store buffer exactly where the slot must be recorded, and the buffer's
-- length was loaded then, and had room.
pub record StoreBarred (v : View) (asked : Call) (w : View) : Type 0 where
  pub more : List Known
  pub put : ℕ
  pub says : Says v (done_by asked) (at_rest (first_thread v.own)) (loads_of v ++ more) put w.own
  pub view : w ≡ acting v w.own []
  pub puts : PutsEntry says.before (first_thread v.own) asked Ok (put_of v) put
  pub shown : MustRecord says.before (first_thread v.own) asked → (n : ℕ) × WasLoaded more (logged_at v.map (first_thread v.own)) n × (n < BUFFER_ENTRIES)

-- No refusal of the call applies, its slot must be recorded, and the thread's store buffer is full, in the state that the one
-- history leaves. What was loaded shows it: the buffer's length, and the headers of the two objects, of which the reference
-- to the one crosses in a field of the other. The thread has put as many entries into its buffer since it last filed all buffers.
pub record IsLogFull (v : View) (asked : Call) (w : View) : Type 0 where
  pub more : List Known
  pub lasting : List Known
  pub view : OnlyLoads v more lasting w
  pub so : IsSo w
  pub let_ : refusal_of so.state.graph (first_thread v.own) asked ≡ None
  pub must : MustRecord so.state (first_thread v.own) asked
  pub full : WasLoaded more (logged_at v.map (first_thread v.own)) BUFFER_ENTRIES
  pub many : BUFFER_ENTRIES ≤ put_of v
  pub crossing : LoadsCross v more w asked
