-- The kinds of single step that a thread makes while the gate is open, and runs of such steps.
use Rattle.std.specs.Prelude.{◌≡◌, ◌≢◌, ℕ, ◌+◌, ◌*◌, ◌^◌, ◌-◌, ◌≤◌, ◌<◌, List, [], ◌∷◌, ◌++◌, length, slice_index, slice_set, bit_or, Option}
use Rattle.object_layout.specs.declared.TheConstants.{MAX_INT}
use Rattle.object_layout.specs.declared.calls.Call.{Call}
use Rattle.object_layout.specs.declared.calls.Call.TheVariants.{Int, Null, Dup, Pop, New, Load, Store, Begin, Collect}
use Rattle.object_layout.specs.declared.replies.Reply.{Reply}
use Rattle.object_layout.specs.declared.replies.Reply.TheVariants.{Ended, Ok, OutOfHeap, Pages}
use Rattle.heap_words.specs.declared.map.Areas.{Areas}
use Rattle.heap_words.specs.Map.{heap_at, readers_at}
use Rattle.heap_words.specs.Contents.{stack_of}
use Rattle.epoch_lattice.specs.declared.Space.{Space}
use Rattle.yak_model.specs.declared.history.Entry.TheVariants.{Collected, Said}
use Rattle.yak_model.specs.declared.history.Entry.{Entry}
use Rattle.region_pages.specs.declared.TheConstants.{CLAIM_COUNTER}
use Rattle.standing_calls.specs.Turned.{Turned}
use Rattle.calls_in_flight.specs.Flight.{Flight, Reading, flight_at}
use Rattle.calls_in_flight.specs.Whole.{whole}
use Rattle.calls_in_flight.specs.Steps.{Deepens, Grows, Lays, Settles, Shrinks, depth_at, length_at, logged_at}
use Rattle.calls_in_flight.specs.Shared.{BecomesReader, ClaimsNone, ClaimsPage, FindsPage}
use Rattle.calls_in_flight.specs.Fields.{LoadsField, Logs, StoresField}
use Rattle.calls_in_flight.specs.Making.{Makes, MakesInCurrent, MakesOnClaimed}

-- A reply that tells nothing of the room in the heap.
abbrev pub IsPlainReply : Reply → Type 0
IsPlainReply OutOfHeap = ⊥
IsPlainReply (Ended moved tight) = ⊥
IsPlainReply (Pages free region control) = ⊥
IsPlainReply said = Unit {0}

-- An entry that a thread may add while the gate is open: its lawfulness and what may follow it ask nothing of the pages.
abbrev pub IsPlainEntry : Entry → Type 0
IsPlainEntry (Said t asked said) = (asked ≢ Collect) × IsPlainReply said
IsPlainEntry (Collected t) = ⊥

-- A single step of the call in flight at i leads from the words and calls in flight to others, adds these entries to the history,
-- and puts so many entries into the thread's store buffer.
pub data IsStep (m : Areas) (ws : List ℕ) (fs : List Flight) (i : ℕ) : List ℕ → List Flight → List Entry → ℕ → Type 0 where
  -- a word of the thread's own is stored under a cover, or the last cover is settled
  lays : (a w : ℕ) (f : Flight) → Lays m ws fs i a w f → IsStep m ws fs i (slice_set ws a w) (slice_set fs i f) [] 0
  settles : (a w : ℕ) (f : Flight) → Settles ws fs i a w f → IsStep m ws fs i (slice_set ws a w) (slice_set fs i f) [] 0
  -- a word is loaded, and nothing comes of it
  looks : i < length fs → IsStep m ws fs i ws fs [] 0
  -- the claim counter is loaded or raised
  finds : (f : Flight) → FindsPage ws fs i f → IsStep m ws fs i ws (slice_set fs i f) [] 0
  claims : (n : ℕ) (f : Flight) → ClaimsPage m ws fs i n f → IsStep m ws fs i (slice_set ws CLAIM_COUNTER (n + 1)) (slice_set fs i f) [] 0
  misses : (n : ℕ) (f : Flight) → ClaimsNone ws fs i n f → IsStep m ws fs i (slice_set ws CLAIM_COUNTER (n + 1)) (slice_set fs i f) [] 0
  -- a reader's bit is set
  reads : (r : Reading) (f : Flight) → BecomesReader fs i r f → IsStep m ws fs i (slice_set ws (readers_at m r.owner r.depth) (bit_or (slice_index ws (readers_at m r.owner r.depth)) (2 ^ ((flight_at fs i).thread - 1)))) (slice_set fs i f) [] 0
  -- an entry is put into the store buffer
  logs : (n k j a : ℕ) (f : Flight) → Logs m ws fs i n k j a f → IsStep m ws fs i (slice_set ws (logged_at m (flight_at fs i).thread) (n + 1)) (slice_set fs i f) [] 1
  -- a word is loaded, and an idle entry added
  idles : (asked : Call) (said : Reply) → IsPlainEntry (Said (flight_at fs i).thread asked said) → Turned m (whole m ws fs) (whole m ws fs) (flight_at fs i).thread asked said → IsStep m ws fs i ws fs (Said (flight_at fs i).thread asked said ∷ []) 0
  -- the stack's length is stored
  pushes_int : (n k : ℕ) (f : Flight) → k ≤ MAX_INT → Grows m ws fs i n (2 * k + 1) f → IsStep m ws fs i (slice_set ws (length_at m (flight_at fs i).thread) (n + 1)) (slice_set fs i f) (Said (flight_at fs i).thread (Int k) Ok ∷ []) 0
  pushes_null : (n : ℕ) (f : Flight) → Grows m ws fs i n 0 f → IsStep m ws fs i (slice_set ws (length_at m (flight_at fs i).thread) (n + 1)) (slice_set fs i f) (Said (flight_at fs i).thread Null Ok ∷ []) 0
  pushes_slot : (n k w : ℕ) (f : Flight) → k < n → w ≡ slice_index (stack_of (whole m ws fs) (flight_at fs i).thread) k → Grows m ws fs i n w f → IsStep m ws fs i (slice_set ws (length_at m (flight_at fs i).thread) (n + 1)) (slice_set fs i f) (Said (flight_at fs i).thread (Dup k) Ok ∷ []) 0
  pops : (n : ℕ) → Shrinks m ws fs i n → IsStep m ws fs i (slice_set ws (length_at m (flight_at fs i).thread) n) fs (Said (flight_at fs i).thread Pop Ok ∷ []) 0
  makes : (k : ℕ) (g : Makes m ws fs i k) (f : Flight) → MakesInCurrent m ws fs i k g f → IsStep m ws fs i (slice_set ws (length_at m (flight_at fs i).thread) (g.n + 1)) (slice_set fs i f) (Said (flight_at fs i).thread (New k) Ok ∷ []) 0
  makes_claimed : (k : ℕ) (g : Makes m ws fs i k) (f : Flight) → MakesOnClaimed m ws fs i k g f → IsStep m ws fs i (slice_set ws (length_at m (flight_at fs i).thread) (g.n + 1)) (slice_set fs i f) (Said (flight_at fs i).thread (New k) Ok ∷ []) 0
  -- the depth is stored
  begins : (d : ℕ) → Deepens m ws fs i d → IsStep m ws fs i (slice_set ws (depth_at m (flight_at fs i).thread) (d + 1)) fs (Said (flight_at fs i).thread Begin Ok ∷ []) 0
  -- a field is loaded or stored
  loads : (n k j a : ℕ) (space : Option Space) (f : Flight) → LoadsField m ws fs i n k j a space f → IsStep m ws fs i ws (slice_set fs i f) (Said (flight_at fs i).thread (Load k j) Ok ∷ []) 0
  stores : (k j x a w : ℕ) → StoresField m ws fs i k j x a w → IsStep m ws fs i (slice_set ws (heap_at m + a) w) fs (Said (flight_at fs i).thread (Store k j x) Ok ∷ []) 0

-- A run of single steps of any threads.
pub data IsRun (m : Areas) (ws : List ℕ) (fs : List Flight) : List ℕ → List Flight → List Entry → Type 0 where
  none : IsRun m ws fs ws fs []
  more : (mid now : List ℕ) (gs hs : List Flight) (i put : ℕ) (done next : List Entry) → IsRun m ws fs mid gs done → i < length gs → IsStep m mid gs i now hs next put → IsRun m ws fs now hs (done ++ next)
