-- What a step of a thread does and says.
use Rattle.std.specs.Prelude.{◌≡◌, ◌≢◌, ◌↔◌, ℕ, ◌+◌, ◌<◌, Bool, true, false, List, Option, IsTrue, MatchBool, MatchOption}
use Rattle.object_layout.specs.declared.calls.Call.{Call}
use Rattle.object_layout.specs.declared.calls.Call.TheVariants.{New, End, Collect, Census}
use Rattle.object_layout.specs.declared.replies.Reply.{Reply}
use Rattle.object_layout.specs.declared.replies.Reply.TheVariants.{Ended, Ok, OutOfHeap, Refused}
use Rattle.object_layout.specs.declared.replies.Shortage.{Shortage}
use Rattle.object_layout.specs.declared.replies.Census as layout
use Rattle.object_layout.specs.declared.TheConstants.{OBJECT_WORDS}
use Rattle.heap_words.specs.declared.map.Areas.{Areas}
use Rattle.heap_words.specs.Map.{HasRegion}
use Rattle.heap_words.specs.Contents.{Contents, depth_of, with_readers}
use Rattle.epoch_lattice.specs.declared.Space.TheVariants.{Region}
use Rattle.yak_model.specs.declared.history.Entry.{Entry}
use Rattle.yak_model.specs.Spaces.{Collects, EndsEpoch, SpaceState}
use Rattle.yak_model.specs.State.{object_of}
use Rattle.yak_model.specs.Stands.{Stands}
use Rattle.yak_model.specs.Recorded.{Recorded}
use Rattle.yak_model.specs.Packed.{IsFull, IsPacked}
use Rattle.yak_model.specs.Continued.{PacksControl}
use Rattle.mark_compact.specs.Collected.{RoomCollected, SlotsCollected, StateCollected}
use Rattle.forwarding.specs.Crossing.{AreFiled}
use Rattle.escape_closure.specs.Ends.{FallsShort, HasEnough, RegionShort}
use Rattle.escape_closure.specs.Leaves.{FilesEnded}
use Rattle.heap_core.specs.declared.owned.Stepped.{Stepped}
use Rattle.heap_core.specs.Collecting.{CountsFull, IsCollected, counted}
use Rattle.heap_core.specs.EpochEnds.{IsEnd, IsShort}
use Rattle.yak_model.specs.Continued.{AreLawful, PackedIfAsked, TurnsTo}
use Rattle.standing_calls.specs.Records.{Records, SameRecords}
use Rattle.standing_calls.specs.Room.{HasNoRoom, SameRoom, TakesPlace, TakesRoom}
use Rattle.standing_calls.specs.Turned.{IsIdle}
use Rattle.heap_core.specs.Steps.{entries}

-- ---- when a step collects

-- A collection is made for an object exactly where it doesn't fit the thread's current page and no page is free at the call.
abbrev pub CollectsForNew : Areas → Contents → ℕ → ℕ → Reply → Bool → Type 0
CollectsForNew m was t size (Refused why) collected = collected ≡ false
CollectsForNew m was t size said collected = IsTrue collected ↔ HasNoRoom m was t size

-- A collection is made for an end exactly where the objects that escape need more pages than are free at the call.
abbrev pub CollectsForEnd : (m : Areas) (was : Contents) (s : SpaceState) → Stands m was s → ℕ → Reply → Bool → Type 0
CollectsForEnd m was s stands t (Ended moved tight) collected = MatchBool collected (IsShort m was s stands.places t) (HasEnough m was s stands.places t)
CollectsForEnd m was s stands t said collected = collected ≡ false

-- No other call makes one before it answers.
abbrev pub CollectsWhere : (m : Areas) (was : Contents) (s : SpaceState) → Stands m was s → ℕ → Call → Reply → Bool → Type 0
CollectsWhere m was s stands t (New k) said collected = CollectsForNew m was t (k + OBJECT_WORDS) said collected
CollectsWhere m was s stands t End said collected = CollectsForEnd m was s stands t said collected
CollectsWhere m was s stands t asked said collected = collected ≡ false

-- ---- what a step says of the pages

-- The counts of the pages are told exactly where the heap is full.
abbrev pub TellsFull : Contents → Reply → Option layout.Census → Type 0
TellsFull now said full = MatchOption full (said ≢ OutOfHeap) (λ counts. (said ≡ OutOfHeap) × CountsFull now counts)

-- The heap is full for an object where the reply says so.
abbrev pub FillsHeap : (m : Areas) (now : Contents) (s : SpaceState) → Stands m now s → ℕ → Call → Reply → Type 0
FillsHeap m now s stands t (New k) said = said ≡ OutOfHeap → IsFull m now s stands t k
FillsHeap m now s stands t asked said = said ≢ OutOfHeap

-- The free pages were too few at the call, and after the collection that then was made the objects that escape still need more
-- pages than are free. These are both numbers.
pub record ShortAfter (m : Areas) (was : Contents) (s : SpaceState) (stands : Stands m was s) (t : ℕ) (shortage : Shortage) : Type 0 where
  pub first : Contents
  pub found : Shortage
  pub tried : RegionShort m was first s stands t found
  pub between : Contents
  pub room : RoomCollected m first between t
  pub state : StateCollected m first between s tried.later
  pub short : FallsShort m between state.after state.stands.places t shortage

-- The shortage is told exactly where an end was tight.
abbrev pub TellsShortage : (m : Areas) (was : Contents) (s : SpaceState) → Stands m was s → ℕ → Reply → Option Shortage → Type 0
TellsShortage m was s stands t said shortage =
    MatchOption shortage ((moved : ℕ) → said ≢ Ended moved true)
    (λ numbers. ((moved : ℕ) × (said ≡ Ended moved true)) × (numbers.free < numbers.needed) × ShortAfter m was s stands t numbers)

-- A census tells the exact counts.
abbrev pub TellsPages : Contents → Call → Reply → Type 0
TellsPages was Census said = said ≡ counted was
TellsPages was asked said = Unit {0}

-- ---- what a step records, and the room that it takes

-- All store buffers are empty, and the readers of regions are as they were.
pub record Files (was now : Contents) : Type 0 where
  pub filed : AreFiled now.buffers
  pub readers : now.readers ≡ was.readers

-- A collection led to words between, and then nothing is recorded. In the words between, the chain of each region holds exactly
-- the slots that filing the store buffers puts there, in that order, without the fields of the objects that are gone, and each
-- field of an object that is kept at its new place.
pub record RecordsCollected (m : Areas) (was now : Contents) (s : SpaceState) (stands : Stands m was s) : Type 0 where
  pub files : Files was now
  pub between : Contents
  pub after : SpaceState
  pub collects : Collects s after
  pub later : Stands m between after
  pub slots : SlotsCollected m was between (object_of s) (object_of after) stands.places.at later.places.at
  pub same : SameRecords between now

-- A call that makes an object records nothing, but for the collection that it may make.
abbrev pub RecordsNew : (m : Areas) (was now : Contents) (s : SpaceState) → Stands m was s → Bool → Type 0
RecordsNew m was now s stands false = SameRecords was now
RecordsNew m was now s stands true = RecordsCollected m was now s stands

-- All store buffers are empty, the region that ended has no readers, and the readers of all others are as they were.
pub record FilesAtEnd (was now : Contents) (t : ℕ) : Type 0 where
  pub filed : AreFiled now.buffers
  pub readers : now.readers ≡ (with_readers was t (depth_of was t) 0).readers

-- In the state after the end no slot is recorded for the region that ended, and for each other region exactly these are: those
-- that were, and those of the ended region whose references enter this one now, but for those that lie in the ended region; and
-- the fields of the objects that escaped whose references enter it from another space.
pub record RecordsEscaped (m : Areas) (was now : Contents) (s : SpaceState) (t moved : ℕ) (tight : Bool) : Type 0 where
  pub after : SpaceState
  pub ends : EndsEpoch s t moved tight after
  pub stands : Stands m now after
  pub filed : FilesEnded m was now s t (object_of after) stands.places.at

-- A collection led to words between, in which no buffer holds anything and the chains hold exactly the slots of the objects that
-- are kept, as after any collection. From there the end recorded.
pub record RecordsAfter (m : Areas) (was now : Contents) (s : SpaceState) (stands : Stands m was s) (t moved : ℕ) (tight : Bool) : Type 0 where
  pub between : Contents
  pub after : SpaceState
  pub collects : Collects s after
  pub later : Stands m between after
  pub emptied : AreFiled between.buffers
  pub slots : SlotsCollected m was between (object_of s) (object_of after) stands.places.at later.places.at
  pub escaped : RecordsEscaped m between now after t moved tight

-- An end files what the buffers hold, and records the slots that are told above, after a collection where it made one.
abbrev pub RecordsEnd : (m : Areas) (was now : Contents) (s : SpaceState) → Stands m was s → ℕ → Reply → Bool → Type 0
RecordsEnd m was now s stands t (Ended moved tight) false = FilesAtEnd was now t × RecordsEscaped m was now s t moved false
RecordsEnd m was now s stands t (Ended moved tight) true = FilesAtEnd was now t × RecordsAfter m was now s stands t moved tight
RecordsEnd m was now s stands t said collected = SameRecords was now

-- What a step records. No call but a store makes a buffer longer.
abbrev pub StepRecords : (m : Areas) (was now : Contents) (s : SpaceState) → Stands m was s → ℕ → Call → Reply → Bool → Type 0
StepRecords m was now s stands t (New k) said collected = RecordsNew m was now s stands collected
StepRecords m was now s stands t End said collected = RecordsEnd m was now s stands t said collected
StepRecords m was now s stands t Collect said collected = RecordsCollected m was now s stands
StepRecords m was now s stands t asked said collected = Records m s stands.places.at was now t asked said

-- An object had no room, a collection was made, and more holds of the contents that it left.
pub record MakesRoom (m : Areas) (was : Contents) (t size : ℕ) (more : Contents → Type 0) : Type 0 where
  pub short : HasNoRoom m was t size
  pub between : Contents
  pub collected : IsCollected m was between t
  pub then : more between

-- An object takes its place, at once or after a collection, or has no room after a collection either.
abbrev pub RoomForNew : Areas → Contents → Contents → ℕ → ℕ → Reply → Bool → Type 0
RoomForNew m was now t size Ok false = TakesPlace m was now t size
RoomForNew m was now t size Ok true = MakesRoom m was t size (λ between. TakesPlace m between now t size)
RoomForNew m was now t size OutOfHeap collected = MakesRoom m was t size (λ between. HasNoRoom m between t size × SameRoom between now)
RoomForNew m was now t size said collected = SameRoom was now

-- What a step takes of the room in the pages. What an end takes is told with how it ends.
abbrev pub StepRoom : Areas → Contents → Contents → ℕ → Call → Reply → Bool → Type 0
StepRoom m was now t (New k) said collected = RoomForNew m was now t (k + OBJECT_WORDS) said collected
StepRoom m was now t End said collected = Unit {0}
StepRoom m was now t Collect said collected = IsCollected m was now t
StepRoom m was now t asked said collected = TakesRoom m was now t asked said

-- An end ends the epoch as the rules have it.
abbrev pub EndsSo : Areas → Contents → Contents → ℕ → Call → Stepped → Type 0
EndsSo m was now t End said = IsEnd m was now t said
EndsSo m was now t asked said = Unit {0}

-- Each region of the heap's threads wastes at most half of its pages, but for one page.
abbrev pub RegionsPacked : Areas → Contents → Type 0
RegionsPacked m c = (s : SpaceState) (h : Stands m c s) (t d : ℕ) → HasRegion m t d → IsPacked m c s h (Region t d)

-- All that a step does and says.
pub record Done (m : Areas) (was now : Contents) (t : ℕ) (asked : Call) (said : Stepped) : Type 0 where
  pub turns : (s : SpaceState) (h : Stands m was s) → Recorded m was s h → TurnsTo m was now s h (entries t asked said)
  pub lawful : (s : SpaceState) (h : Stands m was s) → Recorded m was s h → (before : List Entry) → PackedIfAsked m was s h before → AreLawful m.pages before s (entries t asked said)
  pub collected : (s : SpaceState) (h : Stands m was s) → Recorded m was s h → CollectsWhere m was s h t asked said.reply said.collected
  pub full : TellsFull now said.reply said.full
  pub filled : (s : SpaceState) (h : Stands m now s) → FillsHeap m now s h t asked said.reply
  pub shortage : (s : SpaceState) (h : Stands m was s) → Recorded m was s h → TellsShortage m was s h t said.reply said.shortage
  pub ended : EndsSo m was now t asked said
  pub counts : TellsPages was asked said.reply
  pub packed : (s : SpaceState) (h : Stands m now s) → PacksControl m now s h asked
  pub records : (s : SpaceState) (h : Stands m was s) → Recorded m was s h → StepRecords m was now s h t asked said.reply said.collected
  pub room : StepRoom m was now t asked said.reply said.collected
  pub idle : IsIdle asked said.reply → now ≡ was
