-- Histories that go on, in words that stand for the state that they leave.
use Rattle.std.specs.Prelude.{ℕ, List, [], ◌∷◌, ◌++◌}
use Rattle.object_layout.specs.declared.calls.Call.{Call}
use Rattle.object_layout.specs.declared.calls.Call.TheVariants.{Collect}
use Rattle.object_layout.specs.declared.calls.Event.{Event}
use Rattle.heap_words.specs.declared.map.Areas.{Areas}
use Rattle.heap_words.specs.Contents.{Contents}
use Rattle.epoch_lattice.specs.declared.Space.TheVariants.{Control}
use Rattle.yak_model.specs.Graph.{standard_limits}
use Rattle.yak_model.specs.History.{Entry}
use Rattle.yak_model.specs.Lawful.{EndsAsked, IsEntryLawful, IsLawful}
use Rattle.yak_model.specs.Packed.{IsPacked}
use Rattle.yak_model.specs.Recorded.{Recorded}
use Rattle.yak_model.specs.Spaces.{SpaceState, Turns, TurnsAll, spaces}
use Rattle.yak_model.specs.Standing.{entries_of}
use Rattle.yak_model.specs.Stands.{Stands}

-- Entries may come one after another in a heap of so many pages, after a history and from the state that it leaves.
abbrev pub AreLawful : ℕ → List Entry → SpaceState → List Entry → Type 0
AreLawful pages before s [] = Unit {0}
AreLawful pages before s (entry ∷ rest) =
    IsEntryLawful pages before s entry rest × ((mid : SpaceState) → Turns s entry mid → AreLawful pages (before ++ entry ∷ []) mid rest)

-- Control is packed where the history ends with a collection that a thread asked for.
abbrev pub PackedIfAsked : (m : Areas) (c : Contents) (s : SpaceState) → Stands m c s → List Entry → Type 0
PackedIfAsked m c s stands before = EndsAsked before → IsPacked m c s stands Control

-- Control is packed after a collection that a thread asked for.
abbrev pub PacksControl : (m : Areas) (now : Contents) (s : SpaceState) → Stands m now s → Call → Type 0
PacksControl m now s stands Collect = IsPacked m now s stands Control
PacksControl m now s stands asked = Unit {0}

-- The state turns by the entries to one that the words stand for now. Where the references that cross into regions were
-- recorded, they are recorded again.
abbrev pub TurnsTo : (m : Areas) (was now : Contents) (s : SpaceState) → Stands m was s → List Entry → Type 0
TurnsTo m was now s h done =
    (after : SpaceState) × TurnsAll s done after × (later : Stands m now after) × (Recorded m was s h → Recorded m now after later)

-- the entries of a thread that an event tells
abbrev pub entries_told : ℕ → Event → List Entry
entries_told t event = entries_of event.collected t event.call event.reply

-- The thread's call, as the event tells it, led from the one words to the others: each state that the words stood for, with its
-- crossing references recorded, turns by the entries to one that they stand for now. The entries may come after each history
-- that left that state, and Control is packed after a collection that was asked for.
pub record Continues (m : Areas) (was now : Contents) (t : ℕ) (event : Event) : Type 0 where
  pub turns : (s : SpaceState) (h : Stands m was s) → Recorded m was s h → TurnsTo m was now s h (entries_told t event)
  pub lawful : (s : SpaceState) (h : Stands m was s) → Recorded m was s h → (before : List Entry) → PackedIfAsked m was s h before → AreLawful m.pages before s (entries_told t event)
  pub packed : (s : SpaceState) (h : Stands m now s) → PacksControl m now s h event.call

-- The other words stand for each state that the ones stood for with its crossing references recorded, these are recorded again,
-- and Control is packed if it was.
pub record StandsStill (m : Areas) (was now : Contents) : Type 0 where
  pub stands : (s : SpaceState) (h : Stands m was s) → Recorded m was s h → Stands m now s
  pub recorded : (s : SpaceState) (h : Stands m was s) (r : Recorded m was s h) → Recorded m now s (stands s h r)
  pub packed : (s : SpaceState) (h : Stands m was s) (r : Recorded m was s h) → IsPacked m was s h Control → IsPacked m now s (stands s h r) Control

-- The history is one that a heap of this map may make. The words stand for the state that it leaves, with the crossing
-- references recorded, and Control is packed where it ends with a collection that was asked for.
pub record Explains (m : Areas) (c : Contents) (history : List Entry) : Type 0 where
  pub lawful : IsLawful standard_limits m.threads m.pages history
  pub state : SpaceState
  pub leaves : spaces standard_limits m.threads history state
  pub stands : Stands m c state
  pub recorded : Recorded m c state stands
  pub packed : PackedIfAsked m c state stands history
