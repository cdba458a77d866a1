-- How a thread's innermost epoch ends.
use Rattle.std.specs.Prelude.{◌≡◌, ◌⊎◌, ℕ, ◌+◌, ◌*◌, ◌≤◌, ◌<◌, Bool, true, false, length, max, Option, Some, None}
use Rattle.object_layout.specs.declared.calls.Call.{Call}
use Rattle.object_layout.specs.declared.calls.Call.TheVariants.{End}
use Rattle.object_layout.specs.declared.replies.Refusal.TheVariants.{NoEpoch}
use Rattle.object_layout.specs.declared.replies.Reply.{Reply}
use Rattle.object_layout.specs.declared.replies.Reply.TheVariants.{Ended, Refused}
use Rattle.object_layout.specs.declared.replies.Shortage.{Shortage}
use Rattle.heap_words.specs.declared.map.Areas.{Areas}
use Rattle.heap_words.specs.Contents.{Contents, depth_of, stack_of}
use Rattle.yak_model.specs.Spaces.{SpaceState, innermost}
use Rattle.yak_model.specs.State.{object_of}
use Rattle.yak_model.specs.Placed.{Places}
use Rattle.yak_model.specs.Stands.{Stands, words_taken}
use Rattle.yak_model.specs.Recorded.{Recorded}
use Rattle.region_pages.specs.Ends.{used_end}
use Rattle.mark_compact.specs.Collected.{RoomCollected, StateCollected}
use Rattle.escape_closure.specs.Ends.{FallsShort, RegionEnded, RegionShort, TightEnded}
use Rattle.escape_closure.specs.Leaving.{records_of}
use Rattle.heap_core.specs.declared.owned.Stepped.{Stepped}
use Rattle.heap_core.specs.Steps.{plain}

-- The objects that escape need more pages than are free.
abbrev pub IsShort : Areas → Contents → SpaceState → Places → ℕ → Type 0
IsShort m c s l t = (shortage : Shortage) × FallsShort m c s l t shortage

-- After a collection the free pages were enough for the objects that escape.
pub record EndedAfter (m : Areas) (was now : Contents) (s : SpaceState) (stands : Stands m was s) (t moved : ℕ) : Type 0 where
  pub between : Contents
  pub room : RoomCollected m was between t
  pub state : StateCollected m was between s stands
  pub ended : RegionEnded m between now state.after state.stands t moved

-- After a collection the free pages were still too few, and the objects that escape stayed in the region's own pages.
pub record TightAfter (m : Areas) (was now : Contents) (s : SpaceState) (stands : Stands m was s) (t moved : ℕ) (shortage : Shortage) : Type 0 where
  pub between : Contents
  pub room : RoomCollected m was between t
  pub state : StateCollected m was between s stands
  pub tried : Contents
  pub short : RegionShort m between tried state.after state.stands t shortage
  pub ended : TightEnded m tried now state.after short.later t moved

-- An end after a collection says that it made one, and the shortage exactly where it is tight.
abbrev pub CollectedAs : (m : Areas) (was now : Contents) (s : SpaceState) → Stands m was s → ℕ → Reply → Option Shortage → Type 0
CollectedAs m was now s stands t (Ended moved false) None = EndedAfter m was now s stands t moved
CollectedAs m was now s stands t (Ended moved true) (Some shortage) = TightAfter m was now s stands t moved shortage
CollectedAs m was now s stands t said shortage = ⊥

-- The end of an epoch after a collection, for each state that the words stand for.
pub record EndsAfterCollection (m : Areas) (was now : Contents) (t : ℕ) (said : Stepped) : Type 0 where
  pub collected : said.collected ≡ true
  pub full : said.full ≡ None
  pub ends : (s : SpaceState) (h : Stands m was s) → Recorded m was s h → CollectedAs m was now s h t said.reply said.shortage

-- The free pages were too few at the call, and then a collection was made.
pub record ShortAtFirst (m : Areas) (was now : Contents) (s : SpaceState) (stands : Stands m was s) (t : ℕ) (said : Reply) (shortage : Option Shortage) : Type 0 where
  pub first : Contents
  pub found : Shortage
  pub short : RegionShort m was first s stands t found
  pub ends : CollectedAs m first now s short.later t said shortage

-- An end without a collection isn't tight: the free pages were enough.
abbrev pub EndsAtOnce : (m : Areas) (was now : Contents) (s : SpaceState) → Stands m was s → ℕ → Reply → Option Shortage → Type 0
EndsAtOnce m was now s stands t (Ended moved false) None = RegionEnded m was now s stands t moved
EndsAtOnce m was now s stands t said shortage = ⊥

-- An end makes a collection exactly where the free pages were too few at the call.
abbrev pub EndsAs : (m : Areas) (was now : Contents) (s : SpaceState) → Stands m was s → ℕ → Reply → Bool → Option Shortage → Type 0
EndsAs m was now s stands t said false shortage = EndsAtOnce m was now s stands t said shortage
EndsAs m was now s stands t said true shortage = ShortAtFirst m was now s stands t said shortage

-- What a call that ends an epoch does. Where the thread has none open it is refused, and changes nothing.
abbrev pub IsEnd : Areas → Contents → Contents → ℕ → Stepped → Type 0
IsEnd m was now t said =
    ((depth_of was t ≡ 0) × (said ≡ plain (Refused NoEpoch)) × (now ≡ was))
    ⊎ ((0 < depth_of was t) × (said.full ≡ None) × ((s : SpaceState) (h : Stands m was s) → Recorded m was s h → EndsAs m was now s h t said.reply said.collected said.shortage))

-- ---- how much an end reads

-- The most reads of an end that makes no collection: the words of the region, the slots of its chain and of the store buffers,
-- and the slots of the thread's stack count. No other object does, and no slot that is recorded for another region. Pages count
-- up to the last one that is in use before or after.
abbrev pub end_reads : (m : Areas) (c d : Contents) (s : SpaceState) → Stands m c s → ℕ → ℕ
end_reads m c d s stands t =
    100 * (words_taken stands.places.pages (object_of s) (innermost s.graph t) + records_of m c (innermost s.graph t) + length (stack_of c t) + 72) + 4 * max (used_end c.table m.pages) (used_end d.table m.pages)

-- A call that ends an open epoch without a collection reads no more.
abbrev pub ReadsFew : (m : Areas) (c d : Contents) (s : SpaceState) → Stands m c s → ℕ → Call → Stepped → ℕ → ℕ → Type 0
ReadsFew m c d s stands t End said before after = said.collected ≡ false → 0 < depth_of c t → after ≤ before + end_reads m c d s stands t
ReadsFew m c d s stands t asked said before after = Unit {0}
