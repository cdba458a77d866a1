-- A collection of the control space that a thread makes, and the count of the pages.
use Rattle.std.specs.Prelude.{◌≡◌, ℕ, [], length}
use Rattle.object_layout.specs.declared.replies.Census.{Census}
use Rattle.object_layout.specs.declared.replies.Reply.{Reply}
use Rattle.object_layout.specs.declared.replies.Reply.TheVariants.{Pages}
use Rattle.heap_words.specs.declared.map.Areas.{Areas}
use Rattle.heap_words.specs.Contents.{Contents}
use Rattle.epoch_lattice.specs.declared.Space.TheVariants.{Control}
use Rattle.yak_model.specs.Spaces.{SpaceState}
use Rattle.yak_model.specs.Stands.{Stands, free_pages, pages_of}
use Rattle.yak_model.specs.Recorded.{Recorded}
use Rattle.region_pages.specs.Counts.{free_in, regions_in}
use Rattle.mark_compact.specs.Collected.{RoomCollected, StateCollected}

-- A collection by a thread led from the one words to the others, for each state that they stand for.
pub record IsCollected (m : Areas) (was now : Contents) (t : ℕ) : Type 0 where
  pub state : (s : SpaceState) (h : Stands m was s) → Recorded m was s h → StateCollected m was now s h
  pub room : RoomCollected m was now t

-- The reply that tells the exact counts of the page table.
abbrev pub counted : Contents → Reply
counted c = Pages (length (free_pages c.heads c.pool)) (regions_in c.table) (pages_of c.table Control)

-- The exact counts of a page table in which no page is free.
pub record CountsFull (c : Contents) (pages : Census) : Type 0 where
  pub none_free : pages.free ≡ 0
  pub free : free_in c.table ≡ 0
  pub pooled : free_pages c.heads c.pool ≡ []
  pub region : pages.region ≡ regions_in c.table
  pub control : pages.control ≡ pages_of c.table Control
