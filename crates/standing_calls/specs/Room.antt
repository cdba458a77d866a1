-- What a call takes of the room in the pages.
use Rattle.std.specs.Prelude.{◌≡◌, ℕ, ◌+◌, ◌<◌, []}
use Rattle.object_layout.specs.declared.calls.Call.{Call}
use Rattle.object_layout.specs.declared.calls.Call.TheVariants.{New}
use Rattle.object_layout.specs.declared.replies.Reply.{Reply}
use Rattle.object_layout.specs.declared.replies.Reply.TheVariants.{Ok, OutOfHeap}
use Rattle.object_layout.specs.declared.TheConstants.{OBJECT_WORDS}
use Rattle.heap_words.specs.declared.map.Areas.{Areas}
use Rattle.heap_words.specs.Contents.{Contents, depth_of}
use Rattle.epoch_lattice.specs.Lattice.{inner_of}
use Rattle.yak_model.specs.Stands.{claim_counter, free_pages, pool_length}
use Rattle.region_pages.specs.Placement.{IsPlaced, words_left_at}

-- The page table, the pool and the current pages are as they were.
pub record SameRoom (was now : Contents) : Type 0 where
  pub claims : claim_counter now.heads ≡ claim_counter was.heads
  pub pooled : pool_length now.heads ≡ pool_length was.heads
  pub pool : now.pool ≡ was.pool
  pub table : now.table ≡ was.table
  pub currents : now.currents ≡ was.currents

-- An object of some words is placed in the thread's innermost space, and that takes all the room that the call takes.
pub record TakesPlace (m : Areas) (was now : Contents) (thread size : ℕ) : Type 0 where
  pub address : ℕ
  pub placed : Contents
  pub place : IsPlaced m was thread (inner_of thread (depth_of was thread)) size address placed
  pub rest : SameRoom placed now

-- The thread's current page in its innermost space has too few words left for an object, and no page is free.
pub record HasNoRoom (m : Areas) (c : Contents) (thread size : ℕ) : Type 0 where
  pub few_left : words_left_at m c thread (depth_of c thread) < size
  pub none_free : free_pages c.heads c.pool ≡ []

-- A call that makes an object takes its place, or says that there is no room where there is none. No other answer takes room.
abbrev pub TakesRoom : Areas → Contents → Contents → ℕ → Call → Reply → Type 0
TakesRoom m was now thread (New k) Ok = TakesPlace m was now thread (k + OBJECT_WORDS)
TakesRoom m was now thread (New k) OutOfHeap = HasNoRoom m was thread (k + OBJECT_WORDS) × SameRoom was now
TakesRoom m was now thread asked said = SameRoom was now
