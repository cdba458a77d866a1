-- The plan of an end, and what an end leaves.
use Rattle.std.specs.Prelude.{◌≡◌, ◌≢◌, ◌⊎◌, ◌↔◌, ℕ, ◌+◌, ◌-◌, ◌*◌, ◌/◌, ◌≤◌, ◌<◌, ◌==◌, cond, Bool, true, false, List, ◌++◌, length, slice_index, slice_set, map, Some, zero, suc}
use Rattle.std.specs.List.{Contains}
use Rattle.object_layout.specs.declared.names.Name.{Name}
use Rattle.object_layout.specs.declared.replies.Shortage.{Shortage}
use Rattle.epoch_lattice.specs.declared.Space.{Space}
use Rattle.epoch_lattice.specs.declared.Space.TheVariants.{Region}
use Rattle.epoch_lattice.specs.Lattice.{space_index}
use Rattle.heap_words.specs.declared.map.Areas.{Areas}
use Rattle.heap_words.specs.Map.{max_depth, page_words}
use Rattle.heap_words.specs.Cells.{row}
use Rattle.heap_words.specs.Contents.{Contents, depth_of, with_current}
use Rattle.yak_model.specs.Spaces.{EndsEpoch, SpaceState, home_of, innermost}
use Rattle.yak_model.specs.State.{IsOpen, object_of, view}
use Rattle.yak_model.specs.Placed.{Holds, Places, datum_word, size_by, space_word, used_mark}
use Rattle.yak_model.specs.Plans.{IsLawfulPlan, Move, forwarded, without}
use Rattle.yak_model.specs.Packed.{IsSpaceOf}
use Rattle.yak_model.specs.Stands.{CurrentsStand, PoolStands, Stands, claim_counter, current, free_pages, pages_of, words_taken}
use Rattle.yak_model.specs.Recorded.{Recorded}
use Rattle.region_pages.specs.Pages.{TableFits}
use Rattle.region_pages.specs.declared.TheConstants.{CLAIM_COUNTER}
use Rattle.relocation.specs.Moves.{Numbered, move_at}
use Rattle.relocation.specs.Slide.{brought}
use Rattle.forwarding.specs.Crossing.{AreFiled}
use Rattle.escape_closure.specs.Leaves.{FilesRecorded, IsLeftAs, RestKept, SlidInto}
use Rattle.escape_closure.specs.Targets.{IsEscaping}
use Rattle.escape_closure.specs.Needs.{InOrder, pages_needed}
use Rattle.escape_closure.specs.InTurn.{EscapingInTurn, FindsNoPlace, StandInTurn}

-- The word in the page table of the pages of a thread's innermost region.
abbrev pub region_word : SpaceState → ℕ → ℕ
region_word s t = space_index (innermost s.graph t) + 1

-- The objects of the thread's innermost region that don't escape are dropped, and no others.
pub record DropsRest (s : SpaceState) (t : ℕ) (dropped : Name → Bool) : Type 0 where
  pub gone : (n : Name) → dropped n ≡ true → (home_of s n ≡ Some (innermost s.graph t)) × (IsEscaping s t n → ⊥)
  pub kept : (n : Name) → dropped n ≡ false → home_of s n ≡ Some (innermost s.graph t) → IsEscaping s t n

-- The words of those of the first objects that go to a space.
abbrev pub words_into : (ℕ → Space) → (ℕ → ℕ) → Space → ℕ → ℕ
words_into target size x zero = 0
words_into target size x (suc k) = words_into target size x k + cond (space_index (target k) == space_index x) (size k) 0

-- An object is placed at the end of what its page held and of what the plan brought there before.
pub record PlacedAt (m : Areas) (c d : Contents) (moves : ℕ → Move) (k : ℕ) : Type 0 where
  pub page : ℕ
  pub exists : page < m.pages
  pub entered : space_word d.table page ≡ space_index (moves k).space + 1
  pub within : (moves k).new / page_words m ≡ page
  pub address : (moves k).new ≡ page_words m * page + (used_mark c.table page + brought m c.heap k moves page)

-- The escaping objects are planned in ascending order of address, each in its target by the rule of placement, in words
-- that the targets were written into. Only work words of planned objects, the table, the claim counter, the current pages
-- and the scratch area have changed.
pub record EndPlanned (m : Areas) (c d : Contents) (s : SpaceState) (l : Places) (t count : ℕ) : Type 0 where
  pub order : InOrder s l t count
  pub enough : pages_needed m c s l t count order ≤ length (free_pages c.heads c.pool)
  pub moves : (k : ℕ) → k < count → ((move_at d.scratch k).old ≡ l.at (order.name k)) × ((move_at d.scratch k).space ≡ order.target k)
  pub spaces : (k : ℕ) → k < count → IsSpaceOf m (order.target k) × IsOpen (view s).depths (order.target k) × (order.target k ≢ innermost s.graph t)
  pub lawful : (dropped : Name → Bool) → DropsRest s t dropped → IsLawfulPlan m count (move_at d.scratch) (view s) l.at dropped
  pub numbered : Numbered m d.heap count (move_at d.scratch)
  pub heap : (i : ℕ) → ((k : ℕ) → k < count → i ≢ (move_at d.scratch k).old + 2) → slice_index d.heap i ≡ slice_index c.heap i
  pub size : length d.heap ≡ length c.heap
  pub frame : d ≡ record c { heads = slice_set c.heads CLAIM_COUNTER (claim_counter d.heads); currents = d.currents; table = d.table; scratch = d.scratch; heap = d.heap }
  pub placed : (k : ℕ) → k < count → PlacedAt m c d (move_at d.scratch) k
  pub marks : (p : ℕ) → p < m.pages → used_mark d.table p ≡ used_mark c.table p + brought m c.heap count (move_at d.scratch) p
  pub kept : (p : ℕ) → p < m.pages → space_word c.table p ≢ 0 → space_word d.table p ≡ space_word c.table p
  pub entered : (p : ℕ) → p < m.pages → space_word c.table p ≡ 0 → space_word d.table p ≢ 0 → (k : ℕ) × (k < count) × (space_word d.table p ≡ space_index (move_at d.scratch k).space + 1)
  pub claimed : List ℕ
  pub free : free_pages c.heads c.pool ≡ claimed ++ free_pages d.heads d.pool
  pub claims : length claimed ≡ pages_needed m c s l t count order
  pub pool : PoolStands m d.heads d.pool d.table
  pub currents : CurrentsStand m d.currents d.table
  pub fits : TableFits m d.table
  pub own : (u e : ℕ) → Region u e ≡ innermost s.graph t → current d.currents u e ≡ current c.currents u e
  pub dense : (u e : ℕ) → 1 ≤ u → u ≤ m.threads → 1 ≤ e → e ≤ max_depth m → Region u e ≢ innermost s.graph t → 0 < pages_of d.table (Region u e) → (current d.currents u e ≢ 0) × (page_words m * (pages_of d.table (Region u e) - 1) + used_mark d.table (current d.currents u e - 1) ≤ 2 * (words_taken l.pages (object_of s) (Region u e) + words_into order.target (λ k. size_by (object_of s) (order.name k)) (Region u e) count))
  pub in_turn : EscapingInTurn m s l t count order (λ k. (move_at d.scratch k).new) c (record d { scratch = c.scratch; heap = c.heap })

-- The pages that the escaping objects need are more than the free ones, and these are both numbers. Placed by ascending
-- address they run out of room.
pub record FallsShort (m : Areas) (c : Contents) (s : SpaceState) (l : Places) (t : ℕ) (shortage : Shortage) : Type 0 where
  pub count : ℕ
  pub order : InOrder s l t count
  pub needed : shortage.needed ≡ pages_needed m c s l t count order
  pub free : shortage.free ≡ length (free_pages c.heads c.pool)
  pub more : shortage.free < shortage.needed
  pub runs_out : FindsNoPlace m t count order.target (λ k. size_by (object_of s) (order.name k)) c

-- Some order of the escaping objects needs no more pages than are free.
pub record HasEnough (m : Areas) (c : Contents) (s : SpaceState) (l : Places) (t : ℕ) : Type 0 where
  pub count : ℕ
  pub order : InOrder s l t count
  pub enough : pages_needed m c s l t count order ≤ length (free_pages c.heads c.pool)

-- ---- references that follow the plan of an end

-- The words are those of a state whose escaping objects are the ones of a plan, and the buffers were filed before.
pub record PlanReady (m : Areas) (before c : Contents) (s : SpaceState) (stands : Stands m before s) (t count : ℕ) : Type 0 where
  pub recorded : Recorded m before s stands
  pub filed : AreFiled before.buffers
  pub moved : (k : ℕ) → k < count → (n : Name) × IsEscaping s t n × (stands.places.at n ≡ (move_at c.scratch k).old)
  pub complete : (n : Name) → IsEscaping s t n → (k : ℕ) × (k < count) × (stands.places.at n ≡ (move_at c.scratch k).old)
  pub numbered : Numbered m c.heap count (move_at c.scratch)
  pub holds : Holds m c.heap stands.places.at stands.places.at (λ n. slice_index c.heap (stands.places.at n + 2)) (object_of s)
  pub kept : (p : ℕ) → p < m.pages → space_word before.table p ≢ 0 → space_word c.table p ≡ space_word before.table p
  pub frame : c ≡ record before { heads = c.heads; currents = c.currents; table = c.table; scratch = c.scratch; heap = c.heap }

-- Every reference of the stacks and of the kept objects leads by the plan. Only stacks and fields have changed.
pub record References (m : Areas) (c d : Contents) (s : SpaceState) (l : Places) (t count : ℕ) : Type 0 where
  pub stacks : d.stacks ≡ map (map (datum_word (forwarded count (move_at c.scratch) l.at))) (view s).stacks
  pub holds : (dropped : Name → Bool) → DropsRest s t dropped → Holds m d.heap l.at (forwarded count (move_at c.scratch) l.at) (λ n. slice_index c.heap (l.at n + 2)) (without (view s) dropped).objects
  pub numbered : Numbered m d.heap count (move_at c.scratch)
  pub size : length d.heap ≡ length c.heap
  pub frame : d ≡ record c { stacks = d.stacks; heap = d.heap }

-- ---- what an end leaves

-- The words stand for the state after the end, in which the crossing references are recorded. No page belongs to the region
-- any more, and the buffers are filed.
pub record StateEnded (m : Areas) (now : Contents) (s : SpaceState) (t : ℕ) (tight : Bool) (moved : ℕ) : Type 0 where
  pub after : SpaceState
  pub ends : EndsEpoch s t moved tight after
  pub stands : Stands m now after
  pub recorded : Recorded m now after stands
  pub filed : AreFiled now.buffers
  pub gone : (p : ℕ) → p < m.pages → space_word now.table p ≢ region_word s t

-- An end for which the free pages were enough: those that the plan claimed are free no longer, and all that were the region's
-- are free. Objects outside stay (`rest`); those that escaped stand where the rule of placement puts them (`in_turn`).
pub record RegionEnded (m : Areas) (c d : Contents) (s : SpaceState) (stands : Stands m c s) (t moved : ℕ) : Type 0 where
  pub state : StateEnded m d s t false moved
  pub rest : RestKept m c d s stands.places t state.after state.stands.places.at
  pub order : InOrder s stands.places t moved
  pub enough : pages_needed m c s stands.places t moved order ≤ length (free_pages c.heads c.pool)
  pub claimed : List ℕ
  pub left : List ℕ
  pub former : free_pages c.heads c.pool ≡ claimed ++ left
  pub claims : length claimed ≡ pages_needed m c s stands.places t moved order
  pub free : (p : ℕ) → Contains (free_pages d.heads d.pool) p ↔ (Contains left p ⊎ ((p < m.pages) × (space_word c.table p ≡ region_word s t)))
  pub in_turn : StandInTurn m c d s stands.places t moved order state.stands.places.at

-- An end that found the free pages too few: the buffers are filed, and nothing else has changed but the scratch area, which
-- has no meaning between calls.
pub record RegionShort (m : Areas) (c d : Contents) (s : SpaceState) (stands : Stands m c s) (t : ℕ) (shortage : Shortage) : Type 0 where
  pub short : FallsShort m c s stands.places t shortage
  pub later : Stands m d s
  pub places : later.places ≡ stands.places
  pub recorded : Recorded m d s later
  pub filed : AreFiled d.buffers
  pub records : FilesRecorded m c d
  pub frame : d ≡ record c { firsts = d.firsts; sets = d.sets; buffers = d.buffers; scratch = d.scratch }
  pub room : free_pages d.heads d.pool ≡ free_pages c.heads c.pool

-- A tight end: the objects that escape, in ascending order of address, are slid within the region's own pages. A page of the
-- region in which one of them stands then is Control's, and each other one is free. No other page has changed, and no current
-- page but the region's, which has none.
pub record TightEnded (m : Areas) (c d : Contents) (s : SpaceState) (stands : Stands m c s) (t moved : ℕ) : Type 0 where
  pub state : StateEnded m d s t true moved
  pub rest : RestKept m c d s stands.places t state.after state.stands.places.at
  pub order : InOrder s stands.places t moved
  pub slid : SlidInto m (region_word s t) c.table moved (λ k. size_by (object_of s) (order.name k)) (λ k. state.stands.places.at (order.name k))
  pub region : (p : ℕ) → p < m.pages → space_word c.table p ≡ region_word s t → IsLeftAs m d.table moved (λ k. state.stands.places.at (order.name k)) p
  pub pages : (p : ℕ) → p < m.pages → space_word c.table p ≢ region_word s t → row d.table p ≡ row c.table p
  pub currents : d.currents ≡ (with_current c t (depth_of c t) 0).currents
