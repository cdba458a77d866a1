-- The steps of an end, from its plan to the words that it leaves.
use Rattle.std.specs.Prelude.{◌≡◌, ◌≢◌, ◌⊎◌, ℕ, ◌+◌, ◌-◌, ◌*◌, ◌/◌, ◌≤◌, ◌<◌, ◌==◌, cond, Bool, false, List, length, slice_index, slice_set, map, Option, Some, None}
use Rattle.object_layout.specs.declared.names.Name.{Name}
use Rattle.epoch_lattice.specs.declared.Space.{Space}
use Rattle.epoch_lattice.specs.declared.Space.TheVariants.{Control}
use Rattle.epoch_lattice.specs.Lattice.{space_index}
use Rattle.heap_words.specs.declared.map.Areas.{Areas}
use Rattle.heap_words.specs.Map.{heap_length, page_words}
use Rattle.heap_words.specs.Cells.{row_set}
use Rattle.heap_words.specs.Contents.{Contents, InLimits, depth_of}
use Rattle.yak_model.specs.Spaces.{SpaceState, home_of, innermost}
use Rattle.yak_model.specs.State.{IsClosed, IsOpen, Thing, view}
use Rattle.yak_model.specs.Placed.{HeapStands, Holds, Places, datum_word, space_word, used_mark}
use Rattle.yak_model.specs.Plans.{IsLawfulPlan, Move, after_moves, by_move, cleared, forwarded, without}
use Rattle.yak_model.specs.Stands.{CurrentsStand, PoolStands, RegionsDense, Stands, unused_heads}
use Rattle.yak_model.specs.Recorded.{Recorded}
use Rattle.relocation.specs.Moves.{move_at}
use Rattle.relocation.specs.Slide.{IsPageOf, Runs, Sliding, brought}
use Rattle.forwarding.specs.Slots.{slots_brought}
use Rattle.remember_sets.specs.Filed.{ChainsBecome, SetsHold, all_filed, chain, logged, outside}
use Rattle.forwarding.specs.Crossing.{AreFiled}
use Rattle.forwarding.specs.Pool.{PoolAnew}
use Rattle.escape_closure.specs.Leaves.{FilesRecorded}
use Rattle.escape_closure.specs.Targets.{IsEscaping, IsTargetAt, TargetsWritten}
use Rattle.escape_closure.specs.Ends.{DropsRest, EndPlanned, PlanReady, region_word}

-- The moves are those of the escaping objects, each into its target, or all into Control where the end is tight.
pub record EndMoves (s : SpaceState) (l : Places) (t count : ℕ) (moves : ℕ → Move) (tight : Bool) : Type 0 where
  pub ascending : (j k : ℕ) → j < k → k < count → (moves j).old < (moves k).old
  pub moved : (k : ℕ) → k < count → (n : Name) × IsEscaping s t n × (l.at n ≡ (moves k).old)
  pub complete : (n : Name) → IsEscaping s t n → (k : ℕ) × (k < count) × (l.at n ≡ (moves k).old) × (x : Space) × IsTargetAt s t n x × ((moves k).space ≡ cond tight Control x)

-- A space is the one, by its number.
abbrev pub is_home : Space → Option Space → Bool
is_home r None = false
is_home r (Some x) = space_index x == space_index r

-- The objects of the innermost region that no move takes along.
abbrev pub left_behind : SpaceState → Places → ℕ → ℕ → (ℕ → Move) → Name → Bool
left_behind s l t count moves n = by_move count moves (λ v. false) (l.at n) (is_home (innermost s.graph t) (home_of s n))

-- The objects after the moves, without those that no move takes along.
abbrev pub objects_left : SpaceState → Places → ℕ → ℕ → (ℕ → Move) → Name → Option Thing
objects_left s l t count moves = (after_moves count moves l.at (without (view s) (left_behind s l t count moves))).objects

-- An object is placed behind what its page held and what the moves brought there before, in a page that isn't one of the
-- region that ends.
pub record PlacedIn (m : Areas) (slid : ℕ) (was : List (List ℕ)) (heap : List ℕ) (now : List (List ℕ)) (moves : ℕ → Move) (k : ℕ) : Type 0 where
  pub page : ℕ
  pub exists : page < m.pages
  pub other : IsPageOf slid was page → ⊥
  pub entered : space_word now page ≡ space_index (moves k).space + 1
  pub within : (moves k).new / page_words m ≡ page
  pub address : (moves k).new ≡ page_words m * page + (used_mark was page + brought m heap k moves page)

-- The page table after the moves of an end, when the pages of the region are given back.
pub record PagesLeft (m : Areas) (slid : ℕ) (was : List (List ℕ)) (heap : List ℕ) (now : List (List ℕ)) (count : ℕ) (moves : ℕ → Move) : Type 0 where
  pub gone : (p : ℕ) → p < m.pages → IsPageOf slid was p → (space_word now p ≡ 0) × (used_mark now p ≡ 0)
  pub kept : (p : ℕ) → p < m.pages → (IsPageOf slid was p → ⊥) → space_word was p ≢ 0 → space_word now p ≡ space_word was p
  pub marks : (p : ℕ) → p < m.pages → (IsPageOf slid was p → ⊥) → used_mark now p ≡ used_mark was p + brought m heap count moves p
  pub fits : (p : ℕ) → p < m.pages → used_mark now p ≤ page_words m
  pub placed : (k : ℕ) → k < count → PlacedIn m slid was heap now moves k

-- What an end leaves in the words: the objects that are left lie in pages of open spaces, and references lead to them. The slots
-- outside the region stay in their chains, those of the region's own chain are filed anew, and so are the fields of the moved
-- objects. The words before are those whose buffers were filed.
pub record Leaves (m : Areas) (c d : Contents) (s : SpaceState) (l : Places) (t count : ℕ) (moves : ℕ → Move) (later : Places) : Type 0 where
  pub at : later.at ≡ forwarded count moves l.at
  pub heap : HeapStands m d.table d.heap (objects_left s l t count moves) later (λ _. 0)
  pub spaces : (p : ℕ) → p < m.pages → (space_word d.table p ≡ 0) ⊎ ((x : Space) × (space_word d.table p ≡ space_index x + 1) × IsOpen (view s).depths x × (x ≢ innermost s.graph t))
  pub closed : IsClosed (without (view s) (left_behind s l t count moves))
  pub stacks : d.stacks ≡ map (map (datum_word (forwarded count moves l.at))) (view s).stacks
  pub depths : d.depths ≡ slice_set c.depths (t - 1) (depth_of c t - 1)
  pub made : d.made ≡ c.made
  pub rests : d.rests ≡ c.rests
  pub unused : unused_heads d.heads ≡ unused_heads c.heads
  pub readers : d.readers ≡ row_set c.readers (t - 1) (depth_of c t - 1) 0
  pub buffers : AreFiled d.buffers
  pub limits : InLimits m d
  pub pool : PoolStands m d.heads d.pool d.table
  pub anew : PoolAnew m c d
  pub currents : CurrentsStand m d.currents d.table
  pub sets : SetsHold m d
  pub dense : RegionsDense m d.table d.currents later.pages (objects_left s l t count moves)
  pub filed : ChainsBecome m c d (λ x slots. all_filed m d x (slots_brought d.heap count moves) (all_filed m d x (outside m c (innermost s.graph t) (chain m c (innermost s.graph t))) (outside m c (innermost s.graph t) slots)))

-- ---- the steps

-- A plan of the escaping objects that references can follow, in words that stood for a state before.
pub record ReadyToMove (m : Areas) (before c : Contents) (s : SpaceState) (stands : Stands m before s) (t count : ℕ) (tight : Bool) : Type 0 where
  pub ready : PlanReady m before c s stands t count
  pub moves : EndMoves s stands.places t count (move_at c.scratch) tight
  pub lawful : (dropped : Name → Bool) → DropsRest s t dropped → IsLawfulPlan m count (move_at c.scratch) (view s) stands.places.at dropped
  pub sets : SetsHold m c

-- References follow the plan, the slots of the region are recorded no longer, and the objects are moved.
pub record Carried (m : Areas) (c d : Contents) (s : SpaceState) (l : Places) (t count : ℕ) : Type 0 where
  pub holds : Holds m d.heap (forwarded count (move_at c.scratch) l.at) (forwarded count (move_at c.scratch) l.at) (cleared count (move_at c.scratch) l.at (λ n. slice_index c.heap (l.at n + 2))) (objects_left s l t count (move_at c.scratch))
  pub stacks : d.stacks ≡ map (map (datum_word (forwarded count (move_at c.scratch) l.at))) (view s).stacks
  pub filed : ChainsBecome m c d (λ _ slots. outside m c (innermost s.graph t) slots)
  pub sets : SetsHold m d
  pub frame : d ≡ record c { stacks = d.stacks; firsts = d.firsts; sets = d.sets; heap = d.heap }

-- How many slots are recorded for a region, and in the store buffers.
abbrev pub records_of : Areas → Contents → Space → ℕ
records_of m c x = length (chain m c x) + length (logged c)

-- The buffers are filed, and the targets stand in the work words.
pub record Begun (m : Areas) (c d : Contents) (s : SpaceState) (stands : Stands m c s) (t escaping : ℕ) : Type 0 where
  pub filing : Contents
  pub later : Stands m filing s
  pub places : later.places ≡ stands.places
  pub recorded : Recorded m filing s later
  pub filed : AreFiled filing.buffers
  pub written : TargetsWritten m s later.places t filing d escaping
  pub few : length (chain m filing (innermost s.graph t)) ≤ records_of m c (innermost s.graph t)
  pub records : FilesRecorded m c filing
  pub frame : filing ≡ record c { firsts = filing.firsts; sets = filing.sets; buffers = filing.buffers }

-- The words after the targets of an end whose buffers were filed.
pub record Filed (m : Areas) (before : Contents) (s : SpaceState) (stands : Stands m before s) : Type 0 where
  pub recorded : Recorded m before s stands
  pub filed : AreFiled before.buffers

-- The escaping objects are planned by the rule of placement.
pub record RegionReady (m : Areas) (before mid c : Contents) (s : SpaceState) (stands : Stands m before s) (t count : ℕ) : Type 0 where
  pub filed : Filed m before s stands
  pub written : TargetsWritten m s stands.places t before mid count
  pub planned : EndPlanned m mid c s stands.places t count

-- The escaping objects are planned to the front of the region's own pages, by a slide of all objects that have a target.
pub record TightReady (m : Areas) (before mid c : Contents) (s : SpaceState) (stands : Stands m before s) (t count next : ℕ) : Type 0 where
  pub filed : Filed m before s stands
  pub deep : 1 ≤ depth_of before t
  pub escaping : ℕ
  pub written : TargetsWritten m s stands.places t before mid escaping
  pub room : ℕ
  pub sliding : (runs : Runs m (region_word s t) mid) → Sliding m (region_word s t) mid runs c count (move_at c.scratch) next room (heap_length m)
