-- How the words stand between the steps of a collection.
use Rattle.std.specs.Prelude.{◌≡◌, ◌≢◌, ℕ, ◌+◌, ◌-◌, ◌*◌, ◌≤◌, ◌<◌, Bool, true, false, List, map, length, slice_index, Some}
use Rattle.object_layout.specs.declared.names.Name.{Name}
use Rattle.heap_words.specs.declared.map.Areas.{Areas}
use Rattle.heap_words.specs.Map.{heap_length}
use Rattle.heap_words.specs.Cells.{row}
use Rattle.heap_words.specs.Contents.{Contents}
use Rattle.epoch_lattice.specs.declared.Space.TheVariants.{Control}
use Rattle.epoch_lattice.specs.Lattice.{space_index}
use Rattle.yak_model.specs.Spaces.{IsLive, SpaceState, home_of}
use Rattle.yak_model.specs.State.{IsClosed, State, Thing, object_of, view}
use Rattle.yak_model.specs.Placed.{HeapStands, Holds, Places, datum_word, space_word}
use Rattle.yak_model.specs.Plans.{IsLawfulPlan, Move, forward, forwarded, without}
use Rattle.yak_model.specs.Packed.{PackedAs}
use Rattle.yak_model.specs.Stands.{current}
use Rattle.remember_sets.specs.Filed.{ChainsBecome, SetsHold, all_filed, logged, with_no_logs, with_sets}
use Rattle.relocation.specs.Slide.{Drops, IsPageOf, Runs}
use Rattle.relocation.specs.declared.plans.TheConstants.{MOVE_WORDS}
use Rattle.forwarding.specs.Corrected.{corrected_stacks}
use Rattle.forwarding.specs.Crossing.{AreMoved}
use Rattle.relocation.specs.Moves.{size_at}
use Rattle.mark_compact.specs.Collected.{AreSlid, IsFilledOrFree}
use Rattle.mark_compact.specs.Given.{IsSlid}
use Rattle.mark_compact.specs.declared.sliding.TheConstants.{CONTROL_WORD}

-- All recorded slots are filed, and the store buffers are empty.
pub record Cleared (m : Areas) (was now : Contents) : Type 0 where
  pub filed : ChainsBecome m was now (λ x slots. all_filed m was x (logged was) slots)
  pub sets : SetsHold m now
  pub others : now ≡ with_no_logs m (with_sets was now)

-- Exactly the control objects that a collection doesn't keep are dropped.
pub record KeepsLive (s : SpaceState) (dropped : Name → Bool) : Type 0 where
  pub live : (n : Name) → IsLive s n → dropped n ≡ false
  pub gone : (n : Name) → home_of s n ≡ Some Control → (IsLive s n → ⊥) → dropped n ≡ true
  pub outside : (n : Name) → home_of s n ≢ Some Control → dropped n ≡ false

-- A plan stands for the slide of the control objects that a collection keeps, of a state that stood in the words before.
pub record Planned (m : Areas) (was : Contents) (s : SpaceState) (l : Places) (now : Contents) (count : ℕ) (moves : ℕ → Move) : Type 0 where
  pub dropped : Name → Bool
  pub keeps : KeepsLive s dropped
  -- the words after the marking
  pub marked : Contents
  pub work : Name → ℕ
  pub frame : marked ≡ record was { scratch = marked.scratch; heap = marked.heap }
  pub stands : HeapStands m marked.table marked.heap (object_of s) l work
  pub drops : Drops CONTROL_WORD (view s) work dropped
  pub unmarked : (n : Name) (o : Thing) → object_of s n ≡ Some o → (space_index o.home + 1 ≡ CONTROL_WORD → ⊥) → work n ≡ 0
  -- the words after the planning
  pub slid : (runs : Runs m CONTROL_WORD marked) → IsSlid m marked runs now count moves
  pub lawful : IsLawfulPlan m count moves (view s) l.at dropped

-- All references lead where a plan brings the objects, which lie where they lay.
pub record Led (m : Areas) (s : State) (l : Places) (dropped : Name → Bool) (was now : Contents) (count : ℕ) (moves : ℕ → Move) : Type 0 where
  pub frame : now ≡ record was { stacks = corrected_stacks (forward count moves) was.stacks; heap = now.heap }
  pub holds : Holds m now.heap l.at (forwarded count moves l.at) (λ n. slice_index was.heap (l.at n + 2)) (without s dropped).objects

-- The control objects that a collection keeps lie at the front of the control pages, and the pages that stay empty are free.
pub record Lain (m : Areas) (was : Contents) (s : SpaceState) (l : Places) (now : Contents) (count : ℕ) (moves : ℕ → Move) : Type 0 where
  pub dropped : Name → Bool
  pub keeps : KeepsLive s dropped
  pub closed : IsClosed (without (view s) dropped)
  pub frame : now ≡ record was { stacks = now.stacks; table = now.table; scratch = now.scratch; heap = now.heap }
  pub places : Places
  pub stacks : now.stacks ≡ map (map (datum_word places.at)) (view s).stacks
  pub heap : HeapStands m now.table now.heap (without (view s) dropped).objects places (λ _. 0)
  pub packed : PackedAs m now.table places.pages (without (view s) dropped).objects Control
  pub others : (p : ℕ) → (IsPageOf CONTROL_WORD was.table p → ⊥) → row now.table p ≡ row was.table p
  pub control : (p : ℕ) → p < m.pages → IsPageOf CONTROL_WORD was.table p → IsFilledOrFree now.table p
  pub still : (n : Name) (o : Thing) → object_of s n ≡ Some o → o.home ≢ Control → places.at n ≡ l.at n
  pub moved : (n : Name) (o : Thing) → (without (view s) dropped).objects n ≡ Some o → o.home ≡ Control → (k : ℕ) × (k < count) × (places.at n ≡ (moves k).new) × (l.at n ≡ (moves k).old)
  pub slid : AreSlid m was.table l.at (without (view s) dropped).objects places.at
  pub are_moved : AreMoved (without (view s) dropped).objects places.at count moves
  pub from : (k : ℕ) → k < count → (n : Name) × (o : Thing) × ((without (view s) dropped).objects n ≡ Some o) × (places.at n ≡ (moves k).new) × (l.at n ≡ (moves k).old) × (o.home ≡ Control)
  -- old and new places lie one behind another, and no new place is past its old place
  pub within : (k : ℕ) → k < count → (moves k).old + size_at now.heap (moves k).new ≤ heap_length m
  pub behind : (j k : ℕ) → j < k → k < count → (moves j).old + size_at now.heap (moves j).new ≤ (moves k).old
  pub spread : (j k : ℕ) → j < k → k < count → (moves j).new + size_at now.heap (moves j).new ≤ (moves k).new
  pub front : (k : ℕ) → k < count → (moves k).new ≤ (moves k).old
  pub room : MOVE_WORDS * count ≤ heap_length m

-- The last control page below some page, plus 1, or 0 where there is none.
pub record IsLast (table : List (List ℕ)) (below last : ℕ) : Type 0 where
  pub within : last ≤ below
  pub control : 1 ≤ last → space_word table (last - 1) ≡ CONTROL_WORD
  pub none : (p : ℕ) → p < below → last ≤ p → space_word table p ≢ CONTROL_WORD

-- Among the first threads one has the control page with this number as its current one, and the others have none.
pub record ControlPages (was now : Contents) (t page below : ℕ) : Type 0 where
  pub frame : now ≡ record was { currents = now.currents }
  pub own : t ≤ below → current now.currents t 0 ≡ page
  pub others : (u : ℕ) → 1 ≤ u → u ≤ below → u ≢ t → current now.currents u 0 ≡ 0
  pub regions : (u d : ℕ) → 1 ≤ d → current now.currents u d ≡ current was.currents u d
  pub slots : (u : ℕ) → length (row now.currents u) ≡ length (row was.currents u)
