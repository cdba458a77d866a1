-- The pages that the objects which escape need.
use Rattle.std.specs.Prelude.{◌≡◌, ℕ, ◌+◌, ◌*◌, ◌≤◌, ◌<◌, length, MatchResult, Result}
use Rattle.object_layout.specs.declared.names.Name.{Name}
use Rattle.object_layout.specs.declared.replies.Shortage.{Shortage}
use Rattle.epoch_lattice.specs.declared.Space.{Space}
use Rattle.epoch_lattice.specs.declared.TheConstants.{MAX_DEPTH}
use Rattle.epoch_lattice.specs.Lattice.{IsValid, space_index}
use Rattle.heap_words.specs.declared.map.Areas.{Areas}
use Rattle.heap_words.specs.Map.{heap_length}
use Rattle.heap_words.specs.Contents.{Contents}
use Rattle.yak_model.specs.Spaces.{SpaceState}
use Rattle.yak_model.specs.State.{Thing, object_of}
use Rattle.yak_model.specs.Placed.{Places, size_by}
use Rattle.yak_model.specs.Stands.{free_pages}
use Rattle.region_pages.specs.Counts.{used_of}
use Rattle.object_layout.specs.declared.TheConstants.{MAX_SPACE}
use Rattle.heap_walks.specs.Laid.{IsThing}
use Rattle.escape_closure.specs.Targets.{IsEscaping, IsTargetAt}
use Rattle.escape_closure.specs.Rolls.{Aimed, Rolled, IsOnRoll}
use Rattle.escape_closure.specs.Placing.{filling, index_on, rooms_at, size_on}

-- The objects that escape, by ascending address, each with its target.
pub record InOrder (s : SpaceState) (l : Places) (t count : ℕ) : Type 0 where
  pub name : ℕ → Name
  pub target : ℕ → Space
  pub escaping : (k : ℕ) → k < count → IsEscaping s t (name k)
  pub complete : (n : Name) → IsEscaping s t n → (k : ℕ) × (k < count) × (name k ≡ n)
  pub ascending : (j k : ℕ) → j < k → k < count → l.at (name j) < l.at (name k)
  pub targets : (k : ℕ) → k < count → IsValid MAX_DEPTH (target k) × IsTargetAt s t (name k) (target k)

-- The pages that placing them in that order claims, each object in its target. They are counted from the words left in the
-- current pages alone, so that they can be more than the free ones: then the rule of placement runs out of room (`runs_out` of
-- `FallsShort`). Where they aren't, a plan places the objects and claims just so many (`claims` and `in_turn` of `EndPlanned`).
abbrev pub pages_needed : (m : Areas) (c : Contents) (s : SpaceState) (l : Places) (t count : ℕ) → InOrder s l t count → ℕ
pages_needed m c s l t count o = (filling m (rooms_at m c t) (λ k. space_index (o.target k)) (λ k. size_by (object_of s) (o.name k)) count).claimed

-- The number of objects where the free pages are enough, and otherwise the needed pages and the free ones, which are fewer.
abbrev pub IsWeighed : ℕ → ℕ → ℕ → Result ℕ Shortage → Type 0
IsWeighed count needed free result = MatchResult result (λ n. (n ≡ count) × (needed ≤ free)) (λ shortage. (shortage.needed ≡ needed) × (shortage.free ≡ free) × (free < needed))

-- A roll of all objects that have a target, and the pages that they need. The reads before count those of the space words.
pub record RollWeighed (m : Areas) (q : Aimed) (t before : ℕ) (now : Contents) (after : ℕ) (result : Result ℕ Shortage) : Type 0 where
  pub count : ℕ
  pub roll : Rolled q now (heap_length m) count
  pub all : (n : Name) (o : Thing) → IsThing q.laid n o → IsOnRoll q roll.name count n
  pub weighed : IsWeighed count (filling m (rooms_at m q.words t) (index_on q now (heap_length m) count roll) (size_on q now (heap_length m) count roll) count).claimed (length (free_pages q.words.heads q.words.pool)) result
  pub reads : after ≤ before + (used_of q.words.table q.region + 4 * count + 2 * (MAX_SPACE + 2))
