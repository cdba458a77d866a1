-- Objects that are placed one after another by the rule of placement.
use Rattle.std.specs.Prelude.{◌≡◌, ℕ, ◌+◌, ◌<◌, []}
use Rattle.object_layout.specs.declared.names.Name.{Name}
use Rattle.epoch_lattice.specs.declared.Space.{Space}
use Rattle.heap_words.specs.declared.map.Areas.{Areas}
use Rattle.heap_words.specs.Contents.{Contents}
use Rattle.yak_model.specs.Spaces.{SpaceState, innermost}
use Rattle.yak_model.specs.State.{object_of}
use Rattle.yak_model.specs.Placed.{Places, size_by}
use Rattle.yak_model.specs.Stands.{free_pages}
use Rattle.region_pages.specs.Freeing.{with_released}
use Rattle.region_pages.specs.Placement.{IsPlaced, depth_in, words_left_at}
use Rattle.escape_closure.specs.Placing.{owner}
use Rattle.escape_closure.specs.Needs.{InOrder}

-- Objects of some words are placed one after another, each in a space at an address: from words to words, one step of the
-- rule of placement for each object. In Control the current page is that of a thread, in a region it is the region's own.
pub record PlacedInTurn (m : Areas) (t count : ℕ) (space : ℕ → Space) (size address : ℕ → ℕ) (c d : Contents) : Type 0 where
  pub words : ℕ → Contents
  pub begins : words 0 ≡ c
  pub placed : (k : ℕ) → k < count → IsPlaced m (words k) (owner t (space k)) (space k) (size k) (address k) (words (k + 1))
  pub ends : words count ≡ d

-- The rule of placement comes to an object for which there is no place: in the words after the objects before it, the current
-- page of its space has too few words left, and no page is free.
pub record FindsNoPlace (m : Areas) (t count : ℕ) (space : ℕ → Space) (size : ℕ → ℕ) (c : Contents) : Type 0 where
  pub reached : ℕ
  pub fewer : reached < count
  pub address : ℕ → ℕ
  pub last : Contents
  pub placed : PlacedInTurn m t reached space size address c last
  pub little : words_left_at m last (owner t (space reached)) (depth_in (space reached)) < size reached
  pub none : free_pages last.heads last.pool ≡ []

-- The escaping objects are placed so, by ascending address, each in its target.
abbrev pub EscapingInTurn : (m : Areas) (s : SpaceState) (l : Places) (t count : ℕ) → InOrder s l t count → (ℕ → ℕ) → Contents → Contents → Type 0
EscapingInTurn m s l t count o address c d = PlacedInTurn m t count o.target (λ k. size_by (object_of s) (o.name k)) address c d

-- After an end the objects that escaped stand where the rule of placement puts them, from the words before it. The page
-- table, the current pages and the free pages are those that this leaves once the region has given its pages back.
pub record StandInTurn (m : Areas) (c d : Contents) (s : SpaceState) (l : Places) (t count : ℕ) (o : InOrder s l t count) (at : Name → ℕ) : Type 0 where
  pub last : Contents
  pub placed : EscapingInTurn m s l t count o (λ k. at (o.name k)) c last
  pub left : Contents
  pub released : left ≡ with_released last (innermost s.graph t)
  pub table : d.table ≡ left.table
  pub currents : d.currents ≡ left.currents
  pub free : free_pages d.heads d.pool ≡ free_pages left.heads left.pool
