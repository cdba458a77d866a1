-- Spaces that waste little of their pages, and a heap that has no room.
use Rattle.std.specs.Prelude.{◌≡◌, ℕ, ◌+◌, ◌-◌, ◌*◌, ◌≤◌, ◌<◌, ◌==◌, List, [], cond, Option}
use Rattle.object_layout.specs.declared.names.Name.{Name}
use Rattle.object_layout.specs.declared.TheConstants.{OBJECT_WORDS}
use Rattle.heap_words.specs.declared.map.Areas.{Areas}
use Rattle.heap_words.specs.Map.{HasRegion, page_words}
use Rattle.heap_words.specs.Contents.{Contents, depth_of}
use Rattle.epoch_lattice.specs.declared.Space.{Space}
use Rattle.epoch_lattice.specs.declared.Space.TheVariants.{Control, Region}
use Rattle.yak_model.specs.Spaces.{SpaceState}
use Rattle.yak_model.specs.State.{Thing, State, view}
use Rattle.yak_model.specs.Stands.{Stands, pages_of, words_taken, free_pages, current}
use Rattle.yak_model.specs.Placed.{Places, used_mark}

-- A space of this heap: Control, or a region of one of its threads.
abbrev pub IsSpaceOf : Areas → Space → Type 0
IsSpaceOf m Control = Unit {0}
IsSpaceOf m (Region t d) = HasRegion m t d

-- The pages of a space are half full, but for one page.
abbrev pub PackedAs : Areas → List (List ℕ) → List (List Name) → (Name → Option Thing) → Space → Type 0
PackedAs m table pages objects x = page_words m * pages_of table x ≤ 2 * words_taken pages objects x + page_words m

-- The words left in a thread's current page in its innermost space, 0 where it has none.
abbrev pub words_left : Areas → Contents → ℕ → ℕ
words_left m c t = let page = current c.currents t (depth_of c t) in cond (page == 0) 0 (page_words m - used_mark c.table (page - 1))

-- No page is free, the thread's current page has no room for an object of k fields, and every space is packed.
pub record FullAs (m : Areas) (c : Contents) (s : State) (l : Places) (t k : ℕ) : Type 0 where
  pub none_free : free_pages c.heads c.pool ≡ []
  pub no_room : words_left m c t < k + OBJECT_WORDS
  pub packed : (x : Space) → IsSpaceOf m x → PackedAs m c.table l.pages s.objects x

-- A space of the state wastes at most half of its pages, but for one page.
abbrev pub IsPacked : (m : Areas) (c : Contents) (s : SpaceState) → Stands m c s → Space → Type 0
IsPacked m c s stands x = PackedAs m c.table stands.places.pages (view s).objects x

-- The heap is full for an object of k fields that the thread makes.
abbrev pub IsFull : (m : Areas) (c : Contents) (s : SpaceState) → Stands m c s → ℕ → ℕ → Type 0
IsFull m c s stands t k = FullAs m c (view s) stands.places t k
