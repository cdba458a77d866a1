-- A slide: the marked objects of a space are moved to the front of its pages, in ascending order, and into the control space.
use Rattle.std.specs.Prelude.{Bool, false, Some, ◌≡◌, ◌≢◌, ◌==◌, cond, ℕ, ◌+◌, ◌-◌, ◌*◌, ◌/◌, ◌≤◌, ◌<◌, ◌⊎◌, List, [], slice_index, slice_index_or, zero, suc}
use Rattle.heap_words.specs.declared.map.Areas.{Areas}
use Rattle.heap_words.specs.Map.{page_words, heap_length}
use Rattle.heap_words.specs.Contents.{Contents}
use Rattle.epoch_lattice.specs.declared.Space.TheVariants.{Control}
use Rattle.epoch_lattice.specs.Lattice.{space_index}
use Rattle.object_layout.specs.declared.names.Name.{Name}
use Rattle.yak_model.specs.State.{Thing, State}
use Rattle.yak_model.specs.Placed.{space_word, used_mark}
use Rattle.yak_model.specs.Plans.{Move}
use Rattle.relocation.specs.declared.plans.TheConstants.{MOVE_WORDS}
use Rattle.relocation.specs.Moves.{HasHeader, size_at, words_moved, Numbered}

-- A page is of the space whose pages are slid: `slid` is the word of that space in the page table.
abbrev pub IsPageOf : ℕ → List (List ℕ) → ℕ → Type 0
IsPageOf slid table p = space_word table p ≡ slid

-- The number of pages of the space among the first pages.
unfoldable pub pages_before : ℕ → List (List ℕ) → ℕ → ℕ
pages_before slid table zero = 0
pages_before slid table (suc p) = pages_before slid table p + cond (space_word table p == slid) 1 0

-- The address behind the first objects from an address on
unfoldable pub behind : List ℕ → ℕ → ℕ → ℕ
behind heap a zero = a
behind heap a (suc k) = behind heap a k + size_at heap (behind heap a k)

-- Where the object of a page at an index stands
abbrev pub object_at : Areas → List ℕ → ℕ → ℕ → ℕ
object_at m heap p k = behind heap (page_words m * p) k

-- A page is a run of whole objects up to its used mark
pub record PageRun (m : Areas) (c : Contents) (p : ℕ) : Type 0 where
  pub objects : ℕ
  pub headers : (k : ℕ) → k < objects → HasHeader c.heap (object_at m c.heap p k)
  pub ends : object_at m c.heap p objects ≡ page_words m * p + used_mark c.table p
  pub fits : used_mark c.table p ≤ page_words m

-- The words that the first moves bring into a page.
unfoldable pub brought : Areas → List ℕ → ℕ → (ℕ → Move) → ℕ → ℕ
brought m heap zero moves p = 0
brought m heap (suc k) moves p = brought m heap k moves p + cond ((moves k).new / page_words m == p) (size_at heap (moves k).old) 0

-- The end of what was filled: `next` pages were taken, and the last has `room` words left.
abbrev pub front : Areas → ℕ → ℕ → ℕ
front m next room = page_words m * next - room

-- The pages of the space are runs of whole objects.
abbrev pub Runs : Areas → ℕ → Contents → Type 0
Runs m slid c = (p : ℕ) → p < m.pages → IsPageOf slid c.table p → PageRun m c p

-- An object of a page of the space stands at an address.
abbrev pub IsObject : (m : Areas) (slid : ℕ) (c : Contents) → Runs m slid c → ℕ → Type 0
IsObject m slid c runs a = (p : ℕ) × (j : ℕ) × (h : p < m.pages) × (control : IsPageOf slid c.table p) × (j < (runs p h control).objects) × (a ≡ object_at m c.heap p j)

-- A run of n words from an address on lies in a page of the space.
abbrev pub InPageOf : Areas → ℕ → List (List ℕ) → ℕ → ℕ → Type 0
InPageOf m slid table a n = (p : ℕ) × (p < m.pages) × IsPageOf slid table p × (page_words m * p ≤ a) × (a + n ≤ page_words m * p + page_words m)

-- A page is the first page of the space from a page on.
pub record IsFirstPage (slid : ℕ) (table : List (List ℕ)) (from q : ℕ) : Type 0 where
  pub beyond : from ≤ q
  pub page : IsPageOf slid table q
  pub none_between : (p : ℕ) → from ≤ p → p < q → IsPageOf slid table p → ⊥

-- An object goes right behind one of `size` words at `place`, within that one's page.
abbrev pub GoesBehind : Areas → ℕ → ℕ → ℕ → ℕ → Type 0
GoesBehind m place size new size' = (place + size + size' ≤ page_words m * (place / page_words m + 1)) × (new ≡ place + size)

-- An object does not fit behind one of `size` words at `place`, and goes to the front of the next page of the space.
abbrev pub GoesOn : Areas → ℕ → List (List ℕ) → ℕ → ℕ → ℕ → ℕ → Type 0
GoesOn m slid table place size new size' = (page_words m * (place / page_words m + 1) < place + size + size') × ((q : ℕ) × IsFirstPage slid table (place / page_words m + 1) q × (new ≡ page_words m * q))

-- The marked objects before an address are planned, in ascending order. The first goes to the front of the first page of the
-- space, and each other one right behind the one before it where it fits into that one's page, else to the front of the next
-- page of the space. None goes past its old place. A mark is a work word other than 0.
pub record Sliding (m : Areas) (slid : ℕ) (was : Contents) (runs : Runs m slid was) (now : Contents) (count : ℕ) (moves : ℕ → Move) (next room a : ℕ) : Type 0 where
  -- only the work words of planned objects and the scratch area have changed
  pub elsewhere : now ≡ record was { scratch = now.scratch; heap = now.heap }
  pub numbered : Numbered m now.heap count moves
  pub others : (i : ℕ) → ((k : ℕ) → k < count → i ≢ (moves k).old + 2) → slice_index now.heap i ≡ slice_index was.heap i
  pub few : MOVE_WORDS * count ≤ a
  pub within : a ≤ heap_length m
  pub marked : (k : ℕ) → k < count → IsObject m slid was runs (moves k).old × (slice_index was.heap ((moves k).old + 2) ≢ 0)
  pub complete : (b : ℕ) → IsObject m slid was runs b → b < a → slice_index was.heap (b + 2) ≢ 0 → (k : ℕ) × (k < count) × ((moves k).old ≡ b)
  -- old and new places ascend, and no new place is past its old place
  pub passed : (k : ℕ) → k < count → (moves k).old + size_at was.heap (moves k).old ≤ a
  pub apart : (j k : ℕ) → j < k → k < count → (moves j).old + size_at was.heap (moves j).old ≤ (moves k).old
  pub spread : (j k : ℕ) → j < k → k < count → (moves j).new + size_at was.heap (moves j).old ≤ (moves k).new
  pub placed : (k : ℕ) → k < count → (moves k).new + size_at was.heap (moves k).old ≤ front m next room
  pub down : (k : ℕ) → k < count → (moves k).new ≤ (moves k).old
  pub control : (k : ℕ) → k < count → ((moves k).space ≡ Control) × InPageOf m slid was.table (moves k).new (size_at was.heap (moves k).old)
  -- no page of the space is passed over, and none is begun while the object fits into the page before
  pub begins : 0 < count → (q : ℕ) × IsFirstPage slid was.table 0 q × ((moves 0).new ≡ page_words m * q)
  pub follows : (k : ℕ) → k + 1 < count → GoesBehind m (moves k).new (size_at was.heap (moves k).old) (moves (k + 1)).new (size_at was.heap (moves (k + 1)).old) ⊎ GoesOn m slid was.table (moves k).new (size_at was.heap (moves k).old) (moves (k + 1)).new (size_at was.heap (moves (k + 1)).old)
  -- what was filled ends behind the last object, and nothing was taken for no object
  pub last : (k : ℕ) → k + 1 ≡ count → (front m next room ≡ (moves k).new + size_at was.heap (moves k).old) × ((moves k).new / page_words m + 1 ≡ next)
  pub unused : count ≡ 0 → (next ≡ 0) × (room ≡ 0)
  -- each object is put behind those that came into its page before
  pub tight : (k : ℕ) → k < count → (moves k).new ≡ page_words m * ((moves k).new / page_words m) + brought m was.heap k moves ((moves k).new / page_words m)
  pub level : 1 ≤ next → brought m was.heap count moves (next - 1) + room ≡ page_words m
  pub empty : (p : ℕ) → next ≤ p → brought m was.heap count moves p ≡ 0
  -- the pages that were taken are half full
  pub filled : (front m next room ≤ a) × (room ≤ page_words m) × (room ≤ page_words m * next) × (next ≤ m.pages)
  pub taken : 0 < room → (1 ≤ next) × IsPageOf slid was.table (next - 1)
  pub dense : page_words m * pages_before slid was.table next ≤ 2 * words_moved was.heap count moves + room

-- Of the objects of the space those are kept that are marked, and no object of another space is dropped.
pub record Drops (slid : ℕ) (s : State) (work : Name → ℕ) (dropped : Name → Bool) : Type 0 where
  pub kept : (n : Name) (o : Thing) → s.objects n ≡ Some o → dropped n ≡ false → space_index o.home + 1 ≡ slid → work n ≢ 0
  pub marked : (n : Name) (o : Thing) → s.objects n ≡ Some o → work n ≢ 0 → dropped n ≡ false
  pub elsewhere : (n : Name) (o : Thing) → s.objects n ≡ Some o → (space_index o.home + 1 ≡ slid → ⊥) → dropped n ≡ false

-- What a slide leaves of the page table: the pages of the space before `next` are the control space's, and have as many words in
-- use as the moves brought there; those from `next` on have none in use; and those of other spaces are as they were.
pub record TableAfter (m : Areas) (slid : ℕ) (was : List (List ℕ)) (heap : List ℕ) (now : List (List ℕ)) (count : ℕ) (moves : ℕ → Move) (next : ℕ) : Type 0 where
  pub filled : (p : ℕ) → p < m.pages → IsPageOf slid was p → p < next → (space_word now p ≡ 1) × (used_mark now p ≡ brought m heap count moves p)
  pub free : (p : ℕ) → p < m.pages → IsPageOf slid was p → next ≤ p → used_mark now p ≡ 0
  pub others : (p : ℕ) → (IsPageOf slid was p → ⊥) → slice_index_or now p [] ≡ slice_index_or was p []
