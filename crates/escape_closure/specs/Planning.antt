-- The next object of a plan, placed in its target, and the plan of a roll.
use Rattle.std.specs.Prelude.{◌≡◌, ℕ, ◌+◌, ◌-◌, ◌*◌, ◌≤◌, ◌<◌, ◌≢◌, List, [], ◌++◌, Ok, Some, length, slice_index, slice_set}
use Rattle.epoch_lattice.specs.declared.Space.{Space}
use Rattle.epoch_lattice.specs.declared.Space.TheVariants.{Region}
use Rattle.epoch_lattice.specs.Lattice.{space_of}
use Rattle.heap_words.specs.declared.map.Areas.{Areas}
use Rattle.heap_words.specs.Contents.{Contents}
use Rattle.yak_model.specs.Packed.{IsSpaceOf}
use Rattle.yak_model.specs.Placed.{space_word, used_mark}
use Rattle.yak_model.specs.Stands.{claim_counter, current, free_pages, pages_of, words_taken}
use Rattle.region_pages.specs.Placement.{IsPlaced, IsLastInPage, depth_in, words_left_at}
use Rattle.region_pages.specs.declared.TheConstants.{CLAIM_COUNTER}
use Rattle.relocation.specs.Moves.{move_at}
use Rattle.relocation.specs.Slide.{brought}
use Rattle.relocation.specs.declared.plans.TheConstants.{MOVE_WORDS}
use Rattle.escape_closure.specs.declared.needing.Entry.{Entry}
use Rattle.epoch_lattice.specs.Lattice.{space_index}
use Rattle.object_layout.specs.declared.names.Name.{Name}
use Rattle.heap_words.specs.Map.{heap_length, max_depth, page_words}
use Rattle.yak_model.specs.State.{Thing}
use Rattle.heap_walks.specs.Laid.{IsThing, work_of}
use Rattle.escape_closure.specs.Words.{settled_word}
use Rattle.escape_closure.specs.Rolls.{Aimed, IsAimed, Rolled}
use Rattle.escape_closure.specs.Placing.{Filling, filling, index_on, owner, room_in, rooms_at, size_on, target_on}
use Rattle.escape_closure.specs.Needs.{RollWeighed}
use Rattle.escape_closure.specs.InTurn.{PlacedInTurn}
use Rattle.escape_closure.specs.Ends.{PlacedAt, words_into}

-- The target is no space of the heap, or its current page has too few words left and no page is free.
abbrev pub NotPlaced : Areas → Contents → ℕ → Entry → Type 0
NotPlaced m c t entry = (x : Space) → space_of entry.index ≡ Some x → IsSpaceOf m x → (words_left_at m c (owner t x) (depth_in x) < entry.size) × (free_pages c.heads c.pool ≡ [])

-- An object is placed in its target by the rule of placement, and its move is the one of the plan with a number.
pub record PlacedNext (m : Areas) (c after : Contents) (t k : ℕ) (entry : Entry) : Type 0 where
  pub space : Space
  pub number : space_of entry.index ≡ Some space
  pub exists : IsSpaceOf m space
  pub new : ℕ
  pub between : Contents
  pub placed : IsPlaced m c (owner t space) space entry.size new between
  pub within : IsLastInPage m between.table space new entry.size
  pub move : move_at after.scratch k ≡ record { old = entry.old; new = new; space = space }
  pub former : (j : ℕ) → j < k → move_at after.scratch j ≡ move_at c.scratch j
  pub behind : (i : ℕ) → MOVE_WORDS * (k + 1) ≤ i → slice_index after.scratch i ≡ slice_index c.scratch i
  pub marked : after ≡ record between { scratch = after.scratch; heap = slice_set between.heap (entry.old + 2) (k + 1) }

-- The targets are spaces of the heap, and not the region.
abbrev pub TargetsExist : Areas → Aimed → Type 0
TargetsExist m q = (n : Name) (o : Thing) → IsThing q.laid n o → IsAimed q n → (x : Space) × IsSpaceOf m x × (work_of q.laid q.words n ≡ settled_word x) × (x ≢ q.region)

-- What is left, and the pages claimed, after the first objects of a roll are placed.
abbrev pub filled_by : (m : Areas) (q : Aimed) (t : ℕ) (c : Contents) (count : ℕ) → Rolled q c (heap_length m) count → ℕ → Filling
filled_by m q t c count r k = filling m (rooms_at m c t) (index_on q c (heap_length m) count r) (size_on q c (heap_length m) count r) k

-- The first objects of a roll are placed, and their moves are in the plan.
pub record Underway (m : Areas) (q : Aimed) (t : ℕ) (c : Contents) (count : ℕ) (r : Rolled q c (heap_length m) count) (now : Contents) (k : ℕ) : Type 0 where
  pub heap : (a : ℕ) → ((j : ℕ) → j < k → a ≢ q.laid.places.at (r.name j) + 2) → slice_index now.heap a ≡ slice_index c.heap a
  pub unread : (j : ℕ) → k ≤ j → j < count → slice_index now.scratch (MOVE_WORDS * j) ≡ q.laid.places.at (r.name j)
  pub rooms : (y : Space) → IsSpaceOf m y → room_in m now t (Some y) ≡ (filled_by m q t c count r k).rooms (space_index y)
  pub free : length (free_pages c.heads c.pool) ≡ length (free_pages now.heads now.pool) + (filled_by m q t c count r k).claimed
  pub moves : (j : ℕ) → j < k → ((move_at now.scratch j).old ≡ q.laid.places.at (r.name j)) × (space_index (move_at now.scratch j).space ≡ index_on q c (heap_length m) count r j)
  pub in_turn : PlacedInTurn m t k (target_on q c (heap_length m) count r) (size_on q c (heap_length m) count r) (λ j. (move_at now.scratch j).new) c (record now { scratch = c.scratch; heap = c.heap })

-- A region that has pages has a current page, and its pages but that one are half full, where its objects have so many words.
abbrev pub DenseIn : Areas → List (List ℕ) → List (List ℕ) → (Space → ℕ) → Type 0
DenseIn m table currents words = (t d : ℕ) → 1 ≤ t → t ≤ m.threads → 1 ≤ d → d ≤ max_depth m → 0 < pages_of table (Region t d) → (current currents t d ≢ 0) × (page_words m * (pages_of table (Region t d) - 1) + used_mark table (current currents t d - 1) ≤ 2 * words (Region t d))

-- The words of the objects of a space in the pages, and of those of the first objects of a roll that go there.
abbrev pub words_with : (m : Areas) (q : Aimed) (c : Contents) (count : ℕ) → Rolled q c (heap_length m) count → ℕ → Space → ℕ
words_with m q c count r k x = words_taken q.laid.places.pages q.laid.state.objects x + words_into (target_on q c (heap_length m) count r) (size_on q c (heap_length m) count r) x k

-- Where the first objects of a roll are placed: each at the end of what its page held and of what came there before. A page
-- that was claimed held nothing. The region's current page is as before.
pub record PlacedSoFar (m : Areas) (q : Aimed) (c : Contents) (count : ℕ) (r : Rolled q c (heap_length m) count) (now : Contents) (k : ℕ) : Type 0 where
  pub frame : now ≡ record c { heads = slice_set c.heads CLAIM_COUNTER (claim_counter now.heads); currents = now.currents; table = now.table; scratch = now.scratch; heap = now.heap }
  pub targets : (j : ℕ) → j < k → (move_at now.scratch j).space ≡ target_on q c (heap_length m) count r j
  pub placed : (j : ℕ) → j < k → PlacedAt m c now (move_at now.scratch) j
  pub marks : (p : ℕ) → p < m.pages → used_mark now.table p ≡ used_mark c.table p + brought m c.heap k (move_at now.scratch) p
  pub kept : (p : ℕ) → p < m.pages → space_word c.table p ≢ 0 → space_word now.table p ≡ space_word c.table p
  pub entered : (p : ℕ) → p < m.pages → space_word c.table p ≡ 0 → space_word now.table p ≢ 0 → (j : ℕ) × (j < k) × (space_word now.table p ≡ space_index (move_at now.scratch j).space + 1)
  pub blank : (p : ℕ) → p < m.pages → space_word now.table p ≡ 0 → used_mark now.table p ≡ 0
  pub claimed : List ℕ
  pub free : free_pages c.heads c.pool ≡ claimed ++ free_pages now.heads now.pool
  pub own : (u e : ℕ) → Region u e ≡ q.region → current now.currents u e ≡ current c.currents u e
  pub dense : DenseIn m now.table now.currents (words_with m q c count r k)

-- A roll of all objects that have a target was weighed, the free pages were enough for it, and its objects are placed.
pub record RollPlaced (m : Areas) (q : Aimed) (t before : ℕ) (now : Contents) (after count : ℕ) : Type 0 where
  pub between : Contents
  pub read : ℕ
  pub weighed : RollWeighed m q t before between read (Ok count)
  pub underway : Underway m q t between weighed.count weighed.roll now weighed.count
  pub so_far : PlacedSoFar m q between weighed.count weighed.roll now weighed.count
  pub reads : after ≤ read + 8 * count
