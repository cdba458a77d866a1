-- The words of a heap stand for a space state.
use Rattle.std.specs.Prelude.{◌≡◌, ◌≢◌, ◌↔◌, ℕ, ◌+◌, ◌-◌, ◌*◌, ◌≤◌, ◌<◌, ◌==◌, ◌⊎◌, List, map, take, drop, sum_by, count_by, slice_index, Option, Some, None, is_some, length, cond}
use Rattle.std.specs.List.{All, AllPairs, Contains}
use Rattle.object_layout.specs.declared.names.Name.{Name}
use Rattle.object_layout.specs.declared.TheConstants.{MAX_SERIAL, OBJECT_WORDS}
use Rattle.heap_words.specs.declared.map.Areas.{Areas}
use Rattle.heap_words.specs.Map.{HasRegion, page_words, max_depth}
use Rattle.heap_words.specs.Cells.{row}
use Rattle.heap_words.specs.Contents.{Contents, InLimits}
use Rattle.epoch_lattice.specs.declared.Space.{Space}
use Rattle.epoch_lattice.specs.declared.Space.TheVariants.{Region}
use Rattle.epoch_lattice.specs.Lattice.{IsValid, inner_of, space_index}
use Rattle.yak_model.specs.Graph.{standard_limits}
use Rattle.yak_model.specs.Spaces.{SpaceState, home_of, content_at}
use Rattle.yak_model.specs.State.{view, Thing, State, IsOpen, IsClosed}
use Rattle.yak_model.specs.Chains.{AreChains, chain_of, head_word}
use Rattle.yak_model.specs.Placed.{Places, HeapStands, datum_word, space_word, used_mark}

-- Each page is free, or its space is open.
abbrev pub SpacesOpen : Areas → List (List ℕ) → List ℕ → Type 0
SpacesOpen m table depths = (p : ℕ) → p < m.pages → (space_word table p ≡ 0) ⊎ ((x : Space) × (space_word table p ≡ space_index x + 1) × IsOpen depths x)

-- The names are the root's, or of objects that a thread has made.
abbrev pub NamesMade : (Name → Option Thing) → List ℕ → Type 0
NamesMade objects made = (n : Name) (o : Thing) → objects n ≡ Some o → ((n.thread ≡ 0) × (n.serial ≡ 0)) ⊎ ((1 ≤ n.thread) × (n.thread ≤ length made) × (1 ≤ n.serial) × (n.serial ≤ slice_index made (n.thread - 1)))

-- The first words: the claim counter and the pool's length. The words after them are unused.
abbrev pub claim_counter : List ℕ → ℕ
claim_counter heads = slice_index heads 1

abbrev pub pool_length : List ℕ → ℕ
pool_length heads = slice_index heads 2

abbrev pub unused_heads : List ℕ → List ℕ
unused_heads heads = drop 3 heads

-- Words that have no use yet are 0: the last of the first words, and the last of each thread's block.
pub record RestsZero (first : List ℕ) (rests : List (List ℕ)) : Type 0 where
  pub heads : All (λ w. w ≡ 0) (unused_heads first)
  pub blocks : All (All (λ w. w ≡ 0)) rests

-- The pool's entries that no claim took.
abbrev pub free_pages : List ℕ → List ℕ → List ℕ
free_pages heads pool = drop (claim_counter heads) (take (pool_length heads) pool)

-- The pool's entries that no claim took are exactly the free pages, each once.
pub record PoolStands (m : Areas) (heads pool : List ℕ) (table : List (List ℕ)) : Type 0 where
  pub within : pool_length heads ≤ m.pages
  pub passed : claim_counter heads ≤ pool_length heads + m.threads
  pub free : (p : ℕ) → Contains (free_pages heads pool) p ↔ ((p < m.pages) × (space_word table p ≡ 0))
  pub once : AllPairs (λ (a b : ℕ). a ≢ b) (free_pages heads pool)

-- The current page of a thread at a depth, plus 1, or 0 where it has none. Depth 0 is its page in Control.
abbrev pub current : List (List ℕ) → ℕ → ℕ → ℕ
current currents t d = slice_index (row currents (t - 1)) d

-- A current page belongs to the space that it is current for, and no page is current twice.
pub record CurrentsStand (m : Areas) (currents : List (List ℕ)) (table : List (List ℕ)) : Type 0 where
  pub belong : (t d : ℕ) → 1 ≤ t → t ≤ m.threads → d < length (row currents (t - 1)) → current currents t d ≢ 0 → (current currents t d ≤ m.pages) × (space_word table (current currents t d - 1) ≡ space_index (inner_of t d) + 1)
  pub once : (t d u e : ℕ) → 1 ≤ t → t ≤ m.threads → 1 ≤ u → u ≤ m.threads → current currents t d ≢ 0 → current currents t d ≡ current currents u e → (t ≡ u) × (d ≡ e)

-- The recorded slots are in chains, one for each region.
abbrev pub SetsStand : Areas → List (List ℕ) → List ℕ → Type 0
SetsStand m firsts sets = AreChains m firsts sets (chain_of m firsts sets)

-- The chain of a region that isn't open is empty.
abbrev pub HeadsClosed : Areas → List (List ℕ) → List ℕ → Type 0
HeadsClosed m firsts depths = (u d : ℕ) → HasRegion m u d → slice_index depths (u - 1) < d → head_word firsts (Region u d) ≡ 0

-- The pages of a space.
abbrev pub pages_of : List (List ℕ) → Space → ℕ
pages_of table x = count_by (λ (r : List ℕ). slice_index r 0 == space_index x + 1) table

-- The words of the objects of a space: of one object, and of all that lie in the pages.
abbrev pub words_in : Space → Option Thing → ℕ
words_in x None = 0
words_in x (Some o) = cond (space_index o.home == space_index x) (length o.fields + OBJECT_WORDS) 0

abbrev pub words_taken : List (List Name) → (Name → Option Thing) → Space → ℕ
words_taken pages objects x = sum_by (λ (ns : List Name). sum_by (λ (n : Name). words_in x (objects n)) ns) pages

-- A region of the heap that has pages has a current page, and its pages but that one are half full, counting the words of all.
abbrev pub RegionsDense : Areas → List (List ℕ) → List (List ℕ) → List (List Name) → (Name → Option Thing) → Type 0
RegionsDense m table currents pages objects = (t d : ℕ) → 1 ≤ t → t ≤ m.threads → 1 ≤ d → d ≤ max_depth m → 0 < pages_of table (Region t d) → (current currents t d ≢ 0) × (page_words m * (pages_of table (Region t d) - 1) + used_mark table (current currents t d - 1) ≤ 2 * words_taken pages objects (Region t d))

-- The words stand for what is shown of a state, whose objects lie so. Slots above a stack's length, entries above a
-- buffer's and words above a used mark are not looked at.
pub record StandsAs (m : Areas) (c : Contents) (s : State) (l : Places) : Type 0 where
  pub heap : HeapStands m c.table c.heap s.objects l (λ _. 0)
  pub open_spaces : SpacesOpen m c.table s.depths
  pub closed : IsClosed s
  pub stacks : c.stacks ≡ map (map (datum_word l.at)) s.stacks
  pub depths : c.depths ≡ s.depths
  pub made : c.made ≡ s.made
  pub serials : All (λ k. k ≤ MAX_SERIAL) s.made
  pub threads : length s.depths ≡ m.threads
  pub names : NamesMade s.objects s.made
  pub limits : InLimits m c
  pub zero : RestsZero c.heads c.rests
  pub pool : PoolStands m c.heads c.pool c.table
  pub currents : CurrentsStand m c.currents c.table
  pub sets : SetsStand m c.firsts c.sets
  pub heads_closed : HeadsClosed m c.firsts s.depths
  pub dense : RegionsDense m c.table c.currents l.pages s.objects

-- Exactly the objects that have a home have a content, every home is a valid space, and the limits are the heap's.
pub record IsWhole (s : SpaceState) : Type 0 where
  pub limits : s.graph.limits ≡ standard_limits
  pub contents : (n : Name) → is_some (content_at s.graph n) ≡ is_some (home_of s n)
  pub homes : (n : Name) (x : Space) → home_of s n ≡ Some x → IsValid s.graph.limits.depth x

-- The words stand for a space state.
pub record Stands (m : Areas) (c : Contents) (s : SpaceState) : Type 0 where
  pub whole : IsWhole s
  pub places : Places
  pub stands : StandsAs m c (view s) places
