-- The recorded slots of the regions: a chain for each of them, linked by way of two words for each word of the pages.
use Rattle.std.specs.Prelude.{◌≡◌, ◌≢◌, ℕ, zero, suc, ◌+◌, ◌-◌, ◌*◌, ◌<◌, List, [], ◌∷◌, slice_index}
use Rattle.std.specs.List.{All, AllPairs, Contains}
use Rattle.heap_words.specs.declared.map.Areas.{Areas}
use Rattle.heap_words.specs.Map.{HasRegion, heap_length}
use Rattle.heap_words.specs.Cells.{row}
use Rattle.epoch_lattice.specs.declared.Space.{Space}
use Rattle.epoch_lattice.specs.declared.Space.TheVariants.{Control, Region}
use Rattle.epoch_lattice.specs.declared.TheConstants.{MAX_DEPTH, MAX_THREADS}
use Rattle.epoch_lattice.specs.Lattice.{space_index}

-- A region of a thread of the heap.
abbrev pub IsRegionOf : Areas → Space → Type 0
IsRegionOf m Control = ⊥
IsRegionOf m (Region t d) = HasRegion m t d

-- The head of a region's chain: its first slot plus 1, or 0.
abbrev pub head_word : List (List ℕ) → Space → ℕ
head_word firsts Control = 0
head_word firsts (Region t d) = slice_index (row firsts (t - 1)) (d - 1)

-- The two words of a slot. The first one is 0 where the slot stands in no chain, 1 where it is the last of its chain, and
-- otherwise the next slot plus 2. The second one is 0 where the slot stands in no chain, the region's number where it is the
-- first, and otherwise the former slot plus `former_from`.
abbrev pub next_word : List ℕ → ℕ → ℕ
next_word sets a = slice_index sets (2 * a)

abbrev pub former_word : List ℕ → ℕ → ℕ
former_word sets a = slice_index sets (2 * a + 1)

abbrev pub former_from : ℕ
former_from = MAX_THREADS * MAX_DEPTH + 1

-- The head of a chain of these slots, and the first word of a slot that they follow.
abbrev pub head_to : List ℕ → ℕ
head_to [] = 0
head_to (a ∷ slots) = a + 1

abbrev pub next_to : List ℕ → ℕ
next_to slots = head_to slots + 1

-- The words of these slots agree with their order, where the first one's second word is this.
abbrev pub AreLinked : List ℕ → ℕ → List ℕ → Type 0
AreLinked sets former [] = Unit {0}
AreLinked sets former (a ∷ slots) = (next_word sets a ≡ next_to slots) × (former_word sets a ≡ former) × AreLinked sets (a + former_from) slots

-- The heads and the two words of each word of the pages agree with a chain for each region. Each slot stands in at most one
-- chain, and once.
pub record AreChains (m : Areas) (firsts : List (List ℕ)) (sets : List ℕ) (chain : Space → List ℕ) : Type 0 where
  pub heads : (x : Space) → IsRegionOf m x → head_word firsts x ≡ head_to (chain x)
  pub linked : (x : Space) → IsRegionOf m x → AreLinked sets (space_index x) (chain x)
  pub within : (x : Space) → IsRegionOf m x → All (λ a. a < heap_length m) (chain x)
  pub free : (a : ℕ) → a < heap_length m → ((x : Space) → IsRegionOf m x → Contains (chain x) a → ⊥) → (next_word sets a ≡ 0) × (former_word sets a ≡ 0)
  pub once : (x : Space) → IsRegionOf m x → AllPairs (λ (a b : ℕ). a ≢ b) (chain x)
  pub apart : (x y : Space) (a : ℕ) → IsRegionOf m x → IsRegionOf m y → Contains (chain x) a → Contains (chain y) a → x ≡ y

-- The slots that first words lead to from a head on, at most so many.
unfoldable pub followed : ℕ → List ℕ → ℕ → List ℕ
followed zero sets head = []
followed (suc n) sets zero = []
followed (suc n) sets (suc a) = a ∷ followed n sets (next_word sets a - 1)

-- The chain of a region, and none for Control.
abbrev pub chain_of : Areas → List (List ℕ) → List ℕ → Space → List ℕ
chain_of m firsts sets x = followed (heap_length m) sets (head_word firsts x)
