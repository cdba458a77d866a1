-- How the words beside the slots of chains are set.
use Rattle.std.specs.Prelude.{◌≡◌, ◌⊎◌, ℕ, ◌+◌, ◌-◌, ◌*◌, ◌≤◌, ◌<◌, nat_lt, cond, List, [], ◌∷◌, ◌++◌, Option, Some, None}
use Rattle.heap_words.specs.declared.map.Areas.{Areas}
use Rattle.heap_words.specs.Map.{heap_length}
use Rattle.heap_words.specs.Contents.{Contents, with_first, with_set}
use Rattle.epoch_lattice.specs.declared.Space.{Space}
use Rattle.epoch_lattice.specs.declared.Space.TheVariants.{Control, Region}
use Rattle.epoch_lattice.specs.Lattice.{space_index, space_of}
use Rattle.yak_model.specs.Chains.{IsRegionOf, former_from, next_to}
use Rattle.remember_sets.specs.Filed.{chain}

-- The contents with another head of a region's chain.
abbrev pub with_head_word : Contents → Option Space → ℕ → Contents
with_head_word c None v = c
with_head_word c (Some Control) v = c
with_head_word c (Some (Region t d)) v = with_first c t d v

-- The contents with another first word of the slot that a second word names, or with another head where it names a region.
abbrev pub with_next : Contents → ℕ → ℕ → Contents
with_next c former word = cond (nat_lt former former_from) (with_head_word c (space_of former) (word - 1)) (with_set c (2 * (former - former_from)) word)

-- The contents with another second word of the slot that a first word names, if it names one.
abbrev pub with_former : Contents → ℕ → ℕ → Contents
with_former c next word = cond (nat_lt next 2) c (with_set c (2 * (next - 2) + 1) word)

-- The contents with other words of a slot.
abbrev pub with_links : Contents → ℕ → ℕ → ℕ → Contents
with_links c a next former = with_set (with_set c (2 * a) next) (2 * a + 1) former

-- A second word names a region or a slot, and a first word a slot or none.
abbrev pub IsFormer : Areas → ℕ → Type 0
IsFormer m former = ((x : Space) × IsRegionOf m x × (former ≡ space_index x)) ⊎ ((b : ℕ) × (b < heap_length m) × (former ≡ b + former_from))

abbrev pub IsNext : Areas → ℕ → Type 0
IsNext m next = (1 ≤ next) × (next < heap_length m + 2)

-- The second word of a slot behind these, where this is the second word of the first of them.
abbrev pub former_to : ℕ → List ℕ → ℕ
former_to former [] = former
former_to former (a ∷ slots) = former_to (a + former_from) slots

-- A second and a first word name the neighbours at a place of a region's chain.
abbrev pub AreNeighbours : Areas → Contents → ℕ → ℕ → Type 0
AreNeighbours m c former next = (x : Space) × (before : List ℕ) × (behind : List ℕ) × IsRegionOf m x × (chain m c x ≡ before ++ behind) × (former ≡ former_to (space_index x) before) × (next ≡ next_to behind)
