-- What a marking leaves, and what its reads are counted by.
use Rattle.std.specs.Prelude.{◌≡◌, ◌≢◌, ℕ, ◌+◌, List, length, sum_by, slice_index, Some}
use Rattle.object_layout.specs.declared.names.Name.{Name}
use Rattle.epoch_lattice.specs.declared.Space.TheVariants.{Control}
use Rattle.yak_model.specs.Spaces.{Counts, IsLive, IsPresent, SpaceState, home_of}
use Rattle.heap_words.specs.declared.map.Areas.{Areas}
use Rattle.heap_words.specs.Contents.{Contents}
use Rattle.yak_model.specs.State.{object_of}
use Rattle.yak_model.specs.Placed.{Places, HeapStands}

-- An object of the control space that a collection keeps.
abbrev pub IsLiveControl : SpaceState → Name → Type 0
IsLiveControl s n = (home_of s n ≡ Some Control) × IsLive s n

-- The work word of each live control object is 1 and that of every other present object 0, and no other word has changed but
-- those of the scratch area.
pub record MarksLive (m : Areas) (s : SpaceState) (l : Places) (c d : Contents) (count : ℕ) : Type 0 where
  pub live : (n : Name) → IsLiveControl s n → slice_index d.heap (l.at n + 2) ≡ 1
  pub dead : (n : Name) → IsPresent s n → (IsLiveControl s n → ⊥) → slice_index d.heap (l.at n + 2) ≡ 0
  pub frame : d ≡ record c { scratch = d.scratch; heap = d.heap }
  pub size : length d.heap ≡ length c.heap
  pub kept : (a : ℕ) → ((n : Name) → IsPresent s n → a ≢ l.at n + 2) → slice_index d.heap a ≡ slice_index c.heap a
  pub heap : HeapStands m d.table d.heap (object_of s) l (λ n. slice_index d.heap (l.at n + 2))
  pub counted : Counts (IsLiveControl s) count

-- The slots of all stacks, and the words of all pages up to their used marks.
abbrev pub slots_used : List (List ℕ) → ℕ
slots_used stacks = sum_by (λ (st : List ℕ). length st) stacks

abbrev pub words_used : List (List ℕ) → ℕ
words_used table = sum_by (λ (r : List ℕ). slice_index r 1) table
