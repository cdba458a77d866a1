-- What the targets of an end leave in the words.
use Rattle.std.specs.Prelude.{◌≡◌, ◌≢◌, ℕ, ◌+◌, length, slice_index}
use Rattle.object_layout.specs.declared.names.Name.{Name}
use Rattle.epoch_lattice.specs.declared.Space.{Space}
use Rattle.epoch_lattice.specs.declared.TheConstants.{MAX_DEPTH}
use Rattle.epoch_lattice.specs.Lattice.{IsValid, space_index}
use Rattle.yak_model.specs.Spaces.{Counts, Escapes, IsPresent, IsTarget, SpaceState, innermost}
use Rattle.yak_model.specs.State.{object_of}
use Rattle.yak_model.specs.Placed.{Places, HeapStands}
use Rattle.heap_words.specs.declared.map.Areas.{Areas}
use Rattle.heap_words.specs.Contents.{Contents}

-- Where the work word of an object stands.
abbrev pub work_word_at : Places → Name → ℕ
work_word_at l n = l.at n + 2

-- An object escapes from the innermost region of a thread.
abbrev pub IsEscaping : SpaceState → ℕ → Name → Type 0
IsEscaping s t n = Escapes s t (innermost s.graph t) n

-- The target of an object that escapes so.
abbrev pub IsTargetAt : SpaceState → ℕ → Name → Space → Type 0
IsTargetAt s t n x = IsTarget s t (innermost s.graph t) n x

-- The work word of each escaping object is the index of its target plus 1 and that of every other present object 0, these
-- are so many, and no other word has changed but those of the scratch area.
pub record TargetsWritten (m : Areas) (s : SpaceState) (l : Places) (t : ℕ) (c d : Contents) (escaping : ℕ) : Type 0 where
  pub targets : (n : Name) → IsEscaping s t n → (x : Space) × IsValid MAX_DEPTH x × IsTargetAt s t n x × (slice_index d.heap (work_word_at l n) ≡ space_index x + 1)
  pub others : (n : Name) → IsPresent s n → (IsEscaping s t n → ⊥) → slice_index d.heap (work_word_at l n) ≡ 0
  pub counted : Counts (IsEscaping s t) escaping
  pub frame : d ≡ record c { scratch = d.scratch; heap = d.heap }
  pub size : length d.heap ≡ length c.heap
  pub kept : (a : ℕ) → ((n : Name) → IsPresent s n → a ≢ work_word_at l n) → slice_index d.heap a ≡ slice_index c.heap a
  pub heap : HeapStands m d.table d.heap (object_of s) l (λ n. slice_index d.heap (work_word_at l n))
