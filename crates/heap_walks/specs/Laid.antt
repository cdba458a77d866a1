-- The words that a walk over the objects of a heap may change.
use Rattle.std.specs.Prelude.{◌≡◌, ◌≢◌, ℕ, ◌+◌, length, slice_index, Some}
use Rattle.object_layout.specs.declared.names.Name.{Name}
use Rattle.heap_words.specs.declared.map.Areas.{Areas}
use Rattle.heap_words.specs.Map.{IsAreas, heap_length, scratch_length}
use Rattle.heap_words.specs.Contents.{Contents}
use Rattle.yak_model.specs.State.{State, Thing}
use Rattle.yak_model.specs.Placed.{Places}
use Rattle.yak_model.specs.Stands.{StandsAs}

-- A state, how its objects lie, and the words that stand for it, with which a walk begins.
pub record Laid : Type 0 where
  pub state : State
  pub places : Places
  pub before : Contents

-- The object of a name is present.
abbrev pub IsThing : Laid → Name → Thing → Type 0
IsThing h n o = h.state.objects n ≡ Some o

-- Where the work word of an object stands, and what it is.
abbrev pub work_at : Laid → Name → ℕ
work_at h n = h.places.at n + 2

abbrev pub work_of : Laid → Contents → Name → ℕ
work_of h c n = slice_index c.heap (work_at h n)

-- No present object has its work word there.
abbrev pub IsKeptWord : Laid → ℕ → Type 0
IsKeptWord h a = (n : Name) (o : Thing) → IsThing h n o → a ≢ work_at h n

-- Only work words of present objects and words of the scratch area differ from those with which the walk began.
pub record IsAmong (m : Areas) (h : Laid) (c : Contents) : Type 0 where
  pub areas : IsAreas m
  pub stands : StandsAs m h.before h.state h.places
  pub frame : c ≡ (let b = h.before in record b { scratch = c.scratch; heap = c.heap })
  pub kept : (a : ℕ) → IsKeptWord h a → slice_index c.heap a ≡ slice_index h.before.heap a
  pub heap_size : length c.heap ≡ heap_length m
  pub scratch_size : length c.scratch ≡ scratch_length m
