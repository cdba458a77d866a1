-- Work words that are set to 0 again.
use Rattle.std.specs.Prelude.{◌≡◌, ℕ, ◌+◌, ◌<◌, List}
use Rattle.object_layout.specs.declared.names.Name.{Name}
use Rattle.heap_words.specs.declared.map.Areas.{Areas}
use Rattle.heap_words.specs.Contents.{Contents}
use Rattle.yak_model.specs.Placed.{space_word}
use Rattle.heap_walks.specs.Laid.{Laid, IsAmong, work_of}
use Rattle.heap_walks.specs.Walked.{IsPagePassed}

-- The work word of an object is 0.
abbrev pub IsClear : Laid → Contents → Name → Type 0
IsClear h c n = work_of h c n ≡ 0

-- Work words that were 0 stay 0, and of the objects' words only work words have changed.
pub record ClearsOn (m : Areas) (h : Laid) (c d : Contents) : Type 0 where
  pub among : IsAmong m h d
  pub still : (n : Name) → IsClear h c n → IsClear h d n

-- The work words of the objects of those of the first pages are 0 that a region has.
abbrev pub ArePagesClear : Laid → Contents → List (List ℕ) → ℕ → ℕ → Type 0
ArePagesClear h c table region pages = (p : ℕ) → p < pages → space_word table p ≡ region + 1 → IsPagePassed h (IsClear h c) p
