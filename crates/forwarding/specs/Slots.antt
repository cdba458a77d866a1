-- The field slots of objects, in their order.
use Rattle.std.specs.Prelude.{ℕ, zero, suc, ◌+◌, ◌≤◌, ◌<◌, ◌&&◌, ◌||◌, Bool, false, not, nat_lt, List, [], ◌++◌}
use Rattle.std.specs.List.{range_with_len}
use Rattle.object_layout.specs.declared.TheConstants.{OBJECT_WORDS}
use Rattle.yak_model.specs.Plans.{Move}
use Rattle.heap_words.specs.declared.map.Areas.{Areas}
use Rattle.heap_words.specs.Map.{heap_length}
use Rattle.relocation.specs.Moves.{HasHeader, fields_at, size_at}
use Rattle.heap_words.specs.Contents.{Contents}
use Rattle.remember_sets.specs.Filed.{moved_slot, page_word}

-- The field slots of the object at an address.
abbrev pub slots_at : List ℕ → ℕ → List ℕ
slots_at heap a = range_with_len (a + OBJECT_WORDS) (fields_at heap a)

-- Those of the objects at the new places of the first moves.
unfoldable pub slots_brought : List ℕ → ℕ → (ℕ → Move) → List ℕ
slots_brought heap zero moves = []
slots_brought heap (suc k) moves = slots_brought heap k moves ++ slots_at heap (moves k).new

-- Slots where those of a run of words, from a word on and so many, have gone to another one.
abbrev pub moved_run : ℕ → ℕ → ℕ → List ℕ → List ℕ
moved_run old new zero slots = slots
moved_run old new (suc n) slots = moved_slot (old + n) (new + n) (moved_run old new n slots)

-- Slots where the fields of the first moves' objects have gone to their new places, one object after another.
unfoldable pub followed : List ℕ → ℕ → (ℕ → Move) → List ℕ → List ℕ
followed heap zero moves slots = slots
followed heap (suc k) moves slots = moved_run ((moves k).old + OBJECT_WORDS) ((moves k).new + OBJECT_WORDS) (fields_at heap (moves k).new) (followed heap k moves slots)

-- A heap word is a field, at its old place, of the object of one of the first moves.
abbrev pub IsOldField : List ℕ → ℕ → (ℕ → Move) → ℕ → Type 0
IsOldField heap count moves a = (k : ℕ) × (k < count) × ((moves k).old + OBJECT_WORDS ≤ a) × (a < (moves k).old + OBJECT_WORDS + fields_at heap (moves k).new)

-- Recorded slots can follow the moves one after another: no object goes behind its old place, a new place meets a recorded slot
-- only where that one has gone before or is of the same object, and new places lie one behind another. `filed` tells the recorded slots.
pub record CanFollow (m : Areas) (heap : List ℕ) (filed : ℕ → Type 0) (count : ℕ) (moves : ℕ → Move) : Type 0 where
  pub header : (k : ℕ) → k < count → HasHeader heap (moves k).new
  pub front : (k : ℕ) → k < count → (moves k).new ≤ (moves k).old
  pub within : (k : ℕ) → k < count → (moves k).old + OBJECT_WORDS + fields_at heap (moves k).new ≤ heap_length m
  pub spread : (j k : ℕ) → j < k → k < count → (moves j).new + size_at heap (moves j).new ≤ (moves k).new
  pub meets : (k f : ℕ) → k < count → f < fields_at heap (moves k).new → filed ((moves k).new + OBJECT_WORDS + f) → (IsOldField heap k moves ((moves k).new + OBJECT_WORDS + f) → ⊥) → (moves k).old ≤ (moves k).new + f

-- Whether a heap word lies, at its old place, in the object of one of the first moves.
unfoldable pub in_old : List ℕ → ℕ → (ℕ → Move) → ℕ → Bool
in_old heap zero moves a = false
in_old heap (suc k) moves a = in_old heap k moves a || (not (nat_lt a (moves k).old) && nat_lt a ((moves k).old + size_at heap (moves k).new))

-- Whether a heap word lies in a page of a region, or in an object that was moved.
abbrev pub is_kept : Areas → Contents → ℕ → (ℕ → Move) → ℕ → Bool
is_kept m c count moves a = not (nat_lt (page_word m c a) 2 && not (in_old c.heap count moves a))

-- The old places of the first moves lie one behind another.
pub record AreAscending (m : Areas) (heap : List ℕ) (count : ℕ) (moves : ℕ → Move) : Type 0 where
  pub header : (k : ℕ) → k < count → HasHeader heap (moves k).new
  pub start : (k : ℕ) → k < count → (moves k).new < heap_length m
  pub within : (k : ℕ) → k < count → (moves k).old + size_at heap (moves k).new ≤ heap_length m
  pub behind : (j k : ℕ) → j < k → k < count → (moves j).old + size_at heap (moves j).new ≤ (moves k).old
