use Rattle.std.specs.Prelude.{Bool, ◌≡◌, ◌==◌, cond, ℕ, ◌+◌, ◌-◌, ◌*◌, ◌/◌, ◌%◌, ◌≤◌, ◌<◌, ◌⊎◌, List, slice_index, unwrap_or, zero, suc}
use Rattle.object_layout.specs.declared.headers.Header.{Header}
use Rattle.object_layout.specs.declared.names.Name.{Name}
use Rattle.object_layout.specs.declared.TheConstants.{HEADER_BASE, SPACE_UNIT}
use Rattle.object_layout.specs.Layout.{IsHeader, header_word}
use Rattle.heap_words.specs.declared.map.Areas.{Areas}
use Rattle.heap_words.specs.Map.{heap_length}
use Rattle.heap_words.specs.Contents.{contents}
use Rattle.epoch_lattice.specs.declared.TheConstants.{MAX_DEPTH}
use Rattle.epoch_lattice.specs.declared.Space.TheVariants.{Control}
use Rattle.epoch_lattice.specs.Lattice.{IsValid, space_index, space_of}
use Rattle.yak_model.specs.State.{State}
use Rattle.yak_model.specs.Placed.{Holds}
use Rattle.yak_model.specs.Plans.{Move, AreApart, IsLawfulPlan, forwarded, without}
use Rattle.relocation.specs.declared.plans.Move as planned
use Rattle.relocation.specs.declared.plans.TheConstants.{MOVE_WORDS}

-- The words of the pages, and those of the scratch area.
abbrev pub heap_of : Areas → List ℕ → List ℕ
heap_of m ws = (contents m ws).heap

abbrev pub scratch_of : Areas → List ℕ → List ℕ
scratch_of m ws = (contents m ws).scratch

-- Nothing but words of the pages has changed.
abbrev pub OnlyHeap : Areas → List ℕ → List ℕ → Type 0
OnlyHeap m was now = contents m now ≡ (let c = contents m was in record c { heap = heap_of m now })

-- The move that a value of the code tells.
abbrev pub move_of : planned.Move → Move
move_of v = record { old = v.old; new = v.new; space = v.space }

-- The move of a plan with a number: a plan stands in the scratch area, three words for a move.
unfoldable pub move_at : List ℕ → ℕ → Move
move_at scratch k =
    record {
      old = slice_index scratch (MOVE_WORDS * k);
      new = slice_index scratch (MOVE_WORDS * k + 1);
      space = unwrap_or (space_of (slice_index scratch (MOVE_WORDS * k + 2))) Control;
    }

-- The number of fields that the word at an address tells, and of the words of such an object.
unfoldable pub fields_at : List ℕ → ℕ → ℕ
fields_at heap a = (slice_index heap a - HEADER_BASE) % SPACE_UNIT

abbrev pub size_at : List ℕ → ℕ → ℕ
size_at heap a = fields_at heap a + 3

-- The number of words of the objects of the first moves.
unfoldable pub words_moved : List ℕ → ℕ → (ℕ → Move) → ℕ
words_moved heap zero moves = 0
words_moved heap (suc k) moves = words_moved heap k moves + size_at heap (moves k).old

-- A header stands at an address.
abbrev pub HasHeader : List ℕ → ℕ → Type 0
HasHeader heap a = (h : Header) × IsHeader h × (slice_index heap a ≡ header_word h)

-- A word lies beside the n words from a on.
abbrev pub Beside : ℕ → ℕ → ℕ → Type 0
Beside i a n = (i < a) ⊎ (a + n ≤ i)

-- A run of words stands at another place too, and no word beside that place has changed.
pub record RunCopied (was now : List ℕ) (from to count : ℕ) : Type 0 where
  pub inside : (i : ℕ) → i < count → slice_index now (to + i) ≡ slice_index was (from + i)
  pub outside : (i : ℕ) → Beside i to count → slice_index now i ≡ slice_index was i

-- The words of an object stand at its new place, with its new space and the work word 0.
pub record Copied (was now : List ℕ) (v : Move) : Type 0 where
  pub header : slice_index now v.new ≡ header_word (record { fields = fields_at was v.old; space = space_index v.space })
  pub name : slice_index now (v.new + 1) ≡ slice_index was (v.old + 1)
  pub work_word : slice_index now (v.new + 2) ≡ 0
  pub fields : (f : ℕ) → f < fields_at was v.old → slice_index now (v.new + 3 + f) ≡ slice_index was (v.old + 3 + f)

-- The first moves are done, and no word beside their new places has changed.
pub record Moved (was now : List ℕ) (count : ℕ) (moves : ℕ → Move) : Type 0 where
  pub copied : (k : ℕ) → k < count → Copied was now (moves k)
  pub others : (i : ℕ) → ((k : ℕ) → k < count → Beside i (moves k).new (size_at was (moves k).old)) → slice_index now i ≡ slice_index was i

-- A move can be made: an object lies there, and both of its places lie in the heap.
pub record Movable (m : Areas) (heap : List ℕ) (v : Move) : Type 0 where
  pub header : HasHeader heap v.old
  pub space : IsValid MAX_DEPTH v.space
  pub old : v.old + size_at heap v.old ≤ heap_length m
  pub new : v.new + size_at heap v.old ≤ heap_length m

-- The moves can be made one after another: no new place touches another new place, nor the old place of a later move.
pub record AllMovable (m : Areas) (heap : List ℕ) (count : ℕ) (moves : ℕ → Move) : Type 0 where
  pub each : (k : ℕ) → k < count → Movable m heap (moves k)
  pub apart : (j k : ℕ) → j < k → k < count → AreApart (moves j).new (size_at heap (moves j).old) (moves k).new (size_at heap (moves k).old)
  pub later : (j k : ℕ) → j < k → k < count → AreApart (moves j).new (size_at heap (moves j).old) (moves k).old (size_at heap (moves k).old)

-- The moves are those of a plan that is lawful for some state, and its objects that are kept stand in the words, with all
-- their references corrected already.
pub record IsReadyPlan (m : Areas) (heap : List ℕ) (count : ℕ) (moves : ℕ → Move) : Type 0 where
  pub state : State
  pub places : Name → ℕ
  pub work : Name → ℕ
  pub dropped : Name → Bool
  pub lawful : IsLawfulPlan m count moves state places dropped
  pub holds : Holds m heap places (forwarded count moves places) work (without state dropped).objects

-- A plan stands in the scratch area: its moves go by ascending old addresses, and the work word of each one's object tells its number from 1.
pub record Numbered (m : Areas) (heap : List ℕ) (count : ℕ) (moves : ℕ → Move) : Type 0 where
  pub room : MOVE_WORDS * count ≤ heap_length m
  pub ascending : (j k : ℕ) → j < k → k < count → (moves j).old < (moves k).old
  pub within : (k : ℕ) → k < count → ((moves k).old + 2 < heap_length m) × ((moves k).new < heap_length m)
  pub marks : (k : ℕ) → k < count → slice_index heap ((moves k).old + 2) ≡ k + 1

-- A value word whose reference leads where f brings the address. An integer, which is odd, and null stay.
abbrev pub corrected_word : (ℕ → ℕ) → ℕ → ℕ
corrected_word f word = cond (word % 2 == 1) word (cond (word == 0) word (2 * (f (word / 2 - 1) + 1)))
