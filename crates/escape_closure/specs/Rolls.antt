-- The roll of the escaping objects in the scratch area, by ascending address.
use Rattle.std.specs.Prelude.{◌≡◌, ◌≢◌, ℕ, ◌*◌, ◌≤◌, ◌<◌, length, slice_index}
use Rattle.object_layout.specs.declared.names.Name.{Name}
use Rattle.epoch_lattice.specs.declared.Space.{Space}
use Rattle.epoch_lattice.specs.declared.TheConstants.{MAX_DEPTH}
use Rattle.epoch_lattice.specs.Lattice.{IsValid}
use Rattle.heap_words.specs.declared.map.Areas.{Areas}
use Rattle.heap_words.specs.Contents.{Contents}
use Rattle.yak_model.specs.State.{Thing}
use Rattle.heap_walks.specs.Laid.{Laid, IsAmong, IsThing, work_of}
use Rattle.heap_walks.specs.Walked.{IsPagePassed}
use Rattle.escape_closure.specs.Words.{settled_word}
use Rattle.relocation.specs.declared.plans.TheConstants.{MOVE_WORDS}

-- No word has changed but those of the scratch area.
abbrev pub OnlyScratch : Contents → Contents → Type 0
OnlyScratch c d = d ≡ record c { scratch = d.scratch }

-- An end whose targets stand in the work words: how the objects lie, the region, and what the words hold with the targets.
pub record Aimed : Type 0 where
  pub laid : Laid
  pub region : Space
  pub words : Contents

-- An object has a target.
abbrev pub IsAimed : Aimed → Name → Type 0
IsAimed q n = work_of q.laid q.words n ≢ 0

-- Only objects of the region have a target, and the work word of each tells a space.
pub record AimsInside (m : Areas) (q : Aimed) : Type 0 where
  pub among : IsAmong m q.laid q.words
  pub region : IsValid MAX_DEPTH q.region
  pub homes : (n : Name) (o : Thing) → IsThing q.laid n o → IsValid MAX_DEPTH o.home
  pub tells : (n : Name) (o : Thing) → IsThing q.laid n o → IsAimed q n → (x : Space) × IsValid MAX_DEPTH x × (work_of q.laid q.words n ≡ settled_word x)
  pub inside : (n : Name) (o : Thing) → IsThing q.laid n o → IsAimed q n → o.home ≡ q.region

-- Objects below an address that have a target are on the roll, by ascending address: every third word of the scratch area is
-- the address of the next one. No other word has changed but those of the scratch area.
pub record Rolled (q : Aimed) (now : Contents) (limit count : ℕ) : Type 0 where
  pub name : ℕ → Name
  pub aimed : (k : ℕ) → k < count → (o : Thing) × IsThing q.laid (name k) o × IsAimed q (name k)
  pub below : (k : ℕ) → k < count → q.laid.places.at (name k) < limit
  pub ascending : (j k : ℕ) → j < k → k < count → q.laid.places.at (name j) < q.laid.places.at (name k)
  pub stands : (k : ℕ) → k < count → slice_index now.scratch (MOVE_WORDS * k) ≡ q.laid.places.at (name k)
  pub room : MOVE_WORDS * count ≤ limit
  pub frame : now ≡ record q.words { scratch = now.scratch }
  pub size : length now.scratch ≡ length q.words.scratch

-- An object is among the first of these, where it has a target.
abbrev pub IsOnRoll : Aimed → (ℕ → Name) → ℕ → Name → Type 0
IsOnRoll q name count n = IsAimed q n → (k : ℕ) × (k < count) × (name k ≡ n)

-- A roll on which all are that were on another one.
pub record Grows (q : Aimed) (now : Contents) (limit count : ℕ) (before : ℕ → Name) (former : ℕ) : Type 0 where
  pub roll : Rolled q now limit count
  pub more : (n : Name) → IsOnRoll q before former n → IsOnRoll q roll.name count n

-- The objects of the first pages are on the roll, where they have a target.
abbrev pub ArePagesRolled : Aimed → (ℕ → Name) → ℕ → ℕ → Type 0
ArePagesRolled q name count pages = (p : ℕ) → p < pages → IsPagePassed q.laid (IsOnRoll q name count) p
