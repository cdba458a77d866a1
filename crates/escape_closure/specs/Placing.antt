-- Objects that are placed one after another, and the pages that this claims.
use Rattle.std.specs.Prelude.{◌≡◌, ℕ, ◌+◌, ◌-◌, ◌*◌, ◌≤◌, ◌<◌, ◌==◌, nat_le, cond, Option, Some, None, slice_index, unwrap_or, zero, suc}
use Rattle.object_layout.specs.declared.TheConstants.{MAX_SPACE}
use Rattle.epoch_lattice.specs.declared.Space.{Space}
use Rattle.epoch_lattice.specs.declared.Space.TheVariants.{Control, Region}
use Rattle.epoch_lattice.specs.Lattice.{space_of}
use Rattle.heap_words.specs.declared.map.Areas.{Areas}
use Rattle.heap_words.specs.Map.{heap_length, page_words}
use Rattle.heap_words.specs.Contents.{Contents}
use Rattle.yak_model.specs.Placed.{size_by}
use Rattle.region_pages.specs.Placement.{words_left_at}
use Rattle.object_layout.specs.declared.names.Name.{Name}
use Rattle.yak_model.specs.State.{Thing}
use Rattle.heap_walks.specs.Laid.{IsThing, work_of}
use Rattle.relocation.specs.declared.plans.TheConstants.{MOVE_WORDS}
use Rattle.escape_closure.specs.Rolls.{Aimed, IsAimed, Rolled}

-- The thread whose current page takes an object in a space: in Control it is that of a thread.
abbrev pub owner : ℕ → Space → ℕ
owner t Control = t
owner t (Region u d) = u

-- The words left in the current page of a space, where Control's is that of a thread.
abbrev pub room_in : Areas → Contents → ℕ → Option Space → ℕ
room_in m c t None = 0
room_in m c t (Some Control) = words_left_at m c t 0
room_in m c t (Some (Region u d)) = words_left_at m c u d

-- The words left in the current page of the space of each number.
abbrev pub rooms_at : Areas → Contents → ℕ → ℕ → ℕ
rooms_at m c t i = room_in m c t (space_of i)

-- While objects are placed: the words left in the current page of the space of each number, and how many pages are claimed.
pub record Filling : Type 0 where
  pub rooms : ℕ → ℕ
  pub claimed : ℕ

-- The words left after an object of some words is placed: in the current page where it fits there, else on a claimed page.
abbrev pub left : Areas → ℕ → ℕ → ℕ
left m size room = cond (nat_le size room) (room - size) (page_words m - size)

-- How many pages it claims.
abbrev pub claims : ℕ → ℕ → ℕ
claims size room = cond (nat_le size room) 0 1

-- One more object of some words is placed in the space of a number.
abbrev pub filled : Areas → Filling → ℕ → ℕ → Filling
filled m f index size = record {
  rooms = λ i. cond (i == index) (left m size (f.rooms index)) (f.rooms i);
  claimed = f.claimed + claims size (f.rooms index);
}

-- The first objects of some words are placed in spaces of some numbers, in order.
unfoldable pub filling : Areas → (ℕ → ℕ) → (ℕ → ℕ) → (ℕ → ℕ) → ℕ → Filling
filling m rooms index size zero = record { rooms = rooms; claimed = 0 }
filling m rooms index size (suc k) = filled m (filling m rooms index size k) (index k) (size k)

-- The number of the target of an object of a roll, and its words.
abbrev pub index_on : (q : Aimed) (now : Contents) (limit count : ℕ) → Rolled q now limit count → ℕ → ℕ
index_on q now limit count r k = work_of q.laid q.words (r.name k) - 1

abbrev pub size_on : (q : Aimed) (now : Contents) (limit count : ℕ) → Rolled q now limit count → ℕ → ℕ
size_on q now limit count r k = size_by q.laid.state.objects (r.name k)

-- The target of an object of a roll.
abbrev pub target_on : (q : Aimed) (now : Contents) (limit count : ℕ) → Rolled q now limit count → ℕ → Space
target_on q now limit count r k = unwrap_or (space_of (index_on q now limit count r k)) Control

-- An object that has a target is the one of the roll with a number, and its words are as the targets left them.
pub record EntryAt (m : Areas) (q : Aimed) (now : Contents) (n : Name) (k : ℕ) : Type 0 where
  pub object : Thing
  pub present : IsThing q.laid n object
  pub aimed : IsAimed q n
  pub place : slice_index now.scratch (MOVE_WORDS * k) ≡ q.laid.places.at n
  pub room : MOVE_WORDS * k + MOVE_WORDS ≤ heap_length m
  pub header : slice_index now.heap (q.laid.places.at n) ≡ slice_index q.words.heap (q.laid.places.at n)
  pub work : slice_index now.heap (q.laid.places.at n + 2) ≡ slice_index q.words.heap (q.laid.places.at n + 2)

-- The last words of the scratch area are the words left in the current pages.
abbrev pub RoomsStand : Areas → Contents → (ℕ → ℕ) → Type 0
RoomsStand m c rooms = (i : ℕ) → i ≤ MAX_SPACE → slice_index c.scratch (heap_length m + i) ≡ rooms i

-- Nothing but the last words of the scratch area has changed.
pub record OnlyRooms (m : Areas) (c d : Contents) : Type 0 where
  pub frame : d ≡ record c { scratch = d.scratch }
  pub before : (i : ℕ) → i < heap_length m → slice_index d.scratch i ≡ slice_index c.scratch i
