-- Marks in the work words, and the list of the marked objects in the scratch area.
use Rattle.std.specs.Prelude.{[], ◌≡◌, ◌⊎◌, ℕ, ◌+◌, ◌*◌, ◌≤◌, ◌<◌, slice_index, slice_index_or, Some}
use Rattle.std.specs.List.{Contains}
use Rattle.object_layout.specs.declared.names.Name.{Name}
use Rattle.epoch_lattice.specs.declared.Space.TheVariants.{Control}
use Rattle.yak_model.specs.declared.datum.Datum.{Datum}
use Rattle.yak_model.specs.declared.datum.Datum.TheVariants.{Null, Object}
use Rattle.heap_words.specs.declared.map.Areas.{Areas}
use Rattle.heap_words.specs.Map.{heap_length}
use Rattle.heap_words.specs.Contents.{Contents}
use Rattle.yak_model.specs.State.{Thing, IsDatum}
use Rattle.yak_model.specs.Placed.{datum_word, space_word}
use Rattle.heap_walks.specs.Laid.{Laid, IsAmong, IsThing, work_of}
use Rattle.heap_walks.specs.Listed.{IsListed}
use Rattle.heap_walks.specs.Walked.{IsPagePassed}
use Rattle.mark_compact.specs.Reach.{IsAlive, IsControl}

-- An object of the control space is marked.
abbrev pub IsMarked : Laid → Contents → Name → Type 0
IsMarked h c n = IsControl h.state n × (work_of h c n ≡ 1)

-- The marks are on live control objects, and the list holds the address of each marked object once.
pub record Marking (m : Areas) (h : Laid) (c : Contents) (count : ℕ) : Type 0 where
  pub among : IsAmong m h c
  pub fits : count ≤ heap_length m
  pub marks : (n : Name) (o : Thing) → IsThing h n o → (work_of h c n ≡ 0) ⊎ ((work_of h c n ≡ 1) × (o.home ≡ Control) × IsAlive h.state n)
  pub list : IsListed h (IsMarked h c) c.scratch count

-- The marks stay, and the list grows at its end.
pub record Grows (h : Laid) (c : Contents) (count : ℕ) (d : Contents) (more : ℕ) : Type 0 where
  pub longer : count ≤ more
  pub marks : (n : Name) → IsMarked h c n → IsMarked h d n
  pub list : (k : ℕ) → k < count → slice_index d.scratch k ≡ slice_index c.scratch k

-- The marking goes on from one count to another.
pub record GoesOn (m : Areas) (h : Laid) (c : Contents) (count : ℕ) (d : Contents) (more : ℕ) : Type 0 where
  pub marking : Marking m h d more
  pub grows : Grows h c count d more

-- A word is that of a value which leads to live objects alone.
pub record IsLead (h : Laid) (word : ℕ) : Type 0 where
  pub datum : Datum
  pub fits : IsDatum h.state.objects datum
  pub word_is : word ≡ datum_word h.places.at datum
  pub alive : (n : Name) → datum ≡ Object n → IsAlive h.state n

-- The control object to which a word refers is marked.
abbrev pub IsFollowed : Laid → Contents → ℕ → Type 0
IsFollowed h c word = (n : Name) → IsControl h.state n → word ≡ 2 * (h.places.at n + 1) → IsMarked h c n

-- The address is that of a live object.
pub record IsAliveAt (h : Laid) (a : ℕ) : Type 0 where
  pub name : Name
  pub object : Thing
  pub present : h.state.objects name ≡ Some object
  pub address : a ≡ h.places.at name
  pub alive : IsAlive h.state name

-- The control objects to which the fields of an object refer are marked.
abbrev pub IsPassed : Laid → Contents → Name → Type 0
IsPassed h c n = (o : Thing) (x : Name) → IsThing h n o → Contains o.fields (Object x) → IsControl h.state x → IsMarked h c x

-- The control objects to which the fields of the object at an address refer are marked.
abbrev pub IsScanned : Laid → Contents → ℕ → Type 0
IsScanned h c a = (n : Name) → a ≡ h.places.at n → IsPassed h c n

-- The control objects to which the first fields of the object at an address refer are marked.
abbrev pub IsFollowedTo : (h : Laid) → Contents → (a : ℕ) → IsAliveAt h a → ℕ → Type 0
IsFollowedTo h c a l k = (j : ℕ) → j < k → IsFollowed h c (datum_word h.places.at (slice_index_or l.object.fields j Null))

-- The control objects to which the first slots of the stack at a place of the list refer are marked.
abbrev pub IsStackFollowedTo : Laid → Contents → ℕ → ℕ → Type 0
IsStackFollowedTo h c t k = (j : ℕ) → j < k → IsFollowed h c (datum_word h.places.at (slice_index_or (slice_index_or h.state.stacks t []) j Null))

-- The control objects to which the stack at a place of the list refers are marked.
abbrev pub IsStackMarked : Laid → Contents → ℕ → Type 0
IsStackMarked h c t = (n : Name) → Contains (slice_index_or h.state.stacks t []) (Object n) → IsControl h.state n → IsMarked h c n

-- The control objects to which the objects of a page refer are marked.
abbrev pub IsPageMarked : Laid → Contents → ℕ → Type 0
IsPageMarked h c page = IsPagePassed h (IsPassed h c) page

-- The control objects to which the objects of the first pages refer are marked, where the pages are of regions.
abbrev pub ArePagesMarked : Laid → Contents → ℕ → Type 0
ArePagesMarked h c pages = (p : ℕ) → p < pages → 1 < space_word h.before.table p → IsPageMarked h c p

-- The first objects of the list are scanned.
abbrev pub AreListedScanned : Laid → Contents → ℕ → Type 0
AreListedScanned h c next = (k : ℕ) → k < next → IsScanned h c (slice_index c.scratch k)
