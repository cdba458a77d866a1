-- Targets in the work words, while they rise, and the list of the objects that wait in the scratch area.
use Rattle.std.specs.Prelude.{[], ◌-◌, ◌≡◌, ◌≢◌, ◌⊎◌, ℕ, ◌+◌, ◌*◌, ◌≤◌, ◌<◌, List, length, slice_index, slice_index_or, sum_by, Some}
use Rattle.std.specs.List.{Contains, flat_map}
use Rattle.object_layout.specs.declared.names.Name.{Name}
use Rattle.object_layout.specs.declared.TheConstants.{OBJECT_WORDS}
use Rattle.epoch_lattice.specs.declared.Space.{Space}
use Rattle.epoch_lattice.specs.declared.Space.TheVariants.{Region}
use Rattle.epoch_lattice.specs.declared.TheConstants.{MAX_DEPTH}
use Rattle.epoch_lattice.specs.Lattice.{IsBelow, IsLeastAbove, IsValid}
use Rattle.yak_model.specs.declared.datum.Datum.{Datum}
use Rattle.yak_model.specs.declared.datum.Datum.TheVariants.{Null, Object}
use Rattle.yak_model.specs.Spaces.{Counts}
use Rattle.yak_model.specs.State.{Thing, IsDatum}
use Rattle.yak_model.specs.Placed.{datum_word}
use Rattle.yak_model.specs.Stands.{words_in, words_taken}
use Rattle.yak_model.specs.Recorded.{RecordedAs}
use Rattle.remember_sets.specs.Filed.{chain}
use Rattle.heap_words.specs.declared.map.Areas.{Areas}
use Rattle.heap_words.specs.declared.TheConstants.{STACK_SLOTS}
use Rattle.heap_words.specs.Map.{heap_length}
use Rattle.heap_words.specs.Contents.{Contents}
use Rattle.heap_walks.specs.Laid.{Laid, IsAmong, work_of}
use Rattle.heap_walks.specs.Listed.{IsListed}
use Rattle.heap_walks.specs.Reach.{IsHeldAt, IsIn}
use Rattle.escape_closure.specs.declared.TheConstants.{WAITING}
use Rattle.escape_closure.specs.declared.raising.Tally.{Tally}
use Rattle.escape_closure.specs.Words.{settled_word, TellsTarget, scans_left, weights, zeros}
use Rattle.escape_closure.specs.Sources.{IsDue, IsInside, IsReachedIn, IsSourceIn}

-- An end of a region by a thread, in a state that lies so.
pub record Ended : Type 0 where
  pub laid : Laid
  pub thread : ℕ
  pub region : Space

-- An object of the region.
abbrev pub IsHere : Ended → Name → Type 0
IsHere e n = IsIn e.laid.state e.region n

-- An object waits on the list.
abbrev pub IsWaiting : Ended → Contents → Name → Type 0
IsWaiting e c n = WAITING ≤ work_of e.laid c n

-- An object of the region that waits on the list.
abbrev pub IsDueToScan : Ended → Contents → Name → Type 0
IsDueToScan e c n = IsHere e n × IsWaiting e c n

-- An object of the region that has a target.
abbrev pub HasSome : Ended → Contents → Name → Type 0
HasSome e c n = IsHere e n × (work_of e.laid c n ≢ 0)

-- The target of an object so far is a space.
abbrev pub HasTarget : Ended → Contents → Name → Space → Type 0
HasTarget e c n x = IsValid MAX_DEPTH x × TellsTarget (work_of e.laid c n) x

-- The target of an object so far is above a space.
abbrev pub IsRaised : Ended → Contents → Name → Space → Type 0
IsRaised e c n x = (y : Space) × HasTarget e c n y × IsBelow x y

-- The region and the home of each object are valid.
pub record Homes (e : Ended) : Type 0 where
  pub region : IsValid MAX_DEPTH e.region
  pub valid : (n : Name) (o : Thing) → e.laid.state.objects n ≡ Some o → IsValid MAX_DEPTH o.home

-- Targets are due and stand on objects of the region, the list holds the address of each waiting object once, and the
-- objects that have a target are counted.
pub record Raising (m : Areas) (e : Ended) (c : Contents) (tally : Tally) : Type 0 where
  pub among : IsAmong m e.laid c
  pub homes : Homes e
  pub fits : tally.waiting ≤ heap_length m
  pub works : (n : Name) (o : Thing) → e.laid.state.objects n ≡ Some o → (work_of e.laid c n ≡ 0) ⊎ ((o.home ≡ e.region) × (x : Space) × HasTarget e c n x × IsDue e.laid.state e.thread e.region n x)
  pub list : IsListed e.laid (IsDueToScan e c) c.scratch tally.waiting
  pub counted : Counts (HasSome e c) tally.escaping
  pub few : tally.escaping + zeros c.heap ≤ heap_length m

-- What the scans that are left can read: three words for each word of an object of the region, as often as its target can rise.
abbrev pub potential : Ended → Contents → ℕ
potential e c = sum_by (λ (ns : List Name). sum_by (λ (n : Name). 3 * words_in e.region (e.laid.state.objects n) * scans_left (work_of e.laid c n)) ns) e.laid.places.pages

-- Targets rise, and an object whose target rose waits.
pub record Rises (e : Ended) (c d : Contents) : Type 0 where
  pub targets : (n : Name) (x : Space) → IsHere e n → HasTarget e c n x → IsRaised e d n x
  pub others : (n : Name) (o : Thing) → e.laid.state.objects n ≡ Some o → IsWaiting e d n ⊎ (work_of e.laid d n ≡ work_of e.laid c n)
  pub lighter : weights d.heap ≤ weights c.heap
  pub cheaper : potential e d ≤ potential e c

pub record RaisesOn (m : Areas) (e : Ended) (c d : Contents) (more : Tally) : Type 0 where
  pub raising : Raising m e d more
  pub rises : Rises e c d

-- A word is that of a value, and a space is due to the object of the region to which it refers.
pub record IsOwed (e : Ended) (word : ℕ) (x : Space) : Type 0 where
  pub valid : IsValid MAX_DEPTH x
  pub datum : Datum
  pub fits : IsDatum e.laid.state.objects datum
  pub word_is : word ≡ datum_word e.laid.places.at datum
  pub due : (n : Name) → datum ≡ Object n → IsHere e n → IsDue e.laid.state e.thread e.region n x

-- The target of the object of the region to which a word refers is above a space.
abbrev pub IsPaid : Ended → Contents → ℕ → Space → Type 0
IsPaid e c word x = (n : Name) → IsHere e n → word ≡ 2 * (e.laid.places.at n + 1) → IsRaised e c n x

-- The address is that of an object of the region to which a space is due.
pub record IsDueAt (e : Ended) (a : ℕ) (x : Space) : Type 0 where
  pub name : Name
  pub object : Thing
  pub present : e.laid.state.objects name ≡ Some object
  pub home : object.home ≡ e.region
  pub address : a ≡ e.laid.places.at name
  pub due : IsDue e.laid.state e.thread e.region name x

-- The targets of the objects to which the first fields of the object at an address refer are above a space.
abbrev pub AreFieldsPaidTo : (e : Ended) → Contents → (a : ℕ) (x : Space) → IsDueAt e a x → ℕ → Type 0
AreFieldsPaidTo e c a x l k = (j : ℕ) → j < k → IsPaid e c (datum_word e.laid.places.at (slice_index_or l.object.fields j Null)) x

-- The targets of the objects to which the fields of the object at an address refer are above a space.
abbrev pub AreFieldsPaid : Ended → Contents → ℕ → Space → Type 0
AreFieldsPaid e c a x = (n : Name) (o : Thing) (b : Name) → e.laid.state.objects n ≡ Some o → a ≡ e.laid.places.at n → Contains o.fields (Object b) → IsHere e b → IsRaised e c b x

-- An object that doesn't wait has given its target to the objects to which its fields refer.
abbrev pub IsClosedOff : Ended → Contents → Type 0
IsClosedOff e c = (n : Name) (x : Space) (b : Name) → IsHere e n → IsValid MAX_DEPTH x → work_of e.laid c n ≡ settled_word x → IsInside e.laid.state e.region n b → IsRaised e c b x

-- Objects of the list were scanned, in words that read so often before and so often after.
pub record Scans (m : Areas) (e : Ended) (c : Contents) (before : ℕ) (d : Contents) (after : ℕ) (more : Tally) : Type 0 where
  pub raising : Raising m e d more
  pub targets : (n : Name) (x : Space) → IsHere e n → HasTarget e c n x → IsRaised e d n x
  pub closed : IsClosedOff e c → IsClosedOff e d
  pub reads : after + potential e d ≤ before + potential e c

-- The target of each object of the region from which a source refers to it is above the source's space.
abbrev pub AreSourcesPaid : Ended → Contents → Type 0
AreSourcesPaid e c = (n : Name) (x : Space) → IsSourceIn e.laid.state e.thread e.region n x → IsRaised e c n x

-- The work word of an object of the region tells the join of all sources that reach it, or is 0 where none does.
abbrev pub IsSettled : Ended → Contents → Name → Type 0
IsSettled e c n =
    ((work_of e.laid c n ≡ 0) × ((x : Space) → IsReachedIn e.laid.state e.thread e.region n x → ⊥))
    ⊎ ((x : Space) × IsValid MAX_DEPTH x × (work_of e.laid c n ≡ settled_word x) × IsLeastAbove (λ y. IsReachedIn e.laid.state e.thread e.region n y) x × ((y : Space) × IsReachedIn e.laid.state e.thread e.region n y))

-- A space is due to the objects of the region to which the stack at a place of the list refers.
abbrev pub IsStackDue : Ended → ℕ → Space → Type 0
IsStackDue e k x = (n : Name) → IsHeldAt e.laid.state k n → IsHere e n → IsDue e.laid.state e.thread e.region n x

-- The targets of the objects of the region to which the first slots of the stack refer are above a space.
abbrev pub IsStackPaidTo : Ended → Contents → ℕ → Space → ℕ → Type 0
IsStackPaidTo e c k x below = (j : ℕ) → j < below → IsPaid e c (datum_word e.laid.places.at (slice_index_or (slice_index_or e.laid.state.stacks k []) j Null)) x

-- The targets of the objects of the region to which the stack at a place of the list refers are above a space.
abbrev pub IsStackPaid : Ended → Contents → ℕ → Space → Type 0
IsStackPaid e c k x = (n : Name) → Contains (slice_index_or e.laid.state.stacks k []) (Object n) → IsHere e n → IsRaised e c n x

-- The target of the object of the region to which the field at an address refers from outside is above the home of the
-- object that has the field.
abbrev pub IsSlotPaid : Ended → Contents → ℕ → Type 0
IsSlotPaid e c a =
    (from n : Name) (o : Thing) (f : ℕ) → e.laid.state.objects from ≡ Some o → f < length o.fields → slice_index_or o.fields f Null ≡ Object n → a ≡ e.laid.places.at from + OBJECT_WORDS + f → o.home ≢ e.region → IsHere e n → IsRaised e c n o.home

-- The targets behind the first slots of the region's chain are paid.
abbrev pub AreSlotsPaid : Areas → Ended → Contents → ℕ → Type 0
AreSlotsPaid m e c k = (i : ℕ) → i < k → IsSlotPaid e c (slice_index (chain m e.laid.before e.region) i)

-- The words are those in which a thread ends its region: the work words are 0 and the buffers are filed.
pub record EndsAt (m : Areas) (e : Ended) (c : Contents) (thread depth : ℕ) : Type 0 where
  pub region : e.region ≡ Region thread depth
  pub thread_is : e.thread ≡ thread
  pub raising : Raising m e c (record { waiting = 0; escaping = 0 })
  pub zero_words : (n : Name) (o : Thing) → e.laid.state.objects n ≡ Some o → work_of e.laid c n ≡ 0
  pub recorded : RecordedAs m e.laid.before e.laid.state e.laid.places.at
  pub filed : flat_map (λ (b : List ℕ). b) e.laid.before.buffers ≡ []
  pub threads : length e.laid.state.stacks ≡ m.threads

-- The work words tell the targets of the objects that have one, which are so many, and so many words were read.
pub record TargetsStand (m : Areas) (e : Ended) (before : ℕ) (d : Contents) (after escaping : ℕ) : Type 0 where
  pub among : IsAmong m e.laid d
  pub settled : (n : Name) → IsHere e n → IsSettled e d n
  pub outside : (n : Name) (o : Thing) → e.laid.state.objects n ≡ Some o → o.home ≢ e.region → work_of e.laid d n ≡ 0
  pub counted : Counts (HasSome e d) escaping
  pub reads : after ≤ before + (27 * words_taken e.laid.places.pages e.laid.state.objects e.region + 5 * length (chain m e.laid.before e.region) + 3 * length (slice_index_or e.laid.state.stacks (e.thread - 1) []) + (3 + (1 + 3 * STACK_SLOTS) * m.threads))
