-- What a run of calls of a caller leaves.
use Rattle.std.specs.Prelude.{◌≡◌, ℕ, ◌+◌, ◌-◌, ◌<◌, List, [], ◌∷◌, ◌++◌, length, replicate, slice_index_or, slice_set, take, Option, Some, None}
use Rattle.std.specs.List.{All}
use Rattle.std.specs.FinMap as finite
use Rattle.object_layout.specs.declared.names.Name.{Name}
use Rattle.object_layout.specs.declared.calls.Call.{Call}
use Rattle.object_layout.specs.declared.calls.Call.TheVariants as call
use Rattle.object_layout.specs.declared.replies.Census.{Census}
use Rattle.object_layout.specs.declared.replies.Reply.{Reply}
use Rattle.object_layout.specs.declared.replies.Reply.TheVariants as reply
use Rattle.object_layout.specs.declared.TheConstants.{OBJECT_WORDS}
use Rattle.yak_model.specs.declared.datum.Datum.{Datum}
use Rattle.yak_model.specs.declared.datum.Datum.TheVariants as datum
use Rattle.yak_model.specs.Graph.{Fields, Thread}
use Rattle.yak_model.specs.declared.history.Entry.{Entry}
use Rattle.yak_model.specs.declared.history.Entry.TheVariants.{Said, Collected}
use Rattle.yak_model.specs.Private.{KnownObjects}
use Rattle.yak_model.specs.Standing.{Standing, Stays, counted_on}

-- ---- the caller's own stack

abbrev pub stack_in : Standing → List Datum
stack_in s = s.own.stack

abbrev pub slot_in : Standing → ℕ → Datum
slot_in s i = slice_index_or s.own.stack i datum.Null

abbrev pub pushed : Thread → Datum → Thread
pushed own value = record own { stack = own.stack ++ value ∷ [] }

abbrev pub popped : Thread → Thread
popped own = record own { stack = take (length own.stack - 1) own.stack }

-- without so many slots from the top
abbrev pub without_top : Thread → ℕ → Thread
without_top own n = record own { stack = take (length own.stack - n) own.stack }

-- the name of the thread's next object
abbrev pub next_of : Standing → Name
next_of s = record { thread = s.thread; serial = s.own.made + 1 }

-- ---- what calls add to what is counted

-- The call begins and ends no epoch, and asks for no collection and no census.
abbrev pub IsPlain : Call → Type 0
IsPlain call.Begin = ⊥
IsPlain call.End = ⊥
IsPlain call.Collect = ⊥
IsPlain call.Census = ⊥
IsPlain asked = Unit {0}

-- An entry of the thread that tells such a call, or a collection inside one.
abbrev pub IsPlainEntry : ℕ → Entry → Type 0
IsPlainEntry t (Said u asked said) = (u ≡ t) × IsPlain asked
IsPlainEntry t (Collected u) = u ≡ t

-- The own list, where it is told, grew by such entries.
abbrev pub GrowsPlainly : ℕ → Option (List Entry) → Option (List Entry) → Type 0
GrowsPlainly t None after = after ≡ None
GrowsPlainly t (Some list) after = (more : List Entry) × (after ≡ Some (list ++ more)) × All (IsPlainEntry t) more

-- Calls were made between that begin and end no epoch, and their objects have so many words. The number of words is one that
-- is stored, which stands at its last value.
pub record Since (s after : Standing) (words : ℕ) : Type 0 where
  pub thread : after.thread ≡ s.thread
  pub limits : after.limits ≡ s.limits
  pub depth : after.own.depth ≡ s.own.depth
  pub words_made : counted_on after.words 0 ≡ counted_on s.words words
  pub list : GrowsPlainly s.thread s.list after.list

-- No call was refused for want of room.
pub record IsQuiet (s after : Standing) : Type 0 where
  pub refusals : after.refusals ≡ s.refusals
  pub last : after.last ≡ s.last

-- The last of the calls was refused for want of room for an object of k fields, and no other was.
pub record IsRefused (s after : Standing) (k : ℕ) : Type 0 where
  pub refusals : after.refusals ≡ counted_on s.refusals 1
  pub census : Census
  pub none_free : census.free ≡ 0
  pub last : after.last ≡ Some (census, s.own.depth, k + OBJECT_WORDS)

-- Calls were made between, whose objects have so many words, and none was refused for want of room.
pub record Ran {S B : Type 0} (base : S → B) (tells : S → ℕ → Thread → Type 0) (tells_known : S → ℕ → KnownObjects → Type 0) (standing : S → Standing) (s after : S) (words : ℕ) : Type 0 where
  pub stays : Stays base tells tells_known s after
  pub since : Since (standing s) (standing after) words
  pub quiet : IsQuiet (standing s) (standing after)

-- Calls were made between, whose objects have so many words, and the last was refused for want of room for an object of k
-- fields.
pub record RanOut {S B : Type 0} (base : S → B) (tells : S → ℕ → Thread → Type 0) (tells_known : S → ℕ → KnownObjects → Type 0) (standing : S → Standing) (s after : S) (words k : ℕ) : Type 0 where
  pub stays : Stays base tells tells_known s after
  pub since : Since (standing s) (standing after) words
  pub refused : IsRefused (standing s) (standing after) k

-- ---- what is known of objects

-- Each known map stays known.
abbrev pub KeepsKnown : (KnownObjects → Type 0) → (KnownObjects → Type 0) → Type 0
KeepsKnown knows after = (known : KnownObjects) → knows known → after known

-- The map has this object, which a slot refers to.
abbrev pub IsInSlot : Standing → KnownObjects → ℕ → Name → List Datum → Type 0
IsInSlot s known i name values =
    (slot_in s i ≡ datum.Object name) × (finite.get known name ≡ Some (Fields values))

-- A slot refers to a known object that has so many fields.
abbrev pub HasField : Standing → (KnownObjects → Type 0) → ℕ → ℕ → Type 0
HasField s knows i f =
    (known : KnownObjects) × (name : Name) × (values : List Datum) × knows known × IsInSlot s known i name values × (f < length values)

-- Some map is known.
abbrev pub KnowsSome : (KnownObjects → Type 0) → Type 0
KnowsSome knows = (known : KnownObjects) × knows known

-- The call leaves a reference to a new object on top.
abbrev pub with_made : Standing → Thread
with_made s = record s.own { stack = s.own.stack ++ datum.Object (next_of s) ∷ []; made = s.own.made + 1 }

-- the known objects with a new one of k null fields
abbrev pub with_new : Standing → KnownObjects → ℕ → KnownObjects
with_new s known k = finite.insert known (next_of s) (Fields (replicate k datum.Null))

-- the known objects with a new value in a field of one that has these
abbrev pub with_field : KnownObjects → Name → List Datum → ℕ → Datum → KnownObjects
with_field known name values f value = finite.insert known name (Fields (slice_set values f value))

-- what is shown of a value whose object may not be known
abbrev pub IsShown : Datum → Reply → Type 0
IsShown datum.Null said = said ≡ reply.Null
IsShown (datum.Int i) said = said ≡ reply.Int i
IsShown (datum.Object name) said = (k : ℕ) × (said ≡ reply.Object k)
