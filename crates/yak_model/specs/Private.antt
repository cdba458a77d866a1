-- What one thread alone knows: a finite map from the names of some of its objects to their fields.
use Rattle.std.specs.Prelude.{◌≡◌, ◌≢◌, ℕ, ◌≤◌, List, None, Some, IsSome, replicate, slice_set}
use Rattle.std.specs.List.{Contains}
use Rattle.std.specs.FinMap as finite
use Rattle.object_layout.specs.declared.names.Name.{Name}
use Rattle.object_layout.specs.declared.TheConstants.{OBJECT_WORDS}
use Rattle.object_layout.specs.declared.calls.Call.{Call}
use Rattle.object_layout.specs.declared.calls.Call.TheVariants as call
use Rattle.object_layout.specs.declared.replies.Reply.{Reply}
use Rattle.object_layout.specs.declared.replies.Reply.TheVariants as reply
use Rattle.yak_model.specs.declared.datum.Datum.{Datum}
use Rattle.yak_model.specs.declared.datum.Datum.TheVariants as datum
use Rattle.yak_model.specs.Names.{name_cmp}
use Rattle.yak_model.specs.Graph.{Content, Fields, Graph, Limits, fields_or_none, next_name, opening, size_of, slot_of, thread_of}
use Rattle.yak_model.specs.History.{Entry, Said, Collected, Leads, Moves}
use Rattle.yak_model.specs.Spaces.{IsOnStack, Refers, Walk, content_at}

-- a finite map from names to what the objects hold
abbrev pub KnownObjects : Type 0
KnownObjects = finite.FinMap name_cmp Content

-- The map has the name.
abbrev pub IsKnown : KnownObjects → Name → Type 0
IsKnown known name = IsSome (finite.get known name)

-- The known objects are the thread's own: they have these fields, and only its stack and known objects refer to them.
pub record IsPrivate (g : Graph) (t : ℕ) (known : KnownObjects) : Type 0 where
  pub contents : (name : Name) → IsKnown known name → content_at g name ≡ finite.get known name
  pub stacks : (name : Name) → IsKnown known name → (u : ℕ) → IsOnStack g u name → u ≡ t
  pub fields : (name : Name) → IsKnown known name → (from : Name) → Refers g from name → IsKnown known from

-- Each object of the map fits a page.
abbrev pub FitPages : Limits → KnownObjects → Type 0
FitPages limits known = (name : Name) (content : Content) → finite.get known name ≡ Some content → size_of content ≤ limits.page

-- A field of a known object, to a known object.
abbrev pub RefersKnown : KnownObjects → Name → Name → Type 0
RefersKnown known from to = IsKnown known from × Contains (fields_or_none (finite.get known from)) (datum.Object to) × IsKnown known to

-- The known objects without those that the name leads to.
pub record LosesAll (known : KnownObjects) (name : Name) (after : KnownObjects) : Type 0 where
  pub lost : (n : Name) → Walk (RefersKnown known) name n → finite.get after n ≡ None
  pub kept : (n : Name) → (Walk (RefersKnown known) name n → ⊥) → finite.get after n ≡ finite.get known n

-- A reference to the value is stored in an object that isn't known.
abbrev pub GivesAway : KnownObjects → Datum → KnownObjects → Type 0
GivesAway known (datum.Object name) after = LosesAll known name after
GivesAway known datum.Null after = after ≡ known
GivesAway known (datum.Int i) after = after ≡ known

-- The value is stored in a field of the object that a value refers to.
abbrev pub StoresKnown : KnownObjects → Datum → ℕ → Datum → KnownObjects → Type 0
StoresKnown known (datum.Object name) f value after =
    (IsKnown known name → after ≡ finite.insert known name (Fields (slice_set (fields_or_none (finite.get known name)) f value)))
    × ((IsKnown known name → ⊥) → GivesAway known value after)
StoresKnown known datum.Null f value after = after ≡ known
StoresKnown known (datum.Int i) f value after = after ≡ known

-- What a call of the thread itself does to its known objects.
abbrev pub OwnCall : Graph → ℕ → KnownObjects → Call → Reply → KnownObjects → Type 0
OwnCall g t known (call.New k) reply.Ok after = after ≡ finite.insert known (next_name g t) (Fields (replicate k datum.Null))
OwnCall g t known (call.Store s f x) reply.Ok after = StoresKnown known (slot_of g t s) f (slot_of g t x) after
OwnCall g t known asked said after = after ≡ known

-- What an entry does to the known objects of the thread.
abbrev pub KnownAfter : Graph → ℕ → KnownObjects → Entry → KnownObjects → Type 0
KnownAfter g t known (Said u asked said) after = (u ≡ t → OwnCall g t known asked said after) × (u ≢ t → after ≡ known)
KnownAfter g t known (Collected u) after = after ≡ known

-- ---- parts of what is known

-- Some of the known objects, as they are known, into which no other known object refers.
pub record IsPart (known part : KnownObjects) : Type 0 where
  pub contents : (name : Name) → IsKnown part name → finite.get part name ≡ finite.get known name
  pub closed : (from to : Name) → RefersKnown known from to → IsKnown part to → IsKnown part from

-- ---- names of objects that were made

-- The thread has made the object of this name, as far as the serial number goes.
abbrev pub IsMade : Graph → Name → Type 0
IsMade g name = name.serial ≤ (thread_of g name.thread).made

-- Each name in the graph is that of an object that was made.
pub record AreMade (g : Graph) : Type 0 where
  pub objects : (name : Name) → IsSome (content_at g name) → IsMade g name
  pub stacks : (u : ℕ) (name : Name) → IsOnStack g u name → IsMade g name
  pub fields : (from name : Name) → Refers g from name → IsMade g name

-- ---- after a history

-- Whatever graph the history leaves, the thread alone knows these objects in it, and they fit pages.
pub record PrivateAfter (limits : Limits) (threads : ℕ) (history : List Entry) (t : ℕ) (known : KnownObjects) : Type 0 where
  pub alone : (g : Graph) → Leads (opening limits threads) history g → IsPrivate g t known
  pub fits : FitPages limits known

-- Whatever graph the history leaves, the entry makes the other known objects of the ones.
abbrev pub BecomesKnown : Limits → ℕ → List Entry → ℕ → KnownObjects → Entry → KnownObjects → Type 0
BecomesKnown limits threads history t known entry after = (g : Graph) → Leads (opening limits threads) history g → KnownAfter g t known entry after

-- ---- laws

-- What one thread alone knows stays so, whatever entry comes.
abbrev pub PrivacyIsKept : Type 0
PrivacyIsKept =
    (g : Graph) (entry : Entry) (h : Graph) (t : ℕ) (known after : KnownObjects)
    → AreMade g → Moves g entry h → IsPrivate g t known → KnownAfter g t known entry after → IsPrivate h t after

-- Each entry keeps it that the names are those of objects that were made.
abbrev pub NamesStayMade : Type 0
NamesStayMade = (g : Graph) (entry : Entry) (h : Graph) → AreMade g → Moves g entry h → AreMade h

-- What is known fits pages whatever entry comes, where a page has room for an object without fields.
abbrev pub FittingIsKept : Type 0
FittingIsKept =
    (g : Graph) (entry : Entry) (h : Graph) (t : ℕ) (known after : KnownObjects)
    → OBJECT_WORDS ≤ g.limits.page → Moves g entry h → FitPages g.limits known → KnownAfter g t known entry after → FitPages g.limits after

-- A part of what a thread alone knows is so known, and stays such a part, whatever entry comes.
abbrev pub PartsAreKept : Type 0
PartsAreKept =
    (g : Graph) (entry : Entry) (t : ℕ) (known part after part_after : KnownObjects)
    → AreMade g → IsPrivate g t known → IsPart known part → KnownAfter g t known entry after → KnownAfter g t part entry part_after
    → IsPrivate g t part × IsPart after part_after

-- Each entry makes some map of what is known.
abbrev pub SomethingIsKnown : Type 0
SomethingIsKnown = (g : Graph) (t : ℕ) (known : KnownObjects) (entry : Entry) → (after : KnownObjects) × KnownAfter g t known entry after
