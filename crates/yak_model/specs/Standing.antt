-- What a caller of a heap can tell of its own thread, and what one call does to that.
use Rattle.std.specs.Prelude.{◌≡◌, ◌≢◌, ◌↔◌, ℕ, ◌+◌, ◌-◌, ◌^◌, ◌⊎◌, IsTrue, min, Bool, true, false, List, [], ◌∷◌, ◌++◌, Option, Some, None}
use Rattle.std.specs.Option.{ForSome}
use Rattle.object_layout.specs.declared.calls.Call.{Call}
use Rattle.object_layout.specs.declared.calls.Call.TheVariants as call
use Rattle.object_layout.specs.declared.replies.Census.{Census}
use Rattle.object_layout.specs.declared.replies.Reply.{Reply}
use Rattle.object_layout.specs.declared.replies.Reply.TheVariants as reply
use Rattle.object_layout.specs.declared.TheConstants.{OBJECT_WORDS}
use Rattle.yak_model.specs.Graph.{Graph, Limits, Thread, thread_of}
use Rattle.yak_model.specs.History.{Entry, Said, Collected, Moves}
use Rattle.yak_model.specs.Private.{AreMade, IsPrivate, KnownAfter, KnownObjects}

-- The caller's thread, the limits of its heap, its stack, depth and number of objects made, the words of the objects that
-- it made as a caller, its own list of entries where it tells that, how many calls were answered by `OutOfHeap`, and the
-- census, the depth and the words asked for of the last of them.
pub record Standing : Type 0 where
  pub thread : ℕ
  pub limits : Limits
  pub own : Thread
  pub words : ℕ
  pub list : Option (List Entry)
  pub refusals : ℕ
  pub last : Option (Census × ℕ × ℕ)

-- a number that is stored, after so much was added to it: it stands at its last value
abbrev pub counted_on : ℕ → ℕ → ℕ
counted_on n more = min (n + more) (2 ^ 64 - 1)

-- the words of the object that a call makes
abbrev pub words_made : Call → Reply → ℕ
words_made (call.New k) reply.Ok = k + OBJECT_WORDS
words_made asked said = 0

-- the entries of a call, after a collection that it made or not
abbrev pub entries_of : Bool → ℕ → Call → Reply → List Entry
entries_of true t asked said = Collected t ∷ Said t asked said ∷ []
entries_of false t asked said = Said t asked said ∷ []

-- The call made an object or had no room for one, or ended an epoch.
abbrev pub IsCollecting : Call → Reply → Type 0
IsCollecting (call.New k) said = (said ≡ reply.Ok) ⊎ (said ≡ reply.OutOfHeap)
IsCollecting call.End said = (moved : ℕ) × (tight : Bool) × (said ≡ reply.Ended moved tight)
IsCollecting asked said = ⊥

-- Only such a call may make a collection of its own, before it answers, and it made one where the heap had no room.
pub record MayCollect (collected : Bool) (asked : Call) (said : Reply) : Type 0 where
  pub only : IsTrue collected → IsCollecting asked said
  pub full : said ≡ reply.OutOfHeap → IsTrue collected

-- The own list, where it is told, grows by the entries of the call.
abbrev pub AddsEntries : ℕ → Call → Reply → Option (List Entry) → Option (List Entry) → Type 0
AddsEntries t asked said None after = after ≡ None
AddsEntries t asked said (Some list) after = (collected : Bool) × (after ≡ Some (list ++ entries_of collected t asked said)) × MayCollect collected asked said

-- There is a last call that was answered by `OutOfHeap` exactly where there were some, and no page was free then.
pub record TellsLast (s : Standing) : Type 0 where
  pub some : s.last ≡ None ↔ s.refusals ≡ 0
  pub none_free : ForSome s.last (λ l. l.0.free ≡ 0)

-- The call was for an object for which the heap has no room, and found no page free.
abbrev pub IsLast : Standing → Call → Option (Census × ℕ × ℕ) → Type 0
IsLast s asked last =
    (k : ℕ) × (census : Census) × (asked ≡ call.New k) × (census.free ≡ 0) × (last ≡ Some (census, s.own.depth, k + OBJECT_WORDS))

-- What a call does to what a caller counts.
pub record Counted (s : Standing) (asked : Call) (said : Reply) (after : Standing) : Type 0 where
  pub thread : after.thread ≡ s.thread
  pub limits : after.limits ≡ s.limits
  pub words : after.words ≡ counted_on s.words (words_made asked said)
  pub list : AddsEntries s.thread asked said s.list after.list
  pub full : said ≡ reply.OutOfHeap → (after.refusals ≡ counted_on s.refusals 1) × IsLast s asked after.last
  pub other : said ≢ reply.OutOfHeap → (after.refusals ≡ s.refusals) × (after.last ≡ s.last)

-- The call moves a graph in which the known objects are the thread's own, and what becomes of them is known afterwards.
pub record MovesKnown (s : Standing) (known : KnownObjects) (asked : Call) (said : Reply) (own_after : Thread) (knows_after : KnownObjects → Type 0) : Type 0 where
  pub before : Graph
  pub later : Graph
  pub limits : before.limits ≡ s.limits
  pub own : thread_of before s.thread ≡ s.own
  pub names : AreMade before
  pub private : IsPrivate before s.thread known
  pub moves : Moves before (Said s.thread asked said) later
  pub own_later : thread_of later s.thread ≡ own_after
  pub known_later : (after : KnownObjects) → KnownAfter before s.thread known (Said s.thread asked said) after → knows_after after

-- What no call changes: what else the caller stands for, and what it told of the other threads.
abbrev pub Stays : {S B : Type 0} → (S → B) → (S → ℕ → Thread → Type 0) → (S → ℕ → KnownObjects → Type 0) → S → S → Type 0
Stays base tells tells_known s after =
    (base after ≡ base s) × ((t : ℕ) (own : Thread) → tells s t own → tells after t own) × ((t : ℕ) (known : KnownObjects) → tells_known s t known → tells_known after t known)
