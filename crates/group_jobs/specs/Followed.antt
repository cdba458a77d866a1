-- What is known of the one history while a thread's calls are followed.
use Rattle.std.specs.Prelude.{◌≡◌, ◌⊎◌, ℕ, List, [], ◌∷◌, ◌++◌, length}
use Rattle.std.specs.List.{sum_by}
use Rattle.heap_words.specs.declared.map.Areas.{Areas}
use Rattle.object_layout.specs.declared.names.Name.{Name}
use Rattle.object_layout.specs.declared.calls.Call.TheVariants as call
use Rattle.object_layout.specs.declared.replies.Reply.TheVariants as reply
use Rattle.yak_model.specs.declared.history.Entry.{Entry}
use Rattle.yak_model.specs.declared.history.Entry.TheVariants.{Said, Collected}
use Rattle.yak_model.specs.Graph.{standard_limits}
use Rattle.yak_model.specs.History.{caller}
use Rattle.yak_model.specs.Private.{IsKnown, KnownObjects}
use Rattle.yak_model.specs.Spaces.{SpaceState, spaces}
use Rattle.yak_model.specs.Standing.{words_made}
use Rattle.safepoint_gate.specs.declared.rule.Own.{Own}
use Rattle.safepoint_gate.specs.Rule.{AllMine, GoesOn}
use Rattle.safepoint_gate.specs.Steps.{first_thread}
use Rattle.mutator.specs.Callers.{KnowsPart, first_past}

-- the words of the object that a call of an entry made
abbrev pub entry_made : Entry → ℕ
entry_made (Said t asked said) = words_made asked said
entry_made (Collected t) = 0

-- the words of all objects that the calls of a list made
abbrev pub made_in : List Entry → ℕ
made_in list = sum_by entry_made list

-- whether a call of an entry found no room for an object
abbrev pub entry_refused : Entry → ℕ
entry_refused (Said t (call.New k) reply.OutOfHeap) = 1
entry_refused entry = 0

-- how many calls of a list did
abbrev pub refused_in : List Entry → ℕ
refused_in list = sum_by entry_refused list

-- The history ends with an entry of the thread, if it has any.
abbrev pub EndsWith : ℕ → List Entry → Type 0
EndsWith t history = (history ≡ []) ⊎ ((former : List Entry) × (last : Entry) × (caller last ≡ t) × (history ≡ former ++ last ∷ []))

-- The history after the seat's last call ends with that call and leaves a state, in which the seat's thread has what it has and alone
-- knows what it knows.
pub record IsSettled (m : Areas) (own : List Own) : Type 0 where
  pub one : length own ≡ 1
  pub state : SpaceState
  pub leaves : spaces standard_limits m.threads (first_past own) state
  pub mine : AllMine m (first_past own) own
  pub ends : EndsWith (first_thread own) (first_past own)

-- So it is, and that history goes on from what it was at some point before.
pub record Follows (m : Areas) (begun own : List Own) : Type 0 where
  pub goes_on : GoesOn (first_past begun) (first_past own)
  pub settled : IsSettled m own

-- The map has objects of the thread's own making alone.
abbrev pub AreOwn : ℕ → KnownObjects → Type 0
AreOwn t known = (name : Name) → IsKnown known name → name.thread ≡ t

-- The map is a part of the private map of the seat's first thread, and its objects are of that thread's own making.
abbrev pub KnowsOwn : List Own → KnownObjects → Type 0
KnowsOwn own known = KnowsPart own known × AreOwn (first_thread own) known
