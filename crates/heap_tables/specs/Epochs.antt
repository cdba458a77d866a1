-- What calls of a caller leave that may begin and end epochs.
use Rattle.std.specs.Prelude.{◌≡◌, ℕ, ◌≤◌, Bool, List, [], ◌∷◌, ◌++◌, Option, None, Some}
use Rattle.object_layout.specs.declared.calls.Call.TheVariants as call
use Rattle.object_layout.specs.declared.replies.Reply.TheVariants as reply
use Rattle.yak_model.specs.Graph.{Thread}
use Rattle.yak_model.specs.declared.history.Entry.{Entry}
use Rattle.yak_model.specs.declared.history.Entry.TheVariants.{Said}
use Rattle.yak_model.specs.Private.{KnownObjects}
use Rattle.yak_model.specs.Standing.{Standing, Stays, counted_on, entries_of}
use Rattle.heap_tables.specs.Runs.{IsQuiet}

-- ---- own lists

-- The own list, where it is told, grew by entries of this kind.
abbrev pub GrowsBy : (List Entry → Type 0) → Option (List Entry) → Option (List Entry) → Type 0
GrowsBy kind None after = after ≡ None
GrowsBy kind (Some list) after = (more : List Entry) × (after ≡ Some (list ++ more)) × kind more

-- The thread began an epoch.
abbrev pub IsBegun : ℕ → List Entry → Type 0
IsBegun t more = more ≡ Said t call.Begin reply.Ok ∷ []

-- The thread ended an epoch, after a collection that the call made or not.
abbrev pub IsEnd : ℕ → List Entry → Type 0
IsEnd t more = (collected : Bool) × (moved : ℕ) × (tight : Bool) × (more ≡ entries_of collected t call.End (reply.Ended moved tight))

-- ---- what is counted

-- Objects of so many words were made between, which is at most this number. The number of words is one that is stored, which
-- stands at its last value.
pub record Makes (s after : Standing) (words most : ℕ) : Type 0 where
  pub thread : after.thread ≡ s.thread
  pub limits : after.limits ≡ s.limits
  pub counted : counted_on after.words 0 ≡ counted_on s.words words
  pub within : words ≤ most

-- Calls were made between, whose objects have at most so many words, and none was refused for want of room.
pub record Went {S B : Type 0} (base : S → B) (tells : S → ℕ → Thread → Type 0) (tells_known : S → ℕ → KnownObjects → Type 0) (standing : S → Standing) (s after : S) (most : ℕ) : Type 0 where
  pub words : ℕ
  pub stays : Stays base tells tells_known s after
  pub makes : Makes (standing s) (standing after) words most
  pub quiet : IsQuiet (standing s) (standing after)
