-- What one thread's way to a shared heap tells.
use Rattle.std.specs.Prelude.{◌≡◌, ℕ, List, [], ◌∷◌, ◌++◌, Bool, Option, Some}
use Rattle.object_layout.specs.declared.calls.Call.{Call}
use Rattle.object_layout.specs.declared.replies.Census.{Census}
use Rattle.object_layout.specs.declared.replies.Reply.{Reply}
use Rattle.heap_words.specs.declared.map.Areas.{Areas}
use Rattle.yak_model.specs.declared.history.Entry.{Entry}
use Rattle.yak_model.specs.Graph.{Thread, idle, standard_limits}
use Rattle.yak_model.specs.Private.{FitPages, IsPart, KnownObjects}
use Rattle.yak_model.specs.Spaces.{SpaceState, spaces}
use Rattle.yak_model.specs.Standing.{Standing, entries_of}
use Rattle.safepoint_gate.specs.declared.rule.Own.{Own}
use Rattle.safepoint_gate.specs.Rule.{AllMine, GoesOn, thread_told}
use Rattle.safepoint_gate.specs.Steps.{first_calls, first_known, first_thread}

-- what the seat's first thread has
abbrev pub first_told : List Own → Thread
first_told [] = idle
first_told (o ∷ own) = thread_told o

-- what a caller counts, and what its own thread has, with its entries
abbrev pub standing_shared : List Own → ℕ → ℕ → Option (Census × ℕ × ℕ) → Standing
standing_shared own made refusals last =
    record {
      thread = first_thread own;
      limits = standard_limits;
      own = first_told own;
      words = made;
      list = Some (first_calls own);
      refusals = refusals;
      last = last;
    }

-- The map is a part of the private map of the seat's first thread, and its objects fit pages.
abbrev pub KnowsPart : List Own → KnownObjects → Type 0
KnowsPart own known = IsPart (first_known own) known × FitPages standard_limits known

-- the history as it was after the last call of the seat's first thread
abbrev pub first_past : List Own → List Entry
first_past [] = []
first_past (o ∷ own) = o.past

-- Where a call of the seat's first thread stands in the one history: its entries end a history that goes on from that after the
-- thread's call before, and leaves a state. The thread's entries are its part of that history, and it has what it has, and alone
-- knows what it knows, in the state that the history leaves.
pub record IsAtEnd (m : Areas) (was now : List Own) (asked : Call) (said : Reply) : Type 0 where
  pub before : List Entry
  pub collected : Bool
  pub goes_on : GoesOn (first_past was) before
  pub calls : first_calls now ≡ first_calls was ++ entries_of collected (first_thread was) asked said
  pub past : first_past now ≡ before ++ entries_of collected (first_thread was) asked said
  pub state : SpaceState
  pub leaves : spaces standard_limits m.threads (first_past now) state
  pub mine : AllMine m (first_past now) now
