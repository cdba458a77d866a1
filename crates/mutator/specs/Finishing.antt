-- The end of all calls on a heap.
use Rattle.std.specs.Prelude.{◌≡◌, ℕ, List, [], ◌∷◌, ◌++◌}
use mathlib.Core.Option.{some}
use lib.ListN.{get_elem?}
use Rattle.heap_words.specs.Contents.{contents}
use Rattle.yak_model.specs.Continued.{Explains}
use Rattle.safepoint_gate.specs.declared.gate.Gate.{Gate}
use Rattle.safepoint_gate.specs.declared.rule.Own.{Own}
use Rattle.safepoint_gate.specs.declared.rule.View.{View}
use Rattle.safepoint_gate.specs.declared.seats.Away.{Away}
use Rattle.safepoint_gate.specs.Rule.{AllMine}
use Rattle.safepoint_gate.specs.Seats.{IsOf}

-- The seats are all of the gate.
abbrev pub AllOf : Gate → List Away → Type 0
AllOf gate seats = (k : ℕ) (a : Away) → get_elem? seats k ≡ some a → IsOf gate a.seat.table_id a.seat.me.0

-- what all seats know of their threads, in order of seat
abbrev pub owns_of : List Away → List Own
owns_of [] = []
owns_of (a ∷ seats) = a.seat.me.0.own ++ owns_of seats

-- The view has what all seats know of their threads, and nothing else. One history explains the words. It has the entries of each
-- thread as its part, which are those of the thread's seat, and the thread has what it has in the state that the history leaves.
pub record Finishes (v : View) (seats : List Away) : Type 0 where
  pub own : v.own ≡ owns_of seats
  pub explains : Explains v.map (contents v.map v.words) v.history
  pub mine : AllMine v.map v.history v.own
  pub seats_mine : (k : ℕ) (a : Away) → get_elem? seats k ≡ some a → AllMine v.map v.history a.seat.me.0.own
