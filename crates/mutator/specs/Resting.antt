-- Mutators of threads that are away.
use Rattle.std.specs.Prelude.{◌≡◌, ℕ, List, map, length}
use mathlib.Core.Option.{some}
use lib.ListN.{get_elem?}
use Rattle.safepoint_gate.specs.declared.seats.Away.{Away}
use Rattle.mutator.specs.declared.resting.Resting.{Resting}

-- the seats of resting mutators
abbrev pub seats_of : List Resting → List Away
seats_of all = map (λ (r : Resting). r.away) all

-- Each seat stands for one thread.
abbrev pub AllSingle : List Away → Type 0
AllSingle seats = (k : ℕ) (a : Away) → get_elem? seats k ≡ some a → length a.seat.me.0.own ≡ 1
