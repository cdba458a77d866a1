-- Seats of threads of which no call is in flight.
use Rattle.std.proofs.Common.{◌≡◌, zero, suc, List, [], ◌∷◌, length, refl, sym, ap, subst, arith}
use mathlib.Core.Option.{some-ne-none, some-injective}
use Rattle.calls_in_flight.specs.declared.notes.Known.{Known}
use Rattle.calls_in_flight.specs.Flight.{at_rest}
use Rattle.safepoint_gate.specs.declared.rule.Own.{Own}
use Rattle.safepoint_gate.specs.declared.rule.View.{View}
use Rattle.safepoint_gate.specs.Rule.{AllRest}
use Rattle.safepoint_gate.specs.Singles.{IsQuiet, actor_in}
use Rattle.safepoint_gate.specs.Steps.{first_thread}

pub rest_first : (own : List Own) (lasting : List Known) → AllRest own → (actor_in own lasting).flight ≡ at_rest (first_thread own)
rest_first [] lasting rests = refl
rest_first (o ∷ own) lasting rests = rests 0 o refl

-- the one thread of a seat
pub quiet_rest : (v : View) → length v.own ≡ 1 → IsQuiet v → AllRest v.own
quiet_rest v single idle = one v.own single idle
  where
    one : (own : List Own) → length own ≡ 1 → (actor_in own v.lasting).flight ≡ at_rest (first_thread own) → AllRest own
    one [] single idle k o at = absurd (some-ne-none o (sym at))
    one (x ∷ []) single idle zero o at = subst (λ (y : Own). y.flight ≡ at_rest y.thread) (some-injective x o at) idle
    one (x ∷ []) single idle (suc k) o at = absurd (some-ne-none o (sym at))
    one (x ∷ y ∷ own) single idle k o at = absurd (omega arith)

-- a seat at another place, with the same threads
pub same_quiet : (v w : View) → w.own ≡ v.own → IsQuiet v → IsQuiet w
same_quiet v w own idle = actor_flight w.own v.own w.lasting v.lasting own idle
  where
    actor_flight : (a b : List Own) (k l : List Known) → a ≡ b → (actor_in b l).flight ≡ at_rest (first_thread b) → (actor_in a k).flight ≡ at_rest (first_thread a)
    actor_flight [] [] k l e idle = refl
    actor_flight [] (y ∷ b) k l e idle = refl
    actor_flight (x ∷ a) [] k l e idle = absurd (let z = ap (λ (xs : List Own). length xs) e in omega arith)
    actor_flight (x ∷ a) (y ∷ b) k l e idle = let first : x ≡ y = cc in subst (λ (z : Own). z.flight ≡ at_rest z.thread) (sym first) idle
