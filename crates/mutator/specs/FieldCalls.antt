-- What the calls that load or store a field show of it.
use Rattle.std.specs.Prelude.{◌≡◌, ◌⊎◌, ℕ, ◌<◌, List}
use Rattle.object_layout.specs.declared.calls.Call.{Call}
use Rattle.object_layout.specs.declared.calls.Call.TheVariants.{Load, Store}
use Rattle.object_layout.specs.declared.headers.Header.{Header}
use Rattle.calls_in_flight.specs.declared.notes.Known.{Known}
use Rattle.calls_in_flight.specs.Actors.{HasHeader, HasMet, RefersTo}
use Rattle.safepoint_gate.specs.declared.rule.View.{View}
use Rattle.safepoint_gate.specs.Singles.{IsSo, actor}
use Rattle.barriers.specs.Barred.{OnlyLoads}

-- The call loads or stores field f of the object of slot s. Where it stores one, the slot of the value is there too.
abbrev pub ReachesField : ℕ → ℕ → ℕ → Call → Type 0
ReachesField slots s f asked = (asked ≡ Load s f) ⊎ ((x : ℕ) × (x < slots) × (asked ≡ Store s f x))

-- The thread has loaded the header of an object, to which slot s refers, and which has field f. What it had met it still has.
pub record FindsField (v : View) (s f at : ℕ) (w : View) : Type 0 where
  pub more : List Known
  pub lasting : List Known
  pub view : OnlyLoads v more lasting w
  pub so : IsSo w
  pub kept : (place word : ℕ) → HasMet (actor v) place word → HasMet (actor w) place word
  pub refers : RefersTo w.map (actor w) s at
  pub header : Header
  pub has : HasHeader w.map (actor w) at header
  pub below : f < header.fields
