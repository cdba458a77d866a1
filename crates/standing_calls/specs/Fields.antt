-- The fields of the object that a stack slot refers to.
use Rattle.std.specs.Prelude.{◌≡◌, ℕ, ◌+◌, ◌<◌, not, [], ◌∷◌, length, Option, Some, None}
use Rattle.object_layout.specs.declared.names.Name.{Name}
use Rattle.object_layout.specs.declared.replies.Refusal.{Refusal}
use Rattle.object_layout.specs.declared.replies.Refusal.TheVariants.{BadSlot, NotAReference, BadField}
use Rattle.object_layout.specs.declared.TheConstants.{OBJECT_WORDS}
use Rattle.yak_model.specs.declared.datum.Datum.TheVariants.{Object}
use Rattle.yak_model.specs.Graph.{Graph, first_refusal, is_bad_field, is_bad_slot, is_reference, slot_of}
use Rattle.yak_model.specs.Spaces.{SpaceState}
use Rattle.yak_model.specs.State.{Thing, object_of}

-- Why field f of the object of slot s can't be reached, if it can't.
abbrev pub no_field : Graph → ℕ → ℕ → ℕ → Option Refusal
no_field g t s f =
    first_refusal (
    (is_bad_slot g t s, BadSlot)
    ∷ (not (is_reference (slot_of g t s)), NotAReference)
    ∷ (is_bad_field g t s f, BadField)
    ∷ [])

-- A heap word is field f of the object of slot s, where `at` gives the address of each name.
pub record IsFieldOf (state : SpaceState) (at : Name → ℕ) (t s f a : ℕ) : Type 0 where
  pub reached : no_field state.graph t s f ≡ None
  pub name : Name
  pub thing : Thing
  pub refers : slot_of state.graph t s ≡ Object name
  pub present : object_of state name ≡ Some thing
  pub within : f < length thing.fields
  pub place : a ≡ at name + OBJECT_WORDS + f
