-- What a call of a thread does to the heap.
use Rattle.std.specs.Prelude.{◌≡◌, ◌⊎◌, ℕ, ◌<◌, [], ◌∷◌, ◌++◌, length, Some}
use Rattle.object_layout.specs.declared.names.Name.{Name}
use Rattle.object_layout.specs.declared.calls.Call.{Call}
use Rattle.object_layout.specs.declared.calls.Call.TheVariants.{Get, Same, Census}
use Rattle.object_layout.specs.declared.replies.Reply.{Reply}
use Rattle.object_layout.specs.declared.replies.Reply.TheVariants.{Ok, Refused}
use Rattle.object_layout.specs.declared.replies.Refusal.{Refusal}
use Rattle.object_layout.specs.declared.replies.Refusal.TheVariants.{StackFull}
use Rattle.heap_words.specs.declared.map.Areas.{Areas}
use Rattle.heap_words.specs.declared.TheConstants.{STACK_SLOTS}
use Rattle.heap_words.specs.Contents.{Contents, stack_of, with_stack}
use Rattle.yak_model.specs.declared.history.Entry.TheVariants.{Said}
use Rattle.yak_model.specs.Spaces.{SpaceState}
use Rattle.yak_model.specs.State.{State, Thing, view}
use Rattle.yak_model.specs.Stands.{Stands}
use Rattle.yak_model.specs.Continued.{TurnsTo}
use Rattle.standing_calls.specs.Room.{TakesRoom}
use Rattle.standing_calls.specs.Records.{Records}

-- The call only shows something.
abbrev pub OnlyShows : Call → Type 0
OnlyShows (Get s) = Unit {0}
OnlyShows (Same s x) = Unit {0}
OnlyShows Census = Unit {0}
OnlyShows asked = ⊥

-- The call only shows something, or is refused.
abbrev pub IsIdle : Call → Reply → Type 0
IsIdle asked said = OnlyShows asked ⊎ ((why : Refusal) × (said ≡ Refused why))

-- The objects that were present still are, in their spaces, where they stood and with as many fields.
pub record KeepsPlaces (was : State) (at : Name → ℕ) (now : State) (to : Name → ℕ) : Type 0 where
  pub kept : (n : Name) (o : Thing) → was.objects n ≡ Some o → (p : Thing) × (now.objects n ≡ Some p) × (p.home ≡ o.home) × (length p.fields ≡ length o.fields) × (to n ≡ at n)

-- Each state that the words stood for turns, by a call with its reply, to one that they stand for now, and the call takes
-- the room and records the slots and readers that it has to. No object goes or moves. Where it is refused or only shows something, nothing changes.
pub record Turned (m : Areas) (was now : Contents) (thread : ℕ) (asked : Call) (said : Reply) : Type 0 where
  pub turns : (s : SpaceState) (h : Stands m was s) → TurnsTo m was now s h (Said thread asked said ∷ [])
  pub kept : (s : SpaceState) (h : Stands m was s) → KeepsPlaces (view s) h.places.at (view (turns s h).0) (turns s h).2.places.at
  pub room : TakesRoom m was now thread asked said
  pub records : (s : SpaceState) (h : Stands m was s) → Records m s h.places.at was now thread asked said
  pub idle : IsIdle asked said → now ≡ was

-- A word was put on a thread's stack, or the stack was full and nothing has changed.
abbrev pub IsPushed : Contents → Contents → ℕ → ℕ → Reply → Type 0
IsPushed was now thread word reply =
    ((length (stack_of was thread) < STACK_SLOTS) × (reply ≡ Ok) × (now ≡ with_stack was thread (stack_of was thread ++ word ∷ [])))
    ⊎ ((length (stack_of was thread) ≡ STACK_SLOTS) × (reply ≡ Refused StackFull) × (now ≡ was))
