-- What running a line tells.
use Rattle.std.specs.Prelude.{◌≡◌, ℕ, Bool, cond, List, [], ◌∷◌, ◌++◌}
use Rattle.object_layout.specs.declared.replies.Reply.{Reply}
use Rattle.heap_words.specs.declared.map.Areas.{Areas}
use Rattle.heap_words.specs.Contents.{contents}
use Rattle.yak_model.specs.Continued.{AreLawful, PackedIfAsked}
use Rattle.yak_model.specs.declared.history.Entry as history
use Rattle.yak_model.specs.declared.history.Entry.TheVariants as happened
use Rattle.yak_model.specs.Recorded.{Recorded}
use Rattle.yak_model.specs.Spaces.{SpaceState, TurnsAll}
use Rattle.yak_model.specs.Stands.{Stands}
use Rattle.script_text.specs.declared.scripts.Line.{Line}
use Rattle.trace_check.specs.declared.traces.Entry.{Entry}
use Rattle.trace_check.specs.declared.traces.Entry.TheVariants as entry

-- the map and the words of a heap
pub record Held : Type 0 where
  pub map : Areas
  pub words : List ℕ

-- such a record, from its parts
abbrev pub held_of : Areas → List ℕ → Held
held_of map words = record { map = map; words = words }

-- the entries of a line's call with its reply, after a collection where it made one
abbrev pub step_entries : Line → Bool → Reply → List Entry
step_entries line collected reply = cond collected (entry.Collected line.thread ∷ entry.Said line.number reply ∷ []) (entry.Said line.number reply ∷ [])

-- what such entries tell of the history
abbrev pub step_history : Line → Bool → Reply → List history.Entry
step_history line collected reply =
    cond collected (happened.Collected line.thread ∷ happened.Said line.thread line.call reply ∷ []) (happened.Said line.thread line.call reply ∷ [])

-- The call of a line was told behind the other entries, and led the heap to another: each state that the words stood for, with
-- its crossing references recorded, turns by what was told to a state that they stand for now. It may come after each history
-- that left that state, and after it Control is packed where the last is a collection that was asked for.
pub record TracesLine (line : Line) (heap next : Held) (before after : List Entry) : Type 0 where
  pub collected : Bool
  pub reply : Reply
  pub told : after ≡ before ++ step_entries line collected reply
  pub turns : (state : SpaceState) (stands : Stands heap.map (contents heap.map heap.words) state) → Recorded heap.map (contents heap.map heap.words) state stands → (later : SpaceState) × TurnsAll state (step_history line collected reply) later × (stood : Stands next.map (contents next.map next.words) later) × Recorded next.map (contents next.map next.words) later stood
  pub lawful : (state : SpaceState) (stands : Stands heap.map (contents heap.map heap.words) state) → Recorded heap.map (contents heap.map heap.words) state stands → (former : List history.Entry) → PackedIfAsked heap.map (contents heap.map heap.words) state stands former → AreLawful heap.map.pages former state (step_history line collected reply)
  pub packed : (former : List history.Entry) (state : SpaceState) (stands : Stands next.map (contents next.map next.words) state) → PackedIfAsked next.map (contents next.map next.words) state stands (former ++ step_history line collected reply)
