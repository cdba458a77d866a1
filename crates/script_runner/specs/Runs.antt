-- What running a script gives: one lawful history, the replies to its calls, and a heap.
use Rattle.std.specs.Prelude.{◌≡◌, ℕ, Bool, true, false, List, [], ◌∷◌, ◌++◌, filter, length}
use Rattle.object_layout.specs.declared.replies.Reply.{Reply}
use Rattle.heap_words.specs.declared.map.Areas.{Areas}
use Rattle.heap_words.specs.Contents.{contents}
use Rattle.yak_model.specs.Continued.{AreLawful, PackedIfAsked}
use Rattle.yak_model.specs.Stands.{Stands}
use Rattle.yak_model.specs.Recorded.{Recorded}
use Rattle.yak_model.specs.Graph.{standard_limits}
use Rattle.yak_model.specs.declared.history.Entry.{Entry}
use Rattle.yak_model.specs.declared.history.Entry.TheVariants.{Said, Collected}
use Rattle.yak_model.specs.Lawful.{IsLawful}
use Rattle.yak_model.specs.Spaces.{SpaceState, TurnsAll, spaces}
use Rattle.script_text.specs.declared.scripts.Line.{Line}
use Rattle.script_text.specs.ScriptContents.{Heap}

-- the entry of a history that tells a command line with its reply
abbrev pub said : Line → Reply → Entry
said line reply = Said line.thread line.call reply

-- such entries, of the lines in order with the replies beside them
abbrev pub all_said : List Line → List Reply → List Entry
all_said [] replies = []
all_said (line ∷ lines) [] = []
all_said (line ∷ lines) (reply ∷ replies) = said line reply ∷ all_said lines replies

-- an entry that tells a call, and no collection
abbrev pub is_call : Entry → Bool
is_call (Said thread call reply) = true
is_call (Collected thread) = false

-- the calls of a history, in order, without the collections between them
abbrev pub calls_of : List Entry → List Entry
calls_of history = filter is_call history

-- the map and the words of a heap
pub record Held : Type 0 where
  pub map : Areas
  pub words : List ℕ

-- such a record, from its parts
abbrev pub held_of : Areas → List ℕ → Held
held_of map words = record { map = map; words = words }

-- a heap of so many pages and threads, whose words stand for a state, with its crossing references recorded
pub record IsHeapOf (size : Heap) (held : Held) (state : SpaceState) : Type 0 where
  pub pages : held.map.pages ≡ size.pages
  pub threads : held.map.threads ≡ size.threads
  pub stands : Stands held.map (contents held.map held.words) state
  pub recorded : Recorded held.map (contents held.map held.words) state stands

-- Running the lines on a new heap of this size gave the replies, one for each line, and left the heap: there is one history
-- that a heap of so many pages may make, whose calls are the lines in order with the replies, and the heap's words stand for
-- the state that it leaves, with the references that cross into regions recorded.
pub record IsRun (size : Heap) (lines : List Line) (replies : List Reply) (held : Held) : Type 0 where
  pub each : length replies ≡ length lines
  pub history : List Entry
  pub state : SpaceState
  pub told : calls_of history ≡ all_said lines replies
  pub lawful : IsLawful standard_limits size.threads size.pages history
  pub leaves : spaces standard_limits size.threads history state
  pub heap : IsHeapOf size held state

-- The call of a line had this reply, and led the heap to another: each state that the words stood for, with its crossing
-- references recorded, turns by entries whose one call is the line's to a state that they stand for now. The entries may come
-- after each history that left that state, and after them Control is packed where the last is a collection that was asked for.
pub record RunsLine (line : Line) (reply : Reply) (heap next : Held) : Type 0 where
  pub entries : List Entry
  pub told : calls_of entries ≡ said line reply ∷ []
  pub turns : (state : SpaceState) (stands : Stands heap.map (contents heap.map heap.words) state) → Recorded heap.map (contents heap.map heap.words) state stands → (later : SpaceState) × TurnsAll state entries later × (after : Stands next.map (contents next.map next.words) later) × Recorded next.map (contents next.map next.words) later after
  pub lawful : (state : SpaceState) (stands : Stands heap.map (contents heap.map heap.words) state) → Recorded heap.map (contents heap.map heap.words) state stands → (before : List Entry) → PackedIfAsked heap.map (contents heap.map heap.words) state stands before → AreLawful heap.map.pages before state entries
  pub packed : (before : List Entry) (state : SpaceState) (stands : Stands next.map (contents next.map next.words) state) → PackedIfAsked next.map (contents next.map next.words) state stands (before ++ entries)
