-- What is kept of a heap.
use Rattle.std.specs.Prelude.{ℕ, List}
use Rattle.heap_words.specs.declared.memory.Image.{Image}
use Rattle.safepoint_gate.specs.declared.rule.View.{View}
use Rattle.yak.specs.declared.plain.KeptHeap.{KeptHeap}
use Rattle.yak.specs.declared.plain.KeptHeap.TheVariants.{Nothing, Alone, Shared}
use Rattle.script_runner.specs.Runs.{Held, held_of}

-- no heap, one with this map and these words, or one whose threads have finished and left words of this view
pub data Keeping : Type 0 where
  nothing : Keeping
  alone : Held → Keeping
  shared : View → Keeping

-- what is kept, where words of images are these
abbrev pub kept_by : (Image → List ℕ) → KeptHeap → Keeping
kept_by words_of Nothing = nothing
kept_by words_of (Alone core) = alone (held_of core.map (words_of core.words))
kept_by words_of (Shared finished) = shared finished.seat.me.0
