-- The workers of a run, in order of thread.
use Rattle.std.specs.Prelude.{◌≡◌, ℕ, ◌+◌, ◌-◌, ◌<◌, List, length, slice_index_or, Some, IsSome}
use Rattle.object_layout.specs.declared.replies.Reply.{Reply}
use Rattle.safepoint_gate.specs.declared.seats.Away.{Away}
use Rattle.mutator.specs.declared.resting.Resting.{Resting}
use Rattle.safepoint_gate.specs.declared.gate.Gate.{Gate}
use Rattle.script_text.specs.declared.scripts.Line.{Line}
use Rattle.script_runner.specs.declared.workers.Worker.{Worker}
use Rattle.script_runner.specs.Threaded.{HasRun, IsReady}

-- Each worker is of the thread of its place, and ready.
abbrev pub AllReady : Gate → ℕ → List Worker → Type 0
AllReady gate count workers = (k : ℕ) (d : Worker) → k < length workers → let w = slice_index_or workers k d in (w.thread ≡ k + 1) × IsReady gate (k + 1) count w.resting w.replies.items

-- Each worker is of the thread of its place, and has run.
abbrev pub AllRan : Gate → List Line → List Worker → Type 0
AllRan gate lines workers = (k : ℕ) (d : Worker) → k < length workers → let w = slice_index_or workers k d in HasRun gate (k + 1) lines w.resting w.replies.items

-- Each worker has its way to the heap.
abbrev pub AllThere : List Worker → Type 0
AllThere workers = (k : ℕ) (d : Worker) → k < length workers → IsSome (slice_index_or workers k d).resting

-- The seats are those of the workers, in order.
abbrev pub AreSeats : List Worker → List Away → Type 0
AreSeats workers seats = (k : ℕ) (d : Worker) (a : Away) → k < length workers → (resting : Resting) × ((slice_index_or workers k d).resting ≡ Some resting) × (slice_index_or seats k a ≡ resting.away)

-- The reply to each line is that which the worker of its thread has at the line's place.
abbrev pub AreGathered : List Line → List Worker → List Reply → Type 0
AreGathered lines workers replies = (i : ℕ) (l : Line) (d : Worker) (r : Reply) → i < length lines → slice_index_or replies i r ≡ slice_index_or (slice_index_or workers ((slice_index_or lines i l).thread - 1) d).replies.items i r
