-- What running a script in threads gives: one lawful history, the replies to its calls, and a heap.
use Rattle.std.specs.Prelude.{◌≡◌, ℕ, ◌+◌, List, [], length, Option, None, Some}
use mathlib.Core.Option.{some}
use lib.ListN.{get_elem?}
use Rattle.object_layout.specs.declared.replies.Reply.{Reply}
use Rattle.heap_words.specs.Map.{HasThread}
use Rattle.heap_words.specs.Contents.{contents}
use Rattle.yak_model.specs.Continued.{Explains}
use Rattle.yak_model.specs.History.{part}
use Rattle.safepoint_gate.specs.declared.gate.Gate.{Gate}
use Rattle.safepoint_gate.specs.declared.rule.Own.{Own}
use Rattle.safepoint_gate.specs.declared.rule.View.{View}
use Rattle.safepoint_gate.specs.declared.seats.Away.{Away}
use Rattle.safepoint_gate.specs.Rule.{AllMine}
use Rattle.safepoint_gate.specs.Seats.{IsOf}
use Rattle.safepoint_gate.specs.Steps.{first_calls}
use Rattle.mutator.specs.declared.resting.Resting.{Resting}
use Rattle.script_text.specs.declared.scripts.Line.{Line}
use Rattle.script_text.specs.ScriptContents.{Heap}
use Rattle.script_runner.specs.Runs.{all_said, calls_of}

-- Each of so many threads stands in the list once, in order of thread.
pub record HasEach (threads : ℕ) (own : List Own) : Type 0 where
  pub count : length own ≡ threads
  pub order : (k : ℕ) (o : Own) → get_elem? own k ≡ some o → o.thread ≡ k + 1

-- Running the lines in threads on a new heap of this size gave the replies, one for each line, and left words of this view, which
-- has each thread of the heap once: one history that a heap of so many pages may make explains them, the calls of each thread in it
-- are the lines of the thread in order with the replies, and each thread has what it has in the state that the history leaves.
pub record IsThreaded (size : Heap) (lines : List Line) (replies : List Reply) (v : View) : Type 0 where
  pub each : length replies ≡ length lines
  pub pages : v.map.pages ≡ size.pages
  pub threads : v.map.threads ≡ size.threads
  pub every : HasEach v.map.threads v.own
  pub told : (t : ℕ) → HasThread v.map t → calls_of (part v.history t) ≡ part (all_said lines replies) t
  pub explains : Explains v.map (contents v.map v.words) v.history
  pub mine : AllMine v.map v.history v.own

-- The seat is of the gate, and its thread, which has this number, has made the calls of its lines with these replies.
pub record HasMade (gate : Gate) (t : ℕ) (lines : List Line) (replies : List Reply) (a : Away) : Type 0 where
  pub gate_is : IsOf gate a.seat.table_id a.seat.me.0
  pub thread : a.thread ≡ t
  pub told : calls_of (first_calls a.seat.me.0.own) ≡ part (all_said lines replies) t

-- A worker of a thread is there, has made no call, and has room for a reply to each line.
abbrev pub IsReady : Gate → ℕ → ℕ → Option Resting → List Reply → Type 0
IsReady gate t count None replies = ⊥
IsReady gate t count (Some resting) replies = HasMade gate t [] [] resting.away × (length replies ≡ count)

-- It has made the calls of its lines.
abbrev pub HasRun : Gate → ℕ → List Line → Option Resting → List Reply → Type 0
HasRun gate t lines None replies = ⊥
HasRun gate t lines (Some resting) replies = HasMade gate t lines replies resting.away × (length replies ≡ length lines)
