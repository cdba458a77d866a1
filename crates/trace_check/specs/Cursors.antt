-- The next line of each thread.
use Rattle.std.specs.Prelude.{◌≡◌, ◌<◌, ◌≤◌, ◌+◌, ℕ, List, ◌++◌, drop, length, slice_index, slice_index_or}
use Rattle.object_layout.specs.declared.calls.Call.TheVariants.{Int}
use Rattle.script_text.specs.declared.scripts.Line.{Line}
use Rattle.trace_check.specs.declared.traces.Entry.{Entry}
use Rattle.trace_check.specs.Traces.{all_named, own}

-- stands for no line
abbrev pub no_line : Line
no_line = record { number = 0; thread = 0; call = Int 0 }

-- the line at a place of the list
abbrev pub line_at : List Line → ℕ → Line
line_at lines i = slice_index_or lines i no_line

-- a place that is the end of the list or that of a line of the thread
pub record IsNextPlace (lines : List Line) (thread place : ℕ) : Type 0 where
  pub within : place ≤ length lines
  pub own_line : place < length lines → (line_at lines place).thread ≡ thread

-- the cursors point at the next line of each thread, the first thread first: its lines are those that the entries name and those
-- from its cursor on
pub record PointAtNext (lines : List Line) (threads : ℕ) (before : List Entry) (cursors : List ℕ) : Type 0 where
  pub count : length cursors ≡ threads
  pub places : (i : ℕ) → i < threads → IsNextPlace lines (i + 1) (slice_index cursors i)
  pub split : (i : ℕ) → i < threads → own (i + 1) lines ≡ own (i + 1) (all_named lines before) ++ own (i + 1) (drop (slice_index cursors i) lines)
