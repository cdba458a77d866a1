-- What is written for a text.
use Rattle.std.specs.Prelude.{◌≡◌, ℕ, List, map}
use Rattle.std.specs.List.{flat_map}
use Rattle.script_text.specs.Words as text
use Rattle.group_jobs.specs.Printing.{count_line}
use Rattle.sums_by_key.specs.Held.{AreListed}
use Rattle.sums_by_key.specs.Sums.{line_text}
use Rattle.sums_by_key.specs.declared.lines.Line.{Line}

-- The lines of the text are a key and a number each, and what is written has the sums of these numbers by key, in ascending
-- order of the keys, one line for each key.
pub record PrintsSums (bytes written : List ℕ) : Type 0 where
  pub lines : List Line
  pub read : text.lines bytes ≡ map line_text lines
  pub sums : List (List ℕ × ℕ)
  pub are_sums : AreListed lines sums
  pub printed : written ≡ flat_map count_line sums
