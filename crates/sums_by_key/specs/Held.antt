-- A table of sums in the objects that a caller knows.
use Rattle.std.specs.Prelude.{◌≡◌, ◌+◌, ◌≤◌, ◌∷◌, [], ℕ, List, length}
use Rattle.std.specs.List.{All}
use Rattle.object_layout.specs.declared.names.Name.{Name}
use Rattle.object_layout.specs.declared.TheConstants.{MAX_INT, WORD_LIMIT}
use Rattle.yak_model.specs.declared.datum.Datum.TheVariants as datum
use Rattle.std.specs.FinMap as finite
use Rattle.yak_model.specs.Graph.{Thread}
use Rattle.yak_model.specs.Names.{root_name}
use Rattle.yak_model.specs.Private.{KnownObjects}
use Rattle.yak_model.specs.Standing.{Standing}
use Rattle.yak_model.specs.Tables.{IsCountTable}
use Rattle.yak_model.specs.Texts.{WordCounts}
use Rattle.heap_tables.specs.Runs.{slot_in}
use Rattle.sums_by_key.specs.Sums.{AreSums, total_of}
use Rattle.sums_by_key.specs.declared.lines.Line.{Line}
use Rattle.sums_by_key.specs.declared.TheConstants.{MOST_LINES, TABLE_SLOT}

-- The slot of the table refers to one of a known map, whose counts are the sums of the lines.
pub record Holds (s : Standing) (known : KnownObjects) (lines : List Line) : Type 0 where
  pub name : Name
  pub slot : slot_in s TABLE_SLOT ≡ datum.Object name
  pub sums : WordCounts
  pub are_sums : AreSums lines sums
  pub table : IsCountTable known name sums

abbrev pub HoldsSums : Standing → (KnownObjects → Type 0) → List Line → Type 0
HoldsSums s knows lines = (known : KnownObjects) × knows known × Holds s known lines

-- The lines can be summed up: they are few, their keys are short, and their sum isn't too large.
pub record AreSummable (lines : List Line) : Type 0 where
  pub few : length lines ≤ MOST_LINES
  pub short : All (λ line. length line.key.now ≤ WORD_LIMIT) lines
  pub small : total_of lines ≤ MAX_INT

-- what a thread has whose stack refers to the root alone
abbrev pub opening_own : Thread
opening_own = record { stack = datum.Object root_name ∷ []; depth = 0; made = 0 }

-- The list has the sums of the lines, in ascending order of their keys.
pub record AreListed (lines : List Line) (list : List (List ℕ × ℕ)) : Type 0 where
  pub sums : WordCounts
  pub are_sums : AreSums lines sums
  pub listed : list ≡ finite.entries sums

-- The thread has a table beside the root, has no epoch open, and has made nothing else.
pub record Opened (own : Thread) : Type 0 where
  pub slots : length own.stack ≡ TABLE_SLOT + 1
  pub depth : own.depth ≡ 0
  pub made : own.made ≡ 1
