-- The sums of numbers by key.
use Rattle.std.specs.Prelude.{◌≡◌, ◌++◌, ◌∷◌, ℕ, Bool, List, Some, None, cond, sum_by, decimal}
use Rattle.std.specs.List.{list_any}
use Rattle.std.specs.FinMap as finite
use Rattle.std.specs.Ordering.{eq_by_cmp}
use Rattle.yak_model.specs.Texts.{WordCounts, word_cmp}
use Rattle.sums_by_key.specs.declared.lines.Line.{Line}

-- whether a line has the key, and what it adds to the key's sum
abbrev pub is_of : List ℕ → Line → Bool
is_of key line = eq_by_cmp word_cmp key line.key.now

abbrev pub share_of : List ℕ → Line → ℕ
share_of key line = cond (is_of key line) line.number 0

-- the sum of the numbers of the lines of a key
abbrev pub sum_of : List Line → List ℕ → ℕ
sum_of lines key = sum_by (share_of key) lines

-- The map has the keys of the lines, each with the sum of the numbers of its lines.
abbrev pub AreSums : List Line → WordCounts → Type 0
AreSums lines sums =
    (key : List ℕ) → finite.get sums key ≡ cond (list_any (is_of key) lines) (Some (sum_of lines key)) None

-- the sum of all numbers
abbrev pub total_of : List Line → ℕ
total_of lines = sum_by (λ line. line.number) lines

-- the text of a line: its key, a space and its number
abbrev pub line_text : Line → List ℕ
line_text line = line.key.now ++ 32 ∷ decimal line.number
