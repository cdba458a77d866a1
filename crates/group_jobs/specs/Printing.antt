-- The text of counts.
use Rattle.std.specs.Prelude.{ℕ, List, ◌++◌, codes, decimal}

-- a word's count, a space, the word and a line feed
abbrev pub count_line : List ℕ × ℕ → List ℕ
count_line counted = decimal counted.1 ++ codes " " ++ counted.0 ++ codes "\n"
