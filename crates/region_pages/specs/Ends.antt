-- Up to which page there are pages in use.
use Rattle.std.specs.Prelude.{ℕ, zero, suc, ◌==◌, cond, List}
use Rattle.yak_model.specs.Placed.{space_word}

-- The number of pages up to the last one of the first n that isn't free, and 0 where all of them are free.
abbrev pub used_end : List (List ℕ) → ℕ → ℕ
used_end table zero = 0
used_end table (suc n) = cond (space_word table n == 0) (used_end table n) (suc n)
