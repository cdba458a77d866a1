-- How many words the moved objects have.
use Rattle.std.specs.Prelude.{ℕ, ◌+◌, List, zero, suc}
use Rattle.yak_model.specs.Plans.{Move}
use Rattle.relocation.specs.Moves.{size_at}

-- The number of words of the objects at the new places of the first moves.
unfoldable pub words_brought : List ℕ → ℕ → (ℕ → Move) → ℕ
words_brought heap zero moves = 0
words_brought heap (suc k) moves = words_brought heap k moves + size_at heap (moves k).new
