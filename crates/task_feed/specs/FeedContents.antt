-- What a feed tells in the end.
use Rattle.std.specs.Prelude.{ℕ, List, Vec, map}
use Rattle.std.specs.declared.alloc.Global.{Global}

-- which tasks each taker took, and which nobody took
pub record FeedContents : Type 0 where
  pub rows : List (List ℕ)
  pub left : List ℕ

-- the rows, as lists
abbrev pub lists_in : List (Vec ℕ Global) → List (List ℕ)
lists_in rows = map (λ (row : Vec ℕ Global). row.items) rows
