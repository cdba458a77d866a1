-- The next line of those that are left.
use Rattle.std.proofs.Common.{◌≡◌, ℕ, ◌+◌, ◌<◌, List, [], ◌∷◌, length, get_or, drop, add-one, sym, ◌∙◌}
use Rattle.std.proofs.Math.Seq.{drop-cons}

module _ (all : List (List ℕ)) (n : ℕ) (lt : n < length all) (line : List ℕ) (rest left : List (List ℕ)) (is : left ≡ line ∷ rest) (was : left ≡ drop n all) where
  both : line ∷ rest ≡ get_or all n [] ∷ drop (n + 1) all
  both = sym is ∙ was ∙ rw add-one (drop-cons all n [] lt)

  pub rest_is : rest ≡ drop (n + 1) all
  rest_is = cc both

  pub line_is : line ≡ get_or all n []
  line_is = cc both
