-- The pieces of a text between the bytes that part words.
use Rattle.std.specs.Prelude.{ℕ, List}
use Rattle.std.specs.List.{slice_split}
use Rattle.yak_model.specs.Texts.{parts_words}

-- the pieces before, between and after the bytes that part words, some of them empty
unfoldable pub pieces : List ℕ → List (List ℕ)
pieces bytes = slice_split parts_words bytes
