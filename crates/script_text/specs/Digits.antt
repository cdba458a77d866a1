-- How the text of a number begins.
use Rattle.std.specs.Prelude.{ℕ, ◌≡◌, ◌≢◌, List, length, slice_index}

-- a text begins with no plus sign, and with a zero only where that is all of it
abbrev pub BeginsPlainly : List ℕ → Type 0
BeginsPlainly text = (slice_index text 0 ≢ 43) × (slice_index text 0 ≡ 48 → length text ≡ 1)
