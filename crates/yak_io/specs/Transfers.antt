-- What a whole input and a whole output are, where the outside tells its bytes.
use Rattle.std.specs.Prelude.{◌≡◌, ℕ, ◌≤◌, List, length, take, Option, IfSome}
use Rattle.std.specs.Io.KnownBytes.{Appends, IsAtEnd}

-- the bytes are all that was left, and nothing is left
pub record TookAll (before after : Option (List ℕ)) (bytes : List ℕ) : Type 0 where
  pub all : IfSome before (λ told. bytes ≡ told)
  pub ended : IsAtEnd after

-- a front of the bytes was appended
abbrev pub TookFront : Option (List ℕ) → Option (List ℕ) → List ℕ → Type 0
TookFront before after bytes = (count : ℕ) × (count ≤ length bytes) × Appends before after (take count bytes)
