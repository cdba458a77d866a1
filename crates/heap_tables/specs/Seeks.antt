-- What is left in a table on the way to a place in one of its chains.
use Rattle.std.specs.Prelude.{ℕ, List, [], ◌∷◌}
use Rattle.object_layout.specs.declared.names.Name.{Name}
use Rattle.yak_model.specs.declared.datum.Datum.{Datum}
use Rattle.yak_model.specs.declared.datum.Datum.TheVariants as datum
use Rattle.yak_model.specs.Private.{KnownObjects}
use Rattle.yak_model.specs.Tables.{Link, IsChain}
use Rattle.heap_tables.specs.Walks.{with_place}

-- a reference to the first entry of the links, null if there is none
abbrev pub first_of : List Link → Datum
first_of [] = datum.Null
first_of (link ∷ links) = datum.Object link.entry

-- The rest of a chain is in the table's bucket.
pub record IsSkipped (known : KnownObjects) (name : Name) (values : List Datum) (b : ℕ) (rest : List Link) (knows : KnownObjects → Type 0) : Type 0 where
  pub place : Datum
  pub chain : IsChain (with_place known name values b place) place rest
  pub known_now : knows (with_place known name values b place)
