-- Maps of objects that a call on a table leaves aside.
use Rattle.std.specs.Prelude.{ℕ, ◌<◌, ◌⊎◌, List, [], ◌∷◌}
use Rattle.std.specs.FinMap as finite
use Rattle.object_layout.specs.declared.names.Name.{Name}
use Rattle.yak_model.specs.declared.TheConstants.{BUCKETS}
use Rattle.yak_model.specs.declared.datum.Datum.{Datum}
use Rattle.yak_model.specs.declared.datum.Datum.TheVariants as datum
use Rattle.yak_model.specs.Graph.{Content}
use Rattle.yak_model.specs.Private.{IsKnown, KnownObjects}
use Rattle.yak_model.specs.Standing.{Standing}
use Rattle.yak_model.specs.Tables.{Link}
use Rattle.heap_tables.specs.Runs.{next_of}

-- The value refers to no object of the map.
abbrev pub LacksValue : KnownObjects → Datum → Type 0
LacksValue other datum.Null = Unit {0}
LacksValue other (datum.Int i) = Unit {0}
LacksValue other (datum.Object name) = IsKnown other name → ⊥

-- The map has no entry of the chain, and no key of one.
abbrev pub LacksLinks : KnownObjects → List Link → Type 0
LacksLinks other [] = Unit {0}
LacksLinks other (link ∷ links) = (IsKnown other link.entry → ⊥) × (IsKnown other link.key → ⊥) × LacksLinks other links

-- The map has neither the object nor anything of the chain.
abbrev pub LacksChain : KnownObjects → Name → List Link → Type 0
LacksChain other name links = (IsKnown other name → ⊥) × LacksLinks other links

-- The map has no object of the table: neither the one that heads its chains, nor an entry, nor a key.
pub record LacksTable (other : KnownObjects) (name : Name) (buckets : ℕ → List Link) : Type 0 where
  pub head : IsKnown other name → ⊥
  pub links : (b : ℕ) → b < BUCKETS → LacksLinks other (buckets b)

-- The map is known, or the map with one more object, the thread's next one.
abbrev pub KnowsWithNext : Standing → KnownObjects → (KnownObjects → Type 0) → Type 0
KnowsWithNext s other knows = knows other ⊎ ((content : Content) × knows (finite.insert other (next_of s) content))
