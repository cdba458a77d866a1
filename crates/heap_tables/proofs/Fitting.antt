-- Words whose keys fit pages.
use Rattle.std.proofs.Common.{◌≡◌, ℕ, ◌+◌, ◌≤◌, List, [], ◌∷◌, arith, ap, length}
use Rattle.object_layout.specs.declared.names.Name.{Name}
use Rattle.object_layout.specs.declared.TheConstants.{OBJECT_WORDS, PAGE_WORDS}
use Rattle.yak_model.specs.declared.datum.Datum.{Datum}
use Rattle.yak_model.specs.Graph.{Fields, Limits, standard_limits}
use Rattle.yak_model.specs.Private.{FitPages, KnownObjects}
use Rattle.yak_model.specs.Tables.{IsChain, IsKey, Link, groups}
use Rattle.heap_tables.specs.declared.TheConstants.{KEY_BYTES}
use Rattle.heap_tables.specs.Reads.{AreShort}

module _ (limits : Limits) (standard : limits ≡ standard_limits) (known : KnownObjects) (fit : FitPages limits known) where
  key_short : (name : Name) (word : List ℕ) → IsKey known name word → length word ≤ KEY_BYTES
  key_short name word key =
      let fits : length key.0 + OBJECT_WORDS ≤ limits.page = fit name (Fields key.0) key.1 in
      let page : limits.page ≡ PAGE_WORDS = ap (λ (l : Limits). l.page) standard in
      let size : length key.0 ≡ groups (length word) + 1 = (key.2).size in
      omega (arith, fits, page, size)

  pub chain_short : (links : List Link) (head : Datum) → IsChain known head links → AreShort links
  chain_short [] head chain = tt
  chain_short (link ∷ links) head chain = (key_short link.key link.word chain.1.1.1, chain_short links chain.1.0 chain.1.2)
