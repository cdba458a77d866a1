-- What a look at a chain leaves.
use Rattle.std.proofs.Common.{◌≡◌, ◌≢◌, ℕ, List, [], ◌∷◌, refl}
use Rattle.yak_model.specs.declared.datum.Datum.{Datum}
use Rattle.yak_model.specs.declared.datum.Datum.TheVariants as datum
use Rattle.yak_model.specs.Graph.{Thread}
use Rattle.yak_model.specs.Private.{KnownObjects}
use Rattle.heap_tables.specs.Runs.{pushed}
use Rattle.yak_model.specs.Tables.{Link, IsChain, IsEntry}
use Rattle.heap_tables.specs.Walks.{Looked}
use Rattle.heap_tables.specs.declared.chains.Look.TheVariants as look

module _ (own after : Thread) (known : KnownObjects) (word : List ℕ) (head : Datum) where
  pub looked_end : (links : List Link) → IsChain known head links → (head ≡ datum.Null → after ≡ own)
      → ((next : Datum) (link : Link) → head ≡ datum.Object link.entry → IsEntry known next link → ⊥)
      → Looked own known word links look.End after
  looked_end [] chain null some = (refl, null chain)
  looked_end (link ∷ links) chain null some = absurd (some chain.1.0 link chain.0 chain.1.1)

  pub looked_found : (links : List Link) → IsChain known head links → head ≢ datum.Null
      → ((next : Datum) (link : Link) → head ≡ datum.Object link.entry → IsEntry known next link → link.word ≡ word)
      → after ≡ own
      → Looked own known word links look.Found after
  looked_found [] chain null same e = absurd (null chain)
  looked_found (link ∷ links) chain null same e = (λ _. (refl, e), λ other. absurd (other (same chain.1.0 link chain.0 chain.1.1)))

  pub looked_further : (links : List Link) → IsChain known head links → head ≢ datum.Null
      → ((next : Datum) (link : Link) → head ≡ datum.Object link.entry → IsEntry known next link → (link.word ≢ word) × (after ≡ pushed own next))
      → Looked own known word links look.Further after
  looked_further [] chain null on = absurd (null chain)
  looked_further (link ∷ links) chain null on =
      let r = on chain.1.0 link chain.0 chain.1.1 in (λ same. absurd (r.0 same), λ _. (refl, (chain.1.0, chain.1.1, chain.1.2, r.1)))
