-- A word found among the first entries of its chain.
use Rattle.std.proofs.Common.{◌≡◌, ◌≢◌, ℕ, ◌+◌, List, ◌∷◌, ◌++◌, append-nil, get_or, refl, ◌∙◌, ap, sym, subst}
use Rattle.object_layout.specs.declared.names.Name.{Name}
use Rattle.yak_model.specs.declared.datum.Datum.{Datum}
use Rattle.yak_model.specs.declared.datum.Datum.TheVariants as datum
use Rattle.yak_model.specs.Graph.{Thread}
use Rattle.yak_model.specs.Private.{KnownObjects}
use Rattle.yak_model.specs.Tables.{IsChain, IsEntry, LacksWord, Link, bucket_of}
use Rattle.heap_tables.specs.Adds.{AddsNear}
use Rattle.heap_tables.specs.Walks.{IsClimbed, Stops}
use Rattle.heap_tables.specs.declared.chains.Look.{Look}
use Rattle.heap_tables.specs.declared.chains.Look.TheVariants as look

module _ (own : Thread) (known : KnownObjects) (word : List ℕ) (links : List Link) (at : ℕ) (said : Look) (n : ℕ) (after : Thread) (up : IsClimbed own known word links at said n after) where
  pub near_found : said ≡ look.Found
      → (link : Link) × (rest : List Link) × (next : Datum) × (links ≡ up.passed ++ link ∷ rest) × (link.word ≡ word) × (get_or after.stack (at + n) datum.Null ≡ datum.Object link.entry) × IsEntry known next link
  near_found found =
      let stop = subst (λ l. Stops word l up.rest) found up.stops in
      let chain = subst (IsChain known (get_or after.stack (at + n) datum.Null)) stop.2 up.chain in
      (stop.0, stop.1, chain.1.0, up.parts ∙ ap (λ ls. up.passed ++ ls) stop.2, stop.3, chain.0, chain.1.1)

  pub near_end : said ≡ look.End → LacksWord word links
  near_end end =
      let stop = subst (λ l. Stops word l up.rest) end up.stops in
      subst (LacksWord word) (sym (up.parts ∙ ap (λ ls. up.passed ++ ls) stop ∙ append-nil up.passed)) up.lacks

pub near_left : (known : KnownObjects) (word : List ℕ) (n : ℕ) (name : Name) (buckets : ℕ → List Link) (said : Look) (knows : KnownObjects → Type 0)
    → said ≢ look.Found → (said ≡ look.End → LacksWord word (buckets (bucket_of word))) → knows known → AddsNear known word n name buckets said knows
near_left known word n name buckets look.Found knows other end k = absurd (other refl)
near_left known word n name buckets look.End knows other end k = (end refl, k)
near_left known word n name buckets look.Further knows other end k = k
