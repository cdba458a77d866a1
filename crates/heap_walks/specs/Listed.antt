-- Lists of addresses in the scratch area.
use Rattle.std.specs.Prelude.{◌≡◌, ℕ, ◌<◌, List, slice_index}
use Rattle.object_layout.specs.declared.names.Name.{Name}
use Rattle.yak_model.specs.State.{Thing}
use Rattle.heap_walks.specs.Laid.{Laid, IsThing}

-- The first words of the scratch area are the addresses of the present objects of a collection, each once.
pub record IsListed (h : Laid) (collection : Name → Type 0) (scratch : List ℕ) (count : ℕ) : Type 0 where
  pub things : (n : Name) → collection n → (o : Thing) × IsThing h n o
  pub listed : (k : ℕ) → k < count → (n : Name) × collection n × (slice_index scratch k ≡ h.places.at n)
  pub placed : (n : Name) → collection n → (k : ℕ) × (k < count) × (slice_index scratch k ≡ h.places.at n)
  pub once : (j k : ℕ) → j < count → k < count → slice_index scratch j ≡ slice_index scratch k → j ≡ k
