-- Words that stand for a state are those of a heap, within the limits.
use Rattle.std.proofs.Common.{◌≡◌, List, ℕ, length}
use Rattle.std.proofs.Math.Logic.{∥∥₁_elim}
use Rattle.heap_words.specs.declared.map.Areas.{Areas}
use Rattle.heap_words.specs.Map.{IsAreas, total_of}
use Rattle.heap_words.specs.Contents.{Sound, contents}
use Rattle.heap_words.proofs.Contents.{Sound-prop}
use Rattle.yak_model.specs.Spaces.{SpaceState}
use Rattle.yak_model.specs.Stands.{Stands}

pub sound-from : (m : Areas) (words : List ℕ) → IsAreas m → length words ≡ total_of m → ∥ ((s : SpaceState) × Stands m (contents m words) s) ∥₁ → Sound m words
sound-from m words areas whole stands = ∥∥₁_elim stands (Sound-prop m words) (λ p. record { areas = areas; whole = whole; limits = p.1.stands.limits })
