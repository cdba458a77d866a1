-- The words of a heap, as the parts of a picture ask for them.
use Rattle.std.proofs.Common.{◌≡◌, ℕ, ◌<◌, ◌≤◌, List, length, sym, subst}
use Rattle.std.proofs.Math.Logic.{∥∥₁_elim, ∥∥₁_map}
use Rattle.std.proofs.Props.{props}
use Rattle.heap_words.specs.declared.map.Areas.{Areas}
use Rattle.heap_words.specs.Map.{IsAreas, page_words, total_of}
use Rattle.heap_words.specs.Contents.{contents, Sound}
use Rattle.yak_model.specs.Placed.{used_mark}
use Rattle.yak_model.specs.Recorded.{SomeRecorded}
use Rattle.yak_model.specs.Spaces.{SpaceState}
use Rattle.yak_model.specs.Stands.{PoolStands, Stands}
use Rattle.standing_calls.proofs.Told.{pool-told}
use Rattle.heap_core.proofs.Filling.{mark-within}
use Rattle.heap_core.proofs.Sound.{sound-from}

pub record IsDrawable (m : Areas) (words : List ℕ) : Type 0 where
  pub sound : Sound m words
  pub marks : (p : ℕ) → p < m.pages → used_mark (contents m words).table p ≤ page_words m
  pub pool : PoolStands m (contents m words).heads (contents m words).pool (contents m words).table

pub drawable : (m : Areas) (words : List ℕ) → IsAreas m → length words ≡ total_of m → SomeRecorded m (contents m words) → IsDrawable m words
drawable m words areas whole stands =
    let some : ∥ ((s : SpaceState) × Stands m (contents m words) s) ∥₁ = ∥∥₁_map stands (λ q. (q.0, q.1)) in
    record {
      sound = sound-from m words areas whole some;
      marks = λ p lt. ∥∥₁_elim stands (hlevel props) (λ q. mark-within m (contents m words) q.0 q.1 p lt);
      pool = pool-told m (contents m words) some;
    }

-- the same of a map that is made anew of its parts, and of words that are read again
pub drawable_again : (m m' : Areas) (words words' : List ℕ) → m'.pages ≡ m.pages → m'.threads ≡ m.threads → words' ≡ words → IsDrawable m words → IsDrawable m' words'
drawable_again m m' words words' pages threads same d =
    let map : m ≡ m' = λ i. record { pages = (sym pages) i; threads = (sym threads) i } in
    let both : (m, words) ≡ (m', words') = λ i. (map i, (sym same) i) in
    subst (λ (x : Areas × List ℕ). IsDrawable x.0 x.1) both d
