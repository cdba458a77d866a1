-- The pages in which objects stand that are slid.
use Rattle.std.proofs.Common.{◌≡◌, ◌⊎◌, ℕ, ◌+◌, ◌/◌, ◌≤◌, ◌<◌, List, sym, subst, ◌∙◌, arith}
use Rattle.heap_words.specs.declared.map.Areas.{Areas}
use Rattle.heap_words.specs.Map.{page_words}
use Rattle.relocation.specs.Slide.{GoesBehind, GoesOn, IsFirstPage, IsPageOf}
use Rattle.forwarding.proofs.Filled.{page_holds}
use Rattle.escape_closure.specs.Leaves.{HoldsOne, SlidInto}

-- where an object goes that isn't the first
abbrev goes_next : Areas → ℕ → List (List ℕ) → ℕ → ℕ → ℕ → ℕ → Type 0
goes_next m slid table place size new size' = GoesBehind m place size new size' ⊎ GoesOn m slid table place size new size'

-- the same objects, told in another way
pub slid_same : (m : Areas) (slid : ℕ) (table table' : List (List ℕ)) (count : ℕ) (size size' at at' : ℕ → ℕ) → table ≡ table' → ((k : ℕ) → k < count → size k ≡ size' k) → ((k : ℕ) → k < count → at k ≡ at' k) → SlidInto m slid table count size at → SlidInto m slid table' count size' at'
slid_same m slid table table' count size size' at at' tables sizes places s = record {
  begins = λ some. let w = s.begins some in (w.0, subst (λ (ts : List (List ℕ)). IsFirstPage slid ts 0 w.0) tables w.1, sym (places 0 some) ∙ w.2);
  follows = λ k lt.
      let first : k < count = omega (arith, lt) in
      let a : goes_next m slid table' (at k) (size k) (at (k + 1)) (size (k + 1)) = subst (λ (ts : List (List ℕ)). goes_next m slid ts (at k) (size k) (at (k + 1)) (size (k + 1))) tables (s.follows k lt) in
      let b : goes_next m slid table' (at' k) (size k) (at (k + 1)) (size (k + 1)) = subst (λ x. goes_next m slid table' x (size k) (at (k + 1)) (size (k + 1))) (places k first) a in
      let c : goes_next m slid table' (at' k) (size' k) (at (k + 1)) (size (k + 1)) = subst (λ x. goes_next m slid table' (at' k) x (at (k + 1)) (size (k + 1))) (sizes k first) b in
      let d : goes_next m slid table' (at' k) (size' k) (at' (k + 1)) (size (k + 1)) = subst (λ x. goes_next m slid table' (at' k) (size' k) x (size (k + 1))) (places (k + 1) lt) c in
      subst (λ x. goes_next m slid table' (at' k) (size' k) (at' (k + 1)) x) (sizes (k + 1) lt) d;
}

-- a page of the space between the first one and that of an object holds one of the objects up to it
pub holds_one : (m : Areas) (slid : ℕ) (table : List (List ℕ)) (count : ℕ) (size at : ℕ → ℕ) → SlidInto m slid table count size at → ((k : ℕ) → k < count → 1 ≤ size k) → (k p : ℕ) → k < count → IsPageOf slid table p → p ≤ at k / page_words m → HoldsOne m count at p
holds_one m slid table count size at s some k p lt own le = page_holds m slid table count size at s.begins s.follows some k p lt own le
