use Rattle.std.proofs.Common.{◌≡◌, ℕ, List, set, refl, sym, ap, ◌∙◌}
use Rattle.heap_words.specs.declared.map.Areas.{Areas}
use Rattle.heap_words.specs.Contents.{Contents, contents, with_heap}
use Rattle.relocation.specs.Moves.{heap_of, scratch_of, OnlyHeap}

pub only_heap-same : (m : Areas) (ws : List ℕ) → OnlyHeap m ws ws
only_heap-same m ws = refl

pub only_heap-then : (m : Areas) (was now next : List ℕ) → OnlyHeap m was now → OnlyHeap m now next → OnlyHeap m was next
only_heap-then m was now next p q = q ∙ ap (λ (c : Contents). record c { heap = heap_of m next }) p

pub only_heap-scratch : (m : Areas) (was now : List ℕ) → OnlyHeap m was now → scratch_of m now ≡ scratch_of m was
only_heap-scratch m was now p = ap (λ (c : Contents). c.scratch) p

pub only_heap-set : (m : Areas) (now next : List ℕ) (a v : ℕ) → contents m next ≡ with_heap (contents m now) a v → OnlyHeap m now next
only_heap-set m now next a v e = e ∙ ap (λ (h : List ℕ). record (contents m now) { heap = h }) (sym (ap (λ (c : Contents). c.heap) e))

-- a word read and one written
pub heap-set : (m : Areas) (was read next : List ℕ) (a v w : ℕ) → read ≡ was → contents m next ≡ with_heap (contents m read) a v → v ≡ w → heap_of m next ≡ set (heap_of m was) a w
heap-set m was read next a v w same e value = ap (λ (c : Contents). c.heap) e ∙ ap (λ (ws : List ℕ). set (heap_of m ws) a v) same ∙ ap (λ x. set (heap_of m was) a x) value

pub only_heap-step : (m : Areas) (was read next : List ℕ) (a v : ℕ) → read ≡ was → contents m next ≡ with_heap (contents m read) a v → OnlyHeap m was next
only_heap-step m was read next a v same e = only_heap-set m was next a v (e ∙ ap (λ (ws : List ℕ). with_heap (contents m ws) a v) same)
