use Rattle.std.proofs.Common.{◌≡◌, ◌⊎◌, ℕ, ◌+◌, ◌*◌, ◌≤◌, ◌<◌, List, zero, suc, refl, sym, ap, subst, ◌∙◌, arith}
use Rattle.std.proofs.lemmas.Bool.{cases_eq, cases_order}
use Rattle.std.proofs.Math.Logic.{⊎_elim}
use Rattle.heap_words.specs.declared.map.Areas.{Areas}
use Rattle.heap_words.specs.Map.{page_words}
use Rattle.heap_words.specs.Contents.{Contents}
use Rattle.yak_model.specs.Placed.{used_mark}
use Rattle.relocation.specs.Moves.{HasHeader, size_at}
use Rattle.relocation.specs.Slide.{IsPageOf, behind, object_at, Runs, IsObject, InPageOf}

behind-suc : (heap : List ℕ) (a k : ℕ) → behind heap a (suc k) ≡ behind heap a k + size_at heap (behind heap a k)
unfolding behind
behind-suc heap a k = refl

behind-zero : (heap : List ℕ) (a : ℕ) → behind heap a 0 ≡ a
unfolding behind
behind-zero heap a = refl

pub behind-next : (heap : List ℕ) (a k : ℕ) → behind heap a (k + 1) ≡ behind heap a k + size_at heap (behind heap a k)
behind-next heap a k = let e : k + 1 ≡ suc k = omega arith in rw e (behind-suc heap a k)

pub behind-first : (heap : List ℕ) (a : ℕ) → behind heap a 0 ≡ a
behind-first = behind-zero

-- an object ends before a later one
pub behind-more : (heap : List ℕ) (a j k : ℕ) → j < k → behind heap a j + size_at heap (behind heap a j) ≤ behind heap a k
behind-more heap a j zero h = absurd (omega arith)
behind-more heap a j (suc k) h = ⊎_elim
    (λ (e : j ≡ k). rw e (let s = behind-suc heap a k in omega (arith, s)))
    (λ (ne : j ≡ k → ⊥).
    let before : j < k = omega arith in
    let s = behind-suc heap a k in
    let r = behind-more heap a j k before in
    omega (arith, s, r))
    (cases_eq j k)

pub behind-from : (heap : List ℕ) (a k : ℕ) → a ≤ behind heap a k
behind-from heap a zero = let e = behind-zero heap a in omega (arith, e)
behind-from heap a (suc k) = let s = behind-suc heap a k in let r = behind-from heap a k in omega (arith, s, r)

-- an object lies within its page
pub object-page : (m : Areas) (slid : ℕ) (c : Contents) (runs : Runs m slid c) (a : ℕ) → (o : IsObject m slid c runs a) → (page_words m * o.0 ≤ a) × (a + size_at c.heap a ≤ page_words m * o.0 + page_words m)
object-page m slid c runs a o =
    let run = runs o.0 o.2 o.3 in
    let e : a ≡ behind c.heap (page_words m * o.0) o.1 = o.5 in
    let last = behind-more c.heap (page_words m * o.0) o.1 run.objects o.4 in
    let low = behind-from c.heap (page_words m * o.0) o.1 in
    let size : size_at c.heap a ≡ size_at c.heap (behind c.heap (page_words m * o.0) o.1) = ap (size_at c.heap) e in
    (omega (arith, e, low), omega (arith, e, last, size, run.ends, run.fits))

pub object-header : (m : Areas) (slid : ℕ) (c : Contents) (runs : Runs m slid c) (a : ℕ) → IsObject m slid c runs a → HasHeader c.heap a
object-header m slid c runs a o = subst (HasHeader c.heap) (sym o.5) ((runs o.0 o.2 o.3).headers o.1 o.4)

pub object-control : (m : Areas) (slid : ℕ) (c : Contents) (runs : Runs m slid c) (a : ℕ) → IsObject m slid c runs a → InPageOf m slid c.table a (size_at c.heap a)
object-control m slid c runs a o = let h = object-page m slid c runs a o in (o.0, o.2, o.3, h.0, h.1)

-- no object begins within another
pub object-same : (m : Areas) (slid : ℕ) (c : Contents) (runs : Runs m slid c) (a b : ℕ) → IsObject m slid c runs a → IsObject m slid c runs b → a ≤ b → b < a + size_at c.heap a → b ≡ a
object-same m slid c runs a b o q low high =
    let ha = object-page m slid c runs a o in
    let hb = object-page m slid c runs b q in
    let page : q.0 ≡ o.0 = omega (arith, ha.0, ha.1, hb.0, hb.1) in
    let eb : b ≡ behind c.heap (page_words m * o.0) q.1 = q.5 ∙ ap (λ p. behind c.heap (page_words m * p) q.1) page in
    let ea : a ≡ behind c.heap (page_words m * o.0) o.1 = o.5 in
    let size : size_at c.heap a ≡ size_at c.heap (behind c.heap (page_words m * o.0) o.1) = ap (size_at c.heap) ea in
    ⊎_elim
    (λ (e : q.1 ≡ o.1). eb ∙ ap (behind c.heap (page_words m * o.0)) e ∙ sym ea)
    (λ (ne : (q.1 < o.1) ⊎ (o.1 < q.1)). ⊎_elim
    (λ (lt : q.1 < o.1). absurd (let r = behind-more c.heap (page_words m * o.0) q.1 o.1 lt in omega (arith, r, ea, eb)))
    (λ (gt : o.1 < q.1). absurd (let r = behind-more c.heap (page_words m * o.0) o.1 q.1 gt in omega (arith, r, ea, eb, size)))
    ne)
    (cases_order q.1 o.1)

pub behind-le : (heap : List ℕ) (a j k : ℕ) → j ≤ k → behind heap a j ≤ behind heap a k
behind-le heap a j k le = ⊎_elim
    (λ (e : j ≡ k). rw e (omega arith))
    (λ (ne : j ≡ k → ⊥). let lt : j < k = omega arith in let r = behind-more heap a j k lt in omega (arith, r))
    (cases_eq j k)

-- a walk over a page has come to an object before the used mark
pub before-end : (m : Areas) (slid : ℕ) (c : Contents) (runs : Runs m slid c) (p : ℕ) (h : p < m.pages) (control : IsPageOf slid c.table p) (j a : ℕ) → j ≤ (runs p h control).objects → a ≡ object_at m c.heap p j → a < page_words m * p + used_mark c.table p → j < (runs p h control).objects
before-end m slid c runs p h control j a le e before =
    let run = runs p h control in
    ⊎_elim
    (λ (q : j ≡ run.objects). absurd (let w : behind c.heap (page_words m * p) j ≡ behind c.heap (page_words m * p) run.objects = ap (behind c.heap (page_words m * p)) q in omega (arith, w, run.ends, e)))
    (λ (ne : j ≡ run.objects → ⊥). omega arith)
    (cases_eq j run.objects)
