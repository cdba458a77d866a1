-- The words that different threads change are apart.
use Rattle.std.proofs.Common.{◌≡◌, ◌≢◌, ◌⊎◌, ℕ, ◌+◌, ◌-◌, ◌*◌, ◌≤◌, ◌<◌, List, length, sym, ap, subst, ◌∙◌, arith, inl, inr}
use Rattle.std.specs.List.{Contains}
use Rattle.std.proofs.Math.Logic.{⊎_elim}
use Rattle.heap_words.specs.declared.map.Areas.{Areas}
use Rattle.heap_words.specs.declared.TheConstants.{HEAD_WORDS}
use Rattle.heap_words.specs.Map.{HasThread, table_at, block_at, block_words, heap_at, max_depth, page_at, page_words, pool_at, total_of}
use Rattle.heap_words.specs.Cells.{row}
use Rattle.heap_words.specs.Contents.{Contents}
use Rattle.epoch_lattice.specs.Lattice.{inner_of, space_index}
use Rattle.yak_model.specs.Placed.{space_word, used_mark}
use Rattle.yak_model.specs.Stands.{CurrentsStand, current}
use Rattle.calls_in_flight.specs.Flight.{Flight}
use Rattle.calls_in_flight.specs.Owning.{IsOwn, IsOwnPage, IsPageOf, IsWordOf, in_block, in_entry, in_page}

-- the current pages stand, and a row of them is as long as it must be
pub record Named (m : Areas) (c : Contents) : Type 0 where
  pub currents : CurrentsStand m c.currents c.table
  pub slots : (t : ℕ) → HasThread m t → length (row c.currents (t - 1)) ≡ max_depth m + 1

-- a call in flight is of a thread of the heap, and its claimed pages are free yet
pub record Holds (m : Areas) (c : Contents) (f : Flight) : Type 0 where
  pub thread : HasThread m f.thread
  pub claimed : (p : ℕ) → Contains f.claimed p → (p < m.pages) × (space_word c.table p ≡ 0)

pub named-page : (m : Areas) (c : Contents) (f : Flight) (p d : ℕ) → Named m c → HasThread m f.thread → d ≤ max_depth m → current c.currents f.thread d ≡ p + 1 → (p < m.pages) × (space_word c.table p ≡ space_index (inner_of f.thread d) + 1)
named-page m c f p d n ht hd e =
    let inside : d < length (row c.currents (f.thread - 1)) = omega (arith, hd, n.slots f.thread ht) in
    let b = n.currents.belong f.thread d ht.0 ht.1 inside (λ z. omega (arith, z, e)) in
    let at : current c.currents f.thread d - 1 ≡ p = omega (arith, e) in
    (omega (arith, b.0, e), ap (space_word c.table) (sym at) ∙ b.1)

pub page-exists : (m : Areas) (c : Contents) (f : Flight) (p : ℕ) → Named m c → Holds m c f → IsOwnPage m c f p → p < m.pages
page-exists m c f p n h own = ⊎_elim
    (λ (q : (d : ℕ) × (d ≤ max_depth m) × (current c.currents f.thread d ≡ p + 1)). (named-page m c f p q.0 n h.thread q.1 q.2).0)
    (λ (q : Contains f.claimed p). (h.claimed p q).0)
    own

pub page-apart : (m : Areas) (c : Contents) (f g : Flight) (p : ℕ) → Named m c → Holds m c f → Holds m c g → f.thread ≢ g.thread → (Contains f.claimed p → Contains g.claimed p → ⊥) → IsOwnPage m c f p → IsOwnPage m c g p → ⊥
page-apart m c f g p n h k ne apart own other = ⊎_elim
    (λ (a : (d : ℕ) × (d ≤ max_depth m) × (current c.currents f.thread d ≡ p + 1)). ⊎_elim
    (λ (b : (d : ℕ) × (d ≤ max_depth m) × (current c.currents g.thread d ≡ p + 1)).
    ne (n.currents.once f.thread a.0 g.thread b.0 h.thread.0 h.thread.1 k.thread.0 k.thread.1 (λ z. omega (arith, z, a.2)) (a.2 ∙ sym b.2)).0)
    (λ (b : Contains g.claimed p). let r : ⊥ = omega (arith, (named-page m c f p a.0 n h.thread a.1 a.2).1, (k.claimed p b).1) in r)
    other)
    (λ (a : Contains f.claimed p). ⊎_elim
    (λ (b : (d : ℕ) × (d ≤ max_depth m) × (current c.currents g.thread d ≡ p + 1)). let r : ⊥ = omega (arith, (named-page m c g p b.0 n k.thread b.1 b.2).1, (h.claimed p a).1) in r)
    (λ (b : Contains g.claimed p). apart a b)
    other)
    own

pub page-kept : (m : Areas) (c d : Contents) (f : Flight) (p : ℕ) → d.currents ≡ c.currents → IsOwnPage m c f p → IsOwnPage m d f p
page-kept m c d f p ec own = ⊎_elim
    (λ (q : (k : ℕ) × (k ≤ max_depth m) × (current c.currents f.thread k ≡ p + 1)). inl (q.0, q.1, ap (λ (x : List (List ℕ)). current x f.thread q.0) ec ∙ q.2))
    (λ (q : Contains f.claimed p). inr q)
    own

-- where a thread's own words lie
block_apart : (m : Areas) (t u a : ℕ) → HasThread m t → HasThread m u → t ≢ u → block_at m t ≤ a → a < block_at m t + block_words m → block_at m u ≤ a → a < block_at m u + block_words m → ⊥
block_apart m t u a ht hu ne lt gt lu gu = omega (arith, ht.0, ht.1, hu.0, hu.1)

block_entry : (m : Areas) (t a p j : ℕ) → HasThread m t → a < block_at m t + block_words m → a ≡ page_at m p + j → ⊥
block_entry m t a p j ht gt e = omega (arith, ht.0, ht.1)

block_heap : (m : Areas) (t a i : ℕ) → HasThread m t → a < block_at m t + block_words m → a ≡ heap_at m + i → ⊥
block_heap m t a i ht gt e = omega (arith, ht.0, ht.1)

entry_heap : (m : Areas) (a p j i : ℕ) → p < m.pages → j < 2 → a ≡ page_at m p + j → a ≡ heap_at m + i → ⊥
entry_heap m a p j i lt lj e k = omega arith

entry_same : (m : Areas) (a p q j i : ℕ) → j < 2 → i < 2 → a ≡ page_at m p + j → a ≡ page_at m q + i → p ≡ q
entry_same m a p q j i lj li e k = omega arith

heap_same : (m : Areas) (a p q j i : ℕ) → j < page_words m → i < page_words m → a ≡ heap_at m + (page_words m * p + j) → a ≡ heap_at m + (page_words m * q + i) → p ≡ q
heap_same m a p q j i lj li e k = omega arith

pub own-apart : (m : Areas) (c : Contents) (f g : Flight) (a : ℕ) → Named m c → Holds m c f → Holds m c g → f.thread ≢ g.thread → ((p : ℕ) → Contains f.claimed p → Contains g.claimed p → ⊥) → IsOwn m c f a → IsOwn m c g a → ⊥
own-apart m c f g a n h k ne apart (in_block lt gt) (in_block lu gu) = block_apart m f.thread g.thread a h.thread k.thread ne lt gt lu gu
own-apart m c f g a n h k ne apart (in_block lt gt) (in_entry q i own li e) = block_entry m f.thread a q i h.thread gt e
own-apart m c f g a n h k ne apart (in_block lt gt) (in_page q i own low li e) = block_heap m f.thread a (page_words m * q + i) h.thread gt e
own-apart m c f g a n h k ne apart (in_entry p j own lj e) (in_block lu gu) = block_entry m g.thread a p j k.thread gu e
own-apart m c f g a n h k ne apart (in_entry p j own lj e) (in_entry q i other li o) = page-apart m c f g p n h k ne (apart p) own (subst (IsOwnPage m c g) (sym (entry_same m a p q j i lj li e o)) other)
own-apart m c f g a n h k ne apart (in_entry p j own lj e) (in_page q i other low li o) = entry_heap m a p j (page_words m * q + i) (page-exists m c f p n h own) lj e o
own-apart m c f g a n h k ne apart (in_page p j own low lj e) (in_block lu gu) = block_heap m g.thread a (page_words m * p + j) k.thread gu e
own-apart m c f g a n h k ne apart (in_page p j own low lj e) (in_entry q i other li o) = entry_heap m a q i (page_words m * p + j) (page-exists m c g q n k other) li o e
own-apart m c f g a n h k ne apart (in_page p j own low lj e) (in_page q i other lo li o) = page-apart m c f g p n h k ne (apart p) own (subst (IsOwnPage m c g) (sym (heap_same m a p q j i lj li e o)) other)

-- a thread's own words lie in the blocks, the page table or the heap
pub own-area : (m : Areas) (c : Contents) (f : Flight) (a : ℕ) → Named m c → Holds m c f → IsOwn m c f a → ((HEAD_WORDS ≤ a) × (a < pool_at m)) ⊎ (heap_at m ≤ a)
own-area m c f a n h (in_block lt gt) = inl (omega (arith, lt), omega (arith, h.thread.0, h.thread.1, gt))
own-area m c f a n h (in_entry p j own lj e) = inl (omega (arith, e), omega (arith, e, lj, page-exists m c f p n h own))
own-area m c f a n h (in_page p i own low li e) = inr (omega (arith, e))

pub own-within : (m : Areas) (c : Contents) (f : Flight) (a : ℕ) → Named m c → Holds m c f → IsOwn m c f a → a < total_of m
own-within m c f a n h (in_block lt gt) = omega (arith, h.thread.0, h.thread.1, gt)
own-within m c f a n h (in_entry p j own lj e) = omega (arith, e, lj, page-exists m c f p n h own)
own-within m c f a n h (in_page p i own low li e) = let lt = page-exists m c f p n h own in omega (arith, e, li, lt)

-- a place stays a thread's own where the current pages and the used marks do
pub own-kept : (m : Areas) (c d : Contents) (f : Flight) (a : ℕ) → d.currents ≡ c.currents → d.table ≡ c.table → IsOwn m c f a → IsOwn m d f a
own-kept m c d f a ec et (in_block lt gt) = in_block lt gt
own-kept m c d f a ec et (in_entry p j own lj e) = in_entry p j (page-kept m c d f p ec own) lj e
own-kept m c d f a ec et (in_page p i own low li e) = in_page p i (page-kept m c d f p ec own) (subst (λ (t : List (List ℕ)). used_mark t p ≤ i) (sym et) low) li e

-- a page more is a thread's own
page-more : (m : Areas) (c : Contents) (t : ℕ) (ps qs : List ℕ) (p : ℕ) → ((q : ℕ) → Contains ps q → Contains qs q) → IsPageOf m c t ps p → IsPageOf m c t qs p
page-more m c t ps qs p more own = ⊎_elim (λ (x : (d : ℕ) × (d ≤ max_depth m) × (current c.currents t d ≡ p + 1)). inl x) (λ (x : Contains ps p). inr (more p x)) own

pub own-more : (m : Areas) (c : Contents) (t : ℕ) (ps qs : List ℕ) (a : ℕ) → ((q : ℕ) → Contains ps q → Contains qs q) → IsWordOf m c t ps a → IsWordOf m c t qs a
own-more m c t ps qs a more (in_block lt gt) = in_block lt gt
own-more m c t ps qs a more (in_entry p j own lj e) = in_entry p j (page-more m c t ps qs p more own) lj e
own-more m c t ps qs a more (in_page p i own low li e) = in_page p i (page-more m c t ps qs p more own) low li e

-- a word of its block stays a thread's own whatever happens to the pages
pub own-block : (m : Areas) (c d : Contents) (t : ℕ) (ps qs : List ℕ) (b : ℕ) → b < table_at m → IsWordOf m c t ps b → IsWordOf m d t qs b
own-block m c d t ps qs b low (in_block lt gt) = in_block lt gt
own-block m c d t ps qs b low (in_entry p j own lj e) = absurd (omega (arith, low, e))
own-block m c d t ps qs b low (in_page p i own lo li e) = absurd (omega (arith, low, e))
