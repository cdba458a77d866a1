-- The words that moves bring into a page, and into a space.
use Rattle.std.proofs.Common.{◌≡◌, ◌≢◌, ℕ, ◌+◌, ◌-◌, ◌*◌, ◌/◌, ◌==◌, ◌≤◌, ◌<◌, cond, List, refl, sym, ap, ◌∙◌, arith, add-one, zero, suc, get_or}
use Rattle.object_layout.specs.declared.TheConstants.{HEADER_BASE, MAX_FIELDS, OBJECT_WORDS, SPACE_UNIT}
use Rattle.object_layout.specs.declared.names.Name.{Name}
use Rattle.epoch_lattice.specs.declared.Space.{Space}
use Rattle.epoch_lattice.specs.Lattice.{space_index}
use Rattle.heap_words.specs.declared.map.Areas.{Areas}
use Rattle.heap_words.specs.Map.{heap_length, page_words}
use Rattle.heap_words.specs.Contents.{Contents}
use Rattle.yak_model.specs.Placed.{size_by}
use Rattle.yak_model.specs.Plans.{Move}
use Rattle.yak_model.specs.State.{Thing}
use Rattle.heap_walks.specs.Laid.{IsThing}
use Rattle.heap_walks.proofs.Objects.{header_now, size_is}
use Rattle.relocation.specs.Moves.{fields_at, size_at}
use Rattle.relocation.specs.Slide.{brought}
use Rattle.relocation.proofs.Slid.{brought-same}
use Rattle.escape_closure.specs.Rolls.{Aimed, AimsInside, Rolled}
use Rattle.escape_closure.specs.Ends.{words_into}
use Rattle.escape_closure.proofs.Rolls.{among_now, same_is}
use Rattle.escape_closure.proofs.Placing.{other_is}

pub brought_none : (m : Areas) (heap : List ℕ) (moves : ℕ → Move) (p : ℕ) → brought m heap 0 moves p ≡ 0
unfolding brought
brought_none m heap moves p = refl

pub brought_next : (m : Areas) (heap : List ℕ) (k : ℕ) (moves : ℕ → Move) (p : ℕ) → brought m heap (k + 1) moves p ≡ brought m heap k moves p + cond ((moves k).new / page_words m == p) (size_at heap (moves k).old) 0
unfolding brought
brought_next m heap k moves p = rw (add-one) refl

-- one more move, to a page
module _ (m : Areas) (heap : List ℕ) (k a n : ℕ) (x : Space) (before moves : ℕ → Move) (p : ℕ) (former : (j : ℕ) → j < k → moves j ≡ before j) (added : moves k ≡ record { old = a; new = n; space = x }) where
  last_is : brought m heap (k + 1) moves p ≡ brought m heap k before p + cond (n / page_words m == p) (size_at heap a) 0
  last_is =
      let one : cond ((moves k).new / page_words m == p) (size_at heap (moves k).old) 0 ≡ cond (n / page_words m == p) (size_at heap a) 0 = ap (λ (v : Move). cond (v.new / page_words m == p) (size_at heap v.old) 0) added in
      omega (arith, brought_next m heap k moves p, brought-same m heap k before moves p former, one)

  pub brought_here : n / page_words m ≡ p → brought m heap (k + 1) moves p ≡ brought m heap k before p + size_at heap a
  brought_here e = omega (arith, last_is, same_is (n / page_words m) p (size_at heap a) 0 e)

  pub brought_other : n / page_words m ≢ p → brought m heap (k + 1) moves p ≡ brought m heap k before p
  brought_other ne = omega (arith, last_is, other_is (n / page_words m) p (size_at heap a) 0 ne)

pub brought_grows : (m : Areas) (heap : List ℕ) (moves : ℕ → Move) (p k j : ℕ) → brought m heap k moves p ≤ brought m heap (k + j) moves p
brought_grows m heap moves p k zero =
    let same : brought m heap (k + 0) moves p ≡ brought m heap k moves p = ap (λ i. brought m heap i moves p) (omega arith) in
    omega (arith, same)
brought_grows m heap moves p k (suc j) =
    let before = brought_grows m heap moves p k j in
    let more = brought_next m heap (k + j) moves p in
    let same : brought m heap (k + suc j) moves p ≡ brought m heap (k + j + 1) moves p = ap (λ i. brought m heap i moves p) (omega arith) in
    omega (arith, before, more, same)

-- what the first moves brought, and one of them
pub brought_up_to : (m : Areas) (heap : List ℕ) (moves : ℕ → Move) (p j k : ℕ) → j < k → (moves j).new / page_words m ≡ p → brought m heap j moves p + size_at heap (moves j).old ≤ brought m heap k moves p
brought_up_to m heap moves p j k lt at =
    let next = brought_next m heap j moves p in
    let here : cond ((moves j).new / page_words m == p) (size_at heap (moves j).old) 0 ≡ size_at heap (moves j).old = same_is ((moves j).new / page_words m) p (size_at heap (moves j).old) 0 at in
    let grow = brought_grows m heap moves p (j + 1) (k - (j + 1)) in
    let same : brought m heap (j + 1 + (k - (j + 1))) moves p ≡ brought m heap k moves p = ap (λ i. brought m heap i moves p) (omega (arith, lt)) in
    omega (arith, next, here, grow, same)

-- words that go to a space
pub into_next : (target : ℕ → Space) (size : ℕ → ℕ) (x : Space) (k : ℕ) → words_into target size x (k + 1) ≡ words_into target size x k + cond (space_index (target k) == space_index x) (size k) 0
into_next target size x k = rw (add-one) refl

pub into_here : (target : ℕ → Space) (size : ℕ → ℕ) (x y : Space) (k : ℕ) → target k ≡ y → y ≡ x → words_into target size x (k + 1) ≡ words_into target size x k + size k
into_here target size x y k at e = omega (arith, into_next target size x k, same_is (space_index (target k)) (space_index x) (size k) 0 (ap space_index (at ∙ e)))

-- the words that a header tells
tells_size : (heap : List ℕ) (a fields space : ℕ) → fields ≤ MAX_FIELDS → get_or heap a 0 ≡ HEADER_BASE + SPACE_UNIT * space + fields → size_at heap a ≡ fields + OBJECT_WORDS
unfolding fields_at
tells_size heap a fields space few e = rw e (omega arith)

pub size_told : (m : Areas) (q : Aimed) (c : Contents) (count : ℕ) (n : Name) (o : Thing) → AimsInside m q → Rolled q c (heap_length m) count → IsThing q.laid n o → size_at c.heap (q.laid.places.at n) ≡ size_by q.laid.state.objects n
size_told m q c count n o ready r present =
    tells_size c.heap (q.laid.places.at n) _ (space_index o.home) (ready.among.stands.closed.fields n o present).1 (header_now m q.laid c n o (among_now m q c (heap_length m) count ready r) present)
    ∙ sym (size_is q.laid n o present)
