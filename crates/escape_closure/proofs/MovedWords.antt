-- The words of the objects that an end moves are among those of its region.
use Rattle.std.proofs.Common.{◌≡◌, ℕ, ◌+◌, ◌*◌, ◌≤◌, ◌<◌, ◌==◌, cond, List, [], nat_lt, zero, suc, sym, ap, subst, arith, eq-eqb, true}
use Rattle.std.proofs.lemmas.Bool.Decides.{nat_tests}
use Rattle.std.proofs.lemmas.List.Sums.{sum_by-le-sum_by}
use Rattle.std.specs.List.{sum_by}
use Rattle.object_layout.specs.declared.names.Name.{Name}
use Rattle.epoch_lattice.specs.Lattice.{space_index}
use Rattle.heap_words.specs.declared.map.Areas.{Areas}
use Rattle.heap_words.specs.Map.{IsAreas, heap_length}
use Rattle.heap_words.specs.Contents.{Contents}
use Rattle.yak_model.specs.Spaces.{SpaceState, innermost}
use Rattle.yak_model.specs.State.{object_of}
use Rattle.yak_model.specs.Placed.{IsAt, names_of}
use Rattle.yak_model.specs.Plans.{Move}
use Rattle.yak_model.specs.Stands.{Stands, words_in, words_taken}
use Rattle.relocation.specs.Moves.{move_at, size_at, words_moved}
use Rattle.escape_closure.specs.Ends.{PlanReady}
use Rattle.escape_closure.proofs.Leads.{moved_at, size_now}
use Rattle.escape_closure.proofs.Tells.{sum_falls}

-- an object has at least three words
pub three_each : (heap : List ℕ) (count : ℕ) (moves : ℕ → Move) → 3 * count ≤ words_moved heap count moves
unfolding words_moved
three_each heap zero moves = omega arith
three_each heap (suc k) moves = let rest = three_each heap k moves in omega (arith, rest)

cond_more : (x a b w : ℕ) → a ≤ b → cond (nat_lt x a) w 0 ≤ cond (nat_lt x b) w 0
cond_more x a b w le = grind (arith, nat_tests)

cond_own : (x a b w : ℕ) → x ≡ a → a < b → cond (nat_lt x a) w 0 + w ≤ cond (nat_lt x b) w 0
cond_own x a b w e lt = grind (arith, nat_tests)

cond_most : (x b w : ℕ) → cond (nat_lt x b) w 0 ≤ w
cond_most x b w = grind (arith, nat_tests)

module _ (m : Areas) (before c : Contents) (s : SpaceState) (stands : Stands m before s) (t count : ℕ) (areas : IsAreas m) (some : 1 ≤ t) (ready : PlanReady m before c s stands t count) where
  -- the words of an object of the region that lies below an address, and of all these
  abbrev pub below : ℕ → Name → ℕ
  below limit n = cond (nat_lt (stands.places.at n) limit) (words_in (innermost s.graph t) (object_of s n)) 0

  abbrev pub all_below : ℕ → ℕ
  all_below limit = sum_by (λ (ns : List Name). sum_by (below limit) ns) stands.places.pages

  below_more : (a b : ℕ) → a ≤ b → (n : Name) → below a n ≤ below b n
  below_more a b le n = cond_more (stands.places.at n) a b (words_in (innermost s.graph t) (object_of s n)) le

  -- an object that lies there
  one_more : (n : Name) (p k a b : ℕ) → IsAt stands.places n p k → stands.places.at n ≡ a → a < b → all_below a + words_in (innermost s.graph t) (object_of s n) ≤ all_below b
  one_more n p k a b at here lt =
      let v : ℕ = words_in (innermost s.graph t) (object_of s n) in
      let le : a ≤ b = omega (arith, lt) in
      let own : below a n + v ≤ below b n = cond_own (stands.places.at n) a b v here lt in
      sum_falls (λ (ns : List Name). sum_by (below a) ns) (λ (ns : List Name). sum_by (below b) ns) stands.places.pages p v [] at.page
      (λ ns. sum_by-le-sum_by (below a) (below b) ns (below_more a b le))
      (sum_falls (below a) (below b) (names_of stands.places p) k v n at.place (below_more a b le) (subst (λ x. below a x + v ≤ below b x) (sym at.name) own))

  moved_below : (k limit : ℕ) → k ≤ count → ((j : ℕ) → j < k → (move_at c.scratch j).old < limit) → words_moved c.heap k (move_at c.scratch) ≤ all_below limit
  unfolding words_moved
  moved_below zero limit le low = omega arith
  moved_below (suc k) limit le low =
      let lt : k < count = omega (arith, le) in
      let old : ℕ = (move_at c.scratch k).old in
      let w = moved_at m before c s stands t count areas some ready k lt in
      let size = size_now m before c s stands t count areas some ready k lt in
      let at = stands.stands.heap.present w.name w.thing w.present in
      let same : (space_index w.thing.home == space_index (innermost s.graph t)) ≡ true = eq-eqb (space_index w.thing.home) (space_index (innermost s.graph t)) (ap space_index w.home) in
      let own : words_in (innermost s.graph t) (object_of s w.name) ≡ size_at c.heap old = rw (w.present, same) (sym size) in
      let rest = moved_below k old (omega (arith, lt)) (λ j lj. ready.numbered.ascending j k lj lt) in
      let more = one_more w.name at.0 at.1 old limit at.2 w.place (low k (omega arith)) in
      omega (arith, rest, more, own)

  pub moved_few : words_moved c.heap count (move_at c.scratch) ≤ words_taken stands.places.pages (object_of s) (innermost s.graph t)
  moved_few =
      let all = moved_below count (heap_length m) (omega arith) (λ k lt. let w = ready.numbered.within k lt in omega (arith, w)) in
      let most = sum_by-le-sum_by (λ (ns : List Name). sum_by (below (heap_length m)) ns) (λ (ns : List Name). sum_by (λ (n : Name). words_in (innermost s.graph t) (object_of s n)) ns) stands.places.pages (λ ns. sum_by-le-sum_by (below (heap_length m)) (λ (n : Name). words_in (innermost s.graph t) (object_of s n)) ns (λ n. cond_most (stands.places.at n) (heap_length m) (words_in (innermost s.graph t) (object_of s n)))) in
      omega (arith, all, most)
