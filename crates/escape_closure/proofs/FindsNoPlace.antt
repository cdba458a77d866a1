-- Objects that need more pages than are free run out of room.
use Rattle.std.proofs.Common.{◌≡◌, ◌≢◌, ◌⊎◌, ◌==◌, ℕ, ◌+◌, ◌-◌, ◌*◌, ◌≤◌, ◌<◌, cond, List, [], Some, zero, suc, set, get_or, length, length-set, refl, sym, ap, subst, ◌∙◌, arith, inl, inr, get_or-set_same, get_or-set_other}
use Rattle.std.proofs.lemmas.Bool.{cases_eq, cases_lt}
use Rattle.std.proofs.lemmas.List.{set_past}
use Rattle.epoch_lattice.specs.declared.Space.{Space}
use Rattle.epoch_lattice.specs.declared.Space.TheVariants.{Control, Region}
use Rattle.epoch_lattice.specs.Lattice.{space_index}
use Rattle.epoch_lattice.proofs.Numbers.{number-reads_back}
use Rattle.heap_words.specs.declared.map.Areas.{Areas}
use Rattle.heap_words.specs.Map.{HasThread, IsAreas, page_words}
use Rattle.heap_words.specs.Cells.{row, row_set}
use Rattle.heap_words.specs.Contents.{Contents, with_current}
use Rattle.yak_model.specs.Packed.{IsSpaceOf}
use Rattle.yak_model.specs.Placed.{used_mark}
use Rattle.yak_model.specs.Stands.{CurrentsStand, PoolStands, claim_counter, current, free_pages, pool_length}
use Rattle.region_pages.specs.Pages.{with_claimed}
use Rattle.region_pages.specs.Placement.{IsOwn, IsPlaced, depth_in, with_used, words_left_at}
use Rattle.region_pages.specs.declared.TheConstants.{CLAIM_COUNTER}
use Rattle.region_pages.proofs.Shapes.{Shape}
use Rattle.region_pages.proofs.Entries.{entry-other, entry-same, space-with_used}
use Rattle.region_pages.proofs.Claims.{currents-claimed, entry, first_free, free_page, none_free, pool-claimed}
use Rattle.region_pages.proofs.Placing.{currents-placed, currents-spaces, pool-spaces}
use Rattle.escape_closure.specs.InTurn.{PlacedInTurn, FindsNoPlace}
use Rattle.escape_closure.specs.Placing.{Filling, filling, owner, room_in, rooms_at}
use Rattle.escape_closure.proofs.Follows.{free_follows, has_owner, is_valid, left_none, rooms_follow}
use Rattle.escape_closure.proofs.InTurn.{in_turn_first, in_turn_more, in_turn_same}
use Rattle.escape_closure.proofs.Placing.{filling_more, filling_none, other_is}
use Rattle.escape_closure.proofs.Rolls.{same_is}

-- ---- the lists stay as long as they are

row_long : (rs : List (List ℕ)) (k j v q : ℕ) → length (row (row_set rs k j v) q) ≡ length (row rs q)
row_long rs k j v q = elim (cases_eq q k) [
  | inr ne ↦ ap (λ (r : List ℕ). length r) (get_or-set_other rs k q (set (row rs k) j v) [] ne)
  | inl e ↦ elim (cases_lt k (length rs)) [
    | inr past ↦ ap (λ (x : List (List ℕ)). length (row x q)) (set_past rs k (set (row rs k) j v) past)
    | inl lt ↦ ap (λ i. length (row (row_set rs k j v) i)) e ∙ ap (λ (r : List ℕ). length r) (get_or-set_same rs k (set (row rs k) j v) [] lt) ∙ length-set (row rs k) j v ∙ ap (λ i. length (row rs i)) (sym e)
  ]
]

shape_used : (m : Areas) (c : Contents) (p u : ℕ) → Shape m c → Shape m (with_used c p u)
shape_used m c p u s = record {
  heads = s.heads;
  pool = s.pool;
  table = length-set c.table p (set (row c.table p) 1 u) ∙ s.table;
  entries = λ q lt. row_long c.table p 1 u q ∙ s.entries q lt;
  currents = s.currents;
  slots = s.slots;
}

shape_claimed : (m : Areas) (c : Contents) (x : Space) (p : ℕ) → Shape m c → Shape m (with_claimed c x p)
shape_claimed m c x p s = record {
  heads = length-set c.heads CLAIM_COUNTER (claim_counter c.heads + 1) ∙ s.heads;
  pool = s.pool;
  table = length-set c.table p (entry x) ∙ s.table;
  entries = λ q lt. elim (cases_eq q p) [
    | inl e ↦ ap (λ i. length (row (set c.table p (entry x)) i)) e ∙ ap (λ (r : List ℕ). length r) (entry-same c.table p (entry x) (omega (arith, e, lt, s.table)))
    | inr ne ↦ ap (λ (r : List ℕ). length r) (entry-other c.table p q (entry x) ne) ∙ s.entries q lt
  ];
  currents = s.currents;
  slots = s.slots;
}

shape_current : (m : Areas) (c : Contents) (t d v : ℕ) → Shape m c → Shape m (with_current c t d v)
shape_current m c t d v s = record {
  heads = s.heads;
  pool = s.pool;
  table = s.table;
  entries = s.entries;
  currents = length-set c.currents (t - 1) (set (row c.currents (t - 1)) d v) ∙ s.currents;
  slots = λ u hu. row_long c.currents (t - 1) d v (u - 1) ∙ s.slots u hu;
}

-- ---- one object after another

-- The first objects are placed, and the words left and the claims are as counted.
pub record Reached (m : Areas) (t : ℕ) (space : ℕ → Space) (size : ℕ → ℕ) (c now : Contents) (k : ℕ) : Type 0 where
  pub address : ℕ → ℕ
  pub placed : PlacedInTurn m t k space size address c now
  pub shape : Shape m now
  pub pool : PoolStands m now.heads now.pool now.table
  pub currents : CurrentsStand m now.currents now.table
  pub rooms : (y : Space) → IsSpaceOf m y → room_in m now t (Some y) ≡ (filling m (rooms_at m c t) (λ j. space_index (space j)) size k).rooms (space_index y)
  pub free : length (free_pages c.heads c.pool) ≡ length (free_pages now.heads now.pool) + (filling m (rooms_at m c t) (λ j. space_index (space j)) size k).claimed

own_thread : (t : ℕ) (x : Space) → IsOwn (owner t x) x
own_thread t Control = tt
own_thread t (Region u d) = refl

module _ (m : Areas) (t : ℕ) (areas : IsAreas m) (has : HasThread m t) (space : ℕ → Space) (size : ℕ → ℕ) (c : Contents) where
  first : Shape m c → PoolStands m c.heads c.pool c.table → CurrentsStand m c.currents c.table → Reached m t space size c c 0
  first shape pool currents =
      let none = filling_none m (rooms_at m c t) (λ j. space_index (space j)) size in
      record {
        address = λ k. 0;
        placed = in_turn_first m t space size (λ k. 0) c c refl;
        shape = shape;
        pool = pool;
        currents = currents;
        rooms = λ y oy. ap (room_in m c t) (sym (number-reads_back y (is_valid m y areas oy))) ∙ ap (λ (f : Filling). f.rooms (space_index y)) (sym none);
        free = let z : (filling m (rooms_at m c t) (λ j. space_index (space j)) size 0).claimed ≡ 0 = ap (λ (f : Filling). f.claimed) none in omega (arith, z);
      }

  module _ (now : Contents) (k : ℕ) (r : Reached m t space size c now k) (of : IsSpaceOf m (space k)) (least : 3 ≤ size k) where
    one_more : (a : ℕ) (after : Contents) → IsPlaced m now (owner t (space k)) (space k) (size k) a after → Shape m after → PoolStands m after.heads after.pool after.table → CurrentsStand m after.currents after.table → Reached m t space size c after (k + 1)
    one_more a after p shape pool currents =
        let f : Filling = filling m (rooms_at m c t) (λ j. space_index (space j)) size k in
        let address : ℕ → ℕ = λ j. cond (j == k) a (r.address j) in
        let more = filling_more m (rooms_at m c t) (λ j. space_index (space j)) size k in
        let before : PlacedInTurn m t k space size address c now = in_turn_same m t k space space size size r.address address c now (λ j lt. refl) (λ j lt. refl) (λ j lt. sym (other_is j k a (r.address j) (omega (arith, lt)))) r.placed in
        let next : IsPlaced m now (owner t (space k)) (space k) (size k) (address k) after = subst (λ i. IsPlaced m now (owner t (space k)) (space k) (size k) i after) (sym (same_is k k a (r.address k) refl)) p in
        record {
          address = λ j. cond (j == k) a (r.address j);
          placed = in_turn_more m t k space size address c now after before next;
          shape = shape;
          pool = pool;
          currents = currents;
          rooms = λ y oy. rooms_follow m now after t (size k) (space k) r.shape areas has least of r.currents a r.pool p f r.rooms y oy ∙ ap (λ (g : Filling). g.rooms (space_index y)) (sym more);
          free =
              let follows = free_follows m now after t (size k) (space k) r.shape areas has least of r.currents a r.pool p f r.rooms in
              let claimed = ap (λ (g : Filling). g.claimed) more in
              omega (arith, r.free, follows, claimed);
        }

    abbrev u : ℕ
    u = owner t (space k)

    abbrev d : ℕ
    d = depth_in (space k)

    abbrev page : ℕ
    page = current now.currents (owner t (space k)) (depth_in (space k)) - 1

    in_current : size k ≤ words_left_at m now u d → (after : Contents) × Reached m t space size c after (k + 1)
    in_current fits =
        let some : current now.currents u d ≢ 0 = λ z. (let none = left_none m now u d z in omega (arith, none, fits, least)) in
        let used : ℕ = used_mark now.table page + size k in (
          with_used now page used,
          one_more (page_words m * page + used_mark now.table page) (with_used now page used) (inl (record { fits = fits; address = refl; changed = refl })) (shape_used m now page used r.shape) (pool-spaces m now.heads now.pool now.table (row_set now.table page 1 used) (λ q. space-with_used now.table page q used) r.pool) (currents-spaces m now.currents now.table (row_set now.table page 1 used) (λ q. space-with_used now.table page q used) r.currents),
        )

    on_claimed : words_left_at m now u d < size k → claim_counter now.heads < pool_length now.heads → (after : Contents) × Reached m t space size c after (k + 1)
    on_claimed few lt =
        let x : Space = space k in
        let fresh : ℕ = get_or now.pool (claim_counter now.heads) 0 in
        let taken = first_free now.heads now.pool r.shape.heads lt (omega (arith, r.pool.within, r.shape.pool)) in
        let free = free_page m now.heads now.pool now.table fresh (free_pages (set now.heads 1 (claim_counter now.heads + 1)) now.pool) r.pool taken in
        let claimed : Contents = with_claimed now x fresh in
        let after : Contents = with_current (with_used claimed fresh (size k)) u d (fresh + 1) in
        let shaped = shape_claimed m now x fresh r.shape in
        let pool = pool-claimed m now.heads now.pool now.table fresh x r.shape.heads r.shape.table r.pool lt taken in
        let own = has_owner m t x has of in (
          after,
          one_more (page_words m * fresh) after (inr (few, record { page = fresh; free = taken; address = refl; changed = refl })) (shape_current m (with_used claimed fresh (size k)) u d (fresh + 1) (shape_used m claimed fresh (size k) shaped)) (pool-spaces m claimed.heads claimed.pool claimed.table (row_set claimed.table fresh 1 (size k)) (λ q. space-with_used claimed.table fresh q (size k)) pool) (currents-placed m now claimed x u fresh (size k) r.shape shaped own of (own_thread t x) free.0 free.1 r.currents (currents-claimed m now.currents now.table fresh (entry x) free.1 r.currents) refl),
        )

    next_step : ((after : Contents) × Reached m t space size c after (k + 1)) ⊎ ((words_left_at m now u d < size k) × (free_pages now.heads now.pool ≡ []))
    next_step = elim (cases_lt (words_left_at m now u d) (size k)) [
      | inr fits ↦ inl (in_current fits)
      | inl few ↦ elim (cases_lt (claim_counter now.heads) (pool_length now.heads)) [
        | inl lt ↦ inl (on_claimed few lt)
        | inr past ↦ inr (few, none_free now.heads now.pool past)
      ]
    ]

  module _ (count : ℕ) (spaces : (k : ℕ) → k < count → IsSpaceOf m (space k)) (sizes : (k : ℕ) → k < count → 3 ≤ size k) where
    run : (rest : ℕ) (now : Contents) (k : ℕ) → rest + k ≡ count → Reached m t space size c now k → FindsNoPlace m t count space size c ⊎ ((after : Contents) × Reached m t space size c after count)
    run zero now k e r = inr (now, subst (Reached m t space size c now) (omega (arith, e)) r)
    run (suc rest) now k e r =
        let lt : k < count = omega (arith, e) in
        elim (next_step now k r (spaces k lt) (sizes k lt)) [
          | inl w ↦ run rest w.0 (k + 1) (omega (arith, e)) w.1
          | inr w ↦ inl (record { reached = k; fewer = lt; address = r.address; last = now; placed = r.placed; little = w.0; none = w.1 })
        ]

    pub run_out : Shape m c → PoolStands m c.heads c.pool c.table → CurrentsStand m c.currents c.table → length (free_pages c.heads c.pool) < (filling m (rooms_at m c t) (λ j. space_index (space j)) size count).claimed → FindsNoPlace m t count space size c
    run_out shape pool currents few = elim (run count c 0 (omega arith) (first shape pool currents)) [
      | inl w ↦ w
      | inr w ↦ absurd (let f = w.1.free in omega (arith, f, few))
    ]
