-- What a tight end leaves.
use Rattle.std.proofs.Common.{◌≡◌, ◌≢◌, ◌⊎◌, ℕ, ◌+◌, ◌-◌, ◌*◌, ◌/◌, ◌≤◌, ◌<◌, ◌==◌, true, false, Option, Some, List, length, get_or, set, refl, sym, ap, subst, ◌∙◌, arith, inl, inr}
use Rattle.std.proofs.lemmas.Bool.{cases_eq, cases_lt, cases_order, ne_eqb}
use Rattle.std.proofs.lemmas.List.{drop-set-lt}
use Rattle.std.proofs.Math.Logic.{⊎_elim}
use Rattle.object_layout.specs.declared.names.Name.{Name}
use Rattle.heap_words.specs.declared.map.Areas.{Areas}
use Rattle.heap_words.specs.Map.{HasThread, IsAreas, heap_length, max_depth, page_words}
use Rattle.heap_words.specs.Cells.{row, row_set}
use Rattle.heap_words.specs.Contents.{Contents, InLimits, depth_of, with_current, with_depth, with_readers}
use Rattle.epoch_lattice.specs.declared.Space.{Space}
use Rattle.epoch_lattice.specs.declared.Space.TheVariants.{Control, Region}
use Rattle.epoch_lattice.specs.declared.TheConstants.{MAX_DEPTH}
use Rattle.epoch_lattice.specs.Lattice.{IsValid, inner_of, space_index}
use Rattle.epoch_lattice.proofs.Numbers.{number-own}
use Rattle.yak_model.specs.Spaces.{SpaceState, innermost}
use Rattle.yak_model.specs.State.{IsClosed, IsOpen, Thing, object_of, view}
use Rattle.yak_model.specs.Placed.{HeapStands, Holds, Places, names_of, size_by, space_word, used_mark, words_by}
use Rattle.yak_model.specs.Plans.{Move, cleared, forwarded, without}
use Rattle.yak_model.specs.Chains.{IsRegionOf}
use Rattle.yak_model.specs.Stands.{CurrentsStand, PoolStands, RegionsDense, Stands, current, pages_of, unused_heads}
use Rattle.region_pages.specs.Freeing.{free_below, pool_with, with_pool_rebuilt}
use Rattle.region_pages.specs.declared.TheConstants.{CLAIM_COUNTER, POOL_LENGTH}
use Rattle.region_pages.proofs.Entries.{current-cases}
use Rattle.region_pages.proofs.Placing.{length-slots_set}
use Rattle.region_pages.proofs.Released.{inner_region, inner_valid}
use Rattle.region_pages.proofs.Shapes.{Shape}
use Rattle.relocation.specs.Moves.{HasHeader, move_at, size_at}
use Rattle.relocation.specs.Slide.{IsPageOf, brought}
use Rattle.relocation.specs.Slidden.{names_after}
use Rattle.relocation.proofs.Lawful.{by_move-at, by_move-other, kept}
use Rattle.relocation.proofs.Moving.{fields_at-header}
use Rattle.relocation.proofs.Settled.{slide-stands}
use Rattle.relocation.specs.Slide.{TableAfter}
use Rattle.relocation.proofs.SlidLaid.{places_of}
use Rattle.remember_sets.specs.Filed.{ChainsBecome, SetsHold, all_filed, chain, outside, with_sets}
use Rattle.remember_sets.proofs.Folded.{all_filed-same, with_sets-step}
use Rattle.forwarding.specs.Crossing.{AreFiled}
use Rattle.forwarding.specs.Slots.{slots_brought}
use Rattle.forwarding.specs.Pool.{PoolAnew}
use Rattle.forwarding.proofs.Anew.{pool_anew}
use Rattle.escape_closure.specs.Ends.{StateEnded, TightEnded, region_word}
use Rattle.escape_closure.specs.Leaves.{HoldsOne, IsLeftAs, SlidInto}
use Rattle.escape_closure.specs.Leaving.{Carried, EndMoves, Leaves, TightReady, left_behind, objects_left}
use Rattle.escape_closure.proofs.Fates.{left_so, moves_so}
use Rattle.escape_closure.proofs.Leaves.{ended_places, rest_kept, state_ended}
use Rattle.escape_closure.proofs.SlidPages.{holds_one, slid_same}
use Rattle.escape_closure.proofs.Filable.{Filable, filable}
use Rattle.escape_closure.proofs.LeftFields.{Lies}
use Rattle.escape_closure.proofs.Releases.{inner_is, none_of}
use Rattle.escape_closure.proofs.Sums.{pages_alike, words_into-none, words_left}
use Rattle.escape_closure.proofs.TightReadies.{aimless, drops_of, in_order, known, laid, name_escapes, name_is, named, one, rest, slide, small, tight_counts, tight_frame, tight_lawful, tight_moves, valid}
use Rattle.escape_closure.proofs.Written.{innermost_region, region_is}

-- other work words, which are the same for the objects that there are
holds_work : (m : Areas) (heap : List ℕ) (lies leads w w' : Name → ℕ) (objects : Name → Option Thing) → Holds m heap lies leads w objects → ((n : Name) (o : Thing) → objects n ≡ Some o → w n ≡ w' n) → Holds m heap lies leads w' objects
holds_work m heap lies leads w w' objects h same = record {
  within = h.within;
  limits = h.limits;
  stands = λ n o e. let q = h.stands n o e in record { header = q.header; name = q.name; work_word = q.work_word ∙ same n o e; fields = q.fields };
}

no_region : (u d : ℕ) → Control ≡ Region u d → ⊥
no_region u d h = cc

-- the lists of the words before a tight end are as long as those after its plan
pub shape_before : (m : Areas) (before c : Contents) → c ≡ record before { scratch = c.scratch; heap = c.heap } → Shape m c → Shape m before
shape_before m before c frame h =
    let x : Contents = record before { scratch = c.scratch; heap = c.heap } in
    let q : Shape m x = subst (Shape m) frame h in
    record { heads = q.heads; pool = q.pool; table = q.table; entries = q.entries; currents = q.currents; slots = q.slots }

module _ (m : Areas) (before mid c : Contents) (s : SpaceState) (st : Stands m before s) (t count next : ℕ) (areas : IsAreas m) (has : HasThread m t) (low : 1 ≤ depth_of before t) (r : TightReady m before mid c s st t count next) (depth : ℕ) (is : depth ≡ depth_of before t) (moved : Contents) (carried : Carried m c moved s st.places t count) where
  abbrev l : Places
  l = st.places

  abbrev moves : ℕ → Move
  moves = move_at c.scratch

  abbrev slid : ℕ
  slid = region_word s t

  abbrev left : Name → Option Thing
  left = objects_left s st.places t count (move_at c.scratch)

  abbrev work : Name → ℕ
  work n = get_or c.heap (st.places.at n + 2) 0

  region_valid : IsValid MAX_DEPTH (innermost s.graph t)
  region_valid = valid m before mid c s st t count next areas has low r

  abbrev e : EndMoves s st.places t count (move_at c.scratch) true
  e = tight_moves m before mid c s st t count next areas has low r

  region : innermost s.graph t ≡ Region t depth
  region = region_is m before s st t depth has is (omega (arith, is, low))

  abbrev names : ℕ → Name
  names = named m before mid c s st t count next areas has low r

  pub closed : IsClosed (without (view s) (left_behind s st.places t count (move_at c.scratch)))
  closed = (tight_lawful m before mid c s st t count next areas has low r (left_behind s st.places t count moves) (rest m before mid c s st t count next areas has low r)).closed

  to_control : (k : ℕ) → k < count → (moves k).space ≡ Control
  to_control k lt = ((slide m before mid c s st t count next areas has low r).control k lt).0

  pub targets_valid : (k : ℕ) → k < count → IsValid MAX_DEPTH (move_at c.scratch k).space
  targets_valid k lt = subst (IsValid MAX_DEPTH) (sym (to_control k lt)) tt

  mid_frame : mid.table ≡ before.table
  mid_frame = ap (λ (x : Contents). x.table) r.written.frame

  moved_table : moved.table ≡ before.table
  moved_table = ap (λ (x : Contents). x.table) carried.frame ∙ ap (λ (x : Contents). x.table) (tight_frame m before mid c s st t count next areas has low r)

  moved_scratch : moved.scratch ≡ c.scratch
  moved_scratch = ap (λ (x : Contents). x.scratch) carried.frame

  -- one address has one move
  same_move : (j k : ℕ) → j < count → k < count → (moves j).old ≡ (moves k).old → j ≡ k
  same_move j k lj lk q = ⊎_elim
      (λ (same : j ≡ k). same)
      (λ (other : (j < k) ⊎ (k < j)). ⊎_elim
      (λ (less : j < k). absurd (let up = e.ascending j k less lk in omega (arith, up, q)))
      (λ (more : k < j). absurd (let up = e.ascending k j more lj in omega (arith, up, q)))
      other)
      (cases_order j k)

  -- the object of a move at its new place
  pub lands : (k : ℕ) → k < count → HasHeader moved.heap (move_at c.scratch k).new × (size_at moved.heap (move_at c.scratch k).new ≡ size_at mid.heap (move_at c.scratch k).old) × ((move_at c.scratch k).new + size_at moved.heap (move_at c.scratch k).new ≤ heap_length m)
  lands k lt =
      let x = (known m before mid c s st t count next areas has low r).object k lt in
      let n : Name = names k in
      let here : object_of s n ≡ Some x.0 = kept (view s) (left_behind s st.places t count moves) n x.0 x.1 in
      let w = moves_so s st.whole l (one m before mid c s st t count next areas has low r) t count has.0 region_valid moves true e n x.0 k here lt x.2 in
      let at : forwarded count moves l.at n ≡ (moves k).new = w.1.leads ∙ ap (λ i. (moves i).new) (same_move w.1.move k w.1.among lt (sym w.1.old ∙ x.2)) in
      let o : Thing = record x.0 { home = (moves k).space } in
      let stands = carried.holds.stands n o w.0 in
      let limits = carried.holds.limits n o w.0 in
      let within = carried.holds.within n o w.0 in
      let header = ap (λ a. get_or moved.heap a 0) (sym at) ∙ stands.header in
      let size : size_at moved.heap (moves k).new ≡ length x.0.fields + 3 = ap (λ i. i + 3) (fields_at-header moved.heap (moves k).new (record { fields = length o.fields; space = space_index o.home }) limits header) in
      ((record { fields = length o.fields; space = space_index o.home }, limits, header), size ∙ sym x.3, omega (arith, within, at, size))

  -- the page of a move
  pub target : (k : ℕ) → k < count → (q : ℕ) × (q < m.pages) × IsPageOf (region_word s t) mid.table q × ((move_at c.scratch k).new / page_words m ≡ q) × (q < next)
  target k lt =
      let sl = slide m before mid c s st t count next areas has low r in
      let w = (sl.control k lt).1 in
      let placed = sl.placed k lt in
      (w.0, w.1, w.2, (let q : (moves k).new / page_words m ≡ w.0 = omega (arith, w.3, w.4) in q), (let less : w.0 < next = omega (arith, w.3, placed) in less))

  pub in_region : (k : ℕ) → k < count → ((move_at c.scratch k).new / page_words m < next) × IsPageOf (region_word s t) moved.table ((move_at c.scratch k).new / page_words m)
  in_region k lt =
      let w = target k lt in
      (subst (λ i. i < next) (sym w.3) w.4, subst (λ (ts : List (List ℕ)). IsPageOf slid ts ((moves k).new / page_words m)) (mid_frame ∙ sym moved_table) (subst (IsPageOf slid mid.table) (sym w.3) w.2))

  -- the table that settling the pages leaves
  pub settled_table : (table : List (List ℕ)) → ((was : List ℕ) → ((k : ℕ) → k < count → size_at moved.heap (move_at moved.scratch k).new ≡ size_at was (move_at moved.scratch k).old) → ((k : ℕ) → k < count → (move_at moved.scratch k).new ≡ page_words m * ((move_at moved.scratch k).new / page_words m) + brought m was k (move_at moved.scratch) ((move_at moved.scratch k).new / page_words m)) → ((k : ℕ) → k < count → ((move_at moved.scratch k).new / page_words m < next) × IsPageOf (region_word s t) moved.table ((move_at moved.scratch k).new / page_words m)) → TableAfter m (region_word s t) moved.table was table count (move_at moved.scratch) next) → TableAfter m (region_word s t) mid.table mid.heap table count (move_at c.scratch) next
  settled_table table told =
      let at_start = subst (λ (x : List ℕ). (was : List ℕ) → ((k : ℕ) → k < count → size_at moved.heap (move_at x k).new ≡ size_at was (move_at x k).old) → ((k : ℕ) → k < count → (move_at x k).new ≡ page_words m * ((move_at x k).new / page_words m) + brought m was k (move_at x) ((move_at x k).new / page_words m)) → ((k : ℕ) → k < count → ((move_at x k).new / page_words m < next) × IsPageOf (region_word s t) moved.table ((move_at x k).new / page_words m)) → TableAfter m (region_word s t) moved.table was table count (move_at x) next) moved_scratch told in
      let after = at_start mid.heap (λ k lt. (lands k lt).1) (slide m before mid c s st t count next areas has low r).tight in_region in
      subst (λ (ts : List (List ℕ)). TableAfter m slid ts mid.heap table count moves next) (moved_table ∙ sym mid_frame) after

  pub moved_is : moved.table ≡ before.table
  moved_is = moved_table

  abbrev pub later : Places
  later = places_of m (names_after m (region_word s t) mid.table (names_of st.places) count (move_at c.scratch) (named m before mid c s st t count next areas has low r)) (forwarded count (move_at c.scratch) st.places.at)

  -- the work words that are left
  same_work : (n : Name) (p : Thing) → left n ≡ Some p → cleared count moves l.at work n ≡ cleared count moves l.at (λ x. get_or mid.heap (st.places.at x + 2) 0) n
  same_work n p h =
      let w = left_so s st.whole l (one m before mid c s st t count next areas has low r) t count has.0 region_valid moves true e n p h in
      elim w.2 [
        | inl q ↦ by_move-at count moves (λ v. 0) (l.at n) (work n) q.move e.ascending q.among q.old ∙ sym (by_move-at count moves (λ v. 0) (l.at n) (get_or mid.heap (st.places.at n + 2) 0) q.move e.ascending q.among q.old)
        | inr q ↦ by_move-other count moves (λ v. 0) (l.at n) (work n) q.none ∙ (slide m before mid c s st t count next areas has low r).others (l.at n + 2) (λ k lt z. q.none k lt (omega (arith, z))) ∙ sym (by_move-other count moves (λ v. 0) (l.at n) (get_or mid.heap (st.places.at n + 2) 0) q.none)
      ]

  pub tight_stands : (table : List (List ℕ)) → TableAfter m (region_word s t) mid.table mid.heap table count (move_at c.scratch) next → HeapStands m table moved.heap left later (λ _. 0)
  tight_stands table t' = slide-stands m slid mid (view s) l (λ x. get_or mid.heap (st.places.at x + 2) 0) (left_behind s st.places t count moves) c count moves names next r.room table moved.heap (laid m before mid c s st t count next areas has low r) st.stands.closed (small m before mid c s st t count next areas has low r) (drops_of m before mid c s st t count next areas has low r (left_behind s st.places t count moves) (rest m before mid c s st t count next areas has low r))
      (λ n o present far. aimless m before mid c s st t count next areas has low r n o present (λ q. far (ap (λ (y : Space). space_index y + 1) q)))
      (known m before mid c s st t count next areas has low r) (slide m before mid c s st t count next areas has low r) t'
      (holds_work m moved.heap (forwarded count moves l.at) (forwarded count moves l.at) (cleared count moves l.at work) (cleared count moves l.at (λ x. get_or mid.heap (st.places.at x + 2) 0)) left carried.holds same_work)

  -- ---- the page table and the current pages
  module _ (table : List (List ℕ)) (after : TableAfter m (region_word s t) mid.table mid.heap table count (move_at c.scratch) next) (freed : (p : ℕ) → p < m.pages → IsPageOf (region_word s t) before.table p → next ≤ p → space_word table p ≡ 0) (long : length table ≡ m.pages) (long_before : length before.table ≡ m.pages) where
    same_row : (p : ℕ) → (IsPageOf slid before.table p → ⊥) → row table p ≡ row before.table p
    same_row p other = subst (λ (ts : List (List ℕ)). row table p ≡ row ts p) mid_frame (after.others p (λ q. other (subst (λ (ts : List (List ℕ)). IsPageOf slid ts p) mid_frame q)))

    pub own_page : (p : ℕ) → p < m.pages → IsPageOf (region_word s t) before.table p → (space_word table p ≡ 0) ⊎ (space_word table p ≡ 1)
    own_page p lt own = ⊎_elim
        (λ (less : p < next). inr (after.filled p lt (subst (λ (ts : List (List ℕ)). IsPageOf slid ts p) (sym mid_frame) own) less).0)
        (λ (le : next ≤ p). inl (freed p lt own le))
        (cases_lt p next)

    pub other_page : (p : ℕ) → (IsPageOf (region_word s t) before.table p → ⊥) → space_word table p ≡ space_word before.table p
    other_page p other = ap (λ (x : List ℕ). get_or x 0 0) (same_row p other)

    no_one : 1 ≢ slid
    no_one q = let z : space_index (innermost s.graph t) ≡ space_index (Region t depth) = ap space_index region in omega (arith, q, z)

    control_is_not : Control ≢ innermost s.graph t
    control_is_not q = no_region t depth (q ∙ region)

    spaces_left : (p : ℕ) → p < m.pages → (space_word table p ≡ 0) ⊎ ((x : Space) × (space_word table p ≡ space_index x + 1) × IsOpen (view s).depths x × (x ≢ innermost s.graph t))
    spaces_left p lt = ⊎_elim
        (λ (own : space_word before.table p ≡ slid). ⊎_elim (λ (z : space_word table p ≡ 0). inl z) (λ (z : space_word table p ≡ 1). inr (Control, z, tt, control_is_not)) (own_page p lt own))
        (λ (other : space_word before.table p ≢ slid). ⊎_elim
        (λ (z : space_word before.table p ≡ 0). inl (other_page p other ∙ z))
        (λ (x : (x : Space) × (space_word before.table p ≡ space_index x + 1) × IsOpen (view s).depths x). inr (x.0, other_page p other ∙ x.1, x.2, λ q. other (x.1 ∙ ap (λ (y : Space). space_index y + 1) q)))
        (st.stands.open_spaces p lt))
        (cases_eq (space_word before.table p) slid)

    module _ (currents : List (List ℕ)) (shape_threads : length before.currents ≡ m.threads) (shape_slots : (u : ℕ) → HasThread m u → length (row before.currents (u - 1)) ≡ max_depth m + 1) (set_is : currents ≡ row_set before.currents (t - 1) depth 0) where
      inside : t - 1 < length before.currents
      inside = omega (arith, has, shape_threads)

      slot : depth < length (row before.currents (t - 1))
      slot =
          let v = subst (IsValid MAX_DEPTH) region region_valid in
          omega (arith, shape_slots t has, v.3, areas.3)

      cases_of : (u e : ℕ) → 1 ≤ u → ((u ≡ t) × (e ≡ depth) × (current currents u e ≡ 0)) ⊎ (((u ≡ t) × (e ≡ depth) → ⊥) × (current currents u e ≡ current before.currents u e))
      cases_of u e hu = subst (λ (x : List (List ℕ)). ((u ≡ t) × (e ≡ depth) × (current x u e ≡ 0)) ⊎ (((u ≡ t) × (e ≡ depth) → ⊥) × (current x u e ≡ current before.currents u e))) (sym set_is) (current-cases before.currents t depth u e 0 has.0 hu inside slot)

      pub currents_stand : CurrentsStand m currents table
      currents_stand = record {
        belong = λ u e hu le he some.
            ⊎_elim (λ (w : (u ≡ t) × (e ≡ depth) × (current currents u e ≡ 0)). absurd (some w.2))
            (λ (w : ((u ≡ t) × (e ≡ depth) → ⊥) × (current currents u e ≡ current before.currents u e)).
            let size : length (row currents (u - 1)) ≡ length (row before.currents (u - 1)) = ap (λ (x : List (List ℕ)). length (row x (u - 1))) set_is ∙ length-slots_set before.currents t depth u 0 has.0 hu inside in
            let inside_old : e < length (row before.currents (u - 1)) = omega (arith, he, size) in
            let deep : e ≤ max_depth m = omega (arith, inside_old, shape_slots u (hu, le)) in
            let some_old : current before.currents u e ≢ 0 = λ z. some (w.1 ∙ z) in
            let b = st.stands.currents.belong u e hu le inside_old some_old in
            let other : space_word before.table (current before.currents u e - 1) ≢ slid = λ q.
            (let same : space_index (inner_of u e) ≡ space_index (innermost s.graph t) = omega (arith, sym b.1 ∙ q) in
            w.0 (inner_region u e t depth (number-own (inner_of u e) (innermost s.graph t) (inner_valid m u e areas (hu, le) deep) region_valid same ∙ region))) in
            (omega (arith, w.1, b.0), ap (λ (k : ℕ). space_word table (k - 1)) w.1 ∙ other_page (current before.currents u e - 1) other ∙ b.1))
            (cases_of u e hu);
        once = λ u e v f hu lu hv lv some same.
            ⊎_elim (λ (w : (u ≡ t) × (e ≡ depth) × (current currents u e ≡ 0)). absurd (some w.2))
            (λ (w : ((u ≡ t) × (e ≡ depth) → ⊥) × (current currents u e ≡ current before.currents u e)).
            ⊎_elim (λ (z : (v ≡ t) × (f ≡ depth) × (current currents v f ≡ 0)). absurd (some (same ∙ z.2)))
            (λ (z : ((v ≡ t) × (f ≡ depth) → ⊥) × (current currents v f ≡ current before.currents v f)). st.stands.currents.once u e v f hu lu hv lv (λ q. some (w.1 ∙ q)) (sym w.1 ∙ same ∙ z.1))
            (cases_of v f hv))
            (cases_of u e hu);
      }

      same_pages : (x : Space) → space_index x + 1 ≢ slid → space_index x + 1 ≢ 1 → pages_of table x ≡ pages_of before.table x
      same_pages x ne one_ = pages_alike x before.table table (long ∙ sym long_before) (λ p lt. ⊎_elim
          (λ (own : space_word before.table p ≡ slid).
          let gone : space_word table p ≢ space_index x + 1 = λ q. ⊎_elim (λ (z : space_word table p ≡ 0). omega (arith, z, q)) (λ (z : space_word table p ≡ 1). one_ (sym q ∙ z)) (own_page p (omega (arith, lt, long_before)) own) in
          let a : (space_word table p == space_index x + 1) ≡ false = ne_eqb (space_word table p) (space_index x + 1) gone in
          let b : (space_word before.table p == space_index x + 1) ≡ false = ne_eqb (space_word before.table p) (space_index x + 1) (λ q. ne (sym q ∙ own)) in
          a ∙ sym b)
          (λ (other : space_word before.table p ≢ slid). ap (λ (y : ℕ). y == space_index x + 1) (other_page p other))
          (cases_eq (space_word before.table p) slid))

      far_word : (p : ℕ) → p < m.pages → space_word table p ≢ slid
      far_word p lt q = ⊎_elim
          (λ (own : space_word before.table p ≡ slid). ⊎_elim (λ (z : space_word table p ≡ 0). omega (arith, z, q)) (λ (z : space_word table p ≡ 1). no_one (sym z ∙ q)) (own_page p lt own))
          (λ (other : space_word before.table p ≢ slid). other (sym (other_page p other) ∙ q))
          (cases_eq (space_word before.table p) slid)

      no_pages : pages_of table (innermost s.graph t) ≡ 0
      no_pages = none_of (innermost s.graph t) table (λ p lt q. ⊎_elim
          (λ (z : space_word table p ≡ 0). omega (arith, z, q))
          (λ (x : (x : Space) × (space_word table p ≡ space_index x + 1) × IsOpen (view s).depths x × (x ≢ innermost s.graph t)). far_word p (omega (arith, lt, long)) q)
          (spaces_left p (omega (arith, lt, long))))

      pub tight_dense : RegionsDense m table currents later.pages left
      tight_dense u e hu mu he me some = ⊎_elim
          (λ (q : space_index (Region u e) ≡ space_index (innermost s.graph t)).
          absurd (let own : Region u e ≡ innermost s.graph t = number-own (Region u e) (innermost s.graph t) (hu, omega (arith, mu, areas.3), he, omega (arith, me)) region_valid q in
          omega (arith, some, no_pages, ap (pages_of table) own)))
          (λ (ne : space_index (Region u e) ≢ space_index (innermost s.graph t)).
          let apart : Region u e ≢ innermost s.graph t = λ q. ne (ap space_index q) in
          let far : space_index (Region u e) + 1 ≢ slid = λ q. ne (omega (arith, q)) in
          let count_same = same_pages (Region u e) far (omega arith) in
          let d = st.stands.dense u e hu mu he me (omega (arith, some, count_same)) in
          let cur : current currents u e ≡ current before.currents u e = ⊎_elim
          (λ (w : (u ≡ t) × (e ≡ depth) × (current currents u e ≡ 0)). absurd (apart (ap (λ i. Region i e) w.0 ∙ ap (Region t) w.1 ∙ sym region)))
          (λ (w : ((u ≡ t) × (e ≡ depth) → ⊥) × (current currents u e ≡ current before.currents u e)). w.1)
          (cases_of u e hu) in
          let at : ℕ = current before.currents u e - 1 in
          let b = st.stands.currents.belong u e hu mu (omega (arith, me, shape_slots u (hu, mu))) d.0 in
          let inner : inner_of u e ≡ Region u e = inner_is u e he in
          let word : space_word before.table at ≢ slid = λ q. ne (omega (arith, q, b.1, ap space_index inner)) in
          let mark : used_mark table (current currents u e - 1) ≡ used_mark before.table at = ap (λ i. used_mark table (i - 1)) cur ∙ ap (λ (y : List ℕ). get_or y 1 0) (same_row at word) in
          let more = words_left m s st.whole st.stands.closed l t count has.0 region_valid moves true (tight_moves m before mid c s st t count next areas has low r) mid (λ x. get_or mid.heap (st.places.at x + 2) 0) (laid m before mid c s st t count next areas has low r) names (name_is m before mid c s st t count next areas has low r) (name_escapes m before mid c s st t count next areas has low r) (λ k lk. let w = target k lk in subst (λ i. i < m.pages) (sym w.3) w.1) (Region u e) ne in
          let none = words_into-none (λ k. (moves k).space) (λ k. size_by (object_of s) (names k)) (Region u e) count (λ k lk q. let z : 0 ≡ space_index (Region u e) = ap space_index (sym (to_control k lk)) ∙ q in omega (arith, z)) in
          (λ z. d.0 (sym cur ∙ z), omega (arith, d.1, count_same, mark, more, none)))
          (cases_eq (space_index (Region u e)) (space_index (innermost s.graph t)))

  -- ---- the words after the pages are settled
  module _ (settled : Contents) (shape : Shape m before) (after : TableAfter m (region_word s t) mid.table mid.heap settled.table count (move_at c.scratch) next) (freed : (p : ℕ) → p < m.pages → IsPageOf (region_word s t) before.table p → next ≤ p → space_word settled.table p ≡ 0) (long : length settled.table ≡ m.pages) (frame : settled ≡ with_pool_rebuilt (with_current (record moved { table = settled.table }) t depth 0)) where
    base_frame : c ≡ record before { scratch = c.scratch; heap = c.heap }
    base_frame = tight_frame m before mid c s st t count next areas has low r

    settled_heap : settled.heap ≡ moved.heap
    settled_heap = ap (λ (x : Contents). x.heap) frame

    settled_scratch : settled.scratch ≡ c.scratch
    settled_scratch = ap (λ (x : Contents). x.scratch) frame ∙ moved_scratch

    abbrev lies : Lies m s st.places t count (move_at c.scratch) settled later
    lies = record {
      at = refl;
      heap = subst (λ (h : List ℕ). HeapStands m settled.table h left later (λ _. 0)) (sym settled_heap) (tight_stands settled.table after);
      spaces = spaces_left settled.table after freed long shape.table;
      closed = closed;
    }

    own : IsRegionOf m (innermost s.graph t)
    own = innermost_region m before s st t has low

    -- the slots outside the region stay in their chains
    settled_chain : (x : Space) → IsRegionOf m x → chain m settled x ≡ outside m before (innermost s.graph t) (chain m before x)
    settled_chain x of_heap = ap (λ (y : Contents). chain m y x) frame ∙ carried.filed x of_heap ∙ ap (λ (y : Contents). outside m y (innermost s.graph t) (chain m y x)) base_frame

    pub settled_sets : SetsHold m settled
    settled_sets = subst (SetsHold m) (sym frame) carried.sets

    pub settled_filable : Filable m settled (Region t depth) count
    settled_filable = filable m before s st r.filed.recorded areas t count has low moves true e targets_valid settled later lies (Region t depth) region (settled_chain (innermost s.graph t) own) (ap move_at settled_scratch)

    -- ---- and after the slots are filed
    module _ (refiled filed d : Contents) (pool : PoolStands m settled.heads settled.pool settled.table) (refiling : ChainsBecome m settled refiled (λ x slots. all_filed m settled x (chain m settled (Region t depth)) slots)) (first : refiled ≡ with_sets settled refiled) (recording : ChainsBecome m refiled filed (λ x slots. all_filed m refiled x (slots_brought refiled.heap count (move_at refiled.scratch)) slots)) (sets : SetsHold m filed) (second : filed ≡ with_sets refiled filed) (ends : d ≡ with_depth (with_readers filed t (depth_of filed t) 0) t (depth_of filed t - 1)) (limits : InLimits m d) where
      others : filed ≡ with_sets settled filed
      others = with_sets-step settled refiled filed first second

      d_table : d.table ≡ settled.table
      d_table = ap (λ (x : Contents). x.table) ends ∙ ap (λ (x : Contents). x.table) others

      heap_is : d.heap ≡ moved.heap
      heap_is = ap (λ (x : Contents). x.heap) ends ∙ ap (λ (x : Contents). x.heap) others ∙ ap (λ (x : Contents). x.heap) frame

      currents_is : d.currents ≡ row_set before.currents (t - 1) depth 0
      currents_is =
          ap (λ (x : Contents). x.currents) ends ∙ ap (λ (x : Contents). x.currents) others ∙ ap (λ (x : Contents). x.currents) frame
          ∙ ap (λ (x : Contents). row_set x.currents (t - 1) depth 0) carried.frame ∙ ap (λ (x : Contents). row_set x.currents (t - 1) depth 0) base_frame

      depth_filed : depth_of filed t ≡ depth_of before t
      depth_filed =
          ap (λ (x : Contents). depth_of x t) others ∙ ap (λ (x : Contents). depth_of x t) frame ∙ ap (λ (x : Contents). depth_of x t) carried.frame
          ∙ ap (λ (x : Contents). depth_of x t) base_frame

      depths_is : d.depths ≡ set before.depths (t - 1) (depth_of before t - 1)
      depths_is =
          ap (λ (x : Contents). x.depths) ends ∙ ap (λ i. set filed.depths (t - 1) (i - 1)) depth_filed
          ∙ ap (λ (ds : List ℕ). set ds (t - 1) (depth_of before t - 1)) (ap (λ (x : Contents). x.depths) others ∙ ap (λ (x : Contents). x.depths) frame ∙ ap (λ (x : Contents). x.depths) carried.frame ∙ ap (λ (x : Contents). x.depths) base_frame)

      readers_is : d.readers ≡ row_set before.readers (t - 1) (depth_of before t - 1) 0
      readers_is =
          ap (λ (x : Contents). x.readers) ends ∙ ap (λ i. row_set filed.readers (t - 1) (i - 1) 0) depth_filed
          ∙ ap (λ (rs : List (List ℕ)). row_set rs (t - 1) (depth_of before t - 1) 0) (ap (λ (x : Contents). x.readers) others ∙ ap (λ (x : Contents). x.readers) frame ∙ ap (λ (x : Contents). x.readers) carried.frame ∙ ap (λ (x : Contents). x.readers) base_frame)

      d_heads : d.heads ≡ settled.heads
      d_heads = ap (λ (x : Contents). x.heads) ends ∙ ap (λ (x : Contents). x.heads) others

      moved_heads : moved.heads ≡ before.heads
      moved_heads = ap (λ (x : Contents). x.heads) carried.frame ∙ ap (λ (x : Contents). x.heads) base_frame

      unused_is : unused_heads d.heads ≡ unused_heads before.heads
      unused_is =
          ap unused_heads d_heads ∙ ap (λ (x : Contents). unused_heads x.heads) frame
          ∙ drop-set-lt 3 (set moved.heads CLAIM_COUNTER 0) POOL_LENGTH _ (omega arith) ∙ drop-set-lt 3 moved.heads CLAIM_COUNTER 0 (omega arith)
          ∙ ap unused_heads moved_heads

      d_pool : d.pool ≡ settled.pool
      d_pool = ap (λ (x : Contents). x.pool) ends ∙ ap (λ (x : Contents). x.pool) others

      -- ---- the chains

      all_as : (x : Space) (l k slots : List ℕ) → l ≡ k → (y : Contents) → y.heap ≡ d.heap → y.table ≡ d.table → all_filed m y x l slots ≡ all_filed m d x k slots
      all_as x l k slots same y heap table = all_filed-same m d y x l slots heap table ∙ ap (λ (z : List ℕ). all_filed m d x z slots) same

      chains_is : ChainsBecome m before d (λ x slots. all_filed m d x (slots_brought d.heap count moves) (all_filed m d x (outside m before (innermost s.graph t) (chain m before (innermost s.graph t))) (outside m before (innermost s.graph t) slots)))
      chains_is x of_heap =
          let to_heap : settled.heap ≡ d.heap = settled_heap ∙ sym heap_is in
          let heap : refiled.heap ≡ d.heap = ap (λ (y : Contents). y.heap) first ∙ to_heap in
          let table : refiled.table ≡ d.table = ap (λ (y : Contents). y.table) first ∙ sym d_table in
          let scratch : refiled.scratch ≡ c.scratch = ap (λ (y : Contents). y.scratch) first ∙ settled_scratch in
          let here : slots_brought refiled.heap count (move_at refiled.scratch) ≡ slots_brought d.heap count moves = ap (λ (h : List ℕ). slots_brought h count (move_at refiled.scratch)) heap ∙ ap (λ (w : List ℕ). slots_brought d.heap count (move_at w)) scratch in
          let left_over : chain m settled (Region t depth) ≡ outside m before (innermost s.graph t) (chain m before (innermost s.graph t)) = ap (chain m settled) (sym region) ∙ settled_chain (innermost s.graph t) own in
          ap (λ (y : Contents). chain m y x) ends ∙ recording x of_heap
          ∙ all_as x (slots_brought refiled.heap count (move_at refiled.scratch)) (slots_brought d.heap count moves) (chain m refiled x) here refiled heap table
          ∙ ap (all_filed m d x (slots_brought d.heap count moves)) (
          refiling x of_heap
          ∙ all_as x (chain m settled (Region t depth)) (outside m before (innermost s.graph t) (chain m before (innermost s.graph t))) (chain m settled x) left_over settled to_heap (sym d_table)
          ∙ ap (all_filed m d x (outside m before (innermost s.graph t) (chain m before (innermost s.graph t)))) (settled_chain x of_heap)
          )

      -- the pool afterwards
      d_free : free_below settled.table (length settled.table) ≡ free_below d.table m.pages
      d_free = ap (free_below settled.table) long ∙ ap (λ (ts : List (List ℕ)). free_below ts m.pages) (sym d_table)

      anew : PoolAnew m before d
      anew = pool_anew m before d moved.heads moved.pool
          (ap (λ (hs : List ℕ). set hs CLAIM_COUNTER 0) moved_heads)
          (ap (λ (hs : List ℕ). length hs) moved_heads ∙ shape.heads)
          (ap (λ (x : Contents). x.pool) carried.frame ∙ ap (λ (x : Contents). x.pool) base_frame)
          (d_heads ∙ ap (λ (x : Contents). x.heads) frame ∙ ap (λ (ps : List ℕ). set (set moved.heads CLAIM_COUNTER 0) POOL_LENGTH (length ps)) d_free)
          (d_pool ∙ ap (λ (x : Contents). x.pool) frame ∙ ap (λ (ps : List ℕ). pool_with ps moved.pool) d_free)

      pub tight_leaves : Leaves m before d s st.places t count (move_at c.scratch) later
      tight_leaves = record {
        at = refl;
        heap = subst (λ (ts : List (List ℕ)). HeapStands m ts d.heap left later (λ _. 0)) (sym d_table) (subst (λ (h : List ℕ). HeapStands m settled.table h left later (λ _. 0)) (sym heap_is) (tight_stands settled.table after));
        spaces = subst (λ (ts : List (List ℕ)). (p : ℕ) → p < m.pages → (space_word ts p ≡ 0) ⊎ ((x : Space) × (space_word ts p ≡ space_index x + 1) × IsOpen (view s).depths x × (x ≢ innermost s.graph t))) (sym d_table) (spaces_left settled.table after freed long shape.table);
        closed = closed;
        stacks = ap (λ (x : Contents). x.stacks) ends ∙ ap (λ (x : Contents). x.stacks) others ∙ ap (λ (x : Contents). x.stacks) frame ∙ carried.stacks;
        depths = depths_is;
        made = ap (λ (x : Contents). x.made) ends ∙ ap (λ (x : Contents). x.made) others ∙ ap (λ (x : Contents). x.made) frame ∙ ap (λ (x : Contents). x.made) carried.frame ∙ ap (λ (x : Contents). x.made) base_frame;
        rests = ap (λ (x : Contents). x.rests) ends ∙ ap (λ (x : Contents). x.rests) others ∙ ap (λ (x : Contents). x.rests) frame ∙ ap (λ (x : Contents). x.rests) carried.frame ∙ ap (λ (x : Contents). x.rests) base_frame;
        unused = unused_is;
        readers = readers_is;
        buffers = subst AreFiled (sym (ap (λ (x : Contents). x.buffers) ends ∙ ap (λ (x : Contents). x.buffers) others ∙ ap (λ (x : Contents). x.buffers) frame ∙ ap (λ (x : Contents). x.buffers) carried.frame ∙ ap (λ (x : Contents). x.buffers) base_frame)) r.filed.filed;
        limits = limits;
        pool = subst (λ (ts : List (List ℕ)). PoolStands m d.heads d.pool ts) (sym d_table) (subst (λ (ps : List ℕ). PoolStands m d.heads ps settled.table) (sym d_pool) (subst (λ (hs : List ℕ). PoolStands m hs settled.pool settled.table) (sym d_heads) pool));
        anew = anew;
        currents = subst (λ (ts : List (List ℕ)). CurrentsStand m d.currents ts) (sym d_table) (currents_stand settled.table after freed long shape.table d.currents shape.currents shape.slots currents_is);
        sets = subst (SetsHold m) (sym ends) sets;
        dense = subst (λ (ts : List (List ℕ)). RegionsDense m ts d.currents later.pages left) (sym d_table) (tight_dense settled.table after freed long shape.table d.currents shape.currents shape.slots currents_is);
        filed = chains_is;
      }

      -- where the objects that escaped stand
      abbrev state : StateEnded m d s t true count
      state = state_ended m before s st r.filed.recorded r.filed.filed areas t count has low moves true e targets_valid d later tight_leaves (tight_counts m before mid c s st t count next areas has low r)

      stands_at : (k : ℕ) → k < count → (moves k).new ≡ state.stands.places.at (names k)
      stands_at k lt =
          let places = ended_places m before s st r.filed.recorded r.filed.filed areas t count has low moves true e targets_valid d later tight_leaves (tight_counts m before mid c s st t count next areas has low r) in
          sym (ap (λ (l' : Places). l'.at (names k)) places ∙ by_move-at count moves (λ v. v.new) (l.at (names k)) (l.at (names k)) k e.ascending lt (name_is m before mid c s st t count next areas has low r k lt))

      sized : (k : ℕ) → k < count → size_at mid.heap (moves k).old ≡ size_by (object_of s) (names k)
      sized k lt =
          let x = (known m before mid c s st t count next areas has low r).object k lt in
          x.3 ∙ sym (ap words_by (kept (view s) (left_behind s st.places t count moves) (names k) x.0 x.1))

      planned_into : SlidInto m slid mid.table count (λ k. size_at mid.heap (moves k).old) (λ k. (moves k).new)
      planned_into = let sl = slide m before mid c s st t count next areas has low r in record { begins = sl.begins; follows = sl.follows }

      slid_into : SlidInto m slid before.table count (λ k. size_by (object_of s) (names k)) (λ k. state.stands.places.at (names k))
      slid_into = slid_same m slid mid.table before.table count (λ k. size_at mid.heap (moves k).old) (λ k. size_by (object_of s) (names k)) (λ k. (moves k).new) (λ k. state.stands.places.at (names k)) mid_frame sized stands_at planned_into

      -- the page of a move
      page_at : (k p : ℕ) → k < count → state.stands.places.at (names k) / page_words m ≡ p → p < next
      page_at k p lt at =
          let w = target k lt in
          let same = stands_at k lt in
          let q : w.0 ≡ p = sym w.3 ∙ ap (λ a. a / page_words m) same ∙ at in
          subst (λ i. i < next) q w.4

      -- a page of the region before the last one that was filled holds one of the objects
      filled_one : (p : ℕ) → IsPageOf slid before.table p → p < next → HoldsOne m count (λ k. state.stands.places.at (names k)) p
      filled_one p own less =
          let sl = slide m before mid c s st t count next areas has low r in
          ⊎_elim
          (λ (none : count ≡ 0). absurd (let z = sl.unused none in omega (arith, z.0, less)))
          (λ (some : count ≢ 0).
          let k : ℕ = count - 1 in
          let lt : k < count = omega (arith, some) in
          let end = sl.last k (omega (arith, some)) in
          let same = ap (λ a. a / page_words m) (stands_at k lt) in
          let upto : p ≤ state.stands.places.at (names k) / page_words m = omega (arith, end.1, same, less) in
          holds_one m slid before.table count (λ i. size_by (object_of s) (names i)) (λ i. state.stands.places.at (names i)) slid_into
          (λ i li.
          let x = (known m before mid c s st t count next areas has low r).object i li in
          let size : size_by (object_of s) (names i) ≡ length x.0.fields + 3 = sym (sized i li) ∙ x.3 in
          omega (arith, size))
          k p lt own upto)
          (cases_eq count 0)

      left_as : (p : ℕ) → p < m.pages → IsPageOf slid before.table p → IsLeftAs m d.table count (λ k. state.stands.places.at (names k)) p
      left_as p lt own = ⊎_elim
          (λ (less : p < next). inl (ap (λ (ts : List (List ℕ)). space_word ts p) d_table ∙ (after.filled p lt (subst (λ (ts : List (List ℕ)). IsPageOf slid ts p) (sym mid_frame) own) less).0, filled_one p own less))
          (λ (le : next ≤ p). inr (ap (λ (ts : List (List ℕ)). space_word ts p) d_table ∙ freed p lt own le, λ w. let q = page_at w.0 p w.1 w.2 in omega (arith, q, le)))
          (cases_lt p next)

      pub tight_ended : TightEnded m before d s st t count
      tight_ended = record {
        state = state;
        rest = rest_kept m before s st r.filed.recorded r.filed.filed areas t count has low moves true e targets_valid d later tight_leaves (tight_counts m before mid c s st t count next areas has low r);
        order = in_order m before mid c s st t count next areas has low r;
        slid = slid_into;
        region = left_as;
        pages = λ p lt other. ap (λ (ts : List (List ℕ)). row ts p) d_table ∙ same_row settled.table after freed long shape.table p other;
        currents = currents_is ∙ ap (λ k. row_set before.currents (t - 1) k 0) is;
      }
