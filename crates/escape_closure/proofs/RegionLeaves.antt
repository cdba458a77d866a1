-- What the end of a region leaves.
use Rattle.std.proofs.Common.{◌≡◌, ◌≢◌, ◌⊎◌, ◌↔◌, ℕ, ◌+◌, ◌-◌, ◌/◌, ◌≤◌, ◌<◌, false, not, eqb, Option, List, length, set, refl, sym, ap, subst, ◌∙◌, arith, inl, inr}
use Rattle.std.specs.List.{Contains}
use Rattle.std.proofs.lemmas.Bool.{cases_eq}
use Rattle.std.proofs.lemmas.List.{drop-set-lt, length-map}
use Rattle.std.proofs.Math.Logic.{⊎_elim}
use Rattle.object_layout.specs.declared.names.Name.{Name}
use Rattle.heap_words.specs.declared.map.Areas.{Areas}
use Rattle.heap_words.specs.Map.{HasThread, IsAreas, heap_length, page_words}
use Rattle.heap_words.specs.Cells.{row_set}
use Rattle.heap_words.specs.Contents.{Contents, InLimits, depth_of, with_depth, with_readers}
use Rattle.epoch_lattice.specs.declared.Space.{Space}
use Rattle.epoch_lattice.specs.declared.Space.TheVariants.{Region}
use Rattle.epoch_lattice.specs.declared.TheConstants.{MAX_DEPTH}
use Rattle.epoch_lattice.specs.Lattice.{IsValid, space_index}
use Rattle.yak_model.specs.Spaces.{SpaceState, innermost}
use Rattle.yak_model.specs.State.{IsClosed, IsOpen, Thing, object_of, view}
use Rattle.yak_model.specs.Placed.{HeapStands, Places, size_by, space_word}
use Rattle.yak_model.specs.Plans.{Move, without}
use Rattle.yak_model.specs.Chains.{IsRegionOf}
use Rattle.yak_model.specs.Stands.{CurrentsStand, PoolStands, RegionsDense, Stands, claim_counter, free_pages, unused_heads}
use Rattle.region_pages.specs.Freeing.{freed as freed_row, freed_table, free_below, pool_with, with_released}
use Rattle.region_pages.specs.declared.TheConstants.{CLAIM_COUNTER, POOL_LENGTH}
use Rattle.region_pages.proofs.Shapes.{Shape}
use Rattle.relocation.specs.Moves.{move_at}
use Rattle.relocation.proofs.Lawful.{by_move-at}
use Rattle.remember_sets.specs.Filed.{ChainsBecome, SetsHold, all_filed, chain, outside, page_word, with_sets}
use Rattle.remember_sets.proofs.Folded.{all_filed-same, with_sets-step}
use Rattle.remember_sets.proofs.Outside.{filter-alike}
use Rattle.forwarding.specs.Crossing.{AreFiled}
use Rattle.forwarding.specs.Pool.{PoolAnew}
use Rattle.forwarding.specs.Slots.{slots_brought}
use Rattle.forwarding.proofs.Anew.{claims_again, pool_anew}
use Rattle.escape_closure.specs.Needs.{pages_needed}
use Rattle.escape_closure.specs.Ends.{RegionEnded, StateEnded, region_word}
use Rattle.escape_closure.specs.InTurn.{StandInTurn}
use Rattle.escape_closure.specs.Leaves.{RestKept}
use Rattle.escape_closure.specs.Leaving.{Carried, EndMoves, Leaves, RegionReady, left_behind, objects_left}
use Rattle.escape_closure.proofs.Brought.{few_outside, same_test}
use Rattle.escape_closure.proofs.Carries.{innermost_valid, rest}
use Rattle.escape_closure.proofs.Filable.{Filable, filable}
use Rattle.escape_closure.proofs.InTurn.{in_turn_beside, in_turn_between, in_turn_same, released_free, released_table}
use Rattle.escape_closure.proofs.Leaves.{ended_places, rest_kept, state_ended}
use Rattle.escape_closure.proofs.LeftFields.{Lies}
use Rattle.escape_closure.proofs.Readies.{end_moves, plan_frame, region_ready}
use Rattle.escape_closure.proofs.Releases.{later, other_word, region_dense, region_stands, space_of_valid, spaces_left}
use Rattle.escape_closure.proofs.Written.{innermost_region, region_is}

module _ (m : Areas) (before mid c : Contents) (s : SpaceState) (st : Stands m before s) (t count : ℕ) (areas : IsAreas m) (has : HasThread m t) (low : 1 ≤ depth_of before t) (r : RegionReady m before mid c s st t count) (shape : Shape m c) (depth : ℕ) (is : depth ≡ depth_of before t) (moved : Contents) (carried : Carried m c moved s st.places t count) where
  abbrev l : Places
  l = st.places

  abbrev moves : ℕ → Move
  moves = move_at c.scratch

  abbrev left : Name → Option Thing
  left = objects_left s l t count moves

  valid : IsValid MAX_DEPTH (innermost s.graph t)
  valid = innermost_valid m before s st t areas has low

  own : IsRegionOf m (innermost s.graph t)
  own = innermost_region m before s st t has low

  e : EndMoves s l t count moves false
  e = end_moves m before mid c s st t count areas has r

  region : innermost s.graph t ≡ Region t depth
  region = region_is m before s st t depth has is (omega (arith, is, low))

  closed : IsClosed (without (view s) (left_behind s l t count moves))
  closed = (r.planned.lawful (left_behind s l t count moves) (rest m before c s st t count false areas has low (region_ready m before mid c s st t count areas has r))).closed

  targets_valid : (k : ℕ) → k < count → IsValid MAX_DEPTH (moves k).space
  targets_valid k lt = subst (IsValid MAX_DEPTH) (sym (r.planned.moves k lt).1) (space_of_valid m (r.planned.order.target k) areas (r.planned.spaces k lt).0)

  base_frame : c ≡ record before { heads = c.heads; currents = c.currents; table = c.table; scratch = c.scratch; heap = c.heap }
  base_frame = plan_frame m before mid c s st t count areas has r

  mid_table : (p : ℕ) → space_word mid.table p ≡ space_word before.table p
  mid_table p = ap (λ (x : Contents). space_word x.table p) r.written.frame

  -- ---- the slots outside the region, in the words before and in the planned ones

  lies_later : (a : ℕ) → a / page_words m < m.pages → page_word m before a ≡ region_word s t → page_word m c a ≡ region_word s t
  lies_later a lt h = r.planned.kept (a / page_words m) lt (λ z. omega (arith, z, h, mid_table (a / page_words m))) ∙ mid_table (a / page_words m) ∙ h

  lies_before : (a : ℕ) → a / page_words m < m.pages → page_word m c a ≡ region_word s t → page_word m before a ≡ region_word s t
  lies_before a lt h = ⊎_elim
      (λ (own_page : space_word mid.table (a / page_words m) ≡ region_word s t). sym (mid_table (a / page_words m)) ∙ own_page)
      (λ (other : space_word mid.table (a / page_words m) ≢ region_word s t). absurd (other_word m before mid c s st t count areas has low r shape.table (a / page_words m) lt other h))
      (cases_eq (space_word mid.table (a / page_words m)) (region_word s t))

  outside_before : (x : Space) → IsRegionOf m x → outside m c (innermost s.graph t) (chain m c x) ≡ outside m before (innermost s.graph t) (chain m before x)
  outside_before x of_heap =
      let same : chain m c x ≡ chain m before x = ap (λ (y : Contents). chain m y x) base_frame in
      let tests : (a : ℕ) → a < heap_length m → not (eqb (page_word m c a) (region_word s t)) ≡ not (eqb (page_word m before a) (region_word s t)) = λ a lt. ap not (same_test (page_word m c a) (page_word m before a) (region_word s t) (lies_before a (omega (arith, lt))) (lies_later a (omega (arith, lt)))) in
      ap (outside m c (innermost s.graph t)) same ∙ filter-alike (λ a. not (eqb (page_word m c a) (region_word s t))) (λ a. not (eqb (page_word m before a) (region_word s t))) (λ a. a < heap_length m) tests (chain m before x) (st.stands.sets.within x of_heap)

  module _ (freed : Contents) (released : freed ≡ with_released moved (Region t depth)) where
    freed_words : freed.table ≡ freed_table (region_word s t) c.table
    freed_words =
        ap (λ (x : Contents). x.table) released
        ∙ ap (λ (x : Contents). freed_table (space_index (Region t depth) + 1) x.table) carried.frame
        ∙ ap (λ (y : Space). freed_table (space_index y + 1) c.table) (sym region)

    freed_heap : freed.heap ≡ moved.heap
    freed_heap = ap (λ (x : Contents). x.heap) released

    freed_scratch : freed.scratch ≡ c.scratch
    freed_scratch = ap (λ (x : Contents). x.scratch) released ∙ ap (λ (x : Contents). x.scratch) carried.frame

    abbrev lies : Lies m s st.places t count (move_at c.scratch) freed (later m before mid c s st t count areas has low r shape.table)
    lies = record {
      at = refl;
      heap = subst (λ (ts : List (List ℕ)). HeapStands m ts freed.heap left (later m before mid c s st t count areas has low r shape.table) (λ _. 0)) (sym freed_words) (subst (λ (h : List ℕ). HeapStands m (freed_table (region_word s t) c.table) h left (later m before mid c s st t count areas has low r shape.table) (λ _. 0)) (sym freed_heap) (region_stands m before mid c s st t count areas has low r shape.table moved.heap carried.holds));
      spaces = subst (λ (ts : List (List ℕ)). (p : ℕ) → p < m.pages → (space_word ts p ≡ 0) ⊎ ((x : Space) × (space_word ts p ≡ space_index x + 1) × IsOpen (view s).depths x × (x ≢ innermost s.graph t))) (sym freed_words) (spaces_left m before mid c s st t count areas has low r shape.table);
      closed = closed;
    }

    freed_chain : (x : Space) → IsRegionOf m x → chain m freed x ≡ outside m before (innermost s.graph t) (chain m before x)
    freed_chain x of_heap = ap (λ (y : Contents). chain m y x) released ∙ carried.filed x of_heap ∙ outside_before x of_heap

    pub freed_sets : SetsHold m freed
    freed_sets = subst (SetsHold m) (sym released) carried.sets

    -- the chain of the region has no more slots than before
    pub freed_few : length (chain m freed (Region t depth)) ≤ length (chain m c (innermost s.graph t))
    freed_few =
        let kept = ap (λ (slots : List ℕ). length slots) (ap (chain m freed) (sym region) ∙ freed_chain (innermost s.graph t) own) in
        let same = ap (λ (y : Contents). length (chain m y (innermost s.graph t))) base_frame in
        omega (arith, kept, same, few_outside m before (innermost s.graph t) (chain m before (innermost s.graph t)))

    pub freed_filable : Filable m freed (Region t depth) count
    freed_filable = filable m before s st r.filed.recorded areas t count has low moves false e targets_valid freed (later m before mid c s st t count areas has low r shape.table) lies (Region t depth) region (freed_chain (innermost s.graph t) own) (ap move_at freed_scratch)

    module _ (refiled filed d : Contents) (pool : PoolStands m freed.heads freed.pool freed.table) (currents : CurrentsStand m moved.currents moved.table → CurrentsStand m freed.currents freed.table) (free : (p : ℕ) → Contains (free_pages freed.heads freed.pool) p ↔ ((p < m.pages) × ((space_word moved.table p ≡ 0) ⊎ (space_word moved.table p ≡ space_index (Region t depth) + 1)))) (refiling : ChainsBecome m freed refiled (λ x slots. all_filed m freed x (chain m freed (Region t depth)) slots)) (first : refiled ≡ with_sets freed refiled) (recording : ChainsBecome m refiled filed (λ x slots. all_filed m refiled x (slots_brought refiled.heap count (move_at refiled.scratch)) slots)) (sets : SetsHold m filed) (second : filed ≡ with_sets refiled filed) (ends : d ≡ with_depth (with_readers filed t (depth_of filed t) 0) t (depth_of filed t - 1)) (limits : InLimits m d) where
      others : filed ≡ with_sets freed filed
      others = with_sets-step freed refiled filed first second

      -- ---- the words, area by area

      d_table : d.table ≡ freed.table
      d_table = ap (λ (x : Contents). x.table) ends ∙ ap (λ (x : Contents). x.table) others

      d_heap : d.heap ≡ freed.heap
      d_heap = ap (λ (x : Contents). x.heap) ends ∙ ap (λ (x : Contents). x.heap) others

      d_heads : d.heads ≡ freed.heads
      d_heads = ap (λ (x : Contents). x.heads) ends ∙ ap (λ (x : Contents). x.heads) others

      d_pool : d.pool ≡ freed.pool
      d_pool = ap (λ (x : Contents). x.pool) ends ∙ ap (λ (x : Contents). x.pool) others

      table_is : d.table ≡ freed_table (region_word s t) c.table
      table_is = d_table ∙ freed_words

      currents_is : d.currents ≡ row_set c.currents (t - 1) depth 0
      currents_is =
          ap (λ (x : Contents). x.currents) ends ∙ ap (λ (x : Contents). x.currents) others ∙ ap (λ (x : Contents). x.currents) released
          ∙ ap (λ (x : Contents). row_set x.currents (t - 1) depth 0) carried.frame

      depth_filed : depth_of filed t ≡ depth_of before t
      depth_filed =
          ap (λ (x : Contents). depth_of x t) others ∙ ap (λ (x : Contents). depth_of x t) released ∙ ap (λ (x : Contents). depth_of x t) carried.frame
          ∙ ap (λ (x : Contents). depth_of x t) base_frame

      depths_is : d.depths ≡ set before.depths (t - 1) (depth_of before t - 1)
      depths_is =
          ap (λ (x : Contents). x.depths) ends ∙ ap (λ i. set filed.depths (t - 1) (i - 1)) depth_filed
          ∙ ap (λ (ds : List ℕ). set ds (t - 1) (depth_of before t - 1)) (ap (λ (x : Contents). x.depths) others ∙ ap (λ (x : Contents). x.depths) released ∙ ap (λ (x : Contents). x.depths) carried.frame ∙ ap (λ (x : Contents). x.depths) base_frame)

      readers_is : d.readers ≡ row_set before.readers (t - 1) (depth_of before t - 1) 0
      readers_is =
          ap (λ (x : Contents). x.readers) ends ∙ ap (λ i. row_set filed.readers (t - 1) (i - 1) 0) depth_filed
          ∙ ap (λ (rs : List (List ℕ)). row_set rs (t - 1) (depth_of before t - 1) 0) (ap (λ (x : Contents). x.readers) others ∙ ap (λ (x : Contents). x.readers) released ∙ ap (λ (x : Contents). x.readers) carried.frame ∙ ap (λ (x : Contents). x.readers) base_frame)

      freed_heads : freed.heads ≡ set (set moved.heads CLAIM_COUNTER 0) POOL_LENGTH (length (free_below (freed_table (space_index (Region t depth) + 1) moved.table) (length (freed_table (space_index (Region t depth) + 1) moved.table))))
      freed_heads = ap (λ (x : Contents). x.heads) released

      moved_heads : moved.heads ≡ c.heads
      moved_heads = ap (λ (x : Contents). x.heads) carried.frame

      unused_is : unused_heads d.heads ≡ unused_heads before.heads
      unused_is =
          ap unused_heads d_heads ∙ ap unused_heads freed_heads
          ∙ drop-set-lt 3 (set moved.heads CLAIM_COUNTER 0) POOL_LENGTH _ (omega arith) ∙ drop-set-lt 3 moved.heads CLAIM_COUNTER 0 (omega arith)
          ∙ ap unused_heads moved_heads
          ∙ ap (λ (x : Contents). unused_heads x.heads) r.planned.frame ∙ drop-set-lt 3 mid.heads 1 (claim_counter c.heads) (omega arith) ∙ ap (λ (x : Contents). unused_heads x.heads) r.written.frame

      -- ---- the chains

      all_as : (x : Space) (l k slots : List ℕ) → l ≡ k → (y : Contents) → y.heap ≡ d.heap → y.table ≡ d.table → all_filed m y x l slots ≡ all_filed m d x k slots
      all_as x l k slots same y heap table = all_filed-same m d y x l slots heap table ∙ ap (λ (z : List ℕ). all_filed m d x z slots) same

      chains_is : ChainsBecome m before d (λ x slots. all_filed m d x (slots_brought d.heap count moves) (all_filed m d x (outside m before (innermost s.graph t) (chain m before (innermost s.graph t))) (outside m before (innermost s.graph t) slots)))
      chains_is x of_heap =
          let heap : refiled.heap ≡ d.heap = ap (λ (y : Contents). y.heap) first ∙ sym d_heap in
          let table : refiled.table ≡ d.table = ap (λ (y : Contents). y.table) first ∙ sym d_table in
          let scratch : refiled.scratch ≡ c.scratch = ap (λ (y : Contents). y.scratch) first ∙ freed_scratch in
          let brought : slots_brought refiled.heap count (move_at refiled.scratch) ≡ slots_brought d.heap count moves = ap (λ (h : List ℕ). slots_brought h count (move_at refiled.scratch)) heap ∙ ap (λ (w : List ℕ). slots_brought d.heap count (move_at w)) scratch in
          let kept : chain m freed (Region t depth) ≡ outside m before (innermost s.graph t) (chain m before (innermost s.graph t)) = ap (chain m freed) (sym region) ∙ freed_chain (innermost s.graph t) own in
          ap (λ (y : Contents). chain m y x) ends ∙ recording x of_heap
          ∙ all_as x (slots_brought refiled.heap count (move_at refiled.scratch)) (slots_brought d.heap count moves) (chain m refiled x) brought refiled heap table
          ∙ ap (all_filed m d x (slots_brought d.heap count moves)) (
          refiling x of_heap
          ∙ all_as x (chain m freed (Region t depth)) (outside m before (innermost s.graph t) (chain m before (innermost s.graph t))) (chain m freed x) kept freed (sym d_heap) (sym d_table)
          ∙ ap (all_filed m d x (outside m before (innermost s.graph t) (chain m before (innermost s.graph t)))) (freed_chain x of_heap)
          )

      -- ---- the pages that are free afterwards

      free_after : (p : ℕ) → Contains (free_pages freed.heads freed.pool) p ↔ (Contains (free_pages c.heads c.pool) p ⊎ ((p < m.pages) × (space_word before.table p ≡ region_word s t)))
      free_after p =
          let same : space_word moved.table p ≡ space_word c.table p = ap (λ (x : Contents). space_word x.table p) carried.frame in
          let word : space_index (Region t depth) + 1 ≡ region_word s t = ap (λ (y : Space). space_index y + 1) (sym region) in (
            λ h.
                let w = (free p).0 h in
                ⊎_elim
                (λ (z : space_word moved.table p ≡ 0). inl ((r.planned.pool.free p).1 (w.0, sym same ∙ z)))
                (λ (of_region : space_word moved.table p ≡ space_index (Region t depth) + 1).
                inr (
                  w.0,
                  ⊎_elim
                      (λ (was : space_word mid.table p ≡ region_word s t). sym (mid_table p) ∙ was)
                      (λ (other : space_word mid.table p ≢ region_word s t). absurd (other_word m before mid c s st t count areas has low r shape.table p w.0 other (sym same ∙ of_region ∙ word)))
                      (cases_eq (space_word mid.table p) (region_word s t)),
                ))
                w.1,
            λ h. ⊎_elim
                (λ (f : Contains (free_pages c.heads c.pool) p). let w = (r.planned.pool.free p).0 f in (free p).1 (w.0, inl (same ∙ w.1)))
                (λ (w : (p < m.pages) × (space_word before.table p ≡ region_word s t)).
                let was : space_word mid.table p ≡ region_word s t = mid_table p ∙ w.1 in
                (free p).1 (w.0, inr (same ∙ r.planned.kept p w.0 (λ z. omega (arith, z, was)) ∙ was ∙ sym word)))
                h,
          )

      -- ---- the pool afterwards

      abbrev new_words : List (List ℕ)
      new_words = freed_table (space_index (Region t depth) + 1) moved.table

      d_words : d.table ≡ new_words
      d_words = d_table ∙ ap (λ (x : Contents). x.table) released

      d_long : length d.table ≡ m.pages
      d_long = ap (λ (ts : List (List ℕ)). length ts) d_words ∙ length-map moved.table (freed_row (space_index (Region t depth) + 1)) ∙ ap (λ (x : Contents). length x.table) carried.frame ∙ shape.table

      d_free : free_below new_words (length new_words) ≡ free_below d.table m.pages
      d_free = ap (λ (ts : List (List ℕ)). free_below ts (length ts)) (sym d_words) ∙ ap (free_below d.table) d_long

      anew : PoolAnew m before d
      anew = pool_anew m before d moved.heads moved.pool
          (ap (λ (hs : List ℕ). set hs CLAIM_COUNTER 0) (moved_heads ∙ ap (λ (x : Contents). x.heads) r.planned.frame ∙ ap (λ (x : Contents). set x.heads CLAIM_COUNTER (claim_counter c.heads)) r.written.frame) ∙ claims_again before.heads (claim_counter c.heads))
          (ap (λ (hs : List ℕ). length hs) moved_heads ∙ shape.heads)
          (ap (λ (x : Contents). x.pool) carried.frame ∙ ap (λ (x : Contents). x.pool) base_frame)
          (d_heads ∙ freed_heads ∙ ap (λ (ps : List ℕ). set (set moved.heads CLAIM_COUNTER 0) POOL_LENGTH (length ps)) d_free)
          (d_pool ∙ ap (λ (x : Contents). x.pool) released ∙ ap (λ (ps : List ℕ). pool_with ps moved.pool) d_free)

      leaves : Leaves m before d s l t count moves (later m before mid c s st t count areas has low r shape.table)
      leaves = record {
        at = refl;
        heap = subst (λ (ts : List (List ℕ)). HeapStands m ts d.heap left (later m before mid c s st t count areas has low r shape.table) (λ _. 0)) (sym d_table) (subst (λ (h : List ℕ). HeapStands m freed.table h left (later m before mid c s st t count areas has low r shape.table) (λ _. 0)) (sym d_heap) lies.heap);
        spaces = subst (λ (ts : List (List ℕ)). (p : ℕ) → p < m.pages → (space_word ts p ≡ 0) ⊎ ((x : Space) × (space_word ts p ≡ space_index x + 1) × IsOpen (view s).depths x × (x ≢ innermost s.graph t))) (sym d_table) lies.spaces;
        closed = closed;
        stacks = ap (λ (x : Contents). x.stacks) ends ∙ ap (λ (x : Contents). x.stacks) others ∙ ap (λ (x : Contents). x.stacks) released ∙ carried.stacks;
        depths = depths_is;
        made = ap (λ (x : Contents). x.made) ends ∙ ap (λ (x : Contents). x.made) others ∙ ap (λ (x : Contents). x.made) released ∙ ap (λ (x : Contents). x.made) carried.frame ∙ ap (λ (x : Contents). x.made) base_frame;
        rests = ap (λ (x : Contents). x.rests) ends ∙ ap (λ (x : Contents). x.rests) others ∙ ap (λ (x : Contents). x.rests) released ∙ ap (λ (x : Contents). x.rests) carried.frame ∙ ap (λ (x : Contents). x.rests) base_frame;
        unused = unused_is;
        readers = readers_is;
        buffers = subst AreFiled (sym (ap (λ (x : Contents). x.buffers) ends ∙ ap (λ (x : Contents). x.buffers) others ∙ ap (λ (x : Contents). x.buffers) released ∙ ap (λ (x : Contents). x.buffers) carried.frame ∙ ap (λ (x : Contents). x.buffers) base_frame)) r.filed.filed;
        limits = limits;
        pool = subst (λ (ts : List (List ℕ)). PoolStands m d.heads d.pool ts) (sym d_table) (subst (λ (ps : List ℕ). PoolStands m d.heads ps freed.table) (sym d_pool) (subst (λ (hs : List ℕ). PoolStands m hs freed.pool freed.table) (sym d_heads) pool));
        anew = anew;
        currents = subst (λ (x : Contents). CurrentsStand m x.currents x.table) (sym ends) (subst (λ (x : Contents). CurrentsStand m x.currents x.table) (sym others) (currents (subst (λ (x : Contents). CurrentsStand m x.currents x.table) (sym carried.frame) r.planned.currents)));
        sets = subst (SetsHold m) (sym ends) sets;
        dense = subst (λ (ts : List (List ℕ)). RegionsDense m ts d.currents (later m before mid c s st t count areas has low r shape.table).pages left) (sym table_is) (region_dense m before mid c s st t count areas has low r shape.table d.currents depth is shape.currents shape.slots currents_is);
        filed = chains_is;
      }

      -- where the objects that escaped stand
      state : StateEnded m d s t false count
      state = state_ended m before s st r.filed.recorded r.filed.filed areas t count has low moves false e targets_valid d (later m before mid c s st t count areas has low r shape.table) leaves r.written.counted

      rest_left : RestKept m before d s l t state.after state.stands.places.at
      unfolding state
      rest_left = rest_kept m before s st r.filed.recorded r.filed.filed areas t count has low moves false e targets_valid d (later m before mid c s st t count areas has low r shape.table) leaves r.written.counted

      stands_at : (k : ℕ) → k < count → (moves k).new ≡ state.stands.places.at (r.planned.order.name k)
      unfolding state
      stands_at k lt =
          let n : Name = r.planned.order.name k in
          let leads = by_move-at count moves (λ v. v.new) (l.at n) (l.at n) k e.ascending lt (sym (r.planned.moves k lt).0) in
          let places = ended_places m before s st r.filed.recorded r.filed.filed areas t count has low moves false e targets_valid d (later m before mid c s st t count areas has low r shape.table) leaves r.written.counted in
          sym leads ∙ ap (λ (p : Places). p.at n) (sym places)

      free_same : free_pages d.heads d.pool ≡ free_pages freed.heads freed.pool
      free_same = ap (λ (hs : List ℕ). free_pages hs d.pool) d_heads ∙ ap (free_pages freed.heads) d_pool

      stand_in_turn : StandInTurn m before d s l t count r.planned.order state.stands.places.at
      stand_in_turn =
          let last : Contents = record c { scratch = before.scratch; heap = before.heap } in
          let to = r.planned.order.target in
          let sizes : ℕ → ℕ = λ k. size_by (object_of s) (r.planned.order.name k) in
          let first_turn = in_turn_beside m t count to sizes (λ k. (moves k).new) mid (record c { scratch = mid.scratch; heap = mid.heap }) before.scratch before.heap r.planned.in_turn in
          let turn = in_turn_between m t count to sizes (λ k. (moves k).new) (record mid { scratch = before.scratch; heap = before.heap }) before last last (ap (λ (x : Contents). record x { scratch = before.scratch; heap = before.heap }) r.written.frame) refl first_turn in
          record {
            last = last;
            placed = in_turn_same m t count to to sizes sizes (λ k. (moves k).new) (λ k. state.stands.places.at (r.planned.order.name k)) before last (λ k lt. refl) (λ k lt. refl) stands_at turn;
            left = with_released last (innermost s.graph t);
            released = refl;
            table = table_is ∙ sym (released_table last (innermost s.graph t));
            currents = currents_is ∙ ap (λ (y : Space). (with_released last y).currents) (sym region);
            free =
                free_same
                ∙ ap (λ (x : Contents). free_pages x.heads x.pool) released
                ∙ released_free moved last (Region t depth) moved_heads (ap (λ (x : Contents). x.pool) carried.frame) (ap (λ (x : Contents). x.table) carried.frame)
                ∙ ap (λ (y : Space). free_pages (with_released last y).heads (with_released last y).pool) (sym region);
          }

      pub region_ended : RegionEnded m before d s st t count
      region_ended =
          let was : free_pages mid.heads mid.pool ≡ free_pages before.heads before.pool = ap (λ (x : Contents). free_pages x.heads x.pool) r.written.frame in
          record {
            state = state;
            rest = rest_left;
            order = r.planned.order;
            enough = subst (λ (x : Contents). pages_needed m x s l t count r.planned.order ≤ length (free_pages x.heads x.pool)) r.written.frame r.planned.enough;
            claimed = r.planned.claimed;
            left = free_pages c.heads c.pool;
            former = sym was ∙ r.planned.free;
            claims = r.planned.claims ∙ ap (λ (x : Contents). pages_needed m x s l t count r.planned.order) r.written.frame;
            free = λ p. subst (λ (xs : List ℕ). Contains xs p ↔ (Contains (free_pages c.heads c.pool) p ⊎ ((p < m.pages) × (space_word before.table p ≡ region_word s t)))) (sym free_same) (free_after p);
            in_turn = stand_in_turn;
          }
