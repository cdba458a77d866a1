-- The plan of an end in a space state, from the roll whose objects were placed.
use Rattle.std.proofs.Common.{◌≡◌, ◌≢◌, ℕ, ◌+◌, ◌*◌, ◌≤◌, ◌<◌, ◌++◌, Bool, false, List, Ok, Some, set, get_or, length, length-append, refl, sym, ap, subst, ◌∙◌, arith, inl, inr}
use Rattle.std.specs.List.{sum_by}
use Rattle.std.proofs.lemmas.Bool.{cases_eq, cases_order}
use Rattle.std.proofs.lemmas.List.Sums.{sum_by_more_le}
use Rattle.object_layout.specs.declared.names.Name.{Name}
use Rattle.object_layout.specs.declared.TheConstants.{OBJECT_WORDS}
use Rattle.epoch_lattice.specs.declared.Space.TheVariants.{Region}
use Rattle.epoch_lattice.specs.declared.TheConstants.{MAX_DEPTH}
use Rattle.heap_words.specs.declared.map.Areas.{Areas}
use Rattle.heap_words.specs.Map.{HasThread, IsAreas, heap_length, page_words}
use Rattle.heap_words.specs.Contents.{Contents, depth_of}
use Rattle.yak_model.specs.Packed.{IsSpaceOf}
use Rattle.yak_model.specs.Placed.{names_of, size_by, space_word, used_mark}
use Rattle.yak_model.specs.Plans.{AreApart, IsLawfulPlan, Move}
use Rattle.yak_model.specs.Spaces.{SpaceState, innermost}
use Rattle.yak_model.specs.State.{IsOpen, Thing, object_of, view}
use Rattle.yak_model.specs.Stands.{CurrentsStand, PoolStands, Stands, claim_counter, current, free_pages}
use Rattle.yak_model.proofs.Placed.{in_page}
use Rattle.heap_walks.proofs.Objects.{size_is}
use Rattle.region_pages.specs.Pages.{TableFits}
use Rattle.region_pages.specs.declared.TheConstants.{CLAIM_COUNTER}
use Rattle.relocation.specs.Moves.{Numbered, move_at, size_at}
use Rattle.relocation.specs.Slide.{brought}
use Rattle.relocation.proofs.Lawful.{kept}
use Rattle.relocation.proofs.SlidLawful.{keep-case}
use Rattle.escape_closure.specs.Ends.{DropsRest, EndPlanned}
use Rattle.escape_closure.specs.InTurn.{EscapingInTurn}
use Rattle.escape_closure.specs.Needs.{InOrder, RollWeighed, pages_needed}
use Rattle.escape_closure.specs.Placing.{Filling, index_on, rooms_at, size_on}
use Rattle.escape_closure.specs.Planning.{RollPlaced}
use Rattle.escape_closure.specs.Rolls.{Aimed, AimsInside, Rolled}
use Rattle.escape_closure.specs.Targets.{IsEscaping, TargetsWritten}
use Rattle.escape_closure.proofs.Aims.{outer_target, space_of_heap}
use Rattle.escape_closure.proofs.Brings.{brought_up_to, size_told}
use Rattle.escape_closure.proofs.Counting.{count_unique, counts_listed}
use Rattle.escape_closure.proofs.InTurn.{in_turn_beside, in_turn_between}
use Rattle.escape_closure.proofs.Keeps.{closed_kept, not_dropped}
use Rattle.escape_closure.proofs.Placing.{filling_rooms, rooms_scratch}
use Rattle.escape_closure.proofs.Weighed.{aimed, needed_is, order}

-- runs of words in different pages
pages_apart : (m : Areas) (p q a n b k : ℕ) → p ≢ q → page_words m * p ≤ a → a + n ≤ page_words m * p + page_words m → page_words m * q ≤ b → b + k ≤ page_words m * q + page_words m → AreApart a n b k
pages_apart m p q a n b k ne la ha lb hb = elim (cases_order p q) [
  | inl e ↦ absurd (ne e)
  | inr other ↦ elim other [ inl lt ↦ inl (omega arith) | inr gt ↦ inr (omega arith) ]
]

module _ (m : Areas) (b c : Contents) (s : SpaceState) (st : Stands m b s) (t depth escaping : ℕ) (areas : IsAreas m) (has : HasThread m t) (low : 1 ≤ depth) (high : depth ≤ MAX_DEPTH) (written : TargetsWritten m s st.places t b c escaping) (region : innermost s.graph t ≡ Region t depth) (depth_is : depth ≡ depth_of b t) (ready : AimsInside m (aimed m b c s st t depth)) where
  abbrev q : Aimed
  q = aimed m b c s st t depth

  -- as many as there are
  pub as_many : (count : ℕ) → InOrder s st.places t count → count ≡ escaping
  as_many count o = count_unique (IsEscaping s t) count escaping
      (counts_listed (IsEscaping s t) o.name count (λ j k lt lk e. let up = o.ascending j k lt lk in let same : st.places.at (o.name j) ≡ st.places.at (o.name k) = ap st.places.at e in omega (arith, up, same)) o.escaping o.complete)
      written.counted

  module _ (d : Contents) (before after count : ℕ) (p : RollPlaced m q t before d after count) (fits : TableFits m d.table) where
    w : RollWeighed m q t before p.between p.read (Ok count)
    w = p.weighed

    abbrev mid : Contents
    mid = p.between

    abbrev n : ℕ
    n = p.weighed.count

    abbrev roll : Rolled q p.between (heap_length m) p.weighed.count
    roll = p.weighed.roll

    abbrev moves : ℕ → Move
    moves = move_at d.scratch

    abbrev pub in_order : InOrder s st.places t p.weighed.count
    in_order = order m b c s st t depth escaping areas has low high written region p.between before p.read (Ok count) p.weighed

    abbrev words : ℕ → ℕ
    words k = size_by (object_of s) (p.weighed.roll.name k)

    frame : mid ≡ record c { scratch = mid.scratch }
    frame = p.weighed.roll.frame

    mid_heap : mid.heap ≡ c.heap
    mid_heap = ap (λ (x : Contents). x.heap) frame

    mid_table : mid.table ≡ c.table
    mid_table = ap (λ (x : Contents). x.table) frame

    old_table : mid.table ≡ b.table
    old_table = mid_table ∙ ap (λ (x : Contents). x.table) written.frame

    old_at : (k : ℕ) → k < n → (moves k).old ≡ st.places.at (roll.name k)
    old_at k lt = (p.underway.moves k lt).0

    size_of : (k : ℕ) → k < n → size_at mid.heap (moves k).old ≡ words k
    size_of k lt = let a = roll.aimed k lt in ap (size_at mid.heap) (old_at k lt) ∙ size_told m q mid n (roll.name k) a.0 ready roll a.1

    -- the new place of an object lies in its page, behind what the page held
    ends : (k : ℕ) (lt : k < n) → (moves k).new + words k ≤ page_words m * (p.so_far.placed k lt).page + page_words m
    ends k lt =
        let o = p.so_far.placed k lt in
        let grow = brought_up_to m mid.heap moves o.page k n lt o.within in
        omega (arith, o.address, grow, size_of k lt, p.so_far.marks o.page o.exists, fits.marks o.page o.exists)

    begins : (k : ℕ) (lt : k < n) → page_words m * (p.so_far.placed k lt).page + used_mark mid.table (p.so_far.placed k lt).page ≤ (moves k).new
    begins k lt = let o = p.so_far.placed k lt in omega (arith, o.address)

    new_apart : (j k : ℕ) → j < k → k < n → AreApart (moves j).new (words j) (moves k).new (words k)
    new_apart j k lj lk =
        let lt : j < n = omega (arith, lj, lk) in
        let x = p.so_far.placed j lt in
        let y = p.so_far.placed k lk in
        elim (cases_eq x.page y.page) [
          | inl e ↦
              let grow = brought_up_to m mid.heap moves x.page j k lj x.within in
              let same : brought m mid.heap k moves y.page ≡ brought m mid.heap k moves x.page = ap (brought m mid.heap k moves) (sym e) in
              let mark : used_mark mid.table y.page ≡ used_mark mid.table x.page = ap (used_mark mid.table) (sym e) in
              inl (omega (arith, x.address, y.address, grow, same, mark, e, size_of j lt))
          | inr ne ↦ pages_apart m x.page y.page (moves j).new (words j) (moves k).new (words k) ne (let f = begins j lt in omega (arith, f)) (ends j lt) (let f = begins k lk in omega (arith, f)) (ends k lk)
        ]

    -- and behind the objects that the page held
    beside : (k : ℕ) (x : Name) (o : Thing) → k < n → object_of s x ≡ Some o → AreApart (moves k).new (words k) (st.places.at x) (length o.fields + OBJECT_WORDS)
    beside k x o lt present =
        let heap = st.stands.heap in
        let at = heap.present x o present in
        let l = p.so_far.placed k lt in
        let size = size_is q.laid x o present in
        let within : at.0 < m.pages = omega (arith, heap.count, at.2.page) in
        let inside = in_page (page_words m) (size_by (object_of s)) st.places x at.0 at.1 heap.tiles at.2 in
        elim (cases_eq l.page at.0) [
          | inl e ↦
              let place = heap.tiles.places x at.0 at.1 at.2 in
              let most = sum_by_more_le (size_by (object_of s)) (names_of st.places at.0) at.1 x at.2.place in
              let own : size_by (object_of s) (get_or (names_of st.places at.0) at.1 x) ≡ size_by (object_of s) x = ap (size_by (object_of s)) at.2.name in
              let mark : used_mark mid.table l.page ≡ sum_by (size_by (object_of s)) (names_of st.places at.0) = ap (used_mark mid.table) e ∙ ap (λ (ts : List (List ℕ)). used_mark ts at.0) old_table ∙ heap.marks at.0 within in
              inr (omega (arith, place, most, own, mark, size, begins k lt, e))
          | inr ne ↦ pages_apart m l.page at.0 (moves k).new (words k) (st.places.at x) (length o.fields + OBJECT_WORDS) ne (let f = begins k lt in omega (arith, f)) (ends k lt) inside.0 (omega (arith, inside.1, size))
        ]

    target_of : (k : ℕ) → k < n → IsSpaceOf m (in_order.target k) × IsOpen (view s).depths (in_order.target k) × (in_order.target k ≢ innermost s.graph t)
    target_of k lt =
        let x = in_order.targets k lt in
        let outer = outer_target m b c s st t depth escaping areas has low high written region depth_is (in_order.name k) (in_order.target k) (in_order.escaping k lt) x.1 x.0 in
        (space_of_heap m b c s st t depth escaping areas has low high written region depth_is (in_order.target k) outer.0, outer.0, λ e. outer.1 (e ∙ region))

    space_at : (k : ℕ) → k < n → (moves k).space ≡ in_order.target k
    space_at k lt = p.so_far.targets k lt

    lawful : (dropped : Name → Bool) → DropsRest s t dropped → IsLawfulPlan m n moves (view s) st.places.at dropped
    lawful dropped drops = record {
      words = words;
      ascending = λ j k lj lk. let up = roll.ascending j k lj lk in omega (arith, up, old_at k lk, old_at j (omega (arith, lj, lk)));
      present = λ k lt.
          let a = roll.aimed k lt in
          let stays : dropped (roll.name k) ≡ false = not_dropped s st.whole t dropped drops (roll.name k) (λ home. in_order.escaping k lt) in
          (roll.name k, a.0, keep-case (view s) dropped (roll.name k) a.0 (dropped (roll.name k)) refl stays a.1, sym (old_at k lt), size_is q.laid (roll.name k) a.0 a.1);
      spaces = λ k lt. subst (IsSpaceOf m) (sym (space_at k lt)) (target_of k lt).0;
      in_page = λ k lt. let o = p.so_far.placed k lt in (o.page, o.exists, (let f = begins k lt in omega (arith, f)), ends k lt);
      apart = new_apart;
      later = λ j k lj lk.
          let a = roll.aimed k lk in
          let size = size_is q.laid (roll.name k) a.0 a.1 in
          elim (beside j (roll.name k) a.0 (omega (arith, lj, lk)) a.1) [
            | inl f ↦ inl (omega (arith, f, old_at k lk))
            | inr f ↦ inr (omega (arith, f, old_at k lk, size))
          ];
      beside = λ k x o lt present others. beside k x o lt (kept (view s) dropped x o present);
      closed = closed_kept s st.whole t dropped drops st.stands.closed;
    }

    -- the pages that were claimed
    free_same : free_pages mid.heads mid.pool ≡ free_pages c.heads c.pool
    free_same = ap (λ (x : Contents). free_pages x.heads x.pool) frame

    claims : length p.so_far.claimed ≡ pages_needed m c s st.places t n in_order
    claims =
        let rooms = filling_rooms m (rooms_at m mid t) (rooms_at m c t) (index_on q mid (heap_length m) n roll) (size_on q mid (heap_length m) n roll) n (λ i. rooms_scratch m c mid t i frame) in
        let same = ap (λ (f : Filling). f.claimed) rooms in
        let needed = needed_is m b c s st t depth escaping areas has low high written region mid before p.read (Ok count) p.weighed in
        let lengths : length (free_pages mid.heads mid.pool) ≡ length (p.so_far.claimed ++ free_pages d.heads d.pool) = ap (λ (xs : List ℕ). length xs) p.so_far.free in
        let split = length-append p.so_far.claimed (free_pages d.heads d.pool) in
        omega (arith, p.underway.free, same, needed, lengths, split)

    module _ (numbered : Numbered m d.heap count (move_at d.scratch)) (pool : PoolStands m d.heads d.pool d.table) (currents : CurrentsStand m d.currents d.table) (long : length d.heap ≡ length c.heap) where
      in_turn : EscapingInTurn m s st.places t n in_order (λ k. (move_at d.scratch k).new) c (record d { scratch = c.scratch; heap = c.heap })
      in_turn = in_turn_between m t n in_order.target words (λ k. (move_at d.scratch k).new) (record mid { scratch = c.scratch; heap = c.heap }) c (record d { scratch = c.scratch; heap = c.heap }) (record d { scratch = c.scratch; heap = c.heap })
          (ap (λ (x : Contents). record x { scratch = c.scratch; heap = c.heap }) frame) refl
          (in_turn_beside m t n in_order.target words (λ k. (move_at d.scratch k).new) mid (record d { scratch = mid.scratch; heap = mid.heap }) c.scratch c.heap p.underway.in_turn)

      planned_first : EndPlanned m c d s st.places t n
      planned_first = record {
        order = in_order;
        enough =
            let needed = needed_is m b c s st t depth escaping areas has low high written region mid before p.read (Ok count) p.weighed in
            omega (arith, needed, p.weighed.weighed.1);
        moves = λ k lt. (old_at k lt, space_at k lt);
        spaces = target_of;
        lawful = lawful;
        numbered = subst (λ k. Numbered m d.heap k (move_at d.scratch)) p.weighed.weighed.0 numbered;
        heap = λ i out. p.underway.heap i (λ k lt e. out k lt (e ∙ ap (λ a. a + 2) (sym (old_at k lt)))) ∙ ap (λ (h : List ℕ). get_or h i 0) mid_heap;
        size = long;
        frame = p.so_far.frame ∙ ap (λ (x : Contents). record x { heads = set x.heads CLAIM_COUNTER (claim_counter d.heads); currents = d.currents; table = d.table; scratch = d.scratch; heap = d.heap }) frame;
        placed = λ k lt.
            let o = p.so_far.placed k lt in
            record {
              page = o.page;
              exists = o.exists;
              entered = o.entered;
              within = o.within;
              address = o.address ∙ ap (λ (x : Contents). page_words m * o.page + (used_mark x.table o.page + brought m x.heap k (move_at d.scratch) o.page)) frame;
            };
        marks = λ k lt. p.so_far.marks k lt ∙ ap (λ (x : Contents). used_mark x.table k + brought m x.heap n (move_at d.scratch) k) frame;
        kept = λ k lt some.
            let same : space_word mid.table k ≡ space_word c.table k = ap (λ (ts : List (List ℕ)). space_word ts k) mid_table in
            p.so_far.kept k lt (λ z. some (sym same ∙ z)) ∙ same;
        entered = λ k lt zero_word some. p.so_far.entered k lt (ap (λ (x : Contents). space_word x.table k) frame ∙ zero_word) some;
        claimed = p.so_far.claimed;
        free = sym free_same ∙ p.so_far.free;
        claims = claims;
        pool = pool;
        currents = currents;
        fits = fits;
        own = λ u e is. p.so_far.own u e (is ∙ region) ∙ ap (λ (x : Contents). current x.currents u e) frame;
        dense = λ u e hu lu he le other some. p.so_far.dense u e hu lu he le some;
        in_turn = in_turn;
      }

      pub end_planned : EndPlanned m c d s st.places t count
      end_planned = subst (EndPlanned m c d s st.places t) (sym p.weighed.weighed.0) planned_first
