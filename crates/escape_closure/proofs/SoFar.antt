-- Where the first objects of a roll are placed, one object more.
use Rattle.std.proofs.Common.{◌≡◌, ◌≢◌, ℕ, ◌+◌, ◌/◌, ◌≤◌, ◌<◌, ◌++◌, [], List, Some, set, get_or, length, refl, sym, ap, subst, ◌∙◌, arith, inl, inr, append_assoc}
use Rattle.std.specs.Prelude.{unwrap_or}
use Rattle.std.specs.List.{sum_by}
use Rattle.std.proofs.lemmas.Bool.{cases_eq}
use Rattle.std.proofs.lemmas.List.{nil_from_length, set-get_or, set-set, get_or_default}
use Rattle.object_layout.specs.declared.names.Name.{Name}
use Rattle.epoch_lattice.specs.declared.Space.{Space}
use Rattle.epoch_lattice.specs.declared.Space.TheVariants.{Control, Region}
use Rattle.epoch_lattice.specs.declared.TheConstants.{MAX_DEPTH}
use Rattle.epoch_lattice.specs.Lattice.{IsValid, space_index, space_of}
use Rattle.epoch_lattice.proofs.Numbers.{number-reads_back}
use Rattle.heap_words.specs.declared.map.Areas.{Areas}
use Rattle.heap_words.specs.Map.{HasThread, IsAreas, heap_length, page_words}
use Rattle.heap_words.specs.Contents.{Contents}
use Rattle.yak_model.specs.Names.{root_name}
use Rattle.yak_model.specs.Placed.{IsAt, names_of, size_by, space_word, used_mark}
use Rattle.yak_model.specs.Plans.{Move}
use Rattle.yak_model.specs.Stands.{CurrentsStand, PoolStands, claim_counter, current, free_pages}
use Rattle.region_pages.specs.Pages.{TableFits}
use Rattle.region_pages.specs.Placement.{IsOwn}
use Rattle.region_pages.specs.declared.TheConstants.{CLAIM_COUNTER}
use Rattle.region_pages.proofs.Shapes.{Shape}
use Rattle.relocation.specs.Moves.{move_at, size_at}
use Rattle.relocation.specs.Slide.{brought}
use Rattle.relocation.proofs.Slid.{brought-same}
use Rattle.escape_closure.specs.declared.needing.Entry.{Entry}
use Rattle.escape_closure.specs.Ends.{PlacedAt}
use Rattle.escape_closure.specs.Rolls.{Aimed, AimsInside, Rolled}
use Rattle.escape_closure.specs.Placing.{index_on, owner, size_on, target_on}
use Rattle.escape_closure.specs.Planning.{DenseIn, PlacedNext, PlacedSoFar, TargetsExist, words_with}
use Rattle.escape_closure.proofs.Brings.{brought_here, brought_none, brought_other, into_here, into_next, size_told}
use Rattle.escape_closure.proofs.Fills.{dense-placed}
use Rattle.escape_closure.proofs.Follows.{has_owner, is_valid}
use Rattle.escape_closure.proofs.Puts.{FreeBlank, Put, put}

some_space : (x y : Space) → Some x ≡ Some y → x ≡ y
some_space x y e = cc

-- nothing is in use in a free page
no_words : (f : Name → ℕ) (ns : List Name) → length ns ≡ 0 → sum_by f ns ≡ 0
no_words f ns e = ap (sum_by f) (nil_from_length ns e)

module _ (m : Areas) (q : Aimed) (c : Contents) (count : ℕ) (r : Rolled q c (heap_length m) count) (ready : AimsInside m q) where
  table_is : c.table ≡ q.laid.before.table
  table_is = ap (λ (x : Contents). x.table) r.frame ∙ ap (λ (x : Contents). x.table) ready.among.frame

  currents_are : c.currents ≡ q.laid.before.currents
  currents_are = ap (λ (x : Contents). x.currents) r.frame ∙ ap (λ (x : Contents). x.currents) ready.among.frame

  blank_first : FreeBlank m c.table
  blank_first p lt free =
      let heap = ready.among.stands.heap in
      let ns : List Name = names_of q.laid.places p in
      let mark : used_mark c.table p ≡ sum_by (size_by q.laid.state.objects) ns = ap (λ (ts : List (List ℕ)). used_mark ts p) table_is ∙ heap.marks p lt in
      let zero_word : space_word q.laid.before.table p ≡ 0 = ap (λ (ts : List (List ℕ)). space_word ts p) (sym table_is) ∙ free in
      elim (cases_eq (length ns) 0) [
        | inl e ↦ mark ∙ no_words (size_by q.laid.state.objects) ns e
        | inr ne ↦
            let n : Name = get_or ns 0 root_name in
            let at : IsAt q.laid.places n p 0 = record { page = omega (arith, heap.count, lt); place = omega (arith, ne); name = get_or_default ns 0 n root_name (omega (arith, ne)) } in
            let w = heap.whole n p 0 at in
            absurd (omega (arith, w.2, zero_word))
      ]

  dense_first : DenseIn m c.table c.currents (words_with m q c count r 0)
  dense_first =
      let words = words_with m q c count r 0 in
      let old : DenseIn m q.laid.before.table q.laid.before.currents words = λ t d ht lt hd ld some. let w = ready.among.stands.dense t d ht lt hd ld some in (w.0, omega (arith, w.1)) in
      subst (λ ts. DenseIn m ts c.currents words) (sym table_is) (subst (λ cs. DenseIn m q.laid.before.table cs words) (sym currents_are) old)

  pub so_far_first : PlacedSoFar m q c count r c 0
  so_far_first = record {
    frame = ap (λ (hs : List ℕ). record c { heads = hs }) (sym (set-get_or c.heads CLAIM_COUNTER 0));
    targets = λ j lt. absurd (omega (arith, lt));
    placed = λ j lt. absurd (omega (arith, lt));
    marks = λ p lt. let z = brought_none m c.heap (move_at c.scratch) p in omega (arith, z);
    kept = λ p lt ne. refl;
    entered = λ p lt z ne. absurd (ne z);
    blank = blank_first;
    claimed = [];
    free = refl;
    own = λ u e is. refl;
    dense = dense_first;
  }

  -- one object more
  module _ (t : ℕ) (exist : TargetsExist m q) (areas : IsAreas m) (has : HasThread m t) (now after : Contents) (k : ℕ) (lt : k < count) (f : PlacedSoFar m q c count r now k) (entry : Entry) (old : entry.old ≡ q.laid.places.at (r.name k)) (index : entry.index ≡ index_on q c (heap_length m) count r k) (size : entry.size ≡ size_on q c (heap_length m) count r k) (least : 3 ≤ entry.size) (shape : Shape m now) (currents : CurrentsStand m now.currents now.table) (pool : PoolStands m now.heads now.pool now.table) (fits : TableFits m after.table) (p : PlacedNext m now after t k entry) where
    abbrev space : Space
    space = p.space

    abbrev moves : ℕ → Move
    moves = move_at after.scratch

    abbrev before : ℕ → Move
    before = move_at now.scratch

    own_thread : (x : Space) → IsOwn (owner t x) x
    own_thread Control = tt
    own_thread (Region u d) = refl

    u : Put m now p.between space entry.size p.new
    u = put m now p.between (owner t space) entry.size p.new space shape (has_owner m t space has p.exists) least p.exists (own_thread space) currents pool f.blank p.placed

    after_table : after.table ≡ p.between.table
    after_table = ap (λ (x : Contents). x.table) p.marked

    after_currents : after.currents ≡ p.between.currents
    after_currents = ap (λ (x : Contents). x.currents) p.marked

    target_is : target_on q c (heap_length m) count r k ≡ space
    target_is = ap (λ i. unwrap_or (space_of i) Control) (sym index) ∙ ap (λ x. unwrap_or x Control) p.number

    -- where the object comes
    in_page : p.new / page_words m ≡ u.page
    in_page =
        let mark : used_mark after.table u.page ≡ used_mark now.table u.page + entry.size = ap (λ (ts : List (List ℕ)). used_mark ts u.page) after_table ∙ u.mark in
        let most = fits.marks u.page u.exists in
        omega (arith, u.address, mark, most, least)

    size_is : size_at c.heap entry.old ≡ entry.size
    size_is =
        let a = r.aimed k lt in
        ap (size_at c.heap) old ∙ size_told m q c count (r.name k) a.0 ready r a.1 ∙ sym size

    earlier : (j i : ℕ) → j ≤ k → i < j → moves i ≡ before i
    earlier j i le li = p.former i (omega (arith, le, li))

    pub marks_more : (pg : ℕ) → pg < m.pages → used_mark after.table pg ≡ used_mark c.table pg + brought m c.heap (k + 1) moves pg
    marks_more pg within =
        let was = f.marks pg within in
        let same : used_mark after.table pg ≡ used_mark p.between.table pg = ap (λ (ts : List (List ℕ)). used_mark ts pg) after_table in
        elim (cases_eq pg u.page) [
          | inl e ↦
              let here = brought_here m c.heap k entry.old p.new space before moves pg p.former p.move (in_page ∙ sym e) in
              let mark : used_mark p.between.table pg ≡ used_mark now.table pg + entry.size = ap (λ i. used_mark p.between.table i) e ∙ u.mark ∙ ap (λ i. used_mark now.table i + entry.size) (sym e) in
              omega (arith, was, same, here, mark, size_is)
          | inr ne ↦
              let other = brought_other m c.heap k entry.old p.new space before moves pg p.former p.move (λ z. ne (sym z ∙ in_page)) in
              omega (arith, was, same, other, u.others pg ne)
        ]

    word_kept : (pg : ℕ) → space_word now.table pg ≢ 0 → space_word after.table pg ≡ space_word now.table pg
    word_kept pg ne = ap (λ (ts : List (List ℕ)). space_word ts pg) after_table ∙ u.kept pg ne

    placed_last : PlacedAt m c after moves k
    placed_last = record {
      page = u.page;
      exists = u.exists;
      entered = ap (λ (ts : List (List ℕ)). space_word ts u.page) after_table ∙ u.entered ∙ ap (λ v. space_index v.space + 1) (sym p.move);
      within = ap (λ v. v.new / page_words m) p.move ∙ in_page;
      address =
          let was = f.marks u.page u.exists in
          let same = brought-same m c.heap k before moves u.page p.former in
          let to : (moves k).new ≡ p.new = ap (λ v. v.new) p.move in
          omega (arith, to, u.address, was, same);
    }

    placed_earlier : (j : ℕ) → j < k → PlacedAt m c after moves j
    placed_earlier j lj =
        let o = f.placed j lj in
        let move = p.former j lj in
        record {
          page = o.page;
          exists = o.exists;
          entered = word_kept o.page (λ z. omega (arith, z, o.entered)) ∙ o.entered ∙ ap (λ v. space_index v.space + 1) (sym move);
          within = ap (λ v. v.new / page_words m) move ∙ o.within;
          address =
              let same = brought-same m c.heap j before moves o.page (λ i li. p.former i (omega (arith, li, lj))) in
              let to : (moves j).new ≡ (before j).new = ap (λ v. v.new) move in
              omega (arith, to, o.address, same);
        }

    frame_more : after ≡ record c { heads = set c.heads CLAIM_COUNTER (claim_counter after.heads); currents = after.currents; table = after.table; scratch = after.scratch; heap = after.heap }
    frame_more =
        let s : List ℕ = after.scratch in
        let h : List ℕ = set p.between.heap (entry.old + 2) (k + 1) in
        let one : after ≡ record now { heads = set now.heads CLAIM_COUNTER (claim_counter p.between.heads); currents = p.between.currents; table = p.between.table; scratch = s; heap = h } = p.marked ∙ ap (λ (b : Contents). record b { scratch = s; heap = h }) u.frame in
        let n : ℕ = claim_counter p.between.heads in
        let two : after ≡ record c { heads = set (set c.heads CLAIM_COUNTER (claim_counter now.heads)) CLAIM_COUNTER n; currents = p.between.currents; table = p.between.table; scratch = s; heap = h } = one ∙ ap (λ (b : Contents). record b { heads = set b.heads CLAIM_COUNTER n; currents = p.between.currents; table = p.between.table; scratch = s; heap = h }) f.frame in
        two ∙ ap (λ (hs : List ℕ). record c { heads = hs; currents = p.between.currents; table = p.between.table; scratch = s; heap = h }) (set-set c.heads CLAIM_COUNTER (claim_counter now.heads) n)
        ∙ ap (λ (y : Contents). record c { heads = set c.heads CLAIM_COUNTER (claim_counter y.heads); currents = y.currents; table = y.table; scratch = y.scratch; heap = y.heap }) (sym p.marked)

    own_more : (v e : ℕ) → Region v e ≡ q.region → current after.currents v e ≡ current c.currents v e
    own_more v e is =
        let a = r.aimed k lt in
        let x = exist (r.name k) a.0 a.1 a.2 in
        let valid = subst (λ (y : Space). IsValid MAX_DEPTH y) (sym is) ready.region in
        let number : space_index x.0 ≡ index_on q c (heap_length m) count r k = omega (arith, x.2) in
        let same : x.0 ≡ space = some_space x.0 space (sym (number-reads_back x.0 (is_valid m x.0 areas x.1)) ∙ ap space_of (number ∙ sym index) ∙ p.number) in
        let apart : Region v e ≢ space = λ z. x.3 (same ∙ sym z ∙ is) in
        ap (λ (cs : List (List ℕ)). current cs v e) after_currents ∙ u.still v e valid.0 valid.2 apart ∙ f.own v e is

    dense_more : DenseIn m after.table after.currents (words_with m q c count r (k + 1))
    dense_more =
        let into = into_next (target_on q c (heap_length m) count r) (size_on q c (heap_length m) count r) in
        let d = dense-placed m now p.between (words_with m q c count r k) (words_with m q c count r (k + 1)) (owner t space) space entry.size p.new shape areas (has_owner m t space has p.exists) p.exists (own_thread space) (omega (arith, least)) pool currents
        (λ y. omega (arith, into y k))
        (λ deep. omega (arith, size, into_here (target_on q c (heap_length m) count r) (size_on q c (heap_length m) count r) space space k target_is refl))
        p.placed f.dense
        in
        subst (λ ts. DenseIn m ts after.currents (words_with m q c count r (k + 1))) (sym after_table) (subst (λ cs. DenseIn m p.between.table cs (words_with m q c count r (k + 1))) (sym after_currents) d)

    pub so_far_more : PlacedSoFar m q c count r after (k + 1)
    so_far_more = record {
      frame = frame_more;
      targets = λ j lj. elim (cases_eq j k) [
        | inl e ↦ subst (λ i. (moves i).space ≡ target_on q c (heap_length m) count r i) (sym e) (ap (λ v. v.space) p.move ∙ sym target_is)
        | inr ne ↦ let less : j < k = omega (arith, lj, ne) in ap (λ v. v.space) (p.former j less) ∙ f.targets j less
      ];
      placed = λ j lj. elim (cases_eq j k) [
        | inl e ↦ subst (PlacedAt m c after moves) (sym e) placed_last
        | inr ne ↦ placed_earlier j (omega (arith, lj, ne))
      ];
      marks = marks_more;
      kept = λ pg within ne.
          let was = f.kept pg within ne in
          word_kept pg (λ z. ne (sym was ∙ z)) ∙ was;
      entered = λ pg within z some. elim (cases_eq pg u.page) [
        | inl e ↦ (k, (let less : k < k + 1 = omega arith in less), ap (space_word after.table) e ∙ ap (λ (ts : List (List ℕ)). space_word ts u.page) after_table ∙ u.entered ∙ ap (λ v. space_index v.space + 1) (sym p.move))
        | inr ne ↦
            let same : space_word after.table pg ≡ space_word now.table pg = ap (λ (ts : List (List ℕ)). space_word ts pg) after_table ∙ u.aside pg ne in
            let w = f.entered pg within z (λ q. some (same ∙ q)) in
            (w.0, (let less : w.0 < k + 1 = omega (arith, w.1) in less), same ∙ w.2 ∙ ap (λ v. space_index v.space + 1) (sym (p.former w.0 w.1)))
      ];
      blank = λ pg within z.
          let l = u.left pg (ap (λ (ts : List (List ℕ)). space_word ts pg) (sym after_table) ∙ z) in
          ap (λ (ts : List (List ℕ)). used_mark ts pg) after_table ∙ u.others pg l.1 ∙ f.blank pg within l.0;
      claimed = f.claimed ++ u.claimed;
      free =
          let last : free_pages after.heads after.pool ≡ free_pages p.between.heads p.between.pool = ap (λ (y : Contents). free_pages y.heads y.pool) p.marked in
          f.free ∙ ap (λ (ps : List ℕ). f.claimed ++ ps) (u.free ∙ ap (λ (ps : List ℕ). u.claimed ++ ps) (sym last)) ∙ sym (append_assoc f.claimed u.claimed (free_pages after.heads after.pool));
      own = own_more;
      dense = dense_more;
    }
