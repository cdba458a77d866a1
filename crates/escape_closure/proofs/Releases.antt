-- The page table after the end of a region, whose pages are given back.
use Rattle.std.proofs.Common.{◌≡◌, ◌≢◌, ◌⊎◌, ℕ, zero, suc, cond, ◌+◌, ◌-◌, ◌/◌, ◌≤◌, ◌<◌, ◌==◌, false, Option, Some, List, [], ◌∷◌, length, get_or, refl, sym, ap, subst, ◌∙◌, arith, inl, inr}
use Rattle.std.specs.Prelude.{max}
use Rattle.std.proofs.lemmas.Bool.{cases_eq, ne_eqb}
use Rattle.std.proofs.lemmas.List.{get_or-map, length-map}
use Rattle.std.proofs.lemmas.List.Sums.{sum_by-cons}
use Rattle.std.proofs.Math.Logic.{⊎_elim}
use Rattle.object_layout.specs.declared.names.Name.{Name}
use Rattle.heap_words.specs.declared.map.Areas.{Areas}
use Rattle.heap_words.specs.Map.{HasThread, IsAreas, max_depth, page_words}
use Rattle.heap_words.specs.Cells.{row, row_set}
use Rattle.heap_words.specs.Contents.{Contents, depth_of}
use Rattle.epoch_lattice.specs.declared.Space.{Space}
use Rattle.epoch_lattice.specs.declared.Space.TheVariants.{Control, Region}
use Rattle.epoch_lattice.specs.declared.TheConstants.{MAX_DEPTH}
use Rattle.epoch_lattice.specs.Lattice.{IsValid, inner_of, space_index}
use Rattle.epoch_lattice.proofs.Numbers.{number-own}
use Rattle.yak_model.specs.Spaces.{SpaceState, innermost}
use Rattle.yak_model.specs.State.{IsOpen, Thing, object_of, view}
use Rattle.yak_model.specs.Placed.{HeapStands, Holds, Places, names_of, size_by, space_word, used_mark}
use Rattle.yak_model.specs.Plans.{Move, cleared, forwarded}
use Rattle.yak_model.specs.Stands.{RegionsDense, Stands, current, pages_of}
use Rattle.yak_model.specs.Packed.{IsSpaceOf}
use Rattle.heap_walks.proofs.Seen.{present_of}
use Rattle.region_pages.specs.Ends.{used_end}
use Rattle.region_pages.specs.Freeing.{freed, freed_table}
use Rattle.region_pages.proofs.Ends.{end_least, end_within}
use Rattle.region_pages.proofs.Entries.{current-cases}
use Rattle.region_pages.proofs.Freed.{freed_same, freed_zero}
use Rattle.region_pages.proofs.Released.{table-freed}
use Rattle.relocation.specs.Moves.{move_at}
use Rattle.relocation.specs.Slide.{IsPageOf}
use Rattle.relocation.specs.Slidden.{names_after}
use Rattle.relocation.proofs.SlidLaid.{places_of}
use Rattle.escape_closure.specs.Ends.{EndPlanned, region_word}
use Rattle.escape_closure.specs.Leaving.{PagesLeft, PlacedIn, RegionReady, objects_left}
use Rattle.escape_closure.proofs.Brought.{same_test}
use Rattle.escape_closure.proofs.Carries.{innermost_valid}
use Rattle.escape_closure.proofs.Fates.{one_each, stays_so}
use Rattle.escape_closure.proofs.Reaches.{reached_here}
use Rattle.escape_closure.proofs.Readies.{end_moves}
use Rattle.escape_closure.proofs.Regrouped.{regrouped}
use Rattle.escape_closure.proofs.Sums.{pages_alike, words_into-same, words_left}
use Rattle.escape_closure.proofs.Written.{region_is}

freed_row : (word : ℕ) (table : List (List ℕ)) (p : ℕ) → p < length table → row (freed_table word table) p ≡ freed word (row table p)
freed_row word table p lt = get_or-map (freed word) table p [] [] lt

pub freed_kept : (word : ℕ) (table : List (List ℕ)) (p : ℕ) → p < length table → space_word table p ≢ word → row (freed_table word table) p ≡ row table p
freed_kept word table p lt ne = freed_row word table p lt ∙ freed_same word (row table p) ne

pub freed_gone : (word : ℕ) (table : List (List ℕ)) (p : ℕ) → p < length table → space_word table p ≡ word → row (freed_table word table) p ≡ 0 ∷ 0 ∷ []
freed_gone word table p lt e = freed_row word table p lt ∙ freed_zero word (row table p) e

one_region : (u d v e : ℕ) → Region u d ≡ Region v e → (u ≡ v) × (d ≡ e)
one_region u d v e h = ((cc), (cc))

pub inner_is : (u e : ℕ) → 1 ≤ e → inner_of u e ≡ Region u e
inner_is u zero low = absurd (omega (arith, low))
inner_is u (suc e) low = refl

pub none_of : (x : Space) (table : List (List ℕ)) → ((p : ℕ) → p < length table → space_word table p ≢ space_index x + 1) → pages_of table x ≡ 0
none_of x [] none = refl
none_of x (r ∷ rs) none =
    let first : (get_or r 0 0 == space_index x + 1) ≡ false = ne_eqb (get_or r 0 0) (space_index x + 1) (none 0 (omega arith)) in
    let rest : pages_of rs x ≡ 0 = none_of x rs (λ p lt. none (suc p) (omega (arith, lt))) in
    let test : List ℕ → ℕ = λ (y : List ℕ). cond (get_or y 0 0 == space_index x + 1) 1 0 in
    let a : pages_of (r ∷ rs) x ≡ test r + pages_of rs x = sum_by-cons test r rs in
    let zero_first : test r ≡ 0 = ap (λ z. cond z 1 0) first in
    omega (arith, a, rest, zero_first)

pub space_of_valid : (m : Areas) (x : Space) → IsAreas m → IsSpaceOf m x → IsValid MAX_DEPTH x
space_of_valid m Control areas h = tt
space_of_valid m (Region u d) areas h = (h.0, omega (arith, h.1, areas.3), h.2, omega (arith, h.3))

module _ (m : Areas) (before mid c : Contents) (s : SpaceState) (st : Stands m before s) (t count : ℕ) (areas : IsAreas m) (has : HasThread m t) (low : 1 ≤ depth_of before t) (r : RegionReady m before mid c s st t count) (long : length c.table ≡ m.pages) where
  abbrev slid : ℕ
  slid = region_word s t

  abbrev l : Places
  l = st.places

  abbrev moves : ℕ → Move
  moves = move_at c.scratch

  abbrev left : Name → Option Thing
  left = objects_left s l t count moves

  abbrev planned : EndPlanned m mid c s l t count
  planned = r.planned

  valid : IsValid MAX_DEPTH (innermost s.graph t)
  valid = innermost_valid m before s st t areas has low

  abbrev named : ℕ → Name
  named = r.planned.order.name

  name_is : (k : ℕ) → k < count → l.at (named k) ≡ (moves k).old
  name_is k lt = sym (planned.moves k lt).0

  abbrev now : List (List ℕ)
  now = freed_table slid c.table

  -- a target is not the region
  target_word : (k : ℕ) → k < count → space_index (moves k).space + 1 ≢ slid
  target_word k lt e =
      let x = planned.spaces k lt in
      let same = (planned.moves k lt).1 in
      let index : space_index (planned.order.target k) ≡ space_index (moves k).space = ap space_index (sym same) in
      x.2 (number-own (planned.order.target k) (innermost s.graph t) (space_of_valid m (planned.order.target k) areas x.0) valid (omega (arith, e, index)))

  own_word : (p : ℕ) → p < m.pages → IsPageOf slid mid.table p → space_word c.table p ≡ slid
  own_word p lt own = planned.kept p lt (λ z. omega (arith, z, own)) ∙ own

  pub other_word : (p : ℕ) → p < m.pages → (IsPageOf slid mid.table p → ⊥) → space_word c.table p ≢ slid
  other_word p lt other is = ⊎_elim
      (λ (z : space_word mid.table p ≡ 0).
      let w = planned.entered p lt z (λ q. omega (arith, q, is)) in
      target_word w.0 w.1 (sym w.2 ∙ is))
      (λ (nz : space_word mid.table p ≢ 0). other (sym (planned.kept p lt nz) ∙ is))
      (cases_eq (space_word mid.table p) 0)

  -- the region has as many pages as before
  pub own_pages : length mid.table ≡ m.pages → pages_of c.table (innermost s.graph t) ≡ pages_of mid.table (innermost s.graph t)
  own_pages mid_long = pages_alike (innermost s.graph t) mid.table c.table (long ∙ sym mid_long) (λ p lt. same_test (space_word c.table p) (space_word mid.table p) slid
      (λ own. ⊎_elim (λ (was : space_word mid.table p ≡ slid). was) (λ (other : space_word mid.table p ≢ slid). absurd (other_word p (omega (arith, lt, mid_long)) other own)) (cases_eq (space_word mid.table p) slid))
      (own_word p (omega (arith, lt, mid_long))))

  in_table : (p : ℕ) → p < m.pages → p < length c.table
  in_table p lt = omega (arith, lt, long)

  kept_row : (p : ℕ) → p < m.pages → (IsPageOf slid mid.table p → ⊥) → row now p ≡ row c.table p
  kept_row p lt other = freed_kept slid c.table p (in_table p lt) (other_word p lt other)

  -- the pages in use after the plan are so before it or after the end
  pub end_after : (left : List (List ℕ)) → left ≡ freed_table slid c.table → used_end c.table m.pages ≤ max (used_end mid.table m.pages) (used_end left m.pages)
  end_after left is = end_least c.table m.pages (max (used_end mid.table m.pages) (used_end left m.pages)) (λ p from lt. ⊎_elim
      (λ (z : space_word c.table p ≡ 0). z)
      (λ (nz : space_word c.table p ≢ 0). ⊎_elim
      (λ (own : space_word mid.table p ≡ slid). absurd (let some : p < used_end mid.table m.pages = end_within mid.table m.pages p lt (λ z. omega (arith, z, own)) in omega (arith, some, from)))
      (λ (other : space_word mid.table p ≢ slid).
      let same : space_word left p ≡ space_word c.table p = ap (λ (ts : List (List ℕ)). space_word ts p) is ∙ ap (λ (x : List ℕ). get_or x 0 0) (kept_row p lt other) in
      absurd (let some : p < used_end left m.pages = end_within left m.pages p lt (λ z. nz (sym same ∙ z)) in omega (arith, some, from)))
      (cases_eq (space_word mid.table p) slid))
      (cases_eq (space_word c.table p) 0))

  placed_in : (k : ℕ) → k < count → PlacedIn m slid mid.table mid.heap now moves k
  placed_in k lt =
      let o = planned.placed k lt in
      let ne : space_word c.table o.page ≢ slid = λ e. target_word k lt (sym o.entered ∙ e) in
      record {
        page = o.page;
        exists = o.exists;
        other = λ own. ne (own_word o.page o.exists own);
        entered = ap (λ (x : List ℕ). get_or x 0 0) (freed_kept slid c.table o.page (in_table o.page o.exists) ne) ∙ o.entered;
        within = o.within;
        address = o.address;
      }

  pub pages_left : PagesLeft m slid mid.table mid.heap now count moves
  pages_left = record {
    gone = λ p lt own.
        let gone_row = freed_gone slid c.table p (in_table p lt) (own_word p lt own) in
        (ap (λ (x : List ℕ). get_or x 0 0) gone_row, ap (λ (x : List ℕ). get_or x 1 0) gone_row);
    kept = λ p lt other nz. ap (λ (x : List ℕ). get_or x 0 0) (kept_row p lt other) ∙ planned.kept p lt nz;
    marks = λ p lt other. ap (λ (x : List ℕ). get_or x 1 0) (kept_row p lt other) ∙ planned.marks p lt;
    fits = (table-freed m slid c.table long planned.fits).marks;
    placed = placed_in;
  }

  -- an object outside the region has no work word
  pub idle : (n : Name) (o : Thing) → object_of s n ≡ Some o → o.home ≢ innermost s.graph t → get_or c.heap (l.at n + 2) 0 ≡ 0
  idle n o here far =
      let stays = (stays_so s st.whole l (one_each m before.table before.heap s l (λ _. 0) st.stands.heap) t count has.0 valid moves false (end_moves m before mid c s st t count areas has r) n o here far).1 in
      planned.heap (l.at n + 2) (λ k lt e. stays.none k lt (omega (arith, e)))
      ∙ r.written.others n (present_of s n o here) (λ esc.
      let i = reached_here s st.whole t has.0 (innermost s.graph t) n esc.0 esc.1 in
      let same : o ≡ i.0 = (let f : Some o ≡ Some i.0 = sym here ∙ i.1 in cc) in
      far (ap (λ (q : Thing). q.home) same ∙ i.2))

  abbrev pub later : Places
  later = places_of m (names_after m (region_word s t) mid.table (names_of st.places) count (move_at c.scratch) r.planned.order.name) (forwarded count (move_at c.scratch) st.places.at)

  pub region_stands : (heap : List ℕ) → Holds m heap (forwarded count moves l.at) (forwarded count moves l.at) (cleared count moves l.at (λ n. get_or c.heap (l.at n + 2) 0)) left → HeapStands m now heap left later (λ _. 0)
  region_stands heap holds = regrouped m s st.whole st.stands.closed l t count has.0 valid moves false (end_moves m before mid c s st t count areas has r) mid (λ n. get_or mid.heap (l.at n + 2) 0) r.written.heap named name_is planned.order.escaping now heap pages_left (λ n. get_or c.heap (l.at n + 2) 0) idle holds

  -- the pages of open spaces
  pub spaces_left : (p : ℕ) → p < m.pages → (space_word now p ≡ 0) ⊎ ((x : Space) × (space_word now p ≡ space_index x + 1) × IsOpen (view s).depths x × (x ≢ innermost s.graph t))
  spaces_left p lt = ⊎_elim
      (λ (own : space_word mid.table p ≡ slid). inl (pages_left.gone p lt own).0)
      (λ (other : space_word mid.table p ≢ slid).
      let same : space_word now p ≡ space_word c.table p = ap (λ (x : List ℕ). get_or x 0 0) (kept_row p lt other) in
      ⊎_elim
      (λ (z : space_word c.table p ≡ 0). inl (same ∙ z))
      (λ (nz : space_word c.table p ≢ 0). ⊎_elim
      (λ (fresh : space_word mid.table p ≡ 0).
      let w = planned.entered p lt fresh nz in
      let x = planned.spaces w.0 w.1 in
      inr (planned.order.target w.0, same ∙ w.2 ∙ ap (λ (y : Space). space_index y + 1) (planned.moves w.0 w.1).1, x.1, x.2))
      (λ (old : space_word mid.table p ≢ 0).
      let was : space_word c.table p ≡ space_word before.table p = planned.kept p lt old ∙ ap (λ (x : Contents). space_word x.table p) r.written.frame in
      ⊎_elim
      (λ (z : space_word before.table p ≡ 0). absurd (nz (was ∙ z)))
      (λ (x : (x : Space) × (space_word before.table p ≡ space_index x + 1) × IsOpen (view s).depths x).
      inr (x.0, same ∙ was ∙ x.1, x.2, λ q. other_word p lt other (was ∙ x.1 ∙ ap (λ (y : Space). space_index y + 1) q)))
      (st.stands.open_spaces p lt))
      (cases_eq (space_word mid.table p) 0))
      (cases_eq (space_word c.table p) 0))
      (cases_eq (space_word mid.table p) slid)

  into : (k : ℕ) → k < count → (moves k).new / page_words m < m.pages
  into k lt = let o = planned.placed k lt in subst (λ i. i < m.pages) (sym o.within) o.exists

  -- regions stay half full
  module _ (currents : List (List ℕ)) (depth : ℕ) (is : depth ≡ depth_of before t) (shape_threads : length c.currents ≡ m.threads) (shape_slots : (u : ℕ) → HasThread m u → length (row c.currents (u - 1)) ≡ max_depth m + 1) (set_is : currents ≡ row_set c.currents (t - 1) depth 0) where
    region : innermost s.graph t ≡ Region t depth
    region = region_is m before s st t depth has is (omega (arith, is, low))

    slot : depth < length (row c.currents (t - 1))
    slot =
        let v = subst (IsValid MAX_DEPTH) region valid in
        omega (arith, shape_slots t has, v.3, areas.3)

    other_current : (u e : ℕ) → 1 ≤ u → Region u e ≢ innermost s.graph t → current currents u e ≡ current c.currents u e
    other_current u e hu ne =
        ap (λ (x : List (List ℕ)). current x u e) set_is
        ∙ ⊎_elim
        (λ (w : (u ≡ t) × (e ≡ depth) × (current (row_set c.currents (t - 1) depth 0) u e ≡ 0)). absurd (ne (ap (λ i. Region i e) w.0 ∙ ap (Region t) w.1 ∙ sym region)))
        (λ (w : ((u ≡ t) × (e ≡ depth) → ⊥) × (current (row_set c.currents (t - 1) depth 0) u e ≡ current c.currents u e)). w.1)
        (current-cases c.currents t depth u e 0 has.0 hu (omega (arith, has, shape_threads)) slot)

    same_pages : (x : Space) → space_index x + 1 ≢ slid → pages_of now x ≡ pages_of c.table x
    same_pages x ne = pages_alike x c.table now (length-map c.table (freed slid)) (λ p lt. ⊎_elim
        (λ (own : space_word c.table p ≡ slid).
        let gone : space_word now p ≡ 0 = ap (λ (y : List ℕ). get_or y 0 0) (freed_gone slid c.table p lt own) in
        let a : (space_word now p == space_index x + 1) ≡ false = ne_eqb (space_word now p) (space_index x + 1) (λ q. omega (arith, gone, q)) in
        let b : (space_word c.table p == space_index x + 1) ≡ false = ne_eqb (space_word c.table p) (space_index x + 1) (λ q. ne (sym q ∙ own)) in
        a ∙ sym b)
        (λ (other : space_word c.table p ≢ slid). ap (λ (y : List ℕ). get_or y 0 0 == space_index x + 1) (freed_kept slid c.table p lt other))
        (cases_eq (space_word c.table p) slid))

    no_pages : pages_of now (innermost s.graph t) ≡ 0
    no_pages = none_of (innermost s.graph t) now (λ p lt q.
        let lt' : p < length c.table = omega (arith, lt, length-map c.table (freed slid)) in
        ⊎_elim
        (λ (own : space_word c.table p ≡ slid). let gone : space_word now p ≡ 0 = ap (λ (y : List ℕ). get_or y 0 0) (freed_gone slid c.table p lt' own) in omega (arith, gone, q))
        (λ (other : space_word c.table p ≢ slid). other (sym (ap (λ (y : List ℕ). get_or y 0 0) (freed_kept slid c.table p lt' other)) ∙ q))
        (cases_eq (space_word c.table p) slid))

    pub region_dense : RegionsDense m now currents later.pages left
    region_dense u e hu mu he me some = ⊎_elim
        (λ (q : space_index (Region u e) ≡ space_index (innermost s.graph t)).
        absurd (let own : Region u e ≡ innermost s.graph t = number-own (Region u e) (innermost s.graph t) (hu, omega (arith, mu, areas.3), he, omega (arith, me)) valid q in
        omega (arith, some, no_pages, ap (pages_of now) own)))
        (λ (ne : space_index (Region u e) ≢ space_index (innermost s.graph t)).
        let apart : Region u e ≢ innermost s.graph t = λ q. ne (ap space_index q) in
        let far : space_index (Region u e) + 1 ≢ slid = λ q. ne (omega (arith, q)) in
        let count_same = same_pages (Region u e) far in
        let d = planned.dense u e hu mu he me apart (omega (arith, some, count_same)) in
        let cur : current currents u e ≡ current c.currents u e = other_current u e hu apart in
        let at : ℕ = current c.currents u e - 1 in
        let b = planned.currents.belong u e hu mu (omega (arith, me, shape_slots u (hu, mu))) d.0 in
        let lt : at < length c.table = omega (arith, b.0, d.0, long) in
        let inner : inner_of u e ≡ Region u e = inner_is u e he in
        let word : space_word c.table at ≢ slid = λ q. ne (omega (arith, q, b.1, ap space_index inner)) in
        let mark : used_mark now (current currents u e - 1) ≡ used_mark c.table at = ap (λ i. used_mark now (i - 1)) cur ∙ ap (λ (y : List ℕ). get_or y 1 0) (freed_kept slid c.table at lt word) in
        let more = words_left m s st.whole st.stands.closed l t count has.0 valid moves false (end_moves m before mid c s st t count areas has r) mid (λ n. get_or mid.heap (l.at n + 2) 0) r.written.heap named name_is planned.order.escaping into (Region u e) ne in
        let to = words_into-same (λ k. (moves k).space) planned.order.target (λ k. size_by (object_of s) (named k)) (Region u e) count (λ k lk. (planned.moves k lk).1) in
        (λ z. d.0 (sym cur ∙ z), omega (arith, d.1, count_same, mark, more, to)))
        (cases_eq (space_index (Region u e)) (space_index (innermost s.graph t)))
