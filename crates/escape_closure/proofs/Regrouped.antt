-- The words of the pages after the end of a region stand for the objects that are left.
use Rattle.std.proofs.Common.{◌≡◌, ◌≢◌, ◌⊎◌, Bool, ℕ, ◌+◌, ◌*◌, ◌≤◌, ◌<◌, true, false, cond, Option, Some, List, [], ◌∷◌, take, length, get_or, zero, suc, refl, sym, ap, subst, ◌∙◌, arith, inl, inr}
use Rattle.std.specs.Prelude.{◌==◌}
use Rattle.std.specs.List.{All, sum_by}
use Rattle.std.proofs.lemmas.Bool.{cases_eq, eq-eqb, ne_eqb}
use Rattle.std.proofs.lemmas.List.{get_or_default}
use Rattle.std.proofs.lemmas.List.Sums.{sum_by-cons}
use Rattle.std.proofs.lemmas.List.Elements.{All-take}
use Rattle.std.proofs.Math.Logic.{⊎_elim}
use Rattle.object_layout.specs.declared.names.Name.{Name}
use Rattle.object_layout.specs.declared.TheConstants.{MAX_SPACE}
use Rattle.heap_words.specs.declared.map.Areas.{Areas}
use Rattle.heap_words.specs.Map.{page_words}
use Rattle.heap_words.specs.Contents.{Contents}
use Rattle.epoch_lattice.specs.declared.Space.{Space}
use Rattle.epoch_lattice.specs.declared.TheConstants.{MAX_DEPTH}
use Rattle.epoch_lattice.specs.Lattice.{IsValid, space_index}
use Rattle.epoch_lattice.proofs.Numbers.{number-most, number-own}
use Rattle.yak_model.specs.Graph.{Limits}
use Rattle.yak_model.specs.Spaces.{SpaceState, innermost}
use Rattle.yak_model.specs.State.{IsClosed, Thing, object_of, view}
use Rattle.yak_model.specs.Placed.{HeapStands, Holds, IsAt, Places, names_of, size_by, space_word, used_mark, words_by}
use Rattle.yak_model.specs.Plans.{Move, cleared, forwarded}
use Rattle.yak_model.specs.Stands.{IsWhole}
use Rattle.heap_walks.proofs.Seen.{seen}
use Rattle.relocation.specs.Moves.{size_at}
use Rattle.relocation.specs.Slide.{IsPageOf, brought}
use Rattle.relocation.specs.Slidden.{names_after}
use Rattle.relocation.proofs.Lawful.{by_move-at, by_move-other}
use Rattle.relocation.proofs.SlidLaid.{get-table_of, length-table_of, places_of}
use Rattle.relocation.proofs.SlidLawful.{slid_object}
use Rattle.escape_closure.specs.Targets.{IsEscaping}
use Rattle.escape_closure.specs.Ends.{region_word}
use Rattle.escape_closure.specs.Leaving.{EndMoves, PagesLeft, objects_left}
use Rattle.escape_closure.proofs.Fates.{MovedAs, OneEach, StaysAs, escaping_in, left_so, moves_so, one_each, stays_so}
use Rattle.escape_closure.proofs.LaidPages.{CameFrom, LaidBy, brought-none, laid-first, laid-next, laid-whole, names-from, names-kept, names-member}

sum-equal : (f g : Name → ℕ) (xs : List Name) → All (λ x. f x ≡ g x) xs → sum_by f xs ≡ sum_by g xs
sum-equal f g [] h = refl
sum-equal f g (x ∷ xs) h =
    let here : f x ≡ g x = h 0 x (omega arith) in
    let rest : sum_by f xs ≡ sum_by g xs = sum-equal f g xs (λ k d lt. h (suc k) d (omega arith)) in
    rw (sum_by-cons f x xs, sum_by-cons g x xs, here, rest) refl

one_thing : (a b : Thing) → Some a ≡ Some b → a ≡ b
one_thing a b e = cc

-- the names of the moves are those of the objects at their old addresses
abbrev pub AreNamed : Places → ℕ → (ℕ → Move) → (ℕ → Name) → Type 0
AreNamed l count moves named = (k : ℕ) → k < count → l.at (named k) ≡ (moves k).old

module _ (m : Areas) (s : SpaceState) (whole : IsWhole s) (closed : IsClosed (view s)) (l : Places) (t count : ℕ) (some : 1 ≤ t) (valid : IsValid MAX_DEPTH (innermost s.graph t)) (moves : ℕ → Move) (tight : Bool) (e : EndMoves s l t count moves tight) (was : Contents) (work : Name → ℕ) (h : HeapStands m was.table was.heap (object_of s) l work) (named : ℕ → Name) (name_is : AreNamed l count moves named) (escaping : (k : ℕ) → k < count → IsEscaping s t (named k)) where
  pub one : OneEach s l
  one = one_each m was.table was.heap s l work h

  abbrev region : Space
  region = innermost s.graph t

  abbrev slid : ℕ
  slid = region_word s t

  abbrev left : Name → Option Thing
  left = objects_left s l t count moves

  abbrev names : ℕ → List Name
  names = names_after m slid was.table (names_of l) count moves named

  small : slid ≤ MAX_SPACE + 1
  small = let q = number-most region valid in omega (arith, q)

  -- a page is one of the region exactly where its objects are
  pub page_home : (n : Name) (o : Thing) (p k : ℕ) → object_of s n ≡ Some o → IsAt l n p k → space_word was.table p ≡ space_index o.home + 1
  page_home n o p k here at =
      let w = h.whole n p k at in
      w.2 ∙ ap (λ (q : Thing). space_index q.home + 1) (one_thing w.0 o (sym w.1 ∙ here))

  pub own_page : (n : Name) (o : Thing) (p k : ℕ) → object_of s n ≡ Some o → IsAt l n p k → IsPageOf slid was.table p → o.home ≡ region
  own_page n o p k here at own =
      let index = page_home n o p k here at in
      let home : IsValid MAX_DEPTH o.home = subst (λ i. IsValid i o.home) (ap (λ (q : Limits). q.depth) whole.limits) (whole.homes n o.home (seen s n o here).home_is) in
      number-own o.home region home valid (omega (arith, index, own))

  pub other_page : (n : Name) (o : Thing) (p k : ℕ) → object_of s n ≡ Some o → IsAt l n p k → (IsPageOf slid was.table p → ⊥) → o.home ≢ region
  other_page n o p k here at other is = other (page_home n o p k here at ∙ ap (λ (q : Space). space_index q + 1) is)

  -- the object of a move
  pub mover_of : (k : ℕ) → k < count → (o : Thing) × (object_of s (named k) ≡ Some o) × (left (named k) ≡ Some (record o { home = (moves k).space })) × (size_at was.heap (moves k).old ≡ length o.fields + 3)
  mover_of k lt =
      let i = escaping_in s whole l one t count some valid moves tight e (named k) (escaping k lt) in
      let at = h.present (named k) i.0 i.1 in
      let own : IsPageOf slid was.table at.0 = page_home (named k) i.0 at.0 at.1 i.1 at.2 ∙ ap (λ (q : Space). space_index q + 1) i.2 in
      let x = slid_object m slid was (view s) l work h closed small (named k) at.0 at.1 at.2 own in
      (i.0, i.1, (moves_so s whole l one t count some valid moves tight e (named k) i.0 k i.1 lt (name_is k lt)).0, ap (size_at was.heap) (sym (name_is k lt)) ∙ x.size ∙ ap (λ (q : Thing). length q.fields + 3) (one_thing x.thing i.0 (sym x.present ∙ i.1)))

  -- a name of another page
  pub stayer_of : (n : Name) (p k : ℕ) → IsAt l n p k → (IsPageOf slid was.table p → ⊥) → (o : Thing) × (object_of s n ≡ Some o) × (left n ≡ Some o) × StaysAs s l t count moves n o o
  stayer_of n p k at other =
      let w = h.whole n p k at in
      let q = stays_so s whole l one t count some valid moves tight e n w.0 w.1 (other_page n w.0 p k w.1 at other) in
      (w.0, w.1, q.0, q.1)

  pub place : (n : Name) (p k : ℕ) → p < m.pages → k < length (names_of l p) → get_or (names_of l p) k n ≡ n → IsAt l n p k
  place n p k hp lt q = record { page = rw h.count hp; place = lt; name = q }

  same_sizes : (p : ℕ) → p < m.pages → (IsPageOf slid was.table p → ⊥) → All (λ n. size_by left n ≡ size_by (object_of s) n) (names_of l p)
  same_sizes p hp other k d lt =
      let n : Name = get_or (names_of l p) k d in
      let o = stayer_of n p k (place n p k hp lt (get_or_default (names_of l p) k n d lt)) other in
      ap words_by (o.2 ∙ sym o.1)

  abbrev base : ℕ → ℕ
  base p = cond (space_word was.table p == slid) 0 (used_mark was.table p)

  base_none : (p : ℕ) → IsPageOf slid was.table p → base p ≡ 0
  base_none p own = let test : (space_word was.table p == slid) ≡ true = eq-eqb (space_word was.table p) slid own in rw test refl

  base_some : (p : ℕ) → (IsPageOf slid was.table p → ⊥) → base p ≡ used_mark was.table p
  base_some p other = let test : (space_word was.table p == slid) ≡ false = ne_eqb (space_word was.table p) slid other in rw test refl

  module _ (now : List (List ℕ)) (heap : List ℕ) (table : PagesLeft m slid was.table was.heap now count moves) where
    laid_to : (c : ℕ) → c ≤ count → LaidBy m base was.heap (size_by left) (forwarded count moves l.at) (names_after m slid was.table (names_of l) c moves named) moves c
    laid_to zero le =
        laid-first m slid was.table base was.heap (size_by left) (forwarded count moves l.at) (names_of l) moves named
        (λ p k n hp other lt q.
        let at = place n p k hp lt q in
        let o = stayer_of n p k at other in
        let sums : sum_by (size_by left) (take k (names_of l p)) ≡ sum_by (size_by (object_of s)) (take k (names_of l p)) = sum-equal (size_by left) (size_by (object_of s)) (take k (names_of l p)) (All-take (λ x. size_by left x ≡ size_by (object_of s) x) k (names_of l p) (same_sizes p hp other)) in
        let own : size_by left n ≡ length o.0.fields + 3 = ap words_by o.2 in
        (o.3.leads ∙ h.tiles.places n p k at ∙ ap (λ i. page_words m * p + i) (sym sums), (let three : 3 ≤ size_by left n = omega (arith, own) in three)))
        (λ p hp other. sum-equal (size_by left) (size_by (object_of s)) (names_of l p) (same_sizes p hp other) ∙ sym (h.marks p hp) ∙ sym (base_some p other))
        (λ p hp own. base_none p own)
    laid_to (suc c) le =
        let lt : c < count = omega arith in
        let x = mover_of c lt in
        let put = table.placed c lt in
        let leads : forwarded count moves l.at (named c) ≡ (moves c).new = by_move-at count moves (λ v. v.new) (l.at (named c)) (l.at (named c)) c e.ascending lt (name_is c lt) in
        laid-next m slid was.table base was.heap (size_by left) (forwarded count moves l.at) (names_of l) moves named c put.page (laid_to c (omega arith)) put.within put.exists
        (leads ∙ put.address ∙ ap (λ i. page_words m * put.page + (i + brought m was.heap c moves put.page)) (sym (base_some put.page put.other)))
        (ap words_by x.2 ∙ sym x.3)

    none_brought : (p : ℕ) → IsPageOf slid was.table p → brought m was.heap count moves p ≡ 0
    none_brought p own = brought-none m was.heap count moves p (λ k lt q. let put = table.placed k lt in put.other (subst (IsPageOf slid was.table) (sym q ∙ put.within) own))

    mark_is : (p : ℕ) → p < m.pages → used_mark now p ≡ base p + brought m was.heap count moves p
    mark_is p hp = ⊎_elim
        (λ (own : space_word was.table p ≡ slid). let a = (table.gone p hp own).1 in let b = base_none p own in let c = none_brought p own in omega (arith, a, b, c))
        (λ (other : space_word was.table p ≡ slid → ⊥). table.marks p hp other ∙ ap (λ i. i + brought m was.heap count moves p) (sym (base_some p other)))
        (cases_eq (space_word was.table p) slid)

    abbrev later : Places
    later = places_of m names (forwarded count moves l.at)

    row : (p : ℕ) → p < m.pages → names_of later p ≡ names p
    row p hp = get-table_of names m.pages p [] hp

    put_at : (n : Name) (p i : ℕ) → p < m.pages → i < length (names p) → get_or (names p) i n ≡ n → IsAt later n p i
    put_at n p i hp lt q = record { page = rw (length-table_of names m.pages) hp; place = rw (row p hp) lt; name = rw (row p hp) q }

    -- where an object that is left lies
    lies : (n : Name) (p : Thing) (o : Thing) → object_of s n ≡ Some o → MovedAs s l t count moves n o p ⊎ StaysAs s l t count moves n o p → (q : ℕ) × (k : ℕ) × IsAt later n q k
    lies n p o here (inl w) =
        let put = table.placed w.move w.among in
        let x = mover_of w.move w.among in
        let same : named w.move ≡ n = one (named w.move) n x.0 o x.1 here (name_is w.move w.among ∙ sym w.old) in
        let i = names-member m slid was.table (names_of l) count moves named w.move put.page w.among put.within in
        (put.page, i.0, put_at n put.page i.0 put.exists i.1 (subst (λ z. get_or (names put.page) i.0 z ≡ z) same i.2))
    lies n p o here (inr w) =
        let at = h.present n o here in
        let hp : at.0 < m.pages = rw (← h.count) at.2.page in
        let other : IsPageOf slid was.table at.0 → ⊥ = λ own. w.home (own_page n o at.0 at.1 here at.2 own) in
        let r = names-kept m slid was.table (names_of l) count moves named at.0 at.1 n other at.2.place at.2.name in
        (at.0, at.1, put_at n at.0 at.1 hp r.0 r.1)

    -- the page of a name that lies somewhere is one of its space
    homed : (n : Name) (p i : ℕ) → p < m.pages → CameFrom m slid was.table (names_of l) count moves named p i n → (o : Thing) × (left n ≡ Some o) × (space_word now p ≡ space_index o.home + 1)
    homed n p i hp (inl r) =
        let x = mover_of r.0 r.1 in
        let put = table.placed r.0 r.1 in
        let same : put.page ≡ p = sym put.within ∙ r.3 in
        (record x.0 { home = (moves r.0).space }, ap left r.2 ∙ x.2, ap (space_word now) (sym same) ∙ put.entered)
    homed n p i hp (inr r) =
        let at = place n p i hp r.1 r.2 in
        let o = stayer_of n p i at r.0 in
        let word = page_home n o.0 p i o.1 at in
        (o.0, o.2, table.kept p hp r.0 (λ z. omega (arith, z, word)) ∙ word)

    -- no work word is left
    work_done : (left_words : Name → ℕ) → ((n : Name) (o : Thing) → object_of s n ≡ Some o → o.home ≢ region → left_words n ≡ 0) → (n : Name) (o p : Thing) → object_of s n ≡ Some o → MovedAs s l t count moves n o p ⊎ StaysAs s l t count moves n o p → cleared count moves l.at left_words n ≡ 0
    work_done left_words idle n o p here (inl w) = by_move-at count moves (λ v. 0) (l.at n) (left_words n) w.move e.ascending w.among w.old
    work_done left_words idle n o p here (inr w) = by_move-other count moves (λ v. 0) (l.at n) (left_words n) w.none ∙ idle n o here w.home

    pub regrouped : (left_words : Name → ℕ) → ((n : Name) (o : Thing) → object_of s n ≡ Some o → o.home ≢ region → left_words n ≡ 0) → Holds m heap (forwarded count moves l.at) (forwarded count moves l.at) (cleared count moves l.at left_words) left → HeapStands m now heap left later (λ _. 0)
    regrouped left_words idle holds =
        let laid = laid_to count (omega arith) in
        record {
          count = length-table_of names m.pages;
          tiles = laid-whole m base was.heap (size_by left) (forwarded count moves l.at) names moves count laid (λ p hp. let a = mark_is p hp in let b = table.fits p hp in omega (arith, a, b));
          present = λ n p q. let w = left_so s whole l one t count some valid moves tight e n p q in lies n p w.0 w.1 w.2;
          whole = λ n p k at.
              let hp : p < m.pages = rw (length-table_of names m.pages) at at.page in
              let lt : k < length (names p) = rw (row p hp) at at.place in
              let q : get_or (names p) k n ≡ n = rw (row p hp) at at.name in
              homed n p k hp (names-from m slid was.table (names_of l) count moves named p k n lt q);
          marks = λ p hp. rw (row p hp) (mark_is p hp ∙ sym (laid.sums p hp));
          held = λ n p q.
              let w = left_so s whole l one t count some valid moves tight e n p q in
              let stands = holds.stands n p q in
              record { header = stands.header; name = stands.name; work_word = stands.work_word ∙ work_done left_words idle n w.0 p w.1 w.2; fields = stands.fields };
        }
