use Rattle.std.proofs.Common.{◌≡◌, ◌≢◌, ℕ, ◌+◌, ◌/◌, ◌≤◌, ◌<◌, Bool, true, false, Option, Some, List, [], ◌∷◌, ◌++◌, length, get_or, zero, suc, refl, sym, ap, subst, ◌∙◌, arith, length-append}
use Rattle.std.proofs.lemmas.Bool.{cases_eq, cases_lt, cases_Bool, eq-eqb, ne_eqb}
use Rattle.std.proofs.lemmas.List.{get_or_default, get_or_append_left, get_or_at}
use Rattle.std.proofs.Math.Logic.{⊎_elim}
use Rattle.std.specs.List.{sum_by}
use Rattle.std.specs.Prelude.{◌==◌}
use Rattle.object_layout.specs.declared.names.Name.{Name}
use Rattle.heap_words.specs.declared.map.Areas.{Areas}
use Rattle.heap_words.specs.Map.{heap_length, page_words}
use Rattle.object_layout.specs.declared.TheConstants.{MAX_SPACE}
use Rattle.heap_words.specs.Contents.{Contents}
use Rattle.yak_model.specs.State.{Thing, State, IsClosed}
use Rattle.epoch_lattice.specs.Lattice.{space_index}
use Rattle.epoch_lattice.specs.declared.Space.TheVariants.{Control}
use Rattle.yak_model.specs.Placed.{Places, names_of, words_by, size_by, space_word, used_mark, IsAt, Tiles, HeapStands, same_name}
use Rattle.yak_model.proofs.Placed.{in_page, apart, same_name-true, same_name-self}
use Rattle.yak_model.specs.Plans.{Move}
use Rattle.yak_model.specs.Plans.{by_move, forwarded, cleared, without, after_moves}
use Rattle.yak_model.specs.Placed.{Holds}
use Rattle.relocation.proofs.Lawful.{by_move-at, by_move-other, before_moves, kept}
use Rattle.relocation.specs.Slide.{IsPageOf, TableAfter, brought, Sliding}
use Rattle.relocation.specs.Slide.{Drops}
use Rattle.relocation.specs.Slidden.{names_after}
use Rattle.relocation.proofs.SlidLaid.{places_of, length-table_of, get-table_of}
use Rattle.relocation.proofs.SlidLawful.{runs_of, walk-at, slid_object, kept-false, name_at}
use Rattle.relocation.proofs.Slidden.{Slid, slide-laid, slide-tiles, region-sum}

-- the names of a page that no move goes to
names-region : (m : Areas) (slid : ℕ) (table : List (List ℕ)) (old : ℕ → List Name) (c : ℕ) (moves : ℕ → Move) (named : ℕ → Name) (p : ℕ) → (IsPageOf slid table p → ⊥) → ((k : ℕ) → k < c → IsPageOf slid table ((moves k).new / page_words m)) → names_after m slid table old c moves named p ≡ old p
unfolding names_after
names-region m slid table old zero moves named p other to = let test : (space_word table p == slid) ≡ false = ne_eqb (space_word table p) slid other in rw test refl
names-region m slid table old (suc c) moves named p other to =
    let test : ((moves c).new / page_words m == p) ≡ false = ne_eqb ((moves c).new / page_words m) p (λ e. other (subst (IsPageOf slid table) e (to c (omega arith)))) in
    rw test (names-region m slid table old c moves named p other (λ k lt. to k (omega arith)))

-- a moved name lies in the page that it was moved to
names-member : (m : Areas) (slid : ℕ) (table : List (List ℕ)) (old : ℕ → List Name) (c : ℕ) (moves : ℕ → Move) (named : ℕ → Name) (k p : ℕ) → k < c → (moves k).new / page_words m ≡ p → (i : ℕ) × (i < length (names_after m slid table old c moves named p)) × (get_or (names_after m slid table old c moves named p) i (named k) ≡ named k)
unfolding names_after
names-member m slid table old zero moves named k p lt e = absurd (omega arith)
names-member m slid table old (suc c) moves named k p lt e =
    let ns : List Name = names_after m slid table old c moves named p in
    ⊎_elim
    (λ (q : k ≡ c).
    let test : ((moves c).new / page_words m == p) ≡ true = eq-eqb ((moves c).new / page_words m) p (ap (λ x. (moves x).new / page_words m) (sym q) ∙ e) in
    rw test (length ns, (let less : length ns < length (ns ++ named c ∷ []) = omega (arith, length-append ns (named c ∷ [])) in less), get_or_at ns (named c) [] (named k) (length ns) refl ∙ ap named (sym q)))
    (λ (ne : k ≡ c → ⊥).
    let r = names-member m slid table old c moves named k p (omega arith) e in
    ⊎_elim
    (λ (hit : (moves c).new / page_words m ≡ p).
    let test : ((moves c).new / page_words m == p) ≡ true = eq-eqb ((moves c).new / page_words m) p hit in
    rw test (r.0, (let less : r.0 < length (ns ++ named c ∷ []) = omega (arith, r.1, length-append ns (named c ∷ [])) in less), get_or_append_left ns (named c ∷ []) (named k) r.0 r.1 ∙ r.2))
    (λ (miss : (moves c).new / page_words m ≡ p → ⊥).
    let test : ((moves c).new / page_words m == p) ≡ false = ne_eqb ((moves c).new / page_words m) p miss in
    rw test r)
    (cases_eq ((moves c).new / page_words m) p))
    (cases_eq k c)

-- a name that lies in a control page was moved there
names-from : (m : Areas) (slid : ℕ) (table : List (List ℕ)) (old : ℕ → List Name) (c : ℕ) (moves : ℕ → Move) (named : ℕ → Name) (p i : ℕ) (n : Name) → IsPageOf slid table p → i < length (names_after m slid table old c moves named p) → get_or (names_after m slid table old c moves named p) i n ≡ n → (k : ℕ) × (k < c) × (n ≡ named k) × ((moves k).new / page_words m ≡ p)
unfolding names_after
names-from m slid table old zero moves named p i n control lt e =
    let test : (space_word table p == slid) ≡ true = eq-eqb (space_word table p) slid control in
    absurd (let none : i < 0 = rw test at lt in omega arith)
names-from m slid table old (suc c) moves named p i n control lt e =
    let ns : List Name = names_after m slid table old c moves named p in
    ⊎_elim
    (λ (hit : (moves c).new / page_words m ≡ p).
    let test : ((moves c).new / page_words m == p) ≡ true = eq-eqb ((moves c).new / page_words m) p hit in
    let long : i < length (ns ++ named c ∷ []) = rw test at lt in
    let read : get_or (ns ++ named c ∷ []) i n ≡ n = rw test at e in
    ⊎_elim
    (λ (less : i < length ns).
    let r = names-from m slid table old c moves named p i n control less (sym (get_or_append_left ns (named c ∷ []) n i less) ∙ read) in
    (r.0, (let h : r.0 < suc c = omega (arith, r.1) in h), r.2, r.3))
    (λ (le : length ns ≤ i).
    let last : length ns ≡ i = omega (arith, length-append ns (named c ∷ [])) in
    (c, (let h : c < suc c = omega arith in h), sym read ∙ get_or_at ns (named c) [] n i last, hit))
    (cases_lt i (length ns)))
    (λ (miss : (moves c).new / page_words m ≡ p → ⊥).
    let test : ((moves c).new / page_words m == p) ≡ false = ne_eqb ((moves c).new / page_words m) p miss in
    let r = names-from m slid table old c moves named p i n control (rw test at lt) (rw test at e) in
    (r.0, (let h : r.0 < suc c = omega (arith, r.1) in h), r.2, r.3))
    (cases_eq ((moves c).new / page_words m) p)

different : (x y : Name) → same_name x y ≡ false → x ≢ y
different x y no_same e = let self : same_name y y ≡ true = same_name-self y in let same : same_name x y ≡ true = ap (λ z. same_name z y) e ∙ self in absurd (let q : false ≡ true = sym no_same ∙ same in cc)

-- two names at one address are one
one-address : (m : Areas) (size : Name → ℕ) (l : Places) (x y : Name) (p k q j : ℕ) → Tiles (page_words m) size l → IsAt l x p k → IsAt l y q j → 1 ≤ size x → 1 ≤ size y → l.at x ≡ l.at y → x ≡ y
one-address m size l x y p k q j tiles hx hy sx sy e = ⊎_elim
    (λ (same : same_name x y ≡ true). same_name-true x y same)
    (λ (other : same_name x y ≡ false). absurd (⊎_elim
    (λ (h : l.at x + size x ≤ l.at y). omega arith)
    (λ (h : l.at y + size y ≤ l.at x). omega arith)
    (apart (page_words m) size l x y p k q j tiles hx hy (different x y other))))
    (cases_Bool (same_name x y))

-- the words of the pages stand for the slid state
pub slide-stands : (m : Areas) (slid : ℕ) (was : Contents) (s : State) (l : Places) (work : Name → ℕ) (dropped : Name → Bool) (now : Contents) (count : ℕ) (moves : ℕ → Move) (named : ℕ → Name) (next room : ℕ) (table : List (List ℕ)) (heap : List ℕ) (h : HeapStands m was.table was.heap s.objects l work) (closed : IsClosed s) (small : slid ≤ MAX_SPACE + 1) → Drops slid s work dropped → ((n : Name) (o : Thing) → s.objects n ≡ Some o → (space_index o.home + 1 ≡ slid → ⊥) → work n ≡ 0) → Slid m slid was s l dropped count moves named → Sliding m slid was (runs_of m slid was s l work h closed small) now count moves next room (heap_length m) → TableAfter m slid was.table was.heap table count moves next → Holds m heap (forwarded count moves l.at) (forwarded count moves l.at) (cleared count moves l.at work) (after_moves count moves l.at (without s dropped)).objects → HeapStands m table heap (after_moves count moves l.at (without s dropped)).objects (places_of m (names_after m slid was.table (names_of l) count moves named) (forwarded count moves l.at)) (λ _. 0)
slide-stands m slid was s l work dropped now count moves named next room table heap h closed small drops unmarked known slide t holds =
    let names : ℕ → List Name = names_after m slid was.table (names_of l) count moves named in
    let after : Name → Option Thing = (after_moves count moves l.at (without s dropped)).objects in
    let l' : Places = places_of m names (forwarded count moves l.at) in
    let laid = slide-laid m slid was s l work dropped now count moves named next room (heap_length m) h closed small known slide count (omega arith) in
    let target : (k : ℕ) → k < count → (q : ℕ) × (q < m.pages) × IsPageOf slid was.table q × ((moves k).new / page_words m ≡ q) × (q < next) = λ k lt.
    (let c = (slide.control k lt).1 in
    let placed = slide.placed k lt in
    (c.0, c.1, c.2, (let e : (moves k).new / page_words m ≡ c.0 = omega (arith, c.3, c.4) in e), (let less : c.0 < next = omega (arith, c.3, placed) in less))) in
    let to_control : (k : ℕ) → k < count → IsPageOf slid was.table ((moves k).new / page_words m) = λ k lt. (let q = target k lt in subst (IsPageOf slid was.table) (sym q.3) q.2) in
    let region : (p : ℕ) → (IsPageOf slid was.table p → ⊥) → names p ≡ names_of l p = λ p other. names-region m slid was.table (names_of l) count moves named p other to_control in
    let row : (p : ℕ) → p < m.pages → names_of l' p ≡ names p = λ p hp. get-table_of names m.pages p [] hp in
    let put : (n : Name) (p i : ℕ) → p < m.pages → i < length (names p) → get_or (names p) i n ≡ n → IsAt l' n p i = λ n p i hp lt e. record { page = rw (length-table_of names m.pages) hp; place = rw (row p hp) lt; name = rw (row p hp) e } in
    let gone : (n : Name) (k : ℕ) → k < count → n ≡ named k → (o : Thing) × (after n ≡ Some (record o { home = Control })) = λ n k lt e.
    (let x = known.object k lt in
    let home : by_move count moves (λ v. v.space) (l.at (named k)) x.0.home ≡ (moves k).space = by_move-at count moves (λ v. v.space) (l.at (named k)) x.0.home k known.ascending lt x.2 in
    (x.0, rw (e, x.1, home, (slide.control k lt).0) refl)) in
    let find : (n : Name) (o : Thing) → (without s dropped).objects n ≡ Some o → (p k : ℕ) → IsAt l n p k → IsPageOf slid was.table p → (i : ℕ) × (i < count) × (n ≡ named i) = λ n o e p k at control.
    (let hp : p < m.pages = rw (← h.count) at.page in
    let x = slid_object m slid was s l work h closed small n p k at control in
    let here : s.objects n ≡ Some o = kept s dropped n o e in
    let thing : o ≡ x.thing = (let f : Some o ≡ Some x.thing = sym here ∙ x.present in cc) in
    let index : space_index o.home + 1 ≡ slid = ap (λ (y : Thing). space_index y.home + 1) thing ∙ x.home in
    let one : work n ≢ 0 = drops.kept n o here (kept-false s dropped n o (dropped n) refl e) index in
    let name : name_at l p k ≡ n = get_or_default (names_of l p) k (record { thread = 0; serial = 0 }) n at.place ∙ at.name in
    let walk = ap l.at (sym name) ∙ sym (walk-at m slid was s l work h closed small p k hp control at.place) in
    let page = in_page (page_words m) (size_by s.objects) l n p k h.tiles at in
    let size : size_by s.objects n ≡ length o.fields + 3 = ap words_by here in
    let before : l.at n < heap_length m = omega (arith, page.0, page.1, size, hp) in
    let found = slide.complete (l.at n) (p, k, hp, control, at.place, walk) before (λ z. one (sym x.work_word ∙ z)) in
    let y = known.object found.0 found.1 in
    let yo : s.objects (named found.0) ≡ Some y.0 = kept s dropped (named found.0) y.0 y.1 in
    let ya = h.present (named found.0) y.0 yo in
    let ysize : size_by s.objects (named found.0) ≡ length y.0.fields + 3 = ap words_by yo in
    (found.0, found.1, one-address m (size_by s.objects) l n (named found.0) p k ya.0 ya.1 h.tiles at ya.2 (omega (arith, size)) (omega (arith, ysize)) (sym found.2 ∙ sym y.2))) in
    record {
      count = length-table_of names m.pages;
      tiles = slide-tiles m slid was s l work dropped now count moves named next room (heap_length m) h closed small known slide;
      present = λ n p e.
          let b = before_moves count moves (l.at n) ((without s dropped).objects n) p e in
          let at = h.present n b.0 (kept s dropped n b.0 b.1) in
          let hp : at.0 < m.pages = rw (← h.count) at.2.page in
          ⊎_elim
          (λ (control : space_word was.table at.0 ≡ slid).
          let f = find n b.0 b.1 at.0 at.1 at.2 control in
          let q = target f.0 f.1 in
          let i = names-member m slid was.table (names_of l) count moves named f.0 q.0 f.1 q.3 in
          (q.0, i.0, put n q.0 i.0 q.1 i.1 (subst (λ z. get_or (names q.0) i.0 z ≡ z) (sym f.2) i.2)))
          (λ (other : space_word was.table at.0 ≡ slid → ⊥).
          (at.0, at.1, put n at.0 at.1 hp (rw (region at.0 other) at.2.place) (rw (region at.0 other) at.2.name)))
          (cases_eq (space_word was.table at.0) slid);
      whole = λ n p k at.
          let hp : p < m.pages = rw (length-table_of names m.pages) at at.page in
          let lt : k < length (names p) = rw (row p hp) at at.place in
          let e : get_or (names p) k n ≡ n = rw (row p hp) at at.name in
          ⊎_elim
          (λ (control : space_word was.table p ≡ slid).
          let f = names-from m slid was.table (names_of l) count moves named p k n control lt e in
          let o = gone n f.0 f.1 f.2 in
          let q = target f.0 f.1 in
          let same : q.0 ≡ p = sym q.3 ∙ f.3 in
          let less : p < next = subst (λ x. x < next) same q.4 in
          (record o.0 { home = Control }, o.1, (t.filled p hp control less).0))
          (λ (other : space_word was.table p ≡ slid → ⊥).
          let lt' : k < length (names_of l p) = rw (region p other) at lt in
          let e' : get_or (names_of l p) k n ≡ n = rw (region p other) at e in
          let old : IsAt l n p k = record { page = rw h.count hp; place = lt'; name = e' } in
          let r = known.region n p k old other in
          let w = h.whole n p k old in
          let thing : r.0 ≡ w.0 = (let f : Some r.0 ≡ Some w.0 = sym r.2 ∙ w.1 in cc) in
          let home : by_move count moves (λ v. v.space) (l.at n) r.0.home ≡ r.0.home = by_move-other count moves (λ v. v.space) (l.at n) r.0.home r.4 in
          let word : space_word table p ≡ space_word was.table p = ap (λ (x : List ℕ). get_or x 0 0) (t.others p other) in
          (r.0, rw (r.1, home) refl, word ∙ w.2 ∙ ap (λ (x : Thing). space_index x.home + 1) (sym thing)))
          (cases_eq (space_word was.table p) slid);
      marks = λ p hp. rw (row p hp) (⊎_elim
          (λ (control : space_word was.table p ≡ slid). ⊎_elim
          (λ (less : p < next). (t.filled p hp control less).1 ∙ sym (laid.sums p hp control))
          (λ (le : next ≤ p). t.free p hp control le ∙ sym (slide.empty p le) ∙ sym (laid.sums p hp control))
          (cases_lt p next))
          (λ (other : space_word was.table p ≡ slid → ⊥). ap (λ (x : List ℕ). get_or x 1 0) (t.others p other) ∙ h.marks p hp ∙ sym (region-sum m slid was s l work dropped count moves named h known p hp other) ∙ ap (sum_by (size_by after)) (sym (region p other)))
          (cases_eq (space_word was.table p) slid));
      held = λ n p e.
          let b = before_moves count moves (l.at n) ((without s dropped).objects n) p e in
          let here = kept s dropped n b.0 b.1 in
          let at = h.present n b.0 here in
          let stands = holds.stands n p e in
          let zero_work : cleared count moves l.at work n ≡ 0 = ⊎_elim
          (λ (control : space_word was.table at.0 ≡ slid).
          let f = find n b.0 b.1 at.0 at.1 at.2 control in
          by_move-at count moves (λ v. 0) (l.at n) (work n) f.0 known.ascending f.1 (ap l.at f.2 ∙ (known.object f.0 f.1).2))
          (λ (other : space_word was.table at.0 ≡ slid → ⊥).
          let r = known.region n at.0 at.1 at.2 other in
          by_move-other count moves (λ v. 0) (l.at n) (work n) r.4 ∙ unmarked n r.0 r.2 r.3)
          (cases_eq (space_word was.table at.0) slid)
          in
          record { header = stands.header; name = stands.name; work_word = stands.work_word ∙ zero_work; fields = stands.fields };
    }
