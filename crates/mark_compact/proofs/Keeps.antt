-- The recorded slots that a collection keeps, and where they go.
use Rattle.std.proofs.Common.{◌≡◌, ◌≢◌, ◌⊎◌, ℕ, ◌+◌, ◌-◌, ◌*◌, ◌/◌, ◌<◌, ◌≤◌, ◌&&◌, Bool, true, false, not, is_some, ltb, cond, Option, Some, None, List, length, get_or, refl, sym, ap, subst, ◌∙◌, arith, inl, inr}
use Rattle.std.specs.List.{Contains, filter}
use Rattle.std.proofs.Math.Logic.{⊎_elim}
use Rattle.object_layout.specs.declared.names.Name.{Name}
use Rattle.object_layout.specs.declared.TheConstants.{OBJECT_WORDS}
use Rattle.heap_words.specs.declared.map.Areas.{Areas}
use Rattle.heap_words.specs.Map.{HasThread, IsAreas, max_depth, page_words}
use Rattle.heap_words.specs.Contents.{Contents}
use Rattle.epoch_lattice.specs.declared.Space.{Space}
use Rattle.epoch_lattice.specs.declared.Space.TheVariants.{Control, Region}
use Rattle.epoch_lattice.specs.Lattice.{IsValid, space_index}
use Rattle.yak_model.specs.Graph.{Limits}
use Rattle.yak_model.specs.Spaces.{SpaceState}
use Rattle.yak_model.specs.State.{State, Thing, object_of, view}
use Rattle.yak_model.specs.Placed.{Holds, Places, size_by, space_word, words_by}
use Rattle.yak_model.specs.Plans.{Move, without}
use Rattle.yak_model.specs.Stands.{PoolStands, Stands, StandsAs}
use Rattle.yak_model.specs.Recorded.{RecordedAs}
use Rattle.yak_model.specs.Chains.{IsRegionOf, chain_of}
use Rattle.yak_model.proofs.Data.{home-index}
use Rattle.yak_model.proofs.Placed.{apart, in_page}
use Rattle.heap_walks.proofs.Seen.{seen}
use Rattle.region_pages.specs.Freeing.{with_pool_rebuilt}
use Rattle.remember_sets.specs.Filed.{BuffersHold, IsFiled, all_filed, chain, logged, page_word}
use Rattle.remember_sets.proofs.Folded.{all_filed-has}
use Rattle.relocation.proofs.Lawful.{kept}
use Rattle.relocation.proofs.SlidLawful.{keep-case}
use Rattle.forwarding.specs.Crossing.{AreData, AreValid}
use Rattle.forwarding.specs.Slots.{IsOldField, in_old, is_kept}
use Rattle.mark_compact.specs.Collecting.{Cleared, ControlPages, IsLast, Lain}
use Rattle.std.proofs.lemmas.Bool.{and_right, cases_Bool, cases_eq, cases_lt, false_from_ne_true, false≢true, le-ltb, lt-ltb}
use Rattle.epoch_lattice.specs.declared.TheConstants.{MAX_DEPTH}
use Rattle.relocation.specs.Moves.{fields_at, size_at}
use Rattle.relocation.proofs.Moving.{fields_at-header}
use Rattle.standing_calls.proofs.FieldSlots.{page-of}
use Rattle.standing_calls.proofs.Logs.{pages-known}
use Rattle.mark_compact.proofs.Drops.{control_case}
use Rattle.mark_compact.proofs.Logged.{cleared-stands}
use Rattle.remember_sets.proofs.Filtered.{filter-contains}
use Rattle.mark_compact.proofs.Goes.{Goes, goes-at, goes-other, goes_to, in_old-here, in_old-tells}
use Rattle.mark_compact.proofs.Slides.{one_thing}

pub dropped-none : (dropped : Name → Bool) (n : Name) (x : Option Thing) (o : Thing) → dropped n ≡ true → cond (dropped n) None x ≡ Some o → ⊥
dropped-none dropped n x o gone e = absurd (let q : None ≡ Some o = sym (ap (λ b. cond b None x) gone) ∙ e in cc)

pub still-there : (dropped : Name → Bool) (n : Name) (x : Option Thing) (o : Thing) → x ≡ Some o → is_some (cond (dropped n) None x) ≡ true → cond (dropped n) None x ≡ Some o
still-there dropped n x o e t =
    ⊎_elim (λ (gone : dropped n ≡ true). absurd (false≢true (sym (ap (λ b. is_some (cond b None x)) gone) ∙ t)))
    (λ (stay : dropped n ≡ false). ap (λ b. cond b None x) stay ∙ e)
    (cases_Bool (dropped n))

-- the home of a present object is a region of the heap, or Control
valid-region : (m : Areas) (x : Space) → IsValid MAX_DEPTH x → x ≢ Control → space_index x ≤ max_depth m * m.threads → IsRegionOf m x
valid-region m Control valid ne le = absurd (ne refl)
valid-region m (Region t d) valid ne le = (valid.0, omega (arith, valid.2, valid.3, le), valid.2, valid.3)

pub home-region : (m : Areas) (c : Contents) (s : State) (l : Places) (n : Name) (o : Thing) → StandsAs m c s l → IsValid MAX_DEPTH o.home → s.objects n ≡ Some o → o.home ≢ Control → IsRegionOf m o.home
home-region m c s l n o h valid e ne =
    let at = h.heap.present n o e in
    let w = h.heap.whole n at.0 at.1 at.2 in
    let page = at.2.page in
    let known = pages-known m c s l h at.0 (omega (arith, page, h.heap.count)) in
    let word : space_word c.table at.0 ≡ space_index o.home + 1 = w.2 ∙ ap (λ (x : Thing). space_index x.home + 1) (one_thing w.0 o (sym w.1 ∙ e)) in
    valid-region m o.home valid ne (omega (arith, known, word))

pub region_above : (x : Space) → x ≢ Control → 1 < space_index x + 1
region_above Control ne = absurd (ne refl)
region_above (Region t d) ne = omega arith

-- what is known of the words before the slots follow
pub record Ready (m : Areas) (c0 c1 c2 c3 : Contents) (s : SpaceState) (l : Places) (count : ℕ) (moves : ℕ → Move) (t last : ℕ) : Type 0 where
  pub areas : IsAreas m
  pub thread : HasThread m t
  pub cleared : Cleared m c0 c1
  pub lain : Lain m c1 s l c2 count moves
  pub ends : IsLast (with_pool_rebuilt c2).table m.pages last
  pub pages : ControlPages (with_pool_rebuilt c2) c3 t last m.threads
  pub pool : PoolStands m c3.heads c3.pool c3.table
  pub buffers : BuffersHold m c0
  pub long : length c1.table ≡ m.pages
  pub long_now : length c2.table ≡ m.pages

module _ (m : Areas) (c1 : Contents) (s : SpaceState) (h1 : Stands m c1 s) (c2 : Contents) (count : ℕ) (moves : ℕ → Move) (lain : Lain m c1 s h1.places c2 count moves) (areas : IsAreas m) where
  was-there : (n : Name) (o : Thing) → (without (view s) lain.dropped).objects n ≡ Some o → object_of s n ≡ Some o
  was-there n o e = kept (view s) lain.dropped n o e

  pub holds-after : Holds m c2.heap lain.places.at lain.places.at (λ _. 0) (without (view s) lain.dropped).objects
  holds-after = record {
    within = λ n o e.
        let at = lain.heap.present n o e in
        let w = in_page (page_words m) _ lain.places n at.0 at.1 lain.heap.tiles at.2 in
        let size : size_by (without (view s) lain.dropped).objects n ≡ length o.fields + 3 = ap words_by e in
        omega (arith, w.1, size, at.2.page, lain.heap.count);
    limits = λ n o e. ((lain.closed.fields n o e).1, home-index m c1 (view s) h1.places n o areas h1.stands (was-there n o e));
    stands = λ n o e. lain.heap.held n o e;
  }

  pub data-after : AreData (without (view s) lain.dropped).objects
  data-after n o e = (lain.closed.fields n o e).0

  pub valid-after : AreValid (without (view s) lain.dropped).objects
  valid-after n o e = subst (λ (l : Limits). IsValid l.depth o.home) h1.whole.limits (h1.whole.homes n o.home (seen s n o (was-there n o e)).home_is)

module _ (m : Areas) (c0 c1 c2 c3 : Contents) (s : SpaceState) (h : Stands m c0 s) (count : ℕ) (moves : ℕ → Move) (t last : ℕ) (st : Ready m c0 c1 c2 c3 s h.places count moves t last) where
  abbrev h1 : Stands m c1 s
  h1 = cleared-stands m c0 c1 s h st.buffers st.cleared

  abbrev v : State
  v = without (view s) st.lain.dropped

  abbrev there : Places
  there = st.lain.places

  frame2 : c2 ≡ record c1 { stacks = c2.stacks; table = c2.table; scratch = c2.scratch; heap = c2.heap }
  frame2 = st.lain.frame

  heap3 : c3.heap ≡ c2.heap
  heap3 = ap (λ (x : Contents). x.heap) st.pages.frame

  table3 : c3.table ≡ c2.table
  table3 = ap (λ (x : Contents). x.table) st.pages.frame

  chain3 : (x : Space) → chain m c3 x ≡ chain m c1 x
  chain3 x =
      ap (λ (fs : List (List ℕ)). chain_of m fs c3.sets x) (ap (λ (x : Contents). x.firsts) st.pages.frame ∙ ap (λ (x : Contents). x.firsts) frame2)
      ∙ ap (λ (xs : List ℕ). chain_of m c1.firsts xs x) (ap (λ (x : Contents). x.sets) st.pages.frame ∙ ap (λ (x : Contents). x.sets) frame2)

  abbrev stays : ℕ → Bool
  stays = is_kept m c3 count moves

  abbrev goes : ℕ → ℕ
  goes = goes_to c3.heap count moves

  pub valid-before : AreValid (object_of s)
  valid-before n o e = subst (λ (l : Limits). IsValid l.depth o.home) h.whole.limits (h.whole.homes n o.home (seen s n o e).home_is)

  -- the page of a field, before the collection
  page-was : (n : Name) (o : Thing) (f : ℕ) → object_of s n ≡ Some o → f < length o.fields → page_word m c1 (h.places.at n + OBJECT_WORDS + f) ≡ space_index o.home + 1
  page-was n o f e lt =
      let place : h.places.at n + (OBJECT_WORDS + f) ≡ h.places.at n + OBJECT_WORDS + f = omega arith in
      ap (page_word m c1) (sym place) ∙ page-of m c1 (object_of s) h.places (λ _. 0) n o (OBJECT_WORDS + f) h1.stands.heap e (omega (arith, lt))

  -- the move of an object of Control that is kept, and its fields
  fields-of : (k : ℕ) (n : Name) (o : Thing) → v.objects n ≡ Some o → there.at n ≡ (moves k).new → fields_at c3.heap (moves k).new ≡ length o.fields
  fields-of k n o e at =
      let header = ((holds-after m c1 s h1 c2 count moves st.lain st.areas).stands n o e).header in
      ap (λ (hp : List ℕ). fields_at hp (moves k).new) heap3 ∙ ap (fields_at c2.heap) (sym at) ∙ fields_at-header c2.heap (there.at n) (record { fields = length o.fields; space = space_index o.home }) ((holds-after m c1 s h1 c2 count moves st.lain st.areas).limits n o e) header

  abbrev ways : Goes c3.heap count moves
  ways = record {
    behind = λ j k lt lk. subst (λ (hp : List ℕ). (moves j).old + size_at hp (moves j).new ≤ (moves k).old) (sym heap3) (st.lain.behind j k lt lk);
    spread = λ j k lt lk. subst (λ (hp : List ℕ). (moves j).new + size_at hp (moves j).new ≤ (moves k).new) (sym heap3) (st.lain.spread j k lt lk);
    front = st.lain.front;
  }

  pub moved-slots : (n : Name) (o : Thing) (f : ℕ) → v.objects n ≡ Some o → f < length o.fields → goes (h.places.at n + OBJECT_WORDS + f) ≡ there.at n + OBJECT_WORDS + f
  moved-slots n o f e lt = elim (control_case o.home) [
    | inl control ↦
        let y = st.lain.moved n o e control in
        let fields = fields-of y.0 n o e y.2 in
        ap (λ a. goes (a + OBJECT_WORDS + f)) y.3 ∙ goes-at c3.heap count moves y.0 f ways y.1 (omega (arith, fields, lt)) ∙ ap (λ a. a + OBJECT_WORDS + f) (sym y.2)
    | inr region ↦
        let old : object_of s n ≡ Some o = kept (view s) st.lain.dropped n o e in
        let page = page-was n o f old lt in
        let above = region_above o.home region in
        goes-other c3.heap count moves (h.places.at n + OBJECT_WORDS + f) (λ k i lk li z.
        let w = st.lain.from k lk in
        let own = page-was w.0 w.1 i (kept (view s) st.lain.dropped w.0 w.1 w.2) (omega (arith, li, fields-of k w.0 w.1 w.2 w.3)) in
        let word = ap (λ (x : Space). space_index x + 1) w.5 in
        let same = ap (page_word m c1) (z ∙ ap (λ a. a + OBJECT_WORDS + i) (sym w.4)) in
        omega (arith, page, above, own, word, same))
        ∙ ap (λ a. a + OBJECT_WORDS + f) (sym (st.lain.still n o old region))
  ]

  -- the page of a word after the collection: of a region as before, of Control or free where it was Control's
  page-still : (a : ℕ) → 1 < page_word m c1 a → page_word m c3 a ≡ page_word m c1 a
  page-still a above =
      ap (λ (tb : List (List ℕ)). space_word tb (a / page_words m)) table3 ∙ ap (λ (r : List ℕ). get_or r 0 0) (st.lain.others (a / page_words m) (λ own. omega (arith, own, above)))

  page-gone : (a : ℕ) → a / page_words m < m.pages → page_word m c1 a ≡ 1 → page_word m c3 a < 2
  page-gone a lt own =
      let q : page_word m c3 a ≡ space_word c2.table (a / page_words m) = ap (λ (tb : List (List ℕ)). space_word tb (a / page_words m)) table3 in
      ⊎_elim (λ filled. omega (arith, q, filled.0)) (λ free. omega (arith, q, free.0)) (st.lain.control (a / page_words m) lt own)

  -- a field lies in the old place of no other object that was moved
  old-one : (n : Name) (o : Thing) (f : ℕ) → object_of s n ≡ Some o → f < length o.fields → in_old c3.heap count moves (h.places.at n + OBJECT_WORDS + f) ≡ true → st.lain.dropped n ≡ true → ⊥
  old-one n o f e lt t gone =
      let k = in_old-tells c3.heap count moves (h.places.at n + OBJECT_WORDS + f) t in
      let w = st.lain.from k.0 k.1 in
      let old : object_of s w.0 ≡ Some w.1 = kept (view s) st.lain.dropped w.0 w.1 w.2 in
      let a = h.stands.heap.present n o e in
      let b = h.stands.heap.present w.0 w.1 old in
      let ne : n ≢ w.0 = λ z. dropped-none st.lain.dropped w.0 (object_of s w.0) w.1 (ap st.lain.dropped (sym z) ∙ gone) w.2 in
      let size : size_by (object_of s) n ≡ length o.fields + 3 = ap words_by e in
      let other : size_by (object_of s) w.0 ≡ length w.1.fields + 3 = ap words_by old in
      let fields = fields-of k.0 w.0 w.1 w.2 w.3 in
      ⊎_elim (λ before. omega (arith, before, size, k.2, w.4, lt)) (λ behind. omega (arith, behind, other, k.3, w.4, fields)) (apart (page_words m) (size_by (object_of s)) h.places n w.0 a.0 a.1 b.0 b.1 h.stands.heap.tiles a.2 b.2 ne)

  field-page : (n : Name) (o : Thing) (f : ℕ) → object_of s n ≡ Some o → f < length o.fields → (h.places.at n + OBJECT_WORDS + f) / page_words m < m.pages
  field-page n o f e lt =
      let at = h.stands.heap.present n o e in
      let page = in_page (page_words m) (size_by (object_of s)) h.places n at.0 at.1 h.stands.heap.tiles at.2 in
      let size : size_by (object_of s) n ≡ length o.fields + 3 = ap words_by e in
      omega (arith, page.0, page.1, size, lt, at.2.page, h.stands.heap.count)

  pub kept-slots : (n : Name) (o : Thing) (f : ℕ) → object_of s n ≡ Some o → f < length o.fields → stays (h.places.at n + OBJECT_WORDS + f) ≡ is_some (v.objects n)
  kept-slots n o f e lt =
      let a : ℕ = h.places.at n + OBJECT_WORDS + f in
      let page = page-was n o f e lt in
      elim (control_case o.home) [
        | inr region ↦
            let above = region_above o.home region in
            let word : page_word m c3 a ≡ page_word m c1 a = page-still a (omega (arith, page, above)) in
            let home = (seen s n o e).home_is in
            let stay : st.lain.dropped n ≡ false = st.lain.keeps.outside n (λ z. region (some_space o.home Control (sym home ∙ z))) in
            ap (λ b. not (b && not (in_old c3.heap count moves a))) (le-ltb (page_word m c3 a) 2 (omega (arith, word, page, above))) ∙ sym (ap is_some (keep-case (view s) st.lain.dropped n o (st.lain.dropped n) refl stay e))
        | inl control ↦
            let one : page_word m c1 a ≡ 1 = page ∙ ap (λ (x : Space). space_index x + 1) control in
            ⊎_elim (λ (stay : st.lain.dropped n ≡ false).
            let now : v.objects n ≡ Some o = keep-case (view s) st.lain.dropped n o (st.lain.dropped n) refl stay e in
            let y = st.lain.moved n o now control in
            let fields = fields-of y.0 n o now y.2 in
            let here : in_old c3.heap count moves a ≡ true = in_old-here c3.heap count moves y.0 a y.1 (omega (arith, y.3)) (omega (arith, y.3, fields, lt)) in
            ap (λ b. not (ltb (page_word m c3 a) 2 && not b)) here ∙ ap not (and_right (ltb (page_word m c3 a) 2) false refl) ∙ sym (ap is_some now))
            (λ (gone : st.lain.dropped n ≡ true).
            let none : in_old c3.heap count moves a ≡ false = false_from_ne_true (in_old c3.heap count moves a) (λ t. old-one n o f e lt t gone) in
            ap (λ b. not (b && not (in_old c3.heap count moves a))) (lt-ltb (page_word m c3 a) 2 (page-gone a (field-page n o f e lt) one)) ∙ ap (λ b. not (true && not b)) none ∙ sym (ap (λ b. is_some (cond b None (object_of s n))) gone))
            (⊎_swap (cases_Bool (st.lain.dropped n)))
      ]
    where
      some_space : (x y : Space) → Some x ≡ Some y → x ≡ y
      some_space x y e = cc

      ⊎_swap : {A B : Type 0} → A ⊎ B → B ⊎ A
      ⊎_swap (inl a) = inr a
      ⊎_swap (inr b) = inl b

  -- a recorded slot of an object that is kept meets a new place only behind the object's old place
  pub meets : (d : Contents) → RecordedAs m c0 (view s) h.places.at → ((x : Space) → IsRegionOf m x → chain m d x ≡ filter stays (chain m c3 x)) → (k f : ℕ) → k < count → f < fields_at c3.heap (moves k).new → IsFiled m d ((moves k).new + OBJECT_WORDS + f) → (IsOldField c3.heap k moves ((moves k).new + OBJECT_WORDS + f) → ⊥) → (moves k).old ≤ (moves k).new + f
  meets d r dropped k f lk lf filed fresh =
      let a : ℕ = (moves k).new + OBJECT_WORDS + f in
      let l : List ℕ = all_filed m c0 filed.0 (logged c0) (chain m c0 filed.0) in
      let q = filter-contains stays (chain m c3 filed.0) a (subst (λ (x : List ℕ). Contains x a) (dropped filed.0 filed.1) filed.2) in
      let i : Contains l a = subst (λ (x : List ℕ). Contains x a) (chain3 filed.0 ∙ st.cleared.filed filed.0 filed.1) q.0 in
      let y = r.fields a (⊎_elim (λ p. inr p.0) (λ p. inl (filed.0, filed.1, p.1)) ((all_filed-has m c0 filed.0 (logged c0) (chain m c0 filed.0) a).0 i)) in
      let stay : is_some (v.objects y.0) ≡ true = sym (kept-slots y.0 y.1 y.2 y.3 y.4) ∙ ap stays (sym y.5) ∙ q.1 in
      let now : v.objects y.0 ≡ Some y.1 = still-there st.lain.dropped y.0 (object_of s y.0) y.1 y.3 stay in
      let w = st.lain.from k lk in
      let size = fields-of k w.0 w.1 w.2 w.3 in
      elim (control_case y.1.home) [
        | inl control ↦
            let g = st.lain.moved y.0 y.1 now control in
            let fields = fields-of g.0 y.0 y.1 now g.2 in
            ⊎_elim (λ (e : g.0 ≡ k). omega (arith, y.5, g.3, ap (λ j. (moves j).old) e))
            (λ (ne : g.0 ≡ k → ⊥).
            ⊎_elim (λ (before : g.0 < k). absurd (fresh (g.0, before, omega (arith, y.5, g.3), omega (arith, y.5, g.3, fields, y.4))))
            (λ (le : k ≤ g.0). absurd (omega (arith, y.5, g.3, lf, ways.spread k g.0 (omega (arith, le, ne)) g.1, ways.front g.0 g.1)))
            (cases_lt g.0 k))
            (cases_eq g.0 k)
        | inr region ↦
            let heap2 = st.lain.heap in
            let place : there.at w.0 + (OBJECT_WORDS + f) ≡ a = omega (arith, w.3) in
            let own : page_word m c2 (there.at w.0 + (OBJECT_WORDS + f)) ≡ space_index w.1.home + 1 = page-of m c2 v.objects there (λ _. 0) w.0 w.1 (OBJECT_WORDS + f) heap2 w.2 (omega (arith, lf, size)) in
            let other_place : there.at y.0 + (OBJECT_WORDS + y.2) ≡ a = omega (arith, y.5, st.lain.still y.0 y.1 y.3 region) in
            let other : page_word m c2 (there.at y.0 + (OBJECT_WORDS + y.2)) ≡ space_index y.1.home + 1 = page-of m c2 v.objects there (λ _. 0) y.0 y.1 (OBJECT_WORDS + y.2) heap2 now (omega (arith, y.4)) in
            let word = ap (λ (x : Space). space_index x + 1) w.5 in
            absurd (omega (arith, region_above y.1.home region, own, other, word, ap (page_word m c2) place, ap (page_word m c2) other_place))
      ]
