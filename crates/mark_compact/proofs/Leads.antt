-- References that follow the plan of a collection.
use Rattle.std.proofs.Common.{◌≡◌, ◌≢◌, ◌⊎◌, ℕ, ◌+◌, ◌-◌, ◌*◌, ◌≤◌, ◌<◌, Some, List, length, get_or, refl, sym, ap, subst, ◌∙◌, arith, inl, inr}
use Rattle.std.proofs.Props.{props}
use Rattle.std.proofs.lemmas.Bool.{cases_lt, cases_order}
use Rattle.std.proofs.lemmas.List.{get_or_default}
use Rattle.std.proofs.Math.Logic.{⊎_elim, ∥∥₁_elim}
use Rattle.object_layout.specs.declared.names.Name.{Name}
use Rattle.heap_words.specs.declared.map.Areas.{Areas}
use Rattle.heap_words.specs.Map.{IsAreas, heap_length, page_words}
use Rattle.heap_words.specs.Contents.{Contents, stack_of}
use Rattle.epoch_lattice.specs.declared.Space.{Space}
use Rattle.epoch_lattice.specs.declared.Space.TheVariants.{Control, Region}
use Rattle.epoch_lattice.specs.Lattice.{space_index}
use Rattle.yak_model.specs.declared.datum.Datum.TheVariants.{Null}
use Rattle.yak_model.specs.Graph.{slot_of}
use Rattle.yak_model.specs.Spaces.{SpaceState}
use Rattle.yak_model.specs.State.{Thing, object_of, view}
use Rattle.yak_model.specs.Placed.{Holds, IsAt, names_of, space_word, used_mark}
use Rattle.yak_model.specs.Plans.{Move, forward, forwarded}
use Rattle.yak_model.specs.Stands.{Stands}
use Rattle.yak_model.proofs.Data.{in_heap, refers}
use Rattle.yak_model.proofs.Names.{same_or_other}
use Rattle.yak_model.proofs.Stacks.{slot-fits, slot-word}
use Rattle.relocation.specs.Moves.{AllMovable, HasHeader, corrected_word, size_at}
use Rattle.relocation.specs.Fields.{Lined, MovesCorrected}
use Rattle.relocation.specs.Slide.{IsPageOf, PageRun, object_at}
use Rattle.relocation.proofs.Moving.{fields_at-same}
use Rattle.relocation.proofs.Lawful.{kept}
use Rattle.relocation.proofs.SlidLawful.{name_at, runs_of, slid_object, stands-at, walk-at}
use Rattle.relocation.proofs.Slidden.{holds-corrected}
use Rattle.heap_walks.proofs.Objects.{lie_apart}
use Rattle.forwarding.specs.Corrected.{IsFieldIn, IsRegional, RegionRuns, RegionsCorrected}
use Rattle.mark_compact.specs.Collecting.{Planned}
use Rattle.mark_compact.specs.declared.sliding.TheConstants.{CONTROL_WORD}
use Rattle.mark_compact.proofs.Drops.{control_case}
use Rattle.relocation.proofs.RunsTold.{one_end, run-told}
use Rattle.mark_compact.proofs.Slides
use Rattle.mark_compact.proofs.Whole.{laid}

region_index : (x : Space) → x ≢ Control → 1 < space_index x + 1
region_index Control ne = absurd (ne refl)
region_index (Region t d) ne = omega arith

-- ---- facts that are only known to hold for some state

same_objects : (m : Areas) (c : Contents) (q : ℕ) (a b : PageRun m c q) → a.objects ≡ b.objects
same_objects m c q a b = one_end m c q ∣ b ∣₁ a.objects a.ends b

pub region-runs-told : (m : Areas) (c : Contents) (count : ℕ) (moves : ℕ → Move) → ∥ RegionRuns m c count moves ∥₁ → RegionRuns m c count moves
region-runs-told m c count moves some =
    let runs : (q : ℕ) → q < m.pages → IsRegional c q → PageRun m c q = λ q lt more. run-told m c q (∥∥₁_elim some (hlevel props) (λ r. ∣ r.run q lt more ∣₁)) in
    record {
      run = runs;
      lead = λ q lt more i b x e. ∥∥₁_elim some (hlevel props) (λ r.
          let same = same_objects m c q (runs q lt more) (r.run q lt more) in
          r.lead q lt more i b (x.0, (let l : x.0 < (r.run q lt more).objects = subst (λ j. x.0 < j) same x.1 in l), x.2, x.3) e);
      beside = λ q k lt more lk. ⊎_elim
          (λ (less : (moves k).old + 2 < page_words m * q). inl less)
          (λ (le : page_words m * q ≤ (moves k).old + 2). inr (∥∥₁_elim some (hlevel props) (λ r. ⊎_elim
          (λ (less : (moves k).old + 2 < page_words m * q). absurd (omega (arith, less, le)))
          (λ (past : page_words m * q + page_words m ≤ (moves k).old + 2). past)
          (r.beside q k lt more lk))))
          (cases_lt ((moves k).old + 2) (page_words m * q));
    }

pub movable-same : (m : Areas) (was now : List ℕ) (count : ℕ) (moves : ℕ → Move) → AllMovable m was count moves → ((k : ℕ) → k < count → get_or now (moves k).old 0 ≡ get_or was (moves k).old 0) → AllMovable m now count moves
movable-same m was now count moves old same =
    let size : (k : ℕ) → k < count → size_at now (moves k).old ≡ size_at was (moves k).old = λ k lt. ap (λ i. i + 3) (fields_at-same was now (moves k).old (same k lt)) in
    record {
      each = λ k lt.
          let x = old.each k lt in
          record {
            header = (x.header.0, x.header.1, same k lt ∙ x.header.2);
            space = x.space;
            old = rw (size k lt) x.old;
            new = rw (size k lt) x.new;
          };
      apart = λ j k lt lk. let lj : j < count = omega arith in rw (size j lj, size k lk) (old.apart j k lt lk);
      later = λ j k lt lk. let lj : j < count = omega arith in rw (size j lj, size k lk) (old.later j k lt lk);
    }

-- ---- a planned collection

module _ (m : Areas) (was : Contents) (s : SpaceState) (h : Stands m was s) (d : Contents) (count : ℕ) (moves : ℕ → Move) (p : Planned m was s h.places d count moves) (areas : IsAreas m) where
  pub stack-lead : (t k a : ℕ) → get_or (stack_of was t) k 0 ≡ 2 * (a + 1) → a + 2 < heap_length m
  stack-lead t k a e =
      let r = refers m was (view s) h.places (slot_of s.graph t k) a h.stands (slot-fits m was s h t k) (sym (slot-word m was s h t k) ∙ e) in
      let w = in_heap m was (view s) h.places r.0 r.1 h.stands r.3 in
      omega (arith, w, r.4)

  abbrev tabled : Contents
  tabled = record d { table = was.table }

  abbrev work : Name → ℕ
  work n = get_or d.heap (h.places.at n + 2) 0

  abbrev pub region-run : (q : ℕ) → q < m.pages → IsRegional d q → PageRun m d q
  region-run q lt more =
      let used : used_mark d.table q ≡ used_mark was.table q = ap (λ (r : List ℕ). get_or r 1 0) (Slides.row-other m was s h d count moves p areas q (Slides.regional m was s h d count moves p areas q lt more)) in
      let r = runs_of m (space_word was.table q) tabled (view s) h.places work (Slides.numbers m was s h d count moves p areas) h.stands.closed (Slides.space-fits m was s h d count moves p areas q lt) q lt refl in
      record {
        objects = length (names_of h.places q);
        headers = r.headers;
        ends = r.ends ∙ ap (λ i. page_words m * q + i) (sym used);
        fits = rw used r.fits;
      }

  pub field-of : (q i : ℕ) (lt : q < m.pages) (more : IsRegional d q) → IsFieldIn m d q (region-run q lt more) i → (n : Name) × (o : Thing) × (f : ℕ) × (object_of s n ≡ Some o) × (f < length o.fields) × (i ≡ h.places.at n + 3 + f) × ((k : ℕ) × IsAt h.places n q k)
  field-of q i lt more x =
      let k : ℕ = x.0 in
      let n : Name = name_at h.places q k in
      let at = stands-at m was.table d.heap (object_of s) h.places work (Slides.numbers m was s h d count moves p areas) q k lt x.1 in
      let o = slid_object m (space_word was.table q) tabled (view s) h.places work (Slides.numbers m was s h d count moves p areas) h.stands.closed (Slides.space-fits m was s h d count moves p areas q lt) n q k at refl in
      let place : object_at m d.heap q k ≡ h.places.at n = walk-at m (space_word was.table q) tabled (view s) h.places work (Slides.numbers m was s h d count moves p areas) h.stands.closed (Slides.space-fits m was s h d count moves p areas q lt) q k lt refl x.1 in
      let size : size_at d.heap (object_at m d.heap q k) ≡ length o.thing.fields + 3 = ap (size_at d.heap) place ∙ o.size in
      (n, o.thing, i - (h.places.at n + 3), o.present, omega (arith, x.2, x.3, place, size), omega (arith, x.2, place), (k, at))

  pub lead-of : (n : Name) (o : Thing) (f b : ℕ) → object_of s n ≡ Some o → f < length o.fields → get_or d.heap (h.places.at n + 3 + f) 0 ≡ 2 * (b + 1) → b + 2 < heap_length m
  lead-of n o f b e lt word =
      let r = refers m was (view s) h.places (get_or o.fields f Null) b h.stands ((h.stands.closed.fields n o e).0 f Null lt) (sym (((Slides.numbers m was s h d count moves p areas).held n o e).fields f lt) ∙ word) in
      let w = in_heap m was (view s) h.places r.0 r.1 h.stands r.3 in
      omega (arith, w, r.4)

  pub beside-region : (q k : ℕ) → q < m.pages → IsRegional d q → k < count → ((moves k).old + 2 < page_words m * q) ⊎ (page_words m * q + page_words m ≤ (moves k).old + 2)
  beside-region q k lt more lk =
      let w = Slides.move-page m was s h d count moves p areas k lk in
      elim (cases_order w.0 q) [
        | inl same ↦ absurd (Slides.regional m was s h d count moves p areas q lt more (subst (IsPageOf CONTROL_WORD was.table) same w.2))
        | inr (inl less) ↦ inl (omega (arith, w.4, less))
        | inr (inr more_than) ↦ inr (omega (arith, w.3, more_than))
      ]

  abbrev pub regions : RegionRuns m d count moves
  regions = record {
    run = region-run;
    lead = λ q lt more i b x e. let y = field-of q i lt more x in lead-of y.0 y.1 y.2 b y.3 y.4 (ap (λ j. get_or d.heap j 0) (sym y.5) ∙ e);
    beside = beside-region;
  }

  not-field : (n : Name) (o : Thing) (j : ℕ) → object_of s n ≡ Some o → j < length o.fields + 3 → (j < 3) ⊎ (o.home ≡ Control) → (q : ℕ) (lt : q < m.pages) (more : IsRegional d q) → IsFieldIn m d q (region-run q lt more) (h.places.at n + j) → ⊥
  not-field n o j e within reason q lt more x =
      let y = field-of q (h.places.at n + j) lt more x in
      elim (same_or_other n y.0) as (λ _. ⊥) [
        | inl same ↦
            let at : h.places.at n ≡ h.places.at y.0 = ap h.places.at same in
            elim reason as (λ _. ⊥) [
              | inl less ↦ omega (arith, at, y.5, less)
              | inr control ↦
                  let thing : o ≡ y.1 = Slides.one_thing o y.1 (sym e ∙ ap (object_of s) same ∙ y.3) in
                  Slides.regional m was s h d count moves p areas q lt more (Slides.home-of_page m was s h d count moves p areas y.0 y.1 q y.6.0 y.3 y.6.1 ∙ Slides.control_index y.1.home (ap (λ (t : Thing). t.home) (sym thing) ∙ control))
            ]
        | inr ne ↦ elim (lie_apart m (laid m was s h) n y.0 o y.1 h.stands e y.3 ne) as (λ _. ⊥) [
          | inl a ↦ omega (arith, a, y.5, within)
          | inr a ↦ omega (arith, a, y.5, y.4)
        ]
      ]

  is-field : (n : Name) (o : Thing) (f : ℕ) → object_of s n ≡ Some o → o.home ≢ Control → f < length o.fields → (q : ℕ) × (lt : q < m.pages) × (more : IsRegional d q) × IsFieldIn m d q (region-run q lt more) (h.places.at n + 3 + f)
  is-field n o f e ne lf =
      let at = h.stands.heap.present n o e in
      let q : ℕ = at.0 in
      let lt : q < m.pages = omega (arith, at.2.page, h.stands.heap.count) in
      let page = Slides.home-of_page m was s h d count moves p areas n o q at.1 e at.2 in
      let big = region_index o.home ne in
      let other : IsPageOf CONTROL_WORD was.table q → ⊥ = λ z. omega (arith, z, page, big) in
      let word : space_word d.table q ≡ space_word was.table q = ap (λ (r : List ℕ). get_or r 0 0) (Slides.row-other m was s h d count moves p areas q other) in
      let more : IsRegional d q = omega (arith, word, page, big) in
      let name : name_at h.places q at.1 ≡ n = get_or_default (names_of h.places q) at.1 (record { thread = 0; serial = 0 }) n at.2.place ∙ at.2.name in
      let place : object_at m d.heap q at.1 ≡ h.places.at n = walk-at m (space_word was.table q) tabled (view s) h.places work (Slides.numbers m was s h d count moves p areas) h.stands.closed (Slides.space-fits m was s h d count moves p areas q lt) q at.1 lt refl at.2.place ∙ ap h.places.at name in
      let size : size_at d.heap (object_at m d.heap q at.1) ≡ length o.fields + 3 = ap (size_at d.heap) place ∙ (Slides.sized m was s h d count moves p areas n o e).1 in
      (q, lt, more, (at.1, at.2.place, omega (arith, place), omega (arith, place, size, lf)))

  module _ (e1 : List ℕ) (rc : RegionsCorrected m (forward count moves) d count moves regions e1) where
    kept-one : (n : Name) (o : Thing) (j : ℕ) → object_of s n ≡ Some o → j < length o.fields + 3 → (j < 3) ⊎ (o.home ≡ Control) → get_or e1 (h.places.at n + j) 0 ≡ get_or d.heap (h.places.at n + j) 0
    kept-one n o j e within reason = rc.others (h.places.at n + j) (λ q lt more x. not-field n o j e within reason q lt more x)

    pub header-one : (k : ℕ) → k < count → get_or e1 (moves k).old 0 ≡ get_or d.heap (moves k).old 0
    header-one k lt =
        let x = Slides.object m was s h d count moves p areas k lt in
        let at : h.places.at x.0 + 0 ≡ (moves k).old = omega (arith, x.4) in
        ap (λ i. get_or e1 i 0) (sym at) ∙ kept-one x.0 x.1 0 x.3 (omega arith) (inl (omega arith)) ∙ ap (λ i. get_or d.heap i 0) at

    size-one : (k : ℕ) → k < count → size_at e1 (moves k).old ≡ size_at d.heap (moves k).old
    size-one k lt = ap (λ i. i + 3) (fields_at-same d.heap e1 (moves k).old (header-one k lt))

    pub lined : Lined m e1 count moves
    lined = record {
      headers = λ k lt.
          let x = Slides.object m was s h d count moves p areas k lt in
          let y : HasHeader d.heap (moves k).old = subst (HasHeader d.heap) x.4 (Slides.sized m was s h d count moves p areas x.0 x.1 x.3).0 in
          (y.0, y.1, header-one k lt ∙ y.2);
      within = λ k lt.
          let w = Slides.move-page m was s h d count moves p areas k lt in
          let size = size-one k lt in
          omega (arith, w.1, w.4, size);
      ordered = λ j k less lk.
          let lj : j < count = omega (arith, less, lk) in
          let a = (Slides.slid m was s h d count moves p areas).sliding.apart j k less lk in
          let b = size-one j lj in
          let c = Slides.size-same m was s h d count moves p areas j lj in
          omega (arith, a, b, c);
      lead = λ k lt i b low high word.
          let x = Slides.object m was s h d count moves p areas k lt in
          let size : size_at d.heap (moves k).old ≡ length x.1.fields + 3 = ap (size_at d.heap) (sym x.4) ∙ (Slides.sized m was s h d count moves p areas x.0 x.1 x.3).1 in
          let now = size-one k lt in
          let f : ℕ = i - ((moves k).old + 3) in
          let lf : f < length x.1.fields = omega (arith, low, high, size, now) in
          let at : h.places.at x.0 + 3 + f ≡ i = omega (arith, x.4, low) in
          let at' : h.places.at x.0 + (3 + f) ≡ i = omega (arith, x.4, low) in
          let same : get_or e1 i 0 ≡ get_or d.heap i 0 = ap (λ j. get_or e1 j 0) (sym at') ∙ kept-one x.0 x.1 (3 + f) x.3 (omega (arith, lf)) (inr (Slides.moved-home m was s h d count moves p areas k lt)) ∙ ap (λ j. get_or d.heap j 0) at' in
          lead-of x.0 x.1 f b x.3 lf (ap (λ j. get_or d.heap j 0) at ∙ sym same ∙ word);
    }

    module _ (e2 : List ℕ) (mc : MovesCorrected (forward count moves) e1 e2 count moves) where
      -- the words of an object that isn't moved, and the first words of one that is
      untouched : (n : Name) (o : Thing) (j : ℕ) → object_of s n ≡ Some o → j < length o.fields + 3 → (j < 3) ⊎ (o.home ≢ Control) → get_or e2 (h.places.at n + j) 0 ≡ get_or e1 (h.places.at n + j) 0
      untouched n o j e within reason = mc.others (h.places.at n + j) (λ k lt.
          let x = Slides.object m was s h d count moves p areas k lt in
          let size : size_at e1 (moves k).old ≡ length x.1.fields + 3 = size-one k lt ∙ ap (size_at d.heap) (sym x.4) ∙ (Slides.sized m was s h d count moves p areas x.0 x.1 x.3).1 in
          elim (same_or_other n x.0) [
            | inl same ↦ elim reason [
              | inl less ↦ inl (let at : h.places.at n ≡ h.places.at x.0 = ap h.places.at same in omega (arith, at, x.4, less))
              | inr ne ↦
                  let thing : o ≡ x.1 = Slides.one_thing o x.1 (sym e ∙ ap (object_of s) same ∙ x.3) in
                  absurd (ne (ap (λ (t : Thing). t.home) thing ∙ Slides.moved-home m was s h d count moves p areas k lt))
            ]
            | inr other ↦ elim (lie_apart m (laid m was s h) n x.0 o x.1 h.stands e x.3 other) [
              | inl a ↦ inl (omega (arith, a, within, x.4))
              | inr a ↦ inr (omega (arith, a, size, x.4))
            ]
          ])

      pub header-two : (k : ℕ) → k < count → get_or e2 (moves k).old 0 ≡ get_or d.heap (moves k).old 0
      header-two k lt =
          let x = Slides.object m was s h d count moves p areas k lt in
          let at : h.places.at x.0 + 0 ≡ (moves k).old = omega (arith, x.4) in
          ap (λ i. get_or e2 i 0) (sym at) ∙ untouched x.0 x.1 0 x.3 (omega arith) (inl (omega arith)) ∙ ap (λ i. get_or e1 i 0) at ∙ header-one k lt

      field-two : (n : Name) (o : Thing) (f : ℕ) → Slides.kept_objects m was s h d count moves p areas n ≡ Some o → f < length o.fields → get_or e2 (h.places.at n + 3 + f) 0 ≡ corrected_word (forward count moves) (get_or d.heap (h.places.at n + 3 + f) 0)
      field-two n o f e lt =
          let old : object_of s n ≡ Some o = kept (view s) p.dropped n o e in
          let at : h.places.at n + 3 + f ≡ h.places.at n + (3 + f) = omega arith in
          elim (control_case o.home) [
            | inl control ↦
                let y = Slides.found m was s h d count moves p areas n o e control in
                let size : size_at e1 (moves y.0).old ≡ length o.fields + 3 = size-one y.0 y.1 ∙ ap (size_at d.heap) y.2 ∙ (Slides.sized m was s h d count moves p areas n o old).1 in
                let same : get_or e1 (h.places.at n + 3 + f) 0 ≡ get_or d.heap (h.places.at n + 3 + f) 0 = ap (λ i. get_or e1 i 0) at ∙ kept-one n o (3 + f) old (omega (arith, lt)) (inr control) ∙ ap (λ i. get_or d.heap i 0) (sym at) in
                mc.fields y.0 (h.places.at n + 3 + f) y.1 (omega (arith, y.2)) (omega (arith, y.2, size, lt)) ∙ ap (corrected_word (forward count moves)) same
            | inr region ↦
                let y = is-field n o f old region lt in
                ap (λ i. get_or e2 i 0) at ∙ untouched n o (3 + f) old (omega (arith, lt)) (inr region) ∙ ap (λ i. get_or e1 i 0) (sym at) ∙ rc.fields y.0 y.1 y.2 (h.places.at n + 3 + f) y.3
          ]

      pub holds-two : Holds m e2 h.places.at (forwarded count moves h.places.at) (λ n. get_or d.heap (h.places.at n + 2) 0) (Slides.kept_objects m was s h d count moves p areas)
      holds-two = holds-corrected m d.heap e2 (forward count moves) h.places.at (λ n. get_or d.heap (h.places.at n + 2) 0) (Slides.kept_objects m was s h d count moves p areas) (Slides.holds-planned m was s h d count moves p areas)
          (λ n o e i lt.
          let old : object_of s n ≡ Some o = kept (view s) p.dropped n o e in
          untouched n o i old (omega (arith, lt)) (inl lt) ∙ kept-one n o i old (omega (arith, lt)) (inl lt))
          (λ n o e f lt. field-two n o f e lt)
