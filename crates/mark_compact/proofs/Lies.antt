-- What the moves of a collection leave.
use Rattle.std.proofs.Common.{◌≡◌, ◌≢◌, ◌⊎◌, ℕ, ◌+◌, ◌-◌, ◌*◌, ◌/◌, ◌≤◌, ◌<◌, Option, Some, None, List, [], ◌∷◌, length, map, get_or, zero, suc, refl, sym, ap, subst, ◌∙◌, arith, inl, inr}
use Rattle.std.proofs.Math.Path.{fun_ext}
use Rattle.std.proofs.lemmas.Bool.{cases_eq, cases_lt}
use Rattle.std.proofs.Math.Logic.{⊎_elim, ∥∥₁_map}
use Rattle.object_layout.specs.declared.names.Name.{Name}
use Rattle.object_layout.specs.declared.headers.Header.{Header}
use Rattle.object_layout.specs.declared.TheConstants.{MAX_DEPTH, MAX_SPACE, OBJECT_WORDS}
use Rattle.object_layout.specs.Layout.{IsHeader}
use Rattle.heap_words.specs.declared.map.Areas.{Areas}
use Rattle.heap_words.specs.Map.{IsAreas, heap_length, page_words}
use Rattle.heap_words.specs.Cells.{row}
use Rattle.heap_words.specs.Contents.{Contents}
use Rattle.epoch_lattice.specs.declared.Space.{Space}
use Rattle.epoch_lattice.specs.declared.Space.TheVariants.{Control, Region}
use Rattle.epoch_lattice.specs.Lattice.{IsValid, space_index}
use Rattle.yak_model.specs.Spaces.{SpaceState}
use Rattle.yak_model.specs.State.{Thing, object_of, view}
use Rattle.yak_model.specs.Placed.{HeapStands, Holds, Places, datum_word, names_of, space_word}
use Rattle.yak_model.specs.Plans.{Move, after_moves, by_move, cleared, forward, forwarded, rehomed, without}
use Rattle.yak_model.specs.Packed.{PackedAs}
use Rattle.yak_model.specs.Stands.{Stands, pages_of}
use Rattle.relocation.specs.Moves.{AllMovable, HasHeader, IsReadyPlan, Moved, corrected_word, fields_at, size_at}
use Rattle.relocation.specs.Slide.{GoesBehind, GoesOn, IsFirstPage, IsPageOf, brought, pages_before}
use Rattle.relocation.specs.Slidden.{names_after}
use Rattle.relocation.proofs.Corrected.{corrected-datum}
use Rattle.relocation.proofs.Lawful.{before_moves, by_move-at, by_move-other, kept, which_move}
use Rattle.relocation.proofs.Moving.{fields_at-header}
use Rattle.relocation.proofs.Settled.{slide-stands}
use Rattle.relocation.specs.Slide.{TableAfter}
use Rattle.relocation.proofs.SlidLaid.{places_of}
use Rattle.relocation.proofs.SlidPages.{pages_before-gap}
use Rattle.relocation.proofs.Slidden.{pick, slide-packed}
use Rattle.relocation.proofs.SlidLawful.{slide-present}
use Rattle.forwarding.proofs.Filled.{page_holds, some_brought}
use Rattle.mark_compact.specs.Collected.{AreSlid, IsNext, IsOfControl}
use Rattle.mark_compact.specs.Collecting.{Lain, Led, Planned}
use Rattle.mark_compact.specs.declared.sliding.TheConstants.{CONTROL_WORD}
use Rattle.mark_compact.proofs.Slides
use Rattle.mark_compact.proofs.Slides.{size_told, small}
use Rattle.mark_compact.proofs.Tables.{pages_of-before}

-- ---- words

index-valid : (x : Space) → IsValid MAX_DEPTH x → space_index x ≤ MAX_SPACE
index-valid Control h = omega arith
index-valid (Region t d) h = omega (arith, h.0, h.1, h.2, h.3)

-- the header and the size of a moved object at its new place
pub moved-header : (m : Areas) (was now : List ℕ) (count : ℕ) (moves : ℕ → Move) → AllMovable m was count moves → Moved was now count moves → (k : ℕ) → k < count → HasHeader now (moves k).new × (size_at now (moves k).new ≡ size_at was (moves k).old)
moved-header m was now count moves movable done k lt =
    let x = movable.each k lt in
    let few : fields_at was (moves k).old ≡ x.header.0.fields = fields_at-header was (moves k).old x.header.0 x.header.1 x.header.2 in
    let head : Header = record { fields = fields_at was (moves k).old; space = space_index (moves k).space } in
    let fits : IsHeader head = (omega (arith, few, x.header.1.0), index-valid (moves k).space x.space) in
    let e = (done.copied k lt).header in
    ((head, fits, e), ap (λ i. i + 3) (fields_at-header now (moves k).new head fits e))

holds-work : (m : Areas) (heap : List ℕ) (lies leads work other : Name → ℕ) (objects : Name → Option Thing) → Holds m heap lies leads work objects → ((n : Name) (o : Thing) → objects n ≡ Some o → work n ≡ other n) → Holds m heap lies leads other objects
holds-work m heap lies leads work other objects h same = record {
  within = h.within;
  limits = h.limits;
  stands = λ n o e. let x = h.stands n o e in record { header = x.header; name = x.name; work_word = x.work_word ∙ same n o e; fields = x.fields };
}

map-map : {A B C : Type 0} (f : A → B) (g : B → C) (k : A → C) (xs : List A) → ((x : A) → g (f x) ≡ k x) → map g (map f xs) ≡ map k xs
map-map f g k [] same = refl
map-map f g k (x ∷ xs) same = let here : g (f x) ≡ k x = same x in let rest : map g (map f xs) ≡ map k xs = map-map f g k xs same in cc

goes-there : (m : Areas) (slid : ℕ) {table table' : List (List ℕ)} {a a' x x' b b' y y' : ℕ} → table ≡ table' → a ≡ a' → x ≡ x' → b ≡ b' → y ≡ y' → GoesBehind m a x b y ⊎ GoesOn m slid table a x b y → GoesBehind m a' x' b' y' ⊎ GoesOn m slid table' a' x' b' y'
goes-there m slid et ea ex eb ey h = rw (← et, ← ea, ← ex, ← eb, ← ey) h

-- a plan whose references were corrected is ready
pub ready-led : (m : Areas) (c : Contents) (count : ℕ) (moves : ℕ → Move) → ∥ ((was : Contents) × (planned : Contents) × (s : SpaceState) × (h : Stands m was s) × (p : Planned m was s h.places planned count moves) × Led m (view s) h.places p.dropped planned c count moves) ∥₁ → ∥ IsReadyPlan m c.heap count moves ∥₁
ready-led m c count moves some = ∥∥₁_map some (λ q. record {
  state = view q.2;
  places = q.3.places.at;
  work = λ n. get_or q.1.heap (q.3.places.at n + 2) 0;
  dropped = q.4.dropped;
  lawful = q.4.lawful;
  holds = q.5.holds;
})

-- ---- the page table

pages_before-words : (now was : List (List ℕ)) (k : ℕ) → ((q : ℕ) → q < k → space_word now q ≡ space_word was q) → pages_before CONTROL_WORD now k ≡ pages_before CONTROL_WORD was k
unfolding pages_before
pages_before-words now was zero h = refl
pages_before-words now was (suc k) h = rw (pages_before-words now was k (λ q lt. h q (omega arith)), h k (omega arith)) refl

module _ (m : Areas) (was : Contents) (s : SpaceState) (h : Stands m was s) (d : Contents) (count : ℕ) (moves : ℕ → Move) (p : Planned m was s h.places d count moves) (areas : IsAreas m) where
  -- a new place lies in a page that was taken
  pub target : (k : ℕ) → k < count → (q : ℕ) × (q < m.pages) × IsPageOf CONTROL_WORD was.table q × ((moves k).new / page_words m ≡ q) × (q < (Slides.slid m was s h d count moves p areas).next) × (page_words m * q ≤ (moves k).new) × ((moves k).new + size_at p.marked.heap (moves k).old ≤ page_words m * q + page_words m)
  target k lt =
      let c = ((Slides.slid m was s h d count moves p areas).sliding.control k lt).1 in
      let placed = (Slides.slid m was s h d count moves p areas).sliding.placed k lt in
      (c.0, c.1, ap (λ (t : List (List ℕ)). space_word t c.0) (sym (Slides.table-marked m was s h d count moves p areas)) ∙ c.2, omega (arith, c.3, c.4), omega (arith, c.3, placed), c.3, c.4)

  pub room : 3 * count ≤ heap_length m
  room = (Slides.slid m was s h d count moves p areas).sliding.numbered.room

  -- the homes of moved objects stay
  home-stays : (n : Name) (x : Option Thing) → Slides.kept_objects m was s h d count moves p areas n ≡ x → rehomed count moves (h.places.at n) x ≡ x
  home-stays n None e = refl
  home-stays n (Some o) e =
      let old : object_of s n ≡ Some o = kept (view s) p.dropped n o e in
      let home : by_move count moves (λ v. v.space) (h.places.at n) o.home ≡ o.home = ⊎_elim
      (λ (found : (k : ℕ) × (k < count) × (h.places.at n ≡ (moves k).old)).
      by_move-at count moves (λ v. v.space) (h.places.at n) o.home found.0 (Slides.known m was s h d count moves p areas).ascending found.1 found.2
      ∙ ((Slides.slid m was s h d count moves p areas).sliding.control found.0 found.1).0 ∙ sym (Slides.moved-name m was s h d count moves p areas n o found.0 old found.1 found.2))
      (λ (none : (k : ℕ) → k < count → h.places.at n ≢ (moves k).old). by_move-other count moves (λ v. v.space) (h.places.at n) o.home none)
      (which_move count moves (h.places.at n))
      in
      ap (λ (y : Space). Some (record o { home = y })) home

  pub same-objects : (after_moves count moves h.places.at (without (view s) p.dropped)).objects ≡ Slides.kept_objects m was s h d count moves p areas
  same-objects = fun_ext (λ n. home-stays n (Slides.kept_objects m was s h d count moves p areas n) refl)

  abbrev named : ℕ → Name
  named = pick count (λ k lt. (slide-present m CONTROL_WORD p.marked (view s) h.places p.work p.dropped (Slides.slid m was s h d count moves p areas).planned count moves (Slides.slid m was s h d count moves p areas).next (Slides.slid m was s h d count moves p areas).room (heap_length m) p.stands h.stands.closed small p.drops (Slides.slid m was s h d count moves p areas).sliding k lt).0)

  abbrev pub new_places : Places
  new_places = places_of m (names_after m CONTROL_WORD p.marked.table (names_of h.places) count moves named) (forwarded count moves h.places.at)

  pub still : (n : Name) (o : Thing) → object_of s n ≡ Some o → o.home ≢ Control → forwarded count moves h.places.at n ≡ h.places.at n
  still n o e ne = by_move-other count moves (λ v. v.new) (h.places.at n) (h.places.at n) (Slides.unmoved m was s h d count moves p areas n o e ne)

  pub brought-to : (n : Name) (k : ℕ) → k < count → h.places.at n ≡ (moves k).old → forwarded count moves h.places.at n ≡ (moves k).new
  brought-to n k lt at = by_move-at count moves (λ v. v.new) (h.places.at n) (h.places.at n) k (Slides.known m was s h d count moves p areas).ascending lt at

  -- an object of Control that is kept goes where its move brings it
  place-of : (n : Name) (o : Thing) → IsOfControl (Slides.kept_objects m was s h d count moves p areas) n o → (k : ℕ) × (k < count) × ((moves k).old ≡ h.places.at n) × (forwarded count moves h.places.at n ≡ (moves k).new) × (size_at p.marked.heap (moves k).old ≡ length o.fields + OBJECT_WORDS)
  place-of n o here =
      let y = Slides.found m was s h d count moves p areas n o here.0 here.1 in
      let old : object_of s n ≡ Some o = kept (view s) p.dropped n o here.0 in
      (y.0, y.1, y.2, brought-to n y.0 y.1 (sym y.2), ap (size_at p.marked.heap) y.2 ∙ (Slides.sized-marked m was s h d count moves p areas n o old).1)

  -- the object of a move
  moved-one : (k : ℕ) → k < count → (n : Name) × (o : Thing) × IsOfControl (Slides.kept_objects m was s h d count moves p areas) n o × (h.places.at n ≡ (moves k).old)
  moved-one k lt = let x = Slides.object m was s h d count moves p areas k lt in (x.0, x.1, (x.2, Slides.moved-home m was s h d count moves p areas k lt), x.4)

  before-next : (j k : ℕ) → j < k → k < count → (moves j).old < (moves k).old
  before-next j k lt within = (Slides.known m was s h d count moves p areas).ascending j k lt within

  -- the first object of Control is that of the first move
  first-move : (n : Name) (o : Thing) → IsOfControl (Slides.kept_objects m was s h d count moves p areas) n o → ((x : Name) (q : Thing) → IsOfControl (Slides.kept_objects m was s h d count moves p areas) x q → h.places.at n ≤ h.places.at x) → (0 < count) × (forwarded count moves h.places.at n ≡ (moves 0).new)
  first-move n o here least =
      let y = place-of n o here in
      ⊎_elim
      (λ (z : y.0 ≡ 0). (omega (arith, y.1, z), y.3 ∙ ap (λ k. (moves k).new) z))
      (λ (ne : y.0 ≢ 0).
      let more : 0 < y.0 = omega arith in
      let x = moved-one 0 (omega (arith, more, y.1)) in
      let least_one = least x.0 x.1 x.2 in
      absurd (omega (arith, before-next 0 y.0 more y.1, least_one, x.3, y.2)))
      (cases_eq y.0 0)

  -- the next object of Control is that of the next move
  next-move : (a b : Name) (j k : ℕ) → j < count → k < count → (moves j).old ≡ h.places.at a → (moves k).old ≡ h.places.at b → IsNext (Slides.kept_objects m was s h d count moves p areas) h.places.at a b → k ≡ j + 1
  next-move a b j k hj hk ea eb next = ⊎_elim
      (λ (same : k ≡ j + 1). same)
      (λ (ne : k ≢ j + 1). ⊎_elim
      (λ (lt : k < j + 1). absurd (⊎_elim
      (λ (same : k ≡ j). let e : (moves k).old ≡ (moves j).old = ap (λ i. (moves i).old) same in omega (arith, next.behind, ea, eb, e))
      (λ (other : k ≢ j). omega (arith, before-next k j (omega (arith, lt, other)) hj, next.behind, ea, eb))
      (cases_eq k j)))
      (λ (le : j + 1 ≤ k).
      let x = moved-one (j + 1) (omega (arith, le, hk)) in
      absurd (next.none_between x.0 x.1 x.2 (omega (arith, before-next j (j + 1) (omega arith) (omega (arith, le, hk)), x.3, ea)) (omega (arith, before-next (j + 1) k (omega (arith, le, ne)) hk, x.3, eb))))
      (cases_lt k (j + 1)))
      (cases_eq k (j + 1))

  pub are-slid : AreSlid m was.table h.places.at (Slides.kept_objects m was s h d count moves p areas) (forwarded count moves h.places.at)
  are-slid = record {
    first = λ n o here least.
        let y = first-move n o here least in
        let b = (Slides.slid m was s h d count moves p areas).sliding.begins y.0 in
        (b.0, subst (λ (t : List (List ℕ)). IsFirstPage CONTROL_WORD t 0 b.0) (Slides.table-marked m was s h d count moves p areas) b.1, y.1 ∙ b.2);
    next = λ a b o q ha hb next.
        let x = place-of a o ha in
        let y = place-of b q hb in
        let same = next-move a b x.0 y.0 x.1 y.1 x.2 y.2 next in
        let lt : x.0 + 1 < count = omega (arith, same, y.1) in
        goes-there m CONTROL_WORD (Slides.table-marked m was s h d count moves p areas) (sym x.3) x.4 (ap (λ k. (moves k).new) (sym same) ∙ sym y.3) (ap (λ k. size_at p.marked.heap (moves k).old) (sym same) ∙ y.4)
        ((Slides.slid m was s h d count moves p areas).sliding.follows x.0 lt);
    still = λ n o e ne. still n o (kept (view s) p.dropped n o e) ne;
  }

  -- a page that was taken got words
  some-came : (q : ℕ) → IsPageOf CONTROL_WORD p.marked.table q → q < (Slides.slid m was s h d count moves p areas).next → 1 ≤ brought m p.marked.heap count moves q
  some-came q own less =
      let sl = (Slides.slid m was s h d count moves p areas).sliding in
      let some : 0 < count = ⊎_elim
      (λ (none : count ≡ 0). absurd (let z = (sl.unused none).0 in omega (arith, z, less)))
      (λ (ne : count ≡ 0 → ⊥). omega (arith, ne))
      (cases_eq count 0)
      in
      let k : ℕ = count - 1 in
      let ends = (sl.last k (omega (arith, some))).1 in
      let w = page_holds m CONTROL_WORD p.marked.table count (λ j. size_at p.marked.heap (moves j).old) (λ j. (moves j).new) sl.begins sl.follows (λ j lt. omega arith) k q (omega (arith, some)) own (omega (arith, ends, less)) in
      some_brought m p.marked.heap count moves w.0 q w.1 w.2

  module _ (c : Contents) (led : Led m (view s) h.places p.dropped d c count moves) (movable : AllMovable m c.heap count moves) (heap : List ℕ) (done : Moved c.heap heap count moves) where
    size-led : (k : ℕ) → k < count → size_at c.heap (moves k).old ≡ size_at p.marked.heap (moves k).old
    size-led k lt =
        let x = Slides.object m was s h d count moves p areas k lt in
        let few = (h.stands.closed.fields x.0 x.1 x.3).1 in
        let told = size_told c.heap (h.places.at x.0) x.1 few (Slides.index-fits m was s h d count moves p areas x.0 x.1 x.3) (led.holds.stands x.0 x.1 x.2).header in
        ap (size_at c.heap) (sym x.4) ∙ told.1 ∙ sym (Slides.sized-marked m was s h d count moves p areas x.0 x.1 x.3).1 ∙ ap (size_at p.marked.heap) x.4

    pub size-new : (k : ℕ) → k < count → size_at heap (moves k).new ≡ size_at p.marked.heap (moves k).old
    size-new k lt = (moved-header m c.heap heap count moves movable done k lt).1 ∙ size-led k lt

    pub new-in_page : (k : ℕ) → k < count → (page_words m * ((moves k).new / page_words m) ≤ (moves k).new) × ((moves k).new + size_at heap (moves k).new ≤ page_words m * ((moves k).new / page_words m) + page_words m) × ((moves k).new / page_words m < m.pages)
    new-in_page k lt =
        let t = target k lt in
        let size = size-new k lt in
        rw t.3 (t.5, omega (arith, t.6, size), t.1)

    pub control-now : (k : ℕ) → k < count → ((moves k).new / page_words m < m.pages) × IsPageOf CONTROL_WORD d.table ((moves k).new / page_words m)
    control-now k lt =
        let t = target k lt in
        rw t.3 (t.1, ap (λ (r : List ℕ). get_or r 0 0) (Slides.row-before m was s h d count moves p areas t.0 t.4) ∙ t.2)

    pub tight : (k : ℕ) → k < count → (moves k).new ≡ page_words m * ((moves k).new / page_words m) + brought m p.marked.heap k moves ((moves k).new / page_words m)
    tight k lt = (Slides.slid m was s h d count moves p areas).sliding.tight k lt

    work-cleared : (n : Name) (o : Thing) → (after_moves count moves h.places.at (without (view s) p.dropped)).objects n ≡ Some o → cleared count moves h.places.at (λ x. get_or d.heap (h.places.at x + 2) 0) n ≡ cleared count moves h.places.at p.work n
    work-cleared n o e =
        let b = before_moves count moves (h.places.at n) (Slides.kept_objects m was s h d count moves p areas n) o e in
        let old : object_of s n ≡ Some b.0 = kept (view s) p.dropped n b.0 b.1 in
        ⊎_elim
        (λ (found : (k : ℕ) × (k < count) × (h.places.at n ≡ (moves k).old)).
        by_move-at count moves (λ v. 0) (h.places.at n) (get_or d.heap (h.places.at n + 2) 0) found.0 (Slides.known m was s h d count moves p areas).ascending found.1 found.2
        ∙ sym (by_move-at count moves (λ v. 0) (h.places.at n) (p.work n) found.0 (Slides.known m was s h d count moves p areas).ascending found.1 found.2))
        (λ (none : (k : ℕ) → k < count → h.places.at n ≢ (moves k).old).
        by_move-other count moves (λ v. 0) (h.places.at n) (get_or d.heap (h.places.at n + 2) 0) none
        ∙ Slides.work-still m was s h d count moves p areas n b.0 old none
        ∙ sym (by_move-other count moves (λ v. 0) (h.places.at n) (p.work n) none))
        (which_move count moves (h.places.at n))

    module _ (holds : Holds m heap (forwarded count moves h.places.at) (forwarded count moves h.places.at) (cleared count moves h.places.at (λ x. get_or d.heap (h.places.at x + 2) 0)) (after_moves count moves h.places.at (without (view s) p.dropped)).objects) (table : List (List ℕ)) (long : length table ≡ m.pages) (settled : TableAfter m CONTROL_WORD d.table p.marked.heap table count moves m.pages) where
      control-before : (q : ℕ) → IsPageOf CONTROL_WORD p.marked.table q → IsPageOf CONTROL_WORD was.table q
      control-before q e = ap (λ (t : List (List ℕ)). space_word t q) (sym (Slides.table-marked m was s h d count moves p areas)) ∙ e

      control-after : (q : ℕ) → q < (Slides.slid m was s h d count moves p areas).next → IsPageOf CONTROL_WORD was.table q → IsPageOf CONTROL_WORD d.table q
      control-after q lt e = ap (λ (r : List ℕ). get_or r 0 0) (Slides.row-before m was s h d count moves p areas q lt) ∙ e

      freed-row : (q : ℕ) → (Slides.slid m was s h d count moves p areas).next ≤ q → q < m.pages → IsPageOf CONTROL_WORD was.table q → row table q ≡ row d.table q
      freed-row q le lt e = let z = (Slides.row-free m was s h d count moves p areas q le lt e).0 in settled.others q (λ one. omega (arith, z, one))

      other-row : (q : ℕ) → (IsPageOf CONTROL_WORD was.table q → ⊥) → row table q ≡ row was.table q
      other-row q other =
          let same = Slides.row-other m was s h d count moves p areas q other in
          settled.others q (λ e. other (ap (λ (r : List ℕ). get_or r 0 0) (sym same) ∙ e)) ∙ same

      after : TableAfter m CONTROL_WORD p.marked.table p.marked.heap table count moves (Slides.slid m was s h d count moves p areas).next
      after = record {
        filled = λ q lt e less. settled.filled q lt (control-after q less (control-before q e)) lt;
        free = λ q lt e le.
            let b = control-before q e in
            ap (λ (r : List ℕ). get_or r 1 0) (freed-row q le lt b) ∙ (Slides.row-free m was s h d count moves p areas q le lt b).1;
        others = λ q other.
            other-row q (λ e. other (ap (λ (t : List (List ℕ)). space_word t q) (Slides.table-marked m was s h d count moves p areas) ∙ e)) ∙ ap (λ (t : List (List ℕ)). row t q) (sym (Slides.table-marked m was s h d count moves p areas));
      }

      word-before : (q : ℕ) → q < (Slides.slid m was s h d count moves p areas).next → space_word table q ≡ space_word p.marked.table q
      word-before q less =
          let lt : q < m.pages = let f = (Slides.slid m was s h d count moves p areas).sliding.filled.3 in omega (arith, f, less) in
          ⊎_elim
          (λ (e : space_word p.marked.table q ≡ CONTROL_WORD). (after.filled q lt e less).0 ∙ sym e)
          (λ (other : space_word p.marked.table q ≡ CONTROL_WORD → ⊥). ap (λ (r : List ℕ). get_or r 0 0) (after.others q other))
          (cases_eq (space_word p.marked.table q) CONTROL_WORD)

      gap : (q : ℕ) → (Slides.slid m was s h d count moves p areas).next ≤ q → q < m.pages → IsPageOf CONTROL_WORD table q → ⊥
      gap q le lt e = ⊎_elim
          (λ (c1 : space_word was.table q ≡ CONTROL_WORD).
          let z = (Slides.row-free m was s h d count moves p areas q le lt c1).0 in
          let same : space_word table q ≡ space_word d.table q = ap (λ (r : List ℕ). get_or r 0 0) (freed-row q le lt c1) in
          omega (arith, z, same, e))
          (λ (other : space_word was.table q ≡ CONTROL_WORD → ⊥). other (ap (λ (r : List ℕ). get_or r 0 0) (sym (other-row q other)) ∙ e))
          (cases_eq (space_word was.table q) CONTROL_WORD)

      pages-now : pages_of table Control ≡ pages_before CONTROL_WORD p.marked.table (Slides.slid m was s h d count moves p areas).next
      pages-now =
          pages_of-before table
          ∙ ap (pages_before CONTROL_WORD table) long
          ∙ pages_before-gap CONTROL_WORD table (Slides.slid m was s h d count moves p areas).next m.pages (Slides.slid m was s h d count moves p areas).sliding.filled.3 gap
          ∙ pages_before-words table p.marked.table (Slides.slid m was s h d count moves p areas).next word-before

      stands-now : HeapStands m table heap (after_moves count moves h.places.at (without (view s) p.dropped)).objects new_places (λ _. 0)
      stands-now = slide-stands m CONTROL_WORD p.marked (view s) h.places p.work p.dropped (Slides.slid m was s h d count moves p areas).planned count moves named (Slides.slid m was s h d count moves p areas).next (Slides.slid m was s h d count moves p areas).room table heap p.stands h.stands.closed small p.drops p.unmarked (Slides.known m was s h d count moves p areas) (Slides.slid m was s h d count moves p areas).sliding after
          (holds-work m heap (forwarded count moves h.places.at) (forwarded count moves h.places.at) _ (cleared count moves h.places.at p.work) (after_moves count moves h.places.at (without (view s) p.dropped)).objects holds work-cleared)

      packed-now : PackedAs m table new_places.pages (after_moves count moves h.places.at (without (view s) p.dropped)).objects Control
      packed-now = slide-packed m CONTROL_WORD p.marked (view s) h.places p.work p.dropped (Slides.slid m was s h d count moves p areas).planned count moves named (Slides.slid m was s h d count moves p areas).next (Slides.slid m was s h d count moves p areas).room (heap_length m) p.stands h.stands.closed small table refl (Slides.known m was s h d count moves p areas) (Slides.slid m was s h d count moves p areas).sliding pages-now

      stacks-now : c.stacks ≡ map (map (datum_word (forwarded count moves h.places.at))) (view s).stacks
      stacks-now =
          ap (λ (x : Contents). x.stacks) led.frame
          ∙ ap (λ (x : Contents). map (map (corrected_word (forward count moves))) x.stacks) (Slides.frame m was s h d count moves p areas)
          ∙ ap (map (map (corrected_word (forward count moves)))) h.stands.stacks
          ∙ map-map (map (datum_word h.places.at)) (map (corrected_word (forward count moves))) (map (datum_word (forwarded count moves h.places.at))) (view s).stacks (λ st. map-map (datum_word h.places.at) (corrected_word (forward count moves)) (datum_word (forwarded count moves h.places.at)) st (corrected-datum (forward count moves) h.places.at))

      pub lain : Lain m was s h.places (record c { heap = heap; table = table }) count moves
      lain = record {
        dropped = p.dropped;
        keeps = p.keeps;
        closed = p.lawful.closed;
        frame =
            ap (λ (x : Contents). record x { heap = heap; table = table }) led.frame
            ∙ ap (λ (x : Contents). record x { stacks = map (map (corrected_word (forward count moves))) d.stacks; heap = heap; table = table }) (Slides.frame m was s h d count moves p areas)
            ∙ ap (λ (x : Contents). record was { stacks = x.stacks; table = table; scratch = x.scratch; heap = heap }) (sym led.frame);
        places = new_places;
        stacks = stacks-now;
        heap = subst (λ (f : Name → Option Thing). HeapStands m table heap f new_places (λ _. 0)) same-objects stands-now;
        packed = subst (λ (f : Name → Option Thing). PackedAs m table new_places.pages f Control) same-objects packed-now;
        others = other-row;
        control = λ q lt e. ⊎_elim
            (λ (less : q < (Slides.slid m was s h d count moves p areas).next).
            let own : IsPageOf CONTROL_WORD p.marked.table q = ap (λ (t : List (List ℕ)). space_word t q) (Slides.table-marked m was s h d count moves p areas) ∙ e in
            let filled = after.filled q lt own less in
            inl (filled.0, λ z. (let mark = filled.1 in let one = some-came q own less in omega (arith, z, mark, one))))
            (λ (le : (Slides.slid m was s h d count moves p areas).next ≤ q).
            let free = Slides.row-free m was s h d count moves p areas q le lt e in
            let same = freed-row q le lt e in
            inr (ap (λ (r : List ℕ). get_or r 0 0) same ∙ free.0, ap (λ (r : List ℕ). get_or r 1 0) same ∙ free.1))
            (cases_lt q (Slides.slid m was s h d count moves p areas).next);
        still = still;
        moved = λ n o e control. let y = Slides.found m was s h d count moves p areas n o e control in (y.0, y.1, brought-to n y.0 y.1 (sym y.2), sym y.2);
        slid = are-slid;
        are_moved = λ k lt. let x = Slides.object m was s h d count moves p areas k lt in (x.0, x.1, x.2, brought-to x.0 k lt x.4, Slides.moved-home m was s h d count moves p areas k lt ∙ sym ((Slides.slid m was s h d count moves p areas).sliding.control k lt).0);
        from = λ k lt. (let x = moved-one k lt in (x.0, x.1, x.2.0, brought-to x.0 k lt x.3, x.3, x.2.1));
        within = λ k lt. (let w = (movable.each k lt).old in omega (arith, w, (moved-header m c.heap heap count moves movable done k lt).1));
        behind = λ j k lt lk. (let w = (Slides.slid m was s h d count moves p areas).sliding.apart j k lt lk in omega (arith, w, size-new j (omega (arith, lt, lk))));
        spread = λ j k lt lk. (let w = (Slides.slid m was s h d count moves p areas).sliding.spread j k lt lk in omega (arith, w, size-new j (omega (arith, lt, lk))));
        front = λ k lt. (Slides.slid m was s h d count moves p areas).sliding.down k lt;
        room = room;
      }
