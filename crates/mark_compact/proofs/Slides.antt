-- What is known of the planned slide of a collection.
use Rattle.std.proofs.Common.{◌≡◌, ◌≢◌, ℕ, ◌+◌, ◌-◌, ◌*◌, ◌≤◌, ◌<◌, Option, Some, List, length, get_or, refl, sym, ap, subst, ◌∙◌, arith, inl, inr}
use Rattle.std.specs.List.{All}
use Rattle.std.proofs.lemmas.Bool.{cases_eq, cases_lt}
use Rattle.std.proofs.lemmas.List.{get_or_default}
use Rattle.std.proofs.Math.Logic.{⊎_elim}
use Rattle.object_layout.specs.declared.names.Name.{Name}
use Rattle.object_layout.specs.declared.headers.Header.{Header}
use Rattle.object_layout.specs.declared.TheConstants.{MAX_FIELDS, MAX_SPACE}
use Rattle.object_layout.specs.Layout.{header_word}
use Rattle.heap_words.specs.declared.map.Areas.{Areas}
use Rattle.heap_words.specs.Map.{IsAreas, heap_length, max_depth, page_words}
use Rattle.heap_words.specs.Cells.{row}
use Rattle.heap_words.specs.Contents.{Contents}
use Rattle.epoch_lattice.specs.declared.Space.{Space}
use Rattle.epoch_lattice.specs.declared.Space.TheVariants.{Control, Region}
use Rattle.epoch_lattice.specs.Lattice.{space_index}
use Rattle.yak_model.specs.Spaces.{SpaceState}
use Rattle.yak_model.specs.State.{IsOpen, Thing, object_of, view}
use Rattle.yak_model.specs.Placed.{HeapStands, Holds, IsAt, names_of, size_by, space_word, words_by}
use Rattle.yak_model.specs.Plans.{Move, without}
use Rattle.yak_model.specs.Stands.{Stands}
use Rattle.yak_model.proofs.Data.{home-index, in_heap}
use Rattle.yak_model.proofs.Stacks.{all-at}
use Rattle.yak_model.proofs.Placed.{in_page}
use Rattle.relocation.specs.Moves.{HasHeader, size_at}
use Rattle.relocation.specs.Slide.{IsPageOf, Runs}
use Rattle.relocation.proofs.Moving.{fields_at-header}
use Rattle.relocation.proofs.Lawful.{kept}
use Rattle.relocation.proofs.SlidLawful.{kept-false, name_at, runs_of, slide-present, walk-at}
use Rattle.relocation.proofs.Slidden.{Slid, pick, slide-known}
use Rattle.heap_walks.proofs.Objects.{kept_word, same_address}
use Rattle.mark_compact.specs.Given.{IsSlid}
use Rattle.mark_compact.specs.Collecting.{Planned}
use Rattle.mark_compact.specs.declared.sliding.TheConstants.{CONTROL_WORD}
use Rattle.mark_compact.proofs.Drops.{control_case, control_word}
use Rattle.mark_compact.proofs.Whole.{laid}

pub one_thing : (a b : Thing) → Some a ≡ Some b → a ≡ b
one_thing a b e = cc

index-open : (m : Areas) (depths : List ℕ) (x : Space) → IsAreas m → length depths ≡ m.threads → All (λ d. d ≤ max_depth m) depths → IsOpen depths x → space_index x ≤ MAX_SPACE
index-open m depths Control areas e all open_it = omega arith
index-open m depths (Region t d) areas e all open_it =
    let deep : get_or depths (t - 1) 0 ≤ max_depth m = all-at (λ x. x ≤ max_depth m) depths (t - 1) 0 (omega arith) all in
    omega (arith, deep, open_it.1, open_it.3, areas.3)

pub small : CONTROL_WORD ≤ MAX_SPACE + 1
small = omega arith

pub control_index : (x : Space) → x ≡ Control → space_index x + 1 ≡ CONTROL_WORD
control_index x e = ap (λ y. space_index y + 1) e

-- the words of an object that stands in the heap
pub size_told : (heap : List ℕ) (a : ℕ) (o : Thing) → length o.fields ≤ MAX_FIELDS → space_index o.home ≤ MAX_SPACE → get_or heap a 0 ≡ header_word (record { fields = length o.fields; space = space_index o.home }) → HasHeader heap a × (size_at heap a ≡ length o.fields + 3)
size_told heap a o few small e =
    let head : Header = record { fields = length o.fields; space = space_index o.home } in
    ((head, (few, small), e), ap (λ i. i + 3) (fields_at-header heap a head (few, small) e))

module _ (m : Areas) (was : Contents) (s : SpaceState) (h : Stands m was s) (d : Contents) (count : ℕ) (moves : ℕ → Move) (p : Planned m was s h.places d count moves) (areas : IsAreas m) where
  abbrev pub kept_objects : Name → Option Thing
  kept_objects = (without (view s) p.dropped).objects

  pub runs : Runs m CONTROL_WORD p.marked
  runs = runs_of m CONTROL_WORD p.marked (view s) h.places p.work p.stands h.stands.closed small

  abbrev pub slid : IsSlid m p.marked (runs_of m CONTROL_WORD p.marked (view s) h.places p.work p.stands h.stands.closed small) d count moves
  slid = p.slid (runs_of m CONTROL_WORD p.marked (view s) h.places p.work p.stands h.stands.closed small)

  pub known : Slid m CONTROL_WORD p.marked (view s) h.places p.dropped count moves (pick count (λ k lt. (slide-present m CONTROL_WORD p.marked (view s) h.places p.work p.dropped slid.planned count moves slid.next slid.room (heap_length m) p.stands h.stands.closed small p.drops slid.sliding k lt).0))
  known = slide-known m CONTROL_WORD p.marked (view s) h.places p.work p.dropped slid.planned count moves slid.next slid.room (heap_length m) p.stands h.stands.closed small p.drops slid.sliding

  -- what has changed
  pub frame : d ≡ record was { table = d.table; scratch = d.scratch; heap = d.heap }
  frame =
      slid.given_back.elsewhere
      ∙ ap (λ (c : Contents). record c { table = d.table }) slid.sliding.elsewhere
      ∙ ap (λ (c : Contents). record c { table = d.table; scratch = slid.planned.scratch; heap = slid.planned.heap }) p.frame
      ∙ ap (λ (c : Contents). record was { table = d.table; scratch = c.scratch; heap = c.heap }) (sym slid.given_back.elsewhere)

  pub table-marked : p.marked.table ≡ was.table
  table-marked = ap (λ (c : Contents). c.table) p.frame

  pub table-planned : slid.planned.table ≡ was.table
  table-planned = ap (λ (c : Contents). c.table) slid.sliding.elsewhere ∙ table-marked

  pub row-other : (q : ℕ) → (IsPageOf CONTROL_WORD was.table q → ⊥) → row d.table q ≡ row was.table q
  row-other q other = slid.given_back.others q (λ e. other (ap (λ (t : List (List ℕ)). space_word t q) (sym table-planned) ∙ e)) ∙ ap (λ (t : List (List ℕ)). row t q) table-planned

  pub row-before : (q : ℕ) → q < slid.next → row d.table q ≡ row was.table q
  row-before q lt = slid.given_back.before q lt ∙ ap (λ (t : List (List ℕ)). row t q) table-planned

  pub row-free : (q : ℕ) → slid.next ≤ q → q < m.pages → IsPageOf CONTROL_WORD was.table q → (space_word d.table q ≡ 0) × (get_or (row d.table q) 1 0 ≡ 0)
  row-free q le lt control = slid.given_back.free q le lt (ap (λ (t : List (List ℕ)). space_word t q) table-planned ∙ control)

  -- a region's page was one before
  pub regional : (q : ℕ) → q < m.pages → 1 < space_word d.table q → IsPageOf CONTROL_WORD was.table q → ⊥
  regional q lt more control = ⊎_elim
      (λ (less : q < slid.next). let e : space_word d.table q ≡ space_word was.table q = ap (λ (r : List ℕ). get_or r 0 0) (row-before q less) in omega (arith, e, control, more))
      (λ (le : slid.next ≤ q). let z = (row-free q le lt control).0 in omega (arith, z, more))
      (cases_lt q slid.next)

  -- the words of the pages
  heap-planned : d.heap ≡ slid.planned.heap
  heap-planned = ap (λ (c : Contents). c.heap) slid.given_back.elsewhere

  -- the object of a move
  pub object : (k : ℕ) → k < count → (n : Name) × (o : Thing) × (kept_objects n ≡ Some o) × (object_of s n ≡ Some o) × (h.places.at n ≡ (moves k).old)
  object k lt =
      let q = p.lawful.present k lt in
      (q.0, q.1, q.2, kept (view s) p.dropped q.0 q.1 q.2, q.3)

  pub word-kept : (n : Name) (o : Thing) (j : ℕ) → object_of s n ≡ Some o → j < length o.fields + 3 → j ≢ 2 → get_or d.heap (h.places.at n + j) 0 ≡ get_or p.marked.heap (h.places.at n + j) 0
  word-kept n o j e lt ne =
      ap (λ (ws : List ℕ). get_or ws (h.places.at n + j) 0) heap-planned
      ∙ slid.sliding.others (h.places.at n + j) (λ k lk q.
      let x = object k lk in
      kept_word m (laid m was s h) n o j h.stands e lt ne x.0 x.1 x.3 (q ∙ ap (λ i. i + 2) (sym x.4)))

  -- the words of the planned objects stand for the state, but for their work words
  pub numbers : HeapStands m was.table d.heap (object_of s) h.places (λ n. get_or d.heap (h.places.at n + 2) 0)
  numbers =
      let old : HeapStands m was.table p.marked.heap (object_of s) h.places p.work = subst (λ (t : List (List ℕ)). HeapStands m t p.marked.heap (object_of s) h.places p.work) table-marked p.stands in
      record {
        count = old.count;
        tiles = old.tiles;
        present = old.present;
        whole = old.whole;
        marks = old.marks;
        held = λ n o e.
            let x = old.held n o e in
            let first : h.places.at n + 0 ≡ h.places.at n = omega arith in
            record {
              header = ap (λ i. get_or d.heap i 0) (sym first) ∙ word-kept n o 0 e (omega arith) (omega arith) ∙ ap (λ i. get_or p.marked.heap i 0) first ∙ x.header;
              name = word-kept n o 1 e (omega arith) (omega arith) ∙ x.name;
              work_word = refl;
              fields = λ f lt.
                  let at : h.places.at n + 3 + f ≡ h.places.at n + (3 + f) = omega arith in
                  ap (λ i. get_or d.heap i 0) at ∙ word-kept n o (3 + f) e (omega arith) (omega arith) ∙ ap (λ i. get_or p.marked.heap i 0) (sym at) ∙ x.fields f lt;
            };
      }

  pub index-fits : (n : Name) (o : Thing) → object_of s n ≡ Some o → space_index o.home ≤ MAX_SPACE
  index-fits n o e = home-index m was (view s) h.places n o areas h.stands e

  pub space-fits : (q : ℕ) → q < m.pages → space_word was.table q ≤ MAX_SPACE + 1
  space-fits q lt = ⊎_elim
      (λ (z : space_word was.table q ≡ 0). omega (arith, z))
      (λ (r : (x : Space) × (space_word was.table q ≡ space_index x + 1) × IsOpen (view s).depths x).
      let fits = index-open m (view s).depths r.0 areas h.stands.threads (subst (All (λ i. i ≤ max_depth m)) h.stands.depths h.stands.limits.depths) r.2 in
      omega (arith, r.1, fits))
      (h.stands.open_spaces q lt)

  pub sized : (n : Name) (o : Thing) → object_of s n ≡ Some o → HasHeader d.heap (h.places.at n) × (size_at d.heap (h.places.at n) ≡ length o.fields + 3)
  sized n o e = size_told d.heap (h.places.at n) o (h.stands.closed.fields n o e).1 (index-fits n o e) (numbers.held n o e).header

  pub sized-marked : (n : Name) (o : Thing) → object_of s n ≡ Some o → HasHeader p.marked.heap (h.places.at n) × (size_at p.marked.heap (h.places.at n) ≡ length o.fields + 3)
  sized-marked n o e = size_told p.marked.heap (h.places.at n) o (h.stands.closed.fields n o e).1 (index-fits n o e) (p.stands.held n o e).header

  pub within-page : (n : Name) (o : Thing) (q k : ℕ) → object_of s n ≡ Some o → IsAt h.places n q k → (page_words m * q ≤ h.places.at n) × (h.places.at n + (length o.fields + 3) ≤ page_words m * q + page_words m)
  within-page n o q k e at =
      let w = in_page (page_words m) (size_by (object_of s)) h.places n q k h.stands.heap.tiles at in
      let size : size_by (object_of s) n ≡ length o.fields + 3 = ap words_by e in
      (w.0, omega (arith, w.1, size))

  -- an object is of Control where its page is
  pub home-of_page : (n : Name) (o : Thing) (q k : ℕ) → object_of s n ≡ Some o → IsAt h.places n q k → space_word was.table q ≡ space_index o.home + 1
  home-of_page n o q k e at =
      let w = h.stands.heap.whole n q k at in
      w.2 ∙ ap (λ (x : Thing). space_index x.home + 1) (one_thing w.0 o (sym w.1 ∙ e))

  -- the objects of moves are of Control
  pub moved-home : (k : ℕ) (lt : k < count) → (object k lt).1.home ≡ Control
  moved-home k lt =
      let x = object k lt in
      let at = h.stands.heap.present x.0 x.1 x.3 in
      let page = home-of_page x.0 x.1 at.0 at.1 x.3 at.2 in
      ⊎_elim
      (λ (control : space_word was.table at.0 ≡ CONTROL_WORD). control_word x.1.home (sym page ∙ control))
      (λ (other : space_word was.table at.0 ≡ CONTROL_WORD → ⊥). absurd (
      let r = known.region x.0 at.0 at.1 at.2 (λ e. other (ap (λ (t : List (List ℕ)). space_word t at.0) (sym table-marked) ∙ e)) in
      r.4 k lt x.4))
      (cases_eq (space_word was.table at.0) CONTROL_WORD)

  -- each kept control object has a move
  pub found : (n : Name) (o : Thing) → kept_objects n ≡ Some o → o.home ≡ Control → (k : ℕ) × (k < count) × ((moves k).old ≡ h.places.at n)
  found n o e control =
      let here : object_of s n ≡ Some o = kept (view s) p.dropped n o e in
      let at = h.stands.heap.present n o here in
      let q : ℕ = at.0 in
      let hq : q < m.pages = rw (← h.stands.heap.count) at.2.page in
      let page : IsPageOf CONTROL_WORD p.marked.table q = ap (λ (t : List (List ℕ)). space_word t q) table-marked ∙ home-of_page n o q at.1 here at.2 ∙ control_index o.home control in
      let one : p.work n ≢ 0 = p.drops.kept n o here (kept-false (view s) p.dropped n o (p.dropped n) refl e) (control_index o.home control) in
      let name : name_at h.places q at.1 ≡ n = get_or_default (names_of h.places q) at.1 (record { thread = 0; serial = 0 }) n at.2.place ∙ at.2.name in
      let walk = ap h.places.at (sym name) ∙ sym (walk-at m CONTROL_WORD p.marked (view s) h.places p.work p.stands h.stands.closed small q at.1 hq page at.2.place) in
      let within = in_heap m was (view s) h.places n o h.stands here in
      slid.sliding.complete (h.places.at n) (q, at.1, hq, page, at.2.place, walk) (omega (arith, within)) (λ z. one (sym (p.stands.held n o here).work_word ∙ z))

  -- the object of a move lies in a control page
  pub move-page : (k : ℕ) → k < count → (q : ℕ) × (q < m.pages) × IsPageOf CONTROL_WORD was.table q × (page_words m * q ≤ (moves k).old) × ((moves k).old + size_at d.heap (moves k).old ≤ page_words m * q + page_words m)
  move-page k lt =
      let x = object k lt in
      let at = h.stands.heap.present x.0 x.1 x.3 in
      let w = within-page x.0 x.1 at.0 at.1 x.3 at.2 in
      let size : size_at d.heap (moves k).old ≡ length x.1.fields + 3 = ap (size_at d.heap) (sym x.4) ∙ (sized x.0 x.1 x.3).1 in
      (at.0, omega (arith, at.2.page, h.stands.heap.count), home-of_page x.0 x.1 at.0 at.1 x.3 at.2 ∙ control_index x.1.home (moved-home k lt), omega (arith, w.0, x.4), omega (arith, w.1, x.4, size))

  pub size-same : (k : ℕ) → k < count → size_at d.heap (moves k).old ≡ size_at p.marked.heap (moves k).old
  size-same k lt =
      let x = object k lt in
      ap (size_at d.heap) (sym x.4) ∙ (sized x.0 x.1 x.3).1 ∙ sym (sized-marked x.0 x.1 x.3).1 ∙ ap (size_at p.marked.heap) x.4

  -- the kept objects stand where they lay
  pub holds-planned : Holds m d.heap h.places.at h.places.at (λ n. get_or d.heap (h.places.at n + 2) 0) kept_objects
  holds-planned = record {
    within = λ n o e. in_heap m was (view s) h.places n o h.stands (kept (view s) p.dropped n o e);
    limits = λ n o e. let old = kept (view s) p.dropped n o e in ((h.stands.closed.fields n o old).1, index-fits n o old);
    stands = λ n o e. numbers.held n o (kept (view s) p.dropped n o e);
  }

  -- the work word of a kept object that isn't moved is as the marking left it
  pub work-still : (n : Name) (o : Thing) → object_of s n ≡ Some o → ((k : ℕ) → k < count → h.places.at n ≢ (moves k).old) → get_or d.heap (h.places.at n + 2) 0 ≡ p.work n
  work-still n o e none =
      ap (λ (ws : List ℕ). get_or ws (h.places.at n + 2) 0) heap-planned
      ∙ slid.sliding.others (h.places.at n + 2) (λ k lk q. none k lk (omega (arith, q)))
      ∙ (p.stands.held n o e).work_word

  -- no object of a region is moved
  pub unmoved : (n : Name) (o : Thing) → object_of s n ≡ Some o → o.home ≢ Control → (k : ℕ) → k < count → h.places.at n ≢ (moves k).old
  unmoved n o e ne k lt at =
      let x = object k lt in
      let same : n ≡ x.0 = same_address m (laid m was s h) n x.0 o x.1 h.stands e x.3 (at ∙ sym x.4) in
      let thing : o ≡ x.1 = one_thing o x.1 (sym e ∙ ap (object_of s) same ∙ x.3) in
      ne (ap (λ (t : Thing). t.home) thing ∙ moved-home k lt)

  -- a moved object is of Control
  pub moved-name : (n : Name) (o : Thing) (k : ℕ) → object_of s n ≡ Some o → k < count → h.places.at n ≡ (moves k).old → o.home ≡ Control
  moved-name n o k e lt at = elim (control_case o.home) [
    | inl control ↦ control
    | inr ne ↦ absurd (unmoved n o e ne k lt at)
  ]
