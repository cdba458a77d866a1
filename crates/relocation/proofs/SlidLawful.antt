use Rattle.std.proofs.Common.{◌≡◌, ◌≢◌, ◌⊎◌, ℕ, ◌+◌, ◌*◌, ◌≤◌, ◌<◌, Bool, true, false, cond, Option, Some, None, List, take, length, get_or, zero, suc, refl, sym, ap, subst, ◌∙◌, arith, inl, inr}
use Rattle.std.proofs.lemmas.Bool.{cases_order}
use Rattle.std.proofs.lemmas.List.{get_or_default, take_all}
use Rattle.std.proofs.lemmas.List.Sums.{sum_by_more}
use Rattle.std.proofs.Math.Logic.{⊎_elim}
use Rattle.std.specs.List.{sum_by}
use Rattle.object_layout.specs.declared.TheConstants.{MAX_FIELDS, MAX_SPACE}
use Rattle.object_layout.specs.declared.names.Name.{Name}
use Rattle.object_layout.specs.declared.headers.Header.{Header}
use Rattle.heap_words.specs.declared.map.Areas.{Areas}
use Rattle.heap_words.specs.Map.{heap_length, page_words}
use Rattle.heap_words.specs.Contents.{Contents}
use Rattle.yak_model.specs.State.{Thing, State, IsClosed}
use Rattle.epoch_lattice.specs.Lattice.{space_index}
use Rattle.yak_model.specs.Placed.{Places, names_of, words_by, size_by, IsAt, ObjectAt, HeapStands}
use Rattle.yak_model.proofs.Placed.{in_page}
use Rattle.yak_model.specs.Plans.{Move}
use Rattle.relocation.specs.Moves.{fields_at, size_at, HasHeader}
use Rattle.yak_model.specs.Plans.{AreApart}
use Rattle.yak_model.specs.Plans.{without, IsLawfulPlan}
use Rattle.relocation.proofs.Moving.{fields_at-header}
use Rattle.relocation.proofs.Lawful.{kept}
use Rattle.relocation.specs.Slide.{IsPageOf, behind, Runs, Sliding}
use Rattle.relocation.specs.Slide.{Drops}
use Rattle.relocation.proofs.SlidObjects.{behind-first, behind-next}

no_name : Name
no_name = record { thread = 0; serial = 0 }

abbrev pub name_at : Places → ℕ → ℕ → Name
name_at l p k = get_or (names_of l p) k (record { thread = 0; serial = 0 })

-- the name at an index of a page stands there
pub stands-at : (m : Areas) (table : List (List ℕ)) (heap : List ℕ) (objects : Name → Option Thing) (l : Places) (work : Name → ℕ) → HeapStands m table heap objects l work → (p k : ℕ) → p < m.pages → k < length (names_of l p) → IsAt l (name_at l p k) p k
stands-at m table heap objects l work h p k hp lt = record {
  page = rw h.count hp;
  place = lt;
  name = get_or_default (names_of l p) k (name_at l p k) (record { thread = 0; serial = 0 }) lt;
}

-- the header of an object that stands in the heap
object-fields : (heap : List ℕ) (at work : Name → ℕ) (n : Name) (o : Thing) → length o.fields ≤ MAX_FIELDS → space_index o.home ≤ MAX_SPACE → ObjectAt heap at work n o → HasHeader heap (at n) × (size_at heap (at n) ≡ length o.fields + 3)
object-fields heap at work n o few small h =
    let head : Header = record { fields = length o.fields; space = space_index o.home } in
    let f : fields_at heap (at n) ≡ length o.fields = fields_at-header heap (at n) head (few, small) h.header in
    ((head, (few, small), h.header), ap (λ i. i + 3) f)

-- an object of a control page
pub record SlidObject (m : Areas) (slid : ℕ) (c : Contents) (s : State) (l : Places) (work : Name → ℕ) (n : Name) : Type 0 where
  pub thing : Thing
  pub present : s.objects n ≡ Some thing
  pub home : space_index thing.home + 1 ≡ slid
  pub header : HasHeader c.heap (l.at n)
  pub size : size_at c.heap (l.at n) ≡ length thing.fields + 3
  pub work_word : get_or c.heap (l.at n + 2) 0 ≡ work n

pub slid_object : (m : Areas) (slid : ℕ) (c : Contents) (s : State) (l : Places) (work : Name → ℕ) → HeapStands m c.table c.heap s.objects l work → IsClosed s → slid ≤ MAX_SPACE + 1 → (n : Name) (p k : ℕ) → IsAt l n p k → IsPageOf slid c.table p → SlidObject m slid c s l work n
slid_object m slid c s l work h closed small n p k at control =
    let w = h.whole n p k at in
    let home : space_index w.0.home + 1 ≡ slid = sym w.2 ∙ control in
    let held = h.held n w.0 w.1 in
    let f = object-fields c.heap l.at work n w.0 (closed.fields n w.0 w.1).1 (omega (arith, home, small)) held in
    record { thing = w.0; present = w.1; home = home; header = f.0; size = f.1; work_word = held.work_word }

-- a walk over a page comes to its objects one after another
pub walk-place : (m : Areas) (slid : ℕ) (c : Contents) (s : State) (l : Places) (work : Name → ℕ) → HeapStands m c.table c.heap s.objects l work → IsClosed s → slid ≤ MAX_SPACE + 1 → (p : ℕ) → p < m.pages → IsPageOf slid c.table p → (k : ℕ) → k ≤ length (names_of l p) → behind c.heap (page_words m * p) k ≡ page_words m * p + sum_by (size_by s.objects) (take k (names_of l p))
walk-place m slid c s l work h closed small p hp control zero le = let e = behind-first c.heap (page_words m * p) in omega (arith, e)
walk-place m slid c s l work h closed small p hp control (suc k) le =
    let lt : k < length (names_of l p) = omega arith in
    let n : Name = name_at l p k in
    let at = stands-at m c.table c.heap s.objects l work h p k hp lt in
    let o = slid_object m slid c s l work h closed small n p k at control in
    let before = walk-place m slid c s l work h closed small p hp control k (omega arith) in
    let place : l.at n ≡ page_words m * p + sum_by (size_by s.objects) (take k (names_of l p)) = h.tiles.places n p k at in
    let here : behind c.heap (page_words m * p) k ≡ l.at n = before ∙ sym place in
    let size : size_at c.heap (behind c.heap (page_words m * p) k) ≡ length o.thing.fields + 3 = ap (size_at c.heap) here ∙ o.size in
    let words : size_by s.objects n ≡ length o.thing.fields + 3 = ap words_by o.present in
    let more = sum_by_more (size_by s.objects) (names_of l p) k (record { thread = 0; serial = 0 }) lt in
    let next = behind-next c.heap (page_words m * p) k in
    let e : suc k ≡ k + 1 = omega arith in
    rw (e, next, size, more, before) (omega (arith, words))

pub walk-at : (m : Areas) (slid : ℕ) (c : Contents) (s : State) (l : Places) (work : Name → ℕ) → HeapStands m c.table c.heap s.objects l work → IsClosed s → slid ≤ MAX_SPACE + 1 → (p k : ℕ) → p < m.pages → IsPageOf slid c.table p → k < length (names_of l p) → behind c.heap (page_words m * p) k ≡ l.at (name_at l p k)
walk-at m slid c s l work h closed small p k hp control lt =
    let at = stands-at m c.table c.heap s.objects l work h p k hp lt in
    walk-place m slid c s l work h closed small p hp control k (omega arith) ∙ sym (h.tiles.places (name_at l p k) p k at)

-- the control pages of a heap that stands for a state are runs of whole objects
abbrev pub runs_of : (m : Areas) (slid : ℕ) (c : Contents) (s : State) (l : Places) (work : Name → ℕ) → HeapStands m c.table c.heap s.objects l work → IsClosed s → slid ≤ MAX_SPACE + 1 → Runs m slid c
runs_of m slid c s l work h closed small p hp control = record {
  objects = length (names_of l p);
  headers = λ k lt. subst (HasHeader c.heap) (sym (walk-at m slid c s l work h closed small p k hp control lt)) (slid_object m slid c s l work h closed small (name_at l p k) p k (stands-at m c.table c.heap s.objects l work h p k hp lt) control).header;
  ends = walk-place m slid c s l work h closed small p hp control (length (names_of l p)) (omega arith) ∙ ap (λ (ns : List Name). page_words m * p + sum_by (size_by s.objects) ns) (take_all (length (names_of l p)) (names_of l p) (omega arith)) ∙ ap (λ i. page_words m * p + i) (sym (h.marks p hp));
  fits = rw (h.marks p hp) (h.tiles.fits p (rw h.count hp));
}

-- a kept object that is not of Control lies in a page that is not of Control
other-page : (m : Areas) (slid : ℕ) (c : Contents) (s : State) (l : Places) (work : Name → ℕ) → HeapStands m c.table c.heap s.objects l work → (n : Name) (o : Thing) (q j : ℕ) → s.objects n ≡ Some o → IsAt l n q j → (space_index o.home + 1 ≡ slid → ⊥) → IsPageOf slid c.table q → ⊥
other-page m slid c s l work h n o q j e at other control =
    let w = h.whole n q j at in
    let same : o ≡ w.0 = (let f : Some o ≡ Some w.0 = sym e ∙ w.1 in cc) in
    let index : space_index o.home ≡ space_index w.0.home = ap (λ (t : Thing). space_index t.home) same in
    other (omega (arith, index, w.2, control))

pub keep-case : (s : State) (dropped : Name → Bool) (n : Name) (o : Thing) (b : Bool) → dropped n ≡ b → b ≡ false → s.objects n ≡ Some o → cond (dropped n) None (s.objects n) ≡ Some o
keep-case s dropped n o b d f e = rw (d, f) e

pub kept-false : (s : State) (dropped : Name → Bool) (n : Name) (o : Thing) (b : Bool) → dropped n ≡ b → cond b None (s.objects n) ≡ Some o → dropped n ≡ false
kept-false s dropped n o true d e = absurd (let f : None ≡ Some o = e in cc)
kept-false s dropped n o false d e = d

pages-apart : (m : Areas) (p q a n b k : ℕ) → (p ≡ q → ⊥) → page_words m * p ≤ a → a + n ≤ page_words m * p + page_words m → page_words m * q ≤ b → b + k ≤ page_words m * q + page_words m → AreApart a n b k
pages-apart m p q a n b k ne la ha lb hb = ⊎_elim
    (λ (e : p ≡ q). absurd (ne e))
    (λ (other : (p < q) ⊎ (q < p)). ⊎_elim (λ (lt : p < q). inl (omega arith)) (λ (gt : q < p). inr (omega arith)) other)
    (cases_order p q)

-- the plan of a slide is lawful
pub slide-lawful : (m : Areas) (slid : ℕ) (was : Contents) (s : State) (l : Places) (work : Name → ℕ) (dropped : Name → Bool) (now : Contents) (count : ℕ) (moves : ℕ → Move) (next room : ℕ) (h : HeapStands m was.table was.heap s.objects l work) (closed : IsClosed s) (small : slid ≤ MAX_SPACE + 1) → Drops slid s work dropped → IsClosed (without s dropped) → Sliding m slid was (runs_of m slid was s l work h closed small) now count moves next room (heap_length m) → IsLawfulPlan m count moves s l.at dropped
slide-lawful m slid was s l work dropped now count moves next room h closed small drops rest slide =
    let runs : Runs m slid was = runs_of m slid was s l work h closed small in
    record {
      words = λ k. size_at was.heap (moves k).old;
      ascending = λ j k lt lk. let p = slide.apart j k lt lk in omega (arith, p);
      present = λ k lt.
          let mark = slide.marked k lt in
          let x = mark.0 in
          let n : Name = name_at l x.0 x.1 in
          let at = stands-at m was.table was.heap s.objects l work h x.0 x.1 x.2 x.4 in
          let o = slid_object m slid was s l work h closed small n x.0 x.1 at x.3 in
          let place : l.at n ≡ (moves k).old = sym (x.5 ∙ walk-at m slid was s l work h closed small x.0 x.1 x.2 x.3 x.4) in
          let one : work n ≢ 0 = λ z. mark.1 (ap (λ a. get_or was.heap (a + 2) 0) (sym place) ∙ o.work_word ∙ z) in
          let stays : dropped n ≡ false = drops.marked n o.thing o.present one in
          (n, o.thing, keep-case s dropped n o.thing (dropped n) refl stays o.present, place, ap (size_at was.heap) (sym place) ∙ o.size);
      spaces = λ k lt. rw (slide.control k lt).0 tt;
      in_page = λ k lt. let c = (slide.control k lt).1 in (c.0, c.1, c.3, c.4);
      apart = λ j k lt lk. inl (slide.spread j k lt lk);
      later = λ j k lt lk. let p = slide.spread j k lt lk in let d = slide.down k lk in inl (omega (arith, p, d));
      beside = λ k n o lt e none.
          let here : s.objects n ≡ Some o = kept s dropped n o e in
          let stays : dropped n ≡ false = kept-false s dropped n o (dropped n) refl e in
          let at = h.present n o here in
          let q : ℕ = at.0 in
          let hq : q < m.pages = rw (← h.count) at.2.page in
          let c = (slide.control k lt).1 in
          let page = in_page (page_words m) (size_by s.objects) l n q at.1 h.tiles at.2 in
          let size : size_by s.objects n ≡ length o.fields + 3 = ap words_by here in
          let other : c.0 ≡ q → ⊥ = λ same.
          let control : IsPageOf slid was.table q = subst (IsPageOf slid was.table) same c.2 in
          let x = slid_object m slid was s l work h closed small n q at.1 at.2 control in
          let thing : o ≡ x.thing = (let f : Some o ≡ Some x.thing = sym here ∙ x.present in cc) in
          let index : space_index o.home + 1 ≡ slid = ap (λ (t : Thing). space_index t.home + 1) thing ∙ x.home in
          let one : work n ≢ 0 = drops.kept n o here stays index in
          let name : name_at l q at.1 ≡ n = get_or_default (names_of l q) at.1 (record { thread = 0; serial = 0 }) n at.2.place ∙ at.2.name in
          let walk : l.at n ≡ behind was.heap (page_words m * q) at.1 = ap l.at (sym name) ∙ sym (walk-at m slid was s l work h closed small q at.1 hq control at.2.place) in
          let before : l.at n < heap_length m = omega (arith, page.0, page.1, size) in
          let found = slide.complete (l.at n) (q, at.1, hq, control, at.2.place, walk) before (λ z. one (sym x.work_word ∙ z)) in
          none found.0 found.1 (sym found.2)
          in
          pages-apart m c.0 q (moves k).new (size_at was.heap (moves k).old) (l.at n) (length o.fields + 3) other c.3 c.4 page.0 (omega (arith, page.1, size));
      closed = rest;
    }

-- the object of a move of a slide
pub slide-present : (m : Areas) (slid : ℕ) (was : Contents) (s : State) (l : Places) (work : Name → ℕ) (dropped : Name → Bool) (now : Contents) (count : ℕ) (moves : ℕ → Move) (next room a : ℕ) (h : HeapStands m was.table was.heap s.objects l work) (closed : IsClosed s) (small : slid ≤ MAX_SPACE + 1) → Drops slid s work dropped → Sliding m slid was (runs_of m slid was s l work h closed small) now count moves next room a → (k : ℕ) → k < count → (n : Name) × (o : Thing) × ((without s dropped).objects n ≡ Some o) × (l.at n ≡ (moves k).old) × (size_at was.heap (moves k).old ≡ length o.fields + 3)
slide-present m slid was s l work dropped now count moves next room a h closed small drops slide k lt =
    let mark = slide.marked k lt in
    let x = mark.0 in
    let n : Name = name_at l x.0 x.1 in
    let at = stands-at m was.table was.heap s.objects l work h x.0 x.1 x.2 x.4 in
    let o = slid_object m slid was s l work h closed small n x.0 x.1 at x.3 in
    let place : l.at n ≡ (moves k).old = sym (x.5 ∙ walk-at m slid was s l work h closed small x.0 x.1 x.2 x.3 x.4) in
    let one : work n ≢ 0 = λ z. mark.1 (ap (λ i. get_or was.heap (i + 2) 0) (sym place) ∙ o.work_word ∙ z) in
    let stays : dropped n ≡ false = drops.marked n o.thing o.present one in
    (n, o.thing, keep-case s dropped n o.thing (dropped n) refl stays o.present, place, ap (size_at was.heap) (sym place) ∙ o.size)
