-- The fields of the objects of pages, corrected page by page.
use Rattle.std.proofs.Common.{◌≡◌, ℕ, ◌+◌, ◌*◌, ◌≤◌, ◌<◌, List, zero, suc, length, get_or, inl, inr, refl, sym, ap, subst, ◌∙◌, arith}
use Rattle.std.proofs.lemmas.Bool.{cases_eq, cases_lt}
use Rattle.std.proofs.Math.Logic.{⊎_elim}
use Rattle.heap_words.specs.declared.map.Areas.{Areas}
use Rattle.heap_words.specs.Map.{page_words}
use Rattle.heap_words.specs.Cells.{cells}
use Rattle.heap_words.specs.Contents.{Contents, contents}
use Rattle.heap_words.proofs.Rows.{length-rows}
use Rattle.yak_model.specs.Placed.{used_mark}
use Rattle.yak_model.specs.Plans.{Move}
use Rattle.relocation.specs.Moves.{HasHeader, corrected_word, size_at}
use Rattle.relocation.specs.Fields.{FieldsCorrected, LeadWithin, Lined, MovesCorrected}
use Rattle.relocation.specs.Slide.{PageRun, object_at}
use Rattle.relocation.proofs.Moving.{fields_at-same}
use Rattle.relocation.proofs.FieldSteps.{moves-more, moves-none, next-header, next-lead, next-size}
use Rattle.relocation.proofs.SlidObjects.{behind-first, behind-from, behind-more, behind-next}
use Rattle.forwarding.specs.Corrected.{IsFieldIn, IsRegional, RegionRuns, RegionsCorrected}
use Rattle.forwarding.specs.Row.{ObjectRow, staying}

pub length-table : (m : Areas) (ws : List ℕ) → length (contents m ws).table ≡ m.pages
unfolding contents cells
length-table m ws = length-rows m.pages 2 _

-- ---- a row of objects

row-from : (m : Areas) (heap : List ℕ) (p used count : ℕ) (at : ℕ → ℕ) → ObjectRow m heap p used count at → (k : ℕ) → k ≤ count → page_words m * p ≤ at k
row-from m heap p used count at row zero le = (let e = row.first in omega (arith, e))
row-from m heap p used count at row (suc k) le =
    let before = row-from m heap p used count at row k (omega arith) in
    let n = row.next k (omega arith) in
    let e : at (suc k) ≡ at (k + 1) = (let q : suc k ≡ k + 1 = omega arith in ap at q) in
    omega (arith, before, n, e)

row-more : (m : Areas) (heap : List ℕ) (p used count : ℕ) (at : ℕ → ℕ) → ObjectRow m heap p used count at → (j k : ℕ) → j < k → k ≤ count → at j + size_at heap (at j) ≤ at k
row-more m heap p used count at row j zero lt le = absurd (omega arith)
row-more m heap p used count at row j (suc k) lt le =
    let n = row.next k (omega arith) in
    let e : at (suc k) ≡ at (k + 1) = (let q : suc k ≡ k + 1 = omega arith in ap at q) in
    ⊎_elim
    (λ (q : j ≡ k). rw q (omega (arith, n, e)))
    (λ (ne : j ≡ k → ⊥). let less : j < k = omega arith in let r = row-more m heap p used count at row j k less (omega arith) in omega (arith, r, n, e))
    (cases_eq j k)

-- an object of a row lies within the used words of the page
pub row-within : (m : Areas) (heap : List ℕ) (p used count : ℕ) (at : ℕ → ℕ) → ObjectRow m heap p used count at → (k : ℕ) → k < count → (page_words m * p ≤ at k) × (at k + size_at heap (at k) ≤ page_words m * p + used)
row-within m heap p used count at row k lt =
    let last = row-more m heap p used count at row k count lt (omega arith) in
    let end = row.last in
    (row-from m heap p used count at row k (omega arith), omega (arith, last, end))

pub row-before : (m : Areas) (heap : List ℕ) (p used count : ℕ) (at : ℕ → ℕ) → ObjectRow m heap p used count at → (k : ℕ) → k ≤ count → at k < page_words m * p + used → k < count
row-before m heap p used count at row k le before = ⊎_elim
    (λ (e : k ≡ count). absurd (let q : at k ≡ at count = ap at e in let end = row.last in omega (arith, q, end)))
    (λ (ne : k ≡ count → ⊥). omega arith)
    (cases_eq k count)

pub row-lined : (m : Areas) (heap : List ℕ) (p used count : ℕ) (at : ℕ → ℕ) → p < m.pages → ObjectRow m heap p used count at → Lined m heap count (staying at)
row-lined m heap p used count at in_heap row = record {
  headers = row.headers;
  within = λ k lt. (let w = row-within m heap p used count at row k lt in let f = row.fits in omega (arith, w.1, f, in_heap));
  ordered = λ j k lt in_row. row-more m heap p used count at row j k lt (omega arith);
  lead = row.lead;
}

-- how far a page is done: so many of its objects are
abbrev pub RowDone : (m : Areas) (f : ℕ → ℕ) (was now : List ℕ) (p used a : ℕ) → Type 0
RowDone m f was now p used a = (count : ℕ) (at : ℕ → ℕ) → ObjectRow m was p used count at → (k : ℕ) × (k ≤ count) × (a ≡ at k) × MovesCorrected f was now k (staying at)

pub row-none : (m : Areas) (f : ℕ → ℕ) (was : List ℕ) (p used : ℕ) → RowDone m f was was p used (page_words m * p)
row-none m f was p used count at row = (0, (let le : 0 ≤ count = omega arith in le), sym row.first, moves-none f was (staying at))

-- the object of a row at which a walk has arrived
pub record AtRow (m : Areas) (f : ℕ → ℕ) (was now : List ℕ) (p used a count : ℕ) (at : ℕ → ℕ) : Type 0 where
  pub place : ℕ
  pub among : place < count
  pub is : a ≡ at place
  pub done : MovesCorrected f was now place (staying at)
  pub header : HasHeader now a
  pub size : size_at now a ≡ size_at was (at place)
  pub low : page_words m * p ≤ a
  pub high : a + size_at now a ≤ page_words m * p + used
  pub fits : used ≤ page_words m
  pub lead : LeadWithin m now (a + 3) (a + size_at now a)

pub row-reached : (m : Areas) (f : ℕ → ℕ) (was now : List ℕ) (p used a count : ℕ) (at : ℕ → ℕ) → p < m.pages → ObjectRow m was p used count at → RowDone m f was now p used a → a < page_words m * p + used → AtRow m f was now p used a count at
row-reached m f was now p used a count at in_heap row reached before =
    let j = reached count at row in
    let e : a ≡ at j.0 = j.2 in
    let lt : j.0 < count = row-before m was p used count at row j.0 j.1 (omega (arith, e, before)) in
    let lined = row-lined m was p used count at in_heap row in
    let size : size_at now (at j.0) ≡ size_at was (at j.0) = next-size m f was now count j.0 (staying at) lined j.3 lt in
    let own : size_at now a ≡ size_at was (at j.0) = ap (size_at now) e ∙ size in
    let w = row-within m was p used count at row j.0 lt in
    record {
      place = j.0;
      among = lt;
      is = e;
      done = j.3;
      header = subst (HasHeader now) (sym e) (next-header m f was now count j.0 (staying at) lined j.3 lt);
      size = own;
      low = omega (arith, e, w.0);
      high = omega (arith, e, w.1, own);
      fits = row.fits;
      lead = subst (λ b. LeadWithin m now (b + 3) (b + size_at now b)) (sym e) (next-lead m f was now count j.0 (staying at) lined j.3 lt);
    }

pub row-on : (m : Areas) (f : ℕ → ℕ) (was now next : List ℕ) (p used a : ℕ) → p < m.pages → RowDone m f was now p used a → a < page_words m * p + used → FieldsCorrected f now next a (size_at now a) → RowDone m f was next p used (a + size_at now a)
row-on m f was now next p used a in_heap reached before one count at row =
    let r = row-reached m f was now p used a count at in_heap row reached before in
    let lined = row-lined m was p used count at in_heap row in
    let n = row.next r.place r.among in
    let here : FieldsCorrected f now next (at r.place) (size_at now (at r.place)) = subst (λ b. FieldsCorrected f now next b (size_at now b)) r.is one in
    (r.place + 1, (let le : r.place + 1 ≤ count = omega (arith, r.among) in le), (let e : a + size_at now a ≡ at (r.place + 1) = omega (arith, n, r.is, r.size) in e), moves-more m f was now next count r.place (staying at) lined r.done r.among here)

pub row-all : (m : Areas) (f : ℕ → ℕ) (was now : List ℕ) (p used a : ℕ) → RowDone m f was now p used a → page_words m * p + used ≤ a → (count : ℕ) (at : ℕ → ℕ) → ObjectRow m was p used count at → MovesCorrected f was now count (staying at)
row-all m f was now p used a reached past count at row =
    let j = reached count at row in
    ⊎_elim
    (λ (e : j.0 ≡ count). subst (λ k. MovesCorrected f was now k (staying at)) e j.3)
    (λ (ne : j.0 ≡ count → ⊥).
    let lt : j.0 < count = omega (arith, j.1) in
    absurd (let w = row-within m was p used count at row j.0 lt in omega (arith, w.1, j.2)))
    (cases_eq j.0 count)

pub row-end : (m : Areas) (f : ℕ → ℕ) (was now : List ℕ) (p used a : ℕ) → RowDone m f was now p used a → (count : ℕ) (at : ℕ → ℕ) → ObjectRow m was p used count at → a ≤ page_words m * p + used
row-end m f was now p used a reached count at row =
    let j = reached count at row in
    let end = row.last in
    ⊎_elim
    (λ (e : j.0 ≡ count). (let q : at j.0 ≡ at count = ap at e in omega (arith, q, j.2, end)))
    (λ (ne : j.0 ≡ count → ⊥). (let lt : j.0 < count = omega (arith, j.1) in let w = row-within m was p used count at row j.0 lt in omega (arith, w.1, j.2)))
    (cases_eq j.0 count)

-- a corrected object has its header still
pub fields-header : (f : ℕ → ℕ) (was now : List ℕ) (a n : ℕ) → FieldsCorrected f was now a n → HasHeader was a → HasHeader now a
fields-header f was now a n one h = (h.0, h.1, one.outside a (inl (omega arith)) ∙ h.2)

pub fields-size : (f : ℕ → ℕ) (was now : List ℕ) (a n : ℕ) → FieldsCorrected f was now a n → size_at now a ≡ size_at was a
fields-size f was now a n one = ap (λ k. k + 3) (fields_at-same was now a (one.outside a (inl (omega arith))))

-- ---- the pages of regions

-- a field of a page lies in the page
field-low : (m : Areas) (c : Contents) (p : ℕ) (run : PageRun m c p) (i : ℕ) → IsFieldIn m c p run i → (page_words m * p ≤ i) × (i < page_words m * p + page_words m)
field-low m c p run i field =
    let low = behind-from c.heap (page_words m * p) field.0 in
    let high = behind-more c.heap (page_words m * p) field.0 run.objects field.1 in
    (omega (arith, low, field.2), omega (arith, high, run.ends, run.fits, field.3))

-- how far the pages are done: the fields of the pages of regions among the first pages were corrected
pub record PagesDone (m : Areas) (f : ℕ → ℕ) (c : Contents) (count : ℕ) (moves : ℕ → Move) (r : RegionRuns m c count moves) (now : List ℕ) (pages : ℕ) : Type 0 where
  pub size : length now ≡ length c.heap
  pub fields : (p : ℕ) (h : p < m.pages) (x : IsRegional c p) (i : ℕ) → p < pages → IsFieldIn m c p (r.run p h x) i → get_or now i 0 ≡ corrected_word f (get_or c.heap i 0)
  pub others : (i : ℕ) → ((p : ℕ) (h : p < m.pages) (x : IsRegional c p) → p < pages → IsFieldIn m c p (r.run p h x) i → ⊥) → get_or now i 0 ≡ get_or c.heap i 0
  pub rest : (i : ℕ) → page_words m * pages ≤ i → get_or now i 0 ≡ get_or c.heap i 0

pub pages-none : (m : Areas) (f : ℕ → ℕ) (c : Contents) (count : ℕ) (moves : ℕ → Move) (r : RegionRuns m c count moves) → PagesDone m f c count moves r c.heap 0
pages-none m f c count moves r = record {
  size = refl;
  fields = λ p h x i lt. absurd (omega arith);
  others = λ i none. refl;
  rest = λ i le. refl;
}

-- the objects of the next page, in words that have not changed from its start on
pub region-row : (m : Areas) (c : Contents) (count : ℕ) (moves : ℕ → Move) (r : RegionRuns m c count moves) (now : List ℕ) (p : ℕ) (h : p < m.pages) (x : IsRegional c p) → ((i : ℕ) → page_words m * p ≤ i → get_or now i 0 ≡ get_or c.heap i 0) → ObjectRow m now p (used_mark c.table p) (r.run p h x).objects (object_at m c.heap p)
region-row m c count moves r now p h x same =
    let run = r.run p h x in
    let low : (k : ℕ) → page_words m * p ≤ object_at m c.heap p k = λ k. behind-from c.heap (page_words m * p) k in
    let size : (k : ℕ) → size_at now (object_at m c.heap p k) ≡ size_at c.heap (object_at m c.heap p k) = λ k. ap (λ n. n + 3) (fields_at-same c.heap now (object_at m c.heap p k) (same (object_at m c.heap p k) (low k))) in
    record {
      headers = λ k lt. (let e = run.headers k lt in (e.0, e.1, same (object_at m c.heap p k) (low k) ∙ e.2));
      first = behind-first c.heap (page_words m * p);
      next = λ k lt. behind-next c.heap (page_words m * p) k ∙ ap (λ n. object_at m c.heap p k + n) (sym (size k));
      last = run.ends;
      fits = run.fits;
      lead = λ k lt i b le less e. r.lead p h x i b (k, lt, le, (let q : i < object_at m c.heap p k + size_at c.heap (object_at m c.heap p k) = omega (arith, less, size k) in q)) (sym (same i (omega (arith, low k, le))) ∙ e);
    }

-- a page of a region more
pub pages-more : (m : Areas) (f : ℕ → ℕ) (c : Contents) (count : ℕ) (moves : ℕ → Move) (r : RegionRuns m c count moves) (now next : List ℕ) (page : ℕ) → page < m.pages → IsRegional c page → PagesDone m f c count moves r now page → length next ≡ length now → ((n : ℕ) (at : ℕ → ℕ) → ObjectRow m now page (used_mark c.table page) n at → MovesCorrected f now next n (staying at)) → PagesDone m f c count moves r next (page + 1)
pages-more m f c count moves r now next page in_heap regional done long step =
    let same : (p : ℕ) → p ≡ page → (i : ℕ) → page_words m * p ≤ i → get_or now i 0 ≡ get_or c.heap i 0 = λ p e i le. done.rest i (rw (← e) le) in
    let one : (p : ℕ) → p ≡ page → (h : p < m.pages) (x : IsRegional c p) → MovesCorrected f now next (r.run p h x).objects (staying (object_at m c.heap p)) = λ p e h x.
    subst (λ q. (n : ℕ) (at : ℕ → ℕ) → ObjectRow m now q (used_mark c.table q) n at → MovesCorrected f now next n (staying at)) (sym e) step (r.run p h x).objects (object_at m c.heap p) (region-row m c count moves r now p h x (same p e)) in
    let own = one page refl in_heap regional in
    let low : (k : ℕ) → page_words m * page ≤ object_at m c.heap page k = λ k. behind-from c.heap (page_words m * page) k in
    let size : (p : ℕ) → p ≡ page → (k : ℕ) → size_at now (object_at m c.heap p k) ≡ size_at c.heap (object_at m c.heap p k) = λ p e k. ap (λ n. n + 3) (fields_at-same c.heap now (object_at m c.heap p k) (same p e (object_at m c.heap p k) (behind-from c.heap (page_words m * p) k))) in
    record {
      size = long ∙ done.size;
      fields = λ p h x i lt field. ⊎_elim
          (λ (e : p ≡ page).
          let k = field.0 in
          let in_now : i < object_at m c.heap p k + size_at now (object_at m c.heap p k) = omega (arith, field.3, size p e k) in
          (one p e h x).fields k i field.1 field.2 in_now ∙ ap (corrected_word f) (same p e i (omega (arith, field-low m c p (r.run p h x) i field))))
          (λ (ne : p ≡ page → ⊥).
          let less : p < page = omega arith in
          let high = (field-low m c p (r.run p h x) i field).1 in
          own.others i (λ k lk. inl (let q = low k in omega (arith, q, high, less))) ∙ done.fields p h x i less field)
          (cases_eq p page);
      others = λ i none.
          own.others i (λ k lk. ⊎_elim
          (λ (before : i < object_at m c.heap page k + 3). inl before)
          (λ (from : object_at m c.heap page k + 3 ≤ i). ⊎_elim
          (λ (inside : i < object_at m c.heap page k + size_at now (object_at m c.heap page k)). absurd (none page in_heap regional (omega arith) (k, lk, from, (let q : i < object_at m c.heap page k + size_at c.heap (object_at m c.heap page k) = omega (arith, inside, size page refl k) in q))))
          (λ (past : object_at m c.heap page k + size_at now (object_at m c.heap page k) ≤ i). inr past)
          (cases_lt i (object_at m c.heap page k + size_at now (object_at m c.heap page k))))
          (cases_lt i (object_at m c.heap page k + 3)))
          ∙ done.others i (λ p h x lt field. none p h x (omega arith) field);
      rest = λ i le.
          own.others i (λ k lk. inr (let end = row-within m now page (used_mark c.table page) (r.run page in_heap regional).objects (object_at m c.heap page) (region-row m c count moves r now page in_heap regional (same page refl)) k lk in let fits = (r.run page in_heap regional).fits in omega (arith, end.1, fits, le)))
          ∙ done.rest i (omega arith);
    }

-- a page that is no region's
pub pages-other : (m : Areas) (f : ℕ → ℕ) (c : Contents) (count : ℕ) (moves : ℕ → Move) (r : RegionRuns m c count moves) (now : List ℕ) (page : ℕ) → (IsRegional c page → ⊥) → PagesDone m f c count moves r now page → PagesDone m f c count moves r now (page + 1)
pages-other m f c count moves r now page none done = record {
  size = done.size;
  fields = λ p h x i lt field. ⊎_elim
      (λ (e : p ≡ page). absurd (none (subst (IsRegional c) e x)))
      (λ (ne : p ≡ page → ⊥). done.fields p h x i (omega arith) field)
      (cases_eq p page);
  others = λ i nowhere. done.others i (λ p h x lt field. nowhere p h x (omega arith) field);
  rest = λ i le. done.rest i (omega arith);
}

pub pages-all : (m : Areas) (f : ℕ → ℕ) (c : Contents) (count : ℕ) (moves : ℕ → Move) (r : RegionRuns m c count moves) (now : List ℕ) (pages : ℕ) → m.pages ≤ pages → PagesDone m f c count moves r now pages → RegionsCorrected m f c count moves r now
pages-all m f c count moves r now pages le done = record {
  size = done.size;
  fields = λ p h x i field. done.fields p h x i (omega arith) field;
  others = λ i none. done.others i (λ p h x lt field. none p h x field);
}
