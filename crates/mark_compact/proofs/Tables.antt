use Rattle.std.proofs.Common.{◌≡◌, ◌≢◌, ℕ, ◌+◌, ◌≤◌, ◌<◌, true, false, List, [], ◌∷◌, take, drop, length, get_or, set, zero, suc, refl, sym, ap, subst, ◌∙◌, arith, length-set, get_or-set_same, get_or-set_other}
use Rattle.std.proofs.lemmas.Bool.{cases_eq, eq-eqb, ne_eqb}
use Rattle.std.proofs.lemmas.List.{take_all}
use Rattle.std.proofs.lemmas.List.Sums.{count_by_more_yes, count_by_more_no}
use Rattle.std.proofs.Math.Logic.{⊎_elim}
use Rattle.std.specs.List.{count_by}
use Rattle.std.specs.Prelude.{◌==◌}
use Rattle.heap_words.specs.declared.map.Areas.{Areas}
use Rattle.heap_words.specs.Map.{table_at}
use Rattle.heap_words.specs.Cells.{cells}
use Rattle.heap_words.specs.Contents.{Contents, contents, with_page}
use Rattle.heap_words.proofs.Rows.{length-rows}
use Rattle.epoch_lattice.specs.declared.Space.TheVariants.{Control}
use Rattle.yak_model.specs.Stands.{pages_of}
use Rattle.yak_model.specs.Placed.{space_word, used_mark}
use Rattle.relocation.specs.Slide.{IsPageOf, pages_before}
use Rattle.mark_compact.specs.Given.{GivenBack}
use Rattle.mark_compact.specs.declared.sliding.TheConstants.{CONTROL_WORD}
use Rattle.relocation.proofs.SlidPages.{pages_before-gap}

pub length-table : (m : Areas) (ws : List ℕ) → length (contents m ws).table ≡ m.pages
unfolding contents cells
length-table m ws = length-rows m.pages 2 (drop (table_at m) ws)

-- the same of a walk that has come to a page
pub record FreedTo (m : Areas) (was now : Contents) (next page : ℕ) : Type 0 where
  pub elsewhere : now ≡ record was { table = now.table }
  pub before : (p : ℕ) → p < next → get_or now.table p [] ≡ get_or was.table p []
  pub others : (p : ℕ) → (IsPageOf CONTROL_WORD was.table p → ⊥) → get_or now.table p [] ≡ get_or was.table p []
  pub free : (p : ℕ) → next ≤ p → p < page → IsPageOf CONTROL_WORD was.table p → (space_word now.table p ≡ 0) × (used_mark now.table p ≡ 0)
  pub ahead : (p : ℕ) → page ≤ p → get_or now.table p [] ≡ get_or was.table p []

pub freed-none : (m : Areas) (was : Contents) (next : ℕ) → FreedTo m was was next next
freed-none m was next = record { elsewhere = refl; before = λ p h. refl; others = λ p h. refl; free = λ p low high. absurd (omega arith); ahead = λ p h. refl }

zeroed : (r : List ℕ) → (get_or (set (set r 0 0) 1 0) 0 0 ≡ 0) × (get_or (set (set r 0 0) 1 0) 1 0 ≡ 0)
zeroed [] = (refl, refl)
zeroed (x ∷ []) = (refl, refl)
zeroed (x ∷ y ∷ r) = (refl, refl)

pub freed-page : (m : Areas) (was now then : Contents) (next page : ℕ) → FreedTo m was now next page → next ≤ page → page < length now.table → IsPageOf CONTROL_WORD was.table page → then ≡ with_page (with_page now page 0 0) page 1 0 → FreedTo m was then next (page + 1)
freed-page m was now then next page f le within control e =
    let r : List ℕ = set (set (get_or now.table page []) 0 0) 1 0 in
    let one : List (List ℕ) = set now.table page (set (get_or now.table page []) 0 0) in
    let inner : get_or one page [] ≡ set (get_or now.table page []) 0 0 = get_or-set_same now.table page (set (get_or now.table page []) 0 0) [] within in
    let table : then.table ≡ set one page (set (get_or one page []) 1 0) = ap (λ (c : Contents). c.table) e in
    let long : page < length one = rw (length-set now.table page (set (get_or now.table page []) 0 0)) within in
    let here : get_or then.table page [] ≡ r = ap (λ (t : List (List ℕ)). get_or t page []) table ∙ get_or-set_same one page (set (get_or one page []) 1 0) [] long ∙ ap (λ (x : List ℕ). set x 1 0) inner in
    let other : (p : ℕ) → p ≢ page → get_or then.table p [] ≡ get_or now.table p [] = λ p ne. ap (λ (t : List (List ℕ)). get_or t p []) table ∙ get_or-set_other one page p (set (get_or one page []) 1 0) [] ne ∙ get_or-set_other now.table page p (set (get_or now.table page []) 0 0) [] ne in
    let z = zeroed (get_or now.table page []) in
    record {
      elsewhere = e ∙ ap (λ (c : Contents). with_page (with_page c page 0 0) page 1 0) f.elsewhere ∙ ap (λ (t : List (List ℕ)). record was { table = t }) (sym table);
      before = λ p h. other p (λ q. omega arith) ∙ f.before p h;
      others = λ p no. other p (λ q. no (subst (IsPageOf CONTROL_WORD was.table) (sym q) control)) ∙ f.others p no;
      free = λ p low high c. ⊎_elim
          (λ (q : p ≡ page). rw (q, here) z)
          (λ (ne : p ≡ page → ⊥). rw (other p ne) (f.free p low (omega arith) c))
          (cases_eq p page);
      ahead = λ p h. other p (λ q. omega arith) ∙ f.ahead p (omega arith);
    }

pub freed-other : (m : Areas) (was now : Contents) (next page : ℕ) → FreedTo m was now next page → (IsPageOf CONTROL_WORD was.table page → ⊥) → FreedTo m was now next (page + 1)
freed-other m was now next page f not_control = record {
  elsewhere = f.elsewhere;
  before = f.before;
  others = f.others;
  free = λ p low high c. ⊎_elim
      (λ (q : p ≡ page). absurd (not_control (subst (IsPageOf CONTROL_WORD was.table) q c)))
      (λ (ne : p ≡ page → ⊥). f.free p low (omega arith) c)
      (cases_eq p page);
  ahead = λ p h. f.ahead p (omega arith);
}

pub freed-all : (m : Areas) (was now : Contents) (next page : ℕ) → FreedTo m was now next page → m.pages ≤ page → GivenBack m was now next
freed-all m was now next page f all = record { elsewhere = f.elsewhere; before = f.before; others = f.others; free = λ p low high c. f.free p low (omega arith) c }

-- the control pages of a table, counted
count-before : (table : List (List ℕ)) (k : ℕ) → k ≤ length table → count_by (λ (r : List ℕ). get_or r 0 0 == 1) (take k table) ≡ pages_before CONTROL_WORD table k
unfolding pages_before
count-before table zero le = refl
count-before table (suc k) le =
    let lt : k < length table = omega arith in
    let rest = count-before table k (omega arith) in
    let e : suc k ≡ k + 1 = omega arith in
    ⊎_elim
    (λ (yes : space_word table k ≡ 1).
    let test : (space_word table k == 1) ≡ true = eq-eqb (space_word table k) 1 yes in
    rw (e, count_by_more_yes (λ (r : List ℕ). get_or r 0 0 == 1) table k [] lt test, rest, test) refl)
    (λ (no : space_word table k ≡ 1 → ⊥).
    let test : (space_word table k == 1) ≡ false = ne_eqb (space_word table k) 1 no in
    rw (e, count_by_more_no (λ (r : List ℕ). get_or r 0 0 == 1) table k [] lt test, rest, test) (omega arith))
    (cases_eq (space_word table k) 1)

pub pages_of-before : (table : List (List ℕ)) → pages_of table Control ≡ pages_before CONTROL_WORD table (length table)
pages_of-before table = ap (count_by (λ (r : List ℕ). get_or r 0 0 == 1)) (sym (take_all (length table) table (omega arith))) ∙ count-before table (length table) (omega arith)

pages_before-same : (table table' : List (List ℕ)) (k : ℕ) → ((p : ℕ) → p < k → get_or table' p [] ≡ get_or table p []) → pages_before CONTROL_WORD table' k ≡ pages_before CONTROL_WORD table k
unfolding pages_before
pages_before-same table table' zero h = refl
pages_before-same table table' (suc k) h = rw (pages_before-same table table' k (λ p lt. h p (omega arith)), h k (omega arith)) refl

-- the control pages that are left are those before `next`
pub pages-left : (m : Areas) (was now : Contents) (next : ℕ) → GivenBack m was now next → length now.table ≡ m.pages → next ≤ m.pages → pages_of now.table Control ≡ pages_before CONTROL_WORD was.table next
pages-left m was now next b long le =
    let gap : (p : ℕ) → next ≤ p → p < m.pages → IsPageOf CONTROL_WORD now.table p → ⊥ = λ p low high c. ⊎_elim
    (λ (yes : space_word was.table p ≡ 1). let z = (b.free p low high yes).0 in omega (arith, z, c))
    (λ (no : space_word was.table p ≡ 1 → ⊥). no (ap (λ (r : List ℕ). get_or r 0 0) (sym (b.others p no)) ∙ c))
    (cases_eq (space_word was.table p) 1)
    in
    pages_of-before now.table ∙ ap (pages_before CONTROL_WORD now.table) long ∙ pages_before-gap CONTROL_WORD now.table next m.pages le gap ∙ pages_before-same was.table now.table next b.before
