-- The entries of the page table, written one after another.
use Rattle.std.proofs.Common.{◌≡◌, ◌≢◌, ℕ, ◌+◌, ◌*◌, ◌/◌, ◌%◌, ◌≤◌, ◌<◌, true, false, cond, List, [], suc, length, get_or, set, refl, sym, ap, subst, ◌∙◌, arith, length-set, length-drop, get_or-set_same, get_or-set_other}
use Rattle.std.specs.Prelude.{◌==◌}
use Rattle.std.proofs.lemmas.Bool.{cases_eq, eq-eqb, ne_eqb}
use Rattle.std.proofs.Math.Logic.{⊎_elim}
use Rattle.heap_words.specs.declared.map.Areas.{Areas}
use Rattle.heap_words.specs.Map.{page_words, total_of}
use Rattle.heap_words.specs.Cells.{cells, row, row_set}
use Rattle.heap_words.specs.Contents.{contents}
use Rattle.heap_words.proofs.Rows.{length-row}
use Rattle.yak_model.specs.Placed.{space_word, used_mark}
use Rattle.yak_model.specs.Plans.{Move}
use Rattle.relocation.specs.Moves.{size_at}
use Rattle.relocation.specs.Slide.{IsPageOf, brought}
use Rattle.relocation.specs.Slide.{TableAfter}
use Rattle.forwarding.specs.Settled.{Emptied, Filled}

-- an entry has two words
pub length-entry : (m : Areas) (ws : List ℕ) (p : ℕ) → length ws ≡ total_of m → p < m.pages → length (row (contents m ws).table p) ≡ 2
unfolding contents cells
length-entry m ws p long lt = length-row m.pages 2 _ p lt (simp length-drop (omega arith))

-- a written entry, and the others
pub entry-other : (t : List (List ℕ)) (p j v q : ℕ) → q ≢ p → row (row_set t p j v) q ≡ row t q
entry-other t p j v q ne = get_or-set_other t p q (set (row t p) j v) [] ne

pub entry-own : (t : List (List ℕ)) (p j v : ℕ) → p < length t → row (row_set t p j v) p ≡ set (row t p) j v
entry-own t p j v lt = get_or-set_same t p (set (row t p) j v) [] lt

abbrev emptied : List (List ℕ) → ℕ → ℕ → List (List ℕ)
emptied t p word = row_set (row_set t p 0 word) p 1 0

emptied-own : (t : List (List ℕ)) (p word : ℕ) → p < length t → row (emptied t p word) p ≡ set (set (row t p) 0 word) 1 0
emptied-own t p word lt =
    entry-own (row_set t p 0 word) p 1 0 (rw (length-set t p (set (row t p) 0 word)) lt) ∙ ap (λ (r : List ℕ). set r 1 0) (entry-own t p 0 word lt)

emptied-space : (t : List (List ℕ)) (p word : ℕ) → p < length t → length (row t p) ≡ 2 → space_word (emptied t p word) p ≡ word
emptied-space t p word lt two =
    ap (λ (r : List ℕ). get_or r 0 0) (emptied-own t p word lt) ∙ get_or-set_other (set (row t p) 0 word) 1 0 0 0 (λ e. omega arith) ∙ get_or-set_same (row t p) 0 word 0 (omega (arith, two))

emptied-mark : (t : List (List ℕ)) (p word : ℕ) → p < length t → length (row t p) ≡ 2 → used_mark (emptied t p word) p ≡ 0
emptied-mark t p word lt two =
    ap (λ (r : List ℕ). get_or r 1 0) (emptied-own t p word lt) ∙ get_or-set_same (set (row t p) 0 word) 1 0 0 (rw (length-set (row t p) 0 word) (omega (arith, two)))

emptied-other : (t : List (List ℕ)) (p word q : ℕ) → q ≢ p → row (emptied t p word) q ≡ row t q
emptied-other t p word q ne = entry-other (row_set t p 0 word) p 1 0 q ne ∙ entry-other t p 0 word q ne

pub emptied-none : (slid : ℕ) (t : List (List ℕ)) (next : ℕ) → Emptied slid t t next 0
emptied-none slid t next = record {
  kept = λ p lt. absurd (omega arith);
  free = λ p lt. absurd (omega arith);
  empty = λ p lt. absurd (omega arith);
  others = λ p other. refl;
  ahead = λ p le. refl;
}

-- a page of the space more
pub emptied-more : (slid : ℕ) (was now : List (List ℕ)) (next page word : ℕ) → Emptied slid was now next page → page < length now → length (row now page) ≡ 2 → IsPageOf slid was page → (page < next → word ≡ 1) → (next ≤ page → word ≡ 0) → Emptied slid was (row_set (row_set now page 0 word) page 1 0) next (page + 1)
emptied-more slid was now next page word h lt two own before after = record {
  kept = λ p less is low. ⊎_elim
      (λ (e : p ≡ page). rw e (emptied-space now page word lt two ∙ before (rw (← e) low)))
      (λ (ne : p ≡ page → ⊥). ap (λ (r : List ℕ). get_or r 0 0) (emptied-other now page word p ne) ∙ h.kept p (omega arith) is low)
      (cases_eq p page);
  free = λ p less is high. ⊎_elim
      (λ (e : p ≡ page). rw e (emptied-space now page word lt two ∙ after (rw (← e) high)))
      (λ (ne : p ≡ page → ⊥). ap (λ (r : List ℕ). get_or r 0 0) (emptied-other now page word p ne) ∙ h.free p (omega arith) is high)
      (cases_eq p page);
  empty = λ p less is. ⊎_elim
      (λ (e : p ≡ page). rw e (emptied-mark now page word lt two))
      (λ (ne : p ≡ page → ⊥). ap (λ (r : List ℕ). get_or r 1 0) (emptied-other now page word p ne) ∙ h.empty p (omega arith) is)
      (cases_eq p page);
  others = λ p other. emptied-other now page word p (λ e. other (subst (IsPageOf slid was) (sym e) own)) ∙ h.others p other;
  ahead = λ p le. emptied-other now page word p (λ e. omega arith) ∙ h.ahead p (omega arith);
}

-- a page that is not of the space
pub emptied-past : (slid : ℕ) (was now : List (List ℕ)) (next page : ℕ) → Emptied slid was now next page → (IsPageOf slid was page → ⊥) → Emptied slid was now next (page + 1)
emptied-past slid was now next page h other = record {
  kept = λ p less is low. h.kept p (⊎_elim (λ (e : p ≡ page). absurd (other (subst (IsPageOf slid was) e is))) (λ (ne : p ≡ page → ⊥). omega arith) (cases_eq p page)) is low;
  free = λ p less is high. h.free p (⊎_elim (λ (e : p ≡ page). absurd (other (subst (IsPageOf slid was) e is))) (λ (ne : p ≡ page → ⊥). omega arith) (cases_eq p page)) is high;
  empty = λ p less is. h.empty p (⊎_elim (λ (e : p ≡ page). absurd (other (subst (IsPageOf slid was) e is))) (λ (ne : p ≡ page → ⊥). omega arith) (cases_eq p page)) is;
  others = h.others;
  ahead = λ p le. h.ahead p (omega arith);
}

pub emptied-all : (slid : ℕ) (was now : List (List ℕ)) (next pages all : ℕ) → pages ≡ all → Emptied slid was now next pages → Emptied slid was now next all
emptied-all slid was now next pages all e h = subst (Emptied slid was now next) e h

-- ---- the used marks

brought-suc : (m : Areas) (heap : List ℕ) (k : ℕ) (moves : ℕ → Move) (p : ℕ) → brought m heap (suc k) moves p ≡ brought m heap k moves p + cond ((moves k).new / page_words m == p) (size_at heap (moves k).old) 0
unfolding brought
brought-suc m heap k moves p = refl

brought-none : (m : Areas) (heap : List ℕ) (moves : ℕ → Move) (p : ℕ) → brought m heap 0 moves p ≡ 0
unfolding brought
brought-none m heap moves p = refl

brought-own : (m : Areas) (heap : List ℕ) (k : ℕ) (moves : ℕ → Move) (p : ℕ) → (moves k).new / page_words m ≡ p → brought m heap (k + 1) moves p ≡ brought m heap k moves p + size_at heap (moves k).old
brought-own m heap k moves p e =
    let next : k + 1 ≡ suc k = omega arith in
    let test : ((moves k).new / page_words m == p) ≡ true = eq-eqb ((moves k).new / page_words m) p e in
    ap (λ n. brought m heap n moves p) next ∙ brought-suc m heap k moves p ∙ ap (λ b. brought m heap k moves p + cond b (size_at heap (moves k).old) 0) test

brought-other : (m : Areas) (heap : List ℕ) (k : ℕ) (moves : ℕ → Move) (p : ℕ) → ((moves k).new / page_words m ≡ p → ⊥) → brought m heap (k + 1) moves p ≡ brought m heap k moves p
brought-other m heap k moves p ne =
    let next : k + 1 ≡ suc k = omega arith in
    let test : ((moves k).new / page_words m == p) ≡ false = ne_eqb ((moves k).new / page_words m) p ne in
    let nothing : brought m heap k moves p + 0 ≡ brought m heap k moves p = omega arith in
    ap (λ n. brought m heap n moves p) next ∙ brought-suc m heap k moves p ∙ ap (λ b. brought m heap k moves p + cond b (size_at heap (moves k).old) 0) test ∙ nothing

pub filled-none : (m : Areas) (heap : List ℕ) (t : List (List ℕ)) (moves : ℕ → Move) → Filled m heap t t 0 moves
filled-none m heap t moves = record {
  spaces = λ p. refl;
  others = λ p none. refl;
  marks = λ before sizes tight p lt empty. empty ∙ sym (brought-none m before moves p);
}

-- a move more
pub filled-more : (m : Areas) (heap : List ℕ) (was now : List (List ℕ)) (k : ℕ) (moves : ℕ → Move) → Filled m heap was now k moves → (moves k).new / page_words m < length now → length (row now ((moves k).new / page_words m)) ≡ 2 → Filled m heap was (row_set now ((moves k).new / page_words m) 1 ((moves k).new % page_words m + size_at heap (moves k).new)) (k + 1) moves
filled-more m heap was now k moves h lt two =
    let page : ℕ = (moves k).new / page_words m in
    let mark : ℕ = (moves k).new % page_words m + size_at heap (moves k).new in
    let own = entry-own now page 1 mark lt in
    record {
      spaces = λ p. ⊎_elim
          (λ (e : p ≡ page). rw e (ap (λ (r : List ℕ). get_or r 0 0) own ∙ get_or-set_other (row now page) 1 0 mark 0 (λ q. omega arith) ∙ h.spaces page))
          (λ (ne : p ≡ page → ⊥). ap (λ (r : List ℕ). get_or r 0 0) (entry-other now page 1 mark p ne) ∙ h.spaces p)
          (cases_eq p page);
      others = λ p none. entry-other now page 1 mark p (λ e. none k (omega arith) (sym e)) ∙ h.others p (λ j lj. none j (omega arith));
      marks = λ before sizes tight p in_heap empty. ⊎_elim
          (λ (e : p ≡ page).
          let size = sizes k (omega arith) in
          let place = tight k (omega arith) in
          let first : (moves k).new % page_words m ≡ brought m before k moves page = omega (arith, place) in
          rw e (ap (λ (r : List ℕ). get_or r 1 0) own ∙ get_or-set_same (row now page) 1 mark 0 (omega (arith, two)) ∙ (λ i. first i + size i) ∙ sym (brought-own m before k moves page refl)))
          (λ (ne : p ≡ page → ⊥). ap (λ (r : List ℕ). get_or r 1 0) (entry-other now page 1 mark p ne) ∙ h.marks before (λ j lj. sizes j (omega arith)) (λ j lj. tight j (omega arith)) p in_heap empty ∙ sym (brought-other m before k moves p (λ e. ne (sym e))))
          (cases_eq p page);
    }

-- the table after both
pub table-settled : (m : Areas) (slid : ℕ) (heap before : List ℕ) (was mid now : List (List ℕ)) (count : ℕ) (moves : ℕ → Move) (next : ℕ) → Emptied slid was mid next m.pages → Filled m heap mid now count moves → ((k : ℕ) → k < count → size_at heap (moves k).new ≡ size_at before (moves k).old) → ((k : ℕ) → k < count → (moves k).new ≡ page_words m * ((moves k).new / page_words m) + brought m before k moves ((moves k).new / page_words m)) → ((k : ℕ) → k < count → ((moves k).new / page_words m < next) × IsPageOf slid was ((moves k).new / page_words m)) → TableAfter m slid was before now count moves next
table-settled m slid heap before was mid now count moves next e f sizes tight to = record {
  filled = λ p lt is low. (f.spaces p ∙ e.kept p lt is low, f.marks before sizes tight p lt (e.empty p lt is));
  free = λ p lt is high. ap (λ (r : List ℕ). get_or r 1 0) (f.others p (λ k lk q. (let less = (to k lk).0 in omega (arith, less, q)))) ∙ e.empty p lt is;
  others = λ p other. f.others p (λ k lk q. other (subst (IsPageOf slid was) q (to k lk).1)) ∙ e.others p other;
}
