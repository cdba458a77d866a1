-- The names of the pages after the moves of an end.
use Rattle.std.proofs.Common.{◌≡◌, ◌≢◌, ◌⊎◌, ℕ, ◌+◌, ◌*◌, ◌/◌, ◌≤◌, ◌<◌, true, false, List, [], ◌∷◌, ◌++◌, take, length, get_or, zero, suc, refl, sym, ap, ◌∙◌, arith, inl, inr, length-append}
use Rattle.std.specs.Prelude.{◌==◌}
use Rattle.std.specs.List.{sum_by}
use Rattle.std.proofs.lemmas.Bool.{cases_eq, cases_lt, eq-eqb, ne_eqb}
use Rattle.std.proofs.lemmas.List.{get_or_append_left, get_or_at, take-append-le, take_at}
use Rattle.std.proofs.lemmas.List.Sums.{sum_by_push}
use Rattle.std.proofs.Math.Logic.{⊎_elim}
use Rattle.object_layout.specs.declared.names.Name.{Name}
use Rattle.heap_words.specs.declared.map.Areas.{Areas}
use Rattle.heap_words.specs.Map.{page_words}
use Rattle.yak_model.specs.Placed.{Tiles, space_word}
use Rattle.yak_model.specs.Plans.{Move}
use Rattle.relocation.specs.Moves.{size_at}
use Rattle.relocation.specs.Slide.{IsPageOf, brought}
use Rattle.relocation.specs.Slidden.{names_after}
use Rattle.relocation.proofs.SlidLaid.{LaidTo, laid-tiles, places_of}

-- a name of a page that isn't emptied stays where it is
pub names-kept : (m : Areas) (slid : ℕ) (table : List (List ℕ)) (old : ℕ → List Name) (c : ℕ) (moves : ℕ → Move) (named : ℕ → Name) (p i : ℕ) (n : Name) → (IsPageOf slid table p → ⊥) → i < length (old p) → get_or (old p) i n ≡ n → (i < length (names_after m slid table old c moves named p)) × (get_or (names_after m slid table old c moves named p) i n ≡ n)
unfolding names_after
names-kept m slid table old zero moves named p i n other lt e =
    let test : (space_word table p == slid) ≡ false = ne_eqb (space_word table p) slid other in
    rw test (lt, e)
names-kept m slid table old (suc c) moves named p i n other lt e =
    let ns : List Name = names_after m slid table old c moves named p in
    let r = names-kept m slid table old c moves named p i n other lt e in
    ⊎_elim
    (λ (hit : (moves c).new / page_words m ≡ p).
    let test : ((moves c).new / page_words m == p) ≡ true = eq-eqb ((moves c).new / page_words m) p hit in
    rw test ((let less : i < length (ns ++ named c ∷ []) = omega (arith, r.0, length-append ns (named c ∷ [])) in less), get_or_append_left ns (named c ∷ []) n i r.0 ∙ r.1))
    (λ (miss : (moves c).new / page_words m ≡ p → ⊥).
    let test : ((moves c).new / page_words m == p) ≡ false = ne_eqb ((moves c).new / page_words m) p miss in
    rw test r)
    (cases_eq ((moves c).new / page_words m) p)

-- a moved name lies in the page that it was moved to
pub names-member : (m : Areas) (slid : ℕ) (table : List (List ℕ)) (old : ℕ → List Name) (c : ℕ) (moves : ℕ → Move) (named : ℕ → Name) (k p : ℕ) → k < c → (moves k).new / page_words m ≡ p → (i : ℕ) × (i < length (names_after m slid table old c moves named p)) × (get_or (names_after m slid table old c moves named p) i (named k) ≡ named k)
unfolding names_after
names-member m slid table old zero moves named k p lt e = absurd (omega arith)
names-member m slid table old (suc c) moves named k p lt e =
    let ns : List Name = names_after m slid table old c moves named p in
    ⊎_elim
    (λ (q : k ≡ c).
    let test : ((moves c).new / page_words m == p) ≡ true = eq-eqb ((moves c).new / page_words m) p (ap (λ x. (moves x).new / page_words m) (sym q) ∙ e) in
    rw test (length ns, (let less : length ns < length (ns ++ named c ∷ []) = omega (arith, length-append ns (named c ∷ [])) in less), get_or_at ns (named c) [] (named k) (length ns) refl ∙ ap named (sym q)))
    (λ (ne : k ≡ c → ⊥).
    let r = names-member m slid table old c moves named k p (omega arith) e in
    ⊎_elim
    (λ (hit : (moves c).new / page_words m ≡ p).
    let test : ((moves c).new / page_words m == p) ≡ true = eq-eqb ((moves c).new / page_words m) p hit in
    rw test (r.0, (let less : r.0 < length (ns ++ named c ∷ []) = omega (arith, r.1, length-append ns (named c ∷ [])) in less), get_or_append_left ns (named c ∷ []) (named k) r.0 r.1 ∙ r.2))
    (λ (miss : (moves c).new / page_words m ≡ p → ⊥).
    let test : ((moves c).new / page_words m == p) ≡ false = ne_eqb ((moves c).new / page_words m) p miss in
    rw test r)
    (cases_eq ((moves c).new / page_words m) p))
    (cases_eq k c)

-- a name of a page was moved there, or stays where it was
abbrev pub CameFrom : Areas → ℕ → List (List ℕ) → (ℕ → List Name) → ℕ → (ℕ → Move) → (ℕ → Name) → ℕ → ℕ → Name → Type 0
CameFrom m slid table old c moves named p i n =
    ((k : ℕ) × (k < c) × (n ≡ named k) × ((moves k).new / page_words m ≡ p))
    ⊎ ((IsPageOf slid table p → ⊥) × (i < length (old p)) × (get_or (old p) i n ≡ n))

from-more : (m : Areas) (slid : ℕ) (table : List (List ℕ)) (old : ℕ → List Name) (c : ℕ) (moves : ℕ → Move) (named : ℕ → Name) (p i : ℕ) (n : Name) → CameFrom m slid table old c moves named p i n → CameFrom m slid table old (suc c) moves named p i n
from-more m slid table old c moves named p i n h = ⊎_elim
    (λ (r : (k : ℕ) × (k < c) × (n ≡ named k) × ((moves k).new / page_words m ≡ p)). inl (r.0, (let h : r.0 < suc c = omega (arith, r.1) in h), r.2, r.3))
    (λ (r : (IsPageOf slid table p → ⊥) × (i < length (old p)) × (get_or (old p) i n ≡ n)). inr r)
    h

pub names-from : (m : Areas) (slid : ℕ) (table : List (List ℕ)) (old : ℕ → List Name) (c : ℕ) (moves : ℕ → Move) (named : ℕ → Name) (p i : ℕ) (n : Name) → i < length (names_after m slid table old c moves named p) → get_or (names_after m slid table old c moves named p) i n ≡ n → CameFrom m slid table old c moves named p i n
unfolding names_after
names-from m slid table old zero moves named p i n lt e = ⊎_elim
    (λ (hit : space_word table p ≡ slid).
    let test : (space_word table p == slid) ≡ true = eq-eqb (space_word table p) slid hit in
    absurd (let none : i < 0 = rw test at lt in omega arith))
    (λ (miss : space_word table p ≡ slid → ⊥).
    let test : (space_word table p == slid) ≡ false = ne_eqb (space_word table p) slid miss in
    let lt' : i < length (old p) = rw test at lt in
    let e' : get_or (old p) i n ≡ n = rw test at e in
    inr (miss, lt', e'))
    (cases_eq (space_word table p) slid)
names-from m slid table old (suc c) moves named p i n lt e =
    let ns : List Name = names_after m slid table old c moves named p in
    ⊎_elim
    (λ (hit : (moves c).new / page_words m ≡ p).
    let test : ((moves c).new / page_words m == p) ≡ true = eq-eqb ((moves c).new / page_words m) p hit in
    let long : i < length (ns ++ named c ∷ []) = rw test at lt in
    let read : get_or (ns ++ named c ∷ []) i n ≡ n = rw test at e in
    ⊎_elim
    (λ (less : i < length ns). from-more m slid table old c moves named p i n (names-from m slid table old c moves named p i n less (sym (get_or_append_left ns (named c ∷ []) n i less) ∙ read)))
    (λ (le : length ns ≤ i).
    let last : length ns ≡ i = omega (arith, length-append ns (named c ∷ [])) in
    inl (c, (let h : c < suc c = omega arith in h), sym read ∙ get_or_at ns (named c) [] n i last, hit))
    (cases_lt i (length ns)))
    (λ (miss : (moves c).new / page_words m ≡ p → ⊥).
    let test : ((moves c).new / page_words m == p) ≡ false = ne_eqb ((moves c).new / page_words m) p miss in
    from-more m slid table old c moves named p i n (names-from m slid table old c moves named p i n (rw test at lt) (rw test at e)))
    (cases_eq ((moves c).new / page_words m) p)

-- what the moves bring to a page that none goes to
pub brought-none : (m : Areas) (heap : List ℕ) (c : ℕ) (moves : ℕ → Move) (p : ℕ) → ((k : ℕ) → k < c → (moves k).new / page_words m ≢ p) → brought m heap c moves p ≡ 0
unfolding brought
brought-none m heap zero moves p none = refl
brought-none m heap (suc c) moves p none =
    let test : ((moves c).new / page_words m == p) ≡ false = ne_eqb ((moves c).new / page_words m) p (none c (omega arith)) in
    rw test (omega (arith, brought-none m heap c moves p (λ k lt. none k (omega arith))))

-- the objects of each page lie one after another, behind what the page had before
pub record LaidBy (m : Areas) (base : ℕ → ℕ) (heap : List ℕ) (size at : Name → ℕ) (names : ℕ → List Name) (moves : ℕ → Move) (count : ℕ) : Type 0 where
  pub places : (p k : ℕ) (n : Name) → p < m.pages → k < length (names p) → get_or (names p) k n ≡ n → (at n ≡ page_words m * p + sum_by size (take k (names p))) × (3 ≤ size n)
  pub sums : (p : ℕ) → p < m.pages → sum_by size (names p) ≡ base p + brought m heap count moves p

pub laid-first : (m : Areas) (slid : ℕ) (table : List (List ℕ)) (base : ℕ → ℕ) (heap : List ℕ) (size at : Name → ℕ) (old : ℕ → List Name) (moves : ℕ → Move) (named : ℕ → Name) → ((p k : ℕ) (n : Name) → p < m.pages → (IsPageOf slid table p → ⊥) → k < length (old p) → get_or (old p) k n ≡ n → (at n ≡ page_words m * p + sum_by size (take k (old p))) × (3 ≤ size n)) → ((p : ℕ) → p < m.pages → (IsPageOf slid table p → ⊥) → sum_by size (old p) ≡ base p) → ((p : ℕ) → p < m.pages → IsPageOf slid table p → base p ≡ 0) → LaidBy m base heap size at (names_after m slid table old 0 moves named) moves 0
unfolding names_after brought
laid-first m slid table base heap size at old moves named places sums empty =
    let hit : (p : ℕ) → IsPageOf slid table p → (space_word table p == slid) ≡ true = λ p h. eq-eqb (space_word table p) slid h in
    let miss : (p : ℕ) → (IsPageOf slid table p → ⊥) → (space_word table p == slid) ≡ false = λ p h. ne_eqb (space_word table p) slid h in
    record {
      places = λ p k n hp lt e. ⊎_elim
          (λ (c : space_word table p ≡ slid). absurd (let none : k < 0 = rw (hit p c) at lt in omega arith))
          (λ (o : space_word table p ≡ slid → ⊥).
          let lt' : k < length (old p) = rw (miss p o) at lt in
          let e' : get_or (old p) k n ≡ n = rw (miss p o) at e in
          rw (miss p o) (places p k n hp o lt' e'))
          (cases_eq (space_word table p) slid);
      sums = λ p hp. ⊎_elim
          (λ (c : space_word table p ≡ slid). rw (hit p c) (omega (arith, empty p hp c)))
          (λ (o : space_word table p ≡ slid → ⊥). rw (miss p o) (omega (arith, sums p hp o)))
          (cases_eq (space_word table p) slid);
    }

pub laid-next : (m : Areas) (slid : ℕ) (table : List (List ℕ)) (base : ℕ → ℕ) (heap : List ℕ) (size at : Name → ℕ) (old : ℕ → List Name) (moves : ℕ → Move) (named : ℕ → Name) (c q : ℕ) → LaidBy m base heap size at (names_after m slid table old c moves named) moves c → (moves c).new / page_words m ≡ q → q < m.pages → at (named c) ≡ page_words m * q + (base q + brought m heap c moves q) → size (named c) ≡ size_at heap (moves c).old → LaidBy m base heap size at (names_after m slid table old (suc c) moves named) moves (suc c)
unfolding names_after brought
laid-next m slid table base heap size at old moves named c q l page within place words =
    let names : ℕ → List Name = names_after m slid table old c moves named in
    let hit : ((moves c).new / page_words m == q) ≡ true = eq-eqb ((moves c).new / page_words m) q page in
    let miss : (p : ℕ) → p ≢ q → ((moves c).new / page_words m == p) ≡ false = λ p ne. ne_eqb ((moves c).new / page_words m) p (λ e. ne (sym e ∙ page)) in
    let sum : sum_by size (names q ++ named c ∷ []) ≡ sum_by size (names q) + size (named c) = sum_by_push size (names q) (named c) in
    let before : sum_by size (names q) ≡ base q + brought m heap c moves q = l.sums q within in
    record {
      places = λ p k n hp lt e. ⊎_elim
          (λ (same : p ≡ q).
          let test : ((moves c).new / page_words m == p) ≡ true = rw same hit in
          let long : k < length (names p ++ named c ∷ []) = rw test at lt in
          let read : get_or (names p ++ named c ∷ []) k n ≡ n = rw test at e in
          rw test (⊎_elim
          (λ (less : k < length (names p)).
          let r : get_or (names p) k n ≡ n = sym (get_or_append_left (names p) (named c ∷ []) n k less) ∙ read in
          let front : take k (names p ++ named c ∷ []) ≡ take k (names p) = take-append-le k (names p) (named c ∷ []) (omega arith) in
          rw front (l.places p k n hp less r))
          (λ (le : length (names p) ≤ k).
          let last : length (names p) ≡ k = omega (arith, length-append (names p) (named c ∷ [])) in
          let new : n ≡ named c = sym read ∙ get_or_at (names p) (named c) [] n k last in
          let front : take k (names p ++ named c ∷ []) ≡ names p = take_at (names p) (named c ∷ []) k last in
          let total : sum_by size (names p) ≡ base q + brought m heap c moves q = ap (λ x. sum_by size (names x)) same ∙ before in
          rw (front, new, total, same) (place, (let three : 3 ≤ size (named c) = omega (arith, words) in three)))
          (cases_lt k (length (names p)))))
          (λ (ne : p ≡ q → ⊥).
          let lt' : k < length (names p) = rw (miss p ne) at lt in
          let e' : get_or (names p) k n ≡ n = rw (miss p ne) at e in
          rw (miss p ne) (l.places p k n hp lt' e'))
          (cases_eq p q);
      sums = λ p hp. ⊎_elim
          (λ (same : p ≡ q). rw (same, hit) (omega (arith, sum, before, words)))
          (λ (ne : p ≡ q → ⊥). let s = l.sums p hp in rw (miss p ne) (omega (arith, s)))
          (cases_eq p q);
    }

-- so they tile their pages, where these have room
pub laid-whole : (m : Areas) (base : ℕ → ℕ) (heap : List ℕ) (size at : Name → ℕ) (names : ℕ → List Name) (moves : ℕ → Move) (count : ℕ) → LaidBy m base heap size at names moves count → ((p : ℕ) → p < m.pages → base p + brought m heap count moves p ≤ page_words m) → Tiles (page_words m) size (places_of m names at)
laid-whole m base heap size at names moves count l room =
    let none : List (List ℕ) = [] in
    let laid : LaidTo m 1 none heap size at names moves count = record {
      places = l.places;
      sums = λ p hp h. absurd (let z : 0 ≡ 1 = h in omega (arith, z));
      fits = λ p hp. let r = room p hp in let s = l.sums p hp in omega (arith, r, s);
    } in
    laid-tiles m 1 none heap size at names moves count laid
