use Rattle.std.proofs.Common.{◌≡◌, ◌≢◌, ◌⊎◌, ℕ, ◌+◌, ◌*◌, ◌/◌, ◌≤◌, ◌<◌, true, false, List, [], ◌∷◌, ◌++◌, take, length, get_or, zero, suc, refl, sym, ap, subst, ◌∙◌, arith, length-append, length-take, get_or-take}
use Rattle.std.proofs.lemmas.Bool.{cases_eq, cases_lt, cases_order, eq-eqb, ne_eqb}
use Rattle.std.proofs.lemmas.List.{get_or_append_left, get_or_at, take-append-le, take_at, take-take}
use Rattle.std.proofs.lemmas.List.Sums.{sum_by_push, sum_by_more_le}
use Rattle.std.proofs.Math.Logic.{⊎_elim}
use Rattle.std.specs.List.{sum_by}
use Rattle.std.specs.Prelude.{◌==◌}
use Rattle.object_layout.specs.declared.names.Name.{Name}
use Rattle.heap_words.specs.declared.map.Areas.{Areas}
use Rattle.heap_words.specs.Map.{page_words}
use Rattle.yak_model.specs.Placed.{Places, space_word, IsAt, Tiles}
use Rattle.yak_model.specs.Plans.{Move}
use Rattle.relocation.specs.Moves.{size_at}
use Rattle.relocation.specs.Slide.{IsPageOf, brought}
use Rattle.relocation.specs.Moves.{words_moved}
use Rattle.relocation.specs.Slidden.{table_of, names_after}

-- up to the end of an object is no more than up to the start of a later one, or to the end of all
ends_before : (size : Name → ℕ) (ns : List Name) (k j : ℕ) (x : Name) → k < j → j ≤ length ns → get_or ns k x ≡ x → sum_by size (take k ns) + size x ≤ sum_by size (take j ns)
ends_before size ns k j x h long e =
    let within : k < length (take j ns) = simp length-take (omega arith) in
    let le : k ≤ j = omega arith in
    let s = sum_by_more_le size (take j ns) k x within in
    let s' : sum_by size (take k ns) + size (get_or ns k x) ≤ sum_by size (take j ns) = rw (take-take k j ns le, get_or-take j ns k x h) at s in
    rw e at s'

ends_within : (size : Name → ℕ) (ns : List Name) (k : ℕ) (x : Name) → k < length ns → get_or ns k x ≡ x → sum_by size (take k ns) + size x ≤ sum_by size ns
ends_within size ns k x h e = rw e at (sum_by_more_le size ns k x h)

pub length-table_of : {A : Type 0} (f : ℕ → A) (n : ℕ) → length (table_of f n) ≡ n
unfolding table_of
length-table_of f zero = refl
length-table_of f (suc n) = omega (arith, length-append (table_of f n) (f n ∷ []), length-table_of f n)

pub get-table_of : {A : Type 0} (f : ℕ → A) (n p : ℕ) (d : A) → p < n → get_or (table_of f n) p d ≡ f p
unfolding table_of
get-table_of f zero p d h = absurd (omega arith)
get-table_of f (suc n) p d h = ⊎_elim
    (λ (e : p ≡ n). get_or_at (table_of f n) (f n) [] d p (length-table_of f n ∙ sym e) ∙ ap f (sym e))
    (λ (ne : p ≡ n → ⊥).
    let lt : p < n = omega arith in
    let long : p < length (table_of f n) = rw (length-table_of f n) lt in
    get_or_append_left (table_of f n) (f n ∷ []) d p long ∙ get-table_of f n p d lt)
    (cases_eq p n)

-- the objects of each page lie one after another
pub record LaidTo (m : Areas) (slid : ℕ) (table : List (List ℕ)) (heap : List ℕ) (size at : Name → ℕ) (names : ℕ → List Name) (moves : ℕ → Move) (count : ℕ) : Type 0 where
  pub places : (p k : ℕ) (n : Name) → p < m.pages → k < length (names p) → get_or (names p) k n ≡ n → (at n ≡ page_words m * p + sum_by size (take k (names p))) × (3 ≤ size n)
  pub sums : (p : ℕ) → p < m.pages → IsPageOf slid table p → sum_by size (names p) ≡ brought m heap count moves p
  pub fits : (p : ℕ) → p < m.pages → sum_by size (names p) ≤ page_words m

pub laid-more : (m : Areas) (slid : ℕ) (table : List (List ℕ)) (heap : List ℕ) (size at : Name → ℕ) (old : ℕ → List Name) (moves : ℕ → Move) (named : ℕ → Name) (c q : ℕ) → LaidTo m slid table heap size at (names_after m slid table old c moves named) moves c → (moves c).new / page_words m ≡ q → q < m.pages → IsPageOf slid table q → at (named c) ≡ (moves c).new → (moves c).new ≡ page_words m * q + brought m heap c moves q → size (named c) ≡ size_at heap (moves c).old → (moves c).new + size_at heap (moves c).old ≤ page_words m * q + page_words m → LaidTo m slid table heap size at (names_after m slid table old (suc c) moves named) moves (suc c)
unfolding names_after brought
laid-more m slid table heap size at old moves named c q l page within control place tight words room =
    let names : ℕ → List Name = names_after m slid table old c moves named in
    let hit : ((moves c).new / page_words m == q) ≡ true = eq-eqb ((moves c).new / page_words m) q page in
    let miss : (p : ℕ) → p ≢ q → ((moves c).new / page_words m == p) ≡ false = λ p ne. ne_eqb ((moves c).new / page_words m) p (λ e. ne (sym e ∙ page)) in
    let sum : sum_by size (names q ++ named c ∷ []) ≡ sum_by size (names q) + size (named c) = sum_by_push size (names q) (named c) in
    let before : sum_by size (names q) ≡ brought m heap c moves q = l.sums q within control in
    record {
      places = λ p k n hp lt e. ⊎_elim
          (λ (same : p ≡ q).
          let test : ((moves c).new / page_words m == p) ≡ true = rw same hit in
          let long : k < length (names p ++ named c ∷ []) = rw test at lt in
          let read : get_or (names p ++ named c ∷ []) k n ≡ n = rw test at e in
          rw test (⊎_elim
          (λ (less : k < length (names p)).
          let r : get_or (names p) k n ≡ n = sym (get_or_append_left (names p) (named c ∷ []) n k less) ∙ read in
          let front : take k (names p ++ named c ∷ []) ≡ take k (names p) = take-append-le k (names p) (named c ∷ []) (omega arith) in
          rw front (l.places p k n hp less r))
          (λ (le : length (names p) ≤ k).
          let last : length (names p) ≡ k = omega (arith, length-append (names p) (named c ∷ [])) in
          let new : n ≡ named c = sym read ∙ get_or_at (names p) (named c) [] n k last in
          let front : take k (names p ++ named c ∷ []) ≡ names p = take_at (names p) (named c ∷ []) k last in
          let total : sum_by size (names p) ≡ brought m heap c moves q = ap (λ x. sum_by size (names x)) same ∙ before in
          rw (front, new, total, same) (place ∙ tight, (let three : 3 ≤ size (named c) = omega (arith, words) in three)))
          (cases_lt k (length (names p)))))
          (λ (ne : p ≡ q → ⊥).
          let lt' : k < length (names p) = rw (miss p ne) at lt in
          let e' : get_or (names p) k n ≡ n = rw (miss p ne) at e in
          rw (miss p ne) (l.places p k n hp lt' e'))
          (cases_eq p q);
      sums = λ p hp hc. ⊎_elim
          (λ (same : p ≡ q). rw (same, hit) (omega (arith, sum, before, words)))
          (λ (ne : p ≡ q → ⊥). let s = l.sums p hp hc in rw (miss p ne) (omega (arith, s)))
          (cases_eq p q);
      fits = λ p hp. ⊎_elim
          (λ (same : p ≡ q). rw (same, hit) (omega (arith, sum, before, words, tight, room)))
          (λ (ne : p ≡ q → ⊥). rw (miss p ne) (l.fits p hp))
          (cases_eq p q);
    }

pub laid-none : (m : Areas) (slid : ℕ) (table : List (List ℕ)) (heap : List ℕ) (size at : Name → ℕ) (old : ℕ → List Name) (moves : ℕ → Move) (named : ℕ → Name) → ((p k : ℕ) (n : Name) → p < m.pages → (IsPageOf slid table p → ⊥) → k < length (old p) → get_or (old p) k n ≡ n → (at n ≡ page_words m * p + sum_by size (take k (old p))) × (3 ≤ size n)) → ((p : ℕ) → p < m.pages → (IsPageOf slid table p → ⊥) → sum_by size (old p) ≤ page_words m) → LaidTo m slid table heap size at (names_after m slid table old 0 moves named) moves 0
unfolding names_after brought
laid-none m slid table heap size at old moves named places fits =
    let hit : (p : ℕ) → IsPageOf slid table p → (space_word table p == slid) ≡ true = λ p h. eq-eqb (space_word table p) slid h in
    let miss : (p : ℕ) → (IsPageOf slid table p → ⊥) → (space_word table p == slid) ≡ false = λ p h. ne_eqb (space_word table p) slid h in
    record {
      places = λ p k n hp lt e. ⊎_elim
          (λ (c : space_word table p ≡ slid). absurd (let none : k < 0 = rw (hit p c) at lt in omega arith))
          (λ (o : space_word table p ≡ slid → ⊥).
          let lt' : k < length (old p) = rw (miss p o) at lt in
          let e' : get_or (old p) k n ≡ n = rw (miss p o) at e in
          rw (miss p o) (places p k n hp o lt' e'))
          (cases_eq (space_word table p) slid);
      sums = λ p hp c. rw (hit p c) refl;
      fits = λ p hp. ⊎_elim
          (λ (c : space_word table p ≡ slid). rw (hit p c) (omega arith))
          (λ (o : space_word table p ≡ slid → ⊥). rw (miss p o) (fits p hp o))
          (cases_eq (space_word table p) slid);
    }

-- the places of objects that are laid so
abbrev pub places_of : (m : Areas) → (ℕ → List Name) → (Name → ℕ) → Places
places_of m names at = record { pages = table_of names m.pages; at = at }

pub laid-tiles : (m : Areas) (slid : ℕ) (table : List (List ℕ)) (heap : List ℕ) (size at : Name → ℕ) (names : ℕ → List Name) (moves : ℕ → Move) (count : ℕ) → LaidTo m slid table heap size at names moves count → Tiles (page_words m) size (places_of m names at)
laid-tiles m slid table heap size at names moves count l =
    let row : (p : ℕ) → p < length (table_of names m.pages) → (p < m.pages) × (get_or (table_of names m.pages) p [] ≡ names p) = λ p h. (let hp : p < m.pages = rw (length-table_of names m.pages) at h in (hp, get-table_of names m.pages p [] hp)) in
    let here : (n : Name) (p k : ℕ) → IsAt (places_of m names at) n p k → (p < m.pages) × (k < length (names p)) × (get_or (names p) k n ≡ n) = λ n p k h. (let r = row p h.page in (r.0, subst (λ (ns : List Name). k < length ns) r.1 h.place, subst (λ (ns : List Name). get_or ns k n ≡ n) r.1 h.name)) in
    record {
      fits = λ p h. let r = row p h in rw r.1 (l.fits p r.0);
      places = λ n p k h. let r = row p h.page in let a = here n p k h in rw r.1 (l.places p k n a.0 a.1 a.2).0;
      once = λ n p k q j hp hq.
          let a = here n p k hp in
          let b = here n q j hq in
          let x = l.places p k n a.0 a.1 a.2 in
          let y = l.places q j n b.0 b.1 b.2 in
          let endx = ends_within size (names p) k n a.1 a.2 in
          let endy = ends_within size (names q) j n b.1 b.2 in
          let fitx = l.fits p a.0 in
          let fity = l.fits q b.0 in
          let page : p ≡ q = omega (arith, x.0, x.1, y.0, y.1, endx, endy, fitx, fity) in
          let y' : at n ≡ page_words m * p + sum_by size (take j (names p)) = rw page y.0 in
          let lj : j < length (names p) = rw page b.1 in
          let nj : get_or (names p) j n ≡ n = rw page b.2 in (
            page,
            ⊎_elim
                (λ (e : k ≡ j). e)
                (λ (other : (k < j) ⊎ (j < k)). ⊎_elim
                (λ (less : k < j). absurd (let s = ends_before size (names p) k j n less (omega arith) a.2 in omega (arith, s, x.0, x.1, y')))
                (λ (more : j < k). absurd (let s = ends_before size (names p) j k n more (omega (arith, a.1)) nj in omega (arith, s, x.0, x.1, y')))
                other)
                (cases_order k j),
          );
    }

-- the words of all pages, where one page has more
sum-table_of : {A : Type 0} (F : A → ℕ) (f : ℕ → A) (n : ℕ) → sum_by F (table_of f (suc n)) ≡ sum_by F (table_of f n) + F (f n)
unfolding table_of
sum-table_of F f n = sum_by_push F (table_of f n) (f n)

sum-same : {A : Type 0} (F : A → ℕ) (f f' : ℕ → A) (n : ℕ) → ((p : ℕ) → p < n → F (f' p) ≡ F (f p)) → sum_by F (table_of f' n) ≡ sum_by F (table_of f n)
unfolding table_of
sum-same F f f' zero h = refl
sum-same F f f' (suc n) h = rw (sum_by_push F (table_of f' n) (f' n), sum_by_push F (table_of f n) (f n), sum-same F f f' n (λ p lt. h p (omega arith)), h n (omega arith)) refl

sum-one : {A : Type 0} (F : A → ℕ) (f f' : ℕ → A) (n q s : ℕ) → q < n → F (f' q) ≡ F (f q) + s → ((p : ℕ) → p ≢ q → F (f' p) ≡ F (f p)) → sum_by F (table_of f' n) ≡ sum_by F (table_of f n) + s
sum-one F f f' zero q s h more same = absurd (omega arith)
sum-one F f f' (suc n) q s h more same =
    let a = sum-table_of F f' n in
    let b = sum-table_of F f n in
    ⊎_elim
    (λ (e : n ≡ q).
    let rest = sum-same F f f' n (λ p lt. same p (λ x. omega arith)) in
    let last : F (f' n) ≡ F (f n) + s = rw e more in
    omega (arith, a, b, rest, last))
    (λ (ne : n ≡ q → ⊥).
    let rest = sum-one F f f' n q s (omega arith) more same in
    let last = same n ne in
    omega (arith, a, b, rest, last))
    (cases_eq n q)

-- the words that a slide has brought are those of the control pages
pub words-more : (m : Areas) (slid : ℕ) (table : List (List ℕ)) (heap : List ℕ) (g : Name → ℕ) (old : ℕ → List Name) (moves : ℕ → Move) (named : ℕ → Name) (c q : ℕ) → (moves c).new / page_words m ≡ q → q < m.pages → g (named c) ≡ size_at heap (moves c).old → sum_by (sum_by g) (table_of (names_after m slid table old c moves named) m.pages) ≡ words_moved heap c moves → sum_by (sum_by g) (table_of (names_after m slid table old (suc c) moves named) m.pages) ≡ words_moved heap (suc c) moves
unfolding names_after words_moved
words-more m slid table heap g old moves named c q page within words before =
    let f : ℕ → List Name = names_after m slid table old c moves named in
    let f' : ℕ → List Name = names_after m slid table old (suc c) moves named in
    let hit : ((moves c).new / page_words m == q) ≡ true = eq-eqb ((moves c).new / page_words m) q page in
    let more : sum_by g (f' q) ≡ sum_by g (f q) + g (named c) = rw hit (sum_by_push g (f q) (named c)) in
    let same : (p : ℕ) → p ≢ q → sum_by g (f' p) ≡ sum_by g (f p) = λ p ne. (let miss : ((moves c).new / page_words m == p) ≡ false = ne_eqb ((moves c).new / page_words m) p (λ e. ne (sym e ∙ page)) in rw miss refl) in
    sum-one (sum_by g) f f' m.pages q (g (named c)) within more same ∙ ap (λ x. x + g (named c)) before ∙ ap (λ x. words_moved heap c moves + x) words

none-here : (m : Areas) (slid : ℕ) (table : List (List ℕ)) (old : ℕ → List Name) (moves : ℕ → Move) (named : ℕ → Name) (g : Name → ℕ) (p : ℕ) → ((IsPageOf slid table p → ⊥) → sum_by g (old p) ≡ 0) → sum_by g (names_after m slid table old 0 moves named p) ≡ 0
unfolding names_after
none-here m slid table old moves named g p regions = ⊎_elim
    (λ (c : space_word table p ≡ slid). let hit : (space_word table p == slid) ≡ true = eq-eqb (space_word table p) slid c in rw hit refl)
    (λ (o : space_word table p ≡ slid → ⊥). let miss : (space_word table p == slid) ≡ false = ne_eqb (space_word table p) slid o in rw miss (regions o))
    (cases_eq (space_word table p) slid)

all-none : (g : Name → ℕ) (f : ℕ → List Name) (n : ℕ) → ((p : ℕ) → p < n → sum_by g (f p) ≡ 0) → sum_by (sum_by g) (table_of f n) ≡ 0
unfolding table_of
all-none g f zero h = refl
all-none g f (suc n) h = rw (sum_by_push (sum_by g) (table_of f n) (f n), all-none g f n (λ p lt. h p (omega arith)), h n (omega arith)) (omega arith)

pub words-none : (m : Areas) (slid : ℕ) (table : List (List ℕ)) (heap : List ℕ) (g : Name → ℕ) (old : ℕ → List Name) (moves : ℕ → Move) (named : ℕ → Name) → ((p : ℕ) → p < m.pages → (IsPageOf slid table p → ⊥) → sum_by g (old p) ≡ 0) → sum_by (sum_by g) (table_of (names_after m slid table old 0 moves named) m.pages) ≡ words_moved heap 0 moves
unfolding words_moved
words-none m slid table heap g old moves named regions = all-none g (names_after m slid table old 0 moves named) m.pages (λ p lt. none-here m slid table old moves named g p (regions p lt))
