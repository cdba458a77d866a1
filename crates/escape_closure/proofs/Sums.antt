-- The words of regions after the moves of an end, and tables in which a space has the same pages.
use Rattle.std.proofs.Common.{◌≡◌, ◌≢◌, ℕ, ◌+◌, ◌/◌, ◌≤◌, ◌<◌, Bool, true, false, cond, Option, List, [], ◌∷◌, length, get_or, zero, suc, refl, sym, ap, ◌∙◌, arith}
use Rattle.std.specs.Prelude.{◌==◌}
use Rattle.std.specs.List.{sum_by}
use Rattle.std.proofs.lemmas.Bool.{cases_eq, eq-eqb, ne_eqb}
use Rattle.std.proofs.lemmas.List.{get_or_default, same_lists}
use Rattle.std.proofs.lemmas.List.Sums.{sum_by-cons, sum_by_push}
use Rattle.std.proofs.Math.Logic.{⊎_elim}
use Rattle.object_layout.specs.declared.names.Name.{Name}
use Rattle.object_layout.specs.declared.TheConstants.{OBJECT_WORDS}
use Rattle.heap_words.specs.declared.map.Areas.{Areas}
use Rattle.heap_words.specs.Map.{page_words}
use Rattle.heap_words.specs.Contents.{Contents}
use Rattle.epoch_lattice.specs.declared.Space.{Space}
use Rattle.epoch_lattice.specs.declared.TheConstants.{MAX_DEPTH}
use Rattle.epoch_lattice.specs.Lattice.{IsValid, space_index}
use Rattle.yak_model.specs.Spaces.{SpaceState, innermost}
use Rattle.yak_model.specs.State.{IsClosed, Thing, object_of, view}
use Rattle.yak_model.specs.Placed.{HeapStands, Places, names_of, size_by, space_word, words_by}
use Rattle.yak_model.specs.Plans.{Move}
use Rattle.yak_model.specs.Stands.{IsWhole, pages_of, words_in, words_taken}
use Rattle.relocation.specs.Slidden.{names_after, table_of}
use Rattle.relocation.proofs.SlidLaid.{get-table_of, length-table_of}
use Rattle.escape_closure.specs.Targets.{IsEscaping}
use Rattle.escape_closure.specs.Ends.{region_word, words_into}
use Rattle.escape_closure.specs.Leaving.{EndMoves, objects_left}
use Rattle.escape_closure.proofs.Regrouped.{AreNamed, mover_of, own_page, place, stayer_of}

-- ---- sums over tables of lists

sum_alike : {X : Type 0} (f g : X → ℕ) (xs : List X) → ((k : ℕ) (d : X) → k < length xs → f (get_or xs k d) ≡ g (get_or xs k d)) → sum_by f xs ≡ sum_by g xs
sum_alike f g [] h = refl
sum_alike f g (x ∷ xs) h =
    let here : f x ≡ g x = h 0 x (omega arith) in
    let rest : sum_by f xs ≡ sum_by g xs = sum_alike f g xs (λ k d lt. h (suc k) d (omega arith)) in
    rw (sum_by-cons f x xs, sum_by-cons g x xs, here, rest) refl

sum_none : {X : Type 0} (f : X → ℕ) (xs : List X) → ((k : ℕ) (d : X) → k < length xs → f (get_or xs k d) ≡ 0) → sum_by f xs ≡ 0
sum_none f [] h = refl
sum_none f (x ∷ xs) h =
    let here : f x ≡ 0 = h 0 x (omega arith) in
    let rest : sum_by f xs ≡ 0 = sum_none f xs (λ k d lt. h (suc k) d (omega arith)) in
    rw (sum_by-cons f x xs, here, rest) (omega arith)

sum-table_of : {A : Type 0} (F : A → ℕ) (f : ℕ → A) (n : ℕ) → sum_by F (table_of f (suc n)) ≡ sum_by F (table_of f n) + F (f n)
unfolding table_of
sum-table_of F f n = sum_by_push F (table_of f n) (f n)

sum_same : {A : Type 0} (F F' : A → ℕ) (f f' : ℕ → A) (n : ℕ) → ((p : ℕ) → p < n → F' (f' p) ≡ F (f p)) → sum_by F' (table_of f' n) ≡ sum_by F (table_of f n)
unfolding table_of
sum_same F F' f f' zero h = refl
sum_same F F' f f' (suc n) h = rw (sum_by_push F' (table_of f' n) (f' n), sum_by_push F (table_of f n) (f n), sum_same F F' f f' n (λ p lt. h p (omega arith)), h n (omega arith)) refl

sum_one : {A : Type 0} (F : A → ℕ) (f f' : ℕ → A) (n q s : ℕ) → q < n → F (f' q) ≡ F (f q) + s → ((p : ℕ) → p ≢ q → F (f' p) ≡ F (f p)) → sum_by F (table_of f' n) ≡ sum_by F (table_of f n) + s
sum_one F f f' zero q s h more same = absurd (omega arith)
sum_one F f f' (suc n) q s h more same =
    let a = sum-table_of F f' n in
    let b = sum-table_of F f n in
    ⊎_elim
    (λ (e : n ≡ q).
    let rest = sum_same F F f f' n (λ p lt. same p (λ x. omega arith)) in
    let last : F (f' n) ≡ F (f n) + s = rw e more in
    omega (arith, a, b, rest, last))
    (λ (ne : n ≡ q → ⊥).
    let rest = sum_one F f f' n q s (omega arith) more same in
    let last = same n ne in
    omega (arith, a, b, rest, last))
    (cases_eq n q)

pages_as_table : (l : Places) (n : ℕ) → length l.pages ≡ n → l.pages ≡ table_of (names_of l) n
pages_as_table l n long = same_lists l.pages (table_of (names_of l) n) (long ∙ sym (length-table_of (names_of l) n)) (λ k d lt.
    let within : k < n = omega (arith, lt, long) in
    get_or_default l.pages k d [] lt ∙ sym (get-table_of (names_of l) n k d within))

-- ---- the words of what moves

pub words_into-none : (target : ℕ → Space) (size : ℕ → ℕ) (x : Space) (count : ℕ) → ((k : ℕ) → k < count → space_index (target k) ≢ space_index x) → words_into target size x count ≡ 0
words_into-none target size x zero h = refl
words_into-none target size x (suc k) h =
    let test : (space_index (target k) == space_index x) ≡ false = ne_eqb (space_index (target k)) (space_index x) (h k (omega arith)) in
    rw test (omega (arith, words_into-none target size x k (λ j lt. h j (omega arith))))

pub words_into-same : (target target' : ℕ → Space) (size : ℕ → ℕ) (x : Space) (count : ℕ) → ((k : ℕ) → k < count → target k ≡ target' k) → words_into target size x count ≡ words_into target' size x count
words_into-same target target' size x zero h = refl
words_into-same target target' size x (suc k) h =
    let last : target k ≡ target' k = h k (omega arith) in
    let rest = words_into-same target target' size x k (λ j lt. h j (omega arith)) in
    ap (λ i. i + cond (space_index (target k) == space_index x) (size k) 0) rest ∙ ap (λ (y : Space). words_into target' size x k + cond (space_index y == space_index x) (size k) 0) last

module _ (m : Areas) (s : SpaceState) (whole : IsWhole s) (closed : IsClosed (view s)) (l : Places) (t count : ℕ) (some : 1 ≤ t) (valid : IsValid MAX_DEPTH (innermost s.graph t)) (moves : ℕ → Move) (tight : Bool) (e : EndMoves s l t count moves tight) (was : Contents) (work : Name → ℕ) (h : HeapStands m was.table was.heap (object_of s) l work) (named : ℕ → Name) (name_is : AreNamed l count moves named) (escaping : (k : ℕ) → k < count → IsEscaping s t (named k)) (into : (k : ℕ) → k < count → (moves k).new / page_words m < m.pages) (x : Space) (other : space_index x ≢ space_index (innermost s.graph t)) where
  abbrev slid : ℕ
  slid = region_word s t

  abbrev left : Name → Option Thing
  left = objects_left s l t count moves

  abbrev was_in : List Name → ℕ
  was_in ns = sum_by (λ (n : Name). words_in x (object_of s n)) ns

  abbrev now_in : List Name → ℕ
  now_in ns = sum_by (λ (n : Name). words_in x (left n)) ns

  first_page : (p : ℕ) → p < m.pages → now_in (names_after m slid was.table (names_of l) 0 moves named p) ≡ was_in (names_of l p)
  unfolding names_after
  first_page p hp = ⊎_elim
      (λ (own : space_word was.table p ≡ slid).
      let test : (space_word was.table p == slid) ≡ true = eq-eqb (space_word was.table p) slid own in
      rw test (sym (sum_none (λ (n : Name). words_in x (object_of s n)) (names_of l p) (λ k d lt.
      let n : Name = get_or (names_of l p) k d in
      let at = place m s whole closed l t count some valid moves tight e was work h named name_is escaping n p k hp lt (get_or_default (names_of l p) k n d lt) in
      let w = h.whole n p k at in
      let home = own_page m s whole closed l t count some valid moves tight e was work h named name_is escaping n w.0 p k w.1 at own in
      let miss : (space_index w.0.home == space_index x) ≡ false = ne_eqb (space_index w.0.home) (space_index x) (λ q. other (sym q ∙ ap space_index home)) in
      ap (words_in x) w.1 ∙ ap (λ b. cond b (length w.0.fields + OBJECT_WORDS) 0) miss))))
      (λ (miss : space_word was.table p ≡ slid → ⊥).
      let test : (space_word was.table p == slid) ≡ false = ne_eqb (space_word was.table p) slid miss in
      rw test (sum_alike (λ (n : Name). words_in x (left n)) (λ (n : Name). words_in x (object_of s n)) (names_of l p) (λ k d lt.
      let n : Name = get_or (names_of l p) k d in
      let at = place m s whole closed l t count some valid moves tight e was work h named name_is escaping n p k hp lt (get_or_default (names_of l p) k n d lt) in
      let o = stayer_of m s whole closed l t count some valid moves tight e was work h named name_is escaping n p k at miss in
      ap (words_in x) (o.2 ∙ sym o.1))))
      (cases_eq (space_word was.table p) slid)

  more_page : (c : ℕ) → c < count → sum_by now_in (table_of (names_after m slid was.table (names_of l) (suc c) moves named) m.pages) ≡ sum_by now_in (table_of (names_after m slid was.table (names_of l) c moves named) m.pages) + words_in x (left (named c))
  unfolding names_after
  more_page c lt =
      let q : ℕ = (moves c).new / page_words m in
      let f : ℕ → List Name = names_after m slid was.table (names_of l) c moves named in
      let f' : ℕ → List Name = names_after m slid was.table (names_of l) (suc c) moves named in
      let hit : ((moves c).new / page_words m == q) ≡ true = eq-eqb q q refl in
      let more : now_in (f' q) ≡ now_in (f q) + words_in x (left (named c)) = rw hit (sum_by_push (λ (n : Name). words_in x (left n)) (f q) (named c)) in
      let same : (p : ℕ) → p ≢ q → now_in (f' p) ≡ now_in (f p) = λ p ne. (let miss : ((moves c).new / page_words m == p) ≡ false = ne_eqb ((moves c).new / page_words m) p (λ z. ne (sym z)) in rw miss refl) in
      sum_one now_in f f' m.pages q (words_in x (left (named c))) (into c lt) more same

  moved_words : (c : ℕ) → c < count → words_in x (left (named c)) ≡ cond (space_index (moves c).space == space_index x) (size_by (object_of s) (named c)) 0
  moved_words c lt =
      let o = mover_of m s whole closed l t count some valid moves tight e was work h named name_is escaping c lt in
      ap (words_in x) o.2 ∙ ap (λ (y : Option Thing). cond (space_index (moves c).space == space_index x) (words_by y) 0) (sym o.1)

  words_to : (c : ℕ) → c ≤ count → sum_by now_in (table_of (names_after m slid was.table (names_of l) c moves named) m.pages) ≡ words_taken l.pages (object_of s) x + words_into (λ k. (moves k).space) (λ k. size_by (object_of s) (named k)) x c
  words_to zero le =
      let first = sum_same was_in now_in (names_of l) (names_after m slid was.table (names_of l) 0 moves named) m.pages first_page in
      let table : sum_by was_in (table_of (names_of l) m.pages) ≡ words_taken l.pages (object_of s) x = ap (sum_by was_in) (sym (pages_as_table l m.pages h.count)) in
      omega (arith, first, table)
  words_to (suc c) le =
      let before = words_to c (omega arith) in
      let more = more_page c (omega arith) in
      let moved = moved_words c (omega arith) in
      omega (arith, before, more, moved)

  -- the words of another space are more by those that come to it
  pub words_left : words_taken (table_of (names_after m slid was.table (names_of l) count moves named) m.pages) left x ≡ words_taken l.pages (object_of s) x + words_into (λ k. (moves k).space) (λ k. size_by (object_of s) (named k)) x count
  words_left = words_to count (omega arith)

-- ---- the pages of a space in two tables

pub pages_alike : (x : Space) (table now : List (List ℕ)) → length now ≡ length table → ((p : ℕ) → p < length table → (space_word now p == space_index x + 1) ≡ (space_word table p == space_index x + 1)) → pages_of now x ≡ pages_of table x
pages_alike x [] [] long same = refl
pages_alike x [] (r ∷ rs) long same = absurd (omega (arith, long))
pages_alike x (r ∷ rs) [] long same = absurd (omega (arith, long))
pages_alike x (r ∷ rs) (q ∷ qs) long same =
    let first : (get_or q 0 0 == space_index x + 1) ≡ (get_or r 0 0 == space_index x + 1) = same 0 (omega arith) in
    let rest : pages_of qs x ≡ pages_of rs x = pages_alike x rs qs (omega (arith, long)) (λ p lt. same (suc p) (omega (arith, lt))) in
    let test : List ℕ → ℕ = λ (y : List ℕ). cond (get_or y 0 0 == space_index x + 1) 1 0 in
    let a : pages_of (q ∷ qs) x ≡ test q + pages_of qs x = sum_by-cons test q qs in
    let b : pages_of (r ∷ rs) x ≡ test r + pages_of rs x = sum_by-cons test r rs in
    let same_first : test q ≡ test r = ap (λ z. cond z 1 0) first in
    omega (arith, a, b, rest, same_first)
