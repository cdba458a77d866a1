-- Adding up counts of words that stand next to each other.
use Rattle.std.proofs.Common.{zero, suc, ◌≡◌, ◌≢◌, inl, inr, ℕ, ◌+◌, ◌<◌, ◌≤◌, ◌||◌, Bool, true, false, true≢false, cond, List, [], ◌∷◌, ◌++◌, AllPairs, length, get_or, set, refl, sym, ap, ◌∙◌, subst, arith, Option, None, Some, is_some, is_eq, length-append, add-zero}
use Rattle.std.specs.FinMap.{find}
use Rattle.std.specs.Cmp.{Equal-is}
use Rattle.std.specs.Ordering.{eq_by_cmp, is_lt, ordering_reverse}
use Rattle.std.specs.declared.cmp.Ordering.TheVariants.{Less, Equal, Greater}
use Rattle.std.proofs.lemmas.Cmp.{nat_list_cmp_total, tied_itself}
use Rattle.std.proofs.lemmas.List.Folds.{list_any-append}
use Rattle.std.proofs.lemmas.List.Sums.{sum_by-append, sum_by-cons}
use Rattle.yak_model.specs.Texts.{WordCounts, word_cmp}
use Rattle.group_jobs.specs.Counts.{AddsLast, AreParts, Ascends, has_count, sum_for}
use Rattle.heap_tables.specs.Entries.{AreEntries}
use Rattle.group_jobs.proofs.Sorting.{same_word}

abbrev pub Pair : Type 0
Pair = List ℕ × ℕ

-- ---- the last of a list

-- the last place of a list
pub last_of : {A : Type 0} (list : List A) (k : ℕ) (d : A) → k + 1 ≡ length list → (front : List A) × (list ≡ front ++ get_or list k d ∷ []) × ((x : A) → set list k x ≡ front ++ x ∷ [])
last_of [] k d size = absurd (omega (arith, size))
last_of (x ∷ []) zero d size = ([], refl, λ y. refl)
last_of (x ∷ []) (suc k) d size = absurd (omega (arith, size))
last_of (x ∷ y ∷ list) zero d size = absurd (omega (arith, size))
last_of (x ∷ y ∷ list) (suc k) d size =
    let rest = last_of (y ∷ list) k d (omega (arith, size)) in
    (x ∷ rest.0, ap (λ l. x ∷ l) rest.1, λ z. ap (λ l. x ∷ l) (rest.2 z))

pub last_same : {A : Type 0} (list front : List A) (x d : A) (k : ℕ) → k + 1 ≡ length list → list ≡ front ++ x ∷ [] → get_or list k d ≡ x
last_same list front x d k size e = ap (λ l. get_or l k d) e ∙ at front k (omega (arith, size, ap length e, length-append front (x ∷ [])))
  where
    at : (ys : List _) (j : ℕ) → j ≡ length ys → get_or (ys ++ x ∷ []) j d ≡ x
    at [] zero same = refl
    at [] (suc j) same = absurd (omega (arith, same))
    at (y ∷ ys) zero same = absurd (omega (arith, same))
    at (y ∷ ys) (suc j) same = at ys j (omega (arith, same))

-- two words that tie
pub tied : (one other : List ℕ) → is_eq (word_cmp one other) ≡ true → one ≡ other
tied one other tie = same_word one other ((Equal-is (word_cmp one other)).0 tie)

pub ties_itself : (word : List ℕ) → eq_by_cmp word_cmp word word ≡ true
ties_itself word = ap is_eq (tied_itself nat_list_cmp_total word)

-- the last of a list is raised
pub raised_last : (sums : List Pair) (counted was now : Pair) (k : ℕ) (d : Pair) → k + 1 ≡ length sums → get_or sums k d ≡ was → was.0 ≡ counted.0 → now ≡ (was.0, was.1 + counted.1) → AddsLast counted sums (set sums k now)
raised_last sums counted was now k d size at same is =
    let last = last_of sums k d size in
    inl (last.0, was.1, last.1 ∙ (λ i. last.0 ++ (same_pair i) ∷ []), last.2 now ∙ (λ i. last.0 ++ (now_pair i) ∷ []))
  where
    same_pair : get_or sums k d ≡ (counted.0, was.1)
    same_pair = at ∙ (λ i. (same i, was.1))

    now_pair : now ≡ (counted.0, was.1 + counted.1)
    now_pair = is ∙ (λ i. (same i, was.1 + counted.1))

-- one is put behind a list whose last is of another word
pub behind_other : (sums : List Pair) (counted : Pair) (k : ℕ) (d : Pair) → k + 1 ≡ length sums → (get_or sums k d).0 ≢ counted.0 → (front : List Pair) (n : ℕ) → sums ≢ front ++ (counted.0, n) ∷ []
behind_other sums counted k d size other front n e = other (ap (λ (p : Pair). p.0) (last_same sums front (counted.0, n) d k size e))

pub behind_none : (sums : List Pair) (counted : Pair) → length sums ≡ 0 → (front : List Pair) (n : ℕ) → sums ≢ front ++ (counted.0, n) ∷ []
behind_none sums counted none front n e = omega (arith, none, ap length e, length-append front ((counted.0, n) ∷ []))

-- ---- what a list tells of a word

abbrev pub told_for : List Pair → List ℕ → Option ℕ
told_for list word = cond (has_count list word) (Some (sum_for list word)) None

sum_push : (list : List Pair) (e : Pair) (word : List ℕ) → sum_for (list ++ e ∷ []) word ≡ sum_for list word + cond (eq_by_cmp word_cmp word e.0) e.1 0
sum_push list e word =
    let f : Pair → ℕ = λ (x : Pair). cond (eq_by_cmp word_cmp word x.0) x.1 0 in
    let a = sum_by-append f list (e ∷ []) in
    let b = sum_by-cons f e [] in
    omega arith

or_false : (b : Bool) → (b || false) ≡ b
or_false true = refl
or_false false = refl

or_true : (b : Bool) → (b || true) ≡ true
or_true true = refl
or_true false = refl

has_push : (list : List Pair) (e : Pair) (word : List ℕ) → has_count (list ++ e ∷ []) word ≡ (has_count list word || eq_by_cmp word_cmp word e.0)
has_push list e word =
    list_any-append (λ (x : Pair). eq_by_cmp word_cmp word x.0) list (e ∷ []) ∙ ap (λ b. has_count list word || b) (or_false (eq_by_cmp word_cmp word e.0))

-- a word that has no count has the sum 0
pub none_sum : (list : List Pair) (word : List ℕ) → has_count list word ≡ false → sum_for list word ≡ 0
none_sum [] word none = refl
none_sum (e ∷ list) word none =
    elim (eq_by_cmp word_cmp word e.0) as (λ b. eq_by_cmp word_cmp word e.0 ≡ b → (b || has_count list word) ≡ false → sum_for (e ∷ list) word ≡ 0) [
      | true ↦ λ _ is. absurd (true≢false is)
      | false ↦ λ other rest.
          let c = sum_by-cons (λ (x : Pair). cond (eq_by_cmp word_cmp word x.0) x.1 0) e list in
          let z = ap (λ (b : Bool). cond {A = ℕ} b e.1 0) other in
          let r = none_sum list word rest in
          omega arith
    ] refl none

-- what one more tells
told_same : (list : List Pair) (e : Pair) (word : List ℕ) → eq_by_cmp word_cmp word e.0 ≡ true → told_for (list ++ e ∷ []) word ≡ Some (sum_for list word + e.1)
told_same list e word is =
    (λ i. cond ((has_push list e word ∙ ap (λ b. has_count list word || b) is ∙ or_true (has_count list word)) i) (Some ((sum_push list e word ∙ ap (λ (b : Bool). sum_for list word + cond b e.1 0) is) i)) None)

told_other : (list : List Pair) (e : Pair) (word : List ℕ) → eq_by_cmp word_cmp word e.0 ≡ false → told_for (list ++ e ∷ []) word ≡ told_for list word
told_other list e word other =
    (λ i. cond ((has_push list e word ∙ ap (λ b. has_count list word || b) other ∙ or_false (has_count list word)) i) (Some ((sum_push list e word ∙ ap (λ (b : Bool). sum_for list word + cond b e.1 0) other ∙ add-zero (sum_for list word)) i)) None)

-- ---- looking a word up
find_front : (list more : List Pair) (word : List ℕ) (n : ℕ) → find word_cmp word list ≡ Some n → find word_cmp word (list ++ more) ≡ Some n
find_front [] more word n e = cc
find_front (x ∷ list) more word n e =
    elim (eq_by_cmp word_cmp word x.0) as (λ b. cond b (Some x.1) (find word_cmp word list) ≡ Some n → cond b (Some x.1) (find word_cmp word (list ++ more)) ≡ Some n) [
      | true ↦ λ is. is
      | false ↦ λ is. find_front list more word n is
    ] e

find_back : (list more : List Pair) (word : List ℕ) → find word_cmp word list ≡ None → find word_cmp word (list ++ more) ≡ find word_cmp word more
find_back [] more word e = refl
find_back (x ∷ list) more word e =
    elim (eq_by_cmp word_cmp word x.0) as (λ b. cond b (Some x.1) (find word_cmp word list) ≡ None → cond b (Some x.1) (find word_cmp word (list ++ more)) ≡ find word_cmp word more) [
      | true ↦ λ is. absurd (true≢false (ap is_some is))
      | false ↦ λ is. find_back list more word is
    ] e

-- another word behind the list
find_other : (list : List Pair) (e : Pair) (word : List ℕ) → eq_by_cmp word_cmp word e.0 ≡ false → find word_cmp word (list ++ e ∷ []) ≡ find word_cmp word list
find_other list e word other = by (find word_cmp word list) refl
  where
    by : (o : Option ℕ) → find word_cmp word list ≡ o → find word_cmp word (list ++ e ∷ []) ≡ find word_cmp word list
    by None is = find_back list (e ∷ []) word is ∙ ap (λ (b : Bool). cond b (Some e.1) None) other ∙ sym is
    by (Some n) is = find_front list (e ∷ []) word n is ∙ sym is

-- ---- words once

abbrev pub Once : List Pair → Type 0
Once list = AllPairs (λ (one other : Pair). one.0 ≢ other.0) list

-- No entry is of the word.
abbrev pub Lacks : List ℕ → List Pair → Type 0
Lacks word [] = Unit {0}
Lacks word (e ∷ list) = (e.0 ≢ word) × Lacks word list

lacking : (word : List ℕ) (list : List Pair) → find word_cmp word list ≡ None → Lacks word list
lacking word [] none = tt
lacking word (e ∷ list) none =
    elim (eq_by_cmp word_cmp word e.0) as (λ b. eq_by_cmp word_cmp word e.0 ≡ b → cond b (Some e.1) (find word_cmp word list) ≡ None → Lacks word (e ∷ list)) [
      | true ↦ λ _ is. absurd (true≢false (ap is_some is))
      | false ↦ λ other is. ((λ same. true≢false (sym (ties_itself word) ∙ ap (eq_by_cmp word_cmp word) (sym same) ∙ other)), lacking word list is)
    ] refl none

pub found_none : (word : List ℕ) (list : List Pair) → Lacks word list → find word_cmp word list ≡ None
found_none word [] lacks = refl
found_none word (e ∷ list) lacks =
    elim (eq_by_cmp word_cmp word e.0) as (λ b. eq_by_cmp word_cmp word e.0 ≡ b → cond b (Some e.1) (find word_cmp word list) ≡ None) [
      | true ↦ λ tie. absurd (lacks.0 (sym (tied word e.0 tie)))
      | false ↦ λ _. found_none word list lacks.1
    ] refl

lacks_at : (word : List ℕ) (list : List Pair) (k : ℕ) (d : Pair) → k < length list → Lacks word list → (get_or list k d).0 ≢ word
lacks_at word [] k d lt lacks = absurd (omega (arith, lt))
lacks_at word (e ∷ list) zero d lt lacks = lacks.0
lacks_at word (e ∷ list) (suc k) d lt lacks = lacks_at word list k d (omega (arith, lt)) lacks.1

pub once_tail : (e : Pair) (list : List Pair) → Once (e ∷ list) → Once list
once_tail e list once i j d less below = once (suc i) (suc j) d (omega (arith, less)) (omega (arith, below))

once_cons : (e : Pair) (list : List Pair) → Lacks e.0 list → Once list → Once (e ∷ list)
once_cons e list lacks once zero zero d less below = absurd (omega (arith, less))
once_cons e list lacks once zero (suc j) d less below = λ same. lacks_at e.0 list j d (omega (arith, below)) lacks (sym same)
once_cons e list lacks once (suc i) zero d less below = absurd (omega (arith, less))
once_cons e list lacks once (suc i) (suc j) d less below = once i j d (omega (arith, less)) (omega (arith, below))

pub lacks_from : (e : Pair) (list : List Pair) → Once (e ∷ list) → Lacks e.0 list
lacks_from e list once = all list (λ k d below. λ same. once 0 (suc k) d (omega arith) (omega (arith, below)) (sym same))
  where
    all : (l : List Pair) → ((k : ℕ) (d : Pair) → k < length l → (get_or l k d).0 ≢ e.0) → Lacks e.0 l
    all [] h = tt
    all (x ∷ l) h = (h 0 x (omega arith), all l (λ k d below. h (suc k) d (omega (arith, below))))

lacks_push : (word : List ℕ) (list : List Pair) (e : Pair) → Lacks word list → e.0 ≢ word → Lacks word (list ++ e ∷ [])
lacks_push word [] e lacks other = (other, tt)
lacks_push word (x ∷ list) e lacks other = (lacks.0, lacks_push word list e lacks.1 other)

lacks_front : (word : List ℕ) (list more : List Pair) → Lacks word (list ++ more) → Lacks word list
lacks_front word [] more lacks = tt
lacks_front word (x ∷ list) more lacks = (lacks.0, lacks_front word list more lacks.1)

lacks_last : (word : List ℕ) (list : List Pair) (e : Pair) → Lacks word (list ++ e ∷ []) → e.0 ≢ word
lacks_last word [] e lacks = lacks.0
lacks_last word (x ∷ list) e lacks = lacks_last word list e lacks.1

-- another word more
once_push : (list : List Pair) (e : Pair) → Once list → Lacks e.0 list → Once (list ++ e ∷ [])
once_push [] e once lacks = once_cons e [] tt once
once_push (x ∷ list) e once lacks =
    once_cons x (list ++ e ∷ []) (lacks_push x.0 list e (lacks_from x list once) (λ same. lacks.0 (sym same))) (once_push list e (once_tail x list once) lacks.1)

-- the last word isn't in front
once_last : (list : List Pair) (e : Pair) → Once (list ++ e ∷ []) → Once list × Lacks e.0 list
once_last [] e once = ((λ i j d less below. absurd (omega (arith, below))), tt)
once_last (x ∷ list) e once =
    let rest = once_last list e (once_tail x (list ++ e ∷ []) once) in
    let lacks = lacks_from x (list ++ e ∷ []) once in
    (once_cons x list (lacks_front x.0 list (e ∷ []) lacks) rest.0, ((λ same. lacks_last x.0 list e lacks (sym same)), rest.1))

-- ---- the sums so far

-- The sums tell of each word what the counts that were added tell, and their last is of the last word.
pub record SumsUp (passed sums : List Pair) : Type 0 where
  pub once : AllPairs (λ (one other : Pair). one.0 ≢ other.0) sums
  pub found : (word : List ℕ) → find word_cmp word sums ≡ told_for passed word
  pub last : (former : List Pair) (e : Pair) → passed ≡ former ++ e ∷ [] → (front : List Pair) × (n : ℕ) × (sums ≡ front ++ (e.0, n) ∷ [])

pub no_sums : SumsUp [] []
no_sums = record {
  once = λ i j d less below. absurd (omega (arith, below));
  found = λ word. refl;
  last = λ former e is. absurd (none_here former e is);
}
  where
    none_here : (former : List Pair) (e : Pair) → [] ≡ former ++ e ∷ [] → ⊥
    none_here [] e is = cc
    none_here (x ∷ former) e is = cc

push_last : (one other : List Pair) (a b : Pair) → one ++ a ∷ [] ≡ other ++ b ∷ [] → a ≡ b
push_last one other a b e =
    sym (last_same (one ++ a ∷ []) one a a (length one) (sym (length-append one (a ∷ []))) refl)
    ∙ last_same (one ++ a ∷ []) other b a (length one) (sym (length-append one (a ∷ []))) e

module _ (passed sums : List Pair) (x : Pair) (up : SumsUp passed sums) where
  -- the sum that the last has
  pub sum_last : (front : List Pair) (n : ℕ) → sums ≡ front ++ (x.0, n) ∷ [] → (Lacks x.0 front) × (n ≡ sum_for passed x.0)
  sum_last front n is = (lacks, by (has_count passed x.0) refl)
    where
      lacks : Lacks x.0 front
      lacks = (once_last front (x.0, n) (subst Once is up.once)).1

      here : find word_cmp x.0 sums ≡ Some n
      here = ap (find word_cmp x.0) is ∙ find_back front ((x.0, n) ∷ []) x.0 (found_none x.0 front lacks) ∙ ap (λ (b : Bool). cond b (Some n) None) (ties_itself x.0)

      by : (b : Bool) → has_count passed x.0 ≡ b → n ≡ sum_for passed x.0
      by true has = same (sym here ∙ up.found x.0 ∙ ap (λ (b : Bool). cond b (Some (sum_for passed x.0)) None) has)
        where
          same : Some n ≡ Some (sum_for passed x.0) → n ≡ sum_for passed x.0
          same e = cc
      by false none = absurd (true≢false (ap is_some (sym here ∙ up.found x.0 ∙ ap (λ (b : Bool). cond b (Some (sum_for passed x.0)) None) none)))

  raised : (front : List Pair) (n : ℕ) (after : List Pair) → sums ≡ front ++ (x.0, n) ∷ [] → after ≡ front ++ (x.0, n + x.1) ∷ [] → SumsUp (passed ++ x ∷ []) after
  raised front n after is now =
      let old = sum_last front n is in
      let apart = once_last front (x.0, n) (subst Once is up.once) in
      record {
        once = subst Once (sym now) (once_push front (x.0, n + x.1) apart.0 apart.1);
        found = λ word. elim (eq_by_cmp word_cmp word x.0) as (λ b. eq_by_cmp word_cmp word x.0 ≡ b → find word_cmp word after ≡ told_for (passed ++ x ∷ []) word) [
          | true ↦ λ tie.
              let same : word ≡ x.0 = tied word x.0 tie in
              ap (find word_cmp word) now ∙ find_back front ((x.0, n + x.1) ∷ []) word (found_none word front (subst (λ w. Lacks w front) (sym same) old.0)) ∙ ap (λ (b : Bool). cond b (Some (n + x.1)) None) tie
              ∙ ap (λ k. Some (k + x.1)) (old.1 ∙ ap (sum_for passed) (sym same)) ∙ sym (told_same passed x word tie)
          | false ↦ λ other.
              ap (find word_cmp word) now ∙ find_other front (x.0, n + x.1) word other ∙ sym (find_other front (x.0, n) word other) ∙ ap (find word_cmp word) (sym is) ∙ up.found word ∙ sym (told_other passed x word other)
        ] refl;
        last = λ former e from. (front, n + x.1, now ∙ (λ i. front ++ ((ap (λ (p : Pair). p.0) (push_last passed former x e from)) i, n + x.1) ∷ []));
      }

  behind : (after : List Pair) → Lacks x.0 sums → has_count passed x.0 ≡ false → after ≡ sums ++ x ∷ [] → SumsUp (passed ++ x ∷ []) after
  behind after lacks none now = record {
    once = subst Once (sym now) (once_push sums x up.once lacks);
    found = λ word. elim (eq_by_cmp word_cmp word x.0) as (λ b. eq_by_cmp word_cmp word x.0 ≡ b → find word_cmp word after ≡ told_for (passed ++ x ∷ []) word) [
      | true ↦ λ tie.
          let same : word ≡ x.0 = tied word x.0 tie in
          let zero_before : sum_for passed word ≡ 0 = none_sum passed word (ap (has_count passed) same ∙ none) in
          ap (find word_cmp word) now ∙ find_back sums (x ∷ []) word (found_none word sums (subst (λ w. Lacks w sums) (sym same) lacks)) ∙ ap (λ (b : Bool). cond b (Some x.1) None) tie
          ∙ ap Some (let z = zero_before in omega arith) ∙ sym (told_same passed x word tie)
      | false ↦ λ other. ap (find word_cmp word) now ∙ find_other sums x word other ∙ up.found word ∙ sym (told_other passed x word other)
    ] refl;
    last = λ former e from. (sums, x.1, now ∙ (λ i. sums ++ ((ap (λ (p : Pair). p.0) (push_last passed former x e from)) i, x.1) ∷ []));
  }

  -- a word that was there is the last one's
  module _ (rest : List Pair) (ascends : Ascends (passed ++ x ∷ rest)) where
    placed : (list : List Pair) (word : List ℕ) → has_count list word ≡ true → (k : ℕ) × (k < length list) × ((d : Pair) → (get_or list k d).0 ≡ word)
    placed [] word has = absurd (true≢false (sym has))
    placed (e ∷ list) word has =
        elim (eq_by_cmp word_cmp word e.0) as (λ b. eq_by_cmp word_cmp word e.0 ≡ b → (b || has_count list word) ≡ true → (k : ℕ) × (k < length (e ∷ list)) × ((d : Pair) → (get_or (e ∷ list) k d).0 ≡ word)) [
          | true ↦ λ tie _. (0, omega arith, λ d. sym (tied word e.0 tie))
          | false ↦ λ _ more. let r = placed list word more in (suc r.0, (let lt = r.1 in omega arith), r.2)
        ] refl has

    at_left : (list more : List Pair) (k : ℕ) (d : Pair) → k < length list → get_or (list ++ more) k d ≡ get_or list k d
    at_left [] more k d lt = absurd (omega (arith, lt))
    at_left (y ∷ list) more zero d lt = refl
    at_left (y ∷ list) more (suc k) d lt = at_left list more k d (omega (arith, lt))

    at_next : (list more : List Pair) (y d : Pair) → get_or (list ++ y ∷ more) (length list) d ≡ y
    at_next [] more y d = refl
    at_next (z ∷ list) more y d = at_next list more y d

    between : (v w : List ℕ) → is_lt (word_cmp v w) ≡ false → is_lt (word_cmp w v) ≡ false → v ≡ w
    between v w one other = elim (word_cmp v w) as (λ r. word_cmp v w ≡ r → v ≡ w) [
      | Less ↦ λ is. absurd (true≢false (sym (ap is_lt is) ∙ one))
      | Equal ↦ λ is. same_word v w is
      | Greater ↦ λ is. absurd (true≢false (sym (ap is_lt (nat_list_cmp_total.antisymm w v ∙ ap ordering_reverse is)) ∙ other))
    ] refl

    same_last : (k : ℕ) → k + 1 ≡ length passed → has_count passed x.0 ≡ true → (get_or passed k x).0 ≡ x.0
    same_last k size has =
        let p = placed passed x.0 has in
        let lt = p.1 in
        let all : List Pair = passed ++ x ∷ rest in
        let long = length-append passed (x ∷ rest) in
        let one : is_lt (word_cmp (get_or all k x).0 (get_or all p.0 x).0) ≡ false = ascends p.0 k x (omega arith) (omega arith) in
        let other : is_lt (word_cmp (get_or all (length passed) x).0 (get_or all k x).0) ≡ false = ascends k (length passed) x (omega arith) (omega arith) in
        let here : (get_or all p.0 x).0 ≡ x.0 = ap (λ (q : Pair). q.0) (at_left passed (x ∷ rest) p.0 x p.1) ∙ p.2 x in
        let there : (get_or all k x).0 ≡ (get_or passed k x).0 = ap (λ (q : Pair). q.0) (at_left passed (x ∷ rest) k x (omega arith)) in
        let next : (get_or all (length passed) x).0 ≡ x.0 = ap (λ (q : Pair). q.0) (at_next passed rest x x) in
        between (get_or passed k x).0 x.0
        (subst (λ (q : List ℕ × List ℕ). is_lt (word_cmp q.0 q.1) ≡ false) (λ i. (there i, here i)) one)
        (subst (λ (q : List ℕ × List ℕ). is_lt (word_cmp q.0 q.1) ≡ false) (λ i. (next i, there i)) other)

    not_there : ((front : List Pair) (n : ℕ) → sums ≢ front ++ (x.0, n) ∷ []) → has_count passed x.0 ≡ false
    not_there other = elim (has_count passed x.0) as (λ b. has_count passed x.0 ≡ b → b ≡ false) [
      | true ↦ λ has. absurd (by passed refl has)
      | false ↦ λ _. refl
    ] refl
      where
        by : (list : List Pair) → passed ≡ list → has_count passed x.0 ≡ true → ⊥
        by [] e has = true≢false (sym has ∙ ap (λ l. has_count l x.0) e)
        by (y ∷ list) e has =
            let size : length list + 1 ≡ length passed = let n = ap length e in omega arith in
            let cut = last_of passed (length list) x size in
            let l = up.last cut.0 (get_or passed (length list) x) cut.1 in
            other l.0 l.1 (l.2 ∙ (λ i. l.0 ++ (same_last (length list) size has i, l.1) ∷ []))

    -- one count more
    pub adds_up : (after : List Pair) → AddsLast x sums after → SumsUp (passed ++ x ∷ []) after
    adds_up after adds = elim adds [
      | inl same ↦ raised same.0 same.1 after same.2 same.3
      | inr other ↦
          let none = not_there other.0 in
          behind after (lacking x.0 sums (up.found x.0 ∙ ap (λ (b : Bool). cond b (Some (sum_for passed x.0)) None) none)) none other.1
    ]

    -- what it may be raised by
    pub fits_up : (most : ℕ) → sum_for (passed ++ x ∷ rest) x.0 ≤ most → (front : List Pair) (n : ℕ) → sums ≡ front ++ (x.0, n) ∷ [] → n + x.1 ≤ most
    fits_up most le front n is =
        let old = sum_last front n is in
        let f : Pair → ℕ = λ (y : Pair). cond (eq_by_cmp word_cmp x.0 y.0) y.1 0 in
        let a = sum_by-append f passed (x ∷ rest) in
        let b = sum_by-cons f x rest in
        let one = ap (λ (t : Bool). cond {A = ℕ} t x.1 0) (ties_itself x.0) in
        let was = old.1 in
        omega arith

-- all were added up
pub all_up : (list sums : List Pair) (counts : WordCounts) → SumsUp list sums → AreParts counts list → AreEntries counts sums
all_up list sums counts up parts = record { once = up.once; found = λ word. up.found word ∙ sym (parts word) }
