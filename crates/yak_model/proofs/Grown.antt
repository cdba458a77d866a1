use Rattle.std.proofs.Common.{◌≡◌, ◌≢◌, ◌⊎◌, ℕ, ◌+◌, ◌*◌, ◌≤◌, ◌<◌, Bool, true, false, cond, Option, Some, None, List, [], ◌∷◌, ◌++◌, take, length, get_or, set, suc, refl, sym, ap, subst, ◌∙◌, arith, inl, inr, length-set, length-append, get_or-set_same, get_or-set_other}
use Rattle.std.proofs.lemmas.Bool.{cases_eq, cases_lt}
use Rattle.std.proofs.lemmas.List.{get_or_append_left, get_or_at, get_or_default, take-append-le, take_at}
use Rattle.std.proofs.lemmas.List.Sums.{sum_by-cons, sum_by-append}
use Rattle.std.proofs.Math.Logic.{⊎_elim}
use Rattle.std.specs.List.{All, sum_by}
use Rattle.std.specs.Option.{is_some}
use Rattle.std.specs.Prelude.{IsSome}
use Rattle.std.proofs.lemmas.List.Elements.{All-take}
use Rattle.object_layout.specs.declared.names.Name.{Name}
use Rattle.heap_words.specs.declared.map.Areas.{Areas}
use Rattle.heap_words.specs.Map.{page_words}
use Rattle.yak_model.specs.declared.datum.Datum.{Datum}
use Rattle.yak_model.specs.declared.datum.Datum.TheVariants.{Null, Int, Object}
use Rattle.epoch_lattice.specs.Lattice.{space_index}
use Rattle.yak_model.specs.State.{Thing, IsDatum}
use Rattle.yak_model.specs.Placed.{datum_word, Places, names_of, size_by, words_by, space_word, used_mark, IsAt, Tiles, ObjectAt, HeapStands, same_name, with_object}
use Rattle.yak_model.proofs.Placed.{same_name-true, same_name-self, apart}
use Rattle.yak_model.proofs.Stored.{after_object}

-- the places with one more object at the end of a page
abbrev pub grown : Places → ℕ → Name → ℕ → Places
grown l p n a = record { pages = set l.pages p (names_of l p ++ n ∷ []); at = λ x. cond (same_name x n) a (l.at x) }

other_case : (x n : Name) → x ≢ n → (b : Bool) → same_name x n ≡ b → same_name x n ≡ false
other_case x n ne true h = absurd (ne (same_name-true x n h))
other_case x n ne false h = h

other_name : (x n : Name) → x ≢ n → same_name x n ≡ false
other_name x n ne = other_case x n ne (same_name x n) refl

names-here : (l : Places) (p : ℕ) (n : Name) (a : ℕ) → p < length l.pages → names_of (grown l p n a) p ≡ names_of l p ++ n ∷ []
names-here l p n a h = get_or-set_same l.pages p (names_of l p ++ n ∷ []) [] h

names-other : (l : Places) (p q : ℕ) (n : Name) (a : ℕ) → q ≢ p → names_of (grown l p n a) q ≡ names_of l q
names-other l p q n a ne = get_or-set_other l.pages p q (names_of l p ++ n ∷ []) [] ne

-- a place afterwards is the new one or one from before
at-grown : (l : Places) (p : ℕ) (n : Name) (a : ℕ) → p < length l.pages → (x : Name) (q j : ℕ) → IsAt (grown l p n a) x q j → ((x ≡ n) × (q ≡ p) × (j ≡ length (names_of l p))) ⊎ IsAt l x q j
at-grown l p n a hp x q j h =
    let page : q < length l.pages = rw (← length-set l.pages p (names_of l p ++ n ∷ [])) h.page in
    ⊎_elim
    (λ (e : q ≡ p).
    let names : names_of (grown l p n a) q ≡ names_of l p ++ n ∷ [] = rw e (names-here l p n a hp) in
    let long : j < length (names_of l p ++ n ∷ []) = subst (λ (ns : List Name). j < length ns) names h.place in
    let read : get_or (names_of l p ++ n ∷ []) j x ≡ x = subst (λ (ns : List Name). get_or ns j x ≡ x) names h.name in
    ⊎_elim
    (λ (lt : j < length (names_of l p)). inr (record {
      page = page;
      place = rw e lt;
      name = rw e (sym (get_or_append_left (names_of l p) (n ∷ []) x j lt) ∙ read);
    }))
    (λ (le : length (names_of l p) ≤ j).
    let last : length (names_of l p) ≡ j = omega (arith, length-append (names_of l p) (n ∷ [])) in
    inl (sym read ∙ get_or_at (names_of l p) n [] x j last, e, sym last))
    (cases_lt j (length (names_of l p))))
    (λ (ne : q ≡ p → ⊥).
    let names : names_of (grown l p n a) q ≡ names_of l q = names-other l p q n a ne in
    inr (record {
      page = page;
      place = subst (λ (ns : List Name). j < length ns) names h.place;
      name = subst (λ (ns : List Name). get_or ns j x ≡ x) names h.name;
    }))
    (cases_eq q p)

-- a place from before stays
at-still : (l : Places) (p : ℕ) (n : Name) (a : ℕ) → p < length l.pages → (x : Name) (q j : ℕ) → IsAt l x q j → IsAt (grown l p n a) x q j
at-still l p n a hp x q j h =
    let page : q < length (set l.pages p (names_of l p ++ n ∷ [])) = rw (length-set l.pages p (names_of l p ++ n ∷ [])) h.page in
    ⊎_elim
    (λ (e : q ≡ p).
    let names : names_of (grown l p n a) q ≡ names_of l p ++ n ∷ [] = rw e (names-here l p n a hp) in
    let lt : j < length (names_of l p) = subst (λ i. j < length (names_of l i)) e h.place in
    let nm : get_or (names_of l p) j x ≡ x = subst (λ i. get_or (names_of l i) j x ≡ x) e h.name in
    record {
      page = page;
      place = rw names (omega (arith, length-append (names_of l p) (n ∷ [])));
      name = rw names (get_or_append_left (names_of l p) (n ∷ []) x j lt ∙ nm);
    })
    (λ (ne : q ≡ p → ⊥).
    let names : names_of (grown l p n a) q ≡ names_of l q = names-other l p q n a ne in
    record { page = page; place = rw names h.place; name = rw names h.name })
    (cases_eq q p)

new_place : (l : Places) (p : ℕ) (n : Name) (a : ℕ) → p < length l.pages → IsAt (grown l p n a) n p (length (names_of l p))
new_place l p n a hp =
    let names : names_of (grown l p n a) p ≡ names_of l p ++ n ∷ [] = names-here l p n a hp in
    record {
      page = rw (length-set l.pages p (names_of l p ++ n ∷ [])) hp;
      place = rw names (omega (arith, length-append (names_of l p) (n ∷ [])));
      name = rw names (get_or_at (names_of l p) n [] n (length (names_of l p)) refl);
    }

-- the words of names that the new one is not among
sum-same : (f g : Name → ℕ) (xs : List Name) → All (λ x. f x ≡ g x) xs → sum_by f xs ≡ sum_by g xs
sum-same f g [] h = refl
sum-same f g (x ∷ xs) h =
    let here : f x ≡ g x = h 0 x (omega arith) in
    let rest : sum_by f xs ≡ sum_by g xs = sum-same f g xs (λ k d lt. h (suc k) d (omega arith)) in
    rw (sum_by-cons f x xs, sum_by-cons g x xs, here, rest) refl

-- the objects but the new one are as before
other-object : (objects : Name → Option Thing) (n : Name) (o : Thing) (x : Name) → x ≢ n → with_object objects n o x ≡ objects x
other-object objects n o x ne = rw (other_name x n ne) refl

own-object : (objects : Name → Option Thing) (n : Name) (o : Thing) → with_object objects n o n ≡ Some o
own-object objects n o = rw (same_name-self n) refl

-- what is known of the names from before
abbrev pub Kept : Places → Name → (Name → ℕ) → (Name → ℕ) → Type 0
Kept l n size size' = (x : Name) (q j : ℕ) → IsAt l x q j → (x ≢ n) × (size' x ≡ size x)

all-kept : (l : Places) (n : Name) (size size' : Name → ℕ) → Kept l n size size' → (q : ℕ) → q < length l.pages → All (λ x. size' x ≡ size x) (names_of l q)
all-kept l n size size' kept q page k d lt =
    let x : Name = get_or (names_of l q) k d in
    (kept x q k (record { page = page; place = lt; name = get_or_default (names_of l q) k x d lt })).1

tiles-grown : (w : ℕ) (size size' : Name → ℕ) (l : Places) (p : ℕ) (n : Name) → Tiles w size l → p < length l.pages → Kept l n size size' → sum_by size (names_of l p) + size' n ≤ w → Tiles w size' (grown l p n (w * p + sum_by size (names_of l p)))
tiles-grown w size size' l p n tiles hp kept room =
    let a : ℕ = w * p + sum_by size (names_of l p) in
    let here = names-here l p n a hp in
    let same-sum : (q : ℕ) → q < length l.pages → sum_by size' (names_of l q) ≡ sum_by size (names_of l q) = λ q h. sum-same size' size (names_of l q) (all-kept l n size size' kept q h) in
    record {
      fits = λ q h.
          let page : q < length l.pages = rw (← length-set l.pages p (names_of l p ++ n ∷ [])) h in
          ⊎_elim
          (λ (e : q ≡ p).
          let names : names_of (grown l p n a) q ≡ names_of l p ++ n ∷ [] = rw e here in
          let all : sum_by size' (names_of l p ++ n ∷ []) ≡ sum_by size' (names_of l p) + sum_by size' (n ∷ []) = sum_by-append size' (names_of l p) (n ∷ []) in
          let one : sum_by size' (n ∷ []) ≡ size' n = omega arith in
          rw names (omega (arith, all, one, same-sum p hp)))
          (λ (ne : q ≡ p → ⊥). rw (names-other l p q n a ne, same-sum q page) (tiles.fits q page))
          (cases_eq q p);
      places = λ x q j h. ⊎_elim
          (λ (new : (x ≡ n) × (q ≡ p) × (j ≡ length (names_of l p))).
          rw (new.0, new.1, new.2, same_name-self n, here, take_at (names_of l p) (n ∷ []) (length (names_of l p)) refl, same-sum p hp) refl)
          (λ (old : IsAt l x q j).
          let k = kept x q j old in
          let front : take j (names_of (grown l p n a) q) ≡ take j (names_of l q) = ⊎_elim
          (λ (e : q ≡ p). rw (e, here) (take-append-le j (names_of l p) (n ∷ []) (let lt : j < length (names_of l p) = subst (λ i. j < length (names_of l i)) e old.place in omega arith)))
          (λ (ne : q ≡ p → ⊥). ap (take j) (names-other l p q n a ne))
          (cases_eq q p)
          in
          let same : sum_by size' (take j (names_of l q)) ≡ sum_by size (take j (names_of l q)) = sum-same size' size (take j (names_of l q)) (All-take (λ y. size' y ≡ size y) j (names_of l q) (all-kept l n size size' kept q old.page)) in
          rw (other_name x n k.0, front, same) (tiles.places x q j old))
          (at-grown l p n a hp x q j h);
      once = λ x q j r i hq hr. ⊎_elim
          (λ (new : (x ≡ n) × (q ≡ p) × (j ≡ length (names_of l p))). ⊎_elim
          (λ (new' : (x ≡ n) × (r ≡ p) × (i ≡ length (names_of l p))). (new.1 ∙ sym new'.1, new.2 ∙ sym new'.2))
          (λ (old : IsAt l x r i). absurd ((kept x r i old).0 new.0))
          (at-grown l p n a hp x r i hr))
          (λ (old : IsAt l x q j). ⊎_elim
          (λ (new' : (x ≡ n) × (r ≡ p) × (i ≡ length (names_of l p))). absurd ((kept x q j old).0 new'.0))
          (λ (old' : IsAt l x r i). tiles.once x q j r i old old')
          (at-grown l p n a hp x r i hr))
          (at-grown l p n a hp x q j hq);
    }

no_object : (x : Option Thing) → x ≡ None → IsSome x → ⊥
no_object x e h = let q : is_some x ≡ false = ap is_some e in cc

-- a datum's word stays where no reference leads to the new object
pub datum-word-kept : (objects : Name → Option Thing) (at : Name → ℕ) (n : Name) (a : ℕ) → objects n ≡ None → (d : Datum) → IsDatum objects d → datum_word (λ x. cond (same_name x n) a (at x)) d ≡ datum_word at d
datum-word-kept objects at n a fresh Null h = refl
datum-word-kept objects at n a fresh (Int i) h = refl
datum-word-kept objects at n a fresh (Object x) h =
    let ne : x ≢ n = λ e. absurd (let q : objects x ≡ None = ap objects e ∙ fresh in no_object (objects x) q h) in
    rw (other_name x n ne) refl

-- a word of an object that lies beside another
beside : (b i size a k : ℕ) → (b + size ≤ a) ⊎ (a + k ≤ b) → b ≤ i → i < b + size → (i < a) ⊎ (a + k ≤ i)
beside b i size a k out low high = ⊎_elim (λ (h : b + size ≤ a). inl (omega arith)) (λ (h : a + k ≤ b). inr (omega arith)) out

-- an object's words in a heap that is the same there
copied : (heap heap' : List ℕ) (objects : Name → Option Thing) (at work : Name → ℕ) (n : Name) (a k : ℕ) (x : Name) (q : Thing) → objects n ≡ None → x ≢ n → All (IsDatum objects) q.fields → ((i : ℕ) → (i < a) ⊎ (a + k ≤ i) → get_or heap' i 0 ≡ get_or heap i 0) → (at x + (length q.fields + 3) ≤ a) ⊎ (a + k ≤ at x) → ObjectAt heap at work x q → ObjectAt heap' (λ y. cond (same_name y n) a (at y)) work x q
copied heap heap' objects at work n a k x q fresh ne kinds same out h =
    let here : cond (same_name x n) a (at x) ≡ at x = rw (other_name x n ne) refl in
    record {
      header = rw here (same (at x) (beside (at x) (at x) (length q.fields + 3) a k out (omega arith) (omega arith)) ∙ h.header);
      name = rw here (same (at x + 1) (beside (at x) (at x + 1) (length q.fields + 3) a k out (omega arith) (omega arith)) ∙ h.name);
      work_word = rw here (same (at x + 2) (beside (at x) (at x + 2) (length q.fields + 3) a k out (omega arith) (omega arith)) ∙ h.work_word);
      fields = λ f lt. rw here (same (at x + 3 + f) (beside (at x) (at x + 3 + f) (length q.fields + 3) a k out (omega arith) (omega arith)) ∙ h.fields f lt ∙ sym (datum-word-kept objects at n a fresh (get_or q.fields f Null) (kinds f Null lt)));
    }

some-none : (x : Option Thing) (o : Thing) → x ≡ Some o → x ≡ None → ⊥
some-none x o e f = cc

-- an object put at the end of a page: its words are there, and all other words of the heap are as before
pub heap-new : (m : Areas) (table table' : List (List ℕ)) (heap heap' : List ℕ) (objects : Name → Option Thing) (l : Places) (work : Name → ℕ) (n : Name) (o : Thing) (p a : ℕ) → HeapStands m table heap objects l work → a ≡ page_words m * p + sum_by (size_by objects) (names_of l p) → objects n ≡ None → p < m.pages → sum_by (size_by objects) (names_of l p) + (length o.fields + 3) ≤ page_words m → space_word table p ≡ space_index o.home + 1 → ((q : ℕ) → space_word table' q ≡ space_word table q) → used_mark table' p ≡ used_mark table p + (length o.fields + 3) → ((q : ℕ) → q ≢ p → used_mark table' q ≡ used_mark table q) → ((x : Name) (q : Thing) → objects x ≡ Some q → All (IsDatum objects) q.fields) → ((i : ℕ) → (i < a) ⊎ (a + (length o.fields + 3) ≤ i) → get_or heap' i 0 ≡ get_or heap i 0) → ObjectAt heap' (grown l p n a).at work n o → HeapStands m table' heap' (with_object objects n o) (grown l p n a) work
heap-new m table table' heap heap' objects l work n o p a h place fresh hp room home spaces mark marks kinds same there =
    let size = size_by objects in
    let size' = size_by (with_object objects n o) in
    let page : p < length l.pages = rw h.count hp in
    let kept : Kept l n size size' = λ x q j at.
    let w = h.whole x q j at in
    let ne : x ≢ n = λ e. some-none (objects x) w.0 w.1 (ap objects e ∙ fresh) in
    (ne, ap words_by (other-object objects n o x ne))
    in
    let own : size' n ≡ length o.fields + 3 = ap words_by (own-object objects n o) in
    let room' : sum_by size (names_of l p) + size' n ≤ page_words m = rw own room in
    let tiles : Tiles (page_words m) size' (grown l p n a) = subst (λ b. Tiles (page_words m) size' (grown l p n b)) (sym place) (tiles-grown (page_words m) size size' l p n h.tiles page kept room') in
    let pages : length (set l.pages p (names_of l p ++ n ∷ [])) ≡ length l.pages = length-set l.pages p (names_of l p ++ n ∷ []) in
    record {
      count = pages ∙ h.count;
      tiles = tiles;
      present = λ x q e. ⊎_elim
          (λ (new : (x ≡ n) × (o ≡ q)). (p, length (names_of l p), subst (λ y. IsAt (grown l p n a) y p (length (names_of l p))) (sym new.0) (new_place l p n a page)))
          (λ (old : objects x ≡ Some q). let at = h.present x q old in (at.0, at.1, at-still l p n a page x at.0 at.1 at.2))
          (after_object objects n o x q e);
      whole = λ x q j at. ⊎_elim
          (λ (new : (x ≡ n) × (q ≡ p) × (j ≡ length (names_of l p))). (o, rw new.0 (own-object objects n o), rw new.1 (spaces p ∙ home)))
          (λ (old : IsAt l x q j). let w = h.whole x q j old in (w.0, other-object objects n o x (kept x q j old).0 ∙ w.1, spaces q ∙ w.2))
          (at-grown l p n a page x q j at);
      marks = λ q hq.
          let hq' : q < length l.pages = rw h.count hq in
          ⊎_elim
          (λ (e : q ≡ p).
          let all : sum_by size' (names_of l p ++ n ∷ []) ≡ sum_by size' (names_of l p) + sum_by size' (n ∷ []) = sum_by-append size' (names_of l p) (n ∷ []) in
          let one : sum_by size' (n ∷ []) ≡ size' n = omega arith in
          let sums : sum_by size' (names_of l p) ≡ sum_by size (names_of l p) = sum-same size' size (names_of l p) (all-kept l n size size' kept p page) in
          rw (e, names-here l p n a page) (omega (arith, all, one, own, sums, mark, h.marks p hp)))
          (λ (ne : q ≡ p → ⊥).
          let sums : sum_by size' (names_of l q) ≡ sum_by size (names_of l q) = sum-same size' size (names_of l q) (all-kept l n size size' kept q hq') in
          rw (names-other l p q n a ne) (marks q ne ∙ h.marks q hq ∙ sym sums))
          (cases_eq q p);
      held = λ x q e. ⊎_elim
          (λ (new : (x ≡ n) × (o ≡ q)). rw (new.0, ← new.1) there)
          (λ (old : objects x ≡ Some q).
          let ne : x ≢ n = λ s. some-none (objects x) q old (ap objects s ∙ fresh) in
          let at = h.present x q old in
          let between = apart (page_words m) size' (grown l p n a) x n at.0 at.1 p (length (names_of l p)) tiles (at-still l p n a page x at.0 at.1 at.2) (new_place l p n a page) ne in
          let sx : size' x ≡ length q.fields + 3 = ap words_by (other-object objects n o x ne ∙ old) in
          let px : (grown l p n a).at x ≡ l.at x = rw (other_name x n ne) refl in
          let pn : (grown l p n a).at n ≡ a = rw (same_name-self n) refl in
          let out : (l.at x + (length q.fields + 3) ≤ a) ⊎ (a + (length o.fields + 3) ≤ l.at x) = ⊎_elim
          (λ (b : (grown l p n a).at x + size' x ≤ (grown l p n a).at n). inl (omega (arith, b, sx, px, pn)))
          (λ (b : (grown l p n a).at n + size' n ≤ (grown l p n a).at x). inr (omega (arith, b, own, px, pn)))
          between
          in
          copied heap heap' objects l.at work n a (length o.fields + 3) x q fresh ne (kinds x q old) same out (h.held x q old))
          (after_object objects n o x q e);
    }
