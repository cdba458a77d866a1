-- Sums over the pages, where one more object lies in one of them.
use Rattle.std.proofs.Common.{◌≡◌, ◌≢◌, ℕ, ◌+◌, ◌<◌, Bool, true, false, cond, Option, Some, List, [], ◌∷◌, ◌++◌, length, get_or, set, suc, refl, sym, ap, subst, ◌∙◌, arith, add-zero}
use Rattle.std.specs.Prelude.{◌==◌, slice_index}
use Rattle.std.specs.List.{sum_by}
use Rattle.std.proofs.lemmas.List.{get_or_default}
use Rattle.std.proofs.lemmas.List.Sums.{sum_by-cons, sum_by-append, sum_by-set}
use Rattle.object_layout.specs.declared.names.Name.{Name}
use Rattle.epoch_lattice.specs.declared.Space.{Space}
use Rattle.epoch_lattice.specs.Lattice.{space_index}
use Rattle.yak_model.specs.State.{Thing}
use Rattle.yak_model.specs.Placed.{IsAt, Places, names_of, same_name, with_object}
use Rattle.yak_model.specs.Stands.{pages_of, words_in, words_taken}
use Rattle.yak_model.proofs.Placed.{same_name-true, same_name-self}
use Rattle.yak_model.proofs.Grown.{grown}

-- sums of what is the same for each element
sum-alike : {X : Type 0} (f g : X → ℕ) (xs : List X) → ((k : ℕ) (d : X) → k < length xs → f (get_or xs k d) ≡ g (get_or xs k d)) → sum_by f xs ≡ sum_by g xs
sum-alike f g [] h = refl
sum-alike f g (x ∷ xs) h =
    let here : f x ≡ g x = h 0 x (omega arith) in
    let rest : sum_by f xs ≡ sum_by g xs = sum-alike f g xs (λ k d lt. h (suc k) d (omega arith)) in
    rw (sum_by-cons f x xs, sum_by-cons g x xs, here, rest) refl

other_object-case : (objects : Name → Option Thing) (n : Name) (o : Thing) (x : Name) → x ≢ n → (b : Bool) → same_name x n ≡ b → cond b (Some o) (objects x) ≡ objects x
other_object-case objects n o x ne true e = absurd (ne (same_name-true x n e))
other_object-case objects n o x ne false e = refl

pub other_object : (objects : Name → Option Thing) (n : Name) (o : Thing) (x : Name) → x ≢ n → with_object objects n o x ≡ objects x
other_object objects n o x ne = other_object-case objects n o x ne (same_name x n) refl

pub own_object : (objects : Name → Option Thing) (n : Name) (o : Thing) → with_object objects n o n ≡ Some o
own_object objects n o = rw (same_name-self n) refl

-- the words of a space, with an object more
pub words_taken-grown : (l : Places) (objects : Name → Option Thing) (n : Name) (o : Thing) (p a : ℕ) (y : Space) → p < length l.pages → ((x : Name) (q k : ℕ) → IsAt l x q k → x ≢ n) → words_taken (grown l p n a).pages (with_object objects n o) y ≡ words_taken l.pages objects y + words_in y (Some o)
words_taken-grown l objects n o p a y hp apart =
    let g : Name → ℕ = λ x. words_in y (objects x) in
    let g' : Name → ℕ = λ x. words_in y (with_object objects n o x) in
    let F : List Name → ℕ = λ ns. sum_by g' ns in
    let alike : sum_by F l.pages ≡ words_taken l.pages objects y = sum-alike F (λ ns. sum_by g ns) l.pages (λ q d lq. sum-alike g' g (get_or l.pages q d) (λ k x lk.
    let ns : get_or l.pages q d ≡ names_of l q = get_or_default l.pages q d [] lq in
    let lk' : k < length (names_of l q) = subst (λ (xs : List Name). k < length xs) ns lk in
    let at : IsAt l (get_or (names_of l q) k x) q k = record { page = lq; place = lk'; name = get_or_default (names_of l q) k (get_or (names_of l q) k x) x lk' } in
    let ne : get_or (get_or l.pages q d) k x ≢ n = λ e. apart (get_or (names_of l q) k x) q k at (ap (λ (xs : List Name). get_or xs k x) (sym ns) ∙ e) in
    ap (words_in y) (other_object objects n o (get_or (get_or l.pages q d) k x) ne))) in
    let own : g' n ≡ words_in y (Some o) = ap (words_in y) (own_object objects n o) in
    let more : F (names_of l p ++ n ∷ []) ≡ F (names_of l p) + g' n = sum_by-append g' (names_of l p) (n ∷ []) ∙ ap (λ i. F (names_of l p) + i) (sum_by-cons g' n [] ∙ add-zero (g' n)) in
    let whole : sum_by F (set l.pages p (names_of l p ++ n ∷ [])) + F (names_of l p) ≡ sum_by F l.pages + F (names_of l p ++ n ∷ []) = sum_by-set F l.pages p (names_of l p ++ n ∷ []) [] hp in
    omega (arith, alike, own, more, whole)

-- the pages of a space, with another entry of one page
abbrev pub is_of : Space → List ℕ → Bool
is_of y r = slice_index r 0 == space_index y + 1

pub pages_of-set : (table : List (List ℕ)) (p : ℕ) (r : List ℕ) (y : Space) → p < length table → pages_of (set table p r) y + cond (is_of y (get_or table p [])) 1 0 ≡ pages_of table y + cond (is_of y r) 1 0
pages_of-set table p r y lt = sum_by-set (λ (q : List ℕ). cond (is_of y q) 1 0) table p r [] lt
