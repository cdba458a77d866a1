-- Rows that are put together, one taker after another.
use Rattle.std.proofs.Common.{◌≡◌, ℕ, zero, suc, ◌+◌, ◌<◌, ◌==◌, List, [], ◌∷◌, ◌++◌, Vec, Bool, true, false, true≢false, Any, ◌⊎◌, inl, inr, cond, get_or, length, map, remove, sum_by, subst, refl, ap, sym, ◌∙◌, ⊎_elim, append_assoc, arith}
use Rattle.std.specs.declared.alloc.Global.{Global}
use Rattle.std.proofs.lemmas.List.Sums.{sum_by-cons, sum_by_push}
use Rattle.task_feed.specs.Dealt.{places}
use Rattle.task_feed.specs.FeedContents.{lists_in}
use Rattle.task_feed.specs.Takers.{has_ended, row_of}
use Rattle.task_feed.specs.declared.hands.Hand.{Hand}
use Rattle.task_feed.specs.declared.takers.Taker.{Taker}
use Rattle.task_feed.proofs.Rows.{places_append}

pub has_some : (n : ℕ) → false ≡ (n == 0) → 0 < n
has_some zero e = absurd (true≢false (sym e))
has_some (suc k) e = omega arith

pub front : {X : Type 0} → (xs : List X) (x : X) → 0 < length xs → x ≡ get_or xs 0 x → xs ≡ x ∷ remove xs 0
front [] x some is = absurd (omega (arith, some))
front (y ∷ ys) x some is = ap (λ z. z ∷ ys) (sym is)

pub lists_push : (rows : List (Vec ℕ Global)) (row : Vec ℕ Global) → lists_in (rows ++ row ∷ []) ≡ lists_in rows ++ row.items ∷ []
lists_push [] row = refl
lists_push (x ∷ xs) row = ap (λ (l : List (List ℕ)). x.items ∷ l) (lists_push xs row)

pub rows_step : (rows : List (Vec ℕ Global)) (row : Vec ℕ Global) (taker : Taker) (rest : List Taker) (all : List (List ℕ)) → row.items ≡ row_of taker
    → lists_in rows ++ map row_of (taker ∷ rest) ≡ all → lists_in (rows ++ row ∷ []) ++ map row_of rest ≡ all
rows_step rows row taker rest all same is =
    ap (λ (l : List (List ℕ)). l ++ map row_of rest) (lists_push rows row)
    ∙ append_assoc (lists_in rows) (row.items ∷ []) (map row_of rest)
    ∙ ap (λ (r : List ℕ). lists_in rows ++ r ∷ map row_of rest) same
    ∙ is

pub taken_step : (rows : List (Vec ℕ Global)) (row : Vec ℕ Global) (v u : Hand) → u.taken ≡ row.items
    → ((task : ℕ) → places task v.taken ≡ sum_by (places task) (lists_in rows))
    → (task : ℕ) → places task (v.taken ++ u.taken) ≡ sum_by (places task) (lists_in (rows ++ row ∷ []))
taken_step rows row v u same told task =
    let s = sum_by_push (places task) (lists_in rows) row.items in
    let e = ap (sum_by (places task)) (lists_push rows row) in
    let p = ap (places task) same in
    omega (arith, places_append task v.taken u.taken, told task, s, e, p)

any_front : {X : Type 0} (P : X → Type 0) (x : X) (xs : List X) → Any P (x ∷ xs) → P x ⊎ Any P xs
any_front P x xs (zero, y, lt, is, p) = inl (subst P (sym is) p)
any_front P x xs (suc k, y, lt, is, p) = inr (k, y, omega arith, is, p)

pub ended_first : (u : Hand) (taker : Taker) (rest : List Taker) → u.ends ≡ cond taker.ended 1 0
    → Any (λ (t : Taker). has_ended t ≡ true) (taker ∷ rest) → (0 < u.ends) ⊎ Any (λ (t : Taker). has_ended t ≡ true) rest
ended_first u taker rest ends a =
    ⊎_elim (λ (is : has_ended taker ≡ true). inl (let one = ends ∙ ap (λ (b : Bool). cond b 1 0) is in omega (arith, one))) (λ r. inr r) (any_front (λ (t : Taker). has_ended t ≡ true) taker rest a)

pub ended_step : (v u : Hand) (taker : Taker) (rest : List Taker) → u.ends ≡ cond taker.ended 1 0
    → (0 < v.ends) ⊎ Any (λ (t : Taker). has_ended t ≡ true) (taker ∷ rest)
    → (0 < v.ends + u.ends) ⊎ Any (λ (t : Taker). has_ended t ≡ true) rest
ended_step v u taker rest ends before =
    ⊎_elim (λ (h : 0 < v.ends). inl (omega (arith, h)))
    (λ (a : Any (λ (t : Taker). has_ended t ≡ true) (taker ∷ rest)).
    ⊎_elim (λ (is : 0 < u.ends). inl (omega (arith, is))) (λ r. inr r) (ended_first u taker rest ends a))
    before

pub one_row : (task : ℕ) (row : List ℕ) → places task row ≡ sum_by (places task) (row ∷ [])
one_row task row = let c = sum_by-cons (places task) row [] in omega (arith, c)
