-- A reference to a new object that is dropped again.
use Rattle.std.proofs.Common.{◌≡◌, ℕ, zero, suc, ◌+◌, ◌-◌, List, [], ◌∷◌, ◌++◌, length, take, get_or, set, refl, ap, ◌∙◌, arith}
use Rattle.std.proofs.lemmas.List.{get_or-set_same, set-get_or}
use Rattle.yak_model.specs.declared.datum.Datum.{Datum}
use Rattle.yak_model.specs.Graph.{Graph, IsThread, Thread, idle, thread_of, with_thread}

abbrev pub added : Thread → Datum → Thread
added state value = record state { stack = state.stack ++ value ∷ []; made = state.made + 1 }

abbrev pub dropped : Thread → Thread
dropped state = record state { stack = take (length state.stack - 1) state.stack; made = state.made - 1 }

take_back : (n : ℕ) (xs : List Datum) (value : Datum) → n ≡ length xs → take n (xs ++ value ∷ []) ≡ xs
take_back zero [] value e = refl
take_back (suc n) [] value e = absurd (omega arith)
take_back zero (x ∷ xs) value e = absurd (omega arith)
take_back (suc n) (x ∷ xs) value e = ap (λ l. x ∷ l) (take_back n xs value (omega arith))

one_more : (xs : List Datum) (value : Datum) → length (xs ++ value ∷ []) ≡ suc (length xs)
one_more [] value = refl
one_more (x ∷ xs) value = ap suc (one_more xs value)

dropped-added : (state : Thread) (value : Datum) → dropped (added state value) ≡ state
dropped-added state value =
    let stack = take_back (length (state.stack ++ value ∷ []) - 1) state.stack value (omega (arith, one_more state.stack value)) in
    let made : state.made + 1 - 1 ≡ state.made = omega arith in
    λ i. record state { stack = stack i; made = made i }

set-set : (l : List Thread) (i : ℕ) (a b : Thread) → set (set l i a) i b ≡ set l i b
set-set [] i a b = refl
set-set (x ∷ l) zero a b = refl
set-set (x ∷ l) (suc i) a b = ap (λ r. x ∷ r) (set-set l i a b)

pub undone : (g h k : Graph) (t : ℕ) (value : Datum) → IsThread g t → h ≡ with_thread g t (added (thread_of g t) value) → k ≡ with_thread h t (dropped (thread_of h t)) → k ≡ g
undone g h k t value is first second =
    let a = added (thread_of g t) value in
    let i = t - 1 in
    let seen = get_or-set_same g.threads i a idle (omega (arith, is.0, is.1)) in
    let threads : set (set g.threads i a) i (dropped (get_or (set g.threads i a) i idle)) ≡ g.threads =
    ap (λ s. set (set g.threads i a) i (dropped s)) seen
    ∙ ap (set (set g.threads i a) i) (dropped-added (thread_of g t) value)
    ∙ set-set g.threads i a (thread_of g t)
    ∙ set-get_or g.threads i idle in
    second
    ∙ ap (λ (x : Graph). with_thread x t (dropped (thread_of x t))) first
    ∙ (λ j. record g { threads = threads j })
