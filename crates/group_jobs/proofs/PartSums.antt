-- What is added up over a history is at most what is added up over the own lists of all its threads.
use Rattle.std.proofs.Common.{◌≡◌, ℕ, ◌+◌, ◌-◌, ◌≤◌, Bool, true, false, cond, eqb, List, [], ◌∷◌, ◌++◌, length, get_or, set, refl, ap, ◌∙◌, subst, arith, inl, inr, None, Some, MatchOption}
use Rattle.std.proofs.lemmas.Bool.Decides.{eqb_tells}
use Rattle.std.proofs.lemmas.List.{length-replicate, length-set}
use Rattle.std.proofs.lemmas.List.Elements.{filter-append}
use Rattle.std.proofs.lemmas.List.FromFn.{get_or-range_with_len, length-range_with_len}
use Rattle.std.proofs.lemmas.List.Sums.{get_or-le-sum_by, sum_by-append, sum_by-cons}
use Rattle.std.specs.List.{Contains, filter, range_with_len, sum_by}
use Rattle.object_layout.specs.declared.calls.Call.{Call}
use Rattle.object_layout.specs.declared.calls.Call.TheVariants as call
use Rattle.object_layout.specs.declared.replies.Reply.{Reply}
use Rattle.object_layout.specs.declared.replies.Reply.TheVariants as reply
use Rattle.yak_model.specs.declared.datum.Datum.{Datum}
use Rattle.yak_model.specs.declared.datum.Datum.TheVariants as datum
use Rattle.yak_model.specs.declared.history.Entry.{Entry}
use Rattle.yak_model.specs.declared.history.Entry.TheVariants.{Said, Collected}
use Rattle.yak_model.specs.Graph.{Does, Graph, IsThread, Limits, Thread, answers, opening, put_field, refusal_of, slot_of}
use Rattle.yak_model.specs.History.{Leads, Moves, caller, part}
use Rattle.yak_model.specs.Names.{root_name}
use Rattle.yak_model.proofs.Lists.{contains_cases}
use Rattle.heap_core.proofs.RoomsSums.{sum-less, sum-same, sum-swapped}

-- The entries are of threads that are numbered from 1, so many.
abbrev pub AreOf : ℕ → List Entry → Type 0
AreOf threads history = (x : Entry) → Contains history x → (1 ≤ caller x) × (caller x ≤ threads)

module _ {X : Type 0} (p : X → Bool) (f : X → ℕ) where
  -- over those that pass a test
  passed_sum : (xs : List X) → sum_by f (filter p xs) ≡ sum_by (λ (x : X). cond (p x) (f x) 0) xs
  passed_sum [] = refl
  passed_sum (x ∷ xs) =
      let rest = passed_sum xs in
      let sum = sum_by-cons (λ (y : X). cond (p y) (f y) 0) x xs in
      elim (p x) as (λ b. sum_by (λ (y : X). cond (p y) (f y) 0) (x ∷ xs) ≡ cond b (f x) 0 + sum_by (λ (y : X). cond (p y) (f y) 0) xs → sum_by f (cond b (x ∷ filter p xs) (filter p xs)) ≡ sum_by (λ (y : X). cond (p y) (f y) 0) (x ∷ xs)) [
        | true ↦ λ here. omega (arith, here, rest, sum_by-cons f x (filter p xs))
        | false ↦ λ here. omega (arith, here, rest)
      ] sum

module _ (f : Entry → ℕ) (threads : ℕ) where
  -- an entry is of one of the threads
  one_of : (x : Entry) → 1 ≤ caller x → caller x ≤ threads → f x ≤ sum_by (λ (k : ℕ). cond (eqb (caller x) (k + 1)) (f x) 0) (range_with_len 0 threads)
  one_of x low high =
      let g : ℕ → ℕ = λ (k : ℕ). cond (eqb (caller x) (k + 1)) (f x) 0 in
      let long = length-range_with_len 0 threads in
      let at = get_or-le-sum_by g (range_with_len 0 threads) (caller x - 1) 0 (omega arith) in
      let place : get_or (range_with_len 0 threads) (caller x - 1) 0 + 1 ≡ caller x = let is = get_or-range_with_len 0 threads (caller x - 1) 0 (omega arith) in omega arith in
      let here : g (get_or (range_with_len 0 threads) (caller x - 1) 0) ≡ f x = ap (λ k. cond (eqb (caller x) k) (f x) 0) place ∙ ap (λ b. cond b (f x) 0) (itself (caller x)) in
      omega arith
    where
      itself : (n : ℕ) → eqb n n ≡ true
      itself n = elim (eqb_tells n n) [ inl same ↦ same.0 | inr other ↦ absurd (other.1 refl) ]

  -- The sum over a history is at most the sums over its parts.
  pub parts_sum : (history : List Entry) → AreOf threads history → sum_by f history ≤ sum_by (λ (k : ℕ). sum_by f (part history (k + 1))) (range_with_len 0 threads)
  parts_sum history are =
      let within = sum-less f (λ (x : Entry). sum_by (λ (k : ℕ). cond (eqb (caller x) (k + 1)) (f x) 0) (range_with_len 0 threads)) history (λ x c. let of = are x c in one_of x of.0 of.1) in
      let turned = sum-swapped (λ (x : Entry) (k : ℕ). cond (eqb (caller x) (k + 1)) (f x) 0) history (range_with_len 0 threads) in
      let parts = sum-same (λ (k : ℕ). sum_by f (part history (k + 1))) (λ (k : ℕ). sum_by (λ (x : Entry). cond (eqb (caller x) (k + 1)) (f x) 0) history) (range_with_len 0 threads) (λ k c. passed_sum (λ (x : Entry). eqb (caller x) (k + 1)) f history) in
      omega (arith, within, turned, parts)

-- ---- whose the entries are

put_threads : (g : Graph) (v : Datum) (f : ℕ) (x : Datum) → (put_field g v f x).threads ≡ g.threads
put_threads g datum.Null f x = refl
put_threads g (datum.Int i) f x = refl
put_threads g (datum.Object n) f x = refl

-- a call leaves as many threads
module _ (g : Graph) (t : ℕ) (h : Graph) where
  as_many : (state : Thread) → h.threads ≡ set g.threads (t - 1) state → length h.threads ≡ length g.threads
  as_many state e = ap length e ∙ length-set g.threads (t - 1) state

  does_threads : (asked : Call) (said : Reply) → Does g t asked said h → length h.threads ≡ length g.threads
  does_threads (call.Int i) said d = as_many _ (ap (λ (z : Graph). z.threads) d.1)
  does_threads call.Null said d = as_many _ (ap (λ (z : Graph). z.threads) d.1)
  does_threads (call.Dup i) said d = as_many _ (ap (λ (z : Graph). z.threads) d.1)
  does_threads call.Pop said d = as_many _ (ap (λ (z : Graph). z.threads) d.1)
  does_threads (call.New k) said (inl d) = as_many _ (ap (λ (z : Graph). z.threads) d.1)
  does_threads (call.New k) said (inr d) = ap (λ (z : Graph). length z.threads) d.1
  does_threads (call.Load i f) said d = as_many _ (ap (λ (z : Graph). z.threads) d.1)
  does_threads (call.Store i f x) said d = ap length (ap (λ (z : Graph). z.threads) d.1 ∙ put_threads g (slot_of g t i) f (slot_of g t x))
  does_threads (call.Get i) said d = ap (λ (z : Graph). length z.threads) d.1
  does_threads (call.Same i x) said d = ap (λ (z : Graph). length z.threads) d.1
  does_threads call.Begin said d = as_many _ (ap (λ (z : Graph). z.threads) d.1)
  does_threads call.End said d = as_many _ (ap (λ (z : Graph). z.threads) d.1)
  does_threads call.Collect said d = ap (λ (z : Graph). length z.threads) d.1
  does_threads call.Census said d = ap (λ (z : Graph). length z.threads) d.1

  answers_threads : (asked : Call) (said : Reply) → answers g t asked said h → length h.threads ≡ length g.threads
  answers_threads asked said =
      elim (refusal_of g t asked) as (λ o. MatchOption o (Does g t asked said h) (λ why. (said ≡ reply.Refused why) × (h ≡ g)) → length h.threads ≡ length g.threads) [
        | None ↦ λ d. does_threads asked said d
        | Some why ↦ λ r. ap (λ (z : Graph). length z.threads) r.1
      ]

moved : (g h : Graph) (x : Entry) → Moves g x h → IsThread g (caller x) × (length h.threads ≡ length g.threads)
moved g h (Said t asked said) moves = (moves.0, answers_threads g t h asked said moves.1)
moved g h (Collected t) moves = (moves.0, ap (λ (z : Graph). length z.threads) moves.1)

led_threads : (history : List Entry) (g h : Graph) → Leads g history h → AreOf (length g.threads) history × (length h.threads ≡ length g.threads)
led_threads [] g h led = ((λ x c. absurd (omega (arith, c.1))), ap (λ (z : Graph). length z.threads) led)
led_threads (y ∷ history) g h (mid, moves, led) =
    let first = moved g mid y moves in
    let rest = led_threads history mid h led in (
      λ x c. elim (contains_cases y history x c) [
        | inl same ↦ subst (λ (z : Entry). (1 ≤ caller z) × (caller z ≤ length g.threads)) same first.0
        | inr later ↦ let of = rest.0 x later in (of.0, let high = of.1 in let same = first.1 in omega arith)
      ],
      rest.1 ∙ first.1,
    )

-- The entries of a history are of the threads of its heap.
pub history_threads : (limits : Limits) (threads : ℕ) (history : List Entry) (h : Graph) → Leads (opening limits threads) history h → AreOf threads history × (length h.threads ≡ threads)
history_threads limits threads history h led =
    let all = led_threads history (opening limits threads) h led in
    let many = length-replicate threads (record { stack = datum.Object root_name ∷ []; depth = 0; made = 0 }) in
    (subst (λ n. AreOf n history) many all.0, all.1 ∙ many)

-- ---- the parts of a beginning

pub part_cat : (before more : List Entry) (t : ℕ) → part (before ++ more) t ≡ part before t ++ part more t
part_cat before more t = filter-append (λ (x : Entry). eqb (caller x) t) before more

-- they have no more
pub part_within : (f : Entry → ℕ) (before more : List Entry) (t : ℕ) → sum_by f (part before t) ≤ sum_by f (part (before ++ more) t)
part_within f before more t = omega (arith, ap (sum_by f) (part_cat before more t), sum_by-append f (part before t) (part more t))
