-- A thread's depth and its number of objects made, told from its own list.
use Rattle.std.proofs.Common.{zero, suc, ◌≡◌, ◌≢◌, inl, inr, ℕ, ◌+◌, ◌-◌, ◌≤◌, true, false, true≢false, cond, eqb, List, [], ◌∷◌, ◌++◌, refl, sym, ap, ◌∙◌, subst, arith, None, Some, MatchOption, add-zero, get_or-set_same}
use Rattle.std.specs.List.{sum_by}
use Rattle.std.proofs.lemmas.Bool.Decides.{eqb_tells}
use Rattle.std.proofs.lemmas.List.Sums.{sum_by-append, sum_by-cons}
use Rattle.object_layout.specs.declared.calls.Call.{Call}
use Rattle.object_layout.specs.declared.calls.Call.TheVariants as call
use Rattle.object_layout.specs.declared.replies.Refusal.{Refusal}
use Rattle.object_layout.specs.declared.replies.Reply.{Reply}
use Rattle.object_layout.specs.declared.replies.Reply.TheVariants as reply
use Rattle.yak_model.specs.declared.datum.Datum.{Datum}
use Rattle.yak_model.specs.declared.datum.Datum.TheVariants as datum
use Rattle.yak_model.specs.declared.history.Entry.{Entry}
use Rattle.yak_model.specs.declared.history.Entry.TheVariants.{Said, Collected}
use Rattle.yak_model.specs.Graph.{Does, Graph, IsThread, Limits, Thread, answers, idle, opening, put_field, refusal_of, slot_of, thread_of, with_thread}
use Rattle.yak_model.specs.History.{Leads, Moves, caller, part}
use Rattle.yak_model.proofs.Lists.{replicate_cases}
use Rattle.yak_model.proofs.Others.{answers-beside}
use Rattle.group_jobs.specs.Epochs.{AreEpochs, bounds_in, is_bound}

-- how many objects the call of an entry made
abbrev pub entry_names : Entry → ℕ
entry_names (Said t (call.New k) reply.Ok) = 1
entry_names entry = 0

abbrev pub names_in : List Entry → ℕ
names_in list = sum_by entry_names list

-- what an entry makes of its thread's depth
abbrev pub deepened : Entry → ℕ → ℕ
deepened (Said t call.Begin reply.Ok) d = d + 1
deepened (Said t call.End (reply.Ended moved tight)) d = d - 1
deepened entry d = d

abbrev pub depth_in : ℕ → List Entry → ℕ
depth_in d [] = d
depth_in d (entry ∷ list) = depth_in (deepened entry d) list

pub names_cat : (a b : List Entry) → names_in (a ++ b) ≡ names_in a + names_in b
names_cat a b = sum_by-append entry_names a b

pub depth_cat : (d : ℕ) (a b : List Entry) → depth_in d (a ++ b) ≡ depth_in (depth_in d a) b
depth_cat d [] b = refl
depth_cat d (x ∷ a) b = depth_cat (deepened x d) a b

-- ---- one call

-- The thread made so many objects more, and its depth is as the entry makes it.
abbrev pub Tells : ℕ → Graph → Graph → Entry → Type 0
Tells t g h entry = ((thread_of h t).made ≡ (thread_of g t).made + entry_names entry) × ((thread_of h t).depth ≡ deepened entry (thread_of g t).depth)

module _ (t : ℕ) (g h : Graph) (thread : IsThread g t) where
  state_is : (state : Thread) → h ≡ with_thread g t state → thread_of h t ≡ state
  state_is state e = ap (λ (k : Graph). thread_of k t) e ∙ get_or-set_same g.threads (t - 1) state idle (omega (arith, thread.0, thread.1))

  as_was : h ≡ g → thread_of h t ≡ thread_of g t
  as_was e = ap (λ (k : Graph). thread_of k t) e

  -- what a thread has, with another stack
  restacked : (stack : List Datum) → thread_of h t ≡ record (thread_of g t) { stack = stack } → ((thread_of h t).made ≡ (thread_of g t).made + 0) × ((thread_of h t).depth ≡ (thread_of g t).depth)
  restacked stack e = (ap (λ (o : Thread). o.made) e ∙ sym (add-zero (thread_of g t).made), ap (λ (o : Thread). o.depth) e)

  unmoved : thread_of h t ≡ thread_of g t → ((thread_of h t).made ≡ (thread_of g t).made + 0) × ((thread_of h t).depth ≡ (thread_of g t).depth)
  unmoved e = (ap (λ (o : Thread). o.made) e ∙ sym (add-zero (thread_of g t).made), ap (λ (o : Thread). o.depth) e)

  put_same : (v : Datum) (f : ℕ) (x : Datum) → thread_of (put_field g v f x) t ≡ thread_of g t
  put_same datum.Null f x = refl
  put_same (datum.Int i) f x = refl
  put_same (datum.Object n) f x = refl

  does_tell : (asked : Call) (said : Reply) → Does g t asked said h → Tells t g h (Said t asked said)
  does_tell (call.Int i) said d = restacked _ (state_is _ d.1)
  does_tell call.Null said d = restacked _ (state_is _ d.1)
  does_tell (call.Dup i) said d = restacked _ (state_is _ d.1)
  does_tell call.Pop said d = restacked _ (state_is _ d.1)
  does_tell (call.New k) said (inl d) =
      let is : thread_of h t ≡ _ = ap (λ (z : Graph). thread_of z t) d.1 ∙ get_or-set_same g.threads (t - 1) _ idle (omega (arith, thread.0, thread.1)) in
      subst (λ s. Tells t g h (Said t (call.New k) s)) (sym d.0) (ap (λ (o : Thread). o.made) is, ap (λ (o : Thread). o.depth) is)
  does_tell (call.New k) said (inr d) = subst (λ s. Tells t g h (Said t (call.New k) s)) (sym d.0) (unmoved (as_was d.1))
  does_tell (call.Load i f) said d = restacked _ (state_is _ d.1)
  does_tell (call.Store i f x) said d = unmoved (ap (λ (z : Graph). thread_of z t) d.1 ∙ put_same (slot_of g t i) f (slot_of g t x))
  does_tell (call.Get i) said d = unmoved (as_was d.1)
  does_tell (call.Same i x) said d = unmoved (as_was d.1)
  does_tell call.Begin said d =
      let is = state_is _ d.1 in
      subst (λ s. Tells t g h (Said t call.Begin s)) (sym d.0) (ap (λ (o : Thread). o.made) is ∙ sym (add-zero (thread_of g t).made), ap (λ (o : Thread). o.depth) is)
  does_tell call.End said d =
      let is = state_is _ d.1 in
      subst (λ s. Tells t g h (Said t call.End s)) (sym d.0.2) (ap (λ (o : Thread). o.made) is ∙ sym (add-zero (thread_of g t).made), ap (λ (o : Thread). o.depth) is)
  does_tell call.Collect said d = unmoved (as_was d.1)
  does_tell call.Census said d = unmoved (as_was d.1)

  refused_tells : (asked : Call) (why : Refusal) → h ≡ g → Tells t g h (Said t asked (reply.Refused why))
  refused_tells (call.New k) why e = unmoved (as_was e)
  refused_tells (call.Int i) why e = unmoved (as_was e)
  refused_tells call.Null why e = unmoved (as_was e)
  refused_tells (call.Dup i) why e = unmoved (as_was e)
  refused_tells call.Pop why e = unmoved (as_was e)
  refused_tells (call.Load i f) why e = unmoved (as_was e)
  refused_tells (call.Store i f x) why e = unmoved (as_was e)
  refused_tells (call.Get i) why e = unmoved (as_was e)
  refused_tells (call.Same i x) why e = unmoved (as_was e)
  refused_tells call.Begin why e = unmoved (as_was e)
  refused_tells call.End why e = unmoved (as_was e)
  refused_tells call.Collect why e = unmoved (as_was e)
  refused_tells call.Census why e = unmoved (as_was e)

  pub answers_tell : (asked : Call) (said : Reply) → answers g t asked said h → Tells t g h (Said t asked said)
  answers_tell asked said =
      elim (refusal_of g t asked) as (λ o. MatchOption o (Does g t asked said h) (λ why. (said ≡ reply.Refused why) × (h ≡ g)) → Tells t g h (Said t asked said)) [
        | None ↦ λ d. does_tell asked said d
        | Some why ↦ λ r. subst (λ s. Tells t g h (Said t asked s)) (sym r.0) (refused_tells asked why r.1)
      ]

-- ---- any call

pub other_apart : (t u : ℕ) → 1 ≤ t → 1 ≤ u → eqb u t ≡ false → (t - 1) ≢ (u - 1)
other_apart t u some_t some_u differs e = elim (eqb_tells u t) [
  | inl same ↦ true≢false (sym same.0 ∙ differs)
  | inr other ↦ other.1 (omega (arith, e, some_t, some_u))
]

pub same_thread : (t u : ℕ) → eqb u t ≡ true → u ≡ t
same_thread t u is = elim (eqb_tells u t) [
  | inl same ↦ same.1
  | inr other ↦ absurd (true≢false (sym is ∙ other.0))
]

module _ (t : ℕ) (some : 1 ≤ t) where
  pub move_beside : (g h : Graph) (x : Entry) → eqb (caller x) t ≡ false → Moves g x h → thread_of h t ≡ thread_of g t
  move_beside g h (Said u asked said) other moves = answers-beside g u t (other_apart t u some moves.0.0 other) asked said h moves.1
  move_beside g h (Collected u) other moves = ap (λ (k : Graph). thread_of k t) moves.1

  own_move : (g h : Graph) (x : Entry) → eqb (caller x) t ≡ true → Moves g x h → Tells t g h x
  own_move g h (Said u asked said) own moves =
      let same : u ≡ t = same_thread t u own in
      let m = subst (λ v. Moves g (Said v asked said) h) same moves in
      let tells = answers_tell t g h m.0 asked said m.1 in
      subst (λ v. Tells t g h (Said v asked said)) (sym same) tells
  own_move g h (Collected u) own moves = unmoved t g h (subst (λ v. IsThread g v) (same_thread t u own) moves.0) (ap (λ (k : Graph). thread_of k t) moves.1)

  -- so many objects more, and the depth as the thread's entries make it
  pub led : (history : List Entry) (g h : Graph) → Leads g history h
      → ((thread_of h t).made ≡ (thread_of g t).made + names_in (part history t)) × ((thread_of h t).depth ≡ depth_in (thread_of g t).depth (part history t))
  led [] g h e = (ap (λ (k : Graph). (thread_of k t).made) e ∙ sym (add-zero (thread_of g t).made), ap (λ (k : Graph). (thread_of k t).depth) e)
  led (x ∷ history) g h (mid, moves, rest) =
      let later = led history mid h rest in
      elim (eqb (caller x) t) as (λ b. eqb (caller x) t ≡ b
      → ((thread_of h t).made ≡ (thread_of g t).made + names_in (cond b (x ∷ part history t) (part history t))) × ((thread_of h t).depth ≡ depth_in (thread_of g t).depth (cond b (x ∷ part history t) (part history t)))) [
        | true ↦ λ own.
            let now = own_move g mid x own moves in
            let sum = sum_by-cons entry_names x (part history t) in
            (omega (arith, now.0, later.0, sum), later.1 ∙ ap (λ d. depth_in d (part history t)) now.1)
        | false ↦ λ other.
            let now = move_beside g mid x other moves in
            (later.0 ∙ ap (λ (o : Thread). o.made + names_in (part history t)) now, later.1 ∙ ap (λ (o : Thread). depth_in o.depth (part history t)) now)
      ] refl

  opening_thread : (limits : Limits) (threads : ℕ) → ((thread_of (opening limits threads) t).made ≡ 0) × ((thread_of (opening limits threads) t).depth ≡ 0)
  opening_thread limits threads = elim (replicate_cases threads (t - 1) (record { stack = datum.Object _ ∷ []; depth = 0; made = 0 }) idle) [
    | inl e ↦ (ap (λ (o : Thread). o.made) e, ap (λ (o : Thread). o.depth) e)
    | inr e ↦ (ap (λ (o : Thread). o.made) e, ap (λ (o : Thread). o.depth) e)
  ]

  -- the same from the opening on
  pub led_all : (limits : Limits) (threads : ℕ) (history : List Entry) (h : Graph) → Leads (opening limits threads) history h
      → ((thread_of h t).made ≡ names_in (part history t)) × ((thread_of h t).depth ≡ depth_in 0 (part history t))
  led_all limits threads history h leads =
      let l = led history (opening limits threads) h leads in
      let o = opening_thread limits threads in
      (omega (arith, l.0, o.0), l.1 ∙ ap (λ d. depth_in d (part history t)) o.1)

-- ---- epochs

pub unbound_depth : (t : ℕ) (d : ℕ) (x : Entry) → is_bound x ≡ false → deepened x d ≡ d
unbound_depth t d (Said u call.Begin said) none = absurd (true≢false none)
unbound_depth t d (Said u call.End said) none = absurd (true≢false none)
unbound_depth t d (Said u (call.Int i) said) none = refl
unbound_depth t d (Said u call.Null said) none = refl
unbound_depth t d (Said u (call.Dup i) said) none = refl
unbound_depth t d (Said u call.Pop said) none = refl
unbound_depth t d (Said u (call.New k) said) none = refl
unbound_depth t d (Said u (call.Load i f) said) none = refl
unbound_depth t d (Said u (call.Store i f y) said) none = refl
unbound_depth t d (Said u (call.Get i) said) none = refl
unbound_depth t d (Said u (call.Same i y) said) none = refl
unbound_depth t d (Said u call.Collect said) none = refl
unbound_depth t d (Said u call.Census said) none = refl
unbound_depth t d (Collected u) none = refl

-- the depth is that of the bounds alone
pub depth_bounds : (d : ℕ) (list : List Entry) → depth_in d list ≡ depth_in d (bounds_in list)
depth_bounds d [] = refl
depth_bounds d (x ∷ list) =
    elim (is_bound x) as (λ b. is_bound x ≡ b → depth_in (deepened x d) list ≡ depth_in d (cond b (x ∷ bounds_in list) (bounds_in list))) [
      | true ↦ λ _. depth_bounds (deepened x d) list
      | false ↦ λ none. ap (λ e. depth_in e list) (unbound_depth 0 d x none) ∙ depth_bounds d list
    ] refl

-- outside all epochs
pub epochs_depth : (t n : ℕ) (bounds : List Entry) → AreEpochs t n bounds → depth_in 0 bounds ≡ 0
epochs_depth t zero bounds e = ap (depth_in 0) e
epochs_depth t (suc n) bounds e = ap (depth_in 0) e.3 ∙ epochs_depth t n e.2 e.4
