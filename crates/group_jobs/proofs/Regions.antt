-- The objects that a thread makes in its outermost epoch stay in that region until the epoch ends.
use Rattle.std.proofs.Common.{zero, suc, ◌≡◌, ◌≢◌, ◌⊎◌, inl, inr, ℕ, ◌+◌, ◌-◌, ◌<◌, ◌≤◌, Bool, true, false, true≢false, cond, eqb, List, [], ◌∷◌, ◌++◌, get_or, refl, sym, ap, ◌∙◌, subst, arith, Some, get_or-set_other, add-zero}
use Rattle.std.proofs.lemmas.Bool.Decides.{eqb_tells}
use Rattle.std.proofs.lemmas.Bool.{cases_lt}
use Rattle.std.specs.FinMap as finite
use Rattle.std.specs.FinMap.{get, insert}
use Rattle.epoch_lattice.specs.Lattice.{inner_of}
use Rattle.epoch_lattice.specs.declared.Space.{Space}
use Rattle.epoch_lattice.specs.declared.Space.TheVariants.{Control, Region}
use Rattle.object_layout.specs.declared.names.Name.{Name}
use Rattle.object_layout.specs.declared.calls.Call.{Call}
use Rattle.object_layout.specs.declared.calls.Call.TheVariants as call
use Rattle.object_layout.specs.declared.replies.Reply.{Reply}
use Rattle.object_layout.specs.declared.replies.Reply.TheVariants as reply
use Rattle.yak_model.specs.declared.history.Entry.{Entry}
use Rattle.yak_model.specs.declared.history.Entry.TheVariants.{Said, Collected}
use Rattle.yak_model.specs.Graph.{Graph, answers, IsThread, Thread, idle, next_name, standard_limits, thread_of}
use Rattle.yak_model.specs.History.{caller, part}
use Rattle.yak_model.specs.Names.{name_cmp}
use Rattle.yak_model.specs.Spaces.{SpaceState, Turns, TurnsAll, home_of, homes_after, innermost, opening_spaces, spaces}
use Rattle.yak_model.proofs.Agreement.{machines_agree}
use Rattle.yak_model.proofs.Names.{get-other, get-same, same_or_other}
use Rattle.yak_model.proofs.Others.{answers-beside}
use Rattle.yak_model.proofs.Turned.{turns_between}
use Rattle.group_jobs.specs.Epochs.{bounds_in, is_bound}
use Rattle.group_jobs.proofs.Depths.{answers_tell, entry_names, led_all, names_in, depth_in, other_apart, same_thread, unbound_depth}

region_is : (t u d : ℕ) → u ≢ t → Some (Region t 1) ≡ Some (Region u (suc d)) → ⊥
region_is t u d other e = other (cc)

not_control : (t : ℕ) → Some (Region t 1) ≡ Some Control → ⊥
not_control t e = cc

module _ (t : ℕ) (some : 1 ≤ t) where
  turn_other : (s after : SpaceState) (x : Entry) → eqb (caller x) t ≡ false → Turns s x after → thread_of after.graph t ≡ thread_of s.graph t
  turn_other s after (Said u call.End (reply.Ended moved tight)) other turned =
      ap (λ (g : Graph). thread_of g t) turned.1.rest ∙ get_or-set_other s.graph.threads (u - 1) (t - 1) _ idle (other_apart t u some turned.0.0 other)
  turn_other s after (Said u call.Collect reply.Ok) other turned = ap (λ (g : Graph). thread_of g t) turned.1.rest
  turn_other s after (Said u asked said) other turned = answers-beside s.graph u t (other_apart t u some turned.0.0 other) asked said after.graph turned.1
  turn_other s after (Collected u) other turned = ap (λ (g : Graph). thread_of g t) turned.1.rest

  -- what an own call that begins and ends no epoch leaves
  abbrev Grows : SpaceState → SpaceState → Entry → Type 0
  Grows s after x = ((thread_of after.graph t).made ≡ (thread_of s.graph t).made + entry_names x) × ((thread_of after.graph t).depth ≡ (thread_of s.graph t).depth)

  stays : (s after : SpaceState) → thread_of after.graph t ≡ thread_of s.graph t → ((thread_of after.graph t).made ≡ (thread_of s.graph t).made + 0) × ((thread_of after.graph t).depth ≡ (thread_of s.graph t).depth)
  stays s after e = (ap (λ (o : Thread). o.made) e ∙ sym (add-zero (thread_of s.graph t).made), ap (λ (o : Thread). o.depth) e)

  answered : (s after : SpaceState) (u : ℕ) (asked : Call) (said : Reply) → u ≡ t → is_bound (Said u asked said) ≡ false → IsThread s.graph u → answers s.graph u asked said after.graph → Grows s after (Said u asked said)
  answered s after u asked said same none thread answer =
      let tells = answers_tell u s.graph after.graph thread asked said answer in
      let depth = unbound_depth u (thread_of s.graph u).depth (Said u asked said) none in
      subst (λ v. ((thread_of after.graph v).made ≡ (thread_of s.graph v).made + entry_names (Said u asked said)) × ((thread_of after.graph v).depth ≡ (thread_of s.graph v).depth)) same (tells.0, tells.1 ∙ depth)

  turn_own : (s after : SpaceState) (x : Entry) → eqb (caller x) t ≡ true → is_bound x ≡ false → Turns s x after → Grows s after x
  turn_own s after (Said u call.End (reply.Ended moved tight)) own none turned = absurd (true≢false none)
  turn_own s after (Said u call.Collect reply.Ok) own none turned = stays s after (ap (λ (g : Graph). thread_of g t) turned.1.rest)
  turn_own s after (Said u asked said) own none turned = answered s after u asked said (same_thread t u own) none turned.0 turned.1
  turn_own s after (Collected u) own none turned = stays s after (ap (λ (g : Graph). thread_of g t) turned.1.rest)

  -- ---- homes

  own_home : (s : SpaceState) (u : ℕ) (n : Name) → (thread_of s.graph t).depth ≡ 1 → n.thread ≡ t → n ≡ next_name s.graph u → Some (innermost s.graph u) ≡ Some (Region t 1)
  own_home s u n deep thread is =
      let same : u ≡ t = sym (ap (λ (m : Name). m.thread) is) ∙ thread in
      ap (λ v. Some (innermost s.graph v)) same ∙ ap (λ d. Some (inner_of t d)) deep

  inserted : (s : SpaceState) (u : ℕ) (n : Name) → (thread_of s.graph t).depth ≡ 1 → n.thread ≡ t → home_of s n ≡ Some (Region t 1) → get (insert s.home (next_name s.graph u) (innermost s.graph u)) n ≡ Some (Region t 1)
  inserted s u n deep thread home = elim (same_or_other n (next_name s.graph u)) [
    | inl is ↦ ap (get (insert s.home (next_name s.graph u) (innermost s.graph u))) is ∙ get-same s.home (next_name s.graph u) (innermost s.graph u) ∙ own_home s u n deep thread is
    | inr other ↦ get-other s.home (next_name s.graph u) (innermost s.graph u) n other ∙ home
  ]

  homes_stay : (s : SpaceState) (u : ℕ) (asked : Call) (said : Reply) (n : Name) → (thread_of s.graph t).depth ≡ 1 → n.thread ≡ t → home_of s n ≡ Some (Region t 1) → get (homes_after s u asked said) n ≡ Some (Region t 1)
  homes_stay s u (call.New k) reply.Ok n deep thread home = inserted s u n deep thread home
  homes_stay s u asked said n deep thread home = home

  -- the epoch of another thread
  ended_other : (s after : SpaceState) (u d : ℕ) (n : Name) → u ≢ t → ((thread_of s.graph u).depth ≡ d) → 0 < d → ((m : Name) → home_of s m ≢ Some (innermost s.graph u) → home_of after m ≡ home_of s m) → home_of s n ≡ Some (Region t 1) → home_of after n ≡ Some (Region t 1)
  ended_other s after u zero n other is deep outside home = absurd (omega arith)
  ended_other s after u (suc d) n other is deep outside home =
      outside n (λ e. region_is t u d other (sym home ∙ e ∙ ap (λ k. Some (inner_of u k)) is)) ∙ home

  -- An entry leaves an object of the thread's outermost region where it is, unless it begins or ends an epoch of the thread.
  turn_stays : (s after : SpaceState) (x : Entry) → (eqb (caller x) t ≡ true → is_bound x ≡ false) → Turns s x after → (n : Name) → (thread_of s.graph t).depth ≡ 1 → n.thread ≡ t → home_of s n ≡ Some (Region t 1) → home_of after n ≡ Some (Region t 1)
  turn_stays s after (Said u call.End (reply.Ended moved tight)) unbound turned n deep thread home =
      ended_other s after u (thread_of s.graph u).depth n apart refl turned.1.open_epoch turned.1.outside home
    where
      apart : u ≢ t
      apart e = elim (eqb_tells u t) [ inl same ↦ true≢false (unbound same.0) | inr other ↦ other.1 e ]
  turn_stays s after (Said u call.Collect reply.Ok) unbound turned n deep thread home = turned.1.outside n (λ e. not_control t (sym home ∙ e)) ∙ home
  turn_stays s after (Said u asked said) unbound turned n deep thread home = ap (λ (m : finite.FinMap name_cmp Space). get m n) turned.2 ∙ homes_stay s u asked said n deep thread home
  turn_stays s after (Collected u) unbound turned n deep thread home = turned.1.outside n (λ e. not_control t (sym home ∙ e)) ∙ home

  -- a new object
  made_new : (s after : SpaceState) (u k : ℕ) (n : Name) → u ≡ t → (thread_of s.graph t).depth ≡ 1 → n.thread ≡ t → (thread_of s.graph t).made < n.serial → n.serial ≤ (thread_of s.graph t).made + 1
      → after.home ≡ insert s.home (next_name s.graph u) (innermost s.graph u) → home_of after n ≡ Some (Region t 1)
  made_new s after u k n same deep thread low high home =
      ap (λ (m : finite.FinMap name_cmp Space). get m n) home
      ∙ ap (get (insert s.home (next_name s.graph u) (innermost s.graph u))) is ∙ get-same s.home (next_name s.graph u) (innermost s.graph u) ∙ own_home s u n deep thread is
    where
      serial : n.serial ≡ (thread_of s.graph u).made + 1
      serial = let e = ap (λ v. (thread_of s.graph v).made) same in omega arith

      is : n ≡ next_name s.graph u
      is = λ i. record { thread = (thread ∙ sym same) i; serial = serial i }

  none_new : (a n m : ℕ) → a < n → n ≤ m → m ≡ a + 0 → ⊥
  none_new a n m low high e = omega arith

  turn_new : (s after : SpaceState) (x : Entry) → eqb (caller x) t ≡ true → is_bound x ≡ false → Turns s x after → (n : Name) → (thread_of s.graph t).depth ≡ 1 → n.thread ≡ t
      → (thread_of s.graph t).made < n.serial → n.serial ≤ (thread_of after.graph t).made → (thread_of after.graph t).made ≡ (thread_of s.graph t).made + entry_names x → home_of after n ≡ Some (Region t 1)
  turn_new s after (Said u (call.New k) reply.Ok) own none turned n deep thread low high made =
      made_new s after u k n (same_thread t u own) deep thread low (omega arith) turned.2
  turn_new s after x own none turned n deep thread low high made = absurd (none_new _ _ _ low high made)

  -- ---- runs

  -- one entry of a run in the epoch
  pub step : (s after : SpaceState) (x : Entry) → (eqb (caller x) t ≡ true → is_bound x ≡ false) → Turns s x after → (n : Name) → (thread_of s.graph t).depth ≡ 1 → n.thread ≡ t
      → ((thread_of s.graph t).made < n.serial) ⊎ (home_of s n ≡ Some (Region t 1)) → ((thread_of after.graph t).depth ≡ 1) × (((thread_of after.graph t).made < n.serial) ⊎ (home_of after n ≡ Some (Region t 1)))
  step s after x unbound turned n deep thread which =
      elim (eqb (caller x) t) as (λ b. eqb (caller x) t ≡ b → ((thread_of after.graph t).depth ≡ 1) × (((thread_of after.graph t).made < n.serial) ⊎ (home_of after n ≡ Some (Region t 1)))) [
        | true ↦ λ own.
            let grown = turn_own s after x own (unbound own) turned in (
              grown.1 ∙ deep,
              elim which [
                | inr home ↦ inr (turn_stays s after x unbound turned n deep thread home)
                | inl low ↦ elim (cases_lt (thread_of after.graph t).made n.serial) [
                  | inl later ↦ inl later
                  | inr now ↦ inr (turn_new s after x own (unbound own) turned n deep thread low now grown.0)
                ]
              ],
            )
        | false ↦ λ other.
            let same = turn_other s after x other turned in (
              ap (λ (o : Thread). o.depth) same ∙ deep,
              elim which [
                | inr home ↦ inr (turn_stays s after x unbound turned n deep thread home)
                | inl low ↦ inl (let m = ap (λ (o : Thread). o.made) same in omega arith)
              ],
            )
      ] refl

  first_unbound : (x : Entry) (list : List Entry) → bounds_in (part (x ∷ list) t) ≡ [] → (eqb (caller x) t ≡ true → is_bound x ≡ false) × (bounds_in (part list t) ≡ [])
  first_unbound x list none =
      elim (eqb (caller x) t) as (λ b. eqb (caller x) t ≡ b → bounds_in (cond b (x ∷ part list t) (part list t)) ≡ [] → (b ≡ true → is_bound x ≡ false) × (bounds_in (part list t) ≡ [])) [
        | true ↦ λ _ e. own (is_bound x) refl e
        | false ↦ λ _ e. ((λ f. absurd (true≢false (sym f))), e)
      ] refl none
    where
      own : (b : Bool) → is_bound x ≡ b → cond b (x ∷ bounds_in (part list t)) (bounds_in (part list t)) ≡ [] → (true ≡ true → b ≡ false) × (bounds_in (part list t) ≡ [])
      own true is e = cc
      own false is e = ((λ _. refl), e)

  pub run : (list : List Entry) (s after : SpaceState) → TurnsAll s list after → bounds_in (part list t) ≡ [] → (n : Name) → (thread_of s.graph t).depth ≡ 1 → n.thread ≡ t
      → ((thread_of s.graph t).made < n.serial) ⊎ (home_of s n ≡ Some (Region t 1)) → ((thread_of after.graph t).made < n.serial) ⊎ (home_of after n ≡ Some (Region t 1))
  run [] s after e none n deep thread which = subst (λ (x : SpaceState). ((thread_of x.graph t).made < n.serial) ⊎ (home_of x n ≡ Some (Region t 1))) (sym e) which
  run (x ∷ list) s after (mid, turned, rest) none n deep thread which =
      let u = first_unbound x list none in
      let next = step s mid x u.0 turned n deep thread which in
      run list mid after rest u.1 n next.0 thread next.1

  -- What the thread made in its outermost epoch is there, as long as the epoch goes on.
  pub task_homes : (threads : ℕ) (before list : List Entry) (s : SpaceState) → spaces standard_limits threads (before ++ Said t call.Begin reply.Ok ∷ list) s → depth_in 0 (part before t) ≡ 0 → bounds_in (part list t) ≡ []
      → (n : Name) → n.thread ≡ t → names_in (part before t) < n.serial → n.serial ≤ (thread_of s.graph t).made → home_of s n ≡ Some (Region t 1)
  task_homes threads before list s turned outside none n thread low high =
      let cut = turns_between (opening_spaces standard_limits threads) s before (Said t call.Begin reply.Ok ∷ list) turned in
      let first : SpaceState = cut.0 in
      let agreed = machines_agree standard_limits threads before first cut.1 in
      let told = led_all t some standard_limits threads before agreed.0 agreed.1 in
      let same : thread_of first.graph t ≡ thread_of agreed.0 t = ap (λ (ts : List Thread). get_or ts (t - 1) idle) agreed.2.threads in
      let begun : SpaceState = cut.2.0 in
      let tells = answers_tell t first.graph begun.graph cut.2.1.0 call.Begin reply.Ok cut.2.1.1 in
      let deep : (thread_of begun.graph t).depth ≡ 1 = let d = ap (λ (o : Thread). o.depth) same in let o = told.1 in let e = tells.1 in omega arith in
      let made : (thread_of begun.graph t).made < n.serial = let m = ap (λ (o : Thread). o.made) same in let o = told.0 in let e = tells.0 in omega arith in
      elim (run list begun s cut.2.2 none n deep thread (inl made)) [
        | inl later ↦ absurd (omega arith)
        | inr home ↦ home
      ]
