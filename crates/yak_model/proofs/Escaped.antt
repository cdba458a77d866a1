-- The end of an epoch on a list of objects is one of their space state.
use Rattle.std.proofs.Common.{◌≡◌, ◌≢◌, ◌↔◌, ℕ, zero, suc, ◌+◌, ◌-◌, ◌<◌, List, [], ◌∷◌, Bool, false, true≢false, cond, ◌||◌, length, get_or, refl, ◌∙◌, ap, sym, subst, inl, inr, arith, Option, Some, None, is_some, IsTrue, count_by}
use Rattle.std.proofs.lemmas.List.Sums.{sum_by-cons}
use Rattle.std.specs.List.{Contains}
use Rattle.std.specs.FinSet as names
use Rattle.object_layout.specs.declared.names.Name.{Name}
use Rattle.epoch_lattice.specs.declared.TheConstants.{MAX_DEPTH}
use Rattle.epoch_lattice.specs.declared.Space.{Space}
use Rattle.epoch_lattice.specs.declared.Space.TheVariants.{Control}
use Rattle.epoch_lattice.specs.Lattice.{IsBelow, IsLeastAbove, inner_of}
use Rattle.epoch_lattice.proofs.Lattice.{below-transitive}
use Rattle.yak_model.specs.declared.datum.Datum.TheVariants as datum
use Rattle.yak_model.specs.Names.{name_cmp}
use Rattle.yak_model.specs.Graph.{Limits, Thread, fields_or_none, idle}
use Rattle.yak_model.specs.Kept.{AreDistinct, AreValid, IsJoinOf, IsLedTo, IsListReached, IsListSource, IsTargetValid, Kept, ListInside, fields_of_place, final, home_at, name_at, settled, state_of, target_at, threads_at}
use Rattle.yak_model.specs.Spaces.{Counts, EndsEpoch, Escapes, IsReachedFor, IsTarget, RefersInside, Source, SpaceState, content_at, field, home_of, other, own}
use Rattle.yak_model.proofs.Agreement.{same_or_other_space}
use Rattle.yak_model.proofs.Names.{different, name_cmp_total}
use Rattle.yak_model.proofs.Collected.{absent_after, content_of_place, contents_kept, home_absent, home_after, home_of_place, place_of_present}
use Rattle.yak_model.proofs.Settled.{head_differs, place_or_none, tail_distinct}
use Rattle.std.specs.Ordering.{is_eq}
use Rattle.std.specs.Cmp.{tied_itself}
use Rattle.yak_model.proofs.Walks.{walk_keeps, walk_map}

some_is : {X : Type 0} {x y : X} {o : Option X} → o ≡ Some x → o ≡ Some y → x ≡ y
some_is p q = cc

none_some : {X : Type 0} {x : X} {o : Option X} → o ≡ None → o ≡ Some x → ⊥
none_some p q = true≢false (sym (ap is_some q) ∙ ap is_some p)

pub all_valid : (targets : List (Option Space)) → ((i : ℕ) → i < length targets → IsTargetValid (target_at targets i)) → AreValid MAX_DEPTH targets
all_valid [] h i space e = cc
all_valid (x ∷ rest) h zero space e = subst IsTargetValid e (h 0 (omega arith))
all_valid (x ∷ rest) h (suc i) space e = all_valid rest (λ k lt. h (suc k) (omega arith)) i space e

-- the targets that are spread are the joins of all references that lead to an object
pub spread_join : (threads : List Thread) (objects : List Kept) (t : ℕ) (region : Space) (first targets : List (Option Space))
    → ((i : ℕ) → i < length objects → home_at objects i ≡ region → IsJoinOf (IsListSource threads objects t region (name_at objects i)) (target_at first i))
    → ((i : ℕ) → i < length objects → home_at objects i ≢ region → target_at first i ≡ None)
    → ((i : ℕ) (space : Space) → i < length objects → target_at targets i ≡ Some space → (f : Space) × IsLedTo objects region first (name_at objects i) f)
    → ((i : ℕ) (space : Space) → i < length objects → target_at targets i ≡ Some space → (bound : Space) → ((f : Space) → IsLedTo objects region first (name_at objects i) f → IsBelow f bound) → IsBelow space bound)
    → ((i : ℕ) (f : Space) → i < length objects → IsLedTo objects region first (name_at objects i) f → (space : Space) × (target_at targets i ≡ Some space) × IsBelow f space)
    → (i : ℕ) → i < length objects → IsJoinOf (IsListReached threads objects t region (name_at objects i)) (target_at targets i)
spread_join threads objects t region first targets inside outside caused least above i lt =
    elim (target_at targets i) as (λ o. target_at targets i ≡ o → IsJoinOf Reached o) [
      | None ↦ λ e space r. let led = led_of space r in let up = above i led.0 lt led.1 in none_some e up.1
      | Some y ↦ λ e. (
        record {
          above = λ space r.
              let led = led_of space r in
              let up = above i led.0 lt led.1 in
              below-transitive space led.0 y led.2 (subst (IsBelow led.0) (some_is up.1 e) up.2);
          least = λ bound all. least i y lt e bound (λ f led. least_of f led bound all);
        },
        any y e,
      )
    ] refl
  where
    Reached : Space → Type 0
    Reached = IsListReached threads objects t region (name_at objects i)

    led_of : (space : Space) → Reached space → (f : Space) × IsLedTo objects region first (name_at objects i) f × IsBelow space f
    led_of space r =
        elim (target_at first r.1.0) as (λ o. target_at first r.1.0 ≡ o → IsJoinOf (IsListSource threads objects t region (name_at objects r.1.0)) o → (f : Space) × IsLedTo objects region first (name_at objects i) f × IsBelow space f) [
          | None ↦ λ e join. absurd (join space r.1.3)
          | Some f ↦ λ e join. (f, (r.0, (r.1.0, r.1.1, e, r.1.4), r.2), join.0.above space r.1.3)
        ] refl (inside r.1.0 r.1.1 r.1.2)

    at_root : (f : Space) (j : ℕ) → j < length objects → target_at first j ≡ Some f → (home_at objects j ≡ region) × IsLeastAbove (IsListSource threads objects t region (name_at objects j)) f × ((space : Space) × IsListSource threads objects t region (name_at objects j) space)
    at_root f j ltj e =
        elim (same_or_other_space (home_at objects j) region) [
          | inl home ↦ let join = subst (IsJoinOf (IsListSource threads objects t region (name_at objects j))) e (inside j ltj home) in (home, join.0, join.1)
          | inr o ↦ absurd (none_some (outside j ltj o) e)
        ]

    least_of : (f : Space) → IsLedTo objects region first (name_at objects i) f → (bound : Space) → ((space : Space) → Reached space → IsBelow space bound) → IsBelow f bound
    least_of f led bound all =
        let root = at_root f led.1.0 led.1.1 led.1.2 in
        root.1.least bound (λ space source. all space (led.0, (led.1.0, led.1.1, root.0, source, led.1.3), led.2))

    any : (y : Space) → target_at targets i ≡ Some y → (space : Space) × Reached space
    any y e =
        let cause = caused i y lt e in
        let root = at_root cause.0 cause.1.1.0 cause.1.1.1 cause.1.1.2 in
        (root.2.0, (cause.1.0, (cause.1.1.0, cause.1.1.1, root.0, root.2.1, cause.1.1.3), cause.1.2))

-- the names of the objects with a target
pub with_target : List Kept → List (Option Space) → names.FinSet name_cmp
with_target [] targets = names.empty
with_target (o ∷ rest) [] = names.empty
with_target (o ∷ rest) (None ∷ targets) = with_target rest targets
with_target (o ∷ rest) (Some space ∷ targets) = names.insert (with_target rest targets) o.name

counted : (x : Option Space) (targets : List (Option Space)) → cond (is_some x) (count_by is_some targets + 1) (count_by is_some targets) ≡ count_by is_some (x ∷ targets)
counted None targets = omega (arith, sum_by-cons (λ (y : Option Space). cond (is_some y) 1 0) None targets)
counted (Some space) targets = omega (arith, sum_by-cons (λ (y : Option Space). cond (is_some y) 1 0) (Some space) targets)

not_with_target : (objects : List Kept) (targets : List (Option Space)) (name : Name) → ((i : ℕ) → i < length objects → name_at objects i ≢ name) → names.contains (with_target objects targets) name ≡ false
unfolding with_target
not_with_target [] targets name h = names.contains-empty name_cmp name
not_with_target (o ∷ rest) [] name h = names.contains-empty name_cmp name
not_with_target (o ∷ rest) (None ∷ targets) name h = not_with_target rest targets name (λ i lt. h (suc i) (omega arith))
not_with_target (o ∷ rest) (Some space ∷ targets) name h =
    names.contains-insert name_cmp_total (with_target rest targets) o.name name
    ∙ (λ i. different name o.name (λ e. h 0 (omega arith) (sym e)) i || not_with_target rest targets name (λ k lt. h (suc k) (omega arith)) i)

pub is_with_target : (objects : List Kept) (targets : List (Option Space)) → AreDistinct objects → length targets ≡ length objects → (i : ℕ) → i < length objects → names.contains (with_target objects targets) (name_at objects i) ≡ is_some (target_at targets i)
unfolding with_target
is_with_target [] targets distinct l i lt = absurd (omega arith)
is_with_target (o ∷ rest) [] distinct l i lt = absurd (omega arith)
is_with_target (o ∷ rest) (None ∷ targets) distinct l zero lt = not_with_target rest targets o.name (head_differs o rest distinct)
is_with_target (o ∷ rest) (None ∷ targets) distinct l (suc i) lt = is_with_target rest targets (tail_distinct o rest distinct) (omega arith) i (omega arith)
is_with_target (o ∷ rest) (Some space ∷ targets) distinct l zero lt =
    names.contains-insert name_cmp_total (with_target rest targets) o.name o.name
    ∙ ap (λ r. is_eq r || names.contains (with_target rest targets) o.name) (tied_itself name_cmp_total o.name)
is_with_target (o ∷ rest) (Some space ∷ targets) distinct l (suc i) lt =
    names.contains-insert name_cmp_total (with_target rest targets) o.name (name_at rest i)
    ∙ (λ j. different (name_at rest i) o.name (head_differs o rest distinct i (omega arith)) j || is_with_target rest targets (tail_distinct o rest distinct) (omega arith) i (omega arith) j)

len_with_target : (objects : List Kept) (targets : List (Option Space)) → AreDistinct objects → length targets ≡ length objects → names.len (with_target objects targets) ≡ count_by is_some targets
unfolding with_target
len_with_target [] [] distinct l = names.len-empty name_cmp
len_with_target [] (x ∷ targets) distinct l = absurd (omega arith)
len_with_target (o ∷ rest) [] distinct l = absurd (omega arith)
len_with_target (o ∷ rest) (None ∷ targets) distinct l = len_with_target rest targets (tail_distinct o rest distinct) (omega arith) ∙ counted None targets
len_with_target (o ∷ rest) (Some space ∷ targets) distinct l =
    names.len-insert name_cmp_total (with_target rest targets) o.name
    ∙ ap (λ b. cond b (names.len (with_target rest targets)) (names.len (with_target rest targets) + 1)) (not_with_target rest targets o.name (head_differs o rest distinct))
    ∙ ap (λ n. n + 1) (len_with_target rest targets (tail_distinct o rest distinct) (omega arith))
    ∙ counted (Some space) targets

module _ (limits : Limits) (threads : List Thread) (objects : List Kept) (distinct : AreDistinct objects) (t : ℕ) (region : Space) where
  abbrev start : SpaceState
  start = state_of limits threads objects

  fields_at_place : (i : ℕ) (name : Name) → i < length objects → name_at objects i ≡ name → fields_or_none (content_at start.graph name) ≡ fields_of_place objects i
  fields_at_place i name lt e = ap fields_or_none (ap (content_at start.graph) (sym e) ∙ content_of_place limits threads objects distinct i lt)

  home_at_place : (i : ℕ) (name : Name) → i < length objects → name_at objects i ≡ name → home_of start name ≡ Some (home_at objects i)
  home_at_place i name lt e = ap (home_of start) (sym e) ∙ home_of_place limits threads objects distinct i lt

  place_at_home : (name : Name) (space : Space) → home_of start name ≡ Some space → (i : ℕ) × (i < length objects) × (name_at objects i ≡ name) × (home_at objects i ≡ space)
  place_at_home name space e =
      let p : (i : ℕ) × (i < length objects) × (name_at objects i ≡ name) = place_of_present limits threads objects distinct name (ap is_some e) in
      (p.0, p.1, p.2, some_is (home_at_place p.0 name p.1 p.2) e)

  inside_list : (a b : Name) → RefersInside start region a b → ListInside objects region a b
  inside_list a b e =
      let p : (i : ℕ) × (i < length objects) × (name_at objects i ≡ a) × (home_at objects i ≡ region) = place_at_home a region e.0 in
      let q : (i : ℕ) × (i < length objects) × (name_at objects i ≡ b) × (home_at objects i ≡ region) = place_at_home b region e.2 in
      record {
        source = p.0;
        source_place = p.1;
        source_name = p.2;
        source_home = p.3;
        refers = subst (λ l. Contains l (datum.Object b)) (fields_at_place p.0 a p.1 p.2) e.1;
        goal = q.0;
        goal_place = q.1;
        goal_name = q.2;
        goal_home = q.3;
      }

  list_inside : (a b : Name) → ListInside objects region a b → RefersInside start region a b
  list_inside a b e = (
    home_at_place e.source a e.source_place e.source_name ∙ ap Some e.source_home,
    subst (λ l. Contains l (datum.Object b)) (sym (fields_at_place e.source a e.source_place e.source_name)) e.refers,
    home_at_place e.goal b e.goal_place e.goal_name ∙ ap Some e.goal_home,
  )

  source_home : (name : Name) (space : Space) → Source start t region name space → home_of start name ≡ Some region
  source_home name space (field from _ _ h n r e) = e
  source_home name space (own _ on e) = e
  source_home name space (other _ u n on e) = e

  list_source : (name : Name) (space : Space) → Source start t region name space → IsListSource threads objects t region name space
  list_source name space (field from _ _ h n r e) =
      let p : (i : ℕ) × (i < length objects) × (name_at objects i ≡ from) × (home_at objects i ≡ space) = place_at_home from space h in
      inl (inl (p.0, p.1, (λ q. n (sym p.3 ∙ q)), subst (λ l. Contains l (datum.Object name)) (fields_at_place p.0 from p.1 p.2) r, p.3))
  list_source name space (own _ on e) = inl (inr (on, refl))
  list_source name space (other _ u n on e) = inr ((u, n, on), refl)

  source_of_list : (name : Name) (space : Space) → home_of start name ≡ Some region → IsListSource threads objects t region name space → Source start t region name space
  source_of_list name space home (inl (inl f)) =
      field (name_at objects f.0) name space (home_at_place f.0 (name_at objects f.0) f.1 refl ∙ ap Some f.4) (λ e. f.2 (f.4 ∙ e))
      (subst (λ l. Contains l (datum.Object name)) (sym (fields_at_place f.0 (name_at objects f.0) f.1 refl)) f.3) home
  source_of_list name space home (inl (inr o)) = subst (Source start t region name) o.1 (own name o.0 home)
  source_of_list name space home (inr o) = subst (Source start t region name) o.1 (other name o.0.0 o.0.1 o.0.2 home)

  list_reached : (name : Name) (space : Space) → IsReachedFor start t region name space → IsListReached threads objects t region name space
  list_reached name space h =
      let p : (i : ℕ) × (i < length objects) × (name_at objects i ≡ h.0) × (home_at objects i ≡ region) = place_at_home h.0 region (source_home h.0 space h.1) in
      (h.0, (p.0, p.1, p.3, subst (λ n. IsListSource threads objects t region n space) (sym p.2) (list_source h.0 space h.1), p.2), walk_map inside_list h.2)

  reached_of_list : (name : Name) (space : Space) → IsListReached threads objects t region name space → IsReachedFor start t region name space
  reached_of_list name space h =
      (h.0, source_of_list h.0 space (home_at_place h.1.0 h.0 h.1.1 h.1.4 ∙ ap Some h.1.2) (subst (λ n. IsListSource threads objects t region n space) h.1.4 h.1.3), walk_map list_inside h.2)

  reached_home : (name : Name) (space : Space) → IsReachedFor start t region name space → home_of start name ≡ Some region
  reached_home name space h = walk_keeps (λ n. home_of start n ≡ Some region) (λ a b k e. e.2) (source_home h.0 space h.1) h.2

  -- exactly the objects that escape have a target
  module _ (targets : List (Option Space)) (count : length targets ≡ length objects)
      (join : (i : ℕ) → i < length objects → IsJoinOf (IsListReached threads objects t region (name_at objects i)) (target_at targets i)) where
    pub target_members : (name : Name) → IsTrue (names.contains (with_target objects targets) name) ↔ Escapes start t region name
    target_members name =
        elim (place_or_none objects name) [
          | inl p ↦
              let tested : names.contains (with_target objects targets) name ≡ is_some (target_at targets p.0) =
              ap (names.contains (with_target objects targets)) (sym p.2) ∙ is_with_target objects targets distinct count p.0 p.1 in
              elim (target_at targets p.0) as (λ o. target_at targets p.0 ≡ o → IsJoinOf (IsListReached threads objects t region (name_at objects p.0)) o → IsTrue (names.contains (with_target objects targets) name) ↔ Escapes start t region name) [
                | None ↦ λ e j. (
                  λ h. absurd (true≢false (sym h ∙ tested ∙ ap is_some e)),
                  λ esc. absurd (j esc.0 (subst (λ n. IsListReached threads objects t region n esc.0) (sym p.2) (list_reached name esc.0 esc.1))),
                )
                | Some y ↦ λ e j. (
                  λ h. (j.1.0, reached_of_list name j.1.0 (subst (λ n. IsListReached threads objects t region n j.1.0) p.2 j.1.1)),
                  λ esc. tested ∙ ap is_some e,
                )
              ] refl (join p.0 p.1)
          | inr absent ↦ (
            λ h. absurd (true≢false (sym h ∙ not_with_target objects targets name absent)),
            λ esc.
                let p : (i : ℕ) × (i < length objects) × (name_at objects i ≡ name) × (home_at objects i ≡ region) = place_at_home name region (reached_home name esc.0 esc.1) in
                absurd (absent p.0 p.1 p.2),
          )
        ]

  module _ (targets homes : List (Option Space)) (tight : Bool) (count : length targets ≡ length objects) (size : length homes ≡ length objects)
      (join : (i : ℕ) → i < length objects → IsJoinOf (IsListReached threads objects t region (name_at objects i)) (target_at targets i))
      (inside : (i : ℕ) → i < length objects → home_at objects i ≡ region → target_at homes i ≡ final tight (target_at targets i))
      (outside : (i : ℕ) → i < length objects → home_at objects i ≢ region → target_at homes i ≡ Some (home_at objects i)) where
    abbrev finish : SpaceState
    finish = state_of limits threads (settled objects homes)

    finish_home : (i : ℕ) (name : Name) → i < length objects → name_at objects i ≡ name → home_of finish name ≡ target_at homes i
    finish_home i name lt e = ap (home_of finish) (sym e) ∙ home_after limits threads objects distinct homes size i lt

    pub escaping_moves : (name : Name) → Escapes start t region name → (target : Space) × IsTarget start t region name target × (home_of finish name ≡ Some (cond tight Control target))
    escaping_moves name esc =
        let p : (i : ℕ) × (i < length objects) × (name_at objects i ≡ name) × (home_at objects i ≡ region) = place_at_home name region (reached_home name esc.0 esc.1) in
        let listed : (space : Space) → IsReachedFor start t region name space → IsListReached threads objects t region (name_at objects p.0) space = λ space r. subst (λ n. IsListReached threads objects t region n space) (sym p.2) (list_reached name space r) in
        let back : (space : Space) → IsListReached threads objects t region (name_at objects p.0) space → IsReachedFor start t region name space = λ space r. reached_of_list name space (subst (λ n. IsListReached threads objects t region n space) p.2 r) in
        elim (target_at targets p.0) as (λ o. target_at targets p.0 ≡ o → IsJoinOf (IsListReached threads objects t region (name_at objects p.0)) o → (target : Space) × IsTarget start t region name target × (home_of finish name ≡ Some (cond tight Control target))) [
          | None ↦ λ e j. absurd (j esc.0 (listed esc.0 esc.1))
          | Some y ↦ λ e j. (
            y,
            record { above = λ space r. j.0.above space (listed space r); least = λ bound all. j.0.least bound (λ space r. all space (back space r)) },
            finish_home p.0 name p.1 p.2 ∙ inside p.0 p.1 p.3 ∙ ap (final tight) e,
          )
        ] refl (join p.0 p.1)

    pub others_dropped : (name : Name) → home_of start name ≡ Some region → (Escapes start t region name → ⊥) → home_of finish name ≡ None
    others_dropped name home stays =
        let p : (i : ℕ) × (i < length objects) × (name_at objects i ≡ name) × (home_at objects i ≡ region) = place_at_home name region home in
        elim (target_at targets p.0) as (λ o. target_at targets p.0 ≡ o → IsJoinOf (IsListReached threads objects t region (name_at objects p.0)) o → home_of finish name ≡ None) [
          | None ↦ λ e j. finish_home p.0 name p.1 p.2 ∙ inside p.0 p.1 p.3 ∙ ap (final tight) e
          | Some y ↦ λ e j. absurd (stays (j.1.0, reached_of_list name j.1.0 (subst (λ n. IsListReached threads objects t region n j.1.0) p.2 j.1.1)))
        ] refl (join p.0 p.1)

    pub outside_stay : (name : Name) → home_of start name ≢ Some region → home_of finish name ≡ home_of start name
    outside_stay name elsewhere =
        elim (place_or_none objects name) [
          | inl p ↦
              finish_home p.0 name p.1 p.2 ∙ outside p.0 p.1 (λ e. elsewhere (home_at_place p.0 name p.1 p.2 ∙ ap Some e)) ∙ sym (home_at_place p.0 name p.1 p.2)
          | inr absent ↦ absent_after limits threads objects distinct homes size name absent ∙ sym (home_absent limits threads objects distinct name absent)
        ]

    pub moved_count : Counts (Escapes start t region) (count_by is_some targets)
    moved_count = (with_target objects targets, target_members targets count join, sym (len_with_target objects targets distinct count))

-- the end of the innermost epoch of a thread
pub ends_settled : (limits : Limits) (threads : List Thread) (objects : List Kept) (distinct : AreDistinct objects) (t : ℕ) (region : Space)
    → region ≡ inner_of t (get_or threads (t - 1) idle).depth → 0 < (get_or threads (t - 1) idle).depth
    → (targets homes : List (Option Space)) (tight : Bool) → length targets ≡ length objects → length homes ≡ length objects
    → ((i : ℕ) → i < length objects → IsJoinOf (IsListReached threads objects t region (name_at objects i)) (target_at targets i))
    → ((i : ℕ) → i < length objects → home_at objects i ≡ region → target_at homes i ≡ final tight (target_at targets i))
    → ((i : ℕ) → i < length objects → home_at objects i ≢ region → target_at homes i ≡ Some (home_at objects i))
    → EndsEpoch (state_of limits threads objects) t (count_by is_some targets) tight (state_of limits (threads_at threads t ((get_or threads (t - 1) idle).depth - 1)) (settled objects homes))
ends_settled limits threads objects distinct t region same deep targets homes tight count size join inside outside = record {
  open_epoch = deep;
  escaping = subst (λ r. (name : Name) → Escapes Start t r name → (target : Space) × IsTarget Start t r name target × (home_of Finish name ≡ Some (cond tight Control target))) same
      (escaping_moves limits threads objects distinct t region targets homes tight count size join inside outside);
  dropped = subst (λ r. (name : Name) → home_of Start name ≡ Some r → (Escapes Start t r name → ⊥) → home_of Finish name ≡ None) same
      (others_dropped limits threads objects distinct t region targets homes tight count size join inside outside);
  outside = subst (λ r. (name : Name) → home_of Start name ≢ Some r → home_of Finish name ≡ home_of Start name) same
      (outside_stay limits threads objects distinct t region targets homes tight count size join inside outside);
  contents = contents_kept limits threads objects distinct homes size;
  rest = refl;
  count = subst (λ r. Counts (Escapes Start t r) (count_by is_some targets)) same
      (moved_count limits threads objects distinct t region targets homes tight count size join inside outside);
}
  where
    Start : SpaceState
    Start = state_of limits threads objects

    Finish : SpaceState
    Finish = state_of limits threads (settled objects homes)
