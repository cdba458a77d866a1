-- Targets of objects that walks lead to.
use Rattle.std.proofs.Common.{◌≡◌, ◌≢◌, ◌⊎◌, ℕ, ◌<◌, ◌+◌, List, length, set, refl, ◌∙◌, ap, sym, subst, inl, inr, arith, Option, Some, None, get_or-set_other, get_or-set_same}
use Rattle.std.proofs.lemmas.Bool.Decides.{nat_tests}
use Rattle.std.proofs.lemmas.List.Sums.{sum_by-set}
use Rattle.std.specs.List.{Contains, sum_by}
use Rattle.object_layout.specs.declared.names.Name.{Name}
use Rattle.epoch_lattice.specs.declared.TheConstants.{MAX_DEPTH}
use Rattle.epoch_lattice.specs.declared.Space.{Space}
use Rattle.epoch_lattice.specs.declared.Space.TheVariants.{Control, Region}
use Rattle.epoch_lattice.specs.Lattice.{IsBelow, IsValid}
use Rattle.epoch_lattice.proofs.Lattice.{below-transitive, join-above, join-closed, join-least}
use Rattle.yak_model.specs.declared.datum.Datum.TheVariants as datum
use Rattle.yak_model.specs.Kept.{AreDistinct, AreValid, IsAbove, IsLedTo, Kept, ListInside, fields_of_place, home_at, joined, name_at, target_at}
use Rattle.yak_model.specs.Spaces.{onward}
use Rattle.yak_model.proofs.Marks.{same_or_other_place}
use Rattle.yak_model.proofs.Walks.{walk_keeps}

-- how far a target is from the top
abbrev pub height : Option Space → ℕ
height None = MAX_DEPTH + 1
height (Some Control) = 0
height (Some (Region thread depth)) = depth

falls : (a b : Space) → IsValid MAX_DEPTH a → IsBelow a b → a ≢ b → height (Some b) < height (Some a)
falls Control b h k n = absurd (n k)
falls (Region t d) Control h k n = omega arith
falls (Region t d) (Region u e) h k n = grind (arith, nat_tests)

low : (a : Space) → IsValid MAX_DEPTH a → height (Some a) < MAX_DEPTH + 1
low Control h = omega arith
low (Region t d) h = omega arith

pub raised_falls : (before : Option Space) (x space : Space) → ((o : Space) → before ≡ Some o → IsValid MAX_DEPTH o) → IsValid MAX_DEPTH x → space ≡ joined before x → before ≢ Some space → height (Some space) < height before
raised_falls None x space valid h e n = rw e (low x h)
raised_falls (Some o) x space valid h e n =
    falls o space (valid o refl) (rw e (join-above o x)) (λ q. n (ap Some q))

module _ (objects : List Kept) (region : Space) (first targets : List (Option Space)) (i : ℕ) (space : Space) (inside : i < length targets) where
  at_place : target_at (set targets i (Some space)) i ≡ Some space
  at_place = get_or-set_same targets i (Some space) None inside

  -- what an object has after the step, if it has something
  pub after_cases : (k : ℕ) (s : Space) → target_at (set targets i (Some space)) k ≡ Some s → ((k ≡ i) × (space ≡ s)) ⊎ (target_at targets k ≡ Some s)
  after_cases k s h =
      elim (same_or_other_place k i) [
        | inl e ↦ inl (e, same (sym at_place ∙ ap (target_at (set targets i (Some space))) (sym e) ∙ h))
        | inr o ↦ inr (sym (get_or-set_other targets i k (Some space) None o) ∙ h)
      ]
    where
      same : Some space ≡ Some s → space ≡ s
      same q = cc

  pub less_height : target_at targets i ≢ Some space → height (Some space) < height (target_at targets i) → sum_by height (set targets i (Some space)) < sum_by height targets
  less_height n h = omega (arith, sum_by-set height targets i (Some space) None inside, h)

  module _ (x : Space) (is : space ≡ joined (target_at targets i) x) where
    pub still_above : (k : ℕ) (s : Space) → target_at targets k ≡ Some s → (t : Space) × (target_at (set targets i (Some space)) k ≡ Some t) × IsBelow s t
    still_above k s h =
        elim (same_or_other_place k i) [
          | inl e ↦ (space, ap (target_at (set targets i (Some space))) e ∙ at_place, above (ap (target_at targets) (sym e) ∙ h))
          | inr o ↦ (s, get_or-set_other targets i k (Some space) None o ∙ h, itself s)
        ]
      where
        itself : (a : Space) → IsBelow a a
        itself Control = refl
        itself (Region t d) = grind (arith, nat_tests)

        above : target_at targets i ≡ Some s → IsBelow s space
        above q = subst (IsBelow s) (sym (is ∙ ap (λ o. joined o x) q)) (join-above s x)

    pub still_valid : AreValid MAX_DEPTH targets → IsValid MAX_DEPTH x → AreValid MAX_DEPTH (set targets i (Some space))
    still_valid valid h k s e =
        elim (after_cases k s e) [
          | inl q ↦ subst (IsValid MAX_DEPTH) q.1 (rw is (joined_valid (target_at targets i) (valid i)))
          | inr old ↦ valid k s old
        ]
      where
        joined_valid : (o : Option Space) → ((a : Space) → o ≡ Some a → IsValid MAX_DEPTH a) → IsValid MAX_DEPTH (joined o x)
        joined_valid None v = h
        joined_valid (Some a) v = join-closed MAX_DEPTH a x (v a refl) h

    module _ (j : ℕ) (place : j < length objects) (goal : i < length objects) (home : home_at objects j ≡ region) (goal_home : home_at objects i ≡ region) (refers : Contains (fields_of_place objects j) (datum.Object (name_at objects i))) where
      further : (f : Space) → IsLedTo objects region first (name_at objects j) f → IsLedTo objects region first (name_at objects i) f
      further f led = (
        led.0,
        led.1,
        onward led.2 (record {
          source = j;
          source_place = place;
          source_name = refl;
          source_home = home;
          refers = refers;
          goal = i;
          goal_place = goal;
          goal_name = refl;
          goal_home = goal_home;
        }),
      )

      pub still_caused : target_at targets j ≡ Some x
          → ((k : ℕ) (s : Space) → k < length objects → target_at targets k ≡ Some s → (f : Space) × IsLedTo objects region first (name_at objects k) f)
          → (k : ℕ) (s : Space) → k < length objects → target_at (set targets i (Some space)) k ≡ Some s → (f : Space) × IsLedTo objects region first (name_at objects k) f
      still_caused e caused k s lt h =
          elim (after_cases k s h) [
            | inl q ↦
                let cause : (f : Space) × IsLedTo objects region first (name_at objects j) f = caused j x place e in
                (cause.0, subst (λ p. IsLedTo objects region first (name_at objects p) cause.0) (sym q.0) (further cause.0 cause.1))
            | inr old ↦ caused k s lt old
          ]

      pub still_least : target_at targets j ≡ Some x
          → ((k : ℕ) (s : Space) → k < length objects → target_at targets k ≡ Some s → (bound : Space) → ((f : Space) → IsLedTo objects region first (name_at objects k) f → IsBelow f bound) → IsBelow s bound)
          → (k : ℕ) (s : Space) → k < length objects → target_at (set targets i (Some space)) k ≡ Some s → (bound : Space) → ((f : Space) → IsLedTo objects region first (name_at objects k) f → IsBelow f bound) → IsBelow s bound
      still_least e least k s lt h bound all =
          elim (after_cases k s h) [
            | inl q ↦
                let all_here : (f : Space) → IsLedTo objects region first (name_at objects i) f → IsBelow f bound = λ f led. all f (subst (λ p. IsLedTo objects region first (name_at objects p) f) (sym q.0) led) in
                let low_cause : IsBelow x bound = least j x place e bound (λ f led. all_here f (further f led)) in
                subst (λ a. IsBelow a bound) q.1 (rw is (joined_least (target_at targets i) low_cause (λ o p. least i o goal p bound all_here)))
            | inr old ↦ least k s lt old bound all
          ]
        where
          joined_least : (o : Option Space) → IsBelow x bound → ((a : Space) → o ≡ Some a → IsBelow a bound) → IsBelow (joined o x) bound
          joined_least None p v = p
          joined_least (Some a) p v = join-least a x bound (v a refl) p

-- where no target has to rise, each is above all that lead to it
pub above_at_end : (objects : List Kept) (region : Space) (first targets : List (Option Space)) → AreDistinct objects
    → ((k : ℕ) (f : Space) → target_at first k ≡ Some f → (s : Space) × (target_at targets k ≡ Some s) × IsBelow f s)
    → ((j : ℕ) (s : Space) (name : Name) → j < length objects → home_at objects j ≡ region → target_at targets j ≡ Some s → Contains (fields_of_place objects j) (datum.Object name) → IsAbove objects region targets s name)
    → (k : ℕ) (f : Space) → k < length objects → IsLedTo objects region first (name_at objects k) f → (s : Space) × (target_at targets k ≡ Some s) × IsBelow f s
above_at_end objects region first targets distinct grown closed k f lt led =
    walk_keeps (λ n. (p : ℕ) → p < length objects → name_at objects p ≡ n → (s : Space) × (target_at targets p ≡ Some s) × IsBelow f s)
    step base led.2 k lt refl
  where
    base : (p : ℕ) → p < length objects → name_at objects p ≡ led.0 → (s : Space) × (target_at targets p ≡ Some s) × IsBelow f s
    base p below e = grown p f (ap (target_at first) (distinct p led.1.0 below led.1.1 (e ∙ sym led.1.3)) ∙ led.1.2)

    step : (a b : Name) → ((p : ℕ) → p < length objects → name_at objects p ≡ a → (s : Space) × (target_at targets p ≡ Some s) × IsBelow f s) → ListInside objects region a b → (p : ℕ) → p < length objects → name_at objects p ≡ b → (s : Space) × (target_at targets p ≡ Some s) × IsBelow f s
    step a b known edge p below e =
        let from : (s : Space) × (target_at targets edge.source ≡ Some s) × IsBelow f s = known edge.source edge.source_place edge.source_name in
        let same : p ≡ edge.goal = distinct p edge.goal below edge.goal_place (e ∙ sym edge.goal_name) in
        let next : (old : Space) × (target_at targets p ≡ Some old) × IsBelow from.0 old = closed edge.source from.0 b edge.source_place edge.source_home from.1 edge.refers p below e (ap (home_at objects) same ∙ edge.goal_home) in
        (next.0, next.1, below-transitive f from.0 next.0 from.2 next.2)

-- a space is below itself
pub below_itself : (a : Space) → IsBelow a a
below_itself Control = refl
below_itself (Region t d) = grind (arith, nat_tests)
