-- What an end keeps refers to nothing that it drops.
use Rattle.std.proofs.Common.{◌≡◌, ℕ, ◌+◌, Bool, true, false, cond, None, Some, [], get_or, is_some, refl, ap, subst, ◌∙◌, inl, inr}
use Rattle.std.specs.List.{All, Contains}
use Rattle.std.proofs.lemmas.Bool.{cases_eq}
use Rattle.std.proofs.lemmas.List.Elements.{All-from_get_or, All-get_or, Contains-get_or}
use Rattle.object_layout.specs.declared.names.Name.{Name}
use Rattle.epoch_lattice.specs.declared.Space.TheVariants.{Control}
use Rattle.epoch_lattice.specs.Lattice.{parent_of}
use Rattle.yak_model.specs.declared.datum.Datum.{Datum}
use Rattle.yak_model.specs.declared.datum.Datum.TheVariants.{Int, Null, Object}
use Rattle.yak_model.specs.Plans.{without}
use Rattle.yak_model.specs.Spaces.{IsOnStack, SpaceState, field, here, home_of, innermost, onward, other, own}
use Rattle.yak_model.specs.Stands.{IsWhole}
use Rattle.yak_model.specs.State.{IsClosed, IsDatum, Thing, object_of, view}
use Rattle.yak_model.proofs.Agreement.{same_or_other_space}
use Rattle.heap_walks.specs.Reach.{IsHeldAt}
use Rattle.heap_walks.proofs.Seen.{on_stack, points_of, seen}
use Rattle.relocation.proofs.Lawful.{kept}
use Rattle.relocation.proofs.SlidLawful.{kept-false}
use Rattle.escape_closure.specs.Ends.{DropsRest}
use Rattle.escape_closure.specs.Targets.{IsEscaping}

module _ (s : SpaceState) (whole : IsWhole s) (t : ℕ) (dropped : Name → Bool) (drops : DropsRest s t dropped) where
  -- what escapes where it is in the region isn't dropped
  pub not_dropped : (n : Name) → (home_of s n ≡ Some (innermost s.graph t) → IsEscaping s t n) → dropped n ≡ false
  not_dropped n stays = elim (dropped n) as (λ v. dropped n ≡ v → v ≡ false) [
    | true ↦ λ e. let g = drops.gone n e in absurd (g.1 (stays g.0))
    | false ↦ λ e. refl
  ] refl

  held_escapes : (k : ℕ) (n : Name) → IsHeldAt (view s) k n → home_of s n ≡ Some (innermost s.graph t) → IsEscaping s t n
  held_escapes k n held home =
      let on = on_stack s whole k n held in
      elim (cases_eq (k + 1) t) [
        | inl e ↦ (parent_of (innermost s.graph t), (n, own n (subst (λ u. IsOnStack s.graph u n) e on) home, here))
        | inr ne ↦ (Control, (n, other n (k + 1) ne on home, here))
      ]

  field_escapes : (a n : Name) (o : Thing) → object_of s a ≡ Some o → dropped a ≡ false → Contains o.fields (Object n) → home_of s n ≡ Some (innermost s.graph t) → IsEscaping s t n
  field_escapes a n o present stays refers home =
      let edge = points_of s whole a n (o, present, refers) in
      let at = (seen s a o present).home_is in
      elim (same_or_other_space o.home (innermost s.graph t)) [
        | inl e ↦
            let inside : home_of s a ≡ Some (innermost s.graph t) = at ∙ ap Some e in
            let esc = drops.kept a stays inside in
            (esc.0, (esc.1.0, esc.1.1, onward esc.1.2 (inside, edge.1, home)))
        | inr ne ↦ (o.home, (n, field a n o.home at ne edge.1 home, here))
      ]

  datum_kept : (d : Datum) → IsDatum (object_of s) d → ((n : Name) → d ≡ Object n → dropped n ≡ false) → IsDatum (without (view s) dropped).objects d
  datum_kept Null is stays = tt
  datum_kept (Int i) is stays = is
  datum_kept (Object n) is stays = ap (λ v. is_some (cond v None (object_of s n))) (stays n refl) ∙ is

  pub closed_kept : IsClosed (view s) → IsClosed (without (view s) dropped)
  closed_kept closed = record {
    stacks = All-from_get_or (All (IsDatum (without (view s) dropped).objects)) (view s).stacks [] (λ k lt.
        let xs = get_or (view s).stacks k [] in
        let all = All-get_or (All (IsDatum (object_of s))) (view s).stacks k [] lt closed.stacks in
        All-from_get_or (IsDatum (without (view s) dropped).objects) xs Null (λ j lj.
        datum_kept (get_or xs j Null) (All-get_or (IsDatum (object_of s)) xs j Null lj all) (λ n e.
        not_dropped n (held_escapes k n (lt, subst (Contains xs) e (Contains-get_or xs j Null lj))))));
    fields = λ a o present.
        let was = kept (view s) dropped a o present in
        let stays = kept-false (view s) dropped a o (dropped a) refl present in
        let f = closed.fields a o was in (
          All-from_get_or (IsDatum (without (view s) dropped).objects) o.fields Null (λ j lj.
              datum_kept (get_or o.fields j Null) (All-get_or (IsDatum (object_of s)) o.fields j Null lj f.0) (λ n e.
              not_dropped n (field_escapes a n o was stays (subst (Contains o.fields) e (Contains-get_or o.fields j Null lj))))),
          f.1,
        );
  }
