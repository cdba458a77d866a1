-- What reaches an object of the region, in a space state and in what the words show of it.
use Rattle.std.proofs.Common.{◌≡◌, ℕ, zero, suc, ◌+◌, ◌-◌, ◌≤◌, Some, is_some, refl, sym, ap, subst, ◌∙◌, arith, inl, inr}
use Rattle.object_layout.specs.declared.names.Name.{Name}
use Rattle.epoch_lattice.specs.declared.Space.{Space}
use Rattle.epoch_lattice.specs.declared.Space.TheVariants.{Region}
use Rattle.epoch_lattice.specs.Lattice.{IsLeastAbove, inner_of}
use Rattle.yak_model.specs.Spaces.{IsOnStack, IsReachedFor, IsTarget, RefersInside, Source, SpaceState, field, other, own}
use Rattle.yak_model.specs.State.{view}
use Rattle.yak_model.specs.Stands.{IsWhole}
use Rattle.yak_model.proofs.Walks.{reach_keeps, walk_map}
use Rattle.heap_walks.specs.Reach.{IsIn}
use Rattle.heap_walks.proofs.Seen.{held_at, home_of_in, is_in, on_stack, points_of, refers_of, seen}
use Rattle.escape_closure.specs.Sources.{IsInside, IsReachedIn, IsSourceIn}

same_home : (a b : Space) → Some a ≡ Some b → a ≡ b
same_home a b e = cc

pub inner_region : (t depth : ℕ) → 1 ≤ depth → inner_of t depth ≡ Region t depth
inner_region t zero le = absurd (omega (arith, le))
inner_region t (suc depth) le = refl

module _ (s : SpaceState) (whole : IsWhole s) (t : ℕ) (some : 1 ≤ t) (region : Space) where
  source_of : (n : Name) (x : Space) → IsSourceIn (view s) t region n x → Source s t region n x
  source_of n x (inside, inl (from, o, present, home, outside, refers)) =
      let edge = points_of s whole from n (o, present, refers) in
      field from n x (home_of_in s whole from x (o, present, home)) outside edge.1 (home_of_in s whole n region inside)
  source_of n x (inside, inr (inl (held, is))) =
      let same : t - 1 + 1 ≡ t = omega (arith, some) in
      subst (Source s t region n) (sym is) (own n (subst (λ u. IsOnStack s.graph u n) same (on_stack s whole (t - 1) n held)) (home_of_in s whole n region inside))
  source_of n x (inside, inr (inr (k, ne, held, is))) =
      subst (Source s t region n) (sym is) (other n (k + 1) (λ q. ne (omega (arith, q))) (on_stack s whole k n held) (home_of_in s whole n region inside))

  source_in : (n : Name) (x : Space) → Source s t region n x → IsSourceIn (view s) t region n x
  source_in n x (field from _ _ home outside refers inside) =
      let edge = refers_of s whole from n (ap is_some home, refers) in
      let at = seen s from edge.0 edge.1 in
      (is_in s whole n region inside, inl (from, edge.0, edge.1, same_home edge.0.home x (sym at.home_is ∙ home), outside, edge.2))
  source_in n x (own _ on inside) = (is_in s whole n region inside, inr (inl (held_at s whole t n on, refl)))
  source_in n x (other _ u ne on inside) = (is_in s whole n region inside, inr (inr (u - 1, (λ q. ne (omega (arith, q, some, on.0))), held_at s whole u n on, refl)))

  inside_of : (a b : Name) → IsInside (view s) region a b → RefersInside s region a b
  inside_of a b (o, present, home, refers, here) =
      (home_of_in s whole a region (o, present, home), (points_of s whole a b (o, present, refers)).1, home_of_in s whole b region here)

  inside_in : (a b : Name) → RefersInside s region a b → IsInside (view s) region a b
  inside_in a b (home, refers, here) =
      let edge = refers_of s whole a b (ap is_some home, refers) in
      (edge.0, edge.1, same_home edge.0.home region (sym (seen s a edge.0 edge.1).home_is ∙ home), edge.2, is_in s whole b region here)

  pub reached_of : (n : Name) (x : Space) → IsReachedIn (view s) t region n x → IsReachedFor s t region n x
  reached_of n x r = (r.0, source_of r.0 x r.1, walk_map inside_of r.2)

  pub reached_in : (n : Name) (x : Space) → IsReachedFor s t region n x → IsReachedIn (view s) t region n x
  reached_in n x r = (r.0, source_in r.0 x r.1, walk_map inside_in r.2)

  -- what is reached is in the region
  pub reached_here : (n : Name) (x : Space) → IsReachedFor s t region n x → IsIn (view s) region n
  reached_here n x r = reach_keeps _ _ (IsIn (view s) region) (λ k source. source.0) (λ a b known edge. edge.4) n (reached_in n x r)

  pub target_of_least : (n : Name) (x : Space) → IsLeastAbove (λ y. IsReachedIn (view s) t region n y) x → IsTarget s t region n x
  target_of_least n x l = record {
    above = λ y r. l.above y (reached_in n y r);
    least = λ z above. l.least z (λ y r. above y (reached_of n y r));
  }
