-- What lives in a space state, and in what the words show of it.
use Rattle.std.proofs.Common.{◌+◌, ◌-◌, sym, ◌∙◌, inl, inr}
use Rattle.object_layout.specs.declared.names.Name.{Name}
use Rattle.yak_model.specs.Spaces.{SpaceState, IsLive, IsRoot, here, onward}
use Rattle.yak_model.specs.State.{view}
use Rattle.yak_model.specs.Stands.{IsWhole}
use Rattle.yak_model.proofs.Walks.{reach_keeps}
use Rattle.heap_walks.proofs.Seen.{seen, shown, points_of, refers_of, on_stack, held_at}
use Rattle.mark_compact.specs.Reach.{IsAlive, IsStart}

module _ (s : SpaceState) (whole : IsWhole s) where
  root_of : (n : Name) → IsStart (view s) n → IsRoot s n
  root_of n (inl h) = inl (h.0 + 1, on_stack s whole h.0 n h.1)
  root_of n (inr h) = inr (h.0.home, (seen s n h.0 h.1).home_is, h.2)

  start_of : (n : Name) → IsRoot s n → IsStart (view s) n
  start_of n (inl h) = inl (h.0 - 1, held_at s whole h.0 n h.1)
  start_of n (inr h) =
      let o = shown s n h.0 whole h.1 in
      inr (o.0, o.1, λ e. h.2 (sym o.2 ∙ e))

  pub live_of_alive : (n : Name) → IsAlive (view s) n → IsLive s n
  live_of_alive n h = reach_keeps _ _ (IsLive s) (λ r start. (r, root_of r start, here)) (λ a b live edge. (live.0, live.1, onward live.2 (points_of s whole a b edge))) n h

  pub alive_of_live : (n : Name) → IsLive s n → IsAlive (view s) n
  alive_of_live n h = reach_keeps _ _ (IsAlive (view s)) (λ r root. (r, start_of r root, here)) (λ a b live edge. (live.0, live.1, onward live.2 (refers_of s whole a b edge))) n h
