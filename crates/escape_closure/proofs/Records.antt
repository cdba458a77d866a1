-- The objects that are left: their fields are data, and their spaces valid.
use Rattle.std.proofs.Common.{ℕ, ◌≤◌, ◌<◌, Bool, sym, ap, subst, inl, inr}
use Rattle.epoch_lattice.specs.declared.TheConstants.{MAX_DEPTH}
use Rattle.epoch_lattice.specs.Lattice.{IsValid}
use Rattle.yak_model.specs.Graph.{Limits}
use Rattle.yak_model.specs.Spaces.{SpaceState, innermost}
use Rattle.yak_model.specs.State.{IsClosed, Thing, view}
use Rattle.yak_model.specs.Placed.{Places}
use Rattle.yak_model.specs.Plans.{Move, without}
use Rattle.yak_model.specs.Stands.{IsWhole}
use Rattle.heap_walks.proofs.Seen.{seen}
use Rattle.forwarding.specs.Crossing.{AreData, AreValid}
use Rattle.escape_closure.specs.Leaving.{EndMoves, left_behind, objects_left}
use Rattle.escape_closure.proofs.Fates.{OneEach, left_so}
use Rattle.escape_closure.proofs.Rehomed.{closed_after}

module _ (s : SpaceState) (whole : IsWhole s) (l : Places) (one : OneEach s l) (t count : ℕ) (some : 1 ≤ t) (valid : IsValid MAX_DEPTH (innermost s.graph t)) (moves : ℕ → Move) (tight : Bool) (e : EndMoves s l t count moves tight) where
  pub data_left : IsClosed (without (view s) (left_behind s l t count moves)) → AreData (objects_left s l t count moves)
  data_left closed n o h = ((closed_after count moves l.at (without (view s) (left_behind s l t count moves)) closed).fields n o h).0

  pub valid_left : ((k : ℕ) → k < count → IsValid MAX_DEPTH (moves k).space) → AreValid (objects_left s l t count moves)
  valid_left spaces n p h =
      let w = left_so s whole l one t count some valid moves tight e n p h in
      elim w.2 [
        | inl m ↦ subst (IsValid MAX_DEPTH) (ap (λ (q : Thing). q.home) (sym m.is)) (spaces m.move m.among)
        | inr m ↦ subst (IsValid MAX_DEPTH) (ap (λ (q : Thing). q.home) (sym m.is)) (subst (λ k. IsValid k w.0.home) (ap (λ (q : Limits). q.depth) whole.limits) (whole.homes n w.0.home (seen s n w.0 w.1).home_is))
      ]
