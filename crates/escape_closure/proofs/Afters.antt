-- The state after an end.
use Rattle.std.proofs.Common.{◌≡◌, ◌≢◌, ℕ, ◌-◌, ◌≤◌, ◌<◌, Bool, true, false, cond, Option, Some, None, IsSome, List, map, set, refl, sym, ap, subst, ◌∙◌, inl, inr}
use Rattle.std.proofs.Math.Path.{fun_ext}
use Rattle.std.proofs.Math.Seq.{map-set_same}
use Rattle.std.proofs.lemmas.List.{map-set}
use Rattle.object_layout.specs.declared.names.Name.{Name}
use Rattle.epoch_lattice.specs.declared.Space.{Space}
use Rattle.epoch_lattice.specs.declared.TheConstants.{MAX_DEPTH}
use Rattle.epoch_lattice.specs.Lattice.{IsValid}
use Rattle.yak_model.specs.Graph.{Content, Graph, Limits, Thread, idle, thread_of, with_depth}
use Rattle.yak_model.specs.Spaces.{Counts, EndsEpoch, IsPresent, SpaceState, content_at, home_of, innermost}
use Rattle.yak_model.specs.State.{State, Thing, object_of, thing_of, view}
use Rattle.yak_model.specs.Placed.{Places}
use Rattle.yak_model.specs.Plans.{Move, rehomed}
use Rattle.yak_model.specs.Stands.{IsWhole}
use Rattle.heap_walks.proofs.Seen.{present_of, seen, shown}
use Rattle.forwarding.specs.Reshaped.{Reshaped}
use Rattle.escape_closure.specs.Targets.{IsEscaping}
use Rattle.escape_closure.specs.Leaving.{EndMoves, left_behind, objects_left}
use Rattle.forwarding.proofs.Reshaping.{reshape, reshaped-objects, reshaped-whole}
use Rattle.escape_closure.proofs.Fates.{OneEach, escaping_in, gone_so, left_so, moves_so, stays_so}

abbrev pub home_in : Option Thing → Option Space
home_in None = None
home_in (Some o) = Some o.home

rebuilt : (x : Option Space) (y : Option Content) (b : Bool) (count : ℕ) (moves : ℕ → Move) (a : ℕ) → thing_of (home_in (rehomed count moves a (cond b None (thing_of x y)))) y ≡ rehomed count moves a (cond b None (thing_of x y))
rebuilt x y true count moves a = refl
rebuilt None y false count moves a = refl
rebuilt (Some h) None false count moves a = refl
rebuilt (Some h) (Some c) false count moves a = refl

home-of : (x : Option Thing) (h : Space) → home_in x ≡ Some h → (o : Thing) × (x ≡ Some o) × (o.home ≡ h)
home-of None h e = absurd (let q : None ≡ Some h = e in cc)
home-of (Some o) h e = (o, refl, cc)

some-of : (x : Option Thing) → IsSome (home_in x) → (o : Thing) × (x ≡ Some o)
some-of None h = cc
some-of (Some o) h = (o, refl)

-- a state whose thread is less deep
abbrev pub lowered : SpaceState → ℕ → ℕ → SpaceState
lowered s t d = record s { graph = with_depth s.graph t d }

view-lowered : (s : SpaceState) (t d : ℕ) → view (lowered s t d) ≡ record (view s) { depths = set (view s).depths (t - 1) d }
view-lowered s t d =
    let x : Thread = (let th = thread_of s.graph t in record th { depth = d }) in
    rw (
      map-set_same (λ (th : Thread). th.stack) s.graph.threads (t - 1) x idle refl,
      map-set (λ (th : Thread). th.depth) s.graph.threads (t - 1) x,
      map-set_same (λ (th : Thread). th.made) s.graph.threads (t - 1) x idle refl,
    ) refl

-- what is shown of the state after an end
abbrev pub ended_view : SpaceState → Places → ℕ → ℕ → (ℕ → Move) → State
ended_view s l t count moves = record (view s) { objects = objects_left s l t count moves; depths = set (view s).depths (t - 1) ((thread_of s.graph t).depth - 1) }

abbrev shown_by : (Name → Option Thing) → List Thread → State
shown_by objects threads = record {
  objects = objects;
  stacks = map (λ (t : Thread). t.stack) threads;
  depths = map (λ (t : Thread). t.depth) threads;
  made = map (λ (t : Thread). t.made) threads;
}

-- the state after an end
pub record Ended (s : SpaceState) (l : Places) (t count : ℕ) (moves : ℕ → Move) (tight : Bool) : Type 0 where
  pub after : SpaceState
  pub ends : EndsEpoch s t count tight after
  pub whole : IsWhole after
  pub shows : view after ≡ ended_view s l t count moves

module _ (s : SpaceState) (whole : IsWhole s) (l : Places) (one : OneEach s l) (t count : ℕ) (some : 1 ≤ t) (valid : IsValid MAX_DEPTH (innermost s.graph t)) (moves : ℕ → Move) (tight : Bool) (e : EndMoves s l t count moves tight) where
  abbrev given : Name → Option Space
  given n = home_in (objects_left s l t count moves n)

  given_present : (n : Name) → IsSome (given n) → IsPresent s n
  given_present n h =
      let p = some-of (objects_left s l t count moves n) h in
      let w = left_so s whole l one t count some valid moves tight e n p.0 p.1 in
      present_of s n w.0 w.1

  given_valid : ((k : ℕ) → k < count → IsValid MAX_DEPTH (moves k).space) → (n : Name) (x : Space) → given n ≡ Some x → IsValid s.graph.limits.depth x
  given_valid spaces n x h =
      let p = home-of (objects_left s l t count moves n) x h in
      let w = left_so s whole l one t count some valid moves tight e n p.0 p.1 in
      elim w.2 [
        | inl m ↦
            let home : (moves m.move).space ≡ x = ap (λ (q : Thing). q.home) (sym m.is) ∙ p.2 in
            subst (λ k. IsValid k x) (ap (λ (q : Limits). q.depth) (sym whole.limits)) (subst (IsValid MAX_DEPTH) home (spaces m.move m.among))
        | inr m ↦
            let home : home_of s n ≡ Some x = (seen s n w.0 w.1).home_is ∙ ap Some (ap (λ (q : Thing). q.home) (sym m.is) ∙ p.2) in
            whole.homes n x home
      ]

  outside_so : (n : Name) → home_of s n ≢ Some (innermost s.graph t) → (x : Option Space) → home_of s n ≡ x → given n ≡ home_of s n
  outside_so n far None h = elim (objects_left s l t count moves n) as (λ y. objects_left s l t count moves n ≡ y → given n ≡ home_of s n) [
    | None ↦ λ q. ap home_in q ∙ sym h
    | Some p ↦ λ q.
        let w = left_so s whole l one t count some valid moves tight e n p q in
        absurd (let z : None ≡ Some w.0.home = sym h ∙ (seen s n w.0 w.1).home_is in cc)
  ] refl
  outside_so n far (Some x) h =
      let o = shown s n x whole h in
      let m = stays_so s whole l one t count some valid moves tight e n o.0 o.1 (λ q. far (h ∙ ap Some (sym o.2 ∙ q))) in
      ap home_in m.0 ∙ ap Some o.2 ∙ sym h

  abbrev shaped : (after : SpaceState) × Reshaped s given after
  shaped = reshape s given given_present

  pub ended_so : Counts (IsEscaping s t) count → 0 < (thread_of s.graph t).depth → ((k : ℕ) → k < count → IsValid MAX_DEPTH (moves k).space) → Ended s l t count moves tight
  ended_so counts opened spaces =
      let mid : SpaceState = shaped.0 in
      let r : Reshaped s given mid = shaped.1 in
      let k : ℕ = (thread_of s.graph t).depth - 1 in
      let threads : mid.graph.threads ≡ s.graph.threads = ap (λ (g : Graph). g.threads) r.rest in
      let objects : object_of mid ≡ objects_left s l t count moves = fun_ext (λ n. reshaped-objects s given mid r n ∙ rebuilt (home_of s n) (content_at s.graph n) (left_behind s l t count moves n) count moves (l.at n)) in
      let shows : view mid ≡ shown_by (objects_left s l t count moves) s.graph.threads = ap (λ f. shown_by f mid.graph.threads) objects ∙ ap (shown_by (objects_left s l t count moves)) threads in
      let w : IsWhole mid = reshaped-whole s given mid whole (given_valid spaces) r given_present in
      record {
        after = lowered mid t k;
        ends = record {
          open_epoch = opened;
          escaping = λ n esc.
              let c = e.complete n esc in
              let i = escaping_in s whole l one t count some valid moves tight e n esc in
              let m = moves_so s whole l one t count some valid moves tight e n i.0 c.0 i.1 c.1 c.2 in
              (c.3, c.4, r.homes n ∙ ap home_in m.0 ∙ ap Some c.5);
          dropped = λ n home stuck. r.homes n ∙ ap home_in (gone_so s whole l one t count some valid moves tight e n home stuck);
          outside = λ n far. r.homes n ∙ outside_so n far (home_of s n) refl;
          contents = r.contents;
          rest = ap (λ (g : Graph). with_depth g t k) r.rest;
          count = counts;
        };
        whole = record { limits = w.limits; contents = w.contents; homes = w.homes };
        shows = view-lowered mid t k ∙ ap (λ (v : State). record v { depths = set v.depths (t - 1) k }) shows;
      }
