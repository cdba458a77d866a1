-- The targets of an end are open spaces of the heap, and not the region.
use Rattle.std.proofs.Common.{◌≡◌, ◌≢◌, ℕ, ◌-◌, ◌≤◌, ◌==◌, cond, min, List, Some, length, get_or, refl, sym, ap, subst, ◌∙◌, arith, inl, inr}
use Rattle.std.specs.List.{All}
use Rattle.std.proofs.lemmas.Bool.{cases_eq, eq-eqb, ne_eqb}
use Rattle.std.proofs.lemmas.List.Elements.{All-get_or}
use Rattle.object_layout.specs.declared.names.Name.{Name}
use Rattle.epoch_lattice.specs.declared.Space.{Space}
use Rattle.epoch_lattice.specs.declared.Space.TheVariants.{Control, Region}
use Rattle.epoch_lattice.specs.declared.TheConstants.{MAX_DEPTH}
use Rattle.epoch_lattice.specs.Lattice.{IsBelow, IsValid, parent_of, space_index}
use Rattle.epoch_lattice.proofs.Numbers.{number-own}
use Rattle.heap_words.specs.declared.map.Areas.{Areas}
use Rattle.heap_words.specs.Map.{HasThread, IsAreas, max_depth}
use Rattle.heap_words.specs.Contents.{Contents, depth_of}
use Rattle.yak_model.specs.Packed.{IsSpaceOf}
use Rattle.yak_model.specs.Spaces.{IsReachedFor, Source, SpaceState, field, innermost, other, own}
use Rattle.yak_model.specs.State.{IsOpen, Thing, object_of, view}
use Rattle.yak_model.specs.Stands.{Stands}
use Rattle.heap_walks.proofs.Objects.{same_thing}
use Rattle.heap_walks.proofs.Seen.{seen, shown}
use Rattle.escape_closure.specs.Planning.{TargetsExist}
use Rattle.escape_closure.specs.Targets.{IsEscaping, IsTargetAt, TargetsWritten}
use Rattle.escape_closure.proofs.Follows.{is_valid}
use Rattle.escape_closure.proofs.Weighed.{aimed, escapes}

same_space : (a b : ℕ) (x y : Space) → a ≡ b → cond (a == b) x y ≡ x
same_space a b x y e = rw (eq-eqb a b e) refl

other_space : (a b : ℕ) (x y : Space) → a ≢ b → cond (a == b) x y ≡ y
other_space a b x y ne = rw (ne_eqb a b ne) refl

thread_part : Space → ℕ
thread_part Control = 0
thread_part (Region t d) = t

depth_part : Space → ℕ
depth_part Control = 0
depth_part (Region t d) = d

not_region : (t d : ℕ) → Control ≢ Region t d
not_region t d e = let w : space_index Control ≡ space_index (Region t d) = ap space_index e in omega (arith, w)

-- An open space that isn't the innermost region of a thread.
abbrev pub IsOuter : List ℕ → ℕ → Space → Type 0
IsOuter depths t x = IsOpen depths x × (x ≢ Region t (get_or depths (t - 1) 0))

outer_control : (depths : List ℕ) (t : ℕ) → IsOuter depths t Control
outer_control depths t = (tt, not_region t (get_or depths (t - 1) 0))

outer_parent : (depths : List ℕ) (t depth : ℕ) → 1 ≤ t → t ≤ length depths → 1 ≤ depth → depth ≡ get_or depths (t - 1) 0 → IsOuter depths t (parent_of (Region t depth))
unfolding depth_part
outer_parent depths t depth ht lt low is = elim (cases_eq depth 1) [
  | inl one ↦ subst (IsOuter depths t) (sym (same_space depth 1 Control (Region t (depth - 1)) one)) (outer_control depths t)
  | inr more ↦
      let outer : IsOuter depths t (Region t (depth - 1)) = ((ht, lt, omega (arith, low, more), omega (arith, is)), λ e. let w : depth - 1 ≡ get_or depths (t - 1) 0 = ap depth_part e in omega (arith, w, is, low)) in
      subst (IsOuter depths t) (sym (other_space depth 1 Control (Region t (depth - 1)) more)) outer
]

-- what is above such a space
outer_above : (depths : List ℕ) (t : ℕ) (y x : Space) → IsValid MAX_DEPTH x → IsBelow y x → IsOuter depths t y → IsOuter depths t x
unfolding thread_part depth_part
outer_above depths t y Control valid below outer = outer_control depths t
outer_above depths t Control (Region u f) valid below outer = absurd (not_region u f below)
outer_above depths t (Region v e) (Region u f) valid below outer = elim (cases_eq v u) [
  | inr ne ↦ absurd (not_region u f (sym (other_space v u (Region v (min e f)) Control ne) ∙ below))
  | inl same ↦
      let joined : Region v (min e f) ≡ Region u f = sym (same_space v u (Region v (min e f)) Control same) ∙ below in
      let deep : min e f ≡ f = ap depth_part joined in
      let o = outer.0 in
      let index : get_or depths (v - 1) 0 ≡ get_or depths (u - 1) 0 = ap (λ k. get_or depths (k - 1) 0) same in (
        (omega (arith, o.0, same), omega (arith, o.1, same), valid.2, omega (arith, o.3, index, deep)),
        λ is.
            let thread : u ≡ t = ap thread_part is in
            let depth : f ≡ get_or depths (t - 1) 0 = ap depth_part is in
            let mine : get_or depths (v - 1) 0 ≡ get_or depths (t - 1) 0 = ap (λ k. get_or depths (k - 1) 0) (same ∙ thread) in
            let full : e ≡ get_or depths (t - 1) 0 = omega (arith, deep, depth, o.3, mine) in
            outer.1 (ap (λ k. Region k e) (same ∙ thread) ∙ ap (λ k. Region t k) full),
      )
]

pub open_is : (m : Areas) (depths : List ℕ) (x : Space) → length depths ≡ m.threads → All (λ d. d ≤ max_depth m) depths → IsOpen depths x → IsSpaceOf m x
open_is m depths Control threads deep o = tt
open_is m depths (Region u d) threads deep o =
    let most : get_or depths (u - 1) 0 ≤ max_depth m = All-get_or (λ k. k ≤ max_depth m) depths (u - 1) 0 (omega (arith, o.0, o.1)) deep in
    (o.0, omega (arith, o.1, threads), o.2, omega (arith, o.3, most))

module _ (m : Areas) (b c : Contents) (s : SpaceState) (st : Stands m b s) (t depth escaping : ℕ) (areas : IsAreas m) (has : HasThread m t) (low : 1 ≤ depth) (high : depth ≤ MAX_DEPTH) (written : TargetsWritten m s st.places t b c escaping) (region : innermost s.graph t ≡ Region t depth) (depth_is : depth ≡ depth_of b t) where
  abbrev depths : List ℕ
  depths = (view s).depths

  within : All (λ d. d ≤ max_depth m) depths
  within = subst (All (λ d. d ≤ max_depth m)) st.stands.depths st.stands.limits.depths

  own_depth : depth ≡ get_or depths (t - 1) 0
  own_depth = depth_is ∙ ap (λ (ds : List ℕ). get_or ds (t - 1) 0) st.stands.depths

  pub space_of_heap : (x : Space) → IsOpen depths x → IsSpaceOf m x
  space_of_heap x o = open_is m depths x st.stands.threads within o

  -- the home of a present object is open
  home_open : (n : Name) (o : Thing) → object_of s n ≡ Some o → IsOpen depths o.home
  home_open n o present =
      let heap = st.stands.heap in
      let at = heap.present n o present in
      let w = heap.whole n at.0 at.1 at.2 in
      let same : w.0 ≡ o = same_thing (record { state = view s; places = st.places; before = b }) n w.0 o w.1 present in
      let home : space_index w.0.home ≡ space_index o.home = ap (λ (x : Thing). space_index x.home) same in
      let valid : IsValid MAX_DEPTH o.home = subst (λ k. IsValid k o.home) (ap (λ l. l.depth) st.whole.limits) (st.whole.homes n o.home (seen s n o present).home_is) in
      elim (st.stands.open_spaces at.0 (omega (arith, heap.count, at.2.page))) [
        | inl z ↦ absurd (omega (arith, z, w.2))
        | inr p ↦ subst (IsOpen depths) (number-own p.0 o.home (is_valid m p.0 areas (space_of_heap p.0 p.2)) valid (omega (arith, p.1, w.2, home))) p.2
      ]

  outer_source : (n : Name) (y : Space) → Source s t (Region t depth) n y → IsOuter depths t y
  outer_source n y (field from _ _ home outside refers inside) =
      let o = shown s from y st.whole home in
      (subst (IsOpen depths) o.2 (home_open from o.0 o.1), λ e. outside (e ∙ ap (λ k. Region t k) (sym own_depth)))
  outer_source n y (own _ on inside) = outer_parent depths t depth has.0 (omega (arith, has.1, st.stands.threads)) low own_depth
  outer_source n y (other _ u ne on inside) = outer_control depths t

  pub outer_target : (n : Name) (x : Space) → IsEscaping s t n → IsTargetAt s t n x → IsValid MAX_DEPTH x → IsOpen depths x × (x ≢ Region t depth)
  outer_target n x esc target valid =
      let reached = subst (λ q. IsReachedFor s t q n esc.0) region esc.1 in
      let outer = outer_above depths t esc.0 x valid (target.above esc.0 esc.1) (outer_source reached.0 esc.0 reached.1) in
      (outer.0, λ e. outer.1 (e ∙ ap (λ k. Region t k) own_depth))

  pub targets_exist : TargetsExist m (aimed m b c s st t depth)
  targets_exist n o present aim =
      let w = written.targets n (escapes m b c s st t depth escaping areas has low high written region n o present aim) in
      let outer = outer_target n w.0 (escapes m b c s st t depth escaping areas has low high written region n o present aim) w.2 w.1 in
      (w.0, space_of_heap w.0 outer.0, w.3, outer.1)
