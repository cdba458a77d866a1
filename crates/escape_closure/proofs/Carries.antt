-- A plan of an end that is carried out.
use Rattle.std.proofs.Common.{◌≡◌, ℕ, ◌+◌, ◌-◌, ◌≤◌, Bool, List, get_or, refl, sym, ap, subst, ◌∙◌, arith}
use Rattle.object_layout.specs.declared.names.Name.{Name}
use Rattle.heap_words.specs.declared.map.Areas.{Areas}
use Rattle.heap_words.specs.Map.{HasThread, IsAreas, max_depth}
use Rattle.heap_words.specs.Contents.{Contents, depth_of}
use Rattle.epoch_lattice.specs.declared.Space.{Space}
use Rattle.epoch_lattice.specs.declared.Space.TheVariants.{Region}
use Rattle.epoch_lattice.specs.declared.TheConstants.{MAX_DEPTH}
use Rattle.epoch_lattice.specs.Lattice.{IsValid}
use Rattle.yak_model.specs.Spaces.{SpaceState, innermost}
use Rattle.yak_model.specs.State.{State, view}
use Rattle.yak_model.specs.Placed.{Holds}
use Rattle.yak_model.specs.Plans.{IsLawfulPlan, Move, after_moves, cleared, forwarded, without}
use Rattle.yak_model.specs.Stands.{Stands}
use Rattle.yak_model.proofs.Stacks.{all-at}
use Rattle.relocation.specs.Moves.{IsReadyPlan, move_at}
use Rattle.remember_sets.specs.Filed.{ChainsBecome, SetsHold, chain, outside, with_sets}
use Rattle.escape_closure.specs.Ends.{DropsRest, References}
use Rattle.escape_closure.specs.Leaving.{Carried, ReadyToMove, left_behind}
use Rattle.escape_closure.proofs.Fates.{OneEach, drops_rest, one_each}
use Rattle.escape_closure.proofs.Written.{region_is}

-- ---- the region that ends

pub innermost_valid : (m : Areas) (c : Contents) (s : SpaceState) (st : Stands m c s) (t : ℕ) → IsAreas m → HasThread m t → 1 ≤ depth_of c t → IsValid MAX_DEPTH (innermost s.graph t)
innermost_valid m c s st t areas has low =
    let deep : depth_of c t ≤ max_depth m = all-at (λ k. k ≤ max_depth m) c.depths (t - 1) 0 (omega arith) st.stands.limits.depths in
    subst (IsValid MAX_DEPTH) (sym (region_is m c s st t (depth_of c t) has refl low)) (has.0, omega (arith, has, areas.3), low, omega (arith, deep))

module _ (m : Areas) (before c : Contents) (s : SpaceState) (st : Stands m before s) (t count : ℕ) (tight : Bool) (areas : IsAreas m) (has : HasThread m t) (low : 1 ≤ depth_of before t) (r : ReadyToMove m before c s st t count tight) where
  abbrev moves : ℕ → Move
  moves = move_at c.scratch

  one : OneEach s st.places
  one = one_each m before.table before.heap s st.places (λ _. 0) st.stands.heap

  pub rest : DropsRest s t (left_behind s st.places t count moves)
  rest = drops_rest s st.whole st.places one t count has.0 (innermost_valid m before s st t areas has low) moves tight r.moves

  -- the plan that is carried out is ready where the references are corrected
  pub carry_ready : (mid next : Contents) → References m c mid s st.places t count → next.heap ≡ mid.heap → next.scratch ≡ c.scratch → IsReadyPlan m next.heap count (move_at next.scratch)
  carry_ready mid next refs heap scratch =
      let ready : IsReadyPlan m mid.heap count moves = record {
        state = view s;
        places = st.places.at;
        work = λ n. get_or c.heap (st.places.at n + 2) 0;
        dropped = left_behind s st.places t count moves;
        lawful = r.lawful (left_behind s st.places t count moves) rest;
        holds = refs.holds (left_behind s st.places t count moves) rest;
      } in
      subst (λ (x : List ℕ). IsReadyPlan m x count (move_at next.scratch)) (sym heap) (subst (λ (x : List ℕ). IsReadyPlan m mid.heap count (move_at x)) (sym scratch) ready)

  pub carried : (mid next last : Contents) (depth : ℕ) → depth ≡ depth_of before t → References m c mid s st.places t count → ChainsBecome m mid next (λ _ slots. outside m mid (Region t depth) slots) → SetsHold m next → next ≡ with_sets mid next → ((v : State) (at work : Name → ℕ) (dropped : Name → Bool) → IsLawfulPlan m count (move_at next.scratch) v at dropped → Holds m next.heap at (forwarded count (move_at next.scratch) at) work (without v dropped).objects → Holds m last.heap (forwarded count (move_at next.scratch) at) (forwarded count (move_at next.scratch) at) (cleared count (move_at next.scratch) at work) (after_moves count (move_at next.scratch) at (without v dropped)).objects) → last ≡ record next { heap = last.heap } → Carried m c last s st.places t count
  carried mid next last depth is refs dropped sets others objects only =
      let region : innermost s.graph t ≡ Region t depth = region_is m before s st t depth has is (omega (arith, is, low)) in
      let scratch : next.scratch ≡ c.scratch = ap (λ (x : Contents). x.scratch) others ∙ ap (λ (x : Contents). x.scratch) refs.frame in
      let heap : next.heap ≡ mid.heap = ap (λ (x : Contents). x.heap) others in
      let plan = r.lawful (left_behind s st.places t count moves) rest in
      let held = refs.holds (left_behind s st.places t count moves) rest in
      let told = subst (λ (x : List ℕ). (v : State) (at work : Name → ℕ) (dropped : Name → Bool) → IsLawfulPlan m count (move_at x) v at dropped → Holds m next.heap at (forwarded count (move_at x) at) work (without v dropped).objects → Holds m last.heap (forwarded count (move_at x) at) (forwarded count (move_at x) at) (cleared count (move_at x) at work) (after_moves count (move_at x) at (without v dropped)).objects) scratch objects in
      let work : Name → ℕ = λ n. get_or c.heap (st.places.at n + 2) 0 in
      let same_sets : last.sets ≡ next.sets = ap (λ (x : Contents). x.sets) only in
      let same_firsts : last.firsts ≡ next.firsts = ap (λ (x : Contents). x.firsts) only in
      let same_stacks : last.stacks ≡ mid.stacks = ap (λ (x : Contents). x.stacks) only ∙ ap (λ (x : Contents). x.stacks) others in
      let shape : List (List ℕ) → List (List ℕ) → List ℕ → Contents = λ ss fs xs. record c { stacks = ss; firsts = fs; sets = xs; heap = last.heap } in
      record {
        holds = told (view s) st.places.at work (left_behind s st.places t count moves) plan (subst (λ (x : List ℕ). Holds m x st.places.at (forwarded count moves st.places.at) work (without (view s) (left_behind s st.places t count moves)).objects) (sym heap) held);
        stacks = same_stacks ∙ refs.stacks;
        filed = λ x own. ap (λ (y : Contents). chain m y x) only ∙ dropped x own ∙ ap (λ (y : Contents). outside m y (Region t depth) (chain m y x)) refs.frame ∙ ap (λ (y : Space). outside m c y (chain m c x)) (sym region);
        sets = subst (SetsHold m) (sym only) sets;
        frame = only ∙ ap (λ (x : Contents). record x { heap = last.heap }) others ∙ ap (λ (x : Contents). record (with_sets x next) { heap = last.heap }) refs.frame ∙ ap (λ ss. shape ss next.firsts next.sets) (sym same_stacks) ∙ ap (λ fs. shape last.stacks fs next.sets) (sym same_firsts) ∙ ap (shape last.stacks last.firsts) (sym same_sets);
      }
