-- The escaping objects and the pages that they need, in a space state.
use Rattle.std.proofs.Common.{◌≡◌, ◌⊎◌, ℕ, ◌≤◌, ◌<◌, true, false, Some, length, refl, sym, ap, subst, ◌∙◌, arith, inl, inr, zero, suc}
use Rattle.std.specs.Prelude.{unwrap_or, Result}
use Rattle.std.specs.FinSet as names
use Rattle.object_layout.specs.declared.names.Name.{Name}
use Rattle.object_layout.specs.declared.replies.Shortage.{Shortage}
use Rattle.epoch_lattice.specs.declared.Space.{Space}
use Rattle.epoch_lattice.specs.declared.Space.TheVariants.{Control, Region}
use Rattle.epoch_lattice.specs.declared.TheConstants.{MAX_DEPTH}
use Rattle.epoch_lattice.specs.Lattice.{IsValid, space_index, space_of}
use Rattle.epoch_lattice.proofs.Numbers.{number-reads_back}
use Rattle.heap_words.specs.declared.map.Areas.{Areas}
use Rattle.heap_words.specs.Map.{HasThread, IsAreas, heap_length, scratch_length}
use Rattle.heap_words.specs.Contents.{Contents}
use Rattle.yak_model.specs.Spaces.{IsReachedFor, SpaceState, innermost}
use Rattle.yak_model.specs.State.{Thing, object_of, view}
use Rattle.yak_model.specs.Stands.{Stands}
use Rattle.heap_walks.proofs.Objects.{same_thing}
use Rattle.heap_walks.proofs.Seen.{present_home, present_of, seen, shown}
use Rattle.escape_closure.specs.Targets.{IsEscaping, IsTargetAt, TargetsWritten}
use Rattle.escape_closure.specs.Rolls.{Aimed, AimsInside, IsAimed}
use Rattle.escape_closure.specs.Placing.{Filling, filled, filling, index_on, rooms_at, size_on, target_on}
use Rattle.escape_closure.specs.Needs.{InOrder, RollWeighed, pages_needed}
use Rattle.escape_closure.proofs.Reaches.{reached_here}

-- what is placed the same is filled the same
pub filling_same : (m : Areas) (rooms index other size : ℕ → ℕ) (k : ℕ) → ((j : ℕ) → j < k → index j ≡ other j) → filling m rooms index size k ≡ filling m rooms other size k
unfolding filling
filling_same m rooms index other size zero same = refl
filling_same m rooms index other size (suc k) same =
    let before : filling m rooms index size k ≡ filling m rooms other size k = filling_same m rooms index other size k (λ j lt. same j (omega (arith, lt))) in
    ap (λ (f : Filling). filled m f (index k) (size k)) before ∙ ap (λ i. filled m (filling m rooms other size k) i (size k)) (same k (omega arith))

abbrev pub aimed : (m : Areas) (b c : Contents) (s : SpaceState) → Stands m b s → ℕ → ℕ → Aimed
aimed m b c s st t depth = record { laid = record { state = view s; places = st.places; before = b }; region = Region t depth; words = c }

module _ (m : Areas) (b c : Contents) (s : SpaceState) (st : Stands m b s) (t depth escaping : ℕ) (areas : IsAreas m) (has : HasThread m t) (low : 1 ≤ depth) (high : depth ≤ MAX_DEPTH) (written : TargetsWritten m s st.places t b c escaping) (region : innermost s.graph t ≡ Region t depth) where
  abbrev pub q : Aimed
  q = aimed m b c s st t depth

  decided : (n : Name) → IsEscaping s t n ⊎ (IsEscaping s t n → ⊥)
  decided n =
      let all = written.counted in
      elim (names.contains all.0 n) as (λ v. names.contains all.0 n ≡ v → IsEscaping s t n ⊎ (IsEscaping s t n → ⊥)) [
        | true ↦ λ e. inl ((all.1 n).0 e)
        | false ↦ λ e. inr (λ esc. let yes = (all.1 n).1 esc in cc)
      ] refl

  pub escapes : (n : Name) (o : Thing) → object_of s n ≡ Some o → IsAimed q n → IsEscaping s t n
  escapes n o present some = elim (decided n) [
    | inl esc ↦ esc
    | inr stays ↦ absurd (some (written.others n (present_of s n o present) stays))
  ]

  pub aims : (n : Name) → IsEscaping s t n → IsAimed q n
  aims n esc z = let w = written.targets n esc in omega (arith, w.3, z)

  here : (n : Name) (o : Thing) → object_of s n ≡ Some o → IsEscaping s t n → o.home ≡ Region t depth
  here n o present esc =
      let i = reached_here s st.whole t has.0 (Region t depth) n esc.0 (subst (λ r. IsReachedFor s t r n esc.0) region esc.1) in
      ap (λ (x : Thing). x.home) (same_thing q.laid n o i.0 present i.1) ∙ i.2

  pub aims_inside : length c.heap ≡ heap_length m → length c.scratch ≡ scratch_length m → AimsInside m q
  aims_inside heap scratch = record {
    among = record {
      areas = areas;
      stands = st.stands;
      frame = written.frame;
      kept = λ a free. written.kept a (λ n present at.
          let home = present_home s n present in
          let o = shown s n home.0 st.whole home.1 in
          free n o.0 o.1 at);
      heap_size = heap;
      scratch_size = scratch;
    };
    region = (has.0, omega (arith, has, areas), low, high);
    homes = λ n o present. subst (λ k. IsValid k o.home) (ap (λ l. l.depth) st.whole.limits) (st.whole.homes n o.home (seen s n o present).home_is);
    tells = λ n o present some. let w = written.targets n (escapes n o present some) in (w.0, w.1, w.3);
    inside = λ n o present some. here n o present (escapes n o present some);
  }

  -- the objects of a roll that was weighed
  module _ (now : Contents) (before after : ℕ) (result : Result ℕ Shortage) (w : RollWeighed m q t before now after result) where
    abbrev pub target : ℕ → Space
    target = target_on q now (heap_length m) w.count w.roll

    pub escaping_at : (k : ℕ) → k < w.count → IsEscaping s t (w.roll.name k)
    escaping_at k lt = let a = w.roll.aimed k lt in escapes (w.roll.name k) a.0 a.1 a.2

    index_at : (k : ℕ) (lt : k < w.count) → index_on q now (heap_length m) w.count w.roll k ≡ space_index (written.targets (w.roll.name k) (escaping_at k lt)).0
    index_at k lt = let x = written.targets (w.roll.name k) (escaping_at k lt) in omega (arith, x.3)

    pub target_is : (k : ℕ) (lt : k < w.count) → target k ≡ (written.targets (w.roll.name k) (escaping_at k lt)).0
    target_is k lt =
        let x = written.targets (w.roll.name k) (escaping_at k lt) in
        ap (λ i. unwrap_or (space_of i) Control) (index_at k lt) ∙ ap (λ y. unwrap_or y Control) (number-reads_back x.0 x.1)

    pub index_is : (k : ℕ) (lt : k < w.count) → index_on q now (heap_length m) w.count w.roll k ≡ space_index (target k)
    index_is k lt = index_at k lt ∙ ap space_index (sym (target_is k lt))

    abbrev pub order : InOrder s st.places t w.count
    order = record {
      name = w.roll.name;
      target = target;
      escaping = escaping_at;
      complete = λ n esc.
          let i = reached_here s st.whole t has.0 (Region t depth) n esc.0 (subst (λ r. IsReachedFor s t r n esc.0) region esc.1) in
          w.all n i.0 i.1 (aims n esc);
      ascending = w.roll.ascending;
      targets = λ k lt. let x = written.targets (w.roll.name k) (escaping_at k lt) in subst (λ y. IsValid MAX_DEPTH y × IsTargetAt s t (w.roll.name k) y) (sym (target_is k lt)) (x.1, x.2);
    }

    pub needed_is : (filling m (rooms_at m c t) (index_on q now (heap_length m) w.count w.roll) (size_on q now (heap_length m) w.count w.roll) w.count).claimed ≡ pages_needed m c s st.places t w.count order
    needed_is = ap (λ (f : Filling). f.claimed) (filling_same m (rooms_at m c t) (index_on q now (heap_length m) w.count w.roll) (λ k. space_index (target k)) (size_on q now (heap_length m) w.count w.roll) w.count index_is)
