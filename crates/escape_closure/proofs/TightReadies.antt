-- The plan of a tight end that references can follow.
use Rattle.std.proofs.Common.{◌≡◌, ◌≢◌, ℕ, ◌+◌, ◌-◌, ◌≤◌, ◌<◌, Bool, true, false, Option, Some, List, length, get_or, refl, sym, ap, subst, ◌∙◌, arith}
use Rattle.std.proofs.lemmas.List.{get_or_default}
use Rattle.std.proofs.Math.Logic.{∥∥₁_map}
use Rattle.std.specs.FinSet as names
use Rattle.std.specs.Prelude.{unwrap_or}
use Rattle.object_layout.specs.declared.names.Name.{Name}
use Rattle.object_layout.specs.declared.TheConstants.{MAX_SPACE, OBJECT_WORDS}
use Rattle.heap_words.specs.declared.map.Areas.{Areas}
use Rattle.heap_words.specs.Map.{HasThread, IsAreas, heap_length, page_words}
use Rattle.heap_words.specs.Contents.{Contents, depth_of}
use Rattle.epoch_lattice.specs.declared.Space.{Space}
use Rattle.epoch_lattice.specs.declared.Space.TheVariants.{Control}
use Rattle.epoch_lattice.specs.declared.TheConstants.{MAX_DEPTH}
use Rattle.epoch_lattice.specs.Lattice.{IsValid, space_index, space_of}
use Rattle.epoch_lattice.proofs.Numbers.{number-most, number-own, number-reads_back}
use Rattle.yak_model.specs.Graph.{Limits}
use Rattle.yak_model.specs.Spaces.{Counts, SpaceState, innermost}
use Rattle.yak_model.specs.State.{Thing, object_of, view}
use Rattle.yak_model.specs.Placed.{HeapStands, Places, names_of, size_by, space_word, words_by}
use Rattle.yak_model.specs.Plans.{IsLawfulPlan, Move}
use Rattle.yak_model.specs.Stands.{Stands}
use Rattle.remember_sets.specs.Filed.{SetsHold}
use Rattle.yak_model.proofs.Placed.{in_page}
use Rattle.heap_walks.proofs.Seen.{present_home, present_of, seen, shown}
use Rattle.relocation.specs.Moves.{move_at}
use Rattle.relocation.specs.Slide.{Drops, IsPageOf, Runs, Sliding}
use Rattle.relocation.proofs.Lawful.{kept}
use Rattle.relocation.proofs.SlidLawful.{name_at, runs_of, slid_object, slide-lawful, slide-present, stands-at, walk-at}
use Rattle.relocation.proofs.Slidden.{Slid, pick, slide-known}
use Rattle.escape_closure.specs.Needs.{InOrder}
use Rattle.escape_closure.specs.Targets.{IsEscaping, IsTargetAt, TargetsWritten}
use Rattle.escape_closure.specs.Ends.{DropsRest, region_word}
use Rattle.escape_closure.specs.Leaving.{EndMoves, ReadyToMove, TightReady, left_behind}
use Rattle.escape_closure.proofs.Carries.{innermost_valid}
use Rattle.escape_closure.proofs.Counting.{counts_listed}
use Rattle.escape_closure.proofs.Fates.{OneEach, drops_rest, one_each}
use Rattle.escape_closure.proofs.Keeps.{closed_kept}
use Rattle.escape_closure.proofs.Reaches.{reached_here}
use Rattle.relocation.proofs.RunsTold.{runs-told}
use Rattle.escape_closure.proofs.Readies.{still_holds}

same_space : (a b : Space) → Some a ≡ Some b → a ≡ b
same_space a b e = cc

one_thing : (a b : Thing) → Some a ≡ Some b → a ≡ b
one_thing a b e = cc

-- where the targets are written, the pages of a space are runs of whole objects
pub runs_written : (m : Areas) (slid : ℕ) (c : Contents) (t : ℕ) → slid ≤ MAX_SPACE + 1 → ∥ ((s : SpaceState) × (before : Contents) × (stands : Stands m before s) × (escaping : ℕ) × TargetsWritten m s stands.places t before c escaping) ∥₁ → Runs m slid c
runs_written m slid c t fits some = runs-told m slid c (∥∥₁_map some (λ q. runs_of m slid c (view q.0) q.2.places (λ n. get_or c.heap (q.2.places.at n + 2) 0) q.4.heap q.2.stands.closed fits))

module _ (m : Areas) (before mid c : Contents) (s : SpaceState) (st : Stands m before s) (t count next : ℕ) (areas : IsAreas m) (has : HasThread m t) (low : 1 ≤ depth_of before t) (r : TightReady m before mid c s st t count next) where
  abbrev pub l : Places
  l = st.places

  abbrev pub moves : ℕ → Move
  moves = move_at c.scratch

  abbrev pub work : Name → ℕ
  work n = get_or mid.heap (st.places.at n + 2) 0

  pub valid : IsValid MAX_DEPTH (innermost s.graph t)
  valid = innermost_valid m before s st t areas has low

  pub small : region_word s t ≤ MAX_SPACE + 1
  small = let q = number-most (innermost s.graph t) valid in omega (arith, q)

  pub laid : HeapStands m mid.table mid.heap (object_of s) st.places (λ n. get_or mid.heap (st.places.at n + 2) 0)
  laid = r.written.heap

  abbrev pub runs : Runs m (region_word s t) mid
  runs = runs_of m (region_word s t) mid (view s) st.places (λ n. get_or mid.heap (st.places.at n + 2) 0) laid st.stands.closed small

  pub slide : Sliding m (region_word s t) mid (runs_of m (region_word s t) mid (view s) st.places (λ n. get_or mid.heap (st.places.at n + 2) 0) laid st.stands.closed small) c count (move_at c.scratch) next r.room (heap_length m)
  slide = r.sliding (runs_of m (region_word s t) mid (view s) st.places (λ n. get_or mid.heap (st.places.at n + 2) 0) laid st.stands.closed small)

  pub one : OneEach s st.places
  one = one_each m before.table before.heap s st.places (λ _. 0) st.stands.heap

  home_valid : (n : Name) (o : Thing) → object_of s n ≡ Some o → IsValid MAX_DEPTH o.home
  home_valid n o e = subst (λ k. IsValid k o.home) (ap (λ (q : Limits). q.depth) st.whole.limits) (st.whole.homes n o.home (seen s n o e).home_is)

  -- an object that has a target escapes
  pub aimed : (n : Name) (o : Thing) → object_of s n ≡ Some o → work n ≢ 0 → IsEscaping s t n
  aimed n o present some =
      let all = r.written.counted in
      elim (names.contains all.0 n) as (λ b. names.contains all.0 n ≡ b → IsEscaping s t n) [
        | true ↦ λ e. (all.1 n).0 e
        | false ↦ λ e. absurd (some (r.written.others n (present_of s n o present) (λ esc. let q : false ≡ true = sym e ∙ (all.1 n).1 esc in absurd (let z : false ≡ true = q in cc))))
      ] refl

  -- an object outside the region has none
  pub aimless : (n : Name) (o : Thing) → object_of s n ≡ Some o → o.home ≢ innermost s.graph t → work n ≡ 0
  aimless n o present far = r.written.others n (present_of s n o present) (λ esc.
      let i = reached_here s st.whole t has.0 (innermost s.graph t) n esc.0 esc.1 in
      far (ap (λ (q : Thing). q.home) (one_thing o i.0 (sym present ∙ i.1)) ∙ i.2))

  -- the object of a move
  mover : (k : ℕ) → k < count → (n : Name) × IsEscaping s t n × (st.places.at n ≡ (move_at c.scratch k).old)
  mover k lt =
      let mark = slide.marked k lt in
      let x = mark.0 in
      let n : Name = name_at st.places x.0 x.1 in
      let at = stands-at m mid.table mid.heap (object_of s) st.places work laid x.0 x.1 x.2 x.4 in
      let o = slid_object m (region_word s t) mid (view s) st.places work laid st.stands.closed small n x.0 x.1 at x.3 in
      let place : st.places.at n ≡ (moves k).old = sym (x.5 ∙ walk-at m (region_word s t) mid (view s) st.places work laid st.stands.closed small x.0 x.1 x.2 x.3 x.4) in
      (n, aimed n o.thing o.present (λ z. mark.1 (ap (λ i. get_or mid.heap (i + 2) 0) (sym place) ∙ z)), place)

  -- each escaping object moves
  pub goes : (n : Name) → IsEscaping s t n → (k : ℕ) × (k < count) × (st.places.at n ≡ (move_at c.scratch k).old) × (x : Space) × IsTargetAt s t n x × ((move_at c.scratch k).space ≡ Control)
  goes n esc =
      let i = reached_here s st.whole t has.0 (innermost s.graph t) n esc.0 esc.1 in
      let at = laid.present n i.0 i.1 in
      let w = laid.whole n at.0 at.1 at.2 in
      let own : IsPageOf (region_word s t) mid.table at.0 = w.2 ∙ ap (λ (q : Thing). space_index q.home + 1) (one_thing w.0 i.0 (sym w.1 ∙ i.1)) ∙ ap (λ (y : Space). space_index y + 1) i.2 in
      let hp : at.0 < m.pages = omega (arith, laid.count, at.2.page) in
      let name : name_at st.places at.0 at.1 ≡ n = get_or_default (names_of st.places at.0) at.1 (record { thread = 0; serial = 0 }) n at.2.place ∙ at.2.name in
      let walk = ap st.places.at (sym name) ∙ sym (walk-at m (region_word s t) mid (view s) st.places work laid st.stands.closed small at.0 at.1 hp own at.2.place) in
      let page = in_page (page_words m) (size_by (object_of s)) st.places n at.0 at.1 laid.tiles at.2 in
      let size : size_by (object_of s) n ≡ length i.0.fields + OBJECT_WORDS = ap words_by i.1 in
      let within : st.places.at n < heap_length m = omega (arith, page.0, page.1, size, hp) in
      let word = r.written.targets n esc in
      let found = slide.complete (st.places.at n) (at.0, at.1, hp, own, at.2.place, walk) within (λ z. omega (arith, z, word.3)) in
      (found.0, found.1, sym found.2, word.0, word.2, (slide.control found.0 found.1).0)

  pub tight_moves : EndMoves s st.places t count (move_at c.scratch) true
  tight_moves = record {
    ascending = λ j k less lt. let p = slide.apart j k less lt in omega (arith, p);
    moved = mover;
    complete = goes;
  }

  -- what the rest of the region is
  pub drops_of : (dropped : Name → Bool) → DropsRest s t dropped → Drops (region_word s t) (view s) (λ n. get_or mid.heap (st.places.at n + 2) 0) dropped
  drops_of dropped d = record {
    kept = λ n o present stays index z.
        let home : o.home ≡ innermost s.graph t = number-own o.home (innermost s.graph t) (home_valid n o present) valid (omega (arith, index)) in
        let word = r.written.targets n (d.kept n stays ((seen s n o present).home_is ∙ ap Some home)) in
        omega (arith, z, word.3);
    marked = λ n o present some. elim (dropped n) as (λ b. dropped n ≡ b → b ≡ false) [
      | true ↦ λ e. absurd ((d.gone n e).1 (aimed n o present some))
      | false ↦ λ e. refl
    ] refl;
    elsewhere = λ n o present far. elim (dropped n) as (λ b. dropped n ≡ b → b ≡ false) [
      | true ↦ λ e. absurd (far (ap (λ (y : Space). space_index y + 1) (same_space o.home (innermost s.graph t) (sym (seen s n o present).home_is ∙ (d.gone n e).0))))
      | false ↦ λ e. refl
    ] refl;
  }

  pub tight_lawful : (dropped : Name → Bool) → DropsRest s t dropped → IsLawfulPlan m count (move_at c.scratch) (view s) st.places.at dropped
  tight_lawful dropped d = slide-lawful m (region_word s t) mid (view s) st.places work dropped c count moves next r.room laid st.stands.closed small (drops_of dropped d) (closed_kept s st.whole t dropped d st.stands.closed) slide

  kept_before : (a : ℕ) → ((n : Name) (o : Thing) → object_of s n ≡ Some o → a ≢ st.places.at n + 2) → get_or c.heap a 0 ≡ get_or before.heap a 0
  kept_before a none =
      slide.others a (λ k lt e.
      let q = mover k lt in
      let i = reached_here s st.whole t has.0 (innermost s.graph t) q.0 q.1.0 q.1.1 in
      none q.0 i.0 i.1 (e ∙ ap (λ x. x + 2) (sym q.2)))
      ∙ r.written.kept a (λ n present.
      let home = present_home s n present in
      let o = shown s n home.0 st.whole home.1 in
      none n o.0 o.1)

  pub tight_frame : c ≡ record before { scratch = c.scratch; heap = c.heap }
  tight_frame = slide.elsewhere ∙ ap (λ (x : Contents). record x { scratch = c.scratch; heap = c.heap }) r.written.frame

  pub tight_ready : ReadyToMove m before c s st t count true
  tight_ready =
      let heads : before.heads ≡ c.heads = sym (ap (λ (x : Contents). x.heads) tight_frame) in
      let currents : before.currents ≡ c.currents = sym (ap (λ (x : Contents). x.currents) tight_frame) in
      let table : before.table ≡ c.table = sym (ap (λ (x : Contents). x.table) tight_frame) in
      record {
        ready = record {
          recorded = r.filed.recorded;
          filed = r.filed.filed;
          moved = mover;
          complete = λ n esc. let w = goes n esc in (w.0, w.1, w.2);
          numbered = slide.numbered;
          holds = still_holds m before s st c.heap areas kept_before;
          kept = λ p lt ne. ap (λ (ts : List (List ℕ)). space_word ts p) (sym table);
          frame = tight_frame
              ∙ ap (λ (hs : List ℕ). record before { heads = hs; scratch = c.scratch; heap = c.heap }) heads
              ∙ ap (λ (cs : List (List ℕ)). record before { heads = c.heads; currents = cs; scratch = c.scratch; heap = c.heap }) currents
              ∙ ap (λ (ts : List (List ℕ)). record before { heads = c.heads; currents = c.currents; table = ts; scratch = c.scratch; heap = c.heap }) table;
        };
        moves = tight_moves;
        lawful = tight_lawful;
        sets = subst (SetsHold m) (sym tight_frame) st.stands.sets;
      }

  -- the names of the moves, as the slide has them
  pub rest : DropsRest s t (left_behind s st.places t count (move_at c.scratch))
  rest = drops_rest s st.whole st.places one t count has.0 valid moves true tight_moves

  abbrev pub named : ℕ → Name
  named = pick count (λ k lt. (slide-present m (region_word s t) mid (view s) st.places (λ n. get_or mid.heap (st.places.at n + 2) 0) (left_behind s st.places t count (move_at c.scratch)) c count (move_at c.scratch) next r.room (heap_length m) laid st.stands.closed small (drops_of (left_behind s st.places t count (move_at c.scratch)) rest) slide k lt).0)

  pub known : Slid m (region_word s t) mid (view s) st.places (left_behind s st.places t count (move_at c.scratch)) count (move_at c.scratch) named
  known = slide-known m (region_word s t) mid (view s) st.places work (left_behind s st.places t count moves) c count moves next r.room (heap_length m) laid st.stands.closed small (drops_of (left_behind s st.places t count moves) rest) slide

  pub name_is : (k : ℕ) → k < count → st.places.at (named k) ≡ (move_at c.scratch k).old
  name_is k lt = (known.object k lt).2

  pub name_escapes : (k : ℕ) → k < count → IsEscaping s t (named k)
  name_escapes k lt =
      let x = known.object k lt in
      let q = mover k lt in
      let i = reached_here s st.whole t has.0 (innermost s.graph t) q.0 q.1.0 q.1.1 in
      subst (IsEscaping s t) (one q.0 (named k) i.0 x.0 i.1 (kept (view s) (left_behind s st.places t count moves) (named k) x.0 x.1) (q.2 ∙ sym x.2)) q.1

  pub tight_counts : Counts (IsEscaping s t) count
  tight_counts = counts_listed (IsEscaping s t) named count
      (λ j k less lt e.
      let lj : j < count = omega (arith, less, lt) in
      let up = tight_moves.ascending j k less lt in
      let same : st.places.at (named j) ≡ st.places.at (named k) = ap st.places.at e in
      omega (arith, up, same, name_is j lj, name_is k lt))
      name_escapes
      (λ n esc.
      let w = goes n esc in
      let x = known.object w.0 w.1 in
      let i = reached_here s st.whole t has.0 (innermost s.graph t) n esc.0 esc.1 in
      (w.0, w.1, one (named w.0) n x.0 i.0 (kept (view s) (left_behind s st.places t count moves) (named w.0) x.0 x.1) i.1 (x.2 ∙ sym w.2)))

  -- the escaping objects by ascending address, each with its target
  abbrev pub target_of : ℕ → Space
  target_of k = unwrap_or (space_of (get_or mid.heap (st.places.at (named k) + 2) 0 - 1)) Control

  pub target_is : (k : ℕ) → k < count → IsValid MAX_DEPTH (target_of k) × IsTargetAt s t (named k) (target_of k)
  target_is k lt =
      let w = r.written.targets (named k) (name_escapes k lt) in
      let back : space_of (space_index w.0 + 1 - 1) ≡ Some w.0 = ap space_of (let q : space_index w.0 + 1 - 1 ≡ space_index w.0 = omega arith in q) ∙ number-reads_back w.0 w.1 in
      let is : target_of k ≡ w.0 = ap (λ i. unwrap_or (space_of (i - 1)) Control) w.3 ∙ ap (λ (x : Option Space). unwrap_or x Control) back in
      subst (λ (x : Space). IsValid MAX_DEPTH x × IsTargetAt s t (named k) x) (sym is) (w.1, w.2)

  abbrev pub in_order : InOrder s st.places t count
  in_order = record {
    name = named;
    target = target_of;
    escaping = name_escapes;
    complete = λ n esc.
        let w = goes n esc in
        let x = known.object w.0 w.1 in
        let i = reached_here s st.whole t has.0 (innermost s.graph t) n esc.0 esc.1 in
        (w.0, w.1, one (named w.0) n x.0 i.0 (kept (view s) (left_behind s st.places t count moves) (named w.0) x.0 x.1) i.1 (x.2 ∙ sym w.2));
    ascending = λ j k less lt.
        let lj : j < count = omega (arith, less, lt) in
        let up = tight_moves.ascending j k less lt in
        omega (arith, up, name_is j lj, name_is k lt);
    targets = target_is;
  }
