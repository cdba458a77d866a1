-- The words that an end leaves stand for the state after it, and its crossing references are recorded.
use Rattle.std.proofs.Common.{◌≡◌, ◌≢◌, ℕ, ◌+◌, ◌-◌, ◌≤◌, ◌<◌, Bool, true, false, cond, Option, Some, List, [], ◌∷◌, length, get_or, map, set, zero, suc, refl, sym, ap, subst, ◌∙◌, arith, inl, inr, length-set, get_or-set_same, get_or-set_other}
use Rattle.std.specs.List.{All, Contains, flat_map}
use Rattle.std.proofs.lemmas.Bool.{cases_eq, cases_lt}
use Rattle.std.specs.Int.{IsBitSet}
use Rattle.std.proofs.lemmas.Bool.Decides.{nat_tests}
use Rattle.std.proofs.lemmas.List.{get_or_past}
use Rattle.std.proofs.Math.Logic.{⊎_elim}
use Rattle.object_layout.specs.declared.names.Name.{Name}
use Rattle.heap_words.specs.declared.map.Areas.{Areas}
use Rattle.heap_words.specs.Map.{HasThread, IsAreas, max_depth}
use Rattle.heap_words.specs.Cells.{row}
use Rattle.heap_words.specs.Contents.{Contents, depth_of, with_depth, with_readers}
use Rattle.epoch_lattice.specs.declared.Space.{Space}
use Rattle.epoch_lattice.specs.declared.Space.TheVariants.{Control, Region}
use Rattle.epoch_lattice.specs.declared.TheConstants.{MAX_DEPTH}
use Rattle.epoch_lattice.specs.Lattice.{IsBelow, IsValid, parent_of, space_index}
use Rattle.epoch_lattice.proofs.Numbers.{number-own}
use Rattle.yak_model.specs.declared.datum.Datum.TheVariants.{Null, Object}
use Rattle.yak_model.specs.Graph.{Limits, thread_of}
use Rattle.yak_model.specs.Spaces.{Counts, IsOnStack, SpaceState, Walk, here, home_of, innermost, other, own}
use Rattle.yak_model.specs.State.{IsOpen, State, Thing, object_of, stack, view}
use Rattle.yak_model.specs.Placed.{Places, datum_word, space_word}
use Rattle.yak_model.specs.Plans.{Move, forwarded, without}
use Rattle.yak_model.specs.Stands.{Stands, StandsAs}
use Rattle.yak_model.specs.Chains.{IsRegionOf}
use Rattle.yak_model.specs.Recorded.{IsField, IsRecorded, Recorded, RecordedAs}
use Rattle.yak_model.proofs.Chains.{contains-none}
use Rattle.yak_model.proofs.Lists.{slot_on_list}
use Rattle.yak_model.proofs.Stacks.{all-at}
use Rattle.heap_walks.proofs.Seen.{on_stack, present_home, seen, shown}
use Rattle.heap_walks.proofs.Stacks.{some_row}
use Rattle.remember_sets.specs.Filed.{chain}
use Rattle.forwarding.specs.Crossing.{AreFiled}
use Rattle.escape_closure.specs.Targets.{IsEscaping}
use Rattle.escape_closure.specs.Ends.{StateEnded, region_word}
use Rattle.escape_closure.specs.Leaves.{FilesEnded, RestKept}
use Rattle.escape_closure.specs.Leaving.{EndMoves, Leaves, left_behind, objects_left}
use Rattle.escape_closure.proofs.Afters.{Ended, ended_so, ended_view}
use Rattle.escape_closure.proofs.Fates.{MovedAs, OneEach, left_so, moves_so, one_each, stays_so}
use Rattle.escape_closure.proofs.Files.{closed_left, crossing_filed, field_filed, files_left}
use Rattle.escape_closure.proofs.Rehomed.{closed_after}
use Rattle.escape_closure.proofs.Written.{depth_is, none_filed, region_is}

one_thing : (a b : Thing) → Some a ≡ Some b → a ≡ b
one_thing a b e = cc

one_region : (u d v e : ℕ) → Region u d ≡ Region v e → (u ≡ v) × (d ≡ e)
one_region u d v e h = ((cc), (cc))

no_region : (u d : ℕ) → Control ≡ Region u d → ⊥
no_region u d h = cc

-- ---- spaces

open_valid : (m : Areas) (depths : List ℕ) (x : Space) → IsAreas m → length depths ≡ m.threads → ((i : ℕ) → get_or depths i 0 ≤ max_depth m) → IsOpen depths x → IsValid MAX_DEPTH x
open_valid m depths Control areas long deep h = tt
open_valid m depths (Region u d) areas long deep h = (h.0, omega (arith, h.1, long, areas.3), h.2, omega (arith, h.3, deep (u - 1)))

-- a space that isn't the innermost one of the thread stays open
still_open : (depths : List ℕ) (t depth : ℕ) (x : Space) → 1 ≤ t → t ≤ length depths → get_or depths (t - 1) 0 ≡ depth → IsOpen depths x → x ≢ Region t depth → IsOpen (set depths (t - 1) (depth - 1)) x
still_open depths t depth Control some most is h ne = tt
still_open depths t depth (Region u e) some most is h ne = ⊎_elim
    (λ (q : u ≡ t).
    let shallow : e ≢ depth = λ z. ne (ap (λ i. Region i e) q ∙ ap (Region t) z) in
    let here : get_or depths (u - 1) 0 ≡ depth = ap (λ i. get_or depths (i - 1) 0) q ∙ is in
    let now : get_or (set depths (t - 1) (depth - 1)) (u - 1) 0 ≡ depth - 1 = ap (λ i. get_or (set depths (t - 1) (depth - 1)) (i - 1) 0) q ∙ get_or-set_same depths (t - 1) (depth - 1) 0 (omega arith) in
    (h.0, omega (arith, h.1, length-set depths (t - 1) (depth - 1)), h.2, omega (arith, h.3, here, now, shallow)))
    (λ (nq : u ≢ t).
    let now : get_or (set depths (t - 1) (depth - 1)) (u - 1) 0 ≡ get_or depths (u - 1) 0 = get_or-set_other depths (t - 1) (u - 1) (depth - 1) 0 (λ z. nq (omega (arith, z, some, h.0))) in
    (h.0, omega (arith, h.1, length-set depths (t - 1) (depth - 1)), h.2, omega (arith, h.3, now)))
    (cases_eq u t)

-- what a stack's reference stands for is below no region of another thread
parent_below : (t depth u d : ℕ) → IsBelow (parent_of (Region t depth)) (Region u d) → u ≡ t
parent_below t depth u d h = grind (arith, nat_tests)

set_past : {X : Type 0} (xs : List X) (i : ℕ) (x : X) → length xs ≤ i → set xs i x ≡ xs
set_past [] i x le = refl
set_past (y ∷ ys) zero x le = absurd (omega (arith, le))
set_past (y ∷ ys) (suc i) x le = ap (λ zs. y ∷ zs) (set_past ys i x (omega (arith, le)))

set_zero : (xs : List ℕ) (i : ℕ) → get_or (set xs i 0) i 0 ≡ 0
set_zero [] i = refl
set_zero (x ∷ xs) zero = refl
set_zero (x ∷ xs) (suc i) = set_zero xs i

here_walk : {edge : Name → Name → Type 0} (x : Name) → Walk edge x x
here_walk x = here

module _ (m : Areas) (c : Contents) (s : SpaceState) (st : Stands m c s) (recorded : Recorded m c s st) (quiet : AreFiled c.buffers) (areas : IsAreas m) (t count : ℕ) (has : HasThread m t) (low : 1 ≤ depth_of c t) (moves : ℕ → Move) (tight : Bool) (e : EndMoves s st.places t count moves tight) (spaces : (k : ℕ) → k < count → IsValid MAX_DEPTH (moves k).space) (d : Contents) (later : Places) (leaves : Leaves m c d s st.places t count moves later) where
  abbrev l : Places
  l = st.places

  abbrev depth : ℕ
  depth = depth_of c t

  abbrev left : Name → Option Thing
  left = objects_left s l t count moves

  region : innermost s.graph t ≡ Region t depth
  region = region_is m c s st t depth has refl low

  deep : (i : ℕ) → get_or (view s).depths i 0 ≤ max_depth m
  deep i = rw (← st.stands.depths) (all-at (λ k. k ≤ max_depth m) c.depths i 0 (omega arith) st.stands.limits.depths)

  depth_at : get_or (view s).depths (t - 1) 0 ≡ depth
  depth_at = ap (λ (ds : List ℕ). get_or ds (t - 1) 0) (sym st.stands.depths)

  high : depth ≤ max_depth m
  high = omega (arith, deep (t - 1), depth_at)

  valid : IsValid MAX_DEPTH (innermost s.graph t)
  valid = subst (IsValid MAX_DEPTH) (sym region) (has.0, omega (arith, has, areas.3), low, omega (arith, high))

  one : OneEach s l
  one = one_each m c.table c.heap s l (λ _. 0) st.stands.heap

  leads : (n : Name) → later.at n ≡ forwarded count moves l.at n
  leads n = ap (λ (f : Name → ℕ). f n) leaves.at

  -- the state stands
  pub view_stands : StandsAs m d (ended_view s l t count moves) later
  view_stands = record {
    heap = leaves.heap;
    open_spaces = λ p hp. ⊎_elim
        (λ (z : space_word d.table p ≡ 0). inl z)
        (λ (x : (x : Space) × (space_word d.table p ≡ space_index x + 1) × IsOpen (view s).depths x × (x ≢ innermost s.graph t)).
        inr (x.0, x.1, rw (← depth_is m c s st t has) (still_open (view s).depths t depth x.0 has.0 (omega (arith, has, st.stands.threads)) depth_at x.2 (λ q. x.3 (q ∙ sym region)))))
        (leaves.spaces p hp);
    closed = let q = closed_after count moves l.at (without (view s) (left_behind s l t count moves)) leaves.closed in record { stacks = q.stacks; fields = q.fields };
    stacks = leaves.stacks ∙ ap (λ (f : Name → ℕ). map (map (datum_word f)) (view s).stacks) (sym leaves.at);
    depths = leaves.depths ∙ ap (λ (ds : List ℕ). set ds (t - 1) (depth - 1)) st.stands.depths ∙ ap (λ i. set (view s).depths (t - 1) (i - 1)) (depth_is m c s st t has);
    made = leaves.made ∙ st.stands.made;
    serials = st.stands.serials;
    threads = length-set (view s).depths (t - 1) ((thread_of s.graph t).depth - 1) ∙ st.stands.threads;
    names = λ n p q. let w = left_so s st.whole l one t count has.0 valid moves tight e n p q in st.stands.names n w.0 w.1;
    limits = leaves.limits;
    zero = record { heads = subst (All (λ w. w ≡ 0)) (sym leaves.unused) st.stands.zero.heads; blocks = subst (All (All (λ w. w ≡ 0))) (sym leaves.rests) st.stands.zero.blocks };
    pool = leaves.pool;
    currents = leaves.currents;
    sets = leaves.sets;
    heads_closed = closed_left m c s st recorded quiet areas t count has low moves tight e spaces d later leaves;
    dense = leaves.dense;
  }

  -- ---- records

  home_valid : (n : Name) (o : Thing) → object_of s n ≡ Some o → IsValid MAX_DEPTH o.home
  home_valid n o h = subst (λ k. IsValid k o.home) (ap (λ (q : Limits). q.depth) st.whole.limits) (st.whole.homes n o.home (seen s n o h).home_is)

  field_now : (a : ℕ) → IsRecorded m d.firsts d.sets d.buffers a → IsField later.at (ended_view s l t count moves) a
  field_now a h = ⊎_elim
      (λ (f : (x : Space) × IsRegionOf m x × Contains (chain m d x) a). let q = field_filed m c s st recorded quiet areas t count has low moves tight e spaces d later leaves f.0 a f.1 f.2 in (q.name, q.object, q.field, q.present, q.within, q.place))
      (λ (f : Contains (flat_map (λ (b : List ℕ). b) d.buffers) a). absurd (contains-none a (subst (λ (b : List ℕ). Contains b a) (none_filed d.buffers leaves.buffers) f)))
      h

  -- a reference of a stack of another thread enters no region newly
  moved_home : (v u f k : ℕ) (x : Name) (o p : Thing) → 1 ≤ v → k < length (stack (view s) v) → get_or (stack (view s) v) k Null ≡ Object x → object_of s x ≡ Some o → left x ≡ Some p → MovedAs s l t count moves x o p → p.home ≡ Region u f → u ≢ v → ⊥
  moved_home v u f k x o p some lt refers now_is now w home ne =
      let at = e.complete x w.escapes in
      let r = moves_so s st.whole l one t count has.0 valid moves tight e x o at.0 now_is at.1 at.2 in
      let goes : cond tight Control at.3 ≡ Region u f = sym at.5 ∙ ap (λ (z : Thing). z.home) (one_thing (record o { home = (moves at.0).space }) p (sym r.0 ∙ now)) ∙ home in
      let index : v - 1 + 1 ≡ v = omega (arith, some) in
      let holds : IsOnStack s.graph v x = subst (λ i. IsOnStack s.graph i x) index (on_stack s st.whole (v - 1) x (some_row (view s).stacks (v - 1) k lt, slot_on_list (stack (view s) v) k x refers)) in
      let inside : home_of s x ≡ Some (innermost s.graph t) = (seen s x o now_is).home_is ∙ ap Some w.home in
      elim tight as (λ b. cond b Control at.3 ≡ Region u f → ⊥) [
        | true ↦ λ q. no_region u f q
        | false ↦ λ q. ⊎_elim
            (λ (own_one : v ≡ t).
            let source = own x (subst (λ i. IsOnStack s.graph i x) own_one holds) inside in
            let below : IsBelow (parent_of (Region t depth)) (Region u f) = subst (λ y. IsBelow (parent_of (Region t depth)) y) q (subst (λ y. IsBelow (parent_of y) at.3) region (at.4.above (parent_of (innermost s.graph t)) (x, source, here_walk x))) in
            ne (parent_below t depth u f below ∙ sym own_one))
            (λ (other_one : v ≢ t).
            let source = other x v other_one holds inside in
            let below : IsBelow Control (Region u f) = subst (IsBelow Control) q (at.4.above Control (x, source, here_walk x)) in
            no_region u f below)
            (cases_eq v t)
      ] goes

  readers_at : (u f : ℕ) → 1 ≤ u → (u ≡ t → f ≢ depth) → 1 ≤ f → get_or (row d.readers (u - 1)) (f - 1) 0 ≡ get_or (row c.readers (u - 1)) (f - 1) 0
  readers_at u f some apart least = ap (λ (rs : List (List ℕ)). get_or (row rs (u - 1)) (f - 1) 0) leaves.readers ∙ ⊎_elim
      (λ (q : u - 1 ≡ t - 1).
      let ne : f - 1 ≢ depth - 1 = λ z. apart (omega (arith, q, some, has.0)) (omega (arith, z, least, low)) in
      ⊎_elim
      (λ (lt : t - 1 < length c.readers). ap (λ i. get_or (row (set c.readers (t - 1) (set (row c.readers (t - 1)) (depth - 1) 0)) i) (f - 1) 0) q ∙ ap (λ (r : List ℕ). get_or r (f - 1) 0) (get_or-set_same c.readers (t - 1) (set (row c.readers (t - 1)) (depth - 1) 0) [] lt) ∙ get_or-set_other (row c.readers (t - 1)) (depth - 1) (f - 1) 0 0 ne ∙ ap (λ i. get_or (row c.readers i) (f - 1) 0) (sym q))
      (λ (past : length c.readers ≤ t - 1). ap (λ (rs : List (List ℕ)). get_or (row rs (u - 1)) (f - 1) 0) (set_past c.readers (t - 1) (set (row c.readers (t - 1)) (depth - 1) 0) past))
      (cases_lt (t - 1) (length c.readers)))
      (λ (nq : u - 1 ≢ t - 1). ap (λ (r : List ℕ). get_or r (f - 1) 0) (get_or-set_other c.readers (t - 1) (u - 1) (set (row c.readers (t - 1)) (depth - 1) 0) [] nq))
      (cases_eq (u - 1) (t - 1))

  own_readers : get_or (row d.readers (t - 1)) (depth - 1) 0 ≡ 0
  own_readers = ap (λ (rs : List (List ℕ)). get_or (row rs (t - 1)) (depth - 1) 0) leaves.readers ∙ ⊎_elim
      (λ (lt : t - 1 < length c.readers). ap (λ (r : List ℕ). get_or r (depth - 1) 0) (get_or-set_same c.readers (t - 1) (set (row c.readers (t - 1)) (depth - 1) 0) [] lt) ∙ set_zero (row c.readers (t - 1)) (depth - 1))
      (λ (past : length c.readers ≤ t - 1). ap (λ (rs : List (List ℕ)). get_or (row rs (t - 1)) (depth - 1) 0) (set_past c.readers (t - 1) (set (row c.readers (t - 1)) (depth - 1) 0) past) ∙ ap (λ (r : List ℕ). get_or r (depth - 1) 0) (get_or_past c.readers (t - 1) [] past))
      (cases_lt (t - 1) (length c.readers))

  pub view_recorded : RecordedAs m d (ended_view s l t count moves) later.at
  view_recorded = record {
    crossing = λ n x o p f hn lt refers hx enters. inl (crossing_filed m c s st recorded quiet areas t count has low moves tight e spaces d later leaves n x o p f hn lt refers hx enters);
    fields = field_now;
    read = λ v u f k x p some most lt refers hx home ne.
        let w = left_so s st.whole l one t count has.0 valid moves tight e x p hx in
        elim w.2 [
          | inl q ↦ absurd (moved_home v u f k x w.0 p some lt refers w.1 hx q home ne)
          | inr q ↦
              let was : w.0.home ≡ Region u f = ap (λ (z : Thing). z.home) (sym q.is) ∙ home in
              let r = recorded.read v u f k x w.0 some most lt refers w.1 was ne in
              let ok = subst (IsValid MAX_DEPTH) was (home_valid x w.0 w.1) in
              subst (λ i. IsBitSet i (v - 1)) (sym (readers_at u f ok.0 (λ same z. q.home (was ∙ ap (λ i. Region i f) same ∙ ap (Region t) z ∙ sym region)) ok.2)) r
        ];
    closed = λ u f hu hm hf lt. ⊎_elim
        (λ (q : u ≡ t).
        let now : get_or (set (view s).depths (t - 1) ((thread_of s.graph t).depth - 1)) (u - 1) 0 ≡ (thread_of s.graph t).depth - 1 = ap (λ i. get_or (set (view s).depths (t - 1) ((thread_of s.graph t).depth - 1)) (i - 1) 0) q ∙ get_or-set_same (view s).depths (t - 1) ((thread_of s.graph t).depth - 1) 0 (omega (arith, has, st.stands.threads)) in
        let is = depth_is m c s st t has in
        ⊎_elim
        (λ (z : f ≡ depth). ap (λ i. get_or (row d.readers (i - 1)) (f - 1) 0) q ∙ ap (λ i. get_or (row d.readers (t - 1)) (i - 1) 0) z ∙ own_readers)
        (λ (nz : f ≢ depth).
        let over : get_or (view s).depths (u - 1) 0 < f = (let a : get_or (view s).depths (u - 1) 0 ≡ depth = ap (λ i. get_or (view s).depths (i - 1) 0) q ∙ depth_at in omega (arith, a, lt, now, is, nz)) in
        readers_at u f hu (λ same. nz) (omega (arith, over)) ∙ recorded.closed u f hu hm hf over)
        (cases_eq f depth))
        (λ (nq : u ≢ t).
        let now : get_or (set (view s).depths (t - 1) ((thread_of s.graph t).depth - 1)) (u - 1) 0 ≡ get_or (view s).depths (u - 1) 0 = get_or-set_other (view s).depths (t - 1) (u - 1) ((thread_of s.graph t).depth - 1) 0 (λ z. nq (omega (arith, z, has.0, hu))) in
        let over : get_or (view s).depths (u - 1) 0 < f = omega (arith, lt, now) in
        readers_at u f hu (λ same. absurd (nq same)) (omega (arith, over)) ∙ recorded.closed u f hu hm hf over)
        (cases_eq u t);
  }

  -- no page is one of the region
  none_left : (p : ℕ) → p < m.pages → space_word d.table p ≢ region_word s t
  none_left p hp is = ⊎_elim
      (λ (z : space_word d.table p ≡ 0). omega (arith, z, is))
      (λ (x : (x : Space) × (space_word d.table p ≡ space_index x + 1) × IsOpen (view s).depths x × (x ≢ innermost s.graph t)).
      x.3 (number-own x.0 (innermost s.graph t) (open_valid m (view s).depths x.0 areas st.stands.threads deep x.2) valid (omega (arith, x.1, is))))
      (leaves.spaces p hp)

  pub state_ended : Counts (IsEscaping s t) count → StateEnded m d s t tight count
  state_ended counts =
      let x : Ended s l t count moves tight = ended_so s st.whole l one t count has.0 valid moves tight e counts (omega (arith, low, depth_is m c s st t has)) spaces in
      record {
        after = x.after;
        ends = x.ends;
        stands = record { whole = x.whole; places = later; stands = subst (λ v. StandsAs m d v later) (sym x.shows) view_stands };
        recorded = subst (λ v. RecordedAs m d v later.at) (sym x.shows) view_recorded;
        filed = leaves.buffers;
        gone = none_left;
      }

  -- the places are those that the moves leave
  pub ended_places : (counts : Counts (IsEscaping s t) count) → (state_ended counts).stands.places ≡ later
  unfolding state_ended
  ended_places counts = refl

  -- ---- what is left beside the state

  same_objects : (x : Ended s l t count moves tight) → object_of x.after ≡ left
  same_objects x = ap (λ (v : State). v.objects) x.shows

  files_ended : (x : Ended s l t count moves tight) → FilesEnded m c d s t (object_of x.after) later.at
  files_ended x = subst (λ (f : Name → Option Thing). FilesEnded m c d s t f later.at) (sym (same_objects x)) (files_left m c s st recorded quiet areas t count has low moves tight e spaces d later leaves)

  frame_kept : d ≡ record (with_depth (with_readers c t (depth_of c t) 0) t (depth_of c t - 1)) { heads = d.heads; stacks = d.stacks; buffers = d.buffers; currents = d.currents; firsts = d.firsts; table = d.table; pool = d.pool; sets = d.sets; scratch = d.scratch; heap = d.heap }
  frame_kept =
      ap (λ (ds : List ℕ). record d { depths = ds }) leaves.depths
      ∙ ap (λ (ms : List ℕ). record d { depths = set c.depths (t - 1) (depth_of c t - 1); made = ms }) leaves.made
      ∙ ap (λ (rs : List (List ℕ)). record d { depths = set c.depths (t - 1) (depth_of c t - 1); made = c.made; rests = rs }) leaves.rests
      ∙ ap (λ (rs : List (List ℕ)). record d { depths = set c.depths (t - 1) (depth_of c t - 1); made = c.made; rests = c.rests; readers = rs }) leaves.readers

  pub rest_kept : (counts : Counts (IsEscaping s t) count) → RestKept m c d s l t (state_ended counts).after (state_ended counts).stands.places.at
  unfolding state_ended
  rest_kept counts =
      let x : Ended s l t count moves tight = ended_so s st.whole l one t count has.0 valid moves tight e counts (omega (arith, low, depth_is m c s st t has)) spaces in
      record {
        stays = λ n present far.
            let home = present_home s n present in
            let o = shown s n home.0 st.whole home.1 in
            leads n ∙ (stays_so s st.whole l one t count has.0 valid moves tight e n o.0 o.1 (λ q. far (home.1 ∙ ap Some (sym o.2 ∙ q)))).1.leads;
        filed = files_ended x;
        pool = leaves.anew;
        frame = frame_kept;
      }
