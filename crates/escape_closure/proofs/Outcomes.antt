-- What an end tells of the words before its buffers were filed.
use Rattle.std.proofs.Common.{◌≡◌, ◌≢◌, ◌⊎◌, ◌↔◌, ℕ, ◌+◌, ◌-◌, ◌*◌, ◌≤◌, ◌<◌, false, Option, List, length, get_or, sym, ap, subst, ◌∙◌, arith, inl, inr}
use Rattle.std.specs.List.{Contains}
use Rattle.std.proofs.Math.Logic.{⊎_elim}
use Rattle.std.proofs.lemmas.Bool.{cases_eq}
use Rattle.object_layout.specs.declared.replies.Shortage.{Shortage}
use Rattle.heap_words.specs.declared.map.Areas.{Areas}
use Rattle.object_layout.specs.declared.names.Name.{Name}
use Rattle.heap_words.specs.Map.{HasThread, IsAreas, heap_length, page_words}
use Rattle.heap_words.specs.Cells.{row}
use Rattle.heap_words.specs.Contents.{Contents, depth_of, stack_of, with_current, with_depth, with_readers}
use Rattle.epoch_lattice.specs.declared.Space.{Space}
use Rattle.epoch_lattice.specs.declared.Space.TheVariants.{Control, Region}
use Rattle.epoch_lattice.specs.Lattice.{space_index}
use Rattle.relocation.specs.Moves.{move_at}
use Rattle.relocation.specs.Slide.{Runs, Sliding}
use Rattle.yak_model.specs.Spaces.{SpaceState, innermost}
use Rattle.yak_model.specs.State.{State, Thing, object_of, view}
use Rattle.yak_model.specs.Placed.{Places, size_by, space_word}
use Rattle.yak_model.specs.Stands.{Stands, StandsAs, free_pages, pages_of, words_taken}
use Rattle.yak_model.specs.Chains.{IsRegionOf}
use Rattle.yak_model.specs.Recorded.{RecordedAs}
use Rattle.remember_sets.specs.Filed.{all_filed, chain, logged, page_word}
use Rattle.forwarding.specs.Crossing.{AreFiled}
use Rattle.forwarding.proofs.Anew.{pool_before}
use Rattle.escape_closure.specs.Needs.{InOrder, pages_needed}
use Rattle.escape_closure.specs.Targets.{TargetsWritten}
use Rattle.escape_closure.specs.Ends.{EndPlanned, FallsShort, RegionEnded, RegionShort, TightEnded, region_word}
use Rattle.escape_closure.specs.InTurn.{FindsNoPlace, StandInTurn}
use Rattle.escape_closure.specs.Leaving.{Begun, RegionReady, TightReady, records_of}
use Rattle.region_pages.specs.Counts.{used_of}
use Rattle.region_pages.proofs.Counting.{used_is}
use Rattle.escape_closure.specs.Leaves.{FilesEnded, IsLeftAs, RestKept, SlidInto, WasRecorded}
use Rattle.escape_closure.proofs.Costs.{few_words}
use Rattle.escape_closure.proofs.InTurn.{out_before, stand_before}
use Rattle.escape_closure.proofs.Readies.{plan_frame, region_ready}
use Rattle.escape_closure.proofs.Releases.{own_pages}
use Rattle.escape_closure.proofs.Written.{innermost_region, none_filed, region_is}

-- words of which only the scratch area has changed
stands_scratch : (m : Areas) (c : Contents) (v : State) (l : Places) (x : List ℕ) → StandsAs m c v l → (let d : Contents = record c { scratch = x } in StandsAs m d v l)
stands_scratch m c v l x h = record {
  heap = h.heap;
  open_spaces = h.open_spaces;
  closed = h.closed;
  stacks = h.stacks;
  depths = h.depths;
  made = h.made;
  serials = h.serials;
  threads = h.threads;
  names = h.names;
  limits = record { depths = h.limits.depths; stacks = h.limits.stacks; buffers = h.limits.buffers };
  zero = h.zero;
  pool = h.pool;
  currents = h.currents;
  sets = h.sets;
  heads_closed = h.heads_closed;
  dense = h.dense;
}

recorded_scratch : (m : Areas) (c : Contents) (s : SpaceState) (l : Places) (x : List ℕ) → RecordedAs m c (view s) l.at → (let d : Contents = record c { scratch = x } in RecordedAs m d (view s) l.at)
recorded_scratch m c s l x r = record { crossing = r.crossing; fields = r.fields; read = r.read; closed = r.closed }

-- a region that has pages is half full
dense_at : (m : Areas) (c : Contents) (s : SpaceState) (st : Stands m c s) (x : Space) → IsRegionOf m x → 0 < pages_of c.table x → page_words m * (pages_of c.table x - 1) ≤ 2 * words_taken st.places.pages (object_of s) x
dense_at m c s st Control own some = absurd own
dense_at m c s st (Region u d) own some = let dense = (st.stands.dense u d own.0 own.1 own.2 own.3 some).1 in omega (arith, dense)

-- what the numbers of the parts are
pub record RegionCosts (m : Areas) (c mid planned : Contents) (s : SpaceState) (l l' : Places) (t count : ℕ) : Type 0 where
  pub used : used_of mid.table (innermost s.graph t) ≡ words_taken l.pages (object_of s) (innermost s.graph t)
  pub moved : 3 * count ≤ words_taken l.pages (object_of s) (innermost s.graph t)
  pub few : pages_of mid.table (innermost s.graph t) ≤ 2 * words_taken l.pages (object_of s) (innermost s.graph t) + 1
  pub later : words_taken l'.pages (object_of s) (innermost s.graph t) ≡ words_taken l.pages (object_of s) (innermost s.graph t)
  pub slots : length (chain m planned (innermost s.graph t)) ≤ records_of m c (innermost s.graph t)
  pub pages : page_words m * pages_of planned.table (innermost s.graph t) ≤ 2 * words_taken l.pages (object_of s) (innermost s.graph t) + page_words m
  pub stack : length (stack_of planned t) ≡ length (stack_of c t)

module _ (m : Areas) (c : Contents) (s : SpaceState) (st : Stands m c s) (t escaping : ℕ) (mid : Contents) (b : Begun m c mid s st t escaping) where
  -- the pool is the same
  free_filing : free_pages b.filing.heads b.filing.pool ≡ free_pages c.heads c.pool
  free_filing = ap (λ (x : Contents). free_pages x.heads x.pool) b.frame

  needed_filing : (l : Places) (count : ℕ) (o : InOrder s l t count) → pages_needed m b.filing s l t count o ≡ pages_needed m c s l t count o
  needed_filing l count o = ap (λ (x : Contents). pages_needed m x s l t count o) b.frame

  -- what was recorded before the buffers were filed
  slots_as : (x : Space) → IsRegionOf m x → all_filed m b.filing x (logged b.filing) (chain m b.filing x) ≡ all_filed m c x (logged c) (chain m c x)
  slots_as x own = ap (λ (k : List ℕ). all_filed m b.filing x k (chain m b.filing x)) (none_filed b.filing.buffers b.filed) ∙ b.records x own

  page_as : (a : ℕ) → page_word m b.filing a ≡ page_word m c a
  page_as a = ap (λ (x : Contents). page_word m x a) b.frame

  was_before : (x : Space) (a : ℕ) → IsRegionOf m x → WasRecorded m b.filing s t x a → WasRecorded m c s t x a
  was_before x a own w = (subst (λ (k : List ℕ). Contains k a) (slots_as x own) w.0, λ z. w.1 (page_as a ∙ z))

  was_then : (x : Space) (a : ℕ) → IsRegionOf m x → WasRecorded m c s t x a → WasRecorded m b.filing s t x a
  was_then x a own w = (subst (λ (k : List ℕ). Contains k a) (sym (slots_as x own)) w.0, λ z. w.1 (sym (page_as a) ∙ z))

  files_from : (d : Contents) (objects : Name → Option Thing) (at : Name → ℕ) → IsRegionOf m (innermost s.graph t) → FilesEnded m b.filing d s t objects at → FilesEnded m c d s t objects at
  files_from d objects at own k = record {
    none = k.none;
    others = λ x of_heap ne a. (
      λ h. ⊎_elim
          (λ w. inl (was_before x a of_heap w))
          (λ y. inr (⊎_elim (λ w. inl (was_before (innermost s.graph t) a own w.0, w.1)) (λ w. inr w) y))
          ((k.others x of_heap ne a).0 h),
      λ h. (k.others x of_heap ne a).1 (⊎_elim
          (λ w. inl (was_then x a of_heap w))
          (λ y. inr (⊎_elim (λ w. inl (was_then (innermost s.graph t) a own w.0, w.1)) (λ w. inr w) y))
          h),
    );
  }

  rest_from : (d : Contents) (after : SpaceState) (at : Name → ℕ) → IsRegionOf m (innermost s.graph t) → RestKept m b.filing d s b.later.places t after at → RestKept m c d s st.places t after at
  rest_from d after at own k = record {
    stays = λ n present far. subst (λ (l : Places). at n ≡ l.at n) b.places (k.stays n present far);
    filed = files_from d (object_of after) at own k.filed;
    pool = pool_before m c b.filing d (ap (λ (x : Contents). x.heads) b.frame) (ap (λ (x : Contents). x.pool) b.frame) k.pool;
    frame = k.frame ∙ ap (λ (x : Contents). record (with_depth (with_readers x t (depth_of x t) 0) t (depth_of x t - 1)) { heads = d.heads; stacks = d.stacks; buffers = d.buffers; currents = d.currents; firsts = d.firsts; table = d.table; pool = d.pool; sets = d.sets; scratch = d.scratch; heap = d.heap }) b.frame;
  }

  pub region_from : (d : Contents) (count : ℕ) → IsRegionOf m (innermost s.graph t) → RegionEnded m b.filing d s b.later t count → RegionEnded m c d s st t count
  region_from d count own r =
      let at : Name → ℕ = r.state.stands.places.at in
      let told : (o : InOrder s st.places t count) × (pages_needed m b.filing s st.places t count o ≤ length (free_pages b.filing.heads b.filing.pool)) × (length r.claimed ≡ pages_needed m b.filing s st.places t count o) × StandInTurn m b.filing d s st.places t count o at =
      subst (λ (l : Places). (o : InOrder s l t count) × (pages_needed m b.filing s l t count o ≤ length (free_pages b.filing.heads b.filing.pool)) × (length r.claimed ≡ pages_needed m b.filing s l t count o) × StandInTurn m b.filing d s l t count o at) b.places (r.order, r.enough, r.claims, r.in_turn) in
      record {
        state = r.state;
        order = told.0;
        enough = let size : length (free_pages b.filing.heads b.filing.pool) ≡ length (free_pages c.heads c.pool) = ap (λ (xs : List ℕ). length xs) free_filing in omega (arith, told.1, size, needed_filing st.places count told.0);
        claimed = r.claimed;
        left = r.left;
        rest = rest_from d r.state.after r.state.stands.places.at own r.rest;
        former = sym free_filing ∙ r.former;
        claims = told.2 ∙ needed_filing st.places count told.0;
        free = λ p. subst (λ (x : Contents). Contains (free_pages d.heads d.pool) p ↔ (Contains r.left p ⊎ ((p < m.pages) × (space_word x.table p ≡ region_word s t)))) b.frame (r.free p);
        in_turn = stand_before m c b.filing d s st.places t count told.0 at b.frame told.3;
      }

  pub short_from : (shortage : Shortage) → FallsShort m mid s b.later.places t shortage → FallsShort m c s st.places t shortage
  short_from shortage f =
      let told : (o : InOrder s st.places t f.count) × (shortage.needed ≡ pages_needed m mid s st.places t f.count o) × FindsNoPlace m t f.count o.target (λ k. size_by (object_of s) (o.name k)) mid =
      subst (λ (l : Places). (o : InOrder s l t f.count) × (shortage.needed ≡ pages_needed m mid s l t f.count o) × FindsNoPlace m t f.count o.target (λ k. size_by (object_of s) (o.name k)) mid) b.places (f.order, f.needed, f.runs_out) in
      let same : pages_needed m mid s st.places t f.count told.0 ≡ pages_needed m b.filing s st.places t f.count told.0 = ap (λ (x : Contents). pages_needed m x s st.places t f.count told.0) b.written.frame in
      let room : free_pages mid.heads mid.pool ≡ free_pages b.filing.heads b.filing.pool = ap (λ (x : Contents). free_pages x.heads x.pool) b.written.frame in
      record {
        count = f.count;
        order = told.0;
        needed = told.1 ∙ same ∙ needed_filing st.places f.count told.0;
        free = f.free ∙ ap (λ (xs : List ℕ). length xs) (room ∙ free_filing);
        more = f.more;
        runs_out = out_before m t f.count told.0.target (λ k. size_by (object_of s) (told.0.name k)) c b.filing mid b.frame b.written.frame told.2;
      }

  pub region_short : (d : Contents) (shortage : Shortage) → FallsShort m mid s b.later.places t shortage → d ≡ record b.filing { scratch = d.scratch } → RegionShort m c d s st t shortage
  region_short d shortage f cleared = record {
    short = short_from shortage f;
    later = record {
      whole = b.later.whole;
      places = b.later.places;
      stands = subst (λ (x : Contents). StandsAs m x (view s) b.later.places) (sym cleared) (stands_scratch m b.filing (view s) b.later.places d.scratch b.later.stands);
    };
    places = b.places;
    recorded = subst (λ (x : Contents). RecordedAs m x (view s) b.later.places.at) (sym cleared) (recorded_scratch m b.filing s b.later.places d.scratch b.recorded);
    filed = subst (λ (x : Contents). AreFiled x.buffers) (sym cleared) b.filed;
    records = λ x own. ap (λ (y : Contents). chain m y x) cleared ∙ b.records x own;
    frame =
        let firsts : b.filing.firsts ≡ d.firsts = sym (ap (λ (x : Contents). x.firsts) cleared) in
        let sets : b.filing.sets ≡ d.sets = sym (ap (λ (x : Contents). x.sets) cleared) in
        let buffers : b.filing.buffers ≡ d.buffers = sym (ap (λ (x : Contents). x.buffers) cleared) in
        cleared
        ∙ ap (λ (x : Contents). record x { scratch = d.scratch }) b.frame
        ∙ ap (λ (fs : List (List ℕ)). record c { firsts = fs; sets = b.filing.sets; buffers = b.filing.buffers; scratch = d.scratch }) firsts
        ∙ ap (λ (xs : List ℕ). record c { firsts = d.firsts; sets = xs; buffers = b.filing.buffers; scratch = d.scratch }) sets
        ∙ ap (λ (bs : List (List ℕ)). record c { firsts = d.firsts; sets = d.sets; buffers = bs; scratch = d.scratch }) buffers;
    room = ap (λ (x : Contents). free_pages x.heads x.pool) cleared ∙ free_filing;
  }

  -- a plan of the end after its start
  pub region_readied : (planned : Contents) (count : ℕ) → count ≡ escaping → EndPlanned m mid planned s b.later.places t count → RegionReady m b.filing mid planned s b.later t count
  region_readied planned count same e = record {
    filed = record { recorded = b.recorded; filed = b.filed };
    written = subst (λ i. TargetsWritten m s b.later.places t b.filing mid i) (sym same) b.written;
    planned = e;
  }

  pub tight_from : (d : Contents) (count : ℕ) → IsRegionOf m (innermost s.graph t) → TightEnded m b.filing d s b.later t count → TightEnded m c d s st t count
  tight_from d count own r =
      let at : Name → ℕ = r.state.stands.places.at in
      let word : ℕ = region_word s t in
      let told : (o : InOrder s st.places t count) × SlidInto m word b.filing.table count (λ k. size_by (object_of s) (o.name k)) (λ k. at (o.name k)) × ((p : ℕ) → p < m.pages → space_word b.filing.table p ≡ word → IsLeftAs m d.table count (λ k. at (o.name k)) p) =
      subst (λ (l : Places). (o : InOrder s l t count) × SlidInto m word b.filing.table count (λ k. size_by (object_of s) (o.name k)) (λ k. at (o.name k)) × ((p : ℕ) → p < m.pages → space_word b.filing.table p ≡ word → IsLeftAs m d.table count (λ k. at (o.name k)) p)) b.places (r.order, r.slid, r.region) in
      record {
        state = r.state;
        rest = rest_from d r.state.after at own r.rest;
        order = told.0;
        slid = subst (λ (x : Contents). SlidInto m word x.table count (λ k. size_by (object_of s) (told.0.name k)) (λ k. at (told.0.name k))) b.frame told.1;
        region = subst (λ (x : Contents). (p : ℕ) → p < m.pages → space_word x.table p ≡ word → IsLeftAs m d.table count (λ k. at (told.0.name k)) p) b.frame told.2;
        pages = subst (λ (x : Contents). (p : ℕ) → p < m.pages → space_word x.table p ≢ word → row d.table p ≡ row x.table p) b.frame r.pages;
        currents = subst (λ (x : Contents). d.currents ≡ (with_current x t (depth_of x t) 0).currents) b.frame r.currents;
      }

  -- a plan of a tight end after its start
  pub tight_readied : HasThread m t → 1 ≤ depth_of c t → (planned : Contents) (count next room : ℕ) → ((slid : ℕ) → slid ≡ space_index (Region t (depth_of mid t)) + 1 → (runs : Runs m slid mid) → Sliding m slid mid runs planned count (move_at planned.scratch) next room (heap_length m)) → TightReady m b.filing mid planned s b.later t count next
  tight_readied has low planned count next room told =
      let filing : depth_of b.filing t ≡ depth_of c t = ap (λ (x : Contents). depth_of x t) b.frame in
      let same : depth_of mid t ≡ depth_of b.filing t = ap (λ (x : Contents). depth_of x t) b.written.frame in
      let deep : 1 ≤ depth_of b.filing t = omega (arith, filing, low) in
      record {
        filed = record { recorded = b.recorded; filed = b.filed };
        deep = deep;
        escaping = escaping;
        written = b.written;
        room = room;
        sliding = told (region_word s t) (ap (λ (y : Space). space_index y + 1) (region_is m b.filing s b.later t (depth_of mid t) has same (omega (arith, same, deep))));
      }

  -- the pages of the region are half full
  pages_few : (own : IsRegionOf m (innermost s.graph t)) (table : List (List ℕ)) → pages_of table (innermost s.graph t) ≡ pages_of c.table (innermost s.graph t) → page_words m * pages_of table (innermost s.graph t) ≤ 2 * words_taken st.places.pages (object_of s) (innermost s.graph t) + page_words m
  pages_few own table same = ⊎_elim
      (λ (none : pages_of c.table (innermost s.graph t) ≡ 0). omega (arith, none, same))
      (λ (some : pages_of c.table (innermost s.graph t) ≢ 0). let dense = dense_at m c s st (innermost s.graph t) own (omega (arith, some)) in omega (arith, dense, same, some))
      (cases_eq (pages_of c.table (innermost s.graph t)) 0)

  pub region_costs : IsAreas m → HasThread m t → 1 ≤ depth_of c t → (planned : Contents) (count : ℕ) → count ≡ escaping → RegionReady m b.filing mid planned s b.later t count → length mid.table ≡ m.pages → length planned.table ≡ m.pages → RegionCosts m c mid planned s st.places b.later.places t count
  region_costs areas has low planned count same r long planned_long =
      let region : Space = innermost s.graph t in
      let words : words_taken b.later.places.pages (object_of s) region ≡ words_taken st.places.pages (object_of s) region = ap (λ (l : Places). words_taken l.pages (object_of s) region) b.places in
      let filing : depth_of b.filing t ≡ depth_of c t = ap (λ (x : Contents). depth_of x t) b.frame in
      let deep : 1 ≤ depth_of b.filing t = omega (arith, filing, low) in
      let few = (few_words m b.filing planned s b.later t count false areas has deep (region_ready m b.filing mid planned s b.later t count areas has r)).1 in
      let frame = plan_frame m b.filing mid planned s b.later t count areas has r in
      let slots = ap (λ (x : Contents). length (chain m x region)) frame in
      let fewer = b.few in
      let was : pages_of mid.table region ≡ pages_of c.table region = ap (λ (x : Contents). pages_of x.table region) b.written.frame ∙ ap (λ (x : Contents). pages_of x.table region) b.frame in
      let half = pages_few (innermost_region m c s st t has low) mid.table was in
      let fewest : pages_of mid.table region ≤ 2 * words_taken st.places.pages (object_of s) region + 1 = omega (arith, half) in
      record {
        used = used_is m mid.table mid.heap (object_of s) b.later.places (λ n. get_or mid.heap (b.later.places.at n + 2) 0) region long b.written.heap ∙ words;
        moved = omega (arith, few, words);
        few = fewest;
        later = words;
        slots = omega (arith, slots, fewer);
        pages = pages_few (innermost_region m c s st t has low) planned.table (own_pages m b.filing mid planned s b.later t count areas has deep r planned_long long ∙ was);
        stack = ap (λ (x : Contents). length (stack_of x t)) frame ∙ ap (λ (x : Contents). length (stack_of x t)) b.frame;
      }
