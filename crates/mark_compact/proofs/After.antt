-- The state after a collection.
use Rattle.std.proofs.Common.{◌≡◌, ◌⊎◌, ℕ, ◌+◌, ◌-◌, ◌<◌, Bool, true, false, is_some, cond, Option, Some, None, IsSome, zero, suc, List, [], length, map, get_or, set, refl, sym, ap, subst, ◌∙◌, arith, inl, inr}
use Rattle.std.specs.Prelude.{replicate}
use Rattle.std.specs.List.{All, Contains, filter, flat_map}
use Rattle.std.proofs.Math.Path.{fun_ext}
use Rattle.std.proofs.lemmas.List.{drop-set-lt}
use Rattle.std.proofs.lemmas.List.Elements.{Contains-append_cases}
use Rattle.std.proofs.Math.Logic.{⊎_elim}
use Rattle.object_layout.specs.declared.names.Name.{Name}
use Rattle.object_layout.specs.declared.TheConstants.{OBJECT_WORDS}
use Rattle.heap_words.specs.declared.map.Areas.{Areas}
use Rattle.heap_words.specs.Contents.{Contents, InLimits}
use Rattle.epoch_lattice.specs.declared.Space.{Space}
use Rattle.epoch_lattice.specs.declared.Space.TheVariants.{Control, Region}
use Rattle.epoch_lattice.specs.Lattice.{IsValid}
use Rattle.yak_model.specs.Graph.{Content, Graph, Thread}
use Rattle.yak_model.specs.Spaces.{Collects, IsPresent, SpaceState, content_at, home_of}
use Rattle.yak_model.specs.State.{State, Thing, object_of, thing_of, view}
use Rattle.yak_model.specs.Placed.{HeapStands, Places}
use Rattle.yak_model.specs.Plans.{Move, without}
use Rattle.yak_model.specs.Packed.{PackedAs}
use Rattle.yak_model.specs.Stands.{CurrentsStand, PoolStands, RegionsDense, SpacesOpen, Stands, StandsAs, HeadsClosed, unused_heads}
use Rattle.yak_model.specs.Recorded.{IsReader, RecordedAs}
use Rattle.yak_model.specs.Chains.{IsRegionOf, chain_of}
use Rattle.yak_model.proofs.Chains.{contains-or}
use Rattle.region_pages.specs.Freeing.{free_below, with_pool_rebuilt}
use Rattle.remember_sets.specs.Filed.{ChainsBecome, SetsHold, all_filed, chain, enters, logged, with_sets}
use Rattle.remember_sets.proofs.Entering.{enters-since}
use Rattle.remember_sets.proofs.Folded.{all_filed-has}
use Rattle.relocation.proofs.Lawful.{kept}
use Rattle.forwarding.specs.Crossing.{AreValid}
use Rattle.forwarding.specs.Slots.{followed, is_kept}
use Rattle.forwarding.specs.Reshaped.{Reshaped}
use Rattle.forwarding.proofs.Reshaping.{reshape, reshaped-objects, reshaped-whole}
use Rattle.mark_compact.specs.Collected.{AreSlid, SlotsCollected, StateCollected}
use Rattle.standing_calls.proofs.Closed.{chain-closed, head-empty}
use Rattle.standing_calls.proofs.FieldSlots.{crossing-enters}
use Rattle.mark_compact.proofs.Logged.{cleared-stands}
use Rattle.mark_compact.proofs.Keeps as keeps
use Rattle.mark_compact.proofs.Keeps.{Ready, home-region, still-there}
use Rattle.remember_sets.proofs.Filtered.{contains-filter, filter-contains}
use Rattle.mark_compact.proofs.Goes.{contains-map, followed-map, goes_to, map-contains}
use Rattle.mark_compact.proofs.Rooms.{SameRegions, currents-now, dense-now, spaces-open}

-- ---- the objects that are kept

abbrev given : SpaceState → (Name → Bool) → Name → Option Space
given s dropped n = cond (dropped n) None (home_of s n)

given-some : (b : Bool) (x : Option Space) → IsSome (cond b None x) → IsSome x
given-some true x e = absurd (let q : false ≡ true = e in cc)
given-some false x e = e

given-home : (b : Bool) (x : Option Space) (y : Space) → cond b None x ≡ Some y → x ≡ Some y
given-home true x y e = absurd (let q : None ≡ Some y = e in cc)
given-home false x y e = e

thing-given : (b : Bool) (x : Option Space) (y : Option Content) → thing_of (cond b None x) y ≡ cond b None (thing_of x y)
thing-given true x y = refl
thing-given false x y = refl

no_entries : (n a : ℕ) → Contains (flat_map (λ (b : List ℕ). b) (replicate n [])) a → ⊥
no_entries zero a h = let lt : h.0 < 0 = h.1 in omega (arith, lt)
no_entries (suc n) a h = ⊎_elim
    (λ (f : Contains [] a). let lt : f.0 < 0 = f.1 in omega (arith, lt))
    (λ (f : Contains (flat_map (λ (b : List ℕ). b) (replicate n [])) a). no_entries n a f)
    (Contains-append_cases [] (flat_map (λ (b : List ℕ). b) (replicate n [])) a h)

-- what is known of the words after each step
pub record Steps (m : Areas) (c0 c1 c2 c3 c4 : Contents) (s : SpaceState) (l : Places) (count : ℕ) (moves : ℕ → Move) (t last : ℕ) : Type 0 where
  pub ready : Ready m c0 c1 c2 c3 s l count moves t last
  pub sets : SetsHold m c4
  pub slots : ChainsBecome m c3 c4 (λ _ slots. followed c3.heap count moves (filter (is_kept m c3 count moves) slots))
  pub others : c4 ≡ with_sets c3 c4
  pub limits : InLimits m c4

module _ (m : Areas) (c0 c1 c2 c3 c4 : Contents) (s : SpaceState) (h : Stands m c0 s) (count : ℕ) (moves : ℕ → Move) (t last : ℕ) (st : Steps m c0 c1 c2 c3 c4 s h.places count moves t last) where
  abbrev h1 : Stands m c1 s
  h1 = cleared-stands m c0 c1 s h st.ready.buffers st.ready.cleared

  abbrev v : State
  v = without (view s) st.ready.lain.dropped

  abbrev there : Places
  there = st.ready.lain.places

  -- what is in the words
  frame2 : c2 ≡ record c1 { stacks = c2.stacks; table = c2.table; scratch = c2.scratch; heap = c2.heap }
  frame2 = st.ready.lain.frame

  table4 : c4.table ≡ c2.table
  table4 = ap (λ (x : Contents). x.table) st.others ∙ ap (λ (x : Contents). x.table) st.ready.pages.frame

  heap4 : c4.heap ≡ c2.heap
  heap4 = ap (λ (x : Contents). x.heap) st.others ∙ ap (λ (x : Contents). x.heap) st.ready.pages.frame

  stacks4 : c4.stacks ≡ c2.stacks
  stacks4 = ap (λ (x : Contents). x.stacks) st.others ∙ ap (λ (x : Contents). x.stacks) st.ready.pages.frame

  depths4 : c4.depths ≡ c1.depths
  depths4 = ap (λ (x : Contents). x.depths) st.others ∙ ap (λ (x : Contents). x.depths) st.ready.pages.frame ∙ ap (λ (x : Contents). x.depths) frame2

  made4 : c4.made ≡ c1.made
  made4 = ap (λ (x : Contents). x.made) st.others ∙ ap (λ (x : Contents). x.made) st.ready.pages.frame ∙ ap (λ (x : Contents). x.made) frame2

  rests4 : c4.rests ≡ c1.rests
  rests4 = ap (λ (x : Contents). x.rests) st.others ∙ ap (λ (x : Contents). x.rests) st.ready.pages.frame ∙ ap (λ (x : Contents). x.rests) frame2

  readers4 : c4.readers ≡ c0.readers
  readers4 = ap (λ (x : Contents). x.readers) st.others ∙ ap (λ (x : Contents). x.readers) st.ready.pages.frame ∙ ap (λ (x : Contents). x.readers) frame2 ∙ ap (λ (x : Contents). x.readers) st.ready.cleared.others

  buffers4 : c4.buffers ≡ replicate m.threads []
  buffers4 = ap (λ (x : Contents). x.buffers) st.others ∙ ap (λ (x : Contents). x.buffers) st.ready.pages.frame ∙ ap (λ (x : Contents). x.buffers) frame2 ∙ ap (λ (x : Contents). x.buffers) st.ready.cleared.others

  currents2 : c2.currents ≡ c1.currents
  currents2 = ap (λ (x : Contents). x.currents) frame2

  currents4 : c4.currents ≡ c3.currents
  currents4 = ap (λ (x : Contents). x.currents) st.others

  heads3 : c3.heads ≡ set (set c1.heads 1 0) 2 (length (free_below c2.table (length c2.table)))
  heads3 = ap (λ (x : Contents). x.heads) st.ready.pages.frame ∙ ap (λ (x : Contents). set (set x.heads 1 0) 2 (length (free_below c2.table (length c2.table)))) frame2

  heads4 : c4.heads ≡ set (set c1.heads 1 0) 2 (length (free_below c2.table (length c2.table)))
  heads4 = ap (λ (x : Contents). x.heads) st.others ∙ heads3

  unused4 : unused_heads c4.heads ≡ unused_heads c1.heads
  unused4 =
      ap unused_heads heads4
      ∙ drop-set-lt 3 (set c1.heads 1 0) 2 (length (free_below c2.table (length c2.table))) (omega arith)
      ∙ drop-set-lt 3 c1.heads 1 0 (omega arith)

  heap3 : c3.heap ≡ c2.heap
  heap3 = ap (λ (x : Contents). x.heap) st.ready.pages.frame

  table3 : c3.table ≡ c2.table
  table3 = ap (λ (x : Contents). x.table) st.ready.pages.frame

  table1 : c1.table ≡ c0.table
  table1 = ap (λ (x : Contents). x.table) st.ready.cleared.others

  firsts3 : c3.firsts ≡ c1.firsts
  firsts3 = ap (λ (x : Contents). x.firsts) st.ready.pages.frame ∙ ap (λ (x : Contents). x.firsts) frame2

  sets3 : c3.sets ≡ c1.sets
  sets3 = ap (λ (x : Contents). x.sets) st.ready.pages.frame ∙ ap (λ (x : Contents). x.sets) frame2

  abbrev stays : ℕ → Bool
  stays = is_kept m c3 count moves

  abbrev goes : ℕ → ℕ
  goes = goes_to c3.heap count moves

  chain3 : (x : Space) → chain m c3 x ≡ chain m c1 x
  chain3 x = ap (λ (fs : List (List ℕ)). chain_of m fs c3.sets x) firsts3 ∙ ap (λ (xs : List ℕ). chain_of m c1.firsts xs x) sets3

  -- each chain is what filing the buffers made of it, without the slots that are gone, each at its new place
  slots1 : (x : Space) → IsRegionOf m x → chain m c4 x ≡ map goes (filter stays (chain m c1 x))
  slots1 x q = st.slots x q ∙ followed-map c3.heap count moves (filter stays (chain m c3 x)) ∙ ap (λ (l : List ℕ). map goes (filter stays l)) (chain3 x)

  pub slots4 : (x : Space) → IsRegionOf m x → chain m c4 x ≡ map goes (filter stays (all_filed m c0 x (logged c0) (chain m c0 x)))
  slots4 x q = slots1 x q ∙ ap (λ (l : List ℕ). map goes (filter stays l)) (st.ready.cleared.filed x q)

  closed4 : HeadsClosed m c4.firsts (view s).depths
  closed4 u d r lt =
      head-empty m c4 (Region u d) st.sets r (λ i k.
      let a = map-contains goes (filter stays (chain m c1 (Region u d))) i (subst (λ (l : List ℕ). Contains l i) (slots1 (Region u d) r) k) in
      chain-closed m c1 (view s) h1.places u d a.0 h1.stands r lt (filter-contains stays (chain m c1 (Region u d)) a.0 a.1).0)

  pub same-regions : SameRegions m c1.table c2.table
  same-regions = record { long = st.ready.long; long_now = st.ready.long_now; others = st.ready.lain.others; control = λ p lt own. ⊎_elim (λ filled. inl filled.0) (λ free. inr free.0) (st.ready.lain.control p lt own) }

  stand2 : CurrentsStand m c2.currents c1.table
  stand2 = subst (λ (cs : List (List ℕ)). CurrentsStand m cs c1.table) (sym currents2) h1.stands.currents

  pub stands-as : StandsAs m c4 v there
  stands-as = record {
    heap = subst (λ (tb : List (List ℕ)). HeapStands m tb c4.heap v.objects there (λ _. 0)) (sym table4) (subst (λ (hp : List ℕ). HeapStands m c2.table hp v.objects there (λ _. 0)) (sym heap4) st.ready.lain.heap);
    open_spaces = subst (λ (tb : List (List ℕ)). SpacesOpen m tb (view s).depths) (sym table4) (spaces-open m c1.table c2.table same-regions (view s).depths h1.stands.open_spaces);
    closed = st.ready.lain.closed;
    stacks = stacks4 ∙ st.ready.lain.stacks;
    depths = depths4 ∙ h1.stands.depths;
    made = made4 ∙ h1.stands.made;
    serials = h1.stands.serials;
    threads = h1.stands.threads;
    names = λ n o e. h1.stands.names n o (kept (view s) st.ready.lain.dropped n o e);
    limits = st.limits;
    zero = record { heads = subst (All (λ w. w ≡ 0)) (sym unused4) h1.stands.zero.heads; blocks = subst (All (All (λ w. w ≡ 0))) (sym rests4) h1.stands.zero.blocks };
    pool = subst (λ (x : Contents). PoolStands m x.heads x.pool x.table) (sym st.others) st.ready.pool;
    currents = subst (λ (cs : List (List ℕ)). CurrentsStand m cs c4.table) (sym currents4) (subst (λ (tb : List (List ℕ)). CurrentsStand m c3.currents tb) (sym table4)
        (currents-now m c1.table c2.table same-regions (with_pool_rebuilt c2) c3 t last st.ready.thread stand2 st.ready.pages st.ready.ends));
    sets = st.sets;
    heads_closed = closed4;
    dense = subst (λ (cs : List (List ℕ)). RegionsDense m c4.table cs there.pages v.objects) (sym currents4) (subst (λ (tb : List (List ℕ)). RegionsDense m tb c3.currents there.pages v.objects) (sym table4)
        (dense-now m c1.table c2.table same-regions (with_pool_rebuilt c2) c3 t last st.ready.thread stand2 st.ready.pages st.ready.ends c1.heap c2.heap (object_of s) v.objects h1.places there (λ _. 0) (λ _. 0) h1.stands.heap st.ready.lain.heap
        (subst (λ (cs : List (List ℕ)). RegionsDense m c1.table cs h1.places.pages (object_of s)) (sym currents2) h1.stands.dense)));
  }

  -- ---- the recorded slots

  valid-before : AreValid (object_of s)
  valid-before = keeps.valid-before m c0 c1 c2 c3 s h count moves t last st.ready

  moved-slots : (n : Name) (o : Thing) (f : ℕ) → v.objects n ≡ Some o → f < length o.fields → goes (h.places.at n + OBJECT_WORDS + f) ≡ there.at n + OBJECT_WORDS + f
  moved-slots = keeps.moved-slots m c0 c1 c2 c3 s h count moves t last st.ready

  kept-slots : (n : Name) (o : Thing) (f : ℕ) → object_of s n ≡ Some o → f < length o.fields → stays (h.places.at n + OBJECT_WORDS + f) ≡ is_some (v.objects n)
  kept-slots = keeps.kept-slots m c0 c1 c2 c3 s h count moves t last st.ready

  -- a slot that was recorded for a region is in its chain after filing
  filed-for : (x : Space) (a : ℕ) → (Contains (chain m c0 x) a ⊎ Contains (logged c0) a) → enters m c0 x a ≡ true → Contains (all_filed m c0 x (logged c0) (chain m c0 x)) a
  filed-for x a r t =
      (all_filed-has m c0 x (logged c0) (chain m c0 x) a).1 (⊎_elim
      (λ (i : Contains (logged c0) a). inl (i, t))
      (λ (n : Contains (logged c0) a → ⊥). inr (n, ⊎_elim (λ c. c) (λ i. absurd (n i)) r))
      (contains-or a (logged c0)))

  pub recorded-as : RecordedAs m c0 (view s) h.places.at → RecordedAs m c4 v there.at
  recorded-as r = record {
    crossing = λ n x o p f en lt e ex enters.
        let a : ℕ = h.places.at n + OBJECT_WORDS + f in
        let old : object_of s n ≡ Some o = kept (view s) st.ready.lain.dropped n o en in
        let goal : object_of s x ≡ Some p = kept (view s) st.ready.lain.dropped x p ex in
        let region : IsRegionOf m p.home = home-region m c0 (view s) h.places x p h.stands (valid-before x p goal) goal enters.0 in
        let way = enters-since m c0 p.home a (crossing-enters m c0 (object_of s) h.places (λ _. 0) n x o p f h.stands.heap valid-before old lt e goal enters) in
        let there_before = filed-for p.home a (r.crossing n x o p f old lt e goal enters) way in
        let stay : stays a ≡ true = kept-slots n o f old lt ∙ ap is_some en in
        inl (subst (λ (l : List ℕ). Contains l (there.at n + OBJECT_WORDS + f)) (sym (slots4 p.home region)) (subst (Contains (map goes (filter stays (all_filed m c0 p.home (logged c0) (chain m c0 p.home))))) (moved-slots n o f en lt) (contains-map goes (filter stays (all_filed m c0 p.home (logged c0) (chain m c0 p.home))) a (contains-filter stays (all_filed m c0 p.home (logged c0) (chain m c0 p.home)) a there_before stay))));
    fields = λ i rec. elim rec [
      | inl w ↦
          let l : List ℕ = all_filed m c0 w.0 (logged c0) (chain m c0 w.0) in
          let b = map-contains goes (filter stays l) i (subst (λ (k : List ℕ). Contains k i) (slots4 w.0 w.1) w.2) in
          let q = filter-contains stays l b.0 b.1 in
          let y = r.fields b.0 (⊎_elim (λ p. inr p.0) (λ p. inl (w.0, w.1, p.1)) ((all_filed-has m c0 w.0 (logged c0) (chain m c0 w.0) b.0).0 q.0)) in
          let stay : is_some (v.objects y.0) ≡ true = sym (kept-slots y.0 y.1 y.2 y.3 y.4) ∙ ap stays (sym y.5) ∙ q.1 in
          let now : v.objects y.0 ≡ Some y.1 = still-there st.ready.lain.dropped y.0 (object_of s y.0) y.1 y.3 stay in
          (y.0, y.1, y.2, now, y.4, sym b.2 ∙ ap goes y.5 ∙ moved-slots y.0 y.1 y.2 now y.4)
      | inr f ↦ absurd (no_entries m.threads i (subst (λ (bs : List (List ℕ)). Contains (flat_map (λ (b : List ℕ). b) bs) i) buffers4 f))
    ];
    read = λ u w d k x p hu hm hk q ex home ne. subst (λ rs. IsReader rs u w d) (sym readers4) (r.read u w d k x p hu hm hk q (kept (view s) st.ready.lain.dropped x p ex) home ne);
    closed = λ u d hu hm hd lt. ap (λ (rs : List (List ℕ)). get_or (get_or rs (u - 1) []) (d - 1) 0) readers4 ∙ r.closed u d hu hm hd lt;
  }

  pub slots-collected : SlotsCollected m c0 c4 (object_of s) v.objects h.places.at there.at
  slots-collected = record { stays = stays; goes = goes; kept = kept-slots; moved = moved-slots; chains = slots4 }

  -- ---- the state

  present-before : (n : Name) → IsSome (given s st.ready.lain.dropped n) → IsPresent s n
  present-before n e = given-some (st.ready.lain.dropped n) (home_of s n) e

  valid-homes : (n : Name) (x : Space) → given s st.ready.lain.dropped n ≡ Some x → IsValid s.graph.limits.depth x
  valid-homes n x e = h.whole.homes n x (given-home (st.ready.lain.dropped n) (home_of s n) x e)

  view-after : (after : SpaceState) → Reshaped s (given s st.ready.lain.dropped) after → view after ≡ v
  view-after after r =
      let objects : object_of after ≡ v.objects = fun_ext (λ n. reshaped-objects s (given s st.ready.lain.dropped) after r n ∙ thing-given (st.ready.lain.dropped n) (home_of s n) (content_at s.graph n)) in
      let threads : after.graph.threads ≡ s.graph.threads = ap (λ (g : Graph). g.threads) r.rest in
      ap (λ (f : Name → Option Thing). record { objects = f; stacks = map (λ (x : Thread). x.stack) after.graph.threads; depths = map (λ (x : Thread). x.depth) after.graph.threads; made = map (λ (x : Thread). x.made) after.graph.threads }) objects
      ∙ ap (λ (ts : List Thread). record { objects = v.objects; stacks = map (λ (x : Thread). x.stack) ts; depths = map (λ (x : Thread). x.depth) ts; made = map (λ (x : Thread). x.made) ts }) threads

  given-kept : (n : Name) → st.ready.lain.dropped n ≡ false → given s st.ready.lain.dropped n ≡ home_of s n
  given-kept n e = ap (λ b. cond b None (home_of s n)) e

  collects-after : (after : SpaceState) → Reshaped s (given s st.ready.lain.dropped) after → Collects s after
  collects-after after r = record {
    live = λ n lv. r.homes n ∙ given-kept n (st.ready.lain.keeps.live n lv);
    dropped = λ n home dead. r.homes n ∙ ap (λ b. cond b None (home_of s n)) (st.ready.lain.keeps.gone n home dead);
    outside = λ n ne. r.homes n ∙ given-kept n (st.ready.lain.keeps.outside n ne);
    contents = r.contents;
    rest = r.rest;
  }

  abbrev stands-after : (after : SpaceState) → Reshaped s (given s st.ready.lain.dropped) after → Stands m c4 after
  stands-after after r = record {
    whole = reshaped-whole s (given s st.ready.lain.dropped) after h.whole valid-homes r present-before;
    places = there;
    stands = subst (λ (w : State). StandsAs m c4 w there) (sym (view-after after r)) stands-as;
  }

  pub collected : RecordedAs m c0 (view s) h.places.at → StateCollected m c0 c4 s h
  collected r =
      let made = reshape s (given s st.ready.lain.dropped) present-before in
      let same = view-after made.0 made.1 in
      let packed : PackedAs m c4.table there.pages v.objects Control = subst (λ (tb : List (List ℕ)). PackedAs m tb there.pages v.objects Control) (sym table4) st.ready.lain.packed in
      record {
        after = made.0;
        collects = collects-after made.0 made.1;
        stands = stands-after made.0 made.1;
        recorded = subst (λ (w : State). RecordedAs m c4 w there.at) (sym same) (recorded-as r);
        slots = subst (λ (w : State). SlotsCollected m c0 c4 (object_of s) w.objects h.places.at there.at) (sym same) slots-collected;
        packed = subst (λ (w : State). PackedAs m c4.table there.pages w.objects Control) (sym same) packed;
        slid = subst (λ (w : State). AreSlid m c0.table h.places.at w.objects there.at) (sym same) (subst (λ (tb : List (List ℕ)). AreSlid m tb h.places.at v.objects there.at) (ap (λ (x : Contents). x.table) st.ready.cleared.others) st.ready.lain.slid);
      }
