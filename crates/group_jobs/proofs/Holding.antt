-- The table of a count in the heap that the worker leaves.
use Rattle.std.proofs.Common.{◌≡◌, ◌≢◌, inl, inr, ℕ, ◌-◌, ◌<◌, Bool, true, false, List, [], ◌∷◌, Option, Some, None, IsSome, is_some, length, get_or, refl, ◌∙◌, ap, sym, subst, arith}
use Rattle.std.specs.List.{Contains}
use Rattle.std.specs.FinMap.{get}
use Rattle.std.proofs.lemmas.List.Elements.{Contains-get_or}
use Rattle.epoch_lattice.specs.declared.Space.{Space}
use Rattle.epoch_lattice.specs.declared.Space.TheVariants.{Control, Region}
use Rattle.object_layout.specs.declared.names.Name.{Name}
use Rattle.object_layout.specs.declared.replies.Census.{Census}
use Rattle.heap_words.specs.declared.map.Areas.{Areas}
use Rattle.heap_words.specs.Map.{IsAreas}
use Rattle.heap_words.specs.Contents.{Contents, depth_of}
use Rattle.yak_model.specs.declared.datum.Datum.{Datum}
use Rattle.yak_model.specs.declared.datum.Datum.TheVariants as datum
use Rattle.yak_model.specs.Graph.{Content, Fields, Graph, Thread, fields_of, fields_or_none, stack_of, slot_of, thread_of}
use Rattle.yak_model.specs.Names.{root_name}
use Rattle.yak_model.specs.Private.{IsKnown, KnownObjects}
use Rattle.yak_model.specs.Spaces.{Refers, SpaceState, content_at, home_of}
use Rattle.yak_model.specs.State.{IsDatum, IsOpen, object_of, view}
use Rattle.yak_model.specs.Stands.{Stands}
use Rattle.yak_model.specs.Tables.{IsChain, IsTable, Link, entry_fields}
use Rattle.yak_model.proofs.Data.{some-of}
use Rattle.yak_model.proofs.Stacks.{is_thread}
use Rattle.heap_walks.proofs.Seen.{seen}
use Rattle.heap_core.specs.Callers.{KnowsAlone, standing_told, thread_told}
use Rattle.yak_model.specs.Recorded.{SomeRecorded}
use Rattle.heap_core.proofs.Alone.{nothing, there_or_not, with-kept}
use Rattle.heap_core.proofs.Calling.{holds-stacks}
use Rattle.standing_calls.proofs.Homes.{home-open, home-shown}
use Rattle.standing_calls.proofs.Named.{depth-shown}
use Rattle.heap_core.proofs.Recognized.{recorded-told}
use Rattle.heap_core.proofs.RoomsNames.{content-shown}
use Rattle.group_jobs.specs.Alone.{HasRoot, HoldsCounts, HoldsTotal, root_object}
use Rattle.group_jobs.specs.Tallies.{IsProgress, Tally}
use Rattle.group_jobs.specs.declared.TheConstants.{TOTAL_SLOT, WORKER}

pub content_of : (o : Option Content) → IsSome o → (v : Content) × (o ≡ Some v)
content_of None h = cc
content_of (Some v) h = (v, refl)

-- what refers from an object leads to one that is present
leads_to : (m : Areas) (c : Contents) (s : SpaceState) (h : Stands m c s) (a b : Name) → Refers s.graph a b → IsSome (content_at s.graph b)
leads_to m c s h a b r =
    elim (there_or_not s.graph a) [
      | inl some ↦
          let v = content_of (content_at s.graph a) some in
          let o = content-shown s a v.0 h.whole v.1 in
          let w = seen s a o.0 o.1 in
          let held : fields_or_none (content_at s.graph a) ≡ fields_of w.content = ap fields_or_none w.content_is in
          let same : fields_or_none (content_at s.graph a) ≡ o.0.fields = held ∙ sym w.fields_are in
          let r' = subst (λ fs. Contains fs (datum.Object b)) same r in
          let p = some-of (object_of s b) (subst (IsDatum (object_of s)) r'.2 ((h.stands.closed.fields a o.0 o.1).0 r'.0 (datum.Object b) r'.1)) in
          let w' = seen s b p.0 p.1 in
          ap is_some {y = Some w'.content} w'.content_is
      | inr none ↦ absurd (omega (arith, (subst (λ o. Contains (fields_or_none o) (datum.Object b)) (nothing (content_at s.graph a) none) r).1))
    ]

module _ (m : Areas) (c : Contents) (known : KnownObjects) (alone : KnowsAlone m c WORKER known) where
  abbrev graph_of : Graph
  graph_of = alone.state.graph

  -- an object that is known and present
  same_here : (n : Name) → IsSome (content_at graph_of n) → IsKnown known n → content_at graph_of n ≡ get known n
  same_here n some k = sym (with-kept graph_of known n some) ∙ alone.private.contents n k

  refers_at : (n to : Name) (values : List Datum) (i : ℕ) → content_at graph_of n ≡ Some (Fields values) → i < length values → get_or values i datum.Null ≡ datum.Object to → IsSome (content_at graph_of to)
  refers_at n to values i e bound is =
      leads_to m c alone.state alone.stands n to
      (subst (λ fs. Contains fs (datum.Object to)) (sym (ap fields_or_none e)) (subst (Contains values) is (Contains-get_or values i datum.Null bound)))

  chain_here : (links : List Link) (head : Datum) → IsChain known head links → ((n : Name) → head ≡ datum.Object n → IsSome (content_at graph_of n)) → IsChain graph_of.objects head links
  chain_here [] head chain there = chain
  chain_here (l ∷ links) head chain there =
      let e = chain.1.1 in
      let values : List Datum = entry_fields chain.1.0 l.key l.count in
      let entry : content_at graph_of l.entry ≡ Some (Fields values) = same_here l.entry (there l.entry chain.0) (ap is_some e.0) ∙ e.0 in
      let key = same_here l.key (refers_at l.entry l.key values 1 entry (omega arith) refl) (ap is_some e.1.1) ∙ e.1.1 in
      (chain.0, (chain.1.0, (entry, (e.1.0, key, e.1.2, e.1.3)), chain_here links chain.1.0 chain.1.2 (λ n is. refers_at l.entry n values 0 entry (omega arith) is)))

  table_here : (name : Name) (heads : List Datum) (buckets : ℕ → List Link) → IsTable known name heads buckets → IsSome (content_at graph_of name) → IsTable graph_of.objects name heads buckets
  table_here name heads buckets t there =
      let object : content_at graph_of name ≡ Some (Fields heads) = same_here name there (ap is_some t.object) ∙ t.object in
      record {
        object = object;
        size = t.size;
        chains = λ b h. chain_here (buckets b) (get_or heads b datum.Null) (t.chains b h) (λ n is. refers_at name n heads b object (omega (arith, h, t.size)) is);
        homes = t.homes;
        distinct = t.distinct;
      }

  -- with no epoch open, all objects are in the control space
  in_control : IsAreas m → m.threads ≡ 1 → (thread_of graph_of WORKER).depth ≡ 0 → (n : Name) → IsSome (content_at graph_of n) → home_of alone.state n ≡ Some Control
  in_control areas one outside n some =
      let v = content_of (content_at graph_of n) some in
      let o = content-shown alone.state n v.0 alone.stands.whole v.1 in
      let opened = home-open m c alone.state alone.stands n o.0 areas o.1 in
      home-shown alone.state n o.0 o.1 ∙ ap Some (control (o.0).home opened.0)
    where
      control : (x : Space) → IsOpen (view alone.state).depths x → x ≡ Control
      control Control h = refl
      control (Region t d) h =
          let t_is : t ≡ 1 = let n = alone.stands.stands.threads in omega (arith, h.0, h.1, one, n) in
          let depth : get_or (view alone.state).depths (t - 1) 0 ≡ 0 = ap (λ u. get_or (view alone.state).depths (u - 1) 0) t_is ∙ depth-shown alone.state 1 ∙ outside in
          absurd (omega (arith, h.2, h.3, depth))

  pub holds_counts : (has : Bool) (done : List (List ℕ)) (made refusals : ℕ) (last : Option (Census × ℕ × ℕ)) → IsAreas m → m.threads ≡ 1 → SomeRecorded m c → thread_told c WORKER ≡ thread_of graph_of WORKER
      → IsProgress has (standing_told c WORKER made refusals last) known done → HasRoot (standing_told c WORKER made refusals last) known → depth_of c WORKER ≡ 0 → HoldsCounts m c done
  holds_counts has done made refusals last areas one some told progress root outside =
      let depth : (thread_of graph_of WORKER).depth ≡ 0 = sym (ap (λ (o : Thread). o.depth) told) ∙ outside in
      record {
        state = alone.state;
        stands = alone.stands;
        recorded = recorded-told m c some alone.state alone.stands;
        outside = depth;
        root = has_root root;
        total = λ busy. total has depth busy progress;
      }
    where
      lowest : (xs : List Datum) (n : Name) → get_or xs 0 datum.Null ≡ datum.Object n → Contains xs (datum.Object n)
      lowest [] n e = cc
      lowest (x ∷ xs) n e = subst (Contains (x ∷ xs)) e (Contains-get_or (x ∷ xs) 0 datum.Null (omega arith))

      has_root : HasRoot (standing_told c WORKER made refusals last) known → content_at graph_of root_name ≡ Some root_object
      has_root root =
          let slot : slot_of graph_of WORKER 0 ≡ datum.Object root_name = sym (ap (λ (o : Thread). get_or o.stack 0 datum.Null) told) ∙ root.slot in
          let threads : length graph_of.threads ≡ 1 = is_thread m c alone.state alone.stands ∙ one in
          let there = holds-stacks m c alone.state alone.stands WORKER root_name ((omega arith, omega (arith, threads)), lowest (stack_of graph_of WORKER) root_name slot) in
          same_here root_name there (ap is_some root.object) ∙ root.object

      on_stack : (xs : List Datum) (n : Name) → get_or xs TOTAL_SLOT datum.Null ≡ datum.Object n → Contains xs (datum.Object n)
      on_stack [] n e = cc
      on_stack (x ∷ []) n e = cc
      on_stack (x ∷ y ∷ xs) n e = subst (Contains (x ∷ y ∷ xs)) e (Contains-get_or (x ∷ y ∷ xs) TOTAL_SLOT datum.Null (omega arith))

      total : (has : Bool) → (thread_of graph_of WORKER).depth ≡ 0 → done ≢ [] → IsProgress has (standing_told c WORKER made refusals last) known done → HoldsTotal alone.state done
      total false depth busy p = absurd (busy p.1)
      total true depth busy p =
          let t : Tally (standing_told c WORKER made refusals last) known done = p.1 in
          let slot : slot_of graph_of WORKER TOTAL_SLOT ≡ datum.Object t.name = sym (ap (λ (o : Thread). get_or o.stack TOTAL_SLOT datum.Null) told) ∙ t.slot in
          let threads : length graph_of.threads ≡ 1 = is_thread m c alone.state alone.stands ∙ one in
          let there = holds-stacks m c alone.state alone.stands WORKER t.name ((omega arith, omega (arith, threads)), on_stack (stack_of graph_of WORKER) t.name slot) in
          record {
            name = t.name;
            slot = slot;
            table = record {
              heads = t.table.heads;
              buckets = t.table.buckets;
              table = table_here t.name t.table.heads t.table.buckets t.table.table there;
              counted = t.table.counted;
              absent = t.table.absent;
            };
            home = in_control areas one depth t.name there;
          }

-- the same for a thread that is the worker
pub holds_worker : (m : Areas) (c : Contents) (t : ℕ) → t ≡ WORKER → (known : KnownObjects) (has : Bool) (done : List (List ℕ)) (made refusals : ℕ) (last : Option (Census × ℕ × ℕ)) → IsAreas m → m.threads ≡ 1 → SomeRecorded m c
    → KnowsAlone m c t known → ((s : SpaceState) → Stands m c s → thread_told c t ≡ thread_of s.graph t) → IsProgress has (standing_told c t made refusals last) known done → HasRoot (standing_told c t made refusals last) known → depth_of c t ≡ 0 → HoldsCounts m c done
holds_worker m c t e known has done made refusals last areas one some =
    subst (λ u. KnowsAlone m c u known → ((s : SpaceState) → Stands m c s → thread_told c u ≡ thread_of s.graph u) → IsProgress has (standing_told c u made refusals last) known done → HasRoot (standing_told c u made refusals last) known → depth_of c u ≡ 0 → HoldsCounts m c done) (sym e)
    (λ alone told progress root outside. holds_counts m c known alone has done made refusals last areas one some (told alone.state alone.stands) progress root outside)
