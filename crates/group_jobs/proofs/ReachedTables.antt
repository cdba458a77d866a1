-- The root and the table of a worker's total in the state that a history leaves.
use Rattle.std.proofs.Common.{◌≡◌, ◌≢◌, inl, inr, ℕ, ◌+◌, ◌-◌, ◌<◌, ◌≤◌, Bool, true, List, [], ◌∷◌, replicate, Option, None, Some, IsSome, is_some, MatchOption, length, get_or, set, length-set, refl, sym, ap, ◌∙◌, subst, arith}
use Rattle.std.specs.FinMap.{empty, get, insert}
use Rattle.std.specs.List.{Contains}
use Rattle.std.proofs.lemmas.List.Elements.{Contains-get_or}
use Rattle.epoch_lattice.specs.declared.Space.{Space}
use Rattle.epoch_lattice.specs.declared.Space.TheVariants.{Control, Region}
use Rattle.object_layout.specs.declared.names.Name.{Name}
use Rattle.object_layout.specs.declared.TheConstants.{OBJECT_WORDS}
use Rattle.object_layout.specs.declared.calls.Call.{Call}
use Rattle.object_layout.specs.declared.calls.Call.TheVariants as call
use Rattle.object_layout.specs.declared.replies.Reply.{Reply}
use Rattle.object_layout.specs.declared.replies.Reply.TheVariants as reply
use Rattle.heap_words.specs.declared.map.Areas.{Areas}
use Rattle.heap_words.specs.Map.{HasThread, IsAreas}
use Rattle.heap_words.specs.Contents.{Contents}
use Rattle.yak_model.specs.declared.datum.Datum.{Datum}
use Rattle.yak_model.specs.declared.datum.Datum.TheVariants as datum
use Rattle.yak_model.specs.declared.history.Entry.{Entry}
use Rattle.yak_model.specs.declared.history.Entry.TheVariants.{Said, Collected}
use Rattle.yak_model.specs.Agreement.{Agrees}
use Rattle.yak_model.specs.Graph.{Content, Does, Fields, Graph, Thread, fields_at, fields_or_none, idle, next_name, opening, put_field, refusal_of, slot_of, stack_of, standard_limits, thread_of}
use Rattle.yak_model.specs.History.{Leads, Moves}
use Rattle.yak_model.specs.Names.{root_name}
use Rattle.yak_model.specs.Private.{IsKnown, KnownObjects}
use Rattle.yak_model.specs.Room.{root_words}
use Rattle.yak_model.specs.Spaces.{IsPresent, IsReachedFromStacks, Refers, SpaceState, content_at, here, home_of, onward, spaces}
use Rattle.yak_model.specs.Stands.{Stands}
use Rattle.yak_model.specs.State.{IsOpen, view}
use Rattle.yak_model.specs.Tables.{IsChain, IsCountTable, Link, entry_fields}
use Rattle.yak_model.specs.Texts.{WordCounts, word_counts}
use Rattle.yak_model.proofs.Agreement.{machines_agree}
use Rattle.yak_model.proofs.Lists.{slot_on_list}
use Rattle.yak_model.proofs.Names.{get-other, get-same, same_or_other}
use Rattle.safepoint_gate.specs.declared.rule.Own.{Own}
use Rattle.safepoint_gate.specs.Rule.{Mine}
use Rattle.heap_core.proofs.RoomsNames.{content-shown}
use Rattle.heap_core.proofs.Weights.{weight}
use Rattle.standing_calls.proofs.Homes.{home-open, home-shown}
use Rattle.standing_calls.proofs.Named.{depth-shown}
use Rattle.group_jobs.specs.Alone.{root_object}
use Rattle.group_jobs.specs.Followed.{KnowsOwn}
use Rattle.group_jobs.specs.Shared.{HoldsTotalOf}
use Rattle.group_jobs.specs.Workers.{IsAtRest}
use Rattle.group_jobs.specs.declared.TheConstants.{TOTAL_SLOT}
use Rattle.group_jobs.proofs.Holding.{content_of}

-- ---- the root keeps its fields

not_root : (t serial : ℕ) → 1 ≤ t → root_name ≡ record { thread = t; serial = serial } → ⊥
not_root t serial some e = let same : 0 ≡ t = ap (λ (n : Name). n.thread) e in omega arith

module _ (g h : Graph) (t : ℕ) (some : 1 ≤ t) (was : weight (content_at g root_name) ≡ root_words) where
  same : h.objects ≡ g.objects → weight (content_at h root_name) ≡ root_words
  same e = ap (λ (o : KnownObjects). weight (get o root_name)) e ∙ was

  written_weight : (o : Option Content) (f : ℕ) (x : Datum) → weight o ≡ root_words → weight (Some (Fields (set (fields_or_none o) f x))) ≡ weight o
  written_weight None f x e = absurd (omega (arith, e))
  written_weight (Some (Fields values)) f x e = ap (λ k. k + OBJECT_WORDS) (length-set values f x)

  written : (to : Datum) (f : ℕ) (x : Datum) → weight (content_at (put_field g to f x) root_name) ≡ root_words
  written datum.Null f x = was
  written (datum.Int i) f x = was
  written (datum.Object name) f x = elim (same_or_other root_name name) [
    | inl is ↦
        let value : Content = Fields (set (fields_at g (datum.Object name)) f x) in
        ap (λ k. weight (get (insert g.objects name value) k)) is ∙ ap weight (get-same g.objects name value)
        ∙ written_weight (get g.objects name) f x (ap (λ k. weight (get g.objects k)) (sym is) ∙ was) ∙ ap (λ k. weight (get g.objects k)) (sym is) ∙ was
    | inr other ↦ ap weight (get-other g.objects name (Fields (set (fields_at g (datum.Object name)) f x)) root_name other) ∙ was
  ]

  made : (k : ℕ) → h.objects ≡ insert g.objects (next_name g t) (Fields (replicate k datum.Null)) → weight (content_at h root_name) ≡ root_words
  made k e =
      ap (λ (o : KnownObjects). weight (get o root_name)) e
      ∙ ap weight (get-other g.objects (next_name g t) (Fields (replicate k datum.Null)) root_name (not_root t ((thread_of g t).made + 1) some)) ∙ was

  done : (asked : Call) (said : Reply) → Does g t asked said h → weight (content_at h root_name) ≡ root_words
  done (call.Int i) said d = same (ap (λ (x : Graph). x.objects) d.1)
  done call.Null said d = same (ap (λ (x : Graph). x.objects) d.1)
  done (call.Dup i) said d = same (ap (λ (x : Graph). x.objects) d.1)
  done call.Pop said d = same (ap (λ (x : Graph). x.objects) d.1)
  done (call.New k) said d = elim d [
    | inl ok ↦ made k (ap (λ (x : Graph). x.objects) ok.1)
    | inr full ↦ same (ap (λ (x : Graph). x.objects) full.1)
  ]
  done (call.Load i f) said d = same (ap (λ (x : Graph). x.objects) d.1)
  done (call.Store i f x) said d = ap (λ (y : Graph). weight (content_at y root_name)) d.1 ∙ written (slot_of g t i) f (slot_of g t x)
  done (call.Get i) said d = same (ap (λ (x : Graph). x.objects) d.1)
  done (call.Same i x) said d = same (ap (λ (y : Graph). y.objects) d.1)
  done call.Begin said d = same (ap (λ (x : Graph). x.objects) d.1)
  done call.End said d = same (ap (λ (x : Graph). x.objects) d.1)
  done call.Collect said d = same (ap (λ (x : Graph). x.objects) d.1)
  done call.Census said d = same (ap (λ (x : Graph). x.objects) d.1)

moved : (g h : Graph) (x : Entry) → Moves g x h → weight (content_at g root_name) ≡ root_words → weight (content_at h root_name) ≡ root_words
moved g h (Said t asked said) moves was = elim (refusal_of g t asked) as (λ r. MatchOption r (Does g t asked said h) (λ why. (said ≡ reply.Refused why) × (h ≡ g)) → weight (content_at h root_name) ≡ root_words) [
  | None ↦ λ does. done g h t moves.0.0 was asked said does
  | Some why ↦ λ refused. same g h t moves.0.0 was (ap (λ (x : Graph). x.objects) refused.1)
] moves.1
moved g h (Collected t) moves was = ap (λ (x : Graph). weight (content_at x root_name)) moves.1 ∙ was

led : (history : List Entry) (g h : Graph) → Leads g history h → weight (content_at g root_name) ≡ root_words → weight (content_at h root_name) ≡ root_words
led [] g h e was = ap (λ (x : Graph). weight (content_at x root_name)) e ∙ was
led (x ∷ history) g h (middle, moves, rest) was = led history middle h rest (moved g middle x moves was)

root_kept : (threads : ℕ) (history : List Entry) (g : Graph) → Leads (opening standard_limits threads) history g → weight (content_at g root_name) ≡ root_words
root_kept threads history g leads = led history (opening standard_limits threads) g leads (ap weight (get-same empty root_name root_object))

-- ---- what a thread's stack reaches

module _ (m : Areas) (history : List Entry) (s : SpaceState) (leaves : spaces standard_limits m.threads history s) (o : Own) (mine : Mine m history o) (long : length s.graph.threads ≡ m.threads) where
  abbrev agreed : (g : Graph) × Leads (opening standard_limits m.threads) history g × Agrees g s
  agreed = machines_agree standard_limits m.threads history s leaves

  abbrev g : Graph
  g = agreed.0

  stack_is : stack_of g o.thread ≡ o.stack
  stack_is = ap (λ (ts : List Thread). (get_or ts (o.thread - 1) idle).stack) (sym agreed.2.threads) ∙ ap (λ (x : Thread). x.stack) (mine.has s leaves)

  slot_reached : (i : ℕ) (n : Name) → get_or o.stack i datum.Null ≡ datum.Object n → IsReachedFromStacks g n
  slot_reached i n is =
      let threads : length g.threads ≡ m.threads = ap (λ (ts : List Thread). length ts) (sym agreed.2.threads) ∙ long in
      let thread = mine.thread in
      (n, (o.thread, ((thread.0, omega (arith, thread.1, threads)), subst (λ l. Contains l (datum.Object n)) (sym stack_is) (slot_on_list o.stack i n is))), here)

  -- the root is there, with its fields
  root_there : get_or o.stack 0 datum.Null ≡ datum.Object root_name → weight (content_at s.graph root_name) ≡ root_words
  root_there is = ap weight (agreed.2.contents root_name (agreed.2.reached root_name (slot_reached 0 root_name is))) ∙ root_kept m.threads history g agreed.1

  module _ (known : KnownObjects) (knows : KnowsOwn (o ∷ []) known) where
    in_graph : (n : Name) → IsKnown known n → content_at g n ≡ get known n
    in_graph n k =
        let same_known : get known n ≡ get o.known n = knows.0.0.contents n k in
        (mine.knows.alone g agreed.1).contents n (subst IsSome same_known k) ∙ sym same_known

    in_state : (n : Name) → IsReachedFromStacks g n → IsKnown known n → content_at s.graph n ≡ get known n
    in_state n reached k = agreed.2.contents n (agreed.2.reached n reached) ∙ in_graph n k

    further : (from to : Name) (values : List Datum) (i : ℕ) → IsReachedFromStacks g from → get known from ≡ Some (Fields values) → i < length values → get_or values i datum.Null ≡ datum.Object to → IsReachedFromStacks g to
    further from to values i reached e bound is =
        let refers : Refers g from to =
        subst (λ fs. Contains fs (datum.Object to)) (sym (ap fields_or_none (in_graph from (ap is_some e) ∙ e))) (subst (Contains values) is (Contains-get_or values i datum.Null bound)) in
        (reached.0, reached.1, onward reached.2 refers)

    -- A table that is reached is one in objects that have what is reached and known.
    module _ (objects : KnownObjects) (has : (n : Name) → IsReachedFromStacks g n → IsKnown known n → get objects n ≡ get known n) where
      chain_there : (links : List Link) (head : Datum) → IsChain known head links → ((n : Name) → head ≡ datum.Object n → IsReachedFromStacks g n) → IsChain objects head links
      chain_there [] head chain there = chain
      chain_there (l ∷ links) head chain there =
          let e = chain.1.1 in
          let values : List Datum = entry_fields chain.1.0 l.key l.count in
          let reached = there l.entry chain.0 in
          let entry : get objects l.entry ≡ Some (Fields values) = has l.entry reached (ap is_some e.0) ∙ e.0 in
          let key = has l.key (further l.entry l.key values 1 reached e.0 (omega arith) refl) (ap is_some e.1.1) ∙ e.1.1 in
          (chain.0, (chain.1.0, (entry, (e.1.0, key, e.1.2, e.1.3)), chain_there links chain.1.0 chain.1.2 (λ n is. further l.entry n values 0 reached e.0 (omega arith) is)))

      table_there : (name : Name) (counts : WordCounts) → IsReachedFromStacks g name → IsCountTable known name counts → IsCountTable objects name counts
      table_there name counts reached is = record {
        heads = is.heads;
        buckets = is.buckets;
        table = record {
          object = has name reached (ap is_some is.table.object) ∙ is.table.object;
          size = is.table.size;
          chains = λ b h. chain_there (is.buckets b) (get_or is.heads b datum.Null) (is.table.chains b h) (λ n at. further name n is.heads b reached is.table.object (omega (arith, h, is.table.size)) at);
          homes = is.table.homes;
          distinct = is.table.distinct;
        };
        counted = is.counted;
        absent = is.absent;
      }

  -- ---- a thread at rest

  module _ (has : Bool) (done : List (List ℕ)) (rest : IsAtRest (o ∷ []) has done) where
    pub root_weighs : weight (content_at s.graph root_name) ≡ root_words
    root_weighs = root_there rest.root

  module _ (done : List (List ℕ)) (rest : IsAtRest (o ∷ []) true done) where
    abbrev pub total : Name
    total = rest.progress.1.name

    reached_total : IsReachedFromStacks g total
    reached_total = slot_reached TOTAL_SLOT total rest.progress.1.slot

    -- the total in objects that have all of the state but the root
    pub total_beside : (objects : KnownObjects) → ((n : Name) → n ≢ root_name → get objects n ≡ content_at s.graph n) → IsCountTable objects total (word_counts done)
    total_beside objects has =
        table_there rest.known rest.knows objects
        (λ n reached k. has n (λ e. let mine_own : n.thread ≡ o.thread = rest.knows.1 n k in let zero : n.thread ≡ 0 = ap (λ (x : Name). x.thread) e in let some = mine.thread.0 in omega arith) ∙ in_state rest.known rest.knows n reached k)
        total (word_counts done) reached_total rest.progress.1.table

    pub holds_total : ((n : Name) → IsPresent s n → home_of s n ≡ Some Control) → HoldsTotalOf s o.thread done
    holds_total control = record {
      name = total;
      slot = ap (λ (x : Thread). get_or x.stack TOTAL_SLOT datum.Null) (mine.has s leaves) ∙ rest.progress.1.slot;
      table = total_beside s.graph.objects (λ n other. refl);
      home = control total (agreed.2.reached total reached_total);
    }

-- With no epoch open all objects are in the control space.
pub all_control : (m : Areas) (c : Contents) (s : SpaceState) → Stands m c s → IsAreas m → ((t : ℕ) → HasThread m t → (thread_of s.graph t).depth ≡ 0) → (n : Name) → IsPresent s n → home_of s n ≡ Some Control
all_control m c s stands areas outside n present =
    let v = content_of (content_at s.graph n) (stands.whole.contents n ∙ present) in
    let o = content-shown s n v.0 stands.whole v.1 in
    let opened = home-open m c s stands n o.0 areas o.1 in
    home-shown s n o.0 o.1 ∙ ap Some (control (o.0).home opened.0)
  where
    control : (x : Space) → IsOpen (view s).depths x → x ≡ Control
    control Control h = refl
    control (Region t d) h =
        let threads = stands.stands.threads in
        let depth : get_or (view s).depths (t - 1) 0 ≡ 0 = depth-shown s t ∙ outside t (h.0, omega (arith, h.1, threads)) in
        absurd (omega (arith, h.2, h.3, depth))
