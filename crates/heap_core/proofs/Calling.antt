-- What a step does to what its thread and the others know.
use Rattle.std.proofs.Common.{lit≤, ◌≡◌, ℕ, [], ◌∷◌, true, false, true≢false, cond, refl, ◌∙◌, ap, sym, subst, inl, inr, Option, Some, None, IsSome, is_some, ◌≤◌, arith}
use Rattle.std.proofs.Math.Logic.{⊎_elim, ∥∥₁_map}
use Rattle.std.specs.List.{Contains}
use Rattle.std.specs.FinMap.{FinMap, empty, entries, get, get-empty}
use Rattle.object_layout.specs.declared.names.Name.{Name}
use Rattle.object_layout.specs.declared.calls.Call.{Call}
use Rattle.object_layout.specs.declared.replies.Census.{Census}
use Rattle.object_layout.specs.declared.replies.Reply.{Reply}
use Rattle.heap_words.specs.declared.map.Areas.{Areas}
use Rattle.heap_words.specs.Contents.{Contents}
use Rattle.yak_model.specs.declared.datum.Datum.TheVariants as datum
use Rattle.yak_model.specs.Names.{name_cmp}
use Rattle.object_layout.specs.declared.TheConstants.{OBJECT_WORDS}
use Rattle.yak_model.specs.Graph.{Content, Graph, Limits, fields_of, fields_or_none, standard_limits}
use Rattle.yak_model.specs.declared.history.Entry.{Entry}
use Rattle.yak_model.specs.declared.history.Entry.TheVariants.{Collected, Said}
use Rattle.yak_model.specs.History.{Moves}
use Rattle.yak_model.specs.Private.{AreMade, FitPages, IsKnown, IsMade, IsPrivate, KnownAfter, KnownObjects}
use Rattle.yak_model.specs.Spaces.{Collects, IsOnStack, Refers, SpaceState, TurnsAll, content_at, here, home_of}
use Rattle.yak_model.specs.Standing.{MovesKnown}
use Rattle.yak_model.specs.State.{IsDatum, object_of}
use Rattle.yak_model.specs.Stands.{IsWhole, Stands}
use Rattle.yak_model.proofs.Data.{some-of}
use Rattle.yak_model.proofs.Fitting.{fitting_is_kept}
use Rattle.yak_model.proofs.Made.{names_stay_made}
use Rattle.yak_model.proofs.Private.{privacy_is_kept}
use Rattle.yak_model.proofs.Stacks.{stack-fits}
use Rattle.heap_walks.proofs.Seen.{seen}
use Rattle.heap_core.specs.declared.owned.Stepped.{Stepped}
use Rattle.heap_core.specs.Callers.{KnowsAlone, graph_with, standing_told, thread_told, with_absent}
use Rattle.yak_model.specs.Recorded.{SomeRecorded}
use Rattle.heap_core.specs.Steps.{entries as entries_of}
use Rattle.heap_core.proofs.Alone.{IsWithin, are_made-within, nothing, private-within, there_or_not, with-added, with-kept}
use Rattle.heap_core.proofs.Answering.{FollowsCall, HoldsStacks, Includes, follows, kept, of_objects}
use Rattle.standing_calls.proofs.Named.{made-shown}
use Rattle.heap_core.proofs.RoomsNames.{content-shown}
use Rattle.heap_core.proofs.Threads.{thread-told}

content_of : (o : Option Content) → IsSome o → (v : Content) × (o ≡ Some v)
content_of None h = cc
content_of (Some v) h = (v, refl)

-- what stands on a stack is present
pub holds-stacks : (m : Areas) (c : Contents) (s : SpaceState) (h : Stands m c s) → HoldsStacks s.graph
holds-stacks m c s h t n on =
    let o = some-of (object_of s n) (subst (IsDatum (object_of s)) on.1.2 (stack-fits m c s h t on.1.0 (datum.Object n) on.1.1)) in
    ap is_some (seen s n o.0 o.1).content_is

-- what refers from a stack or a present object leads to one
leads-to : (m : Areas) (c : Contents) (s : SpaceState) (h : Stands m c s) (a b : Name) → Refers s.graph a b → IsSome (content_at s.graph b)
leads-to m c s h a b r =
    elim (there_or_not s.graph a) [
      | inl some ↦
          let v = content_of (content_at s.graph a) some in
          let o = content-shown s a v.0 h.whole v.1 in
          let w = seen s a o.0 o.1 in
          let held : fields_or_none (content_at s.graph a) ≡ fields_of w.content = ap fields_or_none w.content_is in
          let same : fields_or_none (content_at s.graph a) ≡ o.0.fields = held ∙ sym w.fields_are in
          let r' = subst (λ fs. Contains fs (datum.Object b)) same r in
          let p = some-of (object_of s b) (subst (IsDatum (object_of s)) r'.2 ((h.stands.closed.fields a o.0 o.1).0 r'.0 (datum.Object b) r'.1)) in
          let w' = seen s b p.0 p.1 in
          ap is_some {y = Some w'.content} w'.content_is
      | inr none ↦ absurd (omega (arith, (subst (λ o. Contains (fields_or_none o) (datum.Object b)) (nothing (content_at s.graph a) none) r).1))
    ]

-- what is present was made
object-made : (m : Areas) (c : Contents) (s : SpaceState) (h : Stands m c s) (n : Name) → IsSome (content_at s.graph n) → IsMade s.graph n
object-made m c s h n some =
    let v = content_of (content_at s.graph n) some in
    let o = content-shown s n v.0 h.whole v.1 in
    ⊎_elim
    (λ (root : (n.thread ≡ 0) × (n.serial ≡ 0)). omega (arith, root.1))
    (λ made. omega (arith, made.3, made-shown s n.thread))
    (h.stands.names n o.0 o.1)

-- the names of a state are those of objects that were made
pub state-made : (m : Areas) (c : Contents) (s : SpaceState) (h : Stands m c s) → AreMade s.graph
state-made m c s h = record {
  objects = λ n some. object-made m c s h n some;
  stacks = λ u n on. object-made m c s h n (holds-stacks m c s h u n on);
  fields = λ a b r. object-made m c s h b (leads-to m c s h a b r);
}

-- a collection keeps what stands on a stack
stacks-collected : (s mid : SpaceState) → IsWhole s → HoldsStacks s.graph → Collects s mid → HoldsStacks mid.graph
stacks-collected s mid whole held collects t n on =
    let was : IsOnStack s.graph t n = subst (λ g. IsOnStack g t n) collects.rest on in
    let some : IsSome (content_at s.graph n) = held t n was in
    let home : is_some (home_of mid n) ≡ true = ap is_some (collects.live n (n, inl (t, was), here)) ∙ sym (whole.contents n) ∙ some in
    subst IsSome (sym (collects.contents n ∙ ap (λ b. cond b (content_at s.graph n) None) home)) some

-- a call after a collection
after-collected : (objects : FinMap name_cmp Content) (s mid after : SpaceState) (t : ℕ) (asked : Call) (said : Reply) → Collects s mid → FollowsCall objects mid t asked said after → FollowsCall objects s t asked said after
after-collected objects s mid after t asked said collects f = record {
  next = f.next;
  moves = subst (λ g. Moves g (Said t asked said) (of_objects after.graph f.next)) (ap (λ g. of_objects g objects) collects.rest) f.moves;
  includes = f.includes;
}

module _ (m : Areas) (c : Contents) (s : SpaceState) (h : Stands m c s) where
  -- a graph that includes a state follows a step
  pub follows-step : (objects : FinMap name_cmp Content) → Includes objects s.graph → (t : ℕ) (asked : Call) (stepped : Stepped) (after : SpaceState) → TurnsAll s (entries_of t asked stepped) after → FollowsCall objects s t asked stepped.reply after
  follows-step objects includes t asked stepped after = by_collection stepped.collected
    where
      by_collection : (b : _) → TurnsAll s (cond b (Collected t ∷ Said t asked stepped.reply ∷ []) (Said t asked stepped.reply ∷ [])) after → FollowsCall objects s t asked stepped.reply after
      by_collection false turns = subst (FollowsCall objects s t asked stepped.reply) (sym turns.2) (follows objects s includes (holds-stacks m c s h) t asked stepped.reply turns.0 turns.1)
      by_collection true turns =
          let mid : SpaceState = turns.0 in
          let collects : Collects s mid = turns.1.1 in
          let still : Includes objects mid.graph = λ n some. kept s mid objects n (collects.contents n) includes some in
          let call = follows objects mid still (stacks-collected s mid h.whole (holds-stacks m c s h) collects) t asked stepped.reply turns.2.0 turns.2.1 in
          after-collected objects s mid after t asked stepped.reply collects (subst (FollowsCall objects mid t asked stepped.reply) (sym turns.2.2) call)

  module _ (t u : ℕ) (known : KnownObjects) (made : AreMade (graph_with s.graph known)) (private : IsPrivate (graph_with s.graph known) u known) (asked : Call) (stepped : Stepped) (after : SpaceState) (turns : TurnsAll s (entries_of t asked stepped) after) where
    -- the graph with the known objects that aren't present follows the step
    pub follows-known : FollowsCall (with_absent s.graph.objects (entries known)) s t asked stepped.reply after
    follows-known = follows-step (with_absent s.graph.objects (entries known)) (λ n some. sym (with-kept s.graph known n some)) t asked stepped after turns

    abbrev pub later_graph : Graph
    later_graph = of_objects after.graph follows-known.next

    -- what is known fits pages afterwards too
    fits-after : FitPages standard_limits known → (then : KnownObjects) → KnownAfter (graph_with s.graph known) u known (Said t asked stepped.reply) then → FitPages standard_limits then
    fits-after fits then becomes =
        let wide : OBJECT_WORDS ≤ s.graph.limits.page = subst (λ (l : Limits). OBJECT_WORDS ≤ l.page) (sym h.whole.limits) (lit≤ tt) in
        subst (λ (l : Limits). FitPages l then) h.whole.limits
        (fitting_is_kept (graph_with s.graph known) (Said t asked stepped.reply) later_graph u known then wide follows-known.moves (subst (λ (l : Limits). FitPages l known) (sym h.whole.limits) fits) becomes)

    -- what the thread alone knows afterwards
    pub knows-after : FitPages standard_limits known → (c' : Contents) → Stands m c' after → (then : KnownObjects) → KnownAfter (graph_with s.graph known) u known (Said t asked stepped.reply) then → KnowsAlone m c' u then
    knows-after fits c' stands then becomes =
        let entry : Entry = Said t asked stepped.reply in
        let alone : IsPrivate later_graph u then = privacy_is_kept (graph_with s.graph known) entry later_graph u known then made follows-known.moves private becomes in
        let has : (n : Name) → IsKnown then n → content_at (graph_with after.graph then) n ≡ get then n = λ n k. elim (there_or_not after.graph n) [
          | inl some ↦ with-kept after.graph then n some ∙ follows-known.includes n some ∙ alone.contents n k
          | inr none ↦ with-added after.graph then n none
        ] in
        let within : IsWithin (graph_with after.graph then) later_graph = record {
          threads = refl;
          contents = λ n there. elim (there_or_not after.graph n) [
            | inl some ↦ with-kept after.graph then n some ∙ follows-known.includes n some
            | inr none ↦ with-added after.graph then n none ∙ sym (alone.contents n (subst IsSome (with-added after.graph then n none) there))
          ];
        } in
        record {
          state = after;
          stands = stands;
          made = are_made-within (graph_with after.graph then) later_graph within (names_stay_made (graph_with s.graph known) entry later_graph made follows-known.moves);
          private = private-within (graph_with after.graph then) later_graph within u then alone has;
          fits = fits-after fits then becomes;
        }

  -- the step as a move of a graph in which the known objects are the thread's own
  pub moves-known : (c' : Contents) (t : ℕ) (known : KnownObjects) → AreMade (graph_with s.graph known) → IsPrivate (graph_with s.graph known) t known → FitPages standard_limits known → (asked : Call) (stepped : Stepped) (after : SpaceState) → TurnsAll s (entries_of t asked stepped) after → Stands m c' after
      → (made refusals : ℕ) (last : Option (Census × ℕ × ℕ)) → MovesKnown (standing_told c t made refusals last) known asked stepped.reply (thread_told c' t) (KnowsAlone m c' t)
  moves-known c' t known made private fits asked stepped after turns stands words refusals last =
      let f = follows-known t t known made private asked stepped after turns in
      record {
        before = graph_with s.graph known;
        later = of_objects after.graph f.next;
        limits = h.whole.limits;
        own = sym (thread-told m c s h t);
        names = made;
        private = private;
        moves = f.moves;
        own_later = sym (thread-told m c' after stands t);
        known_later = knows-after t t known made private asked stepped after turns fits c' stands;
      }

-- a thread that knows nothing knows the empty map
pub knows-nothing : (m : Areas) (c : Contents) (s : SpaceState) (h : Stands m c s) (t : ℕ) → KnowsAlone m c t empty
knows-nothing m c s h t =
    let none : (n : Name) → IsKnown empty n → ⊥ = λ n k. true≢false (sym k ∙ ap is_some (get-empty name_cmp n)) in
    let within : IsWithin (graph_with s.graph empty) s.graph = record {
      threads = refl;
      contents = λ n there. elim (there_or_not s.graph n) [
        | inl some ↦ with-kept s.graph empty n some
        | inr absent ↦ absurd (none n (subst IsSome (with-added s.graph empty n absent) there))
      ];
    } in
    record {
      state = s;
      stands = h;
      made = are_made-within (graph_with s.graph empty) s.graph within (state-made m c s h);
      private = record {
        contents = λ n k. absurd (none n k);
        stacks = λ n k. absurd (none n k);
        fields = λ n k. absurd (none n k);
      };
      fits = λ n content e. absurd (none n (ap is_some e));
    }

pub some-knows-nothing : (m : Areas) (c : Contents) (t : ℕ) → SomeRecorded m c → ∥ KnowsAlone m c t empty ∥₁
some-knows-nothing m c t some = ∥∥₁_map some (λ q. knows-nothing m c q.0 q.1 t)
