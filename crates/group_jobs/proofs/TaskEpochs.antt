-- The epoch of a task in the one history.
use Rattle.std.proofs.Common.{◌≡◌, ◌≢◌, inl, inr, ℕ, ◌+◌, ◌-◌, ◌<◌, ◌≤◌, Bool, cond, eqb, eq-eqb, List, [], ◌∷◌, ◌++◌, get_or, refl, sym, ap, ◌∙◌, subst, arith, None, Some, IsSome, is_some, MatchOption}
use Rattle.std.proofs.lemmas.List.{append_assoc, append-nil}
use Rattle.std.proofs.lemmas.List.Elements.{All-nil, All-cons, filter-append}
use Rattle.std.specs.FinMap.{get}
use Rattle.epoch_lattice.specs.declared.Space.TheVariants.{Region}
use Rattle.object_layout.specs.declared.names.Name.{Name}
use Rattle.object_layout.specs.declared.calls.Call.TheVariants as call
use Rattle.object_layout.specs.declared.replies.Reply.{Reply}
use Rattle.object_layout.specs.declared.replies.Reply.TheVariants as reply
use Rattle.heap_words.specs.declared.map.Areas.{Areas}
use Rattle.heap_words.specs.Map.{HasThread}
use Rattle.yak_model.specs.declared.datum.Datum.{Datum}
use Rattle.yak_model.specs.declared.datum.Datum.TheVariants as datum
use Rattle.yak_model.specs.declared.history.Entry.{Entry}
use Rattle.yak_model.specs.declared.history.Entry.TheVariants.{Said}
use Rattle.yak_model.specs.Agreement.{Agrees}
use Rattle.yak_model.specs.Graph.{Does, Graph, Thread, idle, next_name, opening, refusal_of, standard_limits, thread_of}
use Rattle.yak_model.specs.History.{Leads, Moves, caller, part}
use Rattle.yak_model.specs.Private.{IsKnown, KnownObjects, PrivateAfter}
use Rattle.yak_model.specs.Spaces.{SpaceState, content_at, home_of, spaces}
use Rattle.yak_model.specs.Tables.{IsChain, IsCountTable, Link}
use Rattle.yak_model.specs.Texts.{word_counts}
use Rattle.yak_model.proofs.Agreement.{machines_agree}
use Rattle.yak_model.proofs.Lasting.{leads_between, leads_unique, made_after}
use Rattle.safepoint_gate.specs.declared.rule.Own.{Own}
use Rattle.safepoint_gate.specs.Rule.{Mine}
use Rattle.safepoint_gate.specs.Steps.{first_calls, first_known, first_thread}
use lib.ListN.{get_elem?}
use Rattle.safepoint_gate.proofs.Flying.{only}
use Rattle.mutator.specs.Callers.{KnowsPart, first_past, first_told}
use Rattle.heap_tables.specs.Adds.{AreAfter, IsAfter}
use Rattle.group_jobs.specs.Epochs.{AreEpochs, IsOneEpoch, IsWithin, bounds_in}
use Rattle.group_jobs.specs.Followed.{EndsWith, IsSettled, KnowsOwn}
use Rattle.group_jobs.specs.Shared.{HasEpoch, HoldsPart}
use Rattle.group_jobs.specs.Tallies.{IsPartTable}
use Rattle.group_jobs.proofs.Depths.{depth_bounds, depth_in, epochs_depth, led_all, names_in}
use Rattle.group_jobs.proofs.Grown.{bounds_cat}
use Rattle.group_jobs.proofs.Parted.{IsParted, parted_from}
use Rattle.group_jobs.proofs.Regions.{task_homes}
use Rattle.group_jobs.proofs.Tallying.{AreSame, chain_stays}

-- ---- what a settled thread has

-- the same of the seat's first thread
pub record Told (m : Areas) (own : List Own) : Type 0 where
  pub thread : HasThread m (first_thread own)
  pub calls : part (first_past own) (first_thread own) ≡ first_calls own
  pub has : (s : SpaceState) → spaces standard_limits m.threads (first_past own) s → thread_of s.graph (first_thread own) ≡ first_told own
  pub knows : PrivateAfter standard_limits m.threads (first_past own) (first_thread own) (first_known own)

pub told_settled : (m : Areas) (own : List Own) → IsSettled m own → Told m own
told_settled m own settled =
    let one = only own settled.one in
    subst (Told m) (sym one.1) (told one.0 (subst (λ (l : List Own). Mine m (first_past l) one.0) one.1 (settled.mine 0 one.0 (ap (λ (l : List Own). get_elem? l 0) one.1))))
  where
    told : (o : Own) → Mine m o.past o → Told m (o ∷ [])
    told o mine = record { thread = mine.thread; calls = mine.calls; has = mine.has; knows = mine.knows }

-- how many objects it has made
pub settled_made : (m : Areas) (own : List Own) → IsSettled m own → (first_told own).made ≡ names_in (first_calls own)
settled_made m own settled =
    let told = told_settled m own settled in
    let t : ℕ = first_thread own in
    let agreed = machines_agree standard_limits m.threads (first_past own) settled.state settled.leaves in
    let led = led_all t told.thread.0 standard_limits m.threads (first_past own) agreed.0 agreed.1 in
    sym (ap (λ (o : Thread). o.made) (told.has settled.state settled.leaves))
    ∙ ap (λ (ts : List Thread). (get_or ts (t - 1) idle).made) agreed.2.threads ∙ led.0 ∙ ap names_in told.calls

-- ---- the last entry

part_cat : (a b : List Entry) (t : ℕ) → part (a ++ b) t ≡ part a t ++ part b t
part_cat a b t = filter-append (λ (entry : Entry). eqb (caller entry) t) a b

none_last : (a : List Entry) (x : Entry) → a ++ x ∷ [] ≡ [] → ⊥
none_last [] x e = cc
none_last (y ∷ a) x e = cc

none_here : (a : List Entry) (x : Entry) (b : List Entry) → a ++ x ∷ b ≡ [] → ⊥
none_here [] x b e = cc
none_here (y ∷ a) x b e = cc

module _ (t : ℕ) (last : Entry) (own : caller last ≡ t) where
  own_last : (former : List Entry) → part (former ++ last ∷ []) t ≡ part former t ++ last ∷ []
  own_last former = part_cat former (last ∷ []) t ∙ ap (λ l. part former t ++ l) (ap (λ (b : Bool). cond b (last ∷ []) []) (eq-eqb (caller last) t own))

  behind : (xs : List Entry) (z : Entry) (zs former : List Entry) → xs ++ z ∷ zs ≡ former ++ last ∷ [] → part (z ∷ zs) t ≡ [] → ⊥
  behind [] z zs former e none = none_last (part former t) last (sym (own_last former) ∙ ap (λ l. part l t) (sym e) ∙ none)
  behind (x ∷ xs) z zs [] e none = none_here xs z zs (cc)
  behind (x ∷ xs) z zs (y ∷ former) e none = behind xs z zs former (cc) none

pub none_after : (t : ℕ) (xs : List Entry) (x : Entry) (ys history : List Entry) → EndsWith t history → history ≡ xs ++ x ∷ ys → part ys t ≡ [] → ys ≡ []
none_after t xs x [] history ends is none = refl
none_after t xs x (y ∷ ys) history (inl e) is none = absurd (none_here xs x (y ∷ ys) (sym is ∙ e))
none_after t xs x (y ∷ ys) history (inr (former, last, own, e)) is none =
    absurd (behind t last own (xs ++ x ∷ []) y ys former (append_assoc xs (x ∷ []) (y ∷ ys) ∙ sym is ∙ e) none)

-- ---- a table whose objects a state has

same_chain : (known later : KnownObjects) (name : Name) → ((n : Name) → IsAfter name n → IsKnown known n → get later n ≡ get known n) → (links : List Link) (head : Datum) → AreAfter name links → IsChain known head links → AreSame known later links
same_chain known later name same [] head after chain = All-nil (λ (l : Link). (get later l.entry ≡ get known l.entry) × (get later l.key ≡ get known l.key))
same_chain known later name same (l ∷ links) head after chain =
    All-cons (λ (k : Link). (get later k.entry ≡ get known k.entry) × (get later k.key ≡ get known k.key)) l links
    (same l.entry after.0 (ap is_some chain.1.1.0), same l.key after.1 (ap is_some chain.1.1.1.1))
    (same_chain known later name same links chain.1.0 after.2 chain.1.2)

part_there : (known later : KnownObjects) (name : Name) (words : List (List ℕ)) → IsPartTable known name words → get later name ≡ get known name
    → ((n : Name) → IsAfter name n → IsKnown known n → get later n ≡ get known n) → IsCountTable later name (word_counts words)
part_there known later name words is here same = let table = is.table in record {
  heads = table.heads;
  buckets = table.buckets;
  table = record {
    object = here ∙ table.table.object;
    size = table.table.size;
    chains = λ b h. chain_stays known later (table.buckets b) (get_or table.heads b datum.Null) (same_chain known later name same (table.buckets b) (get_or table.heads b datum.Null) (is.after b h) (table.table.chains b h)) (table.table.chains b h);
    homes = table.table.homes;
    distinct = table.table.distinct;
  };
  counted = table.counted;
  absent = table.absent;
}

-- ---- the end of an epoch leaves the objects

end_objects : (g h : Graph) (t : ℕ) (said : Reply) → Moves g (Said t call.End said) h → h.objects ≡ g.objects
end_objects g h t said moves = by moves.1
  where
    by : MatchOption (refusal_of g t call.End) (Does g t call.End said h) (λ why. (said ≡ reply.Refused why) × (h ≡ g)) → h.objects ≡ g.objects
    by = elim (refusal_of g t call.End) as (λ o. MatchOption o (Does g t call.End said h) (λ why. (said ≡ reply.Refused why) × (h ≡ g)) → h.objects ≡ g.objects) [
      | None ↦ λ d. ap (λ (x : Graph). x.objects) d.1
      | Some why ↦ λ r. ap (λ (x : Graph). x.objects) r.1
    ]

-- ---- the epoch

module _ (m : Areas) (t : ℕ) (some : 1 ≤ t) (before inside : List Entry) (moved : ℕ) (tight : Bool) (now : List Own) (settled : IsSettled m now) (thread : first_thread now ≡ t) where
  abbrev begun : Entry
  begun = Said t call.Begin reply.Ok

  abbrev ended : Entry
  ended = Said t call.End (reply.Ended moved tight)

  abbrev closed : List Entry
  closed = before ++ begun ∷ inside

  module _ (whole : first_past now ≡ closed ++ ended ∷ []) (outside : depth_in 0 (part before t) ≡ 0) (plain : bounds_in (part inside t) ≡ []) (words : List (List ℕ)) (name : Name) (first : name ≡ record { thread = t; serial = names_in (part before t) + 1 })
      (later : KnownObjects) (knows : KnowsPart now later) (is : IsPartTable later name words) where
    led_now : (g : Graph) × Leads (opening standard_limits m.threads) closed g × ((h : Graph) × Leads g (ended ∷ []) h × Leads (opening standard_limits m.threads) (first_past now) h)
    led_now =
        let agreed = machines_agree standard_limits m.threads (first_past now) settled.state settled.leaves in
        let cut = leads_between (opening standard_limits m.threads) agreed.0 closed (ended ∷ []) (subst (λ l. Leads (opening standard_limits m.threads) l agreed.0) whole agreed.1) in
        (cut.0, cut.1, (agreed.0, cut.2, agreed.1))

    abbrev g : Graph
    g = led_now.0

    abbrev h : Graph
    h = led_now.2.0

    same_objects : h.objects ≡ g.objects
    same_objects =
        let one = led_now.2.1 in
        subst (λ (x : Graph). x.objects ≡ g.objects) (sym one.2) (end_objects g one.0 t (reply.Ended moved tight) one.1)

    -- what is known is in the graph
    known_there : (n : Name) → IsKnown later n → content_at g n ≡ get later n
    known_there n k =
        let told = told_settled m now settled in
        let same : get later n ≡ get (first_known now) n = knows.0.contents n k in
        let private = told.knows.alone h led_now.2.2 in
        ap (λ (o : KnownObjects). get o n) (sym same_objects) ∙ private.contents n (subst IsSome same k) ∙ sym same

    module _ (s : SpaceState) (leaves : spaces standard_limits m.threads closed s) where
      abbrev agreed : (x : Graph) × Leads (opening standard_limits m.threads) closed x × Agrees x s
      agreed = machines_agree standard_limits m.threads closed s leaves

      same_graph : agreed.0 ≡ g
      same_graph = leads_unique closed (opening standard_limits m.threads) agreed.0 g agreed.1 led_now.1

      made_here : (n : Name) → n.thread ≡ t → IsKnown later n → n.serial ≤ (thread_of s.graph t).made
      made_here n own k =
          let there : IsSome (content_at g n) = subst IsSome (sym (known_there n k)) k in
          let made = (made_after standard_limits m.threads closed g led_now.1).objects n there in
          let threads : (thread_of s.graph t).made ≡ (thread_of g n.thread).made =
          ap (λ (ts : List Thread). (get_or ts (t - 1) idle).made) (agreed.2.threads ∙ ap (λ (x : Graph). x.threads) same_graph) ∙ ap (λ u. (thread_of g u).made) (sym own) in
          omega arith

      home_here : (n : Name) → n.thread ≡ t → names_in (part before t) < n.serial → IsKnown later n → home_of s n ≡ Some (Region t 1)
      home_here n own low k = task_homes t some m.threads before inside s leaves outside plain n own low (made_here n own k)

      content_here : (n : Name) → n.thread ≡ t → names_in (part before t) < n.serial → IsKnown later n → content_at s.graph n ≡ get later n
      content_here n own low k =
          agreed.2.contents n (ap is_some (home_here n own low k)) ∙ ap (λ (x : Graph). content_at x n) same_graph ∙ known_there n k

      name_own : name.thread ≡ t
      name_own = ap (λ (n : Name). n.thread) first

      name_low : names_in (part before t) < name.serial
      name_low = let e = ap (λ (n : Name). n.serial) first in omega arith

      name_known : IsKnown later name
      name_known = ap is_some is.table.table.object

      pub part_home : home_of s name ≡ Some (Region t 1)
      part_home = home_here name name_own name_low name_known

      pub part_table : IsCountTable s.graph.objects name (word_counts words)
      part_table = part_there later s.graph.objects name words is (content_here name name_own name_low name_known)
          (λ n after k. content_here n (after.0 ∙ name_own) (let low = name_low in let a = after.1 in omega arith) k)

    first_here : (x : Graph) → Leads (opening standard_limits m.threads) before x → name ≡ next_name x t
    first_here x leads =
        let led = led_all t some standard_limits m.threads before x leads in
        first ∙ (λ i. record { thread = t; serial = sym led.0 i + 1 })

    pub holds_part : HoldsPart m.threads before closed t words
    holds_part = record { name = name; first = first_here; home = part_home; table = part_table }

-- The calls of a task, in an epoch of its own after those that the thread had made, are an epoch of the history.
pub has_epoch : (m : Areas) (t : ℕ) (was : List Entry) (ready now : List Own) (words : List (List ℕ)) → (first_told ready).made ≡ names_in (first_calls ready) → IsSettled m now → first_thread ready ≡ t → first_thread now ≡ t
    → (plain : List Entry) → first_calls ready ≡ was ++ plain → IsWithin plain → (more : List Entry) → first_calls now ≡ first_calls ready ++ more → IsOneEpoch t more
    → (words ≢ [] → (later : KnownObjects) × KnowsOwn now later × IsPartTable later (record { thread = first_thread ready; serial = (first_told ready).made + 1 }) words)
    → (k : ℕ) → AreEpochs t k (bounds_in was) → HasEpoch m.threads (first_past now) t k words
has_epoch m t was ready now words made_ready settled thread_ready thread plain ready_is within more now_is one part_known k epochs = record {
  before = before;
  inside = inside;
  moved = moved;
  tight = tight;
  goes_on = ([], whole ∙ sym (append-nil (before ++ (Said t call.Begin reply.Ok ∷ inside) ++ Said t call.End (reply.Ended moved tight) ∷ [])));
  number = subst (AreEpochs t k) (sym bounds_before) epochs;
  plain = inside_plain;
  part_held = λ busy.
      let known = part_known busy in
      holds_part m t some before inside moved tight now settled thread whole outside inside_plain words (record { thread = first_thread ready; serial = (first_told ready).made + 1 }) first known.0 known.1.0 known.2;
}
  where
    some : 1 ≤ t
    some = subst (λ u. 1 ≤ u) thread (told_settled m now settled).thread.0

    moved : ℕ
    moved = one.1.1

    tight : Bool
    tight = one.1.2

    own_part : part (first_past now) t ≡ first_calls ready ++ Said t call.Begin reply.Ok ∷ one.0
    own_part = ap (part (first_past now)) (sym thread) ∙ (told_settled m now settled).calls ∙ now_is ∙ ap (λ l. first_calls ready ++ l) one.2

    cut : IsParted t (first_past now) (first_calls ready) (Said t call.Begin reply.Ok) one.0
    cut = parted_from t (first_past now) (first_calls ready) one.0 (Said t call.Begin reply.Ok) own_part

    cut_end : IsParted t cut.after one.1.0 (Said t call.End (reply.Ended moved tight)) []
    cut_end = parted_from t cut.after one.1.0 [] (Said t call.End (reply.Ended moved tight)) (cut.more_is ∙ one.1.4)

    before : List Entry
    before = cut.before

    inside : List Entry
    inside = cut_end.before

    long : first_past now ≡ (before ++ Said t call.Begin reply.Ok ∷ inside) ++ Said t call.End (reply.Ended moved tight) ∷ cut_end.after
    long = cut.whole ∙ ap (λ l. before ++ Said t call.Begin reply.Ok ∷ l) cut_end.whole ∙ sym (append_assoc before (Said t call.Begin reply.Ok ∷ inside) (Said t call.End (reply.Ended moved tight) ∷ cut_end.after))

    whole : first_past now ≡ (before ++ Said t call.Begin reply.Ok ∷ inside) ++ Said t call.End (reply.Ended moved tight) ∷ []
    whole =
        let none = none_after t (before ++ Said t call.Begin reply.Ok ∷ inside) (Said t call.End (reply.Ended moved tight)) cut_end.after (first_past now) (subst (λ u. EndsWith u (first_past now)) thread settled.ends) long cut_end.more_is in
        long ∙ ap (λ l. (before ++ Said t call.Begin reply.Ok ∷ inside) ++ Said t call.End (reply.Ended moved tight) ∷ l) none

    bounds_before : bounds_in (part before t) ≡ bounds_in was
    bounds_before = ap bounds_in (cut.own_is ∙ ready_is) ∙ bounds_cat was plain ∙ ap (λ l. bounds_in was ++ l) within ∙ append-nil (bounds_in was)

    inside_plain : bounds_in (part inside t) ≡ []
    inside_plain = ap bounds_in cut_end.own_is ∙ one.1.3

    outside : depth_in 0 (part before t) ≡ 0
    outside = depth_bounds 0 (part before t) ∙ ap (depth_in 0) bounds_before ∙ epochs_depth t k (bounds_in was) epochs

    first : ◌≡◌ {A = Name} (record { thread = first_thread ready; serial = (first_told ready).made + 1 }) (record { thread = t; serial = names_in (part before t) + 1 })
    first = λ i. record { thread = thread_ready i; serial = (made_ready ∙ ap names_in (sym cut.own_is)) i + 1 }
