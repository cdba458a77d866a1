-- What a call does to what a caller tells.
use Rattle.std.proofs.Common.{◌≡◌, ◌≢◌, ℕ, ◌+◌, ◌-◌, ◌^◌, ◌≤◌, List, [], ◌∷◌, ◌++◌, true≢false, min, get_or, refl, sym, ap, ◌∙◌, subst, arith, Option, Some, None, is_some, lit≤, length, MatchOption}
use Rattle.std.specs.FinMap.{empty, get-empty}
use Rattle.object_layout.specs.declared.names.Name.{Name}
use Rattle.object_layout.specs.declared.TheConstants.{OBJECT_WORDS}
use Rattle.object_layout.specs.declared.calls.Call.{Call}
use Rattle.object_layout.specs.declared.calls.Call.TheVariants as call
use Rattle.object_layout.specs.declared.replies.Census.{Census}
use Rattle.object_layout.specs.declared.replies.Reply.{Reply}
use Rattle.object_layout.specs.declared.replies.Reply.TheVariants as reply
use Rattle.heap_words.specs.declared.map.Areas.{Areas}
use Rattle.yak_model.specs.Continued.{entries_told}
use Rattle.yak_model.specs.Graph.{Graph, Limits, Thread, answers, idle, opening, standard_limits, thread_of}
use Rattle.yak_model.specs.declared.history.Entry.{Entry}
use Rattle.yak_model.specs.declared.history.Entry.TheVariants.{Said}
use Rattle.yak_model.specs.History.{Leads}
use Rattle.yak_model.specs.Lawful.{IsLawful}
use Rattle.yak_model.specs.Names.{name_cmp}
use Rattle.yak_model.specs.Private.{BecomesKnown, FitPages, IsKnown, KnownObjects}
use Rattle.yak_model.specs.Standing.{AddsEntries, Counted, IsLast, MovesKnown, counted_on, words_made}
use Rattle.yak_model.specs.Spaces.{SpaceState, spaces}
use Rattle.yak_model.proofs.Agreement.{machines_agree}
use Rattle.yak_model.proofs.Fitting.{fitting_is_kept}
use Rattle.yak_model.proofs.Known.{part_private, parts_stay}
use Rattle.yak_model.proofs.Lasting.{around, leads_unique, limits_after, made_after}
use Rattle.heap_core.specs.declared.owned.Stepped.{Stepped}
use Rattle.heap_core.specs.Callers.{words_asked}
use Rattle.heap_core.proofs.Filling.{full-answer}
use Rattle.safepoint_gate.specs.declared.rule.Own.{Own}
use Rattle.safepoint_gate.specs.declared.rule.View.{View}
use Rattle.safepoint_gate.specs.Rule.{AllMine, Mine, thread_told}
use Rattle.safepoint_gate.specs.Steps.{first_known, first_thread, told}
use Rattle.safepoint_gate.specs.Singles.{with_call}
use Rattle.calls_in_flight.specs.Flight.{at_rest}
use Rattle.std.specs.Prelude.{IsSome}
use Rattle.std.specs.Option.{ForSome}
use Rattle.safepoint_gate.specs.declared.seats.Inside.{Inside}
use Rattle.safepoint_gate.specs.Seats.{IsOf}
use Rattle.mutator.specs.declared.heap.Heap.{Heap}
use Rattle.mutator.specs.Running.{IsOfHeap, view_in}
use Rattle.mutator.specs.Calls.{Makes}
use Rattle.mutator.specs.Callers.{IsAtEnd, KnowsPart, first_told, standing_shared}
use Rattle.mutator.proofs.Stepped.{event_of}

-- ---- the map without objects

none_known : (name : Name) → IsKnown empty name → ⊥
none_known name h = true≢false (sym h ∙ ap is_some (get-empty name_cmp name))

none_fit : FitPages standard_limits empty
none_fit name content e = absurd (none_known name (ap is_some e))

pub knows_nothing : (own : List Own) → ∥ KnowsPart own empty ∥₁
knows_nothing own = ∣ (record { contents = λ name h. absurd (none_known name h); closed = λ from to r h. absurd (none_known to h) }, none_fit) ∣₁

-- ---- what a thread has in a graph

-- what a history leaves each thread is what it has in the graph too
has_in_graph : (m : Areas) (history : List Entry) (o : Own) (state : SpaceState) → spaces standard_limits m.threads history state → Mine m history o → (g : Graph) → Leads (opening standard_limits m.threads) history g → thread_of g o.thread ≡ thread_told o
has_in_graph m history o state leaves mine g led =
    let agreed = machines_agree standard_limits m.threads history state leaves in
    let same : agreed.0 ≡ g = leads_unique history (opening standard_limits m.threads) agreed.0 g agreed.1 led in
    ap (λ (x : Graph). thread_of x o.thread) (sym same)
    ∙ ap (λ (ts : List Thread). get_or ts (o.thread - 1) idle) (sym agreed.2.threads)
    ∙ mine.has state leaves

-- ---- a call

-- The counts are told exactly where the heap was full for an object, and no page is free then.
abbrev TellsFree : Call → Reply → Option Census → Type 0
TellsFree asked said full = MatchOption full (said ≢ reply.OutOfHeap) (λ (counts : Census). (said ≡ reply.OutOfHeap) × (counts.free ≡ 0) × ((k : ℕ) × (asked ≡ call.New k)))

module _ (v w : View) (asked : Call) (said : Stepped) (makes : Makes v asked said w) (o : Own) (own : v.own ≡ o ∷ []) where
  abbrev t : ℕ
  t = o.thread

  abbrev m : Areas
  m = v.map

  abbrev history : List Entry
  history = makes.says.history

  abbrev more : List Entry
  more = entries_told t (event_of asked said)

  thread_is : first_thread v.own ≡ t
  thread_is = ap first_thread own

  more_is : entries_told (first_thread v.own) (event_of asked said) ≡ more
  more_is = ap (λ u. entries_told u (event_of asked said)) thread_is

  abbrev after : Own
  after =
      record {
        thread = t;
        calls = o.calls ++ more;
        stack = makes.says.has.stack;
        depth = makes.says.has.depth;
        made = makes.says.has.made;
        known = makes.says.known;
        past = history ++ more;
        flight = at_rest t;
        loads = makes.loads;
        put = makes.put;
      }

  own_after : w.own ≡ after ∷ []
  own_after = makes.says.own_is ∙ (λ i. with_call (told (own i) (more_is i) makes.says.has makes.says.known (history ++ more_is i)) (at_rest (thread_is i)) makes.loads makes.put)

  known_is : first_known v.own ≡ o.known
  known_is = ap first_known own

  lawful : IsLawful standard_limits m.threads m.pages (history ++ more)
  lawful = subst (λ l. IsLawful standard_limits m.threads m.pages (history ++ l)) more_is makes.says.lawful

  becomes : BecomesKnown standard_limits m.threads history t o.known (Said t asked said.reply) makes.says.known
  becomes = subst (λ (x : ℕ × KnownObjects). BecomesKnown standard_limits m.threads history x.0 x.1 (Said x.0 asked said.reply) makes.says.known) (λ i. (thread_is i, known_is i)) makes.says.becomes

  mine_before : Mine m history o
  mine_before = subst (AllMine m history) own makes.says.was 0 o refl

  all_after : AllMine m (history ++ more) (after ∷ [])
  all_after = subst (λ (x : List Entry × List Own). AllMine m (history ++ x.0) x.1) (λ i. (more_is i, own_after i)) makes.says.mine

  mine_after : Mine m (history ++ more) after
  mine_after = all_after 0 after refl

  -- the call's entries end the history
  pub call_at_end : IsAtEnd m v.own w.own asked said.reply
  call_at_end = subst (λ (x : List Own × List Own). IsAtEnd m x.0 x.1 asked said.reply) (λ i. (sym own i, sym own_after i)) (record {
    before = history;
    collected = said.collected;
    goes_on = mine_before.goes_on;
    calls = refl;
    past = refl;
    state = lawful.defined.0;
    leaves = lawful.defined.1;
    mine = all_after;
  })

  module _ (made refusals : ℕ) (last : Option (Census × ℕ × ℕ)) where
    -- the call moves a graph in which a part of the private map is the thread's own
    moves_part : (part : KnownObjects) → KnowsPart (o ∷ []) part → MovesKnown (standing_shared (o ∷ []) made refusals last) part asked said.reply (thread_told after) (KnowsPart (after ∷ []))
    moves_part part knows =
        let turn = around standard_limits m.threads history t (event_of asked said) lawful.legal in
        let names = made_after standard_limits m.threads history turn.0 turn.2 in
        let private = mine_before.knows.alone turn.0 turn.2 in
        let limits = limits_after standard_limits m.threads history turn.0 turn.2 in
        record {
          before = turn.0;
          later = turn.1;
          limits = limits;
          own = has_in_graph m history o makes.says.before makes.says.leaves mine_before turn.0 turn.2;
          names = names;
          private = part_private turn.0 t o.known part names private knows.0;
          moves = turn.3;
          own_later = has_in_graph m (history ++ more) after lawful.defined.0 lawful.defined.1 mine_after turn.1 turn.4;
          known_later = λ part_after then. (
            parts_stay turn.0 t o.known part names private knows.0 (Said t asked said.reply) makes.says.known part_after (becomes turn.0 turn.2) then,
            subst (λ l. FitPages l part_after) limits
                (fitting_is_kept turn.0 (Said t asked said.reply) turn.1 t part part_after (subst (λ l. OBJECT_WORDS ≤ l.page) (sym limits) (lit≤ tt)) turn.3 (subst (λ l. FitPages l part) (sym limits) knows.1) then),
          );
        }

    -- the own list has the entries of the call more
    adds_entries : AddsEntries t asked said.reply (Some o.calls) (Some after.calls)
    adds_entries = (said.collected, refl, makes.may)

    counted_last : (made_now refusals_now : ℕ) (last_now : Option (Census × ℕ × ℕ)) → made_now ≡ counted_on made (words_made asked said.reply)
        → (said.reply ≡ reply.OutOfHeap → (refusals_now ≡ counted_on refusals 1) × IsLast (standing_shared (o ∷ []) made refusals last) asked last_now)
        → (said.reply ≢ reply.OutOfHeap → (refusals_now ≡ refusals) × (last_now ≡ last))
        → Counted (standing_shared (o ∷ []) made refusals last) asked said.reply (standing_shared (after ∷ []) made_now refusals_now last_now)
    counted_last made_now refusals_now last_now words full other = record {
      thread = refl;
      limits = refl;
      words = words;
      list = adds_entries;
      full = full;
      other = other;
    }

    -- the same, of the views
    pub call_known : (part : KnownObjects) → KnowsPart v.own part → MovesKnown (standing_shared v.own made refusals last) part asked said.reply (first_told w.own) (KnowsPart w.own)
    call_known part knows =
        subst (λ (x : List Own × List Own). MovesKnown (standing_shared x.0 made refusals last) part asked said.reply (first_told x.1) (KnowsPart x.1)) (λ i. (sym own i, sym own_after i))
        (moves_part part (subst (λ l. KnowsPart l part) own knows))

    -- a call that wasn't out of heap
    pub call_counted : (made_now : ℕ) → made_now ≡ counted_on made (words_made asked said.reply) → said.full ≡ None
        → Counted (standing_shared v.own made refusals last) asked said.reply (standing_shared w.own made_now refusals last)
    call_counted made_now words none =
        subst (λ (x : List Own × List Own). Counted (standing_shared x.0 made refusals last) asked said.reply (standing_shared x.1 made_now refusals last)) (λ i. (sym own i, sym own_after i))
        (counted_last made_now refusals last words (λ full. absurd (not_full full)) (λ _. (refl, refl)))
      where
        not_full : said.reply ≢ reply.OutOfHeap
        not_full = subst (λ (f : Option Census). TellsFree asked said.reply f) none makes.full

    -- a call that was
    pub call_last : (made_now refusals_now depth words : ℕ) (census : Census) → made_now ≡ counted_on made (words_made asked said.reply) → refusals_now ≡ counted_on refusals 1 → said.full ≡ Some census
        → depth ≡ (first_told v.own).depth → words ≡ min (words_asked asked) (2 ^ 16 - 1)
        → Counted (standing_shared v.own made refusals last) asked said.reply (standing_shared w.own made_now refusals_now (Some (census, depth, words)))
    call_last made_now refusals_now depth words census more count some deep size =
        subst (λ (x : List Own × List Own). Counted (standing_shared x.0 made refusals last) asked said.reply (standing_shared x.1 made_now refusals_now (Some (census, depth, words)))) (λ i. (sym own i, sym own_after i))
        (counted_last made_now refusals_now (Some (census, depth, words)) more (λ _. (count, is_last)) (λ other. absurd (other told_full.0)))
      where
        told_full : (said.reply ≡ reply.OutOfHeap) × (census.free ≡ 0) × ((k : ℕ) × (asked ≡ call.New k))
        told_full = subst (λ (f : Option Census). TellsFree asked said.reply f) some makes.full

        fits : (k : ℕ) → asked ≡ call.New k → words ≡ k + OBJECT_WORDS
        fits k e =
            let turn = around standard_limits m.threads history t (event_of asked said) lawful.legal in
            let page : turn.0.limits.page ≡ standard_limits.page = ap (λ (l : Limits). l.page) (limits_after standard_limits m.threads history turn.0 turn.2) in
            let answer : answers turn.0 t (call.New k) reply.OutOfHeap turn.1 = subst (λ (x : Call × Reply). answers turn.0 t x.0 x.1 turn.1) (λ i. (e i, told_full.0 i)) turn.3.1 in
            let short = (full-answer turn.0 t k turn.1 answer).0 in
            let asks : words_asked asked ≡ k + OBJECT_WORDS = ap words_asked e in
            omega (arith, size, asks, short, page)

        is_last : IsLast (standing_shared (o ∷ []) made refusals last) asked (Some (census, depth, words))
        is_last =
            let d : depth ≡ o.depth = deep ∙ ap (λ l. (first_told l).depth) own in
            (told_full.2.0, census, told_full.2.1, told_full.1, (λ i. Some (census, d i, fits told_full.2.0 told_full.2.1 i)))

-- ---- seats

pub is_of_heap : (heap : Heap) (inside : Option Inside) → IsSome inside → ForSome inside (λ i. IsOf heap.gate i.seat.table_id i.seat.me.0) → IsOfHeap heap inside
is_of_heap heap None some all = absurd (true≢false (sym some))
is_of_heap heap (Some inside) some all = all inside refl

pub each_of_heap : (heap : Heap) (inside : Option Inside) → IsOfHeap heap inside → ForSome inside (λ i. IsOf heap.gate i.seat.table_id i.seat.me.0)
each_of_heap heap None h i e = absurd h
each_of_heap heap (Some inside) h i e = subst (λ (x : Inside). IsOf heap.gate x.seat.table_id x.seat.me.0) (some_is inside i e) h
  where
    some_is : (a b : Inside) → Some a ≡ Some b → a ≡ b
    some_is a b e = cc

-- the one thread of a seat
pub only : (own : List Own) → length own ≡ 1 → (o : Own) × (own ≡ o ∷ [])
only [] e = absurd (omega arith)
only (o ∷ []) e = (o, refl)
only (o ∷ p ∷ own) e = absurd (omega arith)

pub one_own : (inside : Option Inside) → IsSome inside → (o : Own) × ((view_in inside).own ≡ o ∷ [])
one_own None some = absurd (true≢false (sym some))
one_own (Some inside) some = only inside.seat.me.0.own inside.single

-- ---- the last call that was out of heap

pub not_none : (x : Census × ℕ × ℕ) → Some x ≡ None → ⊥
not_none x e = true≢false (ap is_some e)

pub nothing_told : (x : Census × ℕ × ℕ) → None ≡ Some x → x.0.free ≡ 0
nothing_told x e = absurd (true≢false (sym (ap is_some e)))

pub last_is : (x y : Census × ℕ × ℕ) → Some x ≡ Some y → x ≡ y
last_is x y e = cc

-- no page was free then
pub call_none_free : (v w : View) (asked : Call) (said : Stepped) → Makes v asked said w → (census : Census) → said.full ≡ Some census → census.free ≡ 0
call_none_free v w asked said makes census some = (subst (λ (f : Option Census). TellsFree asked said.reply f) some makes.full).1
