-- What a single step of a thread that is inside owes to the rule.
use Rattle.std.proofs.Common.{◌≡◌, ◌≢◌, ℕ, ◌+◌, ◌-◌, ◌<◌, ◌≤◌, ◌==◌, cond, false, List, [], ◌∷◌, ◌++◌, length, get_or, set, refl, sym, ap, ◌∙◌, subst, ⊎_elim, arith, get_or-set_other, eq-eqb, ne_eqb}
use Rattle.std.proofs.lemmas.Bool.{cases_eq}
use Rattle.std.proofs.lemmas.List.{set_comm}
use Rattle.std.proofs.lemmas.List.Elements.{All-head}
use mathlib.Core.Option.{some}
use mathlib.Core.Logic.{dite}
use native.Mathlib.Decide.{ℕ_discrete}
use lib.ListN.{get_elem?}
use Rattle.atomic_table.specs.Table.{keeps, stepped}
use Rattle.object_layout.specs.declared.calls.Call.{Call}
use Rattle.object_layout.specs.declared.calls.Event.{Event}
use Rattle.object_layout.specs.declared.replies.Reply.{Reply}
use Rattle.heap_words.specs.declared.map.Areas.{Areas}
use Rattle.heap_words.specs.Map.{HasThread}
use Rattle.heap_words.specs.Contents.{buffer_of}
use Rattle.heap_words.proofs.Contents.{buffer_of-length_word}
use Rattle.epoch_lattice.specs.declared.Space.TheVariants.{Control}
use Rattle.yak_model.specs.declared.history.Entry.{Entry}
use Rattle.yak_model.specs.declared.history.Entry.TheVariants.{Said}
use Rattle.yak_model.specs.Continued.{PackedIfAsked}
use Rattle.yak_model.specs.Graph.{standard_limits, thread_of}
use Rattle.yak_model.specs.Lawful.{IsLawful}
use Rattle.yak_model.specs.Private.{BecomesKnown, KnownObjects}
use Rattle.yak_model.specs.Spaces.{SpaceState, opening_spaces, spaces}
use Rattle.yak_model.proofs.Agreement.{machines_agree}
use Rattle.yak_model.proofs.Lasting.{becomes_known}
use Rattle.yak_model.proofs.Lawful.{lawful_more}
use Rattle.yak_model.proofs.Turned.{turns_more}
use Rattle.yak_model.proofs.Unique.{states_unique}
use Rattle.calls_in_flight.specs.declared.notes.Flight.{Flight}
use Rattle.calls_in_flight.specs.declared.notes.Known.{Known}
use Rattle.calls_in_flight.specs.Actors.{Actor, Shows}
use Rattle.calls_in_flight.specs.Differing.{DiffersOnly}
use Rattle.calls_in_flight.specs.Fits.{StandInFlight}
use Rattle.calls_in_flight.specs.Flight.{flight_at}
use Rattle.calls_in_flight.specs.Kinds.{IsPlainEntry}
use Rattle.calls_in_flight.specs.Knowing as knowing
use Rattle.calls_in_flight.specs.Steps.{logged_at}
use Rattle.calls_in_flight.specs.Whole.{laid_all, whole}
use Rattle.calls_in_flight.proofs.Acting.{Acts, Moves}
use Rattle.calls_in_flight.proofs.Grounds.{sound_under}
use Rattle.calls_in_flight.proofs.Keeping.{packed-kept, plain-last, plain-lawful, step-long, step-plain}
use Rattle.calls_in_flight.proofs.Knowing.{knows-step}
use Rattle.calls_in_flight.proofs.ViewSees.{sees}
use Rattle.calls_in_flight.proofs.ViewWords.{own-in_block, shows-word}
use Rattle.safepoint_gate.specs.declared.rule.Own.{Own}
use Rattle.safepoint_gate.specs.declared.rule.Place.TheVariants.{Inside}
use Rattle.safepoint_gate.specs.declared.rule.View.{View}
use Rattle.safepoint_gate.specs.Rule.{AreByThread, IsUnderway, OneHistory, Mine, StandsOpen, Underway, actor_of, closed, hidden, inner, times, total}
use Rattle.safepoint_gate.specs.Singles.{IsSo, Tells}
use Rattle.safepoint_gate.specs.Steps.{with_entries}
use Rattle.safepoint_gate.proofs.Changing.{acts}
use Rattle.safepoint_gate.proofs.Closers.{counted_same}
use Rattle.safepoint_gate.proofs.Events.{mine_others, mine_own}
use Rattle.safepoint_gate.proofs.Flying.{each, only, times_at}
use Rattle.safepoint_gate.proofs.Keeps.{St}
use Rattle.safepoint_gate.proofs.Totals.{total_at}

-- ---- views and events in a plain form

-- a seat of this map that is inside and stands for one thread
abbrev pub plain : Areas → Own → View → View
plain m o v = record { map = m; own = o ∷ []; place = Inside; lasting = v.lasting; words = v.words; closing = v.closing; history = v.history }

pub in_plain : (m : Areas) (v : View) → v.map ≡ m → v.place ≡ Inside → length v.own ≡ 1 → (P : View → Type 0) → ((o : Own) → P (plain m o v)) → P v
in_plain m v map inside single P h =
    let o = only v.own single in
    subst P (λ i. record { map = sym map i; own = sym o.1 i; place = sym inside i; lasting = v.lasting; words = v.words; closing = v.closing; history = v.history }) (h o.0)

-- the event of a call that made no collection
abbrev pub lone : Event → Event
lone event = record { call = event.call; reply = event.reply; collected = false }

pub in_lone : (event : Event) → event.collected ≡ false → (P : Event → Type 0) → P (lone event) → P event
in_lone event alone P h = subst P (λ i. record { call = event.call; reply = event.reply; collected = sym alone i }) h

-- the thread with other facts of its call in flight
abbrev pub flying : Own → Flight → List Known → ℕ → Own
flying o f loads put = record {
  thread = o.thread;
  calls = o.calls;
  stack = o.stack;
  depth = o.depth;
  made = o.made;
  known = o.known;
  past = o.past;
  flight = f;
  loads = loads;
  put = put;
}

-- the seat after a step
abbrev pub after_step : Areas → View → Own → List Known → View
after_step m v p lasting = record { map = m; own = p ∷ []; place = Inside; lasting = lasting; words = v.words; closing = v.closing; history = v.history }

-- ---- what a step leaves

-- Words and calls in flight that a step of the call at i left: others know what they knew.
pub record Left (m : Areas) (ws now : List ℕ) (fs gs : List Flight) (s after : SpaceState) (h : StandInFlight m ws fs s) (later : StandInFlight m now gs after) (i : ℕ) (f : Flight) (put : ℕ) (lasting : List Known) : Type 0 where
  pub count : length gs ≡ length fs
  pub flight : flight_at gs i ≡ f
  pub thread : (flight_at gs i).thread ≡ (flight_at fs i).thread
  pub beside : (j : ℕ) → j ≢ i → flight_at gs j ≡ flight_at fs j
  pub knows : knowing.Knows m now gs after later i lasting
  pub others : (j : ℕ) (known : List Known) → j < length fs → j ≢ i → knowing.Knows m ws fs s h j known → knowing.Knows m now gs after later j known
  pub buffers : (j : ℕ) → j < length fs → j ≢ i → buffer_of (whole m now gs) (flight_at fs j).thread ≡ buffer_of (whole m ws fs) (flight_at fs j).thread
  pub logged : length (buffer_of (whole m now gs) (flight_at fs i).thread) ≡ length (buffer_of (whole m ws fs) (flight_at fs i).thread) + put

-- a place that is none of the gate's
pub hides : (ws : List ℕ) (i n : ℕ) → 1 ≤ i → hidden (set ws i n) ≡ set (hidden ws) i n
hides ws i n from = set_comm ws i 0 n 0 (λ e. omega arith)

pub word_there : (ws : List ℕ) (i : ℕ) → 1 ≤ i → get_or (hidden ws) i 0 ≡ get_or ws i 0
word_there ws i from = get_or-set_other ws 0 i 0 0 (λ e. omega arith)

module _ (m : Areas) (o : Own) (z : View) (s : St) (k : OneHistory m s) (id : ℕ) (at : get_elem? s.views id ≡ some (plain m o z)) where
  pub none_closed : total closed s.views ≡ 0
  none_closed = let here = total_at inner s.views id (plain m o z) at in let alone = k.counted.alone in dite (ℕ_discrete (total closed s.views) 0) (λ e. e) (λ more. let none_inner = alone (omega arith) in absurd (omega arith))

  abbrev pub Words : List ℕ
  Words = hidden s.words

  abbrev pub Flights : List Flight
  Flights = k.underway.flights

  abbrev pub stands : StandsOpen m (hidden s.words) k.history k.underway
  stands = k.open_ none_closed

  abbrev pub mine : Mine m k.history o
  mine = (k.fits id (plain m o z) at).mine 0 o refl

  abbrev pub call : IsUnderway m k.underway z.lasting o
  call = (k.fits id (plain m o z) at).calls 0 o refl

  pub acting : Acts m (hidden s.words) k.underway.flights stands.state stands.stands (actor_of o z.lasting)
  acting = record {
    thread = mine.thread;
    count = k.by_thread.count;
    numbered = k.by_thread.threads o.thread mine.thread;
    flight = call.flight_is;
    told = mine.has stands.state stands.leaves;
    knows = subst (knowing.Knows m (hidden s.words) k.underway.flights stands.state stands.stands (o.thread - 1)) call.lasting_is (stands.lasts o.thread mine.thread);
    differs = call.differs;
  }

  abbrev pub LeftBy : (now : List ℕ) (gs : List Flight) (after : SpaceState) → StandInFlight m now gs after → Flight → ℕ → List Known → Type 0
  LeftBy now gs after later f put lasting = Left m (hidden s.words) now k.underway.flights gs stands.state after stands.stands later (o.thread - 1) f put lasting

  abbrev under_after : List Flight → List Known → ℕ → Underway
  under_after gs lasting put = record {
    flights = gs;
    lasting = λ t. cond (t == o.thread) lasting (k.underway.lasting t);
    logged = λ t. cond (t == o.thread) (k.underway.logged t + put) (k.underway.logged t);
  }

  apart_places : (t : ℕ) → HasThread m t → t ≢ o.thread → t - 1 ≢ o.thread - 1
  apart_places t ht ne e = ne (omega (arith, e, ht.0, mine.thread.0))

  at_place : (t : ℕ) → HasThread m t → t - 1 < length k.underway.flights
  at_place t ht = omega (arith, ht.0, ht.1, k.by_thread.count)

  by_after : (now : List ℕ) (gs : List Flight) (after : SpaceState) (later : StandInFlight m now gs after) (f : Flight) (put : ℕ) (lasting : List Known) → LeftBy now gs after later f put lasting → AreByThread m gs
  by_after now gs after later f put lasting l = record {
    count = l.count ∙ k.by_thread.count;
    threads = λ t ht. ⊎_elim
        (λ (e : t ≡ o.thread). subst (λ x. (flight_at gs (x - 1)).thread ≡ x) (sym e) (l.thread ∙ k.by_thread.threads o.thread mine.thread))
        (λ (ne : t ≢ o.thread). ap (λ (x : Flight). x.thread) (l.beside (t - 1) (apart_places t ht ne)) ∙ k.by_thread.threads t ht)
        (cases_eq t o.thread);
  }

  pub stands_after : (now : List ℕ) (gs : List Flight) (after : SpaceState) (later : StandInFlight m now gs after) (f : Flight) (put : ℕ) (lasting : List Known) (history : List Entry) → IsLawful standard_limits m.threads m.pages history → spaces standard_limits m.threads history after
      → PackedIfAsked m (whole m now gs) after later.stands history → LeftBy now gs after later f put lasting → StandsOpen m now history (under_after gs lasting put)
  stands_after now gs after later f put lasting history lawful leaves packed l = record {
    lawful = lawful;
    state = after;
    leaves = leaves;
    stands = later;
    packed = packed;
    lasts = λ t ht. ⊎_elim
        (λ (e : t ≡ o.thread). rw (eq-eqb t o.thread e) (subst (λ x. knowing.Knows m now gs after later (x - 1) lasting) (sym e) l.knows))
        (λ (ne : t ≢ o.thread). rw (ne_eqb t o.thread ne) (l.others (t - 1) (k.underway.lasting t) (at_place t ht) (apart_places t ht ne) (stands.lasts t ht)))
        (cases_eq t o.thread);
    counted = λ t ht. ⊎_elim
        (λ (e : t ≡ o.thread).
        let own : (flight_at k.underway.flights (o.thread - 1)).thread ≡ t = k.by_thread.threads o.thread mine.thread ∙ sym e in
        rw (eq-eqb t o.thread e) (omega (arith, stands.counted t ht, l.logged, ap (λ x. length (buffer_of (whole m now gs) x)) own, ap (λ x. length (buffer_of (whole m (hidden s.words) k.underway.flights) x)) own)))
        (λ (ne : t ≢ o.thread).
        let own : (flight_at k.underway.flights (t - 1)).thread ≡ t = k.by_thread.threads t ht in
        rw (ne_eqb t o.thread ne) (omega (arith, stands.counted t ht, ap (λ (x : List ℕ). length x) (l.buffers (t - 1) (at_place t ht) (apart_places t ht ne)), ap (λ x. length (buffer_of (whole m now gs) x)) own, ap (λ x. length (buffer_of (whole m (hidden s.words) k.underway.flights) x)) own)))
        (cases_eq t o.thread);
  }

  -- the step keeps the rule
  pub kept_after : (i n : ℕ) (cs : List (ℕ × Unit {0})) → 1 ≤ i → (now : List ℕ) → hidden (set s.words i n) ≡ now → (gs : List Flight) (after : SpaceState) (later : StandInFlight m now gs after) (p : Own) (put : ℕ) (lasting : List Known) (history : List Entry) → p.thread ≡ o.thread → o.put + put ≤ p.put
      → LeftBy now gs after later p.flight put lasting → DiffersOnly m (actor_of p lasting) → ((q : Own) → o.thread ≢ q.thread → Mine m k.history q → Mine m history q) → Mine m history p
      → StandsOpen m now history (under_after gs lasting put) → OneHistory m (stepped s i n id cs (after_step m z p lasting) keeps)
  kept_after i n cs from now same gs after later p put lasting history thread few l differs others is_mine fine =
      let x = plain m o z in
      let w = after_step m z p lasting in
      let u = under_after gs lasting put in
      let none = none_closed in
      acts m s k id x w cs i n now history o p u at refl refl thread refl refl (omega arith) (λ e. absurd (omega (arith, e)))
      (λ j y apart there. let one = total_at closed s.views j y there in omega arith)
      others
      is_mine
      record {
        flight_is = ap (λ t. flight_at gs (t - 1)) thread ∙ l.flight;
        lasting_is = rw (eq-eqb p.thread o.thread thread) refl;
        few = rw (eq-eqb p.thread o.thread thread) (omega (arith, few, call.few, ap k.underway.logged thread));
        differs = differs;
      }
      (by_after now gs after later p.flight put lasting l)
      (let other : (t : ℕ) → times t x.own ≡ 0 → t ≢ o.thread = λ t no e. let y = times_at x.own 0 o refl in let y' : times t x.own ≡ times o.thread x.own = ap (λ y. times y x.own) e in omega arith in record {
        flights = λ t ht no. l.beside (t - 1) (apart_places t ht (other t no));
        lasting = λ t ht no. rw (ne_eqb t o.thread (other t no)) refl;
        logged = λ t ht no. rw (ne_eqb t o.thread (other t no)) refl;
      })
      (rw (get_or-set_other s.words i 0 n 0 (λ e. omega (arith, e, from))) (counted_same m (get_or s.words 0 0) s.views id x w at refl k.counted))
      same
      fine

  -- a single step of the theory leaves this
  pub left_by : (now : List ℕ) (gs : List Flight) (f : Flight) (done : List Entry) (put : ℕ) (lasting : List Known) (v : Moves m (hidden s.words) now k.underway.flights gs stands.state stands.stands (actor_of o z.lasting) f done put lasting) → LeftBy now gs v.stepped.after v.stepped.later f put lasting
  left_by now gs f done put lasting v = record {
    count = step-long m (hidden s.words) k.underway.flights (o.thread - 1) now gs done put v.step;
    flight = v.flight;
    thread = v.stepped.flights.thread;
    beside = v.stepped.flights.beside;
    knows = v.knows;
    others = λ j known lj ne was. knows-step m (hidden s.words) k.underway.flights (o.thread - 1) stands.state stands.stands j known now gs done put v.step v.stepped (at_place o.thread mine.thread) lj ne was;
    buffers = v.stepped.buffers;
    logged = v.stepped.logged;
  }

  -- the thread without more entries
  pub mine_flying : (f : Flight) (loads : List Known) (put : ℕ) → Mine m k.history (flying o f loads put)
  mine_flying f loads put = record { thread = mine.thread; calls = mine.calls; has = mine.has; knows = mine.knows; goes_on = mine.goes_on }

  -- ---- steps without an entry

  pub still_leaves : (now : List ℕ) (gs : List Flight) (f : Flight) (put : ℕ) (lasting : List Known) (v : Moves m (hidden s.words) now k.underway.flights gs stands.state stands.stands (actor_of o z.lasting) f [] put lasting) → spaces standard_limits m.threads k.history v.stepped.after
  still_leaves now gs f put lasting v = subst (spaces standard_limits m.threads k.history) (sym v.stepped.turns) stands.leaves

  pub still_differs : (now : List ℕ) (gs : List Flight) (f : Flight) (loads : List Known) (count put : ℕ) (lasting : List Known) (v : Moves m (hidden s.words) now k.underway.flights gs stands.state stands.stands (actor_of o z.lasting) f [] put lasting) → DiffersOnly m (actor_of (flying o f loads count) lasting)
  still_differs now gs f loads count put lasting v = subst (λ x. DiffersOnly m (record { thread = o.thread; told = x; flight = f; lasting = lasting })) (mine.has v.stepped.after (still_leaves now gs f put lasting v)) v.differs

  pub still_keeps : (i n : ℕ) (cs : List (ℕ × Unit {0})) → 1 ≤ i → (now : List ℕ) → hidden (set s.words i n) ≡ now → (gs : List Flight) (f : Flight) (loads : List Known) (count put : ℕ) (lasting : List Known) → o.put + put ≤ count
      → Moves m (hidden s.words) now k.underway.flights gs stands.state stands.stands (actor_of o z.lasting) f [] put lasting → OneHistory m (stepped s i n id cs (after_step m z (flying o f loads count) lasting) keeps)
  still_keeps i n cs from now same gs f loads count put lasting few v =
      let l = left_by now gs f [] put lasting v in
      kept_after i n cs from now same gs v.stepped.after v.stepped.later (flying o f loads count) put lasting k.history refl few l (still_differs now gs f loads count put lasting v) (λ q apart x. x) (mine_flying f loads count)
      (stands_after now gs v.stepped.after v.stepped.later f put lasting k.history stands.lawful (still_leaves now gs f put lasting v)
      (λ asked. packed-kept m (hidden s.words) now k.underway.flights gs (o.thread - 1) put stands.state stands.stands v.stepped Control (stands.packed asked)) l)

  -- what the thread knows after it
  acting_after : (now : List ℕ) (gs : List Flight) (after : SpaceState) (later : StandInFlight m now gs after) (f : Flight) (loads : List Known) (count put : ℕ) (lasting : List Known) → spaces standard_limits m.threads k.history after → LeftBy now gs after later f put lasting → DiffersOnly m (actor_of (flying o f loads count) lasting)
      → Acts m now gs after later (actor_of (flying o f loads count) lasting)
  acting_after now gs after later f loads count put lasting leaves l differs = record {
    thread = mine.thread;
    count = l.count ∙ k.by_thread.count;
    numbered = l.thread ∙ k.by_thread.threads o.thread mine.thread;
    flight = l.flight;
    told = mine.has after leaves;
    knows = l.knows;
    differs = differs;
  }

  pub so_after : (now : List ℕ) (gs : List Flight) (after : SpaceState) (later : StandInFlight m now gs after) (f : Flight) (loads : List Known) (count put : ℕ) (lasting : List Known) → spaces standard_limits m.threads k.history after → LeftBy now gs after later f put lasting → DiffersOnly m (actor_of (flying o f loads count) lasting)
      → IsSo (after_step m z (flying o f loads count) lasting)
  so_after now gs after later f loads count put lasting leaves l differs = record {
    history = k.history;
    state = after;
    lawful = stands.lawful;
    leaves = leaves;
    mine = each (Mine m k.history) (flying o f loads count) (mine_flying f loads count);
    sees = sees m now gs after later (actor_of (flying o f loads count) lasting) (acting_after now gs after later f loads count put lasting leaves l differs);
  }

  pub few_after : (now : List ℕ) (gs : List Flight) (after : SpaceState) (later : StandInFlight m now gs after) (f : Flight) (loads : List Known) (count put : ℕ) (lasting : List Known) → spaces standard_limits m.threads k.history after → LeftBy now gs after later f put lasting → DiffersOnly m (actor_of (flying o f loads count) lasting)
      → o.put + put ≤ count → (n : ℕ) → Shows (actor_of (flying o f loads count) lasting) (logged_at m o.thread) n → n ≤ count
  few_after now gs after later f loads count put lasting leaves l differs few n shows =
      let a : Actor = actor_of (flying o f loads count) lasting in
      let by = acting_after now gs after later f loads count put lasting leaves l differs in
      let e = shows-word m now gs after later a by (logged_at m o.thread) n (own-in_block m now gs after later a by (logged_at m o.thread) (omega arith) (omega arith)) shows in
      let own : (flight_at k.underway.flights (o.thread - 1)).thread ≡ o.thread = k.by_thread.threads o.thread mine.thread in
      omega (arith, e, buffer_of-length_word m (laid_all gs now) o.thread mine.thread (sound_under m now gs after later.fit later.stands), few, call.few, stands.counted o.thread mine.thread, l.logged, ap (λ x. length (buffer_of (whole m now gs) x)) own, ap (λ x. length (buffer_of (whole m (hidden s.words) k.underway.flights) x)) own)

  -- ---- steps with an entry

  abbrev pub Event_moves : (now : List ℕ) (gs : List Flight) → Call → Reply → Flight → List Known → Type 0
  Event_moves now gs asked said f lasting = Moves m (hidden s.words) now k.underway.flights gs stands.state stands.stands (actor_of o z.lasting) f (Said o.thread asked said ∷ []) 0 lasting

  told_leaves : (now : List ℕ) (gs : List Flight) (asked : Call) (said : Reply) (f : Flight) (lasting : List Known) (v : Event_moves now gs asked said f lasting) → spaces standard_limits m.threads (k.history ++ Said o.thread asked said ∷ []) v.stepped.after
  told_leaves now gs asked said f lasting v = turns_more (opening_spaces standard_limits m.threads) stands.state v.stepped.after k.history (Said o.thread asked said ∷ []) stands.leaves v.stepped.turns

  told_plain : (now : List ℕ) (gs : List Flight) (asked : Call) (said : Reply) (f : Flight) (lasting : List Known) → Event_moves now gs asked said f lasting → IsPlainEntry (Said o.thread asked said)
  told_plain now gs asked said f lasting v = All-head IsPlainEntry (Said o.thread asked said) [] (step-plain m (hidden s.words) k.underway.flights (o.thread - 1) now gs (Said o.thread asked said ∷ []) 0 v.step)

  pub told_lawful : (now : List ℕ) (gs : List Flight) (asked : Call) (said : Reply) (f : Flight) (lasting : List Known) → Event_moves now gs asked said f lasting → IsLawful standard_limits m.threads m.pages (k.history ++ Said o.thread asked said ∷ [])
  told_lawful now gs asked said f lasting v =
      let start = opening_spaces standard_limits m.threads in
      let leaves = told_leaves now gs asked said f lasting v in
      let agreed = machines_agree standard_limits m.threads (k.history ++ Said o.thread asked said ∷ []) v.stepped.after leaves in
      record {
        legal = (agreed.0, agreed.1);
        defined = (v.stepped.after, leaves);
        entries = lawful_more states_unique m.pages start stands.state k.history (Said o.thread asked said ∷ []) stands.leaves stands.lawful.entries
            (plain-lawful m.pages k.history [] stands.state (Said o.thread asked said) (told_plain now gs asked said f lasting v), λ mid turned. tt);
      }

  -- the event, and what the thread then knows alone
  abbrev pub event_of : Call → Reply → Event
  event_of asked said = record { call = asked; reply = said; collected = false }

  abbrev pub becomes_by : (now : List ℕ) (gs : List Flight) (asked : Call) (said : Reply) (f : Flight) (lasting : List Known) → Event_moves now gs asked said f lasting → (known : KnownObjects) × BecomesKnown standard_limits m.threads k.history o.thread o.known (Said o.thread asked said) known
  becomes_by now gs asked said f lasting v = becomes_known standard_limits m.threads k.history o.thread (event_of asked said) (told_lawful now gs asked said f lasting v).legal o.thread o.known

  -- the thread after it
  abbrev pub teller : (now : List ℕ) (gs : List Flight) (asked : Call) (said : Reply) (f : Flight) (lasting loads : List Known) → Event_moves now gs asked said f lasting → Own
  teller now gs asked said f lasting loads v =
      flying (with_entries o (Said o.thread asked said ∷ []) (thread_of v.stepped.after.graph o.thread) (becomes_by now gs asked said f lasting v).0 (k.history ++ Said o.thread asked said ∷ [])) f loads o.put

  told_mine : (now : List ℕ) (gs : List Flight) (asked : Call) (said : Reply) (f : Flight) (lasting loads : List Known) (v : Event_moves now gs asked said f lasting) → Mine m (k.history ++ Said o.thread asked said ∷ []) (teller now gs asked said f lasting loads v)
  told_mine now gs asked said f lasting loads v =
      let made = becomes_by now gs asked said f lasting v in
      let one = mine_own m k.history o.thread (event_of asked said) o v.stepped.after made.0 refl (told_lawful now gs asked said f lasting v).legal made.1 (told_leaves now gs asked said f lasting v) mine in
      record { thread = one.thread; calls = one.calls; has = one.has; knows = one.knows; goes_on = one.goes_on }

  pub told_keeps : (i n : ℕ) (cs : List (ℕ × Unit {0})) → 1 ≤ i → (now : List ℕ) → hidden (set s.words i n) ≡ now → (gs : List Flight) (asked : Call) (said : Reply) (f : Flight) (lasting loads : List Known) (v : Event_moves now gs asked said f lasting)
      → OneHistory m (stepped s i n id cs (after_step m z (teller now gs asked said f lasting loads v) lasting) keeps)
  told_keeps i n cs from now same gs asked said f lasting loads v =
      let history = k.history ++ Said o.thread asked said ∷ [] in
      let lawful = told_lawful now gs asked said f lasting v in
      let l = left_by now gs f (Said o.thread asked said ∷ []) 0 lasting v in
      kept_after i n cs from now same gs v.stepped.after v.stepped.later (teller now gs asked said f lasting loads v) 0 lasting history refl (omega arith) l v.differs
      (λ q apart. mine_others m k.history o.thread (event_of asked said) q mine.thread.0 apart lawful.legal)
      (told_mine now gs asked said f lasting loads v)
      (stands_after now gs v.stepped.after v.stepped.later f 0 lasting history lawful (told_leaves now gs asked said f lasting v)
      (λ asks. absurd (plain-last k.history (Said o.thread asked said) (told_plain now gs asked said f lasting v) asks)) l)

  pub told_says : (now : List ℕ) (gs : List Flight) (asked : Call) (said : Reply) (f : Flight) (lasting loads : List Known) (v : Event_moves now gs asked said f lasting)
      → Tells (plain m o z) (event_of asked said) f lasting loads (after_step m z (teller now gs asked said f lasting loads v) lasting)
  told_says now gs asked said f lasting loads v =
      let made = becomes_by now gs asked said f lasting v in
      let p = teller now gs asked said f lasting loads v in
      let history = k.history ++ Said o.thread asked said ∷ [] in
      record {
        own = p ∷ [];
        says = record {
          has = thread_of v.stepped.after.graph o.thread;
          known = made.0;
          history = k.history;
          before = stands.state;
          lawful = told_lawful now gs asked said f lasting v;
          leaves = stands.leaves;
          was = (k.fits id (plain m o z) at).mine;
          becomes = made.1;
          own_is = refl;
          mine = each (Mine m history) p (told_mine now gs asked said f lasting loads v);
        };
        sees = sees m (hidden s.words) k.underway.flights stands.state stands.stands (actor_of o z.lasting) acting;
        view = refl;
      }

  -- and what the thread has then
  pub told_shows : (now : List ℕ) (gs : List Flight) (asked : Call) (said : Reply) (f : Flight) (lasting loads : List Known) (v : Event_moves now gs asked said f lasting)
      → (t : Tells (plain m o z) (event_of asked said) f lasting loads (after_step m z (teller now gs asked said f lasting loads v) lasting)) × (t.says.has ≡ thread_of v.stepped.after.graph o.thread)
  unfolding told_says
  told_shows now gs asked said f lasting loads v = (told_says now gs asked said f lasting loads v, refl)

  -- a load that leaves all as it was
  pub unmoved : (f : Flight) (lasting : List Known) → flight_at k.underway.flights (o.thread - 1) ≡ f → knowing.Knows m (hidden s.words) k.underway.flights stands.state stands.stands (o.thread - 1) lasting → LeftBy (hidden s.words) k.underway.flights stands.state stands.stands f 0 lasting
  unmoved f lasting flight knows = record {
    count = refl;
    flight = flight;
    thread = refl;
    beside = λ j ne. refl;
    knows = knows;
    others = λ j known lj ne was. was;
    buffers = λ j lj ne. refl;
    logged = omega arith;
  }
