-- Steps of a thread between two of its calls, and calls by whichever way.
use Rattle.std.proofs.Common.{◌≡◌, ◌≢◌, ℕ, ◌≤◌, List, [], ◌∷◌, ◌++◌, Bool, true, false, true≢false, length, refl, sym, ap, ◌∙◌, subst, arith, Option, Some, None, MatchOption, inl, inr}
use Rattle.object_layout.specs.declared.calls.Call.{Call}
use Rattle.object_layout.specs.declared.calls.Call.TheVariants as call
use Rattle.object_layout.specs.declared.calls.Event.{Event}
use Rattle.object_layout.specs.declared.replies.Census.{Census}
use Rattle.object_layout.specs.declared.replies.Reply.{Reply}
use Rattle.object_layout.specs.declared.replies.Reply.TheVariants as reply
use Rattle.heap_words.specs.declared.TheConstants.{MAX_DEPTH}
use Rattle.heap_words.specs.declared.map.Areas.{Areas}
use Rattle.heap_words.specs.Contents.{Contents, contents}
use Rattle.yak_model.specs.Continued.{entries_told}
use Rattle.yak_model.specs.Graph.{Does, Graph, Thread, answers, refusal_of, shown, slot_of, standard_limits}
use Rattle.yak_model.specs.Lawful.{IsLawful}
use Rattle.yak_model.specs.Private.{BecomesKnown, KnownObjects}
use Rattle.yak_model.specs.Spaces.{SpaceState, spaces}
use Rattle.yak_model.specs.Standing.{IsCollecting, MayCollect}
use Rattle.yak_model.specs.Stands.{Stands}
use Rattle.yak_model.specs.declared.datum.Datum.{Datum}
use Rattle.yak_model.specs.declared.datum.Datum.TheVariants as datum
use Rattle.yak_model.specs.declared.history.Entry.{Entry}
use Rattle.yak_model.specs.declared.history.Entry.TheVariants.{Said}
use Rattle.yak_model.proofs.Lasting.{around}
use Rattle.calls_in_flight.specs.declared.notes.Flight.{Flight}
use Rattle.calls_in_flight.specs.declared.notes.Known.{Known}
use Rattle.calls_in_flight.specs.Actors.{Actor, Shows}
use Rattle.calls_in_flight.specs.Flight.{at_rest}
use Rattle.calls_in_flight.specs.Steps.{depth_at}
use Rattle.heap_core.specs.declared.owned.Stepped.{Stepped}
use Rattle.heap_core.specs.Done.{CollectsWhere, FillsHeap, StepRoom, TellsFull}
use Rattle.heap_core.specs.Steps.{plain}
use Rattle.heap_core.proofs.Filling.{new-or-other, not-full}
use Rattle.safepoint_gate.specs.declared.rule.Own.{Own}
use Rattle.safepoint_gate.specs.declared.seats.Inside as seat
use Rattle.std.specs.Prelude.{IsSome, IsTrue}
use Rattle.mutator.specs.Running.{view_in}
use Rattle.safepoint_gate.specs.declared.rule.Place.TheVariants.{Inside}
use Rattle.safepoint_gate.specs.declared.rule.View.{View}
use Rattle.safepoint_gate.specs.Rule.{AllMine}
use Rattle.safepoint_gate.specs.Singles.{IsQuiet, Loaded, Says, actor, actor_in, loads_in, loads_of, put_in, put_of, with_call}
use Rattle.safepoint_gate.specs.Steps.{first_known, first_thread, flushed, told}
use Rattle.barriers.specs.Barred.{OnlyLoads}
use Rattle.mutator.specs.Calls.{FlushesBuffers, Makes, MakesCall}
use Rattle.mutator.specs.Quick.{Answered, Answers, AnswersOrCollects, AnswersStore, at_once, closed, told_by}
use Rattle.mutator.specs.Callers.{first_told}
use Rattle.mutator.proofs.Answering.{actor_moved, call_again, mine_back, thread_in, thread_kept}
use Rattle.mutator.proofs.Looking.{loaded_is, shows_loaded}
use Rattle.mutator.proofs.Stepped.{entries_same, event_of}

-- ---- what a thread has between its calls

-- The thread of the view u is that of v, with the same entries, and it is inside. It may have made other loads and have put other
-- entries into its store buffer, and may have other things in flight.
pub record Meanwhile (v u : View) : Type 0 where
  pub flight : Flight
  pub loads : List Known
  pub put : ℕ
  pub map_is : u.map ≡ v.map
  pub own_is : u.own ≡ with_call v.own flight loads put
  pub place_is : u.place ≡ Inside

own_itself : (own : List Own) (lasting : List Known) → own ≡ with_call own (actor_in own lasting).flight (loads_in own) (put_in own)
own_itself [] lasting = refl
own_itself (o ∷ own) lasting = refl

pub meanwhile_none : (v : View) → v.place ≡ Inside → Meanwhile v v
meanwhile_none v place = record {
  flight = (actor v).flight;
  loads = loads_of v;
  put = put_of v;
  map_is = refl;
  own_is = own_itself v.own v.lasting;
  place_is = place;
}

flushed_again : (own : List Own) (f : Flight) (k : List Known) (p : ℕ) → flushed (with_call own f k p) ≡ with_call own f k 0
flushed_again [] f k p = refl
flushed_again (o ∷ own) f k p = refl

-- words were loaded
pub meanwhile_loads : (v u w : View) (more lasting : List Known) → Meanwhile v u → OnlyLoads u more lasting w → Meanwhile v w
meanwhile_loads v u w more lasting h only = record {
  flight = (actor u).flight;
  loads = loads_of u ++ more;
  put = put_of u;
  map_is = ap (λ (x : View). x.map) only ∙ h.map_is;
  own_is = ap (λ (x : View). x.own) only ∙ (ap (λ (own : List Own). with_call own (actor u).flight (loads_of u ++ more) (put_of u)) h.own_is ∙ call_again v.own h.flight (actor u).flight h.loads (loads_of u ++ more) h.put (put_of u));
  place_is = ap (λ (x : View). x.place) only ∙ h.place_is;
}

-- the buffers were filed
pub meanwhile_flushes : (v u w : View) → Meanwhile v u → FlushesBuffers u w → Meanwhile v w
meanwhile_flushes v u w h filed = record {
  flight = h.flight;
  loads = h.loads;
  put = 0;
  map_is = filed.map_is ∙ h.map_is;
  own_is = filed.own ∙ (ap flushed h.own_is ∙ flushed_again v.own h.flight h.loads h.put);
  place_is = filed.place_is;
}

-- ---- what a call says

-- a view with this map and these threads
abbrev seen : Areas → List Own → View
seen m own = record { map = m; own = own; place = Inside; lasting = []; words = []; closing = []; history = [] }

says_seen : (v : View) (event : Event) (f : Flight) (loads : List Known) (put : ℕ) (now : List Own) → Says v event f loads put now → Says (seen v.map v.own) event f loads put now
says_seen v event f loads put now h = record {
  has = h.has;
  known = h.known;
  history = h.history;
  before = h.before;
  lawful = h.lawful;
  leaves = h.leaves;
  was = h.was;
  becomes = h.becomes;
  own_is = h.own_is;
  mine = h.mine;
}

says_before : (v : View) (own : List Own) (g : Flight) (k : List Known) (p : ℕ) (event : Event) (f : Flight) (loads : List Known) (put : ℕ) (now : List Own) → v.own ≡ own → Says (seen v.map (with_call own g k p)) event f loads put now → Says (seen v.map own) event f loads put now
says_before v [] g k p event f loads put now is h = h
says_before v (o ∷ own) g k p event f loads put now is h = record {
  has = h.has;
  known = h.known;
  history = h.history;
  before = h.before;
  lawful = h.lawful;
  leaves = h.leaves;
  was = mine_back v.map h.history (o ∷ own) g k p h.was;
  becomes = h.becomes;
  own_is = h.own_is;
  mine = h.mine;
}

says_out : (v : View) (event : Event) (f : Flight) (loads : List Known) (put : ℕ) (now : List Own) → Says (seen v.map v.own) event f loads put now → Says v event f loads put now
says_out v event f loads put now h = record {
  has = h.has;
  known = h.known;
  history = h.history;
  before = h.before;
  lawful = h.lawful;
  leaves = h.leaves;
  was = h.was;
  becomes = h.becomes;
  own_is = h.own_is;
  mine = h.mine;
}

-- the thread had what it has for the call before
says_since : (v u : View) (event : Event) (f : Flight) (loads : List Known) (put : ℕ) (now : List Own) → Meanwhile v u → Says u event f loads put now → Says v event f loads put now
says_since v u event f loads put now h says =
    says_out v event f loads put now
    (says_before v v.own h.flight h.loads h.put event f loads put now refl
    (subst (λ (x : Areas × List Own). Says (seen x.0 x.1) event f loads put now) (λ i. (h.map_is i, h.own_is i)) (says_seen u event f loads put now says)))

thread_since : (v u : View) → Meanwhile v u → first_thread u.own ≡ first_thread v.own
thread_since v u h = ap first_thread h.own_is ∙ thread_kept v.own h.flight h.loads h.put

pub makes_since : (v u w : View) (asked : Call) (said : Stepped) → Meanwhile v u → Makes u asked said w → Makes v asked said w
makes_since v u w asked said h makes = record {
  loads = makes.loads;
  put = makes.put;
  says = says_since v u (event_of asked said) (at_rest (first_thread v.own)) makes.loads makes.put w.own h
      (subst (λ (t : ℕ). Says u (event_of asked said) (at_rest t) makes.loads makes.put w.own) (thread_since v u h) makes.says);
  map_is = makes.map_is ∙ h.map_is;
  place_is = makes.place_is;
  may = makes.may;
  full = makes.full;
}

-- ---- calls that wait for nobody

shown_full : (g : Graph) (d : Datum) → reply.OutOfHeap ≡ shown g d → ⊥
shown_full g datum.Null e = cc
shown_full g (datum.Int i) e = cc
shown_full g (datum.Object n) e = cc

does_full : (g : Graph) (t : ℕ) (asked : Call) (h : Graph) → ((k : ℕ) → asked ≢ call.New k) → Does g t asked reply.OutOfHeap h → ⊥
does_full g t (call.Int i) h other d = let e = d.0 in cc
does_full g t call.Null h other d = let e = d.0 in cc
does_full g t (call.Dup s) h other d = let e = d.0 in cc
does_full g t call.Pop h other d = let e = d.0 in cc
does_full g t (call.New k) h other d = other k refl
does_full g t (call.Load s f) h other d = let e = d.0 in cc
does_full g t (call.Store s f x) h other d = let e = d.0 in cc
does_full g t (call.Get s) h other d = shown_full g (slot_of g t s) d.0
does_full g t (call.Same s x) h other d = elim d.0 [
  | inl same ↦ let e = same.0 in cc
  | inr other ↦ let e = other.0 in cc
]
does_full g t call.Begin h other d = let e = d.0 in cc
does_full g t call.End h other d = let e = d.0.2 in cc
does_full g t call.Collect h other d = let e = d.0 in cc
does_full g t call.Census h other d = let e = d.0.3 in cc

answers_full : (g : Graph) (t : ℕ) (asked : Call) (h : Graph) → ((k : ℕ) → asked ≢ call.New k) → answers g t asked reply.OutOfHeap h → ⊥
answers_full g t asked h other answer =
    elim (refusal_of g t asked) as (λ o. MatchOption o (Does g t asked reply.OutOfHeap h) (λ why. (reply.OutOfHeap ≡ reply.Refused why) × (h ≡ g)) → ⊥) [
      | None ↦ λ d. does_full g t asked h other d
      | Some why ↦ λ r. let e = r.0 in cc
    ] answer

-- no call but one for an object finds the heap full
says_not_full : (v : View) (asked : Call) (said : Reply) (f : Flight) (loads : List Known) (put : ℕ) (now : List Own) → ((k : ℕ) → asked ≢ call.New k) → Says v (told_by asked said) f loads put now → said ≢ reply.OutOfHeap
says_not_full v asked said f loads put now other says e =
    let turn = around standard_limits v.map.threads says.history (first_thread v.own) (told_by asked said) says.lawful.legal in
    answers_full turn.0 (first_thread v.own) asked turn.1 other (subst (λ r. answers turn.0 (first_thread v.own) asked r turn.1) e turn.3.1)

makes_quick : (v w : View) (asked : Call) (said : Reply) (more : List Known) → v.place ≡ Inside → said ≢ reply.OutOfHeap → Answers v asked said more w → Makes v asked (plain said) w
makes_quick v w asked said more place not_full a = record {
  loads = loads_of v ++ more;
  put = a.put;
  says = a.says;
  map_is = ap (λ (x : View). x.map) a.view;
  place_is = ap (λ (x : View). x.place) a.view ∙ place;
  may = record { only = λ e. absurd (true≢false (sym e)); full = λ full. absurd (not_full full) };
  full = not_full;
}

pub makes_answered : (v w : View) (asked : Call) (said : Reply) → v.place ≡ Inside → ((k : ℕ) → asked ≢ call.New k) → Answered v asked said w → Makes v asked (plain said) w
makes_answered v w asked said place other a =
    makes_quick v w asked said a.0 place (says_not_full v asked said (at_rest (first_thread v.own)) (loads_of v ++ a.0) a.1.put w.own other a.1.says) a.1

pub makes_stored : (v w : View) (s f x : ℕ) (said : Reply) → v.place ≡ Inside → AnswersStore v (call.Store s f x) said w → Makes v (call.Store s f x) (plain said) w
makes_stored v w s f x said place a = makes_answered v w (call.Store s f x) said place (λ k e. cc) (a.more, a.answers)

-- ---- calls behind the closed gate

-- a call that collected before it answered made an object, had no room for one, or ended an epoch
collecting : (m : Areas) (was : Contents) (s : SpaceState) (h : Stands m was s) (t : ℕ) (asked : Call) (said : Reply) → CollectsWhere m was s h t asked said true → (g later : Graph) → answers g t asked said later → IsCollecting asked said
collecting m was s h t (call.New k) said where_ g later answer =
    elim (refusal_of g t (call.New k)) as (λ o. MatchOption o (Does g t (call.New k) said later) (λ why. (said ≡ reply.Refused why) × (later ≡ g)) → IsCollecting (call.New k) said) [
      | None ↦ λ d. elim d [ inl made ↦ inl made.0 | inr full ↦ inr full.0 ]
      | Some why ↦ λ r. absurd (true≢false (subst (λ (x : Reply). CollectsWhere m was s h t (call.New k) x true) r.0 where_))
    ] answer
collecting m was s h t call.End said where_ g later answer =
    elim (refusal_of g t call.End) as (λ o. MatchOption o (Does g t call.End said later) (λ why. (said ≡ reply.Refused why) × (later ≡ g)) → IsCollecting call.End said) [
      | None ↦ λ d. d.0
      | Some why ↦ λ r. absurd (true≢false (subst (λ (x : Reply). CollectsWhere m was s h t call.End x true) r.0 where_))
    ] answer
collecting m was s h t (call.Int i) said where_ g later answer = absurd (true≢false where_)
collecting m was s h t call.Null said where_ g later answer = absurd (true≢false where_)
collecting m was s h t (call.Dup i) said where_ g later answer = absurd (true≢false where_)
collecting m was s h t call.Pop said where_ g later answer = absurd (true≢false where_)
collecting m was s h t (call.Load i f) said where_ g later answer = absurd (true≢false where_)
collecting m was s h t (call.Store i f x) said where_ g later answer = absurd (true≢false where_)
collecting m was s h t (call.Get i) said where_ g later answer = absurd (true≢false where_)
collecting m was s h t (call.Same i x) said where_ g later answer = absurd (true≢false where_)
collecting m was s h t call.Begin said where_ g later answer = absurd (true≢false where_)
collecting m was s h t call.Collect said where_ g later answer = absurd (true≢false where_)
collecting m was s h t call.Census said where_ g later answer = absurd (true≢false where_)

-- a collection was made where the heap had no room
collected_first : (m : Areas) (was now : Contents) (s : SpaceState) (h : Stands m was s) (t k : ℕ) (collected : Bool) → CollectsWhere m was s h t (call.New k) reply.OutOfHeap collected → StepRoom m was now t (call.New k) reply.OutOfHeap collected → IsTrue collected
collected_first m was now s h t k collected where_ room = where_.1 room.short

pub may_collect : (m : Areas) (was now : Contents) (s : SpaceState) (h : Stands m was s) (t : ℕ) (asked : Call) (said : Reply) (collected : Bool) → CollectsWhere m was s h t asked said collected → StepRoom m was now t asked said collected
    → (said ≡ reply.OutOfHeap → (k : ℕ) × (asked ≡ call.New k)) → (g later : Graph) → answers g t asked said later → MayCollect collected asked said
may_collect m was now s h t asked said collected where_ room new g later answer = record {
  only = λ e. collecting m was s h t asked said (subst (λ b. CollectsWhere m was s h t asked said b) e where_) g later answer;
  full = λ e.
      let n = new e in
      collected_first m was now s h t n.0 collected
      (subst (λ (x : Call × Reply). CollectsWhere m was s h t x.0 x.1 collected) (λ i. (n.1 i, e i)) where_)
      (subst (λ (x : Call × Reply). StepRoom m was now t x.0 x.1 collected) (λ i. (n.1 i, e i)) room);
}

-- no page is free where the counts are told
tells_free : (now : Contents) (asked : Call) (said : Reply) (full : Option Census) → TellsFull now said full → (said ≡ reply.OutOfHeap → (k : ℕ) × (asked ≡ call.New k))
    → MatchOption full (said ≢ reply.OutOfHeap) (λ (counts : Census). (said ≡ reply.OutOfHeap) × (counts.free ≡ 0) × ((k : ℕ) × (asked ≡ call.New k)))
tells_free now asked said None h new = h
tells_free now asked said (Some counts) h new = (h.0, h.1.none_free, new h.0)

told_rests : (own : List Own) (lasting : List Known) (more : List Entry) (has : Thread) (known : KnownObjects) (past : List Entry) → (actor_in own lasting).flight ≡ at_rest (first_thread own)
    → told own more has known past ≡ with_call (told own more has known past) (at_rest (first_thread own)) (loads_in own) (put_in own)
told_rests [] lasting more has known past quiet = refl
told_rests (o ∷ own) lasting more has known past quiet = ap (λ (f : Flight). with_call (told (o ∷ own) more has known past) f o.loads o.put) quiet

pub makes_closed : (v w : View) (asked : Call) (said : Stepped) → IsQuiet v → MakesCall v w asked said → Makes v asked said w
makes_closed v w asked said quiet h =
    let t : ℕ = first_thread v.own in
    let same = entries_same t asked said in
    let s = h.closing.state in
    let stands = h.closing.stands in
    let lawful = subst (λ (x : Areas × List Entry). IsLawful standard_limits x.0.threads x.0.pages (w.history ++ x.1)) (λ i. (h.map_is i, same i)) h.explains.lawful in
    let turn = around standard_limits v.map.threads w.history t (event_of asked said) lawful.legal in
    record {
      loads = loads_of v;
      put = put_of v;
      says = record {
        has = h.has;
        known = h.known;
        history = w.history;
        before = s;
        lawful = lawful;
        leaves = subst (λ (m : Areas). spaces standard_limits m.threads w.history s) h.map_is h.closing.leaves;
        was = subst (λ (m : Areas). AllMine m w.history v.own) h.map_is h.was;
        becomes = subst (λ (m : Areas). BecomesKnown standard_limits m.threads w.history t (first_known v.own) (Said t asked said.reply) h.known) h.map_is h.becomes;
        own_is = h.own ∙ ((λ i. told v.own (same i) h.has h.known (w.history ++ same i)) ∙ told_rests v.own v.lasting (entries_told t (event_of asked said)) h.has h.known (w.history ++ entries_told t (event_of asked said)) quiet);
        mine = subst (λ (x : Areas × List Entry). AllMine x.0 (w.history ++ x.1) w.own) (λ i. (h.map_is i, same i)) h.mine;
      };
      map_is = h.map_is;
      place_is = h.place_is;
      may = may_collect w.map (contents w.map w.closing) (contents w.map w.words) s stands t asked said.reply said.collected (h.done.collected s stands h.closing.recorded) h.done.room (is_new (h.done.filled h.explains.state h.explains.stands)) turn.0 turn.1 turn.3.1;
      full = tells_free (contents w.map w.words) asked said.reply said.full h.done.full (is_new (h.done.filled h.explains.state h.explains.stands));
    }
  where
    is_new : FillsHeap w.map (contents w.map w.words) h.explains.state h.explains.stands (first_thread v.own) asked said.reply → said.reply ≡ reply.OutOfHeap → (k : ℕ) × (asked ≡ call.New k)
    is_new fills full = elim (new-or-other asked) [
      | inl new ↦ new
      | inr other ↦ absurd (not-full w.map (contents w.map w.words) h.explains.state h.explains.stands (first_thread v.own) asked other (subst (FillsHeap w.map (contents w.map w.words) h.explains.state h.explains.stands (first_thread v.own) asked) full fills))
    ]

-- ---- a new object, made at once or behind the closed gate

pub quiet_loads : (v u : View) (more lasting : List Known) → length v.own ≡ 1 → OnlyLoads v more lasting u → IsQuiet v → IsQuiet u
quiet_loads v u more lasting single only quiet =
    let same = actor_moved v u (actor v).flight lasting (loads_of v ++ more) (put_of v) single only in
    ap (λ a. a.flight) same ∙ quiet ∙ ap at_rest (sym (ap (λ (x : View). first_thread x.own) only ∙ thread_kept v.own (actor v).flight (loads_of v ++ more) (put_of v)))

pub makes_new : (v w : View) (k : ℕ) (said : Stepped) → length v.own ≡ 1 → v.place ≡ Inside → IsQuiet v → AnswersOrCollects v k said w → Makes v (call.New k) said w
makes_new v w k said single place quiet (at_once a is) = subst (λ (x : Stepped). Makes v (call.New k) x w) (sym is) (makes_quick v w (call.New k) said.reply a.more place a.not_full a.answers)
makes_new v w k said single place quiet (closed u none h) =
    makes_since v u w (call.New k) said (meanwhile_loads v v u none.more none.lasting (meanwhile_none v place) none.view)
    (makes_closed u w (call.New k) said (quiet_loads v u none.more none.lasting single none.view quiet) h)

-- after such a call nothing is in flight
pub makes_quiet : (v w : View) (asked : Call) (said : Stepped) → length v.own ≡ 1 → Makes v asked said w → IsQuiet w
makes_quiet v w asked said single h = rests v.own (entries_told (first_thread v.own) (event_of asked said)) single h.says.own_is
  where
    rests : (own : List Own) (more : List Entry) → length own ≡ 1 → w.own ≡ with_call (told own more h.says.has h.says.known (h.says.history ++ more)) (at_rest (first_thread own)) h.loads h.put → IsQuiet w
    rests [] more one is = absurd (omega arith)
    rests (o ∷ own) more one is = subst (λ (l : List Own). (actor_in l w.lasting).flight ≡ at_rest (first_thread l)) (sym is) refl

-- ---- the depth

told_by_own : (own : List Own) (lasting : List Known) → (actor_in own lasting).told ≡ first_told own
told_by_own [] lasting = refl
told_by_own (o ∷ own) lasting = refl

-- as it was loaded
pub depth_loaded : (v w : View) (n : ℕ) → length v.own ≡ 1 → IsQuiet v → Loaded v (depth_at v.map (first_thread v.own)) None n w → (n ≡ (first_told v.own).depth) × (n ≤ MAX_DEPTH)
depth_loaded v w n single quiet loaded =
    let here : Loaded v (depth_at v.map (actor v).thread) None n w = subst (λ (t : ℕ). Loaded v (depth_at v.map t) None n w) (thread_in v) loaded in
    let same = loaded_is v w (depth_at v.map (actor v).thread) n single here in
    let map : w.map ≡ v.map = ap (λ (x : View). x.map) here.0 in
    let shows : Shows (actor w) (depth_at w.map (actor w).thread) n = subst (λ (p : ℕ). Shows (actor w) p n) (λ i. depth_at (sym map i) (sym (ap (λ (a : Actor). a.thread) same) i)) (shows_loaded v w (depth_at v.map (actor v).thread) n single quiet here) in
    let is : n ≡ (actor w).told.depth = here.1.so.sees.depth_is n shows in
    let few = here.1.so.sees.not_deep in
    (is ∙ ap (λ (a : Actor). a.told.depth) same ∙ ap (λ (t : Thread). t.depth) (told_by_own v.own v.lasting), omega (arith, is, few))

-- ---- mutators

-- the seat of a mutator that makes calls is inside
pub place_in : (inside : Option seat.Inside) → IsSome inside → (view_in inside).place ≡ Inside
place_in None some = absurd (true≢false (sym some))
place_in (Some inside) some = inside.inside

pub single_in : (inside : Option seat.Inside) → IsSome inside → length (view_in inside).own ≡ 1
single_in None some = absurd (true≢false (sym some))
single_in (Some inside) some = inside.single

-- ---- a call after the depth was loaded

-- words were loaded, and nothing else was done
abbrev pub Loads : View → View → Type 0
Loads v u = (more lasting : List Known) × OnlyLoads v more lasting u

pub told_made : (v u w : View) (given asked : Call) (said : Stepped) → Loads v u → v.place ≡ Inside → given ≡ asked → Makes u asked said w → Makes v given said w
told_made v u w given asked said before place is h =
    subst (λ (x : Call). Makes v x said w) (sym is) (makes_since v u w asked said (meanwhile_loads v v u before.0 before.1 (meanwhile_none v place) before.2) h)

pub told_answered : (v u w : View) (given asked : Call) (said : Reply) → Loads v u → v.place ≡ Inside → given ≡ asked → ((k : ℕ) → asked ≢ call.New k) → Answered u asked said w → Makes v given (plain said) w
told_answered v u w given asked said before place is other h =
    told_made v u w given asked (plain said) before place is (makes_answered u w asked said (meanwhile_loads v v u before.0 before.1 (meanwhile_none v place) before.2).place_is other h)
