-- A step of a core behind the closed gate.
use Rattle.std.proofs.Common.{◌≡◌, ℕ, List, [], ◌∷◌, ◌++◌, Bool, true, false, cond, refl, sym, ap, ◌∙◌, subst, Some}
use Rattle.heap_words.specs.declared.map.Areas.{Areas}
use Rattle.heap_words.specs.Contents.{Contents, contents, depth_of}
use Rattle.object_layout.specs.declared.calls.Call.{Call}
use Rattle.object_layout.specs.declared.calls.Event.{Event}
use Rattle.object_layout.specs.declared.replies.Reply.{Reply}
use Rattle.yak_model.specs.Continued.{AreLawful, Continues, Explains, TurnsTo, entries_told}
use Rattle.yak_model.specs.declared.history.Entry.{Entry}
use Rattle.yak_model.specs.declared.history.Entry.TheVariants.{Said, Collected}
use Rattle.yak_model.specs.Graph.{Thread, standard_limits}
use Rattle.yak_model.specs.Private.{BecomesKnown}
use Rattle.yak_model.specs.Recorded.{SomeRecorded}
use Rattle.yak_model.specs.Standing.{entries_of}
use Rattle.heap_core.specs.declared.owned.Stepped.{Stepped}
use Rattle.heap_core.specs.Done.{Done}
use Rattle.heap_core.specs.Steps.{entries}
use Rattle.heap_core.proofs.Threads.{thread-told}
use Rattle.safepoint_gate.specs.declared.rule.Own.{Own}
use Rattle.atomic_table.specs.Seated.{TableId}
use Rattle.safepoint_gate.specs.declared.closing.Closed.{Closed}
use Rattle.safepoint_gate.specs.declared.rule.Place.TheVariants.{Inside}
use Rattle.safepoint_gate.specs.declared.rule.View.{View}
use Rattle.safepoint_gate.specs.Rule.{AllMine, Mine}
use Rattle.safepoint_gate.specs.Steps.{IsClosing, KeepBuffers, MayOpen, OpenedWith, at_gate, first_known, first_thread, told, with_own, written}
use Rattle.mutator.specs.Calls.{IsClosedCall, MakesCall}
use Rattle.mutator.proofs.Buffers.{done_keeps}

-- the event of a step
abbrev pub event_of : Call → Stepped → Event
event_of asked said = record { call = asked; reply = said.reply; collected = said.collected }

entries_same_as : (collected : Bool) (t : ℕ) (asked : Call) (said : Reply) → cond collected (Collected t ∷ Said t asked said ∷ []) (Said t asked said ∷ []) ≡ entries_of collected t asked said
entries_same_as true t asked said = refl
entries_same_as false t asked said = refl

-- its entries
pub entries_same : (t : ℕ) (asked : Call) (said : Stepped) → entries t asked said ≡ entries_told t (event_of asked said)
entries_same t asked said = entries_same_as said.collected t asked said.reply

-- a step goes on with a history
pub continues : (m : Areas) (was now : Contents) (t : ℕ) (asked : Call) (said : Stepped) → Done m was now t asked said → Continues m was now t (event_of asked said)
continues m was now t asked said done = record {
  turns = λ s h r. subst (TurnsTo m was now s h) (entries_same t asked said) (done.turns s h r);
  lawful = λ s h r before packed. subst (AreLawful m.pages before s) (entries_same t asked said) (done.lawful s h r before packed);
  packed = done.packed;
}

-- words that a history explains stand for some state
pub some_recorded : (m : Areas) (c : Contents) (history : List Entry) → Explains m c history → SomeRecorded m c
some_recorded m c history known = ∣ (known.state, known.stands, known.recorded) ∣₁

-- the words of the closing are those that the seat has then
pub closing_words : (v c : View) → c ≡ at_gate v c.words c.history → c.closing ≡ c.words
closing_words v c is = ap (λ (x : View). x.closing) is

pub closing_explains : (v c : View) → c ≡ at_gate v c.words c.history → IsClosing c → Explains c.map (contents c.map c.words) c.history
closing_explains v c is known = subst (λ z. Explains c.map (contents c.map z) c.history) (closing_words v c is) known.explains

-- what a step on the words leaves of the view
pub stepped_view : (v c d : View) → c ≡ at_gate v c.words c.history → written d [] ≡ written c [] → d ≡ written (at_gate v c.words c.history) d.words
stepped_view v c d is same = ap (λ (x : View). written x d.words) same ∙ ap (λ (x : View). written x d.words) is

-- the words of a core changed, and nothing else of the view
pub view_same : (into now was closed : Closed) → into ≡ now → (t u : TableId) → ◌≡◌ {A = TableId × View} (t, written now.seat.me.0 []) (u, written was.seat.me.0 []) → was ≡ closed → written into.seat.me.0 [] ≡ written closed.seat.me.0 []
view_same into now was closed out t u base over =
    ap (λ (x : Closed). written x.seat.me.0 []) out ∙ (ap (λ (b : TableId × View). b.1) base ∙ ap (λ (x : Closed). written x.seat.me.0 []) over)

-- the depth that the words of the closing tell is what the thread has
pub depth_closed : (m : Areas) (c : Contents) (history : List Entry) (o : Own) → Explains m c history → Mine m history o → depth_of c o.thread ≡ o.depth
depth_closed m c history o known mine =
    ap (λ (x : Thread). x.depth) (thread-told m c known.state known.stands o.thread ∙ mine.has known.state known.leaves)

-- what a core did, over the words of the gate
pub done_closed : (into now was closed : Closed) (before after given : Areas) (u t : ℕ) (asked : Call) (said : Stepped) → into ≡ now → was.seat.me.0.words ≡ closed.seat.me.0.words → before ≡ given → after ≡ before → closed.seat.me.0.map ≡ given → u ≡ t
    → Done before (contents before was.seat.me.0.words) (contents after now.seat.me.0.words) u asked said
    → Done closed.seat.me.0.map (contents closed.seat.me.0.map closed.seat.me.0.words) (contents closed.seat.me.0.map into.seat.me.0.words) t asked said
done_closed into now was closed before after given u t asked said out over first then same thread done =
    let first' : before ≡ closed.seat.me.0.map = first ∙ sym same in
    let then' : after ≡ closed.seat.me.0.map = then ∙ first' in
    let now_words : now.seat.me.0.words ≡ into.seat.me.0.words = ap (λ (x : Closed). x.seat.me.0.words) (sym out) in
    subst (λ (y : Areas × Areas × List ℕ × List ℕ × ℕ). Done y.0 (contents y.0 y.2) (contents y.1 y.3) y.4 asked said)
    (λ i. (first' i, then' i, over i, now_words i, thread i)) done

-- the gate may be opened with the step
pub may_continue : (v c d : View) (asked : Call) (said : Stepped) → IsClosedCall asked → c ≡ at_gate v c.words c.history → IsClosing c → written d [] ≡ written c [] → Done c.map (contents c.map c.words) (contents c.map d.words) (first_thread v.own) asked said
    → MayOpen d (Some (event_of asked said))
may_continue v c d asked said closed is known same done =
    let map_same : c.map ≡ v.map = ap (λ (x : View). x.map) is in
    let step : Done v.map (contents v.map c.words) (contents v.map d.words) (first_thread v.own) asked said =
    subst (λ m. Done m (contents m c.words) (contents m d.words) (first_thread v.own) asked said) map_same done in
    let before : Explains v.map (contents v.map c.words) c.history = subst (λ m. Explains m (contents m c.words) c.history) map_same (closing_explains v c is known) in
    subst (λ (x : View). Continues x.map (contents x.map x.closing) (contents x.map d.words) (first_thread x.own) (event_of asked said) × KeepBuffers x.map (contents x.map x.closing) (contents x.map d.words)) (sym (stepped_view v c d is same)) (
      continues v.map (contents v.map c.words) (contents v.map d.words) (first_thread v.own) asked said step,
      done_keeps v.map (contents v.map c.words) (contents v.map d.words) c.history (first_thread v.own) asked said closed before step,
    )

-- the gate was closed, a step was made on the words, and the gate was opened with it
module _ (v c d w : View) (asked : Call) (said : Stepped) (is : c ≡ at_gate v c.words c.history) (known : IsClosing c) (same : written d [] ≡ written c []) (opened : OpenedWith d (event_of asked said) w)
    (done : Done c.map (contents c.map c.words) (contents c.map d.words) (first_thread v.own) asked said) where
  abbrev t : ℕ
  t = first_thread v.own

  abbrev more : List Entry
  more = entries_told t (event_of asked said)

  abbrev after : View
  after = with_own (written (at_gate v c.words c.history) d.words) Inside (told v.own more opened.has opened.known (c.history ++ more))

  after_is : w ≡ after
  after_is = opened.view ∙ ap (λ (x : View). with_own x Inside (told x.own (entries_told (first_thread x.own) (event_of asked said)) opened.has opened.known (x.history ++ entries_told (first_thread x.own) (event_of asked said)))) (stepped_view v c d is same)

  map_same : c.map ≡ v.map
  map_same = ap (λ (x : View). x.map) is

  pub makes_call : MakesCall v w asked said
  makes_call =
      let explains : Explains v.map (contents v.map d.words) (c.history ++ more) =
      subst (λ (x : View). Explains x.map (contents x.map d.words) (x.history ++ entries_told (first_thread x.own) (event_of asked said))) (stepped_view v c d is same) opened.explains in
      let mine : AllMine v.map (c.history ++ more) w.own =
      subst (λ (x : View). AllMine x.map (x.history ++ entries_told (first_thread x.own) (event_of asked said)) w.own) (stepped_view v c d is same) opened.mine in
      let becomes : BecomesKnown standard_limits v.map.threads c.history t (first_known v.own) (Said t asked said.reply) opened.known =
      subst (λ (x : View). BecomesKnown standard_limits x.map.threads x.history (first_thread x.own) (first_known x.own) (Said (first_thread x.own) asked said.reply) opened.known) (stepped_view v c d is same) opened.becomes in
      let before : Explains v.map (contents v.map c.words) c.history = subst (λ m. Explains m (contents m c.words) c.history) map_same (closing_explains v c is known) in
      let was : AllMine v.map c.history v.own = subst (λ (x : View). AllMine x.map c.history x.own) is known.mine in
      let step : Done v.map (contents v.map c.words) (contents v.map d.words) t asked said = subst (λ m. Done m (contents m c.words) (contents m d.words) t asked said) map_same done in
      record {
        has = opened.has;
        known = opened.known;
        map_is = ap (λ (x : View). x.map) after_is;
        place_is = ap (λ (x : View). x.place) after_is;
        own = ap (λ (x : View). x.own) after_is ∙ (λ i. told v.own (sym (entries_same t asked said) i) opened.has opened.known ((ap (λ (x : View). x.history) (sym after_is)) i ++ sym (entries_same t asked said) i));
        done = subst (λ (x : View). Done x.map (contents x.map x.closing) (contents x.map x.words) t asked said) (sym after_is) step;
        closing = subst (λ (x : View). Explains x.map (contents x.map x.closing) x.history) (sym after_is) before;
        was = subst (λ (x : View). AllMine x.map x.history v.own) (sym after_is) was;
        explains = subst (λ (x : View). Explains x.map (contents x.map x.words) (x.history ++ entries t asked said)) (sym after_is) (subst (λ l. Explains v.map (contents v.map d.words) (c.history ++ l)) (sym (entries_same t asked said)) explains);
        becomes = subst (λ (x : View). BecomesKnown standard_limits x.map.threads x.history t (first_known v.own) (Said t asked said.reply) opened.known) (sym after_is) becomes;
        mine = subst (λ (x : View). AllMine x.map (x.history ++ entries t asked said) w.own) (sym after_is) (subst (λ l. AllMine v.map (c.history ++ l) w.own) (sym (entries_same t asked said)) mine);
      }
