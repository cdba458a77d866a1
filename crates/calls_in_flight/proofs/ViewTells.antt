-- A load that tells an event: a call that only shows something, or a refusal.
use Rattle.std.proofs.Common.{◌≡◌, ℕ, ◌+◌, ◌-◌, ◌≤◌, Some, List, [], ◌∷◌, map, get_or, suc, refl, sym, ap, subst, ◌∙◌, arith}
use Rattle.std.specs.List.{All}
use Rattle.std.proofs.lemmas.List.Elements.{All-nil}
use Rattle.std.proofs.Math.Logic.{⊎_elim}
use Rattle.object_layout.specs.declared.names.Name.{Name}
use Rattle.object_layout.specs.declared.TheConstants.{MAX_SERIAL}
use Rattle.object_layout.specs.declared.calls.Call.{Call}
use Rattle.object_layout.specs.declared.calls.Call.TheVariants as call
use Rattle.object_layout.specs.declared.calls.Event.{Event}
use Rattle.object_layout.specs.declared.replies.Reply.{Reply}
use Rattle.object_layout.specs.Calls.{IsCall}
use Rattle.object_layout.specs.Layout.{name_word}
use Rattle.heap_words.specs.declared.map.Areas.{Areas}
use Rattle.heap_words.specs.Map.{HasThread}
use Rattle.heap_words.specs.Contents.{Contents}
use Rattle.yak_model.specs.declared.datum.Datum.{Datum}
use Rattle.yak_model.specs.declared.datum.Datum.TheVariants as datum
use Rattle.yak_model.specs.declared.history.Entry.TheVariants.{Said}
use Rattle.yak_model.specs.Graph.{IsThread, answers, thread_of}
use Rattle.yak_model.specs.Graph as graph
use Rattle.yak_model.specs.Spaces.{SpaceState, Turns, homes_after}
use Rattle.yak_model.specs.State.{IsDatum, Thing, object_of, view}
use Rattle.yak_model.specs.Placed.{datum_word}
use Rattle.yak_model.specs.Stands.{Stands}
use Rattle.yak_model.proofs.Data.{is_integer, is_null, refers, some-of}
use Rattle.yak_model.proofs.Stacks.{all-at, stack-fits, stack_words}
use Rattle.standing_calls.specs.Records.{Records}
use Rattle.standing_calls.specs.Room.{TakesRoom}
use Rattle.standing_calls.specs.Turned.{IsIdle, Turned}
use Rattle.standing_calls.proofs.Named.{depth-shown, made-shown}
use Rattle.standing_calls.proofs.Recorded.{keeps_all, same_records}
use Rattle.standing_calls.proofs.Steps.{refused-alone, same_room, thread_in}
use Rattle.calls_in_flight.specs.Actors.{Actor, IsQuick, MayTell}
use Rattle.calls_in_flight.specs.Differing.{MayDiffer}
use Rattle.calls_in_flight.specs.Fits.{StandInFlight}
use Rattle.calls_in_flight.specs.Flight.{Flight, at_rest, flight_at}
use Rattle.calls_in_flight.specs.Kinds.{IsPlainEntry, IsStep, idles}
use Rattle.calls_in_flight.specs.Knowing.{IsLasting, Known}
use Rattle.calls_in_flight.specs.Stepped.{Stepped}
use Rattle.calls_in_flight.specs.Whole.{whole}
use Rattle.calls_in_flight.proofs.Acting.{Acts, TellsEvent, acting_in, place_of}
use Rattle.calls_in_flight.proofs.Events.{step-idle}
use Rattle.calls_in_flight.proofs.ViewSees.{agrees-so}

-- ---- states for which the same words stand

-- names with one word are one
name-same : (n x : Name) → n.serial ≤ MAX_SERIAL → x.serial ≤ MAX_SERIAL → name_word n ≡ name_word x → n ≡ x
name-same n x ln lx e =
    let t : n.thread ≡ x.thread = omega (arith, ln, lx, e) in
    let k : n.serial ≡ x.serial = omega (arith, ln, lx, e) in
    λ i. record { thread = t i; serial = k i }

-- the serial numbers of objects are within their limit
serial-fits : (m : Areas) (c : Contents) (s : SpaceState) (h : Stands m c s) (n : Name) (o : Thing) → object_of s n ≡ Some o → n.serial ≤ MAX_SERIAL
serial-fits m c s h n o e = ⊎_elim
    (λ (root : (n.thread ≡ 0) × (n.serial ≡ 0)). let r : n.serial ≤ MAX_SERIAL = omega (arith, root.1) in r)
    (λ made. let most : get_or (view s).made (n.thread - 1) 0 ≤ MAX_SERIAL = all-at (λ k. k ≤ MAX_SERIAL) (view s).made (n.thread - 1) 0 (omega arith) h.stands.serials in let r : n.serial ≤ MAX_SERIAL = omega (arith, made.3, most) in r)
    (h.stands.names n o e)

module _ (m : Areas) (c : Contents) (s r : SpaceState) (h : Stands m c s) (g : Stands m c r) where
  datum-same : (d e : Datum) → IsDatum (object_of s) d → IsDatum (object_of r) e → datum_word h.places.at d ≡ datum_word g.places.at e → d ≡ e
  datum-same d datum.Null hd he q = is_null h.places.at d q
  datum-same d (datum.Int i) hd he q = is_integer h.places.at d i q
  datum-same d (datum.Object x) hd he q =
      let y = refers m c (view s) h.places d (g.places.at x) h.stands hd q in
      let p = some-of (object_of r x) he in
      let words : name_word y.0 ≡ name_word x = sym (h.stands.heap.held y.0 y.1 y.3).name ∙ ap (λ i. get_or c.heap (i + 1) 0) (sym y.4) ∙ (g.stands.heap.held x p.0 p.1).name in
      y.2 ∙ ap datum.Object (name-same y.0 x (serial-fits m c s h y.0 y.1 y.3) (serial-fits m c r g x p.0 p.1) words)

  data-same : (ds es : List Datum) → All (IsDatum (object_of s)) ds → All (IsDatum (object_of r)) es → map (datum_word h.places.at) ds ≡ map (datum_word g.places.at) es → ds ≡ es
  data-same [] [] hd he q = refl
  data-same [] (e ∷ es) hd he q = cc
  data-same (d ∷ ds) [] hd he q = cc
  data-same (d ∷ ds) (e ∷ es) hd he q =
      let first : d ≡ e = datum-same d e (hd 0 d (omega arith)) (he 0 e (omega arith)) cc in
      let rest : ds ≡ es = data-same ds es (λ k x lt. hd (suc k) x (omega (arith, lt))) (λ k x lt. he (suc k) x (omega (arith, lt))) cc in
      λ i. first i ∷ rest i

  -- a thread has the same in both
  pub thread-same : (t : ℕ) → thread_of s.graph t ≡ thread_of r.graph t
  thread-same t =
      let stack : graph.stack_of s.graph t ≡ graph.stack_of r.graph t = data-same (graph.stack_of s.graph t) (graph.stack_of r.graph t) (stack-fits m c s h t) (stack-fits m c r g t) (sym (stack_words m c s h t) ∙ stack_words m c r g t) in
      let depth : (thread_of s.graph t).depth ≡ (thread_of r.graph t).depth = sym (depth-shown s t) ∙ ap (λ ds. get_or ds (t - 1) 0) (sym h.stands.depths ∙ g.stands.depths) ∙ depth-shown r t in
      let made : (thread_of s.graph t).made ≡ (thread_of r.graph t).made = sym (made-shown s t) ∙ ap (λ ks. get_or ks (t - 1) 0) (sym h.stands.made ∙ g.stands.made) ∙ made-shown r t in
      λ i. record { stack = stack i; depth = depth i; made = made i }

-- ---- an idle call leaves the state and the words

turns-idle : (s : SpaceState) (t : ℕ) (asked : Call) (said : Reply) → IsQuick asked → IsIdle asked said → IsThread s.graph t → answers s.graph t asked said s.graph → IsCall asked → Turns s (Said t asked said) s
turns-idle s t call.End said quick idle there so is = absurd quick
turns-idle s t call.Collect said quick idle there so is = absurd quick
turns-idle s t (call.New k) said quick idle there so is =
    let taken = refused-alone (call.New k) said (λ no. no) idle in
    (there, so, subst (λ (x : Reply). s.home ≡ homes_after s t (call.New k) x) (sym taken.1) refl, is)
turns-idle s t asked said quick idle there so is = (there, so, refl, is)

room-idle : (m : Areas) (c : Contents) (t : ℕ) (asked : Call) (said : Reply) → IsIdle asked said → TakesRoom m c c t asked said
room-idle m c t (call.New k) said idle =
    let taken = refused-alone (call.New k) said (λ no. no) idle in
    subst (TakesRoom m c c t (call.New k)) (sym taken.1) (same_room c)
room-idle m c t asked said idle = same_room c

records-idle : (m : Areas) (s : SpaceState) (at : Name → ℕ) (c : Contents) (t : ℕ) (asked : Call) (said : Reply) → IsIdle asked said → Records m s at c c t asked said
records-idle m s at c t (call.Load k f) said idle =
    let taken = refused-alone (call.Load k f) said (λ no. no) idle in
    subst (Records m s at c c t (call.Load k f)) (sym taken.1) (same_records c)
records-idle m s at c t (call.Store k f x) said idle =
    let taken = refused-alone (call.Store k f x) said (λ no. no) idle in
    subst (Records m s at c c t (call.Store k f x)) (sym taken.1) (same_records c)
records-idle m s at c t asked said idle = same_records c

pub idle-turned : (m : Areas) (c : Contents) (t : ℕ) (asked : Call) (said : Reply) → HasThread m t → IsQuick asked → IsIdle asked said → IsCall asked → ((s : SpaceState) → Stands m c s → answers s.graph t asked said s.graph) → Turned m c c t asked said
idle-turned m c t asked said ht quick idle is so = record {
  turns = λ s h. (s, (s, turns-idle s t asked said quick idle (thread_in m c s h t ht) (so s h) is, refl), h, λ r. r);
  kept = λ s h. keeps_all (view s) h.places.at;
  room = room-idle m c t asked said idle;
  records = λ s h. records-idle m s h.places.at c t asked said idle;
  idle = λ i. refl;
}

module _ (m : Areas) (ws : List ℕ) (fs : List Flight) (s : SpaceState) (h : StandInFlight m ws fs s) (a : Actor) (acts : Acts m ws fs s h a) where
  told-turned : (event : Event) → MayTell m a event → Turned m (whole m ws fs) (whole m ws fs) a.thread event.call event.reply
  told-turned event may =
      idle-turned m (whole m ws fs) a.thread event.call event.reply acts.thread may.quick may.idle may.number
      (λ r g. may.answered r.graph (agrees-so m ws fs s h a acts r g (thread-same m (whole m ws fs) r s g h.stands a.thread ∙ acts.told)))

  pub tells : (event : Event) → MayTell m a event → TellsEvent m ws fs s h a event
  tells event may =
      let t : ℕ = a.thread in
      let i : ℕ = place_of a in
      let c : Contents = whole m ws fs in
      let turned = told-turned event may in
      let plain : IsPlainEntry (Said (flight_at fs i).thread event.call event.reply) = (λ e. subst IsQuick e may.quick, may.plain) in
      let step : IsStep m ws fs i ws fs (Said (flight_at fs i).thread event.call event.reply ∷ []) 0 = idles event.call event.reply plain (subst (λ x. Turned m c c x event.call event.reply) (sym acts.numbered) turned) in
      let stepped : Stepped m ws ws fs fs i s h (Said t event.call event.reply ∷ []) 0 = step-idle m ws fs i s t event.call event.reply h turned in
      record {
        step = subst (λ x. IsStep m ws fs i ws fs (Said x event.call event.reply ∷ []) 0) acts.numbered step;
        stepped = stepped;
        flight = acts.flight ∙ may.rests;
        knows = All-nil (λ (k : Known). (get_or ws k.place 0 ≡ k.word) × IsLasting m ws fs stepped.after stepped.later i k.place);
        differs = All-nil (MayDiffer m (acting_in a stepped.after (at_rest t) []));
      }
