-- A load of a field, whose slot and length were stored after it.
use Rattle.std.proofs.Common.{◌≡◌, ◌≢◌, ℕ, ◌+◌, ◌<◌, List, [], ◌∷◌, ◌++◌, length, refl, sym, ap, subst, ◌∙◌, arith, None, inr}
use Rattle.object_layout.specs.declared.calls.Call.TheVariants.{Load}
use Rattle.object_layout.specs.declared.replies.Reply.TheVariants.{Ok}
use Rattle.heap_words.specs.declared.map.Areas.{Areas}
use Rattle.heap_words.specs.declared.TheConstants.{STACK_SLOTS}
use Rattle.heap_words.specs.Map.{HasThread, total_of}
use Rattle.calls_in_flight.specs.declared.notes.Cover.{Cover}
use Rattle.calls_in_flight.specs.declared.notes.Flight.{Flight}
use Rattle.calls_in_flight.specs.declared.notes.Known.{Known}
use Rattle.calls_in_flight.specs.Actors.{Actor, learn}
use Rattle.calls_in_flight.specs.FieldSteps.{length_loaded, slot_loaded}
use Rattle.calls_in_flight.specs.Flight.{at_rest}
use Rattle.calls_in_flight.specs.OwnStores.{MayStore, done_by, settles}
use Rattle.calls_in_flight.specs.Steps.{length_at, logged_at, slot_at, with_covers}
use Rattle.safepoint_gate.specs.declared.rule.Own.{Own}
use Rattle.safepoint_gate.specs.declared.rule.View.{View}
use Rattle.safepoint_gate.specs.Singles.{IsSo, Stored, acting, actor, actor_in, loads_in, loads_of, moved, put_in, put_of, with_call}
use Rattle.safepoint_gate.specs.Steps.{first_thread}
use Rattle.barriers.specs.Barred.{FieldBarred}
use Rattle.barriers.proofs.MovedViews.{first-actor, moved-actor, moved-loads, moved-moved, moved-put, says-after, told-actor, told-length, told-loads, told-put}
use Rattle.mutator.specs.Quick.{Answered}

-- the last cover was settled
settled : (w u : View) (c : Cover) (rest : List Cover) → (actor w).flight.covers ≡ c ∷ rest → c.place ≢ logged_at w.map (first_thread w.own) → Stored w c.place c.shown None u
    → u ≡ moved w (with_covers (actor w).flight rest) (learn c.place c.shown w.lasting) (loads_of w) (put_of w)
settled w u c rest covers ne s = s.view ∙ (λ i. moved w (s.flies.settles c rest covers refl i) (learn c.place c.shown w.lasting) (loads_of w) (s.no_more ne i))

module _ (v w : View) (s f word : ℕ) (one : length v.own ≡ 1) (so : IsSo v) (room : length (actor v).told.stack < STACK_SLOTS) (b : FieldBarred v (done_by (Load s f)) word w) where
  abbrev n : ℕ
  n = length (actor v).told.stack

  abbrev first : Cover
  first = slot_loaded v.map (actor v) b.above word

  abbrev second : Cover
  second = length_loaded v.map (actor v)

  abbrev flight : Flight
  flight = with_covers (at_rest (first_thread v.own)) (first ∷ second ∷ [])

  actor-w : actor w ≡ record { thread = (actor v).thread; told = b.says.has; flight = flight; lasting = b.lasting }
  actor-w =
      ap actor b.view ∙ ap (λ (o : List Own). actor_in o b.lasting) b.says.own_is
      ∙ told-actor v _ b.says.has b.says.known _ flight (loads_of v ++ b.more) (put_of v) b.lasting one

  map-w : w.map ≡ v.map
  map-w = ap (λ (x : View). x.map) b.view

  thread-w : (actor w).thread ≡ (actor v).thread
  thread-w = ap (λ (x : Actor). x.thread) actor-w

  one-w : length w.own ≡ 1
  one-w = ap (λ (o : List Own). length o) b.says.own_is ∙ told-length v.own _ b.says.has b.says.known _ flight (loads_of v ++ b.more) (put_of v) ∙ one

  loads-w : loads_of w ≡ loads_of v ++ b.more
  loads-w = ap loads_in b.says.own_is ∙ told-loads v.own _ b.says.has b.says.known _ flight (loads_of v ++ b.more) (put_of v) one

  put-w : put_of w ≡ put_of v
  put-w = ap put_in b.says.own_is ∙ told-put v.own _ b.says.has b.says.known _ flight (loads_of v ++ b.more) (put_of v) one

  covers-w : (actor w).flight.covers ≡ first ∷ second ∷ []
  covers-w = ap (λ (x : Actor). x.flight.covers) actor-w

  thread : HasThread v.map (actor v).thread
  thread = so.sees.thread

  logged-w : logged_at w.map (first_thread w.own) ≡ logged_at v.map (actor v).thread
  logged-w = λ i. logged_at (map-w i) ((first-actor w ∙ thread-w) i)

  pub may-slot : MayStore w.map (actor w) (slot_at v.map (actor v).thread (length (actor v).told.stack)) word None
  may-slot =
      let within : first.place < total_of v.map = omega (arith, room, thread.0, thread.1) in
      settles first (second ∷ []) covers-w (omega arith) (subst (λ (m : Areas). first.place < total_of m) (sym map-w) within)

  module _ (u : View) (one-stored : Stored w (slot_at v.map (actor v).thread (length (actor v).told.stack)) word None u) where
    abbrev mid : Flight
    mid = with_covers (actor w).flight (second ∷ [])

    view-u : u ≡ moved w mid (learn first.place word w.lasting) (loads_of w) (put_of w)
    view-u = settled w u first (second ∷ []) covers-w (λ e. let r : first.place ≡ logged_at v.map (actor v).thread = e ∙ logged-w in let no : ⊥ = omega (arith, r) in no) one-stored

    actor-u : actor u ≡ record (actor w) { flight = mid; lasting = learn first.place word w.lasting }
    actor-u = ap actor view-u ∙ moved-actor w mid (learn first.place word w.lasting) (loads_of w) (put_of w) one-w

    covers-u : (actor u).flight.covers ≡ second ∷ []
    covers-u = ap (λ (x : Actor). x.flight.covers) actor-u

    map-u : u.map ≡ v.map
    map-u = ap (λ (x : View). x.map) view-u ∙ map-w

    thread-u : (actor u).thread ≡ (actor v).thread
    thread-u = ap (λ (x : Actor). x.thread) actor-u ∙ thread-w

    logged-u : logged_at u.map (first_thread u.own) ≡ logged_at v.map (actor v).thread
    logged-u = λ i. logged_at (map-u i) ((first-actor u ∙ thread-u) i)

    pub may-length : MayStore u.map (actor u) (length_at v.map (actor v).thread) (length (actor v).told.stack + 1) None
    may-length =
        let within : second.place < total_of v.map = omega (arith, thread.0, thread.1) in
        settles second [] covers-u (omega arith) (subst (λ (m : Areas). second.place < total_of m) (sym map-u) within)

    module _ (z : View) (two-stored : Stored u (length_at v.map (actor v).thread) (length (actor v).told.stack + 1) None z) where
      abbrev last : Flight
      last = with_covers (actor u).flight []

      view-z : z ≡ moved u last (learn second.place (n + 1) u.lasting) (loads_of u) (put_of u)
      view-z = settled u z second [] covers-u (λ e. let r : second.place ≡ logged_at v.map (actor v).thread = e ∙ logged-u in let no : ⊥ = omega (arith, r) in no) two-stored

      rests : last ≡ at_rest (first_thread v.own)
      rests = ap (λ (x : Actor). with_covers x.flight []) actor-u ∙ ap (λ (x : Actor). with_covers x.flight []) actor-w

      loads-u : loads_of u ≡ loads_of v ++ b.more
      loads-u = ap loads_of view-u ∙ moved-loads w mid (learn first.place word w.lasting) (loads_of w) (put_of w) one-w ∙ loads-w

      put-u : put_of u ≡ put_of v
      put-u = ap put_of view-u ∙ moved-put w mid (learn first.place word w.lasting) (loads_of w) (put_of w) one-w ∙ put-w

      abbrev known : List Known
      known = learn second.place (n + 1) u.lasting

      of-w : z ≡ moved w (at_rest (first_thread v.own)) known (loads_of v ++ b.more) (put_of v)
      of-w =
          view-z ∙ (λ i. moved u (rests i) known (loads-u i) (put-u i)) ∙ ap (λ (x : View). moved x (at_rest (first_thread v.own)) known (loads_of v ++ b.more) (put_of v)) view-u
          ∙ moved-moved w mid (at_rest (first_thread v.own)) (learn first.place word w.lasting) known (loads_of w) (loads_of v ++ b.more) (put_of w) (put_of v)

      own-z : z.own ≡ with_call w.own (at_rest (first_thread v.own)) (loads_of v ++ b.more) (put_of v)
      own-z = ap (λ (x : View). x.own) of-w

      lasting-z : z.lasting ≡ known
      lasting-z = ap (λ (x : View). x.lasting) of-w

      pub answers-load : Answered v (Load s f) Ok z
      answers-load = (
        b.more,
        record {
          put = put_of v;
          says = (says-after v (done_by (Load s f)) flight (at_rest (first_thread v.own)) (loads_of v ++ b.more) (loads_of v ++ b.more) (put_of v) (put_of v) w.own z.own own-z b.says).0;
          puts = inr ((λ must ok. must), refl);
          view = of-w ∙ ap (λ (x : View). acting x (with_call w.own (at_rest (first_thread v.own)) (loads_of v ++ b.more) (put_of v)) known) b.view ∙ (λ i. acting v (sym own-z i) (sym lasting-z i));
        },
      )
