-- Views of a seat whose thread makes single steps.
use Rattle.std.proofs.Common.{◌≡◌, ℕ, List, [], ◌∷◌, ◌++◌, length, zero, suc, refl, sym, ap, subst, ◌∙◌, arith, append-nil, None}
use Rattle.std.proofs.lemmas.List.{append_assoc}
use mathlib.Core.Option.{some-injective}
use Rattle.object_layout.specs.declared.calls.Event.{Event}
use Rattle.heap_words.specs.declared.map.Areas.{Areas}
use Rattle.yak_model.specs.declared.history.Entry.{Entry}
use Rattle.yak_model.specs.Graph.{Thread}
use Rattle.yak_model.specs.Private.{KnownObjects}
use Rattle.calls_in_flight.specs.declared.notes.Known.{Known}
use Rattle.calls_in_flight.specs.Actors.{Actor, HasMet, learn}
use Rattle.calls_in_flight.specs.declared.notes.Flight.{Flight}
use Rattle.calls_in_flight.specs.Flight.{at_rest}
use Rattle.safepoint_gate.specs.declared.rule.Own.{Own}
use Rattle.safepoint_gate.specs.declared.gate.Gate.{Gate}
use Rattle.safepoint_gate.specs.declared.rule.View.{View}
use Rattle.safepoint_gate.specs.declared.seats.Inside.{Inside}
use Rattle.safepoint_gate.specs.Seats.{IsOf}
use Rattle.safepoint_gate.specs.Rule.{AllMine, Mine}
use Rattle.safepoint_gate.specs.Singles.{IsQuiet, Loaded, Says, Tells, acting, actor, actor_in, loads_in, loads_of, moved, put_in, put_of, with_call}
use Rattle.safepoint_gate.specs.Steps.{first_thread, told}
use Rattle.barriers.specs.Barred.{OnlyLoads}
use Rattle.barriers.proofs.StillKnown.{Has, Keeps, keeps-more, learns-again, learns-word}

-- ---- the thread of a seat

pub first-actor : (v : View) → first_thread v.own ≡ (actor v).thread
first-actor v = go v.own
  where
    go : (own : List Own) → first_thread own ≡ (actor_in own v.lasting).thread
    go [] = refl
    go (o ∷ own) = refl

pub first-with : (own : List Own) (f : Flight) (loads : List Known) (put : ℕ) → first_thread (with_call own f loads put) ≡ first_thread own
first-with [] f loads put = refl
first-with (o ∷ own) f loads put = refl

pub length-with : (own : List Own) (f : Flight) (loads : List Known) (put : ℕ) → length (with_call own f loads put) ≡ length own
length-with [] f loads put = refl
length-with (o ∷ own) f loads put = refl

pub with-with : (own : List Own) (f g : Flight) (loads more : List Known) (put now : ℕ) → with_call (with_call own f loads put) g more now ≡ with_call own g more now
with-with [] f g loads more put now = refl
with-with (o ∷ own) f g loads more put now = refl

pub actor-lasting : (v : View) → (actor v).lasting ≡ v.lasting
actor-lasting v = go v.own
  where
    go : (own : List Own) → (actor_in own v.lasting).lasting ≡ v.lasting
    go [] = refl
    go (o ∷ own) = refl

-- where its flight stays
pub moved-still : (v : View) (lasting loads : List Known) (put : ℕ) → actor (moved v (actor v).flight lasting loads put) ≡ record (actor v) { lasting = lasting }
moved-still v lasting loads put = go v.own
  where
    go : (own : List Own) → actor_in (with_call own (actor_in own v.lasting).flight loads put) lasting ≡ record (actor_in own v.lasting) { lasting = lasting }
    go [] = refl
    go (o ∷ own) = refl

-- one thread, with this in flight
pub moved-actor : (v : View) (f : Flight) (lasting loads : List Known) (put : ℕ) → length v.own ≡ 1 → actor (moved v f lasting loads put) ≡ record (actor v) { flight = f; lasting = lasting }
moved-actor v f lasting loads put one = go v.own one
  where
    go : (own : List Own) → length own ≡ 1 → actor_in (with_call own f loads put) lasting ≡ record (actor_in own v.lasting) { flight = f; lasting = lasting }
    go [] one = absurd (omega (arith, one))
    go (o ∷ own) one = refl

pub moved-loads : (v : View) (f : Flight) (lasting loads : List Known) (put : ℕ) → length v.own ≡ 1 → loads_of (moved v f lasting loads put) ≡ loads
moved-loads v f lasting loads put one = go v.own one
  where
    go : (own : List Own) → length own ≡ 1 → loads_in (with_call own f loads put) ≡ loads
    go [] one = absurd (omega (arith, one))
    go (o ∷ own) one = refl

pub moved-put : (v : View) (f : Flight) (lasting loads : List Known) (put : ℕ) → length v.own ≡ 1 → put_of (moved v f lasting loads put) ≡ put
moved-put v f lasting loads put one = go v.own one
  where
    go : (own : List Own) → length own ≡ 1 → put_in (with_call own f loads put) ≡ put
    go [] one = absurd (omega (arith, one))
    go (o ∷ own) one = refl

pub moved-moved : (v : View) (f g : Flight) (lasting known loads more : List Known) (put now : ℕ) → moved (moved v f lasting loads put) g known more now ≡ moved v g known more now
moved-moved v f g lasting known loads more put now = ap (λ own. acting v own known) (with-with v.own f g loads more put now)

-- ---- loads one after another

-- more is loaded
pub loads-then : (v w u : View) (more further lasting known : List Known) → OnlyLoads v more lasting w → OnlyLoads w further known u → OnlyLoads v (more ++ further) known u
loads-then v w u more further lasting known first second = second ∙ ap (λ (x : View). moved x (actor x).flight known (loads_of x ++ further) (put_of x)) first ∙ go v.own
  where
    go : (own : List Own) → (let x : View = acting v (with_call own (actor_in own v.lasting).flight (loads_in own ++ more) (put_in own)) lasting in moved x (actor x).flight known (loads_of x ++ further) (put_of x)) ≡ acting v (with_call own (actor_in own v.lasting).flight (loads_in own ++ (more ++ further)) (put_in own)) known
    go [] = refl
    go (o ∷ own) = ap (λ loads. acting v (with_call (o ∷ own) o.flight loads o.put) known) (append_assoc o.loads more further)

-- nothing is loaded
pub loads-none : (v : View) → OnlyLoads v [] v.lasting v
loads-none v = go v.own
  where
    go : (own : List Own) → acting v own v.lasting ≡ acting v (with_call own (actor_in own v.lasting).flight (loads_in own ++ []) (put_in own)) v.lasting
    go [] = refl
    go (o ∷ own) = ap (λ loads. acting v (with_call (o ∷ own) o.flight loads o.put) v.lasting) (sym (append-nil o.loads))

pub loads-actor : (v w : View) (more lasting : List Known) → OnlyLoads v more lasting w → actor w ≡ record (actor v) { lasting = lasting }
loads-actor v w more lasting is = ap actor is ∙ moved-still v lasting (loads_of v ++ more) (put_of v)

pub loads-map : (v w : View) (more lasting : List Known) → OnlyLoads v more lasting w → w.map ≡ v.map
loads-map v w more lasting is = ap (λ (x : View). x.map) is

pub loads-first : (v w : View) (more lasting : List Known) → OnlyLoads v more lasting w → first_thread w.own ≡ first_thread v.own
loads-first v w more lasting is = ap (λ (x : View). first_thread x.own) is ∙ first-with v.own (actor v).flight (loads_of v ++ more) (put_of v)

pub loads-one : (v w : View) (more lasting : List Known) → OnlyLoads v more lasting w → length v.own ≡ 1 → length w.own ≡ 1
loads-one v w more lasting is one = ap (λ (x : View). length x.own) is ∙ length-with v.own (actor v).flight (loads_of v ++ more) (put_of v) ∙ one

pub loads-put : (v w : View) (more lasting : List Known) → OnlyLoads v more lasting w → length v.own ≡ 1 → put_of w ≡ put_of v
loads-put v w more lasting is one = ap put_of is ∙ moved-put v (actor v).flight lasting (loads_of v ++ more) (put_of v) one

pub loads-loads : (v w : View) (more lasting : List Known) → OnlyLoads v more lasting w → length v.own ≡ 1 → loads_of w ≡ loads_of v ++ more
loads-loads v w more lasting is one = ap loads_of is ∙ moved-loads v (actor v).flight lasting (loads_of v ++ more) (put_of v) one

pub loads-quiet : (v w : View) (more lasting : List Known) → OnlyLoads v more lasting w → IsQuiet v → IsQuiet w
loads-quiet v w more lasting is quiet = ap (λ (a : Actor). a.flight) (loads-actor v w more lasting is) ∙ quiet ∙ ap at_rest (sym (loads-first v w more lasting is))

-- it has met as much
pub loads-keep : (v w : View) (more lasting : List Known) → OnlyLoads v more lasting w → ((p x : ℕ) → HasMet (actor v) p x → HasMet (actor w) p x) → Keeps v.map w.map (actor v) (actor w)
loads-keep v w more lasting is met =
    let a : actor w ≡ record (actor v) { lasting = lasting } = loads-actor v w more lasting is in
    subst (λ (b : Areas × Actor). Keeps v.map b.0 (actor v) b.1) (λ i. (sym (loads-map v w more lasting is) i, sym a i))
    (keeps-more v.map (actor v) lasting (λ p x has. subst (λ (b : Actor). HasMet b p x) a (met p x has)))

-- ---- a load

module _ (v w : View) (p word : ℕ) (loaded : Loaded v p None word w) where
  pub loaded-actor : actor w ≡ record (actor v) { lasting = learn p word v.lasting }
  loaded-actor = loads-actor v w (record { place = p; word = word } ∷ []) (learn p word v.lasting) loaded.0

  pub loaded-word : HasMet (actor w) p word
  loaded-word = subst (λ (b : Actor). HasMet b p word) (sym loaded-actor) (learns-word p word v.lasting)

  pub loaded-met : (q x : ℕ) → HasMet (actor v) q x → HasMet (actor w) q x
  loaded-met q x has =
      subst (λ (b : Actor). HasMet b q x) (sym loaded-actor)
      (learns-again p word q x v.lasting (λ was h. loaded.1.again was (subst (λ l. Has l p was) (sym (actor-lasting v)) h)) (subst (λ l. Has l q x) (actor-lasting v) has))

  pub loaded-keeps : Keeps v.map w.map (actor v) (actor w)
  loaded-keeps = loads-keep v w (record { place = p; word = word } ∷ []) (learn p word v.lasting) loaded.0 loaded-met

-- ---- entries

-- what the threads of a seat have doesn't rest on their calls in flight
mine-with : (m : Areas) (history : List Entry) (own : List Own) (f : Flight) (loads : List Known) (put : ℕ) → AllMine m history (with_call own f loads put) → AllMine m history own
mine-with m history [] f loads put mine = mine
mine-with m history (o ∷ own) f loads put mine = go
  where
    go : AllMine m history (o ∷ own)
    go zero x at =
        let first : Mine m history _ = mine 0 _ refl in
        subst (Mine m history) (some-injective o x at) (record { thread = first.thread; calls = first.calls; has = first.has; knows = first.knows; goes_on = first.goes_on })
    go (suc k) x at = mine (suc k) x at

with-mine : (m : Areas) (history : List Entry) (own : List Own) (f : Flight) (loads : List Known) (put : ℕ) → AllMine m history own → AllMine m history (with_call own f loads put)
with-mine m history [] f loads put mine = mine
with-mine m history (o ∷ own) f loads put mine = go
  where
    go : AllMine m history (with_call (o ∷ own) f loads put)
    go zero x at =
        let first : Mine m history o = mine 0 o refl in
        subst (Mine m history) (some-injective _ x at) (record { thread = first.thread; calls = first.calls; has = first.has; knows = first.knows; goes_on = first.goes_on })
    go (suc k) x at = mine (suc k) x at

-- An entry of a thread that has moved since is one from before.
says-before : (v : View) (event : Event) (g : Flight) (known more : List Known) (now : ℕ) (f : Flight) (loads : List Known) (put : ℕ) (own : List Own) (s : Says (moved v g known more now) event f loads put own) → (r : Says v event f loads put own) × (r.before ≡ s.before) × (r.has ≡ s.has)
says-before v event g known more now f loads put own says = go v.own says
  where
    go : (was : List Own) (s : Says (acting v (with_call was g more now) known) event f loads put own) → (r : Says (acting v was v.lasting) event f loads put own) × (r.before ≡ s.before) × (r.has ≡ s.has)
    go [] s = (
      record {
        has = s.has;
        known = s.known;
        history = s.history;
        before = s.before;
        lawful = s.lawful;
        leaves = s.leaves;
        was = s.was;
        becomes = s.becomes;
        own_is = s.own_is;
        mine = s.mine;
      },
      refl,
      refl,
    )
    go (o ∷ was) s = (
      record {
        has = s.has;
        known = s.known;
        history = s.history;
        before = s.before;
        lawful = s.lawful;
        leaves = s.leaves;
        was = mine-with v.map s.history (o ∷ was) g more now s.was;
        becomes = s.becomes;
        own_is = s.own_is;
        mine = s.mine;
      },
      refl,
      refl,
    )

pub says-from : (v x : View) (event : Event) (g : Flight) (known more : List Known) (now : ℕ) → x ≡ moved v g known more now
    → (f f' : Flight) (loads loads' : List Known) (put put' : ℕ) (own own' : List Own) → f' ≡ f → loads' ≡ loads → put' ≡ put → own' ≡ own
    → (s : Says x event f' loads' put' own') → (r : Says v event f loads put own) × (r.before ≡ s.before) × (r.has ≡ s.has)
says-from v x event g known more now is f f' loads loads' put put' own own' ef el ep eo =
    subst (λ (y : View × Flight × List Known × ℕ × List Own). (s : Says y.0 event y.1 y.2 y.3 y.4) → (r : Says v event f loads put own) × (r.before ≡ s.before) × (r.has ≡ s.has))
    (λ i. (sym is i, sym ef i, sym el i, sym ep i, sym eo i))
    (says-before v event g known more now f loads put own)

-- The thread moves on after its entry.
pub says-after : (v : View) (event : Event) (f g : Flight) (loads more : List Known) (put now : ℕ) (own later : List Own) → later ≡ with_call own g more now → (s : Says v event f loads put own) → (r : Says v event g more now later) × (r.before ≡ s.before) × (r.has ≡ s.has)
says-after v event f g loads more put now own later is s = (
  record {
    has = s.has;
    known = s.known;
    history = s.history;
    before = s.before;
    lawful = s.lawful;
    leaves = s.leaves;
    was = s.was;
    becomes = s.becomes;
    own_is = is ∙ ap (λ (x : List Own). with_call x g more now) s.own_is ∙ with-with _ f g loads more put now;
    mine = subst (AllMine v.map _) (sym is) (with-mine v.map _ own g more now s.mine);
  },
  refl,
  refl,
)

-- one thread with its entry
pub told-actor : (v : View) (more : List Entry) (has : Thread) (known : KnownObjects) (past : List Entry) (f : Flight) (loads : List Known) (put : ℕ) (lasting : List Known) → length v.own ≡ 1
    → actor_in (with_call (told v.own more has known past) f loads put) lasting ≡ record { thread = (actor v).thread; told = has; flight = f; lasting = lasting }
told-actor v more has known past f loads put lasting one = go v.own one
  where
    go : (own : List Own) → length own ≡ 1 → actor_in (with_call (told own more has known past) f loads put) lasting ≡ record { thread = (actor_in own v.lasting).thread; told = has; flight = f; lasting = lasting }
    go [] one = absurd (omega (arith, one))
    go (o ∷ own) one = refl

pub told-length : (own : List Own) (more : List Entry) (has : Thread) (known : KnownObjects) (past : List Entry) (f : Flight) (loads : List Known) (put : ℕ) → length (with_call (told own more has known past) f loads put) ≡ length own
told-length [] more has known past f loads put = refl
told-length (o ∷ own) more has known past f loads put = refl

pub told-loads : (own : List Own) (more : List Entry) (has : Thread) (known : KnownObjects) (past : List Entry) (f : Flight) (loads : List Known) (put : ℕ) → length own ≡ 1 → loads_in (with_call (told own more has known past) f loads put) ≡ loads
told-loads [] more has known past f loads put one = absurd (omega (arith, one))
told-loads (o ∷ own) more has known past f loads put one = refl

pub told-put : (own : List Own) (more : List Entry) (has : Thread) (known : KnownObjects) (past : List Entry) (f : Flight) (loads : List Known) (put : ℕ) → length own ≡ 1 → put_in (with_call (told own more has known past) f loads put) ≡ put
told-put [] more has known past f loads put one = absurd (omega (arith, one))
told-put (o ∷ own) more has known past f loads put one = refl

-- An entry that a thread told after other steps, with no call in flight then.
module _ (v x z : View) (event : Event) (f : Flight) (more lasting : List Known) (put : ℕ) (one : length v.own ≡ 1) (is : x ≡ moved v f lasting (loads_of v ++ more) put) (known loads further : List Known) (el : loads ≡ loads_of v ++ further) (tells : Tells x event (at_rest (first_thread x.own)) known loads z) where
  own-is : tells.own ≡ z.own
  own-is = sym (ap (λ (y : View). y.own) tells.view)

  first-is : first_thread x.own ≡ first_thread v.own
  first-is = ap (λ (y : View). first_thread y.own) is ∙ first-with v.own f (loads_of v ++ more) put

  pub told-says : (r : Says v event (at_rest (first_thread v.own)) (loads_of v ++ further) put z.own) × (r.before ≡ tells.says.before) × (r.has ≡ tells.says.has)
  told-says =
      says-from v x event f lasting (loads_of v ++ more) put is (at_rest (first_thread v.own)) (at_rest (first_thread x.own)) (loads_of v ++ further) loads put (put_of x) z.own tells.own
      (ap at_rest first-is) el (ap put_of is ∙ moved-put v f lasting (loads_of v ++ more) put one) own-is tells.says

  pub told-view : z ≡ acting v z.own known
  told-view = tells.view ∙ ap (λ (y : View). acting y tells.own known) is ∙ ap (λ o. acting v o known) own-is

-- ---- places of the thread of a seat

pub in-block : (place : Areas → ℕ → ℕ) (inside : Inside) (gate : Gate) (m : Areas) (t p : ℕ) → p ≡ place m t → m ≡ gate.map → t ≡ inside.thread → IsOf gate inside.seat.table_id inside.seat.me.0 → p ≡ place inside.seat.me.0.map (actor inside.seat.me.0).thread
in-block place inside gate m t p is map thread of_gate =
    is ∙ (λ i. place ((map ∙ sym of_gate.1) i) ((thread ∙ sym inside.numbered ∙ first-actor inside.seat.me.0) i))
