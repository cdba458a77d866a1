-- A field that is stored after the headers of the two objects were loaded.
use Rattle.std.proofs.Common.{◌≡◌, ℕ, ◌+◌, ◌≤◌, ◌<◌, List, [], ◌++◌, length, refl, sym, ap, subst, ◌∙◌, true, false, inl, inr, None}
use Rattle.std.proofs.lemmas.List.{append_assoc}
use Rattle.std.proofs.lemmas.List.Elements.{Contains-append_right}
use Rattle.object_layout.specs.declared.calls.Call.{Call}
use Rattle.object_layout.specs.declared.replies.Reply.TheVariants.{Ok}
use Rattle.heap_words.specs.declared.TheConstants.{BUFFER_ENTRIES}
use Rattle.yak_model.specs.Graph.{refusal_of}
use Rattle.yak_model.specs.Spaces.{SpaceState}
use Rattle.calls_in_flight.specs.declared.notes.Flight.{Flight}
use Rattle.calls_in_flight.specs.declared.notes.Known.{Known}
use Rattle.calls_in_flight.specs.Actors.{Actor}
use Rattle.calls_in_flight.specs.FieldSteps.{MayStoreField, MeetsCrossing, StoresInto}
use Rattle.calls_in_flight.specs.Flight.{at_rest}
use Rattle.calls_in_flight.specs.OwnStores.{done_by}
use Rattle.calls_in_flight.specs.Steps.{logged_at}
use Rattle.safepoint_gate.specs.declared.rule.View.{View}
use Rattle.safepoint_gate.specs.Singles.{IsQuiet, StoredField, actor, loads_of, moved, put_of}
use Rattle.safepoint_gate.specs.Steps.{first_thread}
use Rattle.barriers.specs.Barred.{Crossed, HasLogged, HasNoRoomToLog, IsLogFull, LoadsCross, StoreBarred}
use Rattle.barriers.specs.Shown.{MustRecord, PutsEntry, WasLoaded}
use Rattle.barriers.proofs.StillKnown.{Keeps, keeps-crossing, keeps-refers, keeps-stores, must-not, must-record}
use Rattle.barriers.proofs.MetSpaces.{loaded-left}
use Rattle.barriers.proofs.MovedViews.{first-actor, first-with, loads-first, loads-keep, loads-loads, loads-map, loads-put, loads-quiet, loads-then, moved-actor, moved-loads, moved-moved, told-says, told-view}
use Rattle.barriers.proofs.Logging.{quiet-rest}

-- ---- where the store buffer is full

module _ (v w u : View) (asked : Call) (at field word : ℕ) (one : length v.own ≡ 1) (cr : Crossed v asked at field word true w) (full : HasNoRoomToLog w u) where
  keeps : Keeps w.map u.map (actor w) (actor u)
  keeps = loads-keep w u full.more full.lasting full.view full.kept

  stores : StoresInto u.map (actor u) asked at field word
  stores = keeps-stores w.map u.map (actor w) (actor u) keeps asked at field word cr.stores

  crossing : MeetsCrossing u.map (actor u) at word
  crossing = keeps-crossing w.map u.map (actor w) (actor u) keeps at word (cr.crossing refl).0

  first-is : first_thread w.own ≡ first_thread v.own
  first-is = loads-first v w cr.more cr.lasting cr.view

  thread-is : (actor u).thread ≡ first_thread v.own
  thread-is = sym (first-actor u) ∙ loads-first w u full.more full.lasting full.view ∙ first-is

  pub log-full : IsLogFull v asked u
  log-full =
      let l : LoadsCross v cr.more w asked = (cr.crossing refl).1 in
      record {
        more = cr.more ++ full.more;
        lasting = full.lasting;
        view = loads-then v w u cr.more full.more cr.lasting full.lasting cr.view full.view;
        so = full.so;
        let_ = subst (λ t. refusal_of full.so.state.graph t asked ≡ None) thread-is (stores.let_ full.so.state.graph full.so.sees.agrees);
        must = subst (λ t. MustRecord full.so.state t asked) thread-is (must-record u.map (actor u) full.so.state full.so.sees asked at field word stores crossing);
        full = Contains-append_right cr.more full.more _ (subst (λ p. WasLoaded full.more p BUFFER_ENTRIES) (λ i. logged_at (loads-map v w cr.more cr.lasting cr.view i) (first-is i)) full.full);
        many = subst (λ n. BUFFER_ENTRIES ≤ n) (loads-put v w cr.more cr.lasting cr.view one) full.many;
        crossing = record {
          slot = l.slot;
          field = l.field;
          «from» = l.from;
          call = l.call;
          at = l.at;
          to = l.to;
          refers = keeps-refers w.map u.map (actor w) (actor u) keeps l.slot l.at l.refers;
          leads = keeps-refers w.map u.map (actor w) (actor u) keeps l.from l.to l.leads;
          x = l.x;
          y = l.y;
          header = loaded-left v.map cr.more full.more l.at l.x l.header;
          other = loaded-left v.map cr.more full.more l.to l.y l.other;
          crosses = l.crosses;
        };
      }

-- ---- the store

module _ (v x z : View) (asked : Call) (f : Flight) (more lasting : List Known) (put : ℕ) (one : length v.own ≡ 1) (is : x ≡ moved v f lasting (loads_of v ++ more) put) (el : loads_of x ≡ loads_of v ++ more) (tells : StoredField x (done_by asked) z) where
  store-barred : PutsEntry tells.says.before (first_thread v.own) asked Ok (put_of v) put
      → (MustRecord tells.says.before (first_thread v.own) asked → (n : ℕ) × WasLoaded more (logged_at v.map (first_thread v.own)) n × (n < BUFFER_ENTRIES))
      → StoreBarred v asked z
  store-barred puts shown =
      let told = told-says v x z (done_by asked) f more lasting put one is [] (loads_of x) more el tells in
      record {
        more = more;
        put = put;
        says = told.0;
        view = told-view v x z (done_by asked) f more lasting put one is [] (loads_of x) more el tells;
        puts = subst (λ (s : SpaceState). PutsEntry s (first_thread v.own) asked Ok (put_of v) put) (sym told.1) puts;
        shown = λ must. shown (subst (λ (s : SpaceState). MustRecord s (first_thread v.own) asked) told.1 must);
      }

-- where a reference crosses
module _ (v w x : View) (asked : Call) (at field word : ℕ) (one : length v.own ≡ 1) (cr : Crossed v asked at field word true w) (one-w : length w.own ≡ 1) (logged : HasLogged w asked at field word x) where
  flight : (actor x).flight ≡ at_rest (actor x).thread
  flight =
      let e : actor x ≡ record (actor w) { flight = at_rest (first_thread w.own); lasting = logged.lasting } = ap actor logged.view ∙ moved-actor w (at_rest (first_thread w.own)) logged.lasting (loads_of w ++ logged.more) (put_of w + 1) one-w in
      ap (λ (a : Actor). a.flight) e ∙ ap at_rest (first-actor w) ∙ ap (λ (a : Actor). at_rest a.thread) (sym e)

  pub may-store_logged : MayStoreField x.map (actor x) asked at field word
  may-store_logged = record { stores = logged.stores; rests = flight; recorded = inl (logged.crossing, logged.logged) }

  first-w : first_thread w.own ≡ first_thread v.own
  first-w = loads-first v w cr.more cr.lasting cr.view

  abbrev all : List Known
  all = cr.more ++ logged.more

  loads-w : loads_of w ++ logged.more ≡ loads_of v ++ all
  loads-w = ap (λ l. l ++ logged.more) (loads-loads v w cr.more cr.lasting cr.view one) ∙ append_assoc (loads_of v) cr.more logged.more

  put-w : put_of w ≡ put_of v
  put-w = loads-put v w cr.more cr.lasting cr.view one

  x-is : x ≡ moved v (at_rest (first_thread v.own)) logged.lasting (loads_of v ++ all) (put_of v + 1)
  x-is =
      logged.view ∙ (λ i. moved w (at_rest (first-w i)) logged.lasting (loads-w i) (put-w i + 1))
      ∙ ap (λ (y : View). moved y (at_rest (first_thread v.own)) logged.lasting (loads_of v ++ all) (put_of v + 1)) cr.view
      ∙ moved-moved v (actor v).flight (at_rest (first_thread v.own)) cr.lasting logged.lasting (loads_of v ++ cr.more) (loads_of v ++ all) (put_of v) (put_of v + 1)

  pub barred_logged : (z : View) → StoredField x (done_by asked) z → StoreBarred v asked z
  barred_logged z tells =
      let thread : (actor x).thread ≡ first_thread v.own = sym (first-actor x) ∙ ap (λ (y : View). first_thread y.own) x-is ∙ first-with v.own (at_rest (first_thread v.own)) (loads_of v ++ all) (put_of v + 1) in
      let must : MustRecord tells.says.before (first_thread v.own) asked = subst (λ t. MustRecord tells.says.before t asked) thread (must-record x.map (actor x) tells.says.before tells.sees asked at field word logged.stores logged.crossing) in
      store-barred v x z asked (at_rest (first_thread v.own)) all logged.lasting (put_of v + 1) one x-is (ap loads_of x-is ∙ moved-loads v (at_rest (first_thread v.own)) logged.lasting (loads_of v ++ all) (put_of v + 1) one) tells
      (inl (must, refl, refl))
      (λ m. (logged.shown.0, Contains-append_right cr.more logged.more _ (subst (λ p. WasLoaded logged.more p logged.shown.0) (λ i. logged_at (loads-map v w cr.more cr.lasting cr.view i) (first-w i)) logged.shown.1), logged.shown.2))

-- where none does
module _ (v w : View) (asked : Call) (at field word : ℕ) (one : length v.own ≡ 1) (cr : Crossed v asked at field word false w) where
  pub may-store_bare : IsQuiet v → MayStoreField w.map (actor w) asked at field word
  may-store_bare quiet = record { stores = cr.stores; rests = quiet-rest w (loads-quiet v w cr.more cr.lasting cr.view quiet); recorded = inr (cr.none refl) }

  pub barred_bare : (z : View) → StoredField w (done_by asked) z → StoreBarred v asked z
  barred_bare z tells =
      let thread : (actor w).thread ≡ first_thread v.own = sym (first-actor w) ∙ loads-first v w cr.more cr.lasting cr.view in
      let not : MustRecord tells.says.before (first_thread v.own) asked → ⊥ = λ must. must-not w.map (actor w) tells.says.before tells.sees asked at field word cr.stores (cr.none refl) (subst (λ t. MustRecord tells.says.before t asked) (sym thread) must) in
      store-barred v w z asked (actor v).flight cr.more cr.lasting (put_of v) one cr.view (loads-loads v w cr.more cr.lasting cr.view one) tells
      (inr ((λ must ok. not must), refl))
      (λ must. absurd (not must))
