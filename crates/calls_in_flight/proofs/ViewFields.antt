-- Loads and stores of fields by a view.
use Rattle.std.proofs.Common.{◌≡◌, ◌≢◌, ℕ, ◌+◌, ◌*◌, ◌-◌, ◌<◌, List, [], ◌∷◌, ◌++◌, Some, None, Option, length, get_or, set, refl, sym, ap, subst, ◌∙◌, arith, inr, get_or-set_same, length-append}
use Rattle.std.specs.Prelude.{MatchOption}
use Rattle.std.specs.List.{All, Contains}
use Rattle.std.proofs.lemmas.Bool.{cases_eq}
use Rattle.std.proofs.lemmas.List.Elements.{All-cons, All-nil, Contains-get_or}
use Rattle.std.proofs.Math.Logic.{⊎_elim}
use Rattle.object_layout.specs.declared.TheConstants.{OBJECT_WORDS}
use Rattle.object_layout.specs.declared.calls.Call.{Call}
use Rattle.object_layout.specs.declared.calls.Call.TheVariants.{Load, Store}
use Rattle.object_layout.specs.declared.headers.Header.{Header}
use Rattle.object_layout.specs.declared.replies.Refusal.{Refusal}
use Rattle.object_layout.specs.declared.replies.Reply.TheVariants as reply
use Rattle.object_layout.specs.Layout.{IsHeader, header_word}
use Rattle.heap_words.specs.declared.map.Areas.{Areas}
use Rattle.heap_words.specs.Map.{heap_at, heap_length}
use Rattle.heap_words.specs.Contents.{Contents, buffer_of, stack_of}
use Rattle.heap_words.proofs.Contents.{buffer_of-fits, buffer_of-length_word, buffer_of-word}
use Rattle.epoch_lattice.specs.declared.Space.{Space}
use Rattle.epoch_lattice.specs.declared.Space.TheVariants.{Control, Region}
use Rattle.epoch_lattice.specs.Lattice.{space_index}
use Rattle.epoch_lattice.proofs.Numbers.{number-own}
use Rattle.yak_model.specs.declared.datum.Datum.{Datum}
use Rattle.yak_model.specs.declared.datum.Datum.TheVariants as datum
use Rattle.yak_model.specs.declared.history.Entry.{Entry}
use Rattle.yak_model.specs.declared.history.Entry.TheVariants.{Said}
use Rattle.yak_model.specs.Graph.{Graph, Thread, fields_at, idle, push, refusal_of, slot_of, thread_of}
use Rattle.yak_model.specs.Placed.{datum_word}
use Rattle.yak_model.specs.Recorded.{Enters}
use Rattle.yak_model.specs.Spaces.{SpaceState, TurnsAll}
use Rattle.yak_model.specs.State.{IsDatum, Thing, object_of, view}
use Rattle.yak_model.specs.Stands.{Stands}
use Rattle.yak_model.proofs.Data.{home-index, some-of}
use Rattle.standing_calls.specs.Fields.{IsFieldOf}
use Rattle.standing_calls.specs.Records.{Crosses, IsWordOf, home_at}
use Rattle.standing_calls.proofs.Homes.{home-open, home-shown, homed, no_home, slot_value, space_told}
use Rattle.standing_calls.proofs.Loads.{field_word}
use Rattle.standing_calls.proofs.Told.{space-valid}
use Rattle.calls_in_flight.specs.Actors.{Actor, HasSpace, RefersTo, Shows}
use Rattle.calls_in_flight.specs.Differing.{MayDiffer, loaded_length, loaded_slot}
use Rattle.calls_in_flight.specs.FieldSteps.{IsLogged, IsWordFor, LoadsFrom, MayStoreField, MeetsCrossing, MeetsNone, StoresInto, crosses_not, in_control, length_loaded, no_reference, slot_loaded}
use Rattle.calls_in_flight.specs.Fields.{IsEntered, LoadsField, StoresField}
use Rattle.calls_in_flight.specs.Fits.{StandInFlight}
use Rattle.calls_in_flight.specs.Flight.{Cover, Flight, IsBare, Reading, at_rest, flight_at}
use Rattle.calls_in_flight.specs.Kinds as kinds
use Rattle.calls_in_flight.specs.Kinds.{IsStep}
use Rattle.calls_in_flight.specs.Knowing.{IsLasting, IsSteady, Known, Knows, of_object}
use Rattle.calls_in_flight.specs.Steps.{entry_at, length_at, logged_at, slot_at}
use Rattle.calls_in_flight.specs.Stepped.{Stepped}
use Rattle.calls_in_flight.specs.Whole.{laid_all, whole}
use Rattle.calls_in_flight.proofs.Acting.{Acts, IsPlace, LoadsValue, Moves, StoresValue, acting_in, place_of}
use Rattle.calls_in_flight.proofs.Grounds.{sound_under}
use Rattle.calls_in_flight.proofs.Keeping.{step-keeps}
use Rattle.calls_in_flight.proofs.Knowing.{knows-own_still, object-word}
use Rattle.calls_in_flight.proofs.ViewActs.{contains-front, inside}
use Rattle.calls_in_flight.proofs.ViewPushes.{bare-length, ends-call}
use Rattle.calls_in_flight.proofs.ViewReach.{loads-in, stores-in}
use Rattle.calls_in_flight.proofs.ViewSees.{sees, word-for}
use Rattle.calls_in_flight.proofs.ViewWords.{header-same, length-told, own-in_block, shows-word, slot-shown, stood}

-- ---- what a reference crosses

crosses_none : (from to : Option Space) → to ≡ None → Crosses from to → ⊥
crosses_none (Some x) None e crosses = crosses
crosses_none (Some x) (Some y) e crosses = cc
crosses_none None to e crosses = crosses

crosses_control : (from to : Option Space) → to ≡ Some Control → Crosses from to → ⊥
crosses_control (Some x) None e crosses = crosses
crosses_control (Some x) (Some y) e crosses = crosses.0 (let z : y ≡ Control = cc in z)
crosses_control None to e crosses = crosses

crosses_both : (from to : Option Space) (x y : Space) → from ≡ Some x → to ≡ Some y → Crosses from to → Enters x y
crosses_both from to x y e f crosses = subst (λ (o : Option Space). Crosses (Some x) o) f (subst (λ (o : Option Space). Crosses o to) e crosses)

-- the region of another thread that a reference to a space enters
entered-space : (t : ℕ) (x : Space) → (reading : Option Reading) × IsEntered t (Some x) reading
entered-space t Control = (None, λ u d e. absurd (let z : Control ≡ Region u d = cc in let r : ⊥ = cc in r))
entered-space t (Region u d) = ⊎_elim
    (λ (e : u ≡ t). (None, λ v b z. (let q : u ≡ v = cc in sym q ∙ e)))
    (λ (ne : u ≢ t). (Some (record { owner = u; depth = d }), (refl, ne)))
    (cases_eq u t)

module _ (m : Areas) (ws : List ℕ) (fs : List Flight) (s : SpaceState) (h : StandInFlight m ws fs s) (a : Actor) (acts : Acts m ws fs s h a) where
  -- ---- spaces

  -- the space of an object to which it refers, in each state for which the words stand
  home-in : (r : SpaceState) (g : Stands m (whole m ws fs) r) (k at : ℕ) (x : Space) → RefersTo m a k at → HasSpace m a at x → home_at r (slot_of r.graph a.thread k) ≡ Some x
  home-in r g k at x ref has =
      let o = stood m ws fs s h a acts r g k at ref in
      let own = (home-open m (whole m ws fs) r g o.name o.thing h.fit.areas o.present).1 in
      let index = (header-same m ws fs s h a acts r g k at (record { fields = has.0; space = space_index x }) ref has.2).1 in
      let one : o.thing.home ≡ x = number-own o.thing.home x (space-valid m o.thing.home h.fit.areas own) has.1 (sym index) in
      ap (home_at r) o.refers ∙ home-shown r o.name o.thing o.present ∙ ap Some one

  -- the space to which a word leads is the same in each of them
  led_in : (r : SpaceState) (g : Stands m (whole m ws fs) r) (word : ℕ) (u : IsWordOf s h.stands.places.at word) (v : IsWordOf r g.places.at word) (d : Datum) → u.value ≡ d → home_at s u.value ≡ home_at r v.value
  led_in r g word u v datum.Null e =
      let none : word ≡ 0 = u.laid ∙ ap (datum_word h.stands.places.at) e in
      sym (no_home m (whole m ws fs) s h.stands word u h.fit.areas (λ to le z. omega (arith, none, z))) ∙ no_home m (whole m ws fs) r g word v h.fit.areas (λ to le z. omega (arith, none, z))
  led_in r g word u v (datum.Int i) e =
      let odd : word ≡ 2 * i + 1 = u.laid ∙ ap (datum_word h.stands.places.at) e in
      sym (no_home m (whole m ws fs) s h.stands word u h.fit.areas (λ to le z. omega (arith, odd, z))) ∙ no_home m (whole m ws fs) r g word v h.fit.areas (λ to le z. omega (arith, odd, z))
  led_in r g word u v (datum.Object n) e =
      let to : ℕ = h.stands.places.at n in
      let leads : word ≡ 2 * (to + 1) = u.laid ∙ ap (datum_word h.stands.places.at) e in
      let p = homed m (whole m ws fs) s h.stands word to u h.fit.areas leads in
      let told : Header = record { fields = length p.thing.fields; space = space_index p.thing.home } in
      let read : ℕ = get_or (whole m ws fs).heap to 0 in
      sym (space_told m (whole m ws fs) s h.stands word to read u told h.fit.areas leads refl p.is_header (sym p.header)) ∙ space_told m (whole m ws fs) r g word to read v told h.fit.areas leads refl p.is_header (sym p.header)

  -- ---- a store

  -- the slot stands in its store buffer
  logged-in : (entry : ℕ) → IsLogged m a entry → Contains (buffer_of (whole m ws fs) a.thread) entry
  logged-in entry x =
      let t : ℕ = a.thread in
      let n : ℕ = x.0 in
      let k : ℕ = x.1 in
      let sound = sound_under m ws fs s h.fit h.stands in
      let count : n ≡ length (buffer_of (whole m ws fs) t) = sym (shows-word m ws fs s h a acts (logged_at m t) n (own-in_block m ws fs s h a acts (logged_at m t) (omega arith) (omega arith)) x.2) ∙ buffer_of-length_word m (laid_all fs ws) t acts.thread sound in
      let lt : k < length (buffer_of (whole m ws fs) t) = omega (arith, count, x.3) in
      let few = buffer_of-fits m (laid_all fs ws) t acts.thread sound in
      let is : get_or (buffer_of (whole m ws fs) t) k 0 ≡ entry = sym (buffer_of-word m (laid_all fs ws) t k acts.thread sound lt) ∙ shows-word m ws fs s h a acts (entry_at m t k) entry (own-in_block m ws fs s h a acts (entry_at m t k) (omega arith) (omega (arith, lt, few))) x.4 in
      subst (Contains (buffer_of (whole m ws fs) t)) is (Contains-get_or (buffer_of (whole m ws fs) t) k 0 lt)

  -- the value's slot refers to where its word leads
  value-refers : (asked : Call) (at field word to : ℕ) (x : StoresInto m a asked at field word) → word ≡ 2 * (to + 1) → RefersTo m a x.from to
  value-refers asked at field word to x leads =
      let c : Contents = whole m ws fs in
      let v = slot_value m c s h.stands a.thread x.from word (sym (slot-shown m ws fs s h a acts x.from word x.there x.value)) in
      record {
        slot = x.there;
        word = subst (Shows a (slot_at m a.thread x.from)) leads x.value;
        within = (homed m c s h.stands word to v h.fit.areas leads).within;
      }

  -- a reference that doesn't cross by the headers that it has met crosses in no state for which the words stand
  crosses-not : (asked : Call) (at field word : ℕ) (x : StoresInto m a asked at field word) → MeetsNone m a at word → (r : SpaceState) → Stands m (whole m ws fs) r → Crosses (home_at r (slot_of r.graph a.thread x.slot)) (home_at r (slot_of r.graph a.thread x.from)) → ⊥
  crosses-not asked at field word x (no_reference never) r g crosses =
      let v = slot_value m (whole m ws fs) r g a.thread x.from word (sym (slot-shown m ws fs s h a acts x.from word x.there x.value)) in
      crosses_none (home_at r (slot_of r.graph a.thread x.slot)) (home_at r (slot_of r.graph a.thread x.from)) (sym (no_home m (whole m ws fs) r g word v h.fit.areas (λ to le e. never to e))) crosses
  crosses-not asked at field word x (in_control to leads has) r g crosses =
      crosses_control (home_at r (slot_of r.graph a.thread x.slot)) (home_at r (slot_of r.graph a.thread x.from)) (home-in r g x.from to Control (value-refers asked at field word to x leads) has) crosses
  crosses-not asked at field word x (crosses_not to y z leads from into never) r g crosses =
      never (crosses_both (home_at r (slot_of r.graph a.thread x.slot)) (home_at r (slot_of r.graph a.thread x.from)) y z (home-in r g x.slot at y x.refers from) (home-in r g x.from to z (value-refers asked at field word to x leads) into) crosses)

  -- the heap word of a field
  field-place : (at field : ℕ) → at + OBJECT_WORDS + field < heap_length m → IsPlace m (heap_at m + (at + OBJECT_WORDS + field))
  field-place at field lt = (omega arith, omega (arith, lt))

  pub stores_value : (asked : Call) (at field word : ℕ) → MayStoreField m a asked at field word → StoresValue m ws fs s h a asked at field word
  stores_value asked at field word may =
      let i : ℕ = place_of a in
      let x = may.stores in
      let t : ℕ = a.thread in
      let c : Contents = whole m ws fs in
      let A : ℕ = at + OBJECT_WORDS + field in
      let now : List ℕ = set ws (heap_at m + A) word in
      let told : Call = Store x.slot field x.from in
      let stands : StoresField m ws fs i x.slot field x.from A word = record {
        inside = inside m ws fs s h a acts;
        covers = ap (λ (y : Flight). y.covers) (acts.flight ∙ may.rests);
        field = stores-in m ws fs s h a acts asked at field word x;
        slot = subst (λ u. x.from < length (stack_of c u)) (sym acts.numbered) (omega (arith, x.there, length-told m ws fs s h a acts));
        word = subst (λ u. word ≡ get_or (stack_of c u) x.from 0) (sym acts.numbered) (sym (slot-shown m ws fs s h a acts x.from word x.there x.value));
        logged = subst (λ u. (r : SpaceState) → Stands m c r → Crosses (home_at r (slot_of r.graph u x.slot)) (home_at r (slot_of r.graph u x.from)) → Contains (buffer_of c u) A) (sym acts.numbered)
            (λ r g crosses. ⊎_elim
            (λ (y : MeetsCrossing m a at word × IsLogged m a A). logged-in A y.1)
            (λ (y : MeetsNone m a at word). absurd (crosses-not asked at field word x y r g crosses))
            may.recorded);
      } in
      let step : IsStep m ws fs i now fs (Said t told reply.Ok ∷ []) 0 = subst (λ u. IsStep m ws fs i now fs (Said u told reply.Ok ∷ []) 0) acts.numbered (kinds.stores x.slot field x.from A word stands) in
      subst (λ (k : Call). StoresValue m ws fs s h a k at field word) (sym x.call)
      (record {
        is_place = field-place at field x.within;
        moves = ends-call m ws fs s h a acts now fs (Said t told reply.Ok ∷ []) step (acts.flight ∙ may.rests);
      })

  -- ---- a load

  -- where the word of a value leads, and of what the thread becomes a reader for it
  record Led (word : ℕ) (value : Datum) : Type 0 where
    pub lasting : List Known
    pub knows : Knows m ws fs s h (place_of a) lasting
    pub steady : All (λ (k : Known). IsSteady m (view s) h.stands.places.at k.place) lasting
    pub reading : Option Reading
    pub entered : IsEntered a.thread (home_at s value) reading
    pub leads : (to : ℕ) → word ≡ 2 * (to + 1) → (x : Space) × HasSpace m (record a { lasting = lasting }) to x × IsEntered a.thread (Some x) reading
    pub leads_not : ((to : ℕ) → word ≢ 2 * (to + 1)) → reading ≡ None

  abbrev K : Known → Type 0
  K k = (get_or ws k.place 0 ≡ k.word) × IsLasting m ws fs s h (place_of a) k.place

  -- the value is no reference
  led_nowhere : (word : ℕ) (value : Datum) → home_at s value ≡ None → ((to : ℕ) → word ≢ 2 * (to + 1)) → Led word value
  led_nowhere word value none never = record {
    lasting = [];
    knows = All-nil (λ (k : Known). (get_or ws k.place 0 ≡ k.word) × IsLasting m ws fs s h (place_of a) k.place);
    steady = All-nil (λ (k : Known). IsSteady m (view s) h.stands.places.at k.place);
    reading = None;
    entered = λ u d e. absurd (let z : None ≡ Some (Region u d) = sym none ∙ e in cc);
    leads = λ to e. absurd (never to e);
    leads_not = λ z. refl;
  }

  led : (word : ℕ) (value : Datum) → IsDatum (object_of s) value → word ≡ datum_word h.stands.places.at value → Led word value
  led word datum.Null fits laid = led_nowhere word datum.Null refl (λ to e. omega (arith, laid, e))
  led word (datum.Int i) fits laid = led_nowhere word (datum.Int i) refl (λ to e. omega (arith, laid, e))
  led word (datum.Object n) fits laid =
      let c : Contents = whole m ws fs in
      let at = h.stands.places.at in
      let some = some-of (object_of s n) fits in
      let o : Thing = some.0 in
      let is : object_of s n ≡ Some o = some.1 in
      let x : Space = o.home in
      let header : Header = record { fields = length o.fields; space = space_index x } in
      let is_header : IsHeader header = ((h.stands.stands.closed.fields n o is).1, home-index m c (view s) h.stands.places n o h.fit.areas h.stands.stands is) in
      let known : Known = record { place = heap_at m + at n; word = header_word header } in
      let lasting : List Known = known ∷ [] in
      let front : at n + 0 ≡ at n = omega arith in
      let word_is : get_or ws (heap_at m + at n) 0 ≡ header_word header =
      ap (λ y. get_or ws (heap_at m + y) 0) (sym front) ∙ object-word m ws fs s h n o 0 is (omega arith) ∙ ap (λ y. get_or c.heap y 0) front ∙ (h.stands.stands.heap.held n o is).header in
      let steady : IsSteady m (view s) at (heap_at m + at n) = of_object n o 0 is (omega arith) (omega arith) in
      let own = (home-open m c s h.stands n o h.fit.areas is).1 in
      let home : home_at s (datum.Object n) ≡ Some x = home-shown s n o is in
      let r = entered-space a.thread x in
      record {
        lasting = lasting;
        knows = All-cons K known [] (word_is, inr steady) (All-nil K);
        steady = All-cons (λ (k : Known). IsSteady m (view s) at k.place) known [] steady (All-nil (λ (k : Known). IsSteady m (view s) at k.place));
        reading = r.0;
        entered = subst (λ (y : Option Space). IsEntered a.thread y r.0) (sym home) r.1;
        leads = λ to e.
            let same : at n ≡ to = omega (arith, laid, e) in
            let has : HasSpace m (record a { lasting = lasting }) (at n) x = (length o.fields, space-valid m x h.fit.areas own, (is_header, contains-front known [])) in
            (x, subst (λ y. HasSpace m (record a { lasting = lasting }) y x) same has, r.1);
        leads_not = λ never. absurd (never (at n) laid);
      }

  -- the thread has the value on its stack then
  pushed-told : (slot field : ℕ) (value : Datum) (after : SpaceState) → refusal_of s.graph a.thread (Load slot field) ≡ None → value ≡ get_or (fields_at s.graph (slot_of s.graph a.thread slot)) field datum.Null → TurnsAll s (Said a.thread (Load slot field) reply.Ok ∷ []) after
      → thread_of after.graph a.thread ≡ record { stack = a.told.stack ++ value ∷ []; depth = a.told.depth; made = a.told.made }
  pushed-told slot field value after none is turns =
      let t : ℕ = a.thread in
      let g = s.graph in
      let mid : SpaceState = turns.0 in
      let turn = turns.1 in
      let v : Datum = get_or (fields_at g (slot_of g t slot)) field datum.Null in
      let does = subst (λ (o : Option Refusal). MatchOption o ((reply.Ok ≡ reply.Ok) × (mid.graph ≡ push g t v)) (λ why. (reply.Ok ≡ reply.Refused why) × (mid.graph ≡ g))) none turn.1 in
      let put : Thread = record (thread_of g t) { stack = (thread_of g t).stack ++ v ∷ [] } in
      ap (λ (r : SpaceState). thread_of r.graph t) turns.2
      ∙ ap (λ (r : Graph). thread_of r t) does.1
      ∙ get_or-set_same g.threads (t - 1) put idle (omega (arith, turn.0.0, turn.0.1))
      ∙ ap (λ (w : Datum). record (thread_of g t) { stack = (thread_of g t).stack ++ w ∷ [] }) (sym is)
      ∙ ap (λ (x : Thread). record x { stack = x.stack ++ value ∷ [] }) acts.told

  pub loads_value : (asked : Call) (at field : ℕ) → LoadsFrom m a asked at field → LoadsValue m ws fs s h a asked at field
  loads_value asked at field x =
      let i : ℕ = place_of a in
      let t : ℕ = a.thread in
      let F : Flight = flight_at fs i in
      let c : Contents = whole m ws fs in
      let li = inside m ws fs s h a acts in
      let A : ℕ = at + OBJECT_WORDS + field in
      let word : ℕ = get_or ws (heap_at m + A) 0 in
      let n : ℕ = length a.told.stack in
      let told : Call = Load x.slot field in
      let rests : F ≡ at_rest t = acts.flight ∙ x.rests in
      let reach = loads-in m ws fs s h a acts asked at field x in
      let p : IsFieldOf s h.stands.places.at t x.slot field A = subst (λ u. IsFieldOf s h.stands.places.at u x.slot field A) acts.numbered (reach.0 s h.stands) in
      let put_at : heap_at m + A ≡ heap_at m + (h.stands.places.at p.name + (OBJECT_WORDS + field)) = omega (arith, p.place) in
      let back : h.stands.places.at p.name + (OBJECT_WORDS + field) ≡ A = omega (arith, p.place) in
      let read : word ≡ get_or c.heap A 0 = ap (λ y. get_or ws y 0) put_at ∙ object-word m ws fs s h p.name p.thing (OBJECT_WORDS + field) p.present (omega (arith, p.within)) ∙ ap (λ y. get_or c.heap y 0) back in
      let u : IsWordOf s h.stands.places.at word = field_word m c s h.stands t x.slot field A word p read in
      let value : Datum = u.value in
      let l : Led word value = led word value u.fits u.laid in
      let above : ℕ = get_or ws (slot_at m t n) 0 in
      let f : Flight = record (at_rest t) { covers = slot_loaded m a above word ∷ length_loaded m a ∷ []; reading = l.reading } in
      let bare : IsBare a.flight.covers (length_at m t) = subst (λ (y : Flight). IsBare y.covers (length_at m t)) (sym x.rests) (All-nil (λ (k : Cover). k.place ≢ length_at m t)) in
      let loads : LoadsField m ws fs i n x.slot field A (home_at s value) f = record {
        inside = li;
        covers = ap (λ (y : Flight). y.covers) rests;
        none = ap (λ (y : Flight). y.reading) rests;
        count = subst (λ v. get_or ws (length_at m v) 0 ≡ n) (sym acts.numbered) (bare-length m ws fs s h a acts bare);
        room = omega (arith, reach.1, length-told m ws fs s h a acts);
        field = reach.0;
        told = λ r g v. led_in r g word u v value refl;
        reading = l.reading;
        entered = subst (λ v. IsEntered v (home_at s value) l.reading) (sym acts.numbered) l.entered;
        after = ap (λ (y : Flight). record y {
          covers = record { place = slot_at m y.thread n; stands = get_or ws (slot_at m y.thread n) 0; shown = word } ∷ record { place = length_at m y.thread; stands = n; shown = n + 1 } ∷ [];
          reading = l.reading;
        }) (sym rests);
      } in
      let gs : List Flight = set fs i f in
      let done : List Entry = Said t told reply.Ok ∷ [] in
      let step : IsStep m ws fs i ws gs done 0 = subst (λ v. IsStep m ws fs i ws gs (Said v told reply.Ok ∷ []) 0) acts.numbered (kinds.loads n x.slot field A (home_at s value) f loads) in
      let st : Stepped m ws ws fs gs i s h done 0 = step-keeps m ws fs i s h ws gs done 0 step in
      let none : refusal_of s.graph t told ≡ None = subst (λ (k : Call). refusal_of s.graph t k ≡ None) x.call (x.let_ s.graph (sees m ws fs s h a acts).agrees) in
      let pushed = pushed-told x.slot field value st.after none refl st.turns in
      let b : Actor = acting_in a st.after f l.lasting in
      let long : length b.told.stack ≡ n + 1 = ap (λ (y : Thread). length y.stack) pushed ∙ length-append a.told.stack (value ∷ []) in
      let moves : Moves m ws ws fs gs s h a f done 0 l.lasting = record {
        step = step;
        stepped = st;
        flight = get_or-set_same fs i f (at_rest 0) li;
        knows = knows-own_still m ws fs gs i s h done 0 l.lasting st (λ j d lj. inr (l.steady j d lj)) l.knows;
        differs = All-cons (MayDiffer m b) (slot_loaded m a above word) (length_loaded m a ∷ []) (loaded_slot n long refl) (All-cons (MayDiffer m b) (length_loaded m a) [] (loaded_length refl (sym long) (sym long)) (All-nil (MayDiffer m b)));
      } in
      subst (λ (k : Call). LoadsValue m ws fs s h a k at field) (sym x.call)
      (record {
        is_place = field-place at field x.within;
        flight = f;
        others = gs;
        lasting = l.lasting;
        value = value;
        moves = moves;
        pushed = pushed;
        loaded = record {
          is_word = subst (IsWordFor m value) (sym u.laid) (word-for m ws fs s h a acts value u.fits);
          above = above;
          reading = l.reading;
          flight = refl;
          leads = l.leads;
          leads_not = l.leads_not;
        };
      })
