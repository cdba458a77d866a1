-- The steps of a store: the slot recorded, and the field stored.
use Rattle.std.proofs.Common.{◌≡◌, ◌≢◌, ℕ, ◌+◌, ◌-◌, ◌*◌, ◌≤◌, ◌<◌, Some, List, [], ◌∷◌, ◌++◌, take, length, get_or, set, zero, suc, refl, sym, ap, subst, ◌∙◌, arith, inr, length-set, length-append, get_or-set_same, get_or-set_other}
use Rattle.std.specs.List.{Contains, flat_map, sum_by}
use Rattle.std.proofs.lemmas.List.Elements.{All-cons, All-from_get_or, All-nil, All-set, Contains-append_left, Contains-append_right}
use Rattle.std.proofs.lemmas.List.Sums.{sum_by_more_le}
use Rattle.object_layout.specs.declared.names.Name.{Name}
use Rattle.object_layout.specs.declared.TheConstants.{OBJECT_WORDS}
use Rattle.object_layout.specs.declared.calls.Call.TheVariants as call
use Rattle.object_layout.specs.declared.replies.Reply.TheVariants as reply
use Rattle.heap_words.specs.declared.map.Areas.{Areas}
use Rattle.heap_words.specs.declared.TheConstants.{BUFFER_ENTRIES}
use Rattle.heap_words.specs.Map.{heap_at, heap_length, page_words}
use Rattle.heap_words.specs.Contents.{Contents, buffer_of, contents, with_buffer, with_heap}
use Rattle.heap_words.proofs.Contents.{contents-grow_buffer, contents-set_heap, length-buffers, length-heap}
use Rattle.yak_model.specs.declared.datum.Datum.{Datum}
use Rattle.yak_model.specs.declared.datum.Datum.TheVariants as datum
use Rattle.yak_model.specs.Graph.{Fields, put_field, slot_of, with_object}
use Rattle.yak_model.specs.declared.history.Entry.TheVariants.{Said}
use Rattle.yak_model.specs.Spaces.{SpaceState}
use Rattle.yak_model.specs.State.{State, Thing, object_of, view}
use Rattle.yak_model.specs.Placed.{Places, datum_word, names_of, size_by, used_mark, with_field}
use Rattle.yak_model.specs.Placed as placed
use Rattle.yak_model.specs.Stands.{Stands, StandsAs}
use Rattle.yak_model.specs.Recorded.{Enters, IsRecordedFor, RecordedAs}
use Rattle.yak_model.proofs.Data.{object_fields}
use Rattle.yak_model.proofs.Joined.{stands_stored, stored, view-stored}
use Rattle.yak_model.proofs.Stacks.{slot-fits, slot-word}
use Rattle.yak_model.proofs.Stored.{stands-store}
use Rattle.standing_calls.specs.Records.{Crosses, home_at}
use Rattle.standing_calls.specs.Turned.{KeepsPlaces}
use Rattle.standing_calls.proofs.Homes.{home-shown}
use Rattle.standing_calls.proofs.Logged.{recorded-into, recorded-same}
use Rattle.standing_calls.proofs.Reached.{field_within}
use Rattle.standing_calls.proofs.Steps.{good_slot, thread_in}
use Rattle.standing_calls.proofs.Stores.{keeps-stored, recorded-stored}
use Rattle.calls_in_flight.specs.Flight.{Cover, Flight, IsBare, at_rest, flight_at}
use Rattle.calls_in_flight.specs.Whole.{completed, laid_all, whole}
use Rattle.calls_in_flight.specs.Owning.{IsOwn, in_block, in_entry, in_page}
use Rattle.calls_in_flight.specs.Fits.{FlightFits, FlightsFit, StandInFlight}
use Rattle.calls_in_flight.specs.Stepped.{Stepped}
use Rattle.calls_in_flight.specs.Fields.{Logs, StoresField}
use Rattle.calls_in_flight.specs.Steps.{entry_at, logged_at}
use Rattle.calls_in_flight.proofs.Apart.{Holds, Named, own-kept, page-exists}
use Rattle.calls_in_flight.proofs.Covers.{lifted}
use Rattle.calls_in_flight.proofs.Events.{SameGround, completed-same, fits-bare, no_entry, own-basis, same_flight}
use Rattle.calls_in_flight.proofs.Flights.{IsBareIn, laid_all-set}
use Rattle.calls_in_flight.proofs.Grounds.{fit_at, fits-beside, fits-moved, holds_at, named, sound_under, threads-apart, under}
use Rattle.calls_in_flight.proofs.OwnWords.{own-logged, put-bare, thread_at}
use Rattle.calls_in_flight.proofs.Quiet.{keeps_same, mine-kept, puts_set, puts_still}

-- ---- a field of a present object is no thread's own

-- an object ends at or below its page's used mark
ends_used : (m : Areas) (c : Contents) (s : State) (l : Places) (n : Name) (o : Thing) → StandsAs m c s l → s.objects n ≡ Some o → (q : ℕ) × (page_words m * q ≤ l.at n) × (l.at n + (length o.fields + OBJECT_WORDS) ≤ page_words m * q + used_mark c.table q) × (used_mark c.table q ≤ page_words m)
ends_used m c s l n o h e =
    let at = h.heap.present n o e in
    let q : ℕ = at.0 in
    let k : ℕ = at.1 in
    let size : size_by s.objects n ≡ length o.fields + OBJECT_WORDS = rw e refl in
    let lq : q < m.pages = omega (arith, at.2.page, h.heap.count) in
    let place = h.heap.tiles.places n q k at.2 in
    let more = sum_by_more_le (size_by s.objects) (names_of l q) k n at.2.place in
    let more' : sum_by (size_by s.objects) (take k (names_of l q)) + size_by s.objects n ≤ sum_by (size_by s.objects) (names_of l q) = rw at.2.name at more in
    let mark = h.heap.marks q lq in
    let fits = h.heap.tiles.fits q at.2.page in
    (q, omega (arith, place), omega (arith, place, more', mark, size), omega (arith, mark, fits))

low_word : (m : Areas) (a p i q used end : ℕ) → a ≡ page_words m * p + i → i < page_words m → used ≤ page_words m → page_words m * q ≤ a → a < end → end ≤ page_words m * q + used → (p ≡ q) × (i < used)
low_word m a p i q used end e li few low lt le = (omega arith, omega arith)

-- a word of a present object is no thread's own
pub object-not_own : (m : Areas) (c : Contents) (s : SpaceState) (h : Stands m c s) (f : Flight) (a : ℕ) (n : Name) (o : Thing) (j : ℕ) → Named m c → Holds m c f → object_of s n ≡ Some o → j < length o.fields + OBJECT_WORDS → a ≡ h.places.at n + j → IsOwn m c f (heap_at m + a) → ⊥
object-not_own m c s h f a n o j named holds e lj place (in_block lt gt) = omega (arith, holds.thread.0, holds.thread.1, gt)
object-not_own m c s h f a n o j named holds e lj place (in_entry p i own li is) = omega (arith, is, li, page-exists m c f p named holds own)
object-not_own m c s h f a n o j named holds e lj place (in_page p i own low li is) =
    let u = ends_used m c (view s) h.places n o h.stands e in
    let w = low_word m a p i u.0 (used_mark c.table u.0) (h.places.at n + (length o.fields + OBJECT_WORDS)) (omega (arith, is)) li u.3 (omega (arith, u.1, place)) (omega (arith, place, lj)) u.2 in
    let same : used_mark c.table p ≡ used_mark c.table u.0 = ap (used_mark c.table) w.0 in
    omega (arith, low, w.1, same)

pub field-bare : (m : Areas) (ws : List ℕ) (fs : List Flight) (s : SpaceState) (a : ℕ) (n : Name) (o : Thing) (j : ℕ) → (h : StandInFlight m ws fs s) → object_of s n ≡ Some o → j < length o.fields → a ≡ h.stands.places.at n + OBJECT_WORDS + j → IsBareIn fs (heap_at m + a)
field-bare m ws fs s a n o j h e lj place i li k d lk q =
    let f : Flight = flight_at fs i in
    let own : IsOwn m (whole m ws fs) f (heap_at m + a) = subst (IsOwn m (whole m ws fs) f) q ((fit_at m ws fs i h.fit li).own k d lk) in
    object-not_own m (whole m ws fs) s h.stands f a n o (OBJECT_WORDS + j) (named m ws fs s h.fit h.stands) (holds_at m ws fs s i h.fit h.stands li) e (omega (arith, lj)) (omega (arith, place)) own

-- ---- the slot recorded

-- the words stand as before with another store buffer
stands-buffered : (m : Areas) (c : Contents) (s : State) (l : Places) (t : ℕ) (es : List ℕ) → StandsAs m c s l → length es ≤ BUFFER_ENTRIES → StandsAs m (with_buffer c t es) s l
stands-buffered m c s l t es h few = record {
  heap = h.heap;
  open_spaces = h.open_spaces;
  closed = h.closed;
  stacks = h.stacks;
  depths = h.depths;
  made = h.made;
  serials = h.serials;
  threads = h.threads;
  names = h.names;
  limits = record { depths = h.limits.depths; stacks = h.limits.stacks; buffers = All-set (λ (xs : List ℕ). length xs ≤ BUFFER_ENTRIES) c.buffers (t - 1) es few h.limits.buffers };
  zero = h.zero;
  pool = h.pool;
  currents = h.currents;
  sets = h.sets;
  heads_closed = h.heads_closed;
  dense = h.dense;
}

logged_under : (m : Areas) (ws : List ℕ) (fs : List Flight) (s : SpaceState) (i n k j a : ℕ) (f : Flight) → StandInFlight m ws fs s → Logs m ws fs i n k j a f → (let t = (flight_at fs i).thread in (n ≡ length (buffer_of (under m ws fs) t)) × (under m (set ws (logged_at m t) (n + 1)) (set fs i f) ≡ with_buffer (under m ws fs) t (buffer_of (under m ws fs) t ++ a ∷ [])))
logged_under m ws fs s i n k j a f h g =
    let t : ℕ = (flight_at fs i).thread in
    let lt = g.inside in
    let bare : IsBare (flight_at fs i).covers (logged_at m t) = subst (λ (ks : List Cover). IsBare ks (logged_at m t)) (sym g.covers) (All-cons (λ (x : Cover). x.place ≢ logged_at m t) g.cover [] (λ e. omega (arith, e, g.place)) (All-nil (λ (x : Cover). x.place ≢ logged_at m t))) in
    let count : n ≡ length (buffer_of (under m ws fs) t) = sym g.count ∙ own-logged m ws fs s i h lt bare in
    let put = put-bare m ws fs s i (logged_at m t) (n + 1) f h lt (in_block (omega arith) (omega arith)) (ap (λ (x : Flight). x.covers) g.after) in
    let lift : lifted (flight_at fs i).covers (laid_all fs ws) ≡ set (laid_all fs ws) (entry_at m t n) a = ap (λ (ks : List Cover). lifted ks (laid_all fs ws)) g.covers ∙ ap (λ p. set (laid_all fs ws) p g.cover.stands) g.place ∙ ap (set (laid_all fs ws) (entry_at m t n)) g.word in
    (count, ap (contents m) (put ∙ ap (λ (xs : List ℕ). set xs (logged_at m t) (n + 1)) lift) ∙ contents-grow_buffer m (laid_all fs ws) t a n (thread_at m ws fs s i h lt) (sound_under m ws fs s h.fit h.stands) count g.room)

-- one entry more in the own store buffer, and none in another one
pub logs-buffer : (m : Areas) (ws : List ℕ) (fs : List Flight) (s : SpaceState) (i n k j a : ℕ) (f : Flight) → StandInFlight m ws fs s → Logs m ws fs i n k j a f → (let t = (flight_at fs i).thread in whole m (set ws (logged_at m t) (n + 1)) (set fs i f) ≡ with_buffer (whole m ws fs) t (buffer_of (whole m ws fs) t ++ a ∷ []))
logs-buffer m ws fs s i n k j a f h g =
    let t : ℕ = (flight_at fs i).thread in
    let same = same_flight (flight_at fs i) f [] g.after in
    completed-same fs i f (under m (set ws (logged_at m t) (n + 1)) (set fs i f)) g.inside same.thread same.claimed same.reading ∙ ap (completed fs) (logged_under m ws fs s i n k j a f h g).1

pub log-steps : (m : Areas) (ws : List ℕ) (fs : List Flight) (s : SpaceState) (i n k j a : ℕ) (f : Flight) (h : StandInFlight m ws fs s) → Logs m ws fs i n k j a f → (let t = (flight_at fs i).thread in Stepped m ws (set ws (logged_at m t) (n + 1)) fs (set fs i f) i s h [] 1)
log-steps m ws fs s i n k j a f h g =
    let t : ℕ = (flight_at fs i).thread in
    let now : List ℕ = set ws (logged_at m t) (n + 1) in
    let gs : List Flight = set fs i f in
    let c : Contents = whole m ws fs in
    let u : Contents = under m ws fs in
    let es : List ℕ = buffer_of c t ++ a ∷ [] in
    let e = logged_under m ws fs s i n k j a f h g in
    let is : whole m now gs ≡ with_buffer c t es = logs-buffer m ws fs s i n k j a f h g in
    let l : Places = h.stands.places in
    let ht = thread_at m ws fs s i h g.inside in
    let p = g.field s h.stands in
    let few : length es ≤ BUFFER_ENTRIES = omega (arith, length-append (buffer_of c t) (a ∷ []), e.0, g.room) in
    let room : length (buffer_of c t) < BUFFER_ENTRIES = omega (arith, e.0, g.room) in
    let stands : StandsAs m (with_buffer c t es) (view s) l = stands-buffered m c (view s) l t es h.stands.stands few in
    let recorded : RecordedAs m (with_buffer c t es) (view s) l.at = recorded-into m c (with_buffer c t es) (view s) l.at t a ht (length-buffers m (laid_all fs ws)) (record { room = room; filed = record { firsts = refl; sets = refl }; buffers = refl }) refl (p.name, p.thing, j, p.present, p.within, p.place) h.recorded in
    let basis : SameGround (under m ws fs) (under m now gs) = record { heads = ap (λ (x : Contents). x.heads) e.1; table = ap (λ (x : Contents). x.table) e.1; currents = ap (λ (x : Contents). x.currents) e.1 } in
    let buffers : (whole m now gs).buffers ≡ set c.buffers (t - 1) es = ap (λ (x : Contents). x.buffers) is in
    record {
      after = s;
      turns = refl;
      later = record {
        fit = fits-bare m ws fs s i (logged_at m t) (n + 1) f h g.inside (in_block (omega arith) (omega arith)) (same_flight (flight_at fs i) f [] g.after) (ap (λ (x : Flight). x.covers) g.after) basis;
        stands = record {
          whole = h.stands.whole;
          places = l;
          stands = subst (λ (x : Contents). StandsAs m x (view s) l) (sym is) stands;
        };
        recorded = subst (λ (x : Contents). RecordedAs m x (view s) l.at) (sym is) recorded;
      };
      places = record { kept = λ q o present. (o, present, refl, refl, refl) };
      flights = puts_set fs i f g.inside (ap (λ (x : Flight). x.thread) g.after);
      mine = λ b low own. mine-kept m c (whole m now gs) fs gs i b (puts_set fs i f g.inside (ap (λ (x : Flight). x.thread) g.after)) (keeps_same fs i f g.inside (ap (λ (x : Flight). x.claimed) g.after)) (ap (λ (x : Contents). x.currents) is) (ap (λ (x : Contents). x.table) is) own;
      own = own-basis m ws now fs gs i basis;
      buffers = λ q lq ne.
          let u' : ℕ = (flight_at fs q).thread in
          let far : u' - 1 ≢ t - 1 = λ z. threads-apart m ws fs i q h.fit g.inside lq ne (omega (arith, z, (thread_at m ws fs s q h lq).0, ht.0)) in
          ap (λ (bs : List (List ℕ)). get_or bs (u' - 1) []) buffers ∙ get_or-set_other c.buffers (t - 1) (u' - 1) es [] far;
      logged =
          let own : buffer_of (whole m now gs) t ≡ es = ap (λ (bs : List (List ℕ)). get_or bs (t - 1) []) buffers ∙ get_or-set_same c.buffers (t - 1) es [] (omega (arith, ht.0, ht.1, length-buffers m (laid_all fs ws))) in
          omega (arith, ap (λ (x : List ℕ). length x) own, length-append (buffer_of c t) (a ∷ []));
      table = λ z. ap (λ (x : Contents). x.table) is;
    }

-- ---- the field stored

entry_logged : (bs : List (List ℕ)) (k a : ℕ) → k < length bs → Contains (get_or bs k []) a → Contains (flat_map (λ (b : List ℕ). b) bs) a
entry_logged [] k a lt h = absurd (omega (arith, lt))
entry_logged (b ∷ bs) zero a lt h = Contains-append_left b (flat_map (λ (x : List ℕ). x) bs) a h
entry_logged (b ∷ bs) (suc k) a lt h = Contains-append_right b (flat_map (λ (x : List ℕ). x) bs) a (entry_logged bs k a (omega (arith, lt)) h)

-- the words after the store
stored_under : (m : Areas) (ws : List ℕ) (fs : List Flight) (s : SpaceState) (i k j x a w : ℕ) → StandInFlight m ws fs s → StoresField m ws fs i k j x a w → under m (set ws (heap_at m + a) w) fs ≡ with_heap (under m ws fs) a w
stored_under m ws fs s i k j x a w h g =
    let p = g.field s h.stands in
    let bare = field-bare m ws fs s a p.name p.thing j h p.present p.within p.place in
    ap (contents m) (laid_all-set fs ws (heap_at m + a) w bare) ∙ contents-set_heap m (laid_all fs ws) a w (field_within m (whole m ws fs) s h.stands (flight_at fs i).thread k j a p)

-- all calls in flight fit after a store of a field
stores-fit : (m : Areas) (ws : List ℕ) (fs : List Flight) (s : SpaceState) (i k j x a w : ℕ) → StandInFlight m ws fs s → StoresField m ws fs i k j x a w → FlightsFit m (set ws (heap_at m + a) w) fs
stores-fit m ws fs s i k j x a w h g =
    let now : List ℕ = set ws (heap_at m + a) w in
    let p = g.field s h.stands in
    let bare = field-bare m ws fs s a p.name p.thing j h p.present p.within p.place in
    let e = stored_under m ws fs s i k j x a w h g in
    let c : Contents = whole m ws fs in
    let d : Contents = whole m now fs in
    let ec : d.currents ≡ c.currents = ap (λ (y : Contents). y.currents) e in
    let et : d.table ≡ c.table = ap (λ (y : Contents). y.table) e in
    let eh : (under m now fs).heads ≡ (under m ws fs).heads = ap (λ (y : Contents). y.heads) e in
    record {
      areas = h.fit.areas;
      long = length-set ws (heap_at m + a) w ∙ h.fit.long;
      fit = All-from_get_or (FlightFits m now d) fs (at_rest 0) (λ q lq. fits-moved m now c d (flight_at fs q) (λ b o. own-kept m c d (flight_at fs q) b ec et o) (fits-beside m ws c (flight_at fs q) (heap_at m + a) w (bare q lq) (fit_at m ws fs q h.fit lq)));
      threads = h.fit.threads;
      few = h.fit.few;
      within = rw eh h.fit.within;
      passed = rw eh h.fit.passed;
    }

pub store-steps : (m : Areas) (ws : List ℕ) (fs : List Flight) (s : SpaceState) (i k j x a w : ℕ) (h : StandInFlight m ws fs s) → StoresField m ws fs i k j x a w → Stepped m ws (set ws (heap_at m + a) w) fs fs i s h (Said (flight_at fs i).thread (call.Store k j x) reply.Ok ∷ []) 0
store-steps m ws fs s i k f x a w h g =
    let t : ℕ = (flight_at fs i).thread in
    let now : List ℕ = set ws (heap_at m + a) w in
    let c : Contents = whole m ws fs in
    let d : Contents = whole m now fs in
    let hs = h.stands in
    let l : Places = hs.places in
    let at : Name → ℕ = l.at in
    let ht = thread_at m ws fs s i h g.inside in
    let p = g.field s hs in
    let v : Datum = slot_of s.graph t x in
    let word : w ≡ datum_word at v = g.word ∙ slot-word m c s hs t x in
    let long : length c.heap ≡ heap_length m = length-heap m (laid_all fs ws) (sound_under m ws fs s h.fit hs).whole in
    let inside : at p.name + OBJECT_WORDS + f < length c.heap = omega (arith, long, p.place, field_within m c s hs t k f a p) in
    let second = stands-store m c (view s) l p.name p.thing f v hs.stands p.present p.within (slot-fits m c s hs t x) inside in
    let is : d ≡ with_heap c a w = ap (completed fs) (stored_under m ws fs s i k f x a w h g) in
    let there : d ≡ with_heap c (at p.name + OBJECT_WORDS + f) (datum_word at v) = is ∙ ap (λ y. with_heap c y w) p.place ∙ ap (with_heap c (at p.name + OBJECT_WORDS + f)) word in
    let next : SpaceState = stored s p.name (set p.thing.fields f v) in
    let shown = view-stored s p.name p.thing (set p.thing.fields f v) p.present in
    let later : Stands m d next = record {
      whole = (stands_stored m c s hs p.name p.thing f v p.present p.within (slot-fits m c s hs t x) inside).whole;
      places = l;
      stands = subst (λ (y : State). StandsAs m d y l) (sym shown) (subst (λ (y : Contents). StandsAs m y (let u = view s in record u { objects = placed.with_object u.objects p.name (with_field p.thing f v) }) l) (sym there) second);
    } in
    let put : next.graph ≡ put_field s.graph (slot_of s.graph t k) f v = ap (λ (vs : List Datum). with_object s.graph p.name (Fields (set vs f v))) (sym (object_fields s p.name p.thing p.present)) ∙ ap (λ (o : Datum). put_field s.graph o f v) (sym p.refers) in
    let new : (y : Name) (o : Thing) → v ≡ datum.Object y → object_of s y ≡ Some o → Enters p.thing.home o.home → IsRecordedFor m c.firsts c.sets c.buffers o.home (at p.name + OBJECT_WORDS + f) = λ y o e present enters.
    let out : home_at s (slot_of s.graph t k) ≡ Some p.thing.home = ap (home_at s) p.refers ∙ home-shown s p.name p.thing p.present in
    let into : home_at s (slot_of s.graph t x) ≡ Some o.home = ap (home_at s) e ∙ home-shown s y o present in
    let crossed : Crosses (home_at s (slot_of s.graph t k)) (home_at s (slot_of s.graph t x)) = rw (out, into) enters in
    let among : Contains (flat_map (λ (b : List ℕ). b) c.buffers) a = entry_logged c.buffers (t - 1) a (omega (arith, ht.0, ht.1, length-buffers m (laid_all fs ws))) (g.logged s hs crossed) in
    subst (IsRecordedFor m c.firsts c.sets c.buffers o.home) p.place (inr among)
    in
    let recorded : RecordedAs m (with_heap c a w) (let u = view s in record u { objects = placed.with_object u.objects p.name (with_field p.thing f v) }) at = recorded-same m c (with_heap c a w) _ at (record { filed = record { firsts = refl; sets = refl }; buffers = refl; readers = refl }) (recorded-stored m c (view s) at p.name p.thing f v p.present p.within new h.recorded) in
    record {
      after = next;
      turns = (next, (thread_in m c s hs t ht, rw (good_slot m c s hs t x g.slot, p.reached) (refl, put), refl, tt), refl);
      later = record {
        fit = stores-fit m ws fs s i k f x a w h g;
        stands = later;
        recorded = subst (λ (y : State). RecordedAs m d y at) (sym shown) (subst (λ (y : Contents). RecordedAs m y (let u = view s in record u { objects = placed.with_object u.objects p.name (with_field p.thing f v) }) at) (sym is) recorded);
      };
      places = subst (λ (y : State). KeepsPlaces (view s) at y at) (sym shown) (keeps-stored (view s) at p.name p.thing (with_field p.thing f v) p.present refl (length-set p.thing.fields f v));
      flights = puts_still fs i;
      mine = λ b low own. own-kept m c d (flight_at fs i) b (ap (λ (y : Contents). y.currents) is) (ap (λ (y : Contents). y.table) is) own;
      own = λ q b lq ne own. own-kept m c d (flight_at fs q) b (ap (λ (y : Contents). y.currents) is) (ap (λ (y : Contents). y.table) is) own;
      buffers = λ q lq ne. ap (λ (y : Contents). buffer_of y (flight_at fs q).thread) is;
      logged = omega (arith, ap (λ (y : Contents). length (buffer_of y t)) is);
      table = λ z. absurd (no_entry (Said t (call.Store k f x) reply.Ok) z);
    }
