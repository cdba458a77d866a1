-- What a thread knows stays so while the others step.
use Rattle.region_pages.specs.declared.TheConstants.{CLAIM_COUNTER}
use Rattle.heap_words.proofs.Contents.{contents-get_heap}
use Rattle.calls_in_flight.proofs.Flights.{IsBareIn, laid_all-bare}
use Rattle.std.specs.Prelude.{IfSome}
use Rattle.std.proofs.Common.{◌≡◌, ◌≢◌, ◌⊎◌, ℕ, ◌+◌, ◌≤◌, ◌<◌, Some, List, [], length, get_or, set, refl, sym, ap, subst, ◌∙◌, arith, inl, inr, get_or-set_same, get_or-set_other, ◌∷◌, ◌^◌, Option, bit_or, ◌-◌}
use Rattle.std.specs.List.{Contains, All}
use Rattle.std.proofs.lemmas.List.Elements.{All-contains, All-cons, All-head}
use Rattle.std.proofs.Math.Logic.{⊎_elim}
use Rattle.object_layout.specs.declared.names.Name.{Name}
use Rattle.object_layout.specs.declared.TheConstants.{OBJECT_WORDS}
use Rattle.object_layout.specs.declared.calls.Call.TheVariants as call
use Rattle.object_layout.specs.declared.replies.Reply.TheVariants as reply
use Rattle.heap_words.specs.declared.map.Areas.{Areas}
use Rattle.heap_words.specs.declared.TheConstants.{HEAD_WORDS}
use Rattle.heap_words.specs.Map.{heap_at, page_words, pool_at, table_at, total_of, HasRegion, readers_at}
use Rattle.yak_model.specs.declared.history.Entry.{Entry}
use Rattle.yak_model.specs.declared.history.Entry.TheVariants.{Said}
use Rattle.yak_model.specs.Spaces.{SpaceState}
use Rattle.yak_model.specs.State.{State, Thing, view}
use Rattle.yak_model.specs.Placed.{size_by}
use Rattle.yak_model.proofs.Data.{in_heap}
use Rattle.yak_model.proofs.Names.{same_or_other}
use Rattle.yak_model.proofs.Placed.{apart}
use Rattle.standing_calls.specs.Turned.{KeepsPlaces}
use Rattle.calls_in_flight.specs.Flight.{Flight, flight_at, Cover, Reading}
use Rattle.calls_in_flight.specs.Whole.{whole, laid_all}
use Rattle.calls_in_flight.specs.Owning.{IsOwn, in_block}
use Rattle.calls_in_flight.specs.Fits.{StandInFlight}
use Rattle.calls_in_flight.specs.Stepped.{Stepped}
use Rattle.calls_in_flight.specs.Kinds.{IsStep, begins, claims, finds, idles, lays, loads, logs, looks, makes, makes_claimed, misses, pops, pushes_int, pushes_null, pushes_slot, reads, settles, stores}
use Rattle.calls_in_flight.specs.Steps.{Settles, depth_at, length_at, logged_at}
use Rattle.calls_in_flight.specs.Knowing.{IsLasting, IsSteady, Known, Knows, Learns, MayStore, counter, of_field, of_object, own, pool_entry, pool_size, reader}
use Rattle.calls_in_flight.proofs.Apart.{own-area}
use Rattle.calls_in_flight.proofs.Grounds.{holds_at, named, own-beside, fit_at}
use Rattle.calls_in_flight.proofs.Stored.{object-not_own}

-- ---- steady places

one_thing : (a b : Thing) → Some a ≡ Some b → a ≡ b
one_thing a b e = cc

steady-kept : (m : Areas) (s t : State) (at to : Name → ℕ) (p : ℕ) → KeepsPlaces s at t to → IsSteady m s at p → IsSteady m t to p
steady-kept m s t at to p keeps (pool_size e) = pool_size e
steady-kept m s t at to p keeps (pool_entry k lt e) = pool_entry k lt e
steady-kept m s t at to p keeps (of_object n o j e lj is) = let k = keeps.kept n o e in of_object n k.0 j k.1 lj (is ∙ ap (λ x. heap_at m + (x + j)) (sym k.4))

-- the header and the name of an object aren't a field of one
field_apart : (m : Areas) (ws : List ℕ) (fs : List Flight) (s : SpaceState) (h : StandInFlight m ws fs s) (n x : Name) (o p : Thing) (j i : ℕ) → (view s).objects n ≡ Some o → (view s).objects x ≡ Some p → j < 2 → i < length p.fields → heap_at m + (h.stands.places.at n + j) ≢ heap_at m + (h.stands.places.at x + OBJECT_WORDS + i)
field_apart m ws fs s h n x o p j i en ex lj li e =
    let l = h.stands.places in
    ⊎_elim
    (λ (same : n ≡ x). let at : l.at n ≡ l.at x = ap l.at same in let r : ⊥ = omega (arith, e, at, lj) in r)
    (λ (ne : n ≢ x).
    let hn = h.stands.stands.heap.present n o en in
    let hx = h.stands.stands.heap.present x p ex in
    let sn : size_by (view s).objects n ≡ length o.fields + OBJECT_WORDS = rw en refl in
    let sx : size_by (view s).objects x ≡ length p.fields + OBJECT_WORDS = rw ex refl in
    ⊎_elim
    (λ (a : l.at n + size_by (view s).objects n ≤ l.at x). let r : ⊥ = omega (arith, a, sn, e, lj) in r)
    (λ (a : l.at x + size_by (view s).objects x ≤ l.at n). let r : ⊥ = omega (arith, a, sx, e, li) in r)
    (apart (page_words m) (size_by (view s).objects) l n x hn.0 hn.1 hx.0 hx.1 h.stands.stands.heap.tiles hn.2 hx.2 ne))
    (same_or_other n x)

-- a place where a step may store isn't one that lasts for another thread
own_store : (m : Areas) (ws : List ℕ) (fs : List Flight) (i j : ℕ) (s : SpaceState) (h : StandInFlight m ws fs s) (a : ℕ) → i < length fs → j < length fs → j ≢ i → IsOwn m (whole m ws fs) (flight_at fs j) a → MayStore m ws fs i s h a → ⊥
own_store m ws fs i j s h a li lj ne mine (own other) = own-beside m ws fs s i j a h.fit h.stands li lj ne other mine
own_store m ws fs i j s h a li lj ne mine (counter e) = ⊎_elim
    (λ (x : (HEAD_WORDS ≤ a) × (a < pool_at m)). let r : ⊥ = omega (arith, x.0, e) in r)
    (λ (x : heap_at m ≤ a). let r : ⊥ = omega (arith, x, e) in r)
    (own-area m (whole m ws fs) (flight_at fs j) a (named m ws fs s h.fit h.stands) (holds_at m ws fs s j h.fit h.stands lj) mine)
own_store m ws fs i j s h a li lj ne mine (reader u d hr e) = ⊎_elim
    (λ (x : (HEAD_WORDS ≤ a) × (a < pool_at m)). let r : ⊥ = omega (arith, x.1, e) in r)
    (λ (x : heap_at m ≤ a). let r : ⊥ = omega (arith, x, e, hr.0, hr.1, hr.2, hr.3) in r)
    (own-area m (whole m ws fs) (flight_at fs j) a (named m ws fs s h.fit h.stands) (holds_at m ws fs s j h.fit h.stands lj) mine)
own_store m ws fs i j s h a li lj ne mine (of_field n o f e lf is) =
    object-not_own m (whole m ws fs) s h.stands (flight_at fs j) (h.stands.places.at n + OBJECT_WORDS + f) n o (OBJECT_WORDS + f) (named m ws fs s h.fit h.stands) (holds_at m ws fs s j h.fit h.stands lj) e (omega (arith, lf)) (omega arith) (subst (IsOwn m (whole m ws fs) (flight_at fs j)) is mine)

steady_own : (m : Areas) (ws : List ℕ) (fs : List Flight) (i : ℕ) (s : SpaceState) (h : StandInFlight m ws fs s) (a : ℕ) → i < length fs → IsOwn m (whole m ws fs) (flight_at fs i) a → IsSteady m (view s) h.stands.places.at a → ⊥
steady_own m ws fs i s h a li mine (pool_size e) = ⊎_elim
    (λ (x : (HEAD_WORDS ≤ a) × (a < pool_at m)). let r : ⊥ = omega (arith, x.0, e) in r)
    (λ (x : heap_at m ≤ a). let r : ⊥ = omega (arith, x, e) in r)
    (own-area m (whole m ws fs) (flight_at fs i) a (named m ws fs s h.fit h.stands) (holds_at m ws fs s i h.fit h.stands li) mine)
steady_own m ws fs i s h a li mine (pool_entry k lt e) = ⊎_elim
    (λ (x : (HEAD_WORDS ≤ a) × (a < pool_at m)). let r : ⊥ = omega (arith, x.1, e) in r)
    (λ (x : heap_at m ≤ a). let r : ⊥ = omega (arith, x, e, lt) in r)
    (own-area m (whole m ws fs) (flight_at fs i) a (named m ws fs s h.fit h.stands) (holds_at m ws fs s i h.fit h.stands li) mine)
steady_own m ws fs i s h a li mine (of_object n o j e lj is) =
    object-not_own m (whole m ws fs) s h.stands (flight_at fs i) (h.stands.places.at n + j) n o j (named m ws fs s h.fit h.stands) (holds_at m ws fs s i h.fit h.stands li) e (omega (arith, lj)) refl (subst (IsOwn m (whole m ws fs) (flight_at fs i)) is mine)

steady_store : (m : Areas) (ws : List ℕ) (fs : List Flight) (i : ℕ) (s : SpaceState) (h : StandInFlight m ws fs s) (a : ℕ) → i < length fs → IsSteady m (view s) h.stands.places.at a → MayStore m ws fs i s h a → ⊥
steady_store m ws fs i s h a li steady (own mine) = steady_own m ws fs i s h a li mine steady
steady_store m ws fs i s h a li (pool_size x) (counter e) = omega (arith, x, e)
steady_store m ws fs i s h a li (pool_entry k lt x) (counter e) = omega (arith, x, e)
steady_store m ws fs i s h a li (of_object n o j is lj x) (counter e) = omega (arith, x, e)
steady_store m ws fs i s h a li (pool_size x) (reader u d hr e) = omega (arith, x, e)
steady_store m ws fs i s h a li (pool_entry k lt x) (reader u d hr e) = omega (arith, x, e, lt)
steady_store m ws fs i s h a li (of_object n o j is lj x) (reader u d hr e) = omega (arith, x, e, hr.0, hr.1, hr.2, hr.3)
steady_store m ws fs i s h a li (pool_size x) (of_field n o f en lf e) = omega (arith, x, e)
steady_store m ws fs i s h a li (pool_entry k lt x) (of_field n o f en lf e) = omega (arith, x, e, lt)
steady_store m ws fs i s h a li (of_object n o j is lj x) (of_field y p f en lf e) = field_apart m ws fs s h n y o p j f is en lj lf (sym x ∙ e)

-- ---- what is known

flip : (A B : Type 0) → A ⊎ B → B ⊎ A
flip A B (inl a) = inr a
flip A B (inr b) = inl b

-- what another thread knows stays so
pub knows-beside : (m : Areas) (ws : List ℕ) (fs gs : List Flight) (i j a w : ℕ) (s : SpaceState) (h : StandInFlight m ws fs s) (done : List Entry) (put : ℕ) (known : List Known) (st : Stepped m ws (set ws a w) fs gs i s h done put) → i < length fs → j < length fs → j ≢ i → MayStore m ws fs i s h a → Knows m ws fs s h j known → Knows m (set ws a w) gs st.after st.later j known
knows-beside m ws fs gs i j a w s h done put known st li lj ne store knows k d lk =
    let place : ℕ = (get_or known k d).place in
    let was = knows k d lk in
    let far : place ≢ a = λ e. ⊎_elim
    (λ (mine : IsOwn m (whole m ws fs) (flight_at fs j) place). own_store m ws fs i j s h a li lj ne (subst (IsOwn m (whole m ws fs) (flight_at fs j)) e mine) store)
    (λ (steady : IsSteady m (view s) h.stands.places.at place). steady_store m ws fs i s h a li (subst (IsSteady m (view s) h.stands.places.at) e steady) store)
    was.1 in (
      get_or-set_other ws a place w 0 far ∙ was.0,
      ⊎_elim
          (λ (mine : IsOwn m (whole m ws fs) (flight_at fs j) place). inl (subst (λ (f : Flight). IsOwn m (whole m (set ws a w) gs) f place) (sym (st.flights.beside j ne)) (st.own j place lj ne mine)))
          (λ (steady : IsSteady m (view s) h.stands.places.at place). inr (steady-kept m (view s) (view st.after) h.stands.places.at st.later.stands.places.at place st.places steady))
          was.1,
    )

-- and through a step that stores nothing
pub knows-still : (m : Areas) (ws : List ℕ) (fs gs : List Flight) (i j : ℕ) (s : SpaceState) (h : StandInFlight m ws fs s) (done : List Entry) (put : ℕ) (known : List Known) (st : Stepped m ws ws fs gs i s h done put) → j < length fs → j ≢ i → Knows m ws fs s h j known → Knows m ws gs st.after st.later j known
knows-still m ws fs gs i j s h done put known st lj ne knows k d lk =
    let place : ℕ = (get_or known k d).place in
    let was = knows k d lk in (
      was.0,
      ⊎_elim
          (λ (mine : IsOwn m (whole m ws fs) (flight_at fs j) place). inl (subst (λ (f : Flight). IsOwn m (whole m ws gs) f place) (sym (st.flights.beside j ne)) (st.own j place lj ne mine)))
          (λ (steady : IsSteady m (view s) h.stands.places.at place). inr (steady-kept m (view s) (view st.after) h.stands.places.at st.later.stands.places.at place st.places steady))
          was.1,
    )

-- what the thread itself knows after a step of its own
pub knows-own : (m : Areas) (ws : List ℕ) (fs gs : List Flight) (i a w : ℕ) (s : SpaceState) (h : StandInFlight m ws fs s) (done : List Entry) (put : ℕ) (was known : List Known) (st : Stepped m ws (set ws a w) fs gs i s h done put) → a < total_of m → Knows m ws fs s h i was → Learns m ws (set ws a w) fs gs s st.after h st.later i done a w was known → Knows m (set ws a w) gs st.after st.later i known
knows-own m ws fs gs i a w s h done put was known st inside knows learns k d lk =
    let now : List ℕ = set ws a w in
    let x : Known = get_or known k d in
    let K : Known → Type 0 = λ y. (get_or ws y.place 0 ≡ y.word) × IsLasting m ws fs s h i y.place in
    ⊎_elim
    (λ (old : Contains was x × (x.place ≢ a) × (((done ≡ []) ⊎ (x.place < table_at m)) ⊎ IsSteady m (view s) h.stands.places.at x.place)).
    let y : K x = All-contains K was x knows old.0 in
    let lasts : IsLasting m now gs st.after st.later i x.place = ⊎_elim
    (λ (steady : IsSteady m (view s) h.stands.places.at x.place). inr (steady-kept m (view s) (view st.after) h.stands.places.at st.later.stands.places.at x.place st.places steady))
    (λ (mine : IsOwn m (whole m ws fs) (flight_at fs i) x.place). ⊎_elim
    (λ (low : (done ≡ []) ⊎ (x.place < table_at m)). inl (st.mine x.place low mine))
    (λ (steady : IsSteady m (view s) h.stands.places.at x.place). inr (steady-kept m (view s) (view st.after) h.stands.places.at st.later.stands.places.at x.place st.places steady))
    old.2)
    (flip (IsOwn m (whole m ws fs) (flight_at fs i) x.place) (IsSteady m (view s) h.stands.places.at x.place) y.1) in
    (get_or-set_other ws a x.place w 0 old.1 ∙ y.0, lasts))
    (λ (new : (x.place ≡ a) × (x.word ≡ w) × IsLasting m now gs st.after st.later i a).
    (ap (λ p. get_or now p 0) new.0 ∙ get_or-set_same ws a w 0 (rw h.fit.long inside) ∙ sym new.1, subst (IsLasting m now gs st.after st.later i) (sym new.0) new.2))
    (learns k d lk)

-- ---- what a thread learns

-- a word of a present object is what the state's heap has
pub object-word : (m : Areas) (ws : List ℕ) (fs : List Flight) (s : SpaceState) (h : StandInFlight m ws fs s) (n : Name) (o : Thing) (j : ℕ) → (view s).objects n ≡ Some o → j < length o.fields + OBJECT_WORDS → get_or ws (heap_at m + (h.stands.places.at n + j)) 0 ≡ get_or (whole m ws fs).heap (h.stands.places.at n + j) 0
object-word m ws fs s h n o j e lj =
    let a : ℕ = h.stands.places.at n + j in
    let within = in_heap m (whole m ws fs) (view s) h.stands.places n o h.stands.stands e in
    let bare : IsBareIn fs (heap_at m + a) = λ q lq k d lk z. object-not_own m (whole m ws fs) s h.stands (flight_at fs q) a n o j (named m ws fs s h.fit h.stands) (holds_at m ws fs s q h.fit h.stands lq) e lj refl (subst (IsOwn m (whole m ws fs) (flight_at fs q)) z ((fit_at m ws fs q h.fit lq).own k d lk)) in
    sym (laid_all-bare fs ws (heap_at m + a) bare) ∙ contents-get_heap m (laid_all fs ws) a (omega (arith, within, lj))

-- a load of a place that lasts
pub knows-load : (m : Areas) (ws : List ℕ) (fs : List Flight) (s : SpaceState) (h : StandInFlight m ws fs s) (i a : ℕ) (known : List Known) → IsLasting m ws fs s h i a → Knows m ws fs s h i known → Knows m ws fs s h i (record { place = a; word = get_or ws a 0 } ∷ known)
knows-load m ws fs s h i a known lasts knows =
    let K : Known → Type 0 = λ k. (get_or ws k.place 0 ≡ k.word) × IsLasting m ws fs s h i k.place in
    All-cons K (record { place = a; word = get_or ws a 0 }) known (refl, lasts) knows

-- what the thread itself knows after a step of its own that stores nothing
pub knows-own_still : (m : Areas) (ws : List ℕ) (fs gs : List Flight) (i : ℕ) (s : SpaceState) (h : StandInFlight m ws fs s) (done : List Entry) (put : ℕ) (known : List Known) (st : Stepped m ws ws fs gs i s h done put) → All (λ (k : Known). ((done ≡ []) ⊎ (k.place < table_at m)) ⊎ IsSteady m (view s) h.stands.places.at k.place) known → Knows m ws fs s h i known → Knows m ws gs st.after st.later i known
knows-own_still m ws fs gs i s h done put known st lasting knows k d lk =
    let place : ℕ = (get_or known k d).place in
    let was = knows k d lk in
    let steady : IsSteady m (view s) h.stands.places.at place → IsLasting m ws gs st.after st.later i place = λ x. inr (steady-kept m (view s) (view st.after) h.stands.places.at st.later.stands.places.at place st.places x) in (
      was.0,
      ⊎_elim
          (λ (mine : IsOwn m (whole m ws fs) (flight_at fs i) place). ⊎_elim
          (λ (low : (done ≡ []) ⊎ (place < table_at m)). inl (st.mine place low mine))
          (λ (x : IsSteady m (view s) h.stands.places.at place). steady x)
          (lasting k d lk))
          (λ (x : IsSteady m (view s) h.stands.places.at place). steady x)
          was.1,
    )

-- ---- any single step of one thread keeps what another one knows

-- the place of the last cover is the thread's own
settled : (m : Areas) (ws : List ℕ) (fs : List Flight) (s : SpaceState) (i a w : ℕ) (f : Flight) → StandInFlight m ws fs s → Settles ws fs i a w f → i < length fs → IsOwn m (whole m ws fs) (flight_at fs i) a
settled m ws fs s i a w f h x li =
    let Own : Cover → Type 0 = λ y. IsOwn m (whole m ws fs) (flight_at fs i) y.place in
    let k : Cover = record { place = a; stands = get_or ws a 0; shown = w } in
    All-head Own k f.covers (subst (All Own) x.covers (fit_at m ws fs i h.fit li).own)

pub knows-step : (m : Areas) (ws : List ℕ) (fs : List Flight) (i : ℕ) (s : SpaceState) (h : StandInFlight m ws fs s) (j : ℕ) (known : List Known) (now : List ℕ) (gs : List Flight) (done : List Entry) (put : ℕ) → IsStep m ws fs i now gs done put → (st : Stepped m ws now fs gs i s h done put) → i < length fs → j < length fs → j ≢ i → Knows m ws fs s h j known → Knows m now gs st.after st.later j known
knows-step m ws fs i s h j known _ _ _ _ (lays a w f x) st li lj ne knows = knows-beside m ws fs (set fs i f) i j a w s h [] 0 known st li lj ne (own x.own) knows
knows-step m ws fs i s h j known _ _ _ _ (settles a w f x) st li lj ne knows = knows-beside m ws fs (set fs i f) i j a w s h [] 0 known st li lj ne (own (settled m ws fs s i a w f h x li)) knows
knows-step m ws fs i s h j known _ _ _ _ (looks lt) st li lj ne knows = knows-still m ws fs fs i j s h [] 0 known st lj ne knows
knows-step m ws fs i s h j known _ _ _ _ (finds f x) st li lj ne knows = knows-still m ws fs (set fs i f) i j s h [] 0 known st lj ne knows
knows-step m ws fs i s h j known _ _ _ _ (claims n f x) st li lj ne knows = knows-beside m ws fs (set fs i f) i j CLAIM_COUNTER (n + 1) s h [] 0 known st li lj ne (counter refl) knows
knows-step m ws fs i s h j known _ _ _ _ (misses n f x) st li lj ne knows = knows-beside m ws fs (set fs i f) i j CLAIM_COUNTER (n + 1) s h [] 0 known st li lj ne (counter refl) knows
knows-step m ws fs i s h j known _ _ _ _ (reads r f x) st li lj ne knows = knows-beside m ws fs (set fs i f) i j (readers_at m r.owner r.depth) (bit_or (get_or ws (readers_at m r.owner r.depth) 0) (2 ^ ((flight_at fs i).thread - 1))) s h [] 0 known st li lj ne (reader r.owner r.depth (subst (λ (y : Option Reading). IfSome y (λ (z : Reading). HasRegion m z.owner z.depth)) x.pending (fit_at m ws fs i h.fit li).reading) refl) knows
knows-step m ws fs i s h j known _ _ _ _ (logs n k q a f x) st li lj ne knows = knows-beside m ws fs (set fs i f) i j (logged_at m (flight_at fs i).thread) (n + 1) s h [] 1 known st li lj ne (own (in_block (omega arith) (omega arith))) knows
knows-step m ws fs i s h j known _ _ _ _ (idles asked said plain x) st li lj ne knows = knows-still m ws fs fs i j s h (Said (flight_at fs i).thread asked said ∷ []) 0 known st lj ne knows
knows-step m ws fs i s h j known _ _ _ _ (pushes_int n k f fits x) st li lj ne knows = knows-beside m ws fs (set fs i f) i j (length_at m (flight_at fs i).thread) (n + 1) s h (Said (flight_at fs i).thread (call.Int k) reply.Ok ∷ []) 0 known st li lj ne (own (in_block (omega arith) (omega arith))) knows
knows-step m ws fs i s h j known _ _ _ _ (pushes_null n f x) st li lj ne knows = knows-beside m ws fs (set fs i f) i j (length_at m (flight_at fs i).thread) (n + 1) s h (Said (flight_at fs i).thread call.Null reply.Ok ∷ []) 0 known st li lj ne (own (in_block (omega arith) (omega arith))) knows
knows-step m ws fs i s h j known _ _ _ _ (pushes_slot n k w f lt is x) st li lj ne knows = knows-beside m ws fs (set fs i f) i j (length_at m (flight_at fs i).thread) (n + 1) s h (Said (flight_at fs i).thread (call.Dup k) reply.Ok ∷ []) 0 known st li lj ne (own (in_block (omega arith) (omega arith))) knows
knows-step m ws fs i s h j known _ _ _ _ (pops n x) st li lj ne knows = knows-beside m ws fs fs i j (length_at m (flight_at fs i).thread) n s h (Said (flight_at fs i).thread call.Pop reply.Ok ∷ []) 0 known st li lj ne (own (in_block (omega arith) (omega arith))) knows
knows-step m ws fs i s h j known _ _ _ _ (makes k g f x) st li lj ne knows = knows-beside m ws fs (set fs i f) i j (length_at m (flight_at fs i).thread) (g.n + 1) s h (Said (flight_at fs i).thread (call.New k) reply.Ok ∷ []) 0 known st li lj ne (own (in_block (omega arith) (omega arith))) knows
knows-step m ws fs i s h j known _ _ _ _ (makes_claimed k g f x) st li lj ne knows = knows-beside m ws fs (set fs i f) i j (length_at m (flight_at fs i).thread) (g.n + 1) s h (Said (flight_at fs i).thread (call.New k) reply.Ok ∷ []) 0 known st li lj ne (own (in_block (omega arith) (omega arith))) knows
knows-step m ws fs i s h j known _ _ _ _ (begins d x) st li lj ne knows = knows-beside m ws fs fs i j (depth_at m (flight_at fs i).thread) (d + 1) s h (Said (flight_at fs i).thread call.Begin reply.Ok ∷ []) 0 known st li lj ne (own (in_block (omega arith) (omega arith))) knows
knows-step m ws fs i s h j known _ _ _ _ (loads n k q a space f x) st li lj ne knows = knows-still m ws fs (set fs i f) i j s h (Said (flight_at fs i).thread (call.Load k q) reply.Ok ∷ []) 0 known st lj ne knows
knows-step m ws fs i s h j known _ _ _ _ (stores k q y a w x) st li lj ne knows =
    let p = x.field s h.stands in
    knows-beside m ws fs fs i j (heap_at m + a) w s h (Said (flight_at fs i).thread (call.Store k q y) reply.Ok ∷ []) 0 known st li lj ne (of_field p.name p.thing q p.present p.within (ap (λ b. heap_at m + b) p.place)) knows
