-- What a thread that acts among the calls in flight has there, and a step of it that adds no entry.
use Rattle.std.proofs.Common.{◌≡◌, ◌≢◌, ◌⊎◌, ℕ, ◌+◌, ◌≤◌, ◌<◌, List, [], ◌∷◌, length, get_or, set, zero, suc, refl, sym, ap, subst, ◌∙◌, arith, inl, inr}
use Rattle.std.specs.List.{All, Contains}
use Rattle.std.proofs.lemmas.Bool.{cases_eq, eq-eqb, ne_eqb}
use Rattle.std.proofs.lemmas.List.Elements.{All-contains, All-cons, All-nil, All-contains_itself}
use Rattle.std.proofs.Math.Logic.{⊎_elim}
use Rattle.heap_words.specs.declared.map.Areas.{Areas}
use Rattle.heap_words.specs.declared.TheConstants.{HEAD_WORDS}
use Rattle.heap_words.specs.Map.{all_readers_at, block_at, block_words, heap_at, pool_at, table_at, total_of}
use Rattle.yak_model.specs.declared.history.Entry.{Entry}
use Rattle.yak_model.specs.Graph.{thread_of}
use Rattle.yak_model.specs.Spaces.{SpaceState}
use Rattle.yak_model.specs.State.{view}
use Rattle.region_pages.specs.declared.TheConstants.{POOL_LENGTH}
use Rattle.calls_in_flight.specs.Actors.{Actor, HasMet, Shows, forget, learn, met, under}
use Rattle.calls_in_flight.specs.Differing.{MayDiffer, above_stack, behind_buffer, counted, entered, in_object, loaded_length, loaded_slot, marked, turned}
use Rattle.calls_in_flight.specs.Fits.{StandInFlight}
use Rattle.calls_in_flight.specs.Flight.{Cover, Flight, IsBare, flight_at}
use Rattle.calls_in_flight.specs.Kinds.{IsStep}
use Rattle.calls_in_flight.specs.Knowing.{IsLasting, IsSteady, Known, Knows, of_object, pool_entry, pool_size}
use Rattle.calls_in_flight.specs.Owning.{IsOwn, in_block}
use Rattle.calls_in_flight.specs.Stepped.{Stepped}
use Rattle.calls_in_flight.specs.Whole.{laid_all, whole}
use Rattle.calls_in_flight.proofs.Acting.{Acts, IsPlace, Moves, acting_in, place_of}
use Rattle.calls_in_flight.proofs.Apart.{own-area, own-within}
use Rattle.calls_in_flight.proofs.Grounds.{holds_at, named}
use Rattle.calls_in_flight.proofs.Keeping.{step-keeps}
use Rattle.calls_in_flight.proofs.Knowing.{knows-own, knows-own_still}
use Rattle.calls_in_flight.proofs.OwnWords.{own-word}
use Rattle.calls_in_flight.proofs.Ready.{shown-at}

-- ---- the thread and its flight

pub inside : (m : Areas) (ws : List ℕ) (fs : List Flight) (s : SpaceState) (h : StandInFlight m ws fs s) (a : Actor) → Acts m ws fs s h a → place_of a < length fs
inside m ws fs s h a acts = omega (arith, acts.thread.0, acts.thread.1, acts.count)

pub own-thread : (m : Areas) (ws : List ℕ) (fs : List Flight) (s : SpaceState) (h : StandInFlight m ws fs s) (a : Actor) → Acts m ws fs s h a → a.flight.thread ≡ a.thread
own-thread m ws fs s h a acts = ap (λ (f : Flight). f.thread) (sym acts.flight) ∙ acts.numbered

-- a word of its block is its own
pub block-own : (m : Areas) (ws : List ℕ) (fs : List Flight) (s : SpaceState) (h : StandInFlight m ws fs s) (a : Actor) (p : ℕ) → Acts m ws fs s h a → block_at m a.thread ≤ p → p < block_at m a.thread + block_words m → IsOwn m (whole m ws fs) (flight_at fs (place_of a)) p
block-own m ws fs s h a p acts lt gt =
    let e = acts.numbered in
    in_block (subst (λ t. block_at m t ≤ p) (sym e) lt) (subst (λ t. p < block_at m t + block_words m) (sym e) gt)

pub own-place : (m : Areas) (ws : List ℕ) (fs : List Flight) (s : SpaceState) (h : StandInFlight m ws fs s) (a : Actor) (p : ℕ) → Acts m ws fs s h a → IsOwn m (whole m ws fs) (flight_at fs (place_of a)) p → IsPlace m p
own-place m ws fs s h a p acts own =
    let li = inside m ws fs s h a acts in
    let n = named m ws fs s h.fit h.stands in
    let holds = holds_at m ws fs s (place_of a) h.fit h.stands li in (
      ⊎_elim
          (λ (x : (HEAD_WORDS ≤ p) × (p < pool_at m)). let r : 1 ≤ p = omega (arith, x.0) in r)
          (λ (x : heap_at m ≤ p). let r : 1 ≤ p = omega (arith, x) in r)
          (own-area m (whole m ws fs) (flight_at fs (place_of a)) p n holds own),
      own-within m (whole m ws fs) (flight_at fs (place_of a)) p n holds own,
    )

-- ---- words that it has met

pub word-met : (m : Areas) (ws : List ℕ) (fs : List Flight) (s : SpaceState) (h : StandInFlight m ws fs s) (a : Actor) (p w : ℕ) → Acts m ws fs s h a → HasMet a p w → (get_or ws p 0 ≡ w) × IsLasting m ws fs s h (place_of a) p
word-met m ws fs s h a p w acts has = All-contains (λ (k : Known). (get_or ws k.place 0 ≡ k.word) × IsLasting m ws fs s h (place_of a) k.place) a.lasting (record { place = p; word = w }) acts.knows has

-- the word that stands at a bare place
pub bare-word : (m : Areas) (ws : List ℕ) (fs : List Flight) (s : SpaceState) (h : StandInFlight m ws fs s) (a : Actor) (p w : ℕ) → Acts m ws fs s h a → IsBare a.flight.covers p → Shows a p w → get_or ws p 0 ≡ w
bare-word m ws fs s h a p w acts bare (met b has) = (word-met m ws fs s h a p w acts has).0
bare-word m ws fs s h a p w acts bare (under stands has) =
    let k : Cover = record { place = p; stands = stands; shown = w } in
    absurd (bare has.0 k has.1 (ap (λ (x : Cover). x.place) has.2))

-- the word that an own place shows
pub shown-word : (m : Areas) (ws : List ℕ) (fs : List Flight) (s : SpaceState) (h : StandInFlight m ws fs s) (a : Actor) (p w : ℕ) → Acts m ws fs s h a → IsOwn m (whole m ws fs) (flight_at fs (place_of a)) p → Shows a p w → get_or (laid_all fs ws) p 0 ≡ w
shown-word m ws fs s h a p w acts own (met b has) =
    sym (own-word m ws fs s (place_of a) p h (inside m ws fs s h a acts) own (subst (λ (f : Flight). IsBare f.covers p) (sym acts.flight) b)) ∙ (word-met m ws fs s h a p w acts has).0
shown-word m ws fs s h a p w acts own (under stands has) =
    let k : Cover = record { place = p; stands = stands; shown = w } in
    let at : Contains (flight_at fs (place_of a)).covers k = subst (λ (f : Flight). Contains f.covers k) (sym acts.flight) has in
    shown-at m ws fs s (place_of a) at.0 k h (inside m ws fs s h a acts) at.1 at.2 (own-place m ws fs s h a p acts own).1

-- ---- places that last

pub lasting-area : (m : Areas) (ws : List ℕ) (fs : List Flight) (s : SpaceState) (h : StandInFlight m ws fs s) (a : Actor) (p : ℕ) → Acts m ws fs s h a → IsLasting m ws fs s h (place_of a) p → ((POOL_LENGTH ≤ p) × (p < all_readers_at m)) ⊎ (heap_at m ≤ p)
lasting-area m ws fs s h a p acts (inl own) = ⊎_elim
    (λ (x : (HEAD_WORDS ≤ p) × (p < pool_at m)). inl (omega (arith, x.0), omega (arith, x.1)))
    (λ (x : heap_at m ≤ p). inr x)
    (own-area m (whole m ws fs) (flight_at fs (place_of a)) p (named m ws fs s h.fit h.stands) (holds_at m ws fs s (place_of a) h.fit h.stands (inside m ws fs s h a acts)) own)
lasting-area m ws fs s h a p acts (inr (pool_size e)) = inl (omega (arith, e), omega (arith, e))
lasting-area m ws fs s h a p acts (inr (pool_entry k lt e)) = inl (omega (arith, e), omega (arith, e, lt))
lasting-area m ws fs s h a p acts (inr (of_object n o j is lj e)) = inr (omega (arith, e))

-- ---- lists of known words

pub contains-front : {X : Type 0} (x : X) (xs : List X) → Contains (x ∷ xs) x
contains-front x xs = (zero, omega arith, refl)

pub contains-behind : {X : Type 0} (x y : X) (xs : List X) → Contains xs y → Contains (x ∷ xs) y
contains-behind x y xs c = (suc c.0, omega (arith, c.1), c.2)

pub forget-all : (P : Known → Type 0) (p : ℕ) (known : List Known) → ((k : Known) → Contains known k → k.place ≢ p → P k) → All P (forget p known)
forget-all P p [] each = All-nil P
forget-all P p (k ∷ known) each =
    let rest : All P (forget p known) = forget-all P p known (λ x c ne. each x (contains-behind k x known c) ne) in
    ⊎_elim
    (λ (e : k.place ≡ p). rw (eq-eqb k.place p e) rest)
    (λ (ne : k.place ≢ p). rw (ne_eqb k.place p ne) (All-cons P k (forget p known) (each k (contains-front k known) ne) rest))
    (cases_eq k.place p)

pub learn-all : (P : Known → Type 0) (p w : ℕ) (known : List Known) → P (record { place = p; word = w }) → ((k : Known) → Contains known k → k.place ≢ p → P k) → All P (learn p w known)
learn-all P p w known first each = All-cons P (record { place = p; word = w }) (forget p known) first (forget-all P p known each)

-- ---- what is known after a step without an entry

abbrev none_done : List Entry
none_done = []

-- the word that it stored in its own, and all else as before
pub knows-put : (m : Areas) (ws : List ℕ) (fs gs : List Flight) (s : SpaceState) (h : StandInFlight m ws fs s) (a : Actor) (p w put : ℕ) (st : Stepped m ws (set ws p w) fs gs (place_of a) s h [] put) → Acts m ws fs s h a → IsOwn m (whole m ws fs) (flight_at fs (place_of a)) p → Knows m (set ws p w) gs st.after st.later (place_of a) (learn p w a.lasting)
knows-put m ws fs gs s h a p w put st acts own =
    knows-own m ws fs gs (place_of a) p w s h [] put a.lasting (learn p w a.lasting) st (own-place m ws fs s h a p acts own).1 acts.knows
    (learn-all (λ (k : Known). (Contains a.lasting k × (k.place ≢ p) × (((none_done ≡ []) ⊎ (k.place < table_at m)) ⊎ IsSteady m (view s) h.stands.places.at k.place)) ⊎ ((k.place ≡ p) × (k.word ≡ w) × IsLasting m (set ws p w) gs st.after st.later (place_of a) p)) p w a.lasting
    (inr (refl, refl, inl (st.mine p (inl refl) own)))
    (λ k c ne. inl (c, ne, inl (inl refl))))

-- all as before, where the place isn't among them
pub knows-beside_put : (m : Areas) (ws : List ℕ) (fs gs : List Flight) (s : SpaceState) (h : StandInFlight m ws fs s) (i p w put : ℕ) (known : List Known) (st : Stepped m ws (set ws p w) fs gs i s h [] put) → p < total_of m → Knows m ws fs s h i known → All (λ (k : Known). k.place ≢ p) known → Knows m (set ws p w) gs st.after st.later i known
knows-beside_put m ws fs gs s h i p w put known st within knows far =
    knows-own m ws fs gs i p w s h [] put known known st within knows
    (λ k d lk. inl (All-contains_itself known k d lk, far k d lk, inl (inl refl)))

pub knows-looked : (m : Areas) (ws : List ℕ) (fs gs : List Flight) (s : SpaceState) (h : StandInFlight m ws fs s) (i put : ℕ) (known : List Known) (st : Stepped m ws ws fs gs i s h [] put) → Knows m ws fs s h i known → Knows m ws gs st.after st.later i known
knows-looked m ws fs gs s h i put known st knows = knows-own_still m ws fs gs i s h [] put known st (λ k d lk. inl (inl refl)) knows

-- ---- in what the words differ

pub differ-kept : (m : Areas) (a b : Actor) (c : Cover) → b.thread ≡ a.thread → b.told ≡ a.told → ((p : ℕ) → Contains a.flight.claimed p → Contains b.flight.claimed p) → MayDiffer m a c → MayDiffer m b c
differ-kept m a b c et ek more (above_stack k le lt e) = above_stack k (rw ek le) lt (rw et e)
differ-kept m a b c et ek more (behind_buffer k lt e) = behind_buffer k lt (rw et e)
differ-kept m a b c et ek more (loaded_slot k le e) = loaded_slot k (rw ek le) (rw et e)
differ-kept m a b c et ek more (loaded_length e st sh) = loaded_length (rw et e) (rw ek st) (rw ek sh)
differ-kept m a b c et ek more (in_object le lt) = in_object le lt
differ-kept m a b c et ek more (marked p lt e) = marked p lt e
differ-kept m a b c et ek more (counted e st sh) = counted (rw et e) (rw ek st) (rw ek sh)
differ-kept m a b c et ek more (turned p has e st) = turned p (more p has) (rw (et, ek) e) st
differ-kept m a b c et ek more (entered p has e st) = entered p (more p has) e (rw (et, ek) st)

-- ---- a step without an entry

pub moves-on : (m : Areas) (ws now : List ℕ) (fs gs : List Flight) (s : SpaceState) (h : StandInFlight m ws fs s) (a : Actor) (f : Flight) (put : ℕ) (lasting : List Known) → Acts m ws fs s h a → (step : IsStep m ws fs (place_of a) now gs [] put) → flight_at gs (place_of a) ≡ f
    → ((st : Stepped m ws now fs gs (place_of a) s h [] put) → Knows m now gs st.after st.later (place_of a) lasting)
    → All (MayDiffer m (record { thread = a.thread; told = a.told; flight = f; lasting = lasting })) f.covers
    → Moves m ws now fs gs s h a f [] put lasting
moves-on m ws now fs gs s h a f put lasting acts step is knows differs =
    let st = step-keeps m ws fs (place_of a) s h now gs [] put step in
    let told : thread_of st.after.graph a.thread ≡ a.told = ap (λ (x : SpaceState). thread_of x.graph a.thread) st.turns ∙ acts.told in
    record {
      step = step;
      stepped = st;
      flight = is;
      knows = knows st;
      differs = λ j d lj. differ-kept m (record { thread = a.thread; told = a.told; flight = f; lasting = lasting }) (acting_in a st.after f lasting) (get_or f.covers j d) refl told (λ p c. c) (differs j d lj);
    }
