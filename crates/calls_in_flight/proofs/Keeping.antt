-- Each kind of single step keeps the rule, and so does each run of them.
use Rattle.std.proofs.lemmas.Bool.{cases_eq, eq-eqb, ne_eqb}
use Rattle.std.proofs.Math.Logic.{⊎_elim}
use Rattle.std.specs.Prelude.{◌==◌, cond}
use Rattle.std.proofs.Common.{◌<◌, ◌≡◌, ℕ, List, [], ◌∷◌, ◌++◌, length, refl, ap, subst, ◌∙◌, arith, ◌≢◌, ◌+◌, ◌≤◌, length-set}
use Rattle.std.specs.List.{All}
use Rattle.std.proofs.lemmas.List.Elements.{All-cons, All-nil}
use Rattle.object_layout.specs.declared.calls.Call.{Call}
use Rattle.object_layout.specs.declared.calls.Call.TheVariants as call
use Rattle.object_layout.specs.declared.replies.Reply.{Reply}
use Rattle.object_layout.specs.declared.replies.Reply.TheVariants as reply
use Rattle.heap_words.specs.declared.map.Areas.{Areas}
use Rattle.heap_words.specs.Contents.{Contents, buffer_of}
use Rattle.epoch_lattice.specs.declared.Space.{Space}
use Rattle.yak_model.specs.declared.history.Entry.TheVariants.{Collected, Said}
use Rattle.yak_model.specs.declared.history.Entry.{Entry}
use Rattle.yak_model.specs.Lawful.{EndsAsked, IsEntryLawful}
use Rattle.yak_model.specs.Packed.{IsPacked}
use Rattle.yak_model.specs.Spaces.{SpaceState, TurnsAll}
use Rattle.yak_model.specs.State.{object_of}
use Rattle.yak_model.specs.Stands.{pages_of, words_taken}
use Rattle.region_pages.specs.Counts.{used_of}
use Rattle.region_pages.proofs.Counting.{used_is}
use Rattle.calls_in_flight.specs.Flight.{Flight, flight_at}
use Rattle.calls_in_flight.specs.Whole.{whole}
use Rattle.calls_in_flight.specs.Fits.{StandInFlight}
use Rattle.calls_in_flight.specs.Stepped.{Stepped, AreCounted}
use Rattle.calls_in_flight.specs.Kinds.{IsPlainEntry, IsRun, IsStep, begins, claims, finds, idles, lays, loads, logs, looks, makes, makes_claimed, misses, more, none, pops, pushes_int, pushes_null, pushes_slot, reads, settles, stores}
use Rattle.calls_in_flight.proofs.Claims.{claims-keep, finds-keep, none-keep}
use Rattle.calls_in_flight.proofs.Events.{begin-steps, dup-steps, int-steps, null-steps, pop-steps, step-idle}
use Rattle.calls_in_flight.proofs.InCurrent.{make-steps, shape_whole}
use Rattle.calls_in_flight.proofs.Loaded.{load-steps}
use Rattle.calls_in_flight.proofs.OnClaimed.{make_claimed-steps}
use Rattle.calls_in_flight.proofs.Quiet.{lays-keep, puts_still, settles-keep, step-same}
use Rattle.calls_in_flight.proofs.Readers.{reads-keep}
use Rattle.calls_in_flight.proofs.Stored.{log-steps, store-steps}

-- a single step turns the state by its entries
pub step-keeps : (m : Areas) (ws : List ℕ) (fs : List Flight) (i : ℕ) (s : SpaceState) (h : StandInFlight m ws fs s) (now : List ℕ) (gs : List Flight) (done : List Entry) (put : ℕ) → IsStep m ws fs i now gs done put → Stepped m ws now fs gs i s h done put
step-keeps m ws fs i s h _ _ _ _ (lays a w f x) = lays-keep m ws fs s i a w f h x
step-keeps m ws fs i s h _ _ _ _ (settles a w f x) = settles-keep m ws fs s i a w f h x
step-keeps m ws fs i s h _ _ _ _ (looks lt) = step-same m ws ws fs fs i s h (puts_still fs i) (λ p c. c) h.fit refl
step-keeps m ws fs i s h _ _ _ _ (finds f x) = finds-keep m ws fs s i f h x
step-keeps m ws fs i s h _ _ _ _ (claims n f x) = claims-keep m ws fs s i n f h x
step-keeps m ws fs i s h _ _ _ _ (misses n f x) = none-keep m ws fs s i n f h x
step-keeps m ws fs i s h _ _ _ _ (reads r f x) = reads-keep m ws fs s i r f h x
step-keeps m ws fs i s h _ _ _ _ (logs n k j a f x) = log-steps m ws fs s i n k j a f h x
step-keeps m ws fs i s h _ _ _ _ (idles asked said plain x) = step-idle m ws fs i s (flight_at fs i).thread asked said h x
step-keeps m ws fs i s h _ _ _ _ (pushes_int n k f fits x) = int-steps m ws fs s i n k f h fits x
step-keeps m ws fs i s h _ _ _ _ (pushes_null n f x) = null-steps m ws fs s i n f h x
step-keeps m ws fs i s h _ _ _ _ (pushes_slot n k w f lt is x) = dup-steps m ws fs s i n k w f h lt is x
step-keeps m ws fs i s h _ _ _ _ (pops n x) = pop-steps m ws fs s i n h x
step-keeps m ws fs i s h _ _ _ _ (makes k g f x) = make-steps m ws fs s i k g f h x
step-keeps m ws fs i s h _ _ _ _ (makes_claimed k g f x) = make_claimed-steps m ws fs s i k g f h x
step-keeps m ws fs i s h _ _ _ _ (begins d x) = begin-steps m ws fs s i d h x
step-keeps m ws fs i s h _ _ _ _ (loads n k j a space f x) = load-steps m ws fs s i n k j a space f h x
step-keeps m ws fs i s h _ _ _ _ (stores k j x a w y) = store-steps m ws fs s i k j x a w h y

-- ---- runs of steps

turns-append : (s mid after : SpaceState) (xs ys : List Entry) → TurnsAll s xs mid → TurnsAll mid ys after → TurnsAll s (xs ++ ys) after
turns-append s mid after [] ys a b = subst (λ (x : SpaceState). TurnsAll x ys after) a b
turns-append s mid after (x ∷ xs) ys a b = (a.0, a.1, turns-append a.0 mid after xs ys a.2 b)

-- what a run leaves
pub record Runs (m : Areas) (now : List ℕ) (hs : List Flight) (s : SpaceState) (done : List Entry) : Type 0 where
  pub after : SpaceState
  pub turns : TurnsAll s done after
  pub later : StandInFlight m now hs after

pub run-keeps : (m : Areas) (ws : List ℕ) (fs : List Flight) (s : SpaceState) → StandInFlight m ws fs s → (now : List ℕ) (hs : List Flight) (done : List Entry) → IsRun m ws fs now hs done → Runs m now hs s done
run-keeps m ws fs s h _ _ _ none = record { after = s; turns = refl; later = h }
run-keeps m ws fs s h _ _ _ (more mid now gs hs i put done next run lt step) =
    let a = run-keeps m ws fs s h mid gs done run in
    let b = step-keeps m mid gs i a.after a.later now hs next put step in
    record { after = b.after; turns = turns-append s a.after b.after done next a.turns b.turns; later = b.later }

-- ---- entries that ask nothing of the pages

last_same : (a b : List Entry) (x y : Entry) → a ++ x ∷ [] ≡ b ++ y ∷ [] → x ≡ y
last_same [] [] x y e = cc
last_same [] (z ∷ []) x y e = cc
last_same [] (z ∷ w ∷ b) x y e = cc
last_same (z ∷ []) [] x y e = cc
last_same (z ∷ w ∷ a) [] x y e = cc
last_same (z ∷ a) (w ∷ b) x y e = last_same a b x y (let r : a ++ x ∷ [] ≡ b ++ y ∷ [] = cc in r)

no_collect : (t : ℕ) (asked : Call) (said : Reply) (a b : List Entry) (u : ℕ) → a ++ Said t asked said ∷ [] ≡ b ++ Said u call.Collect reply.Ok ∷ [] → asked ≡ call.Collect
no_collect t asked said a b u e = let z : Said t asked said ≡ Said u call.Collect reply.Ok = last_same a b (Said t asked said) (Said u call.Collect reply.Ok) e in cc

-- a plain entry is lawful wherever it comes
pub plain-lawful : (pages : ℕ) (before rest : List Entry) (s : SpaceState) (entry : Entry) → IsPlainEntry entry → IsEntryLawful pages before s entry rest
plain-lawful pages before rest s (Said t asked reply.Ok) plain = tt
plain-lawful pages before rest s (Said t asked reply.Null) plain = tt
plain-lawful pages before rest s (Said t asked (reply.Int k)) plain = tt
plain-lawful pages before rest s (Said t asked (reply.Object k)) plain = tt
plain-lawful pages before rest s (Said t asked reply.Yes) plain = tt
plain-lawful pages before rest s (Said t asked reply.No) plain = tt
plain-lawful pages before rest s (Said t asked (reply.Ended moved tight)) plain = absurd plain.1
plain-lawful pages before rest s (Said t asked (reply.Pages f r c)) plain = absurd plain.1
plain-lawful pages before rest s (Said t asked reply.OutOfHeap) plain = absurd plain.1
plain-lawful pages before rest s (Said t asked (reply.Refused why)) plain = tt
plain-lawful pages before rest s (Collected t) plain = absurd plain

-- and the history that it ends asks for no collection
pub plain-last : (before : List Entry) (entry : Entry) → IsPlainEntry entry → EndsAsked (before ++ entry ∷ []) → ⊥
plain-last before (Said t asked said) plain ends = plain.0 (no_collect t asked said before ends.0 ends.1 ends.2)
plain-last before (Collected t) plain ends = plain

one_plain : (entry : Entry) → IsPlainEntry entry → All IsPlainEntry (entry ∷ [])
one_plain entry plain = All-cons IsPlainEntry entry [] plain (All-nil IsPlainEntry)

-- the entries of a step are plain
pub step-plain : (m : Areas) (ws : List ℕ) (fs : List Flight) (i : ℕ) (now : List ℕ) (gs : List Flight) (done : List Entry) (put : ℕ) → IsStep m ws fs i now gs done put → All IsPlainEntry done
step-plain m ws fs i _ _ _ _ (lays a w f x) = All-nil IsPlainEntry
step-plain m ws fs i _ _ _ _ (settles a w f x) = All-nil IsPlainEntry
step-plain m ws fs i _ _ _ _ (looks lt) = All-nil IsPlainEntry
step-plain m ws fs i _ _ _ _ (finds f x) = All-nil IsPlainEntry
step-plain m ws fs i _ _ _ _ (claims n f x) = All-nil IsPlainEntry
step-plain m ws fs i _ _ _ _ (misses n f x) = All-nil IsPlainEntry
step-plain m ws fs i _ _ _ _ (reads r f x) = All-nil IsPlainEntry
step-plain m ws fs i _ _ _ _ (logs n k j a f x) = All-nil IsPlainEntry
step-plain m ws fs i _ _ _ _ (idles asked said plain x) = one_plain (Said (flight_at fs i).thread asked said) plain
step-plain m ws fs i _ _ _ _ (pushes_int n k f fits x) = one_plain (Said (flight_at fs i).thread (call.Int k) reply.Ok) (λ e. cc, tt)
step-plain m ws fs i _ _ _ _ (pushes_null n f x) = one_plain (Said (flight_at fs i).thread call.Null reply.Ok) (λ e. cc, tt)
step-plain m ws fs i _ _ _ _ (pushes_slot n k w f lt is x) = one_plain (Said (flight_at fs i).thread (call.Dup k) reply.Ok) (λ e. cc, tt)
step-plain m ws fs i _ _ _ _ (pops n x) = one_plain (Said (flight_at fs i).thread call.Pop reply.Ok) (λ e. cc, tt)
step-plain m ws fs i _ _ _ _ (makes k g f x) = one_plain (Said (flight_at fs i).thread (call.New k) reply.Ok) (λ e. cc, tt)
step-plain m ws fs i _ _ _ _ (makes_claimed k g f x) = one_plain (Said (flight_at fs i).thread (call.New k) reply.Ok) (λ e. cc, tt)
step-plain m ws fs i _ _ _ _ (begins d x) = one_plain (Said (flight_at fs i).thread call.Begin reply.Ok) (λ e. cc, tt)
step-plain m ws fs i _ _ _ _ (loads n k j a space f x) = one_plain (Said (flight_at fs i).thread (call.Load k j) reply.Ok) (λ e. cc, tt)
step-plain m ws fs i _ _ _ _ (stores k j x a w y) = one_plain (Said (flight_at fs i).thread (call.Store k j x) reply.Ok) (λ e. cc, tt)

-- ---- spaces stay packed

-- a step without an entry keeps each space packed
pub packed-kept : (m : Areas) (ws now : List ℕ) (fs gs : List Flight) (i put : ℕ) (s : SpaceState) (h : StandInFlight m ws fs s) (st : Stepped m ws now fs gs i s h [] put) (x : Space) → IsPacked m (whole m ws fs) s h.stands x → IsPacked m (whole m now gs) st.after st.later.stands x
packed-kept m ws now fs gs i put s h st x packed =
    let c : Contents = whole m ws fs in
    let d : Contents = whole m now gs in
    let same : d.table ≡ c.table = st.table refl in
    let rows : length c.table ≡ m.pages = (shape_whole m ws fs s h.fit h.stands).table in
    let one = used_is m c.table c.heap (object_of s) h.stands.places (λ _. 0) x rows h.stands.stands.heap in
    let two = used_is m d.table d.heap (object_of st.after) st.later.stands.places (λ _. 0) x (ap (λ (t : List (List ℕ)). length t) same ∙ rows) st.later.stands.stands.heap in
    let two' = subst (λ (t : List (List ℕ)). used_of t x ≡ words_taken st.later.stands.places.pages (object_of st.after) x) same two in
    let pages : pages_of d.table x ≡ pages_of c.table x = ap (λ (t : List (List ℕ)). pages_of t x) same in
    omega (arith, packed, one, two', pages)

-- ---- store buffers

-- the entries put are counted on
pub counted-kept : (m : Areas) (ws now : List ℕ) (fs gs : List Flight) (i put : ℕ) (s : SpaceState) (h : StandInFlight m ws fs s) (done : List Entry) (st : Stepped m ws now fs gs i s h done put) (was : ℕ → ℕ) → length gs ≡ length fs → AreCounted m ws fs was → AreCounted m now gs (λ j. cond (j == i) (was j + put) (was j))
counted-kept m ws now fs gs i put s h done st was long counted j lj = ⊎_elim
    (λ (e : j ≡ i).
    let thread : (flight_at gs j).thread ≡ (flight_at fs i).thread = ap (λ k. (flight_at gs k).thread) e ∙ st.flights.thread in
    let before : length (buffer_of (whole m ws fs) (flight_at fs i).thread) ≤ was j = subst (λ k. length (buffer_of (whole m ws fs) (flight_at fs k).thread) ≤ was j) e (counted j (omega (arith, lj, long))) in
    rw (eq-eqb j i e) (omega (arith, st.logged, before, ap (λ t. length (buffer_of (whole m now gs) t)) thread)))
    (λ (ne : j ≢ i).
    let thread : (flight_at gs j).thread ≡ (flight_at fs j).thread = ap (λ (f : Flight). f.thread) (st.flights.beside j ne) in
    let lj' : j < length fs = omega (arith, lj, long) in
    rw (ne_eqb j i ne) (omega (arith, counted j lj', ap (λ (es : List ℕ). length es) (st.buffers j lj' ne), ap (λ t. length (buffer_of (whole m now gs) t)) thread)))
    (cases_eq j i)

-- a step replaces one call in flight and makes no more of them
pub step-long : (m : Areas) (ws : List ℕ) (fs : List Flight) (i : ℕ) (now : List ℕ) (gs : List Flight) (done : List Entry) (put : ℕ) → IsStep m ws fs i now gs done put → length gs ≡ length fs
step-long m ws fs i _ _ _ _ (lays a w f x) = length-set fs i f
step-long m ws fs i _ _ _ _ (settles a w f x) = length-set fs i f
step-long m ws fs i _ _ _ _ (looks lt) = refl
step-long m ws fs i _ _ _ _ (finds f x) = length-set fs i f
step-long m ws fs i _ _ _ _ (claims n f x) = length-set fs i f
step-long m ws fs i _ _ _ _ (misses n f x) = length-set fs i f
step-long m ws fs i _ _ _ _ (reads r f x) = length-set fs i f
step-long m ws fs i _ _ _ _ (logs n k j a f x) = length-set fs i f
step-long m ws fs i _ _ _ _ (idles asked said plain x) = refl
step-long m ws fs i _ _ _ _ (pushes_int n k f fits x) = length-set fs i f
step-long m ws fs i _ _ _ _ (pushes_null n f x) = length-set fs i f
step-long m ws fs i _ _ _ _ (pushes_slot n k w f lt is x) = length-set fs i f
step-long m ws fs i _ _ _ _ (pops n x) = refl
step-long m ws fs i _ _ _ _ (makes k g f x) = length-set fs i f
step-long m ws fs i _ _ _ _ (makes_claimed k g f x) = length-set fs i f
step-long m ws fs i _ _ _ _ (begins d x) = refl
step-long m ws fs i _ _ _ _ (loads n k j a space f x) = length-set fs i f
step-long m ws fs i _ _ _ _ (stores k j x a w y) = refl
