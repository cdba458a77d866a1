-- Steps that add an entry to the history: words of a thread's block.
use Rattle.std.proofs.Common.{◌≡◌, ◌≢◌, ◌⊎◌, ℕ, ◌+◌, ◌-◌, ◌*◌, ◌≤◌, ◌<◌, List, [], ◌∷◌, ◌++◌, take, length, get_or, set, refl, sym, ap, subst, ◌∙◌, arith, inl, length-set}
use Rattle.std.specs.Prelude.{Option, IfSome}
use Rattle.std.specs.List.{All, AllPairs}
use Rattle.std.proofs.lemmas.List.Elements.{All-cons, All-nil}
use Rattle.std.proofs.Math.Logic.{⊎_elim}
use Rattle.object_layout.specs.declared.TheConstants.{MAX_INT}
use Rattle.object_layout.specs.declared.calls.Call.{Call}
use Rattle.object_layout.specs.declared.calls.Call.TheVariants as call
use Rattle.object_layout.specs.declared.replies.Reply.{Reply}
use Rattle.object_layout.specs.declared.replies.Reply.TheVariants as reply
use Rattle.heap_words.specs.declared.map.Areas.{Areas}
use Rattle.heap_words.specs.declared.TheConstants.{STACK_SLOTS}
use Rattle.heap_words.specs.Map.{HasRegion, HasThread, table_at}
use Rattle.heap_words.specs.Contents.{Contents, contents, depth_of, stack_of, with_depth, with_stack}
use Rattle.heap_words.proofs.Contents.{contents-grow_stack, contents-set_depth, contents-shrink_stack, stack_of-fits}
use Rattle.yak_model.specs.declared.history.Entry.{Entry}
use Rattle.yak_model.specs.declared.history.Entry.TheVariants.{Said}
use Rattle.yak_model.specs.Spaces.{SpaceState}
use Rattle.standing_calls.specs.Turned.{IsPushed, Turned}
use Rattle.standing_calls.proofs.Begins.{begin_turns}
use Rattle.standing_calls.proofs.Steps.{dup_turns, int_turns, null_turns, pop_turns}
use Rattle.calls_in_flight.specs.Flight.{Cover, Flight, IsBare, Reading, flight_at}
use Rattle.calls_in_flight.specs.Whole.{claimed_in, claims_in, completed, laid_all, read_in, whole}
use Rattle.calls_in_flight.specs.Owning.{IsOwn, IsWordOf, in_block}
use Rattle.calls_in_flight.specs.Fits.{FlightsFit, StandInFlight}
use Rattle.calls_in_flight.specs.Stepped.{Puts, Stepped}
use Rattle.calls_in_flight.specs.Steps.{Deepens, Grows, Shrinks, depth_at, length_at, slot_at, with_covers}
use Rattle.calls_in_flight.proofs.Apart.{own-block, own-kept}
use Rattle.calls_in_flight.proofs.Claimed.{claimed-same, claims-put}
use Rattle.calls_in_flight.proofs.Covers.{lifted}
use Rattle.calls_in_flight.proofs.Flights.{put_same}
use Rattle.calls_in_flight.proofs.Grounds.{bare-beside, fit_at, fits-beside, fits-moved, fits-put, sound_under, under}
use Rattle.calls_in_flight.proofs.OwnWords.{own-depth, own-length, put-bare, thread_at}
use Rattle.calls_in_flight.proofs.Quiet.{puts_set, puts_still, read-same}

pub no_entry : (x : Entry) → x ∷ [] ≡ [] → ⊥
no_entry x e = cc

-- the words of a thread's block stay its own where an entry is added
pub mine-block : (m : Areas) (ws now : List ℕ) (fs gs : List Flight) (i b : ℕ) (done : List Entry) → Puts fs gs i → (done ≡ []) ⊎ (b < table_at m) → (done ≡ [] → ⊥) → IsOwn m (whole m ws fs) (flight_at fs i) b → IsOwn m (whole m now gs) (flight_at gs i) b
mine-block m ws now fs gs i b done puts low some own = ⊎_elim
    (λ (e : done ≡ []). absurd (some e))
    (λ (lt : b < table_at m). subst (λ t. IsWordOf m (whole m now gs) t (flight_at gs i).claimed b) (sym puts.thread) (own-block m (whole m ws fs) (whole m now gs) (flight_at fs i).thread (flight_at fs i).claimed (flight_at gs i).claimed b lt own))
    low

-- a call on what the words hold apart from the calls in flight turns the state
pub step-turned : (m : Areas) (ws now : List ℕ) (fs gs : List Flight) (i : ℕ) (s : SpaceState) (t : ℕ) (asked : Call) (said : Reply) (h : StandInFlight m ws fs s) → Puts fs gs i → FlightsFit m now gs → Turned m (whole m ws fs) (whole m now gs) t asked said → ((j b : ℕ) → j < length fs → j ≢ i → IsOwn m (whole m ws fs) (flight_at fs j) b → IsOwn m (whole m now gs) (flight_at fs j) b) → (whole m now gs).buffers ≡ (whole m ws fs).buffers → Stepped m ws now fs gs i s h (Said t asked said ∷ []) 0
step-turned m ws now fs gs i s t asked said h puts fit turned own buffers =
    let turns = turned.turns s h.stands in
    record {
      after = turns.0;
      turns = turns.1;
      later = record { fit = fit; stands = turns.2; recorded = turns.3 h.recorded };
      places = turned.kept s h.stands;
      flights = puts;
      mine = λ b low own. mine-block m ws now fs gs i b (Said t asked said ∷ []) puts low (no_entry (Said t asked said)) own;
      own = own;
      buffers = λ j lj ne. ap (λ (bs : List (List ℕ)). get_or bs ((flight_at fs j).thread - 1) []) buffers;
      logged = omega (arith, ap (λ (bs : List (List ℕ)). length (get_or bs ((flight_at fs i).thread - 1) [])) buffers);
      table = λ z. absurd (no_entry (Said t asked said) z);
    }

-- and so does one that stores nothing and covers nothing
pub step-idle : (m : Areas) (ws : List ℕ) (fs : List Flight) (i : ℕ) (s : SpaceState) (t : ℕ) (asked : Call) (said : Reply) (h : StandInFlight m ws fs s) → Turned m (whole m ws fs) (whole m ws fs) t asked said → Stepped m ws ws fs fs i s h (Said t asked said ∷ []) 0
step-idle m ws fs i s t asked said h turned = step-turned m ws ws fs fs i s t asked said h (puts_still fs i) h.fit turned (λ j b lj ne own. own) refl

-- what is completed is the same for calls in flight that differ by covers alone
pub completed-same : (fs : List Flight) (i : ℕ) (f : Flight) (c : Contents) → i < length fs → f.thread ≡ (flight_at fs i).thread → f.claimed ≡ (flight_at fs i).claimed → f.reading ≡ (flight_at fs i).reading → completed (set fs i f) c ≡ completed fs c
completed-same fs i f c lt et ec er =
    let claimed : claimed_in (set fs i f) ≡ claimed_in fs = claimed-same fs i f lt ec in
    let readers : read_in (set fs i f) c.readers ≡ read_in fs c.readers = read-same fs i f c.readers et er in
    rw (claimed, readers) refl

-- the pages and the pool are as they were
pub record SameGround (c d : Contents) : Type 0 where
  pub heads : d.heads ≡ c.heads
  pub table : d.table ≡ c.table
  pub currents : d.currents ≡ c.currents

pub record SameFlight (f g : Flight) : Type 0 where
  pub thread : g.thread ≡ f.thread
  pub claimed : g.claimed ≡ f.claimed
  pub reading : g.reading ≡ f.reading
  pub claims : g.claims ≡ f.claims

pub same_flight : (f g : Flight) (ks : List Cover) → g ≡ with_covers f ks → SameFlight f g
same_flight f g ks e = record { thread = ap (λ (x : Flight). x.thread) e; claimed = ap (λ (x : Flight). x.claimed) e; reading = ap (λ (x : Flight). x.reading) e; claims = ap (λ (x : Flight). x.claims) e }

-- all calls in flight fit after a thread has stored a word of its own and covers nothing any more
pub fits-bare : (m : Areas) (ws : List ℕ) (fs : List Flight) (s : SpaceState) (i a w : ℕ) (f : Flight) → StandInFlight m ws fs s → i < length fs → IsOwn m (whole m ws fs) (flight_at fs i) a → SameFlight (flight_at fs i) f → f.covers ≡ [] → SameGround (under m ws fs) (under m (set ws a w) (set fs i f)) → FlightsFit m (set ws a w) (set fs i f)
fits-bare m ws fs s i a w f h lt own same none basis =
    let F : Flight = flight_at fs i in
    let now : List ℕ = set ws a w in
    let d : Contents = whole m now (set fs i f) in
    let was = fit_at m ws fs i h.fit lt in
    let claims : claims_in (set fs i f) ≡ claims_in fs = omega (arith, claims-put fs i f lt, same.claims) in
    fits-put m ws now fs i f h.fit lt same.thread (length-set ws a w)
    (record {
      thread = subst (HasThread m) (sym same.thread) was.thread;
      own = subst (All (λ (k : Cover). IsOwn m d f k.place)) (sym none) (λ k e lk. absurd (omega (arith, lk)));
      once = subst (AllPairs (λ (x y : Cover). x.place ≢ y.place)) (sym none) (λ x y e lx ly. absurd (omega (arith, ly)));
      stand = subst (All (λ (k : Cover). get_or now k.place 0 ≡ k.stands)) (sym none) (λ k e lk. absurd (omega (arith, lk)));
      reading = subst (λ (r : Option Reading). IfSome r (λ (x : Reading). HasRegion m x.owner x.depth)) (sym same.reading) was.reading;
      claims = subst (λ n. n ≤ 1) (sym same.claims) was.claims;
    })
    (λ j lj ne. fits-moved m now (whole m ws fs) d (flight_at fs j) (λ b o. own-kept m (whole m ws fs) d (flight_at fs j) b basis.currents basis.table o) (fits-beside m ws (whole m ws fs) (flight_at fs j) a w (bare-beside m ws fs s i a h.fit h.stands lt own j lj ne) (fit_at m ws fs j h.fit lj)))
    (rw basis.heads h.fit.within)
    (rw (basis.heads, claims) h.fit.passed)

-- ---- a slot more

length-own : (m : Areas) (ws : List ℕ) (fs : List Flight) (i : ℕ) → IsOwn m (whole m ws fs) (flight_at fs i) (length_at m (flight_at fs i).thread)
length-own m ws fs i = in_block (omega arith) (omega arith)

grown_under : (m : Areas) (ws : List ℕ) (fs : List Flight) (s : SpaceState) (i n w : ℕ) (f : Flight) → StandInFlight m ws fs s → Grows m ws fs i n w f → (let t = (flight_at fs i).thread in (n ≡ length (stack_of (under m ws fs) t)) × (under m (set ws (length_at m t) (n + 1)) (set fs i f) ≡ with_stack (under m ws fs) t (stack_of (under m ws fs) t ++ w ∷ [])))
grown_under m ws fs s i n w f h g =
    let t : ℕ = (flight_at fs i).thread in
    let lt = g.inside in
    let sound = sound_under m ws fs s h.fit h.stands in
    let bare : IsBare (flight_at fs i).covers (length_at m t) = subst (λ (ks : List Cover). IsBare ks (length_at m t)) (sym g.covers) (All-cons (λ (k : Cover). k.place ≢ length_at m t) g.cover [] (λ e. omega (arith, e, g.place)) (All-nil (λ (k : Cover). k.place ≢ length_at m t))) in
    let count : n ≡ length (stack_of (under m ws fs) t) = sym g.count ∙ own-length m ws fs s i h lt bare in
    let put = put-bare m ws fs s i (length_at m t) (n + 1) f h lt (length-own m ws fs i) (ap (λ (x : Flight). x.covers) g.after) in
    let lift : lifted (flight_at fs i).covers (laid_all fs ws) ≡ set (laid_all fs ws) (slot_at m t n) w = ap (λ (ks : List Cover). lifted ks (laid_all fs ws)) g.covers ∙ ap (λ p. set (laid_all fs ws) p g.cover.stands) g.place ∙ ap (set (laid_all fs ws) (slot_at m t n)) g.word in
    (count, ap (contents m) (put ∙ ap (λ (xs : List ℕ). set xs (length_at m t) (n + 1)) lift) ∙ contents-grow_stack m (laid_all fs ws) t w n (thread_at m ws fs s i h lt) sound count g.room)

-- the slot that is pushed
pub grows-push : (m : Areas) (ws : List ℕ) (fs : List Flight) (s : SpaceState) (i n w : ℕ) (f : Flight) → StandInFlight m ws fs s → Grows m ws fs i n w f → (let t = (flight_at fs i).thread in IsPushed (whole m ws fs) (whole m (set ws (length_at m t) (n + 1)) (set fs i f)) t w reply.Ok)
grows-push m ws fs s i n w f h g =
    let t : ℕ = (flight_at fs i).thread in
    let u : Contents = under m ws fs in
    let e = grown_under m ws fs s i n w f h g in
    let same = same_flight (flight_at fs i) f [] g.after in
    let now : List ℕ = set ws (length_at m t) (n + 1) in
    let is : whole m now (set fs i f) ≡ with_stack (whole m ws fs) t (stack_of (whole m ws fs) t ++ w ∷ []) = completed-same fs i f (under m now (set fs i f)) g.inside same.thread same.claimed same.reading ∙ ap (completed fs) e.1 in
    inl (omega (arith, e.0, g.room), refl, is)

pub grows-fit : (m : Areas) (ws : List ℕ) (fs : List Flight) (s : SpaceState) (i n w : ℕ) (f : Flight) → StandInFlight m ws fs s → Grows m ws fs i n w f → (let t = (flight_at fs i).thread in FlightsFit m (set ws (length_at m t) (n + 1)) (set fs i f))
grows-fit m ws fs s i n w f h g =
    let t : ℕ = (flight_at fs i).thread in
    let e = (grown_under m ws fs s i n w f h g).1 in
    fits-bare m ws fs s i (length_at m t) (n + 1) f h g.inside (length-own m ws fs i) (same_flight (flight_at fs i) f [] g.after) (ap (λ (x : Flight). x.covers) g.after)
    (record { heads = ap (λ (c : Contents). c.heads) e; table = ap (λ (c : Contents). c.table) e; currents = ap (λ (c : Contents). c.currents) e })

-- the other threads' own words stay theirs where the pages are as they were
pub own-basis : (m : Areas) (ws now : List ℕ) (fs gs : List Flight) (i : ℕ) → SameGround (under m ws fs) (under m now gs) → (j b : ℕ) → j < length fs → j ≢ i → IsOwn m (whole m ws fs) (flight_at fs j) b → IsOwn m (whole m now gs) (flight_at fs j) b
own-basis m ws now fs gs i basis j b lj ne own = own-kept m (whole m ws fs) (whole m now gs) (flight_at fs j) b basis.currents basis.table own

-- the slot is pushed by a call that does no more
grows-step : (m : Areas) (ws : List ℕ) (fs : List Flight) (s : SpaceState) (i n w : ℕ) (f : Flight) (asked : Call) (h : StandInFlight m ws fs s) → Grows m ws fs i n w f → (let t = (flight_at fs i).thread in let now = set ws (length_at m t) (n + 1) in Turned m (whole m ws fs) (whole m now (set fs i f)) t asked reply.Ok → Stepped m ws now fs (set fs i f) i s h (Said t asked reply.Ok ∷ []) 0)
grows-step m ws fs s i n w f asked h g turned =
    let t : ℕ = (flight_at fs i).thread in
    let now : List ℕ = set ws (length_at m t) (n + 1) in
    let e = (grown_under m ws fs s i n w f h g).1 in
    step-turned m ws now fs (set fs i f) i s t asked reply.Ok h (puts_set fs i f g.inside (ap (λ (x : Flight). x.thread) g.after)) (grows-fit m ws fs s i n w f h g) turned
    (own-basis m ws now fs (set fs i f) i (record { heads = ap (λ (c : Contents). c.heads) e; table = ap (λ (c : Contents). c.table) e; currents = ap (λ (c : Contents). c.currents) e }))
    (ap (λ (c : Contents). c.buffers) e)

pub int-steps : (m : Areas) (ws : List ℕ) (fs : List Flight) (s : SpaceState) (i n k : ℕ) (f : Flight) (h : StandInFlight m ws fs s) → k ≤ MAX_INT → Grows m ws fs i n (2 * k + 1) f → (let t = (flight_at fs i).thread in Stepped m ws (set ws (length_at m t) (n + 1)) fs (set fs i f) i s h (Said t (call.Int k) reply.Ok ∷ []) 0)
int-steps m ws fs s i n k f h fits g =
    let t : ℕ = (flight_at fs i).thread in
    grows-step m ws fs s i n (2 * k + 1) f (call.Int k) h g (int_turns m (whole m ws fs) (whole m (set ws (length_at m t) (n + 1)) (set fs i f)) t k (2 * k + 1) reply.Ok (thread_at m ws fs s i h g.inside) fits refl (grows-push m ws fs s i n (2 * k + 1) f h g))

pub null-steps : (m : Areas) (ws : List ℕ) (fs : List Flight) (s : SpaceState) (i n : ℕ) (f : Flight) (h : StandInFlight m ws fs s) → Grows m ws fs i n 0 f → (let t = (flight_at fs i).thread in Stepped m ws (set ws (length_at m t) (n + 1)) fs (set fs i f) i s h (Said t call.Null reply.Ok ∷ []) 0)
null-steps m ws fs s i n f h g =
    let t : ℕ = (flight_at fs i).thread in
    grows-step m ws fs s i n 0 f call.Null h g (null_turns m (whole m ws fs) (whole m (set ws (length_at m t) (n + 1)) (set fs i f)) t 0 reply.Ok (thread_at m ws fs s i h g.inside) refl (grows-push m ws fs s i n 0 f h g))

pub dup-steps : (m : Areas) (ws : List ℕ) (fs : List Flight) (s : SpaceState) (i n k w : ℕ) (f : Flight) (h : StandInFlight m ws fs s) → k < n → w ≡ get_or (stack_of (whole m ws fs) (flight_at fs i).thread) k 0 → Grows m ws fs i n w f → (let t = (flight_at fs i).thread in Stepped m ws (set ws (length_at m t) (n + 1)) fs (set fs i f) i s h (Said t (call.Dup k) reply.Ok ∷ []) 0)
dup-steps m ws fs s i n k w f h lt is g =
    let t : ℕ = (flight_at fs i).thread in
    let count = (grown_under m ws fs s i n w f h g).0 in
    grows-step m ws fs s i n w f (call.Dup k) h g (dup_turns m (whole m ws fs) (whole m (set ws (length_at m t) (n + 1)) (set fs i f)) t k w reply.Ok (thread_at m ws fs s i h g.inside) (omega (arith, lt, count)) is (grows-push m ws fs s i n w f h g))

-- ---- the top slot dropped

shrunk_under : (m : Areas) (ws : List ℕ) (fs : List Flight) (s : SpaceState) (i n : ℕ) → StandInFlight m ws fs s → Shrinks m ws fs i n → (let t = (flight_at fs i).thread in (n + 1 ≡ length (stack_of (under m ws fs) t)) × (under m (set ws (length_at m t) n) fs ≡ with_stack (under m ws fs) t (take n (stack_of (under m ws fs) t))))
shrunk_under m ws fs s i n h g =
    let t : ℕ = (flight_at fs i).thread in
    let lt = g.inside in
    let sound = sound_under m ws fs s h.fit h.stands in
    let bare : IsBare (flight_at fs i).covers (length_at m t) = subst (λ (ks : List Cover). IsBare ks (length_at m t)) (sym g.covers) (All-nil (λ (k : Cover). k.place ≢ length_at m t)) in
    let count : n + 1 ≡ length (stack_of (under m ws fs) t) = sym g.count ∙ own-length m ws fs s i h lt bare in
    let put = put-bare m ws fs s i (length_at m t) n (flight_at fs i) h lt (length-own m ws fs i) g.covers in
    let back : laid_all fs (set ws (length_at m t) n) ≡ laid_all (set fs i (flight_at fs i)) (set ws (length_at m t) n) = ap (λ (gs : List Flight). laid_all gs (set ws (length_at m t) n)) (sym (put_same fs i)) in
    let lift : lifted (flight_at fs i).covers (laid_all fs ws) ≡ laid_all fs ws = ap (λ (ks : List Cover). lifted ks (laid_all fs ws)) g.covers in
    (count, ap (contents m) (back ∙ put ∙ ap (λ (xs : List ℕ). set xs (length_at m t) n) lift) ∙ contents-shrink_stack m (laid_all fs ws) t n (thread_at m ws fs s i h lt) sound (omega (arith, count)))

-- all fit after a step that stores a word of a thread that covers nothing
pub fits-still : (m : Areas) (ws : List ℕ) (fs : List Flight) (s : SpaceState) (i a w : ℕ) → StandInFlight m ws fs s → i < length fs → IsOwn m (whole m ws fs) (flight_at fs i) a → (flight_at fs i).covers ≡ [] → SameGround (under m ws fs) (under m (set ws a w) fs) → FlightsFit m (set ws a w) fs
fits-still m ws fs s i a w h lt own none basis =
    let F : Flight = flight_at fs i in
    subst (FlightsFit m (set ws a w)) (put_same fs i) (fits-bare m ws fs s i a w F h lt own (record { thread = refl; claimed = refl; reading = refl; claims = refl }) none (subst (λ (gs : List Flight). SameGround (under m ws fs) (under m (set ws a w) gs)) (sym (put_same fs i)) basis))

pub pop-steps : (m : Areas) (ws : List ℕ) (fs : List Flight) (s : SpaceState) (i n : ℕ) (h : StandInFlight m ws fs s) → Shrinks m ws fs i n → (let t = (flight_at fs i).thread in Stepped m ws (set ws (length_at m t) n) fs fs i s h (Said t call.Pop reply.Ok ∷ []) 0)
pop-steps m ws fs s i n h g =
    let t : ℕ = (flight_at fs i).thread in
    let c : Contents = whole m ws fs in
    let e = shrunk_under m ws fs s i n h g in
    let one : n ≡ length (stack_of c t) - 1 = omega (arith, e.0) in
    let few : length (stack_of c t) ≤ STACK_SLOTS = stack_of-fits m (laid_all fs ws) t (thread_at m ws fs s i h g.inside) (sound_under m ws fs s h.fit h.stands) in
    let now : List ℕ = set ws (length_at m t) n in
    let basis : SameGround (under m ws fs) (under m now fs) = record { heads = ap (λ (x : Contents). x.heads) e.1; table = ap (λ (x : Contents). x.table) e.1; currents = ap (λ (x : Contents). x.currents) e.1 } in
    step-turned m ws now fs fs i s t call.Pop reply.Ok h (puts_still fs i) (fits-still m ws fs s i (length_at m t) n h g.inside (length-own m ws fs i) g.covers basis)
    (pop_turns m c (whole m now fs) t (thread_at m ws fs s i h g.inside) (omega (arith, e.0)) few (ap (completed fs) e.1 ∙ ap (λ k. with_stack c t (take k (stack_of c t))) one))
    (own-basis m ws now fs fs i basis)
    (ap (λ (x : Contents). x.buffers) e.1)

-- ---- an epoch begun

deepened_under : (m : Areas) (ws : List ℕ) (fs : List Flight) (s : SpaceState) (i d : ℕ) → StandInFlight m ws fs s → Deepens m ws fs i d → (let t = (flight_at fs i).thread in (d ≡ depth_of (under m ws fs) t) × (under m (set ws (depth_at m t) (d + 1)) fs ≡ with_depth (under m ws fs) t (d + 1)))
deepened_under m ws fs s i d h g =
    let t : ℕ = (flight_at fs i).thread in
    let lt = g.inside in
    let bare : IsBare (flight_at fs i).covers (depth_at m t) = subst (λ (ks : List Cover). IsBare ks (depth_at m t)) (sym g.covers) (All-nil (λ (k : Cover). k.place ≢ depth_at m t)) in
    let is : d ≡ depth_of (under m ws fs) t = sym g.before ∙ own-depth m ws fs s i h lt bare in
    let put = put-bare m ws fs s i (depth_at m t) (d + 1) (flight_at fs i) h lt (in_block (omega arith) (omega arith)) g.covers in
    let back : laid_all fs (set ws (depth_at m t) (d + 1)) ≡ laid_all (set fs i (flight_at fs i)) (set ws (depth_at m t) (d + 1)) = ap (λ (gs : List Flight). laid_all gs (set ws (depth_at m t) (d + 1))) (sym (put_same fs i)) in
    let lift : lifted (flight_at fs i).covers (laid_all fs ws) ≡ laid_all fs ws = ap (λ (ks : List Cover). lifted ks (laid_all fs ws)) g.covers in
    (is, ap (contents m) (back ∙ put ∙ ap (λ (xs : List ℕ). set xs (depth_at m t) (d + 1)) lift) ∙ contents-set_depth m (laid_all fs ws) t (d + 1) (thread_at m ws fs s i h lt) (sound_under m ws fs s h.fit h.stands))

pub begin-steps : (m : Areas) (ws : List ℕ) (fs : List Flight) (s : SpaceState) (i d : ℕ) (h : StandInFlight m ws fs s) → Deepens m ws fs i d → (let t = (flight_at fs i).thread in Stepped m ws (set ws (depth_at m t) (d + 1)) fs fs i s h (Said t call.Begin reply.Ok ∷ []) 0)
begin-steps m ws fs s i d h g =
    let t : ℕ = (flight_at fs i).thread in
    let c : Contents = whole m ws fs in
    let now : List ℕ = set ws (depth_at m t) (d + 1) in
    let e = deepened_under m ws fs s i d h g in
    let basis : SameGround (under m ws fs) (under m now fs) = record { heads = ap (λ (x : Contents). x.heads) e.1; table = ap (λ (x : Contents). x.table) e.1; currents = ap (λ (x : Contents). x.currents) e.1 } in
    step-turned m ws now fs fs i s t call.Begin reply.Ok h (puts_still fs i) (fits-still m ws fs s i (depth_at m t) (d + 1) h g.inside (in_block (omega arith) (omega arith)) g.covers basis)
    (begin_turns m c (whole m now fs) t (thread_at m ws fs s i h g.inside) (omega (arith, e.0, g.room)) (ap (completed fs) e.1 ∙ ap (λ k. with_depth c t (k + 1)) e.0))
    (own-basis m ws now fs fs i basis)
    (ap (λ (x : Contents). x.buffers) e.1)
