-- A field loaded: the state has it on the stack before the slot, the stack's length and the reader's bit are stored.
use Rattle.std.proofs.Common.{◌≡◌, ◌≢◌, ℕ, ◌+◌, ◌-◌, ◌^◌, ◌<◌, Option, Some, None, List, [], ◌∷◌, ◌++◌, length, get_or, set, refl, sym, ap, subst, ◌∙◌, arith, inl, inr, bit_or, length-set, get_or-set_same, get_or-set_other}
use Rattle.std.specs.Prelude.{IfSome}
use Rattle.std.specs.List.{All, AllPairs}
use Rattle.std.proofs.lemmas.Bool.{cases_eq}
use Rattle.std.proofs.lemmas.List.{set_comm}
use Rattle.std.proofs.lemmas.List.Elements.{All-cons, All-nil}
use Rattle.std.proofs.lemmas.List.Kept.{AllPairs-cons}
use Rattle.std.proofs.Math.Logic.{⊎_elim}
use Rattle.object_layout.specs.declared.calls.Call.TheVariants as call
use Rattle.object_layout.specs.declared.replies.Reply.TheVariants as reply
use Rattle.heap_words.specs.declared.map.Areas.{Areas}
use Rattle.heap_words.specs.declared.TheConstants.{STACK_SLOTS}
use Rattle.heap_words.specs.Map.{HasRegion, heap_at}
use Rattle.heap_words.specs.Cells.{row}
use Rattle.heap_words.specs.Contents.{Contents, contents, stack_of, with_stack}
use Rattle.heap_words.proofs.Contents.{contents-get_heap, contents-grow_stack}
use Rattle.epoch_lattice.specs.declared.Space.{Space}
use Rattle.epoch_lattice.specs.declared.Space.TheVariants.{Region}
use Rattle.yak_model.specs.declared.history.Entry.TheVariants.{Said}
use Rattle.yak_model.specs.Packed.{IsSpaceOf}
use Rattle.yak_model.specs.Spaces.{SpaceState}
use Rattle.standing_calls.specs.Records.{IsOther, IsWordOf, MarksReader}
use Rattle.standing_calls.specs.Turned.{Turned}
use Rattle.standing_calls.proofs.Homes.{home-open}
use Rattle.standing_calls.proofs.Loads.{field_word, load_turns, value_thing}
use Rattle.standing_calls.proofs.Marks.{ReadersFit, readers_fit}
use Rattle.standing_calls.proofs.Reached.{field_within}
use Rattle.calls_in_flight.specs.Flight.{Cover, Flight, IsBare, Reading, at_rest, flight_at}
use Rattle.calls_in_flight.specs.Whole.{claimed_in, claims_in, completed, laid, laid_all, read_by, read_in, whole}
use Rattle.calls_in_flight.specs.Owning.{IsOwn, in_block}
use Rattle.calls_in_flight.specs.Fits.{FlightFits, FlightsFit, StandInFlight}
use Rattle.calls_in_flight.specs.Stepped.{Stepped}
use Rattle.calls_in_flight.specs.Fields.{IsEntered, LoadsField}
use Rattle.calls_in_flight.specs.Steps.{length_at, slot_at}
use Rattle.calls_in_flight.proofs.Apart.{own-kept}
use Rattle.calls_in_flight.proofs.Claimed.{claimed-same, claims-put}
use Rattle.calls_in_flight.proofs.Events.{step-turned}
use Rattle.calls_in_flight.proofs.Flights.{IsBareBeside, laid_all-bare, laid_all-own, laid_all-put, others}
use Rattle.calls_in_flight.proofs.Grounds.{bare-beside, fit_at, fits-moved, fits-put, sound_under, under}
use Rattle.calls_in_flight.proofs.OwnWords.{own-length, thread_at}
use Rattle.calls_in_flight.proofs.Quiet.{puts_set, read-same}
use Rattle.calls_in_flight.proofs.Readers.{marked, read-put}
use Rattle.calls_in_flight.proofs.Stored.{field-bare}

-- as many readers words as regions, whatever bits are set in them
fit-marked : (m : Areas) (rs : List (List ℕ)) (k j b : ℕ) → ReadersFit m rs → ReadersFit m (marked rs k j b)
fit-marked m rs k j b h =
    let r : List ℕ = set (row rs k) j (bit_or (get_or (row rs k) j 0) b) in
    record {
      long = length-set rs k r ∙ h.long;
      rows = λ q lq. ⊎_elim
          (λ (e : q ≡ k).
          let lk : k < length rs = omega (arith, lq, e, h.long) in
          ap (λ (x : ℕ). length (row (set rs k r) x)) e ∙ ap (λ (x : List ℕ). length x) (get_or-set_same rs k r [] lk) ∙ length-set (row rs k) j (bit_or (get_or (row rs k) j 0) b) ∙ h.rows k (omega (arith, lq, e)))
          (λ (ne : q ≢ k). ap (λ (x : List ℕ). length x) (get_or-set_other rs k q r [] ne) ∙ h.rows q lq)
          (cases_eq q k);
    }

fit-by : (m : Areas) (t : ℕ) (reading : Option Reading) (rs : List (List ℕ)) → ReadersFit m rs → ReadersFit m (read_by t reading rs)
fit-by m t None rs h = h
fit-by m t (Some r) rs h = fit-marked m rs (r.owner - 1) (r.depth - 1) (2 ^ (t - 1)) h

pub fit-read : (m : Areas) (fs : List Flight) (rs : List (List ℕ)) → ReadersFit m rs → ReadersFit m (read_in fs rs)
fit-read m [] rs h = h
fit-read m (f ∷ fs) rs h = fit-by m f.thread f.reading (read_in fs rs) (fit-read m fs rs h)

-- ---- the two covers of a load

abbrev slot_cover : Areas → List ℕ → ℕ → ℕ → ℕ → Cover
slot_cover m ws t n w = record { place = slot_at m t n; stands = get_or ws (slot_at m t n) 0; shown = w }

abbrev length_cover : Areas → ℕ → ℕ → Cover
length_cover m t n = record { place = length_at m t; stands = n; shown = n + 1 }

abbrev two_covers : Areas → List ℕ → ℕ → ℕ → ℕ → List Cover
two_covers m ws t n w = slot_cover m ws t n w ∷ length_cover m t n ∷ []

-- the slot is within the thread's block
slot-own : (m : Areas) (ws : List ℕ) (fs : List Flight) (i n : ℕ) → n < STACK_SLOTS → IsOwn m (whole m ws fs) (flight_at fs i) (slot_at m (flight_at fs i).thread n)
slot-own m ws fs i n lt = in_block (omega arith) (omega (arith, lt))

loaded_under : (m : Areas) (ws : List ℕ) (fs : List Flight) (s : SpaceState) (i n k j a : ℕ) (space : Option Space) (f : Flight) → StandInFlight m ws fs s → LoadsField m ws fs i n k j a space f → (let t = (flight_at fs i).thread in (n ≡ length (stack_of (under m ws fs) t)) × (get_or ws (heap_at m + a) 0 ≡ get_or (under m ws fs).heap a 0) × (under m ws (set fs i f) ≡ with_stack (under m ws fs) t (stack_of (under m ws fs) t ++ get_or ws (heap_at m + a) 0 ∷ [])))
loaded_under m ws fs s i n k j a space f h g =
    let F : Flight = flight_at fs i in
    let t : ℕ = F.thread in
    let lt = g.inside in
    let w : ℕ = get_or ws (heap_at m + a) 0 in
    let W : List ℕ = laid_all fs ws in
    let v : List ℕ = laid_all (others fs i) ws in
    let bare : IsBare F.covers (length_at m t) = subst (λ (ks : List Cover). IsBare ks (length_at m t)) (sym g.covers) (All-nil (λ (x : Cover). x.place ≢ length_at m t)) in
    let count : n ≡ length (stack_of (under m ws fs) t) = sym g.count ∙ own-length m ws fs s i h lt bare in
    let beside : (b : ℕ) → IsOwn m (whole m ws fs) F b → IsBareBeside fs i b = λ b own. bare-beside m ws fs s i b h.fit h.stands lt own in
    let covers : f.covers ≡ two_covers m ws t n w = ap (λ (x : Flight). x.covers) g.after in
    let Beside : Cover → Type 0 = λ x. IsBareBeside fs i x.place in
    let apart : All Beside (two_covers m ws t n w) = All-cons Beside (slot_cover m ws t n w) (length_cover m t n ∷ []) (beside (slot_at m t n) (slot-own m ws fs i n g.room)) (All-cons Beside (length_cover m t n) [] (beside (length_at m t) (in_block (omega arith) (omega arith))) (All-nil Beside)) in
    let put : laid_all (set fs i f) ws ≡ laid (two_covers m ws t n w) v = laid_all-put fs i f ws lt (subst (All Beside) (sym covers) apart) ∙ ap (λ (ks : List Cover). laid ks v) covers in
    let none : All Beside F.covers = subst (All Beside) (sym g.covers) (All-nil Beside) in
    let own : W ≡ v = laid_all-own fs i (at_rest t) ws lt refl none ∙ ap (λ (ks : List Cover). laid ks v) g.covers in
    let order : set (set W (length_at m t) (n + 1)) (slot_at m t n) w ≡ set (set W (slot_at m t n) w) (length_at m t) (n + 1) = set_comm W (length_at m t) (slot_at m t n) (n + 1) w (λ e. omega (arith, e)) in
    let p = g.field s h.stands in
    let shown : w ≡ get_or (under m ws fs).heap a 0 = sym (laid_all-bare fs ws (heap_at m + a) (field-bare m ws fs s a p.name p.thing j h p.present p.within p.place)) ∙ contents-get_heap m W a (field_within m (whole m ws fs) s h.stands t k j a p) in
    (count, shown, ap (contents m) (put ∙ ap (λ (xs : List ℕ). set (set xs (length_at m t) (n + 1)) (slot_at m t n) w) (sym own) ∙ order) ∙ contents-grow_stack m W t w n (thread_at m ws fs s i h lt) (sound_under m ws fs s h.fit h.stands) count g.room)

-- the region that the value enters is one of the heap
entered_region : (m : Areas) (ws : List ℕ) (fs : List Flight) (s : SpaceState) (i n k j a : ℕ) (space : Option Space) (f : Flight) → StandInFlight m ws fs s → LoadsField m ws fs i n k j a space f → (u d : ℕ) → space ≡ Some (Region u d) → HasRegion m u d
entered_region m ws fs s i n k j a space f h g u d e =
    let c : Contents = whole m ws fs in
    let t : ℕ = (flight_at fs i).thread in
    let shown = (loaded_under m ws fs s i n k j a space f h g).1 in
    let word : IsWordOf s h.stands.places.at (get_or ws (heap_at m + a) 0) = field_word m c s h.stands t k j a (get_or ws (heap_at m + a) 0) (g.field s h.stands) shown in
    let x = value_thing s word.value (Region u d) word.fits (sym (g.told s h.stands word) ∙ e) in
    subst (IsSpaceOf m) x.3 (home-open m c s h.stands x.0 x.1 h.fit.areas x.2).1

reading_fits : (m : Areas) (t : ℕ) (space : Option Space) (reading : Option Reading) → ((u d : ℕ) → space ≡ Some (Region u d) → HasRegion m u d) → IsEntered t space reading → IfSome reading (λ (r : Reading). HasRegion m r.owner r.depth)
reading_fits m t space None has e = tt
reading_fits m t space (Some r) has e = has r.owner r.depth e.0

-- the thread becomes a reader of the region that the value enters
marks_case : (m : Areas) (ws : List ℕ) (fs : List Flight) (i : ℕ) (space : Option Space) (f : Flight) (c d : Contents) (rs : List (List ℕ)) → i < length fs → (flight_at fs i).reading ≡ None → f.thread ≡ (flight_at fs i).thread → c.readers ≡ read_in fs rs → d.readers ≡ read_in (set fs i f) rs → (reading : Option Reading) → f.reading ≡ reading → IsEntered (flight_at fs i).thread space reading → MarksReader c d (flight_at fs i).thread space
marks_case m ws fs i space f c d rs lt none et ec ed None e entered =
    inr (λ (o : IsOther (flight_at fs i).thread space). o.3 (entered o.0 o.1 o.2), ed ∙ read-same fs i f rs et (e ∙ sym none) ∙ sym ec)
marks_case m ws fs i space f c d rs lt none et ec ed (Some r) e entered =
    let t : ℕ = (flight_at fs i).thread in
    inl (r.owner, r.depth, entered.0, entered.1, ed ∙ read-put fs i f r rs lt none e et ∙ ap (λ (x : List (List ℕ)). marked x (r.owner - 1) (r.depth - 1) (2 ^ (t - 1))) (sym ec))

-- the entry of a load is added as the field is loaded
pub loads-turn : (m : Areas) (ws : List ℕ) (fs : List Flight) (s : SpaceState) (i n k j a : ℕ) (space : Option Space) (f : Flight) → StandInFlight m ws fs s → LoadsField m ws fs i n k j a space f → Turned m (whole m ws fs) (whole m ws (set fs i f)) (flight_at fs i).thread (call.Load k j) reply.Ok
loads-turn m ws fs s i n k j a space f h g =
    let F : Flight = flight_at fs i in
    let t : ℕ = F.thread in
    let lt = g.inside in
    let gs : List Flight = set fs i f in
    let c : Contents = whole m ws fs in
    let d : Contents = whole m ws gs in
    let u : Contents = under m ws fs in
    let w : ℕ = get_or ws (heap_at m + a) 0 in
    let e = loaded_under m ws fs s i n k j a space f h g in
    let claimed : claimed_in gs ≡ claimed_in fs = claimed-same fs i f lt (ap (λ (x : Flight). x.claimed) g.after) in
    let et : f.thread ≡ t = ap (λ (x : Flight). x.thread) g.after in
    let is : d ≡ completed gs (with_stack u t (stack_of u t ++ w ∷ [])) = ap (completed gs) e.2 in
    let readers : d.readers ≡ read_in gs u.readers = ap (λ (x : Contents). x.readers) is in
    let changed : d ≡ record (with_stack c t (stack_of c t ++ w ∷ [])) { readers = d.readers } = is ∙ rw (claimed, readers) refl in
    let fit : ReadersFit m c.readers = fit-read m fs u.readers (readers_fit m (laid_all fs ws) (sound_under m ws fs s h.fit h.stands).whole) in
    load_turns m c d t k j a w space reply.Ok (thread_at m ws fs s i h lt) h.fit.areas fit g.field e.1 (λ s h v. inl (g.told s h v)) (inl (omega (arith, e.0, g.room), refl, changed, marks_case m ws fs i space f c d u.readers lt g.none et refl readers g.reading (ap (λ (x : Flight). x.reading) g.after) g.entered))

pub loads-fit : (m : Areas) (ws : List ℕ) (fs : List Flight) (s : SpaceState) (i n k j a : ℕ) (space : Option Space) (f : Flight) → StandInFlight m ws fs s → LoadsField m ws fs i n k j a space f → FlightsFit m ws (set fs i f)
loads-fit m ws fs s i n k j a space f h g =
    let F : Flight = flight_at fs i in
    let t : ℕ = F.thread in
    let lt = g.inside in
    let gs : List Flight = set fs i f in
    let c : Contents = whole m ws fs in
    let d : Contents = whole m ws gs in
    let e = (loaded_under m ws fs s i n k j a space f h g).2 in
    let ec : d.currents ≡ c.currents = ap (λ (x : Contents). x.currents) e in
    let etab : d.table ≡ c.table = ap (λ (x : Contents). x.table) e in
    let heads : (under m ws gs).heads ≡ (under m ws fs).heads = ap (λ (x : Contents). x.heads) e in
    let et : f.thread ≡ t = ap (λ (x : Flight). x.thread) g.after in
    let claims : claims_in gs ≡ claims_in fs = omega (arith, claims-put fs i f lt, ap (λ (x : Flight). x.claims) g.after) in
    let w : ℕ = get_or ws (heap_at m + a) 0 in
    let slot : Cover = slot_cover m ws t n w in
    let count : Cover = length_cover m t n in
    let Own : Cover → Type 0 = λ x. IsOwn m d F x.place in
    let Stands : Cover → Type 0 = λ x. get_or ws x.place 0 ≡ x.stands in
    let Apart : Cover → Cover → Type 0 = λ x y. x.place ≢ y.place in
    let own : All Own (slot ∷ count ∷ []) = All-cons Own slot (count ∷ []) (own-kept m c d F (slot_at m t n) ec etab (slot-own m ws fs i n g.room)) (All-cons Own count [] (in_block (omega arith) (omega arith)) (All-nil Own)) in
    let once : AllPairs Apart (slot ∷ count ∷ []) = AllPairs-cons Apart slot (count ∷ []) (All-cons (Apart slot) count [] (λ z. omega (arith, z)) (All-nil (Apart slot))) (AllPairs-cons Apart count [] (All-nil (Apart count)) (λ x y z lx ly. absurd (omega (arith, ly)))) in
    let stand : All Stands (slot ∷ count ∷ []) = All-cons Stands slot (count ∷ []) refl (All-cons Stands count [] g.count (All-nil Stands)) in
    let was = fit_at m ws fs i h.fit lt in
    let fit : FlightFits m ws d (record F { covers = slot ∷ count ∷ []; reading = g.reading }) = record {
      thread = was.thread;
      own = own;
      once = once;
      stand = stand;
      reading = reading_fits m t space g.reading (entered_region m ws fs s i n k j a space f h g) g.entered;
      claims = was.claims;
    } in
    fits-put m ws ws fs i f h.fit lt et refl (subst (FlightFits m ws d) (sym g.after) fit) (λ q lq ne. fits-moved m ws c d (flight_at fs q) (λ b o. own-kept m c d (flight_at fs q) b ec etab o) (fit_at m ws fs q h.fit lq)) (rw heads h.fit.within) (rw (heads, claims) h.fit.passed)

pub load-steps : (m : Areas) (ws : List ℕ) (fs : List Flight) (s : SpaceState) (i n k j a : ℕ) (space : Option Space) (f : Flight) (h : StandInFlight m ws fs s) → LoadsField m ws fs i n k j a space f → Stepped m ws ws fs (set fs i f) i s h (Said (flight_at fs i).thread (call.Load k j) reply.Ok ∷ []) 0
load-steps m ws fs s i n k j a space f h g =
    let e = (loaded_under m ws fs s i n k j a space f h g).2 in
    step-turned m ws ws fs (set fs i f) i s (flight_at fs i).thread (call.Load k j) reply.Ok h (puts_set fs i f g.inside (ap (λ (x : Flight). x.thread) g.after)) (loads-fit m ws fs s i n k j a space f h g) (loads-turn m ws fs s i n k j a space f h g)
    (λ q b lq ne own. own-kept m (whole m ws fs) (whole m ws (set fs i f)) (flight_at fs q) b (ap (λ (x : Contents). x.currents) e) (ap (λ (x : Contents). x.table) e) own)
    (ap (λ (x : Contents). x.buffers) e)
