-- What a thread knows that acts among the calls in flight is so.
use Rattle.std.proofs.Common.{◌≡◌, ◌≢◌, ◌⊎◌, ℕ, ◌+◌, ◌-◌, ◌≤◌, ◌<◌, Some, List, length, get_or, zero, suc, refl, sym, ap, subst, ◌∙◌, arith, inl, inr}
use Rattle.std.specs.Prelude.{◌↔◌}
use Rattle.std.specs.List.{Contains}
use Rattle.object_layout.specs.declared.headers.Header.{Header}
use Rattle.object_layout.specs.declared.TheConstants.{MAX_SERIAL, OBJECT_WORDS}
use Rattle.heap_words.specs.declared.map.Areas.{Areas}
use Rattle.heap_words.specs.declared.TheConstants.{BUFFER_ENTRIES}
use Rattle.heap_words.specs.Map.{heap_at, heap_length, max_depth, page_at, page_words}
use Rattle.heap_words.specs.Contents.{Sound, depth_of, made_of}
use Rattle.heap_words.proofs.Contents.{buffer_of-fits, buffer_of-length_word, contents-get_head, depth_of-fits, depth_of-word, made_of-word}
use Rattle.epoch_lattice.specs.declared.Space.{Space}
use Rattle.epoch_lattice.specs.Lattice.{space_index}
use Rattle.epoch_lattice.proofs.Numbers.{number-own}
use Rattle.yak_model.specs.Graph.{Thread, slot_of, thread_of}
use Rattle.yak_model.specs.declared.datum.Datum.{Datum}
use Rattle.yak_model.specs.declared.datum.Datum.TheVariants as datum
use Rattle.yak_model.specs.Packed.{IsSpaceOf}
use Rattle.yak_model.specs.Spaces.{SpaceState}
use Rattle.yak_model.specs.State.{IsDatum, object_of, view}
use Rattle.yak_model.specs.Placed.{datum_word}
use Rattle.yak_model.specs.Stands.{Stands, current}
use Rattle.yak_model.proofs.Data.{in_heap, same-datum, some-of}
use Rattle.yak_model.proofs.Stacks.{all-at, slot-fits, slot-word}
use Rattle.region_pages.specs.declared.TheConstants.{POOL_LENGTH, USED_MARK}
use Rattle.standing_calls.specs.Records.{home_at}
use Rattle.standing_calls.proofs.Homes.{home-open, home-shown}
use Rattle.standing_calls.proofs.Named.{depth-shown, made-shown}
use Rattle.standing_calls.proofs.Steps.{thread_in}
use Rattle.standing_calls.proofs.Told.{space-valid}
use Rattle.calls_in_flight.specs.Actors.{Actor, Agrees, HasHeader, HasMet, HasSpace, HoldsPage, RefersTo, Shows}
use Rattle.calls_in_flight.specs.FieldSteps.{IsWordFor}
use Rattle.calls_in_flight.specs.Fits.{StandInFlight}
use Rattle.calls_in_flight.specs.Flight.{Flight}
use Rattle.calls_in_flight.specs.Seeing.{IsHeaderIn, Sees, slot_told}
use Rattle.calls_in_flight.specs.Steps.{current_at, depth_at, logged_at, made_at, slot_at}
use Rattle.calls_in_flight.specs.Whole.{laid_all, whole}
use Rattle.calls_in_flight.proofs.Acting.{Acts, place_of}
use Rattle.calls_in_flight.proofs.Flights.{laid_all-bare}
use Rattle.calls_in_flight.proofs.Grounds.{bare-outside, holds_at, named, sound_under}
use Rattle.calls_in_flight.proofs.ViewWords.{current-shown, few-told, header-met, header-same, inside, length-shown, mark-shown, met-word, own-in_block, shows-word, slot-shown, stood}

module _ (m : Areas) (ws : List ℕ) (fs : List Flight) (s : SpaceState) (h : StandInFlight m ws fs s) (a : Actor) (acts : Acts m ws fs s h a) where
  sound : Sound m (laid_all fs ws)
  sound = sound_under m ws fs s h.fit h.stands

  -- ---- its block

  pub depth-same : depth_of (whole m ws fs) a.thread ≡ a.told.depth
  depth-same = ap (λ ds. get_or ds (a.thread - 1) 0) h.stands.stands.depths ∙ depth-shown s a.thread ∙ ap (λ (x : Thread). x.depth) acts.told

  pub made-same : made_of (whole m ws fs) a.thread ≡ a.told.made
  made-same = ap (λ ks. get_or ks (a.thread - 1) 0) h.stands.stands.made ∙ made-shown s a.thread ∙ ap (λ (x : Thread). x.made) acts.told

  depth-seen : (n : ℕ) → Shows a (depth_at m a.thread) n → n ≡ a.told.depth
  depth-seen n sh =
      sym (shows-word m ws fs s h a acts (depth_at m a.thread) n (own-in_block m ws fs s h a acts (depth_at m a.thread) (omega arith) (omega arith)) sh)
      ∙ depth_of-word m (laid_all fs ws) a.thread acts.thread ∙ depth-same

  made-seen : (n : ℕ) → Shows a (made_at m a.thread) n → n ≡ a.told.made
  made-seen n sh =
      sym (shows-word m ws fs s h a acts (made_at m a.thread) n (own-in_block m ws fs s h a acts (made_at m a.thread) (omega arith) (omega arith)) sh)
      ∙ made_of-word m (laid_all fs ws) a.thread acts.thread ∙ made-same

  serials-few : a.told.made ≤ MAX_SERIAL
  serials-few =
      let most : get_or (view s).made (a.thread - 1) 0 ≤ MAX_SERIAL = all-at (λ k. k ≤ MAX_SERIAL) (view s).made (a.thread - 1) 0 (omega arith) h.stands.stands.serials in
      let same : get_or (view s).made (a.thread - 1) 0 ≡ a.told.made = made-shown s a.thread ∙ ap (λ (x : Thread). x.made) acts.told in
      omega (arith, most, same)

  logged-few : (n : ℕ) → Shows a (logged_at m a.thread) n → n ≤ BUFFER_ENTRIES
  logged-few n sh =
      let e = shows-word m ws fs s h a acts (logged_at m a.thread) n (own-in_block m ws fs s h a acts (logged_at m a.thread) (omega arith) (omega arith)) sh in
      omega (arith, e, buffer_of-length_word m (laid_all fs ws) a.thread acts.thread sound, buffer_of-fits m (laid_all fs ws) a.thread acts.thread sound)

  -- ---- the slots of its stack

  slot-same : (k : ℕ) → slot_of s.graph a.thread k ≡ slot_told a k
  slot-same k = ap (λ (x : Thread). get_or x.stack k datum.Null) acts.told

  slot-seen : (k word : ℕ) → k < length a.told.stack → Shows a (slot_at m a.thread k) word → datum_word h.stands.places.at (slot_told a k) ≡ word
  slot-seen k word lt sh = ap (datum_word h.stands.places.at) (sym (slot-same k)) ∙ sym (slot-word m (whole m ws fs) s h.stands a.thread k) ∙ slot-shown m ws fs s h a acts k word lt sh

  slot-datum : (k : ℕ) → IsDatum (object_of s) (slot_told a k)
  slot-datum k = subst (IsDatum (object_of s)) (slot-same k) (slot-fits m (whole m ws fs) s h.stands a.thread k)

  pub word-for : (d : Datum) → IsDatum (object_of s) d → IsWordFor m d (datum_word h.stands.places.at d)
  word-for datum.Null fits = refl
  word-for (datum.Int i) fits = refl
  word-for (datum.Object n) fits =
      let o = some-of (object_of s n) fits in
      (h.stands.places.at n, omega (arith, in_heap m (whole m ws fs) (view s) h.stands.places n o.0 h.stands.stands o.1), refl)

  slots-seen : (k word : ℕ) → k < length a.told.stack → Shows a (slot_at m a.thread k) word → IsWordFor m (slot_told a k) word
  slots-seen k word lt sh = subst (IsWordFor m (slot_told a k)) (slot-seen k word lt sh) (word-for (slot_told a k) (slot-datum k))

  same-seen : (j k v w : ℕ) → j < length a.told.stack → k < length a.told.stack → Shows a (slot_at m a.thread j) v → Shows a (slot_at m a.thread k) w → v ≡ w ↔ slot_told a j ≡ slot_told a k
  same-seen j k v w lj lk shj shk = (
    λ e. same-datum m (whole m ws fs) (view s) h.stands.places (slot_told a j) (slot_told a k) h.stands.stands (slot-datum j) (slot-datum k) (slot-seen j v lj shj ∙ e ∙ sym (slot-seen k w lk shk)),
    λ e. sym (slot-seen j v lj shj) ∙ ap (datum_word h.stands.places.at) e ∙ slot-seen k w lk shk,
  )

  -- ---- the objects to which they refer

  headers-seen : (k at word : ℕ) → RefersTo m a k at → HasMet a (heap_at m + at) word → IsHeaderIn m word
  headers-seen k at word ref has =
      let x = stood m ws fs s h a acts s h.stands k at ref in
      let own = (home-open m (whole m ws fs) s h.stands x.name x.thing h.fit.areas x.present).1 in
      record {
        fields = length x.thing.fields;
        space = x.thing.home;
        valid = space-valid m x.thing.home h.fit.areas own;
        region = λ u d e. subst (IsSpaceOf m) e own;
        header = x.is_header;
        is_word = sym (header-met m ws fs s h a acts k at word ref has) ∙ x.header;
      }

  ends-seen : (k at : ℕ) (x : Header) → RefersTo m a k at → HasHeader m a at x → at + OBJECT_WORDS + x.fields ≤ heap_length m
  ends-seen k at x ref has =
      let o = stood m ws fs s h a acts s h.stands k at ref in
      omega (arith, o.place, (header-same m ws fs s h a acts s h.stands k at x ref has).0, in_heap m (whole m ws fs) (view s) h.stands.places o.name o.thing h.stands.stands o.present)

  spaces-seen : (k at : ℕ) (x : Space) → RefersTo m a k at → HasSpace m a at x → home_at s (slot_told a k) ≡ Some x
  spaces-seen k at x ref has =
      let o = stood m ws fs s h a acts s h.stands k at ref in
      let own = (home-open m (whole m ws fs) s h.stands o.name o.thing h.fit.areas o.present).1 in
      let index = (header-same m ws fs s h a acts s h.stands k at (record { fields = has.0; space = space_index x }) ref has.2).1 in
      let one : o.thing.home ≡ x = number-own o.thing.home x (space-valid m o.thing.home h.fit.areas own) has.1 (sym index) in
      ap (home_at s) (sym (slot-same k) ∙ o.refers) ∙ home-shown s o.name o.thing o.present ∙ ap Some one

  -- ---- its pages, and the pool

  named_current : (word : ℕ) → (word ≢ 0 → word ≤ m.pages) → (word ≡ 0) ⊎ ((p : ℕ) × (word ≡ p + 1) × (p < m.pages))
  named_current zero few = inl refl
  named_current (suc p) few =
      let le = few (λ e. omega (arith, e)) in
      inr (p, omega arith, omega (arith, le))

  currents-seen : (d word : ℕ) → d ≤ max_depth m → Shows a (current_at m a.thread d) word → (word ≡ 0) ⊎ ((p : ℕ) × (word ≡ p + 1) × (p < m.pages))
  currents-seen d word ld sh =
      let e : current (whole m ws fs).currents a.thread d ≡ word = current-shown m ws fs s h a acts d word ld sh in
      let n = named m ws fs s h.fit h.stands in
      named_current word (λ ne. subst (λ x. x ≤ m.pages) e (n.currents.belong a.thread d acts.thread.0 acts.thread.1 (omega (arith, ld, n.slots a.thread acts.thread)) (λ z. ne (sym e ∙ z))).0)

  claimed-seen : (p : ℕ) → Contains a.flight.claimed p → p < m.pages
  claimed-seen p has = ((holds_at m ws fs s (place_of a) h.fit h.stands (inside m ws fs s h a acts)).claimed p (subst (λ (f : Flight). Contains f.claimed p) (sym acts.flight) has)).0

  marks-seen : (p used : ℕ) → HoldsPage m a p → Shows a (page_at m p + USED_MARK) used → used ≤ page_words m
  marks-seen p used holds sh =
      let heap = h.stands.stands.heap in
      omega (arith, mark-shown m ws fs s h a acts p used holds sh, heap.marks p holds.0, heap.tiles.fits p (omega (arith, holds.0, heap.count)))

  pool-seen : (n : ℕ) → HasMet a POOL_LENGTH n → n ≤ m.pages
  pool-seen n has =
      let e : get_or ws POOL_LENGTH 0 ≡ n = met-word m ws fs s h a acts POOL_LENGTH n has in
      let bare = laid_all-bare fs ws POOL_LENGTH (bare-outside m ws fs s POOL_LENGTH h.fit h.stands (inl (omega arith))) in
      omega (arith, e, bare, contents-get_head m (laid_all fs ws) POOL_LENGTH (omega arith), h.fit.within)

  -- a state for which the words stand, and in which it has the same, agrees with what it knows
  pub agrees-so : (r : SpaceState) → Stands m (whole m ws fs) r → thread_of r.graph a.thread ≡ a.told → Agrees m a r.graph
  agrees-so r g told = record {
    limits = g.whole.limits;
    there = thread_in m (whole m ws fs) r g a.thread acts.thread;
    has = told;
    fields = λ k at x ref has. (stood m ws fs s h a acts r g k at ref).size ∙ sym (header-same m ws fs s h a acts r g k at x ref has).0;
  }

  pub sees : Sees m a s
  sees = record {
    thread = acts.thread;
    agrees = agrees-so s h.stands acts.told;
    length_is = length-shown m ws fs s h a acts;
    few_slots = few-told m ws fs s h a acts;
    depth_is = depth-seen;
    not_deep = omega (arith, depth-same, depth_of-fits m (laid_all fs ws) a.thread acts.thread sound);
    made_is = made-seen;
    serials = serials-few;
    logged = logged-few;
    slots = slots-seen;
    same = same-seen;
    headers = headers-seen;
    ends = ends-seen;
    spaces = spaces-seen;
    currents = currents-seen;
    claimed = claimed-seen;
    marks = marks-seen;
    pool = pool-seen;
  }
