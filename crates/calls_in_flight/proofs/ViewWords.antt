-- What the words show of what a thread knows that acts among the calls in flight.
use Rattle.std.proofs.Common.{◌≡◌, ℕ, ◌+◌, ◌*◌, ◌≤◌, ◌<◌, Some, List, length, get_or, refl, sym, ap, subst, ◌∙◌, arith, inl, inr}
use Rattle.std.specs.List.{Contains}
use Rattle.std.proofs.lemmas.List.Elements.{All-contains}
use Rattle.std.proofs.Math.Logic.{⊎_elim}
use Rattle.object_layout.specs.declared.names.Name.{Name}
use Rattle.object_layout.specs.declared.headers.Header.{Header}
use Rattle.object_layout.specs.Layout.{IsHeader, header_word}
use Rattle.heap_words.specs.declared.map.Areas.{Areas}
use Rattle.heap_words.specs.declared.TheConstants.{STACK_SLOTS}
use Rattle.heap_words.specs.Map.{block_at, block_words, heap_at, max_depth, page_at, total_of}
use Rattle.heap_words.specs.Contents.{Contents, Sound, stack_of}
use Rattle.heap_words.proofs.Contents.{contents-get_page, currents_of-word, stack_of-fits, stack_of-length_word, stack_of-word}
use Rattle.epoch_lattice.specs.Lattice.{space_index}
use Rattle.yak_model.specs.Graph.{Thread, fields_at, slot_of}
use Rattle.yak_model.specs.declared.datum.Datum.{Datum}
use Rattle.yak_model.specs.declared.datum.Datum.TheVariants as datum
use Rattle.yak_model.specs.Spaces.{SpaceState}
use Rattle.yak_model.specs.State.{Thing, object_of, view}
use Rattle.yak_model.specs.Placed.{datum_word, used_mark}
use Rattle.yak_model.specs.Stands.{Stands, current}
use Rattle.yak_model.proofs.Data.{home-index, object_fields, refers}
use Rattle.yak_model.proofs.Stacks.{slot-fits, slot-word, stack_length}
use Rattle.region_pages.specs.declared.TheConstants.{USED_MARK}
use Rattle.calls_in_flight.specs.Actors.{Actor, HasHeader, HasMet, HoldsPage, RefersTo, Shows, met, under}
use Rattle.calls_in_flight.specs.Fits.{StandInFlight}
use Rattle.calls_in_flight.specs.Flight.{Cover, Flight, IsBare, flight_at}
use Rattle.calls_in_flight.specs.Knowing.{IsLasting, Known}
use Rattle.calls_in_flight.specs.Owning.{IsOwn, IsOwnPage, IsWordOf, in_block, in_entry}
use Rattle.calls_in_flight.specs.Steps.{current_at, length_at, slot_at}
use Rattle.calls_in_flight.specs.Whole.{laid_all, whole}
use Rattle.calls_in_flight.proofs.Acting.{Acts, place_of}
use Rattle.calls_in_flight.proofs.Apart.{own-within}
use Rattle.calls_in_flight.proofs.Grounds.{holds_at, named, sound_under}
use Rattle.calls_in_flight.proofs.Knowing.{object-word}
use Rattle.calls_in_flight.proofs.OwnWords.{own-word}
use Rattle.calls_in_flight.proofs.Ready.{shown-at}

-- two headers with one word are one
pub same-header : (x y : Header) → IsHeader x → IsHeader y → header_word x ≡ header_word y → (x.fields ≡ y.fields) × (x.space ≡ y.space)
same-header x y hx hy e = (omega (arith, hx.0, hx.1, hy.0, hy.1, e), omega (arith, hx.0, hx.1, hy.0, hy.1, e))

-- the object at a heap word, to which a slot of a thread refers, in a state for which the words stand
pub record Stood (m : Areas) (c : Contents) (s : SpaceState) (h : Stands m c s) (t k at : ℕ) : Type 0 where
  pub name : Name
  pub thing : Thing
  pub refers : slot_of s.graph t k ≡ datum.Object name
  pub present : object_of s name ≡ Some thing
  pub place : at ≡ h.places.at name
  pub header : get_or c.heap at 0 ≡ header_word (record { fields = length thing.fields; space = space_index thing.home })
  pub is_header : IsHeader (record { fields = length thing.fields; space = space_index thing.home })
  pub size : length (fields_at s.graph (slot_of s.graph t k)) ≡ length thing.fields

module _ (m : Areas) (ws : List ℕ) (fs : List Flight) (s : SpaceState) (h : StandInFlight m ws fs s) (a : Actor) (acts : Acts m ws fs s h a) where
  pub inside : place_of a < length fs
  inside = omega (arith, acts.thread.0, acts.thread.1, acts.count)

  sound : Sound m (laid_all fs ws)
  sound = sound_under m ws fs s h.fit h.stands

  -- what is its own by its number and its call in flight
  pub own-of : (b : ℕ) → IsWordOf m (whole m ws fs) a.thread a.flight.claimed b → IsOwn m (whole m ws fs) (flight_at fs (place_of a)) b
  own-of b own = subst (λ (t : ℕ). IsWordOf m (whole m ws fs) t (flight_at fs (place_of a)).claimed b) (sym acts.numbered) (subst (λ (f : Flight). IsWordOf m (whole m ws fs) a.thread f.claimed b) (sym acts.flight) own)

  pub own-in_block : (b : ℕ) → block_at m a.thread ≤ b → b < block_at m a.thread + block_words m → IsOwn m (whole m ws fs) (flight_at fs (place_of a)) b
  own-in_block b low high = own-of b (in_block low high)

  pub is-within : (b : ℕ) → IsOwn m (whole m ws fs) (flight_at fs (place_of a)) b → b < total_of m
  is-within b own = own-within m (whole m ws fs) (flight_at fs (place_of a)) b (named m ws fs s h.fit h.stands) (holds_at m ws fs s (place_of a) h.fit h.stands inside) own

  -- a word that it has met stands there, and lasts
  pub met-word : (place word : ℕ) → HasMet a place word → get_or ws place 0 ≡ word
  met-word place word has = (All-contains (λ (k : Known). (get_or ws k.place 0 ≡ k.word) × IsLasting m ws fs s h (place_of a) k.place) a.lasting (record { place = place; word = word }) acts.knows has).0

  -- a word of its own that it knows is the one that is seen under all covers
  pub shows-word : (place word : ℕ) → IsOwn m (whole m ws fs) (flight_at fs (place_of a)) place → Shows a place word → get_or (laid_all fs ws) place 0 ≡ word
  shows-word place word own (met bare has) =
      sym (own-word m ws fs s (place_of a) place h inside own (subst (λ (f : Flight). IsBare f.covers place) (sym acts.flight) bare)) ∙ met-word place word has
  shows-word place word own (under stands has) =
      let k : Cover = record { place = place; stands = stands; shown = word } in
      let c : Contains (flight_at fs (place_of a)).covers k = subst (λ (f : Flight). Contains f.covers k) (sym acts.flight) has in
      shown-at m ws fs s (place_of a) c.0 k h inside c.1 c.2 (is-within place own)

  -- ---- the stack

  pub length-told : length (stack_of (whole m ws fs) a.thread) ≡ length a.told.stack
  length-told = stack_length m (whole m ws fs) s h.stands a.thread ∙ ap (λ (x : Thread). length x.stack) acts.told

  pub few-told : length a.told.stack ≤ STACK_SLOTS
  few-told = omega (arith, length-told, stack_of-fits m (laid_all fs ws) a.thread acts.thread sound)

  pub length-shown : (n : ℕ) → Shows a (length_at m a.thread) n → n ≡ length a.told.stack
  length-shown n sh =
      sym (shows-word (length_at m a.thread) n (own-in_block (length_at m a.thread) (omega arith) (omega arith)) sh)
      ∙ stack_of-length_word m (laid_all fs ws) a.thread acts.thread sound ∙ length-told

  pub slot-shown : (k word : ℕ) → k < length a.told.stack → Shows a (slot_at m a.thread k) word → get_or (stack_of (whole m ws fs) a.thread) k 0 ≡ word
  slot-shown k word lt sh =
      let few = few-told in
      sym (stack_of-word m (laid_all fs ws) a.thread k acts.thread sound (omega (arith, lt, length-told)))
      ∙ shows-word (slot_at m a.thread k) word (own-in_block (slot_at m a.thread k) (omega arith) (omega (arith, lt, few))) sh

  -- ---- objects to which it refers, in each state for which the words stand

  pub stood : (r : SpaceState) (g : Stands m (whole m ws fs) r) (k at : ℕ) → RefersTo m a k at → Stood m (whole m ws fs) r g a.thread k at
  stood r g k at ref =
      let c : Contents = whole m ws fs in
      let word : datum_word g.places.at (slot_of r.graph a.thread k) ≡ 2 * (at + 1) = sym (slot-word m c r g a.thread k) ∙ slot-shown k (2 * (at + 1)) ref.slot ref.word in
      let x = refers m c (view r) g.places (slot_of r.graph a.thread k) at g.stands (slot-fits m c r g a.thread k) word in
      record {
        name = x.0;
        thing = x.1;
        refers = x.2;
        present = x.3;
        place = x.4;
        header = ap (λ i. get_or c.heap i 0) x.4 ∙ (g.stands.heap.held x.0 x.1 x.3).header;
        is_header = ((g.stands.closed.fields x.0 x.1 x.3).1, home-index m c (view r) g.places x.0 x.1 h.fit.areas g.stands x.3);
        size = ap (λ (d : Datum). length (fields_at r.graph d)) x.2 ∙ ap (λ (vs : List Datum). length vs) (object_fields r x.0 x.1 x.3);
      }

  -- the word of its header
  pub header-met : (k at word : ℕ) → RefersTo m a k at → HasMet a (heap_at m + at) word → get_or (whole m ws fs).heap at 0 ≡ word
  header-met k at word ref has =
      let x = stood s h.stands k at ref in
      let same : heap_at m + at ≡ heap_at m + (h.stands.places.at x.name + 0) = omega (arith, x.place) in
      let back : h.stands.places.at x.name + 0 ≡ at = omega (arith, x.place) in
      ap (λ i. get_or (whole m ws fs).heap i 0) (sym back) ∙ sym (object-word m ws fs s h x.name x.thing 0 x.present (omega arith)) ∙ ap (λ i. get_or ws i 0) (sym same) ∙ met-word (heap_at m + at) word has

  pub header-same : (r : SpaceState) (g : Stands m (whole m ws fs) r) (k at : ℕ) (x : Header) (ref : RefersTo m a k at) → HasHeader m a at x → (let o = (stood r g k at ref).thing in (x.fields ≡ length o.fields) × (x.space ≡ space_index o.home))
  header-same r g k at x ref has =
      let y = stood r g k at ref in
      same-header x (record { fields = length y.thing.fields; space = space_index y.thing.home }) has.0 y.is_header (sym (header-met k at (header_word x) ref has.1) ∙ y.header)

  -- ---- pages

  pub current-shown : (d word : ℕ) → d ≤ max_depth m → Shows a (current_at m a.thread d) word → current (whole m ws fs).currents a.thread d ≡ word
  current-shown d word ld sh =
      sym (currents_of-word m (laid_all fs ws) a.thread d acts.thread (omega (arith, ld)))
      ∙ shows-word (current_at m a.thread d) word (own-in_block (current_at m a.thread d) (omega arith) (omega (arith, ld))) sh

  pub page-own : (p : ℕ) → HoldsPage m a p → IsOwnPage m (whole m ws fs) (flight_at fs (place_of a)) p
  page-own p holds = ⊎_elim
      (λ (x : (d : ℕ) × (d ≤ max_depth m) × Shows a (current_at m a.thread d) (p + 1)). inl (x.0, x.1, ap (λ t. current (whole m ws fs).currents t x.0) acts.numbered ∙ current-shown x.0 (p + 1) x.1 x.2))
      (λ (x : Contains a.flight.claimed p). inr (subst (λ (f : Flight). Contains f.claimed p) (sym acts.flight) x))
      holds.1

  pub mark-shown : (p used : ℕ) → HoldsPage m a p → Shows a (page_at m p + USED_MARK) used → used_mark (whole m ws fs).table p ≡ used
  mark-shown p used holds sh =
      sym (contents-get_page m (laid_all fs ws) p 1 holds.0 (omega arith))
      ∙ shows-word (page_at m p + USED_MARK) used (in_entry p 1 (page-own p holds) (omega arith) refl) sh
