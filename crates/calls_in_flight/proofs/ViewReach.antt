-- The field that a call of a thread reaches, as far as the thread knows.
use Rattle.std.proofs.Common.{◌≡◌, ℕ, ◌+◌, ◌*◌, ◌<◌, Bool, true, false, cond, Some, None, List, length, get_or, refl, sym, subst, arith}
use Rattle.std.proofs.lemmas.Bool.{leb-false}
use Rattle.std.specs.Prelude.{not, Option}
use Rattle.object_layout.specs.declared.TheConstants.{OBJECT_WORDS}
use Rattle.object_layout.specs.declared.calls.Call.{Call}
use Rattle.object_layout.specs.declared.calls.Call.TheVariants.{Load, Store}
use Rattle.object_layout.specs.declared.headers.Header.{Header}
use Rattle.object_layout.specs.declared.replies.Refusal.{Refusal}
use Rattle.object_layout.specs.declared.replies.Refusal.TheVariants as refusal
use Rattle.object_layout.specs.Layout.{IsHeader, header_word}
use Rattle.heap_words.specs.declared.map.Areas.{Areas}
use Rattle.heap_words.specs.Contents.{stack_of}
use Rattle.yak_model.specs.Graph.{fields_at, is_bad_field, is_bad_slot, is_reference, is_stack_full, refusal_of, slot_of}
use Rattle.heap_words.specs.declared.TheConstants.{STACK_SLOTS}
use Rattle.yak_model.specs.Graph as model
use Rattle.yak_model.specs.Spaces.{SpaceState}
use Rattle.yak_model.proofs.Stacks.{stack_length}
use Rattle.epoch_lattice.specs.Lattice.{space_index}
use Rattle.yak_model.proofs.Data.{Tells}
use Rattle.standing_calls.proofs.Reached.{field_found}
use Rattle.calls_in_flight.specs.Actors.{Actor, RefersTo}
use Rattle.calls_in_flight.specs.Fields.{IsFieldIn}
use Rattle.calls_in_flight.specs.FieldSteps.{LoadsFrom, StoresInto}
use Rattle.calls_in_flight.specs.Fits.{StandInFlight}
use Rattle.calls_in_flight.specs.Flight.{Flight, flight_at}
use Rattle.calls_in_flight.specs.Whole.{whole}
use Rattle.calls_in_flight.proofs.Acting.{Acts, place_of}
use Rattle.calls_in_flight.proofs.ViewWords.{length-told, slot-shown, stood}
use Rattle.calls_in_flight.proofs.ViewSees.{sees}

-- tests that fail where a call isn't refused
third : (a b d : Bool) (x y z : Refusal) (rest : Option Refusal) → cond a (Some x) (cond b (Some y) (cond d (Some z) rest)) ≡ None → d ≡ false
third true b d x y z rest e = cc
third false true d x y z rest e = cc
third false false true x y z rest e = cc
third false false false x y z rest e = refl

-- and the test behind them
rest_of : (a : Bool) (x : Refusal) (rest : Option Refusal) → cond a (Some x) rest ≡ None → rest ≡ None
rest_of true x rest e = cc
rest_of false x rest e = e

header-tells : (x : Header) (w : ℕ) → IsHeader x → w ≡ header_word x → Tells w x.fields
header-tells x w hx e fields space lf ls is = omega (arith, hx.0, hx.1, e, is, lf, ls)

module _ (m : Areas) (ws : List ℕ) (fs : List Flight) (s : SpaceState) (h : StandInFlight m ws fs s) (a : Actor) (acts : Acts m ws fs s h a) where
  -- a field that the object has is that heap word
  pub field-in : (slot at field : ℕ) (ref : RefersTo m a slot at) → field < length (fields_at s.graph (slot_of s.graph a.thread slot)) → IsFieldIn m (whole m ws fs) (flight_at fs (place_of a)).thread slot field (at + OBJECT_WORDS + field)
  field-in slot at field ref below =
      let x = stood m ws fs s h a acts s h.stands slot at ref in
      let n : ℕ = length x.thing.fields in
      subst (λ t. IsFieldIn m (whole m ws fs) t slot field (at + OBJECT_WORDS + field)) (sym acts.numbered)
      (λ r g. field_found m (whole m ws fs) r g a.thread slot field at n h.fit.areas (omega (arith, ref.slot, length-told m ws fs s h a acts)) (slot-shown m ws fs s h a acts slot (2 * (at + 1)) ref.slot ref.word)
      (header-tells (record { fields = n; space = space_index x.thing.home }) (get_or (whole m ws fs).heap at 0) x.is_header x.header) (omega (arith, below, x.size)))

  -- a store that isn't refused
  pub stores-in : (asked : Call) (at field word : ℕ) (x : StoresInto m a asked at field word) → IsFieldIn m (whole m ws fs) (flight_at fs (place_of a)).thread x.slot field (at + OBJECT_WORDS + field)
  stores-in asked at field word x =
      let g = s.graph in
      let t : ℕ = a.thread in
      let none : refusal_of g t (Store x.slot field x.from) ≡ None = subst (λ (c : Call). refusal_of g t c ≡ None) x.call (x.let_ g (sees m ws fs s h a acts).agrees) in
      let rest = rest_of (is_bad_slot g t x.slot) refusal.BadSlot (cond (is_bad_slot g t x.from) (Some refusal.BadSlot) (cond (not (is_reference (slot_of g t x.slot))) (Some refusal.NotAReference) (cond (is_bad_field g t x.slot field) (Some refusal.BadField) None))) none in
      let test : is_bad_field g t x.slot field ≡ false = third (is_bad_slot g t x.from) (not (is_reference (slot_of g t x.slot))) (is_bad_field g t x.slot field) refusal.BadSlot refusal.NotAReference refusal.BadField None rest in
      field-in x.slot at field x.refers (leb-false (length (fields_at g (slot_of g t x.slot))) field test)

  -- a load that isn't refused
  pub loads-in : (asked : Call) (at field : ℕ) (x : LoadsFrom m a asked at field) → IsFieldIn m (whole m ws fs) (flight_at fs (place_of a)).thread x.slot field (at + OBJECT_WORDS + field) × (length (stack_of (whole m ws fs) a.thread) < STACK_SLOTS)
  loads-in asked at field x =
      let g = s.graph in
      let t : ℕ = a.thread in
      let none : refusal_of g t (Load x.slot field) ≡ None = subst (λ (c : Call). refusal_of g t c ≡ None) x.call (x.let_ g (sees m ws fs s h a acts).agrees) in
      let test : is_bad_field g t x.slot field ≡ false = third (is_bad_slot g t x.slot) (not (is_reference (slot_of g t x.slot))) (is_bad_field g t x.slot field) refusal.BadSlot refusal.NotAReference refusal.BadField (cond (is_stack_full g t) (Some refusal.StackFull) None) none in
      let last = rest_of (is_bad_slot g t x.slot) refusal.BadSlot (cond (not (is_reference (slot_of g t x.slot))) (Some refusal.NotAReference) (cond (is_bad_field g t x.slot field) (Some refusal.BadField) (cond (is_stack_full g t) (Some refusal.StackFull) None))) none in
      let full : is_stack_full g t ≡ false = third (not (is_reference (slot_of g t x.slot))) (is_bad_field g t x.slot field) (is_stack_full g t) refusal.NotAReference refusal.BadField refusal.StackFull None last in
      (field-in x.slot at field x.refers (leb-false (length (fields_at g (slot_of g t x.slot))) field test), omega (arith, leb-false STACK_SLOTS (length (model.stack_of g t)) full, stack_length m (whole m ws fs) s h.stands t))
