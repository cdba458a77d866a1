-- What a thread shows of a slot, by the slot's word and the header of the object to which it refers.
use Rattle.std.proofs.Common.{◌≡◌, ℕ, ◌+◌, ◌*◌, ◌%◌, ◌≤◌, ◌<◌, length, refl, sym, ap, ◌∙◌, subst, arith}
use Rattle.std.specs.Prelude.{None}
use Rattle.object_layout.specs.declared.TheConstants.{HEADER_BASE, MAX_ADDRESS, MAX_FIELDS, MAX_SPACE, SPACE_UNIT}
use Rattle.object_layout.specs.declared.calls.Call.TheVariants as call
use Rattle.object_layout.specs.declared.headers.Header.{Header}
use Rattle.object_layout.specs.declared.replies.Reply.TheVariants as reply
use Rattle.epoch_lattice.specs.Lattice.{space_index}
use Rattle.heap_words.specs.declared.map.Areas.{Areas}
use Rattle.heap_words.specs.Map.{IsAreas, heap_at, heap_length}
use Rattle.yak_model.specs.declared.datum.Datum.{Datum}
use Rattle.yak_model.specs.declared.datum.Datum.TheVariants as datum
use Rattle.yak_model.specs.Graph.{Graph, fields_at, shown}
use Rattle.calls_in_flight.specs.Actors.{HasMet, IsAnswered, RefersTo, Shows}
use Rattle.calls_in_flight.specs.FieldSteps.{IsWordFor}
use Rattle.calls_in_flight.specs.Steps.{slot_at}
use Rattle.calls_in_flight.specs.Seeing.{IsHeaderIn, slot_told}
use Rattle.safepoint_gate.specs.declared.rule.View.{View}
use Rattle.safepoint_gate.specs.Singles.{IsSo, Loaded, actor}
use Rattle.mutator.specs.Making.{Searches}
use Rattle.mutator.specs.Quick.{ShowsSlot}
use Rattle.mutator.proofs.Looking.{loaded_met}
use Rattle.mutator.proofs.Refusing.{get_answered, slot_is}
use Rattle.mutator.proofs.Rooms.{searches_one}

-- ---- values by their words

int_shown : (m : Areas) (d : Datum) (word i : ℕ) → IsWordFor m d word → word ≡ 2 * i + 1 → (g : Graph) → reply.Int i ≡ shown g d
int_shown m datum.Null word i is e g = absurd (omega (arith, is, e))
int_shown m (datum.Int j) word i is e g = ap reply.Int (let r : i ≡ j = omega (arith, is, e) in r)
int_shown m (datum.Object n) word i is e g = let far = is.2 in absurd (omega (arith, far, e))

null_shown : (m : Areas) (d : Datum) (word : ℕ) → IsWordFor m d word → word ≡ 0 → (g : Graph) → reply.Null ≡ shown g d
null_shown m datum.Null word is e g = refl
null_shown m (datum.Int j) word is e g = absurd (omega (arith, is, e))
null_shown m (datum.Object n) word is e g = let far = is.2 in absurd (omega (arith, far, e))

-- no value has a word outside the layout
other_shown : (m : Areas) (d : Datum) (word : ℕ) → IsAreas m → IsWordFor m d word → 2 * (MAX_ADDRESS + 1) < word → word % 2 ≡ 0 → (g : Graph) → reply.Null ≡ shown g d
other_shown m datum.Null word areas is high even g = refl
other_shown m (datum.Int j) word areas is high even g = absurd (omega (arith, is, even))
other_shown m (datum.Object n) word areas is high even g = let low = is.1 in let far = is.2 in let few = areas.1 in absurd (omega (arith, low, far, few, high))

object_shown : (m : Areas) (d : Datum) (word at count : ℕ) → IsWordFor m d word → word ≡ 2 * (at + 1) → (g : Graph) → length (fields_at g d) ≡ count → reply.Object count ≡ shown g d
object_shown m datum.Null word at count is e g fields = absurd (omega (arith, is, e))
object_shown m (datum.Int j) word at count is e g fields = absurd (omega (arith, is, e))
object_shown m (datum.Object n) word at count is e g fields = ap reply.Object (sym fields)

leads : (m : Areas) (d : Datum) (word at : ℕ) → IsWordFor m d word → word ≡ 2 * (at + 1) → at < heap_length m
leads m datum.Null word at is e = absurd (omega (arith, is, e))
leads m (datum.Int j) word at is e = absurd (omega (arith, is, e))
leads m (datum.Object n) word at is e = let low = is.1 in let far = is.2 in omega (arith, low, far, e)

-- ---- the reply to `get`

module _ (v : View) (so : IsSo v) (k word : ℕ) (shows : ShowsSlot v k word) where
  word_for : IsWordFor v.map (slot_told (actor v) k) word
  word_for = so.sees.slots k word shows.0 shows.1

  pub gets_int : (i : ℕ) → word ≡ 2 * i + 1 → IsAnswered v.map (actor v) (call.Get k) (reply.Int i)
  gets_int i e = get_answered v.map (actor v) k (reply.Int i) shows.0 (λ g agrees. int_shown v.map (slot_told (actor v) k) word i word_for e g ∙ ap (shown g) (sym (slot_is v.map (actor v) g k agrees)))

  pub gets_null : word ≡ 0 → IsAnswered v.map (actor v) (call.Get k) reply.Null
  gets_null e = get_answered v.map (actor v) k reply.Null shows.0 (λ g agrees. null_shown v.map (slot_told (actor v) k) word word_for e g ∙ ap (shown g) (sym (slot_is v.map (actor v) g k agrees)))

  pub gets_other : IsAreas v.map → 2 * (MAX_ADDRESS + 1) < word → word % 2 ≡ 0 → IsAnswered v.map (actor v) (call.Get k) reply.Null
  gets_other areas high even = get_answered v.map (actor v) k reply.Null shows.0 (λ g agrees. other_shown v.map (slot_told (actor v) k) word areas word_for high even g ∙ ap (shown g) (sym (slot_is v.map (actor v) g k agrees)))

  pub refers : (at : ℕ) → word ≡ 2 * (at + 1) → RefersTo v.map (actor v) k at
  refers at e = record {
    slot = shows.0;
    word = subst (λ (x : ℕ). Shows (actor v) (slot_at v.map (actor v).thread k) x) e shows.1;
    within = leads v.map (slot_told (actor v) k) word at word_for e;
  }

  -- the header that it has met tells the number of fields
  pub gets_object : (at header count : ℕ) → word ≡ 2 * (at + 1) → HasMet (actor v) (heap_at v.map + at) header → ((fields space : ℕ) → fields ≤ MAX_FIELDS → space ≤ MAX_SPACE → header ≡ HEADER_BASE + SPACE_UNIT * space + fields → count ≡ fields)
      → IsAnswered v.map (actor v) (call.Get k) (reply.Object count)
  gets_object at header count e has counts =
      let there = refers at e in
      let is : IsHeaderIn v.map header = so.sees.headers k at header there has in
      let head : Header = record { fields = is.fields; space = space_index is.space } in
      let many : count ≡ is.fields = counts is.fields (space_index is.space) is.header.0 is.header.1 is.is_word in
      get_answered v.map (actor v) k (reply.Object count) shows.0
      (λ g agrees.
      object_shown v.map (slot_told (actor v) k) word at count word_for e g
      (ap (λ (d : Datum). length (fields_at g d)) (sym (slot_is v.map (actor v) g k agrees)) ∙ agrees.fields k at head there (is.header, subst (HasMet (actor v) (heap_at v.map + at)) is.is_word has) ∙ sym many)
      ∙ ap (shown g) (sym (slot_is v.map (actor v) g k agrees)))

-- a header was loaded
pub looks_header : (v w : View) (at header : ℕ) → length v.own ≡ 1 → Loaded v (heap_at v.map + at) None header w → Searches v w
looks_header v w at header single loaded = searches_one v w (heap_at v.map + at) header single (omega arith) loaded

pub header_there : (v w : View) (at header : ℕ) → length v.own ≡ 1 → Loaded v (heap_at v.map + at) None header w → HasMet (actor w) (heap_at w.map + at) header
header_there v w at header single loaded =
    subst (λ (m : Areas). HasMet (actor w) (heap_at m + at) header) (sym (ap (λ (x : View). x.map) loaded.0)) (loaded_met v w (heap_at v.map + at) header single loaded)
