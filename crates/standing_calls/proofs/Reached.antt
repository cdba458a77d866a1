-- The calls on fields, over states.
use Rattle.std.proofs.Common.{◌≡◌, ℕ, ◌+◌, ◌*◌, ◌≤◌, ◌<◌, Bool, true, false, cond, not, Option, Some, None, List, length, get_or, refl, sym, ap, subst, ◌∙◌, arith}
use Rattle.object_layout.specs.declared.names.Name.{Name}
use Rattle.object_layout.specs.declared.TheConstants.{MAX_ADDRESS, OBJECT_WORDS}
use Rattle.object_layout.specs.declared.calls.Call.TheVariants as call
use Rattle.object_layout.specs.declared.replies.Reply.TheVariants as reply
use Rattle.object_layout.specs.declared.replies.Refusal.{Refusal}
use Rattle.object_layout.specs.declared.replies.Refusal.TheVariants as refusal
use Rattle.heap_words.specs.declared.map.Areas.{Areas}
use Rattle.heap_words.specs.Map.{HasThread, IsAreas, heap_length}
use Rattle.heap_words.specs.Contents.{Contents, stack_of}
use Rattle.yak_model.specs.declared.datum.Datum.{Datum}
use Rattle.yak_model.specs.declared.datum.Datum.TheVariants as datum
use Rattle.yak_model.specs.Graph.{fields_at, is_bad_field, is_bad_slot, is_reference, is_stack_full, slot_of}
use Rattle.yak_model.specs.Spaces.{SpaceState}
use Rattle.yak_model.specs.State.{Thing, object_of, view}
use Rattle.yak_model.specs.Stands.{Stands}
use Rattle.yak_model.proofs.Data.{Tells, counted, in_heap, no_reference, object_fields, refers}
use Rattle.yak_model.proofs.Stacks.{slot-fits, slot-word}
use Rattle.standing_calls.specs.Turned.{Turned}
use Rattle.standing_calls.specs.Fields.{IsFieldOf, no_field}
use Rattle.standing_calls.proofs.Recorded.{keeps_all, same_records}
use Rattle.standing_calls.proofs.Steps.{bad_slot, beyond, good_slot, same_room, thread_in, within}

not_reference : (d : Datum) → ((n : Name) → d ≡ datum.Object n → ⊥) → is_reference d ≡ false
not_reference datum.Null never = refl
not_reference (datum.Int i) never = refl
not_reference (datum.Object n) never = absurd (never n refl)

pub no_slot : (m : Areas) (c : Contents) (s : SpaceState) (h : Stands m c s) (t k f : ℕ) → length (stack_of c t) ≤ k → no_field s.graph t k f ≡ Some refusal.BadSlot
no_slot m c s h t k f le = rw (bad_slot m c s h t k le) refl

pub no_object : (m : Areas) (c : Contents) (s : SpaceState) (h : Stands m c s) (t k f : ℕ) → IsAreas m → k < length (stack_of c t) → ((a : ℕ) → a ≤ MAX_ADDRESS → get_or (stack_of c t) k 0 ≡ 2 * (a + 1) → ⊥) → no_field s.graph t k f ≡ Some refusal.NotAReference
no_object m c s h t k f areas lt never =
    let none : is_reference (slot_of s.graph t k) ≡ false = not_reference (slot_of s.graph t k) (λ n e. no_reference m c (view s) h.places (slot_of s.graph t k) n areas h.stands (slot-fits m c s h t k) (λ a le q. never a le (slot-word m c s h t k ∙ q)) e) in
    rw (good_slot m c s h t k lt, none) refl

-- the object of a slot whose word is a reference
record Referred (m : Areas) (c : Contents) (s : SpaceState) (h : Stands m c s) (t k a n : ℕ) : Type 0 where
  name : Name
  thing : Thing
  refers : slot_of s.graph t k ≡ datum.Object name
  present : object_of s name ≡ Some thing
  place : a ≡ h.places.at name
  count : n ≡ length thing.fields
  size : length (fields_at s.graph (slot_of s.graph t k)) ≡ length thing.fields
  is : is_reference (slot_of s.graph t k) ≡ true

referred : (m : Areas) (c : Contents) (s : SpaceState) (h : Stands m c s) (t k a n : ℕ) → IsAreas m → get_or (stack_of c t) k 0 ≡ 2 * (a + 1) → Tells (get_or c.heap a 0) n → Referred m c s h t k a n
referred m c s h t k a n areas e tells =
    let r = refers m c (view s) h.places (slot_of s.graph t k) a h.stands (slot-fits m c s h t k) (sym (slot-word m c s h t k) ∙ e) in
    record {
      name = r.0;
      thing = r.1;
      refers = r.2;
      present = r.3;
      place = r.4;
      count = counted m c (view s) h.places r.0 r.1 n areas h.stands r.3 (subst (λ x. Tells (get_or c.heap x 0) n) r.4 tells);
      size = ap (λ (d : Datum). length (fields_at s.graph d)) r.2 ∙ ap (λ (vs : List Datum). length vs) (object_fields s r.0 r.1 r.3);
      is = ap is_reference r.2;
    }

pub bad_field : (m : Areas) (c : Contents) (s : SpaceState) (h : Stands m c s) (t k f a n : ℕ) → IsAreas m → k < length (stack_of c t) → get_or (stack_of c t) k 0 ≡ 2 * (a + 1) → Tells (get_or c.heap a 0) n → n ≤ f → no_field s.graph t k f ≡ Some refusal.BadField
bad_field m c s h t k f a n areas lt e tells le =
    let r = referred m c s h t k a n areas e tells in
    let test : is_bad_field s.graph t k f ≡ true = beyond (length (fields_at s.graph (slot_of s.graph t k))) f (omega (arith, le, r.count, r.size)) in
    rw (good_slot m c s h t k lt, r.is, test) refl

pub field_found : (m : Areas) (c : Contents) (s : SpaceState) (h : Stands m c s) (t k f a n : ℕ) → IsAreas m → k < length (stack_of c t) → get_or (stack_of c t) k 0 ≡ 2 * (a + 1) → Tells (get_or c.heap a 0) n → f < n → IsFieldOf s h.places.at t k f (a + OBJECT_WORDS + f)
field_found m c s h t k f a n areas lt e tells lf =
    let r = referred m c s h t k a n areas e tells in
    let test : is_bad_field s.graph t k f ≡ false = within (length (fields_at s.graph (slot_of s.graph t k))) f (omega (arith, lf, r.count, r.size)) in
    record {
      reached = rw (good_slot m c s h t k lt, r.is, test) refl;
      name = r.name;
      thing = r.thing;
      refers = r.refers;
      present = r.present;
      within = omega (arith, lf, r.count);
      place = ap (λ x. x + OBJECT_WORDS + f) r.place;
    }

-- a field's place is in the heap
pub field_within : (m : Areas) (c : Contents) (s : SpaceState) (h : Stands m c s) (t k f a : ℕ) → IsFieldOf s h.places.at t k f a → a < heap_length m
field_within m c s h t k f a p = omega (arith, p.place, p.within, in_heap m c (view s) h.places p.name p.thing h.stands p.present)

-- a fourth test, where the first three fail, and where one of them doesn't
pub no_more : (a b d : Bool) (x y z : Refusal) (rest : Option Refusal) → cond a (Some x) (cond b (Some y) (cond d (Some z) None)) ≡ None → cond a (Some x) (cond b (Some y) (cond d (Some z) rest)) ≡ rest
no_more true b d x y z rest e = cc
no_more false true d x y z rest e = cc
no_more false false true x y z rest e = cc
no_more false false false x y z rest e = refl

first_of_them : (a b d : Bool) (x y z why : Refusal) (rest : Option Refusal) → cond a (Some x) (cond b (Some y) (cond d (Some z) None)) ≡ Some why → cond a (Some x) (cond b (Some y) (cond d (Some z) rest)) ≡ Some why
first_of_them true b d x y z why rest e = e
first_of_them false true d x y z why rest e = e
first_of_them false false true x y z why rest e = e
first_of_them false false false x y z why rest e = cc

pub load_refused : (m : Areas) (c : Contents) (t k f : ℕ) (why : Refusal) → HasThread m t → ((s : SpaceState) → Stands m c s → no_field s.graph t k f ≡ Some why) → Turned m c c t (call.Load k f) (reply.Refused why)
load_refused m c t k f why ht none = record {
  turns = λ s h.
      let e = first_of_them (is_bad_slot s.graph t k) (not (is_reference (slot_of s.graph t k))) (is_bad_field s.graph t k f) refusal.BadSlot refusal.NotAReference refusal.BadField why (cond (is_stack_full s.graph t) (Some refusal.StackFull) None) (none s h) in
      (s, (s, (thread_in m c s h t ht, rw e (refl, refl), refl, tt), refl), h, λ r. r);
  kept = λ s h. keeps_all (view s) h.places.at;
  room = same_room c;
  records = λ s h. same_records c;
  idle = λ i. refl;
}

same_both : (a : Bool) (x : Option Refusal) → cond a x x ≡ x
same_both true x = refl
same_both false x = refl

pub store_refused_value : (m : Areas) (c : Contents) (t k f x : ℕ) → HasThread m t → length (stack_of c t) ≤ x → Turned m c c t (call.Store k f x) (reply.Refused refusal.BadSlot)
store_refused_value m c t k f x ht le = record {
  turns = λ s h.
      let e = same_both (is_bad_slot s.graph t k) (Some refusal.BadSlot) in
      (s, (s, (thread_in m c s h t ht, rw (bad_slot m c s h t x le, e) (refl, refl), refl, tt), refl), h, λ r. r);
  kept = λ s h. keeps_all (view s) h.places.at;
  room = same_room c;
  records = λ s h. same_records c;
  idle = λ i. refl;
}

pub store_refused : (m : Areas) (c : Contents) (t k f x : ℕ) (why : Refusal) → HasThread m t → x < length (stack_of c t) → ((s : SpaceState) → Stands m c s → no_field s.graph t k f ≡ Some why) → Turned m c c t (call.Store k f x) (reply.Refused why)
store_refused m c t k f x why ht lt none = record {
  turns = λ s h. (s, (s, (thread_in m c s h t ht, rw (good_slot m c s h t x lt, none s h) (refl, refl), refl, tt), refl), h, λ r. r);
  kept = λ s h. keeps_all (view s) h.places.at;
  room = same_room c;
  records = λ s h. same_records c;
  idle = λ i. refl;
}
