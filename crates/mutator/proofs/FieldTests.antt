-- Which loads and stores of fields are refused, by what a thread knows.
use Rattle.std.proofs.Common.{◌≡◌, ℕ, ◌+◌, ◌*◌, ◌≤◌, ◌<◌, Bool, true, false, length, refl, sym, ap, subst, ◌∙◌, arith, inl, inr, Some, None, Option, MatchOption}
use Rattle.std.specs.Prelude.{slice_index_or}
use Rattle.std.proofs.lemmas.Bool.{le-leb, lt-leb}
use Rattle.object_layout.specs.Calls.{IsCall}
use Rattle.object_layout.specs.declared.TheConstants.{MAX_ADDRESS}
use Rattle.object_layout.specs.declared.calls.Call.{Call}
use Rattle.object_layout.specs.declared.calls.Call.TheVariants.{Load, Store}
use Rattle.object_layout.specs.declared.headers.Header.{Header}
use Rattle.object_layout.specs.declared.replies.Refusal.{Refusal}
use Rattle.object_layout.specs.declared.replies.Refusal.TheVariants.{BadField, BadSlot, NotAReference, StackFull}
use Rattle.object_layout.specs.declared.replies.Reply.TheVariants.{Refused}
use Rattle.heap_words.specs.declared.map.Areas.{Areas}
use Rattle.heap_words.specs.declared.TheConstants.{STACK_SLOTS}
use Rattle.heap_words.specs.Map.{heap_length}
use Rattle.yak_model.specs.declared.datum.Datum.{Datum}
use Rattle.yak_model.specs.declared.datum.Datum.TheVariants as datum
use Rattle.yak_model.specs.Graph.{Does, Graph, Thread, answers, is_bad_field, is_bad_slot, is_reference, is_stack_full, fields_at, refusal_of, slot_of, stack_of}
use Rattle.yak_model.specs.Spaces.{SpaceState}
use Rattle.calls_in_flight.specs.Actors.{Actor, Agrees, HasHeader, IsAtRest, IsQuick, MayTell, RefersTo, Shows}
use Rattle.calls_in_flight.specs.FieldSteps.{IsWordFor}
use Rattle.calls_in_flight.specs.Seeing.{Sees, slot_told}
use Rattle.calls_in_flight.specs.Steps.{slot_at}
use Rattle.mutator.specs.FieldCalls.{ReachesField}
use Rattle.mutator.specs.Quick.{told_by}

-- ---- refusals that are told

refused-answers : (g : Graph) (t : ℕ) (asked : Call) (why : Refusal) → refusal_of g t asked ≡ Some why → answers g t asked (Refused why) g
refused-answers g t asked why e = subst (λ (o : Option Refusal). MatchOption o (Does g t asked (Refused why) g) (λ w. (Refused why ≡ Refused w) × (g ≡ g))) (sym e) (refl, refl)

pub tells-refusal : (m : Areas) (a : Actor) (asked : Call) (why : Refusal) → IsCall asked → IsQuick asked → IsAtRest a → ((g : Graph) → Agrees m a g → refusal_of g a.thread asked ≡ Some why) → MayTell m a (told_by asked (Refused why))
tells-refusal m a asked why number quick rests refuses = record {
  number = number;
  quick = quick;
  alone = refl;
  idle = inr (why, refl);
  plain = tt;
  rests = rests;
  answered = λ g ag. refused-answers g a.thread asked why (refuses g ag);
}

-- ---- values of slots

pub leads-object : (m : Areas) (value : Datum) (at : ℕ) → IsWordFor m value (2 * (at + 1)) → is_reference value ≡ true
leads-object m datum.Null at is = absurd (omega (arith, is))
leads-object m (datum.Int i) at is = absurd (omega (arith, is))
leads-object m (datum.Object n) at is = refl

pub leads-nowhere : (m : Areas) (value : Datum) (word : ℕ) → heap_length m ≤ MAX_ADDRESS + 1 → IsWordFor m value word → ((at : ℕ) → at ≤ MAX_ADDRESS → word ≡ 2 * (at + 1) → ⊥) → is_reference value ≡ false
leads-nowhere m datum.Null word most is not = refl
leads-nowhere m (datum.Int i) word most is not = refl
leads-nowhere m (datum.Object n) word most is not = absurd (not is.0 (omega (arith, is.1, most)) is.2)

-- ---- the tests of a call

module _ (m : Areas) (a : Actor) (g : Graph) (ag : Agrees m a g) where
  stack-is : stack_of g a.thread ≡ a.told.stack
  stack-is = ap (λ (t : Thread). t.stack) ag.has

  slot-is : (k : ℕ) → slot_of g a.thread k ≡ slot_told a k
  slot-is k = ap (λ (t : Thread). slice_index_or t.stack k datum.Null) ag.has

  there : (k : ℕ) → k < length a.told.stack → is_bad_slot g a.thread k ≡ false
  there k lt = lt-leb (length (stack_of g a.thread)) k (subst (λ l. k < length l) (sym stack-is) lt)

  past : (k : ℕ) → length a.told.stack ≤ k → is_bad_slot g a.thread k ≡ true
  past k le = le-leb (length (stack_of g a.thread)) k (subst (λ l. length l ≤ k) (sym stack-is) le)

  full : STACK_SLOTS ≤ length a.told.stack → is_stack_full g a.thread ≡ true
  full le = le-leb STACK_SLOTS (length (stack_of g a.thread)) (subst (λ l. STACK_SLOTS ≤ length l) (sym stack-is) le)

  room : length a.told.stack < STACK_SLOTS → is_stack_full g a.thread ≡ false
  room lt = lt-leb STACK_SLOTS (length (stack_of g a.thread)) (subst (λ l. length l < STACK_SLOTS) (sym stack-is) lt)

  refers : (k : ℕ) (b : Bool) → is_reference (slot_told a k) ≡ b → is_reference (slot_of g a.thread k) ≡ b
  refers k b e = ap is_reference (slot-is k) ∙ e

  no_field : (k at f : ℕ) (h : Header) → RefersTo m a k at → HasHeader m a at h → h.fields ≤ f → is_bad_field g a.thread k f ≡ true
  no_field k at f h r has le = le-leb (length (fields_at g (slot_of g a.thread k))) f (subst (λ n. n ≤ f) (sym (ag.fields k at h r has)) le)

  has_field : (k at f : ℕ) (h : Header) → RefersTo m a k at → HasHeader m a at h → f < h.fields → is_bad_field g a.thread k f ≡ false
  has_field k at f h r has lt = lt-leb (length (fields_at g (slot_of g a.thread k))) f (subst (λ n. f < n) (sym (ag.fields k at h r has)) lt)

  pub load-no_slot : (k f : ℕ) → length a.told.stack ≤ k → refusal_of g a.thread (Load k f) ≡ Some BadSlot
  load-no_slot k f le = rw (past k le) refl

  pub store-no_slot : (k f x : ℕ) → length a.told.stack ≤ k → refusal_of g a.thread (Store k f x) ≡ Some BadSlot
  store-no_slot k f x le = rw (past k le) refl

  pub store-no_value : (k f x : ℕ) → k < length a.told.stack → length a.told.stack ≤ x → refusal_of g a.thread (Store k f x) ≡ Some BadSlot
  store-no_value k f x lt le = rw (there k lt, past x le) refl

  pub load-full : (k f at : ℕ) (h : Header) → RefersTo m a k at → is_reference (slot_told a k) ≡ true → HasHeader m a at h → f < h.fields → STACK_SLOTS ≤ length a.told.stack → refusal_of g a.thread (Load k f) ≡ Some StackFull
  load-full k f at h r object has lt le = rw (there k r.slot, refers k true object, has_field k at f h r has lt, full le) refl

  pub load-let : (k f at : ℕ) (h : Header) → RefersTo m a k at → is_reference (slot_told a k) ≡ true → HasHeader m a at h → f < h.fields → length a.told.stack < STACK_SLOTS → refusal_of g a.thread (Load k f) ≡ None
  load-let k f at h r object has lt free = rw (there k r.slot, refers k true object, has_field k at f h r has lt, room free) refl

  pub store-let : (k f x at : ℕ) (h : Header) → RefersTo m a k at → is_reference (slot_told a k) ≡ true → HasHeader m a at h → f < h.fields → x < length a.told.stack → refusal_of g a.thread (Store k f x) ≡ None
  store-let k f x at h r object has lt free = rw (there k r.slot, there x free, refers k true object, has_field k at f h r has lt) refl

  pub no-reference : (k f : ℕ) (asked : Call) → ReachesField (length a.told.stack) k f asked → k < length a.told.stack → is_reference (slot_told a k) ≡ false → refusal_of g a.thread asked ≡ Some NotAReference
  no-reference k f asked (inl e) lt not = ap (refusal_of g a.thread) e ∙ loaded
    where
      loaded : refusal_of g a.thread (Load k f) ≡ Some NotAReference
      loaded = rw (there k lt, refers k false not) refl
  no-reference k f asked (inr e) lt not = ap (refusal_of g a.thread) e.2 ∙ stored
    where
      stored : refusal_of g a.thread (Store k f e.0) ≡ Some NotAReference
      stored = rw (there k lt, there e.0 e.1, refers k false not) refl

  pub no-such_field : (k f at : ℕ) (h : Header) (asked : Call) → ReachesField (length a.told.stack) k f asked → RefersTo m a k at → is_reference (slot_told a k) ≡ true → HasHeader m a at h → h.fields ≤ f → refusal_of g a.thread asked ≡ Some BadField
  no-such_field k f at h asked (inl e) r object has le = ap (refusal_of g a.thread) e ∙ loaded
    where
      loaded : refusal_of g a.thread (Load k f) ≡ Some BadField
      loaded = rw (there k r.slot, refers k true object, no_field k at f h r has le) refl
  no-such_field k f at h asked (inr e) r object has le = ap (refusal_of g a.thread) e.2 ∙ stored
    where
      stored : refusal_of g a.thread (Store k f e.0) ≡ Some BadField
      stored = rw (there k r.slot, there e.0 e.1, refers k true object, no_field k at f h r has le) refl

pub reaches-call : (n k f : ℕ) (asked : Call) → ReachesField n k f asked → IsCall asked
reaches-call n k f asked (inl e) = subst IsCall (sym e) tt
reaches-call n k f asked (inr e) = subst IsCall (sym e.2) tt

pub reaches-quick : (n k f : ℕ) (asked : Call) → ReachesField n k f asked → IsQuick asked
reaches-quick n k f asked (inl e) = subst IsQuick (sym e) tt
reaches-quick n k f asked (inr e) = subst IsQuick (sym e.2) tt

-- ---- by what it sees

module _ (m : Areas) (a : Actor) (s : SpaceState) (sees : Sees m a s) where
  pub slot-object : (k at : ℕ) → RefersTo m a k at → is_reference (slot_told a k) ≡ true
  slot-object k at r = leads-object m (slot_told a k) at (sees.slots k (2 * (at + 1)) r.slot r.word)

  pub slot-nowhere : (k word : ℕ) → heap_length m ≤ MAX_ADDRESS + 1 → k < length a.told.stack → Shows a (slot_at m a.thread k) word → ((at : ℕ) → at ≤ MAX_ADDRESS → word ≡ 2 * (at + 1) → ⊥) → is_reference (slot_told a k) ≡ false
  slot-nowhere k word most lt shows not = leads-nowhere m (slot_told a k) word most (sees.slots k word lt shows) not
