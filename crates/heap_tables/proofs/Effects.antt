-- What the calls of a caller leave.
use Rattle.std.proofs.Common.{zero, suc, ◌≡◌, ◌⊎◌, ℕ, ◌+◌, ◌-◌, ◌<◌, ◌≤◌, ◌↔◌, Bool, true, false, not, cond, leb, ltb, List, [], ◌∷◌, ◌++◌, length, get_or, set, replicate, take, refl, ◌∙◌, arith, ap, sym, subst, inl, inr, Option, Some, None, is_some, MatchOption, get_or-set_same, length-append, true≢false}
use Rattle.std.proofs.Math.Seq.{take-append_seam, take-length}
use Rattle.std.proofs.lemmas.List.{append_assoc, get_or_push, get_or_append_left, length-take-le}
use Rattle.std.proofs.lemmas.Bool.Decides.{nat_tests}
use Rattle.std.proofs.lemmas.Bool.{cases_lt}
use Rattle.std.specs.FinMap.{get, insert}
use Rattle.object_layout.specs.declared.names.Name.{Name}
use Rattle.object_layout.specs.declared.TheConstants.{MAX_SERIAL, OBJECT_WORDS}
use Rattle.heap_words.specs.declared.TheConstants.{STACK_SLOTS}
use Rattle.object_layout.specs.declared.calls.Call.{Call}
use Rattle.object_layout.specs.declared.calls.Call.TheVariants as call
use Rattle.object_layout.specs.declared.replies.Refusal.{Refusal}
use Rattle.object_layout.specs.declared.replies.Refusal.TheVariants as refusal
use Rattle.object_layout.specs.declared.replies.Reply.{Reply}
use Rattle.object_layout.specs.declared.replies.Reply.TheVariants as reply
use Rattle.yak_model.specs.declared.datum.Datum.{Datum}
use Rattle.yak_model.specs.declared.datum.Datum.TheVariants as datum
use Rattle.yak_model.specs.Graph.{Content, Does, Fields, Graph, IsThread, Thread, idle, is_reference, fields_at, fields_or_none, next_name, put_field, refusal_of, shown, slot_of, stack_of, thread_of, with_object, with_thread}
use Rattle.yak_model.specs.Private.{GivesAway, IsKnown, IsMade, KnownObjects, OwnCall, StoresKnown}
use Rattle.yak_model.specs.Standing.{Standing, MovesKnown}
use Rattle.heap_tables.specs.Runs.{IsInSlot, stack_in, slot_in, pushed, popped, without_top, next_of, IsShown}
use Rattle.heap_tables.specs.Asides.{LacksValue}

leb_false : (a b : ℕ) → b < a → leb a b ≡ false
leb_false a b h = grind (arith, nat_tests)

leb_true : (a b : ℕ) → a ≤ b → leb a b ≡ true
leb_true a b h = grind (arith, nat_tests)

ltb_false : (a b : ℕ) → b ≤ a → ltb a b ≡ false
ltb_false a b h = grind (arith, nat_tests)

pub in_bounds : (xs : List Datum) (i : ℕ) (name : Name) → get_or xs i datum.Null ≡ datum.Object name → i < length xs
in_bounds [] i name e = cc
in_bounds (x ∷ xs) zero name e = omega arith
in_bounds (x ∷ xs) (suc i) name e = omega (arith, in_bounds xs i name e)

same_why : (other why : Refusal) → Some other ≡ Some why → other ≡ why
same_why other why e = cc

unrefused : (P : Type 0) (Q : Refusal → Type 0) (o : Option Refusal) → o ≡ None → MatchOption o P Q → P
unrefused P Q None e h = h
unrefused P Q (Some why) e h = cc

was_refused : (P : Type 0) (Q : Refusal → Type 0) (o : Option Refusal) (why : Refusal) → o ≡ Some why → MatchOption o P Q → Q why
was_refused P Q None why e h = cc
was_refused P Q (Some other) why e h = subst Q (same_why other why e) h

thread_same : (g : Graph) (t : ℕ) (state : Thread) → IsThread g t → thread_of (with_thread g t state) t ≡ state
thread_same g t state h = let lt : (t - 1) < length g.threads = omega (arith, h.0, h.1) in get_or-set_same g.threads (t - 1) state idle lt

free_four : (a b c d : Bool) (p q r s : Refusal) → a ≡ false → b ≡ false → c ≡ false → d ≡ false → cond a (Some p) (cond b (Some q) (cond c (Some r) (cond d (Some s) None))) ≡ None
free_four a b c d p q r s ea eb ec ed = simp (ea, eb, ec, ed) refl

bad_two : (a b : Bool) (p q : Refusal) (rest : Option Refusal) → b ≡ true → (why : Refusal) × (cond a (Some p) (cond b (Some q) rest) ≡ Some why)
bad_two true b p q rest e = (p, refl)
bad_two false b p q rest e = (q, ap (λ t. cond t (Some q) rest) e)

bad_three : (a b c : Bool) (p q r : Refusal) (rest : Option Refusal) → c ≡ true → (why : Refusal) × (cond a (Some p) (cond b (Some q) (cond c (Some r) rest)) ≡ Some why)
bad_three true b c p q r rest e = (p, refl)
bad_three false true c p q r rest e = (q, refl)
bad_three false false c p q r rest e = (r, ap (λ t. cond t (Some r) rest) e)

not_ok : (why : Refusal) (said : Reply) → said ≡ reply.Refused why → said ≡ reply.Ok → ⊥
not_ok why said e f = cc

free_three : (a b c : Bool) (p q r : Refusal) → a ≡ false → b ≡ false → c ≡ false → cond a (Some p) (cond b (Some q) (cond c (Some r) None)) ≡ None
free_three a b c p q r ea eb ec = simp (ea, eb, ec) refl

free_one : (a : Bool) (p : Refusal) → a ≡ false → cond a (Some p) None ≡ None
free_one a p ea = simp (ea) refl

module _ (s : Standing) (known : KnownObjects) (asked : Call) (said : Reply) (own : Thread) (knows : KnownObjects → Type 0) (m : MovesKnown s known asked said own knows) where
  slot_before : (i : ℕ) → slot_of m.before s.thread i ≡ slot_in s i
  slot_before i = ap (λ (o : Thread). get_or o.stack i datum.Null) m.own

  stack_before : stack_of m.before s.thread ≡ stack_in s
  stack_before = ap (λ (o : Thread). o.stack) m.own

  fields_before : (i : ℕ) (name : Name) (values : List Datum) → IsInSlot s known i name values → fields_at m.before (slot_of m.before s.thread i) ≡ values
  fields_before i name values h =
      ap (fields_at m.before) (slot_before i ∙ h.0)
      ∙ ap fields_or_none (m.private.contents name (ap is_some h.1) ∙ h.1)

  -- the slots of the stack, as the tests of a call see them
  good_slot : (i : ℕ) → i < length (stack_in s) → leb (length (stack_of m.before s.thread)) i ≡ false
  good_slot i h = ap (λ (st : List Datum). leb (length st) i) stack_before ∙ leb_false _ _ h

  not_full : length (stack_in s) < STACK_SLOTS → leb STACK_SLOTS (length (stack_of m.before s.thread)) ≡ false
  not_full h = ap (λ (st : List Datum). leb STACK_SLOTS (length st)) stack_before ∙ leb_false _ _ h

  good_reference : (i : ℕ) (name : Name) → slot_in s i ≡ datum.Object name → not (is_reference (slot_of m.before s.thread i)) ≡ false
  good_reference i name h = ap (λ v. not (is_reference v)) (slot_before i ∙ h)

  good_field : (i f : ℕ) (name : Name) (values : List Datum) → IsInSlot s known i name values → f < length values → leb (length (fields_at m.before (slot_of m.before s.thread i))) f ≡ false
  good_field i f name values h bound = ap (λ (vs : List Datum). leb (length vs) f) (fields_before i name values h) ∙ leb_false _ _ bound

  own_same : m.later ≡ m.before → own ≡ s.own
  own_same e = sym m.own_later ∙ ap (λ g. thread_of g s.thread) e ∙ m.own

  own_with : (state : Thread → Thread) → m.later ≡ with_thread m.before s.thread (state (thread_of m.before s.thread)) → own ≡ state s.own
  own_with state e = sym m.own_later ∙ ap (λ g. thread_of g s.thread) e ∙ thread_same m.before s.thread _ m.moves.0 ∙ ap state m.own

module _ (s : Standing) (known : KnownObjects) (said : Reply) (own : Thread) (knows : KnownObjects → Type 0) where
  pub load_effect : (i f : ℕ) → MovesKnown s known (call.Load i f) said own knows
      → (name : Name) (values : List Datum) → IsInSlot s known i name values → f < length values → length (stack_in s) < STACK_SLOTS
      → own ≡ pushed s.own (get_or values f datum.Null)
  load_effect i f m name values slot bound room =
      let free : refusal_of m.before s.thread (call.Load i f) ≡ None =
      free_four _ _ _ _ _ _ _ _ (good_slot s known _ said own knows m i (in_bounds (stack_in s) i name slot.0))
      (good_reference s known _ said own knows m i name slot.0)
      (good_field s known _ said own knows m i f name values slot bound)
      (not_full s known _ said own knows m room) in
      let d : Does m.before s.thread (call.Load i f) said m.later = unrefused _ _ _ free m.moves.1 in
      own_with s known _ said own knows m (λ o. pushed o (get_or (fields_at m.before (slot_of m.before s.thread i)) f datum.Null)) d.1
      ∙ ap (λ (vs : List Datum). pushed s.own (get_or vs f datum.Null)) (fields_before s known _ said own knows m i name values slot)

  -- a load that pushes is answered by ok, and any other by a refusal
  pub load_said : (i f : ℕ) → MovesKnown s known (call.Load i f) said own knows
      → (name : Name) (values : List Datum) → IsInSlot s known i name values → f < length values → length (stack_in s) < STACK_SLOTS
      → said ≡ reply.Ok
  load_said i f m name values slot bound room =
      let free : refusal_of m.before s.thread (call.Load i f) ≡ None =
      free_four _ _ _ _ _ _ _ _ (good_slot s known _ said own knows m i (in_bounds (stack_in s) i name slot.0))
      (good_reference s known _ said own knows m i name slot.0)
      (good_field s known _ said own knows m i f name values slot bound)
      (not_full s known _ said own knows m room) in
      let d : Does m.before s.thread (call.Load i f) said m.later = unrefused _ _ _ free m.moves.1 in d.0

  load_none : (i f : ℕ) → (m : MovesKnown s known (call.Load i f) said own knows) → (why : Refusal) × (refusal_of m.before s.thread (call.Load i f) ≡ Some why) → (said ≡ reply.Ok → ⊥) × (own ≡ s.own)
  load_none i f m bad = let r = was_refused _ _ _ _ bad.1 m.moves.1 in (not_ok bad.0 said r.0, own_same s known _ said own knows m r.1)

  pub load_null : (i f : ℕ) → MovesKnown s known (call.Load i f) said own knows → slot_in s i ≡ datum.Null → (said ≡ reply.Ok → ⊥) × (own ≡ s.own)
  load_null i f m null = load_none i f m (bad_two _ _ _ _ _ (ap (λ v. not (is_reference v)) (slot_before s known _ said own knows m i ∙ null)))

  pub load_past : (i f : ℕ) → MovesKnown s known (call.Load i f) said own knows
      → (name : Name) (values : List Datum) → IsInSlot s known i name values → length values ≤ f → (said ≡ reply.Ok → ⊥) × (own ≡ s.own)
  load_past i f m name values slot past =
      load_none i f m (bad_three (leb (length (stack_of m.before s.thread)) i) (not (is_reference (slot_of m.before s.thread i))) (leb (length (fields_at m.before (slot_of m.before s.thread i))) f) refusal.BadSlot refusal.NotAReference refusal.BadField
      (cond (leb STACK_SLOTS (length (stack_of m.before s.thread))) (Some refusal.StackFull) None) (ap (λ (vs : List Datum). leb (length vs) f) (fields_before s known _ said own knows m i name values slot) ∙ leb_true _ _ past))

  pub load_keeps : (i f : ℕ) → MovesKnown s known (call.Load i f) said own knows → knows known
  load_keeps i f m = m.known_later known (λ _. refl, λ _. refl)

  pub int_effect : (n : ℕ) → MovesKnown s known (call.Int n) said own knows → length (stack_in s) < STACK_SLOTS → own ≡ pushed s.own (datum.Int n)
  int_effect n m room =
      let free : refusal_of m.before s.thread (call.Int n) ≡ None = free_one _ _ (not_full s known _ said own knows m room) in
      own_with s known _ said own knows m (λ o. pushed o (datum.Int n)) (unrefused _ _ _ free m.moves.1).1

  pub int_keeps : (n : ℕ) → MovesKnown s known (call.Int n) said own knows → knows known
  int_keeps n m = m.known_later known (λ _. refl, λ _. refl)

  pub pop_effect : MovesKnown s known call.Pop said own knows → 0 < length (stack_in s) → own ≡ popped s.own
  pop_effect m some =
      let free : refusal_of m.before s.thread call.Pop ≡ None = free_one _ _ (good_slot s known _ said own knows m 0 some) in
      own_with s known _ said own knows m popped (unrefused _ _ _ free m.moves.1).1

  pub pop_keeps : MovesKnown s known call.Pop said own knows → knows known
  pop_keeps m = m.known_later known (λ _. refl, λ _. refl)

  pub get_shown : (i : ℕ) → (m : MovesKnown s known (call.Get i) said own knows) → i < length (stack_in s) → said ≡ shown m.before (slot_in s i)
  get_shown i m bound =
      let free : refusal_of m.before s.thread (call.Get i) ≡ None = free_one _ _ (good_slot s known _ said own knows m i bound) in
      (unrefused _ _ _ free m.moves.1).0 ∙ ap (shown m.before) (slot_before s known _ said own knows m i)

  get_bad : (i : ℕ) → (m : MovesKnown s known (call.Get i) said own knows) → length (stack_in s) ≤ i → refusal_of m.before s.thread (call.Get i) ≡ Some refusal.BadSlot
  get_bad i m past = ap (λ b. cond b (Some refusal.BadSlot) None) (ap (λ (st : List Datum). leb (length st) i) (stack_before s known _ said own knows m) ∙ leb_true _ _ past)

  pub get_refused : (i : ℕ) → MovesKnown s known (call.Get i) said own knows → length (stack_in s) ≤ i → said ≡ reply.Refused refusal.BadSlot
  get_refused i m past = (was_refused _ _ _ _ (get_bad i m past) m.moves.1).0

  pub get_effect : (i : ℕ) → MovesKnown s known (call.Get i) said own knows → own ≡ s.own
  get_effect i m = elim (split i) [ inl lt ↦ own_same s known _ said own knows m (unrefused _ _ _ (good i m lt) m.moves.1).1 | inr past ↦ own_same s known _ said own knows m (was_refused _ _ _ _ (get_bad i m past) m.moves.1).1 ]
    where
      split : (i : ℕ) → (i < length (stack_in s)) ⊎ (length (stack_in s) ≤ i)
      split i = cases_lt i (length (stack_in s))

      good : (i : ℕ) → (m : MovesKnown s known (call.Get i) said own knows) → i < length (stack_in s) → refusal_of m.before s.thread (call.Get i) ≡ None
      good i m bound = free_one _ _ (good_slot s known _ said own knows m i bound)

  pub get_keeps : (i : ℕ) → MovesKnown s known (call.Get i) said own knows → knows known
  get_keeps i m = m.known_later known (λ _. refl, λ _. refl)

  pub store_owns : (i f x : ℕ) → MovesKnown s known (call.Store i f x) said own knows
      → (name : Name) (values : List Datum) → IsInSlot s known i name values → f < length values → x < length (stack_in s)
      → own ≡ s.own
  store_owns i f x m name values slot bound there =
      let free : refusal_of m.before s.thread (call.Store i f x) ≡ None =
      free_four _ _ _ _ _ _ _ _ (good_slot s known _ said own knows m i (in_bounds (stack_in s) i name slot.0))
      (good_slot s known _ said own knows m x there)
      (good_reference s known _ said own knows m i name slot.0)
      (good_field s known _ said own knows m i f name values slot bound) in
      let d : Does m.before s.thread (call.Store i f x) said m.later = unrefused _ _ _ free m.moves.1 in
      sym m.own_later ∙ ap (λ g. thread_of g s.thread) (d.1 ∙ ap (λ v. put_field m.before v f (slot_of m.before s.thread x)) (slot_before s known _ said own knows m i ∙ slot.0)) ∙ m.own

  pub store_does : (i f x : ℕ) → (m : MovesKnown s known (call.Store i f x) said own knows)
      → (name : Name) (values : List Datum) → IsInSlot s known i name values → f < length values → x < length (stack_in s)
      → said ≡ reply.Ok
  store_does i f x m name values slot bound there =
      let free : refusal_of m.before s.thread (call.Store i f x) ≡ None =
      free_four _ _ _ _ _ _ _ _ (good_slot s known _ said own knows m i (in_bounds (stack_in s) i name slot.0))
      (good_slot s known _ said own knows m x there)
      (good_reference s known _ said own knows m i name slot.0)
      (good_field s known _ said own knows m i f name values slot bound) in
      (unrefused _ _ _ free m.moves.1).0

  pub store_keeps : (i f x : ℕ) → MovesKnown s known (call.Store i f x) said own knows
      → (name : Name) (values : List Datum) → IsInSlot s known i name values → f < length values → x < length (stack_in s)
      → knows (insert known name (Fields (set values f (slot_in s x))))
  store_keeps i f x m name values slot bound there =
      let after : KnownObjects = insert known name (Fields (set values f (slot_in s x))) in
      let stores : StoresKnown known (datum.Object name) f (slot_in s x) after =
      (λ _. ap (λ o. insert known name (Fields (set (fields_or_none o) f (slot_in s x)))) (sym slot.1), λ h. absurd (h (ap is_some slot.1))) in
      let there_too : StoresKnown known (slot_of m.before s.thread i) f (slot_of m.before s.thread x) after =
      subst (λ v. StoresKnown known v f (slot_of m.before s.thread x) after) (sym (slot_before s known _ said own knows m i ∙ slot.0))
      (subst (λ v. StoresKnown known (datum.Object name) f v after) (sym (slot_before s known _ said own knows m x)) stores) in
      m.known_later after
      (λ _. subst (λ r. OwnCall m.before s.thread known (call.Store i f x) r after) (sym (store_does i f x m name values slot bound there)) there_too, λ h. absurd (h refl))

  -- a store into an object that isn't of the map
  pub store_aside : (i f x : ℕ) → MovesKnown s known (call.Store i f x) said own knows → said ≡ reply.Ok → (name : Name) → slot_in s i ≡ datum.Object name → LacksValue known (slot_in s i)
      → (after : KnownObjects) → GivesAway known (slot_in s x) after → knows after
  store_aside i f x m ok name slot lacks after gives =
      let absent : IsKnown known name → ⊥ = subst (LacksValue known) slot lacks in
      let stores : StoresKnown known (datum.Object name) f (slot_in s x) after = (λ h. absurd (absent h), λ _. gives) in
      let there : StoresKnown known (slot_of m.before s.thread i) f (slot_of m.before s.thread x) after =
      subst (λ v. StoresKnown known v f (slot_of m.before s.thread x) after) (sym (slot_before s known _ said own knows m i ∙ slot))
      (subst (λ v. StoresKnown known (datum.Object name) f v after) (sym (slot_before s known _ said own knows m x)) stores) in
      m.known_later after
      (λ _. subst (λ r. OwnCall m.before s.thread known (call.Store i f x) r after) (sym ok) there, λ h. absurd (h refl))

  made_one : Thread → Thread
  made_one o = record o { stack = o.stack ++ datum.Object (record { thread = s.thread; serial = o.made + 1 }) ∷ []; made = o.made + 1 }

  pub new_effect : (k : ℕ) → MovesKnown s known (call.New k) said own knows → k + OBJECT_WORDS ≤ s.limits.page → length (stack_in s) < STACK_SLOTS → s.own.made < MAX_SERIAL
      → ((said ≡ reply.Ok) × (own ≡ record s.own { stack = s.own.stack ++ datum.Object (next_of s) ∷ []; made = s.own.made + 1 }) × knows (insert known (next_of s) (Fields (replicate k datum.Null))))
      ⊎ ((said ≡ reply.OutOfHeap) × (own ≡ s.own) × knows known)
  unfolding made_one
  new_effect k m fits room names =
      elim (unrefused _ _ _ free m.moves.1) [
        | inl ok ↦ inl (
          ok.0,
          sym m.own_later ∙ ap (λ g. thread_of g s.thread) ok.1 ∙ thread_same (with_object m.before (next_name m.before s.thread) (Fields (replicate k datum.Null))) s.thread _ m.moves.0 ∙ ap made_one m.own,
          subst (λ n. knows (insert known n (Fields (replicate k datum.Null)))) next
              (m.known_later _ (λ _. subst (λ r. OwnCall m.before s.thread known (call.New k) r (insert known (next_name m.before s.thread) (Fields (replicate k datum.Null)))) (sym ok.0) refl, λ h. absurd (h refl))),
        )
        | inr full ↦ inr (
          full.0,
          own_same s known _ said own knows m full.1,
          m.known_later known (λ _. subst (λ r. OwnCall m.before s.thread known (call.New k) r known) (sym full.0) refl, λ h. absurd (h refl)),
        )
      ]
    where
      next : next_name m.before s.thread ≡ next_of s
      next = ap (λ (o : Thread). record { thread = s.thread; serial = o.made + 1 }) m.own

      free : refusal_of m.before s.thread (call.New k) ≡ None
      free =
          free_three _ _ _ _ _ _ (ap (λ l. ltb (l.page - OBJECT_WORDS) k) m.limits ∙ ltb_false (s.limits.page - OBJECT_WORDS) k (omega (arith, fits)))
          (not_full s known _ said own knows m room)
          (ap (λ (o : Thread). leb (MAX_SERIAL) o.made) m.own ∙ leb_false _ _ names)

  pub next_fresh : (asked : Call) → MovesKnown s known asked said own knows → get known (next_of s) ≡ None
  next_fresh asked m = by_option (get known (next_of s)) refl
    where
      made : (c : Content) → get known (next_of s) ≡ Some c → IsMade m.before (next_of s)
      made c e = m.names.objects (next_of s) (ap is_some (m.private.contents (next_of s) (ap is_some e) ∙ e))

      by_option : (o : Option Content) → get known (next_of s) ≡ o → get known (next_of s) ≡ None
      by_option None e = e
      by_option (Some c) e = let bound : s.own.made + 1 ≤ s.own.made = subst (λ (o : Thread). s.own.made + 1 ≤ o.made) m.own (made c e) in absurd (omega (arith, bound))

-- what a push and then a pop leave
pub take_push : (xs : List Datum) (x : Datum) → take (length (xs ++ x ∷ []) - 1) (xs ++ x ∷ []) ≡ xs
take_push xs x = let e : length (xs ++ x ∷ []) - 1 ≡ length xs = omega (arith, length-append xs (x ∷ [])) in ap (λ n. take n (xs ++ x ∷ [])) e ∙ take-append_seam xs (x ∷ [])

pub slot_push : (xs : List Datum) (x : Datum) (n : ℕ) → length xs ≡ n → get_or (xs ++ x ∷ []) n datum.Null ≡ x
slot_push xs x n e = get_or_push xs x datum.Null n e

pub slot_below : (xs : List Datum) (x : Datum) (i : ℕ) → i < length xs → get_or (xs ++ x ∷ []) i datum.Null ≡ get_or xs i datum.Null
slot_below xs x i h = get_or_append_left xs (x ∷ []) datum.Null i h

pub length_push : (xs : List Datum) (x : Datum) → length (xs ++ x ∷ []) ≡ length xs + 1
length_push xs x = length-append xs (x ∷ [])

pub popped_pushed : (o : Thread) (x : Datum) → popped (pushed o x) ≡ o
popped_pushed o x = ap (λ (st : List Datum). record o { stack = st }) (take_push o.stack x)

pub is_false : (b : Bool) → (b ≡ true → ⊥) → b ≡ false
is_false true h = absurd (h refl)
is_false false h = refl

-- what is known of a field by whether it was there
pub loaded : {P Q : Type 0} (f n : ℕ) → (f < n → (true ≡ true) × P) → (n ≤ f → (true ≡ false) × Q) → P
loaded f n there past = elim (cases_lt f n) [ inl lt ↦ (there lt).1 | inr le ↦ absurd (true≢false (past le).0) ]

pub unloaded : {P Q : Type 0} (f n : ℕ) → (f < n → (false ≡ true) × P) → (n ≤ f → (false ≡ false) × Q) → Q
unloaded f n there past = elim (cases_lt f n) [ inl lt ↦ absurd (true≢false (sym (there lt).0)) | inr le ↦ (past le).1 ]

-- drops one after another
pub drop_none : (o : Thread) → without_top o 0 ≡ o
drop_none o = let e : length o.stack - 0 ≡ length o.stack = omega arith in ap (λ (st : List Datum). record o { stack = st }) (ap (λ n. take n o.stack) e ∙ take-length o.stack)

take_of_take : (n m : ℕ) (xs : List Datum) → n ≤ m → take n (take m xs) ≡ take n xs
take_of_take zero m xs h = refl
take_of_take (suc n) zero xs h = absurd (omega (arith, h))
take_of_take (suc n) (suc m) [] h = refl
take_of_take (suc n) (suc m) (x ∷ xs) h = ap (λ ys. x ∷ ys) (take_of_take n m xs (omega (arith, h)))

pub drop_next : (o : Thread) (i : ℕ) → i < length o.stack → popped (without_top o i) ≡ without_top o (i + 1)
drop_next o i h =
    let size : length (take (length o.stack - i) o.stack) ≡ length o.stack - i = length-take-le (length o.stack - i) o.stack (omega arith) in
    let less : length (take (length o.stack - i) o.stack) - 1 ≡ length o.stack - (i + 1) = omega (arith, size) in
    ap (λ (st : List Datum). record o { stack = st })
    (ap (λ n. take n (take (length o.stack - i) o.stack)) less ∙ take_of_take (length o.stack - (i + 1)) (length o.stack - i) o.stack (omega arith))

pub drop_size : (o : Thread) (i : ℕ) → length (without_top o i).stack ≡ length o.stack - i
drop_size o i = length-take-le (length o.stack - i) o.stack (omega arith)

-- drops that take away all that was pushed
pub drop_pushes : (o : Thread) (x : Datum) (xs : List Datum) (n : ℕ) → length xs ≡ n → without_top (record (pushed o x) { stack = (pushed o x).stack ++ xs }) (n + 1) ≡ o
drop_pushes o x xs n e =
    let one : (o.stack ++ x ∷ []) ++ xs ≡ o.stack ++ x ∷ xs = append_assoc o.stack (x ∷ []) xs in
    let size : length (o.stack ++ x ∷ xs) ≡ length o.stack + length (x ∷ xs) = length-append o.stack (x ∷ xs) in
    let less : length (o.stack ++ x ∷ xs) - (n + 1) ≡ length o.stack = omega (arith, size, e) in
    ap (λ (st : List Datum). record o { stack = take (length st - (n + 1)) st }) one
    ∙ ap (λ (st : List Datum). record o { stack = st }) (ap (λ k. take k (o.stack ++ x ∷ xs)) less ∙ take-append_seam o.stack (x ∷ xs))

-- what is shown of an integer, and of nothing else
pub is_shown_int : (v : Datum) (said : Reply) (n : ℕ) → IsShown v said → (said ≡ reply.Int n) ↔ (v ≡ datum.Int n)
is_shown_int datum.Null said n h = (λ e. cc, λ e. cc)
is_shown_int (datum.Int i) said n h = (λ e. cc, λ e. cc)
is_shown_int (datum.Object name) said n h = let s = h.1 in (λ e. cc, λ e. cc)

-- a slot of a stack refers to an object of the map
abbrev pub IsAt : Thread → KnownObjects → ℕ → Name → List Datum → Type 0
IsAt own known i name values = (get_or own.stack i datum.Null ≡ datum.Object name) × (get known name ≡ Some (Fields values))

-- a slot of a known object, after a push
pub slot_after : (own after : Thread) (x : Datum) (known : KnownObjects) (i : ℕ) (name : Name) (values : List Datum) → after ≡ pushed own x → IsAt own known i name values → IsAt after known i name values
slot_after own after x known i name values e h =
    (ap (λ (o : Thread). get_or o.stack i datum.Null) e ∙ slot_below own.stack x i (in_bounds own.stack i name h.0) ∙ h.0, h.1)

-- the new top slot
pub top_after : (own after : Thread) (x : Datum) (top : ℕ) → after ≡ pushed own x → length own.stack ≡ top → get_or after.stack top datum.Null ≡ x
top_after own after x top e h = ap (λ (o : Thread). get_or o.stack top datum.Null) e ∙ slot_push own.stack x top h

pub size_after : (own after : Thread) (x : Datum) → after ≡ pushed own x → length after.stack ≡ length own.stack + 1
size_after own after x e = ap (λ (o : Thread). length o.stack) e ∙ length_push own.stack x

-- the same object in a slot of the same stack
pub slot_same : (own after : Thread) (known : KnownObjects) (i : ℕ) (name : Name) (values : List Datum) → after ≡ own → IsAt own known i name values → IsAt after known i name values
slot_same own after known i name values e h = (ap (λ (o : Thread). get_or o.stack i datum.Null) e ∙ h.0, h.1)

-- what is at a slot of the same stack
pub value_same : (own after : Thread) (i : ℕ) → after ≡ own → get_or after.stack i datum.Null ≡ get_or own.stack i datum.Null
value_same own after i e = ap (λ (o : Thread). get_or o.stack i datum.Null) e

-- what is shown of null, and of nothing else
pub is_shown_null : (v : Datum) (said : Reply) → IsShown v said → (said ≡ reply.Null) ↔ (v ≡ datum.Null)
is_shown_null datum.Null said h = (λ e. cc, λ e. cc)
is_shown_null (datum.Int i) said h = (λ e. cc, λ e. cc)
is_shown_null (datum.Object name) said h = let s = h.1 in (λ e. cc, λ e. cc)

-- no value is shown by a refusal
pub not_bad : (v : Datum) (said : Reply) → IsShown v said → said ≡ reply.Refused refusal.BadSlot → ⊥
not_bad datum.Null said h e = cc
not_bad (datum.Int i) said h e = cc
not_bad (datum.Object name) said h e = let s = h.1 in cc

pub length-take_pop : (xs : List Datum) → length (take (length xs - 1) xs) ≡ length xs - 1
length-take_pop xs = less (length xs - 1) xs (omega arith)
  where
    less : (n : ℕ) (xs : List Datum) → n ≤ length xs → length (take n xs) ≡ n
    less zero [] h = refl
    less zero (x ∷ xs) h = refl
    less (suc n) [] h = absurd (omega (arith, h))
    less (suc n) (x ∷ xs) h = ap suc (less n xs (omega (arith, h)))
