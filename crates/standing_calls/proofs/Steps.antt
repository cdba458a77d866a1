-- The calls on slots, over states.
use Rattle.std.proofs.Common.{◌≡◌, ◌≢◌, ℕ, ◌+◌, ◌-◌, ◌*◌, ◌≤◌, ◌<◌, true, false, List, [], ◌∷◌, ◌++◌, take, length, get_or, map, refl, sym, ap, subst, ◌∙◌, arith, inl, inr, leb, length-take, length-append}
use Rattle.std.specs.Prelude.{MatchOption, ◌%◌}
use Rattle.std.proofs.lemmas.List.{map-append, take-map}
use Rattle.std.proofs.lemmas.List.Elements.{All-push, All-take}
use Rattle.std.proofs.lemmas.Bool.Decides.{nat_tests}
use Rattle.std.proofs.Math.Logic.{⊎_elim}
use Rattle.object_layout.specs.declared.TheConstants.{MAX_ADDRESS, MAX_INT}
use Rattle.object_layout.specs.declared.calls.Call.{Call}
use Rattle.object_layout.specs.declared.calls.Call.TheVariants as call
use Rattle.object_layout.specs.declared.replies.Reply.{Reply}
use Rattle.object_layout.specs.declared.replies.Reply.TheVariants as reply
use Rattle.object_layout.specs.declared.replies.Refusal.{Refusal}
use Rattle.object_layout.specs.declared.replies.Refusal.TheVariants as refusal
use Rattle.heap_words.specs.declared.map.Areas.{Areas}
use Rattle.heap_words.specs.declared.TheConstants.{STACK_SLOTS}
use Rattle.heap_words.specs.Map.{HasThread, IsAreas, heap_length}
use Rattle.object_layout.specs.declared.names.Name.{Name}
use Rattle.heap_words.specs.Contents.{Contents, stack_of, with_heap, with_stack}
use Rattle.yak_model.specs.declared.datum.Datum.{Datum}
use Rattle.yak_model.specs.declared.datum.Datum.TheVariants as datum
use Rattle.yak_model.specs.Graph.{IsThread, first_refusal, is_bad_slot, is_stack_full, push, shown, slot_of}
use Rattle.yak_model.specs.Graph as graph
use Rattle.yak_model.specs.Spaces.{SpaceState}
use Rattle.yak_model.specs.State.{IsDatum, object_of, view}
use Rattle.yak_model.specs.Placed.{datum_word}
use Rattle.yak_model.specs.Stands.{Stands}
use Rattle.yak_model.specs.Recorded.{Recorded}
use Rattle.yak_model.proofs.Data.{Tells, counted, in_heap, is_integer, is_null, is_word, object_fields, refers, same-datum}
use Rattle.yak_model.proofs.Stacks.{is_thread, restacked, slot-fits, slot-word, stack-fits, stack_length, stack_words}
use Rattle.standing_calls.specs.Room.{SameRoom}
use Rattle.standing_calls.specs.Records.{SameRecords}
use Rattle.standing_calls.specs.Turned.{IsIdle, IsPushed, OnlyShows, Turned}
use Rattle.standing_calls.proofs.Recorded.{IsRead, Later, keeps_all, restacks, same_records, slots-read}

pub beyond : (n k : ℕ) → n ≤ k → leb n k ≡ true
beyond n k h = grind (arith, nat_tests)

pub within : (n k : ℕ) → k < n → leb n k ≡ false
within n k h = grind (arith, nat_tests)

pub thread_in : (m : Areas) (c : Contents) (s : SpaceState) (h : Stands m c s) (t : ℕ) → HasThread m t → IsThread s.graph t
thread_in m c s h t ht = (ht.0, omega (arith, ht.1, is_thread m c s h))

pub bad_slot : (m : Areas) (c : Contents) (s : SpaceState) (h : Stands m c s) (t k : ℕ) → length (stack_of c t) ≤ k → is_bad_slot s.graph t k ≡ true
bad_slot m c s h t k le = beyond (length (graph.stack_of s.graph t)) k (omega (arith, stack_length m c s h t))

pub good_slot : (m : Areas) (c : Contents) (s : SpaceState) (h : Stands m c s) (t k : ℕ) → k < length (stack_of c t) → is_bad_slot s.graph t k ≡ false
good_slot m c s h t k lt = within (length (graph.stack_of s.graph t)) k (omega (arith, stack_length m c s h t))

-- the room of words that are the same but for stacks and the words of objects
pub same_room : (c : Contents) → SameRoom c c
same_room c = record { claims = refl; pooled = refl; pool = refl; table = refl; currents = refl }

pub stack_room_same : (c d : Contents) (t : ℕ) (ws : List ℕ) → d ≡ with_stack c t ws → SameRoom c d
stack_room_same c d t ws e = subst (SameRoom c) (sym e) (record { claims = refl; pooled = refl; pool = refl; table = refl; currents = refl })

pub heap_room_same : (c d : Contents) (a w : ℕ) → d ≡ with_heap c a w → SameRoom c d
heap_room_same c d a w e = subst (SameRoom c) (sym e) (record { claims = refl; pooled = refl; pool = refl; table = refl; currents = refl })

pub pushed_room : (c d : Contents) (t w : ℕ) (r : Reply) → IsPushed c d t w r → SameRoom c d
pushed_room c d t w r done = ⊎_elim
    (λ (p : (length (stack_of c t) < STACK_SLOTS) × (r ≡ reply.Ok) × (d ≡ with_stack c t (stack_of c t ++ w ∷ []))). stack_room_same c d t (stack_of c t ++ w ∷ []) p.2)
    (λ (p : (length (stack_of c t) ≡ STACK_SLOTS) × (r ≡ reply.Refused refusal.StackFull) × (d ≡ c)). subst (SameRoom c) (sym p.2) (same_room c))
    done

-- and what they record
stack_records_same : (c d : Contents) (t : ℕ) (ws : List ℕ) → d ≡ with_stack c t ws → SameRecords c d
stack_records_same c d t ws e = subst (SameRecords c) (sym e) (record { filed = record { firsts = refl; sets = refl }; buffers = refl; readers = refl })

pushed_records : (c d : Contents) (t w : ℕ) (r : Reply) → IsPushed c d t w r → SameRecords c d
pushed_records c d t w r done = ⊎_elim
    (λ (p : (length (stack_of c t) < STACK_SLOTS) × (r ≡ reply.Ok) × (d ≡ with_stack c t (stack_of c t ++ w ∷ []))). stack_records_same c d t (stack_of c t ++ w ∷ []) p.2)
    (λ (p : (length (stack_of c t) ≡ STACK_SLOTS) × (r ≡ reply.Refused refusal.StackFull) × (d ≡ c)). subst (SameRecords c) (sym p.2) (same_records c))
    done

-- a call that does more than show something is idle only where it is refused
pub refused-alone : (asked : Call) (said : Reply) → (OnlyShows asked → ⊥) → IsIdle asked said → (why : Refusal) × (said ≡ reply.Refused why)
refused-alone asked said more idle = ⊎_elim (λ (shows : OnlyShows asked). absurd (more shows)) (λ (r : (why : Refusal) × (said ≡ reply.Refused why)). r) idle

pub not-idle : (asked : Call) (said : Reply) → (OnlyShows asked → ⊥) → ((why : Refusal) → said ≢ reply.Refused why) → IsIdle asked said → ⊥
not-idle asked said more taken idle = let r = refused-alone asked said more idle in taken r.0 r.1

pushed_idle : (c d : Contents) (t w : ℕ) (r : Reply) → IsPushed c d t w r → (why : Refusal) × (r ≡ reply.Refused why) → d ≡ c
pushed_idle c d t w r done refused = ⊎_elim
    (λ (p : (length (stack_of c t) < STACK_SLOTS) × (r ≡ reply.Ok) × (d ≡ with_stack c t (stack_of c t ++ w ∷ []))). absurd (let q : reply.Ok ≡ reply.Refused refused.0 = sym p.1 ∙ refused.1 in cc))
    (λ (p : (length (stack_of c t) ≡ STACK_SLOTS) × (r ≡ reply.Refused refusal.StackFull) × (d ≡ c)). p.2)
    done

-- an integer and null enter no region
null_refers : (x : Name) → datum.Null ≡ datum.Object x → ⊥
null_refers x e = cc

int_refers : (i : ℕ) (x : Name) → datum.Int i ≡ datum.Object x → ⊥
int_refers i x e = cc

never_read : (c : Contents) (s : SpaceState) (t : ℕ) (v : Datum) → ((x : Name) → v ≡ datum.Object x → ⊥) → IsRead c (view s) t v
never_read c s t v never = λ u d x p e ex home ne. absurd (never x e)

-- what a push does, over a state
abbrev pub Pushes : (m : Areas) (c d : Contents) (s : SpaceState) → Stands m c s → ℕ → Datum → Reply → Type 0
Pushes m c d s h t v r =
    (after : SpaceState)
    × MatchOption (first_refusal ((is_stack_full s.graph t, refusal.StackFull) ∷ [])) ((r ≡ reply.Ok) × (after.graph ≡ push s.graph t v)) (λ why. (r ≡ reply.Refused why) × (after.graph ≡ s.graph))
    × (after.home ≡ s.home)
    × Later m c d s h after

pub pushes : (m : Areas) (c d : Contents) (s : SpaceState) (h : Stands m c s) (t w : ℕ) (v : Datum) (r : Reply) → HasThread m t → IsDatum (object_of s) v → w ≡ datum_word h.places.at v → (Recorded m c s h → IsRead c (view s) t v) → IsPushed c d t w r → Pushes m c d s h t v r
pushes m c d s h t w v r ht fits laid reads done =
    let words = stack_words m c s h t in
    let size = stack_length m c s h t in
    let st : List Datum = graph.stack_of s.graph t in
    ⊎_elim
    (λ (p : (length (stack_of c t) < STACK_SLOTS) × (r ≡ reply.Ok) × (d ≡ with_stack c t (stack_of c t ++ w ∷ []))).
    let test : is_stack_full s.graph t ≡ false = within STACK_SLOTS (length st) (omega (arith, size, p.0)) in
    let same : stack_of c t ++ w ∷ [] ≡ map (datum_word h.places.at) (st ++ v ∷ []) = rw (words, laid, map-append (datum_word h.places.at) st (v ∷ [])) refl in
    let long : length (stack_of c t ++ w ∷ []) ≤ STACK_SLOTS = omega (arith, p.0, length-append (stack_of c t) (w ∷ [])) in
    let after = restacks m c s h t (stack_of c t ++ w ∷ []) (st ++ v ∷ []) ht same (All-push (IsDatum (object_of s)) st v (stack-fits m c s h t) fits) long (λ q. All-push (IsRead c (view s) t) st v (slots-read m c s h t ht q) (reads q)) in
    (restacked s t (st ++ v ∷ []), rw test (p.1, refl), refl, subst (λ x. Later m c x s h (restacked s t (st ++ v ∷ []))) (sym p.2) after))
    (λ (p : (length (stack_of c t) ≡ STACK_SLOTS) × (r ≡ reply.Refused refusal.StackFull) × (d ≡ c)).
    let test : is_stack_full s.graph t ≡ true = beyond STACK_SLOTS (length st) (omega (arith, size, p.0)) in
    (s, rw test (p.1, refl), refl, subst (λ x. Later m c x s h s) (sym p.2) (h, λ q. q, keeps_all (view s) h.places.at)))
    done

pub int_turns : (m : Areas) (c d : Contents) (t i w : ℕ) (r : Reply) → HasThread m t → i ≤ MAX_INT → w ≡ 2 * i + 1 → IsPushed c d t w r → Turned m c d t (call.Int i) r
int_turns m c d t i w r ht fits e done = record {
  turns = λ s h.
      let p = pushes m c d s h t w (datum.Int i) r ht fits e (λ q. never_read c s t (datum.Int i) (λ x z. int_refers i x z)) done in
      (p.0, (p.0, (thread_in m c s h t ht, p.1, p.2, fits), refl), p.3.0, p.3.1);
  kept = λ s h. (pushes m c d s h t w (datum.Int i) r ht fits e (λ q. never_read c s t (datum.Int i) (λ x z. int_refers i x z)) done).3.2;
  room = pushed_room c d t w r done;
  records = λ s h. pushed_records c d t w r done;
  idle = λ quiet. pushed_idle c d t w r done (refused-alone (call.Int i) r (λ no. no) quiet);
}

pub null_turns : (m : Areas) (c d : Contents) (t w : ℕ) (r : Reply) → HasThread m t → w ≡ 0 → IsPushed c d t w r → Turned m c d t call.Null r
null_turns m c d t w r ht e done = record {
  turns = λ s h.
      let p = pushes m c d s h t w datum.Null r ht tt e (λ q. never_read c s t datum.Null null_refers) done in
      (p.0, (p.0, (thread_in m c s h t ht, p.1, p.2, tt), refl), p.3.0, p.3.1);
  kept = λ s h. (pushes m c d s h t w datum.Null r ht tt e (λ q. never_read c s t datum.Null null_refers) done).3.2;
  room = pushed_room c d t w r done;
  records = λ s h. pushed_records c d t w r done;
  idle = λ i. pushed_idle c d t w r done (refused-alone call.Null r (λ no. no) i);
}

pub dup_turns : (m : Areas) (c d : Contents) (t k w : ℕ) (r : Reply) → HasThread m t → k < length (stack_of c t) → w ≡ get_or (stack_of c t) k 0 → IsPushed c d t w r → Turned m c d t (call.Dup k) r
dup_turns m c d t k w r ht lt e done = record {
  turns = λ s h.
      let p = pushes m c d s h t w (slot_of s.graph t k) r ht (slot-fits m c s h t k) (e ∙ slot-word m c s h t k) (λ q. slots-read m c s h t ht q k datum.Null (omega (arith, lt, stack_length m c s h t))) done in
      (p.0, (p.0, (thread_in m c s h t ht, rw (good_slot m c s h t k lt) p.1, p.2, tt), refl), p.3.0, p.3.1);
  kept = λ s h. (pushes m c d s h t w (slot_of s.graph t k) r ht (slot-fits m c s h t k) (e ∙ slot-word m c s h t k) (λ q. slots-read m c s h t ht q k datum.Null (omega (arith, lt, stack_length m c s h t))) done).3.2;
  room = pushed_room c d t w r done;
  records = λ s h. pushed_records c d t w r done;
  idle = λ i. pushed_idle c d t w r done (refused-alone (call.Dup k) r (λ no. no) i);
}

pub dup_refused : (m : Areas) (c : Contents) (t k : ℕ) → HasThread m t → length (stack_of c t) ≤ k → Turned m c c t (call.Dup k) (reply.Refused refusal.BadSlot)
dup_refused m c t k ht le = record {
  turns = λ s h. (s, (s, (thread_in m c s h t ht, rw (bad_slot m c s h t k le) (refl, refl), refl, tt), refl), h, λ r. r);
  kept = λ s h. keeps_all (view s) h.places.at;
  room = same_room c;
  records = λ s h. same_records c;
  idle = λ i. refl;
}

-- a slot that is dropped, and a stack that has none
-- what a pop does, over a state
popped : (m : Areas) (c d : Contents) (t : ℕ) → HasThread m t → length (stack_of c t) ≤ STACK_SLOTS → d ≡ with_stack c t (take (length (stack_of c t) - 1) (stack_of c t)) → (s : SpaceState) (h : Stands m c s) → (let st = graph.stack_of s.graph t in Later m c d s h (restacked s t (take (length st - 1) st)))
popped m c d t ht most e s h =
    let words = stack_words m c s h t in
    let size = stack_length m c s h t in
    let st : List Datum = graph.stack_of s.graph t in
    let n : ℕ = length st - 1 in
    let same : take (length (stack_of c t) - 1) (stack_of c t) ≡ map (datum_word h.places.at) (take n st) = rw (size, words) (take-map (datum_word h.places.at) n st) in
    let long : length (take (length (stack_of c t) - 1) (stack_of c t)) ≤ STACK_SLOTS = omega (arith, most, length-take (length (stack_of c t) - 1) (stack_of c t)) in
    let after = restacks m c s h t (take (length (stack_of c t) - 1) (stack_of c t)) (take n st) ht same (All-take (IsDatum (object_of s)) n st (stack-fits m c s h t)) long (λ q. All-take (IsRead c (view s) t) n st (slots-read m c s h t ht q)) in
    subst (λ x. Later m c x s h (restacked s t (take n st))) (sym e) after

pub pop_turns : (m : Areas) (c d : Contents) (t : ℕ) → HasThread m t → 0 < length (stack_of c t) → length (stack_of c t) ≤ STACK_SLOTS → d ≡ with_stack c t (take (length (stack_of c t) - 1) (stack_of c t)) → Turned m c d t call.Pop reply.Ok
pop_turns m c d t ht lt most e = record {
  turns = λ s h.
      let st : List Datum = graph.stack_of s.graph t in
      let n : ℕ = length st - 1 in
      let test : leb (length st) 0 ≡ false = within (length st) 0 (omega (arith, stack_length m c s h t, lt)) in
      let now = popped m c d t ht most e s h in
      (restacked s t (take n st), (restacked s t (take n st), (thread_in m c s h t ht, rw test (refl, refl), refl, tt), refl), now.0, now.1);
  kept = λ s h. (popped m c d t ht most e s h).2;
  room = stack_room_same c d t (take (length (stack_of c t) - 1) (stack_of c t)) e;
  records = λ s h. stack_records_same c d t (take (length (stack_of c t) - 1) (stack_of c t)) e;
  idle = λ i. absurd (not-idle call.Pop reply.Ok (λ no. no) (λ why q. cc) i);
}

pub pop_refused : (m : Areas) (c : Contents) (t : ℕ) → HasThread m t → length (stack_of c t) ≡ 0 → Turned m c c t call.Pop (reply.Refused refusal.StackEmpty)
pop_refused m c t ht e = record {
  turns = λ s h.
      let test : leb (length (graph.stack_of s.graph t)) 0 ≡ true = beyond (length (graph.stack_of s.graph t)) 0 (omega (arith, e, stack_length m c s h t)) in
      (s, (s, (thread_in m c s h t ht, rw test (refl, refl), refl, tt), refl), h, λ r. r);
  kept = λ s h. keeps_all (view s) h.places.at;
  room = same_room c;
  records = λ s h. same_records c;
  idle = λ i. refl;
}

-- what is shown of a slot
pub got : (m : Areas) (c : Contents) (t k : ℕ) (r : Reply) → HasThread m t → k < length (stack_of c t) → ((s : SpaceState) → Stands m c s → r ≡ shown s.graph (slot_of s.graph t k)) → Turned m c c t (call.Get k) r
got m c t k r ht lt is = record {
  turns = λ s h. (s, (s, (thread_in m c s h t ht, rw (good_slot m c s h t k lt) (is s h, refl), refl, tt), refl), h, λ r. r);
  kept = λ s h. keeps_all (view s) h.places.at;
  room = same_room c;
  records = λ s h. same_records c;
  idle = λ i. refl;
}

pub get_refused : (m : Areas) (c : Contents) (t k : ℕ) → HasThread m t → length (stack_of c t) ≤ k → Turned m c c t (call.Get k) (reply.Refused refusal.BadSlot)
get_refused m c t k ht le = record {
  turns = λ s h. (s, (s, (thread_in m c s h t ht, rw (bad_slot m c s h t k le) (refl, refl), refl, tt), refl), h, λ r. r);
  kept = λ s h. keeps_all (view s) h.places.at;
  room = same_room c;
  records = λ s h. same_records c;
  idle = λ i. refl;
}

pub shows_int : (m : Areas) (c : Contents) (t k i : ℕ) → 2 * i + 1 ≡ get_or (stack_of c t) k 0 → (s : SpaceState) → Stands m c s → reply.Int i ≡ shown s.graph (slot_of s.graph t k)
shows_int m c t k i e s h = ap (shown s.graph) (sym (is_integer h.places.at (slot_of s.graph t k) i (sym (slot-word m c s h t k) ∙ sym e)))

pub shows_null : (m : Areas) (c : Contents) (t k : ℕ) → 0 ≡ get_or (stack_of c t) k 0 → (s : SpaceState) → Stands m c s → reply.Null ≡ shown s.graph (slot_of s.graph t k)
shows_null m c t k e s h = ap (shown s.graph) (sym (is_null h.places.at (slot_of s.graph t k) (sym (slot-word m c s h t k) ∙ sym e)))

pub no_other : (m : Areas) (c : Contents) (t k w : ℕ) → IsAreas m → w ≡ get_or (stack_of c t) k 0 → 2 * (MAX_ADDRESS + 1) < w → w % 2 ≡ 0 → (s : SpaceState) → Stands m c s → ⊥
no_other m c t k w areas e lt even s h =
    let word : w ≡ datum_word h.places.at (slot_of s.graph t k) = e ∙ slot-word m c s h t k in
    is_word m c (view s) h.places (slot_of s.graph t k) areas h.stands (slot-fits m c s h t k) (subst (λ x. 2 * (MAX_ADDRESS + 1) < x) word lt) (subst (λ x. x % 2 ≡ 0) word even)

-- where the object of a reference stands
pub object_at : (m : Areas) (c : Contents) (t k a : ℕ) → 2 * (a + 1) ≡ get_or (stack_of c t) k 0 → (s : SpaceState) → Stands m c s → a + 3 ≤ heap_length m
object_at m c t k a e s h =
    let r = refers m c (view s) h.places (slot_of s.graph t k) a h.stands (slot-fits m c s h t k) (sym (slot-word m c s h t k) ∙ sym e) in
    omega (arith, r.4, in_heap m c (view s) h.places r.0 r.1 h.stands r.3)

pub shows_object : (m : Areas) (c : Contents) (t k a n : ℕ) → IsAreas m → 2 * (a + 1) ≡ get_or (stack_of c t) k 0 → Tells (get_or c.heap a 0) n → (s : SpaceState) → Stands m c s → reply.Object n ≡ shown s.graph (slot_of s.graph t k)
shows_object m c t k a n areas e tells s h =
    let r = refers m c (view s) h.places (slot_of s.graph t k) a h.stands (slot-fits m c s h t k) (sym (slot-word m c s h t k) ∙ sym e) in
    let count : n ≡ length r.1.fields = counted m c (view s) h.places r.0 r.1 n areas h.stands r.3 (subst (λ x. Tells (get_or c.heap x 0) n) r.4 tells) in
    ap reply.Object (count ∙ ap (λ (vs : List Datum). length vs) (sym (object_fields s r.0 r.1 r.3))) ∙ ap (shown s.graph) (sym r.2)

-- two slots
pub same_turns : (m : Areas) (c : Contents) (t k x : ℕ) → HasThread m t → k < length (stack_of c t) → x < length (stack_of c t) → get_or (stack_of c t) k 0 ≡ get_or (stack_of c t) x 0 → Turned m c c t (call.Same k x) reply.Yes
same_turns m c t k x ht lk lx e = record {
  turns = λ s h.
      let same : slot_of s.graph t k ≡ slot_of s.graph t x = same-datum m c (view s) h.places _ _ h.stands (slot-fits m c s h t k) (slot-fits m c s h t x) (sym (slot-word m c s h t k) ∙ e ∙ slot-word m c s h t x) in
      (s, (s, (thread_in m c s h t ht, rw (good_slot m c s h t k lk, good_slot m c s h t x lx) (inl (refl, same), refl), refl, tt), refl), h, λ r. r);
  kept = λ s h. keeps_all (view s) h.places.at;
  room = same_room c;
  records = λ s h. same_records c;
  idle = λ i. refl;
}

pub differ_turns : (m : Areas) (c : Contents) (t k x : ℕ) → HasThread m t → k < length (stack_of c t) → x < length (stack_of c t) → get_or (stack_of c t) k 0 ≢ get_or (stack_of c t) x 0 → Turned m c c t (call.Same k x) reply.No
differ_turns m c t k x ht lk lx ne = record {
  turns = λ s h.
      let differ : slot_of s.graph t k ≢ slot_of s.graph t x = λ q. ne (slot-word m c s h t k ∙ ap (datum_word h.places.at) q ∙ sym (slot-word m c s h t x)) in
      (s, (s, (thread_in m c s h t ht, rw (good_slot m c s h t k lk, good_slot m c s h t x lx) (inr (refl, differ), refl), refl, tt), refl), h, λ r. r);
  kept = λ s h. keeps_all (view s) h.places.at;
  room = same_room c;
  records = λ s h. same_records c;
  idle = λ i. refl;
}

pub same_refused : (m : Areas) (c : Contents) (t k x : ℕ) → HasThread m t → length (stack_of c t) ≤ k → Turned m c c t (call.Same k x) (reply.Refused refusal.BadSlot)
same_refused m c t k x ht le = record {
  turns = λ s h. (s, (s, (thread_in m c s h t ht, rw (bad_slot m c s h t k le) (refl, refl), refl, tt), refl), h, λ r. r);
  kept = λ s h. keeps_all (view s) h.places.at;
  room = same_room c;
  records = λ s h. same_records c;
  idle = λ i. refl;
}

pub same_refused_too : (m : Areas) (c : Contents) (t k x : ℕ) → HasThread m t → k < length (stack_of c t) → length (stack_of c t) ≤ x → Turned m c c t (call.Same k x) (reply.Refused refusal.BadSlot)
same_refused_too m c t k x ht lt le = record {
  turns = λ s h. (s, (s, (thread_in m c s h t ht, rw (good_slot m c s h t k lt, bad_slot m c s h t x le) (refl, refl), refl, tt), refl), h, λ r. r);
  kept = λ s h. keeps_all (view s) h.places.at;
  room = same_room c;
  records = λ s h. same_records c;
  idle = λ i. refl;
}
