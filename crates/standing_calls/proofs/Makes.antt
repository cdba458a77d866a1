-- An object that is made, over states.
use Rattle.std.proofs.Common.{◌≡◌, ◌≢◌, ◌⊎◌, ℕ, ◌+◌, ◌-◌, ◌*◌, ◌^◌, ◌≤◌, ◌<◌, true, false, None, ltb, leb, List, [], ◌∷◌, ◌++◌, length, get_or, set, replicate, zero, suc, refl, sym, ap, subst, ◌∙◌, arith, inl, inr, length-set, get_or-set_same, get_or-set_other}
use Rattle.std.proofs.lemmas.Bool.{cases_eq}
use Rattle.std.proofs.lemmas.Bool.Decides.{nat_tests}
use Rattle.std.proofs.lemmas.List.{length-replicate, get_or-replicate}
use Rattle.std.proofs.lemmas.List.Elements.{All-replicate}
use Rattle.std.proofs.Math.Logic.{⊎_elim}
use Rattle.object_layout.specs.declared.names.Name.{Name}
use Rattle.object_layout.specs.declared.TheConstants.{MAX_FIELDS, MAX_SERIAL, OBJECT_WORDS}
use Rattle.object_layout.specs.Layout.{header_word, name_word}
use Rattle.object_layout.specs.declared.calls.Call.TheVariants as call
use Rattle.object_layout.specs.declared.replies.Reply.{Reply}
use Rattle.object_layout.specs.declared.replies.Reply.TheVariants as reply
use Rattle.object_layout.specs.declared.replies.Refusal.TheVariants as refusal
use Rattle.heap_words.specs.declared.map.Areas.{Areas}
use Rattle.heap_words.specs.declared.TheConstants.{STACK_SLOTS}
use Rattle.heap_words.specs.Map.{HasThread, IsAreas, max_depth}
use Rattle.heap_words.specs.Contents.{Contents, depth_of, made_of, stack_of, with_heap, with_made, with_stack}
use Rattle.epoch_lattice.specs.declared.Space.{Space}
use Rattle.epoch_lattice.specs.Lattice.{inner_of, space_index}
use Rattle.yak_model.specs.declared.datum.Datum.TheVariants as datum
use Rattle.yak_model.specs.Graph.{Limits, is_stack_full, next_name, standard_limits, thread_of}
use Rattle.yak_model.specs.Graph as graph
use Rattle.yak_model.specs.Spaces.{SpaceState, innermost}
use Rattle.yak_model.specs.State.{IsDatum, State, Thing, view}
use Rattle.yak_model.specs.Placed.{ObjectAt, datum_word, with_object}
use Rattle.yak_model.specs.Stands.{CurrentsStand, PoolStands, Stands, StandsAs, claim_counter, pool_length}
use Rattle.yak_model.specs.Recorded.{RecordedAs}
use Rattle.yak_model.proofs.Grown.{grown}
use Rattle.yak_model.proofs.Placed.{same_name-self}
use Rattle.yak_model.proofs.Stacks.{all-at, stack_length}
use Rattle.region_pages.specs.Placement.{IsPlaced, IsPlacedInCurrent, IsPlacedOnClaimed, depth_in, words_left_at}
use Rattle.standing_calls.specs.Records.{SameRecords}
use Rattle.standing_calls.specs.Room.{HasNoRoom, TakesPlace}
use Rattle.standing_calls.proofs.Recorded.{keeps_all, same_records, stacks_shown}
use Rattle.standing_calls.proofs.Stores.{keeps-added, recorded-newly}
use Rattle.region_pages.proofs.Shapes.{Shape}
use Rattle.standing_calls.specs.Turned.{IsPushed, KeepsPlaces, Turned}
use Rattle.standing_calls.specs.Objects.{IsWritten}
use Rattle.standing_calls.proofs.Steps.{beyond, not-idle, same_room, thread_in, within}
use Rattle.standing_calls.proofs.Newly.{no_object-case, stands-added, with_new}
use Rattle.standing_calls.proofs.Named.{depth-shown, made-shown, named, new_thing, view-named, whole-named}
use Rattle.standing_calls.proofs.Places.{somewhere}

apart : (i a size : ℕ) → (i < a) ⊎ (a + size ≤ i) → a ≤ i → i < a + size → ⊥
apart i a size out low high = ⊎_elim (λ (h : i < a). let r : ⊥ = omega arith in r) (λ (h : a + size ≤ i). let r : ⊥ = omega arith in r) out

-- the words of an object, written one after another
pub written-start : (c d e : Contents) (a first second size : ℕ) → 2 ≤ size → a + size ≤ length c.heap → d ≡ with_heap c a first → e ≡ with_heap d (a + 1) second → IsWritten c e a first second size 2
written-start c d e a first second size least fits hd he =
    let heap : e.heap ≡ set (set c.heap a first) (a + 1) second = ap (λ (x : Contents). x.heap) he ∙ ap (λ (x : Contents). set x.heap (a + 1) second) hd in
    let long : length (set c.heap a first) ≡ length c.heap = length-set c.heap a first in
    record {
      rest = he ∙ ap (λ (x : Contents). with_heap x (a + 1) second) hd ∙ ap (λ (xs : List ℕ). record c { heap = xs }) (sym heap);
      header = ap (λ (xs : List ℕ). get_or xs a 0) heap ∙ get_or-set_other (set c.heap a first) (a + 1) a second 0 (omega arith) ∙ get_or-set_same c.heap a first 0 (omega arith);
      name = ap (λ (xs : List ℕ). get_or xs (a + 1) 0) heap ∙ get_or-set_same (set c.heap a first) (a + 1) second 0 (omega (arith, long));
      zero = λ i low high. absurd (omega arith);
      others = λ i out.
          let ne : i ≢ a + 1 = λ q. apart i a size out (omega arith) (omega arith) in
          let ne' : i ≢ a = λ q. apart i a size out (omega arith) (omega arith) in
          ap (λ (xs : List ℕ). get_or xs i 0) heap ∙ get_or-set_other (set c.heap a first) (a + 1) i second 0 ne ∙ get_or-set_other c.heap a i first 0 ne';
    }

pub written-more : (c d e : Contents) (a first second size i : ℕ) → 2 ≤ i → i < size → a + size ≤ length d.heap → IsWritten c d a first second size i → e ≡ with_heap d (a + i) 0 → IsWritten c e a first second size (i + 1)
written-more c d e a first second size i least lt fits h he =
    let heap : e.heap ≡ set d.heap (a + i) 0 = ap (λ (x : Contents). x.heap) he in
    record {
      rest = he ∙ ap (λ (x : Contents). with_heap x (a + i) 0) h.rest ∙ ap (λ (xs : List ℕ). record c { heap = xs }) (sym heap);
      header = ap (λ (xs : List ℕ). get_or xs a 0) heap ∙ get_or-set_other d.heap (a + i) a 0 0 (omega arith) ∙ h.header;
      name = ap (λ (xs : List ℕ). get_or xs (a + 1) 0) heap ∙ get_or-set_other d.heap (a + i) (a + 1) 0 0 (omega arith) ∙ h.name;
      zero = λ j low high. ap (λ (xs : List ℕ). get_or xs (a + j) 0) heap ∙ ⊎_elim
          (λ (q : j ≡ i). ap (λ k. get_or (set d.heap (a + i) 0) (a + k) 0) q ∙ get_or-set_same d.heap (a + i) 0 0 (omega arith))
          (λ (ne : j ≢ i). let ne' : a + j ≢ a + i = λ q. ne (omega arith) in get_or-set_other d.heap (a + i) (a + j) 0 0 ne' ∙ h.zero j low (omega arith))
          (cases_eq j i);
      others = λ j out.
          let ne : j ≢ a + i = λ q. apart j a size out (omega arith) (omega arith) in
          ap (λ (xs : List ℕ). get_or xs j 0) heap ∙ get_or-set_other d.heap (a + i) j 0 0 ne ∙ h.others j out;
    }

-- the tests of a call that makes an object
too_many : (s : SpaceState) (m : Areas) (c : Contents) → Stands m c s → (k : ℕ) → MAX_FIELDS < k → ltb (s.graph.limits.page - OBJECT_WORDS) k ≡ true
too_many s m c h k lt = ap (λ (x : Limits). ltb (x.page - OBJECT_WORDS) k) h.whole.limits ∙ (let e : ltb (standard_limits.page - OBJECT_WORDS) k ≡ true = grind (arith, nat_tests) in e)

few_enough : (s : SpaceState) (m : Areas) (c : Contents) → Stands m c s → (k : ℕ) → k ≤ MAX_FIELDS → ltb (s.graph.limits.page - OBJECT_WORDS) k ≡ false
few_enough s m c h k le = ap (λ (x : Limits). ltb (x.page - OBJECT_WORDS) k) h.whole.limits ∙ (let e : ltb (standard_limits.page - OBJECT_WORDS) k ≡ false = grind (arith, nat_tests) in e)

stack_room : (m : Areas) (c : Contents) (s : SpaceState) (h : Stands m c s) (t : ℕ) → length (stack_of c t) < STACK_SLOTS → is_stack_full s.graph t ≡ false
stack_room m c s h t lt = within STACK_SLOTS (length (graph.stack_of s.graph t)) (omega (arith, lt, stack_length m c s h t))

made_words : (m : Areas) (c : Contents) (s : SpaceState) (h : Stands m c s) (t : ℕ) → made_of c t ≡ (thread_of s.graph t).made
made_words m c s h t = ap (λ (is : List ℕ). get_or is (t - 1) 0) h.stands.made ∙ made-shown s t

depth_words : (m : Areas) (c : Contents) (s : SpaceState) (h : Stands m c s) (t : ℕ) → depth_of c t ≡ (thread_of s.graph t).depth
depth_words m c s h t = ap (λ (is : List ℕ). get_or is (t - 1) 0) h.stands.depths ∙ depth-shown s t

serial_left : (m : Areas) (c : Contents) (s : SpaceState) (h : Stands m c s) (t : ℕ) → made_of c t < MAX_SERIAL → leb (2 ^ 48 - 1) (thread_of s.graph t).made ≡ false
serial_left m c s h t lt = within MAX_SERIAL (thread_of s.graph t).made (omega (arith, lt, made_words m c s h t))

pub too_long : (m : Areas) (c : Contents) (t k : ℕ) → HasThread m t → MAX_FIELDS < k → Turned m c c t (call.New k) (reply.Refused refusal.TooLong)
too_long m c t k ht lt = record {
  turns = λ s h. (s, (s, (thread_in m c s h t ht, rw (too_many s m c h k lt) (refl, refl), refl, tt), refl), h, λ r. r);
  kept = λ s h. keeps_all (view s) h.places.at;
  room = same_room c;
  records = λ s h. same_records c;
  idle = λ i. refl;
}

pub new_stack_full : (m : Areas) (c : Contents) (t k : ℕ) → HasThread m t → k ≤ MAX_FIELDS → STACK_SLOTS ≤ length (stack_of c t) → Turned m c c t (call.New k) (reply.Refused refusal.StackFull)
new_stack_full m c t k ht le full = record {
  turns = λ s h.
      let test : is_stack_full s.graph t ≡ true = beyond STACK_SLOTS (length (graph.stack_of s.graph t)) (omega (arith, full, stack_length m c s h t)) in
      (s, (s, (thread_in m c s h t ht, rw (few_enough s m c h k le, test) (refl, refl), refl, tt), refl), h, λ r. r);
  kept = λ s h. keeps_all (view s) h.places.at;
  room = same_room c;
  records = λ s h. same_records c;
  idle = λ i. refl;
}

pub names_spent : (m : Areas) (c : Contents) (t k : ℕ) → HasThread m t → k ≤ MAX_FIELDS → length (stack_of c t) < STACK_SLOTS → MAX_SERIAL ≤ made_of c t → Turned m c c t (call.New k) (reply.Refused refusal.NamesSpent)
names_spent m c t k ht le room spent = record {
  turns = λ s h.
      let test : leb (2 ^ 48 - 1) (thread_of s.graph t).made ≡ true = beyond MAX_SERIAL (thread_of s.graph t).made (omega (arith, spent, made_words m c s h t)) in
      (s, (s, (thread_in m c s h t ht, rw (few_enough s m c h k le, stack_room m c s h t room, test) (refl, refl), refl, tt), refl), h, λ r. r);
  kept = λ s h. keeps_all (view s) h.places.at;
  room = same_room c;
  records = λ s h. same_records c;
  idle = λ i. refl;
}

pub out_of_heap : (m : Areas) (c : Contents) (t k : ℕ) → HasThread m t → k ≤ MAX_FIELDS → length (stack_of c t) < STACK_SLOTS → made_of c t < MAX_SERIAL → HasNoRoom m c t (k + OBJECT_WORDS) → Turned m c c t (call.New k) reply.OutOfHeap
out_of_heap m c t k ht le room left none = record {
  turns = λ s h. (s, (s, (thread_in m c s h t ht, rw (few_enough s m c h k le, stack_room m c s h t room, serial_left m c s h t left) (inr (refl, refl)), refl, tt), refl), h, λ r. r);
  kept = λ s h. keeps_all (view s) h.places.at;
  room = (none, same_room c);
  records = λ s h. same_records c;
  idle = λ i. refl;
}

-- the words of the contents afterwards
new-contents : (c1 c2 c3 d : Contents) (t made made' a w : ℕ) → c2 ≡ record c1 { heap = c2.heap } → c3 ≡ with_made c2 t made → d ≡ with_stack c3 t (stack_of c3 t ++ w ∷ []) → made ≡ made' → w ≡ 2 * (a + 1) → d ≡ with_new c1 c2.heap t made' a
new-contents c1 c2 c3 d t made made' a w hr hm hd em ew =
    let three : c3 ≡ with_made (record c1 { heap = c2.heap }) t made = hm ∙ ap (λ (x : Contents). with_made x t made) hr in
    hd ∙ ap (λ (x : Contents). with_stack x t (stack_of x t ++ w ∷ [])) three ∙ ap (λ i. with_stack (with_made (record c1 { heap = c2.heap }) t i) t (stack_of c1 t ++ w ∷ [])) em ∙ ap (λ i. with_stack (with_made (record c1 { heap = c2.heap }) t made') t (stack_of c1 t ++ i ∷ [])) ew

-- the new object stands where it was written
new-stands : (m : Areas) (c1 c2 : Contents) (s : SpaceState) (at : Name → ℕ) (t k a first second : ℕ) → at (next_name s.graph t) ≡ a → first ≡ header_word (record { fields = k; space = space_index (innermost s.graph t) }) → second ≡ name_word (next_name s.graph t) → IsWritten c1 c2 a first second (k + OBJECT_WORDS) (k + OBJECT_WORDS) → ObjectAt c2.heap at (λ _. 0) (next_name s.graph t) (new_thing s t k)
new-stands m c1 c2 s at t k a first second here ef es h =
    let long : length (replicate k datum.Null) ≡ k = length-replicate k datum.Null in
    rw here (record {
      header = h.header ∙ ef ∙ ap (λ i. header_word (record { fields = i; space = space_index (innermost s.graph t) })) (sym long);
      name = h.name ∙ es;
      work_word = h.zero 2 (omega arith) (omega arith);
      fields = λ f lt.
          let lt' : f < k = rw (← long) lt in
          let same : a + OBJECT_WORDS + f ≡ a + (OBJECT_WORDS + f) = omega arith in
          let null : get_or (replicate k datum.Null) f datum.Null ≡ datum.Null = get_or-replicate k f datum.Null datum.Null lt' in
          ap (λ i. get_or c2.heap i 0) same ∙ h.zero (OBJECT_WORDS + f) (omega arith) (omega arith) ∙ ap (datum_word at) (sym null);
    })

-- the place that it takes
made_room : (m : Areas) (c c1 c2 c3 d : Contents) (t k made a first second w : ℕ) → IsPlaced m c t (inner_of t (depth_of c t)) (k + OBJECT_WORDS) a c1 → IsWritten c1 c2 a first second (k + OBJECT_WORDS) (k + OBJECT_WORDS) → c3 ≡ with_made c2 t (made + 1) → d ≡ with_stack c3 t (stack_of c3 t ++ w ∷ []) → TakesPlace m c d t (k + OBJECT_WORDS)
made_room m c c1 c2 c3 d t k made a first second w placed written hm hd = record {
  address = a;
  placed = c1;
  place = placed;
  rest = record {
    claims = ap (λ (x : Contents). claim_counter x.heads) hd ∙ ap (λ (x : Contents). claim_counter x.heads) hm ∙ ap (λ (x : Contents). claim_counter x.heads) written.rest;
    pooled = ap (λ (x : Contents). pool_length x.heads) hd ∙ ap (λ (x : Contents). pool_length x.heads) hm ∙ ap (λ (x : Contents). pool_length x.heads) written.rest;
    pool = ap (λ (x : Contents). x.pool) hd ∙ ap (λ (x : Contents). x.pool) hm ∙ ap (λ (x : Contents). x.pool) written.rest;
    table = ap (λ (x : Contents). x.table) hd ∙ ap (λ (x : Contents). x.table) hm ∙ ap (λ (x : Contents). x.table) written.rest;
    currents = ap (λ (x : Contents). x.currents) hd ∙ ap (λ (x : Contents). x.currents) hm ∙ ap (λ (x : Contents). x.currents) written.rest;
  };
}

-- and what it records: nothing
placed_records : (m : Areas) (c c1 : Contents) (t : ℕ) (x : Space) (size a : ℕ) → IsPlaced m c t x size a c1 → SameRecords c c1
placed_records m c c1 t x size a placed = ⊎_elim
    (λ (o : IsPlacedInCurrent m c t (depth_in x) size a c1). record {
      filed = record { firsts = ap (λ (y : Contents). y.firsts) o.changed; sets = ap (λ (y : Contents). y.sets) o.changed };
      buffers = ap (λ (y : Contents). y.buffers) o.changed;
      readers = ap (λ (y : Contents). y.readers) o.changed;
    })
    (λ (o : (words_left_at m c t (depth_in x) < size) × IsPlacedOnClaimed m c t x size a c1). record {
      filed = record {
        firsts = ap (λ (y : Contents). y.firsts) o.1.changed;
        sets = ap (λ (y : Contents). y.sets) o.1.changed;
      };
      buffers = ap (λ (y : Contents). y.buffers) o.1.changed;
      readers = ap (λ (y : Contents). y.readers) o.1.changed;
    })
    placed

made_records : (m : Areas) (c c1 c2 c3 d : Contents) (t k made a first second w : ℕ) → IsPlaced m c t (inner_of t (depth_of c t)) (k + OBJECT_WORDS) a c1 → IsWritten c1 c2 a first second (k + OBJECT_WORDS) (k + OBJECT_WORDS) → c3 ≡ with_made c2 t (made + 1) → d ≡ with_stack c3 t (stack_of c3 t ++ w ∷ []) → SameRecords c d
made_records m c c1 c2 c3 d t k made a first second w placed written hm hd =
    let p = placed_records m c c1 t (inner_of t (depth_of c t)) (k + OBJECT_WORDS) a placed in
    record {
      filed = record {
        firsts = ap (λ (x : Contents). x.firsts) hd ∙ ap (λ (x : Contents). x.firsts) hm ∙ ap (λ (x : Contents). x.firsts) written.rest ∙ p.filed.firsts;
        sets = ap (λ (x : Contents). x.sets) hd ∙ ap (λ (x : Contents). x.sets) hm ∙ ap (λ (x : Contents). x.sets) written.rest ∙ p.filed.sets;
      };
      buffers = ap (λ (x : Contents). x.buffers) hd ∙ ap (λ (x : Contents). x.buffers) hm ∙ ap (λ (x : Contents). x.buffers) written.rest ∙ p.buffers;
      readers = ap (λ (x : Contents). x.readers) hd ∙ ap (λ (x : Contents). x.readers) hm ∙ ap (λ (x : Contents). x.readers) written.rest ∙ p.readers;
    }

-- no object has the name yet
fresh-name : (m : Areas) (c : Contents) (s : SpaceState) (h : Stands m c s) (t : ℕ) → HasThread m t → (view s).objects (next_name s.graph t) ≡ None
fresh-name m c s h t ht = no_object-case (view s) (next_name s.graph t) t ht.0 (ap (λ i. record { thread = t; serial = i + 1 }) (sym (made-shown s t))) m c h.places h.stands ((view s).objects (next_name s.graph t)) refl

-- the new object's fields are null
null_fields : (k f : ℕ) → get_or (replicate k datum.Null) f datum.Null ≡ datum.Null
null_fields zero f = refl
null_fields (suc k) zero = refl
null_fields (suc k) (suc f) = null_fields k f

-- an object that is made
pub made_turns : (m : Areas) (c c1 c2 c3 d : Contents) (t k made a first second w : ℕ) (r : Reply) → IsAreas m → HasThread m t → k ≤ MAX_FIELDS → length (stack_of c t) < STACK_SLOTS → made ≡ made_of c t → made < MAX_SERIAL → Shape m c → length c.made ≡ m.threads → PoolStands m c1.heads c1.pool c1.table → CurrentsStand m c1.currents c1.table → first ≡ header_word (record { fields = k; space = space_index (inner_of t (depth_of c t)) }) → second ≡ name_word (record { thread = t; serial = made + 1 }) → w ≡ 2 * (a + 1) → IsPlaced m c t (inner_of t (depth_of c t)) (k + OBJECT_WORDS) a c1 → IsWritten c1 c2 a first second (k + OBJECT_WORDS) (k + OBJECT_WORDS) → c3 ≡ with_made c2 t (made + 1) → d ≡ with_stack c3 t (stack_of c3 t ++ w ∷ []) → Turned m c d t (call.New k) reply.Ok
made_turns m c c1 c2 c3 d t k made a first second w r areas ht few room is_made left shape long pool1 cur1 ef es ew placed written hm hd = record {
  turns = λ s h.
      let deep = depth_words m c s h t in
      let serial : made ≡ (thread_of s.graph t).made = is_made ∙ made_words m c s h t in
      let shown = made-shown s t in
      let n : Name = next_name s.graph t in
      let o : Thing = new_thing s t k in
      let dep : ℕ = depth_of c t in
      let fits : dep ≤ max_depth m = all-at (λ i. i ≤ max_depth m) c.depths (t - 1) 0 (omega arith) h.stands.limits.depths in
      let home : o.home ≡ inner_of t dep = ap (inner_of t) (sym deep) in
      let where_placed = somewhere m c c1 (view s) h.places t dep (k + OBJECT_WORDS) a shape h.stands ht fits (omega arith) (omega arith) pool1 cur1 placed in
      let p : ℕ = where_placed.page in
      let size_is : k + OBJECT_WORDS ≡ length o.fields + OBJECT_WORDS = ap (λ i. i + OBJECT_WORDS) (sym (length-replicate k datum.Null)) in
      let is_next : n ≡ record { thread = t; serial = get_or (view s).made (t - 1) 0 + 1 } = ap (λ i. record { thread = t; serial = i + 1 }) (sym shown) in
      let here : (grown h.places p n a).at n ≡ a = rw (same_name-self n) refl in
      let there = new-stands m c1 c2 s (grown h.places p n a).at t k a first second here (ef ∙ ap (λ i. header_word (record { fields = k; space = space_index (inner_of t i) })) deep) (es ∙ ap (λ i. name_word (record { thread = t; serial = i + 1 })) serial) written in
      let stands = stands-added m c c1 (view s) h.places c2.heap n o t dep (k + OBJECT_WORDS) p where_placed.used a areas ht
      (ap (λ (is : List ℕ). get_or is (t - 1) 0) h.stands.depths) h.stands where_placed.placing is_next (omega (arith, left, serial, shown)) room
      (ap (λ (is : List ℕ). length is) (sym h.stands.made) ∙ long) home size_is
      (All-replicate (IsDatum (with_object (view s).objects n o)) k datum.Null tt) (omega (arith, few, length-replicate k datum.Null))
      where_placed.address (record { others = λ i out. written.others i out ∙ ap (λ (xs : List ℕ). get_or xs i 0) where_placed.placing.same_heap }) there
      in
      let now : d ≡ with_new c1 c2.heap t (get_or (view s).made (t - 1) 0 + 1) a = new-contents c1 c2 c3 d t (made + 1) (get_or (view s).made (t - 1) 0 + 1) a w written.rest hm hd (ap (λ i. i + 1) (serial ∙ sym shown)) ew in
      let after : SpaceState = named s t k in
      let result : Stands m d after = record {
        whole = whole-named m c s h t k areas ht;
        places = grown h.places p n a;
        stands = subst (λ (x : Contents). StandsAs m x (view after) (grown h.places p n a)) (sym now) (subst (λ (w' : State). StandsAs m (with_new c1 c2.heap t (get_or (view s).made (t - 1) 0 + 1) a) w' (grown h.places p n a)) (sym (view-named s t k)) stands);
      } in (
        after,
        (after, (thread_in m c s h t ht, rw (few_enough s m c h k few, stack_room m c s h t room, serial_left m c s h t (subst (λ i. i < MAX_SERIAL) is_made left)) (inl (refl, refl)), refl, tt), refl),
        result,
        λ r.
            subst (λ (w' : State). RecordedAs m d w' (grown h.places p n a).at) (sym (view-named s t k))
            (recorded-newly m c d (view s) h.places n o t dep p a ht (omega (arith, ht.0, ht.1, stacks_shown m c s h)) (fresh-name m c s h t ht) h.stands.closed home (null_fields k) (made_records m c c1 c2 c3 d t k made a first second w placed written hm hd) r),
      );
  kept = λ s h.
      let deep = depth_words m c s h t in
      let n : Name = next_name s.graph t in
      let o : Thing = new_thing s t k in
      let dep : ℕ = depth_of c t in
      let fits : dep ≤ max_depth m = all-at (λ i. i ≤ max_depth m) c.depths (t - 1) 0 (omega arith) h.stands.limits.depths in
      let p : ℕ = (somewhere m c c1 (view s) h.places t dep (k + OBJECT_WORDS) a shape h.stands ht fits (omega arith) (omega arith) pool1 cur1 placed).page in
      subst (λ (w' : State). KeepsPlaces (view s) h.places.at w' (grown h.places p n a).at) (sym (view-named s t k)) (keeps-added (view s) h.places n o t p a (fresh-name m c s h t ht));
  room = made_room m c c1 c2 c3 d t k made a first second w placed written hm hd;
  records = λ s h. made_records m c c1 c2 c3 d t k made a first second w placed written hm hd;
  idle = λ i. absurd (not-idle (call.New k) reply.Ok (λ no. no) (λ why q. cc) i);
}

placed-stacks : (m : Areas) (c c1 : Contents) (t : ℕ) (x : Space) (size a : ℕ) → IsPlaced m c t x size a c1 → c1.stacks ≡ c.stacks
placed-stacks m c c1 t x size a placed = ⊎_elim
    (λ (o : IsPlacedInCurrent m c t (depth_in x) size a c1). ap (λ (y : Contents). y.stacks) o.changed)
    (λ (o : (words_left_at m c t (depth_in x) < size) × IsPlacedOnClaimed m c t x size a c1). ap (λ (y : Contents). y.stacks) o.1.changed)
    placed

-- an object that is made, and the reference to it that is pushed
pub make_turns : (m : Areas) (c c1 c2 c3 d : Contents) (t k made a first second w : ℕ) (r : Reply) → IsAreas m → HasThread m t → k ≤ MAX_FIELDS → length (stack_of c t) < STACK_SLOTS → made ≡ made_of c t → made < MAX_SERIAL → Shape m c → length c.made ≡ m.threads → PoolStands m c1.heads c1.pool c1.table → CurrentsStand m c1.currents c1.table → first ≡ header_word (record { fields = k; space = space_index (inner_of t (depth_of c t)) }) → second ≡ name_word (record { thread = t; serial = made + 1 }) → w ≡ 2 * (a + 1) → IsPlaced m c t (inner_of t (depth_of c t)) (k + OBJECT_WORDS) a c1 → IsWritten c1 c2 a first second (k + OBJECT_WORDS) (k + OBJECT_WORDS) → c3 ≡ with_made c2 t (made + 1) → IsPushed c3 d t w r → (r ≡ reply.Ok) × Turned m c d t (call.New k) reply.Ok
make_turns m c c1 c2 c3 d t k made a first second w r areas ht few room is_made left shape long pool1 cur1 ef es ew placed written hm pushed = ⊎_elim
    (λ (p : (length (stack_of c3 t) < STACK_SLOTS) × (r ≡ reply.Ok) × (d ≡ with_stack c3 t (stack_of c3 t ++ w ∷ []))).
    (p.1, made_turns m c c1 c2 c3 d t k made a first second w r areas ht few room is_made left shape long pool1 cur1 ef es ew placed written hm p.2))
    (λ (p : (length (stack_of c3 t) ≡ STACK_SLOTS) × (r ≡ reply.Refused refusal.StackFull) × (d ≡ c3)).
    let stacks : c3.stacks ≡ c.stacks = ap (λ (x : Contents). x.stacks) hm ∙ ap (λ (x : Contents). x.stacks) written.rest ∙ placed-stacks m c c1 t (inner_of t (depth_of c t)) (k + OBJECT_WORDS) a placed in
    let same : length (stack_of c3 t) ≡ length (stack_of c t) = ap (λ (ss : List (List ℕ)). length (get_or ss (t - 1) [])) stacks in
    absurd (omega (arith, p.0, same)))
    pushed
