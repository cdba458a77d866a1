-- A field that is stored, over states.
use Rattle.std.proofs.Common.{◌≡◌, ◌↔◌, ℕ, ◌+◌, ◌<◌, Option, None, Some, List, length, get_or, set, refl, sym, ap, subst, ◌∙◌, arith, inl, inr, length-set}
use Rattle.std.proofs.Math.Logic.{⊎_elim}
use Rattle.object_layout.specs.declared.names.Name.{Name}
use Rattle.object_layout.specs.declared.TheConstants.{OBJECT_WORDS}
use Rattle.object_layout.specs.declared.calls.Call.TheVariants as call
use Rattle.object_layout.specs.declared.replies.Reply.TheVariants as reply
use Rattle.heap_words.specs.declared.map.Areas.{Areas}
use Rattle.heap_words.specs.Map.{HasThread, IsAreas, heap_length}
use Rattle.heap_words.specs.Contents.{Contents, InLimits, stack_of, with_heap}
use Rattle.epoch_lattice.specs.declared.Space.{Space}
use Rattle.yak_model.specs.declared.datum.Datum.{Datum}
use Rattle.yak_model.specs.declared.datum.Datum.TheVariants as datum
use Rattle.yak_model.specs.Graph.{Fields, put_field, slot_of, with_object}
use Rattle.yak_model.specs.Spaces.{SpaceState, home_of}
use Rattle.yak_model.specs.State.{State, Thing, object_of, view}
use Rattle.yak_model.specs.Placed.{datum_word, with_field}
use Rattle.yak_model.specs.Placed as placed
use Rattle.yak_model.specs.Stands.{HeadsClosed, Stands, StandsAs, claim_counter, pool_length}
use Rattle.yak_model.specs.Recorded.{Enters, IsRecordedFor, Recorded, RecordedAs}
use Rattle.yak_model.proofs.Data.{object_fields}
use Rattle.yak_model.proofs.Joined.{stands_stored, stored, view-stored}
use Rattle.yak_model.proofs.Stacks.{slot-fits, slot-word}
use Rattle.yak_model.proofs.Stored.{stands-store}
use Rattle.remember_sets.specs.Filed.{BuffersHold, SetsHold}
use Rattle.standing_calls.specs.Turned.{KeepsPlaces, Turned}
use Rattle.standing_calls.specs.Fields.{IsFieldOf}
use Rattle.standing_calls.specs.Records.{Crosses, FilesBefore, IsStored, Logs, LogsInto, RecordsSlot, SameRecords, home_at, with_logs}
use Rattle.standing_calls.specs.Room.{SameRoom}
use Rattle.standing_calls.proofs.Homes.{home-shown}
use Rattle.standing_calls.proofs.Logs.{stands-with_logs}
use Rattle.standing_calls.proofs.Logged.{closed-logged, recorded-logged, recorded-same, slot_recorded}
use Rattle.standing_calls.proofs.Reached.{field_within}
use Rattle.standing_calls.proofs.Steps.{good_slot, not-idle, thread_in}
use Rattle.standing_calls.proofs.Stores.{keeps-stored, recorded-stored}

-- what is recorded doesn't tell the words of objects
same_logs : (m : Areas) (c d : Contents) (t a i w : ℕ) → Logs m c d t a → Logs m c (with_heap d i w) t a
same_logs m c d t a i w logs = ⊎_elim
    (λ (l : LogsInto c d t a). inl (record { room = l.room; filed = record { firsts = l.filed.firsts; sets = l.filed.sets }; buffers = l.buffers }))
    (λ (l : FilesBefore m c d t a). inr (record { full = l.full; filed = l.filed; buffers = l.buffers }))
    logs

same_slot : (m : Areas) (c d : Contents) (t a i w : ℕ) (from to : Option Space) → RecordsSlot m c d t a from to → RecordsSlot m c (with_heap d i w) t a from to
same_slot m c d t a i w from to records = ⊎_elim
    (λ (p : Crosses from to × Logs m c d t a × (d.readers ≡ c.readers)). inl (p.0, same_logs m c d t a i w p.1, p.2))
    (λ (p : (Crosses from to → ⊥) × SameRecords c d). inr (p.0, record { filed = record { firsts = p.1.filed.firsts; sets = p.1.filed.sets }; buffers = p.1.buffers; readers = p.1.readers }))
    records

pub is_stored : (m : Areas) (c e d : Contents) (t a w : ℕ) (from to : Option Space) → RecordsSlot m c e t a from to → e ≡ with_logs c e → SetsHold m e → d ≡ with_heap e a w → IsStored m c d t a w from to
is_stored m c e d t a w from to records rest sets new = subst (λ (x : Contents). IsStored m c x t a w from to) (sym new) (record { records = same_slot m c e t a a w from to records; rest = ap (λ (x : Contents). with_heap x a w) rest; sets = sets })

-- the words take the room that they took
stored_room : (m : Areas) (c d : Contents) (t a w : ℕ) (from to : Option Space) → IsStored m c d t a w from to → SameRoom c d
stored_room m c d t a w from to done = record {
  claims = ap (λ (x : Contents). claim_counter x.heads) done.rest;
  pooled = ap (λ (x : Contents). pool_length x.heads) done.rest;
  pool = ap (λ (x : Contents). x.pool) done.rest;
  table = ap (λ (x : Contents). x.table) done.rest;
  currents = ap (λ (x : Contents). x.currents) done.rest;
}

-- what was recorded still is, and the slot is where the value crosses
slot-recorded : (m : Areas) (c d : Contents) (s : SpaceState) (h : Stands m c s) (t a : ℕ) (from to : Option Space) → IsAreas m → HasThread m t → length c.buffers ≡ m.threads → (f : ℕ) (n : Name) (o : Thing) → object_of s n ≡ Some o → f < length o.fields → a ≡ h.places.at n + OBJECT_WORDS + f → RecordsSlot m c d t a from to → RecordedAs m c (view s) h.places.at
    → RecordedAs m d (view s) h.places.at × (Crosses from to → (x : Space) → IsRecordedFor m d.firsts d.sets d.buffers x a)
slot-recorded m c d s h t a from to areas ht long f n o present within place records r = ⊎_elim
    (λ (p : Crosses from to × Logs m c d t a × (d.readers ≡ c.readers)).
    (recorded-logged m c d s h t a areas ht long p.1 p.2 (n, o, f, present, within, place) r, λ q x. slot_recorded m c d t a x ht long p.1))
    (λ (p : (Crosses from to → ⊥) × SameRecords c d). (recorded-same m c d (view s) h.places.at p.1 r, λ q x. absurd (p.0 q)))
    records

-- regions that aren't open have no recorded slots
still-closed : (m : Areas) (c d : Contents) (s : SpaceState) (h : Stands m c s) (t a w : ℕ) (from to : Option Space) → BuffersHold m c → IsStored m c d t a w from to → HeadsClosed m d.firsts (view s).depths
still-closed m c d s h t a w from to buffers done = ⊎_elim
    (λ (p : Crosses from to × Logs m c d t a × (d.readers ≡ c.readers)). closed-logged m c d (view s) h.places t a h.stands buffers done.sets p.1)
    (λ (p : (Crosses from to → ⊥) × SameRecords c d). subst (λ (fs : List (List ℕ)). HeadsClosed m fs (view s).depths) (sym p.1.filed.firsts) h.stands.heads_closed)
    done.records

records_alike : (m : Areas) (c d : Contents) (t slot : ℕ) (from other to : Option Space) → (Crosses from to ↔ Crosses other to) → RecordsSlot m c d t slot from to → RecordsSlot m c d t slot other to
records_alike m c d t slot from other to same records = ⊎_elim
    (λ (p : Crosses from to × Logs m c d t slot × (d.readers ≡ c.readers)). inl (same.0 p.0, p.1, p.2))
    (λ (p : (Crosses from to → ⊥) × SameRecords c d). inr (λ x. p.0 (same.1 x), p.1))
    records

-- A reference to no object crosses from nowhere.
pub none_crosses : (from : Option Space) → Crosses from None → ⊥
none_crosses None crosses = crosses
none_crosses (Some from) crosses = crosses

one_name : (x y : Name) → datum.Object x ≡ datum.Object y → x ≡ y
one_name x y e = cc

pub store_turns : (m : Areas) (c d : Contents) (t k f x a w : ℕ) (from to : Option Space) → IsAreas m → HasThread m t → length c.heap ≡ heap_length m → length c.buffers ≡ m.threads → BuffersHold m c → InLimits m d → x < length (stack_of c t) → ((s : SpaceState) (h : Stands m c s) → IsFieldOf s h.places.at t k f a) → w ≡ get_or (stack_of c t) x 0
    → ((s : SpaceState) → Stands m c s → Crosses from to ↔ Crosses (home_at s (slot_of s.graph t k)) to) → ((s : SpaceState) → Stands m c s → to ≡ home_at s (slot_of s.graph t x)) → IsStored m c d t a w from to → Turned m c d t (call.Store k f x) reply.Ok
store_turns m c d t k f x a w from to areas ht long buffers hold limits lt field is froms tos done = record {
  turns = λ s h.
      let p = field s h in
      let v : Datum = slot_of s.graph t x in
      let at : Name → ℕ = h.places.at in
      let word : w ≡ datum_word at v = is ∙ slot-word m c s h t x in
      let inside : at p.name + OBJECT_WORDS + f < length c.heap = omega (arith, long, p.place, field_within m c s h t k f a p) in
      let first : StandsAs m (with_logs c d) (view s) h.places = stands-with_logs m c (view s) h.places d.firsts d.sets d.buffers h.stands done.sets (still-closed m c d s h t a w from to hold done) limits.buffers in
      let second = stands-store m (with_logs c d) (view s) h.places p.name p.thing f v first p.present p.within (slot-fits m c s h t x) inside in
      let there : d ≡ with_heap (with_logs c d) (at p.name + OBJECT_WORDS + f) (datum_word at v) = done.rest ∙ ap (λ i. with_heap (with_logs c d) i w) p.place ∙ ap (with_heap (with_logs c d) (at p.name + OBJECT_WORDS + f)) word in
      let next : SpaceState = stored s p.name (set p.thing.fields f v) in
      let shown = view-stored s p.name p.thing (set p.thing.fields f v) p.present in
      let later : Stands m d next = record {
        whole = (stands_stored m c s h p.name p.thing f v p.present p.within (slot-fits m c s h t x) inside).whole;
        places = h.places;
        stands = subst (λ (y : State). StandsAs m d y h.places) (sym shown) (subst (λ (y : Contents). StandsAs m y (let u = view s in record u { objects = placed.with_object u.objects p.name (with_field p.thing f v) }) h.places) (sym there) second);
      } in
      let put : next.graph ≡ put_field s.graph (slot_of s.graph t k) f v = ap (λ (vs : List Datum). with_object s.graph p.name (Fields (set vs f v))) (sym (object_fields s p.name p.thing p.present)) ∙ ap (λ (o : Datum). put_field s.graph o f v) (sym p.refers) in
      let kept : Recorded m c s h → Recorded m d next later = λ r.
      let q = slot-recorded m c d s h t a from to areas ht buffers f p.name p.thing p.present p.within p.place done.records r in
      let new : (y : Name) (o : Thing) → v ≡ datum.Object y → object_of s y ≡ Some o → Enters p.thing.home o.home → IsRecordedFor m d.firsts d.sets d.buffers o.home (at p.name + OBJECT_WORDS + f) = λ y o e present enters.
      let out : home_at s (slot_of s.graph t k) ≡ Some p.thing.home = ap (home_at s) p.refers ∙ home-shown s p.name p.thing p.present in
      let into : to ≡ Some o.home = tos s h ∙ ap (home_at s) e ∙ home-shown s y o present in
      let crossed : Crosses from to = (froms s h).1 (subst (λ (b : Option Space). Crosses (home_at s (slot_of s.graph t k)) b) (sym into) (subst (λ (b : Option Space). Crosses b (Some o.home)) (sym out) enters)) in
      subst (IsRecordedFor m d.firsts d.sets d.buffers o.home) p.place (q.1 crossed o.home)
      in
      subst (λ (y : State). RecordedAs m d y at) (sym shown) (recorded-stored m d (view s) at p.name p.thing f v p.present p.within new q.0)
      in
      (next, (next, (thread_in m c s h t ht, rw (good_slot m c s h t x lt, p.reached) (refl, put), refl, tt), refl), later, kept);
  kept = λ s h.
      let p = field s h in
      let v : Datum = slot_of s.graph t x in
      let shown = view-stored s p.name p.thing (set p.thing.fields f v) p.present in
      subst (λ (y : State). KeepsPlaces (view s) h.places.at y h.places.at) (sym shown) (keeps-stored (view s) h.places.at p.name p.thing (with_field p.thing f v) p.present refl (length-set p.thing.fields f v));
  room = stored_room m c d t a w from to done;
  records = λ s h n e.
      let p = field s h in
      let name : p.name ≡ n = one_name p.name n (sym p.refers ∙ e) in
      let place : a ≡ h.places.at n + OBJECT_WORDS + f = p.place ∙ ap (λ (y : Name). h.places.at y + OBJECT_WORDS + f) name in
      let out : home_at s (slot_of s.graph t k) ≡ home_of s n = ap (home_at s) e in
      let there : RecordsSlot m c d t (h.places.at n + OBJECT_WORDS + f) from to = subst (λ i. RecordsSlot m c d t i from to) place done.records in
      subst (λ (b : Option Space). RecordsSlot m c d t (h.places.at n + OBJECT_WORDS + f) (home_of s n) b) (tos s h) (subst (λ (b : Option Space). RecordsSlot m c d t (h.places.at n + OBJECT_WORDS + f) b to) out (records_alike m c d t (h.places.at n + OBJECT_WORDS + f) from (home_at s (slot_of s.graph t k)) to (froms s h) there));
  idle = λ i. absurd (not-idle (call.Store k f x) reply.Ok (λ no. no) (λ why q. cc) i);
}
