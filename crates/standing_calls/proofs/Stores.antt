-- A field that is stored, and an object that is made: crossing references stay recorded.
use Rattle.std.proofs.Common.{◌≡◌, ◌≢◌, ℕ, ◌+◌, ◌-◌, ◌<◌, Bool, true, false, cond, Option, Some, None, List, [], ◌∷◌, ◌++◌, length, get_or, set, zero, suc, refl, sym, ap, subst, ◌∙◌, arith, is_some, IsSome, length-set, get_or-set_same, get_or-set_other}
use Rattle.std.specs.List.{All}
use Rattle.std.proofs.lemmas.Bool.{cases_eq}
use Rattle.std.proofs.lemmas.List.Elements.{All-nil, All-push}
use Rattle.std.proofs.Math.Logic.{⊎_elim}
use Rattle.object_layout.specs.declared.names.Name.{Name}
use Rattle.object_layout.specs.declared.TheConstants.{OBJECT_WORDS}
use Rattle.heap_words.specs.declared.map.Areas.{Areas}
use Rattle.heap_words.specs.Map.{HasThread}
use Rattle.heap_words.specs.Contents.{Contents, with_stack}
use Rattle.epoch_lattice.specs.declared.Space.{Space}
use Rattle.epoch_lattice.specs.declared.Space.TheVariants.{Region}
use Rattle.epoch_lattice.specs.Lattice.{inner_of}
use Rattle.yak_model.specs.declared.datum.Datum.{Datum}
use Rattle.yak_model.specs.declared.datum.Datum.TheVariants.{Null, Object}
use Rattle.yak_model.specs.State.{IsClosed, IsDatum, State, Thing, stack}
use Rattle.yak_model.specs.Placed.{Places, same_name, with_field, with_object}
use Rattle.yak_model.specs.Recorded.{Enters, IsRecordedFor, RecordedAs}
use Rattle.yak_model.proofs.Grown.{grown}
use Rattle.yak_model.proofs.Placed.{same_name-self, same_name-true}
use Rattle.yak_model.proofs.Stacks.{all-at}
use Rattle.yak_model.proofs.Stored.{after_object}
use Rattle.standing_calls.specs.Records.{SameRecords}
use Rattle.standing_calls.specs.Turned.{KeepsPlaces}
use Rattle.standing_calls.proofs.Logged.{recorded-same}
use Rattle.standing_calls.proofs.Newly.{newly}
use Rattle.standing_calls.proofs.Recorded.{IsRead, recorded-stacked, stack-read}

-- an object afterwards was there before, in the same space
before-after : (objects : Name → Option Thing) (n : Name) (o p : Thing) → objects n ≡ Some o → p.home ≡ o.home → (x : Name) (q : Thing) → with_object objects n p x ≡ Some q → (r : Thing) × (objects x ≡ Some r) × (r.home ≡ q.home)
before-after objects n o p here home x q e = ⊎_elim
    (λ (z : (x ≡ n) × (p ≡ q)). (o, ap objects z.0 ∙ here, sym home ∙ ap (λ (t : Thing). t.home) z.1))
    (λ (z : objects x ≡ Some q). (q, z, refl))
    (after_object objects n p x q e)

one_thing : (a b : Thing) → Some a ≡ Some b → a ≡ b
one_thing a b e = cc

-- and one from before is there afterwards, with as many fields
still-there : (objects : Name → Option Thing) (n : Name) (o p : Thing) → objects n ≡ Some o → length p.fields ≡ length o.fields → (x : Name) (q : Thing) (b : Bool) → same_name x n ≡ b → objects x ≡ Some q → (r : Thing) × (cond b (Some p) (objects x) ≡ Some r) × (length r.fields ≡ length q.fields)
still-there objects n o p here long x q true same e =
    let at : objects n ≡ Some q = ap objects (sym (same_name-true x n same)) ∙ e in
    (p, refl, long ∙ ap (λ (t : Thing). length t.fields) (one_thing o q (sym here ∙ at)))
still-there objects n o p here long x q false other e = (q, e, refl)

keeps_case : (objects : Name → Option Thing) (n : Name) (o p : Thing) → objects n ≡ Some o → p.home ≡ o.home → length p.fields ≡ length o.fields → (x : Name) (q : Thing) (b : Bool) → same_name x n ≡ b → objects x ≡ Some q → (at : Name → ℕ) → (r : Thing) × (cond b (Some p) (objects x) ≡ Some r) × (r.home ≡ q.home) × (length r.fields ≡ length q.fields) × (at x ≡ at x)
keeps_case objects n o p here home long x q true same e at =
    let there : objects n ≡ Some q = ap objects (sym (same_name-true x n same)) ∙ e in
    let one : o ≡ q = one_thing o q (sym here ∙ there) in
    (p, refl, home ∙ ap (λ (t : Thing). t.home) one, long ∙ ap (λ (t : Thing). length t.fields) one, refl)
keeps_case objects n o p here home long x q false other e at = (q, e, refl, refl, refl)

-- no object goes or moves where a field is stored
pub keeps-stored : (s : State) (at : Name → ℕ) (n : Name) (o p : Thing) → s.objects n ≡ Some o → p.home ≡ o.home → length p.fields ≡ length o.fields → KeepsPlaces s at (record s { objects = with_object s.objects n p }) at
keeps-stored s at n o p here home long = record {
  kept = λ x q e. keeps_case s.objects n o p here home long x q (same_name x n) refl e at;
}

-- a field is stored, and where its new value crosses, its slot is recorded
pub recorded-stored : (m : Areas) (c : Contents) (s : State) (at : Name → ℕ) (n : Name) (o : Thing) (f : ℕ) (v : Datum) → s.objects n ≡ Some o → f < length o.fields → ((x : Name) (p : Thing) → v ≡ Object x → s.objects x ≡ Some p → Enters o.home p.home → IsRecordedFor m c.firsts c.sets c.buffers p.home (at n + OBJECT_WORDS + f)) → RecordedAs m c s at → RecordedAs m c (record s { objects = with_object s.objects n (with_field o f v) }) at
recorded-stored m c s at n o f v here lf new r = record {
  crossing = λ y x q p' j ey lj val ex enters.
      let px = before-after s.objects n o (with_field o f v) here refl x p' ex in
      subst (λ (b : Space). IsRecordedFor m c.firsts c.sets c.buffers b (at y + OBJECT_WORDS + j)) px.2 (⊎_elim
      (λ (z : (y ≡ n) × (with_field o f v ≡ q)).
      let home : q.home ≡ o.home = ap (λ (t : Thing). t.home) (sym z.1) in
      let entered : Enters o.home px.0.home = subst (λ (b : Space). Enters o.home b) (sym px.2) (subst (λ (a : Space). Enters a p'.home) home enters) in
      let fields : set o.fields f v ≡ q.fields = ap (λ (t : Thing). t.fields) z.1 in
      let value : get_or (set o.fields f v) j Null ≡ Object x = ap (λ (vs : List Datum). get_or vs j Null) fields ∙ val in
      ⊎_elim
      (λ (same : j ≡ f).
      let is : v ≡ Object x = sym (get_or-set_same o.fields f v Null lf) ∙ ap (λ k. get_or (set o.fields f v) k Null) (sym same) ∙ value in
      subst (IsRecordedFor m c.firsts c.sets c.buffers px.0.home) (ap (λ (a : Name). at a + OBJECT_WORDS + f) (sym z.0) ∙ ap (λ k. at y + OBJECT_WORDS + k) (sym same)) (new x px.0 is px.1 entered))
      (λ (ne : j ≢ f).
      let old : get_or o.fields j Null ≡ Object x = sym (get_or-set_other o.fields f j v Null ne) ∙ value in
      let lj' : j < length o.fields = omega (arith, lj, ap (λ (vs : List Datum). length vs) fields, length-set o.fields f v) in
      r.crossing y x o px.0 j (ap s.objects z.0 ∙ here) lj' old px.1 entered)
      (cases_eq j f))
      (λ (z : s.objects y ≡ Some q). r.crossing y x q px.0 j z lj val px.1 (subst (λ (b : Space). Enters q.home b) (sym px.2) enters))
      (after_object s.objects n (with_field o f v) y q ey));
  fields = λ a h.
      let k = r.fields a h in
      let t = still-there s.objects n o (with_field o f v) here (length-set o.fields f v) k.0 k.1 (same_name k.0 n) refl k.3 in
      (k.0, t.0, k.2, t.1, omega (arith, k.4, t.2), k.5);
  read = λ t u d k x p' ht hm hk e ex home ne.
      let px = before-after s.objects n o (with_field o f v) here refl x p' ex in
      r.read t u d k x px.0 ht hm hk e px.1 (px.2 ∙ home) ne;
  closed = r.closed;
}

-- ---- an object that is made

not_there : (x : Option Thing) (o : Thing) → x ≡ Some o → x ≡ None → ⊥
not_there x o e z = let q : Some o ≡ None = sym e ∙ z in cc

none_is : (x : Option Thing) → x ≡ None → IsSome x → ⊥
none_is x e h = let q : is_some x ≡ false = ap is_some e in cc

other-name : (x n : Name) → x ≢ n → (b : Bool) → same_name x n ≡ b → same_name x n ≡ false
other-name x n ne true e = absurd (ne (same_name-true x n e))
other-name x n ne false e = e

-- what a value of the old state refers to was there before
old-object : (objects : Name → Option Thing) (n : Name) (o : Thing) → objects n ≡ None → (v : Datum) (x : Name) (p : Thing) → IsDatum objects v → v ≡ Object x → with_object objects n o x ≡ Some p → objects x ≡ Some p
old-object objects n o fresh v x p fits e ex = ⊎_elim
    (λ (z : (x ≡ n) × (o ≡ p)).
    let there : IsSome (objects x) = subst (IsDatum objects) e fits in
    absurd (none_is (objects x) (ap objects z.0 ∙ fresh) there))
    (λ (z : objects x ≡ Some p). z)
    (after_object objects n o x p ex)

-- the values of a stack
stack_data : (s : State) (t : ℕ) → IsClosed s → All (IsDatum s.objects) (stack s t)
stack_data s t closed = all-at (All (IsDatum s.objects)) s.stacks (t - 1) [] (All-nil (IsDatum s.objects)) closed.stacks

-- no object goes or moves where one is made
pub keeps-added : (s : State) (l : Places) (n : Name) (o : Thing) (t p a : ℕ) → s.objects n ≡ None → KeepsPlaces s l.at (newly s n o t) (grown l p n a).at
keeps-added s l n o t p a fresh = record {
  kept = λ y q e.
      let apart : same_name y n ≡ false = other-name y n (λ z. not_there (s.objects y) q e (ap s.objects z ∙ fresh)) (same_name y n) refl in
      (q, rw apart e, refl, refl, rw apart refl);
}

-- the state with one object more, whose fields are null
recorded-added : (m : Areas) (c : Contents) (s : State) (l : Places) (n : Name) (o : Thing) (p a : ℕ) (made : List ℕ) → s.objects n ≡ None → IsClosed s → ((f : ℕ) → get_or o.fields f Null ≡ Null) → RecordedAs m c s l.at → RecordedAs m c (record s { objects = with_object s.objects n o; made = made }) (grown l p n a).at
recorded-added m c s l n o p a made fresh closed null r =
    let apart : (y : Name) (q : Thing) → s.objects y ≡ Some q → same_name y n ≡ false = λ y q e. other-name y n (λ z. not_there (s.objects y) q e (ap s.objects z ∙ fresh)) (same_name y n) refl in
    let kept : (y : Name) (q : Thing) → s.objects y ≡ Some q → (grown l p n a).at y ≡ l.at y = λ y q e. rw (apart y q e) refl in
    record {
      crossing = λ y x q p' j ey lj val ex enters. ⊎_elim
          (λ (z : (y ≡ n) × (o ≡ q)). let e : Null ≡ Object x = sym (null j) ∙ ap (λ (t : Thing). get_or t.fields j Null) z.1 ∙ val in let no : ⊥ = cc in absurd no)
          (λ (z : s.objects y ≡ Some q).
          let old = old-object s.objects n o fresh (get_or q.fields j Null) x p' ((closed.fields y q z).0 j Null lj) val ex in
          subst (λ (i : ℕ). IsRecordedFor m c.firsts c.sets c.buffers p'.home (i + OBJECT_WORDS + j)) (sym (kept y q z)) (r.crossing y x q p' j z lj val old enters))
          (after_object s.objects n o y q ey);
      fields = λ b h.
          let k = r.fields b h in
          (k.0, k.1, k.2, rw (apart k.0 k.1 k.3) k.3, k.4, k.5 ∙ ap (λ i. i + OBJECT_WORDS + k.2) (sym (kept k.0 k.1 k.3)));
      read = λ t u d k x p' ht hm hk e ex home ne.
          let fits : IsDatum s.objects (get_or (stack s t) k Null) = all-at (IsDatum s.objects) (stack s t) k Null tt (stack_data s t closed) in
          r.read t u d k x p' ht hm hk e (old-object s.objects n o fresh (get_or (stack s t) k Null) x p' fits e ex) home ne;
      closed = r.closed;
    }

region_of : (t d u e : ℕ) → inner_of t d ≡ Region u e → u ≡ t
region_of t zero u e q = cc
region_of t (suc d) u e q = cc

-- the object is made in a space of the thread's own, and the reference to it is pushed
pub recorded-newly : (m : Areas) (c d : Contents) (s : State) (l : Places) (n : Name) (o : Thing) (t k p a : ℕ) → HasThread m t → t - 1 < length s.stacks → s.objects n ≡ None → IsClosed s → o.home ≡ inner_of t k → ((f : ℕ) → get_or o.fields f Null ≡ Null) → SameRecords c d → RecordedAs m c s l.at → RecordedAs m d (newly s n o t) (grown l p n a).at
recorded-newly m c d s l n o t k p a ht lt fresh closed home null same r =
    let s1 : State = record s { objects = with_object s.objects n o; made = set s.made (t - 1) (get_or s.made (t - 1) 0 + 1) } in
    let added : RecordedAs m c s1 (grown l p n a).at = recorded-added m c s l n o p a s1.made fresh closed null r in
    let own : IsRead c s1 t (Object n) = λ u e x q refers ex region ne.
    let name : n ≡ x = cc in
    let is : Some o ≡ Some q = rw (same_name-self n) at (ap s1.objects name ∙ ex) in
    let at : inner_of t k ≡ Region u e = sym home ∙ ap (λ (y : Thing). y.home) (one_thing o q is) ∙ region in
    absurd (ne (region_of t k u e at))
    in
    let pushed = recorded-stacked m c s1 (grown l p n a).at t [] (stack s t ++ Object n ∷ []) ht.0 lt added (All-push (IsRead c s1 t) (stack s t) (Object n) (stack-read m c s1 (grown l p n a).at t ht added) own) in
    recorded-same m (with_stack c t []) d (newly s n o t) (grown l p n a).at (record { filed = record { firsts = same.filed.firsts; sets = same.filed.sets }; buffers = same.buffers; readers = same.readers }) pushed
