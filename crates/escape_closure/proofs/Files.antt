-- Which slots the chains hold after an end.
use Rattle.std.proofs.Common.{◌≡◌, ◌≢◌, ◌⊎◌, ℕ, ◌+◌, ◌-◌, ◌≤◌, ◌<◌, Bool, true, Option, Some, List, [], ◌∷◌, length, get_or, set, refl, sym, ap, subst, ◌∙◌, arith, inl, inr, get_or-set_same, get_or-set_other}
use Rattle.std.specs.List.{Contains, flat_map}
use Rattle.std.proofs.Math.Logic.{⊎_elim}
use Rattle.std.proofs.lemmas.Bool.{cases_eq}
use Rattle.object_layout.specs.declared.names.Name.{Name}
use Rattle.object_layout.specs.declared.TheConstants.{OBJECT_WORDS}
use Rattle.heap_words.specs.declared.map.Areas.{Areas}
use Rattle.heap_words.specs.Map.{HasRegion, HasThread, IsAreas}
use Rattle.heap_words.specs.Contents.{Contents, depth_of}
use Rattle.epoch_lattice.specs.declared.Space.{Space}
use Rattle.epoch_lattice.specs.declared.Space.TheVariants.{Control, Region}
use Rattle.epoch_lattice.specs.declared.TheConstants.{MAX_DEPTH}
use Rattle.epoch_lattice.specs.Lattice.{IsValid}
use Rattle.yak_model.specs.declared.datum.Datum.TheVariants.{Null, Object}
use Rattle.yak_model.specs.Graph.{thread_of}
use Rattle.yak_model.specs.Spaces.{SpaceState, innermost}
use Rattle.yak_model.specs.State.{Thing, view}
use Rattle.yak_model.specs.Placed.{Places}
use Rattle.yak_model.specs.Plans.{Move}
use Rattle.yak_model.specs.Chains.{IsRegionOf}
use Rattle.yak_model.specs.Stands.{HeadsClosed, Stands}
use Rattle.yak_model.specs.Recorded.{Enters, Recorded}
use Rattle.yak_model.proofs.Chains.{contains-here, contains-none}
use Rattle.remember_sets.specs.Filed.{all_filed, chain, enters, logged, outside}
use Rattle.remember_sets.proofs.Entering.{enters-tells}
use Rattle.remember_sets.proofs.Folded.{all_filed-has}
use Rattle.forwarding.specs.Crossing.{AreFiled}
use Rattle.forwarding.specs.Slots.{slots_brought}
use Rattle.standing_calls.proofs.Closed.{chain-closed, head-empty}
use Rattle.escape_closure.specs.Targets.{IsEscaping}
use Rattle.escape_closure.specs.Leaves.{FilesEnded, IsCrossingInto, LiesIn, WasRecorded}
use Rattle.escape_closure.specs.Leaving.{EndMoves, Leaves, objects_left}
use Rattle.escape_closure.proofs.Brought.{brought-since, brought-tells, outside-has}
use Rattle.escape_closure.proofs.Carries.{innermost_valid}
use Rattle.escape_closure.proofs.Fates.{OneEach, escaping_in, left_so, one_each}
use Rattle.escape_closure.proofs.LeftFields.{FieldLeft, Lies, brought_field, crossing_at, enters_at, field_brought, no_enter, open_now, outside_field, region_now, same_name, slot_left, still_outside}
use Rattle.escape_closure.proofs.Written.{depth_is, innermost_region, none_filed, region_is}

one_thing : (a b : Thing) → Some a ≡ Some b → a ≡ b
one_thing a b e = cc

no_slots : (slots : List ℕ) → ((a : ℕ) → Contains slots a → ⊥) → slots ≡ []
no_slots [] none = refl
no_slots (a ∷ slots) none = absurd (none a (contains-here a slots))

no_region : (u d : ℕ) → Control ≡ Region u d → ⊥
no_region u d h = cc

module _ (m : Areas) (c : Contents) (s : SpaceState) (st : Stands m c s) (recorded : Recorded m c s st) (quiet : AreFiled c.buffers) (areas : IsAreas m) (t count : ℕ) (has : HasThread m t) (low : 1 ≤ depth_of c t) (moves : ℕ → Move) (tight : Bool) (e : EndMoves s st.places t count moves tight) (spaces : (k : ℕ) → k < count → IsValid MAX_DEPTH (moves k).space) (d : Contents) (later : Places) (leaves : Leaves m c d s st.places t count moves later) where
  abbrev l : Places
  l = st.places

  abbrev region : Space
  region = innermost s.graph t

  abbrev left : Name → Option Thing
  left = objects_left s st.places t count moves

  abbrev lies : Lies m s st.places t count moves d later
  lies = record { at = leaves.at; heap = leaves.heap; spaces = leaves.spaces; closed = leaves.closed }

  own : IsRegionOf m (innermost s.graph t)
  own = innermost_region m c s st t has low

  valid : IsValid MAX_DEPTH (innermost s.graph t)
  valid = innermost_valid m c s st t areas has low

  one : OneEach s st.places
  one = one_each m c.table c.heap s st.places (λ _. 0) st.stands.heap

  none_logged : logged c ≡ []
  none_logged = none_filed c.buffers quiet

  -- the fields of moved objects, the slots of the region's chain, and those of another one
  abbrev brought : List ℕ
  brought = slots_brought d.heap count moves

  abbrev kept : Space → List ℕ
  kept x = outside m c (innermost s.graph t) (chain m c x)

  abbrev Has : Space → ℕ → Type 0
  Has x a = (Contains brought a × (enters m d x a ≡ true)) ⊎ ((Contains brought a → ⊥) × ((Contains (kept region) a × (enters m d x a ≡ true)) ⊎ ((Contains (kept region) a → ⊥) × Contains (kept x) a)))

  tells : (x : Space) (a : ℕ) → IsRegionOf m x → Contains (chain m d x) a → Has x a
  tells x a r h = ⊎_elim
      (λ (p : Contains brought a × (enters m d x a ≡ true)). inl p)
      (λ (p : (Contains brought a → ⊥) × Contains (all_filed m d x (kept region) (kept x)) a). inr (p.0, (all_filed-has m d x (kept region) (kept x) a).0 p.1))
      ((all_filed-has m d x brought (all_filed m d x (kept region) (kept x)) a).0 (subst (λ (k : List ℕ). Contains k a) (leaves.filed x r) h))

  since : (x : Space) (a : ℕ) → IsRegionOf m x → Has x a → Contains (chain m d x) a
  since x a r h = subst (λ (k : List ℕ). Contains k a) (sym (leaves.filed x r)) ((all_filed-has m d x brought (all_filed m d x (kept region) (kept x)) a).1 (⊎_elim
      (λ (p : Contains brought a × (enters m d x a ≡ true)). inl p)
      (λ (p : (Contains brought a → ⊥) × ((Contains (kept region) a × (enters m d x a ≡ true)) ⊎ ((Contains (kept region) a → ⊥) × Contains (kept x) a))). inr (p.0, (all_filed-has m d x (kept region) (kept x) a).1 p.1))
      h))

  -- ---- where the slots come from

  brought_left : (a : ℕ) → Contains brought a → (q : FieldLeft left later.at a) × IsEscaping s t q.name
  brought_left a h = brought_field m c s st recorded areas t count has low moves tight e spaces d later lies a (brought-tells d.heap count moves a h)

  kept_left : (x : Space) (a : ℕ) → IsRegionOf m x → Contains (kept x) a → FieldLeft left later.at a
  kept_left x a r h = (outside_field m c s st recorded areas t count has low moves tight e spaces d later lies x a r h).0

  -- a slot that stays is no field of a moved object
  not_brought : (x : Space) (a : ℕ) → IsRegionOf m x → Contains (kept x) a → Contains brought a → ⊥
  not_brought x a r h b =
      let w = outside_field m c s st recorded areas t count has low moves tight e spaces d later lies x a r h in
      let v = brought_left a b in
      let same = same_name m c s st recorded areas t count has low moves tight e spaces d later lies a w.0 v.0 in
      let i = escaping_in s st.whole l one t count has.0 valid moves tight e w.0.name (subst (IsEscaping s t) (sym same) v.1) in
      w.2 (ap (λ (o : Thing). o.home) (one_thing w.0.object i.0 (sym w.1 ∙ i.1)) ∙ i.2)

  -- a slot of one chain is in no other
  not_own : (x : Space) (a : ℕ) → IsRegionOf m x → x ≢ innermost s.graph t → Contains (kept x) a → Contains (kept region) a → ⊥
  not_own x a r ne h k = ne (st.stands.sets.apart x region a r own ((outside-has m c region (chain m c x) a).0 h).0 ((outside-has m c region (chain m c region) a).0 k).0)

  -- what was recorded
  was : (x : Space) (a : ℕ) → Contains (kept x) a → WasRecorded m c s t x a
  was x a h =
      let w = (outside-has m c region (chain m c x) a).0 h in
      (subst (λ (k : List ℕ). Contains (all_filed m c x k (chain m c x)) a) (sym none_logged) w.0, w.1)

  of_was : (x : Space) (a : ℕ) → WasRecorded m c s t x a → Contains (kept x) a
  of_was x a w = (outside-has m c region (chain m c x) a).1 (subst (λ (k : List ℕ). Contains (all_filed m c x k (chain m c x)) a) none_logged w.0, w.1)

  crossing_of : (x : Space) (a : ℕ) → IsRegionOf m x → (q : FieldLeft left later.at a) → enters m d x a ≡ true → (k : IsCrossingInto left later.at x a) × (k.from ≡ q.name)
  crossing_of x a r q en = crossing_at m c s st recorded areas t count has low moves tight e spaces d later lies x a r q en

  entering : (x : Space) (a : ℕ) → IsCrossingInto left later.at x a → enters m d x a ≡ true
  entering x a k = enters_at m c s st recorded areas t count has low moves tight e spaces d later lies x a k

  abbrev Told : Space → ℕ → Type 0
  Told x a = WasRecorded m c s t x a ⊎ (WasRecorded m c s t (innermost s.graph t) a × IsCrossingInto left later.at x a) ⊎ ((k : IsCrossingInto left later.at x a) × IsEscaping s t k.from)

  forth : (x : Space) (a : ℕ) → IsRegionOf m x → Has x a → Told x a
  forth x a r h = ⊎_elim
      (λ (p : Contains brought a × (enters m d x a ≡ true)).
      let v = brought_left a p.0 in
      let k = crossing_of x a r v.0 p.1 in
      inr (inr (k.0, subst (IsEscaping s t) (sym k.1) v.1)))
      (λ (p : (Contains brought a → ⊥) × ((Contains (kept region) a × (enters m d x a ≡ true)) ⊎ ((Contains (kept region) a → ⊥) × Contains (kept x) a))).
      ⊎_elim
      (λ (q : Contains (kept region) a × (enters m d x a ≡ true)). inr (inl (was region a q.0, (crossing_of x a r (kept_left region a own q.0) q.1).0)))
      (λ (q : (Contains (kept region) a → ⊥) × Contains (kept x) a). inl (was x a q.1))
      p.1)
      h

  back : (x : Space) (a : ℕ) → IsRegionOf m x → x ≢ innermost s.graph t → Told x a → Has x a
  back x a r ne h = ⊎_elim
      (λ (w : WasRecorded m c s t x a).
      let k = of_was x a w in
      inr (not_brought x a r k, inr (not_own x a r ne k, k)))
      (λ (z : (WasRecorded m c s t region a × IsCrossingInto left later.at x a) ⊎ ((k : IsCrossingInto left later.at x a) × IsEscaping s t k.from)).
      ⊎_elim
      (λ (w : WasRecorded m c s t region a × IsCrossingInto left later.at x a).
      let k = of_was region a w.0 in
      inr (not_brought region a own k, inl (k, entering x a w.1)))
      (λ (w : (k : IsCrossingInto left later.at x a) × IsEscaping s t k.from).
      let k : IsCrossingInto left later.at x a = w.0 in
      let q : FieldLeft left later.at a = record { name = k.from; object = k.object; field = k.field; present = k.present; within = k.within; place = k.place } in
      inl (brought-since d.heap count moves a (field_brought m c s st recorded areas t count has low moves tight e spaces d later lies a q w.1), entering x a k))
      z)
      h

  -- no slot is recorded for the region
  gone : (a : ℕ) → Contains (chain m d region) a → ⊥
  gone a h =
      let never : FieldLeft left later.at a → enters m d region a ≡ true → ⊥ = λ q en. no_enter m c s st recorded areas t count has low moves tight e spaces d later lies region a own (slot_left m c s st recorded areas t count has low moves tight e spaces d later lies a q) (λ shown ne. ne refl) (enters-tells m d region a en) in
      ⊎_elim
      (λ (p : Contains brought a × (enters m d region a ≡ true)). never (brought_left a p.0).0 p.1)
      (λ (p : (Contains brought a → ⊥) × ((Contains (kept region) a × (enters m d region a ≡ true)) ⊎ ((Contains (kept region) a → ⊥) × Contains (kept region) a))).
      ⊎_elim (λ (q : Contains (kept region) a × (enters m d region a ≡ true)). never (kept_left region a own q.0) q.1) (λ (q : (Contains (kept region) a → ⊥) × Contains (kept region) a). q.0 q.1) p.1)
      (tells region a own h)

  none_left : chain m d region ≡ []
  none_left = no_slots (chain m d region) gone

  pub files_left : FilesEnded m c d s t (objects_left s st.places t count moves) later.at
  files_left = record {
    none = none_left;
    others = λ x r ne a. (λ h. forth x a r (tells x a r h), λ h. since x a r (back x a r ne h));
  }

  -- ---- the records of the state

  -- what a chain holds is a field
  pub field_filed : (x : Space) (a : ℕ) → IsRegionOf m x → Contains (chain m d x) a → FieldLeft (objects_left s st.places t count moves) later.at a
  field_filed x a r h = ⊎_elim
      (λ (p : Contains brought a × (enters m d x a ≡ true)). (brought_left a p.0).0)
      (λ (p : (Contains brought a → ⊥) × ((Contains (kept region) a × (enters m d x a ≡ true)) ⊎ ((Contains (kept region) a → ⊥) × Contains (kept x) a))).
      ⊎_elim (λ (q : Contains (kept region) a × (enters m d x a ≡ true)). kept_left region a own q.0) (λ (q : (Contains (kept region) a → ⊥) × Contains (kept x) a). kept_left x a r q.1) p.1)
      (tells x a r h)

  -- a field that crosses is in the chain of the region that it enters
  pub crossing_filed : (n x : Name) (o p : Thing) (f : ℕ) → objects_left s st.places t count moves n ≡ Some o → f < length o.fields → get_or o.fields f Null ≡ Object x → objects_left s st.places t count moves x ≡ Some p → Enters o.home p.home → Contains (chain m d p.home) (later.at n + OBJECT_WORDS + f)
  crossing_filed n x o p f hn lt refers hx enters =
      let a : ℕ = later.at n + OBJECT_WORDS + f in
      let r : IsRegionOf m p.home = region_now m c s st recorded areas t count has low moves tight e spaces d later lies x p hx enters.0 in
      let ne = (open_now m c s st recorded areas t count has low moves tight e spaces d later lies x p hx).1 in
      let k : IsCrossingInto left later.at p.home a = record { from = n; object = o; present = hn; field = f; within = lt; to = x; goal = p; refers = refers; reached = hx; home = refl; enters = enters; place = refl } in
      let w = left_so s st.whole l one t count has.0 valid moves tight e n o hn in
      since p.home a r (back p.home a r ne (elim w.2 [
        | inl q ↦ inr (inr (k, q.escapes))
        | inr q ↦
            let v = left_so s st.whole l one t count has.0 valid moves tight e x p hx in
            let same : a ≡ l.at n + OBJECT_WORDS + f = ap (λ i. i + OBJECT_WORDS + f) (ap (λ (g : Name → ℕ). g n) leaves.at ∙ q.leads) in
            let within : f < length w.0.fields = subst (λ (z : Thing). f < length z.fields) q.is lt in
            let refers' : get_or w.0.fields f Null ≡ Object x = ap (λ (z : Thing). get_or z.fields f Null) (sym q.is) ∙ refers in
            let before : Enters w.0.home v.0.home = elim v.2 [
              | inl y ↦ ((λ z. no_region t (depth_of c t) (sym z ∙ y.home ∙ region_is m c s st t (depth_of c t) has refl low)), λ z. q.home (sym z ∙ y.home))
              | inr y ↦ subst (λ (z : Thing). Enters z.home v.0.home) q.is (subst (λ (z : Thing). Enters o.home z.home) y.is enters)
            ] in
            let slot : Contains (chain m c v.0.home) a = subst (Contains (chain m c v.0.home)) (sym same) (⊎_elim
            (λ (g : Contains (chain m c v.0.home) (l.at n + OBJECT_WORDS + f)). g)
            (λ (g : Contains (flat_map (λ (b : List ℕ). b) c.buffers) (l.at n + OBJECT_WORDS + f)). absurd (contains-none (l.at n + OBJECT_WORDS + f) (subst (λ (b : List ℕ). Contains b (l.at n + OBJECT_WORDS + f)) none_logged g)))
            (recorded.crossing n x w.0 v.0 f w.1 within refers' v.1 before)) in
            let far : LiesIn m c region a → ⊥ = still_outside m c s st recorded areas t count has low moves tight e spaces d later lies n w.0 f a w.1 within same q.home in
            elim v.2 [
              | inl y ↦ inr (inl (was region a ((outside-has m c region (chain m c region) a).1 (subst (λ (z : Space). Contains (chain m c z) a) y.home slot, far)), k))
              | inr y ↦ inl (was p.home a ((outside-has m c region (chain m c p.home) a).1 (subst (λ (z : Thing). Contains (chain m c z.home) a) (sym y.is) slot, far)))
            ]
      ]))

  -- ---- regions that are closed have no recorded slots

  shut : (u f a : ℕ) → HasRegion m u f → get_or (view s).depths (u - 1) 0 < f → FieldLeft left later.at a → enters m d (Region u f) a ≡ true → ⊥
  shut u f a r closed q en = no_enter m c s st recorded areas t count has low moves tight e spaces d later lies (Region u f) a r (slot_left m c s st recorded areas t count has low moves tight e spaces d later lies a q) (λ shown ne. omega (arith, shown.3, closed)) (enters-tells m d (Region u f) a en)

  empty : (u f a : ℕ) → HasRegion m u f → get_or (view s).depths (u - 1) 0 < f → Contains (chain m d (Region u f)) a → ⊥
  empty u f a r closed h = ⊎_elim
      (λ (p : Contains brought a × (enters m d (Region u f) a ≡ true)). shut u f a r closed (brought_left a p.0).0 p.1)
      (λ (p : (Contains brought a → ⊥) × ((Contains (kept region) a × (enters m d (Region u f) a ≡ true)) ⊎ ((Contains (kept region) a → ⊥) × Contains (kept (Region u f)) a))).
      ⊎_elim
      (λ (q : Contains (kept region) a × (enters m d (Region u f) a ≡ true)). shut u f a r closed (kept_left region a own q.0) q.1)
      (λ (q : (Contains (kept region) a → ⊥) × Contains (kept (Region u f)) a). chain-closed m c (view s) l u f a st.stands r closed ((outside-has m c region (chain m c (Region u f)) a).0 q.1).0)
      p.1)
      (tells (Region u f) a r h)

  pub closed_left : HeadsClosed m d.firsts (set (view s).depths (t - 1) ((thread_of s.graph t).depth - 1))
  closed_left u f r lt =
      let k : ℕ = (thread_of s.graph t).depth - 1 in
      let depth : depth_of c t ≡ (thread_of s.graph t).depth = depth_is m c s st t has in
      let shown : get_or (view s).depths (t - 1) 0 ≡ depth_of c t = ap (λ (ds : List ℕ). get_or ds (t - 1) 0) (sym st.stands.depths) in
      head-empty m d (Region u f) leaves.sets r (λ a h. ⊎_elim
      (λ (same : u ≡ t).
      let now : get_or (set (view s).depths (t - 1) k) (u - 1) 0 ≡ k = ap (λ i. get_or (set (view s).depths (t - 1) k) (i - 1) 0) same ∙ get_or-set_same (view s).depths (t - 1) k 0 (omega (arith, has, st.stands.threads)) in
      let here : get_or (view s).depths (u - 1) 0 ≡ depth_of c t = ap (λ i. get_or (view s).depths (i - 1) 0) same ∙ shown in
      ⊎_elim
      (λ (level : f ≡ depth_of c t).
      let is : Region u f ≡ region = ap (λ i. Region i f) same ∙ ap (Region t) level ∙ sym (region_is m c s st t (depth_of c t) has refl low) in
      contains-none a (subst (λ (b : List ℕ). Contains b a) (ap (chain m d) is ∙ none_left) h))
      (λ (other : f ≢ depth_of c t). empty u f a r (omega (arith, now, here, lt, depth, other)) h)
      (cases_eq f (depth_of c t)))
      (λ (apart : u ≢ t).
      let now : get_or (set (view s).depths (t - 1) k) (u - 1) 0 ≡ get_or (view s).depths (u - 1) 0 = get_or-set_other (view s).depths (t - 1) (u - 1) k 0 (λ z. apart (omega (arith, z, has.0, r.0))) in
      empty u f a r (omega (arith, now, lt)) h)
      (cases_eq u t))
