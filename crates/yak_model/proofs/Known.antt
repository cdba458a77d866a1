-- What becomes of the known objects, and of their parts.
use Rattle.std.proofs.Common.{◌≡◌, ℕ, List, [], ◌∷◌, Bool, true, false, true≢false, cond, map, replicate, set, refl, ◌∙◌, ap, sym, subst, arith, inl, inr, Some, None, IsSome, is_some}
use Rattle.std.specs.List.{Contains}
use Rattle.std.specs.FinMap.{entries, find, get, get-entries, insert, retain_keys, get-retain_keys}
use Rattle.object_layout.specs.declared.names.Name.{Name}
use Rattle.object_layout.specs.declared.calls.Call.{Call}
use Rattle.object_layout.specs.declared.calls.Call.TheVariants as call
use Rattle.object_layout.specs.declared.replies.Reply.{Reply}
use Rattle.object_layout.specs.declared.replies.Reply.TheVariants as reply
use Rattle.yak_model.specs.declared.datum.Datum.{Datum}
use Rattle.yak_model.specs.declared.datum.Datum.TheVariants as datum
use Rattle.yak_model.specs.Graph.{Content, Fields, Graph, fields_or_none, next_name, slot_of}
use Rattle.yak_model.specs.History.{Entry, Said, Collected}
use Rattle.yak_model.specs.Names.{name_cmp}
use Rattle.yak_model.specs.Spaces.{Walk, here, onward}
use Rattle.yak_model.specs.Private.{AreMade, GivesAway, IsKnown, IsPart, IsPrivate, KnownAfter, KnownObjects, LosesAll, OwnCall, PartsAreKept, RefersKnown, SomethingIsKnown, StoresKnown}
use Rattle.yak_model.proofs.Names.{find_other, get-same, get-other, name_cmp-IsAntisymmetric, same_or_other}
use Rattle.yak_model.proofs.Lists.{contains_cases, contains_cons, contains_replicate, contains_set}
use Rattle.yak_model.proofs.Agreement.{no_null, same_or_other_number}
use Rattle.yak_model.proofs.Walks.{walk_map}
use Rattle.yak_model.proofs.Decided.{Among, Decided, both_decided, walk_decided}

-- ---- what can be decided

pub known_decided : (known : KnownObjects) (name : Name) → Decided (IsKnown known name)
known_decided known name = elim (get known name) as (λ o. Decided (IsSome o)) [ Some c ↦ inl refl | None ↦ inr (λ h. true≢false (sym h)) ]

is_object : (value : Datum) (name : Name) → Decided (value ≡ datum.Object name)
is_object datum.Null name = inr (λ e. cc e)
is_object (datum.Int i) name = inr (λ e. cc e)
is_object (datum.Object other) name = elim (same_or_other other name) [
  | inl e ↦ inl (ap datum.Object e)
  | inr apart ↦ inr (λ e. apart (cc e))
]

holds_decided : (fields : List Datum) (name : Name) → Decided (Contains fields (datum.Object name))
holds_decided [] name = inr (λ c. absurd (omega (arith, c.1)))
holds_decided (value ∷ fields) name = elim (is_object value name) [
  | inl e ↦ inl (0, omega arith, e)
  | inr other ↦ elim (holds_decided fields name) [
    | inl c ↦ inl (contains_cons value fields (datum.Object name) c)
    | inr none ↦ inr (λ c. elim (contains_cases value fields (datum.Object name) c) [ inl e ↦ other e | inr d ↦ none d ])
  ]
]

refers_decided : (known : KnownObjects) (from to : Name) → Decided (RefersKnown known from to)
refers_decided known from to = elim (both_decided (known_decided known from) (both_decided (holds_decided (fields_or_none (get known from)) to) (known_decided known to))) [
  | inl both ↦ inl (both.0, both.1.0, both.1.1)
  | inr never ↦ inr (λ r. never (r.0, (r.1, r.2)))
]

-- the names of a list of objects
names_in : List (Name × Content) → List Name
names_in es = map (λ (e : Name × Content). e.0) es

found_among : (es : List (Name × Content)) (name : Name) → IsSome (find name_cmp name es) → Among name (names_in es)
unfolding names_in
found_among [] name h = absurd (true≢false (sym h))
found_among (e ∷ es) name h = elim (same_or_other name e.0) [
  | inl same ↦ inl same
  | inr apart ↦ inr (found_among es name (subst IsSome (find_other name e.0 e.1 es apart) h))
]

known_among : (known : KnownObjects) (name : Name) → IsKnown known name → Among name (names_in (entries known))
known_among known name h = found_among (entries known) name (subst IsSome (get-entries known name) h)

pub leads_decided : (known : KnownObjects) (from to : Name) → Decided (Walk (RefersKnown known) from to)
leads_decided known from to =
    walk_decided (RefersKnown known) (refers_decided known) (names_in (entries known)) (λ a b r. known_among known a r.0) from to

-- ---- something is known after each entry

stays : (known : KnownObjects) (from to : Name) → Bool
stays known from to = elim (leads_decided known from to) [ inl walk ↦ false | inr never ↦ true ]

left_by : (known : KnownObjects) (name : Name) → KnownObjects
left_by known name = retain_keys known (stays known name)

left_at : (known : KnownObjects) (name n : Name) → get (left_by known name) n ≡ cond (stays known name n) (get known n) None
unfolding left_by
left_at known name n = get-retain_keys known (stays known name) n (λ x tied. ap (stays known name) (sym (name_cmp-IsAntisymmetric n x tied)))

lost_all : (known : KnownObjects) (name : Name) → LosesAll known name (left_by known name)
unfolding stays
lost_all known name = record {
  lost = λ n walk. left_at known name n ∙ elim (leads_decided known name n) as (λ d. cond (elim d [ inl w ↦ false | inr never ↦ true ]) (get known n) None ≡ None) [ inl w ↦ refl | inr never ↦ absurd (never walk) ];
  kept = λ n none. left_at known name n ∙ elim (leads_decided known name n) as (λ d. cond (elim d [ inl w ↦ false | inr never ↦ true ]) (get known n) None ≡ get known n) [ inl w ↦ absurd (none w) | inr never ↦ refl ];
}

given_away : (known : KnownObjects) (value : Datum) → (after : KnownObjects) × GivesAway known value after
given_away known datum.Null = (known, refl)
given_away known (datum.Int i) = (known, refl)
given_away known (datum.Object name) = (left_by known name, lost_all known name)

stored : (known : KnownObjects) (into : Datum) (f : ℕ) (value : Datum) → (after : KnownObjects) × StoresKnown known into f value after
stored known datum.Null f value = (known, refl)
stored known (datum.Int i) f value = (known, refl)
stored known (datum.Object name) f value = elim (known_decided known name) [
  | inl is ↦ (insert known name (Fields (set (fields_or_none (get known name)) f value)), ((λ _. refl), (λ none. absurd (none is))))
  | inr none ↦ let given = given_away known value in (given.0, ((λ is. absurd (none is)), (λ _. given.1)))
]

own_known : (g : Graph) (t : ℕ) (known : KnownObjects) (asked : Call) (said : Reply) → (after : KnownObjects) × OwnCall g t known asked said after
own_known g t known (call.New k) reply.Ok = (_, refl)
own_known g t known (call.Store s f x) reply.Ok = stored known (slot_of g t s) f (slot_of g t x)
own_known g t known asked said = (known, refl)

pub something_is_known : SomethingIsKnown
something_is_known g t known (Collected u) = (known, refl)
something_is_known g t known (Said u asked said) = elim (same_or_other_number u t) [
  | inl same ↦ let own = own_known g t known asked said in (own.0, ((λ _. own.1), (λ apart. absurd (apart same))))
  | inr apart ↦ (known, ((λ same. absurd (apart same)), (λ _. refl)))
]

-- ---- parts

module _ (g : Graph) (t : ℕ) (known part : KnownObjects) (made : AreMade g) (private : IsPrivate g t known) (is_part : IsPart known part) where
  was_known : (name : Name) → IsKnown part name → IsKnown known name
  was_known name h = subst IsSome (is_part.contents name h) h

  -- a known object that refers to one of the part is of the part
  refers_back : (from to : Name) → IsKnown known from → Contains (fields_or_none (get known from)) (datum.Object to) → IsKnown part to → IsKnown part from
  refers_back from to h c there = is_part.closed from to (h, c, was_known to there) there

  pub part_private : IsPrivate g t part
  part_private = record {
    contents = λ name h. private.contents name (was_known name h) ∙ sym (is_part.contents name h);
    stacks = λ name h. private.stacks name (was_known name h);
    fields = λ name h from r.
        let other : IsKnown known from = private.fields name (was_known name h) from r in
        refers_back from name other (subst (λ o. Contains (fields_or_none o) (datum.Object name)) (private.contents from other) r) h;
  }

  -- a walk that ends in the part stands in it
  walks_back : (from to : Name) → Walk (RefersKnown known) from to → IsKnown part to → Walk (RefersKnown part) from to
  walks_back from to w h = by_walk w h
    where
      by_walk : {n : Name} → Walk (RefersKnown known) from n → IsKnown part n → Walk (RefersKnown part) from n
      by_walk here h = here
      by_walk (onward {middle = middle} {to = n} v e) h =
          let before : IsKnown part middle = is_part.closed middle n e h in
          onward (by_walk v before) (before, subst (λ o. Contains (fields_or_none o) (datum.Object n)) (sym (is_part.contents middle before)) e.1, h)

  walks_on : (from to : Name) → Walk (RefersKnown part) from to → Walk (RefersKnown known) from to
  walks_on from to w = walk_map (λ a b r. (was_known a r.0, subst (λ o. Contains (fields_or_none o) (datum.Object b)) (is_part.contents a r.0) r.1, was_known b r.2)) w

  same_part : (after part_after : KnownObjects) → after ≡ known → part_after ≡ part → IsPart after part_after
  same_part after part_after e f = subst (λ (x : KnownObjects × KnownObjects). IsPart x.0 x.1) (λ i. (sym e i, sym f i)) is_part

  -- a new object
  module _ (name : Name) (size : ℕ) (new : (IsKnown known name → ⊥)) (unheard : (from : Name) → IsKnown known from → Contains (fields_or_none (get known from)) (datum.Object name) → ⊥) where
    nulls : Content
    nulls = Fields (replicate size datum.Null)

    made_part : IsPart (insert known name nulls) (insert part name nulls)
    unfolding nulls
    made_part = record {
      contents = λ n h. elim (same_or_other n name) [
        | inl e ↦ ap (get (insert part name nulls)) e ∙ get-same part name nulls ∙ sym (ap (get (insert known name nulls)) e ∙ get-same known name nulls)
        | inr o ↦ get-other part name nulls n o ∙ is_part.contents n (subst IsSome (get-other part name nulls n o) h) ∙ sym (get-other known name nulls n o)
      ];
      closed = λ from to r h. elim (same_or_other from name) [
        | inl e ↦ absurd (no_null to (contains_replicate size datum.Null (datum.Object to) (subst (λ o. Contains (fields_or_none o) (datum.Object to)) (ap (get (insert known name nulls)) e ∙ get-same known name nulls) r.1)))
        | inr o ↦
            let was : IsKnown known from = subst IsSome (get-other known name nulls from o) r.0 in
            let holds : Contains (fields_or_none (get known from)) (datum.Object to) = subst (λ c. Contains (fields_or_none c) (datum.Object to)) (get-other known name nulls from o) r.1 in
            elim (same_or_other to name) [
              | inl e ↦ absurd (unheard from was (subst (λ (x : Name). Contains (fields_or_none (get known from)) (datum.Object x)) e holds))
              | inr p ↦ subst IsSome (sym (get-other part name nulls from o)) (refers_back from to was holds (subst IsSome (get-other part name nulls to p) h))
            ]
      ];
    }

  -- a store into a known object
  module _ (into : Name) (f : ℕ) (value : Datum) where
    changed : KnownObjects → Content
    changed m = Fields (set (fields_or_none (get m into)) f value)

    -- which is of the part
    stored_part : IsKnown part into → IsPart (insert known into (changed known)) (insert part into (changed part))
    unfolding changed
    stored_part held = record {
      contents = λ n h. elim (same_or_other n into) [
        | inl e ↦ ap (get (insert part into (changed part))) e ∙ get-same part into (changed part) ∙ ap (λ o. Some (Fields (set (fields_or_none o) f value))) (is_part.contents into held)
            ∙ sym (ap (get (insert known into (changed known))) e ∙ get-same known into (changed known))
        | inr o ↦ get-other part into (changed part) n o ∙ is_part.contents n (subst IsSome (get-other part into (changed part) n o) h) ∙ sym (get-other known into (changed known) n o)
      ];
      closed = λ from to r h. elim (same_or_other from into) [
        | inl e ↦ subst (λ (x : Name). IsKnown (insert part into (changed part)) x) (sym e) (ap is_some (get-same part into (changed part)))
        | inr o ↦ subst IsSome (sym (get-other part into (changed part) from o))
            (refers_back from to (subst IsSome (get-other known into (changed known) from o) r.0) (subst (λ c. Contains (fields_or_none c) (datum.Object to)) (get-other known into (changed known) from o) r.1) (of_part to h))
      ];
    }
      where
        of_part : (n : Name) → IsKnown (insert part into (changed part)) n → IsKnown part n
        of_part n h = elim (same_or_other n into) [ inl e ↦ subst (IsKnown part) (sym e) held | inr o ↦ subst IsSome (get-other part into (changed part) n o) h ]

    -- which isn't: what of the part was stored there isn't of the part any more
    beside_part : IsKnown known into → (IsKnown part into → ⊥) → (part_after : KnownObjects)
        → ((n : Name) → IsKnown part_after n → IsKnown part n × (get part_after n ≡ get part n))
        → ((from to : Name) → IsKnown part_after to → RefersKnown part from to → IsKnown part_after from)
        → ((n : Name) → IsKnown part_after n → value ≡ datum.Object n → ⊥)
        → IsPart (insert known into (changed known)) part_after
    unfolding changed
    beside_part held none part_after was closed unstored = record {
      contents = λ n h. (was n h).1 ∙ is_part.contents n (was n h).0 ∙ sym (get-other known into (changed known) n (λ e. none (subst (IsKnown part) e (was n h).0)));
      closed = λ from to r h. elim (same_or_other from into) [
        | inl e ↦ elim (contains_set (fields_or_none (get known into)) f value (datum.Object to) (subst (λ o. Contains (fields_or_none o) (datum.Object to)) (ap (get (insert known into (changed known))) e ∙ get-same known into (changed known)) r.1)) [
          | inl old ↦ absurd (none (refers_back into to held old (was to h).0))
          | inr new ↦ absurd (unstored to h new)
        ]
        | inr o ↦
            let known_from : IsKnown known from = subst IsSome (get-other known into (changed known) from o) r.0 in
            let holds : Contains (fields_or_none (get known from)) (datum.Object to) = subst (λ c. Contains (fields_or_none c) (datum.Object to)) (get-other known into (changed known) from o) r.1 in
            let of_part : IsKnown part from = refers_back from to known_from holds (was to h).0 in
            closed from to h (of_part, subst (λ c. Contains (fields_or_none c) (datum.Object to)) (sym (is_part.contents from of_part)) holds, (was to h).0)
      ];
    }

    kept_beside : IsKnown known into → (IsKnown part into → ⊥) → (v : Datum) → value ≡ v → (part_after : KnownObjects) → GivesAway part v part_after → IsPart (insert known into (changed known)) part_after
    kept_beside held none datum.Null e part_after same =
        beside_part held none part_after (λ n h. (subst (λ (k : KnownObjects). IsKnown k n) same h, ap (λ (k : KnownObjects). get k n) same)) (λ from to h r. subst (λ (k : KnownObjects). IsKnown k from) (sym same) r.0) (λ n h q. cc)
    kept_beside held none (datum.Int i) e part_after same =
        beside_part held none part_after (λ n h. (subst (λ (k : KnownObjects). IsKnown k n) same h, ap (λ (k : KnownObjects). get k n) same)) (λ from to h r. subst (λ (k : KnownObjects). IsKnown k from) (sym same) r.0) (λ n h q. cc)
    kept_beside held none (datum.Object o) e part_after loses =
        beside_part held none part_after was (λ from to h r. subst IsSome (sym (loses.kept from (λ w. free to h (onward w r)))) r.0) (λ n h q. free n h (subst (λ z. Walk (RefersKnown part) o z) (same_object n q) here))
      where
        free : (n : Name) → IsKnown part_after n → Walk (RefersKnown part) o n → ⊥
        free n h w = true≢false (sym h ∙ ap is_some (loses.lost n w))

        was : (n : Name) → IsKnown part_after n → IsKnown part n × (get part_after n ≡ get part n)
        was n h = let same : get part_after n ≡ get part n = loses.kept n (free n h) in (subst IsSome same h, same)

        same_object : (n : Name) → value ≡ datum.Object n → o ≡ n
        same_object n q = cc

  -- a store into an object that isn't known
  given_part : (v : Datum) (after part_after : KnownObjects) → GivesAway known v after → GivesAway part v part_after → IsPart after part_after
  given_part datum.Null after part_after a b = same_part after part_after a b
  given_part (datum.Int i) after part_after a b = same_part after part_after a b
  given_part (datum.Object o) after part_after a b = record {
    contents = λ n h. (was n h).1 ∙ is_part.contents n (was n h).0 ∙ sym (a.kept n (λ w. free n h (walks_back o n w (was n h).0)));
    closed = λ from to r h.
        let known_from = before from r.0 in
        let holds : Contains (fields_or_none (get known from)) (datum.Object to) = subst (λ c. Contains (fields_or_none c) (datum.Object to)) known_from.1 r.1 in
        let of_part : IsKnown part from = refers_back from to known_from.0 holds (was to h).0 in
        subst IsSome (sym (b.kept from (λ w. lost from r.0 (walks_on o from w)))) of_part;
  }
    where
      free : (n : Name) → IsKnown part_after n → Walk (RefersKnown part) o n → ⊥
      free n h w = true≢false (sym h ∙ ap is_some (b.lost n w))

      lost : (n : Name) → IsKnown after n → Walk (RefersKnown known) o n → ⊥
      lost n h w = true≢false (sym h ∙ ap is_some (a.lost n w))

      was : (n : Name) → IsKnown part_after n → IsKnown part n × (get part_after n ≡ get part n)
      was n h = let same : get part_after n ≡ get part n = b.kept n (free n h) in (subst IsSome same h, same)

      before : (n : Name) → IsKnown after n → IsKnown known n × (get after n ≡ get known n)
      before n h = let same : get after n ≡ get known n = a.kept n (lost n h) in (subst IsSome same h, same)

  store_part : (into : Datum) (f : ℕ) (value : Datum) (after part_after : KnownObjects) → StoresKnown known into f value after → StoresKnown part into f value part_after → IsPart after part_after
  unfolding changed
  store_part datum.Null f value after part_after a b = same_part after part_after a b
  store_part (datum.Int i) f value after part_after a b = same_part after part_after a b
  store_part (datum.Object name) f value after part_after a b =
      elim (known_decided known name) [
        | inl held ↦ elim (known_decided part name) [
          | inl of_part ↦ subst (λ (x : KnownObjects × KnownObjects). IsPart x.0 x.1) (λ i. (sym (a.0 held) i, sym (b.0 of_part) i)) (stored_part name f value of_part)
          | inr none ↦ subst (λ (x : KnownObjects). IsPart x part_after) (sym (a.0 held)) (kept_beside name f value held none value refl part_after (b.1 none))
        ]
        | inr unknown ↦ given_part value after part_after (a.1 unknown) (b.1 (λ h. unknown (was_known name h)))
      ]

  -- the next object of a thread is new
  not_next : (u : ℕ) → IsKnown known (next_name g u) → ⊥
  not_next u h =
      let there : IsSome (get g.objects (next_name g u)) = subst IsSome (sym (private.contents (next_name g u) h)) h in
      absurd (omega (arith, made.objects (next_name g u) there))

  not_heard : (u : ℕ) (from : Name) → IsKnown known from → Contains (fields_or_none (get known from)) (datum.Object (next_name g u)) → ⊥
  not_heard u from h c = absurd (omega (arith, made.fields from (next_name g u) (subst (λ o. Contains (fields_or_none o) (datum.Object (next_name g u))) (sym (private.contents from h)) c)))

  own_part : (asked : Call) (said : Reply) (after part_after : KnownObjects) → OwnCall g t known asked said after → OwnCall g t part asked said part_after → IsPart after part_after
  unfolding nulls
  own_part (call.New k) reply.Ok after part_after a b =
      subst (λ (x : KnownObjects × KnownObjects). IsPart x.0 x.1) (λ i. (sym a i, sym b i)) (made_part (next_name g t) k (not_next t) (not_heard t))
  own_part (call.Store s f x) reply.Ok after part_after a b = store_part (slot_of g t s) f (slot_of g t x) after part_after a b
  own_part asked said after part_after a b = same_part after part_after a b

  pub parts_stay : (entry : Entry) (after part_after : KnownObjects) → KnownAfter g t known entry after → KnownAfter g t part entry part_after → IsPart after part_after
  parts_stay (Collected u) after part_after a b = same_part after part_after a b
  parts_stay (Said u asked said) after part_after a b = elim (same_or_other_number u t) [
    | inl same ↦ own_part asked said after part_after (a.0 same) (b.0 same)
    | inr apart ↦ same_part after part_after (a.1 apart) (b.1 apart)
  ]

pub parts_are_kept : PartsAreKept
parts_are_kept g entry t known part after part_after made private is_part a b =
    (part_private g t known part made private is_part, parts_stay g t known part made private is_part entry after part_after a b)
