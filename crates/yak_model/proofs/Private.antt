-- What one thread alone knows stays so, whatever entry comes.
use Rattle.std.proofs.Common.{◌≡◌, ◌≢◌, ◌⊎◌, ℕ, ◌-◌, ◌≤◌, true≢false, length, get_or, set, replicate, refl, ◌∙◌, arith, ap, sym, subst, inl, inr, Option, Some, None, IsSome, is_some, MatchOption, length-set, get_or-set_other}
use Rattle.std.specs.List.{Contains}
use Rattle.std.proofs.lemmas.List.Elements.{Contains-push_cases}
use Rattle.std.specs.FinMap.{get, insert}
use Rattle.object_layout.specs.declared.names.Name.{Name}
use Rattle.object_layout.specs.declared.calls.Call.{Call}
use Rattle.object_layout.specs.declared.calls.Call.TheVariants as call
use Rattle.object_layout.specs.declared.replies.Refusal.{Refusal}
use Rattle.object_layout.specs.declared.replies.Reply.{Reply}
use Rattle.object_layout.specs.declared.replies.Reply.TheVariants as reply
use Rattle.yak_model.specs.declared.datum.Datum.{Datum}
use Rattle.yak_model.specs.declared.datum.Datum.TheVariants as datum
use Rattle.yak_model.specs.Graph.{Content, Does, Fields, Graph, IsThread, Thread, idle, fields_at, fields_or_none, make, next_name, push, put_field, refusal_of, slot_of, stack_of, with_object, with_thread}
use Rattle.yak_model.specs.History.{Said, Collected}
use Rattle.yak_model.specs.Spaces.{IsOnStack, Refers, Walk, here, onward}
use Rattle.yak_model.specs.Private.{AreMade, IsKnown, IsMade, IsPrivate, KnownObjects, OwnCall, PrivacyIsKept, RefersKnown, StoresKnown, GivesAway}
use Rattle.yak_model.proofs.Names.{get-same, get-other, same_or_other}
use Rattle.yak_model.proofs.Lists.{contains_take, contains_replicate, contains_set, slot_on_list}
use Rattle.yak_model.proofs.Agreement.{no_null, on_other_stack, same_or_other_number, slot_on_stack}

is_there : {X : Type 0} {x : X} {o : Option X} → o ≡ Some x → IsSome o
is_there e = ap is_some e

not_there : {X : Type 0} {o : Option X} → IsSome o → o ≡ None → ⊥
not_there h e = true≢false (sym h ∙ ap is_some e)

-- what a stack holds after a change of one thread
on_that_stack : (g : Graph) (u w : ℕ) → IsThread g u → (state : Thread) (n : Name) → IsOnStack (with_thread g u state) w n → IsOnStack g w n ⊎ ((w ≡ u) × Contains state.stack (datum.Object n))
on_that_stack g u w thread state n h =
    elim (same_or_other_number w u) [
      | inl e ↦ elim (on_other_stack g u w state n h) [ inl old ↦ inl old | inr c ↦ inr (e, c) ]
      | inr o ↦
          let apart : (w - 1) ≢ (u - 1) = λ q. o (omega (arith, q, h.0.0, thread.0)) in
          let bound : w ≤ length g.threads = rw (← length-set g.threads (u - 1) state) h.0.1 in
          inl ((h.0.0, bound), subst (λ (x : Thread). Contains x.stack (datum.Object n)) (get_or-set_other g.threads (u - 1) (w - 1) state idle apart) h.1)
    ]

module _ (g : Graph) (t : ℕ) (known : KnownObjects) (made : AreMade g) (private : IsPrivate g t known) where
  -- a known object was made, so it isn't the next one of any thread
  not_next : (u : ℕ) (n : Name) → IsMade g n → n ≢ next_name g u
  not_next u n h e = absurd (omega (arith, subst (IsMade g) e h))

  known_made : (n : Name) → IsKnown known n → IsMade g n
  known_made n k = made.objects n (ap is_some (private.contents n k) ∙ k)

  -- a thread's stack changes, and holds a known object only where it is the thread's own
  stack_kept : (u : ℕ) → IsThread g u → (state : Thread) → ((n : Name) → IsKnown known n → Contains state.stack (datum.Object n) → u ≡ t) → IsPrivate (with_thread g u state) t known
  stack_kept u thread state safe = record {
    contents = private.contents;
    stacks = λ n k w on. elim (on_that_stack g u w thread state n on) [ inl old ↦ private.stacks n k w old | inr c ↦ c.0 ∙ safe n k c.1 ];
    fields = private.fields;
  }

  push_kept : (u : ℕ) → IsThread g u → (v : Datum) → ((n : Name) → IsKnown known n → v ≡ datum.Object n → u ≡ t) → IsPrivate (push g u v) t known
  push_kept u thread v safe =
      stack_kept u thread _ (λ n k c. elim (Contains-push_cases (stack_of g u) v (datum.Object n) c) [
        | inl old ↦ private.stacks n k u (thread, old)
        | inr e ↦ safe n k e
      ])

  -- a known object in a slot, or in a field of an object in a slot, is in the thread's own stack
  slot_own : (u i : ℕ) → IsThread g u → (n : Name) → IsKnown known n → slot_of g u i ≡ datum.Object n → u ≡ t
  slot_own u i thread n k e = private.stacks n k u (slot_on_stack g u i n thread e)

  field_own : (u i f : ℕ) → IsThread g u → (n : Name) → IsKnown known n → get_or (fields_at g (slot_of g u i)) f datum.Null ≡ datum.Object n → u ≡ t
  field_own u i f thread n k h = by_value (slot_of g u i) refl h
    where
      by_value : (v : Datum) → slot_of g u i ≡ v → get_or (fields_at g v) f datum.Null ≡ datum.Object n → u ≡ t
      by_value datum.Null e q = cc
      by_value (datum.Int x) e q = cc
      by_value (datum.Object m) e q = slot_own u i thread m (private.fields n k m (slot_on_list (fields_at g (datum.Object m)) f n q)) e

  -- a new object
  module _ (u : ℕ) (thread : IsThread g u) (size : ℕ) where
    nulls : Content
    nulls = Fields (replicate size datum.Null)

    -- what refers to an object after the making of one referred to it before
    refers_before : (from n : Name) → Refers (make g u size) from n → (from ≢ next_name g u) × Refers g from n
    unfolding nulls
    refers_before from n e =
        elim (same_or_other from (next_name g u)) [
          | inl q ↦ absurd (no_null n (contains_replicate size datum.Null (datum.Object n) (subst (λ c. Contains (fields_or_none c) (datum.Object n)) (ap (get (make g u size).objects) q ∙ get-same g.objects (next_name g u) nulls) e)))
          | inr o ↦ (o, subst (λ c. Contains (fields_or_none c) (datum.Object n)) (get-other g.objects (next_name g u) nulls from o) e)
        ]

    -- a stack that holds an object held it before, unless it is the new one on the maker's stack
    held_before : (w : ℕ) (n : Name) → IsOnStack (make g u size) w n → IsOnStack g w n ⊎ ((w ≡ u) × (n ≡ next_name g u))
    held_before w n on =
        elim (on_that_stack (with_object g (next_name g u) nulls) u w thread _ n on) [
          | inl old ↦ inl old
          | inr c ↦ elim (Contains-push_cases (stack_of g u) (datum.Object (next_name g u)) (datum.Object n) c.1) [
            | inl old ↦ inl (subst (λ x. IsOnStack g x n) (sym c.0) (thread, old))
            | inr e ↦ inr (c.0, cc)
          ]
        ]

    make_kept : IsPrivate (make g u size) t known
    unfolding nulls
    make_kept = record {
      contents = λ n k. get-other g.objects (next_name g u) nulls n (not_next u n (known_made n k)) ∙ private.contents n k;
      stacks = λ n k w on. elim (held_before w n on) [ inl old ↦ private.stacks n k w old | inr new ↦ absurd (not_next u n (known_made n k) new.1) ];
      fields = λ n k from e. private.fields n k from (refers_before from n e).1;
    }

    make_known : u ≡ t → IsPrivate (make g u size) t (insert known (next_name g u) nulls)
    unfolding nulls
    make_known own = record {
      contents = λ n k. elim (same_or_other n (next_name g u)) [
        | inl q ↦ ap (get (make g u size).objects) q ∙ get-same g.objects (next_name g u) nulls ∙ sym (ap (get (insert known (next_name g u) nulls)) q ∙ get-same known (next_name g u) nulls)
        | inr o ↦ get-other g.objects (next_name g u) nulls n o ∙ private.contents n (was n o k) ∙ sym (get-other known (next_name g u) nulls n o)
      ];
      stacks = λ n k w on. elim (held_before w n on) [
        | inl old ↦ private.stacks n (was n (not_next u n (made.stacks w n old)) k) w old
        | inr new ↦ new.0 ∙ own
      ];
      fields = λ n k from e.
          let before = refers_before from n e in
          now from before.0 (private.fields n (was n (not_next u n (made.fields from n before.1)) k) from before.1);
    }
      where
        was : (n : Name) → n ≢ next_name g u → IsKnown (insert known (next_name g u) nulls) n → IsKnown known n
        was n o k = subst IsSome (get-other known (next_name g u) nulls n o) k

        now : (n : Name) → n ≢ next_name g u → IsKnown known n → IsKnown (insert known (next_name g u) nulls) n
        now n o k = subst IsSome (sym (get-other known (next_name g u) nulls n o)) k

  -- a store to a field
  module _ (u : ℕ) (thread : IsThread g u) (i f x : ℕ) where
    value : Datum
    value = slot_of g u x

    -- a store of an object in a slot
    module _ (m : Name) (slot : slot_of g u i ≡ datum.Object m) where
      changed : Content
      changed = Fields (set (fields_at g (datum.Object m)) f (slot_of g u x))

      -- what refers to an object after the store referred to it before, or it is the one that was stored
      refers_then : (from n : Name) → Refers (with_object g m changed) from n → Refers g from n ⊎ ((from ≡ m) × (slot_of g u x ≡ datum.Object n))
      unfolding changed
      refers_then from n e =
          elim (same_or_other from m) [
            | inl q ↦ elim (contains_set (fields_at g (datum.Object m)) f (slot_of g u x) (datum.Object n)
                (subst (λ c. Contains (fields_or_none c) (datum.Object n)) (ap (get (with_object g m changed).objects) q ∙ get-same g.objects m changed) e)) [
                  | inl old ↦ inl (subst (λ y. Refers g y n) (sym q) old)
                  | inr new ↦ inr (q, new)
                ]
            | inr o ↦ inl (subst (λ c. Contains (fields_or_none c) (datum.Object n)) (get-other g.objects m changed from o) e)
          ]

      -- another thread stores
      foreign_kept : u ≢ t → IsPrivate (with_object g m changed) t known
      foreign_kept foreign = record {
        contents = λ n k. get-other g.objects m changed n (λ q. foreign (slot_own u i thread n k (slot ∙ ap datum.Object (sym q)))) ∙ private.contents n k;
        stacks = private.stacks;
        fields = λ n k from e. elim (refers_then from n e) [ inl old ↦ private.fields n k from old | inr new ↦ absurd (foreign (slot_own u x thread n k new.1)) ];
      }

      -- the thread stores into a known object
      known_kept : IsKnown known m → IsPrivate (with_object g m changed) t (insert known m (Fields (set (fields_or_none (get known m)) f (slot_of g u x))))
      unfolding changed
      known_kept k = record {
        contents = λ n held. elim (same_or_other n m) [
          | inl q ↦ ap (get (with_object g m changed).objects) q ∙ get-same g.objects m changed
              ∙ ap (λ c. Some (Fields (set (fields_or_none c) f (slot_of g u x)))) (private.contents m k)
              ∙ sym (ap (get (insert known m _)) q ∙ get-same known m _)
          | inr o ↦ get-other g.objects m changed n o ∙ private.contents n (was n held) ∙ sym (get-other known m _ n o)
        ];
        stacks = λ n held. private.stacks n (was n held);
        fields = λ n held from e. elim (refers_then from n e) [ inl old ↦ now from (private.fields n (was n held) from old) | inr new ↦ now from (subst (IsKnown known) (sym new.0) k) ];
      }
        where
          was : (n : Name) → IsKnown (insert known m (Fields (set (fields_or_none (get known m)) f (slot_of g u x)))) n → IsKnown known n
          was n held = elim (same_or_other n m) [ inl q ↦ subst (IsKnown known) (sym q) k | inr o ↦ subst IsSome (get-other known m _ n o) held ]

          now : (n : Name) → IsKnown known n → IsKnown (insert known m (Fields (set (fields_or_none (get known m)) f (slot_of g u x)))) n
          now n held = elim (same_or_other n m) [
            | inl q ↦ subst (λ y. IsSome (get (insert known m (Fields (set (fields_or_none (get known m)) f (slot_of g u x)))) y)) (sym q) (ap is_some (get-same known m _))
            | inr o ↦ subst IsSome (sym (get-other known m _ n o)) held
          ]

      -- nothing that was stored is known, or it isn't known any more
      given_kept : (IsKnown known m → ⊥) → (after : KnownObjects)
          → ((n : Name) → IsKnown after n → IsKnown known n × (get after n ≡ get known n))
          → ((n from : Name) → IsKnown after n → IsKnown known from → Refers g from n → IsKnown after from)
          → ((n : Name) → IsKnown after n → slot_of g u x ≡ datum.Object n → ⊥)
          → IsPrivate (with_object g m changed) t after
      given_kept unknown after was closed stored = record {
        contents = λ n held. get-other g.objects m changed n (λ q. unknown (subst (IsKnown known) q (was n held).0)) ∙ private.contents n (was n held).0 ∙ sym (was n held).1;
        stacks = λ n held. private.stacks n (was n held).0;
        fields = λ n held from e. elim (refers_then from n e) [ inl old ↦ closed n from held (private.fields n (was n held).0 from old) old | inr new ↦ absurd (stored n held new.1) ];
      }

      gives_kept : (IsKnown known m → ⊥) → (v : Datum) → slot_of g u x ≡ v → (after : KnownObjects) → GivesAway known v after → IsPrivate (with_object g m changed) t after
      gives_kept unknown datum.Null q after same =
          given_kept unknown after (λ n held. (subst (λ k. IsKnown k n) same held, ap (λ k. get k n) same)) (λ n from held k e. subst (λ z. IsKnown z from) (sym same) k) (λ n held e. cc)
      gives_kept unknown (datum.Int y) q after same =
          given_kept unknown after (λ n held. (subst (λ k. IsKnown k n) same held, ap (λ k. get k n) same)) (λ n from held k e. subst (λ z. IsKnown z from) (sym same) k) (λ n held e. cc)
      gives_kept unknown (datum.Object o) q after loses =
          given_kept unknown after was
          (λ n from held k e. subst IsSome (sym (loses.kept from (λ w. free n held (onward w (k, subst (λ c. Contains (fields_or_none c) (datum.Object n)) (private.contents from k) e, (was n held).0))))) k)
          (λ n held e. free n held (subst (λ z. Walk (RefersKnown known) o z) (same_object n e) here))
        where
          free : (n : Name) → IsKnown after n → Walk (RefersKnown known) o n → ⊥
          free n held w = not_there held (loses.lost n w)

          was : (n : Name) → IsKnown after n → IsKnown known n × (get after n ≡ get known n)
          was n held =
              let same : get after n ≡ get known n = loses.kept n (free n held) in
              (subst IsSome same held, same)

          same_object : (n : Name) → slot_of g u x ≡ datum.Object n → o ≡ n
          same_object n e = cc

    -- whether an object is known
    known_or_not : (n : Name) → IsKnown known n ⊎ (IsKnown known n → ⊥)
    known_or_not n = elim (get known n) as (λ o. IsSome o ⊎ (IsSome o → ⊥)) [ Some c ↦ inl refl | None ↦ inr (λ h. true≢false (sym h)) ]

    own_store : (v : Datum) → slot_of g u i ≡ v → (after : KnownObjects) → StoresKnown known v f (slot_of g u x) after → IsPrivate (put_field g v f (slot_of g u x)) t after
    unfolding changed
    own_store datum.Null q after same = subst (IsPrivate g t) (sym same) private
    own_store (datum.Int y) q after same = subst (IsPrivate g t) (sym same) private
    own_store (datum.Object m) q after stores =
        elim (known_or_not m) [
          | inl k ↦ subst (IsPrivate _ t) (sym (stores.0 k)) (known_kept m q k)
          | inr unknown ↦ gives_kept m q unknown (slot_of g u x) refl after (stores.1 unknown)
        ]

    foreign_store : u ≢ t → (v : Datum) → slot_of g u i ≡ v → IsPrivate (put_field g v f (slot_of g u x)) t known
    unfolding changed
    foreign_store foreign datum.Null q = private
    foreign_store foreign (datum.Int y) q = private
    foreign_store foreign (datum.Object m) q = foreign_kept m q foreign

  -- ---- one entry

  own_refused : (u : ℕ) (asked : Call) (why : Refusal) (after : KnownObjects) → OwnCall g u known asked (reply.Refused why) after → after ≡ known
  own_refused u (call.Int i) why after h = h
  own_refused u call.Null why after h = h
  own_refused u (call.Dup i) why after h = h
  own_refused u call.Pop why after h = h
  own_refused u (call.New k) why after h = h
  own_refused u (call.Load i f) why after h = h
  own_refused u (call.Store i f x) why after h = h
  own_refused u (call.Get i) why after h = h
  own_refused u (call.Same i x) why after h = h
  own_refused u call.Begin why after h = h
  own_refused u call.End why after h = h
  own_refused u call.Collect why after h = h
  own_refused u call.Census why after h = h

  module _ (u : ℕ) (thread : IsThread g u) (h : Graph) (after : KnownObjects) where
    finish : (next : Graph) → h ≡ next → after ≡ known → IsPrivate next t known → IsPrivate h t after
    finish next e same p = subst (λ k. IsPrivate h t k) (sym same) (subst (λ x. IsPrivate x t known) (sym e) p)

    not_refused : (asked : Call) (said : Reply) → Does g u asked said h → (u ≡ t → OwnCall g u known asked said after) → (u ≢ t → after ≡ known) → IsPrivate h t after
    unfolding nulls
    not_refused asked said d own other = by_call asked d own
      where
        unchanged : (u ≡ t → after ≡ known) → after ≡ known
        unchanged f = elim (same_or_other_number u t) [ inl e ↦ f e | inr o ↦ other o ]

        by_call : (asked : Call) → Does g u asked said h → (u ≡ t → OwnCall g u known asked said after) → IsPrivate h t after
        by_call (call.Int i) d own = finish _ d.1 (unchanged own) (push_kept u thread (datum.Int i) (λ n k e. cc))
        by_call call.Null d own = finish _ d.1 (unchanged own) (push_kept u thread datum.Null (λ n k e. cc))
        by_call (call.Dup i) d own = finish _ d.1 (unchanged own) (push_kept u thread (slot_of g u i) (λ n k e. slot_own u i thread n k e))
        by_call call.Pop d own = finish _ d.1 (unchanged own) (stack_kept u thread _ (λ n k c. private.stacks n k u (thread, contains_take _ (stack_of g u) (datum.Object n) c)))
        by_call (call.New k) d own =
            elim d [
              | inl ok ↦ elim (same_or_other_number u t) [
                | inl e ↦
                    let same : after ≡ insert known (next_name g u) (Fields (replicate k datum.Null)) = subst (λ r. OwnCall g u known (call.New k) r after) ok.0 (own e) in
                    subst (λ z. IsPrivate h t z) (sym same) (subst (λ z. IsPrivate z t (insert known (next_name g u) (Fields (replicate k datum.Null)))) (sym ok.1) (make_known u thread k e))
                | inr o ↦ finish _ ok.1 (other o) (make_kept u thread k)
              ]
              | inr full ↦ finish _ full.1 (unchanged (λ e. subst (λ r. OwnCall g u known (call.New k) r after) full.0 (own e))) private
            ]
        by_call (call.Load i f) d own = finish _ d.1 (unchanged own) (push_kept u thread _ (λ n k e. field_own u i f thread n k e))
        by_call (call.Store i f x) d own =
            elim (same_or_other_number u t) [
              | inl e ↦ subst (λ z. IsPrivate z t after) (sym d.1) (own_store u thread i f x (slot_of g u i) refl after (subst (λ r. OwnCall g u known (call.Store i f x) r after) d.0 (own e)))
              | inr o ↦ finish _ d.1 (other o) (foreign_store u thread i f x o (slot_of g u i) refl)
            ]
        by_call (call.Get i) d own = finish _ d.1 (unchanged own) private
        by_call (call.Same i x) d own = finish _ d.1 (unchanged own) private
        by_call call.Begin d own = finish _ d.1 (unchanged own) (stack_kept u thread _ (λ n k c. private.stacks n k u (thread, c)))
        by_call call.End d own = finish _ d.1 (unchanged own) (stack_kept u thread _ (λ n k c. private.stacks n k u (thread, c)))
        by_call call.Collect d own = finish _ d.1 (unchanged own) private
        by_call call.Census d own = finish _ d.1 (unchanged own) private

    said_kept : (asked : Call) (said : Reply) → MatchOption (refusal_of g u asked) (Does g u asked said h) (λ why. (said ≡ reply.Refused why) × (h ≡ g)) → (u ≡ t → OwnCall g u known asked said after) → (u ≢ t → after ≡ known) → IsPrivate h t after
    said_kept asked said =
        elim (refusal_of g u asked) as (λ o. MatchOption o (Does g u asked said h) (λ why. (said ≡ reply.Refused why) × (h ≡ g)) → (u ≡ t → OwnCall g u known asked said after) → (u ≢ t → after ≡ known) → IsPrivate h t after) [
          | None ↦ λ d own other. not_refused asked said d own other
          | Some why ↦ λ r own other.
              finish g r.1 (elim (same_or_other_number u t) [ inl e ↦ own_refused u asked why after (subst (λ z. OwnCall g u known asked z after) r.0 (own e)) | inr o ↦ other o ]) private
        ]

pub privacy_is_kept : PrivacyIsKept
privacy_is_kept g (Said u asked said) h t known after made moves private ka =
    said_kept g t known made private u moves.0 h after asked said moves.1
    (λ e. subst (λ w. OwnCall g w known asked said after) (sym e) (ka.0 e)) ka.1
privacy_is_kept g (Collected u) h t known after made moves private ka =
    subst (λ k. IsPrivate h t k) (sym ka) (subst (λ x. IsPrivate x t known) (sym moves.1) private)
