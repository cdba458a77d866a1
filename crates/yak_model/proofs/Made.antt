-- Each name in the graph of a legal history is that of an object that was made.
use Rattle.std.proofs.Common.{◌≡◌, ℕ, ◌+◌, ◌-◌, ◌≤◌, [], ◌∷◌, ◌++◌, get_or, set, replicate, refl, ◌∙◌, arith, ap, sym, subst, inl, inr, Some, None, IsSome, MatchOption, get_or-set_other, get_or-set_same}
use Rattle.std.specs.List.{Contains}
use Rattle.std.proofs.lemmas.List.Elements.{Contains-push_cases}
use Rattle.std.specs.FinMap.{get}
use Rattle.object_layout.specs.declared.names.Name.{Name}
use Rattle.object_layout.specs.declared.calls.Call.{Call}
use Rattle.object_layout.specs.declared.calls.Call.TheVariants as call
use Rattle.object_layout.specs.declared.replies.Reply.{Reply}
use Rattle.object_layout.specs.declared.replies.Reply.TheVariants as reply
use Rattle.yak_model.specs.declared.datum.Datum.{Datum}
use Rattle.yak_model.specs.declared.datum.Datum.TheVariants as datum
use Rattle.yak_model.specs.Graph.{Does, Fields, Graph, IsThread, Thread, fields_at, fields_or_none, idle, make, next_name, push, put_field, refusal_of, slot_of, stack_of, thread_of, with_object, with_thread}
use Rattle.yak_model.specs.History.{Said, Collected}
use Rattle.yak_model.specs.Private.{AreMade, IsMade, NamesStayMade}
use Rattle.yak_model.proofs.Names.{get-same, get-other, same_or_other}
use Rattle.yak_model.proofs.Lists.{contains_take, contains_replicate, contains_set, set_cases, slot_on_list}
use Rattle.yak_model.proofs.Agreement.{no_null, on_other_stack, same_or_other_number, slot_on_stack}

-- a thread's number made doesn't fall
pub made_grows : (g : Graph) (u w : ℕ) (state : Thread) → (thread_of g u).made ≤ state.made → (thread_of g w).made ≤ (thread_of (with_thread g u state) w).made
made_grows g u w state h =
    elim (set_cases g.threads (u - 1) (w - 1) state idle) [
      | inl e ↦ elim (same_or_other_number (w - 1) (u - 1)) [
        | inl q ↦ omega (arith, h, ap (λ (x : Thread). x.made) e, ap (λ p. (get_or g.threads p idle).made) q)
        | inr o ↦ omega (arith, ap (λ (x : Thread). x.made) (get_or-set_other g.threads (u - 1) (w - 1) state idle o))
      ]
      | inr e ↦ omega (arith, ap (λ (x : Thread). x.made) e)
    ]

module _ (g : Graph) (made : AreMade g) (u : ℕ) (thread : IsThread g u) where
  thread_made : (state : Thread) → (thread_of g u).made ≤ state.made → ((n : Name) → Contains state.stack (datum.Object n) → IsMade (with_thread g u state) n) → AreMade (with_thread g u state)
  thread_made state le safe = record {
    objects = λ n h. still n (made.objects n h);
    stacks = λ w n on. elim (on_other_stack g u w state n on) [ inl old ↦ still n (made.stacks w n old) | inr c ↦ safe n c ];
    fields = λ a n e. still n (made.fields a n e);
  }
    where
      still : (n : Name) → IsMade g n → IsMade (with_thread g u state) n
      still n h = omega (arith, h, made_grows g u n.thread state le)

  -- the number made stays
  same_made : (state : Thread) → (thread_of g u).made ≡ state.made → ((n : Name) → Contains state.stack (datum.Object n) → IsMade g n) → AreMade (with_thread g u state)
  same_made state e safe =
      let le : (thread_of g u).made ≤ state.made = omega (arith, e) in
      thread_made state le (λ n c. omega (arith, safe n c, made_grows g u n.thread state le))

  push_made : (v : Datum) → ((n : Name) → v ≡ datum.Object n → IsMade g n) → AreMade (push g u v)
  push_made v safe = same_made _ refl (λ n c. elim (Contains-push_cases (stack_of g u) v (datum.Object n) c) [ inl old ↦ made.stacks u n (thread, old) | inr e ↦ safe n e ])

  field_made : (v : Datum) (f : ℕ) (n : Name) → get_or (fields_at g v) f datum.Null ≡ datum.Object n → IsMade g n
  field_made datum.Null f n q = cc
  field_made (datum.Int x) f n q = cc
  field_made (datum.Object m) f n q = made.fields m n (slot_on_list (fields_at g (datum.Object m)) f n q)

  store_made : (m : Name) (f x : ℕ) → IsMade g m → AreMade (with_object g m (Fields (set (fields_at g (datum.Object m)) f (slot_of g u x))))
  store_made m f x here = record {
    objects = λ n h. elim (same_or_other n m) [ inl q ↦ subst (IsMade g) (sym q) here | inr o ↦ made.objects n (subst IsSome (get-other g.objects m _ n o) h) ];
    stacks = made.stacks;
    fields = λ a n e. elim (same_or_other a m) [
      | inl q ↦ elim (contains_set (fields_at g (datum.Object m)) f (slot_of g u x) (datum.Object n)
          (subst (λ c. Contains (fields_or_none c) (datum.Object n)) (ap (get (with_object g m (Fields (set (fields_at g (datum.Object m)) f (slot_of g u x)))).objects) q ∙ get-same g.objects m _) e)) [
            | inl old ↦ made.fields m n old
            | inr new ↦ made.stacks u n (slot_on_stack g u x n thread new)
          ]
      | inr o ↦ made.fields a n (subst (λ c. Contains (fields_or_none c) (datum.Object n)) (get-other g.objects m _ a o) e)
    ];
  }

  put_made : (v : Datum) (f x : ℕ) → ((n : Name) → v ≡ datum.Object n → IsMade g n) → AreMade (put_field g v f (slot_of g u x))
  put_made datum.Null f x safe = made
  put_made (datum.Int y) f x safe = made
  put_made (datum.Object m) f x safe = store_made m f x (safe m refl)

  make_made : (k : ℕ) → AreMade (make g u k)
  make_made k = record {
    objects = λ n h. elim (same_or_other n (next_name g u)) [ inl q ↦ subst (IsMade (make g u k)) (sym q) new | inr o ↦ still n (made.objects n (subst IsSome (get-other g.objects (next_name g u) _ n o) h)) ];
    stacks = λ w n on. elim (on_other_stack (with_object g (next_name g u) (Fields (replicate k datum.Null))) u w _ n on) [
      | inl old ↦ still n (made.stacks w n old)
      | inr c ↦ elim (Contains-push_cases (stack_of g u) (datum.Object (next_name g u)) (datum.Object n) c) [
        | inl old ↦ still n (made.stacks u n (thread, old))
        | inr e ↦ subst (IsMade (make g u k)) (same n e) new
      ]
    ];
    fields = λ a n e. elim (same_or_other a (next_name g u)) [
      | inl q ↦ absurd (no_null n (contains_replicate k datum.Null (datum.Object n) (subst (λ c. Contains (fields_or_none c) (datum.Object n)) (ap (get (make g u k).objects) q ∙ get-same g.objects (next_name g u) _) e)))
      | inr o ↦ still n (made.fields a n (subst (λ c. Contains (fields_or_none c) (datum.Object n)) (get-other g.objects (next_name g u) _ a o) e))
    ];
  }
    where
      state : Thread
      state = record (thread_of g u) { stack = stack_of g u ++ datum.Object (next_name g u) ∷ []; made = (thread_of g u).made + 1 }

      still : (n : Name) → IsMade g n → IsMade (make g u k) n
      still n h = omega (arith, h, made_grows g u n.thread state (omega arith))

      new : IsMade (make g u k) (next_name g u)
      new = omega (arith, ap (λ (x : Thread). x.made) (get_or-set_same g.threads (u - 1) state idle (omega (arith, thread.0, thread.1))))

      same : (n : Name) → datum.Object (next_name g u) ≡ datum.Object n → next_name g u ≡ n
      same n e = cc

  call_made : (asked : Call) (said : Reply) (h : Graph) → Does g u asked said h → AreMade h
  call_made (call.Int i) said h d = subst AreMade (sym d.1) (push_made (datum.Int i) (λ n e. cc))
  call_made call.Null said h d = subst AreMade (sym d.1) (push_made datum.Null (λ n e. cc))
  call_made (call.Dup i) said h d = subst AreMade (sym d.1) (push_made (slot_of g u i) (λ n e. made.stacks u n (slot_on_stack g u i n thread e)))
  call_made call.Pop said h d = subst AreMade (sym d.1) (same_made _ refl (λ n c. made.stacks u n (thread, contains_take _ (stack_of g u) (datum.Object n) c)))
  call_made (call.New k) said h d = elim d [ inl ok ↦ subst AreMade (sym ok.1) (make_made k) | inr full ↦ subst AreMade (sym full.1) made ]
  call_made (call.Load i f) said h d = subst AreMade (sym d.1) (push_made _ (λ n e. field_made (slot_of g u i) f n e))
  call_made (call.Store i f x) said h d = subst AreMade (sym d.1) (put_made (slot_of g u i) f x (λ n e. made.stacks u n (slot_on_stack g u i n thread e)))
  call_made (call.Get i) said h d = subst AreMade (sym d.1) made
  call_made (call.Same i x) said h d = subst AreMade (sym d.1) made
  call_made call.Begin said h d = subst AreMade (sym d.1) (same_made _ refl (λ n c. made.stacks u n (thread, c)))
  call_made call.End said h d = subst AreMade (sym d.1) (same_made _ refl (λ n c. made.stacks u n (thread, c)))
  call_made call.Collect said h d = subst AreMade (sym d.1) made
  call_made call.Census said h d = subst AreMade (sym d.1) made

  said_made : (asked : Call) (said : Reply) (h : Graph) → MatchOption (refusal_of g u asked) (Does g u asked said h) (λ why. (said ≡ reply.Refused why) × (h ≡ g)) → AreMade h
  said_made asked said h =
      elim (refusal_of g u asked) as (λ o. MatchOption o (Does g u asked said h) (λ why. (said ≡ reply.Refused why) × (h ≡ g)) → AreMade h) [
        | None ↦ λ d. call_made asked said h d
        | Some why ↦ λ r. subst AreMade (sym r.1) made
      ]

pub names_stay_made : NamesStayMade
names_stay_made g (Said u asked said) h made moves = said_made g made u moves.0 asked said h moves.1
names_stay_made g (Collected u) h made moves = subst AreMade (sym moves.1) made
