-- A step leaves what the other threads have.
use Rattle.std.proofs.Common.{◌≡◌, ◌≢◌, ◌⊎◌, ℕ, ◌-◌, List, [], ◌∷◌, refl, ◌∙◌, ap, inl, inr, Some, None, MatchOption, get_or-set_other}
use Rattle.object_layout.specs.declared.calls.Call.{Call}
use Rattle.object_layout.specs.declared.calls.Call.TheVariants as call
use Rattle.object_layout.specs.declared.replies.Reply.{Reply}
use Rattle.object_layout.specs.declared.replies.Reply.TheVariants as reply
use Rattle.yak_model.specs.declared.datum.Datum.{Datum}
use Rattle.yak_model.specs.declared.datum.Datum.TheVariants as datum
use Rattle.yak_model.specs.Graph.{Does, Graph, Thread, answers, idle, put_field, refusal_of, slot_of, thread_of, with_thread}
use Rattle.yak_model.proofs.Agreement.{same_or_other_number}
use Rattle.yak_model.proofs.Names.{same_or_other}

-- ---- what a thread has is equal or it isn't

same_or_other_value : (a b : Datum) → (a ≡ b) ⊎ (a ≢ b)
same_or_other_value datum.Null datum.Null = inl refl
same_or_other_value datum.Null (datum.Int j) = inr (λ h. cc)
same_or_other_value datum.Null (datum.Object b) = inr (λ h. cc)
same_or_other_value (datum.Int i) datum.Null = inr (λ h. cc)
same_or_other_value (datum.Int i) (datum.Int j) = elim (same_or_other_number i j) [ inl e ↦ inl (ap datum.Int e) | inr o ↦ inr (λ h. o (cc)) ]
same_or_other_value (datum.Int i) (datum.Object b) = inr (λ h. cc)
same_or_other_value (datum.Object a) datum.Null = inr (λ h. cc)
same_or_other_value (datum.Object a) (datum.Int j) = inr (λ h. cc)
same_or_other_value (datum.Object a) (datum.Object b) = elim (same_or_other a b) [ inl e ↦ inl (ap datum.Object e) | inr o ↦ inr (λ h. o (cc)) ]

same_or_other_stack : (a b : List Datum) → (a ≡ b) ⊎ (a ≢ b)
same_or_other_stack [] [] = inl refl
same_or_other_stack [] (y ∷ b) = inr (λ h. cc)
same_or_other_stack (x ∷ a) [] = inr (λ h. cc)
same_or_other_stack (x ∷ a) (y ∷ b) =
    elim (same_or_other_value x y) [
      | inl e ↦ elim (same_or_other_stack a b) [ inl es ↦ inl (λ i. e i ∷ es i) | inr o ↦ inr (λ h. o (cc)) ]
      | inr o ↦ inr (λ h. o (cc))
    ]

pub same_or_other_thread : (a b : Thread) → (a ≡ b) ⊎ (a ≢ b)
same_or_other_thread a b =
    elim (same_or_other_stack a.stack b.stack) [
      | inl stack ↦ elim (same_or_other_number a.depth b.depth) [
        | inl depth ↦ elim (same_or_other_number a.made b.made) [
          | inl made ↦ inl (λ i. record { stack = stack i; depth = depth i; made = made i })
          | inr o ↦ inr (λ h. o (ap (λ (x : Thread). x.made) h))
        ]
        | inr o ↦ inr (λ h. o (ap (λ (x : Thread). x.depth) h))
      ]
      | inr o ↦ inr (λ h. o (ap (λ (x : Thread). x.stack) h))
    ]

-- ---- a call changes its own thread alone

module _ (g : Graph) (t u : ℕ) (apart : (u - 1) ≢ (t - 1)) where
  beside : (h : Graph) (x : Thread) → h ≡ with_thread g t x → thread_of h u ≡ thread_of g u
  beside h x e = ap (λ k. thread_of k u) e ∙ get_or-set_other g.threads (t - 1) (u - 1) x idle apart

  put-beside : (v : Datum) (f : ℕ) (x : Datum) → thread_of (put_field g v f x) u ≡ thread_of g u
  put-beside datum.Null f x = refl
  put-beside (datum.Int i) f x = refl
  put-beside (datum.Object n) f x = refl

  same-beside : (h : Graph) → h ≡ g → thread_of h u ≡ thread_of g u
  same-beside h e = ap (λ k. thread_of k u) e

  done-beside : (asked : Call) (said : Reply) (h : Graph) → Does g t asked said h → thread_of h u ≡ thread_of g u
  done-beside (call.Int i) said h d = beside h _ d.1
  done-beside call.Null said h d = beside h _ d.1
  done-beside (call.Dup i) said h d = beside h _ d.1
  done-beside call.Pop said h d = beside h _ d.1
  done-beside (call.New k) said h d =
      elim d [
        | inl ok ↦ ap (λ z. thread_of z u) ok.1 ∙ get_or-set_other g.threads (t - 1) (u - 1) _ idle apart
        | inr full ↦ same-beside h full.1
      ]
  done-beside (call.Load i f) said h d = beside h _ d.1
  done-beside (call.Store i f x) said h d = ap (λ z. thread_of z u) d.1 ∙ put-beside (slot_of g t i) f (slot_of g t x)
  done-beside (call.Get i) said h d = same-beside h d.1
  done-beside (call.Same i x) said h d = same-beside h d.1
  done-beside call.Begin said h d = beside h _ d.1
  done-beside call.End said h d = beside h _ d.1
  done-beside call.Collect said h d = same-beside h d.1
  done-beside call.Census said h d = same-beside h d.1

  pub answers-beside : (asked : Call) (said : Reply) (h : Graph) → answers g t asked said h → thread_of h u ≡ thread_of g u
  answers-beside asked said h =
      elim (refusal_of g t asked) as (λ o. MatchOption o (Does g t asked said h) (λ why. (said ≡ reply.Refused why) × (h ≡ g)) → thread_of h u ≡ thread_of g u) [
        | None ↦ λ d. done-beside asked said h d
        | Some why ↦ λ r. same-beside h r.1
      ]
