-- Maps of objects that a thread alone knows, over the objects of a state and those that aren't present any more.
use Rattle.std.proofs.Common.{◌≡◌, ◌⊎◌, ℕ, ◌-◌, ◌≤◌, List, [], ◌∷◌, true, false, true≢false, cond, length, get_or, refl, ◌∙◌, arith, ap, sym, subst, inl, inr, Option, Some, None, IsSome, is_some}
use Rattle.std.specs.List.{Contains}
use Rattle.std.specs.FinMap.{FinMap, entries, find, get, insert, get-entries}
use Rattle.object_layout.specs.declared.names.Name.{Name}
use Rattle.yak_model.specs.declared.datum.Datum.TheVariants as datum
use Rattle.yak_model.specs.Names.{name_cmp}
use Rattle.yak_model.specs.Graph.{Content, Graph, Thread, fields_or_none, idle}
use Rattle.yak_model.specs.Private.{AreMade, IsKnown, IsMade, IsPrivate, KnownObjects}
use Rattle.yak_model.specs.Spaces.{IsOnStack, Refers, content_at}
use Rattle.yak_model.proofs.Names.{find_other, find_same, get-same, get-other, same_or_other}
use Rattle.heap_core.specs.Callers.{graph_with, with_absent}

-- ---- the objects and those of a list that aren't there

pub nothing : {X : Type 0} (o : Option X) → is_some o ≡ false → o ≡ None
nothing None e = refl
nothing (Some x) e = absurd (true≢false e)

absent-kept : (objects : FinMap name_cmp Content) (es : List (Name × Content)) (n : Name) → IsSome (get objects n) → get (with_absent objects es) n ≡ get objects n
absent-kept objects [] n h = refl
absent-kept objects (e ∷ es) n h =
    elim (is_some (get objects e.0)) as (λ b. is_some (get objects e.0) ≡ b → get (cond b (with_absent objects es) (insert (with_absent objects es) e.0 e.1)) n ≡ get objects n) [
      | true ↦ λ q. absent-kept objects es n h
      | false ↦ λ q. elim (same_or_other n e.0) [
        | inl p ↦ absurd (true≢false (sym h ∙ ap (λ x. is_some (get objects x)) p ∙ q))
        | inr o ↦ get-other (with_absent objects es) e.0 e.1 n o ∙ absent-kept objects es n h
      ]
    ] refl

absent-added : (objects : FinMap name_cmp Content) (es : List (Name × Content)) (n : Name) → is_some (get objects n) ≡ false → get (with_absent objects es) n ≡ find name_cmp n es
absent-added objects [] n h = nothing (get objects n) h
absent-added objects (e ∷ es) n h =
    elim (is_some (get objects e.0)) as (λ b. is_some (get objects e.0) ≡ b → get (cond b (with_absent objects es) (insert (with_absent objects es) e.0 e.1)) n ≡ find name_cmp n (e ∷ es)) [
      | true ↦ λ q. elim (same_or_other n e.0) [
        | inl p ↦ absurd (true≢false (sym q ∙ ap (λ x. is_some (get objects x)) (sym p) ∙ h))
        | inr o ↦ absent-added objects es n h ∙ sym (find_other n e.0 e.1 es o)
      ]
      | false ↦ λ q. elim (same_or_other n e.0) [
        | inl p ↦ ap (get (insert (with_absent objects es) e.0 e.1)) p ∙ get-same (with_absent objects es) e.0 e.1 ∙ sym (find_same n e.0 e.1 es p)
        | inr o ↦ get-other (with_absent objects es) e.0 e.1 n o ∙ absent-added objects es n h ∙ sym (find_other n e.0 e.1 es o)
      ]
    ] refl

pub with-kept : (g : Graph) (known : KnownObjects) (n : Name) → IsSome (content_at g n) → content_at (graph_with g known) n ≡ content_at g n
with-kept g known n h = absent-kept g.objects (entries known) n h

pub with-added : (g : Graph) (known : KnownObjects) (n : Name) → is_some (content_at g n) ≡ false → content_at (graph_with g known) n ≡ get known n
with-added g known n h = absent-added g.objects (entries known) n h ∙ sym (get-entries known n)

pub there_or_not : (g : Graph) (n : Name) → IsSome (content_at g n) ⊎ (is_some (content_at g n) ≡ false)
there_or_not g n = elim (content_at g n) as (λ o. IsSome o ⊎ (is_some o ≡ false)) [ Some c ↦ inl refl | None ↦ inr refl ]

-- ---- a graph of fewer objects

-- the graph has the threads of the other one, and of the objects some, with what they hold
pub record IsWithin (g h : Graph) : Type 0 where
  pub threads : g.threads ≡ h.threads
  pub contents : (n : Name) → IsSome (content_at g n) → content_at g n ≡ content_at h n

module _ (g h : Graph) (within : IsWithin g h) where
  pub refers-within : (a b : Name) → Refers g a b → Refers h a b
  refers-within a b r =
      elim (there_or_not g a) [
        | inl some ↦ subst (λ o. Contains (fields_or_none o) (datum.Object b)) (within.contents a some) r
        | inr none ↦ absurd (omega (arith, (subst (λ o. Contains (fields_or_none o) (datum.Object b)) (nothing (content_at g a) none) r).1))
      ]

  pub stack-within : (t : ℕ) (n : Name) → IsOnStack g t n → IsOnStack h t n
  stack-within t n on = subst (λ (ts : List Thread). ((1 ≤ t) × (t ≤ length ts)) × Contains (get_or ts (t - 1) idle).stack (datum.Object n)) within.threads on

  made-within : (n : Name) → IsMade h n → IsMade g n
  made-within n made = subst (λ (ts : List Thread). n.serial ≤ (get_or ts (n.thread - 1) idle).made) (sym within.threads) made

  pub are_made-within : AreMade h → AreMade g
  are_made-within made = record {
    objects = λ n some. made-within n (made.objects n (subst IsSome (within.contents n some) some));
    stacks = λ u n on. made-within n (made.stacks u n (stack-within u n on));
    fields = λ from n r. made-within n (made.fields from n (refers-within from n r));
  }

  pub private-within : (t : ℕ) (known : KnownObjects) → IsPrivate h t known → ((n : Name) → IsKnown known n → content_at g n ≡ get known n) → IsPrivate g t known
  private-within t known private has = record {
    contents = has;
    stacks = λ n k u on. private.stacks n k u (stack-within u n on);
    fields = λ n k from r. private.fields n k from (refers-within from n r);
  }
