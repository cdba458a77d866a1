-- What a graph answers, the graph with further objects answers too.
use Rattle.std.proofs.Common.{◌≡◌, ℕ, ◌<◌, [], ◌∷◌, true, false, not, cond, leb, length, get_or, set, replicate, refl, ◌∙◌, arith, ap, sym, subst, inl, inr, Some, None, IsSome, MatchOption, is_some, true≢false}
use borrow.Author.Tests.{leb-true}
use Rattle.std.specs.FinMap.{FinMap, get, insert}
use Rattle.object_layout.specs.declared.names.Name.{Name}
use Rattle.object_layout.specs.declared.calls.Call.{Call}
use Rattle.object_layout.specs.declared.calls.Call.TheVariants as call
use Rattle.object_layout.specs.declared.replies.Refusal.{Refusal}
use Rattle.object_layout.specs.declared.replies.Refusal.TheVariants as refusal
use Rattle.object_layout.specs.declared.replies.Reply.{Reply}
use Rattle.object_layout.specs.declared.replies.Reply.TheVariants as reply
use Rattle.yak_model.specs.declared.datum.Datum.{Datum}
use Rattle.yak_model.specs.declared.datum.Datum.TheVariants as datum
use Rattle.yak_model.specs.Names.{name_cmp}
use Rattle.yak_model.specs.Graph.{Content, Does, Fields, Graph, IsThread, answers, fields_at, fields_or_none, first_refusal, is_bad_slot, is_reference, is_stack_full, next_name, push, put_field, refusal_of, shown, slot_of, with_object}
use Rattle.yak_model.specs.declared.history.Entry.TheVariants.{Said}
use Rattle.yak_model.specs.History.{Moves}
use Rattle.yak_model.specs.Spaces.{EndsEpoch, IsOnStack, SpaceState, Turns, content_at}
use Rattle.yak_model.proofs.Names.{get-same, get-other, same_or_other}
use Rattle.yak_model.proofs.Agreement.{slot_on_stack}

-- the graph with other objects
abbrev pub of_objects : Graph → FinMap name_cmp Content → Graph
of_objects g objects = record g { objects = objects }

-- the objects of the graph are among others
abbrev pub Includes : FinMap name_cmp Content → Graph → Type 0
Includes objects g = (n : Name) → IsSome (content_at g n) → content_at g n ≡ get objects n

-- what stands on a stack is in the graph
abbrev pub HoldsStacks : Graph → Type 0
HoldsStacks g = (t : ℕ) (n : Name) → IsOnStack g t n → IsSome (content_at g n)

-- the graph of these objects answers a call as the graph does, and its objects still include those of the graph
pub record Goes (objects : FinMap name_cmp Content) (g : Graph) (t : ℕ) (asked : Call) (said : Reply) (after : Graph) : Type 0 where
  pub next : FinMap name_cmp Content
  pub answer : answers (of_objects g objects) t asked said (of_objects after next)
  pub includes : Includes next after

not_refused_end : (depth : ℕ) → 0 < depth → first_refusal ((leb depth 0, refusal.NoEpoch) ∷ []) ≡ None
not_refused_end depth h =
    elim (leb depth 0) as (λ b. leb depth 0 ≡ b → cond b (Some refusal.NoEpoch) None ≡ None) [
      | true ↦ λ e. absurd (omega (arith, leb-true depth 0 e))
      | false ↦ λ e. refl
    ] refl

module _ (objects : FinMap name_cmp Content) (g : Graph) (includes : Includes objects g) (held : HoldsStacks g) where
  same_fields : (v : Datum) → ((n : Name) → v ≡ datum.Object n → IsSome (content_at g n)) → fields_at g v ≡ fields_at (of_objects g objects) v
  same_fields datum.Null h = refl
  same_fields (datum.Int i) h = refl
  same_fields (datum.Object n) h = ap fields_or_none (includes n (h n refl))

  same_slot_fields : (t i : ℕ) → IsThread g t → fields_at g (slot_of g t i) ≡ fields_at (of_objects g objects) (slot_of g t i)
  same_slot_fields t i thread = same_fields (slot_of g t i) (λ n e. held t n (slot_on_stack g t i n thread e))

  -- both graphs refuse the same calls
  same_refusal : (t : ℕ) → IsThread g t → (asked : Call) → refusal_of (of_objects g objects) t asked ≡ refusal_of g t asked
  same_refusal t thread (call.Int i) = refl
  same_refusal t thread call.Null = refl
  same_refusal t thread (call.Dup i) = refl
  same_refusal t thread call.Pop = refl
  same_refusal t thread (call.New k) = refl
  same_refusal t thread (call.Load i f) =
      ap (λ fields. first_refusal (
      (is_bad_slot g t i, refusal.BadSlot)
      ∷ (not (is_reference (slot_of g t i)), refusal.NotAReference)
      ∷ (leb (length fields) f, refusal.BadField)
      ∷ (is_stack_full g t, refusal.StackFull)
      ∷ [])) (sym (same_slot_fields t i thread))
  same_refusal t thread (call.Store i f x) =
      ap (λ fields. first_refusal (
      (is_bad_slot g t i, refusal.BadSlot)
      ∷ (is_bad_slot g t x, refusal.BadSlot)
      ∷ (not (is_reference (slot_of g t i)), refusal.NotAReference)
      ∷ (leb (length fields) f, refusal.BadField)
      ∷ [])) (sym (same_slot_fields t i thread))
  same_refusal t thread (call.Get i) = refl
  same_refusal t thread (call.Same i x) = refl
  same_refusal t thread call.Begin = refl
  same_refusal t thread call.End = refl
  same_refusal t thread call.Collect = refl
  same_refusal t thread call.Census = refl

  -- an object that is made or written over is so in both
  include_both : (n : Name) (a b : Content) → a ≡ b → Includes (insert objects n b) (with_object g n a)
  include_both n a b same x h =
      elim (same_or_other x n) [
        | inl q ↦ ap (get (insert g.objects n a)) q ∙ get-same g.objects n a ∙ ap (λ (c : Content). Some c) same ∙ sym (ap (get (insert objects n b)) q ∙ get-same objects n b)
        | inr o ↦ get-other g.objects n a x o ∙ includes x (subst IsSome (get-other g.objects n a x o) h) ∙ sym (get-other objects n b x o)
      ]

  -- what both show of a slot
  same_shown : (t i : ℕ) → IsThread g t → shown g (slot_of g t i) ≡ shown (of_objects g objects) (slot_of g t i)
  same_shown t i thread = shown_by (slot_of g t i) (same_slot_fields t i thread)
    where
      shown_by : (v : Datum) → fields_at g v ≡ fields_at (of_objects g objects) v → shown g v ≡ shown (of_objects g objects) v
      shown_by datum.Null e = refl
      shown_by (datum.Int y) e = refl
      shown_by (datum.Object m) e = ap (λ fields. reply.Object (length fields)) e

  module _ (t : ℕ) (thread : IsThread g t) where
    -- a call that is refused
    refused : (asked : Call) (said : Reply) (after : Graph) (why : Refusal) → refusal_of g t asked ≡ Some why → said ≡ reply.Refused why → after ≡ g → Goes objects g t asked said after
    refused asked said after why e r same =
        subst (λ z. Goes objects g t asked said z) (sym same) (record {
          next = objects;
          answer =
              subst (λ o. MatchOption o (Does (of_objects g objects) t asked said (of_objects g objects)) (λ w. (said ≡ reply.Refused w) × (of_objects g objects ≡ of_objects g objects)))
              (sym (same_refusal t thread asked ∙ e)) (r, refl);
          includes = includes;
        })

    -- a call that isn't refused, from what it does to the graph
    done : (asked : Call) (said : Reply) (after : Graph) → refusal_of g t asked ≡ None → (next : FinMap name_cmp Content) (graph : Graph) → after ≡ graph
        → Does (of_objects g objects) t asked said (of_objects graph next) → Includes next graph → Goes objects g t asked said after
    done asked said after e next graph same does still =
        subst (λ z. Goes objects g t asked said z) (sym same) (record {
          next = next;
          answer =
              subst (λ o. MatchOption o (Does (of_objects g objects) t asked said (of_objects graph next)) (λ w. (said ≡ reply.Refused w) × (of_objects graph next ≡ of_objects g objects)))
              (sym (same_refusal t thread asked ∙ e)) does;
          includes = still;
        })

    -- a store to a field
    stored : (i f x : ℕ) (said : Reply) (after : Graph) → refusal_of g t (call.Store i f x) ≡ None → said ≡ reply.Ok → (v : Datum) → slot_of g t i ≡ v → after ≡ put_field g v f (slot_of g t x) → Goes objects g t (call.Store i f x) said after
    stored i f x said after e r datum.Null q same =
        done (call.Store i f x) said after e objects g same (r, ap (λ v. put_field (of_objects g objects) v f (slot_of g t x)) (sym q)) includes
    stored i f x said after e r (datum.Int y) q same =
        done (call.Store i f x) said after e objects g same (r, ap (λ v. put_field (of_objects g objects) v f (slot_of g t x)) (sym q)) includes
    stored i f x said after e r (datum.Object m) q same =
        done (call.Store i f x) said after e (insert objects m (Fields (set (fields_at (of_objects g objects) (datum.Object m)) f (slot_of g t x)))) _ same
        (r, ap (λ v. put_field (of_objects g objects) v f (slot_of g t x)) (sym q))
        (include_both m _ _ (ap (λ fields. Fields (set fields f (slot_of g t x))) (ap fields_or_none (includes m (held t m (slot_on_stack g t i m thread q))))))

    not_refused : (asked : Call) (said : Reply) (after : Graph) → refusal_of g t asked ≡ None → Does g t asked said after → Goes objects g t asked said after
    not_refused (call.Int i) said after e d = done _ said after e objects _ d.1 (d.0, refl) includes
    not_refused call.Null said after e d = done _ said after e objects _ d.1 (d.0, refl) includes
    not_refused (call.Dup i) said after e d = done _ said after e objects _ d.1 (d.0, refl) includes
    not_refused call.Pop said after e d = done _ said after e objects _ d.1 (d.0, refl) includes
    not_refused (call.New k) said after e d =
        elim d [
          | inl ok ↦ done _ said after e (insert objects (next_name g t) (Fields (replicate k datum.Null))) _ ok.1 (inl (ok.0, refl)) (include_both (next_name g t) (Fields (replicate k datum.Null)) _ refl)
          | inr full ↦ done _ said after e objects _ full.1 (inr (full.0, refl)) includes
        ]
    not_refused (call.Load i f) said after e d =
        done _ said after e objects _ d.1 (d.0, ap (λ fields. push (of_objects g objects) t (get_or fields f datum.Null)) (same_slot_fields t i thread)) includes
    not_refused (call.Store i f x) said after e d = stored i f x said after e d.0 (slot_of g t i) refl d.1
    not_refused (call.Get i) said after e d = done _ said after e objects _ d.1 (d.0 ∙ same_shown t i thread, refl) includes
    not_refused (call.Same i x) said after e d = done _ said after e objects _ d.1 (d.0, refl) includes
    not_refused call.Begin said after e d = done _ said after e objects _ d.1 (d.0, refl) includes
    not_refused call.End said after e d = done _ said after e objects _ d.1 (d.0, refl) includes
    not_refused call.Collect said after e d = done _ said after e objects _ d.1 (d.0, refl) includes
    not_refused call.Census said after e d = done _ said after e objects _ d.1 (d.0, refl) includes

    pub answered : (asked : Call) (said : Reply) (after : Graph) → answers g t asked said after → Goes objects g t asked said after
    answered asked said after =
        elim (refusal_of g t asked) as (λ o. refusal_of g t asked ≡ o → MatchOption o (Does g t asked said after) (λ why. (said ≡ reply.Refused why) × (after ≡ g)) → Goes objects g t asked said after) [
          | None ↦ λ e d. not_refused asked said after e d
          | Some why ↦ λ e r. refused asked said after why e r.0 r.1
        ] refl

-- ---- entries of a state

-- an object that is there after some objects are dropped has what it had
pub kept : (s after : SpaceState) (objects : FinMap name_cmp Content) (n : Name) → content_at after.graph n ≡ cond (is_some (get after.home n)) (content_at s.graph n) None → Includes objects s.graph → IsSome (content_at after.graph n) → content_at after.graph n ≡ get objects n
kept s after objects n keeps includes some = by_home (is_some (get after.home n)) keeps
  where
    by_home : (b : _) → content_at after.graph n ≡ cond b (content_at s.graph n) None → content_at after.graph n ≡ get objects n
    by_home true e = e ∙ includes n (subst IsSome e some)
    by_home false e = absurd (true≢false (sym some ∙ ap is_some e))

-- the graph of these objects follows the state along a call, and its objects still include those of the state
pub record FollowsCall (objects : FinMap name_cmp Content) (s : SpaceState) (t : ℕ) (asked : Call) (said : Reply) (after : SpaceState) : Type 0 where
  pub next : FinMap name_cmp Content
  pub moves : Moves (of_objects s.graph objects) (Said t asked said) (of_objects after.graph next)
  pub includes : Includes next after.graph

module _ (objects : FinMap name_cmp Content) (s : SpaceState) (includes : Includes objects s.graph) (held : HoldsStacks s.graph) where
  ended : (t : ℕ) → IsThread s.graph t → (moved : ℕ) (tight : _) (after : SpaceState) → EndsEpoch s t moved tight after → FollowsCall objects s t call.End (reply.Ended moved tight) after
  ended t thread moved tight after end = record {
    next = objects;
    moves = (
      thread,
      subst (λ o. MatchOption o (Does (of_objects s.graph objects) t call.End (reply.Ended moved tight) (of_objects after.graph objects)) (λ w. (reply.Ended moved tight ≡ reply.Refused w) × (of_objects after.graph objects ≡ of_objects s.graph objects)))
          (sym (not_refused_end _ end.open_epoch)) ((moved, tight, refl), ap (λ g. of_objects g objects) end.rest),
      tt,
    );
    includes = λ n some. kept s after objects n (end.contents n) includes some;
  }

  pub follows : (t : ℕ) (asked : Call) (said : Reply) (after : SpaceState) → Turns s (Said t asked said) after → FollowsCall objects s t asked said after
  follows t call.End (reply.Ended moved tight) after h = ended t h.0 moved tight after h.1
  follows t call.Collect reply.Ok after h = record {
    next = objects;
    moves = (h.0, (refl, ap (λ g. of_objects g objects) h.1.rest), tt);
    includes = λ n some. kept s after objects n (h.1.contents n) includes some;
  }
  follows t asked said after h =
      let goes : Goes objects s.graph t asked said after.graph = answered objects s.graph includes held t h.0 asked said after.graph h.1 in
      record { next = goes.next; moves = (h.0, goes.answer, h.3); includes = goes.includes }
