-- What a thread may tell by what it knows: that a call is refused, or what it shows.
use Rattle.std.proofs.Common.{◌≡◌, ◌≢◌, ℕ, ◌≤◌, ◌<◌, Bool, true, false, List, [], ◌∷◌, length, cond, refl, sym, ap, ◌∙◌, subst, arith, inl, inr, Some, MatchOption}
use Rattle.std.proofs.lemmas.Bool.{le-leb, lt-leb}
use Rattle.heap_words.specs.declared.map.Areas.{Areas}
use Rattle.heap_words.specs.declared.TheConstants.{STACK_SLOTS}
use Rattle.object_layout.specs.declared.TheConstants.{MAX_DEPTH}
use Rattle.object_layout.specs.declared.calls.Call.{Call}
use Rattle.object_layout.specs.declared.calls.Call.TheVariants as call
use Rattle.object_layout.specs.declared.replies.Refusal.{Refusal}
use Rattle.object_layout.specs.declared.replies.Refusal.TheVariants as refusal
use Rattle.object_layout.specs.declared.replies.Reply.{Reply}
use Rattle.object_layout.specs.declared.replies.Reply.TheVariants as reply
use Rattle.object_layout.specs.Calls.{IsCall}
use Rattle.yak_model.specs.Graph.{Does, Graph, Limits, Thread, first_refusal, is_bad_slot, is_stack_full, refusal_of, shown, slot_of, stack_of, thread_of}
use Rattle.calls_in_flight.specs.Actors.{Actor, Agrees, IsAnswered, IsAtRest, IsLet, IsQuick, MayTell}
use Rattle.calls_in_flight.specs.Kinds.{IsPlainReply}
use Rattle.calls_in_flight.specs.OwnStores.{IsPushOf}
use Rattle.calls_in_flight.specs.Seeing.{slot_told}
use Rattle.mutator.specs.Quick.{told_by}

-- ---- the first test that holds

pub first_is : (b : Bool) (why : Refusal) (rest : List (Bool × Refusal)) → b ≡ true → first_refusal ((b, why) ∷ rest) ≡ Some why
first_is b why rest e = ap (λ (x : Bool). cond x (Some why) (first_refusal rest)) e

pub first_not : (b : Bool) (why : Refusal) (rest : List (Bool × Refusal)) → b ≡ false → first_refusal ((b, why) ∷ rest) ≡ first_refusal rest
first_not b why rest e = ap (λ (x : Bool). cond x (Some why) (first_refusal rest)) e

module _ (m : Areas) (a : Actor) where
  -- ---- what a graph has that agrees

  pub slots_of : (g : Graph) → Agrees m a g → length (stack_of g a.thread) ≡ length a.told.stack
  slots_of g agrees = ap (λ (t : Thread). length t.stack) agrees.has

  pub slot_is : (g : Graph) (k : ℕ) → Agrees m a g → slot_of g a.thread k ≡ slot_told a k
  slot_is g k agrees = ap (λ (t : Thread). slot_told (record a { told = t }) k) agrees.has

  pub full : (g : Graph) → Agrees m a g → STACK_SLOTS ≤ length a.told.stack → is_stack_full g a.thread ≡ true
  full g agrees h = le-leb _ _ (let n = slots_of g agrees in omega (arith, n, h))

  pub not_full : (g : Graph) → Agrees m a g → length a.told.stack < STACK_SLOTS → is_stack_full g a.thread ≡ false
  not_full g agrees h = lt-leb _ _ (let n = slots_of g agrees in omega (arith, n, h))

  pub bad : (g : Graph) (k : ℕ) → Agrees m a g → length a.told.stack ≤ k → is_bad_slot g a.thread k ≡ true
  bad g k agrees h = le-leb _ _ (let n = slots_of g agrees in omega (arith, n, h))

  pub good : (g : Graph) (k : ℕ) → Agrees m a g → k < length a.told.stack → is_bad_slot g a.thread k ≡ false
  good g k agrees h = lt-leb _ _ (let n = slots_of g agrees in omega (arith, n, h))

  -- ---- answers

  pub refused : (asked : Call) (why : Refusal) → ((g : Graph) → Agrees m a g → refusal_of g a.thread asked ≡ Some why) → IsAnswered m a asked (reply.Refused why)
  refused asked why is g agrees =
      subst (λ o. MatchOption o (Does g a.thread asked (reply.Refused why) g) (λ w. (reply.Refused why ≡ reply.Refused w) × (g ≡ g))) (sym (is g agrees)) (refl, refl)

  pub answered : (asked : Call) (said : Reply) → IsLet m a asked → ((g : Graph) → Agrees m a g → Does g a.thread asked said g) → IsAnswered m a asked said
  answered asked said let_ does g agrees =
      subst (λ o. MatchOption o (Does g a.thread asked said g) (λ w. (said ≡ reply.Refused w) × (g ≡ g))) (sym (let_ g agrees)) (does g agrees)

  -- the entry of a call that is refused
  pub tells_refusal : (asked : Call) (why : Refusal) → IsCall asked → IsQuick asked → IsAtRest a → ((g : Graph) → Agrees m a g → refusal_of g a.thread asked ≡ Some why) → MayTell m a (told_by asked (reply.Refused why))
  tells_refusal asked why number quick rests is = record {
    number = number;
    quick = quick;
    alone = refl;
    idle = inr (why, refl);
    plain = tt;
    rests = rests;
    answered = refused asked why is;
  }

  -- ---- pushes

  pub push_number : (asked : Call) (word : ℕ) → IsPushOf m a asked word → IsCall asked
  push_number (call.Int i) word push = push.0
  push_number call.Null word push = tt
  push_number (call.Dup k) word push = tt
  push_number asked word push = absurd push

  pub push_quick : (asked : Call) (word : ℕ) → IsPushOf m a asked word → IsQuick asked
  push_quick (call.Int i) word push = tt
  push_quick call.Null word push = tt
  push_quick (call.Dup k) word push = tt
  push_quick asked word push = absurd push

  push_refused : (asked : Call) (word : ℕ) → IsPushOf m a asked word → STACK_SLOTS ≤ length a.told.stack → (g : Graph) → Agrees m a g → refusal_of g a.thread asked ≡ Some refusal.StackFull
  push_refused (call.Int i) word push h g agrees = first_is _ refusal.StackFull [] (full g agrees h)
  push_refused call.Null word push h g agrees = first_is _ refusal.StackFull [] (full g agrees h)
  push_refused (call.Dup k) word push h g agrees = first_not (is_bad_slot g a.thread k) refusal.BadSlot ((is_stack_full g a.thread, refusal.StackFull) ∷ []) (good g k agrees push.0) ∙ first_is _ refusal.StackFull [] (full g agrees h)
  push_refused asked word push h g agrees = absurd push

  -- a push on a full stack is refused
  pub tells_full : (asked : Call) (word : ℕ) → IsPushOf m a asked word → IsAtRest a → STACK_SLOTS ≤ length a.told.stack → MayTell m a (told_by asked (reply.Refused refusal.StackFull))
  tells_full asked word push rests h = tells_refusal asked refusal.StackFull (push_number asked word push) (push_quick asked word push) rests (push_refused asked word push h)

  pub tells_deep : IsAtRest a → MAX_DEPTH ≤ a.told.depth → MayTell m a (told_by call.Begin (reply.Refused refusal.TooDeep))
  tells_deep rests h =
      tells_refusal call.Begin refusal.TooDeep tt tt rests
      (λ g agrees. first_is _ refusal.TooDeep [] (le-leb _ _ (
      let limit : g.limits.depth ≡ MAX_DEPTH = ap (λ (l : Limits). l.depth) agrees.limits in
      let depth : (thread_of g a.thread).depth ≡ a.told.depth = ap (λ (t : Thread). t.depth) agrees.has in
      omega (arith, limit, depth, h))))

  -- ---- what is shown

  -- the reply to `get` of a slot
  pub get_answered : (k : ℕ) (said : Reply) → k < length a.told.stack → ((g : Graph) → Agrees m a g → said ≡ shown g (slot_of g a.thread k)) → IsAnswered m a (call.Get k) said
  get_answered k said there is = answered (call.Get k) said (λ g agrees. first_not _ refusal.BadSlot [] (good g k agrees there)) (λ g agrees. (is g agrees, refl))

  pub tells_get : (k : ℕ) (said : Reply) → IsAtRest a → IsPlainReply said → IsAnswered m a (call.Get k) said → MayTell m a (told_by (call.Get k) said)
  tells_get k said rests plain is = record { number = tt; quick = tt; alone = refl; idle = inl tt; plain = plain; rests = rests; answered = is }

  let_same : (k x : ℕ) → k < length a.told.stack → x < length a.told.stack → IsLet m a (call.Same k x)
  let_same k x first second g agrees = first_not (is_bad_slot g a.thread k) refusal.BadSlot ((is_bad_slot g a.thread x, refusal.BadSlot) ∷ []) (good g k agrees first) ∙ first_not (is_bad_slot g a.thread x) refusal.BadSlot [] (good g x agrees second)

  pub tells_yes : (k x : ℕ) → IsAtRest a → k < length a.told.stack → x < length a.told.stack → slot_told a k ≡ slot_told a x → MayTell m a (told_by (call.Same k x) reply.Yes)
  tells_yes k x rests first second e = record {
    number = tt;
    quick = tt;
    alone = refl;
    idle = inl tt;
    plain = tt;
    rests = rests;
    answered = answered (call.Same k x) reply.Yes (let_same k x first second) (λ g agrees. (inl (refl, slot_is g k agrees ∙ e ∙ sym (slot_is g x agrees)), refl));
  }

  pub tells_no : (k x : ℕ) → IsAtRest a → k < length a.told.stack → x < length a.told.stack → slot_told a k ≢ slot_told a x → MayTell m a (told_by (call.Same k x) reply.No)
  tells_no k x rests first second ne = record {
    number = tt;
    quick = tt;
    alone = refl;
    idle = inl tt;
    plain = tt;
    rests = rests;
    answered = answered (call.Same k x) reply.No (let_same k x first second) (λ g agrees. (inr (refl, λ e. ne (sym (slot_is g k agrees) ∙ e ∙ slot_is g x agrees)), refl));
  }
