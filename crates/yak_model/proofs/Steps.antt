-- Steps of the plain machine of the spaces.
use Rattle.std.proofs.Common.{◌≡◌, ◌≢◌, ℕ, ◌++◌, ◌∷◌, [], List, Bool, true, false, Result, Ok, Err, IfOk, OnErr, MatchResult, is_ok, refl, sym, subst, inl, Option, Some, None, IsSome, MatchOption, true≢false}
use Rattle.object_layout.specs.Calls.{IsCall}
use Rattle.object_layout.specs.declared.calls.Call.{Call}
use Rattle.object_layout.specs.declared.calls.Call.TheVariants as call
use Rattle.object_layout.specs.declared.replies.Reply.{Reply}
use Rattle.object_layout.specs.declared.replies.Reply.TheVariants as reply
use Rattle.object_layout.specs.declared.replies.Refusal.{Refusal}
use Rattle.yak_model.specs.declared.homes.Home.{Home}
use Rattle.yak_model.specs.Graph.{Does, Graph, IsThread, answers, make, next_name, refusal_of, standard_limits}
use Rattle.yak_model.specs.History.{Said}
use Rattle.yak_model.specs.Machine.{CanTurn, IsSound, shown_state}
use Rattle.yak_model.specs.Spaces.{SpaceState, Turns, homes_after, innermost}
use Rattle.yak_model.proofs.Sound.{Keeps, answers_keep, homes_grow, keeps_itself, make_sound, room_of}

-- an answer to a call that makes no object leaves the homes
same_homes : (s : SpaceState) (t : ℕ) (asked : Call) (said : Reply) → ((k : ℕ) → asked ≡ call.New k → said ≢ reply.Ok) → s.home ≡ homes_after s t asked said
same_homes s t (call.Int i) said other = refl
same_homes s t call.Null said other = refl
same_homes s t (call.Dup i) said other = refl
same_homes s t call.Pop said other = refl
same_homes s t (call.New k) reply.Ok other = absurd (other k refl refl)
same_homes s t (call.New k) said other = refl
same_homes s t (call.Load i f) said other = refl
same_homes s t (call.Store i f x) said other = refl
same_homes s t (call.Get i) said other = refl
same_homes s t (call.Same i x) said other = refl
same_homes s t call.Begin said other = refl
same_homes s t call.End said other = refl
same_homes s t call.Collect said other = refl
same_homes s t call.Census said other = refl

-- an entry of any call but the end of an epoch and a collection
from_answer : (s : SpaceState) (t : ℕ) (asked : Call) (said : Reply) (after : SpaceState) → asked ≢ call.End → asked ≢ call.Collect
    → IsThread s.graph t → answers s.graph t asked said after.graph → after.home ≡ homes_after s t asked said → IsCall asked → Turns s (Said t asked said) after
from_answer s t (call.Int i) said after e c thread a h n = (thread, a, h, n)
from_answer s t call.Null said after e c thread a h n = (thread, a, h, n)
from_answer s t (call.Dup i) said after e c thread a h n = (thread, a, h, n)
from_answer s t call.Pop said after e c thread a h n = (thread, a, h, n)
from_answer s t (call.New k) said after e c thread a h n = (thread, a, h, n)
from_answer s t (call.Load i f) said after e c thread a h n = (thread, a, h, n)
from_answer s t (call.Store i f x) said after e c thread a h n = (thread, a, h, n)
from_answer s t (call.Get i) said after e c thread a h n = (thread, a, h, n)
from_answer s t (call.Same i x) said after e c thread a h n = (thread, a, h, n)
from_answer s t call.Begin said after e c thread a h n = (thread, a, h, n)
from_answer s t call.End said after e c thread a h n = absurd (e refl)
from_answer s t call.Collect said after e c thread a h n = absurd (c refl)
from_answer s t call.Census said after e c thread a h n = (thread, a, h, n)

answer_of : (s : SpaceState) (t : ℕ) (asked : Call) (said : Reply) (after : SpaceState) → asked ≢ call.End → asked ≢ call.Collect
    → Turns s (Said t asked said) after → answers s.graph t asked said after.graph
answer_of s t (call.Int i) said after e c h = h.1
answer_of s t call.Null said after e c h = h.1
answer_of s t (call.Dup i) said after e c h = h.1
answer_of s t call.Pop said after e c h = h.1
answer_of s t (call.New k) said after e c h = h.1
answer_of s t (call.Load i f) said after e c h = h.1
answer_of s t (call.Store i f x) said after e c h = h.1
answer_of s t (call.Get i) said after e c h = h.1
answer_of s t (call.Same i x) said after e c h = h.1
answer_of s t call.Begin said after e c h = h.1
answer_of s t call.End said after e c h = absurd (e refl)
answer_of s t call.Collect said after e c h = absurd (c refl)
answer_of s t call.Census said after e c h = h.1

module _ (g : Graph) (homes : List Home) (t : ℕ) (thread : IsThread g t) (asked : Call) (said : Reply) (no_end : asked ≢ call.End) (no_collect : asked ≢ call.Collect) where
  -- a call that makes no object
  pub other_turns : ((k : ℕ) → asked ≡ call.New k → said ≢ reply.Ok) → IsCall asked → (h : Graph) → answers g t asked said h → Turns (shown_state g homes) (Said t asked said) (shown_state h homes)
  other_turns other number h a =
      from_answer (shown_state g homes) t asked said (shown_state h homes) no_end no_collect thread a (same_homes (shown_state g homes) t asked said other) number

  pub cannot_turn : ((h : Graph) → answers g t asked said h → ⊥) → CanTurn (shown_state g homes) (Said t asked said) → ⊥
  cannot_turn denied can = denied can.0.graph (answer_of (shown_state g homes) t asked said can.0 no_end no_collect can.1)

-- a call that makes an object
pub made_turns : (g : Graph) (homes : List Home) → IsSound g homes → (t : ℕ) → IsThread g t → (k : ℕ) → refusal_of g t (call.New k) ≡ None
    → Turns (shown_state g homes) (Said t (call.New k) reply.Ok) (shown_state (make g t k) (homes ++ (record { name = next_name g t; space = innermost g t }) ∷ []))
made_turns g homes sound t thread k free = (
  thread,
  subst (λ o. MatchOption o (Does g t (call.New k) reply.Ok (make g t k)) (λ why. (reply.Ok ≡ reply.Refused why) × (make g t k ≡ g))) (sym free) (inl (refl, refl)),
  homes_grow g homes sound t thread k,
  tt,
)

pub made_refused : (g : Graph) (homes : List Home) (t k : ℕ) → IsSome (refusal_of g t (call.New k)) → CanTurn (shown_state g homes) (Said t (call.New k) reply.Ok) → ⊥
made_refused g homes t k some can = by_refusal (refusal_of g t (call.New k)) some can.1.1
  where
    by_refusal : (o : Option Refusal) → IsSome o → MatchOption o (Does g t (call.New k) reply.Ok can.0.graph) (λ why. (reply.Ok ≡ reply.Refused why) × (can.0.graph ≡ g)) → ⊥
    by_refusal None h a = absurd (true≢false (sym h))
    by_refusal (Some why) h a = let e : reply.Ok ≡ reply.Refused why = a.0 in cc

-- ---- by what a call of the machine gave

pub answer_keeps : {E : Type 0} (g h : Graph) (t : ℕ) (asked : Call) (said : Reply) → g.limits ≡ standard_limits → ((k : ℕ) → asked ≡ call.New k → said ≢ reply.Ok)
    → (r : Result Bool E) → IfOk r (λ done. done ≡ true → answers g t asked said h) → IfOk r (λ done. done ≡ false → ((after : Graph) → answers g t asked said after → ⊥) × (h ≡ g)) → OnErr r (h ≡ g)
    → Keeps g h
answer_keeps g h t asked said limits other (Ok true) allowed denied err = answers_keep g t limits asked said h other (allowed refl)
answer_keeps g h t asked said limits other (Ok false) allowed denied err = subst (Keeps g) (sym (denied refl).1) (keeps_itself g)
answer_keeps g h t asked said limits other (Err e) allowed denied err = subst (Keeps g) (sym err) (keeps_itself g)

pub denied_by : {E P R : Type 0} (Q : Type 0) (r : Result Bool E) → IfOk r (λ done. done ≡ false → P × Q) → (P → R) → IfOk r (λ done. done ≡ false → R)
denied_by Q (Ok b) h f = λ e. f (h e).0
denied_by Q (Err e) h f = tt

pub allowed_by : {E P R : Type 0} (r : Result Bool E) → IfOk r (λ done. done ≡ true → P) → (P → R) → IfOk r (λ done. done ≡ true → R)
allowed_by (Ok b) h f = λ e. f (h e)
allowed_by (Err e) h f = tt

module _ (g h : Graph) (homes grown : List Home) (sound : IsSound g homes) (t : ℕ) (thread : IsThread g t) (k : ℕ) {E : Type 0} (r : Result Bool E)
    (graphs : IfOk r (λ done. done ≡ true → h ≡ make g t k))
    (lists : IfOk r (λ done. done ≡ true → grown ≡ homes ++ (record { name = next_name g t; space = innermost g t }) ∷ [])) where
  pub made_is_sound : IfOk r (λ done. done ≡ true → refusal_of g t (call.New k) ≡ None) → IfOk r (λ done. done ≡ false → h ≡ g) → IfOk r (λ done. done ≡ false → grown ≡ homes) → OnErr r (h ≡ g) → OnErr r (grown ≡ homes) → IsSound h grown
  made_is_sound free same_graph same_list err_graph err_list = by_result r graphs lists free same_graph same_list err_graph err_list
    where
      by_result : (r : Result Bool E) → IfOk r (λ done. done ≡ true → h ≡ make g t k) → IfOk r (λ done. done ≡ true → grown ≡ homes ++ (record { name = next_name g t; space = innermost g t }) ∷ [])
          → IfOk r (λ done. done ≡ true → refusal_of g t (call.New k) ≡ None) → IfOk r (λ done. done ≡ false → h ≡ g) → IfOk r (λ done. done ≡ false → grown ≡ homes) → OnErr r (h ≡ g) → OnErr r (grown ≡ homes) → IsSound h grown
      by_result (Ok true) a b free c d e f =
          subst (λ x. IsSound x grown) (sym (a refl)) (subst (IsSound (make g t k)) (sym (b refl)) (make_sound g homes sound t thread k (room_of g t k sound.limits (free refl))))
      by_result (Ok false) a b free c d e f = subst (λ x. IsSound x grown) (sym (c refl)) (subst (IsSound g) (sym (d refl)) sound)
      by_result (Err x) a b free c d e f = subst (λ x. IsSound x grown) (sym e) (subst (IsSound g) (sym f) sound)

  pub made_turns_by : IfOk r (λ done. done ≡ true → refusal_of g t (call.New k) ≡ None) → IfOk r (λ done. done ≡ true → Turns (shown_state g homes) (Said t (call.New k) reply.Ok) (shown_state h grown))
  made_turns_by free = by_result r graphs lists free
    where
      by_result : (r : Result Bool E) → IfOk r (λ done. done ≡ true → h ≡ make g t k) → IfOk r (λ done. done ≡ true → grown ≡ homes ++ (record { name = next_name g t; space = innermost g t }) ∷ [])
          → IfOk r (λ done. done ≡ true → refusal_of g t (call.New k) ≡ None) → IfOk r (λ done. done ≡ true → Turns (shown_state g homes) (Said t (call.New k) reply.Ok) (shown_state h grown))
      by_result (Ok b) a l f = λ e.
          subst (λ x. Turns (shown_state g homes) (Said t (call.New k) reply.Ok) (shown_state x grown)) (sym (a e))
          (subst (λ x. Turns (shown_state g homes) (Said t (call.New k) reply.Ok) (shown_state (make g t k) x)) (sym (l e)) (made_turns g homes sound t thread k (f e)))
      by_result (Err x) a l f = tt

-- what is known of a result is known after its error was changed
pub same_ok : {T E F : Type 0} (P : T → Type 0) (C : E → Type 0) (r : Result T E) (s : Result T F) → MatchResult r (λ x. s ≡ Ok x) C → is_ok s ≡ is_ok r → IfOk r P → IfOk s P
same_ok P C (Ok x) s h v p = subst (λ z. IfOk z P) (sym h) p
same_ok P C (Err e) (Ok y) h v p = absurd (true≢false v)
same_ok P C (Err e) (Err f) h v p = tt
