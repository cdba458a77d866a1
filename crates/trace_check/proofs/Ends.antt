-- How histories end.
use Rattle.std.proofs.Common.{◌≡◌, ℕ, List, [], ◌∷◌, ◌++◌, Bool, true, false, sym, subst, Option}
use Rattle.std.specs.Prelude.{MatchBool}
use Rattle.yak_model.specs.declared.history.Entry.TheVariants as happened
use Rattle.object_layout.specs.declared.calls.Call.{Call}
use Rattle.object_layout.specs.declared.calls.Call.TheVariants.{Collect}
use Rattle.object_layout.specs.declared.replies.Reply.{Reply}
use Rattle.object_layout.specs.declared.replies.Reply.TheVariants.{Ok}
use Rattle.yak_model.specs.Lawful.{BeginsWithCause, EndsAsked, EndsCollected}
use Rattle.trace_check.specs.declared.traces.Step.{Step}
use Rattle.trace_check.specs.Steps.{IsCaused, entry_of, last_alone}

-- the only one of a list
pub one_is : {A : Type 0} (former : List A) (a b : A) → a ∷ [] ≡ former ++ b ∷ [] → a ≡ b
one_is [] a b e = cc e
one_is (x ∷ []) a b e = absurd (cc e)
one_is (x ∷ y ∷ former) a b e = absurd (cc e)

-- the last of a list and one more
pub last_is : {A : Type 0} (one two : List A) (a b : A) → one ++ a ∷ [] ≡ two ++ b ∷ [] → a ≡ b
last_is [] two a b e = one_is two a b e
last_is (x ∷ one) [] a b e = sym (one_is (x ∷ one) b a (sym e))
last_is (x ∷ one) (y ∷ two) a b e = let later : one ++ a ∷ [] ≡ two ++ b ∷ [] = cc e in last_is one two a b later

pub caused_by : (b : Bool) (last : Option Step) (thread : ℕ) (step : Step) → EndsCollected (last_alone last) thread → ((t : ℕ) → EndsCollected (last_alone last) t → t ≡ thread)
    → MatchBool b (BeginsWithCause (entry_of step ∷ []) thread) (BeginsWithCause (entry_of step ∷ []) thread → ⊥) → MatchBool b (IsCaused last step) (IsCaused last step → ⊥)
caused_by true last thread step ends only h = λ t later. subst (BeginsWithCause (entry_of step ∷ [])) (sym (only t later)) h
caused_by false last thread step ends only h = λ caused. h (caused thread ends)

pub asked_by : (b : Bool) (t : ℕ) (asked : Call) (said : Reply) → MatchBool b ((asked ≡ Collect) × (said ≡ Ok)) ((asked ≡ Collect) × (said ≡ Ok) → ⊥)
    → MatchBool b (EndsAsked (happened.Said t asked said ∷ [])) (EndsAsked (happened.Said t asked said ∷ []) → ⊥)
asked_by true t asked said h = ([], t, λ i. happened.Said t (h.0 i) (h.1 i) ∷ [])
asked_by false t asked said h = λ ends.
    let same : happened.Said t asked said ≡ happened.Said ends.1 Collect Ok = one_is ends.0 _ _ ends.2 in
    let calls : asked ≡ Collect = cc same in
    let replies : said ≡ Ok = cc same in
    h (calls, replies)
