-- Replies that a state doesn't allow, and words that are determined.
use Rattle.std.proofs.Common.{◌≡◌, ◌<◌, ℕ, Bool, true, false, cond, leb, leb-true, refl, sym, subst, ◌∙◌, arith, Some, None}
use Rattle.std.specs.Prelude.{IsTrue, MatchOption}
use Rattle.std.specs.List.{sum_by}
use Rattle.std.specs.FinMap as finite
use Rattle.std.specs.FinSet as names
use Rattle.object_layout.specs.declared.names.Name.{Name}
use Rattle.object_layout.specs.declared.calls.Call.TheVariants as call
use Rattle.object_layout.specs.declared.replies.Refusal.TheVariants as refusal
use Rattle.object_layout.specs.declared.replies.Reply.{Reply}
use Rattle.object_layout.specs.declared.replies.Reply.TheVariants as reply
use Rattle.yak_model.specs.Graph.{Content, Does, Graph, answers, size_of, thread_of}
use Rattle.yak_model.specs.declared.history.Entry.TheVariants.{Said}
use Rattle.yak_model.specs.Lawful.{HasWords}
use Rattle.yak_model.specs.Machine.{CanTurn}
use Rattle.yak_model.specs.Spaces.{EndsEpoch, SpaceState, Turns}
use Rattle.yak_model.specs.Unique.{StatesAreUnique}

-- an end of an open epoch has no other reply
other_reply : (g h : Graph) (t : ℕ) (said : Reply) → 0 < (thread_of g t).depth → ((moved : ℕ) (tight : Bool) → said ≡ reply.Ended moved tight → ⊥) → answers g t call.End said h → ⊥
other_reply g h t said deep other =
    elim (leb (thread_of g t).depth 0) as (λ b. leb (thread_of g t).depth 0 ≡ b → MatchOption (cond b (Some refusal.NoEpoch) None) (Does g t call.End said h) (λ why. (said ≡ reply.Refused why) × (h ≡ g)) → ⊥) [
      | true ↦ λ e a. let le = leb-true _ _ e in absurd (omega (arith, deep, le))
      | false ↦ λ e a. other a.0.0 a.0.1 a.0.2
    ] refl

answer_of_end : (s after : SpaceState) (t : ℕ) (said : Reply) → ((moved : ℕ) (tight : Bool) → said ≡ reply.Ended moved tight → ⊥) → Turns s (Said t call.End said) after → answers s.graph t call.End said after.graph
answer_of_end s after t reply.Ok other turns = turns.1
answer_of_end s after t reply.Null other turns = turns.1
answer_of_end s after t (reply.Int i) other turns = turns.1
answer_of_end s after t (reply.Object k) other turns = turns.1
answer_of_end s after t reply.Yes other turns = turns.1
answer_of_end s after t reply.No other turns = turns.1
answer_of_end s after t (reply.Ended moved tight) other turns = absurd (other moved tight refl)
answer_of_end s after t (reply.Pages free region control) other turns = turns.1
answer_of_end s after t reply.OutOfHeap other turns = turns.1
answer_of_end s after t (reply.Refused why) other turns = turns.1

ended_otherwise : StatesAreUnique → (s new after : SpaceState) (t moved number : ℕ) (tight : Bool) → EndsEpoch s t moved tight new → EndsEpoch s t number tight after → moved ≡ number
ended_otherwise unique s new after t moved number tight ends other = (unique.end s t moved number tight new after ends other).1

-- an end moves one number of objects
pub end_denied : StatesAreUnique → (s new : SpaceState) (t moved : ℕ) (tight : Bool) (said : Reply) → EndsEpoch s t moved tight new
    → ((m : ℕ) (b : Bool) → said ≡ reply.Ended m b → tight ≡ b) → (said ≡ reply.Ended moved tight → ⊥) → CanTurn s (Said t call.End said) → ⊥
end_denied unique s new t moved tight (reply.Ended number b) ends tights other can =
    let same : tight ≡ b = tights number b refl in
    let turned : EndsEpoch s t number tight can.0 = subst (λ (x : Bool). EndsEpoch s t number x can.0) (sym same) can.1.1 in
    let numbers : moved ≡ number = ended_otherwise unique s new can.0 t moved number tight ends turned in
    other (λ i. reply.Ended (sym numbers i) (sym same i))
end_denied unique s new t moved tight reply.Ok ends tights other can = other_reply s.graph can.0.graph t reply.Ok ends.open_epoch (λ m b e. cc e) can.1.1
end_denied unique s new t moved tight reply.Null ends tights other can = other_reply s.graph can.0.graph t reply.Null ends.open_epoch (λ m b e. cc e) can.1.1
end_denied unique s new t moved tight (reply.Int i) ends tights other can = other_reply s.graph can.0.graph t (reply.Int i) ends.open_epoch (λ m b e. cc e) can.1.1
end_denied unique s new t moved tight (reply.Object k) ends tights other can = other_reply s.graph can.0.graph t (reply.Object k) ends.open_epoch (λ m b e. cc e) can.1.1
end_denied unique s new t moved tight reply.Yes ends tights other can = other_reply s.graph can.0.graph t reply.Yes ends.open_epoch (λ m b e. cc e) can.1.1
end_denied unique s new t moved tight reply.No ends tights other can = other_reply s.graph can.0.graph t reply.No ends.open_epoch (λ m b e. cc e) can.1.1
end_denied unique s new t moved tight (reply.Pages free region control) ends tights other can = other_reply s.graph can.0.graph t (reply.Pages free region control) ends.open_epoch (λ m b e. cc e) can.1.1
end_denied unique s new t moved tight reply.OutOfHeap ends tights other can = other_reply s.graph can.0.graph t reply.OutOfHeap ends.open_epoch (λ m b e. cc e) can.1.1
end_denied unique s new t moved tight (reply.Refused why) ends tights other can = other_reply s.graph can.0.graph t (reply.Refused why) ends.open_epoch (λ m b e. cc e) can.1.1

-- ---- the words of a collection are determined

same_bool : (a b : Bool) → (IsTrue a → IsTrue b) → (IsTrue b → IsTrue a) → a ≡ b
same_bool true true to from = refl
same_bool false false to from = refl
same_bool true false to from = sym (to refl)
same_bool false true to from = from refl

pub words_unique : (s : SpaceState) (collection : Name → Type 0) (a b : ℕ) → HasWords s collection a → HasWords s collection b → a ≡ b
words_unique s collection a b one other =
    let same : (n : Name) → names.contains one.0 n ≡ names.contains other.0 n = λ n.
    same_bool (names.contains one.0 n) (names.contains other.0 n) (λ t. (other.1 n).1 ((one.1 n).0 t)) (λ t. (one.1 n).1 ((other.1 n).0 t)) in
    one.2 ∙ (λ i. sum_by (λ (e : Name × Content). cond (same e.0 i) (size_of e.1) 0) (finite.entries s.graph.objects)) ∙ sym other.2
