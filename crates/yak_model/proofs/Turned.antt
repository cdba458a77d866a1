-- A history leaves one state.
use Rattle.std.proofs.Common.{◌≡◌, ℕ, List, [], ◌∷◌, ◌++◌, Option, Some, None, refl, sym, subst, ◌∙◌, inl, inr}
use Rattle.object_layout.specs.declared.calls.Call.{Call}
use Rattle.object_layout.specs.declared.calls.Call.TheVariants as call
use Rattle.object_layout.specs.declared.replies.Reply.{Reply}
use Rattle.object_layout.specs.declared.replies.Reply.TheVariants as reply
use Rattle.object_layout.specs.declared.replies.Refusal.{Refusal}
use Rattle.std.specs.Prelude.{MatchOption}
use Rattle.yak_model.specs.Graph.{Does, Graph, answers, refusal_of}
use Rattle.yak_model.specs.History.{Entry, Said, Collected}
use Rattle.yak_model.specs.Spaces.{SpaceState, Turns, TurnsAll}
use Rattle.yak_model.specs.Unique.{StatesAreUnique}

made_unique : (g : Graph) (t k : ℕ) (said : Reply) (h other : Graph) → Does g t (call.New k) said h → Does g t (call.New k) said other → h ≡ other
made_unique g t k said h other (inl (ok, is)) (inl (ok', is')) = is ∙ sym is'
made_unique g t k said h other (inl (ok, is)) (inr (full, is')) = absurd (cc (ok, full))
made_unique g t k said h other (inr (full, is)) (inl (ok', is')) = absurd (cc (full, ok'))
made_unique g t k said h other (inr (full, is)) (inr (full', is')) = is ∙ sym is'

does_unique : (g : Graph) (t : ℕ) (asked : Call) (said : Reply) (h other : Graph) → Does g t asked said h → Does g t asked said other → h ≡ other
does_unique g t (call.Int i) said h other a b = a.1 ∙ sym b.1
does_unique g t call.Null said h other a b = a.1 ∙ sym b.1
does_unique g t (call.Dup s) said h other a b = a.1 ∙ sym b.1
does_unique g t call.Pop said h other a b = a.1 ∙ sym b.1
does_unique g t (call.New k) said h other a b = made_unique g t k said h other a b
does_unique g t (call.Load s f) said h other a b = a.1 ∙ sym b.1
does_unique g t (call.Store s f x) said h other a b = a.1 ∙ sym b.1
does_unique g t (call.Get s) said h other a b = a.1 ∙ sym b.1
does_unique g t (call.Same s x) said h other a b = a.1 ∙ sym b.1
does_unique g t call.Begin said h other a b = a.1 ∙ sym b.1
does_unique g t call.End said h other a b = a.1 ∙ sym b.1
does_unique g t call.Collect said h other a b = a.1 ∙ sym b.1
does_unique g t call.Census said h other a b = a.1 ∙ sym b.1

one_answer : (g : Graph) (t : ℕ) (asked : Call) (said : Reply) (h other : Graph) (why : Option Refusal)
    → MatchOption why (Does g t asked said h) (λ why. (said ≡ reply.Refused why) × (h ≡ g))
    → MatchOption why (Does g t asked said other) (λ why. (said ≡ reply.Refused why) × (other ≡ g)) → h ≡ other
one_answer g t asked said h other None a b = does_unique g t asked said h other a b
one_answer g t asked said h other (Some why) a b = a.1 ∙ sym b.1

pub answer_unique : (g : Graph) (t : ℕ) (asked : Call) (said : Reply) (h other : Graph) → answers g t asked said h → answers g t asked said other → h ≡ other
answer_unique g t asked said h other a b = one_answer g t asked said h other (refusal_of g t asked) a b

same_state : (first second : SpaceState) → first.graph ≡ second.graph → first.home ≡ second.home → first ≡ second
same_state first second graphs homes = λ i. record { graph = graphs i; home = homes i }

turn_unique : StatesAreUnique → (s : SpaceState) (entry : Entry) (first second : SpaceState) → Turns s entry first → Turns s entry second → first ≡ second
turn_unique unique s (Said t call.End (reply.Ended moved tight)) first second a b = (unique.end s t moved moved tight first second a.1 b.1).0
turn_unique unique s (Said t call.Collect reply.Ok) first second a b = unique.collection s first second a.1 b.1
turn_unique unique s (Said t asked said) first second a b =
    same_state first second (answer_unique s.graph t asked said first.graph second.graph a.1 b.1) (a.2 ∙ sym b.2)
turn_unique unique s (Collected t) first second a b = unique.collection s first second a.1 b.1

-- the entries lead from a state to one state
pub turns_unique : StatesAreUnique → (history : List Entry) (s first second : SpaceState) → TurnsAll s history first → TurnsAll s history second → first ≡ second
turns_unique unique [] s first second a b = a ∙ sym b
turns_unique unique (entry ∷ rest) s first second a b =
    let same : b.0 ≡ a.0 = turn_unique unique s entry b.0 a.0 b.1 a.1 in
    turns_unique unique rest a.0 first second a.2 (subst (λ (m : SpaceState). TurnsAll m rest second) same b.2)

-- entries, one list after the other
pub turns_more : (first middle last : SpaceState) (before more : List Entry) → TurnsAll first before middle → TurnsAll middle more last → TurnsAll first (before ++ more) last
turns_more first middle last [] more same rest = subst (λ (s : SpaceState). TurnsAll s more last) same rest
turns_more first middle last (entry ∷ before) more turned rest = (turned.0, turned.1, turns_more turned.0 middle last before more turned.2 rest)

-- the state between two lists of entries
pub turns_between : (first last : SpaceState) (before more : List Entry) → TurnsAll first (before ++ more) last → (middle : SpaceState) × TurnsAll first before middle × TurnsAll middle more last
turns_between first last [] more turned = (first, refl, turned)
turns_between first last (entry ∷ before) more turned =
    let rest = turns_between turned.0 last before more turned.2 in
    (rest.0, (turned.0, turned.1, rest.1), rest.2)
