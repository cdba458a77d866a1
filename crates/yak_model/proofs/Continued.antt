-- Histories that go on by the entries of a call.
use Rattle.std.proofs.Common.{◌≡◌, ◌≢◌, ◌-◌, ◌≤◌, ℕ, List, [], ◌∷◌, ◌++◌, Bool, true, false, cond, eqb, get_or-set_other, refl, sym, ap, subst, ◌∙◌, arith, append_assoc, ne_eqb, eq-eqb}
use Rattle.std.proofs.lemmas.List.{append-nil}
use Rattle.std.proofs.lemmas.List.Elements.{filter-append}
use Rattle.object_layout.specs.declared.calls.Call.{Call}
use Rattle.object_layout.specs.declared.calls.Call.TheVariants as call
use Rattle.object_layout.specs.declared.calls.Event.{Event}
use Rattle.object_layout.specs.declared.replies.Reply.{Reply}
use Rattle.object_layout.specs.declared.replies.Reply.TheVariants as reply
use Rattle.heap_words.specs.declared.map.Areas.{Areas}
use Rattle.heap_words.specs.Contents.{Contents}
use Rattle.yak_model.specs.Continued.{Continues, Explains, PackedIfAsked, PacksControl, StandsStill, entries_told}
use Rattle.yak_model.specs.Graph.{Graph, Thread, idle, standard_limits, thread_of}
use Rattle.yak_model.specs.History.{Entry, Said, Collected, caller, part}
use Rattle.yak_model.specs.Lawful.{EndsAsked}
use Rattle.yak_model.specs.Recorded.{StandsRecorded}
use Rattle.yak_model.specs.Spaces.{SpaceState, Turns, TurnsAll, opening_spaces, spaces}
use Rattle.yak_model.specs.Standing.{entries_of}
use Rattle.yak_model.specs.Stands.{Stands}
use Rattle.yak_model.proofs.Agreement.{machines_agree}
use Rattle.yak_model.proofs.Lawful.{lawful_more, lawful_none}
use Rattle.yak_model.proofs.Others.{answers-beside}
use Rattle.yak_model.proofs.Turned.{turns_between, turns_more, turns_unique}
use Rattle.yak_model.proofs.Unique.{states_unique}

-- ---- entries of a call

-- the last of a list and one more
last_more : (one two : List Entry) (a b : Entry) → one ++ a ∷ [] ≡ two ++ b ∷ [] → a ≡ b
last_more [] [] a b e = cc e
last_more [] (y ∷ []) a b e = absurd (cc e)
last_more [] (y ∷ z ∷ two) a b e = absurd (cc e)
last_more (x ∷ []) [] a b e = absurd (cc e)
last_more (x ∷ z ∷ one) [] a b e = absurd (cc e)
last_more (x ∷ one) (y ∷ two) a b e = let tails : one ++ a ∷ [] ≡ two ++ b ∷ [] = cc e in last_more one two a b tails

-- the entries of a call end with it
last_told : (collected : Bool) (t : ℕ) (asked : Call) (said : Reply) (before : List Entry) → (former : List Entry) × (before ++ entries_of collected t asked said ≡ former ++ Said t asked said ∷ [])
last_told true t asked said before = (before ++ Collected t ∷ [], sym (append_assoc before (Collected t ∷ []) (Said t asked said ∷ [])))
last_told false t asked said before = (before, refl)

asked_last : (t : ℕ) (event : Event) (before : List Entry) → EndsAsked (before ++ entries_told t event) → event.call ≡ call.Collect
asked_last t event before asked =
    let last = last_told event.collected t event.call event.reply before in
    let same : Said t event.call event.reply ≡ Said asked.1 call.Collect reply.Ok = last_more last.0 asked.0 _ _ (sym last.1 ∙ asked.2) in
    cc same

-- Control is packed after a call if a collection that was asked for was last
pub packed_told : (m : Areas) (now : Contents) (s : SpaceState) (h : Stands m now s) (t : ℕ) (event : Event) (before : List Entry) → PacksControl m now s h event.call → PackedIfAsked m now s h (before ++ entries_told t event)
packed_told m now s h t event before packs asked = subst (PacksControl m now s h) (asked_last t event before asked) packs

-- ---- what a history explains

none_asked : (former : List Entry) (entry : Entry) → [] ≡ former ++ entry ∷ [] → ⊥
none_asked [] entry e = cc e
none_asked (x ∷ former) entry e = cc e

-- the words of a heap that opens
pub explains_opening : (m : Areas) (c : Contents) → StandsRecorded m c (opening_spaces standard_limits m.threads) → Explains m c []
explains_opening m c stands =
    let start = opening_spaces standard_limits m.threads in
    let agreed = machines_agree standard_limits m.threads [] start refl in
    record {
      lawful = record { legal = (agreed.0, agreed.1); defined = (start, refl); entries = lawful_none m.pages start };
      state = start;
      leaves = refl;
      stands = stands.0;
      recorded = stands.1;
      packed = λ asked. absurd (none_asked asked.0 _ asked.2);
    }

-- the words after a call
pub explains_more : (m : Areas) (was now : Contents) (history : List Entry) (t : ℕ) (event : Event) → Explains m was history → Continues m was now t event → Explains m now (history ++ entries_told t event)
explains_more m was now history t event known more =
    let start = opening_spaces standard_limits m.threads in
    let turned = more.turns known.state known.stands known.recorded in
    let leaves : spaces standard_limits m.threads (history ++ entries_told t event) turned.0 =
    turns_more start known.state turned.0 history (entries_told t event) known.leaves turned.1 in
    let agreed = machines_agree standard_limits m.threads (history ++ entries_told t event) turned.0 leaves in
    record {
      lawful = record {
        legal = (agreed.0, agreed.1);
        defined = (turned.0, leaves);
        entries = lawful_more states_unique m.pages start known.state history (entries_told t event) known.leaves known.lawful.entries
            (more.lawful known.state known.stands known.recorded history known.packed);
      };
      state = turned.0;
      leaves = leaves;
      stands = turned.2;
      recorded = turned.3 known.recorded;
      packed = packed_told m now turned.0 turned.2 t event history (more.packed turned.0 turned.2);
    }

-- other words of the same state
pub explains_still : (m : Areas) (was now : Contents) (history : List Entry) → Explains m was history → StandsStill m was now → Explains m now history
explains_still m was now history known still = record {
  lawful = known.lawful;
  state = known.state;
  leaves = known.leaves;
  stands = still.stands known.state known.stands known.recorded;
  recorded = still.recorded known.state known.stands known.recorded;
  packed = λ asked. still.packed known.state known.stands known.recorded (known.packed asked);
}

-- ---- threads

-- a history leaves one state
pub one_state : (m : Areas) (history : List Entry) (s other : SpaceState) → spaces standard_limits m.threads history s → spaces standard_limits m.threads history other → s ≡ other
one_state m history s other a b = turns_unique states_unique history (opening_spaces standard_limits m.threads) s other a b

-- an entry changes what its own thread has, and no other
turn_beside : (s : SpaceState) (entry : Entry) (after : SpaceState) (u : ℕ) → (u - 1) ≢ (caller entry - 1) → Turns s entry after → thread_of after.graph u ≡ thread_of s.graph u
turn_beside s (Said t call.End (reply.Ended moved tight)) after u apart turned =
    ap (λ (g : Graph). thread_of g u) turned.1.rest ∙ get_or-set_other s.graph.threads (t - 1) (u - 1) _ idle apart
turn_beside s (Said t call.Collect reply.Ok) after u apart turned = ap (λ (g : Graph). thread_of g u) turned.1.rest
turn_beside s (Said t asked said) after u apart turned = answers-beside s.graph t u apart asked said after.graph turned.1
turn_beside s (Collected t) after u apart turned = ap (λ (g : Graph). thread_of g u) turned.1.rest

told_beside_as : (collected : Bool) (s : SpaceState) (t : ℕ) (asked : Call) (said : Reply) (after : SpaceState) (u : ℕ) → (u - 1) ≢ (t - 1) → TurnsAll s (entries_of collected t asked said) after → thread_of after.graph u ≡ thread_of s.graph u
told_beside_as true s t asked said after u apart turned =
    ap (λ (x : SpaceState). thread_of x.graph u) turned.2.2
    ∙ (turn_beside turned.0 (Said t asked said) turned.2.0 u apart turned.2.1 ∙ turn_beside s (Collected t) turned.0 u apart turned.1)
told_beside_as false s t asked said after u apart turned =
    ap (λ (x : SpaceState). thread_of x.graph u) turned.2 ∙ turn_beside s (Said t asked said) turned.0 u apart turned.1

-- so a call leaves what other threads have
pub told_beside : (s : SpaceState) (t : ℕ) (event : Event) (after : SpaceState) (u : ℕ) → 1 ≤ t → 1 ≤ u → u ≢ t → TurnsAll s (entries_told t event) after → thread_of after.graph u ≡ thread_of s.graph u
told_beside s t event after u from some apart turned =
    told_beside_as event.collected s t event.call event.reply after u (λ e. apart (omega arith)) turned

-- what another thread has after a history and a call is what it had after the history
pub has_others : (m : Areas) (history : List Entry) (t : ℕ) (event : Event) (u : ℕ) (has : Thread) → 1 ≤ t → 1 ≤ u → u ≢ t
    → ((s : SpaceState) → spaces standard_limits m.threads history s → thread_of s.graph u ≡ has)
    → (s : SpaceState) → spaces standard_limits m.threads (history ++ entries_told t event) s → thread_of s.graph u ≡ has
has_others m history t event u has from some apart had s leaves =
    let between = turns_between (opening_spaces standard_limits m.threads) s history (entries_told t event) leaves in
    told_beside between.0 t event s u from some apart between.2 ∙ had between.0 between.1

-- ---- own lists

told_apart : (collected : Bool) (t : ℕ) (asked : Call) (said : Reply) (u : ℕ) → eqb t u ≡ false → part (entries_of collected t asked said) u ≡ []
told_apart true t asked said u e = ap (λ (b : Bool). cond b (Collected t ∷ cond b (Said t asked said ∷ []) []) (cond b (Said t asked said ∷ []) [])) e
told_apart false t asked said u e = ap (λ (b : Bool). cond b (Said t asked said ∷ []) []) e

told_own : (collected : Bool) (t : ℕ) (asked : Call) (said : Reply) → eqb t t ≡ true → part (entries_of collected t asked said) t ≡ entries_of collected t asked said
told_own true t asked said e = ap (λ (b : Bool). cond b (Collected t ∷ cond b (Said t asked said ∷ []) []) (cond b (Said t asked said ∷ []) [])) e
told_own false t asked said e = ap (λ (b : Bool). cond b (Said t asked said ∷ []) []) e

-- the part of another thread stays
pub part_others : (before : List Entry) (t : ℕ) (event : Event) (u : ℕ) → t ≢ u → part (before ++ entries_told t event) u ≡ part before u
part_others before t event u apart =
    filter-append (λ (entry : Entry). eqb (caller entry) u) before (entries_told t event)
    ∙ ap (λ (l : List Entry). part before u ++ l) (told_apart event.collected t event.call event.reply u (ne_eqb t u apart))
    ∙ append-nil (part before u)

-- the part of the thread itself has the entries of its call
pub part_own : (before : List Entry) (t : ℕ) (event : Event) → part (before ++ entries_told t event) t ≡ part before t ++ entries_told t event
part_own before t event =
    filter-append (λ (entry : Entry). eqb (caller entry) t) before (entries_told t event)
    ∙ ap (λ (l : List Entry). part before t ++ l) (told_own event.collected t event.call event.reply (eq-eqb t t refl))
