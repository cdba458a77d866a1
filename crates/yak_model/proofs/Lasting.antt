-- What one thread alone knows after a history.
use Rattle.std.proofs.Common.{◌≡◌, ◌≢◌, ℕ, ◌-◌, ◌≤◌, List, [], ◌∷◌, ◌++◌, Bool, true, false, true≢false, replicate, refl, ◌∙◌, ap, sym, subst, arith, inl, inr, Option, Some, None, IsSome, is_some, MatchOption}
use Rattle.std.specs.List.{Contains}
use Rattle.std.specs.FinMap.{empty, get, get-empty}
use Rattle.object_layout.specs.declared.names.Name.{Name}
use Rattle.object_layout.specs.declared.TheConstants.{OBJECT_WORDS}
use Rattle.object_layout.specs.declared.calls.Call.{Call}
use Rattle.object_layout.specs.declared.calls.Call.TheVariants as call
use Rattle.object_layout.specs.declared.calls.Event.{Event}
use Rattle.object_layout.specs.declared.replies.Reply.{Reply}
use Rattle.object_layout.specs.declared.replies.Reply.TheVariants as reply
use Rattle.object_layout.specs.declared.replies.Refusal.{Refusal}
use Rattle.yak_model.specs.declared.datum.Datum.{Datum}
use Rattle.yak_model.specs.declared.datum.Datum.TheVariants as datum
use Rattle.yak_model.specs.declared.TheConstants.{ROOT_FIELDS}
use Rattle.yak_model.specs.Continued.{entries_told}
use Rattle.yak_model.specs.Graph.{Does, Fields, Graph, Limits, Thread, fields_or_none, idle, opening, put_field, refusal_of, slot_of}
use Rattle.yak_model.specs.History.{Entry, Said, Collected, IsLegal, Leads, Moves}
use Rattle.yak_model.specs.Names.{name_cmp, root_name}
use Rattle.yak_model.specs.Private.{AreMade, BecomesKnown, FitPages, IsKnown, IsMade, KnownAfter, KnownObjects, PrivateAfter}
use Rattle.yak_model.specs.Spaces.{IsOnStack, Refers, content_at}
use Rattle.yak_model.specs.Standing.{entries_of}
use Rattle.yak_model.proofs.Agreement.{no_null}
use Rattle.yak_model.proofs.Fitting.{fitting_is_kept}
use Rattle.yak_model.proofs.Known.{something_is_known}
use Rattle.yak_model.proofs.Lists.{contains_cases, contains_replicate, replicate_cases}
use Rattle.yak_model.proofs.Made.{names_stay_made}
use Rattle.yak_model.proofs.Names.{get-other, get-same, same_or_other}
use Rattle.yak_model.proofs.Private.{privacy_is_kept}
use Rattle.yak_model.proofs.Turned.{answer_unique}

-- ---- entries lead from a graph to one graph

move_unique : (g : Graph) (entry : Entry) (first second : Graph) → Moves g entry first → Moves g entry second → first ≡ second
move_unique g (Said t asked said) first second a b = answer_unique g t asked said first second a.1 b.1
move_unique g (Collected t) first second a b = a.1 ∙ sym b.1

pub leads_unique : (history : List Entry) (g first second : Graph) → Leads g history first → Leads g history second → first ≡ second
leads_unique [] g first second a b = a ∙ sym b
leads_unique (entry ∷ rest) g first second a b =
    let same : b.0 ≡ a.0 = move_unique g entry b.0 a.0 b.1 a.1 in
    leads_unique rest a.0 first second a.2 (subst (λ (m : Graph). Leads m rest second) same b.2)

-- the graph between two lists of entries
pub leads_between : (first last : Graph) (before more : List Entry) → Leads first (before ++ more) last → (middle : Graph) × Leads first before middle × Leads middle more last
leads_between first last [] more led = (first, refl, led)
leads_between first last (entry ∷ before) more led =
    let rest = leads_between led.0 last before more led.2 in
    (rest.0, (led.0, led.1, rest.1), rest.2)

-- the entries of a call lead where the call itself does
leads_said : (collected : Bool) (t : ℕ) (asked : Call) (said : Reply) (g h : Graph) → Leads g (entries_of collected t asked said) h → Moves g (Said t asked said) h
leads_said true t asked said g h led =
    subst (λ (m : Graph). Moves m (Said t asked said) h) led.1.1 (subst (λ (n : Graph). Moves led.0 (Said t asked said) n) (sym led.2.2) led.2.1)
leads_said false t asked said g h led = subst (λ (n : Graph). Moves g (Said t asked said) n) (sym led.2) led.1

-- ---- limits stay

put_limits : (g : Graph) (into : Datum) (f : ℕ) (value : Datum) → (put_field g into f value).limits ≡ g.limits
put_limits g datum.Null f value = refl
put_limits g (datum.Int i) f value = refl
put_limits g (datum.Object name) f value = refl

does_limits : (g : Graph) (t : ℕ) (asked : Call) (said : Reply) (h : Graph) → Does g t asked said h → h.limits ≡ g.limits
does_limits g t (call.Int i) said h d = ap (λ (x : Graph). x.limits) d.1
does_limits g t call.Null said h d = ap (λ (x : Graph). x.limits) d.1
does_limits g t (call.Dup s) said h d = ap (λ (x : Graph). x.limits) d.1
does_limits g t call.Pop said h d = ap (λ (x : Graph). x.limits) d.1
does_limits g t (call.New k) said h (inl d) = ap (λ (x : Graph). x.limits) d.1
does_limits g t (call.New k) said h (inr d) = ap (λ (x : Graph). x.limits) d.1
does_limits g t (call.Load s f) said h d = ap (λ (x : Graph). x.limits) d.1
does_limits g t (call.Store s f x) said h d = ap (λ (x : Graph). x.limits) d.1 ∙ put_limits g (slot_of g t s) f (slot_of g t x)
does_limits g t (call.Get s) said h d = ap (λ (x : Graph). x.limits) d.1
does_limits g t (call.Same s x) said h d = ap (λ (x : Graph). x.limits) d.1
does_limits g t call.Begin said h d = ap (λ (x : Graph). x.limits) d.1
does_limits g t call.End said h d = ap (λ (x : Graph). x.limits) d.1
does_limits g t call.Collect said h d = ap (λ (x : Graph). x.limits) d.1
does_limits g t call.Census said h d = ap (λ (x : Graph). x.limits) d.1

one_limits : (g : Graph) (t : ℕ) (asked : Call) (said : Reply) (h : Graph) (why : Option Refusal) → MatchOption why (Does g t asked said h) (λ why. (said ≡ reply.Refused why) × (h ≡ g)) → h.limits ≡ g.limits
one_limits g t asked said h None d = does_limits g t asked said h d
one_limits g t asked said h (Some why) d = ap (λ (x : Graph). x.limits) d.1

move_limits : (g : Graph) (entry : Entry) (h : Graph) → Moves g entry h → h.limits ≡ g.limits
move_limits g (Said t asked said) h moves = one_limits g t asked said h (refusal_of g t asked) moves.1
move_limits g (Collected t) h moves = ap (λ (x : Graph). x.limits) moves.1

leads_limits : (history : List Entry) (g h : Graph) → Leads g history h → h.limits ≡ g.limits
leads_limits [] g h led = ap (λ (x : Graph). x.limits) led
leads_limits (entry ∷ rest) g h led = leads_limits rest led.0 h led.2 ∙ move_limits g entry led.0 led.1

pub limits_after : (limits : Limits) (threads : ℕ) (history : List Entry) (g : Graph) → Leads (opening limits threads) history g → g.limits ≡ limits
limits_after limits threads history g led = leads_limits history (opening limits threads) g led

-- ---- names were made

module _ (limits : Limits) (threads : ℕ) where
  abbrev start : Graph
  start = opening limits threads

  only_root : (name : Name) → IsSome (content_at start name) → name ≡ root_name
  only_root name h = elim (same_or_other name root_name) [
    | inl e ↦ e
    | inr o ↦ absurd (true≢false (sym h ∙ ap is_some (get-other empty root_name (Fields (replicate ROOT_FIELDS datum.Null)) name o ∙ get-empty name_cmp name)))
  ]

  root_on_stack : (u : ℕ) (name : Name) → IsOnStack start u name → name ≡ root_name
  root_on_stack u name on = elim (replicate_cases threads (u - 1) first idle) [
    | inl e ↦ elim (contains_cases (datum.Object root_name) [] (datum.Object name) (subst (λ (x : Thread). Contains x.stack (datum.Object name)) e on.1)) [
      | inl q ↦ cc
      | inr c ↦ absurd (omega (arith, c.1))
    ]
    | inr e ↦ absurd (omega (arith, (subst (λ (x : Thread). Contains x.stack (datum.Object name)) e on.1).1))
  ]
    where
      first : Thread
      first = record { stack = datum.Object root_name ∷ []; depth = 0; made = 0 }

  root_holds : (from name : Name) → Refers start from name → ⊥
  root_holds from name r = elim (same_or_other from root_name) [
    | inl e ↦ no_null name (contains_replicate ROOT_FIELDS datum.Null (datum.Object name) (subst (λ o. Contains (fields_or_none o) (datum.Object name)) (ap (get start.objects) e ∙ get-same empty root_name (Fields (replicate ROOT_FIELDS datum.Null))) r))
    | inr o ↦ absurd (omega (arith, (subst (λ o. Contains (fields_or_none o) (datum.Object name)) (get-other empty root_name (Fields (replicate ROOT_FIELDS datum.Null)) from o ∙ get-empty name_cmp from) r).1))
  ]

  root_made : (name : Name) → name ≡ root_name → IsMade start name
  root_made name e = subst (IsMade start) (sym e) (omega arith)

  opening_made : AreMade start
  opening_made = record {
    objects = λ name h. root_made name (only_root name h);
    stacks = λ u name on. root_made name (root_on_stack u name on);
    fields = λ from name r. absurd (root_holds from name r);
  }

leads_made : (history : List Entry) (g h : Graph) → AreMade g → Leads g history h → AreMade h
leads_made [] g h made led = subst AreMade (sym led) made
leads_made (entry ∷ rest) g h made led = leads_made rest led.0 h (names_stay_made g entry led.0 made led.1) led.2

-- each name in a graph that a history leaves is that of an object that was made
pub made_after : (limits : Limits) (threads : ℕ) (history : List Entry) (g : Graph) → Leads (opening limits threads) history g → AreMade g
made_after limits threads history g led = leads_made history (opening limits threads) g (opening_made limits threads) led

-- ---- what is known

none_known : (name : Name) → IsKnown empty name → ⊥
none_known name h = true≢false (sym h ∙ ap is_some (get-empty name_cmp name))

-- nothing is known as a heap opens
pub private_first : (limits : Limits) (threads t : ℕ) → PrivateAfter limits threads [] t empty
private_first limits threads t = record {
  alone = λ g led. record {
    contents = λ name h. absurd (none_known name h);
    stacks = λ name h. absurd (none_known name h);
    fields = λ name h. absurd (none_known name h);
  };
  fits = λ name content e. absurd (none_known name (ap is_some e));
}

module _ (limits : Limits) (threads : ℕ) (history : List Entry) (t : ℕ) (event : Event) (legal : IsLegal limits threads (history ++ entries_told t event)) where
  abbrev entry : Entry
  entry = Said t event.call event.reply

  -- the graph before the call, and the one after it
  pub around : (before : Graph) × (after : Graph) × Leads (opening limits threads) history before × Moves before entry after × Leads (opening limits threads) (history ++ entries_told t event) after
  around =
      let cut = leads_between (opening limits threads) legal.0 history (entries_told t event) legal.1 in
      (cut.0, legal.0, cut.1, leads_said event.collected t event.call event.reply cut.0 legal.0 cut.2, legal.1)

  -- what is known after the call
  pub becomes_known : (u : ℕ) (known : KnownObjects) → (after : KnownObjects) × BecomesKnown limits threads history u known entry after
  unfolding around
  becomes_known u known =
      let some = something_is_known around.0 u known entry in
      (some.0, λ g led. subst (λ (x : Graph). KnownAfter x u known entry some.0) (leads_unique history (opening limits threads) around.0 g around.2 led) some.1)

  pub private_more : (u : ℕ) (known after : KnownObjects) → OBJECT_WORDS ≤ limits.page → PrivateAfter limits threads history u known → BecomesKnown limits threads history u known entry after
      → PrivateAfter limits threads (history ++ entries_told t event) u after
  unfolding around
  private_more u known after room was becomes = record {
    alone = λ g led.
        let cut = leads_between (opening limits threads) g history (entries_told t event) led in
        privacy_is_kept cut.0 entry g u known after (made_after limits threads history cut.0 cut.1) (leads_said event.collected t event.call event.reply cut.0 g cut.2) (was.alone cut.0 cut.1) (becomes cut.0 cut.1);
    fits =
        let same : around.0.limits ≡ limits = limits_after limits threads history around.0 around.2 in
        subst (λ l. FitPages l after) same
        (fitting_is_kept around.0 entry around.1 u known after (subst (λ l. OBJECT_WORDS ≤ l.page) (sym same) room) around.3 (subst (λ l. FitPages l known) (sym same) was.fits) (becomes around.0 around.2));
  }

  -- another thread knows what it knew
  pub private_others : (u : ℕ) (known : KnownObjects) → t ≢ u → OBJECT_WORDS ≤ limits.page → PrivateAfter limits threads history u known → PrivateAfter limits threads (history ++ entries_told t event) u known
  private_others u known apart room was = private_more u known known room was (λ g led. ((λ same. absurd (apart same)), (λ _. refl)))
