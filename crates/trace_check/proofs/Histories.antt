-- Histories that traces tell, entry by entry.
use Rattle.std.proofs.Common.{◌≡◌, ◌⊎◌, ℕ, List, [], ◌∷◌, ◌++◌, Bool, true, false, Result, Ok, Err, IfOk, length, refl, sym, ap, subst, ◌∙◌, inl, inr, Option, Some, None}
use Rattle.std.proofs.lemmas.List.{length-replicate}
use Rattle.std.specs.Prelude.{MatchOption}
use Rattle.object_layout.specs.declared.replies.Reply.{Reply}
use Rattle.object_layout.specs.declared.replies.Reply.TheVariants as reply
use Rattle.script_text.specs.ScriptContents.{ScriptContents}
use Rattle.object_layout.specs.declared.calls.Call.{Call}
use Rattle.object_layout.specs.declared.calls.Call.TheVariants as call
use Rattle.object_layout.specs.declared.replies.Refusal.{Refusal}
use Rattle.yak_model.specs.declared.datum.Datum.{Datum}
use Rattle.yak_model.specs.declared.datum.Datum.TheVariants as datum
use Rattle.yak_model.specs.Graph.{Does, Graph, put_field, refusal_of, slot_of, standard_limits}
use Rattle.yak_model.specs.declared.history.Entry as history
use Rattle.yak_model.specs.declared.history.Entry.TheVariants as happened
use Rattle.yak_model.specs.Lawful.{BeginsWithCause, EndsAsked, EndsCollected, IsReplyLawful}
use Rattle.yak_model.specs.Machine.{CanTurn}
use Rattle.yak_model.specs.Spaces.{SpaceState, Turns, opening_spaces, spaces}
use Rattle.yak_model.specs.Unique.{StatesAreUnique}
use Rattle.yak_model.proofs.Turned.{turns_more, turns_unique}
use Rattle.trace_check.specs.declared.traces.Entry.{Entry}
use Rattle.trace_check.specs.declared.traces.Step.{Step}
use Rattle.trace_check.specs.Traces.{history_of}
use Rattle.trace_check.specs.Breaks.{AllContinue, Continues, EachTells, HasRoom, Leaves}
use Rattle.trace_check.specs.Cursors.{PointAtNext}
use Rattle.trace_check.specs.Progress.{HasBegun, IsAt, Names}
use Rattle.trace_check.specs.Steps.{IsLast, MayFollow, entry_of, last_alone}
use Rattle.trace_check.proofs.Ends.{last_is, one_is}
use Rattle.trace_check.proofs.Naming.{history_more}

-- ---- lists

-- where an element of a list with one more stands
pub snoc_cases : {A : Type 0} (xs : List A) (x : A) (before : List A) (e : A) (rest : List A) → xs ++ x ∷ [] ≡ before ++ e ∷ rest
    → ((middle : List A) × (xs ≡ before ++ e ∷ middle) × (rest ≡ middle ++ x ∷ [])) ⊎ ((before ≡ xs) × (e ≡ x) × (rest ≡ []))
snoc_cases [] x [] e rest q = let heads : x ≡ e = cc q in let tails : [] ≡ rest = cc q in inr (refl, sym heads, sym tails)
snoc_cases [] x (y ∷ []) e rest q = absurd (cc q)
snoc_cases [] x (y ∷ z ∷ before) e rest q = absurd (cc q)
snoc_cases {A} (z ∷ xs) x [] e rest q =
    let heads : z ≡ e = cc q in
    let tails : xs ++ x ∷ [] ≡ rest = cc q in
    inl (xs, ap (λ (h : A). h ∷ xs) heads, sym tails)
snoc_cases {A} (z ∷ xs) x (y ∷ before) e rest q =
    let heads : z ≡ y = cc q in
    let tails : xs ++ x ∷ [] ≡ before ++ e ∷ rest = cc q in
    elim (snoc_cases xs x before e rest tails) [
      | inl (middle, whole, after) ↦ inl (middle, (λ i. heads i ∷ whole i), after)
      | inr (is, same, none) ↦ inr ((λ i. sym heads i ∷ is i), same, none)
    ]

pub none_first : {A : Type 0} (before : List A) (e : A) (rest : List A) → [] ≡ before ++ e ∷ rest → ⊥
none_first [] e rest q = cc q
none_first (x ∷ before) e rest q = cc q

-- ---- the end of a history, as the last step tells it

collected_alone : (whole : List history.Entry) (last : Option Step) → IsLast whole last → (t : ℕ) → EndsCollected whole t → EndsCollected (last_alone last) t
collected_alone whole None is t ends = absurd (none_first ends.0 _ [] (sym is ∙ ends.1))
collected_alone whole (Some step) is t ends = ([], ap (λ (e : history.Entry). e ∷ []) (last_is is.0 ends.0 (entry_of step) (happened.Collected t) (sym is.1 ∙ ends.1)))

collected_after : (whole : List history.Entry) (last : Option Step) → IsLast whole last → (t : ℕ) → EndsCollected (last_alone last) t → EndsCollected whole t
collected_after whole None is t ends = absurd (none_first ends.0 _ [] ends.1)
collected_after whole (Some step) is t ends = (is.0, is.1 ∙ ap (λ (e : history.Entry). is.0 ++ e ∷ []) (one_is ends.0 (entry_of step) (happened.Collected t) ends.1))

asked_alone : (whole : List history.Entry) (last : Option Step) → IsLast whole last → EndsAsked whole → EndsAsked (last_alone last)
asked_alone whole None is ends = absurd (none_first ends.0 _ [] (sym is ∙ ends.2))
asked_alone whole (Some step) is ends = ([], ends.1, ap (λ (e : history.Entry). e ∷ []) (last_is is.0 ends.0 (entry_of step) _ (sym is.1 ∙ ends.2)))

asked_after : (whole : List history.Entry) (last : Option Step) → IsLast whole last → EndsAsked (last_alone last) → EndsAsked whole
asked_after whole None is ends = absurd (none_first ends.0 _ [] ends.2)
asked_after whole (Some step) is ends = (is.0, ends.1, is.1 ∙ ap (λ (e : history.Entry). is.0 ++ e ∷ []) (one_is ends.0 (entry_of step) _ ends.2))

reply_between : (pages : ℕ) (one other : List history.Entry) (s : SpaceState) (t : ℕ) (said : Reply) → ((u : ℕ) → EndsCollected one u → EndsCollected other u) → (EndsAsked other → EndsAsked one)
    → IsReplyLawful pages one s t said → IsReplyLawful pages other s t said
reply_between pages one other s t reply.OutOfHeap to from h = (to t h.0, h.1)
reply_between pages one other s t (reply.Ended moved true) to from h = (to t h.0, h.1)
reply_between pages one other s t (reply.Ended moved false) to from h = tt
reply_between pages one other s t (reply.Pages free region control) to from h = record {
  all = h.all;
  control_fits = h.control_fits;
  region_fits = h.region_fits;
  region_packed = h.region_packed;
  control_packed = λ asked. h.control_packed (from asked);
}
reply_between pages one other s t reply.Ok to from h = tt
reply_between pages one other s t reply.Null to from h = tt
reply_between pages one other s t (reply.Int i) to from h = tt
reply_between pages one other s t (reply.Object k) to from h = tt
reply_between pages one other s t reply.Yes to from h = tt
reply_between pages one other s t reply.No to from h = tt
reply_between pages one other s t (reply.Refused why) to from h = tt

room_between : (pages : ℕ) (one other : List history.Entry) (s : SpaceState) (e : history.Entry) → ((u : ℕ) → EndsCollected one u → EndsCollected other u) → (EndsAsked other → EndsAsked one)
    → HasRoom pages one s e → HasRoom pages other s e
room_between pages one other s (happened.Said t asked said) to from h = reply_between pages one other s t said to from h
room_between pages one other s (happened.Collected t) to from h = tt

-- ---- the limits of a state

does_limits : (g : Graph) (t : ℕ) (asked : Call) (said : Reply) (h : Graph) → Does g t asked said h → h.limits ≡ g.limits
does_limits g t (call.Int i) said h d = ap (λ (x : Graph). x.limits) d.1
does_limits g t call.Null said h d = ap (λ (x : Graph). x.limits) d.1
does_limits g t (call.Dup s) said h d = ap (λ (x : Graph). x.limits) d.1
does_limits g t call.Pop said h d = ap (λ (x : Graph). x.limits) d.1
does_limits g t (call.New k) said h d = elim d [ inl made ↦ ap (λ (x : Graph). x.limits) made.1 | inr full ↦ ap (λ (x : Graph). x.limits) full.1 ]
does_limits g t (call.Load s f) said h d = ap (λ (x : Graph). x.limits) d.1
does_limits g t (call.Store s f x) said h d = ap (λ (y : Graph). y.limits) d.1 ∙ put_limits (slot_of g t s) f (slot_of g t x)
  where
    put_limits : (value : Datum) (f : ℕ) (new : Datum) → (put_field g value f new).limits ≡ g.limits
    put_limits datum.Null f new = refl
    put_limits (datum.Int i) f new = refl
    put_limits (datum.Object name) f new = refl
does_limits g t (call.Get s) said h d = ap (λ (x : Graph). x.limits) d.1
does_limits g t (call.Same s x) said h d = ap (λ (y : Graph). y.limits) d.1
does_limits g t call.Begin said h d = ap (λ (x : Graph). x.limits) d.1
does_limits g t call.End said h d = ap (λ (x : Graph). x.limits) d.1
does_limits g t call.Collect said h d = ap (λ (x : Graph). x.limits) d.1
does_limits g t call.Census said h d = ap (λ (x : Graph). x.limits) d.1

answer_limits : (g : Graph) (t : ℕ) (asked : Call) (said : Reply) (h : Graph) (why : Option Refusal) → MatchOption why (Does g t asked said h) (λ why. (said ≡ reply.Refused why) × (h ≡ g)) → h.limits ≡ g.limits
answer_limits g t asked said h None d = does_limits g t asked said h d
answer_limits g t asked said h (Some why) r = ap (λ (x : Graph). x.limits) r.1

turn_limits : (s : SpaceState) (e : history.Entry) (after : SpaceState) → Turns s e after → after.graph.limits ≡ s.graph.limits
turn_limits s (happened.Said t call.End (reply.Ended moved tight)) after turns = ap (λ (g : Graph). g.limits) turns.1.rest
turn_limits s (happened.Said t call.Collect reply.Ok) after turns = ap (λ (g : Graph). g.limits) turns.1.rest
turn_limits s (happened.Said t asked said) after turns = answer_limits s.graph t asked said after.graph (refusal_of s.graph t asked) turns.1
turn_limits s (happened.Collected t) after turns = ap (λ (g : Graph). g.limits) turns.1.rest

-- ---- one more entry

module _ (unique : StatesAreUnique) (script : ScriptContents) (before : List Entry) (s : SpaceState) (last : Option Step) (cursors : List ℕ) (at : IsAt script before s last cursors) where
  abbrev so_far : List history.Entry
  so_far = history_of script.lines before

  abbrev start : SpaceState
  start = opening_spaces standard_limits script.heap.threads

  module _ (next : Entry) (step : Step) (names : Names script.lines before next step) where
    -- it goes on
    pub continues : (after : SpaceState) → MayFollow script.heap.pages last s step → Turns s (entry_of step) after → Continues script before next
    continues after may turns = record {
      named = names.named;
      step = entry_of step;
      tells = names.tells;
      caused = λ t ends. may.caused t (collected_alone so_far last at.ends t ends);
      allowed = λ other leaves.
          let same : s ≡ other = turns_unique unique so_far start s other at.state leaves in
          subst (λ (x : SpaceState). CanTurn x (entry_of step) × HasRoom script.heap.pages so_far x (entry_of step)) same
          ((after, turns), room_between script.heap.pages (last_alone last) so_far s (entry_of step) (collected_after so_far last at.ends) (asked_alone so_far last at.ends) may.room);
    }

    -- or breaks
    pub breaks : (MayFollow script.heap.pages last s step → CanTurn s (entry_of step) → ⊥) → Continues script before next → ⊥
    breaks denied goes =
        let same : goes.step ≡ entry_of step = cc (goes.tells, names.tells) in
        let allowed = subst (λ (e : history.Entry). CanTurn s e × HasRoom script.heap.pages so_far s e) same (goes.allowed s at.state) in
        denied
        (record {
          caused = λ t ends. subst (λ (e : history.Entry). BeginsWithCause (e ∷ []) t) same (goes.caused t (collected_after so_far last at.ends t ends));
          room = room_between script.heap.pages so_far (last_alone last) s (entry_of step) (collected_alone so_far last at.ends) (asked_after so_far last at.ends) allowed.1;
        })
        allowed.0

    module _ (after : SpaceState) (may : MayFollow script.heap.pages last s step) (turns : Turns s (entry_of step) after) where
      all_continue : AllContinue script (before ++ next ∷ [])
      all_continue former e rest is =
          elim (snoc_cases before next former e rest is) [
            | inl (middle, whole, later) ↦ at.goes former e middle whole
            | inr (whole, same, none) ↦ subst (λ (b : List Entry). Continues script b e) (sym whole) (subst (Continues script before) (sym same) (continues after may turns))
          ]

      each_more : (es : List Entry) → EachTells script.lines es → EachTells script.lines (es ++ next ∷ [])
      each_more [] each = ((entry_of step, names.tells), tt)
      each_more (e ∷ es) each = (each.0, each_more es each.1)

      more : history_of script.lines (before ++ next ∷ []) ≡ so_far ++ entry_of step ∷ []
      more = history_more script.lines before next (entry_of step) names.tells

      leaves_more : Leaves script (before ++ next ∷ []) after
      leaves_more =
          subst (λ (l : List history.Entry). spaces standard_limits script.heap.threads l after) (sym more)
          (turns_more start s after so_far (entry_of step ∷ []) at.state (after, turns, refl))

      begun_more : HasBegun script.heap.pages script.heap.threads (history_of script.lines (before ++ next ∷ []))
      begun_more former e rest x is leaves =
          elim (snoc_cases so_far (entry_of step) former e rest (sym more ∙ is)) [
            | inl (middle, whole, later) ↦
                let old = at.begun former e middle x whole leaves in
                (old.0, λ t same none. caused_more former e middle rest t whole later same (old.1 t same))
            | inr (whole, same, none) ↦
                let known : spaces standard_limits script.heap.threads so_far x = subst (λ (l : List history.Entry). spaces standard_limits script.heap.threads l x) whole leaves in
                let state : s ≡ x = turns_unique unique so_far start s x at.state known in
                let room : HasRoom script.heap.pages so_far s (entry_of step) =
                room_between script.heap.pages (last_alone last) so_far s (entry_of step) (collected_after so_far last at.ends) (asked_alone so_far last at.ends) may.room in
                let there : HasRoom script.heap.pages former x e =
                subst (λ (l : List history.Entry). HasRoom script.heap.pages l x e) (sym whole)
                (subst (λ (y : SpaceState). HasRoom script.heap.pages so_far y e) state (subst (HasRoom script.heap.pages so_far s) (sym same) room)) in
                (there, λ t is_it some. absurd (some none))
          ]
        where
          cause_with : (r : List history.Entry) (t : ℕ) → BeginsWithCause r t → BeginsWithCause (r ++ entry_of step ∷ []) t
          cause_with r t (inl (k, said, later, is, which)) = inl (k, said, later ++ entry_of step ∷ [], ap (λ (l : List history.Entry). l ++ entry_of step ∷ []) is, which)
          cause_with r t (inr (moved, tight, later, is)) = inr (moved, tight, later ++ entry_of step ∷ [], ap (λ (l : List history.Entry). l ++ entry_of step ∷ []) is)

          caused_more : (former : List history.Entry) (e : history.Entry) (middle rest : List history.Entry) (t : ℕ) → so_far ≡ former ++ e ∷ middle → rest ≡ middle ++ entry_of step ∷ []
              → e ≡ happened.Collected t → ((middle ≡ [] → ⊥) → BeginsWithCause middle t) → BeginsWithCause rest t
          caused_more former e [] rest t whole later same old =
              let ends : EndsCollected so_far t = (former, whole ∙ ap (λ (x : history.Entry). former ++ x ∷ []) same) in
              subst (λ (l : List history.Entry). BeginsWithCause l t) (sym later) (may.caused t (collected_alone so_far last at.ends t ends))
          caused_more former e (m ∷ middle) rest t whole later same old =
              subst (λ (l : List history.Entry). BeginsWithCause l t) (sym later) (cause_with (m ∷ middle) t (old (λ none. cc none)))

      pub at_more : (pointed : List ℕ) → PointAtNext script.lines script.heap.threads (before ++ next ∷ []) pointed → length after.graph.threads ≡ length s.graph.threads
          → IsAt script (before ++ next ∷ []) after (Some step) pointed
      at_more pointed points same = record {
        goes = all_continue;
        each = each_more before at.each;
        state = leaves_more;
        ends = (so_far, more);
        points = points;
        begun = begun_more;
        threads = same ∙ at.threads;
        limits = turn_limits s (entry_of step) after turns ∙ at.limits;
      }

-- no entries
pub at_opened : (script : ScriptContents) (s : SpaceState) (cursors : List ℕ) → s ≡ opening_spaces standard_limits script.heap.threads → PointAtNext script.lines script.heap.threads [] cursors → IsAt script [] s None cursors
at_opened script s cursors is points = record {
  goes = λ before next rest none. absurd (none_first before next rest none);
  each = tt;
  state = is;
  ends = refl;
  points = points;
  begun = λ before e rest x none leaves. absurd (none_first before e rest none);
  threads = ap (λ (x : SpaceState). length x.graph.threads) is ∙ length-replicate script.heap.threads _;
  limits = ap (λ (x : SpaceState). x.graph.limits) is;
}

-- nothing is left untold where no collection stands last and no thread has a line left
pub settled_is : (script : ScriptContents) (entries : List Entry) (s : SpaceState) (last : Option Step) (cursors : List ℕ) → IsAt script entries s last cursors
    → (((t : ℕ) → EndsCollected (last_alone last) t → ⊥) → (t : ℕ) → EndsCollected (history_of script.lines entries) t → ⊥)
    × (((t : ℕ) → EndsCollected (history_of script.lines entries) t → ⊥) → (t : ℕ) → EndsCollected (last_alone last) t → ⊥)
settled_is script entries s last cursors at =
    let whole = history_of script.lines entries in
    (λ none t ends. none t (collected_alone whole last at.ends t ends), λ none t ends. none t (collected_after whole last at.ends t ends))

-- a step that was taken
module _ (unique : StatesAreUnique) (script : ScriptContents) (before : List Entry) (s : SpaceState) (last : Option Step) (cursors : List ℕ) (at : IsAt script before s last cursors) (next : Entry) (step : Step) (names : Names script.lines before next step) where
  pub taken : {E : Type 0} (after : SpaceState) (pointed : List ℕ) (r : Result Bool E) → PointAtNext script.lines script.heap.threads (before ++ next ∷ []) pointed → length after.graph.threads ≡ length s.graph.threads
      → IfOk r (λ done. done ≡ true → MayFollow script.heap.pages last s step) → IfOk r (λ done. done ≡ true → Turns s (entry_of step) after) → r ≡ Ok true → IsAt script (before ++ next ∷ []) after (Some step) pointed
  taken after pointed (Ok b) points same may turns is =
      let yes : b ≡ true = cc is in
      at_more unique script before s last cursors at next step names after (may yes) (turns yes) pointed points same
  taken after pointed (Err e) points same may turns is = absurd (cc is)

  pub not_taken : {E : Type 0} (r : Result Bool E) → IfOk r (λ done. done ≡ false → MayFollow script.heap.pages last s step → CanTurn s (entry_of step) → ⊥) → r ≡ Ok false → Continues script before next → ⊥
  not_taken (Ok b) denied is = let no : b ≡ false = cc is in breaks unique script before s last cursors at next step names (denied no)
  not_taken (Err e) denied is = absurd (cc is)
