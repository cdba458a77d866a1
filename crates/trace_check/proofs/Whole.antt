-- Traces that break nowhere are the lawful ones.
use Rattle.std.proofs.Common.{◌≡◌, ◌⊎◌, ℕ, ◌+◌, ◌-◌, ◌≤◌, ◌<◌, Bool, true, false, ◌&&◌, List, [], ◌∷◌, ◌++◌, length, drop, map, refl, sym, ap, subst, ◌∙◌, inl, inr, arith, Option, append_assoc}
use Rattle.std.specs.Prelude.{MatchBool, slice_index}
use Rattle.std.proofs.lemmas.Bool.{cases_lt}
use Rattle.std.proofs.lemmas.List.{append-nil, append_cancel_left}
use Rattle.script_text.specs.declared.scripts.Line.{Line}
use Rattle.script_text.specs.ScriptContents.{ScriptContents}
use Rattle.script_text.specs.Printing.{Rises}
use Rattle.yak_model.specs.Agreement.{MachinesAgree}
use Rattle.yak_model.specs.Graph.{standard_limits}
use Rattle.yak_model.specs.declared.history.Entry as history
use Rattle.yak_model.specs.declared.history.Entry.TheVariants as happened
use Rattle.yak_model.specs.Lawful.{BeginsWithCause, EndsCollected, IsEntryLawful}
use Rattle.yak_model.specs.Machine.{CanTurn}
use Rattle.yak_model.specs.Spaces.{SpaceState, opening_spaces, spaces}
use Rattle.yak_model.specs.Unique.{StatesAreUnique}
use Rattle.yak_model.proofs.Turned.{turns_between, turns_unique}
use Rattle.trace_check.specs.declared.traces.Entry.{Entry}
use Rattle.trace_check.specs.declared.traces.Entry.TheVariants as entry
use Rattle.trace_check.specs.declared.traces.Step.{Step}
use Rattle.trace_check.specs.Traces.{all_named, history_of, lines_at, named, own, told}
use Rattle.trace_check.specs.Breaks.{Continues, EachTells, HasRoom, IsLawfulTrace, IsWhole, NamesNext, TraceBreaksAt}
use Rattle.trace_check.specs.Progress.{IsAt}
use Rattle.trace_check.specs.Steps.{last_alone}
use Rattle.trace_check.proofs.Histories.{settled_is}
use Rattle.trace_check.proofs.Naming.{history_append, line_of_number, named_append, own_append, own_at_end, own_first, own_from, rises_in}

entry_lawful : (pages : ℕ) (before : List history.Entry) (s : SpaceState) (e : history.Entry) (rest : List history.Entry) → HasRoom pages before s e → ((t : ℕ) → e ≡ happened.Collected t → BeginsWithCause rest t) → IsEntryLawful pages before s e rest
entry_lawful pages before s (happened.Said t asked said) rest room caused = room
entry_lawful pages before s (happened.Collected t) rest room caused = caused t refl

room_of : (pages : ℕ) (before : List history.Entry) (s : SpaceState) (e : history.Entry) (rest : List history.Entry) → IsEntryLawful pages before s e rest → HasRoom pages before s e
room_of pages before s (happened.Said t asked said) rest lawful = lawful
room_of pages before s (happened.Collected t) rest lawful = tt

-- a whole trace that goes on to its end is lawful
pub lawful_whole : MachinesAgree → (script : ScriptContents) (entries : List Entry) (s : SpaceState) (last : Option Step) (cursors : List ℕ) → IsAt script entries s last cursors → IsWhole script entries → IsLawfulTrace script entries
lawful_whole agree script entries s last cursors at whole =
    let agreed = agree standard_limits script.heap.threads (history_of script.lines entries) s at.state in
    record {
      each = at.each;
      order = whole.named;
      lawful = record {
        legal = (agreed.0, agreed.1);
        defined = (s, at.state);
        entries = λ before rest e x is leaves.
            let begun = at.begun before e rest x is leaves in
            entry_lawful script.heap.pages before x e rest begun.0 (λ t same. begun.1 t same (λ none. whole.settled t (before, is ∙ (λ i. before ++ same i ∷ none i))));
      };
    }

none_after : (t : ℕ) → BeginsWithCause [] t → ⊥
none_after t (inl (k, said, later, is, which)) = cc is
none_after t (inr (moved, tight, later, is)) = cc is

cause_first : (step : history.Entry) (rest : List history.Entry) (t : ℕ) → BeginsWithCause (step ∷ rest) t → BeginsWithCause (step ∷ []) t
cause_first step rest t (inl (k, said, later, is, which)) = let same : step ≡ happened.Said t _ said = cc is in inl (k, said, [], ap (λ (e : history.Entry). e ∷ []) same, which)
cause_first step rest t (inr (moved, tight, later, is)) = let same : step ≡ happened.Said t _ _ = cc is in inr (moved, tight, [], ap (λ (e : history.Entry). e ∷ []) same)

tells_at : (lines : List Line) (before : List Entry) (next : Entry) (rest : List Entry) → EachTells lines (before ++ next ∷ rest) → (step : history.Entry) × (told lines next ≡ step ∷ [])
tells_at lines [] next rest each = each.0
tells_at lines (e ∷ before) next rest each = tells_at lines before next rest each.1

one_line : (f : Line → history.Entry) (lines : List Line) (step : history.Entry) → map f lines ≡ step ∷ [] → (line : Line) × (lines ≡ line ∷ [])
one_line f [] step is = absurd (cc is)
one_line f (line ∷ []) step is = (line, refl)
one_line f (line ∷ other ∷ lines) step is = absurd (cc is)

module _ (unique : StatesAreUnique) (script : ScriptContents) (rise : Rises script.heap.threads 2 script.lines) (entries : List Entry) (lawful : IsLawfulTrace script entries) where
  abbrev start : SpaceState
  start = opening_spaces standard_limits script.heap.threads

  pub whole_lawful : IsWhole script entries
  whole_lawful = record {
    settled = λ t ends.
        let is : history_of script.lines entries ≡ ends.0 ++ happened.Collected t ∷ [] = ends.1 in
        let end = lawful.lawful.defined in
        let between = turns_between start end.0 ends.0 (happened.Collected t ∷ []) (subst (λ (l : List history.Entry). spaces standard_limits script.heap.threads l end.0) is end.1) in
        none_after t (lawful.lawful.entries ends.0 [] (happened.Collected t) between.0 is between.1);
    named = lawful.order;
  }

  module _ (before : List Entry) (next : Entry) (rest : List Entry) (is : entries ≡ before ++ next ∷ rest) where
    abbrev former : List history.Entry
    former = history_of script.lines before

    tells : (step : history.Entry) × (told script.lines next ≡ step ∷ [])
    tells = tells_at script.lines before next rest (subst (EachTells script.lines) is lawful.each)

    history_is : history_of script.lines entries ≡ former ++ tells.0 ∷ history_of script.lines rest
    history_is =
        ap (history_of script.lines) is ∙ history_append script.lines before (next ∷ rest)
        ∙ ap (λ (l : List history.Entry). former ++ (l ++ history_of script.lines rest)) tells.1

    -- the state that the entries before leave, and from which this one turns
    between : (s : SpaceState) → spaces standard_limits script.heap.threads former s → CanTurn s tells.0
    between s leaves =
        let end = lawful.lawful.defined in
        let parts = turns_between start end.0 former (tells.0 ∷ history_of script.lines rest) (subst (λ (l : List history.Entry). spaces standard_limits script.heap.threads l end.0) history_is end.1) in
        let same : parts.0 ≡ s = turns_unique unique former start parts.0 s parts.1 leaves in
        subst (λ (x : SpaceState). CanTurn x tells.0) same (parts.2.0, parts.2.1)

    names : NamesNext script.lines before next
    names = by_entry next refl
      where
        by_entry : (e : Entry) → next ≡ e → NamesNext script.lines before e
        by_entry (entry.Collected t) same = tt
        by_entry (entry.Said number said) same =
            let told_so : told script.lines (entry.Said number said) ≡ tells.0 ∷ [] = subst (λ (e : Entry). told script.lines e ≡ tells.0 ∷ []) same tells.1 in
            let found = one_line (λ (l : Line). happened.Said l.thread l.call said) (lines_at script.lines number) tells.0 told_so in
            let line = found.0 in
            let t = line.thread in
            let of = rises_in script.heap.threads 2 script.lines line rise (line_of_number script.lines number line found.1).0 in
            let all : own t (all_named script.lines entries) ≡ own t (all_named script.lines before) ++ line ∷ own t (all_named script.lines rest) =
            ap (λ (es : List Entry). own t (all_named script.lines es)) (is ∙ ap (λ (e : Entry). before ++ e ∷ rest) same)
            ∙ ap (own t) (named_append script.lines before (entry.Said number said ∷ rest))
            ∙ own_append t (all_named script.lines before) (lines_at script.lines number ++ all_named script.lines rest)
            ∙ ap (λ (l : List Line). own t (all_named script.lines before) ++ own t (l ++ all_named script.lines rest)) found.1
            ∙ ap (λ (l : List Line). own t (all_named script.lines before) ++ l) (own_first t line (all_named script.lines rest) refl) in
            (line, own t (all_named script.lines rest), found.1, sym (lawful.order t of.some of.few) ∙ all)

    pub continues_lawful : Continues script before next
    continues_lawful = record {
      named = names;
      step = tells.0;
      tells = tells.1;
      caused = λ t ends.
          let whole : history_of script.lines entries ≡ ends.0 ++ happened.Collected t ∷ tells.0 ∷ history_of script.lines rest =
          history_is ∙ ap (λ (l : List history.Entry). l ++ tells.0 ∷ history_of script.lines rest) ends.1 ∙ append_assoc ends.0 (happened.Collected t ∷ []) (tells.0 ∷ history_of script.lines rest) in
          let end = lawful.lawful.defined in
          let parts = turns_between start end.0 ends.0 (happened.Collected t ∷ tells.0 ∷ history_of script.lines rest) (subst (λ (l : List history.Entry). spaces standard_limits script.heap.threads l end.0) whole end.1) in
          cause_first tells.0 (history_of script.lines rest) t (lawful.lawful.entries ends.0 (tells.0 ∷ history_of script.lines rest) (happened.Collected t) parts.0 whole parts.1);
      allowed = λ s leaves. (
        between s leaves,
        room_of script.heap.pages former s tells.0 (history_of script.lines rest) (lawful.lawful.entries former (history_of script.lines rest) tells.0 s history_is leaves),
      );
    }

-- a lawful trace breaks nowhere
pub never_breaks : StatesAreUnique → (script : ScriptContents) → Rises script.heap.threads 2 script.lines → (entries : List Entry) (k : ℕ) → IsLawfulTrace script entries → TraceBreaksAt script entries k → ⊥
never_breaks unique script rise entries k lawful (inl (before, next, rest, is, goes, breaks, place)) = breaks (continues_lawful unique script rise entries lawful before next rest is)
never_breaks unique script rise entries k lawful (inr (goes, not_whole, place)) = not_whole (whole_lawful unique script rise entries lawful)

-- ---- where no thread has a line left

module _ (script : ScriptContents) (entries : List Entry) (s : SpaceState) (last : Option Step) (cursors : List ℕ) (at : IsAt script entries s last cursors) where
  named_all : ((i : ℕ) → i < length cursors → length script.lines ≤ slice_index cursors i) → (t : ℕ) → 1 ≤ t → t ≤ script.heap.threads → own t (all_named script.lines entries) ≡ own t script.lines
  named_all ended t some few =
      let i = t - 1 in
      let is : i + 1 ≡ t = omega (arith, some) in
      let lt : i < script.heap.threads = omega (arith, some, few) in
      let none : own (i + 1) (drop (slice_index cursors i) script.lines) ≡ [] = own_at_end script.lines (i + 1) (slice_index cursors i) (ended i (omega (arith, lt, at.points.count))) in
      subst (λ (u : ℕ). own u (all_named script.lines entries) ≡ own u script.lines) is
      (sym (at.points.split i lt ∙ ap (λ (l : List Line). own (i + 1) (all_named script.lines entries) ++ l) none ∙ append-nil (own (i + 1) (all_named script.lines entries))))

  ended_all : ((t : ℕ) → 1 ≤ t → t ≤ script.heap.threads → own t (all_named script.lines entries) ≡ own t script.lines) → (i : ℕ) → i < length cursors → length script.lines ≤ slice_index cursors i
  ended_all named i known =
      let lt : i < script.heap.threads = omega (arith, known, at.points.count) in
      let both : own (i + 1) (all_named script.lines entries) ++ own (i + 1) (drop (slice_index cursors i) script.lines) ≡ own (i + 1) (all_named script.lines entries) ++ [] =
      sym (at.points.split i lt) ∙ sym (named (i + 1) (omega arith) (omega (arith, lt))) ∙ sym (append-nil (own (i + 1) (all_named script.lines entries))) in
      let none : own (i + 1) (drop (slice_index cursors i) script.lines) ≡ [] = append_cancel_left (own (i + 1) (all_named script.lines entries)) _ _ both in
      elim (cases_lt (slice_index cursors i) (length script.lines)) [
        | inl within ↦ absurd (some_is (sym (own_from script.lines (i + 1) (slice_index cursors i) within ((at.points.places i lt).own_line within)) ∙ none))
        | inr end ↦ end
      ]
    where
      some_is : {x : Line} {l : List Line} → x ∷ l ≡ [] → ⊥
      some_is e = cc e

  pub whole_by : (settled all : Bool) → MatchBool settled ((t : ℕ) → EndsCollected (last_alone last) t → ⊥) (((t : ℕ) → EndsCollected (last_alone last) t → ⊥) → ⊥)
      → MatchBool all ((i : ℕ) → i < length cursors → length script.lines ≤ slice_index cursors i) (((i : ℕ) → i < length cursors → length script.lines ≤ slice_index cursors i) → ⊥)
      → MatchBool (settled && all) (IsWhole script entries) (IsWhole script entries → ⊥)
  whole_by true true no_last ended = record { settled = (settled_is script entries s last cursors at).0 no_last; named = named_all ended }
  whole_by true false no_last ended = λ whole. ended (ended_all whole.named)
  whole_by false all no_last ended = λ whole. no_last ((settled_is script entries s last cursors at).1 whole.settled)

-- ---- a trace breaks at one place

-- of two entries of one list, the one stands in front of the other, or they are at one place
front_or_same : {A : Type 0} (a : List A) (x : A) (r b : List A) (y : A) (q : List A) → a ++ x ∷ r ≡ b ++ y ∷ q → ((m : List A) × (b ≡ a ++ x ∷ m)) ⊎ (((m : List A) × (a ≡ b ++ y ∷ m)) ⊎ ((a ≡ b) × (x ≡ y)))
front_or_same [] x r [] y q e = let h : x ≡ y = cc e in inr (inr (refl, h))
front_or_same {A} [] x r (z ∷ b) y q e = let h : z ≡ x = cc e in inl (b, ap (λ (w : A). w ∷ b) h)
front_or_same {A} (z ∷ a) x r [] y q e = let h : z ≡ y = cc e in inr (inl (a, ap (λ (w : A). w ∷ a) h))
front_or_same {A} (z ∷ a) x r (w ∷ b) y q e =
    let h : z ≡ w = cc e in
    let t : a ++ x ∷ r ≡ b ++ y ∷ q = cc e in
    elim (front_or_same a x r b y q t) [
      | inl (m, is) ↦ inl (m, λ i. sym h i ∷ is i)
      | inr (inl (m, is)) ↦ inr (inl (m, λ i. h i ∷ is i))
      | inr (inr (same, first)) ↦ inr (inr ((λ i. h i ∷ same i), first))
    ]

-- a trace breaks at one place
pub one_break : (script : ScriptContents) (entries : List Entry) (j k : ℕ) → TraceBreaksAt script entries j → TraceBreaksAt script entries k → j ≡ k
one_break script entries j k (inl (a, x, r, is, goes, breaks, at)) (inl (b, y, q, was, goes', breaks', at')) =
    elim (front_or_same a x r b y q (sym is ∙ was)) [
      | inl (m, front) ↦ absurd (breaks (goes' a x m front))
      | inr (inl (m, front)) ↦ absurd (breaks' (goes b y m front))
      | inr (inr (same, first)) ↦ at ∙ ap (λ (l : List Entry). length l + 1) same ∙ sym at'
    ]
one_break script entries j k (inl (a, x, r, is, goes, breaks, at)) (inr (goes', not_whole, at')) = absurd (breaks (goes' a x r is))
one_break script entries j k (inr (goes, not_whole, at)) (inl (b, y, q, was, goes', breaks', at')) = absurd (breaks' (goes b y q was))
one_break script entries j k (inr (goes, not_whole, at)) (inr (goes', not_whole', at')) = at ∙ sym at'
