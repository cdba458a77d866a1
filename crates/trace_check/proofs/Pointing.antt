-- The cursors at the next lines of the threads.
use Rattle.std.proofs.Common.{◌≡◌, ◌≢◌, ℕ, ◌+◌, ◌-◌, ◌<◌, List, [], ◌∷◌, ◌++◌, length, drop, map, refl, sym, ap, subst, ◌∙◌, inl, inr, arith, append_assoc, get_or-set_same, get_or-set_other, length-set}
use Rattle.std.specs.Prelude.{slice_index, slice_set}
use Rattle.std.proofs.lemmas.Bool.{cases_eq, cases_lt}
use Rattle.std.proofs.lemmas.List.{append-nil, append_cancel_left}
use Rattle.object_layout.specs.declared.replies.Reply.{Reply}
use Rattle.script_text.specs.declared.scripts.Line.{Line}
use Rattle.script_text.specs.Printing.{Rises}
use Rattle.yak_model.specs.declared.history.Entry.TheVariants as happened
use Rattle.trace_check.specs.declared.traces.Entry.{Entry}
use Rattle.trace_check.specs.declared.traces.Entry.TheVariants as entry
use Rattle.trace_check.specs.declared.traces.Step.TheVariants as step
use Rattle.trace_check.specs.Traces.{all_named, lines_at, own}
use Rattle.trace_check.specs.Breaks.{NamesNext}
use Rattle.trace_check.specs.Cursors.{IsNextPlace, PointAtNext, line_at}
use Rattle.trace_check.specs.Progress.{IsStepOf, Names}
use Rattle.trace_check.proofs.Naming.{at_number, line_of_number, named_more, own_append, own_at_end, own_first, own_from, own_other, rises_at, rises_in}

module _ (lines : List Line) (threads : ℕ) (before : List Entry) (cursors : List ℕ) (rise : Rises threads 2 lines) (points : PointAtNext lines threads before cursors) where
  abbrev place : ℕ → ℕ
  place i = slice_index cursors i

  module _ (i number : ℕ) (said : Reply) (known : i < length cursors) (within : place i < length lines) (is : (line_at lines (place i)).number ≡ number) where
    abbrev here : Line
    here = line_at lines (place i)

    few : i < threads
    few = omega (arith, known, points.count)

    thread_is : here.thread ≡ i + 1
    thread_is = (points.places i few).own_line within

    found : lines_at lines number ≡ here ∷ []
    found = ap (lines_at lines) (sym is) ∙ at_number threads 2 lines (place i) rise within

    split : own here.thread lines ≡ own here.thread (all_named lines before) ++ here ∷ own here.thread (drop (place i + 1) lines)
    split =
        let at : own (i + 1) lines ≡ own (i + 1) (all_named lines before) ++ here ∷ own (i + 1) (drop (place i + 1) lines) =
        points.split i few ∙ ap (λ l. own (i + 1) (all_named lines before) ++ l) (own_from lines (i + 1) (place i) within thread_is) in
        subst (λ (t : ℕ). own t lines ≡ own t (all_named lines before) ++ here ∷ own t (drop (place i + 1) lines)) (sym thread_is) at

    pub names_next : Names lines before (entry.Said number said) (step.Said here.thread here.call said)
    names_next = record {
      named = (here, own here.thread (drop (place i + 1) lines), found, split);
      tells = ap (map (λ (l : Line). happened.Said l.thread l.call said)) found;
    }

    module _ (next : ℕ) (is_next : IsNextPlace lines here.thread next) (same : own here.thread (drop next lines) ≡ own here.thread (drop (place i + 1) lines)) where
      more : all_named lines (before ++ entry.Said number said ∷ []) ≡ all_named lines before ++ here ∷ []
      more = named_more lines before (entry.Said number said) ∙ ap (λ l. all_named lines before ++ l) found

      own_more : (t : ℕ) → own t (all_named lines (before ++ entry.Said number said ∷ [])) ≡ own t (all_named lines before) ++ own t (here ∷ [])
      own_more t = ap (own t) more ∙ own_append t (all_named lines before) (here ∷ [])

      own_split : own (i + 1) lines ≡ own (i + 1) (all_named lines (before ++ entry.Said number said ∷ [])) ++ own (i + 1) (drop next lines)
      own_split =
          let t = here.thread in
          let whole : own t lines ≡ own t (all_named lines (before ++ entry.Said number said ∷ [])) ++ own t (drop next lines) =
          split
          ∙ ap (λ l. own t (all_named lines before) ++ here ∷ l) (sym same)
          ∙ sym (append_assoc (own t (all_named lines before)) (here ∷ []) (own t (drop next lines)))
          ∙ ap (λ l. l ++ own t (drop next lines)) (sym (own_more t ∙ ap (λ l. own t (all_named lines before) ++ l) (own_first t here [] refl))) in
          subst (λ (t : ℕ). own t lines ≡ own t (all_named lines (before ++ entry.Said number said ∷ [])) ++ own t (drop next lines)) thread_is whole

      other_split : (j : ℕ) → j < threads → j ≢ i → own (j + 1) lines ≡ own (j + 1) (all_named lines (before ++ entry.Said number said ∷ [])) ++ own (j + 1) (drop (place j) lines)
      other_split j lt ne =
          let none : own (j + 1) (here ∷ []) ≡ [] = own_other (j + 1) here [] (λ e. ne (omega (arith, e, thread_is))) in
          let named : own (j + 1) (all_named lines (before ++ entry.Said number said ∷ [])) ≡ own (j + 1) (all_named lines before) =
          own_more (j + 1) ∙ ap (λ l. own (j + 1) (all_named lines before) ++ l) none ∙ nothing (own (j + 1) (all_named lines before)) in
          points.split j lt ∙ ap (λ l. l ++ own (j + 1) (drop (place j) lines)) (sym named)
        where
          nothing : (l : List Line) → l ++ [] ≡ l
          nothing [] = refl
          nothing (x ∷ l) = ap (λ r. x ∷ r) (nothing l)

      at_same : slice_index (slice_set cursors i next) i ≡ next
      at_same = get_or-set_same cursors i next 0 known

      at_other : (j : ℕ) → j ≢ i → slice_index (slice_set cursors i next) j ≡ place j
      at_other j ne = get_or-set_other cursors i j next 0 ne

      pub next_points : PointAtNext lines threads (before ++ entry.Said number said ∷ []) (slice_set cursors i next)
      next_points = record {
        count = length-set cursors i next ∙ points.count;
        places = λ j lt. elim (cases_eq j i) [
          | inl e ↦ subst (λ (k : ℕ). IsNextPlace lines (k + 1) (slice_index (slice_set cursors i next) k)) (sym e)
              (subst (IsNextPlace lines (i + 1)) (sym at_same) (subst (λ (t : ℕ). IsNextPlace lines t next) thread_is is_next))
          | inr ne ↦ subst (IsNextPlace lines (j + 1)) (sym (at_other j ne)) (points.places j lt)
        ];
        split = λ j lt. elim (cases_eq j i) [
          | inl e ↦ subst (λ (k : ℕ). own (k + 1) lines ≡ own (k + 1) (all_named lines (before ++ entry.Said number said ∷ [])) ++ own (k + 1) (drop (slice_index (slice_set cursors i next) k) lines)) (sym e)
              (own_split ∙ ap (λ p. own (i + 1) (all_named lines (before ++ entry.Said number said ∷ [])) ++ own (i + 1) (drop p lines)) (sym at_same))
          | inr ne ↦ other_split j lt ne ∙ ap (λ p. own (j + 1) (all_named lines (before ++ entry.Said number said ∷ [])) ++ own (j + 1) (drop p lines)) (sym (at_other j ne))
        ];
      }

  -- ---- no next line has the number

  pub none_next : (number : ℕ) (said : Reply) → ((i : ℕ) → i < length cursors → place i < length lines → (line_at lines (place i)).number ≢ number) → NamesNext lines before (entry.Said number said) → ⊥
  none_next number said none (line, later, at, split) =
      let of = line_of_number lines number line at in
      let bounds = rises_in threads 2 lines line rise of.0 in
      let i = line.thread - 1 in
      let t : line.thread ≡ i + 1 = omega (arith, bounds.some) in
      let lt : i < threads = omega (arith, bounds.some, bounds.few) in
      let both : own (i + 1) (all_named lines before) ++ own (i + 1) (drop (place i) lines) ≡ own (i + 1) (all_named lines before) ++ line ∷ later =
      sym (points.split i lt) ∙ subst (λ (u : ℕ). own u lines ≡ own u (all_named lines before) ++ line ∷ later) t split in
      let rest : own (i + 1) (drop (place i) lines) ≡ line ∷ later = append_cancel_left (own (i + 1) (all_named lines before)) _ _ both in
      elim (cases_lt (place i) (length lines)) [
        | inr end ↦ none_is (sym (own_at_end lines (i + 1) (place i) end) ∙ rest)
        | inl within ↦
            let first : line_at lines (place i) ∷ own (i + 1) (drop (place i + 1) lines) ≡ line ∷ later =
            sym (own_from lines (i + 1) (place i) within ((points.places i lt).own_line within)) ∙ rest in
            let same : line_at lines (place i) ≡ line = cc first in
            none i (omega (arith, lt, points.count)) within (ap (λ (l : Line). l.number) same ∙ of.1)
      ]
    where
      none_is : [] ≡ line ∷ later → ⊥
      none_is e = cc e

-- a collection names no line
pub points_collected : (lines : List Line) (threads : ℕ) (before : List Entry) (cursors : List ℕ) (t : ℕ) → PointAtNext lines threads before cursors → PointAtNext lines threads (before ++ entry.Collected t ∷ []) cursors
points_collected lines threads before cursors t points =
    let same : all_named lines (before ++ entry.Collected t ∷ []) ≡ all_named lines before = named_more lines before (entry.Collected t) ∙ append-nil (all_named lines before) in
    record {
      count = points.count;
      places = points.places;
      split = λ i lt. points.split i lt ∙ ap (λ (l : List Line). own (i + 1) l ++ own (i + 1) (drop (slice_index cursors i) lines)) (sym same);
    }

-- the step of a line is one of its thread
pub step_at : (lines : List Line) (threads place : ℕ) (said : Reply) → Rises threads 2 lines → place < length lines → IsStepOf threads (step.Said (line_at lines place).thread (line_at lines place).call said)
step_at lines threads place said rise within =
    let of = rises_at threads 2 lines place rise within in
    record { some = of.some; few = of.few; possible = of.call }
