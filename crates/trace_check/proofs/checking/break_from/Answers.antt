use Rattle.std.proofs.Common.{◌≡◌, ◌+◌, ℕ, List, [], ◌∷◌, ◌++◌, Bool, Some, Ok, length, get_or, take, drop, refl, sym, ap, subst, ◌∙◌, inl, inr, arith, length-take, add-one}
use Rattle.std.specs.Prelude.{MatchBool}
use Rattle.std.proofs.lemmas.List.{take-append-drop, take_all, take_more}
use Rattle.std.proofs.Math.Seq.{drop-cons}
use Rattle.object_layout.specs.declared.replies.Reply.TheVariants.{Ok as reply_ok}
use Rattle.trace_check.specs.declared.traces.Entry.{Entry}
use Rattle.trace_check.specs.declared.traces.Entry.TheVariants as entry
use Rattle.trace_check.specs.Breaks.{Continues, IsWhole}
use Rattle.trace_check.specs.Progress.{IsAt, script_of}
use Rattle.trace_check.proofs.Answering.{none_of, of_threads_at, some_of}
use Rattle.trace_check.proofs.Whole.{lawful_whole}
use Rattle.trace_check.proofs.checking.break_from.Goals as goal

abbrev blank : Entry
blank = entry.Said 0 reply_ok

pub entries-init : goal.entries-init
entries-init c = record { at = c.requires.at; number = refl }

pub goes_on-requires-clause-thread : goal.goes_on-requires-clause-thread
goes_on-requires-clause-thread c = of_threads_at c.args.threads c.args.entries.now c.entries.next-index blank c.requires.threads c.entries-test.true

pub entries-preserved : goal.entries-preserved
entries-preserved c =
    let script = script_of c.args.pages c.args.threads c.args.lines.now in
    let i = c.entries.next-index in
    let before = take i c.args.entries.now in
    record {
      at = subst (λ (es : List Entry). IsAt script es c.goes_on.new.spaces (Some c.in-Some.step) c.goes_on.new.cursors) (sym (take_more c.args.entries.now i blank c.entries-test.true))
          (some_of (λ step. IsAt script (before ++ get_or c.args.entries.now i blank ∷ []) c.goes_on.new.spaces (Some step) c.goes_on.new.cursors) c.goes_on.result c.in-Some.step
          (c.goes_on.ensures.goes before c.entries.invariant.at) (c.in_ok-done.was ∙ ap Ok c.in-Some.is));
      number = ap (λ (n : ℕ). n + 1) c.entries.invariant.number;
    }

pub returns-in_default-clause-breaks : goal.returns-in_default-clause-breaks
returns-in_default-clause-breaks c =
    let script = script_of c.args.pages c.args.threads c.args.lines.now in
    let xs = c.args.entries.now in
    let i = c.entries.next-index in
    let before = take i xs in
    let rest : drop i xs ≡ get_or xs i blank ∷ drop (i + 1) xs = rw add-one (drop-cons xs i blank c.entries-test.true) in
    let whole : xs ≡ before ++ get_or xs i blank ∷ drop (i + 1) xs = rw (← rest) (sym (take-append-drop i xs)) in
    let count : length before ≡ i = omega (arith, length-take i xs, c.entries-test.true) in
    inl (
      before,
      get_or xs i blank,
      drop (i + 1) xs,
      whole,
      c.entries.invariant.at.goes,
      none_of (Continues script before (get_or xs i blank) → ⊥) c.goes_on.result (c.goes_on.ensures.breaks before c.entries.invariant.at) (c.in_ok-done.was ∙ ap Ok c.in_default.is),
      omega (arith, count, c.entries.invariant.number),
    )

pub returns-then-is_whole-clause-lawful : goal.returns-then-is_whole-clause-lawful
returns-then-is_whole-clause-lawful c =
    let script = script_of c.args.pages c.args.threads c.args.lines.now in
    let xs = c.args.entries.now in
    let at : IsAt script xs c.entries.spaces c.entries.last c.entries.cursors =
    subst (λ (es : List Entry). IsAt script es c.entries.spaces c.entries.last c.entries.cursors) (take_all c.entries.next-index xs c.entries-test.false) c.entries.invariant.at in
    let whole : IsWhole script xs =
    subst (λ (b : Bool). MatchBool b (IsWhole script xs) (IsWhole script xs → ⊥)) c.if-is_whole.true (c.is_whole.ensures c.args.pages c.args.threads xs c.entries.spaces at) in
    lawful_whole c.agreement.ensures script xs c.entries.spaces c.entries.last c.entries.cursors at whole

pub returns-else-is_whole-clause-breaks : goal.returns-else-is_whole-clause-breaks
returns-else-is_whole-clause-breaks c =
    let script = script_of c.args.pages c.args.threads c.args.lines.now in
    let xs = c.args.entries.now in
    let at : IsAt script xs c.entries.spaces c.entries.last c.entries.cursors =
    subst (λ (es : List Entry). IsAt script es c.entries.spaces c.entries.last c.entries.cursors) (take_all c.entries.next-index xs c.entries-test.false) c.entries.invariant.at in
    let torn : IsWhole script xs → ⊥ =
    subst (λ (b : Bool). MatchBool b (IsWhole script xs) (IsWhole script xs → ⊥)) c.if-is_whole.false (c.is_whole.ensures c.args.pages c.args.threads xs c.entries.spaces at) in
    inr (at.goes, torn, omega (arith, c.entries.invariant.number, c.entries-test.false, c.entries.auto.next-index-end))
