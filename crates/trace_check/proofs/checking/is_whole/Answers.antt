use Rattle.std.proofs.Common.{Bool, ◌&&◌, sym, subst}
use Rattle.std.specs.Prelude.{MatchBool}
use Rattle.trace_check.specs.Breaks.{IsWhole}
use Rattle.trace_check.specs.Progress.{script_of}
use Rattle.trace_check.proofs.Whole.{whole_by}
use Rattle.trace_check.proofs.checking.is_whole.Goals as goal

pub returns-then-settled : goal.returns-then-settled
returns-then-settled c = λ pages threads entries s at.
    let script = script_of pages threads c.args.lines.now in
    let all = c.all_named-all.result in
    subst (λ (b : Bool). MatchBool (b && all) (IsWhole script entries) (IsWhole script entries → ⊥)) c.if-settled.true
    (whole_by script entries s c.args.last c.args.cursors.now at c.is_settled-settled.result all c.is_settled-settled.ensures c.all_named-all.ensures)

pub returns-else-settled : goal.returns-else-settled
returns-else-settled c = λ pages threads entries s at.
    let script = script_of pages threads c.args.lines.now in
    let all = c.all_named-all.result in
    subst (λ (b : Bool). MatchBool b (IsWhole script entries) (IsWhole script entries → ⊥)) (sym c.if-settled.false)
    (subst (λ (b : Bool). MatchBool (b && all) (IsWhole script entries) (IsWhole script entries → ⊥)) c.if-settled.false
    (whole_by script entries s c.args.last c.args.cursors.now at c.is_settled-settled.result all c.is_settled-settled.ensures c.all_named-all.ensures))
