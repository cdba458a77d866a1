use Rattle.std.proofs.Common.{ap, arith}
use Rattle.task_feed.proofs.Deals.{forks}
use Rattle.task_feed.proofs.dealing.make_takers.Goals as goal

pub another-theirs-requires-clause-rule : goal.another-theirs-requires-clause-rule
another-theirs-requires-clause-rule c =
    let h = c.loop-taker.invariant.hand_is in
    let parts = ap (λ v. v.parts) h in
    let due = ap (λ v. v.due) h in
    forks _ _ (omega (arith, parts)) (omega (arith, due))
