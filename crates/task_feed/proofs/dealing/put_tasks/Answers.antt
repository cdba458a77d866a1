use Rattle.std.proofs.Common.{ap, sym, ◌∙◌, arith}
use Rattle.task_feed.proofs.Deals.{has_room, puts_task}
use Rattle.task_feed.proofs.dealing.put_tasks.Goals as goal

pub push_as-requires-clause-rule : goal.push_as-requires-clause-rule
push_as-requires-clause-rule g c =
    let h = c.loop-task.invariant.1 in
    let parts = ap (λ v. v.parts) h in
    let all = ap (λ v. v.all) h in
    (puts_task _ _ _ _ (record { has_part = omega (arith, parts); has_all = parts ∙ sym all }) (ap (λ v. v.due) h) (ap (λ v. v.ends) h) (ap (λ v. v.put) h), has_room _ _)
