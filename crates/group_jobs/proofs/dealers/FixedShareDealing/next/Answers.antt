use Rattle.std.proofs.Common.{List, [], ◌∷◌, ◌++◌, ap, ◌∙◌}
use Rattle.group_jobs.proofs.ShareRows.{share_mine, share_other}
use Rattle.group_jobs.proofs.dealers.FixedShareDealing.next.Goals as goal

pub returns-then-task-self-clause-dealt : goal.returns-then-task-self-clause-dealt
returns-then-task-self-clause-dealt g c =
    let self = c.tasks.self in
    share_mine self.workers self.worker self.next c.if-task-self.true ∙ ap (λ (row : List _). row ++ self.next ∷ []) c.tasks.invariant.row

pub tasks-preserved : goal.tasks-preserved
tasks-preserved g c = record {
  tasks = c.tasks.invariant.tasks;
  workers = c.tasks.invariant.workers;
  worker = c.tasks.invariant.worker;
  row = share_other c.tasks.self.workers c.tasks.self.worker c.tasks.self.next c.if-task-self.false ∙ c.tasks.invariant.row;
}
