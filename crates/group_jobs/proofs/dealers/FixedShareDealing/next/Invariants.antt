use Rattle.std.proofs.Common.{◌≡◌, ◌-◌}
use Rattle.task_feed.specs.Shares.{share_of}
use Rattle.group_jobs.proofs.dealers.FixedShareDealing.next.Given as goal

abbrev pub invariant-tasks : goal.invariant-tasks
invariant-tasks g l = record {
  tasks : l.self.tasks ≡ l.fn.self.tasks;
  workers : l.self.workers ≡ l.fn.self.workers;
  worker : l.self.worker ≡ l.fn.self.worker;
  row : share_of l.self.next l.self.workers l.self.worker ≡ share_of l.fn.self.next l.fn.self.workers l.fn.self.worker;
}

abbrev pub decreases-tasks : goal.decreases-tasks
decreases-tasks g l = l.self.tasks - l.self.next
