use Rattle.std.proofs.Common.{◌≡◌, ◌-◌, length}
use Rattle.group_jobs.specs.Dealings.{tasks_at}
use Rattle.group_jobs.specs.Workers.{HasCounted}
use Rattle.group_jobs.proofs.shares.Worker.count_dealt.Given as goal

abbrev pub invariant-tasks : goal.invariant-tasks
invariant-tasks g l = let D = g.D.Dealing in record {
  counted : HasCounted l.heap.gate l.fn.self.thread l.bytes (tasks_at l.tasks (D.dealt l.dealing)) l.self;
  deal : D.deal l.dealing ≡ D.deal l.fn.dealing;
}

abbrev pub decreases-tasks : goal.decreases-tasks
decreases-tasks g l = length l.tasks - length (g.D.Dealing.dealt l.dealing)
