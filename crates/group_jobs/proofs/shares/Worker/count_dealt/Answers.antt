use Rattle.std.proofs.Common.{rules, ◌≡◌, ℕ, ◌<◌, List, All, length, sym, ap, ◌∙◌, subst, refl}
use Rattle.task_feed.specs.Dealt.{IsAscending}
use Rattle.group_jobs.specs.Dealings.{tasks_at}
use Rattle.group_jobs.specs.Workers.{HasCounted}
use Rattle.group_jobs.specs.declared.tasks.Task.{Task}
use Rattle.group_jobs.proofs.ShareRows.{dealt_below, dealt_fewer, dealt_next, dealt_small, task_within}
use Rattle.group_jobs.proofs.shares.Worker.count_dealt.Goals as goal

abbrev nothing : Task
nothing = record { start = 0; end = 0 }

pub tasks-init : goal.tasks-init
tasks-init g c = record {
  counted = subst (λ (row : List ℕ). HasCounted c.args.heap.now.gate c.args.self.now.thread c.args.bytes.now (tasks_at c.args.tasks.now row) c.args.self.now) (sym c.requires.fresh) c.requires.ready;
  deal = refl;
}

pub bounds-tasks-task : goal.bounds-tasks-task
bounds-tasks-task g c =
    let D = g.D.Dealing in
    let order = g.met.D.Dealing.in_order c.next.new.self in
    let all : D.count (D.deal c.next.new.self) ≡ length c.args.tasks.now = ap D.count (c.next.ensures.deal ∙ c.tasks.invariant.deal) ∙ c.requires.all in
    dealt_below c.args.tasks.now (D.dealt c.tasks.dealing) (D.dealt c.next.new.self) c.in-Some.task c.in-Some.ensures.dealt
    (subst (λ n. IsAscending (D.dealt c.next.new.self) × All (λ task. task < n) (D.dealt c.next.new.self)) all order)

pub offset_bounds-tasks-task : goal.offset_bounds-tasks-task
offset_bounds-tasks-task g c = let below : c.in-Some.task < length c.args.tasks.now = bounds-tasks-task g c in search rules

pub count_task-requires-clause-within : goal.count_task-requires-clause-within
count_task-requires-clause-within g c =
    let D = g.D.Dealing in
    let order = g.met.D.Dealing.in_order c.next.new.self in
    let all : D.count (D.deal c.next.new.self) ≡ length c.args.tasks.now = ap D.count (c.next.ensures.deal ∙ c.tasks.invariant.deal) ∙ c.requires.all in
    let below = dealt_below c.args.tasks.now (D.dealt c.tasks.dealing) (D.dealt c.next.new.self) c.in-Some.task c.in-Some.ensures.dealt
    (subst (λ n. IsAscending (D.dealt c.next.new.self) × All (λ task. task < n) (D.dealt c.next.new.self)) all order) in
    task_within c.args.bytes.now c.requires.may.lines c.args.tasks.now c.in-Some.task nothing c.requires.may.cut below

pub count_task-requires-clause-some : goal.count_task-requires-clause-some
count_task-requires-clause-some g c =
    let D = g.D.Dealing in
    let order = g.met.D.Dealing.in_order c.next.new.self in
    let all : D.count (D.deal c.next.new.self) ≡ length c.args.tasks.now = ap D.count (c.next.ensures.deal ∙ c.tasks.invariant.deal) ∙ c.requires.all in
    let tasks = tasks_at c.args.tasks.now (D.dealt c.tasks.dealing) in
    let had = c.tasks.invariant.counted in (
      tasks,
      subst (λ t. HasCounted c.args.heap.now.gate t c.args.bytes.now tasks c.tasks.self) (sym had.thread) had,
      dealt_small c.args.tasks.now (D.dealt c.tasks.dealing) (D.dealt c.next.new.self) c.in-Some.task c.in-Some.ensures.dealt
          (subst (λ n. IsAscending (D.dealt c.next.new.self) × All (λ task. task < n) (D.dealt c.next.new.self)) all order) c.args.bytes.now nothing c.requires.may,
    )

pub tasks-preserved : goal.tasks-preserved
tasks-preserved g c =
    let D = g.D.Dealing in
    let gate = c.args.heap.now.gate in
    let bytes = c.args.bytes.now in
    let order = g.met.D.Dealing.in_order c.next.new.self in
    let all : D.count (D.deal c.next.new.self) ≡ length c.args.tasks.now = ap D.count (c.next.ensures.deal ∙ c.tasks.invariant.deal) ∙ c.requires.all in
    let in_order = subst (λ n. IsAscending (D.dealt c.next.new.self) × All (λ task. task < n) (D.dealt c.next.new.self)) all order in
    let tasks = tasks_at c.args.tasks.now (D.dealt c.tasks.dealing) in
    let had = c.tasks.invariant.counted in
    let next = dealt_next c.args.tasks.now (D.dealt c.tasks.dealing) (D.dealt c.next.new.self) c.in-Some.task c.in-Some.ensures.dealt in_order nothing in
    let small = dealt_small c.args.tasks.now (D.dealt c.tasks.dealing) (D.dealt c.next.new.self) c.in-Some.task c.in-Some.ensures.dealt in_order bytes nothing c.requires.may in
    record {
      counted = subst (λ (x : ℕ × List Task). HasCounted gate x.0 bytes x.1 c.count_task.new.self) (λ i. (had.thread i, sym next i))
          (c.count_task.ensures.counted tasks (subst (λ t. HasCounted gate t bytes tasks c.tasks.self) (sym had.thread) had) small);
      deal = c.next.ensures.deal ∙ c.tasks.invariant.deal;
    }

pub tasks-smaller : goal.tasks-smaller
tasks-smaller g c =
    let D = g.D.Dealing in
    let order = g.met.D.Dealing.in_order c.next.new.self in
    let all : D.count (D.deal c.next.new.self) ≡ length c.args.tasks.now = ap D.count (c.next.ensures.deal ∙ c.tasks.invariant.deal) ∙ c.requires.all in
    dealt_fewer c.args.tasks.now (D.dealt c.tasks.dealing) (D.dealt c.next.new.self) c.in-Some.task c.in-Some.ensures.dealt
    (subst (λ n. IsAscending (D.dealt c.next.new.self) × All (λ task. task < n) (D.dealt c.next.new.self)) all order)
