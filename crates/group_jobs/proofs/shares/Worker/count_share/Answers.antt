use Rattle.std.proofs.Common.{◌≡◌, ℕ, ◌-◌, ap, arith, ◌∙◌, length, subst}
use Rattle.task_feed.specs.Shares.{share_of}
use Rattle.group_jobs.specs.Dealings.{tasks_at}
use Rattle.group_jobs.specs.Workers.{HasCounted}
use Rattle.group_jobs.proofs.ShareRows.{share_counted}
use Rattle.group_jobs.proofs.shares.Worker.count_share.Goals as goal

pub returns : goal.returns
returns g c =
    let share = c.count_dealt.new.dealing in
    let w = c.count_dealt.new.self in
    let tasks = c.args.tasks.now in
    let deal = c.count_dealt.ensures.deal in
    let all : share.tasks ≡ length tasks = ap (λ (x : ℕ × ℕ × ℕ). x.0) deal in
    let workers : share.workers ≡ c.args.workers = ap (λ (x : ℕ × ℕ × ℕ). x.1) deal in
    let worker : share.worker ≡ c.args.self.now.thread - 1 = ap (λ (x : ℕ × ℕ × ℕ). x.2) deal ∙ ap (λ n. n - 1) c.from.ensures in
    record {
      counted = share_counted c.args.heap.now.gate c.args.self.now.thread c.args.bytes.now tasks c.args.workers (c.args.self.now.thread - 1) share.next w (omega (arith, share.within, all))
          (subst (λ (x : ℕ × ℕ). HasCounted c.args.heap.now.gate c.args.self.now.thread c.args.bytes.now (tasks_at tasks (share_of share.next x.0 x.1)) w) (λ i. (workers i, worker i)) c.count_dealt.ensures.counted)
          (λ none. c.count_dealt.ensures.ended none ∙ all);
    }
