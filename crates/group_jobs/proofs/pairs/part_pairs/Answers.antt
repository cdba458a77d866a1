use Rattle.std.proofs.Common.{rules, ◌≡◌, All, map, refl, subst}
use Rattle.std.proofs.lemmas.List.Elements.{All-head, All-tail}
use Rattle.task_feed.specs.Takers.{IsTakerOf}
use Rattle.group_jobs.specs.Pairs.{taker_in, worker_in}
use Rattle.group_jobs.specs.declared.pairs.Pair.{Pair}
use Rattle.group_jobs.proofs.Hired.{taken}
use Rattle.group_jobs.proofs.Paired.{all_more, parted_more}
use Rattle.group_jobs.proofs.pairs.part_pairs.Goals as goal

pub loop-pairs-preserved : goal.loop-pairs-preserved
loop-pairs-preserved c =
    let inv = c.loop-pairs.invariant in
    let pairs = c.loop-pairs.pairs.items in
    let pair = c.remove-worker.result in
    let others = c.remove-worker.new.self.items in
    let cut = taken pairs others pair (search rules) c.remove-worker.ensures.value c.remove-worker.ensures.items in
    record {
      workers = parted_more worker_in c.loop-pairs.team.items c.put_worker.new.team.items pairs others pair pair.worker (map worker_in c.args.pairs.items) cut c.in_ok-put_worker.ensures refl inv.workers;
      takers = parted_more taker_in c.loop-pairs.takers.items c.put_taker.new.takers.items pairs others pair pair.taking.taker (map taker_in c.args.pairs.items) cut c.in_ok-put_taker.ensures refl inv.takers;
      made = λ feed each.
          let had = inv.made feed each in
          let P = λ (p : Pair). p.taking.feed.now ≡ feed in
          let here = subst (All P) cut had.0 in (
            All-tail P pair others here,
            all_more (IsTakerOf feed) c.loop-pairs.takers.items c.put_taker.new.takers.items pair.taking.taker c.in_ok-put_taker.ensures had.1 (subst (λ f. IsTakerOf f pair.taking.taker) (All-head P pair others here) pair.taking.made),
          );
    }
