use Rattle.std.proofs.Common.{rules, ◌≡◌, ◌≤◌, [], All, length, refl, ap, subst, arith}
use Rattle.std.proofs.lemmas.List.Elements.{All-head, All-tail}
use Rattle.task_feed.specs.Takers.{IsFresh, IsTakerOf, row_of}
use Rattle.task_feed.specs.declared.takers.Taker.{Taker}
use Rattle.group_jobs.specs.Pairs.{worker_in}
use Rattle.group_jobs.specs.declared.pairs.Pair.{Pair}
use Rattle.group_jobs.proofs.Hired.{taken}
use Rattle.group_jobs.proofs.Paired.{all_more, paired_more}
use Rattle.group_jobs.proofs.pairs.pair_up.Goals as goal

pub loop-team-preserved : goal.loop-team-preserved
loop-team-preserved c =
    let inv = c.loop-team.invariant in
    let feed = c.args.feed.now in
    let team = c.loop-team.team.items in
    let takers = c.loop-team.takers.items in
    let pairs = c.loop-team.pairs.items in
    let after = c.put_pair.new.pairs.items in
    let w = c.remove-worker.result in
    let t = c.remove-taker.result in
    let others = c.remove-worker.new.self.items in
    let others_taking = c.remove-taker.new.self.items in
    let some : 1 ≤ length team = search rules in
    let cut = taken team others w some c.remove-worker.ensures.value c.remove-worker.ensures.items in
    let cut_takers = taken takers others_taking t (omega (arith, some, inv.same)) c.remove-taker.ensures.value c.remove-taker.ensures.items in
    let P = λ (taker : Taker). IsTakerOf feed taker × IsFresh taker in
    let made = subst (All P) cut_takers inv.made in
    let put = c.in_ok-put_pair.ensures in
    record {
      same = let long = ap length cut in let longer = ap length cut_takers in omega (arith, long, longer, inv.same);
      made = All-tail P t others_taking made;
      workers = paired_more worker_in pairs after _ team others c.args.team.items w cut put refl inv.workers;
      takers = all_more (λ (pair : Pair). (pair.taking.feed.now ≡ feed) × (row_of pair.taking.taker ≡ [])) pairs after _ put inv.takers (refl, (All-head P t others_taking made).1.row);
    }
