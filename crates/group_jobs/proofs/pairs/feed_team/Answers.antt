use Rattle.std.proofs.Common.{◌≡◌, ◌<◌, true, All, map, length, drop, sym, ap, ◌∙◌, subst, arith}
use Rattle.std.specs.List.{Any}
use Rattle.task_feed.specs.Takers.{has_ended, row_of}
use Rattle.task_feed.specs.declared.takers.Taker.{Taker}
use Rattle.group_jobs.specs.Pairs.{AllMayFeed, taker_in, worker_in}
use Rattle.group_jobs.specs.declared.pairs.Pair.{Pair}
use Rattle.group_jobs.proofs.Hired.{front}
use Rattle.group_jobs.proofs.Paired.{have_counted, length_workers, may_feed}
use Rattle.group_jobs.proofs.pairs.feed_team.Goals as goal

pub run_pairs-requires-clause-ready : goal.run_pairs-requires-clause-ready
run_pairs-requires-clause-ready g c κs within = (
  c.args.feed,
  subst (AllMayFeed c.args.heap.now.gate c.args.feed c.args.bytes.now) (sym c.as_mut_slice.ensures.value)
      (may_feed c.args.heap.now.gate c.args.feed c.args.bytes.now c.in_ok-pairs.pairs.items c.args.team.items c.in_ok-pairs.ensures.workers c.requires.ready c.in_ok-pairs.ensures.takers),
  c.requires.all,
)

pub done-requires-clause-made : goal.done-requires-clause-made
done-requires-clause-made g c =
    let feed = c.args.feed in
    let pairs = c.in_ok-pairs.pairs in
    let new = c.run_pairs.new.pairs in
    let many : pairs.len ≡ length new = let a = pairs.ok.0 in let b = c.run_pairs.auto.pairs in let d = ap length c.as_mut_slice.ensures.value in omega arith in
    let whole = front pairs.len new (drop (length new) pairs.items) many in
    let may = subst (AllMayFeed c.args.heap.now.gate feed c.args.bytes.now) (sym c.as_mut_slice.ensures.value)
    (may_feed c.args.heap.now.gate feed c.args.bytes.now pairs.items c.args.team.items c.in_ok-pairs.ensures.workers c.requires.ready c.in_ok-pairs.ensures.takers) in
    let fed = c.run_pairs.ensures.fed feed may in
    c.in_ok-team.ensures.made feed (subst (All (λ (pair : Pair). pair.taking.feed.now ≡ feed)) (sym whole) (λ k d lt. (fed k d lt).of_feed))

pub returns-clause-counted : goal.returns-clause-counted
returns-clause-counted g c =
    let feed = c.args.feed in
    let gate = c.args.heap.now.gate in
    let bytes = c.args.bytes.now in
    let pairs = c.in_ok-pairs.pairs in
    let new = c.run_pairs.new.pairs in
    let many : pairs.len ≡ length new = let a = pairs.ok.0 in let b = c.run_pairs.auto.pairs in let d = ap length c.as_mut_slice.ensures.value in omega arith in
    let whole = front pairs.len new (drop (length new) pairs.items) many in
    let may = subst (AllMayFeed gate feed bytes) (sym c.as_mut_slice.ensures.value) (may_feed gate feed bytes pairs.items c.args.team.items c.in_ok-pairs.ensures.workers c.requires.ready c.in_ok-pairs.ensures.takers) in
    let fed = c.run_pairs.ensures.fed feed may in
    let takers = c.in_ok-team.ensures.takers ∙ ap (map taker_in) whole in
    let some : 0 < length new = let a = pairs.ok.0 in let b = length_workers pairs.items in let d = ap length c.in_ok-pairs.ensures.workers in omega (arith, many, a, b, d, c.requires.some) in
    have_counted gate feed bytes c.args.tasks.now new fed c.in_ok-team.team.items c.done.result.rows c.done.result.left (c.in_ok-team.ensures.workers ∙ ap (map worker_in) whole) (c.done.ensures.rows ∙ ap (map row_of) takers) some c.requires.may c.requires.all
    c.done.ensures.dealt (λ some_ended. c.done.ensures.ended (subst (Any (λ (taker : Taker). has_ended taker ≡ true)) (sym takers) some_ended))
