use Rattle.task_feed.specs.Takers.{IsTakerOf}
use Rattle.task_feed.proofs.tests.take_all.Given as goal

abbrev pub invariant-loop : goal.invariant-loop
invariant-loop g l =
    ((goal.iterator-loop g).can_next l.iterator' × (goal.iterator-loop g).is_finite l.iterator') × IsTakerOf l.feed l.taker
