use Rattle.std.proofs.Common.{◌≡◌, All, length}
use Rattle.task_feed.specs.Takers.{IsTakerOf, takers_of}
use Rattle.task_feed.proofs.tests.the_first_taker_takes_all.Given as goal

abbrev pub invariant-loop-want : goal.invariant-loop-want
invariant-loop-want g l = record {
  feed : takers_of l.feed ≡ 2;
  two : length l.takers.items ≡ 2;
  made : All (IsTakerOf l.feed) l.takers.items;
}
