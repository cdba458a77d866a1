use Rattle.std.proofs.Common.{◌≡◌, [], max}
use Rattle.crossbeam_queue.specs.Passes.{IsPassOf, view}
use Rattle.task_feed.specs.Hands.{hand}
use Rattle.task_feed.proofs.dealing.put_signs.Given as goal

abbrev pub invariant-loop-sign : goal.invariant-loop-sign
invariant-loop-sign g l = IsPassOf l.queue l.pass × (view l.pass ≡ hand (max 1 l._sign) (max 1 l._sign) l.tasks l._sign 0 [])
