use Rattle.yak.proofs.SharedCounts.{shared_answers, shared_size}
use Rattle.yak.proofs.threaded.run.Goals as goal

pub count_shared-requires-clause-size : goal.count_shared-requires-clause-size
count_shared-requires-clause-size g c κs within = (shared_size _ c.in-Some.options c.in-Some.ensures).0

pub count_shared-requires-clause-lines : goal.count_shared-requires-clause-lines
count_shared-requires-clause-lines g c κs within = (shared_size _ c.in-Some.options c.in-Some.ensures).1

pub returns-in-Some-clause-shared : goal.returns-in-Some-clause-shared
returns-in-Some-clause-shared g c = λ options asked. shared_answers _ c.in-Some.options options c.in-Some.ensures asked _ _ _ _ c.count_shared.ensures

pub returns-in-Some-clause-answers : goal.returns-in-Some-clause-answers
returns-in-Some-clause-answers g c = λ unthreaded unshared untraced. absurd (unshared c.in-Some.options c.in-Some.ensures)

pub returns-clause-shared : goal.returns-clause-shared
returns-clause-shared g c = λ options asked. absurd (c.in_default.ensures options asked)

pub returns-in-Some-clause-unread : goal.returns-in-Some-clause-unread
returns-in-Some-clause-unread g c = λ unread unthreaded unshared untraced. absurd (unshared c.in-Some.options c.in-Some.ensures)
