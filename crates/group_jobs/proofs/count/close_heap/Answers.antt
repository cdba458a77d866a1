use Rattle.std.proofs.Common.{sym, subst}
use Rattle.heap_words.specs.Contents.{contents}
use Rattle.yak_model.specs.Stands.{Stands}
use Rattle.yak_model.specs.Recorded.{SomeRecorded}
use Rattle.group_jobs.specs.Alone.{HoldsCounts}
use Rattle.group_jobs.proofs.Holding.{holds_worker}
use Rattle.group_jobs.proofs.count.close_heap.Goals as goal

pub returns-clause-holds : goal.returns-clause-holds
returns-clause-holds c has known done alone progress root outside =
    let e = c.into_core.ensures.core in
    let core = c.args.caller.core in
    let some : SomeRecorded core.map (contents core.map core.words.words.items) = subst (λ x. SomeRecorded x.map (contents x.map x.words.words.items)) e c.into_core.result.stands in
    subst (λ x. HoldsCounts x.map (contents x.map x.words.words.items) done) (sym e)
    (holds_worker core.map (contents core.map core.words.words.items) c.args.caller.thread c.requires.thread known has done c.args.caller.made c.args.caller.refusals c.args.caller.last c.requires.areas c.requires.one some alone
    (λ s h. c.into_core.ensures.told s (subst (λ x. Stands x.map (contents x.map x.words.words.items) s) (sym e) h)) progress root outside)
