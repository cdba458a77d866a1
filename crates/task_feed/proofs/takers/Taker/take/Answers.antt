use Rattle.std.proofs.Common.{◌∙◌, [], ap, arith, cond}
use Rattle.crossbeam_queue.specs.Passes.{view}
use Rattle.task_feed.proofs.Deals.{has_left, takes}
use Rattle.task_feed.proofs.Takings.{one_more}
use Rattle.task_feed.proofs.takers.Taker.take.Goals as goal

pub pop_as-requires-clause-rule : goal.pop_as-requires-clause-rule
pop_as-requires-clause-rule g c =
    let h = c.requires.made.hand_is in
    let parts = ap (λ v. v.parts) h in
    let due = ap (λ v. v.due) h ∙ ap (λ b. cond b 0 1) c.if-self.false in
    (takes _ _ (λ e. absurd (omega (arith, e, parts))) (λ e. absurd (omega (arith, e, due))), has_left _ _)

pub push_reserved-requires : goal.push_reserved-requires
push_reserved-requires g c =
    let t = rw c.in-Some-Some.field-0-is at c.in-Some-Some.ensures.rule in
    let h = c.requires.made in
    let more = one_more [] c.args.self.now.taken.items c.in-Some-Some.task c.args.feed.now.tasks.tasks (view c.args.self.now.pass) (view c.pop_as.new.pass)
    (ap (λ v. v.put) h.hand_is) (ap (λ v. v.taken) h.hand_is) h.ascending h.within t in
    omega (arith, more.fits, h.room)
