use Rattle.std.proofs.Common.{◌+◌, ◌≤◌, Option, refl, sym, ◌∙◌, subst}
use Rattle.yak_model.specs.Room.{table_words}
use Rattle.mutator.specs.declared.resting.Resting.{Resting}
use Rattle.group_jobs.specs.Workers.{own_of}
use Rattle.safepoint_gate.specs.Steps.{first_calls}
use Rattle.group_jobs.specs.Followed.{made_in}
use Rattle.group_jobs.specs.Tallies.{tasks_room}
use Rattle.group_jobs.proofs.Sharing.{counted_task, exact_task, halted_task, task_short}
use Rattle.group_jobs.proofs.Working.{if_err, if_ok}
use Rattle.group_jobs.proofs.shares.Worker.count_task.Goals as goal

pub count_rested-resting-requires-clause-short : goal.count_rested-resting-requires-clause-short
count_rested-resting-requires-clause-short g c = let h = c.requires.some in task_short c.args.bytes.now h.0 c.args.task h.2.0

pub count_rested-resting-requires-clause-exact : goal.count_rested-resting-requires-clause-exact
count_rested-resting-requires-clause-exact g c =
    let h = c.requires.some in
    let r = c.in-Some.resting in
    exact_task c.args.bytes.now h.0 c.args.task (made_in (first_calls r.away.seat.me.0.own)) h.2
    (subst (λ (o : Option Resting). made_in (first_calls (own_of o)) ≤ table_words + tasks_room c.args.bytes.now h.0) (sym c.take.ensures.value ∙ c.in-Some.is) h.1.room)

pub returns-in-Ok : goal.returns-in-Ok
returns-in-Ok g c = record {
  counted = λ tasks had small.
      let step = c.count_rested-resting in
      let r = c.in-Some.resting in
      counted_task c.args.heap.now.gate c.args.self.now.thread c.args.bytes.now tasks c.args.self.now _ r step.result.0 (sym c.take.ensures.value ∙ c.in-Some.is) refl refl step.ensures.heap step.ensures.thread step.ensures.follows c.requires.unrefused had c.args.task small c.in-Ok.has_total refl refl
      (if_ok _ _ _ c.in-Ok.is step.ensures.counted);
}

pub returns-in-Err : goal.returns-in-Err
returns-in-Err g c = record {
  counted = λ tasks had small.
      let step = c.count_rested-resting in
      let r = c.in-Some.resting in
      let halted = if_err _ _ _ c.in-Err.is step.ensures.halted in
      halted_task c.args.heap.now.gate c.args.self.now.thread c.args.bytes.now tasks c.args.self.now _ r step.result.0 (sym c.take.ensures.value ∙ c.in-Some.is) refl refl step.ensures.heap step.ensures.thread step.ensures.follows c.requires.unrefused had c.args.task small c.in-Err.census refl
      halted.0 halted.1;
}
