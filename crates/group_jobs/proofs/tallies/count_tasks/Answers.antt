use Rattle.std.proofs.Common.{◌≡◌, ℕ, ◌+◌, ◌≤◌, ◌||◌, List, ◌++◌, true, false, take, length, get_or, ap, sym, subst, refl, ◌∙◌, arith, length-append}
use Rattle.yak_model.specs.Room.{table_words}
use Rattle.yak_model.specs.Texts.{words_of}
use Rattle.group_jobs.specs.declared.tasks.Task.{Task}
use Rattle.group_jobs.specs.Tallies.{KnowsProgress, is_busy, new_total, task_room, tasks_room, words_in}
use Rattle.group_jobs.specs.Tasks.{task_bytes}
use Rattle.group_jobs.proofs.Aside.{aside_same, progress_then}
use Rattle.heap_tables.specs.Epochs.{GrowsBy}
use Rattle.group_jobs.specs.Epochs.{IsHalted, IsOneEpoch, MakesEpochs}
use Rattle.group_jobs.proofs.Grown.{made_halted, made_next, none_made}
use Rattle.group_jobs.proofs.Joined.{went_most, went_none, went_out, went_then}
use Rattle.group_jobs.proofs.Passing.{busy_next, room_next, room_within, total_most, total_next, total_out, whole, words_next, words_short, words_size, words_some}
use Rattle.group_jobs.proofs.Rooms.{err_of}
use Rattle.group_jobs.proofs.tallies.count_tasks.Goals as goal

abbrev none : Task
none = record { start = 0; end = 0 }

pub tasks-init : goal.tasks-init
tasks-init g c = let C = g.C.Caller in let h = c.requires.opened in record {
  went = went_none C.base C.tells C.tells_known C.standing c.args.caller.now;
  depth = c.requires.outside;
  made = omega arith;
  has = refl;
  counted = λ known k. (known, k, (h.3.0, refl), aside_same (C.standing c.args.caller.now) (C.standing c.args.caller.now) known refl);
  epochs = none_made (C.standing c.args.caller.now).thread (C.standing c.args.caller.now).list;
}

pub count_task-requires-clause-progress : goal.count_task-requires-clause-progress
count_task-requires-clause-progress g c =
    let h = c.requires.opened in
    let r = c.tasks.invariant.counted h.0 h.2 in
    (r.0, words_in c.args.bytes.now (take c.tasks.task-index c.args.tasks.now), r.1, r.2, omega (arith, h.4, words_size c.args.bytes.now c.args.tasks.now c.tasks.task-index none c.tasks-test.true))

pub count_task-requires-clause-short : goal.count_task-requires-clause-short
count_task-requires-clause-short g c = words_short c.args.bytes.now c.args.tasks.now c.tasks.task-index none c.tasks-test.true c.requires.short

pub count_task-requires-clause-names : goal.count_task-requires-clause-names
count_task-requires-clause-names g c =
    let made = c.tasks.invariant.made in
    omega (arith, made, c.requires.names, words_size c.args.bytes.now c.args.tasks.now c.tasks.task-index none c.tasks-test.true)

pub returns-in_err-has_total-clause-out : goal.returns-in_err-has_total-clause-out
returns-in_err-has_total-clause-out g c =
    let C = g.C.Caller in
    let bytes = c.args.bytes.now in
    let tasks = c.args.tasks.now in
    let i = c.tasks.task-index in
    let has = c.tasks.has_total in
    let room = task_room (words_of (task_bytes bytes (get_or tasks i none))) in
    err_of c.from_residual.result _
    (went_out C.base C.tells C.tells_known C.standing c.args.caller.now c.tasks.caller c.count_task.new.caller 1 1 (new_total false has + tasks_room bytes (take i tasks)) (new_total has true + room) (table_words + tasks_room bytes tasks) (omega (arith, total_out has, room_within bytes tasks i none c.tasks-test.true)) (omega arith) c.tasks.invariant.went c.in_err-has_total.ensures.out)

pub tasks-preserved : goal.tasks-preserved
tasks-preserved g c =
    let C = g.C.Caller in
    let bytes = c.args.bytes.now in
    let tasks = c.args.tasks.now in
    let i = c.tasks.task-index in
    let has = c.tasks.has_total in
    let inv = c.tasks.invariant in
    let done = c.in_ok-has_total.ensures in
    let below = c.tasks-test.true in
    let words : List (List ℕ) = words_of (task_bytes bytes (get_or tasks i none)) in
    let later = words_next bytes tasks i none below in
    let size = words_size bytes tasks i none below in
    let total : new_total false has + new_total has c.in_ok-has_total.has_total ≤ new_total false c.in_ok-has_total.has_total =
    subst (λ b. new_total false has + new_total has b ≤ new_total false b) (sym done.has) (total_next has (is_busy words)) in
    record {
      went = went_then C.base C.tells C.tells_known C.standing c.args.caller.now c.tasks.caller c.count_task.new.caller (new_total false has + tasks_room bytes (take i tasks)) (new_total has c.in_ok-has_total.has_total + task_room words)
          (new_total false c.in_ok-has_total.has_total + tasks_room bytes (take (i + 1) tasks)) (omega (arith, total, room_next bytes tasks i none below)) inv.went done.went;
      depth = done.depth;
      made = let h = inv.made in omega (arith, h, done.made, ap length later, length-append (words_in bytes (take i tasks)) words);
      has = done.has ∙ ap (λ b. b || is_busy words) inv.has ∙ sym (busy_next bytes tasks i none below);
      counted = λ known k.
          let r = inv.counted known k in
          let h = c.requires.opened in
          subst (KnowsProgress c.in_ok-has_total.has_total (C.standing c.args.caller.now) known (C.standing c.count_task.new.caller) (C.knows c.count_task.new.caller)) (sym later)
          (progress_then c.in_ok-has_total.has_total (C.standing c.args.caller.now) (C.standing c.tasks.caller) (C.standing c.count_task.new.caller) known r.0 (C.knows c.count_task.new.caller) (words_in bytes (take i tasks) ++ words) r.3
          (done.counted r.0 (words_in bytes (take i tasks)) r.1 r.2 (omega (arith, h.4, size))));
      epochs =
          let s = C.standing c.args.caller.now in
          let was = C.standing c.tasks.caller in
          let e = done.epoch in
          let one = subst (λ t. GrowsBy (IsOneEpoch t) (C.standing e.ready).list (C.standing c.count_task.new.caller).list) inv.went.makes.thread e.epoch in
          made_next s.thread i s.list was.list (C.standing e.ready).list (C.standing c.count_task.new.caller).list inv.epochs e.before one;
    }

pub returns-clause-went : goal.returns-clause-went
returns-clause-went g c =
    let C = g.C.Caller in
    let all = whole c.args.tasks.now c.tasks.task-index c.tasks-test.false in
    went_most C.base C.tells C.tells_known C.standing c.args.caller.now c.tasks.caller (new_total false c.tasks.has_total + tasks_room c.args.bytes.now (take c.tasks.task-index c.args.tasks.now)) (table_words + tasks_room c.args.bytes.now c.args.tasks.now)
    (omega (arith, total_most c.tasks.has_total, ap (tasks_room c.args.bytes.now) all)) c.tasks.invariant.went

pub returns-clause-has : goal.returns-clause-has
returns-clause-has g c = c.tasks.invariant.has ∙ ap (λ ts. is_busy (words_in c.args.bytes.now ts)) (whole c.args.tasks.now c.tasks.task-index c.tasks-test.false)

pub returns-clause-counted : goal.returns-clause-counted
returns-clause-counted g c known k =
    let C = g.C.Caller in
    subst (λ ts. KnowsProgress c.tasks.has_total (C.standing c.args.caller.now) known (C.standing c.tasks.caller) (C.knows c.tasks.caller) (words_in c.args.bytes.now ts)) (whole c.args.tasks.now c.tasks.task-index c.tasks-test.false) (c.tasks.invariant.counted known k)

pub returns-clause-epochs : goal.returns-clause-epochs
returns-clause-epochs g c =
    let C = g.C.Caller in
    let all : c.tasks.task-index ≡ length c.args.tasks.now = omega (arith, c.tasks-test.false, c.tasks.auto.task-index-end) in
    subst (λ n. GrowsBy (MakesEpochs (C.standing c.args.caller.now).thread n) (C.standing c.args.caller.now).list (C.standing c.tasks.caller).list) all c.tasks.invariant.epochs

pub returns-in_err-has_total-clause-halted : goal.returns-in_err-has_total-clause-halted
returns-in_err-has_total-clause-halted g c =
    let C = g.C.Caller in
    let s = C.standing c.args.caller.now in
    let inv = c.tasks.invariant in
    err_of c.from_residual.result _
    (made_halted s.thread c.tasks.task-index (length c.args.tasks.now) c.tasks-test.true s.list (C.standing c.tasks.caller).list (C.standing c.count_task.new.caller).list inv.epochs
    (subst (λ t. GrowsBy (IsHalted t) (C.standing c.tasks.caller).list (C.standing c.count_task.new.caller).list) inv.went.makes.thread c.in_err-has_total.ensures.halted))

pub returns-in_err-has_total-clause-busy : goal.returns-in_err-has_total-clause-busy
returns-in_err-has_total-clause-busy g c = err_of c.from_residual.result _ (words_some c.args.bytes.now c.args.tasks.now c.tasks.task-index none c.tasks-test.true c.in_err-has_total.ensures.busy)
