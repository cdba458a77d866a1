use Rattle.std.proofs.Common.{◌≡◌, ◌+◌, [], ◌++◌, true, cond, refl, ap, sym, subst, ◌∙◌, arith}
use Rattle.std.proofs.lemmas.List.{append-nil}
use Rattle.yak_model.specs.Graph.{Thread}
use Rattle.yak_model.specs.Room.{table_words}
use Rattle.yak_model.specs.Texts.{words_of}
use Rattle.group_jobs.specs.Tallies.{KnowsProgress, new_total, task_room, words_room}
use Rattle.group_jobs.proofs.Aside.{aside_same, aside_then}
use Rattle.heap_tables.specs.Epochs.{GrowsBy}
use Rattle.group_jobs.specs.Epochs.{IsOneEpoch}
use Rattle.group_jobs.proofs.Grown.{grows_none, halted_within, within_halted}
use Rattle.group_jobs.proofs.Joined.{went_out, went_then}
use Rattle.group_jobs.proofs.Progress.{busy_room, busy_some, not_busy, progress_same}
use Rattle.group_jobs.proofs.Rooms.{err_of}
use Rattle.group_jobs.proofs.tallies.count_task.Goals as goal

pub returns-then-not-has_words-clause-counted : goal.returns-then-not-has_words-clause-counted
returns-then-not-has_words-clause-counted g c known done k progress few =
    let C = g.C.Caller in
    let none : words_of c.args.bytes.now ≡ [] = not_busy (words_of c.args.bytes.now) (sym (c.if-not-has_words.ensures)) in
    subst (KnowsProgress c.args.has_total (C.standing c.args.caller.now) known (C.standing c.pass_epoch.new.caller) (C.knows c.pass_epoch.new.caller)) (sym (append-nil done) ∙ ap (λ ws. done ++ ws) (sym none))
    (known, c.pass_epoch.ensures.keeps known k, progress_same c.args.has_total (C.standing c.args.caller.now) (C.standing c.pass_epoch.new.caller) known done (ap (λ (o : Thread). o.stack) c.pass_epoch.ensures.own) progress, aside_same (C.standing c.args.caller.now) (C.standing c.pass_epoch.new.caller) known (ap (λ (o : Thread). o.stack) c.pass_epoch.ensures.own))

pub open_total-requires-clause-progress : goal.open_total-requires-clause-progress
open_total-requires-clause-progress g c = let h = c.requires.progress in (h.0, h.1, h.2, h.3, omega (arith, h.4))

pub count_epoch-requires-clause-table : goal.count_epoch-requires-clause-table
count_epoch-requires-clause-table g c =
    let h = c.requires.progress in
    let r = c.in_ok-open_total.ensures.opened h.0 h.1 h.2 h.3 in
    (r.0, h.1, r.1, r.2, h.4)

pub returns-in_err-count_epoch-clause-out : goal.returns-in_err-count_epoch-clause-out
returns-in_err-count_epoch-clause-out g c =
    let C = g.C.Caller in
    let words = words_of c.args.bytes.now in
    err_of c.from_residual-in_err-count_epoch.result _
    (went_out C.base C.tells C.tells_known C.standing c.args.caller.now c.open_total.new.caller c.count_epoch.new.caller 1 1 (cond c.args.has_total 0 table_words) (table_words + words_room words) (new_total c.args.has_total true + task_room words) (busy_room c.args.has_total words (sym (c.if-not-has_words.ensures))) (omega arith) c.in_ok-open_total.ensures.went c.in_err-count_epoch.ensures.out)

pub returns-clause-went : goal.returns-clause-went
returns-clause-went g c =
    let C = g.C.Caller in
    let words = words_of c.args.bytes.now in
    went_then C.base C.tells C.tells_known C.standing c.args.caller.now c.open_total.new.caller c.count_epoch.new.caller (cond c.args.has_total 0 table_words) (table_words + words_room words) (new_total c.args.has_total true + task_room words) (busy_room c.args.has_total words (sym (c.if-not-has_words.ensures))) c.in_ok-open_total.ensures.went c.in_ok-count_epoch.ensures.went

pub returns-clause-counted : goal.returns-clause-counted
returns-clause-counted g c known done k progress few =
    let C = g.C.Caller in
    let r = c.in_ok-open_total.ensures.opened known done k progress in
    let t = c.in_ok-count_epoch.ensures.counted r.0 done r.1 r.2 few in
    (t.0, t.1, (c.in_ok-count_epoch.ensures.slots, t.2), aside_then (C.standing c.args.caller.now) (C.standing c.open_total.new.caller) (C.standing c.count_epoch.new.caller) known r.0 t.0 r.3 t.3)

pub returns-then-not-has_words-clause-epoch : goal.returns-then-not-has_words-clause-epoch
returns-then-not-has_words-clause-epoch g c = record {
  ready = c.args.caller.now;
  thread = refl;
  before = grows_none (g.C.Caller.standing c.args.caller.now).list;
  epoch = c.pass_epoch.ensures.list;
  part = λ busy. absurd (busy (not_busy (words_of c.args.bytes.now) (sym (c.if-not-has_words.ensures))));
}

pub returns-in_err-open_total-clause-halted : goal.returns-in_err-open_total-clause-halted
returns-in_err-open_total-clause-halted g c =
    let C = g.C.Caller in
    err_of c.from_residual.result _
    (within_halted (C.standing c.args.caller.now).thread (C.standing c.args.caller.now).list (C.standing c.open_total.new.caller).list c.open_total.ensures.list)

pub returns-in_err-count_epoch-clause-halted : goal.returns-in_err-count_epoch-clause-halted
returns-in_err-count_epoch-clause-halted g c =
    let C = g.C.Caller in
    err_of c.from_residual-in_err-count_epoch.result _
    (halted_within (C.standing c.args.caller.now).thread (C.standing c.open_total.new.caller).thread c.in_ok-open_total.ensures.went.makes.thread
    (C.standing c.args.caller.now).list (C.standing c.open_total.new.caller).list (C.standing c.count_epoch.new.caller).list c.open_total.ensures.list c.in_err-count_epoch.ensures.halted)

pub returns-clause-epoch : goal.returns-clause-epoch
returns-clause-epoch g c =
    let C = g.C.Caller in
    let thread = c.in_ok-open_total.ensures.went.makes.thread in
    record {
      ready = c.open_total.new.caller;
      thread = thread;
      before = c.open_total.ensures.list;
      epoch = subst (λ t. GrowsBy (IsOneEpoch t) (C.standing c.open_total.new.caller).list (C.standing c.count_epoch.new.caller).list) thread c.in_ok-count_epoch.ensures.list;
      part = λ busy.
          let h = c.requires.progress in
          let r = c.in_ok-open_total.ensures.opened h.0 h.1 h.2 h.3 in
          let t = c.in_ok-count_epoch.ensures.counted r.0 h.1 r.1 r.2 h.4 in
          (t.0, t.1, t.4);
    }

pub returns-in_err-open_total-clause-busy : goal.returns-in_err-open_total-clause-busy
returns-in_err-open_total-clause-busy g c = err_of c.from_residual.result _ (busy_some (words_of c.args.bytes.now) (sym (c.if-not-has_words.ensures)))

pub returns-in_err-count_epoch-clause-busy : goal.returns-in_err-count_epoch-clause-busy
returns-in_err-count_epoch-clause-busy g c = err_of c.from_residual-in_err-count_epoch.result _ (busy_some (words_of c.args.bytes.now) (sym (c.if-not-has_words.ensures)))
