use Rattle.std.proofs.Common.{◌≡◌, ◌+◌, ◌∙◌, ap, subst, arith}
use Rattle.yak_model.specs.Graph.{Limits, Thread}
use Rattle.yak_model.specs.Room.{table_words}
use Rattle.yak_model.specs.Texts.{words_of}
use Rattle.group_jobs.specs.Tallies.{words_room}
use Rattle.group_jobs.proofs.Aside.{aside_same, aside_then}
use Rattle.heap_tables.specs.Runs.{next_of}
use Rattle.group_jobs.specs.Tallies.{IsPartTable}
use Rattle.group_jobs.proofs.Grown.{begun_ended, begun_halted, end_list, ended_within}
use Rattle.group_jobs.proofs.Joined.{went_out}
use Rattle.group_jobs.proofs.Progress.{tally_same}
use Rattle.group_jobs.proofs.Rooms.{err_of}
use Rattle.group_jobs.proofs.tallies.count_epoch.Goals as goal

pub begin-requires-clause-depth : goal.begin-requires-clause-depth
begin-requires-clause-depth g c =
    let deep = ap (λ (l : Limits). l.depth) (g.met.C.Caller.standard c.args.caller.now) in
    omega (arith, deep, c.requires.outside)

pub count_part-requires-clause-table : goal.count_part-requires-clause-table
count_part-requires-clause-table g c =
    let C = g.C.Caller in
    let h = c.requires.table in
    (h.0, h.1, c.begin.ensures.keeps h.0 h.2, tally_same (C.standing c.args.caller.now) (C.standing c.begin.new.caller) h.0 h.1 (ap (λ (o : Thread). o.stack) c.begin.ensures.own) h.3, h.4)

pub returns-in_err-count_part-clause-out : goal.returns-in_err-count_part-clause-out
returns-in_err-count_part-clause-out g c =
    let C = g.C.Caller in
    let words = words_of c.args.bytes.now in
    let deep = ap (λ (o : Thread). o.depth) c.begin.ensures.own in
    err_of c.from_residual.result _
    (went_out C.base C.tells C.tells_known C.standing c.args.caller.now c.begin.new.caller c.count_part.new.caller (C.standing c.begin.new.caller).own.depth 1 0 (table_words + words_room words) (table_words + words_room words) (omega arith) (omega (arith, deep, c.requires.outside)) c.begin.ensures.went c.in_err-count_part.ensures.out)

pub end-requires-clause-some : goal.end-requires-clause-some
end-requires-clause-some g c =
    let C = g.C.Caller in
    let h = c.requires.table in
    let r = c.in_ok-count_part.ensures.counted h.0 h.1 (c.begin.ensures.keeps h.0 h.2) (tally_same (C.standing c.args.caller.now) (C.standing c.begin.new.caller) h.0 h.1 (ap (λ (o : Thread). o.stack) c.begin.ensures.own) h.3) h.4 in
    (r.0, r.1)

pub returns-clause-counted : goal.returns-clause-counted
returns-clause-counted g c known done k t few =
    let C = g.C.Caller in
    let r = c.in_ok-count_part.ensures.counted known done (c.begin.ensures.keeps known k) (tally_same (C.standing c.args.caller.now) (C.standing c.begin.new.caller) known done (ap (λ (o : Thread). o.stack) c.begin.ensures.own) t) few in
    let begun = aside_same (C.standing c.args.caller.now) (C.standing c.begin.new.caller) known (ap (λ (o : Thread). o.stack) c.begin.ensures.own) in
    let ended = aside_same (C.standing c.count_part.new.caller) (C.standing c.end.new.caller) r.0 (ap (λ (o : Thread). o.stack) c.end.ensures.own) in (
      r.0,
      c.end.ensures.keeps r.0 r.1,
      tally_same (C.standing c.count_part.new.caller) (C.standing c.end.new.caller) r.0 _ (ap (λ (o : Thread). o.stack) c.end.ensures.own) r.2,
      aside_then (C.standing c.args.caller.now) (C.standing c.count_part.new.caller) (C.standing c.end.new.caller) known r.0 r.0 (aside_then (C.standing c.args.caller.now) (C.standing c.begin.new.caller) (C.standing c.count_part.new.caller) known known r.0 begun r.3) ended,
      subst (λ n. IsPartTable r.0 n (words_of c.args.bytes.now)) same_next r.4,
    )
  where
    same_next : next_of (g.C.Caller.standing c.begin.new.caller) ≡ next_of (g.C.Caller.standing c.args.caller.now)
    same_next =
        let C = g.C.Caller in
        (λ i. record { thread = c.begin.ensures.went.makes.thread i; serial = ap (λ (o : Thread). o.made) c.begin.ensures.own i + 1 })

pub returns-clause-list : goal.returns-clause-list
returns-clause-list g c =
    let C = g.C.Caller in
    begun_ended (C.standing c.args.caller.now).thread (C.standing c.count_part.new.caller).thread (c.in_ok-count_part.ensures.went.makes.thread ∙ c.begin.ensures.went.makes.thread)
    (C.standing c.args.caller.now).list (C.standing c.begin.new.caller).list (C.standing c.end.new.caller).list c.begin.ensures.list
    (ended_within (C.standing c.count_part.new.caller).thread (C.standing c.begin.new.caller).list (C.standing c.count_part.new.caller).list (C.standing c.end.new.caller).list c.count_part.ensures.list (end_list (C.standing c.count_part.new.caller).thread (C.standing c.count_part.new.caller).list (C.standing c.end.new.caller).list c.end.ensures.list))

pub returns-in_err-count_part-clause-halted : goal.returns-in_err-count_part-clause-halted
returns-in_err-count_part-clause-halted g c =
    let C = g.C.Caller in
    err_of c.from_residual.result _
    (begun_halted (C.standing c.args.caller.now).thread (C.standing c.args.caller.now).list (C.standing c.begin.new.caller).list (C.standing c.count_part.new.caller).list c.begin.ensures.list c.count_part.ensures.list)
