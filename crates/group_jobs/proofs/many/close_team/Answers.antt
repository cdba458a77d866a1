use Rattle.std.proofs.Common.{◌≡◌, ◌*◌, ◌≤◌, [], length, map, sym, ap, ◌∙◌, subst}
use Rattle.std.specs.List.{range_with_len}
use Rattle.std.proofs.lemmas.Result.{IfErr-at_err, IfOk-at_ok}
use Rattle.heap_words.specs.declared.map.Areas.{Areas}
use Rattle.heap_words.specs.Map.{IsAreas, page_words}
use Rattle.yak_model.specs.Room.{least_room}
use Rattle.yak_model.specs.Texts.{words_of}
use Rattle.mutator.specs.Resting.{seats_of}
use Rattle.task_feed.specs.Dealt.{IsDealt}
use Rattle.group_jobs.specs.Shared.{IsCountedDealt}
use Rattle.group_jobs.specs.Workers.{NoneRefused, WhyRefused}
use Rattle.group_jobs.specs.declared.count.CountError.TheVariants as CountError
use Rattle.group_jobs.proofs.CountedShared.{counted_dealt, room_left}
use Rattle.group_jobs.proofs.Hired.{counted_seats}
use Rattle.group_jobs.proofs.RanOutShared.{ran_out}
use Rattle.group_jobs.proofs.many.close_team.Goals as goal

pub finish-finished-requires-clause-seats : goal.finish-finished-requires-clause-seats
finish-finished-requires-clause-seats c =
    let h = c.requires.some in
    let seats = seats_of c.dismiss.new.back.items in
    counted_seats c.args.heap.gate h.0 h.1 h.2 c.args.team.items h.4.counted seats c.in-Ok.ensures.length c.in-Ok.ensures.each

pub returns-in-Ok-counted-clause-counted : goal.returns-in-Ok-counted-clause-counted
returns-in-Ok-counted-clause-counted c lines bytes tasks row cut have =
    let gate = c.args.heap.gate in
    let team = c.args.team.items in
    let v = c.finish-finished.result.seat.me.0 in
    let same : v.map ≡ gate.map = c.finish-finished.ensures.map in
    let full : length team ≡ v.map.threads = c.requires.all ∙ sym (ap (λ (m : Areas). m.threads) same) in
    subst (λ m. IsCountedDealt m lines bytes tasks row v) same
    (counted_dealt gate bytes tasks row team have.counted (IfOk-at_ok (λ list. NoneRefused team) c.in-Ok-counted.is c.requires.unrefused) (seats_of c.dismiss.new.back.items) c.in-Ok.ensures.each c.in-Ok.ensures.length v c.finish-finished.ensures.finished same full
    (subst IsAreas (sym same) c.requires.areas) lines cut (subst (λ n. IsDealt (length tasks) (map row (range_with_len 0 n)) []) full have.dealt))

pub returns-in-Ok-counted-clause-room : goal.returns-in-Ok-counted-clause-room
returns-in-Ok-counted-clause-room c bytes tasks row have =
    let gate = c.args.heap.gate in
    let team = c.args.team.items in
    let v = c.finish-finished.result.seat.me.0 in
    let same : v.map ≡ gate.map = c.finish-finished.ensures.map in
    let full : length team ≡ v.map.threads = c.requires.all ∙ sym (ap (λ (m : Areas). m.threads) same) in
    subst (λ (m : Areas). least_room (words_of bytes) ≤ page_words m * m.pages) same
    (room_left gate bytes tasks row team have.counted (IfOk-at_ok (λ list. NoneRefused team) c.in-Ok-counted.is c.requires.unrefused) (seats_of c.dismiss.new.back.items) c.in-Ok.ensures.each c.in-Ok.ensures.length v c.finish-finished.ensures.finished same full
    (subst IsAreas (sym same) c.requires.areas) have.may.lines have.may.cut (subst (λ n. IsDealt (length tasks) (map row (range_with_len 0 n)) []) full have.dealt))

pub returns-in-Err-OutOfHeap-clause-why : goal.returns-in-Err-OutOfHeap-clause-why
returns-in-Err-OutOfHeap-clause-why c lines bytes tasks row left cut have =
    let gate = c.args.heap.gate in
    let team = c.args.team.items in
    let v = c.finish-finished.result.seat.me.0 in
    let same : v.map ≡ gate.map = c.finish-finished.ensures.map in
    let full : length team ≡ v.map.threads = c.requires.all ∙ sym (ap (λ (m : Areas). m.threads) same) in
    let told : c.in-Err-OutOfHeap.field-0 ≡ CountError.OutOfHeap c.in-Err-OutOfHeap.census c.in-Err-OutOfHeap.field-0-1 = rw c.in-Err-OutOfHeap.is at c.in-Err-OutOfHeap.field-0-is in
    let refused = subst (WhyRefused team) told (IfErr-at_err (WhyRefused team) c.in-Err-OutOfHeap.is c.requires.refused) in
    ran_out gate bytes lines tasks row left team have.counted (seats_of c.dismiss.new.back.items) c.in-Ok.ensures.length c.in-Ok.ensures.each v c.finish-finished.ensures.finished full cut
    (subst (λ n. IsDealt (length tasks) (map row (range_with_len 0 n)) left) full have.dealt) gate.map same c.in-Err-OutOfHeap.census refused
