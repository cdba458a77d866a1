use Rattle.std.proofs.Common.{◌≡◌, ℕ, [], sym, ap, ◌∙◌, subst}
use Rattle.atomic_table.specs.Seated.{TableId}
use Rattle.heap_words.specs.declared.map.Areas.{Areas}
use Rattle.heap_words.specs.Map.{HasThread}
use Rattle.heap_words.specs.Contents.{buffer_of, contents}
use Rattle.yak_model.specs.Continued.{StandsStill}
use Rattle.yak_model.specs.Recorded.{SomeRecorded}
use Rattle.standing_calls.proofs.Logs.{buffers-told, pages-told}
use Rattle.safepoint_gate.specs.declared.rule.View.{View}
use Rattle.safepoint_gate.specs.Steps.{KeepBuffers, first_thread}
use Rattle.mutator.proofs.Stepped.{closing_explains, some_recorded}
use Rattle.mutator.proofs.Flushed.{files_keep, files_own, files_still, flushes, may_stay}
use Rattle.mutator.proofs.closed_calls.flush_closed.Goals as goal

pub file_logs-requires-clause-buffers : goal.file_logs-requires-clause-buffers
file_logs-requires-clause-buffers g c =
    let v = c.args.inside.seat.me.0 in
    let closed = c.close-closed.result.seat.me.0 in
    let same : closed.map ≡ c.map.result = c.close-closed.ensures.gate.1 ∙ sym c.map.ensures in
    buffers-told c.map.result (contents c.map.result closed.words)
    (subst (λ m. SomeRecorded m (contents m closed.words)) same
    (some_recorded closed.map (contents closed.map closed.words) closed.history (closing_explains v closed c.close-closed.ensures.view c.close-closed.ensures.closing)))

pub file_logs-requires-clause-pages : goal.file_logs-requires-clause-pages
file_logs-requires-clause-pages g c =
    let v = c.args.inside.seat.me.0 in
    let closed = c.close-closed.result.seat.me.0 in
    let same : closed.map ≡ c.map.result = c.close-closed.ensures.gate.1 ∙ sym c.map.ensures in
    pages-told c.map.result (contents c.map.result closed.words)
    (subst (λ m. SomeRecorded m (contents m closed.words)) same
    (some_recorded closed.map (contents closed.map closed.words) closed.history (closing_explains v closed c.close-closed.ensures.view c.close-closed.ensures.closing)))

pub open-requires : goal.open-requires
open-requires g c =
    let v = c.args.inside.seat.me.0 in
    let closed = c.close-closed.result.seat.me.0 in
    let filed = c.file_logs.new.words.seat.me.0 in
    let m = c.map.result in
    let same : closed.map ≡ m = c.close-closed.ensures.gate.1 ∙ sym c.map.ensures in
    let e = c.file_logs.ensures in
    let still : StandsStill closed.map (contents closed.map closed.words) (contents closed.map filed.words) =
    subst (λ x. StandsStill x (contents x closed.words) (contents x filed.words)) (sym same) (files_still m (contents m closed.words) (contents m filed.words) e.sound.areas e.filed e.sets e.others e.sound.limits) in
    let keep : KeepBuffers closed.map (contents closed.map closed.words) (contents closed.map filed.words) =
    subst (λ x. KeepBuffers x (contents x closed.words) (contents x filed.words)) (sym same) (files_keep m (contents m closed.words) (contents m filed.words) e.sound.areas e.filed e.sets e.others e.sound.limits) in
    let thread : HasThread m (first_thread v.own) = subst (λ (y : Areas × ℕ). HasThread y.0 y.1) (λ i. ((c.requires.gate.1 ∙ sym c.map.ensures) i, sym c.args.inside.numbered i)) c.args.inside.threaded in
    let none : buffer_of (contents closed.map filed.words) (first_thread v.own) ≡ [] =
    subst (λ x. buffer_of (contents x filed.words) (first_thread v.own) ≡ []) (sym same) (files_own m (contents m closed.words) (contents m filed.words) e.sound.areas e.filed e.sets e.others e.sound.limits (first_thread v.own) thread) in
    record { may_open = may_stay v closed filed c.close-closed.ensures.view (ap (λ (b : TableId × View). b.1) e.base) still keep none }

pub returns-clause-flushes : goal.returns-clause-flushes
returns-clause-flushes g c =
    let v = c.args.inside.seat.me.0 in
    let closed = c.close-closed.result.seat.me.0 in
    let filed = c.file_logs.new.words.seat.me.0 in
    let m = c.map.result in
    let same : closed.map ≡ m = c.close-closed.ensures.gate.1 ∙ sym c.map.ensures in
    let e = c.file_logs.ensures in
    let still : StandsStill closed.map (contents closed.map closed.words) (contents closed.map filed.words) =
    subst (λ x. StandsStill x (contents x closed.words) (contents x filed.words)) (sym same) (files_still m (contents m closed.words) (contents m filed.words) e.sound.areas e.filed e.sets e.others e.sound.limits) in
    let thread : HasThread m (first_thread v.own) = subst (λ (y : Areas × ℕ). HasThread y.0 y.1) (λ i. ((c.requires.gate.1 ∙ sym c.map.ensures) i, sym c.args.inside.numbered i)) c.args.inside.threaded in
    let none : buffer_of (contents closed.map filed.words) (first_thread v.own) ≡ [] =
    subst (λ x. buffer_of (contents x filed.words) (first_thread v.own) ≡ []) (sym same) (files_own m (contents m closed.words) (contents m filed.words) e.sound.areas e.filed e.sets e.others e.sound.limits (first_thread v.own) thread) in
    flushes v closed filed c.open.result.seat.me.0 c.close-closed.ensures.view c.close-closed.ensures.closing (ap (λ (b : TableId × View). b.1) e.base) c.open.ensures.opened.0 c.open.ensures.opened.1 still none
