use Rattle.std.proofs.Common.{◌≡◌, sym, ap, ◌∙◌, subst}
use Rattle.safepoint_gate.specs.declared.closing.Closed.{Closed}
use Rattle.heap_words.specs.Contents.{contents}
use Rattle.yak_model.specs.Recorded.{SomeRecorded}
use Rattle.mutator.proofs.Stepped.{closing_explains, done_closed, makes_call, may_continue, some_recorded, view_same}
use Rattle.mutator.proofs.closed_calls.step_closed.Goals as goal

pub over-core-requires-clause-stands : goal.over-core-requires-clause-stands
over-core-requires-clause-stands g c =
    let v = c.args.inside.seat.me.0 in
    let closed = c.close.result.seat.me.0 in
    let same : closed.map ≡ c.map.result = c.close.ensures.gate.1 ∙ sym c.map.ensures in
    subst (λ m. SomeRecorded m (contents m closed.words)) same
    (some_recorded closed.map (contents closed.map closed.words) closed.history (closing_explains v closed c.close.ensures.view c.close.ensures.closing))

pub open-requires : goal.open-requires
open-requires g c =
    let over = c.over-core.ensures in
    let step = c.step-stepped.ensures in
    let same = view_same c.into_words.result c.step-stepped.new.self.words c.over-core.result.words c.close.result c.into_words.ensures c.step-stepped.new.self.words.seat.table_id c.over-core.result.words.seat.table_id step.base over.words in
    let done = done_closed c.into_words.result c.step-stepped.new.self.words c.over-core.result.words c.close.result _ _ _ _ _ _ _ c.into_words.ensures (ap (λ (x : Closed). x.seat.me.0.words) over.words) over.map step.map (c.close.ensures.gate.1 ∙ sym c.map.ensures) (c.thread-thread.ensures ∙ sym c.args.inside.numbered) step.done in
    record { may_open = may_continue c.args.inside.seat.me.0 c.close.result.seat.me.0 c.into_words.result.seat.me.0 c.args.call c.step-stepped.result c.requires.call c.close.ensures.view c.close.ensures.closing same done }

pub returns-clause-makes : goal.returns-clause-makes
returns-clause-makes g c =
    let over = c.over-core.ensures in
    let step = c.step-stepped.ensures in
    let same = view_same c.into_words.result c.step-stepped.new.self.words c.over-core.result.words c.close.result c.into_words.ensures c.step-stepped.new.self.words.seat.table_id c.over-core.result.words.seat.table_id step.base over.words in
    let done = done_closed c.into_words.result c.step-stepped.new.self.words c.over-core.result.words c.close.result _ _ _ _ _ _ _ c.into_words.ensures (ap (λ (x : Closed). x.seat.me.0.words) over.words) over.map step.map (c.close.ensures.gate.1 ∙ sym c.map.ensures) (c.thread-thread.ensures ∙ sym c.args.inside.numbered) step.done in
    makes_call c.args.inside.seat.me.0 c.close.result.seat.me.0 c.into_words.result.seat.me.0 c.open.result.seat.me.0 c.args.call c.step-stepped.result c.close.ensures.view c.close.ensures.closing
    same c.open.ensures.opened done
