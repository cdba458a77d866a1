use Rattle.std.proofs.Common.{sym, subst, IfErr, Result, Ok, Err}
use Rattle.calls_in_flight.specs.FieldSteps.{MayStoreField}
use Rattle.calls_in_flight.specs.OwnStores.{done_by}
use Rattle.safepoint_gate.specs.declared.seats.Inside.{Inside}
use Rattle.safepoint_gate.specs.Singles.{StoredField, actor}
use Rattle.barriers.specs.Barred.{Crossed, IsLogFull}
use Rattle.barriers.proofs.StoredFields.{barred_bare, barred_logged, log-full, may-store_bare, may-store_logged}
use Rattle.barriers.proofs.fields.store_barrier.Goals.{then-crosses+in_ok-record, else-crosses}
use Rattle.barriers.proofs.fields.store_barrier.Goals as goal

on_err : {A B : Type 0} (r : Result A B) (X : Type 0) → X → IfErr r (λ e. X)
on_err (Ok a) X x = tt
on_err (Err b) X x = x

pub returns-in_err-record-clause-full : goal.returns-in_err-record-clause-full
returns-in_err-record-clause-full c =
    let v = c.args.inside.now.seat.me.0 in
    let w = c.crosses.new.inside.seat.me.0 in
    let u = c.record.new.inside.seat.me.0 in
    let crossed = subst (λ told. Crossed v c.args.call c.args.object.0 c.args.field c.args.word told w) c.if-crosses.true c.crosses.ensures.crossed in
    on_err c.from_residual.result (IsLogFull v c.args.call u) (log-full v w u c.args.call c.args.object.0 c.args.field c.args.word c.args.inside.now.single crossed c.in_err-record.ensures.full)

pub store_field-requires-clause-field : goal.store_field-requires-clause-field
store_field-requires-clause-field c =
    let v = c.args.inside.now.seat.me.0 in
    let w = c.crosses.new.inside.seat.me.0 in
    let one = c.args.inside.now.single in
    elim c.if-crosses.branch [
      | then-crosses+in_ok-record b ↦
          subst (λ (i : Inside). MayStoreField i.seat.me.0.map (actor i.seat.me.0) c.args.call c.args.object.0 c.args.field c.args.word) (sym b.inside-is)
          (may-store_logged v w b.record.new.inside.seat.me.0 c.args.call c.args.object.0 c.args.field c.args.word one
          (subst (λ told. Crossed v c.args.call c.args.object.0 c.args.field c.args.word told w) b.if-crosses.true c.crosses.ensures.crossed)
          c.crosses.new.inside.single b.in_ok-record.ensures.logged)
      | else-crosses b ↦
          subst (λ (i : Inside). MayStoreField i.seat.me.0.map (actor i.seat.me.0) c.args.call c.args.object.0 c.args.field c.args.word) (sym b.inside-is)
          (may-store_bare v w c.args.call c.args.object.0 c.args.field c.args.word one
          (subst (λ told. Crossed v c.args.call c.args.object.0 c.args.field c.args.word told w) b.if-crosses.false c.crosses.ensures.crossed)
          c.requires.quiet)
    ]

pub returns-clause-stored : goal.returns-clause-stored
returns-clause-stored c =
    let v = c.args.inside.now.seat.me.0 in
    let w = c.crosses.new.inside.seat.me.0 in
    let z = c.store_field.new.self.seat.me.0 in
    let one = c.args.inside.now.single in
    elim c.if-crosses.branch [
      | then-crosses+in_ok-record b ↦
          barred_logged v w b.record.new.inside.seat.me.0 c.args.call c.args.object.0 c.args.field c.args.word one
          (subst (λ told. Crossed v c.args.call c.args.object.0 c.args.field c.args.word told w) b.if-crosses.true c.crosses.ensures.crossed)
          c.crosses.new.inside.single b.in_ok-record.ensures.logged z
          (subst (λ (i : Inside). StoredField i.seat.me.0 (done_by c.args.call) z) b.inside-is c.store_field.ensures.stored)
      | else-crosses b ↦
          barred_bare v w c.args.call c.args.object.0 c.args.field c.args.word one
          (subst (λ told. Crossed v c.args.call c.args.object.0 c.args.field c.args.word told w) b.if-crosses.false c.crosses.ensures.crossed) z
          (subst (λ (i : Inside). StoredField i.seat.me.0 (done_by c.args.call) z) b.inside-is c.store_field.ensures.stored)
    ]
