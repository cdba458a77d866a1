use Rattle.yak.proofs.Unasked.{asked_shared, none_shared}
use Rattle.yak.proofs.shared.asked_count.Goals as goal

pub returns-in_err-form : goal.returns-in_err-form
returns-in_err-form c = rw c.from_residual.ensures (none_shared _ c.in_err-form.ensures)

pub returns : goal.returns
returns c = asked_shared _ c.in_ok-form.form c.shared_count.result c.in_ok-form.ensures c.shared_count.ensures
