use Rattle.yak.specs.Threaded.{threads_mean}
use Rattle.yak.proofs.Statuses.{of_success}
use Rattle.yak.proofs.Writing.{written_by}
use Rattle.yak.proofs.threaded.written.Goals as goal

pub returns : goal.returns
returns g c =
    written_by threads_mean (λ input text kept h. h) c.prepare-prepared.result.status _ _ _ _ c.deref.result.now c.prepare-prepared.ensures.text c.deref.ensures.value
    (of_success c.write_all.result c.is_err.result _ c.write_all.ensures.all c.is_err.ensures.value c.if-is_err.false)
