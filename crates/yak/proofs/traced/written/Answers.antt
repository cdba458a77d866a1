use Rattle.yak.specs.Traced.{traced_means}
use Rattle.yak.proofs.Statuses.{of_success}
use Rattle.yak.proofs.Tracings.{no_fault}
use Rattle.yak.proofs.Writing.{written_by}
use Rattle.yak.proofs.traced.written.Goals as goal

pub returns : goal.returns
returns g c kept nothing =
    written_by (traced_means c.args.tracing) (no_fault c.args.tracing) c.prepare-told.result.status _ _ kept _ c.deref.result.now (c.prepare-told.ensures, nothing) c.deref.ensures.value
    (of_success c.write_all.result c.is_err.result _ c.write_all.ensures.all c.is_err.ensures.value c.if-is_err.false)
