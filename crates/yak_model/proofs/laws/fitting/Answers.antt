use Rattle.yak_model.proofs.Fitting.{fitting_is_kept}
use Rattle.yak_model.proofs.laws.fitting.Goals as goal

pub returns : goal.returns
returns c = fitting_is_kept
