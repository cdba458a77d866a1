use Rattle.yak_model.proofs.Known.{parts_are_kept}
use Rattle.yak_model.proofs.laws.parts.Goals as goal

pub returns : goal.returns
returns c = parts_are_kept
