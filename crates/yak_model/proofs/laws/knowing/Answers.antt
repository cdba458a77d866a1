use Rattle.yak_model.proofs.Known.{something_is_known}
use Rattle.yak_model.proofs.laws.knowing.Goals as goal

pub returns : goal.returns
returns c = something_is_known
