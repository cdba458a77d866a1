use Rattle.yak.proofs.Settings.{no_setting}
use Rattle.yak.proofs.forms.next_setting.Goals as goal

pub returns-in-None : goal.returns-in-None
returns-in-None c = no_setting _ c.in_default.ensures c.in_default-split.ensures c.in-None.ensures
