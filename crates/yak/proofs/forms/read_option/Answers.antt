use Rattle.yak.proofs.Settings.{none_tells}
use Rattle.yak.proofs.forms.read_option.Goals as goal

pub returns-in_err-setting : goal.returns-in_err-setting
returns-in_err-setting c = rw c.from_residual.ensures (none_tells _ c.args.before c.in_default.ensures c.in_err-setting.ensures)
