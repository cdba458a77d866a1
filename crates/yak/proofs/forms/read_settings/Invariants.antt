use Rattle.std.proofs.Common.{length, map}
use Rattle.std.specs.Prelude.{string_bytes}
use Rattle.yak.proofs.Settings.{IsSame}
use Rattle.yak.proofs.forms.read_settings.Given as goal

-- the words left tell the same as all of them
abbrev pub invariant-settings : goal.invariant-settings
invariant-settings l = IsSame (map string_bytes l.words) l.settings (map string_bytes l.left)

abbrev pub decreases-settings : goal.decreases-settings
decreases-settings l = length l.left
