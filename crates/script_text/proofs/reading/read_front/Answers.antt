use Rattle.std.proofs.Common.{take}
use Rattle.script_text.specs.Words.{lines}
use Rattle.script_text.proofs.Single as single
use Rattle.script_text.proofs.reading.read_front.Goals as goal

pub returns-clause-found : goal.returns-clause-found
returns-clause-found c = single.valid_script (take c.args.count (lines c.args.bytes.now)) c.read_lines.result c.read_lines.ensures.found
