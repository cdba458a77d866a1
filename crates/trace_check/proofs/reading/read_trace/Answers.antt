use Rattle.script_text.specs.Words.{lines}
use Rattle.trace_check.proofs.Single as single
use Rattle.trace_check.proofs.reading.read_trace.Goals as goal

pub returns-clause-every_trace : goal.returns-clause-every_trace
returns-clause-every_trace c = single.every_trace (lines c.args.bytes.now) c.read_parts.result c.read_parts.ensures.found c.read_parts.ensures.refused

pub returns-clause-every_bad_script : goal.returns-clause-every_bad_script
returns-clause-every_bad_script c = single.every_bad_script (lines c.args.bytes.now) c.read_parts.result c.read_parts.ensures.found c.read_parts.ensures.refused

pub returns-clause-every_bad_trace : goal.returns-clause-every_bad_trace
returns-clause-every_bad_trace c = single.every_bad_trace (lines c.args.bytes.now) c.read_parts.result c.read_parts.ensures.found c.read_parts.ensures.refused
