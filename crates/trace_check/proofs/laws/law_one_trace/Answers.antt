use Rattle.trace_check.proofs.Single.{one_trace}
use Rattle.trace_check.proofs.laws.law_one_trace.Goals as goal

pub returns : goal.returns
returns c = one_trace
