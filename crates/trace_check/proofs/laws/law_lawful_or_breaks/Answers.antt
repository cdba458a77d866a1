use Rattle.std.proofs.Common.{take}
use Rattle.script_text.proofs.Single.{valid_of}
use Rattle.trace_check.proofs.Whole.{never_breaks}
use Rattle.trace_check.proofs.laws.law_lawful_or_breaks.Goals as goal

pub returns : goal.returns
returns c = λ lines trace entry is lawful breaks.
    never_breaks c.uniqueness.ensures trace.script (valid_of (take is.0 lines) trace.script is.2).rise trace.entries entry lawful breaks
