use Rattle.yak.proofs.Tracings.{answers_check, answers_trace}
use Rattle.yak.proofs.traced.traced.Goals as goal

pub returns-clause-makes : goal.returns-clause-makes
returns-clause-makes g c = answers_trace c.law_script_or_refusal.ensures c.args.tracing c.written.result _ _ c.written.ensures

pub returns-clause-checks : goal.returns-clause-checks
returns-clause-checks g c = answers_check c.law_lawful_or_breaks.ensures c.args.tracing c.written.result _ _ c.written.ensures
