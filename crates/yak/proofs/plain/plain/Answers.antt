use Rattle.yak.specs.declared.forms.Tracing.TheVariants.{Check, Make}
use Rattle.yak.proofs.Numbers.{answers}
use Rattle.yak.proofs.Tracings.{same_tracing}
use Rattle.yak.proofs.plain.plain.Goals as goal

pub returns-clause-answers : goal.returns-clause-answers
returns-clause-answers g c = λ untraced. answers c.law_script_or_refusal.ensures c.written.result _ _ _ _ c.written.ensures.ends

pub returns-clause-traces : goal.returns-clause-traces
returns-clause-traces g c = λ words. absurd (c.in_default.ensures Make words)

pub returns-clause-checks : goal.returns-clause-checks
returns-clause-checks g c = λ words. absurd (c.in_default.ensures Check words)

pub returns-in-Some-clause-traces : goal.returns-in-Some-clause-traces
returns-in-Some-clause-traces g c = λ words. c.traced.ensures.makes (same_tracing _ c.in-Some.tracing Make c.in-Some.ensures words) _ c.requires

pub returns-in-Some-clause-checks : goal.returns-in-Some-clause-checks
returns-in-Some-clause-checks g c = λ words. c.traced.ensures.checks (same_tracing _ c.in-Some.tracing Check c.in-Some.ensures words) _ c.requires
