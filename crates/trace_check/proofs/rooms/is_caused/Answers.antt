use Rattle.trace_check.proofs.Ends.{caused_by}
use Rattle.trace_check.proofs.rooms.is_caused.Goals as goal

pub returns-in-Some : goal.returns-in-Some
returns-in-Some c =
    caused_by c.is_cause.result c.args.last c.in-Some.thread c.args.step c.in-Some.ensures.some c.in-Some.ensures.only c.is_cause.ensures

pub returns-in-None : goal.returns-in-None
returns-in-None c = λ t ends. absurd (c.in-None.ensures.none t ends)
