use Rattle.yak.proofs.Ranges.{count_ranged}
use Rattle.yak.proofs.plain.prepare.Goals as goal

pub count-requires-clause-pages : goal.count-requires-clause-pages
count-requires-clause-pages g c = (count_ranged _ _ c.in-Some-Count.options c.in-Some-Count.ensures.0 c.in-Some-Count.field-0-is).pages

pub count-requires-clause-lines : goal.count-requires-clause-lines
count-requires-clause-lines g c = (count_ranged _ _ c.in-Some-Count.options c.in-Some-Count.ensures.0 c.in-Some-Count.field-0-is).task
