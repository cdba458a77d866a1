use Rattle.std.proofs.Common.{rules, subst}
use Rattle.yak_c.specs.Memory.{Holds}
use Rattle.yak_c.proofs.memory.step_words.Goals as goal

pub returns-clause-holds : goal.returns-clause-holds
returns-clause-holds c = subst (Holds c.args.map) (search rules) c.step_from-words.ensures.holds
