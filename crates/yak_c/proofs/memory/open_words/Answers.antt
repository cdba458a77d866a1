use Rattle.std.proofs.Common.{rules, subst}
use Rattle.yak_c.specs.Memory.{HoldsOpening}
use Rattle.yak_c.proofs.memory.open_words.Goals as goal

pub returns-clause-opening : goal.returns-clause-opening
returns-clause-opening c = subst (HoldsOpening c.args.map) (search rules) c.open_from-words.ensures.opening
