use Rattle.std.proofs.Common.{ap, ◌∙◌}
use Rattle.std.specs.FinMap.{empty}
use Rattle.heap_words.specs.Contents.{contents}
use Rattle.yak_model.specs.Graph.{standard_limits}
use Rattle.yak_model.specs.Spaces.{opening_spaces}
use Rattle.heap_core.specs.Callers.{thread_told}
use Rattle.sums_by_key.proofs.sums.open_heap.Goals as goal

pub returns-in-Ok-clause-knows : goal.returns-in-Ok-clause-knows
returns-in-Ok-clause-knows c = (empty, c.as_caller.ensures.begins (opening_spaces standard_limits 1) c.in-Ok.ensures.opening.0)

pub returns-in-Ok-clause-own : goal.returns-in-Ok-clause-own
returns-in-Ok-clause-own c =
    let core = c.as_caller.result.core in
    ap (thread_told (contents core.map core.words.words.items)) c.as_caller.ensures.thread ∙ c.as_caller.ensures.told (opening_spaces standard_limits 1) c.in-Ok.ensures.opening.0 1
