use Rattle.std.proofs.Common.{ℕ, ap, subst}
use Rattle.heap_words.specs.Contents.{contents}
use Rattle.yak_model.specs.Recorded.{StandsRecorded}
use Rattle.script_text.specs.ScriptContents.{ScriptContents}
use Rattle.yak_model.specs.Graph.{standard_limits}
use Rattle.yak_model.specs.Spaces.{opening_spaces}
use Rattle.trace_check.proofs.making.open.Goals as goal

pub returns-in-Ok-clause-opening : goal.returns-in-Ok-clause-opening
returns-in-Ok-clause-opening c =
    subst (λ (n : ℕ). StandsRecorded c.in-Ok.core.map (contents c.in-Ok.core.map c.in-Ok.core.words.words.items) (opening_spaces standard_limits n))
    (ap (λ (s : ScriptContents). s.heap.threads) c.script.view_is) c.in-Ok.ensures.opening
