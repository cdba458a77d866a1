use Rattle.std.proofs.Common.{◌≡◌, sym, subst, Option, None}
use Rattle.epoch_lattice.specs.declared.Space.{Space}
use Rattle.yak_model.specs.Graph.{slot_of}
use Rattle.heap_words.specs.Contents.{contents}
use Rattle.standing_calls.specs.Records.{Crosses, home_at}
use Rattle.standing_calls.proofs.Storing.{none_crosses}
use Rattle.heap_core.proofs.barriers.space_left.Goals as goal

pub returns-in-Some-clause-crosses : goal.returns-in-Some-clause-crosses
returns-in-Some-clause-crosses g c state h =
    let same = c.space_of_slot.ensures.space state h in
    (λ x. subst (λ (b : Option Space). Crosses b c.args.to) same x, λ x. subst (λ (b : Option Space). Crosses b c.args.to) (sym same) x)

pub returns-in-None-clause-crosses : goal.returns-in-None-clause-crosses
returns-in-None-clause-crosses g c state h =
    (λ x. absurd x, λ x. none_crosses (home_at state (slot_of state.graph c.args.thread c.args.s)) (subst (λ (b : Option Space). Crosses (home_at state (slot_of state.graph c.args.thread c.args.s)) b) c.in-None.is x))
