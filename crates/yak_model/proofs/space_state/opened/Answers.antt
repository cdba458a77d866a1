use Rattle.std.proofs.Common.{sym, subst}
use Rattle.yak_model.specs.Graph.{Graph}
use Rattle.yak_model.specs.Machine.{IsSound}
use Rattle.yak_model.proofs.Parts.{opening_sound}
use Rattle.yak_model.proofs.space_state.opened.Goals as goal

pub invariant_of-result : goal.invariant_of-result
invariant_of-result c =
    subst (λ (g : Graph). IsSound g c.in_ok-homes.homes.items) (sym c.in_ok-graph.ensures)
    (subst (IsSound _) (sym c.in_ok-homes.ensures) (opening_sound c.args.threads c.requires.last))
