use Rattle.std.proofs.Common.{ap, sym, ◌∙◌}
use Rattle.std.specs.FinMap.{get}
use Rattle.yak_model.specs.Graph.{fields_or_none}
use Rattle.yak_model.proofs.Maps.{get-named}
use Rattle.yak_model.proofs.graph.ObjectMap.fields_of.Goals as goal

pub returns-in-Some : goal.returns-in-Some
returns-in-Some c =
    c.fields.ensures
    ∙ sym (ap (λ m. fields_or_none (get m c.args.name)) (sym c.self.view_is)
    ∙ ap fields_or_none (get-named c.self.inside.held.entries c.args.name ∙ sym c.in-Some.ensures.value))

pub returns-in-None : goal.returns-in-None
returns-in-None c =
    sym (ap (λ m. fields_or_none (get m c.args.name)) (sym c.self.view_is)
    ∙ ap fields_or_none (get-named c.self.inside.held.entries c.args.name ∙ sym c.in-None.ensures.value))
