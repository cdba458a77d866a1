use Rattle.std.proofs.Common.{ℕ, List, IfOk, subst}
use Rattle.yak_model.specs.declared.homes.Home.{Home}
use Rattle.yak_model.specs.Lawful.{HasWords}
use Rattle.yak_model.specs.Machine.{shown_state}
use Rattle.yak_model.specs.Spaces.{Escapes, SpaceState, innermost}
use Rattle.yak_model.proofs.Steps.{same_ok}
use Rattle.yak_model.proofs.space_state.SpaceState.escape_words.Goals as goal

abbrev Escaping : ℕ → SpaceState → ℕ → Type 0
Escaping t s words = HasWords s (Escapes s t (innermost s.graph t)) words

pub returns-clause-words : goal.returns-clause-words
returns-clause-words c =
    let t = c.args.thread in
    let g = c.self.inside.graph in
    same_ok (Escaping t c.args.self.now) _ c.words_escaping.result c.map_err.result c.map_err.ensures.cases c.map_err.ensures.variant
    (subst (λ (s : SpaceState). IfOk c.words_escaping.result (Escaping t s)) c.self.view_is
    (subst (λ (homes : List Home). IfOk c.words_escaping.result (Escaping t (shown_state g homes))) c.deref.ensures.value c.words_escaping.ensures.words))
