use Rattle.std.proofs.Common.{◌≡◌, ℕ, ap, sym, subst, ◌∙◌}
use Rattle.yak_model.specs.Kept.{state_of, target_words}
use Rattle.yak_model.specs.Lawful.{HasWords}
use Rattle.yak_model.specs.Spaces.{Escapes}
use Rattle.yak_model.proofs.Words.{escape_sum}
use Rattle.yak_model.proofs.spaces.escape_words.Goals as goal

pub returns-clause-words : goal.returns-clause-words
returns-clause-words c = λ limits.
    let threads = c.args.threads.now in
    let objects = c.args.objects.now in
    let targets = c.in_ok-targets.targets.items in
    let same : target_words objects targets ≡ c.target_words.result = sym (c.target_words.ensures.words ∙ ap (target_words objects) c.deref.ensures.value) in
    subst (λ (words : ℕ). HasWords (state_of limits threads objects) (Escapes (state_of limits threads objects) c.args.t c.args.region) words) same
    (escape_sum limits threads objects c.requires.distinct c.args.t c.args.region targets c.in_ok-targets.ensures.size c.in_ok-targets.ensures.join)
