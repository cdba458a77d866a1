use Rattle.std.proofs.Common.{◌≡◌, ℕ, ◌*◌, ◌≤◌, ap, sym, subst, ◌∙◌, length, arith}
use Rattle.object_layout.specs.declared.TheConstants.{PAGE_WORDS}
use Rattle.epoch_lattice.specs.declared.Space.{Space}
use Rattle.epoch_lattice.specs.Lattice.{inner_of}
use Rattle.yak_model.specs.declared.TheConstants.{MOST_WORDS}
use Rattle.yak_model.specs.Graph.{Limits}
use Rattle.yak_model.specs.Kept.{AreDistinct, AreHomesValid, AreSmall, state_of}
use Rattle.yak_model.specs.Lawful.{HasWords}
use Rattle.yak_model.specs.Machine.{kept_of, shown_state}
use Rattle.yak_model.specs.Spaces.{Escapes, SpaceState, innermost}
use Rattle.yak_model.proofs.Parts.{as_long, kept_distinct, kept_valid, same_state}
use Rattle.yak_model.proofs.Words.{few_homes, if_ok, kept_small}
use Rattle.yak_model.proofs.space_state.words_escaping.Goals as goal

pub escape_words-requires-clause-distinct : goal.escape_words-requires-clause-distinct
escape_words-requires-clause-distinct c =
    subst AreDistinct (sym (c.deref.ensures.value ∙ c.in_ok-objects.ensures)) (kept_distinct c.args.graph.now c.args.homes.now c.requires.sound)

pub escape_words-requires-clause-homes : goal.escape_words-requires-clause-homes
escape_words-requires-clause-homes c =
    subst AreHomesValid (sym (c.deref.ensures.value ∙ c.in_ok-objects.ensures)) (kept_valid c.args.graph.now c.args.homes.now c.requires.sound)

pub escape_words-requires-clause-small : goal.escape_words-requires-clause-small
escape_words-requires-clause-small c =
    subst AreSmall (sym (c.deref.ensures.value ∙ c.in_ok-objects.ensures)) (kept_small c.args.graph.now c.args.homes.now c.requires.sound)

pub returns-clause-words : goal.returns-clause-words
returns-clause-words c =
    let g = c.args.graph.now in
    let homes = c.args.homes.now in
    let t = c.args.thread in
    let threads = c.threads.result.now in
    let objects = c.deref.result.now in
    let region = c.inner-region.result in
    let listed : objects ≡ kept_of g homes = c.deref.ensures.value ∙ c.in_ok-objects.ensures in
    let shown : state_of g.limits threads objects ≡ shown_state g homes = (λ i. state_of g.limits (c.threads.ensures i) (listed i)) ∙ same_state g homes c.requires.sound in
    let inside : region ≡ innermost g t = c.inner-region.ensures.inner ∙ ap (inner_of t) c.depth_of.ensures in
    if_ok (λ (words : ℕ). (limits : Limits) → HasWords (state_of limits threads objects) (Escapes (state_of limits threads objects) t region) words)
    (λ (words : ℕ). HasWords (shown_state g homes) (Escapes (shown_state g homes) t (innermost g t)) words) c.escape_words.result
    (λ words has.
    subst (λ (s : SpaceState). HasWords s (Escapes s t (innermost g t)) words) shown
    (subst (λ (r : Space). HasWords (state_of g.limits threads objects) (Escapes (state_of g.limits threads objects) t r) words) inside (has g.limits)))
    c.escape_words.ensures.words

pub returns-clause-few : goal.returns-clause-few
returns-clause-few c =
    let g = c.args.graph.now in
    let homes = c.args.homes.now in
    let long = ap length (c.deref.ensures.value ∙ c.in_ok-objects.ensures) in
    if_ok (λ (words : ℕ). words ≤ PAGE_WORDS * length c.deref.result.now) (λ (words : ℕ). words ≤ MOST_WORDS) c.escape_words.result
    (λ words le. omega (arith, le, long, as_long g homes c.requires.sound, few_homes g homes c.requires.sound))
    c.escape_words.ensures.few
