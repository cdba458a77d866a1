use Rattle.std.proofs.Common.{◌≡◌, ◌/◌, ◌+◌, arith, ap, sym, ◌∙◌, get_or}
use Rattle.heap_words.specs.Map.{page_words}
use Rattle.heap_words.specs.Cells.{row}
use Rattle.heap_words.specs.Contents.{Contents, contents, with_heap}
use Rattle.epoch_lattice.specs.Lattice.{space_index}
use Rattle.yak_model.specs.Placed.{space_word}
use Rattle.yak_model.specs.Plans.{forward}
use Rattle.relocation.specs.Moves.{corrected_word, move_at}
use Rattle.escape_closure.proofs.references.correct_slot.Goals as goal

pub page_of-requires-clause-within : goal.page_of-requires-clause-within
page_of-requires-clause-within g c = c.requires.within

pub get_page-space-requires-clause-page : goal.get_page-space-requires-clause-page
get_page-space-requires-clause-page g c = omega (arith, c.page_of.ensures, c.requires.within)

pub returns-then-space-own-clause-outside : goal.returns-then-space-own-clause-outside
returns-then-space-own-clause-outside g c out =
    let m = c.args.map in
    let old = contents m (g.W.Words.words c.args.words.now) in
    let told : c.get_page-space.result ≡ space_word old.table (c.args.slot / page_words m) = c.get_page-space.ensures.value ∙ ap (λ p. get_or (row old.table p) 0 0) c.page_of.ensures in
    let own : c.from-own.result + 1 ≡ space_index c.args.region + 1 = ap (λ k. k + 1) (c.from-own.ensures ∙ c.index_of.ensures.index) in
    absurd (out (sym told ∙ c.if-space-own.true ∙ own))

pub returns-then-space-own-clause-inside : goal.returns-then-space-own-clause-inside
returns-then-space-own-clause-inside g c inside = ap (contents c.args.map) c.get_page-space.ensures.words

pub correct_field-requires-clause-plan : goal.correct_field-requires-clause-plan
correct_field-requires-clause-plan g c = rw c.get_page-space.ensures.words c.requires.plan

pub correct_field-requires-clause-within : goal.correct_field-requires-clause-within
correct_field-requires-clause-within g c = c.requires.within

pub correct_field-requires-clause-reference : goal.correct_field-requires-clause-reference
correct_field-requires-clause-reference g c b e =
    let m = c.args.map in
    let same : contents m (g.W.Words.words c.get_page-space.new.words) ≡ contents m (g.W.Words.words c.args.words.now) = ap (contents m) c.get_page-space.ensures.words in
    c.requires.lead b (ap (λ (x : Contents). get_or x.heap c.args.slot 0) (sym same) ∙ e)

pub returns-clause-outside : goal.returns-clause-outside
returns-clause-outside g c out =
    let m = c.args.map in
    let count = c.args.plan.now.count in
    let a = c.args.slot in
    let same : contents m (g.W.Words.words c.get_page-space.new.words) ≡ contents m (g.W.Words.words c.args.words.now) = ap (contents m) c.get_page-space.ensures.words in
    c.correct_field.ensures.set ∙ ap (λ (x : Contents). with_heap x a (corrected_word (forward count (move_at x.scratch)) (get_or x.heap a 0))) same

pub returns-clause-inside : goal.returns-clause-inside
returns-clause-inside g c inside =
    let m = c.args.map in
    let old = contents m (g.W.Words.words c.args.words.now) in
    let told : c.get_page-space.result ≡ space_word old.table (c.args.slot / page_words m) = c.get_page-space.ensures.value ∙ ap (λ p. get_or (row old.table p) 0 0) c.page_of.ensures in
    let own : c.from-own.result + 1 ≡ space_index c.args.region + 1 = ap (λ k. k + 1) (c.from-own.ensures ∙ c.index_of.ensures.index) in
    absurd (inside (λ q. c.if-space-own.false (told ∙ q ∙ sym own)))
