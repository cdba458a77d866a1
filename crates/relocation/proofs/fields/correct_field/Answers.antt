use Rattle.std.proofs.Common.{◌≡◌, ◌+◌, get_or, sym, ap, ◌∙◌}
use Rattle.heap_words.specs.Map.{heap_at}
use Rattle.heap_words.proofs.Contents.{contents-get_heap}
use Rattle.relocation.proofs.fields.correct_field.Goals as goal

pub correct-requires-clause-reference : goal.correct-requires-clause-reference
correct-requires-clause-reference g c b e =
    let m = c.args.map in
    let ws = g.W.Words.words c.args.words.now in
    let place : c.heap.result + c.args.i ≡ heap_at m + c.args.i = ap (λ x. x + c.args.i) c.heap.ensures in
    c.requires.reference b (sym (ap (λ x. get_or ws x 0) place ∙ contents-get_heap m ws c.args.i c.requires.within) ∙ e)

pub returns-clause-set : goal.returns-clause-set
returns-clause-set g c = (c.correct.ensures.field c.args.i c.requires.within (ap (λ x. x + c.args.i) c.heap.ensures)).0

pub returns-clause-sound : goal.returns-clause-sound
returns-clause-sound g c = (c.correct.ensures.field c.args.i c.requires.within (ap (λ x. x + c.args.i) c.heap.ensures)).1
