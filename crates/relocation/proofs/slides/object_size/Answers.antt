use Rattle.std.proofs.Common.{◌+◌, sym, ap, ◌∙◌}
use Rattle.relocation.specs.Moves.{heap_of}
use Rattle.relocation.proofs.Moving.{fields_at-header}
use Rattle.relocation.proofs.slides.object_size.Goals as goal

pub returns-in-Some-clause-size : goal.returns-in-Some-clause-size
returns-in-Some-clause-size g c =
    let was = g.W.Words.words c.args.words.now in
    ap (λ n. n + 3) (sym (fields_at-header (heap_of c.args.map was) c.args.a c.in-Some.header c.in-Some.ensures.some.0 (sym c.get_heap.ensures.value ∙ sym c.in-Some.ensures.some.1)))
