use Rattle.std.proofs.Common.{ap, ◌∙◌, arith}
use Rattle.std.proofs.lemmas.List.{take_all}
use Rattle.heap_words.specs.Contents.{contents}
use Rattle.region_pages.proofs.Shapes.{Shape, shape}
use Rattle.heap_core.specs.Callers.{words_used}
use Rattle.heap_picture.proofs.pages.words_used.Goals as goal

pub returns-clause-used : goal.returns-clause-used
returns-clause-used g c =
    let m = c.args.map in
    let old = contents m (g.W.Words.words c.args.words.now) in
    let s : Shape m old = shape m (g.W.Words.words c.args.words.now) c.requires.sound in
    c.loop-page.invariant.used ∙ ap words_used (take_all c.loop-page.page old.table (omega (arith, s.table)))
