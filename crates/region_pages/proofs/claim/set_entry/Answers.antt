use Rattle.std.proofs.Common.{ℕ, ◌<◌, List, length, ap, ◌∙◌, arith}
use Rattle.heap_words.specs.Contents.{Contents, contents, with_page}
use Rattle.region_pages.proofs.Shapes.{Shape, shape}
use Rattle.region_pages.proofs.Entries.{entry-both}
use Rattle.region_pages.proofs.claim.set_entry.Goals as goal

pub returns-clause-entry : goal.returns-clause-entry
returns-clause-entry g c =
    let m = c.args.map in
    let old = contents m (g.W.Words.words c.args.words.now) in
    let s : Shape m old = shape m (g.W.Words.words c.args.words.now) c.requires.sound in
    let within : c.args.page < length old.table = omega (arith, s.table) in
    c.set_page-2.ensures.set ∙ ap (λ (x : Contents). with_page x c.args.page 1 c.args.used) c.set_page.ensures.set ∙ ap (λ (t : List (List ℕ)). record old { table = t }) (entry-both old.table c.args.page c.args.space c.args.used within (s.entries c.args.page c.requires.page))
