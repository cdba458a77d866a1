use Rattle.std.proofs.Math.Logic.{∥∥₁_map}
use Rattle.heap_words.specs.Contents.{contents}
use Rattle.standing_calls.proofs.Told.{pool-told}
use Rattle.heap_core.proofs.collections.count_pages.Goals as goal

pub census-pages-requires-clause-pool : goal.census-pages-requires-clause-pool
census-pages-requires-clause-pool g c = pool-told c.args.map (contents c.args.map (g.W.Words.words c.args.words.now)) (∥∥₁_map c.requires.recorded (λ q. (q.0, q.1)))
