use Rattle.std.proofs.Common.{Some, arith, sym, ap, ◌∙◌}
use Rattle.heap_words.specs.Contents.{contents}
use Rattle.heap_words.proofs.Contents.{length-currents}
use Rattle.epoch_lattice.specs.declared.Space.{Space}
use Rattle.escape_closure.specs.Placing.{room_in}
use Rattle.escape_closure.proofs.Placing.{no_thread}
use Rattle.escape_closure.proofs.needing.room_in_space.Goals as goal

pub returns-then-owner-map-clause-room : goal.returns-then-owner-map-clause-room
returns-then-owner-map-clause-room g c =
    let m = c.args.map in
    let ws = g.W.Words.words c.args.words.now in
    sym (ap (λ (x : Space). room_in m (contents m ws) c.args.thread (Some x)) c.in-Region.is ∙ no_thread m (contents m ws) c.in-Region.owner c.in-Region.depth (length-currents m ws) (omega (arith, c.if-owner-map.true)))
