use Rattle.std.proofs.Common.{◌≡◌, ◌≤◌, ◌<◌, ◌+◌, ap, subst, ◌∙◌}
use Rattle.object_layout.specs.declared.TheConstants.{MAX_DEPTH}
use Rattle.heap_words.specs.Contents.{Contents, contents, with_depth}
use Rattle.standing_calls.proofs.Begins.{begin_turns, too_deep}
use Rattle.heap_core.proofs.epochs.begin.Goals as goal

pub returns-then-before-ge-MAX_DEPTH-clause-turns : goal.returns-then-before-ge-MAX_DEPTH-clause-turns
returns-then-before-ge-MAX_DEPTH-clause-turns g c =
    let old = contents c.args.map (g.W.Words.words c.args.words.now) in
    rw c.depth-before.ensures.words (too_deep c.args.map old c.args.thread c.requires.thread (subst (λ d. MAX_DEPTH ≤ d) c.depth-before.ensures.depth c.if-before-ge-MAX_DEPTH.true))

pub returns-clause-turns : goal.returns-clause-turns
returns-clause-turns g c =
    let old = contents c.args.map (g.W.Words.words c.args.words.now) in
    let same : contents c.args.map (g.W.Words.words c.depth-before.new.words) ≡ old = ap (contents c.args.map) c.depth-before.ensures.words in
    begin_turns c.args.map old (contents c.args.map (g.W.Words.words c.set_depth.new.words)) c.args.thread c.requires.thread (subst (λ d. d < MAX_DEPTH) c.depth-before.ensures.depth c.if-before-ge-MAX_DEPTH.false)
    (c.set_depth.ensures.set ∙ ap (λ (x : Contents). with_depth x c.args.thread (c.depth-before.result + 1)) same ∙ ap (λ d. with_depth old c.args.thread (d + 1)) c.depth-before.ensures.depth)
