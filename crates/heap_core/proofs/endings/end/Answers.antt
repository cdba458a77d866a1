use Rattle.std.proofs.Common.{◌≡◌, true, false, ◌∙◌, refl, sym, arith, inr}
use Rattle.heap_words.specs.Contents.{contents, depth_of}
use Rattle.heap_core.proofs.Gathered.{short-depth, some-short}
use Rattle.heap_core.proofs.endings.end.Goals as goal

pub end_region-requires-clause-recorded : goal.end_region-requires-clause-recorded
end_region-requires-clause-recorded g c = rw c.depth.ensures.words c.requires.recorded

pub end_collected-requires-clause-depth : goal.end_collected-requires-clause-depth
end_collected-requires-clause-depth g c =
    let m = c.args.map in
    let was = contents m (g.W.Words.words c.args.words.now) in
    let now = contents m (g.W.Words.words c.end_region.new.words) in
    let ended = rw c.depth.ensures.words at c.in-Err.ensures.ended in
    let same : depth_of now c.args.thread ≡ depth_of was c.args.thread = short-depth m was now c.args.thread c.args.thread c.in-Err.field-0 c.requires.recorded ended in
    omega (arith, same, c.depth.ensures.depth, c.if-depth-eq0.false)

pub end_collected-requires-clause-recorded : goal.end_collected-requires-clause-recorded
end_collected-requires-clause-recorded g c =
    let m = c.args.map in
    let was = contents m (g.W.Words.words c.args.words.now) in
    let now = contents m (g.W.Words.words c.end_region.new.words) in
    let ended = rw c.depth.ensures.words at c.in-Err.ensures.ended in
    some-short m was now c.args.thread c.in-Err.field-0 c.requires.recorded ended

pub returns-in-Ok-clause-ended : goal.returns-in-Ok-clause-ended
returns-in-Ok-clause-ended g c =
    let ended = rw c.depth.ensures.words at c.in-Ok.ensures.ended in
    rw c.plain_step-in-Ok.ensures (inr (omega (arith, c.depth.ensures.depth, c.if-depth-eq0.false), refl, ended))

pub returns-in-Err-clause-ended : goal.returns-in-Err-clause-ended
returns-in-Err-clause-ended g c =
    let m = c.args.map in
    let ended = rw c.depth.ensures.words at c.in-Err.ensures.ended in
    let e = c.end_collected.ensures.ended in
    inr (
      omega (arith, c.depth.ensures.depth, c.if-depth-eq0.false),
      e.full,
      λ s h r.
          let short = ended s h r in
          rw e.collected (record {
            first = contents m (g.W.Words.words c.end_region.new.words);
            found = c.in-Err.field-0;
            short = short;
            ends = e.ends s short.later short.recorded;
          }),
    )

pub returns-then-depth-eq0-clause-reads : goal.returns-then-depth-eq0-clause-reads
returns-then-depth-eq0-clause-reads g c = λ s h r said deep. omega (arith, deep, c.depth.ensures.depth, c.if-depth-eq0.true)

pub returns-in-Ok-clause-reads : goal.returns-in-Ok-clause-reads
returns-in-Ok-clause-reads g c = λ s h r said deep.
    let reads = rw c.depth.ensures.words at c.in-Ok.ensures.reads in
    omega (arith, reads s h r, c.depth.ensures.reads)

pub returns-in-Err-clause-reads : goal.returns-in-Err-clause-reads
returns-in-Err-clause-reads g c = λ s h r said deep. let no : true ≡ false = sym c.end_collected.ensures.ended.collected ∙ said in cc
