use Rattle.std.proofs.Common.{◌≡◌, refl, arith}
use Rattle.heap_words.specs.Contents.{contents, depth_of}
use Rattle.heap_core.specs.Collecting.{IsCollected}
use Rattle.heap_core.proofs.Gathered.{kept-depth, short-depth, some-collected, some-short}
use Rattle.heap_core.proofs.endings.end_collected.Goals as goal

pub end_region-requires-clause-depth : goal.end_region-requires-clause-depth
end_region-requires-clause-depth g c =
    let m = c.args.map in
    let was = contents m (g.W.Words.words c.args.words.now) in
    let now = contents m (g.W.Words.words c.collect.new.words) in
    let same : depth_of now c.args.thread ≡ depth_of was c.args.thread = kept-depth m was now c.args.thread c.args.thread c.requires.recorded (record { state = c.collect.ensures.state; room = c.collect.ensures.room }) in
    omega (arith, same, c.requires.depth)

pub end_region-requires-clause-recorded : goal.end_region-requires-clause-recorded
end_region-requires-clause-recorded g c =
    let m = c.args.map in
    let was = contents m (g.W.Words.words c.args.words.now) in
    let now = contents m (g.W.Words.words c.collect.new.words) in
    some-collected m was now c.args.thread c.requires.recorded (record { state = c.collect.ensures.state; room = c.collect.ensures.room })

pub end_tight-requires-clause-depth : goal.end_tight-requires-clause-depth
end_tight-requires-clause-depth g c =
    let m = c.args.map in
    let was = contents m (g.W.Words.words c.args.words.now) in
    let mid = contents m (g.W.Words.words c.collect.new.words) in
    let now = contents m (g.W.Words.words c.end_region.new.words) in
    let done : IsCollected m was mid c.args.thread = record { state = c.collect.ensures.state; room = c.collect.ensures.room } in
    let same : depth_of mid c.args.thread ≡ depth_of was c.args.thread = kept-depth m was mid c.args.thread c.args.thread c.requires.recorded done in
    let too : depth_of now c.args.thread ≡ depth_of mid c.args.thread = short-depth m mid now c.args.thread c.args.thread c.in-Err.shortage (some-collected m was mid c.args.thread c.requires.recorded done) c.in-Err.ensures.ended in
    omega (arith, same, too, c.requires.depth)

pub end_tight-requires-clause-recorded : goal.end_tight-requires-clause-recorded
end_tight-requires-clause-recorded g c =
    let m = c.args.map in
    let was = contents m (g.W.Words.words c.args.words.now) in
    let mid = contents m (g.W.Words.words c.collect.new.words) in
    let now = contents m (g.W.Words.words c.end_region.new.words) in
    let done : IsCollected m was mid c.args.thread = record { state = c.collect.ensures.state; room = c.collect.ensures.room } in
    some-short m mid now c.args.thread c.in-Err.shortage (some-collected m was mid c.args.thread c.requires.recorded done) c.in-Err.ensures.ended

pub returns-in-Ok-clause-ended : goal.returns-in-Ok-clause-ended
returns-in-Ok-clause-ended g c = record {
  collected = refl;
  full = refl;
  ends = λ s h r.
      let x = c.collect.ensures.state s h r in
      record {
        between = contents c.args.map (g.W.Words.words c.collect.new.words);
        room = c.collect.ensures.room;
        state = x;
        ended = c.in-Ok.ensures.ended x.after x.stands x.recorded;
      };
}

pub returns-in-Err-clause-ended : goal.returns-in-Err-clause-ended
returns-in-Err-clause-ended g c = record {
  collected = refl;
  full = refl;
  ends = λ s h r.
      let x = c.collect.ensures.state s h r in
      let short = c.in-Err.ensures.ended x.after x.stands x.recorded in
      record {
        between = contents c.args.map (g.W.Words.words c.collect.new.words);
        room = c.collect.ensures.room;
        state = x;
        tried = contents c.args.map (g.W.Words.words c.end_region.new.words);
        short = short;
        ended = c.end_tight.ensures.ended x.after short.later short.recorded;
      };
}
