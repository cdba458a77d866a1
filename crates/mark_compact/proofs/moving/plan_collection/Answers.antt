use Rattle.std.proofs.Math.Logic.{∥∥₁_map}
use Rattle.std.proofs.Common.{arith}
use Rattle.heap_words.specs.Contents.{contents}
use Rattle.yak_model.specs.State.{view}
use Rattle.mark_compact.specs.declared.sliding.TheConstants.{CONTROL_WORD}
use Rattle.relocation.proofs.SlidLawful.{runs_of}
use Rattle.mark_compact.proofs.Drops.{work, dropped, keeps, drops, unmarked, closed}
use Rattle.relocation.proofs.RunsTold.{runs-told}
use Rattle.mark_compact.proofs.moving.plan_collection.Goals as goal

pub plan_slide-requires-clause-runs : goal.plan_slide-requires-clause-runs
plan_slide-requires-clause-runs g c =
    let m = c.args.map in
    let d = contents m (g.W.Words.words c.mark.new.words) in
    runs-told m CONTROL_WORD d (∥∥₁_map c.requires.stands (λ q.
    let k = c.mark.ensures.marked q.0 q.1 in
    runs_of m CONTROL_WORD d (view q.0) q.1.places _ k.heap q.1.stands.closed (omega arith)))

pub returns-clause-planned : goal.returns-clause-planned
returns-clause-planned g c s h =
    let m = c.args.map in
    let old = contents m (g.W.Words.words c.args.words.now) in
    let d = contents m (g.W.Words.words c.mark.new.words) in
    let k = c.mark.ensures.marked s h in
    record {
      dropped = dropped m old d s h c.mark.result k;
      keeps = keeps m old d s h c.mark.result k;
      marked = d;
      work = work m old d s h c.mark.result k;
      frame = k.frame;
      stands = k.heap;
      drops = drops m old d s h c.mark.result k;
      unmarked = unmarked m old d s h c.mark.result k;
      slid = c.plan_slide.ensures.slid;
      lawful = c.plan_slide.ensures.lawful (view s) h.places (work m old d s h c.mark.result k) (dropped m old d s h c.mark.result k) k.heap h.stands.closed (drops m old d s h c.mark.result k) (closed m old d s h c.mark.result k);
    }
