use Rattle.std.proofs.Common.{◌≡◌, ◌+◌, ◌-◌, ℕ, List, arith, ap, sym, subst, ◌∙◌, refl}
use Rattle.heap_words.specs.Contents.{Contents, contents}
use Rattle.yak_model.specs.Plans.{forward}
use Rattle.relocation.specs.Moves.{Numbered, move_at}
use Rattle.escape_closure.specs.Referring.{ReadersCorrected, StackLeads}
use Rattle.escape_closure.proofs.Corrects.{leads_still, readers_none, readers_then}
use Rattle.escape_closure.proofs.references.correct_readers.Goals as goal

pub loop-t-init : goal.loop-t-init
loop-t-init g c = record {
  sound = c.requires.sound;
  base = refl;
  reads = omega arith;
  corrected = readers_none _ _ _ _ 0 0 (λ k le lt ne is. omega (arith, lt));
}

pub correct_reader-requires-clause-plan : goal.correct_reader-requires-clause-plan
correct_reader-requires-clause-plan g c =
    let m = c.args.map in
    let count = c.args.plan.now.count in
    subst (λ (x : Contents). Numbered m x.heap count (move_at x.scratch)) (sym c.loop-t.invariant.corrected.frame) c.requires.plan

pub correct_reader-requires-clause-lead : goal.correct_reader-requires-clause-lead
correct_reader-requires-clause-lead g c ne =
    let m = c.args.map in
    let old = contents m (g.W.Words.words c.args.words.now) in
    let mid = contents m (g.W.Words.words c.loop-t.words) in
    let t = c.loop-t.t in
    let less : t ≡ t + 1 - 1 = omega arith in
    subst (StackLeads m mid) less (leads_still m _ old mid c.args.thread c.args.readers t c.loop-t.invariant.corrected (c.requires.lead t c.loop-t-test.true ne))

pub loop-t-preserved : goal.loop-t-preserved
loop-t-preserved g c =
    let m = c.args.map in
    let count = c.args.plan.now.count in
    let old = contents m (g.W.Words.words c.args.words.now) in
    let mid = contents m (g.W.Words.words c.loop-t.words) in
    let new = contents m (g.W.Words.words c.correct_reader.new.words) in
    let t = c.loop-t.t in
    let less : t + 1 - 1 ≡ t = omega arith in
    let scratch : mid.scratch ≡ old.scratch = ap (λ (x : Contents). x.scratch) c.loop-t.invariant.corrected.frame in
    let one : ReadersCorrected (forward count (move_at old.scratch)) mid new c.args.thread c.args.readers t (t + 1) =
    subst (λ k. ReadersCorrected (forward count (move_at old.scratch)) mid new c.args.thread c.args.readers k (t + 1)) less
    (subst (λ (s : List ℕ). ReadersCorrected (forward count (move_at s)) mid new c.args.thread c.args.readers (t + 1 - 1) (t + 1)) scratch c.correct_reader.ensures.corrected) in
    record {
      sound = c.correct_reader.ensures.sound;
      base = c.correct_reader.ensures.base ∙ c.loop-t.invariant.base;
      reads = omega (arith, c.correct_reader.ensures.reads, c.loop-t.invariant.reads);
      corrected = readers_then _ old mid new c.args.thread c.args.readers t c.loop-t.invariant.corrected one;
    }

pub returns-clause-corrected : goal.returns-clause-corrected
returns-clause-corrected g c =
    let m = c.args.map in
    let old = contents m (g.W.Words.words c.args.words.now) in
    let new = contents m (g.W.Words.words c.loop-t.words) in
    let end : c.loop-t.t ≡ c.args.map.threads = omega arith in
    subst (λ n. ReadersCorrected (forward c.args.plan.now.count (move_at old.scratch)) old new c.args.thread c.args.readers 0 n) end c.loop-t.invariant.corrected
