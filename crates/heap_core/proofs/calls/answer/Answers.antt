use Rattle.std.proofs.Math.Logic.{∥∥₁_map}
use Rattle.heap_words.specs.Contents.{contents}
use Rattle.region_pages.proofs.Shapes.{shape}
use Rattle.heap_core.proofs.Plainly.{plainly, some-quiet}
use Rattle.heap_core.proofs.StepsMade.{done-collected, done-counted, done-made}
use Rattle.heap_core.proofs.StepsEnded.{done-ended}
use Rattle.heap_core.proofs.calls.answer.Goals as goal

pub returns-in-Int-clause-done : goal.returns-in-Int-clause-done
returns-in-Int-clause-done g c =
    let m = c.args.map in
    let was = contents m (g.W.Words.words c.args.words.now) in
    let now = contents m (g.W.Words.words c.int.new.words) in
    rw (c.in-Int.is, c.plain_step.ensures) (plainly m was now c.args.thread _ c.int.result tt (some-quiet m was now c.args.thread _ c.int.result tt c.requires.recorded c.int.ensures.turns) c.int.ensures.turns)

pub returns-in-Null-clause-done : goal.returns-in-Null-clause-done
returns-in-Null-clause-done g c =
    let m = c.args.map in
    let was = contents m (g.W.Words.words c.args.words.now) in
    let now = contents m (g.W.Words.words c.null.new.words) in
    rw (c.in-Null.is, c.plain_step-in-Null.ensures) (plainly m was now c.args.thread _ c.null.result tt (some-quiet m was now c.args.thread _ c.null.result tt c.requires.recorded c.null.ensures.turns) c.null.ensures.turns)

pub returns-in-Dup-clause-done : goal.returns-in-Dup-clause-done
returns-in-Dup-clause-done g c =
    let m = c.args.map in
    let was = contents m (g.W.Words.words c.args.words.now) in
    let now = contents m (g.W.Words.words c.dup.new.words) in
    rw (c.in-Dup.is, c.plain_step-in-Dup.ensures) (plainly m was now c.args.thread _ c.dup.result tt (some-quiet m was now c.args.thread _ c.dup.result tt c.requires.recorded c.dup.ensures.turns) c.dup.ensures.turns)

pub returns-in-Pop-clause-done : goal.returns-in-Pop-clause-done
returns-in-Pop-clause-done g c =
    let m = c.args.map in
    let was = contents m (g.W.Words.words c.args.words.now) in
    let now = contents m (g.W.Words.words c.pop_slot.new.words) in
    rw (c.in-Pop.is, c.plain_step-in-Pop.ensures) (plainly m was now c.args.thread _ c.pop_slot.result tt (some-quiet m was now c.args.thread _ c.pop_slot.result tt c.requires.recorded c.pop_slot.ensures.turns) c.pop_slot.ensures.turns)

pub returns-in-Load-clause-done : goal.returns-in-Load-clause-done
returns-in-Load-clause-done g c =
    let m = c.args.map in
    let was = contents m (g.W.Words.words c.args.words.now) in
    let now = contents m (g.W.Words.words c.load.new.words) in
    rw (c.in-Load.is, c.plain_step-in-Load.ensures) (plainly m was now c.args.thread _ c.load.result tt (some-quiet m was now c.args.thread _ c.load.result tt c.requires.recorded c.load.ensures.turns) c.load.ensures.turns)

pub returns-in-Store-clause-done : goal.returns-in-Store-clause-done
returns-in-Store-clause-done g c =
    let m = c.args.map in
    let was = contents m (g.W.Words.words c.args.words.now) in
    let now = contents m (g.W.Words.words c.store.new.words) in
    rw (c.in-Store.is, c.plain_step-in-Store.ensures) (plainly m was now c.args.thread _ c.store.result tt (some-quiet m was now c.args.thread _ c.store.result tt c.requires.recorded c.store.ensures.turns) c.store.ensures.turns)

pub returns-in-Get-clause-done : goal.returns-in-Get-clause-done
returns-in-Get-clause-done g c =
    let m = c.args.map in
    let was = contents m (g.W.Words.words c.args.words.now) in
    let now = contents m (g.W.Words.words c.get.new.words) in
    rw (c.in-Get.is, c.plain_step-in-Get.ensures) (plainly m was now c.args.thread _ c.get.result tt (some-quiet m was now c.args.thread _ c.get.result tt c.requires.recorded c.get.ensures.turns) c.get.ensures.turns)

pub returns-in-Same-clause-done : goal.returns-in-Same-clause-done
returns-in-Same-clause-done g c =
    let m = c.args.map in
    let was = contents m (g.W.Words.words c.args.words.now) in
    let now = contents m (g.W.Words.words c.same.new.words) in
    rw (c.in-Same.is, c.plain_step-in-Same.ensures) (plainly m was now c.args.thread _ c.same.result tt (some-quiet m was now c.args.thread _ c.same.result tt c.requires.recorded c.same.ensures.turns) c.same.ensures.turns)

pub returns-in-Begin-clause-done : goal.returns-in-Begin-clause-done
returns-in-Begin-clause-done g c =
    let m = c.args.map in
    let was = contents m (g.W.Words.words c.args.words.now) in
    let now = contents m (g.W.Words.words c.begin.new.words) in
    rw (c.in-Begin.is, c.plain_step-in-Begin.ensures) (plainly m was now c.args.thread _ c.begin.result tt (some-quiet m was now c.args.thread _ c.begin.result tt c.requires.recorded c.begin.ensures.turns) c.begin.ensures.turns)

pub returns-in-New-clause-done : goal.returns-in-New-clause-done
returns-in-New-clause-done g c =
    let m = c.args.map in
    let now = g.W.Words.words c.new_object.new.words in
    rw c.in-New.is (done-made m (contents m (g.W.Words.words c.args.words.now)) (contents m now) c.args.thread c.in-New.k c.new_object.result c.requires.sound.areas c.requires.thread (shape m now c.new_object.ensures.sound).table c.requires.recorded c.new_object.ensures.made)

pub returns-in-End-clause-done : goal.returns-in-End-clause-done
returns-in-End-clause-done g c =
    let m = c.args.map in
    rw c.in-End.is (done-ended m (contents m (g.W.Words.words c.args.words.now)) (contents m (g.W.Words.words c.end.new.words)) c.args.thread c.end.result c.requires.sound.areas c.requires.thread c.requires.recorded c.end.ensures.ended)

pub returns-in-Collect-clause-done : goal.returns-in-Collect-clause-done
returns-in-Collect-clause-done g c =
    let m = c.args.map in
    let now = g.W.Words.words c.collect_control.new.words in
    rw (c.in-Collect.is, c.collect_control.ensures.says) (done-collected m (contents m (g.W.Words.words c.args.words.now)) (contents m now) c.args.thread c.requires.thread (shape m now c.collect_control.ensures.sound).table c.requires.recorded c.collect_control.ensures.collected)

pub returns-in-Census-clause-done : goal.returns-in-Census-clause-done
returns-in-Census-clause-done g c =
    let m = c.args.map in
    rw (c.in-Census.is, c.plain_step-in-Census.ensures, c.count_pages.ensures.counts, c.count_pages.ensures.words) (done-counted m (contents m (g.W.Words.words c.args.words.now)) c.args.thread c.requires.sound.areas c.requires.thread (shape m (g.W.Words.words c.args.words.now) c.requires.sound).table)

pub load-requires-clause-stands : goal.load-requires-clause-stands
load-requires-clause-stands g c = ∥∥₁_map c.requires.recorded (λ q. (q.0, q.1))

pub get-requires-clause-stands : goal.get-requires-clause-stands
get-requires-clause-stands g c = ∥∥₁_map c.requires.recorded (λ q. (q.0, q.1))

pub returns-in-Int-clause-reads : goal.returns-in-Int-clause-reads
returns-in-Int-clause-reads g c = rw c.in-Int.is (λ s h r. tt)

pub returns-in-Null-clause-reads : goal.returns-in-Null-clause-reads
returns-in-Null-clause-reads g c = rw c.in-Null.is (λ s h r. tt)

pub returns-in-Dup-clause-reads : goal.returns-in-Dup-clause-reads
returns-in-Dup-clause-reads g c = rw c.in-Dup.is (λ s h r. tt)

pub returns-in-Pop-clause-reads : goal.returns-in-Pop-clause-reads
returns-in-Pop-clause-reads g c = rw c.in-Pop.is (λ s h r. tt)

pub returns-in-New-clause-reads : goal.returns-in-New-clause-reads
returns-in-New-clause-reads g c = rw c.in-New.is (λ s h r. tt)

pub returns-in-Load-clause-reads : goal.returns-in-Load-clause-reads
returns-in-Load-clause-reads g c = rw c.in-Load.is (λ s h r. tt)

pub returns-in-Store-clause-reads : goal.returns-in-Store-clause-reads
returns-in-Store-clause-reads g c = rw c.in-Store.is (λ s h r. tt)

pub returns-in-Get-clause-reads : goal.returns-in-Get-clause-reads
returns-in-Get-clause-reads g c = rw c.in-Get.is (λ s h r. tt)

pub returns-in-Same-clause-reads : goal.returns-in-Same-clause-reads
returns-in-Same-clause-reads g c = rw c.in-Same.is (λ s h r. tt)

pub returns-in-Begin-clause-reads : goal.returns-in-Begin-clause-reads
returns-in-Begin-clause-reads g c = rw c.in-Begin.is (λ s h r. tt)

pub returns-in-Collect-clause-reads : goal.returns-in-Collect-clause-reads
returns-in-Collect-clause-reads g c = rw c.in-Collect.is (λ s h r. tt)

pub returns-in-Census-clause-reads : goal.returns-in-Census-clause-reads
returns-in-Census-clause-reads g c = rw c.in-Census.is (λ s h r. tt)

pub returns-in-End-clause-reads : goal.returns-in-End-clause-reads
returns-in-End-clause-reads g c = rw c.in-End.is c.end.ensures.reads
