use Rattle.std.proofs.Common.{◌∙◌, arith}
use Rattle.heap_words.specs.Contents.{contents}
use Rattle.heap_words.proofs.Contents.{length-heap}
use Rattle.standing_calls.proofs.Makes.{written-start, written-more}
use Rattle.heap_core.proofs.objects.write_object.Goals as goal

pub loop-i-init : goal.loop-i-init
loop-i-init g c =
    let m = c.args.map in
    let words = g.W.Words.words c.args.words.now in
    let old = contents m words in
    let long = length-heap m words c.requires.sound.whole in
    record {
      written = written-start old (contents m (g.W.Words.words c.set_heap.new.words)) (contents m (g.W.Words.words c.set_heap-2.new.words)) c.args.a c.args.header c.args.name c.args.size (omega arith) (omega (arith, long)) c.set_heap.ensures.set c.set_heap-2.ensures.set;
      sound = c.set_heap-2.ensures.sound;
      base = c.set_heap-2.ensures.base ∙ c.set_heap.ensures.base;
    }

pub loop-i-preserved : goal.loop-i-preserved
loop-i-preserved g c =
    let m = c.args.map in
    let old = contents m (g.W.Words.words c.args.words.now) in
    let words = g.W.Words.words c.loop-i.words in
    let long = length-heap m words c.loop-i.invariant.sound.whole in
    record {
      written = written-more old (contents m words) (contents m (g.W.Words.words c.set_heap-in-loop-i.new.words)) c.args.a c.args.header c.args.name c.args.size c.loop-i.i c.loop-i.auto.i c.loop-i-test.true (omega (arith, long)) c.loop-i.invariant.written c.set_heap-in-loop-i.ensures.set;
      sound = c.set_heap-in-loop-i.ensures.sound;
      base = c.set_heap-in-loop-i.ensures.base ∙ c.loop-i.invariant.base;
    }
