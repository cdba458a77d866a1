use Rattle.std.proofs.Common.{◌≡◌, ◌-◌, arith, subst}
use Rattle.std.specs.Int.{IsBitSet}
use Rattle.heap_words.proofs.Contents.{length-stacks, stack_of-fits}
use Rattle.heap_words.specs.Contents.{contents}
use Rattle.escape_closure.proofs.Corrects.{bit_is, bit_not, reader_one, readers_none}
use Rattle.escape_closure.proofs.references.correct_reader.Goals as goal

pub returns-then-reader-thread-clause-corrected : goal.returns-then-reader-thread-clause-corrected
returns-then-reader-thread-clause-corrected g c = readers_none _ _ _ _ _ _ (λ k le lt ne is. omega (arith, le, lt, ne, c.if-reader-thread.true, c.requires.reader))

pub returns-then-bit-eq0-clause-corrected : goal.returns-then-bit-eq0-clause-corrected
returns-then-bit-eq0-clause-corrected g c = readers_none _ _ _ _ _ _ (λ k le lt ne is. let here : k ≡ c.args.reader - 1 = omega (arith, le, lt) in bit_not c.args.readers (c.args.reader - 1) (omega (arith, c.if-bit-eq0.true)) (subst (IsBitSet c.args.readers) here is))

pub correct_stack-requires-clause-lead : goal.correct_stack-requires-clause-lead
correct_stack-requires-clause-lead g c k a lt e = c.requires.lead c.if-reader-thread.false k a lt e

pub returns-clause-corrected : goal.returns-clause-corrected
returns-clause-corrected g c =
    let m = c.args.map in
    let old = contents m (g.W.Words.words c.args.words.now) in
    let many = length-stacks m (g.W.Words.words c.args.words.now) in
    reader_one _ old _ c.args.thread c.args.readers c.args.reader c.requires.reader.0 (omega (arith, many, c.requires.reader)) c.correct_stack.ensures.corrected c.if-reader-thread.false (bit_is c.args.readers (c.args.reader - 1) (omega (arith, c.if-bit-eq0.false)))

pub returns-clause-reads : goal.returns-clause-reads
returns-clause-reads g c =
    let fits = stack_of-fits c.args.map (g.W.Words.words c.args.words.now) c.args.reader c.requires.reader c.requires.sound in
    omega (arith, c.correct_stack.ensures.reads, fits)
