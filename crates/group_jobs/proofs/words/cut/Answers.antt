use Rattle.std.proofs.Common.{sym, ◌∙◌}
use Rattle.std.proofs.lemmas.List.{take_rest}
use Rattle.group_jobs.proofs.Cutting.{no_part_more, cut_at, cut_none}
use Rattle.group_jobs.proofs.words.cut.Goals as goal

pub returns-then-parts_words-clause-pieces : goal.returns-then-parts_words-clause-pieces
returns-then-parts_words-clause-pieces c = rw take_rest (cut_at c.args.bytes.now c.loop-i.i c.loop-i-test.true c.loop-i.invariant (sym c.parts_words.ensures ∙ c.if-parts_words.true))

pub loop-i-preserved : goal.loop-i-preserved
loop-i-preserved c = no_part_more c.args.bytes.now c.loop-i.i c.loop-i-test.true c.loop-i.invariant (sym c.parts_words.ensures ∙ c.if-parts_words.false)

pub returns-clause-pieces : goal.returns-clause-pieces
returns-clause-pieces c = cut_none c.args.bytes.now c.loop-i.i c.loop-i-test.false c.loop-i.invariant
