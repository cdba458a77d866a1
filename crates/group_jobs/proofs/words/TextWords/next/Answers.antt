use Rattle.std.proofs.Common.{◌∙◌, sym}
use Rattle.std.proofs.lemmas.Bool.{eqb-false, eqb-true}
use Rattle.group_jobs.proofs.Cutting.{last_word, word_first, word_later}
use Rattle.group_jobs.proofs.words.TextWords.next.Goals as goal

pub returns-then-not-is_empty-clause-value : goal.returns-then-not-is_empty-clause-value
returns-then-not-is_empty-clause-value c =
    sym (c.blanks.invariant ∙ c.self.view_is) ∙ word_first c.blanks.self-inside.rest.now c.in-Some.word.now c.in-Some.after.now c.in-Some.ensures.pieces (eqb-false _ _ (sym c.if-not-is_empty.ensures))

pub blanks-preserved : goal.blanks-preserved
blanks-preserved c =
    sym (word_later c.blanks.self-inside.rest.now c.in-Some.word.now c.in-Some.after.now c.in-Some.ensures.pieces (eqb-true _ _ (sym c.if-not-is_empty.ensures))) ∙ c.blanks.invariant

pub returns-clause-value : goal.returns-clause-value
returns-clause-value c = last_word c.blanks.self-inside.rest.now c.args.self.now c.in_default.ensures.pieces (eqb-false _ _ (sym c.if-is_empty.ensures)) (c.blanks.invariant ∙ c.self.view_is)
