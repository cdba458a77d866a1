use Rattle.std.proofs.Common.{ap, sym, subst, ◌∙◌}
use Rattle.heap_words.specs.Contents.{contents}
use Rattle.yak_model.specs.Recorded.{StandsRecorded}
use Rattle.yak_model.specs.Graph.{standard_limits}
use Rattle.yak_model.specs.Spaces.{opening_spaces}
use Rattle.yak_c.specs.declared.lent.Lent.{Lent}
use Rattle.yak_c.proofs.memory.open_from.Goals as goal

pub returns-clause-opening : goal.returns-clause-opening
returns-clause-opening c =
    let m = c.args.map in
    let same = c.into_slice.ensures.words ∙ ap (λ (l : Lent). l.words.now) c.into_words.ensures in
    record {
      gate = c.into_slice.ensures.gate;
      opening = subst (λ ws. StandsRecorded m (contents m ws) (opening_spaces standard_limits m.threads)) (sym same)
          (subst (λ n. StandsRecorded n (contents n c.open.result.words.words.now) (opening_spaces standard_limits m.threads)) c.open.ensures.map c.open.ensures.opening);
    }
