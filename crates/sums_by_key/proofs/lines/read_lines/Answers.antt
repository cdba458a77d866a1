use Rattle.std.proofs.Common.{◌++◌, map, ◌∙◌, ap, sym}
use Rattle.std.proofs.lemmas.List.{append-nil}
use Rattle.sums_by_key.specs.Sums.{line_text}
use Rattle.sums_by_key.proofs.Texts.{nothing_read, text_next}
use Rattle.sums_by_key.proofs.lines.read_lines.Goals as goal

pub texts-init : goal.texts-init
texts-init c =
    let none = nothing_read c.new-lines.result.items c.text_lines-texts.result c.new-lines.ensures.items in
    record { summable = none.0; total = none.1; read = none.2 }

pub texts-preserved : goal.texts-preserved
texts-preserved c =
    let inv = c.texts.invariant in
    let r = c.in-Ok.ensures in
    record {
      summable = r.summable;
      total = r.total;
      read = text_next _ c.texts.texts c.next.new.self c.in-Some.text.now c.texts.lines.items c.in-Some-read_line.line inv.read c.in-Some.ensures.steps c.in-Some-read_line.ensures
          ∙ ap (λ ls. map line_text ls ++ c.next.new.self) (sym r.pushed);
    }

pub returns-clause-text : goal.returns-clause-text
returns-clause-text c =
    sym c.text_lines-texts.ensures.value ∙ c.texts.invariant.read ∙ ap (λ ts. map line_text c.texts.lines.items ++ ts) c.in_default.ensures.steps.0 ∙ append-nil (map line_text c.texts.lines.items)
