use Rattle.std.proofs.Common.{[], ◌++◌, take, sym, subst, ◌∙◌, arith}
use Rattle.sums_by_key.specs.Held.{HoldsSums}
use Rattle.sums_by_key.specs.declared.lines.Line.{Line}
use Rattle.sums_by_key.proofs.Parts.{next_front, next_short, next_summable, whole}
use Rattle.sums_by_key.proofs.tables.add_lines.Goals as goal

abbrev none : Line
none = record { key = record { ref_ptr = (0, 0); now = [] }; number = 0 }

pub add_line-requires-clause-held : goal.add_line-requires-clause-held
add_line-requires-clause-held g c =
    let h = c.requires.held in
    let i = c.lines.line-index in
    (h.0 ++ take i c.args.lines.now, c.lines.invariant.added h.0 h.1 h.2, next_summable h.0 c.args.lines.now i none c.lines-test.true h.2)

pub add_line-requires-clause-word : goal.add_line-requires-clause-word
add_line-requires-clause-word g c =
    let h = c.requires.held in
    next_short h.0 c.args.lines.now c.lines.line-index none c.lines-test.true h.2

pub lines-preserved : goal.lines-preserved
lines-preserved g c =
    let C = g.C.Caller in
    let inv = c.lines.invariant in
    let r = c.in_ok-add_line.ensures in
    let i = c.lines.line-index in
    let lines = c.args.lines.now in
    record {
      slots = r.slots;
      depth = r.depth ∙ inv.depth;
      made = omega (arith, r.made, inv.made);
      added = λ done h may.
          subst (HoldsSums (C.standing c.add_line.new.caller) (C.knows c.add_line.new.caller)) (sym (next_front done lines i none c.lines-test.true))
          (r.added (done ++ take i lines) (inv.added done h may) (next_summable done lines i none c.lines-test.true may));
    }

pub returns-clause-added : goal.returns-clause-added
returns-clause-added g c done h may =
    let C = g.C.Caller in
    subst (λ ls. HoldsSums (C.standing c.lines.caller) (C.knows c.lines.caller) (done ++ ls)) (whole c.args.lines.now c.lines.line-index c.lines-test.false) (c.lines.invariant.added done h may)
