use Rattle.std.proofs.Common.{◌≡◌, ◌++◌}
use Rattle.trace_check.specs.Making.{TracesLine, held_of, step_entries}
use Rattle.trace_check.proofs.Traced.{on_ok, packed_after}
use Rattle.trace_check.proofs.making.trace_line.Goals as goal

pub returns-clause-traces : goal.returns-clause-traces
returns-clause-traces c =
    let line = c.args.line in
    let stepped = c.step-stepped.result in
    let heap = held_of c.args.core.now.map c.args.core.now.words.words.items in
    let next = held_of c.step-stepped.new.self.map c.step-stepped.new.self.words.words.items in
    let before = c.args.entries.now.items in
    let after = c.add_step.new.entries.items in
    on_ok (after ≡ before ++ step_entries line stepped.collected stepped.reply) (TracesLine line heap next before after) c.add_step.result
    (λ told. record {
      collected = stepped.collected;
      reply = stepped.reply;
      told = told;
      turns = λ state stands recorded. let turned = c.step-stepped.ensures.turns state stands in (turned.0, turned.1, turned.2, turned.3 recorded);
      lawful = c.step-stepped.ensures.lawful;
      packed = packed_after line stepped.collected stepped.reply next c.step-stepped.ensures.packed;
    })
    c.add_step.ensures
