use Rattle.yak.specs.Endings.{input_of}
use Rattle.yak.proofs.SharedCounts.{of_bytes}
use Rattle.yak.proofs.shared.prepare.Goals as goal

pub returns-in-Ok : goal.returns-in-Ok
returns-in-Ok g c =
    let left = g.S.Source.left in
    let faults = g.S.Source.faults in
    let input = input_of (left c.args.source.now) (left c.read_input.new.source) (faults c.args.source.now) (faults c.read_input.new.source) in
    of_bytes c.args.options c.answer.result.status input c.in-Ok.bytes.items c.answer.result.text.items _ c.in-Ok.ensures.read (rw c.deref.ensures.value at c.answer.ensures)
