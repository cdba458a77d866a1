use Rattle.std.proofs.Common.{sym}
use Rattle.yak.proofs.SharedCounts.{out_so}
use Rattle.yak.proofs.shared.answer.Goals as goal

pub returns-in-Err-OutOfHeap : goal.returns-in-Err-OutOfHeap
returns-in-Err-OutOfHeap g c =
    out_so c.args.options c.args.bytes.now c.new.result.items c.in-Err-OutOfHeap.field-0 c.in-Err-OutOfHeap.field-0-0 c.in-Err-OutOfHeap.finished c.in-Err-OutOfHeap.field-0-is
    c.in-Err-OutOfHeap.ensures.why (sym c.in_default.ensures.found) c.new.ensures.items
