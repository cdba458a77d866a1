use Rattle.std.proofs.Common.{inr}
use Rattle.heap_words.specs.Contents.{contents}
use Rattle.standing_calls.proofs.Logged.{after_filing}
use Rattle.heap_core.proofs.barriers.log_slot.Goals as goal

pub file_logs-requires-clause-buffers : goal.file_logs-requires-clause-buffers
file_logs-requires-clause-buffers g c = rw c.in-Err.ensures.logged.1 c.requires.hold.1

pub returns-in-Err-clause-logs : goal.returns-in-Err-clause-logs
returns-in-Err-clause-logs g c =
    let m = c.args.map in
    let old = contents m (g.W.Words.words c.args.words.now) in
    let filed = rw c.in-Err.ensures.logged.1 at c.file_logs.ensures.filed in
    let others = rw c.in-Err.ensures.logged.1 at c.file_logs.ensures.others in
    inr (after_filing m old (contents m (g.W.Words.words c.file_logs.new.words)) (contents m (g.W.Words.words c.log-in-Err.new.words)) c.args.thread c.args.slot.0 c.log-in-Err.result _ c.requires.thread c.in-Err.ensures.logged.0 filed others c.log-in-Err.ensures.logged)
