use Rattle.std.proofs.Common.{ℕ, append_assoc, arith}
use Rattle.std.proofs.lemmas.List.{replicate_more}
use Rattle.script_text.proofs.printing.push_feeds.Goals as goal

pub loop-preserved : goal.loop-preserved
loop-preserved c = rw (c.in_ok-push.ensures.bytes, c.in_ok-push.ensures.ascii (omega arith), c.loop.invariant, ← replicate_more {X = ℕ} c.loop.counter 10) (simp append_assoc)
