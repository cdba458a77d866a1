use Rattle.yak.proofs.Threads.{answers_threads}
use Rattle.yak.proofs.threaded.threads.Goals as goal

pub returns : goal.returns
returns g c = answers_threads c.law_script_or_refusal.ensures c.written.result _ _ _ c.written.ensures
