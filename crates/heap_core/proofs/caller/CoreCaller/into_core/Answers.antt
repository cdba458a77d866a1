use Rattle.heap_words.specs.Contents.{contents}
use Rattle.heap_core.proofs.Threads.{thread-told}
use Rattle.heap_core.proofs.caller.CoreCaller.into_core.Goals as goal

pub returns-clause-told : goal.returns-clause-told
returns-clause-told g c = λ s h.
    let core = c.args.self.core in
    thread-told core.map (contents core.map (g.W.Words.words core.words)) s h c.args.self.thread
