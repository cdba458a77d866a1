use Rattle.std.proofs.Common.{refl, arith}
use Rattle.heap_words.specs.Contents.{contents}
use Rattle.heap_core.proofs.Calling.{knows-nothing, some-knows-nothing}
use Rattle.heap_core.proofs.Threads.{thread-told}
use Rattle.heap_core.proofs.owned.Core.as_caller.Goals as goal

pub invariant_of-result : goal.invariant_of-result
invariant_of-result g c =
    let core = c.present_words-present.new.self in
    record {
      has_thread = rw c.present_words-present.ensures.map c.requires.thread;
      holds = rw (c.present_words-present.ensures.words, c.present_words-present.ensures.map) (omega (arith, c.present_words-present.ensures.used));
      knows_none = some-knows-nothing core.map (contents core.map (g.W.Words.words core.words)) c.args.thread core.stands;
      some = (λ e. refl, λ e. refl);
      none_free = λ x e. cc;
      filled = λ x e. cc;
    }

pub returns-clause-told : goal.returns-clause-told
returns-clause-told g c = λ s h t.
    rw (c.present_words-present.ensures.words, c.present_words-present.ensures.map) (thread-told c.args.self.map (contents c.args.self.map (g.W.Words.words c.args.self.words)) s h t)

pub returns-clause-begins : goal.returns-clause-begins
returns-clause-begins g c = λ s h.
    rw (c.present_words-present.ensures.words, c.present_words-present.ensures.map) (knows-nothing c.args.self.map (contents c.args.self.map (g.W.Words.words c.args.self.words)) s h c.args.thread)
