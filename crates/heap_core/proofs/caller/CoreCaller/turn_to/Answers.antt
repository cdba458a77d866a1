use Rattle.std.proofs.Common.{arith, refl}
use Rattle.heap_words.specs.Map.{IsAreas}
use Rattle.heap_words.specs.Contents.{contents}
use Rattle.heap_core.proofs.Called.{begun-holds}
use Rattle.heap_core.proofs.Calling.{some-knows-nothing}
use Rattle.heap_core.proofs.caller.CoreCaller.turn_to.Goals as goal

pub invariant_of-result : goal.invariant_of-result
invariant_of-result g c =
    let s = c.args.self in
    let core = s.core in
    let ws = g.W.Words.words core.words in
    let areas : IsAreas core.map = rw core.own (g.met.W.Words.within_limits core.words) in
    let holds = begun-holds core.map ws s.present s.made c.count_up-present.result areas (rw core.own (g.met.W.Words.whole core.words)) core.stands s.holds c.count_up-present.ensures.counted in
    record {
      has_thread = c.requires.thread;
      holds = omega (arith, holds);
      knows_none = some-knows-nothing core.map (contents core.map ws) c.args.thread core.stands;
      some = (λ _. refl, λ _. refl);
      none_free = λ x e. cc;
      filled = λ x e. cc;
    }
