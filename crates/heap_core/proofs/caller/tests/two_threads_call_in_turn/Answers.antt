use Rattle.std.proofs.Common.{ap, ◌∙◌, arith}
use Rattle.heap_words.specs.declared.map.Areas.{Areas}
use Rattle.heap_core.proofs.caller.tests.two_threads_call_in_turn.Goals as goal

pub turn_to-caller-requires : goal.turn_to-caller-requires
turn_to-caller-requires g c =
    let threads = ap (λ (m : Areas). m.threads) (c.as_caller-caller.ensures.map ∙ c.in-Ok.ensures.map) in
    record { thread = (omega arith, omega (arith, threads)) }
