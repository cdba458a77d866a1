use Rattle.trace_check.proofs.Turns.{end_denied}
use Rattle.trace_check.proofs.turning.turn_end.Goals as goal

pub returns-in-Some-clause-denied : goal.returns-in-Some-clause-denied
returns-in-Some-clause-denied c = λ wrong can.
    end_denied c.uniqueness.ensures c.args.spaces.now c.end.new.self c.args.thread c.in-Some.moved c.is_tight-tight.result c.args.reply (rw c.in-Some.is at c.in_ok-moved.ensures.ended) c.is_tight-tight.ensures.ended (rw wrong at c.is_same.ensures) can
