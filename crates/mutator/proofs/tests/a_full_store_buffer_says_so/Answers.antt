use Rattle.std.proofs.Common.{◌≤◌, length, arith}
use Rattle.mutator.proofs.Rested.{new_first, seats_length, taken_resting}
use Rattle.mutator.proofs.tests.a_full_store_buffer_says_so.Goals as goal

pub enter-mutator-requires : goal.enter-mutator-requires
enter-mutator-requires g c =
    let all = c.in-Ok.made.1.items in
    let some : 1 ≤ length all = let a = c.in-Ok.ensures.count in let b = seats_length all in omega arith in
    let cut = taken_resting all c.remove.new.self.items c.remove.result some c.remove.ensures.value c.remove.ensures.items in
    record { heap = new_first c.in-Ok.made.0.gate all c.remove.new.self.items c.remove.result cut c.in-Ok.ensures.seats }
