use Rattle.std.proofs.Common.{rules, refl}
use Rattle.mutator.specs.Resting.{seats_of}
use Rattle.script_runner.proofs.Hired.{hired_count, hired_ready, hired_rest, taken}
use Rattle.script_runner.proofs.workers.hire.Goals as goal

pub loop-alloc-preserved : goal.loop-alloc-preserved
loop-alloc-preserved c =
    let inv = c.loop-alloc.invariant in
    let gate = c.args.heap.now.gate in
    let all = seats_of c.args.resting.items in
    let resting = c.loop-alloc.resting.items in
    let left = c.remove-next.new.self.items in
    let next = c.remove-next.result in
    let workers = c.loop-alloc.workers.items in
    let after = c.put_worker.new.workers.items in
    let cut = taken resting left next (search rules) c.remove-next.ensures.value c.remove-next.ensures.items in
    let put = c.in_ok-put_worker.ensures in
    record {
      rest = hired_rest gate c.args.count all resting left next workers after _ cut put c.requires.new inv.rest;
      count = hired_count gate c.args.count all resting left next workers after _ cut put c.requires.new inv.rest inv.count;
      ready = hired_ready gate c.args.count all resting left next workers after _ cut put c.requires.new inv.rest c.thread.ensures refl c.in_ok-room_for.ensures inv.ready;
    }
