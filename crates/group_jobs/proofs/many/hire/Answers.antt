use Rattle.std.proofs.Common.{rules, refl}
use Rattle.mutator.specs.Resting.{seats_of}
use Rattle.group_jobs.proofs.Hired.{hired_count, hired_ready, hired_rest, taken}
use Rattle.group_jobs.proofs.many.hire.Goals as goal

pub hired-preserved : goal.hired-preserved
hired-preserved c =
    let inv = c.hired.invariant in
    let gate = c.args.heap.now.gate in
    let all = seats_of c.args.resting.items in
    let resting = c.hired.resting.items in
    let left = c.remove-next.new.self.items in
    let next = c.remove-next.result in
    let team = c.hired.team.items in
    let after = c.put_worker.new.team.items in
    let cut = taken resting left next (search rules) c.remove-next.ensures.value c.remove-next.ensures.items in
    let put = c.in_ok-put_worker.ensures in
    record {
      rest = hired_rest gate all resting left next team after _ cut put c.requires.new inv.rest;
      count = hired_count gate all resting left next team after _ cut put c.requires.new inv.rest inv.count;
      ready = λ bytes. hired_ready gate all resting left next team after _ cut put c.requires.new inv.rest inv.count c.requires.count record { thread = c.thread.ensures; resting = refl; none = refl; unrefused = refl } bytes (inv.ready bytes);
    }
