use Rattle.std.proofs.Common.{rules, ◌≡◌, ◌++◌, ◌∷◌, [], length, arith}
use Rattle.group_jobs.proofs.Hired.{dismissed_count, dismissed_first, dismissed_last, taken}
use Rattle.group_jobs.proofs.many.dismiss.Goals as goal

pub loop-team-preserved : goal.loop-team-preserved
loop-team-preserved c =
    let inv = c.loop-team.invariant in
    let all = c.args.team.items in
    let team = c.loop-team.team.items in
    let left = c.remove-resting.new.self.items in
    let w = c.remove-resting.result in
    let back = c.loop-team.back.items in
    let after = c.put_back.new.back.items in
    let r = c.in-Some.resting in
    let cut = taken team left w (search rules) c.remove-resting.ensures.value c.remove-resting.ensures.items in
    let put : after ≡ back ++ r ∷ [] = c.in_ok-put_back-in-Some.ensures in
    record {
      rest = dismissed_last all team left w back after r cut put inv.rest;
      count = dismissed_count all team left w back after r cut put inv.rest inv.count;
      each = dismissed_first all team left w back after r cut put inv.rest c.in-Some.is inv.each;
    }

pub returns-clause-each : goal.returns-clause-each
returns-clause-each c =
    let inv = c.loop-team.invariant in
    let none : length c.loop-team.team.items ≡ 0 = search rules in
    λ k d a lt. inv.each k d a (let n = inv.count in omega arith)
