use Rattle.std.proofs.Common.{rules, ◌≡◌, ◌+◌, ◌-◌, ◌++◌, ◌∷◌, [], suc, ap, ◌∙◌, arith, length, length-append}
use Rattle.safepoint_gate.specs.declared.rule.View.{View}
use Rattle.safepoint_gate.specs.Rule.{away_view}
use Rattle.safepoint_gate.specs.Steps.{first_thread, of_first, of_others}
use Rattle.safepoint_gate.proofs.Dealt.{fresh-head, fresh-rest, fresh-first, fresh-snoc}
use Rattle.safepoint_gate.proofs.gate.Gate.new.Goals as goal

pub deal-away-requires-clause-numbered : goal.deal-away-requires-clause-numbered
deal-away-requires-clause-numbered c =
    let k = c.loop-k.k in
    let threads = c.map-threads.result.threads in
    let left : threads - k ≡ suc (threads - (k + 1)) = let below = c.loop-k-test.true in omega arith in
    ap (λ (v : View). first_thread v.own) c.loop-k.invariant.view ∙ fresh-head (k + 1) _ _ left

pub loop-k-preserved : goal.loop-k-preserved
loop-k-preserved c =
    let inv = c.loop-k.invariant in
    let k = c.loop-k.k in
    let map = c.in_ok-gate.gate.map in
    let threads = c.map-threads.result.threads in
    let left : threads - k ≡ suc (threads - (k + 1)) = let below = c.loop-k-test.true in omega arith in
    let items : c.put.new.seats.items ≡ c.loop-k.seats.items ++ c.deal-away.result ∷ [] = search rules in
    record {
      table = search rules;
      view = ap (λ m. m.0) c.deal-away.ensures.seat.1 ∙ (ap of_others inv.view ∙ ap (away_view map) (fresh-rest (k + 1) _ _ left));
      count = let a = ap length items in let b = length-append c.loop-k.seats.items (c.deal-away.result ∷ []) in let n = inv.count in omega arith;
      seats = rw items (fresh-snoc _ _ _ _ k inv.count inv.seats (search rules) (c.deal-away.ensures.away.1 ∙ (ap of_first inv.view ∙ ap (away_view map) (fresh-first (k + 1) _ _ left))));
    }
