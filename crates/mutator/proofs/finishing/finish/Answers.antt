use Rattle.std.proofs.Common.{rules, ◌≡◌, ◌≤◌, ◌++◌, List, length, sym, ap, ◌∙◌, arith, append_assoc}
use Rattle.safepoint_gate.specs.declared.rule.View.{View}
use Rattle.mutator.specs.declared.resting.Resting.{Resting}
use Rattle.mutator.specs.Resting.{seats_of}
use Rattle.mutator.specs.Finishing.{owns_of}
use Rattle.mutator.proofs.Rested.{finishes, joined, of_first_seat, owns_length, seats_length, taken_resting}
use Rattle.mutator.proofs.finishing.finish.Goals as goal

pub loop-resting-init : goal.loop-resting-init
loop-resting-init c =
    let all = c.args.resting.items in
    let left = c.remove-first.new.self.items in
    let some : 1 ≤ length all = let a = c.requires.all in let b = seats_length all in let d = c.args.heap.gate.areas.2 in omega arith in
    let cut = taken_resting all left c.remove-first.result some c.remove-first.ensures.value c.remove-first.ensures.items in
    let seats = of_first_seat c.args.heap.gate all left c.remove-first.result cut c.requires.seats in
    record { first = seats.0; others = seats.1; own = sym (ap (λ (l : List Resting). owns_of (seats_of l)) cut) }

pub take_in-requires-clause-other : goal.take_in-requires-clause-other
take_in-requires-clause-other c =
    let cut = taken_resting c.loop-resting.resting.items c.remove-away.new.self.items c.remove-away.result (search rules) c.remove-away.ensures.value c.remove-away.ensures.items in
    (of_first_seat c.args.heap.gate c.loop-resting.resting.items c.remove-away.new.self.items c.remove-away.result cut c.loop-resting.invariant.others).0

pub loop-resting-preserved : goal.loop-resting-preserved
loop-resting-preserved c =
    let all = c.loop-resting.resting.items in
    let left = c.remove-away.new.self.items in
    let first = c.loop-resting.first in
    let taken = c.remove-away.result in
    let cut = taken_resting all left taken (search rules) c.remove-away.ensures.value c.remove-away.ensures.items in
    let seats = of_first_seat c.args.heap.gate all left taken cut c.loop-resting.invariant.others in
    record {
      first = c.take_in.ensures.gate;
      others = seats.1;
      own = ap (λ (v : View). v.own ++ owns_of (seats_of left)) c.take_in.ensures.view
          ∙ (append_assoc first.seat.me.0.own taken.away.seat.me.0.own (owns_of (seats_of left))
          ∙ (ap (λ (l : List Resting). first.seat.me.0.own ++ owns_of (seats_of l)) (sym cut) ∙ c.loop-resting.invariant.own));
    }

pub close_all-requires-clause-all : goal.close_all-requires-clause-all
close_all-requires-clause-all c =
    let none : length c.loop-resting.resting.items ≡ 0 = search rules in
    let own = joined c.loop-resting.first.seat.me.0.own c.loop-resting.resting.items c.args.resting.items none c.loop-resting.invariant.own in
    ap length own ∙ (owns_length c.args.resting.items ∙ c.requires.all)

pub returns-clause-finished : goal.returns-clause-finished
returns-clause-finished c =
    let none : length c.loop-resting.resting.items ≡ 0 = search rules in
    let own = joined c.loop-resting.first.seat.me.0.own c.loop-resting.resting.items c.args.resting.items none c.loop-resting.invariant.own in
    finishes c.loop-resting.first.seat.me.0 c.close_all.result.seat.me.0 (seats_of c.args.resting.items) c.close_all.ensures.view c.close_all.ensures.closing own
