use Rattle.std.proofs.Common.{rules, ◌≡◌, ◌++◌, ◌∷◌, [], List, length, sym, ap, ◌∙◌, append_assoc}
use Rattle.safepoint_gate.specs.declared.seats.Away.{Away}
use Rattle.mutator.specs.declared.resting.Resting.{Resting}
use Rattle.mutator.specs.Resting.{seats_of}
use Rattle.mutator.proofs.Rested.{none_left, seats_more, single_first, taken}
use Rattle.mutator.proofs.heap.resting_all.Goals as goal

pub of-requires : goal.of-requires
of-requires c =
    let cut = taken c.loop-all.seats.items c.remove.new.self.items c.remove.result (search rules) c.remove.ensures.value c.remove.ensures.items in
    record { single = (single_first _ _ _ cut c.loop-all.invariant.single).0 }

pub loop-all-preserved : goal.loop-all-preserved
loop-all-preserved c =
    let left = c.remove.new.self.items in
    let all = c.loop-all.all.items in
    let cut = taken c.loop-all.seats.items left c.remove.result (search rules) c.remove.ensures.value c.remove.ensures.items in
    let put : c.put.new.all.items ≡ all ++ c.of.result ∷ [] = c.in_ok-put.ensures in
    record {
      seats = ap (λ (l : List Resting). seats_of l ++ left) put
          ∙ (ap (λ (l : List Away). l ++ left) (seats_more all c.of.result)
          ∙ (ap (λ (a : Away). (seats_of all ++ a ∷ []) ++ left) c.of.ensures.away
          ∙ (append_assoc (seats_of all) (c.remove.result ∷ []) left
          ∙ (ap (λ (l : List Away). seats_of all ++ l) (sym cut) ∙ c.loop-all.invariant.seats))));
      single = (single_first _ _ _ cut c.loop-all.invariant.single).1;
    }

pub returns : goal.returns
returns c =
    let none : length c.loop-all.seats.items ≡ 0 = search rules in
    none_left (seats_of c.loop-all.all.items) c.loop-all.seats.items c.args.seats.items none c.loop-all.invariant.seats
