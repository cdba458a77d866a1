use Rattle.std.proofs.Common.{◌≡◌, ◌≤◌, ◌++◌, ◌∷◌, [], List, length, sym, ap, ◌∙◌, subst, arith}
use Rattle.heap_words.specs.declared.map.Areas.{Areas}
use Rattle.heap_words.specs.Contents.{contents}
use Rattle.yak_model.specs.Recorded.{SomeRecorded}
use Rattle.mutator.specs.declared.resting.Resting.{Resting}
use Rattle.mutator.specs.Resting.{seats_of}
use Rattle.mutator.specs.Finishing.{AllOf}
use Rattle.mutator.proofs.Rested.{new_first, none_there, only_one, seats_length, taken_resting}
use Rattle.mutator.proofs.Stepped.{some_recorded}
use Rattle.mutator.proofs.tests.a_full_heap_says_so.Goals as goal

pub enter-mutator-requires : goal.enter-mutator-requires
enter-mutator-requires g c =
    let all = c.in-Ok.made.1.items in
    let some : 1 ≤ length all = let a = c.in-Ok.ensures.count in let b = seats_length all in omega arith in
    let cut = taken_resting all c.remove.new.self.items c.remove.result some c.remove.ensures.value c.remove.ensures.items in
    record { heap = new_first c.in-Ok.made.0.gate all c.remove.new.self.items c.remove.result cut c.in-Ok.ensures.seats }

pub finish-finished-requires-clause-seats : goal.finish-finished-requires-clause-seats
finish-finished-requires-clause-seats g c =
    let gate = c.in-Ok.made.0.gate in
    let all = c.in-Ok.made.1.items in
    let left = c.remove.new.self.items in
    let some : 1 ≤ length all = let a = c.in-Ok.ensures.count in let b = seats_length all in omega arith in
    let cut = taken_resting all left c.remove.result some c.remove.ensures.value c.remove.ensures.items in
    let none = none_there left all c.remove.result cut c.in-Ok.ensures.count in
    let back : c.push.new.self.items ≡ c.rest.result ∷ [] = c.in_ok-push.ensures.items ∙ ap (λ (l : List Resting). l ++ c.rest.result ∷ []) none in
    subst (λ (l : List Resting). AllOf gate (seats_of l)) (sym back) (only_one gate c.rest.result c.rest.ensures.heap)

pub over-core-requires-clause-stands : goal.over-core-requires-clause-stands
over-core-requires-clause-stands g c =
    let v = c.finish-finished.result.seat.me.0 in
    subst (λ (m : Areas). SomeRecorded m (contents m v.words)) (sym c.map-map.ensures) (some_recorded v.map (contents v.map v.words) v.history c.finish-finished.ensures.finished.explains)
