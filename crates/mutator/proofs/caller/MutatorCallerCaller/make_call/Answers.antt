use Rattle.std.proofs.Common.{◌≡◌, ℕ, ap, sym, ◌∙◌, subst, arith}
use Rattle.object_layout.specs.declared.replies.Census.{Census}
use Rattle.yak_model.specs.Standing.{counted_on}
use Rattle.heap_words.specs.declared.map.Areas.{Areas}
use Rattle.mutator.specs.Callers.{IsAtEnd}
use Rattle.mutator.specs.Running.{view_in}
use Rattle.mutator.proofs.Telling.{call_at_end, call_counted, call_known, call_last, call_none_free, each_of_heap, knows_nothing, last_is, not_none, one_own}
use Rattle.mutator.proofs.caller.MutatorCallerCaller.make_call.Goals as goal

pub invariant_of-self : goal.invariant_of-self
invariant_of-self g c =
    let s = c.args.self.now in
    let way = c.give_way in
    let step = c.call_told-depth in
    record {
      of_heap = each_of_heap s.heap.now step.new.self.inside step.ensures.heap;
      knows_none = knows_nothing (view_in step.new.self.inside).own;
      some = ((λ e. absurd (not_none _ e)), (λ e. let count = c.count_up-self-in-Some.ensures.counted in absurd (omega (arith, count, e))));
      none_free = λ x e. subst (λ (l : Census × ℕ × ℕ). l.0.free ≡ 0) (last_is _ x e) (call_none_free (view_in way.new.self.inside) (view_in step.new.self.inside) c.args.call step.result.0 step.ensures.made c.in-Some.census c.in-Some.is);
    }

pub invariant_of-self-in_default : goal.invariant_of-self-in_default
invariant_of-self-in_default g c =
    let s = c.args.self.now in
    let way = c.give_way in
    let step = c.call_told-depth in
    record {
      of_heap = each_of_heap s.heap.now step.new.self.inside step.ensures.heap;
      knows_none = knows_nothing (view_in step.new.self.inside).own;
      some = s.some;
      none_free = s.none_free;
    }

pub returns-in-Some-clause-counted : goal.returns-in-Some-clause-counted
returns-in-Some-clause-counted g c =
    let s = c.args.self.now in
    let way = c.give_way in
    let step = c.call_told-depth in
    let one = one_own way.new.self.inside way.new.self.present in
    let more = c.count_up-self.ensures.counted ∙ ap (counted_on s.made) c.words_made.ensures in
    rw (sym way.ensures.own) (call_last (view_in way.new.self.inside) (view_in step.new.self.inside) c.args.call step.result.0 step.ensures.made one.0 one.1 s.made s.refusals s.last
    c.count_up-self.result c.count_up-self-in-Some.result step.result.1 c.words_asked.result c.in-Some.census more c.count_up-self-in-Some.ensures.counted c.in-Some.is step.ensures.depth c.words_asked.ensures)

pub returns-in-Some-clause-known : goal.returns-in-Some-clause-known
returns-in-Some-clause-known g c =
    let s = c.args.self.now in
    let way = c.give_way in
    let step = c.call_told-depth in
    let one = one_own way.new.self.inside way.new.self.present in
    rw (sym way.ensures.own) (call_known (view_in way.new.self.inside) (view_in step.new.self.inside) c.args.call step.result.0 step.ensures.made one.0 one.1 s.made s.refusals s.last)

pub returns-in_default-clause-counted : goal.returns-in_default-clause-counted
returns-in_default-clause-counted g c =
    let s = c.args.self.now in
    let way = c.give_way in
    let step = c.call_told-depth in
    let one = one_own way.new.self.inside way.new.self.present in
    let more = c.count_up-self.ensures.counted ∙ ap (counted_on s.made) c.words_made.ensures in
    rw (sym way.ensures.own) (call_counted (view_in way.new.self.inside) (view_in step.new.self.inside) c.args.call step.result.0 step.ensures.made one.0 one.1 s.made s.refusals s.last c.count_up-self.result more c.in_default.is)

pub returns-in_default-clause-known : goal.returns-in_default-clause-known
returns-in_default-clause-known g c =
    let s = c.args.self.now in
    let way = c.give_way in
    let step = c.call_told-depth in
    let one = one_own way.new.self.inside way.new.self.present in
    rw (sym way.ensures.own) (call_known (view_in way.new.self.inside) (view_in step.new.self.inside) c.args.call step.result.0 step.ensures.made one.0 one.1 s.made s.refusals s.last)

pub returns-in-Some-clause-at_end : goal.returns-in-Some-clause-at_end
returns-in-Some-clause-at_end g c =
    let s = c.args.self.now in
    let way = c.give_way in
    let step = c.call_told-depth in
    let one = one_own way.new.self.inside way.new.self.present in
    rw (sym way.ensures.own) (subst (λ (m : Areas). IsAtEnd m (view_in way.new.self.inside).own (view_in step.new.self.inside).own c.args.call step.result.0.reply) (sym step.ensures.made.map_is)
    (call_at_end (view_in way.new.self.inside) (view_in step.new.self.inside) c.args.call step.result.0 step.ensures.made one.0 one.1))

pub returns-in_default-clause-at_end : goal.returns-in_default-clause-at_end
returns-in_default-clause-at_end g c =
    let s = c.args.self.now in
    let way = c.give_way in
    let step = c.call_told-depth in
    let one = one_own way.new.self.inside way.new.self.present in
    rw (sym way.ensures.own) (subst (λ (m : Areas). IsAtEnd m (view_in way.new.self.inside).own (view_in step.new.self.inside).own c.args.call step.result.0.reply) (sym step.ensures.made.map_is)
    (call_at_end (view_in way.new.self.inside) (view_in step.new.self.inside) c.args.call step.result.0 step.ensures.made one.0 one.1))
