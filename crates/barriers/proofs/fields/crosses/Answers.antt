use Rattle.std.proofs.Common.{rules, ◌<◌, subst, arith}
use Rattle.heap_words.specs.declared.map.Areas.{Areas}
use Rattle.heap_words.specs.Map.{heap_length}
use Rattle.barriers.proofs.MetSpaces.{crossed, leads-to, none-crosses}
use Rattle.barriers.proofs.fields.crosses.Goals as goal

pub returns-in_default-clause-crossed : goal.returns-in_default-clause-crossed
returns-in_default-clause-crossed c = none-crosses c.args.inside.now.seat.me.0 c.args.call c.args.object.0 c.args.field c.args.word c.requires.field c.in_default.ensures

pub overflow_cast-target : goal.overflow_cast-target
overflow_cast-target c =
    let v = c.args.inside.now.seat.me.0 in
    let u = c.space_of-from.new.inside.seat.me.0 in
    let r = leads-to v u u c.args.call c.args.object.0 c.args.field c.args.word c.in-Some.target c.space_of-from.result c.space_of-from.result c.requires.field c.in-Some.ensures c.space_of-from.ensures.space in
    let lt : c.in-Some.target < heap_length c.args.gate.now.map = subst (λ (m : Areas). c.in-Some.target < heap_length m) c.space_of-from.ensures.gate.1 r.1.within in
    omega (arith, lt, c.args.gate.now.areas.1)

pub space_of-into-requires-clause-refers : goal.space_of-into-requires-clause-refers
space_of-into-requires-clause-refers c =
    let v = c.args.inside.now.seat.me.0 in
    let u = c.space_of-from.new.inside.seat.me.0 in
    leads-to v u u c.args.call c.args.object.0 c.args.field c.args.word c.in-Some.target c.space_of-from.result c.space_of-from.result c.requires.field c.in-Some.ensures c.space_of-from.ensures.space

pub returns-then-ne-clause-crossed : goal.returns-then-ne-clause-crossed
returns-then-ne-clause-crossed c =
    let v = c.args.inside.now.seat.me.0 in
    let u = c.space_of-from.new.inside.seat.me.0 in
    let w = c.space_of-into.new.inside.seat.me.0 in
    crossed v u w c.args.call c.args.object.0 c.args.field c.args.word c.in-Some.target c.space_of-from.result c.space_of-into.result c.requires.field c.in-Some.ensures c.space_of-from.ensures.space c.space_of-into.ensures.space
    c.ne-then-ne.result (λ t. search rules) (λ t enters. search rules)

pub returns-else-ne-clause-crossed : goal.returns-else-ne-clause-crossed
returns-else-ne-clause-crossed c =
    let v = c.args.inside.now.seat.me.0 in
    let u = c.space_of-from.new.inside.seat.me.0 in
    let w = c.space_of-into.new.inside.seat.me.0 in
    crossed v u w c.args.call c.args.object.0 c.args.field c.args.word c.in-Some.target c.space_of-from.result c.space_of-into.result c.requires.field c.in-Some.ensures c.space_of-from.ensures.space c.space_of-into.ensures.space
    c.ne.result (λ t. search rules) (λ t enters. search rules)
