use Rattle.std.proofs.Common.{◌∙◌, ap, sym, arith, drop}
use Rattle.heap_tables.proofs.Visits.{drop_below, took_nothing, took_parts, took_visited}
use Rattle.heap_tables.proofs.cursors.visit.Goals as goal

pub overflow_add-result : goal.overflow_add-result
overflow_add-result g c =
    let h = c.requires.few in
    let t = c.in-Some.ensures.took h.0 h.1 h.2 h.3 h.4 h.5 h.6 in
    let r = took_parts (drop c.start_in-place.result h.3) c.in-Some.size c.in-Some.count c.take_entry.new.buffer t.0 in
    let below = drop_below c.start_in-place.result h.3 r.1 r.0 r.2 in
    omega (arith, below, h.7)

pub returns-in-Some-clause-visited : goal.returns-in-Some-clause-visited
returns-in-Some-clause-visited g c known name values links k at apart =
    let t = c.in-Some.ensures.took known name values links k at apart in
    (took_visited c.args.at c.args.bucket c.start_in-place.result links c.in-Some.size c.in-Some.count c.take_entry.new.buffer c.start_in-place.ensures t.0, t.1)

pub returns-in-None-clause-visited : goal.returns-in-None-clause-visited
returns-in-None-clause-visited g c known name values links k at apart =
    let t = c.in-None.ensures.took known name values links k at apart in
    (sym (ap (λ n. drop n links) c.start_in-place.ensures) ∙ took_nothing (drop c.start_in-place.result links) c.take_entry.new.buffer t.0, t.1)
