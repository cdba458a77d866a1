use Rattle.std.proofs.Common.{◌++◌, ap}
use Rattle.yak_model.specs.Graph.{Thread}
use Rattle.sums_by_key.proofs.Parts.{held_on}
use Rattle.sums_by_key.proofs.tables.add_epoch.Goals as goal

pub add_lines-requires-clause-held : goal.add_lines-requires-clause-held
add_lines-requires-clause-held g c =
    let C = g.C.Caller in
    let h = c.requires.held in
    (h.0, held_on (C.standing c.args.caller.now) (C.standing c.begin.new.caller) (C.knows c.args.caller.now) (C.knows c.begin.new.caller) h.0 (ap (λ (o : Thread). o.stack) c.begin.ensures.own) c.begin.ensures.keeps h.1, h.2)

pub end-requires-clause-some : goal.end-requires-clause-some
end-requires-clause-some g c =
    let C = g.C.Caller in
    let h = c.requires.held in
    let begun = held_on (C.standing c.args.caller.now) (C.standing c.begin.new.caller) (C.knows c.args.caller.now) (C.knows c.begin.new.caller) h.0 (ap (λ (o : Thread). o.stack) c.begin.ensures.own) c.begin.ensures.keeps h.1 in
    let r = c.in_ok-add_lines.ensures.added h.0 begun h.2 in
    (r.0, r.1)

pub returns-clause-added : goal.returns-clause-added
returns-clause-added g c done held may =
    let C = g.C.Caller in
    let begun = held_on (C.standing c.args.caller.now) (C.standing c.begin.new.caller) (C.knows c.args.caller.now) (C.knows c.begin.new.caller) done (ap (λ (o : Thread). o.stack) c.begin.ensures.own) c.begin.ensures.keeps held in
    held_on (C.standing c.add_lines.new.caller) (C.standing c.end.new.caller) (C.knows c.add_lines.new.caller) (C.knows c.end.new.caller) (done ++ c.args.lines.now) (ap (λ (o : Thread). o.stack) c.end.ensures.own) c.end.ensures.keeps
    (c.in_ok-add_lines.ensures.added done begun may)
