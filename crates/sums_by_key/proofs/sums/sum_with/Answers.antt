use Rattle.std.proofs.Common.{arith}
use Rattle.sums_by_key.proofs.Bounds.{held_walk}
use Rattle.sums_by_key.proofs.sums.sum_with.Goals as goal

pub add_all-requires-clause-names : goal.add_all-requires-clause-names
add_all-requires-clause-names g c = omega (arith, c.in_ok-open_table.ensures.own.made, c.requires.summable.few)

pub read_entries-requires-clause-table : goal.read_entries-requires-clause-table
read_entries-requires-clause-table g c =
    let h = c.in_ok-add_all.ensures.added in
    (h.0, h.2.name, h.2.sums, h.1, held_walk (g.C.Caller.standing c.add_all.new.caller) h.0 c.args.lines.now h.2 c.requires.summable.few)

pub read_entries-requires-clause-room : goal.read_entries-requires-clause-room
read_entries-requires-clause-room g c = omega (arith, c.in_ok-add_all.ensures.slots)

pub returns : goal.returns
returns g c =
    let h = c.in_ok-add_all.ensures.added in
    record {
      sums = h.2.sums;
      are_sums = h.2.are_sums;
      listed = c.sort_counts.ensures.sorted h.2.sums (c.in_ok-list.ensures.entries h.0 h.2.name h.2.sums h.1 (held_walk (g.C.Caller.standing c.add_all.new.caller) h.0 c.args.lines.now h.2 c.requires.summable.few));
    }
