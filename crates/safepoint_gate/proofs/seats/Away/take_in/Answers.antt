use Rattle.std.proofs.Common.{rules}
use Rattle.safepoint_gate.proofs.Deals.{joins_keeps, first-some}
use Rattle.safepoint_gate.proofs.seats.Away.take_in.Goals as goal

pub join_seat-requires : goal.join_seat-requires
join_seat-requires c =
    let me = c.args.self.now in
    (search rules, search rules, search rules, search rules, joins_keeps _ _ _ _ _ me.away c.args.other.away (first-some _ _ me.numbered me.threaded.0))
