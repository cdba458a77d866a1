use Rattle.std.proofs.Common.{rules}
use Rattle.safepoint_gate.proofs.Deals.{splits_keeps}
use Rattle.safepoint_gate.proofs.gate.Gate.deal.Goals as goal

pub split_seat-seat-requires : goal.split_seat-seat-requires
split_seat-seat-requires c = (search rules, search rules, splits_keeps _ _ _ c.requires.away)
