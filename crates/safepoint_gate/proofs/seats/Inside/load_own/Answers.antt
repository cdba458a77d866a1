use Rattle.std.proofs.Common.{inl}
use Rattle.safepoint_gate.proofs.seats.Inside.load_own.Goals as goal

pub meet-requires-clause-place : goal.meet-requires-clause-place
meet-requires-clause-place c = inl c.requires.own

pub meet_with-requires-clause-place : goal.meet_with-requires-clause-place
meet_with-requires-clause-place c = inl c.requires.own
