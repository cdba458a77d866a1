use Rattle.std.proofs.Common.{◌≡◌, ◌+◌, ◌≤◌, ℕ, length}
use Rattle.yak_model.specs.Graph.{Thread}
use Rattle.heap_tables.specs.Layouts.{AreBelow, GoesLaid}
use Rattle.heap_tables.specs.Merges.{IsMerge, Merge}
use Rattle.heap_tables.specs.Runs.{Ran}
use Rattle.heap_tables.proofs.merging.merge_on.Given as goal

abbrev pub invariant-loop-turn : goal.invariant-loop-turn
invariant-loop-turn g l = let C = g.C.Caller in record {
  buffer : length l.buffer ≡ length l.fn.buffer;
  groups : length l.groups ≡ length l.fn.groups;
  few : l.laid ≤ l.fn.most;
  ran : Ran C.base C.tells C.tells_known C.standing l.fn.caller l.caller 0;
  merged : (m : Merge) (is : IsMerge m) (start : ℕ) (own : Thread) → AreBelow own l.fn.from l.fn.into m → length own.stack ≡ l.fn.at → GoesLaid m is l.fn.bucket start l.fn.place l.fn.window 0 own (C.standing l.fn.caller).own (C.knows l.fn.caller) → GoesLaid m is l.fn.bucket start (l.fn.place + l.turn) l.fn.window l.laid own (C.standing l.caller).own (C.knows l.caller);
}
