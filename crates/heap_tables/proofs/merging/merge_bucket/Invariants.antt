use Rattle.std.proofs.Common.{◌≡◌, ◌≤◌, length}
use Rattle.heap_tables.specs.Merges.{AreSlots, Goes, IsMerge, IsMerged, Merge, done_at, walk}
use Rattle.heap_tables.proofs.merging.merge_bucket.Given as goal

abbrev pub invariant-loop-turn : goal.invariant-loop-turn
invariant-loop-turn g l = let C = g.C.Caller in record {
  buffer : length l.buffer ≡ length l.fn.buffer;
  groups : length l.groups ≡ length l.fn.groups;
  turns : l.turn ≤ l.place;
  goes : (m : Merge) (is : IsMerge m) → AreSlots (C.standing l.fn.caller) l.fn.from l.fn.into m → IsMerged m is (walk m.buckets l.fn.bucket) (C.knows l.fn.caller) → Goes C.base C.tells C.tells_known C.standing m is (walk m.buckets l.fn.bucket) (done_at m.buckets l.fn.bucket l.place) l.fn.caller l.caller (C.knows l.caller);
}
