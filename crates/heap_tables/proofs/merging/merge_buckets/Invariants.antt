use Rattle.std.proofs.Common.{◌≡◌, length, []}
use Rattle.heap_tables.specs.Merges.{AreSlots, Goes, IsMerge, IsMerged, Merge, walk}
use Rattle.heap_tables.proofs.merging.merge_buckets.Given as goal

abbrev pub invariant-loop-bucket : goal.invariant-loop-bucket
invariant-loop-bucket g l = let C = g.C.Caller in record {
  buffer : length l.buffer ≡ length l.fn.buffer;
  groups : length l.groups ≡ length l.fn.groups;
  goes : (m : Merge) (is : IsMerge m) → AreSlots (C.standing l.fn.caller) l.fn.from l.fn.into m → IsMerged m is [] (C.knows l.fn.caller) → Goes C.base C.tells C.tells_known C.standing m is [] (walk m.buckets l.bucket) l.fn.caller l.caller (C.knows l.caller);
}
