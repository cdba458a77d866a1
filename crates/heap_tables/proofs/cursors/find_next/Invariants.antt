use Rattle.std.proofs.Common.{◌≡◌, ℕ, ◌≤◌, length}
use Rattle.object_layout.specs.declared.names.Name.{Name}
use Rattle.yak_model.specs.Private.{KnownObjects}
use Rattle.yak_model.specs.Texts.{WordCounts}
use Rattle.heap_tables.specs.Cursors.{IsPast, MayWalk}
use Rattle.heap_tables.specs.Asides.{LacksTable}
use Rattle.heap_tables.specs.Runs.{Ran}
use Rattle.heap_tables.proofs.cursors.find_next.Given as goal

abbrev pub invariant-loop-bucket : goal.invariant-loop-bucket
invariant-loop-bucket g l = let C = g.C.Caller in record {
  ran : Ran C.base C.tells C.tells_known C.standing l.fn.caller l.caller 0;
  own : (C.standing l.caller).own ≡ (C.standing l.fn.caller).own;
  buffer : length l.buffer ≡ length l.fn.buffer;
  low : (l.at).bucket ≤ l.bucket;
  gone : (known : KnownObjects) (name : Name) (counts : WordCounts) (may : MayWalk (C.standing l.fn.caller) known l.fn.table name counts) → C.knows l.fn.caller known → C.knows l.caller known × ((b p : ℕ) → IsPast (may.is_table).buckets l.fn.at b p → l.bucket ≤ b);
  aside : (known : KnownObjects) (name : Name) (counts : WordCounts) (may : MayWalk (C.standing l.fn.caller) known l.fn.table name counts) (other : KnownObjects) → C.knows l.fn.caller known → C.knows l.fn.caller other → LacksTable other name (may.is_table).buckets → C.knows l.caller other;
}
