use Rattle.std.proofs.Common.{◌≡◌, ◌+◌, ◌-◌, ◌*◌, ◌^◌, ◌<◌, map}
use Rattle.object_layout.specs.declared.names.Name.{Name}
use Rattle.yak_model.specs.Private.{KnownObjects}
use Rattle.yak_model.specs.declared.TheConstants.{BUCKETS}
use Rattle.yak_model.specs.Texts.{WordCounts}
use Rattle.heap_tables.specs.Asides.{LacksTable}
use Rattle.heap_tables.specs.Cursors.{MayWalk}
use Rattle.heap_tables.specs.Entries.{entry_of}
use Rattle.heap_tables.specs.Merges.{done_at}
use Rattle.heap_tables.specs.Runs.{Ran}
use Rattle.heap_tables.proofs.listing.read_entries.Given as goal

abbrev pub invariant-entries : goal.invariant-entries
invariant-entries g l = let C = g.C.Caller in record {
  ran : Ran C.base C.tells C.tells_known C.standing l.fn.caller l.caller 0;
  own : (C.standing l.caller).own ≡ (C.standing l.fn.caller).own;
  bucket : l.at.bucket < BUCKETS;
  place : l.at.place < 2 ^ 32;
  kept : (known : KnownObjects) (name : Name) (counts : WordCounts) → C.knows l.fn.caller known → MayWalk (C.standing l.fn.caller) known l.fn.table name counts → C.knows l.caller known;
  aside : (known : KnownObjects) (name : Name) (counts : WordCounts) (may : MayWalk (C.standing l.fn.caller) known l.fn.table name counts) (other : KnownObjects) → C.knows l.fn.caller known → C.knows l.fn.caller other → LacksTable other name (may.is_table).buckets → C.knows l.caller other;
  read : (known : KnownObjects) (name : Name) (counts : WordCounts) (may : MayWalk (C.standing l.fn.caller) known l.fn.table name counts) → C.knows l.fn.caller known → l.list.items ≡ map entry_of (done_at (may.is_table).buckets l.at.bucket l.at.place);
}

abbrev pub decreases-entries : goal.decreases-entries
decreases-entries g l = (BUCKETS - l.at.bucket) * 2 ^ 32 + (2 ^ 32 - l.at.place)
