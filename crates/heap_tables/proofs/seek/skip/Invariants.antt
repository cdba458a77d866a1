use Rattle.std.proofs.Common.{◌≡◌, ◌+◌, ◌-◌, ◌≤◌, List, drop}
use Rattle.object_layout.specs.declared.names.Name.{Name}
use Rattle.yak_model.specs.declared.datum.Datum.{Datum}
use Rattle.yak_model.specs.Private.{KnownObjects}
use Rattle.yak_model.specs.Tables.{Link}
use Rattle.heap_tables.specs.Runs.{Ran}
use Rattle.heap_tables.specs.Walks.{IsApart, IsAtChain}
use Rattle.heap_tables.specs.Seeks.{IsSkipped}
use Rattle.heap_tables.specs.Asides.{LacksChain}
use Rattle.heap_tables.proofs.seek.skip.Given as goal

abbrev pub invariant-loop-turn : goal.invariant-loop-turn
invariant-loop-turn g l = let C = g.C.Caller in record {
  few : l.left + l.turn ≤ l.fn.n;
  ran : Ran C.base C.tells C.tells_known C.standing l.fn.caller l.caller 0;
  own : (C.standing l.caller).own ≡ (C.standing l.fn.caller).own;
  place : (known : KnownObjects) (name : Name) (values : List Datum) (links : List Link) → C.knows l.fn.caller known → IsAtChain (C.standing l.fn.caller) known l.fn.table l.fn.bucket name values links → IsApart name links
      → IsSkipped known name values l.fn.bucket (drop (l.fn.n - l.left) links) (C.knows l.caller);
  aside : (known : KnownObjects) (name : Name) (values : List Datum) (links : List Link) (other : KnownObjects) → C.knows l.fn.caller known → IsAtChain (C.standing l.fn.caller) known l.fn.table l.fn.bucket name values links → IsApart name links
      → C.knows l.fn.caller other → LacksChain other name links → C.knows l.caller other;
}
