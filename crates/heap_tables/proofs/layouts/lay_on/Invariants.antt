use Rattle.std.proofs.Common.{◌≡◌, List, length}
use Rattle.yak_model.specs.Graph.{Thread}
use Rattle.yak_model.specs.Private.{KnownObjects}
use Rattle.yak_model.specs.Tables.{IsChain, Link}
use Rattle.heap_tables.specs.Layouts.{IsLaid}
use Rattle.heap_tables.specs.Runs.{KeepsKnown, Ran}
use Rattle.heap_tables.specs.Seeks.{first_of}
use Rattle.heap_tables.proofs.layouts.lay_on.Given as goal

abbrev pub invariant-loop-n : goal.invariant-loop-n
invariant-loop-n g l = let C = g.C.Caller in record {
  ran : Ran C.base C.tells C.tells_known C.standing l.fn.caller l.caller 0;
  keeps : KeepsKnown (C.knows l.fn.caller) (C.knows l.caller);
  laid : (known : KnownObjects) (own : Thread) (links : List Link) → C.knows l.fn.caller known → IsChain known (first_of links) links → IsLaid own links l.fn.laid (C.standing l.fn.caller).own → length own.stack ≡ l.fn.at → IsLaid own links l.n (C.standing l.caller).own;
}
