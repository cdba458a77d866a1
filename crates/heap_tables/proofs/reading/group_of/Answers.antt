use Rattle.std.proofs.Common.{◌/◌, arith}
use Rattle.yak_model.specs.declared.TheConstants.{GROUP_BYTES}
use Rattle.heap_tables.proofs.reading.group_of.Goals as goal

pub field_int-requires-clause-field : goal.field_int-requires-clause-field
field_int-requires-clause-field g c =
    let h = c.requires.key in
    (h.0, h.1, h.4.1.0, h.3, (h.4.0, h.4.1.1), omega (arith, h.4.1.2.size, h.6))

pub returns-clause-group : goal.returns-clause-group
returns-clause-group g c known name word k key below last =
    c.field_int.ensures.value known name key.1.0 _ k (key.0, key.1.1) (omega (arith, key.1.2.size, below)) (key.1.2.rest (c.args.i / GROUP_BYTES) (omega (arith, below)))
