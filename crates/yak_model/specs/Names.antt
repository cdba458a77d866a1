-- The order of names: by thread, and then by serial number.
use Rattle.std.specs.declared.cmp.Ordering.{Ordering}
use Rattle.std.specs.Ordering.{nat_cmp, then_cmp, on}
use Rattle.object_layout.specs.declared.names.Name.{Name}

abbrev pub name_cmp : Name → Name → Ordering
name_cmp = then_cmp (on (λ (n : Name). n.thread) nat_cmp) (on (λ (n : Name). n.serial) nat_cmp)

-- the name of the object by which threads begin to share
abbrev pub root_name : Name
root_name = record { thread = 0; serial = 0 }
