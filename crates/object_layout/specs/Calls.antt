use Rattle.std.specs.Prelude.{◌≤◌}
use Rattle.object_layout.specs.declared.calls.Call.{Call}
use Rattle.object_layout.specs.declared.calls.Call.TheVariants.{Int, Null, Dup, Pop, New, Load, Store, Get, Same, Begin, End, Collect, Census}
use Rattle.object_layout.specs.declared.TheConstants.{MAX_INT}

-- The number of an `Int` call is an integer that a value can hold.
abbrev pub IsCall : Call → Type 0
IsCall (Int i) = i ≤ MAX_INT
IsCall Null = Unit {0}
IsCall (Dup s) = Unit {0}
IsCall Pop = Unit {0}
IsCall (New k) = Unit {0}
IsCall (Load s f) = Unit {0}
IsCall (Store s f x) = Unit {0}
IsCall (Get s) = Unit {0}
IsCall (Same s x) = Unit {0}
IsCall Begin = Unit {0}
IsCall End = Unit {0}
IsCall Collect = Unit {0}
IsCall Census = Unit {0}
