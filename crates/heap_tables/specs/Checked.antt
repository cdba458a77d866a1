-- Counts that would grow too large.
use Rattle.std.specs.Prelude.{ℕ, ◌+◌, ◌<◌, List}
use Rattle.object_layout.specs.declared.TheConstants.{MAX_INT}
use Rattle.yak_model.specs.Texts.{WordCounts}
use Rattle.heap_tables.specs.Counted.{count_of}

-- The word's count and n are too much for an integer.
abbrev pub PassesLimit : WordCounts → List ℕ → ℕ → Type 0
PassesLimit counts word n = MAX_INT < count_of counts word + n
