-- What calls of a caller leave that may begin and end epochs.
use Rattle.std.specs.Prelude.{◌≡◌, ℕ, ◌+◌, ◌≤◌, Some}
use Rattle.object_layout.specs.declared.replies.Census.{Census}
use Rattle.yak_model.specs.Graph.{Thread}
use Rattle.yak_model.specs.Private.{KnownObjects}
use Rattle.yak_model.specs.Standing.{Standing, Stays, counted_on}
use Rattle.heap_tables.specs.Epochs.{Makes}

-- The last call asked for an object of so many words, for which there was no room, at this depth. No other was refused so.
pub record Lacked (s after : Standing) (asked depth : ℕ) : Type 0 where
  pub refusals : after.refusals ≡ counted_on s.refusals 1
  pub census : Census
  pub none_free : census.free ≡ 0
  pub last : after.last ≡ Some (census, depth, asked)

-- Calls were made between, of which the last was refused for want of room, at a depth up to this one. Their objects and the one
-- asked for have at most so many words.
pub record WentOut {S B : Type 0} (base : S → B) (tells : S → ℕ → Thread → Type 0) (tells_known : S → ℕ → KnownObjects → Type 0) (standing : S → Standing) (s after : S) (deepest most : ℕ) : Type 0 where
  pub words : ℕ
  pub asked : ℕ
  pub depth : ℕ
  pub stays : Stays base tells tells_known s after
  pub makes : Makes (standing s) (standing after) words most
  pub within : words + asked ≤ most
  pub deep : depth ≤ deepest
  pub lacked : Lacked (standing s) (standing after) asked depth
