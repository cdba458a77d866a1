use Rattle.std.proofs.Common.{◌≡◌, ◌≤◌, ◌*◌, ◌^◌, take}
use Rattle.std.specs.List.{sum_by}
use Rattle.yak.specs.Texts.{moved_in}
use Rattle.yak.proofs.summaries.moved_total.Given as goal

-- the sum so far
abbrev pub invariant-replies : goal.invariant-replies
invariant-replies l = record {
  sum : l.total ≡ sum_by moved_in (take l.reply-index l.replies);
  most : l.total ≤ l.reply-index * 2 ^ 64;
}
