use Rattle.std.proofs.Common.{ap}
use Rattle.std.specs.FinMap as finite
use Rattle.group_jobs.proofs.Dealing.{dealt_counts}
use Rattle.group_jobs.proofs.laws.law_dealt_counts.Goals as goal

pub returns : goal.returns
returns c = record {
  counts = dealt_counts;
  list = λ bytes lines tasks rows are dealt. ap finite.entries (dealt_counts bytes lines tasks rows are dealt);
}
