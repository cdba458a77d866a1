use Rattle.std.proofs.Common.{ℕ, List}
use Rattle.yak_model.specs.Texts.{word_counts}
use Rattle.group_jobs.specs.Counts.{AreParts}
use Rattle.group_jobs.specs.Workers.{HaveCounted, NoneRefused}
use Rattle.group_jobs.specs.declared.tasks.Task.{Task}
use Rattle.group_jobs.proofs.Totals.{words_to}
use Rattle.group_jobs.proofs.many.list_totals.Given as goal

abbrev pub invariant-loop-k : goal.invariant-loop-k
invariant-loop-k g l = record {
  unrefused : NoneRefused l.team;
  told : (bytes : List ℕ) (tasks : List Task) (row : ℕ → List ℕ) (left : List ℕ) → HaveCounted l.heap.gate bytes tasks row left l.initial.team
      → HaveCounted l.heap.gate bytes tasks row left l.team × AreParts (word_counts (words_to bytes tasks row l.k)) l.all.items;
}
