use Rattle.std.proofs.Common.{rules, tests}
use Rattle.std.proofs.lemmas.Cmp.{nat_list_cmp_total}
use Rattle.std.proofs.lemmas.List.Sorted.{ranks_by, answers_always, sorted_far}
use Rattle.std.specs.Ordering.{is_lt}
use Rattle.yak_model.specs.Texts.{word_cmp, word_counts}
use Rattle.group_jobs.proofs.Sorting.{sorted_entries}
use Rattle.group_jobs.proofs.counted.sort_counts.Goals as goal

pub returns-clause-sorted : goal.returns-clause-sorted
returns-clause-sorted c = λ counts are. sorted_entries counts _ _ c.sort_unstable_by.ensures.permutation (c.sort_unstable_by.ensures.sorted _ (ranks_by nat_list_cmp_total (λ entry. entry.0)) (answers_always _ _ _ (λ f a r f' k. search (rules, tests)))) are

pub returns-clause-counts : goal.returns-clause-counts
returns-clause-counts c = λ words. returns-clause-sorted c (word_counts words)

pub returns-clause-up : goal.returns-clause-up
returns-clause-up c = sorted_far (λ one other. is_lt (word_cmp one.0 other.0)) (ranks_by nat_list_cmp_total (λ entry. entry.0)) _ (c.sort_unstable_by.ensures.sorted _ (ranks_by nat_list_cmp_total (λ entry. entry.0)) (answers_always _ _ _ (λ f a r f' k. search (rules, tests))))
