use Rattle.std.proofs.Common.{◌≡◌, ◌<◌, [], length, sym, ◌∙◌, subst, arith}
use Rattle.yak_model.specs.Texts.{word_counts}
use Rattle.group_jobs.specs.Counts.{AreParts}
use Rattle.group_jobs.specs.Dealings.{tasks_at}
use Rattle.group_jobs.proofs.Totals.{may_read, no_parts, none_refused, parts_few, parts_moved, read_all, read_parts, read_small, whole_counts, whole_few, words_to}
use Rattle.group_jobs.proofs.many.list_totals.Goals as goal

pub loop-k-init : goal.loop-k-init
loop-k-init g c = record {
  unrefused = c.requires.unrefused;
  told = λ bytes tasks row left have. (have, subst (AreParts (word_counts [])) (sym c.new-all.ensures.items) no_parts);
}

pub read_total-requires-clause-some : goal.read_total-requires-clause-some
read_total-requires-clause-some g c =
    let h = c.requires.some in
    let d = c.index-team-k.result in
    let long = c.loop-k.auto.team in
    let lt : c.loop-k.k < length c.loop-k.team = omega (arith, long, c.loop-k-test.true) in
    let have = (c.loop-k.invariant.told h.0 h.1 h.2 h.3 h.4).0 in (
      h.0,
      tasks_at h.1 (h.2 c.loop-k.k),
      may_read c.args.heap.now.gate c.loop-k.team c.loop-k.k d lt h.0 h.1 h.2 h.3 have c.loop-k.invariant.unrefused d,
      read_small c.args.heap.now.gate c.loop-k.team c.loop-k.k d lt h.0 h.1 h.2 h.3 have c.loop-k.invariant.unrefused d,
    )

pub loop-k-preserved : goal.loop-k-preserved
loop-k-preserved g c =
    let gate = c.args.heap.now.gate in
    let team = c.loop-k.team in
    let k = c.loop-k.k in
    let d = c.index-team-k.result in
    let w = c.read_total.new.self in
    let long = c.loop-k.auto.team in
    let lt : k < length team = omega (arith, long, c.loop-k-test.true) in
    let none = c.loop-k.invariant.unrefused in
    record {
      unrefused = none_refused gate team k w lt none c.read_total.ensures.unrefused;
      told = λ bytes tasks row left have.
          let had = c.loop-k.invariant.told bytes tasks row left have in (
            read_all gate team k w lt bytes tasks row left had.0 none d (c.read_total.ensures.keeps bytes (tasks_at tasks (row k))),
            read_parts gate team k w lt bytes tasks row left had.0 none d c.loop-k.all.items c.in_ok-list.list.items c.append_counts.new.all.items had.1 c.in_ok-append_counts.ensures (c.in_ok-list.ensures.list bytes (tasks_at tasks (row k))),
          );
    }

pub returns-in_err-list-clause-keeps : goal.returns-in_err-list-clause-keeps
returns-in_err-list-clause-keeps g c bytes tasks row left have =
    let long = c.loop-k.auto.team in
    let lt : c.loop-k.k < length c.loop-k.team = omega (arith, long, c.loop-k-test.true) in
    read_all c.args.heap.now.gate c.loop-k.team c.loop-k.k c.read_total.new.self lt bytes tasks row left (c.loop-k.invariant.told bytes tasks row left have).0 c.loop-k.invariant.unrefused c.index-team-k.result
    (c.read_total.ensures.keeps bytes (tasks_at tasks (row c.loop-k.k)))

pub returns-in_err-append_counts-clause-keeps : goal.returns-in_err-append_counts-clause-keeps
returns-in_err-append_counts-clause-keeps g c bytes tasks row left have =
    let long = c.loop-k.auto.team in
    let lt : c.loop-k.k < length c.loop-k.team = omega (arith, long, c.loop-k-test.true) in
    read_all c.args.heap.now.gate c.loop-k.team c.loop-k.k c.read_total.new.self lt bytes tasks row left (c.loop-k.invariant.told bytes tasks row left have).0 c.loop-k.invariant.unrefused c.index-team-k.result
    (c.read_total.ensures.keeps bytes (tasks_at tasks (row c.loop-k.k)))

pub add_up-requires-clause-few : goal.add_up-requires-clause-few
add_up-requires-clause-few g c =
    let h = c.requires.some in
    let n = length c.args.team.now in
    let whole : c.loop-k.k ≡ n = omega (arith, c.loop-k-test.false, c.loop-k.auto.k-end) in
    let parts = subst (λ k. AreParts (word_counts (words_to h.0 h.1 h.2 k)) c.loop-k.all.items) whole (c.loop-k.invariant.told h.0 h.1 h.2 h.3 h.4).1 in
    let moved = parts_moved (words_to h.0 h.1 h.2 n) c.loop-k.all.items c.sort_counts.new.list.items c.sort_counts.ensures.moved parts in
    λ word.
    let le = parts_few (words_to h.0 h.1 h.2 n) c.sort_counts.new.list.items word moved in
    let few = whole_few c.args.heap.now.gate h.0 h.1 h.2 h.3 c.args.team.now h.4 c.requires.unrefused in
    omega (arith, le, few)

pub returns-in_err-sums-clause-keeps : goal.returns-in_err-sums-clause-keeps
returns-in_err-sums-clause-keeps g c bytes tasks row left have = (c.loop-k.invariant.told bytes tasks row left have).0

pub returns-clause-list : goal.returns-clause-list
returns-clause-list g c bytes tasks row left have =
    let n = length c.args.team.now in
    let whole : c.loop-k.k ≡ n = omega (arith, c.loop-k-test.false, c.loop-k.auto.k-end) in
    let parts = subst (λ k. AreParts (word_counts (words_to bytes tasks row k)) c.loop-k.all.items) whole (c.loop-k.invariant.told bytes tasks row left have).1 in
    let moved = parts_moved (words_to bytes tasks row n) c.loop-k.all.items c.sort_counts.new.list.items c.sort_counts.ensures.moved parts in
    c.sort_counts-2.ensures.counts (words_to bytes tasks row n) (c.in_ok-sums.ensures.sums (word_counts (words_to bytes tasks row n)) moved)
    ∙ whole_counts c.args.heap.now.gate bytes tasks row left c.args.team.now have c.requires.unrefused

pub returns-clause-keeps : goal.returns-clause-keeps
returns-clause-keeps g c bytes tasks row left have = (c.loop-k.invariant.told bytes tasks row left have).0
