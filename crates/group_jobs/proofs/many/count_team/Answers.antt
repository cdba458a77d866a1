use Rattle.std.proofs.Common.{◌≡◌, ℕ, List, Vec, [], length, sym, subst}
use Rattle.std.specs.declared.alloc.Global.{Global}
use Rattle.task_feed.specs.Shares.{share_of}
use Rattle.group_jobs.specs.Workers.{HaveCounted, ListsCounted, MayShare}
use Rattle.group_jobs.proofs.ShareRows.{shares_counted}
use Rattle.group_jobs.proofs.Working.{map_ok}
use Rattle.yak_model.specs.Texts.{counts_of, words_of}
use Rattle.group_jobs.proofs.many.count_team.Goals as goal

pub sum_up-requires-clause-some : goal.sum_up-requires-clause-some
sum_up-requires-clause-some g c κs within =
    let team = c.run_team.new.team in
    let tasks = c.args.tasks.now in
    let have = shares_counted c.args.heap.now.gate c.args.bytes.now tasks team (subst (λ n. MayShare n c.args.bytes.now tasks) (sym c.run_team.auto.team) c.requires.may) c.run_team.ensures.counted in
    (c.args.bytes.now, tasks, share_of (length tasks) (length team), [], have)

pub returns-clause-counted : goal.returns-clause-counted
returns-clause-counted g c =
    let team = c.run_team.new.team in
    let tasks = c.args.tasks.now in
    let have = shares_counted c.args.heap.now.gate c.args.bytes.now tasks team (subst (λ n. MayShare n c.args.bytes.now tasks) (sym c.run_team.auto.team) c.requires.may) c.run_team.ensures.counted in
    subst (λ n. HaveCounted c.args.heap.now.gate c.args.bytes.now tasks (share_of (length tasks) n) [] c.sum_up.new.team) c.run_team.auto.team
    (c.sum_up.ensures.keeps c.args.bytes.now tasks (share_of (length tasks) (length team)) [] have)

pub returns-clause-list : goal.returns-clause-list
returns-clause-list g c =
    let team = c.run_team.new.team in
    let tasks = c.args.tasks.now in
    let have = shares_counted c.args.heap.now.gate c.args.bytes.now tasks team (subst (λ n. MayShare n c.args.bytes.now tasks) (sym c.run_team.auto.team) c.requires.may) c.run_team.ensures.counted in
    map_ok c.sum_up.result (λ (list : Vec (List ℕ × ℕ) Global). ListsCounted c.args.heap.now.gate team list.items) (λ (list : Vec (List ℕ × ℕ) Global). list.items ≡ counts_of (words_of c.args.bytes.now))
    (λ list told. told c.args.bytes.now tasks (share_of (length tasks) (length team)) [] have) c.sum_up.ensures.list
