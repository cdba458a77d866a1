use Rattle.std.proofs.Common.{◌≡◌, ℕ, List, [], length, ◌++◌, drop, take, sym, ap, ◌∙◌, subst, arith}
use Rattle.task_feed.specs.Shares.{share_of}
use Rattle.group_jobs.specs.Workers.{HaveCounted}
use Rattle.group_jobs.specs.declared.shares.Worker.{Worker}
use Rattle.group_jobs.specs.declared.tasks.Task.{Task}
use Rattle.group_jobs.proofs.Closing.{shared_counted, shared_room, shared_why}
use Rattle.group_jobs.proofs.Hired.{front}
use Rattle.group_jobs.proofs.many.count_many.Goals as goal

pub close_team-requires-clause-some : goal.close_team-requires-clause-some
close_team-requires-clause-some g c =
    let opened = c.in-Ok.opened in
    let bytes = c.args.bytes.now in
    let team = c.count_team-counted.new.team in
    let tasks = c.deref.result.now in
    let was = c.as_mut_slice.result.now in
    let many : opened.team.len ≡ length team = let a = opened.team.ok.0 in let b = c.count_team-counted.auto.team in let d = ap length c.as_mut_slice.ensures.value in omega arith in
    let whole = front opened.team.len team (drop (length team) opened.team.items) many in (
      bytes,
      tasks,
      share_of (length tasks) (length was),
      [],
      subst (HaveCounted opened.heap.gate bytes tasks (share_of (length tasks) (length was)) []) (sym whole) c.count_team-counted.ensures.counted,
    )

pub close_team-requires-clause-refused : goal.close_team-requires-clause-refused
close_team-requires-clause-refused g c =
    let opened = c.in-Ok.opened in
    let team = c.count_team-counted.new.team in
    let many : opened.team.len ≡ length team = let a = opened.team.ok.0 in let b = c.count_team-counted.auto.team in let d = ap length c.as_mut_slice.ensures.value in omega arith in
    let whole = front opened.team.len team (drop (length team) opened.team.items) many in
    rw whole c.count_team-counted.ensures.refused

pub returns-clause-counted : goal.returns-clause-counted
returns-clause-counted g c =
    let opened = c.in-Ok.opened in
    let bytes = c.args.bytes.now in
    let team = c.count_team-counted.new.team in
    let tasks = opened.tasks.items in
    let many : opened.team.len ≡ length team = let a = opened.team.ok.0 in let b = c.count_team-counted.auto.team in let d = ap length c.as_mut_slice.ensures.value in omega arith in
    let back = take opened.team.len (team ++ drop (length team) opened.team.items) in
    let whole : back ≡ team = front opened.team.len team (drop (length team) opened.team.items) many in
    let hired : length c.as_mut_slice.result.now ≡ c.args.workers = ap length c.as_mut_slice.ensures.value ∙ c.in-Ok.ensures.length in
    let have : HaveCounted opened.heap.gate bytes tasks (share_of (length tasks) c.args.workers) [] back =
    subst (λ (x : List Task × ℕ × List Worker). HaveCounted opened.heap.gate bytes x.0 (share_of (length x.0) x.1) [] x.2) (λ i. (c.deref.ensures.value i, hired i, sym whole i)) c.count_team-counted.ensures.counted in
    shared_counted opened.heap.gate (record { pages = c.args.pages; threads = c.args.workers }) c.in-Ok.ensures.map c.args.lines bytes tasks back c.in-Ok.ensures.cut have c.close_team.result c.close_team.ensures.counted

pub returns-clause-room : goal.returns-clause-room
returns-clause-room g c =
    let opened = c.in-Ok.opened in
    let bytes = c.args.bytes.now in
    let team = c.count_team-counted.new.team in
    let tasks = opened.tasks.items in
    let many : opened.team.len ≡ length team = let a = opened.team.ok.0 in let b = c.count_team-counted.auto.team in let d = ap length c.as_mut_slice.ensures.value in omega arith in
    let back = take opened.team.len (team ++ drop (length team) opened.team.items) in
    let whole : back ≡ team = front opened.team.len team (drop (length team) opened.team.items) many in
    let hired : length c.as_mut_slice.result.now ≡ c.args.workers = ap length c.as_mut_slice.ensures.value ∙ c.in-Ok.ensures.length in
    let have : HaveCounted opened.heap.gate bytes tasks (share_of (length tasks) c.args.workers) [] back =
    subst (λ (x : List Task × ℕ × List Worker). HaveCounted opened.heap.gate bytes x.0 (share_of (length x.0) x.1) [] x.2) (λ i. (c.deref.ensures.value i, hired i, sym whole i)) c.count_team-counted.ensures.counted in
    shared_room opened.heap.gate (record { pages = c.args.pages; threads = c.args.workers }) c.in-Ok.ensures.map c.args.lines bytes tasks back c.in-Ok.ensures.cut have c.close_team.result c.close_team.ensures.room

pub returns-clause-why : goal.returns-clause-why
returns-clause-why g c =
    let opened = c.in-Ok.opened in
    let bytes = c.args.bytes.now in
    let team = c.count_team-counted.new.team in
    let tasks = opened.tasks.items in
    let many : opened.team.len ≡ length team = let a = opened.team.ok.0 in let b = c.count_team-counted.auto.team in let d = ap length c.as_mut_slice.ensures.value in omega arith in
    let back = take opened.team.len (team ++ drop (length team) opened.team.items) in
    let whole : back ≡ team = front opened.team.len team (drop (length team) opened.team.items) many in
    let hired : length c.as_mut_slice.result.now ≡ c.args.workers = ap length c.as_mut_slice.ensures.value ∙ c.in-Ok.ensures.length in
    let have : HaveCounted opened.heap.gate bytes tasks (share_of (length tasks) c.args.workers) [] back =
    subst (λ (x : List Task × ℕ × List Worker). HaveCounted opened.heap.gate bytes x.0 (share_of (length x.0) x.1) [] x.2) (λ i. (c.deref.ensures.value i, hired i, sym whole i)) c.count_team-counted.ensures.counted in
    shared_why opened.heap.gate (record { pages = c.args.pages; threads = c.args.workers }) c.in-Ok.ensures.map c.args.lines bytes tasks back c.in-Ok.ensures.cut have c.close_team.result c.close_team.ensures.why
