use Rattle.std.proofs.Common.{◌≡◌, ℕ, List, Vec, [], Ok, length, ◌++◌, drop, take, sym, ap, ◌∙◌, subst, arith}
use Rattle.std.specs.declared.alloc.Global.{Global}
use Rattle.std.proofs.lemmas.Result.{IfOk-at_ok}
use Rattle.heap_words.specs.declared.map.Areas.{Areas}
use Rattle.task_feed.specs.FeedContents.{FeedContents, lists_in}
use Rattle.task_feed.specs.Dealt.{IsDealt}
use Rattle.group_jobs.specs.Dealings.{row_at}
use Rattle.group_jobs.specs.Shared.{IsCountedFed}
use Rattle.group_jobs.specs.Workers.{HaveCounted, ListsCounted, NoneRefused}
use Rattle.group_jobs.specs.declared.shares.Worker.{Worker}
use Rattle.group_jobs.specs.declared.tasks.Task.{Task}
use Rattle.group_jobs.proofs.Closing.{tells_why}
use Rattle.group_jobs.proofs.Hired.{front}
use Rattle.group_jobs.proofs.TakenRows.{fed_counted, fed_dealt, fed_room}
use Rattle.group_jobs.proofs.feeding.count_fed.Goals as goal

pub close_team-requires-clause-some : goal.close_team-requires-clause-some
close_team-requires-clause-some g c =
    let opened = c.in-Ok.opened in
    let gate = opened.heap.gate in
    let bytes = c.args.bytes.now in
    let rows = c.in-Ok-fed.taken.rows in
    let left = c.in-Ok-fed.taken.left in
    let team = c.in-Ok-fed.team in
    let was = c.as_mut_slice.result.now in
    let new = c.sum_up-counted.new.team in
    let counted = c.sum_up-counted.ensures.keeps bytes c.deref.result.now (row_at rows) left (subst (HaveCounted gate bytes c.deref.result.now (row_at rows) left) (sym c.as_mut_slice.ensures.value) c.in-Ok-fed.ensures.counted) in
    let long : team.len ≡ length new = let a = team.ok.0 in let b = c.sum_up-counted.auto.team in let d = ap length c.as_mut_slice.ensures.value in omega arith in
    let back = take team.len (new ++ drop (length new) team.items) in
    let whole : back ≡ new = front team.len new (drop (length new) team.items) long in
    let have : HaveCounted gate bytes opened.tasks.items (row_at rows) left back = subst (λ (x : List Task × List Worker). HaveCounted gate bytes x.0 (row_at rows) left x.1) (λ i. (c.deref.ensures.value i, sym whole i)) counted in
    (bytes, opened.tasks.items, row_at rows, left, have)

pub close_team-requires-clause-unrefused : goal.close_team-requires-clause-unrefused
close_team-requires-clause-unrefused g c =
    let team = c.in-Ok-fed.team in
    let new = c.sum_up-counted.new.team in
    let long : team.len ≡ length new = let a = team.ok.0 in let b = c.sum_up-counted.auto.team in let d = ap length c.as_mut_slice.ensures.value in omega arith in
    let back = take team.len (new ++ drop (length new) team.items) in
    let whole : back ≡ new = front team.len new (drop (length new) team.items) long in
    rw whole c.sum_up-counted.ensures.unrefused

pub close_team-requires-clause-refused : goal.close_team-requires-clause-refused
close_team-requires-clause-refused g c =
    let team = c.in-Ok-fed.team in
    let new = c.sum_up-counted.new.team in
    let long : team.len ≡ length new = let a = team.ok.0 in let b = c.sum_up-counted.auto.team in let d = ap length c.as_mut_slice.ensures.value in omega arith in
    let back = take team.len (new ++ drop (length new) team.items) in
    let whole : back ≡ new = front team.len new (drop (length new) team.items) long in
    rw whole c.sum_up-counted.ensures.refused

pub returns-in-Ok-close_team-clause-list : goal.returns-in-Ok-close_team-clause-list
returns-in-Ok-close_team-clause-list g c =
    let opened = c.in-Ok.opened in
    let gate = opened.heap.gate in
    let bytes = c.args.bytes.now in
    let rows = c.in-Ok-fed.taken.rows in
    let left = c.in-Ok-fed.taken.left in
    let team = c.in-Ok-fed.team in
    let was = c.as_mut_slice.result.now in
    let new = c.sum_up-counted.new.team in
    let told : c.sum_up-counted.result ≡ Ok c.in-Ok-close_team.field-0.list = c.in-Ok-close_team.ensures.list in
    IfOk-at_ok (λ (list : Vec (List ℕ × ℕ) Global). ListsCounted gate was list.items) told c.sum_up-counted.ensures.list bytes c.deref.result.now (row_at rows) left
    (subst (HaveCounted gate bytes c.deref.result.now (row_at rows) left) (sym c.as_mut_slice.ensures.value) c.in-Ok-fed.ensures.counted)

pub returns-in-Ok-close_team-clause-dealt : goal.returns-in-Ok-close_team-clause-dealt
returns-in-Ok-close_team-clause-dealt g c others are =
    let opened = c.in-Ok.opened in
    let gate = opened.heap.gate in
    let bytes = c.args.bytes.now in
    let rows = c.in-Ok-fed.taken.rows in
    let left = c.in-Ok-fed.taken.left in
    let team = c.in-Ok-fed.team in
    let was = c.as_mut_slice.result.now in
    let new = c.sum_up-counted.new.team in
    let counted = c.sum_up-counted.ensures.keeps bytes c.deref.result.now (row_at rows) left (subst (HaveCounted gate bytes c.deref.result.now (row_at rows) left) (sym c.as_mut_slice.ensures.value) c.in-Ok-fed.ensures.counted) in
    let long : team.len ≡ length new = let a = team.ok.0 in let b = c.sum_up-counted.auto.team in let d = ap length c.as_mut_slice.ensures.value in omega arith in
    let back = take team.len (new ++ drop (length new) team.items) in
    let whole : back ≡ new = front team.len new (drop (length new) team.items) long in
    let have : HaveCounted gate bytes opened.tasks.items (row_at rows) left back = subst (λ (x : List Task × List Worker). HaveCounted gate bytes x.0 (row_at rows) left x.1) (λ i. (c.deref.ensures.value i, sym whole i)) counted in
    let told : c.sum_up-counted.result ≡ Ok c.in-Ok-close_team.field-0.list = c.in-Ok-close_team.ensures.list in
    let none = subst NoneRefused (sym whole) (IfOk-at_ok (λ (list : Vec (List ℕ × ℕ) Global). NoneRefused new) told c.sum_up-counted.ensures.unrefused) in
    let size : Areas = record { pages = c.args.pages; threads = c.args.workers } in
    let here : lists_in c.taken.inside.rows.items ≡ rows = ap (λ (x : FeedContents). x.rows) c.taken.view_is in
    let many : length rows ≡ c.args.workers = c.in-Ok-fed.ensures.rows ∙ c.in-Ok.ensures.length in
    let workers : length back ≡ c.args.workers = ap length whole ∙ c.sum_up-counted.auto.team ∙ ap length c.as_mut_slice.ensures.value ∙ c.in-Ok-fed.ensures.length ∙ c.in-Ok.ensures.length in
    subst (λ (l : List (List ℕ)). IsDealt (length others) l []) (sym here) (fed_dealt gate size c.in-Ok.ensures.map c.args.lines bytes opened.tasks.items rows left back c.in-Ok.ensures.cut have many workers none others are)

pub returns-in-Ok-close_team-clause-counted : goal.returns-in-Ok-close_team-clause-counted
returns-in-Ok-close_team-clause-counted g c =
    let opened = c.in-Ok.opened in
    let gate = opened.heap.gate in
    let bytes = c.args.bytes.now in
    let rows = c.in-Ok-fed.taken.rows in
    let left = c.in-Ok-fed.taken.left in
    let team = c.in-Ok-fed.team in
    let was = c.as_mut_slice.result.now in
    let new = c.sum_up-counted.new.team in
    let counted = c.sum_up-counted.ensures.keeps bytes c.deref.result.now (row_at rows) left (subst (HaveCounted gate bytes c.deref.result.now (row_at rows) left) (sym c.as_mut_slice.ensures.value) c.in-Ok-fed.ensures.counted) in
    let long : team.len ≡ length new = let a = team.ok.0 in let b = c.sum_up-counted.auto.team in let d = ap length c.as_mut_slice.ensures.value in omega arith in
    let back = take team.len (new ++ drop (length new) team.items) in
    let whole : back ≡ new = front team.len new (drop (length new) team.items) long in
    let have : HaveCounted gate bytes opened.tasks.items (row_at rows) left back = subst (λ (x : List Task × List Worker). HaveCounted gate bytes x.0 (row_at rows) left x.1) (λ i. (c.deref.ensures.value i, sym whole i)) counted in
    let told : c.sum_up-counted.result ≡ Ok c.in-Ok-close_team.field-0.list = c.in-Ok-close_team.ensures.list in
    let none = subst NoneRefused (sym whole) (IfOk-at_ok (λ (list : Vec (List ℕ × ℕ) Global). NoneRefused new) told c.sum_up-counted.ensures.unrefused) in
    let size : Areas = record { pages = c.args.pages; threads = c.args.workers } in
    let here : lists_in c.taken.inside.rows.items ≡ rows = ap (λ (x : FeedContents). x.rows) c.taken.view_is in
    let many : length rows ≡ c.args.workers = c.in-Ok-fed.ensures.rows ∙ c.in-Ok.ensures.length in
    let workers : length back ≡ c.args.workers = ap length whole ∙ c.sum_up-counted.auto.team ∙ ap length c.as_mut_slice.ensures.value ∙ c.in-Ok-fed.ensures.length ∙ c.in-Ok.ensures.length in
    let view = c.in-Ok-close_team.field-0.finished.seat.me.0 in
    subst (λ (l : List (List ℕ)). IsCountedFed size c.args.lines bytes l view) (sym here)
    (fed_counted gate size c.in-Ok.ensures.map c.args.lines bytes opened.tasks.items rows left back c.in-Ok.ensures.cut have many workers none view c.in-Ok-close_team.ensures.counted)

pub returns-in-Ok-close_team-clause-room : goal.returns-in-Ok-close_team-clause-room
returns-in-Ok-close_team-clause-room g c =
    let opened = c.in-Ok.opened in
    let gate = opened.heap.gate in
    let bytes = c.args.bytes.now in
    let rows = c.in-Ok-fed.taken.rows in
    let left = c.in-Ok-fed.taken.left in
    let team = c.in-Ok-fed.team in
    let was = c.as_mut_slice.result.now in
    let new = c.sum_up-counted.new.team in
    let counted = c.sum_up-counted.ensures.keeps bytes c.deref.result.now (row_at rows) left (subst (HaveCounted gate bytes c.deref.result.now (row_at rows) left) (sym c.as_mut_slice.ensures.value) c.in-Ok-fed.ensures.counted) in
    let long : team.len ≡ length new = let a = team.ok.0 in let b = c.sum_up-counted.auto.team in let d = ap length c.as_mut_slice.ensures.value in omega arith in
    let back = take team.len (new ++ drop (length new) team.items) in
    let whole : back ≡ new = front team.len new (drop (length new) team.items) long in
    let have : HaveCounted gate bytes opened.tasks.items (row_at rows) left back = subst (λ (x : List Task × List Worker). HaveCounted gate bytes x.0 (row_at rows) left x.1) (λ i. (c.deref.ensures.value i, sym whole i)) counted in
    let told : c.sum_up-counted.result ≡ Ok c.in-Ok-close_team.field-0.list = c.in-Ok-close_team.ensures.list in
    let none = subst NoneRefused (sym whole) (IfOk-at_ok (λ (list : Vec (List ℕ × ℕ) Global). NoneRefused new) told c.sum_up-counted.ensures.unrefused) in
    let size : Areas = record { pages = c.args.pages; threads = c.args.workers } in
    let here : lists_in c.taken.inside.rows.items ≡ rows = ap (λ (x : FeedContents). x.rows) c.taken.view_is in
    let many : length rows ≡ c.args.workers = c.in-Ok-fed.ensures.rows ∙ c.in-Ok.ensures.length in
    let workers : length back ≡ c.args.workers = ap length whole ∙ c.sum_up-counted.auto.team ∙ ap length c.as_mut_slice.ensures.value ∙ c.in-Ok-fed.ensures.length ∙ c.in-Ok.ensures.length in
    fed_room gate size c.in-Ok.ensures.map c.args.lines bytes opened.tasks.items rows left back c.in-Ok.ensures.cut have many workers none c.in-Ok-close_team.ensures.room

pub returns-clause-why : goal.returns-clause-why
returns-clause-why g c =
    let opened = c.in-Ok.opened in
    let gate = opened.heap.gate in
    let bytes = c.args.bytes.now in
    let rows = c.in-Ok-fed.taken.rows in
    let left = c.in-Ok-fed.taken.left in
    let team = c.in-Ok-fed.team in
    let was = c.as_mut_slice.result.now in
    let new = c.sum_up-counted.new.team in
    let counted = c.sum_up-counted.ensures.keeps bytes c.deref.result.now (row_at rows) left (subst (HaveCounted gate bytes c.deref.result.now (row_at rows) left) (sym c.as_mut_slice.ensures.value) c.in-Ok-fed.ensures.counted) in
    let long : team.len ≡ length new = let a = team.ok.0 in let b = c.sum_up-counted.auto.team in let d = ap length c.as_mut_slice.ensures.value in omega arith in
    let back = take team.len (new ++ drop (length new) team.items) in
    let whole : back ≡ new = front team.len new (drop (length new) team.items) long in
    let have : HaveCounted gate bytes opened.tasks.items (row_at rows) left back = subst (λ (x : List Task × List Worker). HaveCounted gate bytes x.0 (row_at rows) left x.1) (λ i. (c.deref.ensures.value i, sym whole i)) counted in
    tells_why gate (record { pages = c.args.pages; threads = c.args.workers }) c.in-Ok.ensures.map c.args.lines bytes opened.tasks.items (row_at rows) left back c.in-Ok.ensures.cut have c.in-Err.error c.in-Err.ensures.why
