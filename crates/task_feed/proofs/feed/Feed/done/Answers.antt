use Rattle.std.proofs.Common.{◌+◌, ℕ, List, cond, length, map, nat_lt, subst, ap, sym, ◌∙◌}
use Rattle.std.proofs.lemmas.List.{length-map}
use Rattle.std.proofs.lemmas.List.Elements.{All-map, All-weaker}
use Rattle.task_feed.specs.Dealt.{IsAscending, IsDealt, places}
use Rattle.task_feed.specs.Takers.{IsTakerOf, row_of, tasks_of}
use Rattle.task_feed.specs.declared.takers.Taker.{Taker}
use Rattle.task_feed.proofs.feed.Feed.done.Goals as goal

pub returns-clause-dealt : goal.returns-clause-dealt
returns-clause-dealt g c =
    let put = c.gather-pass.ensures.put in
    let left = c.drain.new.left.items in
    let dealt : IsDealt (tasks_of c.args.self) (map row_of c.args.takers.items) left = record {
      once = λ task. ap (λ (n : ℕ). n + places task left) (sym (c.gather-pass.ensures.taken task)) ∙ c.drain.ensures.once task ∙ ap (λ (n : ℕ). cond (nat_lt task n) 1 0) put;
      ascending = All-map IsAscending row_of c.args.takers.items
          (All-weaker (IsTakerOf c.args.self) (λ (t : Taker). IsAscending (row_of t)) (λ t h. h.ascending) c.args.takers.items c.requires.made);
    } in
    subst (λ (rows : List (List ℕ)). IsDealt (tasks_of c.args.self) rows left) (sym c.gather-pass.ensures.rows) dealt

pub returns-clause-count : goal.returns-clause-count
returns-clause-count g c = ap length c.gather-pass.ensures.rows ∙ length-map c.args.takers.items row_of ∙ c.requires.all
