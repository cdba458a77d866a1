use Rattle.std.proofs.Common.{◌≡◌, ℕ, None, Option, ap, sym, subst, ◌∙◌}
use Rattle.object_layout.specs.declared.replies.Census.{Census}
use Rattle.heap_words.specs.Contents.{Contents, contents}
use Rattle.yak_model.specs.Graph.{Thread, standard_limits}
use Rattle.yak_model.specs.Spaces.{opening_spaces}
use Rattle.yak_model.specs.Stands.{Stands}
use Rattle.heap_core.specs.Callers.{standing_told, thread_told}
use Rattle.group_jobs.specs.Alone.{opening_standing}
use Rattle.group_jobs.specs.declared.TheConstants.{WORKER}
use Rattle.group_jobs.proofs.RootKnown.{knows_root}
use Rattle.group_jobs.proofs.Weighing.{present_opening}
use Rattle.group_jobs.proofs.count.open_heap.Goals as goal

told_standing : (c : Contents) (t made refusals : ℕ) (last : Option (Census × ℕ × ℕ)) → t ≡ WORKER → thread_told c WORKER ≡ opening_standing.own → made ≡ 0 → refusals ≡ 0 → last ≡ None → standing_told c t made refusals last ≡ opening_standing
told_standing c t made refusals last e own m r l =
    ap (λ u. standing_told c u made refusals last) e
    ∙ ap (λ n. standing_told c WORKER n refusals last) m
    ∙ ap (λ n. standing_told c WORKER 0 n last) r
    ∙ ap (λ o. standing_told c WORKER 0 0 o) l
    ∙ ap (λ (o : Thread). record opening_standing { own = o }) own

pub returns-in-Ok-clause-standing : goal.returns-in-Ok-clause-standing
returns-in-Ok-clause-standing c =
    let fresh = c.as_caller.ensures.fresh in
    told_standing (contents c.as_caller.result.core.map c.as_caller.result.core.words.words.items) c.as_caller.result.thread c.as_caller.result.made c.as_caller.result.refusals c.as_caller.result.last c.as_caller.ensures.thread
    (c.as_caller.ensures.told (opening_spaces standard_limits 1) c.in-Ok.ensures.opening.0 1) fresh.0 fresh.1 fresh.2

pub returns-in-Ok-clause-knows : goal.returns-in-Ok-clause-knows
returns-in-Ok-clause-knows c = c.as_caller.ensures.begins (opening_spaces standard_limits 1) c.in-Ok.ensures.opening.0

pub returns-in-Ok-clause-present : goal.returns-in-Ok-clause-present
returns-in-Ok-clause-present c = c.as_caller.ensures.present (opening_spaces standard_limits 1) c.in-Ok.ensures.opening.0 ∙ present_opening WORKER

pub returns-in-Ok-clause-root : goal.returns-in-Ok-clause-root
returns-in-Ok-clause-root c =
    let core = c.as_caller.result.core in
    let state = opening_spaces standard_limits WORKER in
    knows_root core.map (contents core.map core.words.words.items) c.as_caller.result.thread c.as_caller.ensures.thread
    (subst (λ items. Stands core.map (contents core.map items) state) (sym c.as_caller.ensures.words)
    (subst (λ m. Stands m (contents m c.in-Ok.core.words.words.items) state) (sym c.as_caller.ensures.map) c.in-Ok.ensures.opening.0))
