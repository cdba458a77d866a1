use Rattle.std.proofs.Common.{◌≡◌, ◌≤◌, ℕ, ◌+◌, List, sym, subst, ap, ◌∙◌, arith}
use Rattle.object_layout.specs.declared.TheConstants.{MAX_SPACE}
use Rattle.heap_words.specs.Map.{heap_length}
use Rattle.heap_words.specs.Contents.{contents}
use Rattle.relocation.specs.Moves.{move_at}
use Rattle.relocation.specs.Slide.{Runs, Sliding}
use Rattle.escape_closure.proofs.TightReadies.{runs_written}
use Rattle.escape_closure.proofs.tight.plan_tight.Goals as goal

pub plan_pages-requires-clause-runs : goal.plan_pages-requires-clause-runs
plan_pages-requires-clause-runs g c =
    let m = c.args.map in
    let e : g.W.Words.words c.empty_plan-plan.new.words ≡ g.W.Words.words c.args.words.now = ap g.W.Words.words c.empty_plan-plan.ensures.words ∙ c.depth-innermost.ensures.words in
    let small : c.from.result + 1 ≤ MAX_SPACE + 1 = omega (arith, c.from.ensures, c.index_of-region.ensures.most) in
    subst (λ (ws : List ℕ). Runs m (c.from.result + 1) (contents m ws)) (sym e) (runs_written m (c.from.result + 1) (contents m (g.W.Words.words c.args.words.now)) c.args.thread small c.requires.aimed)

pub returns-clause-sliding : goal.returns-clause-sliding
returns-clause-sliding g c slid is runs =
    let m = c.args.map in
    let first = g.W.Words.words c.args.words.now in
    let last = g.W.Words.words c.plan_pages.new.words in
    let e : g.W.Words.words c.empty_plan-plan.new.words ≡ first = ap g.W.Words.words c.empty_plan-plan.ensures.words ∙ c.depth-innermost.ensures.words in
    let told : (runs : Runs m (c.from.result + 1) (contents m first)) → Sliding m (c.from.result + 1) (contents m first) runs (contents m last) c.plan_pages.new.plan.count (move_at (contents m last).scratch) c.plan_pages.new.cursor.next c.plan_pages.new.cursor.room (heap_length m) = subst (λ (ws : List ℕ). (runs : Runs m (c.from.result + 1) (contents m ws)) → Sliding m (c.from.result + 1) (contents m ws) runs (contents m last) c.plan_pages.new.plan.count (move_at (contents m last).scratch) c.plan_pages.new.cursor.next c.plan_pages.new.cursor.room (heap_length m)) e c.plan_pages.ensures.sliding in
    let same : c.from.result + 1 ≡ slid = omega (arith, is, c.from.ensures, c.index_of-region.ensures.index, c.depth-innermost.ensures.depth) in
    (subst (λ i. (runs : Runs m i (contents m first)) → Sliding m i (contents m first) runs (contents m last) c.plan_pages.new.plan.count (move_at (contents m last).scratch) c.plan_pages.new.cursor.next c.plan_pages.new.cursor.room (heap_length m)) same told) runs
