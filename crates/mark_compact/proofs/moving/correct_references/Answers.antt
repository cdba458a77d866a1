use Rattle.std.proofs.Props.{props}
use Rattle.std.proofs.Math.Logic.{∥∥₁_elim, ∥∥₁_map}
use Rattle.std.proofs.Common.{◌≡◌, ℕ, ◌+◌, ◌-◌, List, [], get_or, sym, ap, subst, ◌∙◌}
use Rattle.heap_words.specs.Contents.{Contents, contents}
use Rattle.yak_model.specs.Placed.{Holds}
use Rattle.yak_model.specs.Plans.{forward, forwarded}
use Rattle.relocation.specs.Moves.{heap_of, move_at, scratch_of}
use Rattle.relocation.specs.Fields.{Lined, MovesCorrected}
use Rattle.forwarding.specs.Corrected.{corrected_stacks}
use Rattle.relocation.proofs.RunsTold.{lined-told}
use Rattle.mark_compact.proofs.Slides.{frame, kept_objects}
use Rattle.mark_compact.proofs.Leads.{holds-two, lined, region-runs-told, regions, stack-lead}
use Rattle.mark_compact.proofs.moving.correct_references.Goals as goal

pub correct_regions-requires-clause-runs : goal.correct_regions-requires-clause-runs
correct_regions-requires-clause-runs g c =
    let m = c.args.map in
    let d = contents m (g.W.Words.words c.args.words.now) in
    region-runs-told m d c.args.plan.now.count (move_at d.scratch) (∥∥₁_map c.requires.planned (λ q. regions m q.0 q.1 q.2 d c.args.plan.now.count (move_at d.scratch) q.3 c.requires.sound.areas))

pub correct_moves-requires-clause-lined : goal.correct_moves-requires-clause-lined
correct_moves-requires-clause-lined g c =
    let m = c.args.map in
    let d = contents m (g.W.Words.words c.args.words.now) in
    let mid = g.W.Words.words c.correct_regions.new.words in
    let scratch : scratch_of m mid ≡ d.scratch = ap (λ (x : Contents). x.scratch) c.correct_regions.ensures.only_heap in
    subst (λ (sc : List ℕ). Lined m (heap_of m mid) c.args.plan.now.count (move_at sc)) (sym scratch)
    (lined-told m (heap_of m mid) c.args.plan.now.count (move_at d.scratch) (∥∥₁_map c.requires.planned (λ q.
    lined m q.0 q.1 q.2 d c.args.plan.now.count (move_at d.scratch) q.3 c.requires.sound.areas (heap_of m mid) (c.correct_regions.ensures.corrected (regions m q.0 q.1 q.2 d c.args.plan.now.count (move_at d.scratch) q.3 c.requires.sound.areas)))))

pub correct_stacks-requires-clause-lead : goal.correct_stacks-requires-clause-lead
correct_stacks-requires-clause-lead g c t k a ht lt e =
    let m = c.args.map in
    let d = contents m (g.W.Words.words c.args.words.now) in
    let stacks = ap (λ (x : Contents). x.stacks) c.correct_moves.ensures.only_heap ∙ ap (λ (x : Contents). x.stacks) c.correct_regions.ensures.only_heap in
    ∥∥₁_elim c.requires.planned (hlevel props) (λ q.
    let same = stacks ∙ ap (λ (x : Contents). x.stacks) (frame m q.0 q.1 q.2 d c.args.plan.now.count (move_at d.scratch) q.3 c.requires.sound.areas) in
    stack-lead m q.0 q.1 q.2 d c.args.plan.now.count (move_at d.scratch) q.3 c.requires.sound.areas t k a (ap (λ (st : List (List ℕ)). get_or (get_or st (t - 1) []) k 0) (sym same) ∙ e))

pub returns-clause-led : goal.returns-clause-led
returns-clause-led g c was s h p =
    let m = c.args.map in
    let count = c.args.plan.now.count in
    let d = contents m (g.W.Words.words c.args.words.now) in
    let mid = g.W.Words.words c.correct_regions.new.words in
    let last = g.W.Words.words c.correct_moves.new.words in
    let now = contents m (g.W.Words.words c.correct_stacks.new.words) in
    let scratch : scratch_of m mid ≡ d.scratch = ap (λ (x : Contents). x.scratch) c.correct_regions.ensures.only_heap in
    let heap : now.heap ≡ heap_of m last = ap (λ (x : Contents). x.heap) c.correct_stacks.ensures.corrected in
    let before : contents m last ≡ record d { heap = heap_of m last } = c.correct_moves.ensures.only_heap ∙ ap (λ (x : Contents). record x { heap = heap_of m last }) c.correct_regions.ensures.only_heap in
    let done : MovesCorrected (forward count (move_at d.scratch)) (heap_of m mid) (heap_of m last) count (move_at d.scratch) = subst (λ (sc : List ℕ). MovesCorrected (forward count (move_at sc)) (heap_of m mid) (heap_of m last) count (move_at sc)) scratch c.correct_moves.ensures.fields in
    record {
      frame = c.correct_stacks.ensures.corrected
          ∙ ap (λ (x : Contents). record x { stacks = corrected_stacks (forward count (move_at x.scratch)) x.stacks }) before
          ∙ ap (λ (ws : List ℕ). record d { stacks = corrected_stacks (forward count (move_at d.scratch)) d.stacks; heap = ws }) (sym heap);
      holds = subst (λ (ws : List ℕ). Holds m ws h.places.at (forwarded count (move_at d.scratch) h.places.at) (λ n. get_or d.heap (h.places.at n + 2) 0) (kept_objects m was s h d count (move_at d.scratch) p c.requires.sound.areas)) (sym heap)
          (holds-two m was s h d count (move_at d.scratch) p c.requires.sound.areas (heap_of m mid) (c.correct_regions.ensures.corrected (regions m was s h d count (move_at d.scratch) p c.requires.sound.areas)) (heap_of m last) done);
    }
