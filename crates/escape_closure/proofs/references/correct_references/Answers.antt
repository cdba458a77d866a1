use Rattle.std.proofs.Props.{props}
use Rattle.std.proofs.Math.Logic.{∥∥₁_elim}
use Rattle.std.proofs.Common.{◌≡◌, ◌≤◌, ℕ, List, arith, ap, sym, subst, ◌∙◌, length}
use Rattle.epoch_lattice.specs.declared.Space.TheVariants.{Region}
use Rattle.epoch_lattice.specs.declared.TheConstants.{MAX_DEPTH}
use Rattle.epoch_lattice.specs.Lattice.{IsValid}
use Rattle.heap_words.specs.Contents.{Contents, contents, depth_of, stack_of}
use Rattle.heap_words.proofs.Contents.{length-heap, length-stacks}
use Rattle.yak_model.specs.Plans.{forward}
use Rattle.epoch_lattice.specs.declared.Space.{Space}
use Rattle.yak_model.specs.Spaces.{innermost}
use Rattle.yak_model.specs.Chains.{IsRegionOf}
use Rattle.yak_model.proofs.Chains.{linked-prop}
use Rattle.remember_sets.specs.Filed.{chain}
use Rattle.relocation.specs.Moves.{Numbered, move_at, words_moved}
use Rattle.relocation.specs.Fields.{Lined, MovesCorrected}
use Rattle.escape_closure.specs.Referring.{OutsideCorrected, SlotsReady, StackLeads}
use Rattle.escape_closure.proofs.Leads.{LinedAs, lined, lined_as, lined_of, references, slots_ready, stack_leads, words_mid}
use Rattle.escape_closure.proofs.MovedWords.{moved_few, three_each}
use Rattle.escape_closure.proofs.Written.{region_is}
use Rattle.escape_closure.proofs.references.correct_references.Goals as goal

pub correct_outside-requires-clause-region : goal.correct_outside-requires-clause-region
correct_outside-requires-clause-region g c = (c.requires.thread.0, c.requires.thread.1, omega (arith, c.depth-innermost.ensures.depth, c.requires.depth), c.depth-innermost.ensures.at_most)

pub correct_outside-requires-clause-plan : goal.correct_outside-requires-clause-plan
correct_outside-requires-clause-plan g c = rw c.depth-innermost.ensures.words (∥∥₁_elim c.requires.ready (hlevel props) (λ q. q.3.numbered))

pub correct_outside-requires-clause-lead : goal.correct_outside-requires-clause-lead
correct_outside-requires-clause-lead g c t lt =
    let m = c.args.map in
    let old = contents m (g.W.Words.words c.args.words.now) in
    subst (λ (x : List ℕ). StackLeads m (contents m x) t) (sym c.depth-innermost.ensures.words) (∥∥₁_elim c.requires.ready (hlevel props) (λ q. stack_leads m q.0 old q.1 q.2 c.args.thread c.args.plan.now.count c.requires.sound.areas c.requires.thread.0 q.3 t))

pub correct_outside-requires-clause-slots : goal.correct_outside-requires-clause-slots
correct_outside-requires-clause-slots g c =
    let m = c.args.map in
    let ws = g.W.Words.words c.args.words.now in
    let old = contents m ws in
    let count = c.args.plan.now.count in
    let x : Space = Region c.args.thread c.depth-innermost.result in
    let own : IsRegionOf m x = (c.requires.thread.0, c.requires.thread.1, omega (arith, c.depth-innermost.ensures.depth, c.requires.depth), c.depth-innermost.ensures.at_most) in
    subst (λ (y : List ℕ). SlotsReady m (contents m y) x count (move_at (contents m y).scratch)) (sym c.depth-innermost.ensures.words) (∥∥₁_elim c.requires.ready (hlevel (props, linked-prop)) (λ q. slots_ready m q.0 old q.1 q.2 c.args.thread count c.requires.sound.areas c.requires.thread.0 q.3 x own))

pub correct_moves-requires-clause-plan : goal.correct_moves-requires-clause-plan
correct_moves-requires-clause-plan g c =
    let m = c.args.map in
    let mid = contents m (g.W.Words.words c.correct_outside.new.words) in
    subst (λ (s : List ℕ). Numbered m mid.heap c.args.plan.now.count (move_at s)) (sym (ap (λ (x : Contents). x.scratch) c.correct_outside.ensures.corrected.frame)) c.correct_outside.ensures.plan

pub correct_moves-requires-clause-lined : goal.correct_moves-requires-clause-lined
correct_moves-requires-clause-lined g c =
    let m = c.args.map in
    let t = c.args.thread in
    let ws = g.W.Words.words c.args.words.now in
    let old = contents m ws in
    let mid = contents m (g.W.Words.words c.correct_outside.new.words) in
    let count = c.args.plan.now.count in
    let depth = c.depth-innermost.result in
    let low : 1 ≤ depth = omega (arith, c.depth-innermost.ensures.depth, c.requires.depth) in
    let same : contents m (g.W.Words.words c.depth-innermost.new.words) ≡ old = ap (contents m) c.depth-innermost.ensures.words in
    let out : OutsideCorrected m (forward count (move_at old.scratch)) old mid t depth = subst (λ (x : Contents). OutsideCorrected m (forward count (move_at x.scratch)) x mid t depth) same c.correct_outside.ensures.corrected in
    let scratch : mid.scratch ≡ old.scratch = ap (λ (x : Contents). x.scratch) out.frame in
    let own : IsRegionOf m (Region t depth) = (c.requires.thread.0, c.requires.thread.1, low, c.depth-innermost.ensures.at_most) in
    let valid : IsValid MAX_DEPTH (Region t depth) = (c.requires.thread.0, omega (arith, c.requires.thread, c.requires.sound.areas), low, c.depth-innermost.ensures.at_most) in
    let all : LinedAs m mid.heap count (move_at old.scratch) = ∥∥₁_elim c.requires.ready (hlevel props) (λ q.
    let is : depth ≡ depth_of q.0 t = c.depth-innermost.ensures.depth ∙ ap (λ (x : Contents). depth_of x t) q.3.frame in
    lined_as m mid.heap count (move_at old.scratch) (lined m q.0 old q.1 q.2 t count c.requires.sound.areas c.requires.thread.0 q.3 mid depth (region_is m q.0 q.1 q.2 t depth c.requires.thread is low) valid own out)) in
    subst (λ (s : List ℕ). Lined m mid.heap count (move_at s)) (sym scratch) (lined_of m mid.heap count (move_at old.scratch) all)

pub returns-clause-references : goal.returns-clause-references
returns-clause-references g c before s stands ready =
    let m = c.args.map in
    let t = c.args.thread in
    let ws = g.W.Words.words c.args.words.now in
    let old = contents m ws in
    let mid = contents m (g.W.Words.words c.correct_outside.new.words) in
    let next = g.W.Words.words c.correct_moves.new.words in
    let new = contents m next in
    let count = c.args.plan.now.count in
    let depth = c.depth-innermost.result in
    let low : 1 ≤ depth = omega (arith, c.depth-innermost.ensures.depth, c.requires.depth) in
    let same : contents m (g.W.Words.words c.depth-innermost.new.words) ≡ old = ap (contents m) c.depth-innermost.ensures.words in
    let out : OutsideCorrected m (forward count (move_at old.scratch)) old mid t depth = subst (λ (x : Contents). OutsideCorrected m (forward count (move_at x.scratch)) x mid t depth) same c.correct_outside.ensures.corrected in
    let scratch : mid.scratch ≡ old.scratch = ap (λ (x : Contents). x.scratch) out.frame in
    let own : IsRegionOf m (Region t depth) = (c.requires.thread.0, c.requires.thread.1, low, c.depth-innermost.ensures.at_most) in
    let valid : IsValid MAX_DEPTH (Region t depth) = (c.requires.thread.0, omega (arith, c.requires.thread, c.requires.sound.areas), low, c.depth-innermost.ensures.at_most) in
    let is : depth ≡ depth_of before t = c.depth-innermost.ensures.depth ∙ ap (λ (x : Contents). depth_of x t) ready.frame in
    let last : MovesCorrected (forward count (move_at old.scratch)) mid.heap new.heap count (move_at old.scratch) = subst (λ (x : List ℕ). MovesCorrected (forward count (move_at x)) mid.heap new.heap count (move_at x)) scratch c.correct_moves.ensures.fields in
    let numbered : Numbered m new.heap count (move_at old.scratch) = subst (λ (x : List ℕ). Numbered m new.heap count (move_at x)) scratch c.correct_moves.ensures.plan in
    references m before old s stands t count c.requires.sound.areas c.requires.thread.0 ready mid depth (region_is m before s stands t depth c.requires.thread is low) valid own out new last c.correct_moves.ensures.only_heap numbered (length-stacks m ws) (length-heap m next c.correct_moves.ensures.sound.whole ∙ sym (length-heap m ws c.requires.sound.whole))

pub returns-clause-reads : goal.returns-clause-reads
returns-clause-reads g c before s stands ready =
    let m = c.args.map in
    let t = c.args.thread in
    let ws = g.W.Words.words c.args.words.now in
    let old = contents m ws in
    let mid = contents m (g.W.Words.words c.correct_outside.new.words) in
    let count = c.args.plan.now.count in
    let depth = c.depth-innermost.result in
    let low : 1 ≤ depth = omega (arith, c.depth-innermost.ensures.depth, c.requires.depth) in
    let same : contents m (g.W.Words.words c.depth-innermost.new.words) ≡ old = ap (contents m) c.depth-innermost.ensures.words in
    let out : OutsideCorrected m (forward count (move_at old.scratch)) old mid t depth = subst (λ (x : Contents). OutsideCorrected m (forward count (move_at x.scratch)) x mid t depth) same c.correct_outside.ensures.corrected in
    let scratch : mid.scratch ≡ old.scratch = ap (λ (x : Contents). x.scratch) out.frame in
    let own : IsRegionOf m (Region t depth) = (c.requires.thread.0, c.requires.thread.1, low, c.depth-innermost.ensures.at_most) in
    let valid : IsValid MAX_DEPTH (Region t depth) = (c.requires.thread.0, omega (arith, c.requires.thread, c.requires.sound.areas), low, c.depth-innermost.ensures.at_most) in
    let is : depth ≡ depth_of before t = c.depth-innermost.ensures.depth ∙ ap (λ (x : Contents). depth_of x t) ready.frame in
    let words = words_mid m before old s stands t count c.requires.sound.areas c.requires.thread.0 ready mid depth (region_is m before s stands t depth c.requires.thread is low) valid own out in
    let few = moved_few m before old s stands t count c.requires.sound.areas c.requires.thread.0 ready in
    let three = three_each old.heap count (move_at old.scratch) in
    let moved : words_moved mid.heap count (move_at mid.scratch) ≡ words_moved mid.heap count (move_at old.scratch) = ap (λ (x : List ℕ). words_moved mid.heap count (move_at x)) scratch in
    let stack = ap (λ (x : Contents). length (stack_of x t)) same in
    let region : innermost s.graph t ≡ Region t depth = region_is m before s stands t depth c.requires.thread is low in
    let slots : length (chain m (contents m (g.W.Words.words c.depth-innermost.new.words)) (Region t depth)) ≡ length (chain m old (innermost s.graph t)) = ap (λ (x : Contents). length (chain m x (Region t depth))) same ∙ ap (λ (x : Space). length (chain m old x)) (sym region) in
    omega (arith, c.correct_moves.ensures.reads, c.correct_outside.ensures.reads, c.depth-innermost.ensures.reads, words, moved, stack, slots, few, three)
