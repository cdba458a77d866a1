use Rattle.std.proofs.Common.{◌≡◌, ◌-◌, ℕ, List, arith, ap, sym, subst, ◌∙◌, length, get_or, [], get_or-set_other}
use Rattle.heap_words.specs.Cells.{row}
use Rattle.heap_words.specs.Contents.{Contents, contents, readers_of, stack_of, with_stack}
use Rattle.heap_words.proofs.Contents.{length-stacks}
use Rattle.yak_model.specs.Plans.{forward}
use Rattle.epoch_lattice.specs.declared.Space.TheVariants.{Region}
use Rattle.remember_sets.specs.Filed.{chain}
use Rattle.relocation.specs.Moves.{Numbered, move_at}
use Rattle.escape_closure.specs.Referring.{ReadersCorrected, SlotsCorrected, SlotsReady, corrected_stack}
use Rattle.escape_closure.proofs.Corrects.{outside_done, ready_stacked}
use Rattle.escape_closure.proofs.references.correct_outside.Goals as goal

pub correct_stack-requires-clause-lead : goal.correct_stack-requires-clause-lead
correct_stack-requires-clause-lead g c k a lt e = c.requires.lead (c.args.thread - 1) (omega (arith, c.requires.region)) k a lt e

pub correct_readers-requires-clause-plan : goal.correct_readers-requires-clause-plan
correct_readers-requires-clause-plan g c =
    let m = c.args.map in
    let count = c.args.plan.now.count in
    let here = ap (contents m) c.get_readers-readers.ensures.words ∙ c.correct_stack.ensures.corrected in
    subst (λ (x : Contents). Numbered m x.heap count (move_at x.scratch)) (sym here) c.requires.plan

pub correct_readers-requires-clause-lead : goal.correct_readers-requires-clause-lead
correct_readers-requires-clause-lead g c t lt ne =
    let m = c.args.map in
    let old = contents m (g.W.Words.words c.args.words.now) in
    let here = ap (contents m) c.get_readers-readers.ensures.words ∙ c.correct_stack.ensures.corrected in
    let same : row (contents m (g.W.Words.words c.get_readers-readers.new.words)).stacks t ≡ row old.stacks t = ap (λ (x : Contents). row x.stacks t) here ∙ get_or-set_other old.stacks (c.args.thread - 1) t _ [] (λ q. ne (omega (arith, q, c.requires.region))) in
    λ i b below e. c.requires.lead t lt i b (omega (arith, below, ap (λ (st : List ℕ). length st) same)) (ap (λ (st : List ℕ). get_or st i 0) (sym same) ∙ e)

pub correct_slots-requires-clause-plan : goal.correct_slots-requires-clause-plan
correct_slots-requires-clause-plan g c =
    let m = c.args.map in
    let count = c.args.plan.now.count in
    let old = contents m (g.W.Words.words c.args.words.now) in
    let mid = contents m (g.W.Words.words c.correct_readers.new.words) in
    let here = ap (contents m) c.get_readers-readers.ensures.words ∙ c.correct_stack.ensures.corrected in
    let only : mid ≡ record old { stacks = mid.stacks } = c.correct_readers.ensures.corrected.frame ∙ ap (λ (x : Contents). record x { stacks = mid.stacks }) here in
    subst (λ (x : Contents). Numbered m x.heap count (move_at x.scratch)) (sym only) c.requires.plan

pub correct_slots-requires-clause-slots : goal.correct_slots-requires-clause-slots
correct_slots-requires-clause-slots g c =
    let m = c.args.map in
    let count = c.args.plan.now.count in
    let old = contents m (g.W.Words.words c.args.words.now) in
    let mid = contents m (g.W.Words.words c.correct_readers.new.words) in
    let here = ap (contents m) c.get_readers-readers.ensures.words ∙ c.correct_stack.ensures.corrected in
    let only : mid ≡ record old { stacks = mid.stacks } = c.correct_readers.ensures.corrected.frame ∙ ap (λ (x : Contents). record x { stacks = mid.stacks }) here in
    let scratch : mid.scratch ≡ old.scratch = ap (λ (x : Contents). x.scratch) only in
    subst (λ (s : List ℕ). SlotsReady m mid (Region c.args.thread c.args.depth) count (move_at s)) (sym scratch) (ready_stacked m old mid (Region c.args.thread c.args.depth) count (move_at old.scratch) only c.requires.slots)

pub returns-clause-corrected : goal.returns-clause-corrected
returns-clause-corrected g c =
    let m = c.args.map in
    let count = c.args.plan.now.count in
    let t = c.args.thread in
    let old = contents m (g.W.Words.words c.args.words.now) in
    let f = forward count (move_at old.scratch) in
    let own = contents m (g.W.Words.words c.get_readers-readers.new.words) in
    let mid = contents m (g.W.Words.words c.correct_readers.new.words) in
    let new = contents m (g.W.Words.words c.correct_slots.new.words) in
    let here : own ≡ with_stack old t (corrected_stack f (stack_of old t)) = ap (contents m) c.get_readers-readers.ensures.words ∙ c.correct_stack.ensures.corrected in
    let first : own.scratch ≡ old.scratch = ap (λ (x : Contents). x.scratch) here in
    let second : mid.scratch ≡ old.scratch = ap (λ (x : Contents). x.scratch) c.correct_readers.ensures.corrected.frame ∙ first in
    let word : c.get_readers-readers.result ≡ readers_of old t c.args.depth = c.get_readers-readers.ensures.value ∙ ap (λ (x : Contents). readers_of x t c.args.depth) c.correct_stack.ensures.corrected in
    let many = length-stacks m (g.W.Words.words c.args.words.now) in
    let readers : ReadersCorrected f own mid t c.get_readers-readers.result 0 m.threads = subst (λ (s : List ℕ). ReadersCorrected (forward count (move_at s)) own mid t c.get_readers-readers.result 0 m.threads) first c.correct_readers.ensures.corrected in
    let slots : SlotsCorrected m f mid new (Region t c.args.depth) (length (chain m mid (Region t c.args.depth))) = subst (λ (s : List ℕ). SlotsCorrected m (forward count (move_at s)) mid new (Region t c.args.depth) (length (chain m mid (Region t c.args.depth)))) second c.correct_slots.ensures.corrected in
    outside_done m f old own mid new t c.args.depth c.get_readers-readers.result c.requires.region.0 (omega (arith, many, c.requires.region)) here word readers slots

pub returns-clause-plan : goal.returns-clause-plan
returns-clause-plan g c =
    let m = c.args.map in
    let count = c.args.plan.now.count in
    let old = contents m (g.W.Words.words c.args.words.now) in
    let mid = contents m (g.W.Words.words c.correct_readers.new.words) in
    let new = contents m (g.W.Words.words c.correct_slots.new.words) in
    let here = ap (contents m) c.get_readers-readers.ensures.words ∙ c.correct_stack.ensures.corrected in
    let only : mid ≡ record old { stacks = mid.stacks } = c.correct_readers.ensures.corrected.frame ∙ ap (λ (x : Contents). record x { stacks = mid.stacks }) here in
    subst (λ (s : List ℕ). Numbered m new.heap count (move_at s)) (ap (λ (x : Contents). x.scratch) only) c.correct_slots.ensures.plan

pub returns-clause-reads : goal.returns-clause-reads
returns-clause-reads g c =
    let m = c.args.map in
    let old = contents m (g.W.Words.words c.args.words.now) in
    let mid = contents m (g.W.Words.words c.correct_readers.new.words) in
    let here = ap (contents m) c.get_readers-readers.ensures.words ∙ c.correct_stack.ensures.corrected in
    let only : mid ≡ record old { stacks = mid.stacks } = c.correct_readers.ensures.corrected.frame ∙ ap (λ (x : Contents). record x { stacks = mid.stacks }) here in
    let slots : length (chain m mid (Region c.args.thread c.args.depth)) ≡ length (chain m old (Region c.args.thread c.args.depth)) = ap (λ (x : Contents). length (chain m x (Region c.args.thread c.args.depth))) only in
    omega (arith, c.correct_stack.ensures.reads, c.get_readers-readers.ensures.reads, c.correct_readers.ensures.reads, c.correct_slots.ensures.reads, slots)
