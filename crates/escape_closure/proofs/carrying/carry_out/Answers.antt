use Rattle.std.proofs.Props.{props}
use Rattle.std.proofs.Math.Logic.{∥∥₁_elim, ∥∥₁_map}
use Rattle.std.proofs.Common.{length, ◌≡◌, ℕ, ◌+◌, ◌≤◌, List, sym, ap, subst, ◌∙◌, arith}
use Rattle.heap_words.specs.Contents.{Contents, contents, depth_of, stack_of}
use Rattle.heap_words.specs.declared.map.Areas.{Areas}
use Rattle.epoch_lattice.specs.declared.Space.{Space}
use Rattle.epoch_lattice.specs.declared.Space.TheVariants.{Region}
use Rattle.epoch_lattice.specs.Lattice.{space_index}
use Rattle.yak_model.specs.Placed.{space_word}
use Rattle.yak_model.specs.Spaces.{SpaceState, innermost}
use Rattle.yak_model.specs.Stands.{Stands, pages_of}
use Rattle.yak_model.proofs.Chains.{linked-prop}
use Rattle.remember_sets.specs.Filed.{SetsHold, chain}
use Rattle.relocation.specs.Moves.{move_at, words_moved}
use Rattle.escape_closure.specs.Ends.{PlanReady, References}
use Rattle.escape_closure.proofs.Costs.{few_words, words_mid}
use Rattle.escape_closure.proofs.Carries.{carried, carry_ready}
use Rattle.escape_closure.proofs.Written.{region_is}
use Rattle.escape_closure.proofs.carrying.carry_out.Goals as goal

pub correct_references-requires-clause-ready : goal.correct_references-requires-clause-ready
correct_references-requires-clause-ready g c = rw c.depth-innermost.ensures.words (∥∥₁_map c.requires.ready (λ q. (q.0, q.1, q.2, q.4.ready)))

-- what the correcting of references leaves, over the words at the start
abbrev refer : (m : Areas) (old start mid : Contents) (t count : ℕ) → start ≡ old → ((before : Contents) (s : SpaceState) (stands : Stands m before s) → PlanReady m before start s stands t count → References m start mid s stands.places t count) → (before : Contents) (s : SpaceState) (stands : Stands m before s) → PlanReady m before old s stands t count → References m old mid s stands.places t count
refer m old start mid t count same told = subst (λ (x : Contents). (before : Contents) (s : SpaceState) (stands : Stands m before s) → PlanReady m before x s stands t count → References m x mid s stands.places t count) same told

pub drop_slots_below-requires-clause-sets : goal.drop_slots_below-requires-clause-sets
drop_slots_below-requires-clause-sets g c =
    let m = c.args.map in
    let t = c.args.thread in
    let count = c.args.plan.count in
    let old = contents m (g.W.Words.words c.args.words.now) in
    let start = contents m (g.W.Words.words c.depth-innermost.new.words) in
    let mid = contents m (g.W.Words.words c.correct_references.new.words) in
    let same : start ≡ old = ap (contents m) c.depth-innermost.ensures.words in
    let told = refer m old start mid t count same c.correct_references.ensures.references in
    ∥∥₁_elim c.requires.ready (hlevel (props, linked-prop)) (λ q. subst (SetsHold m) (sym (told q.0 q.1 q.2 q.4.ready).frame) q.4.sets)

pub drop_slots_below-requires-clause-none_from : goal.drop_slots_below-requires-clause-none_from
drop_slots_below-requires-clause-none_from g c p from lt e =
    let m = c.args.map in
    let t = c.args.thread in
    let count = c.args.plan.count in
    let old = contents m (g.W.Words.words c.args.words.now) in
    let start = contents m (g.W.Words.words c.depth-innermost.new.words) in
    let mid = contents m (g.W.Words.words c.correct_references.new.words) in
    let same : start ≡ old = ap (contents m) c.depth-innermost.ensures.words in
    let told = refer m old start mid t count same c.correct_references.ensures.references in
    let deep = ap (λ k. space_index (Region t k) + 1) c.depth-innermost.ensures.depth in
    ∥∥₁_elim c.requires.ready (hlevel props) (λ q. c.requires.none_from p from lt (sym (ap (λ (x : Contents). space_word x.table p) (told q.0 q.1 q.2 q.4.ready).frame) ∙ e ∙ deep))

pub move_all-requires-clause-lawful : goal.move_all-requires-clause-lawful
move_all-requires-clause-lawful g c =
    let m = c.args.map in
    let t = c.args.thread in
    let count = c.args.plan.count in
    let old = contents m (g.W.Words.words c.args.words.now) in
    let start = contents m (g.W.Words.words c.depth-innermost.new.words) in
    let mid = contents m (g.W.Words.words c.correct_references.new.words) in
    let next = contents m (g.W.Words.words c.drop_slots_below.new.words) in
    let same : start ≡ old = ap (contents m) c.depth-innermost.ensures.words in
    let told = refer m old start mid t count same c.correct_references.ensures.references in
    ∥∥₁_map c.requires.ready (λ q.
    let refs = told q.0 q.1 q.2 q.4.ready in
    let low : 1 ≤ depth_of q.0 t = omega (arith, c.requires.depth, ap (λ (x : Contents). depth_of x t) q.4.ready.frame) in
    carry_ready m q.0 old q.1 q.2 t count q.3 c.requires.sound.areas c.requires.thread low q.4 mid next refs (ap (λ (x : Contents). x.heap) c.drop_slots_below.ensures.others) (ap (λ (x : Contents). x.scratch) c.drop_slots_below.ensures.others ∙ ap (λ (x : Contents). x.scratch) refs.frame))

pub returns-clause-carried : goal.returns-clause-carried
returns-clause-carried g c before s stands tight r =
    let m = c.args.map in
    let t = c.args.thread in
    let count = c.args.plan.count in
    let old = contents m (g.W.Words.words c.args.words.now) in
    let start = contents m (g.W.Words.words c.depth-innermost.new.words) in
    let mid = contents m (g.W.Words.words c.correct_references.new.words) in
    let next = contents m (g.W.Words.words c.drop_slots_below.new.words) in
    let last = contents m (g.W.Words.words c.move_all.new.words) in
    let same : start ≡ old = ap (contents m) c.depth-innermost.ensures.words in
    let refs = refer m old start mid t count same c.correct_references.ensures.references before s stands r.ready in
    let from : depth_of old t ≡ depth_of before t = ap (λ (x : Contents). depth_of x t) r.ready.frame in
    let low : 1 ≤ depth_of before t = omega (arith, c.requires.depth, from) in
    carried m before old s stands t count tight c.requires.sound.areas c.requires.thread low r mid next last c.depth-innermost.result (c.depth-innermost.ensures.depth ∙ from) refs c.drop_slots_below.ensures.dropped c.drop_slots_below.ensures.sets c.drop_slots_below.ensures.others c.move_all.ensures.objects c.move_all.ensures.only_heap

pub returns-clause-reads : goal.returns-clause-reads
returns-clause-reads g c before s stands tight r =
    let m = c.args.map in
    let t = c.args.thread in
    let count = c.args.plan.count in
    let areas = c.requires.sound.areas in
    let old = contents m (g.W.Words.words c.args.words.now) in
    let start = contents m (g.W.Words.words c.depth-innermost.new.words) in
    let mid = contents m (g.W.Words.words c.correct_references.new.words) in
    let next = contents m (g.W.Words.words c.drop_slots_below.new.words) in
    let same : start ≡ old = ap (contents m) c.depth-innermost.ensures.words in
    let refs = refer m old start mid t count same c.correct_references.ensures.references before s stands r.ready in
    let from : depth_of old t ≡ depth_of before t = ap (λ (x : Contents). depth_of x t) r.ready.frame in
    let low : 1 ≤ depth_of before t = omega (arith, c.requires.depth, from) in
    let ready = subst (λ (x : Contents). PlanReady m before x s stands t count) (sym same) r.ready in
    let first = c.correct_references.ensures.reads before s stands ready in
    let stack = ap (λ (x : Contents). length (stack_of x t)) same in
    let x : Space = innermost s.graph t in
    let slots = ap (λ (y : Contents). length (chain m y x)) same in
    let region : x ≡ Region t c.depth-innermost.result = region_is m before s stands t c.depth-innermost.result c.requires.thread (c.depth-innermost.ensures.depth ∙ from) (omega (arith, low, c.depth-innermost.ensures.depth, from)) in
    let pages : pages_of mid.table (Region t c.depth-innermost.result) ≡ pages_of old.table x = ap (λ (y : Contents). pages_of y.table (Region t c.depth-innermost.result)) refs.frame ∙ ap (pages_of old.table) (sym region) in
    let heap : next.heap ≡ mid.heap = ap (λ (x : Contents). x.heap) c.drop_slots_below.ensures.others in
    let scratch : next.scratch ≡ old.scratch = ap (λ (x : Contents). x.scratch) c.drop_slots_below.ensures.others ∙ ap (λ (x : Contents). x.scratch) refs.frame in
    let moved : words_moved next.heap count (move_at next.scratch) ≡ words_moved old.heap count (move_at old.scratch) = ap (λ (h : List ℕ). words_moved h count (move_at next.scratch)) heap ∙ ap (λ (x : List ℕ). words_moved mid.heap count (move_at x)) scratch ∙ words_mid m before old s stands t count tight areas c.requires.thread low r mid refs in
    let few = few_words m before old s stands t count tight areas c.requires.thread low r in
    omega (arith, first, stack, slots, pages, moved, few.0, few.1, c.depth-innermost.ensures.reads, c.drop_slots_below.ensures.reads, c.move_all.ensures.reads)
