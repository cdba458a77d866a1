use Rattle.std.proofs.Props.{props}
use Rattle.std.proofs.Math.Logic.{∥∥₁_elim, ∥∥₁_map}
use Rattle.std.proofs.Common.{◌≡◌, Bool, true, ℕ, ◌+◌, ◌≤◌, ◌<◌, List, sym, ap, subst, ◌∙◌, arith}
use Rattle.heap_words.specs.declared.map.Areas.{Areas}
use Rattle.heap_words.specs.Map.{heap_length}
use Rattle.heap_words.specs.Contents.{Contents, contents, depth_of}
use Rattle.epoch_lattice.specs.declared.Space.{Space}
use Rattle.epoch_lattice.specs.declared.Space.TheVariants.{Region}
use Rattle.epoch_lattice.specs.Lattice.{space_index}
use Rattle.region_pages.proofs.Shapes.{shape}
use Rattle.yak_model.specs.Spaces.{SpaceState}
use Rattle.yak_model.specs.Stands.{Stands}
use Rattle.yak_model.proofs.Chains.{linked-prop}
use Rattle.relocation.specs.Moves.{HasHeader, move_at, size_at}
use Rattle.relocation.specs.Slide.{IsPageOf}
use Rattle.remember_sets.specs.Filed.{PagesKnown, SetsHold}
use Rattle.yak_model.specs.Placed.{space_word}
use Rattle.escape_closure.specs.Ends.{region_word}
use Rattle.escape_closure.specs.Leaving.{Carried, ReadyToMove, TightReady}
use Rattle.relocation.proofs.RunsTold.{header-told}
use Rattle.escape_closure.proofs.Filable.{Filable, MovedFits}
use Rattle.escape_closure.proofs.TightReadies.{tight_frame, tight_ready}
use Rattle.escape_closure.proofs.TightLeaves.{lands, moved_is, settled_filable, settled_sets, settled_table, shape_before, tight_ended}
use Rattle.escape_closure.proofs.Written.{region_is}
use Rattle.escape_closure.proofs.tight.finish_tight.Given as given
use Rattle.escape_closure.proofs.tight.finish_tight.Goals as goal
use Rattle.escape_closure.proofs.tight.finish_tight.Goals.{After-settle_region}

-- what carrying out leaves, over the words at the start
abbrev carry : (m : Areas) (old start now : Contents) (t count : ℕ) → start ≡ old → ((before : Contents) (s : SpaceState) (stands : Stands m before s) (tight : Bool) → ReadyToMove m before start s stands t count tight → Carried m start now s stands.places t count) → (before : Contents) (s : SpaceState) (stands : Stands m before s) (tight : Bool) → ReadyToMove m before old s stands t count tight → Carried m old now s stands.places t count
carry m old start now t count same told = subst (λ (x : Contents). (before : Contents) (s : SpaceState) (stands : Stands m before s) (tight : Bool) → ReadyToMove m before x s stands t count tight → Carried m x now s stands.places t count) same told

pub carry_out-requires-clause-ready : goal.carry_out-requires-clause-ready
carry_out-requires-clause-ready g c =
    let m = c.args.map in
    let old = contents m (g.W.Words.words c.args.words.now) in
    rw c.depth-innermost.ensures.words (∥∥₁_map c.requires.ready (λ q. (q.0, q.2, q.3, true, tight_ready m q.0 q.1 old q.2 q.3 c.args.thread c.args.packing.plan.count c.args.packing.cursor.next c.requires.sound.areas c.requires.thread q.4.deep q.4)))

pub carry_out-requires-clause-none_from : goal.carry_out-requires-clause-none_from
carry_out-requires-clause-none_from g c p from lt = absurd (omega (arith, from, lt))

pub settle_region-requires-clause-room : goal.settle_region-requires-clause-room
settle_region-requires-clause-room g c =
    let m = c.args.map in
    let old = contents m (g.W.Words.words c.args.words.now) in
    ∥∥₁_elim c.requires.ready (hlevel props) (λ q. (tight_ready m q.0 q.1 old q.2 q.3 c.args.thread c.args.packing.plan.count c.args.packing.cursor.next c.requires.sound.areas c.requires.thread q.4.deep q.4).ready.numbered.room)

pub settle_region-requires-clause-moved : goal.settle_region-requires-clause-moved
settle_region-requires-clause-moved g c k lt =
    let m = c.args.map in
    let t = c.args.thread in
    let count = c.args.packing.plan.count in
    let next = c.args.packing.cursor.next in
    let old = contents m (g.W.Words.words c.args.words.now) in
    let start = contents m (g.W.Words.words c.depth-innermost.new.words) in
    let moved = contents m (g.W.Words.words c.carry_out.new.words) in
    let same : start ≡ old = ap (contents m) c.depth-innermost.ensures.words in
    let told = carry m old start moved t count same c.carry_out.ensures.carried in
    let all : ∥ HasHeader moved.heap (move_at moved.scratch k).new × ((move_at moved.scratch k).new + size_at moved.heap (move_at moved.scratch k).new ≤ heap_length m) ∥₁ = ∥∥₁_map c.requires.ready (λ q.
    let from : depth_of old t ≡ depth_of q.0 t = ap (λ (x : Contents). depth_of x t) (tight_frame m q.0 q.1 old q.2 q.3 t count next c.requires.sound.areas c.requires.thread q.4.deep q.4) in
    let carried = told q.0 q.2 q.3 true (tight_ready m q.0 q.1 old q.2 q.3 t count next c.requires.sound.areas c.requires.thread q.4.deep q.4) in
    let w = lands m q.0 q.1 old q.2 q.3 t count next c.requires.sound.areas c.requires.thread q.4.deep q.4 c.depth-innermost.result (c.depth-innermost.ensures.depth ∙ from) moved carried k lt in
    subst (λ (x : List ℕ). HasHeader moved.heap (move_at x k).new × ((move_at x k).new + size_at moved.heap (move_at x k).new ≤ heap_length m)) (sym (ap (λ (x : Contents). x.scratch) carried.frame)) (w.0, w.2)) in
    (header-told moved.heap (move_at moved.scratch k).new (∥∥₁_map all (λ w. w.0)), ∥∥₁_elim all (hlevel props) (λ w. w.1))

-- the settled words, from a state whose end is ready
settled_ok : (g : given.Over) (c : After-settle_region g) (before mid : Contents) (s : SpaceState) (stands : Stands c.args.map before s) → TightReady c.args.map before mid (contents c.args.map (g.W.Words.words c.args.words.now)) s stands c.args.thread c.args.packing.plan.count c.args.packing.cursor.next
    → (let m = c.args.map in let settled = contents m (g.W.Words.words c.settle_region.new.words) in SetsHold m settled × Filable m settled (Region c.args.thread c.depth-innermost.result) c.args.packing.plan.count)
settled_ok g c before mid s stands r =
    let m = c.args.map in
    let t = c.args.thread in
    let ws = g.W.Words.words c.args.words.now in
    let count = c.args.packing.plan.count in
    let next = c.args.packing.cursor.next in
    let depth = c.depth-innermost.result in
    let old = contents m ws in
    let start = contents m (g.W.Words.words c.depth-innermost.new.words) in
    let moved = contents m (g.W.Words.words c.carry_out.new.words) in
    let settled = contents m (g.W.Words.words c.settle_region.new.words) in
    let areas = c.requires.sound.areas in
    let has = c.requires.thread in
    let low : 1 ≤ depth_of before t = r.deep in
    let same : start ≡ old = ap (contents m) c.depth-innermost.ensures.words in
    let carried = carry m old start moved t count same c.carry_out.ensures.carried before s stands true (tight_ready m before mid old s stands t count next areas has low r) in
    let frame = tight_frame m before mid old s stands t count next areas has low r in
    let is : depth ≡ depth_of before t = c.depth-innermost.ensures.depth ∙ ap (λ (x : Contents). depth_of x t) frame in
    let slid : region_word s t ≡ space_index (Region t depth) + 1 = ap (λ (y : Space). space_index y + 1) (region_is m before s stands t depth has is (omega (arith, is, low))) in
    let after = settled_table m before mid old s stands t count next areas has low r depth is moved carried settled.table (c.settle_region.ensures.settled (region_word s t) slid) in
    let freed = subst (λ (ts : List (List ℕ)). (p : ℕ) → p < m.pages → IsPageOf (region_word s t) ts p → next ≤ p → space_word settled.table p ≡ 0) (moved_is m before mid old s stands t count next areas has low r depth is moved carried) (λ p. c.settle_region.ensures.freed (region_word s t) p slid) in
    let first = shape_before m before old frame (shape m ws c.requires.sound) in
    let long = (shape m (g.W.Words.words c.settle_region.new.words) c.settle_region.ensures.sound).table in (
      settled_sets m before mid old s stands t count next areas has low r depth is moved carried settled first after freed long c.settle_region.ensures.frame,
      settled_filable m before mid old s stands t count next areas has low r depth is moved carried settled first after freed long c.settle_region.ensures.frame,
    )

pub refile_slots-requires-clause-sets : goal.refile_slots-requires-clause-sets
refile_slots-requires-clause-sets g c = let at = (goal.at.refile_slots-requires-clause-sets g c).After-settle_region in ∥∥₁_elim c.requires.ready (hlevel (props, linked-prop)) (λ q. (settled_ok g at q.0 q.1 q.2 q.3 q.4).0)

pub refile_slots-requires-clause-region : goal.refile_slots-requires-clause-region
refile_slots-requires-clause-region g c = (c.requires.thread.0, c.requires.thread.1, omega (arith, c.depth-innermost.ensures.depth, c.requires.depth), c.depth-innermost.ensures.at_most)

pub refile_slots-requires-clause-slots : goal.refile_slots-requires-clause-slots
refile_slots-requires-clause-slots g c = let at = (goal.at.refile_slots-requires-clause-slots g c).After-settle_region in ∥∥₁_elim c.requires.ready (hlevel props) (λ q. (settled_ok g at q.0 q.1 q.2 q.3 q.4).1.slots)

pub refile_slots-requires-clause-left : goal.refile_slots-requires-clause-left
refile_slots-requires-clause-left g c = let at = (goal.at.refile_slots-requires-clause-left g c).After-settle_region in ∥∥₁_elim c.requires.ready (hlevel props) (λ q. (settled_ok g at q.0 q.1 q.2 q.3 q.4).1.left)

pub refile_slots-requires-clause-pages : goal.refile_slots-requires-clause-pages
refile_slots-requires-clause-pages g c = let at = (goal.at.refile_slots-requires-clause-pages g c).After-settle_region in ∥∥₁_elim c.requires.ready (hlevel props) (λ q. (settled_ok g at q.0 q.1 q.2 q.3 q.4).1.pages)

pub record_moved-requires-clause-room : goal.record_moved-requires-clause-room
record_moved-requires-clause-room g c =
    let m = c.args.map in
    let old = contents m (g.W.Words.words c.args.words.now) in
    ∥∥₁_elim c.requires.ready (hlevel props) (λ q. (tight_ready m q.0 q.1 old q.2 q.3 c.args.thread c.args.packing.plan.count c.args.packing.cursor.next c.requires.sound.areas c.requires.thread q.4.deep q.4).ready.numbered.room)

pub record_moved-requires-clause-moved : goal.record_moved-requires-clause-moved
record_moved-requires-clause-moved g c k lt =
    let m = c.args.map in
    let refiled = contents m (g.W.Words.words c.refile_slots.new.words) in
    let at = (goal.at.record_moved-requires-clause-moved g c).After-settle_region in
    let all : ∥ MovedFits m refiled k ∥₁ = ∥∥₁_map c.requires.ready (λ q. subst (λ (x : Contents). MovedFits m x k) (sym c.refile_slots.ensures.others) ((settled_ok g at q.0 q.1 q.2 q.3 q.4).1.moved k lt)) in
    (header-told refiled.heap (move_at refiled.scratch k).new (∥∥₁_map all (λ w. w.0)), ∥∥₁_elim all (hlevel props) (λ w. w.1), ∥∥₁_elim all (hlevel props) (λ w. w.2))

pub record_moved-requires-clause-pages : goal.record_moved-requires-clause-pages
record_moved-requires-clause-pages g c = let at = (goal.at.record_moved-requires-clause-pages g c).After-settle_region in subst (PagesKnown c.args.map) (sym c.refile_slots.ensures.others) (∥∥₁_elim c.requires.ready (hlevel props) (λ q. (settled_ok g at q.0 q.1 q.2 q.3 q.4).1.pages))

pub close_region-requires-clause-depth : goal.close_region-requires-clause-depth
close_region-requires-clause-depth g c =
    let m = c.args.map in
    let t = c.args.thread in
    let count = c.args.packing.plan.count in
    let next = c.args.packing.cursor.next in
    let old = contents m (g.W.Words.words c.args.words.now) in
    let start = contents m (g.W.Words.words c.depth-innermost.new.words) in
    let moved = contents m (g.W.Words.words c.carry_out.new.words) in
    let same : start ≡ old = ap (contents m) c.depth-innermost.ensures.words in
    let told = carry m old start moved t count same c.carry_out.ensures.carried in
    ∥∥₁_elim c.requires.ready (hlevel props) (λ q.
    let carried = told q.0 q.2 q.3 true (tight_ready m q.0 q.1 old q.2 q.3 t count next c.requires.sound.areas c.requires.thread q.4.deep q.4) in
    let steps = ap (λ (x : Contents). depth_of x t) c.record_moved.ensures.others ∙ ap (λ (x : Contents). depth_of x t) c.refile_slots.ensures.others ∙ ap (λ (x : Contents). depth_of x t) c.settle_region.ensures.frame ∙ ap (λ (x : Contents). depth_of x t) carried.frame in
    omega (arith, c.requires.depth, steps))

pub returns-clause-ended : goal.returns-clause-ended
returns-clause-ended g c before mid s stands r =
    let m = c.args.map in
    let t = c.args.thread in
    let ws = g.W.Words.words c.args.words.now in
    let count = c.args.packing.plan.count in
    let next = c.args.packing.cursor.next in
    let depth = c.depth-innermost.result in
    let old = contents m ws in
    let start = contents m (g.W.Words.words c.depth-innermost.new.words) in
    let moved = contents m (g.W.Words.words c.carry_out.new.words) in
    let settled = contents m (g.W.Words.words c.settle_region.new.words) in
    let refiled = contents m (g.W.Words.words c.refile_slots.new.words) in
    let filed = contents m (g.W.Words.words c.record_moved.new.words) in
    let d = contents m (g.W.Words.words c.close_region.new.words) in
    let areas = c.requires.sound.areas in
    let has = c.requires.thread in
    let low : 1 ≤ depth_of before t = r.deep in
    let same : start ≡ old = ap (contents m) c.depth-innermost.ensures.words in
    let told = carry m old start moved t count same c.carry_out.ensures.carried in
    let carried = told before s stands true (tight_ready m before mid old s stands t count next areas has low r) in
    let frame = tight_frame m before mid old s stands t count next areas has low r in
    let is : depth ≡ depth_of before t = c.depth-innermost.ensures.depth ∙ ap (λ (x : Contents). depth_of x t) frame in
    let slid : region_word s t ≡ space_index (Region t depth) + 1 = ap (λ (y : Space). space_index y + 1) (region_is m before s stands t depth has is (omega (arith, is, low))) in
    let after = settled_table m before mid old s stands t count next areas has low r depth is moved carried settled.table (c.settle_region.ensures.settled (region_word s t) slid) in
    let freed = subst (λ (ts : List (List ℕ)). (p : ℕ) → p < m.pages → IsPageOf (region_word s t) ts p → next ≤ p → space_word settled.table p ≡ 0) (moved_is m before mid old s stands t count next areas has low r depth is moved carried) (λ p. c.settle_region.ensures.freed (region_word s t) p slid) in
    tight_ended m before mid old s stands t count next areas has low r depth is moved carried settled (shape_before m before old frame (shape m ws c.requires.sound)) after freed (shape m (g.W.Words.words c.settle_region.new.words) c.settle_region.ensures.sound).table c.settle_region.ensures.frame refiled filed d c.settle_region.ensures.pool c.refile_slots.ensures.filed c.refile_slots.ensures.others c.record_moved.ensures.filed c.record_moved.ensures.sets c.record_moved.ensures.others c.close_region.ensures.closed c.close_region.ensures.sound.limits
