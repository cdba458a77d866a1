use Rattle.std.proofs.Props.{props}
use Rattle.std.proofs.Math.Logic.{∥∥₁_elim, ∥∥₁_map}
use Rattle.std.proofs.Common.{length, ◌≡◌, Bool, false, ℕ, ◌+◌, ◌≤◌, List, sym, ap, subst, ◌∙◌, arith}
use Rattle.heap_words.specs.declared.map.Areas.{Areas}
use Rattle.heap_words.specs.Contents.{Contents, contents, depth_of, stack_of}
use Rattle.epoch_lattice.specs.declared.Space.{Space}
use Rattle.epoch_lattice.specs.declared.Space.TheVariants.{Region}
use Rattle.epoch_lattice.specs.Lattice.{space_index}
use Rattle.region_pages.specs.Ends.{used_end}
use Rattle.region_pages.specs.Freeing.{freed_table}
use Rattle.region_pages.proofs.Shapes.{shape}
use Rattle.yak_model.specs.Spaces.{SpaceState, innermost}
use Rattle.yak_model.specs.Stands.{PoolStands, Stands, pages_of}
use Rattle.yak_model.proofs.Chains.{linked-prop}
use Rattle.relocation.specs.Moves.{move_at, words_moved}
use Rattle.relocation.proofs.RunsTold.{header-told}
use Rattle.remember_sets.specs.Filed.{PagesKnown, SetsHold, chain}
use Rattle.forwarding.specs.Entering.{words_brought}
use Rattle.escape_closure.specs.Ends.{region_word}
use Rattle.escape_closure.specs.Leaving.{Carried, ReadyToMove, RegionReady}
use Rattle.escape_closure.proofs.Costs.{few_words, words_later}
use Rattle.escape_closure.proofs.Filable.{Filable, MovedFits}
use Rattle.escape_closure.proofs.Readies.{plan_frame, region_ready}
use Rattle.escape_closure.proofs.RegionLeaves.{freed_few, freed_filable, freed_sets, region_ended}
use Rattle.escape_closure.proofs.Releases.{end_after}
use Rattle.escape_closure.proofs.Told.{pool_stands}
use Rattle.escape_closure.proofs.Written.{region_is}
use Rattle.escape_closure.proofs.regional.finish_region.Given as given
use Rattle.escape_closure.proofs.regional.finish_region.Goals as goal
use Rattle.escape_closure.proofs.regional.finish_region.Goals.{After-release_pages}

-- what carrying out leaves, over the words at the start
abbrev carry : (m : Areas) (old start now : Contents) (t count : ℕ) → start ≡ old → ((before : Contents) (s : SpaceState) (stands : Stands m before s) (tight : Bool) → ReadyToMove m before start s stands t count tight → Carried m start now s stands.places t count) → (before : Contents) (s : SpaceState) (stands : Stands m before s) (tight : Bool) → ReadyToMove m before old s stands t count tight → Carried m old now s stands.places t count
carry m old start now t count same told = subst (λ (x : Contents). (before : Contents) (s : SpaceState) (stands : Stands m before s) (tight : Bool) → ReadyToMove m before x s stands t count tight → Carried m x now s stands.places t count) same told

pub carry_out-requires-clause-ready : goal.carry_out-requires-clause-ready
carry_out-requires-clause-ready g c =
    let m = c.args.map in
    let old = contents m (g.W.Words.words c.args.words.now) in
    rw c.depth-innermost.ensures.words (∥∥₁_map c.requires.ready (λ q. (q.0, q.2, q.3, false, region_ready m q.0 q.1 old q.2 q.3 c.args.thread c.args.plan.count c.requires.sound.areas c.requires.thread q.4)))

pub carry_out-requires-clause-none_from : goal.carry_out-requires-clause-none_from
carry_out-requires-clause-none_from g c = rw c.depth-innermost.ensures.words c.requires.none_from

pub release_pages-requires-clause-stands : goal.release_pages-requires-clause-stands
release_pages-requires-clause-stands g c =
    let m = c.args.map in
    let t = c.args.thread in
    let count = c.args.plan.count in
    let old = contents m (g.W.Words.words c.args.words.now) in
    let moved = contents m (g.W.Words.words c.carry_out.new.words) in
    let same : contents m (g.W.Words.words c.depth-innermost.new.words) ≡ old = ap (contents m) c.depth-innermost.ensures.words in
    let told = carry m old (contents m (g.W.Words.words c.depth-innermost.new.words)) moved t count same c.carry_out.ensures.carried in
    pool_stands m moved.heads moved.pool moved.table (∥∥₁_map c.requires.ready (λ q.
    let carried = told q.0 q.2 q.3 false (region_ready m q.0 q.1 old q.2 q.3 t count c.requires.sound.areas c.requires.thread q.4) in
    subst (λ (x : Contents). PoolStands m x.heads x.pool x.table) (sym carried.frame) q.4.planned.pool))

-- the freed words, from a state whose end is ready
freed_ok : (g : given.Over) (c : After-release_pages g) (before mid : Contents) (s : SpaceState) (stands : Stands c.args.map before s) → RegionReady c.args.map before mid (contents c.args.map (g.W.Words.words c.args.words.now)) s stands c.args.thread c.args.plan.count
    → (let m = c.args.map in let freed = contents m (g.W.Words.words c.release_pages.new.words) in let x = Region c.args.thread c.depth-innermost.result in SetsHold m freed × Filable m freed x c.args.plan.count × (length (chain m freed x) ≤ length (chain m (contents m (g.W.Words.words c.args.words.now)) (innermost s.graph c.args.thread))))
freed_ok g c before mid s stands r =
    let m = c.args.map in
    let t = c.args.thread in
    let ws = g.W.Words.words c.args.words.now in
    let count = c.args.plan.count in
    let areas = c.requires.sound.areas in
    let has = c.requires.thread in
    let old = contents m ws in
    let moved = contents m (g.W.Words.words c.carry_out.new.words) in
    let freed = contents m (g.W.Words.words c.release_pages.new.words) in
    let same : contents m (g.W.Words.words c.depth-innermost.new.words) ≡ old = ap (contents m) c.depth-innermost.ensures.words in
    let told = carry m old (contents m (g.W.Words.words c.depth-innermost.new.words)) moved t count same c.carry_out.ensures.carried in
    let carried = told before s stands false (region_ready m before mid old s stands t count areas has r) in
    let from : depth_of old t ≡ depth_of before t = ap (λ (x : Contents). depth_of x t) (plan_frame m before mid old s stands t count areas has r) in
    let low : 1 ≤ depth_of before t = omega (arith, c.requires.depth, from) in
    let is : c.depth-innermost.result ≡ depth_of before t = c.depth-innermost.ensures.depth ∙ from in
    let e = c.release_pages.ensures.released in (
      freed_sets m before mid old s stands t count areas has low r (shape m ws c.requires.sound) c.depth-innermost.result is moved carried freed e,
      freed_filable m before mid old s stands t count areas has low r (shape m ws c.requires.sound) c.depth-innermost.result is moved carried freed e,
      freed_few m before mid old s stands t count areas has low r (shape m ws c.requires.sound) c.depth-innermost.result is moved carried freed e,
    )

pub refile_slots-requires-clause-sets : goal.refile_slots-requires-clause-sets
refile_slots-requires-clause-sets g c = let at = (goal.at.refile_slots-requires-clause-sets g c).After-release_pages in ∥∥₁_elim c.requires.ready (hlevel (props, linked-prop)) (λ q. (freed_ok g at q.0 q.1 q.2 q.3 q.4).0)

pub refile_slots-requires-clause-slots : goal.refile_slots-requires-clause-slots
refile_slots-requires-clause-slots g c = let at = (goal.at.refile_slots-requires-clause-slots g c).After-release_pages in ∥∥₁_elim c.requires.ready (hlevel props) (λ q. (freed_ok g at q.0 q.1 q.2 q.3 q.4).1.slots)

pub refile_slots-requires-clause-left : goal.refile_slots-requires-clause-left
refile_slots-requires-clause-left g c = let at = (goal.at.refile_slots-requires-clause-left g c).After-release_pages in ∥∥₁_elim c.requires.ready (hlevel props) (λ q. (freed_ok g at q.0 q.1 q.2 q.3 q.4).1.left)

pub refile_slots-requires-clause-pages : goal.refile_slots-requires-clause-pages
refile_slots-requires-clause-pages g c = let at = (goal.at.refile_slots-requires-clause-pages g c).After-release_pages in ∥∥₁_elim c.requires.ready (hlevel props) (λ q. (freed_ok g at q.0 q.1 q.2 q.3 q.4).1.pages)

pub record_moved-requires-clause-room : goal.record_moved-requires-clause-room
record_moved-requires-clause-room g c = ∥∥₁_elim c.requires.ready (hlevel props) (λ q. q.4.planned.numbered.room)

pub record_moved-requires-clause-moved : goal.record_moved-requires-clause-moved
record_moved-requires-clause-moved g c k lt =
    let m = c.args.map in
    let refiled = contents m (g.W.Words.words c.refile_slots.new.words) in
    let at = (goal.at.record_moved-requires-clause-moved g c).After-release_pages in
    let all : ∥ MovedFits m refiled k ∥₁ = ∥∥₁_map c.requires.ready (λ q. subst (λ (x : Contents). MovedFits m x k) (sym c.refile_slots.ensures.others) ((freed_ok g at q.0 q.1 q.2 q.3 q.4).1.moved k lt)) in
    (header-told refiled.heap (move_at refiled.scratch k).new (∥∥₁_map all (λ w. w.0)), ∥∥₁_elim all (hlevel props) (λ w. w.1), ∥∥₁_elim all (hlevel props) (λ w. w.2))

pub record_moved-requires-clause-pages : goal.record_moved-requires-clause-pages
record_moved-requires-clause-pages g c = let at = (goal.at.record_moved-requires-clause-pages g c).After-release_pages in subst (PagesKnown c.args.map) (sym c.refile_slots.ensures.others) (∥∥₁_elim c.requires.ready (hlevel props) (λ q. (freed_ok g at q.0 q.1 q.2 q.3 q.4).1.pages))

pub close_region-requires-clause-depth : goal.close_region-requires-clause-depth
close_region-requires-clause-depth g c =
    let m = c.args.map in
    let t = c.args.thread in
    let count = c.args.plan.count in
    let old = contents m (g.W.Words.words c.args.words.now) in
    let moved = contents m (g.W.Words.words c.carry_out.new.words) in
    let same : contents m (g.W.Words.words c.depth-innermost.new.words) ≡ old = ap (contents m) c.depth-innermost.ensures.words in
    let told = carry m old (contents m (g.W.Words.words c.depth-innermost.new.words)) moved t count same c.carry_out.ensures.carried in
    ∥∥₁_elim c.requires.ready (hlevel props) (λ q.
    let carried = told q.0 q.2 q.3 false (region_ready m q.0 q.1 old q.2 q.3 t count c.requires.sound.areas c.requires.thread q.4) in
    let steps = ap (λ (x : Contents). depth_of x t) c.record_moved.ensures.others ∙ ap (λ (x : Contents). depth_of x t) c.refile_slots.ensures.others ∙ ap (λ (x : Contents). depth_of x t) c.release_pages.ensures.released ∙ ap (λ (x : Contents). depth_of x t) carried.frame in
    omega (arith, c.requires.depth, steps))

pub returns-clause-ended : goal.returns-clause-ended
returns-clause-ended g c before mid s stands r =
    let m = c.args.map in
    let t = c.args.thread in
    let ws = g.W.Words.words c.args.words.now in
    let count = c.args.plan.count in
    let old = contents m ws in
    let moved = contents m (g.W.Words.words c.carry_out.new.words) in
    let freed = contents m (g.W.Words.words c.release_pages.new.words) in
    let refiled = contents m (g.W.Words.words c.refile_slots.new.words) in
    let filed = contents m (g.W.Words.words c.record_moved.new.words) in
    let d = contents m (g.W.Words.words c.close_region.new.words) in
    let same : contents m (g.W.Words.words c.depth-innermost.new.words) ≡ old = ap (contents m) c.depth-innermost.ensures.words in
    let told = carry m old (contents m (g.W.Words.words c.depth-innermost.new.words)) moved t count same c.carry_out.ensures.carried in
    let carried = told before s stands false (region_ready m before mid old s stands t count c.requires.sound.areas c.requires.thread r) in
    let from : depth_of old t ≡ depth_of before t = ap (λ (x : Contents). depth_of x t) (plan_frame m before mid old s stands t count c.requires.sound.areas c.requires.thread r) in
    let low : 1 ≤ depth_of before t = omega (arith, c.requires.depth, from) in
    let is : c.depth-innermost.result ≡ depth_of before t = c.depth-innermost.ensures.depth ∙ from in
    let e = c.release_pages.ensures in
    region_ended m before mid old s stands t count c.requires.sound.areas c.requires.thread low r (shape m ws c.requires.sound) c.depth-innermost.result is moved carried freed e.released refiled filed d e.pool e.currents e.free c.refile_slots.ensures.filed c.refile_slots.ensures.others c.record_moved.ensures.filed c.record_moved.ensures.sets c.record_moved.ensures.others c.close_region.ensures.closed c.close_region.ensures.sound.limits

pub returns-clause-reads : goal.returns-clause-reads
returns-clause-reads g c before mid s stands r =
    let m = c.args.map in
    let t = c.args.thread in
    let count = c.args.plan.count in
    let areas = c.requires.sound.areas in
    let has = c.requires.thread in
    let old = contents m (g.W.Words.words c.args.words.now) in
    let start = contents m (g.W.Words.words c.depth-innermost.new.words) in
    let moved = contents m (g.W.Words.words c.carry_out.new.words) in
    let same : start ≡ old = ap (contents m) c.depth-innermost.ensures.words in
    let ready = region_ready m before mid old s stands t count areas has r in
    let carried = carry m old start moved t count same c.carry_out.ensures.carried before s stands false ready in
    let from : depth_of old t ≡ depth_of before t = ap (λ (x : Contents). depth_of x t) (plan_frame m before mid old s stands t count areas has r) in
    let low : 1 ≤ depth_of before t = omega (arith, c.requires.depth, from) in
    let first = c.carry_out.ensures.reads before s stands false (subst (λ (x : Contents). ReadyToMove m before x s stands t count false) (sym same) ready) in
    let stack = ap (λ (x : Contents). length (stack_of x t)) same in
    let slots = ap (λ (x : Contents). length (chain m x (innermost s.graph t))) same in
    let pages = ap (λ (x : Contents). pages_of x.table (innermost s.graph t)) same in
    let refiled = contents m (g.W.Words.words c.refile_slots.new.words) in
    let scratch : refiled.scratch ≡ old.scratch = ap (λ (x : Contents). x.scratch) c.refile_slots.ensures.others ∙ ap (λ (x : Contents). x.scratch) c.release_pages.ensures.released ∙ ap (λ (x : Contents). x.scratch) carried.frame in
    let heap : refiled.heap ≡ moved.heap = ap (λ (x : Contents). x.heap) c.refile_slots.ensures.others ∙ ap (λ (x : Contents). x.heap) c.release_pages.ensures.released in
    let brought : words_brought refiled.heap count (move_at refiled.scratch) ≡ words_moved old.heap count (move_at old.scratch) = ap (λ (h : List ℕ). words_brought h count (move_at refiled.scratch)) heap ∙ ap (λ (x : List ℕ). words_brought moved.heap count (move_at x)) scratch ∙ words_later m before old s stands t count false areas has low ready moved carried in
    let few = few_words m before old s stands t count false areas has low ready in
    let d = contents m (g.W.Words.words c.close_region.new.words) in
    let depth = c.depth-innermost.result in
    let region : innermost s.graph t ≡ Region t depth = region_is m before s stands t depth has (c.depth-innermost.ensures.depth ∙ from) (omega (arith, c.depth-innermost.ensures.depth, c.requires.depth)) in
    let stays : moved.table ≡ old.table = ap (λ (x : Contents). x.table) carried.frame in
    let table : d.table ≡ freed_table (region_word s t) old.table =
    ap (λ (x : Contents). x.table) c.close_region.ensures.closed ∙ ap (λ (x : Contents). x.table) c.record_moved.ensures.others ∙ ap (λ (x : Contents). x.table) c.refile_slots.ensures.others ∙ ap (λ (x : Contents). x.table) c.release_pages.ensures.released
    ∙ ap (freed_table (space_index (Region t depth) + 1)) stays ∙ ap (λ (x : Space). freed_table (space_index x + 1) old.table) (sym region) in
    let stop : used_end moved.table m.pages ≡ used_end old.table m.pages = ap (λ (ts : List (List ℕ)). used_end ts m.pages) stays in
    let end = end_after m before mid old s stands t count areas has low r (shape m (g.W.Words.words c.args.words.now) c.requires.sound).table d.table table in
    let kept = (freed_ok g (goal.at.returns-clause-reads g c).After-release_pages before mid s stands r).2 in
    omega (arith, first, stop, end, stack, slots, pages, kept, brought, few.0, c.depth-innermost.ensures.reads, c.release_pages.ensures.reads, c.refile_slots.ensures.reads, c.record_moved.ensures.reads, c.close_region.ensures.reads)
