use Rattle.std.proofs.Props.{props}
use Rattle.std.proofs.Math.Logic.{∥∥₁_elim, ∥∥₁_map}
use Rattle.std.specs.Prelude.{max}
use Rattle.std.proofs.Math.Nat.{le-max_left}
use Rattle.std.proofs.Common.{◌≡◌, ℕ, ◌+◌, ◌≤◌, List, length, sym, ap, subst, ◌∙◌, arith}
use Rattle.heap_words.specs.declared.map.Areas.{Areas}
use Rattle.epoch_lattice.specs.declared.Space.{Space}
use Rattle.epoch_lattice.specs.declared.Space.TheVariants.{Region}
use Rattle.epoch_lattice.specs.Lattice.{space_index}
use Rattle.yak_model.specs.Spaces.{SpaceState, innermost}
use Rattle.yak_model.specs.Placed.{space_word}
use Rattle.yak_model.specs.Stands.{Stands}
use Rattle.yak_model.specs.Recorded.{Recorded}
use Rattle.region_pages.specs.Ends.{used_end}
use Rattle.region_pages.proofs.Ends.{end_free}
use Rattle.heap_words.specs.Contents.{Contents, contents, depth_of}
use Rattle.region_pages.proofs.Shapes.{shape}
use Rattle.escape_closure.specs.Ends.{RegionEnded}
use Rattle.escape_closure.specs.Leaving.{Begun}
use Rattle.escape_closure.proofs.Outcomes.{region_costs, region_from, region_readied, region_short}
use Rattle.escape_closure.proofs.Releases.{other_word}
use Rattle.escape_closure.proofs.Told.{pool_told}
use Rattle.escape_closure.proofs.Written.{innermost_region, region_is}
use Rattle.escape_closure.proofs.regional.end_region.Goals as goal

-- what the start of an end leaves, in words of which no more than the reads changed
abbrev begun_later : (m : Areas) (old : Contents) (t escaping : ℕ) (ws now : List ℕ) → now ≡ ws → ((s : SpaceState) (h : Stands m old s) → Recorded m old s h → Begun m old (contents m ws) s h t escaping) → (s : SpaceState) (h : Stands m old s) → Recorded m old s h → Begun m old (contents m now) s h t escaping
begun_later m old t escaping ws now same told = subst (λ (x : List ℕ). (s : SpaceState) (h : Stands m old s) → Recorded m old s h → Begun m old (contents m x) s h t escaping) (sym same) told

pub pages_end-end-requires-clause-pool : goal.pages_end-end-requires-clause-pool
pages_end-end-requires-clause-pool g c =
    let m = c.args.map in
    let mid = contents m (g.W.Words.words c.begin_end-escaping.new.words) in
    pool_told m mid (∥∥₁_map c.requires.recorded (λ q. let b = c.begin_end-escaping.ensures.begun q.0 q.1 q.2 in (q.0, b.filing, b.later, b.written.frame)))

pub plan_escaping-requires-clause-none_from : goal.plan_escaping-requires-clause-none_from
plan_escaping-requires-clause-none_from g c p from lt e =
    let m = c.args.map in
    let mid = contents m (g.W.Words.words c.begin_end-escaping.new.words) in
    let free : space_word (contents m (g.W.Words.words c.pages_end-end.new.words)).table p ≡ 0 = ap (λ (ws : List ℕ). space_word (contents m ws).table p) c.pages_end-end.ensures.words ∙ end_free mid.table m.pages p (omega (arith, from, c.pages_end-end.ensures.end)) lt in
    omega (arith, e, free)

pub finish_region-requires-clause-none_from : goal.finish_region-requires-clause-none_from
finish_region-requires-clause-none_from g c p from lt e =
    let m = c.args.map in
    let t = c.args.thread in
    let has = c.requires.thread in
    let areas = c.requires.sound.areas in
    let old = contents m (g.W.Words.words c.args.words.now) in
    let mid = contents m (g.W.Words.words c.pages_end-end.new.words) in
    let planned = contents m (g.W.Words.words c.plan_escaping.new.words) in
    let begun = begun_later m old t c.begin_end-escaping.result (g.W.Words.words c.begin_end-escaping.new.words) (g.W.Words.words c.pages_end-end.new.words) c.pages_end-end.ensures.words c.begin_end-escaping.ensures.begun in
    let free : space_word mid.table p ≡ 0 = ap (λ (ws : List ℕ). space_word (contents m ws).table p) c.pages_end-end.ensures.words ∙ end_free (contents m (g.W.Words.words c.begin_end-escaping.new.words)).table m.pages p (omega (arith, from, c.pages_end-end.ensures.end)) lt in
    ∥∥₁_elim c.requires.recorded (hlevel props) (λ q.
    let b = begun q.0 q.1 q.2 in
    let w = c.in-Ok.ensures.planned q.0 b.filing b.later b.written in
    let ready = region_readied m old q.0 q.1 t c.begin_end-escaping.result mid b planned c.in-Ok.plan.count w.0 w.1 in
    let filing : depth_of b.filing t ≡ depth_of old t = ap (λ (x : Contents). depth_of x t) b.frame in
    let depth : depth_of planned t ≡ depth_of b.filing t = ap (λ (x : Contents). depth_of x t) w.1.frame ∙ ap (λ (x : Contents). depth_of x t) b.written.frame in
    let low : 1 ≤ depth_of b.filing t = omega (arith, filing, c.requires.depth) in
    let region : innermost q.0.graph t ≡ Region t (depth_of planned t) = region_is m b.filing q.0 b.later t (depth_of planned t) has depth (omega (arith, depth, low)) in
    let long = (shape m (g.W.Words.words c.plan_escaping.new.words) c.plan_escaping.ensures.sound).table in
    other_word m b.filing mid planned q.0 b.later t c.in-Ok.plan.count areas has low ready long p lt (λ own. omega (arith, own, free)) (e ∙ ap (λ (x : Space). space_index x + 1) (sym region)))

pub plan_escaping-requires-clause-depth : goal.plan_escaping-requires-clause-depth
plan_escaping-requires-clause-depth g c =
    let begun = begun_later c.args.map (contents c.args.map (g.W.Words.words c.args.words.now)) c.args.thread c.begin_end-escaping.result (g.W.Words.words c.begin_end-escaping.new.words) (g.W.Words.words c.pages_end-end.new.words) c.pages_end-end.ensures.words c.begin_end-escaping.ensures.begun in
    let m = c.args.map in
    ∥∥₁_elim c.requires.recorded (hlevel props) (λ q.
    let b = begun q.0 q.1 q.2 in
    let steps = ap (λ (x : Contents). depth_of x c.args.thread) b.written.frame ∙ ap (λ (x : Contents). depth_of x c.args.thread) b.frame in
    omega (arith, c.requires.depth, steps))

pub plan_escaping-requires-clause-aimed : goal.plan_escaping-requires-clause-aimed
plan_escaping-requires-clause-aimed g c =
    let begun = begun_later c.args.map (contents c.args.map (g.W.Words.words c.args.words.now)) c.args.thread c.begin_end-escaping.result (g.W.Words.words c.begin_end-escaping.new.words) (g.W.Words.words c.pages_end-end.new.words) c.pages_end-end.ensures.words c.begin_end-escaping.ensures.begun in
    ∥∥₁_map c.requires.recorded (λ q. let b = begun q.0 q.1 q.2 in (q.0, b.filing, b.later, b.written))

pub clear_targets-requires-clause-depth : goal.clear_targets-requires-clause-depth
clear_targets-requires-clause-depth g c =
    let begun = begun_later c.args.map (contents c.args.map (g.W.Words.words c.args.words.now)) c.args.thread c.begin_end-escaping.result (g.W.Words.words c.begin_end-escaping.new.words) (g.W.Words.words c.pages_end-end.new.words) c.pages_end-end.ensures.words c.begin_end-escaping.ensures.begun in
    ∥∥₁_elim c.requires.recorded (hlevel props) (λ q.
    let b = begun q.0 q.1 q.2 in
    let w = c.in-Err.ensures.planned q.0 b.filing b.later b.written in
    let steps = ap (λ (x : Contents). depth_of x c.args.thread) w.1 ∙ ap (λ (x : Contents). depth_of x c.args.thread) b.written.frame ∙ ap (λ (x : Contents). depth_of x c.args.thread) b.frame in
    omega (arith, c.requires.depth, steps))

pub clear_targets-requires-clause-aimed : goal.clear_targets-requires-clause-aimed
clear_targets-requires-clause-aimed g c =
    let begun = begun_later c.args.map (contents c.args.map (g.W.Words.words c.args.words.now)) c.args.thread c.begin_end-escaping.result (g.W.Words.words c.begin_end-escaping.new.words) (g.W.Words.words c.pages_end-end.new.words) c.pages_end-end.ensures.words c.begin_end-escaping.ensures.begun in
    let m = c.args.map in
    let mid = contents m (g.W.Words.words c.pages_end-end.new.words) in
    ∥∥₁_map c.requires.recorded (λ q.
    let b = begun q.0 q.1 q.2 in
    let w = c.in-Err.ensures.planned q.0 b.filing b.later b.written in
    (q.0, b.filing, b.later, c.begin_end-escaping.result, mid, b.written, w.1))

pub finish_region-requires-clause-depth : goal.finish_region-requires-clause-depth
finish_region-requires-clause-depth g c =
    let begun = begun_later c.args.map (contents c.args.map (g.W.Words.words c.args.words.now)) c.args.thread c.begin_end-escaping.result (g.W.Words.words c.begin_end-escaping.new.words) (g.W.Words.words c.pages_end-end.new.words) c.pages_end-end.ensures.words c.begin_end-escaping.ensures.begun in
    ∥∥₁_elim c.requires.recorded (hlevel props) (λ q.
    let b = begun q.0 q.1 q.2 in
    let w = c.in-Ok.ensures.planned q.0 b.filing b.later b.written in
    let steps = ap (λ (x : Contents). depth_of x c.args.thread) w.1.frame ∙ ap (λ (x : Contents). depth_of x c.args.thread) b.written.frame ∙ ap (λ (x : Contents). depth_of x c.args.thread) b.frame in
    omega (arith, c.requires.depth, steps))

pub finish_region-requires-clause-ready : goal.finish_region-requires-clause-ready
finish_region-requires-clause-ready g c =
    let begun = begun_later c.args.map (contents c.args.map (g.W.Words.words c.args.words.now)) c.args.thread c.begin_end-escaping.result (g.W.Words.words c.begin_end-escaping.new.words) (g.W.Words.words c.pages_end-end.new.words) c.pages_end-end.ensures.words c.begin_end-escaping.ensures.begun in
    let m = c.args.map in
    let old = contents m (g.W.Words.words c.args.words.now) in
    let mid = contents m (g.W.Words.words c.pages_end-end.new.words) in
    let planned = contents m (g.W.Words.words c.plan_escaping.new.words) in
    ∥∥₁_map c.requires.recorded (λ q.
    let b = begun q.0 q.1 q.2 in
    let w = c.in-Ok.ensures.planned q.0 b.filing b.later b.written in
    (b.filing, mid, q.0, b.later, region_readied m old q.0 q.1 c.args.thread c.begin_end-escaping.result mid b planned c.in-Ok.plan.count w.0 w.1))

pub returns-in-Err-clause-ended : goal.returns-in-Err-clause-ended
returns-in-Err-clause-ended g c s h recorded =
    let begun = begun_later c.args.map (contents c.args.map (g.W.Words.words c.args.words.now)) c.args.thread c.begin_end-escaping.result (g.W.Words.words c.begin_end-escaping.new.words) (g.W.Words.words c.pages_end-end.new.words) c.pages_end-end.ensures.words c.begin_end-escaping.ensures.begun in
    let m = c.args.map in
    let old = contents m (g.W.Words.words c.args.words.now) in
    let mid = contents m (g.W.Words.words c.pages_end-end.new.words) in
    let d = contents m (g.W.Words.words c.clear_targets.new.words) in
    let b = begun s h recorded in
    let w = c.in-Err.ensures.planned s b.filing b.later b.written in
    region_short m old s h c.args.thread c.begin_end-escaping.result mid b d c.in-Err.shortage w.0 (c.clear_targets.ensures.cleared s b.filing b.later c.begin_end-escaping.result mid b.written w.1)

pub returns-in-Ok-clause-ended : goal.returns-in-Ok-clause-ended
returns-in-Ok-clause-ended g c s h recorded =
    let begun = begun_later c.args.map (contents c.args.map (g.W.Words.words c.args.words.now)) c.args.thread c.begin_end-escaping.result (g.W.Words.words c.begin_end-escaping.new.words) (g.W.Words.words c.pages_end-end.new.words) c.pages_end-end.ensures.words c.begin_end-escaping.ensures.begun in
    let m = c.args.map in
    let old = contents m (g.W.Words.words c.args.words.now) in
    let mid = contents m (g.W.Words.words c.pages_end-end.new.words) in
    let planned = contents m (g.W.Words.words c.plan_escaping.new.words) in
    let d = contents m (g.W.Words.words c.finish_region.new.words) in
    let b = begun s h recorded in
    let w = c.in-Ok.ensures.planned s b.filing b.later b.written in
    let ready = region_readied m old s h c.args.thread c.begin_end-escaping.result mid b planned c.in-Ok.plan.count w.0 w.1 in
    let same : c.in-Ok.plan.count ≡ c.from.result = omega (arith, c.from.ensures) in
    subst (λ i. RegionEnded m old d s h c.args.thread i) same (region_from m old s h c.args.thread c.begin_end-escaping.result mid b d c.in-Ok.plan.count (innermost_region m old s h c.args.thread c.requires.thread c.requires.depth) (c.finish_region.ensures.ended b.filing mid s b.later ready))

pub returns-in-Ok-clause-reads : goal.returns-in-Ok-clause-reads
returns-in-Ok-clause-reads g c s h recorded =
    let begun = begun_later c.args.map (contents c.args.map (g.W.Words.words c.args.words.now)) c.args.thread c.begin_end-escaping.result (g.W.Words.words c.begin_end-escaping.new.words) (g.W.Words.words c.pages_end-end.new.words) c.pages_end-end.ensures.words c.begin_end-escaping.ensures.begun in
    let m = c.args.map in
    let t = c.args.thread in
    let old = contents m (g.W.Words.words c.args.words.now) in
    let mid = contents m (g.W.Words.words c.pages_end-end.new.words) in
    let planned = contents m (g.W.Words.words c.plan_escaping.new.words) in
    let b = begun s h recorded in
    let w = c.in-Ok.ensures.planned s b.filing b.later b.written in
    let ready = region_readied m old s h t c.begin_end-escaping.result mid b planned c.in-Ok.plan.count w.0 w.1 in
    let start = c.begin_end-escaping.ensures.reads s h recorded in
    let plan = c.plan_escaping.ensures.reads s b.filing b.later b.written in
    let last = c.finish_region.ensures.reads b.filing mid s b.later ready in
    let start_long = (shape m (g.W.Words.words c.begin_end-escaping.new.words) c.begin_end-escaping.ensures.sound).table in
    let long = λ (same : g.W.Words.words c.pages_end-end.new.words ≡ g.W.Words.words c.begin_end-escaping.new.words). ap (λ (ws : List ℕ). length (contents m ws).table) same ∙ start_long in
    let costs = region_costs m old s h t c.begin_end-escaping.result mid b c.requires.sound.areas c.requires.thread c.requires.depth planned c.in-Ok.plan.count w.0 ready (long c.pages_end-end.ensures.words) (shape m (g.W.Words.words c.plan_escaping.new.words) c.plan_escaping.ensures.sound).table in
    let areas = c.requires.sound.areas in
    let few = b.few in
    let d = contents m (g.W.Words.words c.finish_region.new.words) in
    let table : mid.table ≡ old.table = ap (λ (x : Contents). x.table) b.written.frame ∙ ap (λ (x : Contents). x.table) b.frame in
    let stop : c.pages_end-end.result ≡ used_end old.table m.pages = c.pages_end-end.ensures.end ∙ ap (λ (ws : List ℕ). used_end (contents m ws).table m.pages) (sym c.pages_end-end.ensures.words) ∙ ap (λ (ts : List (List ℕ)). used_end ts m.pages) table in
    let former = ap (λ (ts : List (List ℕ)). max (used_end ts m.pages) (used_end d.table m.pages)) table in
    let some = le-max_left (used_end old.table m.pages) (used_end d.table m.pages) in
    omega (arith, start, plan, last, stop, former, some, c.pages_end-end.ensures.reads, costs.few, costs.used, costs.moved, costs.later, costs.slots, costs.pages, costs.stack, w.0, areas, few)
