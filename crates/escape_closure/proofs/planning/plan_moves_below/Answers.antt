use Rattle.std.proofs.Math.Logic.{∥∥₁_map}
use Rattle.std.specs.Prelude.{Result, MatchResult, IfErr, IfOk}
use Rattle.std.proofs.Common.{◌≡◌, ◌≤◌, ◌+◌, ◌*◌, ℕ, Ok, Err, arith, refl, sym, ap, ◌∙◌, subst, length}
use Rattle.object_layout.specs.declared.TheConstants.{MAX_SPACE}
use Rattle.object_layout.specs.declared.replies.Shortage.{Shortage}
use Rattle.epoch_lattice.specs.declared.Space.TheVariants.{Region}
use Rattle.epoch_lattice.specs.declared.TheConstants.{MAX_DEPTH}
use Rattle.epoch_lattice.specs.Lattice.{space_index}
use Rattle.heap_words.specs.declared.map.Areas.{Areas}
use Rattle.heap_words.specs.Map.{HasThread, IsAreas}
use Rattle.heap_words.specs.Contents.{Contents, contents, depth_of}
use Rattle.heap_words.proofs.Contents.{length-heap, length-scratch}
use Rattle.yak_model.specs.Spaces.{Counts, SpaceState, innermost}
use Rattle.yak_model.specs.State.{object_of}
use Rattle.yak_model.specs.Placed.{size_by}
use Rattle.yak_model.specs.Stands.{CurrentsStand, PoolStands, Stands, pages_of}
use Rattle.region_pages.specs.Counts.{used_of}
use Rattle.region_pages.specs.Pages.{TableFits}
use Rattle.region_pages.proofs.Shapes.{Shape, shape}
use Rattle.heap_walks.proofs.Objects.{size_is}
use Rattle.relocation.specs.declared.plans.Plan.{Plan}
use Rattle.relocation.specs.Moves.{Numbered, move_at}
use Rattle.escape_closure.specs.Ends.{EndPlanned, FallsShort}
use Rattle.escape_closure.specs.Needs.{RollWeighed}
use Rattle.escape_closure.specs.Planning.{RollPlaced}
use Rattle.escape_closure.specs.Rolls.{AimsInside, OnlyScratch}
use Rattle.escape_closure.specs.Targets.{IsEscaping, TargetsWritten}
use Rattle.escape_closure.proofs.Aims.{outer_target, space_of_heap, targets_exist}
use Rattle.escape_closure.proofs.PlannedEnd.{as_many, end_planned}
use Rattle.escape_closure.proofs.FindsNoPlace.{run_out}
use Rattle.escape_closure.proofs.Told.{SomeAimed, currents_told, pool_told, table_told}
use Rattle.escape_closure.proofs.Weighed.{aimed, aims_inside, needed_is, order}
use Rattle.escape_closure.proofs.Written.{region_is}
use Rattle.escape_closure.proofs.planning.plan_moves_below.Goals as goal

-- what the plan of a roll says of an end
module _ (m : Areas) (b c : Contents) (s : SpaceState) (st : Stands m b s) (t depth escaping : ℕ) (areas : IsAreas m) (has : HasThread m t) (low : 1 ≤ depth) (high : depth ≤ MAX_DEPTH) (written : TargetsWritten m s st.places t b c escaping) (region : innermost s.graph t ≡ Region t depth) (depth_is : depth ≡ depth_of b t) (ready : AimsInside m (aimed m b c s st t depth)) (d : Contents) (first before after end : ℕ) (read : before ≤ first + (1 + end + pages_of c.table (Region t depth))) where
  abbrev Outcome : Result Plan Shortage → Type 0
  Outcome result = MatchResult result (λ plan. RollPlaced m (aimed m b c s st t depth) t before d after plan.count) (λ shortage. RollWeighed m (aimed m b c s st t depth) t before d after (Err shortage))

  counts_ok : (count : ℕ) → RollPlaced m (aimed m b c s st t depth) t before d after count → count ≡ escaping
  counts_ok count p = p.weighed.weighed.0 ∙ as_many m b c s st t depth escaping areas has low high written region depth_is ready p.weighed.count (order m b c s st t depth escaping areas has low high written region p.between before p.read (Ok count) p.weighed)

  short : Shape m c → PoolStands m c.heads c.pool c.table → CurrentsStand m c.currents c.table → (shortage : Shortage) → RollWeighed m (aimed m b c s st t depth) t before d after (Err shortage) → FallsShort m c s st.places t shortage
  short shape pool currents shortage w = record {
    count = w.count;
    order = order m b c s st t depth escaping areas has low high written region d before after (Err shortage) w;
    needed = w.weighed.0 ∙ needed_is m b c s st t depth escaping areas has low high written region d before after (Err shortage) w;
    free = w.weighed.1;
    more = omega (arith, w.weighed.0, w.weighed.1, w.weighed.2);
    runs_out =
        let o = order m b c s st t depth escaping areas has low high written region d before after (Err shortage) w in
        run_out m t areas has o.target (λ k. size_by (object_of s) (o.name k)) c w.count
        (λ k lt. let x = o.targets k lt in space_of_heap m b c s st t depth escaping areas has low high written region depth_is (o.target k) (outer_target m b c s st t depth escaping areas has low high written region depth_is (o.name k) (o.target k) (o.escaping k lt) x.1 x.0).0)
        (λ k lt. let a = w.roll.aimed k lt in let is = size_is (aimed m b c s st t depth).laid (w.roll.name k) a.0 a.1 in omega (arith, is)) shape pool currents (let needed = needed_is m b c s st t depth escaping areas has low high written region d before after (Err shortage) w in omega (arith, needed, w.weighed.2));
  }

  outcome_planned : Shape m c → PoolStands m c.heads c.pool c.table → CurrentsStand m c.currents c.table → (result : Result Plan Shortage) → Outcome result → IfErr result (λ _. OnlyScratch c d) → IfOk result (λ plan. Numbered m d.heap plan.count (move_at d.scratch)) → TableFits m d.table → PoolStands m d.heads d.pool d.table → CurrentsStand m d.currents d.table → length d.heap ≡ length c.heap → MatchResult result (λ plan. (plan.count ≡ escaping) × EndPlanned m c d s st.places t plan.count) (λ shortage. FallsShort m c s st.places t shortage × OnlyScratch c d)
  outcome_planned shape former was (Ok plan) p only numbered fits pool currents long = (counts_ok plan.count p, end_planned m b c s st t depth escaping areas has low high written region depth_is ready d before after plan.count p fits numbered pool currents long)
  outcome_planned shape former was (Err shortage) w only numbered fits pool currents long = (short shape former was shortage w, only)

  outcome_counted : (result : Result Plan Shortage) → Outcome result → IfOk result (λ plan. Counts (IsEscaping s t) plan.count)
  outcome_counted (Ok plan) p = subst (Counts (IsEscaping s t)) (sym (counts_ok plan.count p)) written.counted
  outcome_counted (Err shortage) w = tt

  reads_at : (count : ℕ) (result : Result ℕ Shortage) (now : Contents) (last : ℕ) (w : RollWeighed m (aimed m b c s st t depth) t before now last result) → last ≤ first + (end + pages_of c.table (innermost s.graph t) + used_of c.table (innermost s.graph t) + 4 * escaping + (1 + 2 * (MAX_SPACE + 2)))
  reads_at count result now last w =
      let many = as_many m b c s st t depth escaping areas has low high written region depth_is ready w.count (order m b c s st t depth escaping areas has low high written region now before last result w) in
      let r = w.reads in
      rw region (omega (arith, many, r, read))

  outcome_reads : (result : Result Plan Shortage) → Outcome result → after ≤ first + (end + pages_of c.table (innermost s.graph t) + used_of c.table (innermost s.graph t) + 12 * escaping + (1 + 2 * (MAX_SPACE + 2)))
  outcome_reads (Ok plan) p = let f = reads_at plan.count (Ok plan.count) p.between p.read p.weighed in let r = p.reads in let many = counts_ok plan.count p in omega (arith, f, r, many)
  outcome_reads (Err shortage) w = let f = reads_at 0 (Err shortage) d after w in omega (arith, f)

some_aimed : (m : Areas) (c : Contents) (t : ℕ) → Prim.∥◌∥₁ ((s : SpaceState) × (before : Contents) × (stands : Stands m before s) × (escaping : ℕ) × TargetsWritten m s stands.places t before c escaping) → SomeAimed m c
some_aimed m c t some = ∥∥₁_map some (λ z. (z.0, z.1, z.2, z.4.frame))

pub plan_region-requires-clause-none_from : goal.plan_region-requires-clause-none_from
plan_region-requires-clause-none_from g c p from lt =
    let index = ap (λ k. space_index (Region c.args.thread k) + 1) c.depth-innermost.ensures.depth in
    rw c.depth-innermost.ensures.words (λ e. c.requires.none_from p from lt (e ∙ ap (λ k. k + 1) c.index_of-region.ensures.index ∙ index))

pub plan_region-requires-clause-table : goal.plan_region-requires-clause-table
plan_region-requires-clause-table g c = rw c.depth-innermost.ensures.words (table_told c.args.map (contents c.args.map (g.W.Words.words c.args.words.now)) c.requires.sound.areas (some_aimed c.args.map (contents c.args.map (g.W.Words.words c.args.words.now)) c.args.thread c.requires.aimed))

pub plan_region-requires-clause-pool : goal.plan_region-requires-clause-pool
plan_region-requires-clause-pool g c = rw c.depth-innermost.ensures.words (pool_told c.args.map (contents c.args.map (g.W.Words.words c.args.words.now)) (some_aimed c.args.map (contents c.args.map (g.W.Words.words c.args.words.now)) c.args.thread c.requires.aimed))

pub plan_region-requires-clause-currents : goal.plan_region-requires-clause-currents
plan_region-requires-clause-currents g c = rw c.depth-innermost.ensures.words (currents_told c.args.map (contents c.args.map (g.W.Words.words c.args.words.now)) (some_aimed c.args.map (contents c.args.map (g.W.Words.words c.args.words.now)) c.args.thread c.requires.aimed))

pub plan_region-requires-clause-some : goal.plan_region-requires-clause-some
plan_region-requires-clause-some g c =
    let m = c.args.map in
    let ws = g.W.Words.words c.args.words.now in
    let old = contents m ws in
    let t = c.args.thread in
    let depth = c.depth-innermost.result in
    let low : 1 ≤ depth = omega (arith, c.depth-innermost.ensures.depth, c.requires.depth) in
    let high = c.depth-innermost.ensures.at_most in
    let areas = c.requires.sound.areas in
    rw c.depth-innermost.ensures.words (∥∥₁_map c.requires.aimed (λ z.
    let depths : depth_of old t ≡ depth_of z.1 t = ap (λ (x : Contents). depth_of x t) z.4.frame in
    let depth_is = c.depth-innermost.ensures.depth ∙ depths in
    let region : innermost z.0.graph t ≡ Region t depth = region_is m z.1 z.0 z.2 t depth c.requires.thread depth_is low in
    (aimed m z.1 old z.0 z.2 t depth, sym c.index_of-region.ensures.index, aims_inside m z.1 old z.0 z.2 t depth z.3 areas c.requires.thread low high z.4 region (length-heap m ws c.requires.sound.whole) (length-scratch m ws c.requires.sound.whole), targets_exist m z.1 old z.0 z.2 t depth z.3 areas c.requires.thread low high z.4 region depth_is, refl)))

pub returns-clause-planned : goal.returns-clause-planned
returns-clause-planned g c s before st escaping written =
    let m = c.args.map in
    let ws = g.W.Words.words c.args.words.now in
    let old = contents m ws in
    let new = contents m (g.W.Words.words c.plan_region.new.words) in
    let t = c.args.thread in
    let depth = c.depth-innermost.result in
    let low : 1 ≤ depth = omega (arith, c.depth-innermost.ensures.depth, c.requires.depth) in
    let high = c.depth-innermost.ensures.at_most in
    let areas = c.requires.sound.areas in
    let depths : depth_of old t ≡ depth_of before t = ap (λ (x : Contents). depth_of x t) written.frame in
    let depth_is = c.depth-innermost.ensures.depth ∙ depths in
    let region : innermost s.graph t ≡ Region t depth = region_is m before s st t depth c.requires.thread depth_is low in
    let inside = aims_inside m before old s st t depth escaping areas c.requires.thread low high written region (length-heap m ws c.requires.sound.whole) (length-scratch m ws c.requires.sound.whole) in
    let exist = targets_exist m before old s st t depth escaping areas c.requires.thread low high written region depth_is in
    let same = c.depth-innermost.ensures.words in
    let e = c.plan_region.ensures in
    let outcome = e.planned (aimed m before old s st t depth) (sym c.index_of-region.ensures.index) inside exist (ap (contents m) (sym same)) in
    let only = subst (λ x. IfErr c.plan_region.result (λ _. OnlyScratch (contents m x) new)) same e.short in
    outcome_planned m before old s st t depth escaping areas c.requires.thread low high written region depth_is inside new (g.W.Words.reads c.args.words.now) (g.W.Words.reads c.depth-innermost.new.words + (c.args.end + pages_of old.table (Region t depth))) (g.W.Words.reads c.plan_region.new.words) c.args.end (omega (arith, c.depth-innermost.ensures.reads)) (shape m ws c.requires.sound) (pool_told m old (some_aimed m old t c.requires.aimed)) (currents_told m old (some_aimed m old t c.requires.aimed)) c.plan_region.result outcome only e.plan e.table e.pool e.currents (length-heap m _ e.sound.whole ∙ sym (length-heap m ws c.requires.sound.whole))

pub returns-clause-counted : goal.returns-clause-counted
returns-clause-counted g c s before st escaping written =
    let m = c.args.map in
    let ws = g.W.Words.words c.args.words.now in
    let old = contents m ws in
    let new = contents m (g.W.Words.words c.plan_region.new.words) in
    let t = c.args.thread in
    let depth = c.depth-innermost.result in
    let low : 1 ≤ depth = omega (arith, c.depth-innermost.ensures.depth, c.requires.depth) in
    let high = c.depth-innermost.ensures.at_most in
    let areas = c.requires.sound.areas in
    let depths : depth_of old t ≡ depth_of before t = ap (λ (x : Contents). depth_of x t) written.frame in
    let depth_is = c.depth-innermost.ensures.depth ∙ depths in
    let region : innermost s.graph t ≡ Region t depth = region_is m before s st t depth c.requires.thread depth_is low in
    let inside = aims_inside m before old s st t depth escaping areas c.requires.thread low high written region (length-heap m ws c.requires.sound.whole) (length-scratch m ws c.requires.sound.whole) in
    let exist = targets_exist m before old s st t depth escaping areas c.requires.thread low high written region depth_is in
    let outcome = c.plan_region.ensures.planned (aimed m before old s st t depth) (sym c.index_of-region.ensures.index) inside exist (ap (contents m) (sym c.depth-innermost.ensures.words)) in
    outcome_counted m before old s st t depth escaping areas c.requires.thread low high written region depth_is inside new (g.W.Words.reads c.args.words.now) (g.W.Words.reads c.depth-innermost.new.words + (c.args.end + pages_of old.table (Region t depth))) (g.W.Words.reads c.plan_region.new.words) c.args.end (omega (arith, c.depth-innermost.ensures.reads)) c.plan_region.result outcome

pub returns-clause-reads : goal.returns-clause-reads
returns-clause-reads g c s before st escaping written =
    let m = c.args.map in
    let ws = g.W.Words.words c.args.words.now in
    let old = contents m ws in
    let new = contents m (g.W.Words.words c.plan_region.new.words) in
    let t = c.args.thread in
    let depth = c.depth-innermost.result in
    let low : 1 ≤ depth = omega (arith, c.depth-innermost.ensures.depth, c.requires.depth) in
    let high = c.depth-innermost.ensures.at_most in
    let areas = c.requires.sound.areas in
    let depths : depth_of old t ≡ depth_of before t = ap (λ (x : Contents). depth_of x t) written.frame in
    let depth_is = c.depth-innermost.ensures.depth ∙ depths in
    let region : innermost s.graph t ≡ Region t depth = region_is m before s st t depth c.requires.thread depth_is low in
    let inside = aims_inside m before old s st t depth escaping areas c.requires.thread low high written region (length-heap m ws c.requires.sound.whole) (length-scratch m ws c.requires.sound.whole) in
    let exist = targets_exist m before old s st t depth escaping areas c.requires.thread low high written region depth_is in
    let outcome = c.plan_region.ensures.planned (aimed m before old s st t depth) (sym c.index_of-region.ensures.index) inside exist (ap (contents m) (sym c.depth-innermost.ensures.words)) in
    outcome_reads m before old s st t depth escaping areas c.requires.thread low high written region depth_is inside new (g.W.Words.reads c.args.words.now) (g.W.Words.reads c.depth-innermost.new.words + (c.args.end + pages_of old.table (Region t depth))) (g.W.Words.reads c.plan_region.new.words) c.args.end (omega (arith, c.depth-innermost.ensures.reads)) c.plan_region.result outcome
