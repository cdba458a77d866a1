use Rattle.std.proofs.Props.{props}
use Rattle.std.proofs.Math.Logic.{∥∥₁_elim, ∥∥₁_map}
use Rattle.std.proofs.Common.{◌≡◌, ◌+◌, ℕ, List, sym, ap, ◌∙◌, subst, arith}
use Rattle.heap_words.specs.Contents.{contents}
use Rattle.region_pages.proofs.Shapes.{shape}
use Rattle.relocation.specs.Moves.{heap_of, move_at, scratch_of, Numbered}
use Rattle.escape_closure.specs.Planning.{NotPlaced, PlacedNext, PlacedSoFar, Underway}
use Rattle.relocation.proofs.Planned.{numbered-none}
use Rattle.escape_closure.proofs.Underway.{entry_now, goes_on, has_place, starts}
use Rattle.escape_closure.proofs.SoFar.{so_far_first, so_far_more}
use Rattle.escape_closure.proofs.planning.place_all.Goals as goal

pub loop-k-init : goal.loop-k-init
loop-k-init g c =
    let m = c.args.map in
    record {
      sound = rw c.empty_plan-plan.ensures.words c.requires.sound;
      base = ap g.W.Words.base c.empty_plan-plan.ensures.words;
      reads = rw c.empty_plan-plan.ensures.words (omega arith);
      planned = c.empty_plan-plan.ensures.none;
      numbered = subst (λ n. Numbered m (heap_of m (g.W.Words.words c.empty_plan-plan.new.words)) n (move_at (scratch_of m (g.W.Words.words c.empty_plan-plan.new.words)))) (sym c.empty_plan-plan.ensures.none) (numbered-none m (heap_of m (g.W.Words.words c.empty_plan-plan.new.words)) (move_at (scratch_of m (g.W.Words.words c.empty_plan-plan.new.words))));
      table = rw c.empty_plan-plan.ensures.words c.requires.table;
      pool = rw c.empty_plan-plan.ensures.words c.requires.pool;
      currents = rw c.empty_plan-plan.ensures.words c.requires.currents;
      underway = λ q ready exist r. rw c.empty_plan-plan.ensures.words (starts m q c.args.thread (contents m (g.W.Words.words c.args.words.now)) c.args.count r c.requires.sound.areas);
      so_far = λ q ready exist r. rw c.empty_plan-plan.ensures.words (so_far_first m q (contents m (g.W.Words.words c.args.words.now)) c.args.count r ready);
    }

pub read_entry-entry-requires-clause-some : goal.read_entry-entry-requires-clause-some
read_entry-entry-requires-clause-some g c =
    let m = c.args.map in
    let old = contents m (g.W.Words.words c.args.words.now) in
    let mid = contents m (g.W.Words.words c.loop-k.words) in
    ∥∥₁_map c.requires.some (λ z. (z.0, z.1, z.3.name c.loop-k.k, entry_now m z.0 c.args.thread old c.args.count z.3 z.1 z.2 c.requires.sound.areas c.requires.thread mid c.loop-k.k (c.loop-k.invariant.underway z.0 z.1 z.2 z.3) (omega arith)))

pub place_next-requires-clause-room : goal.place_next-requires-clause-room
place_next-requires-clause-room g c =
    ∥∥₁_elim c.requires.some (hlevel props) (λ z. omega (arith, z.3.room, c.loop-k.invariant.planned))

pub place_next-requires-clause-ascending : goal.place_next-requires-clause-ascending
place_next-requires-clause-ascending g c j lt =
    ∥∥₁_elim c.requires.some (hlevel props) (λ z.
    let m = c.args.map in
    let old = contents m (g.W.Words.words c.args.words.now) in
    let mid = contents m (g.W.Words.words c.loop-k.words) in
    let k = c.loop-k.k in
    let u = c.loop-k.invariant.underway z.0 z.1 z.2 z.3 in
    let e = entry_now m z.0 c.args.thread old c.args.count z.3 z.1 z.2 c.requires.sound.areas c.requires.thread mid k u (omega arith) in
    let told = c.read_entry-entry.ensures.read z.0 z.1 (z.3.name k) e in
    let moved = u.moves j (omega (arith, lt, c.loop-k.invariant.planned)) in
    let up = z.3.ascending j k (omega (arith, lt, c.loop-k.invariant.planned)) (omega arith) in
    let same : (move_at (scratch_of m (g.W.Words.words c.read_entry-entry.new.words)) j).old ≡ (move_at (scratch_of m (g.W.Words.words c.loop-k.words)) j).old = ap (λ (x : List ℕ). (move_at (scratch_of m x) j).old) c.read_entry-entry.ensures.words in
    omega (arith, same, moved.0, told.0, up))

pub returns-in_default-clause-planned : goal.returns-in_default-clause-planned
returns-in_default-clause-planned g c q ready exist r enough =
    let m = c.args.map in
    let old = contents m (g.W.Words.words c.args.words.now) in
    let mid = contents m (g.W.Words.words c.loop-k.words) in
    let k = c.loop-k.k in
    let u = c.loop-k.invariant.underway q ready exist r in
    let e = entry_now m q c.args.thread old c.args.count r ready exist c.requires.sound.areas c.requires.thread mid k u (omega arith) in
    let told = c.read_entry-entry.ensures.read q ready (r.name k) e in
    let none : NotPlaced m mid c.args.thread c.read_entry-entry.result = subst (λ (x : List ℕ). NotPlaced m (contents m x) c.args.thread c.read_entry-entry.result) c.read_entry-entry.ensures.words c.in_default.ensures.placed.0 in
    absurd (has_place m q c.args.thread old c.args.count r ready exist c.requires.sound.areas c.requires.thread mid k u (omega arith) c.read_entry-entry.result told.2 told.1 enough none)

pub returns-in_default-clause-plan : goal.returns-in_default-clause-plan
returns-in_default-clause-plan g c =
    let m = c.args.map in
    subst (λ (x : List ℕ). Numbered m (heap_of m x) c.loop-k.plan.count (move_at (scratch_of m x))) (sym (c.in_default.ensures.placed.1 ∙ c.read_entry-entry.ensures.words)) c.loop-k.invariant.numbered

pub loop-k-preserved : goal.loop-k-preserved
loop-k-preserved g c =
    let m = c.args.map in
    let old = contents m (g.W.Words.words c.args.words.now) in
    let mid = contents m (g.W.Words.words c.loop-k.words) in
    let new = contents m (g.W.Words.words c.place_next.new.words) in
    let k = c.loop-k.k in
    let placed = c.in-Some.ensures.placed in
    record {
      sound = c.in-Some.ensures.sound;
      base = c.in-Some.ensures.base ∙ c.read_entry-entry.ensures.base ∙ c.loop-k.invariant.base;
      reads = omega (arith, c.in-Some.ensures.reads, c.read_entry-entry.ensures.reads, c.loop-k.invariant.reads);
      planned = placed.0 ∙ ap (λ n. n + 1) c.loop-k.invariant.planned;
      numbered = c.in-Some.ensures.plan;
      table = c.in-Some.ensures.table;
      pool = c.in-Some.ensures.pool;
      currents = c.in-Some.ensures.currents;
      underway = λ q ready exist r.
          let u = c.loop-k.invariant.underway q ready exist r in
          let e = entry_now m q c.args.thread old c.args.count r ready exist c.requires.sound.areas c.requires.thread mid k u (omega arith) in
          let told = c.read_entry-entry.ensures.read q ready (r.name k) e in
          let p : PlacedNext m mid new c.args.thread k c.read_entry-entry.result = subst (λ i. PlacedNext m mid new c.args.thread i c.read_entry-entry.result) c.loop-k.invariant.planned (subst (λ (x : List ℕ). PlacedNext m (contents m x) new c.args.thread c.loop-k.plan.count c.read_entry-entry.result) c.read_entry-entry.ensures.words placed.1) in
          goes_on m q c.args.thread old c.args.count r ready exist c.requires.sound.areas c.requires.thread mid k u (omega arith) new c.read_entry-entry.result told.0 told.2 told.1 c.read_entry-entry.ensures.size.0 (shape m (g.W.Words.words c.loop-k.words) c.loop-k.invariant.sound) c.loop-k.invariant.currents c.loop-k.invariant.pool p;
      so_far = λ q ready exist r.
          let u = c.loop-k.invariant.underway q ready exist r in
          let e = entry_now m q c.args.thread old c.args.count r ready exist c.requires.sound.areas c.requires.thread mid k u (omega arith) in
          let told = c.read_entry-entry.ensures.read q ready (r.name k) e in
          let p : PlacedNext m mid new c.args.thread k c.read_entry-entry.result = subst (λ i. PlacedNext m mid new c.args.thread i c.read_entry-entry.result) c.loop-k.invariant.planned (subst (λ (x : List ℕ). PlacedNext m (contents m x) new c.args.thread c.loop-k.plan.count c.read_entry-entry.result) c.read_entry-entry.ensures.words placed.1) in
          so_far_more m q old c.args.count r ready c.args.thread exist c.requires.sound.areas c.requires.thread mid new k (omega arith) (c.loop-k.invariant.so_far q ready exist r) c.read_entry-entry.result told.0 told.2 told.1 c.read_entry-entry.ensures.size.0 (shape m (g.W.Words.words c.loop-k.words) c.loop-k.invariant.sound) c.loop-k.invariant.currents c.loop-k.invariant.pool c.in-Some.ensures.table p;
    }

pub returns-clause-planned : goal.returns-clause-planned
returns-clause-planned g c q ready exist r enough =
    let m = c.args.map in
    let old = contents m (g.W.Words.words c.args.words.now) in
    let now = contents m (g.W.Words.words c.loop-k.words) in
    let ends : c.loop-k.k ≡ c.args.count = omega arith in
    (subst (λ k. Underway m q c.args.thread old c.args.count r now k) ends (c.loop-k.invariant.underway q ready exist r), subst (λ k. PlacedSoFar m q old c.args.count r now k) ends (c.loop-k.invariant.so_far q ready exist r), c.loop-k.invariant.planned ∙ ends)
