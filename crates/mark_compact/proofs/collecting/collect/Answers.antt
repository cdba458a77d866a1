use Rattle.std.proofs.Props.{props}
use Rattle.std.proofs.Math.Logic.{∥∥₁_elim, ∥∥₁_map}
use Rattle.std.proofs.Common.{◌≡◌, ◌≤◌, ◌<◌, ◌+◌, ◌∙◌, ℕ, List, ap, sym, subst, arith}
use Rattle.std.specs.List.{filter}
use Rattle.heap_words.specs.declared.map.Areas.{Areas}
use Rattle.heap_words.specs.Map.{heap_length}
use Rattle.heap_words.specs.Contents.{Contents, contents}
use Rattle.epoch_lattice.specs.declared.Space.{Space}
use Rattle.yak_model.specs.Chains.{IsRegionOf}
use Rattle.yak_model.specs.Spaces.{SpaceState}
use Rattle.yak_model.specs.Stands.{Stands}
use Rattle.yak_model.specs.Plans.{Move}
use Rattle.relocation.specs.Moves.{HasHeader, move_at, size_at}
use Rattle.remember_sets.specs.Filed.{BuffersHold, IsFiled, chain}
use Rattle.remember_sets.proofs.Folded.{with_sets-step}
use Rattle.region_pages.proofs.Shapes.{shape}
use Rattle.mark_compact.proofs.Tables.{length-table}
use Rattle.standing_calls.proofs.Logs.{buffers-told, pages-told, sets-told}
use Rattle.forwarding.specs.Slots.{AreAscending, CanFollow, followed, is_kept}
use Rattle.mark_compact.specs.Collecting.{Cleared, Lain}
use Rattle.mark_compact.proofs.Logged.{cleared-stands, sets-rebuilt}
use Rattle.mark_compact.proofs.Keeps.{meets}
use Rattle.mark_compact.proofs.After.{collected}
use Rattle.heap_words.proofs.Contents.{length-currents}
use Rattle.mark_compact.proofs.Emptied.{room-collected}
use Rattle.mark_compact.proofs.collecting.collect.Goals as goal

pub file_logs-requires-clause-sets : goal.file_logs-requires-clause-sets
file_logs-requires-clause-sets g c = sets-told c.args.map (contents c.args.map (g.W.Words.words c.args.words.now)) c.requires.sound.areas c.requires.recorded

pub file_logs-requires-clause-buffers : goal.file_logs-requires-clause-buffers
file_logs-requires-clause-buffers g c = buffers-told c.args.map (contents c.args.map (g.W.Words.words c.args.words.now)) c.requires.recorded

pub file_logs-requires-clause-pages : goal.file_logs-requires-clause-pages
file_logs-requires-clause-pages g c = pages-told c.args.map (contents c.args.map (g.W.Words.words c.args.words.now)) c.requires.recorded

pub slide-plan-requires-clause-stands : goal.slide-plan-requires-clause-stands
slide-plan-requires-clause-stands g c =
    let m : Areas = c.args.map in
    let old : Contents = contents m (g.W.Words.words c.args.words.now) in
    let mid : Contents = contents m (g.W.Words.words c.file_logs.new.words) in
    let cleared : Cleared m old mid = record { filed = c.file_logs.ensures.filed; sets = c.file_logs.ensures.sets; others = c.file_logs.ensures.others } in
    ∥∥₁_map c.requires.recorded (λ q. (q.0, cleared-stands m old mid q.0 q.1 (buffers-told m old c.requires.recorded) cleared))

pub drop_others-requires-clause-sets : goal.drop_others-requires-clause-sets
drop_others-requires-clause-sets g c =
    let m : Areas = c.args.map in
    let old : Contents = contents m (g.W.Words.words c.args.words.now) in
    let mid : Contents = contents m (g.W.Words.words c.file_logs.new.words) in
    let slid : Contents = contents m (g.W.Words.words c.slide-plan.new.words) in
    let cleared : Cleared m old mid = record { filed = c.file_logs.ensures.filed; sets = c.file_logs.ensures.sets; others = c.file_logs.ensures.others } in
    sets-rebuilt m mid slid (contents m (g.W.Words.words c.reset_pages.new.words)) cleared.sets
    (∥∥₁_map c.requires.recorded (λ q. (c.slide-plan.ensures.lain q.0 (cleared-stands m old mid q.0 q.1 (buffers-told m old c.requires.recorded) cleared)).frame))
    c.reset_pages.ensures.pages.2.frame

pub drop_others-requires-clause-room : goal.drop_others-requires-clause-room
drop_others-requires-clause-room g c =
    let m : Areas = c.args.map in
    let old : Contents = contents m (g.W.Words.words c.args.words.now) in
    let mid : Contents = contents m (g.W.Words.words c.file_logs.new.words) in
    let cleared : Cleared m old mid = record { filed = c.file_logs.ensures.filed; sets = c.file_logs.ensures.sets; others = c.file_logs.ensures.others } in
    ∥∥₁_elim c.requires.recorded (hlevel props) (λ q. (c.slide-plan.ensures.lain q.0 (cleared-stands m old mid q.0 q.1 (buffers-told m old c.requires.recorded) cleared)).room)

pub drop_others-requires-clause-ascending : goal.drop_others-requires-clause-ascending
drop_others-requires-clause-ascending g c =
    let m : Areas = c.args.map in
    let old : Contents = contents m (g.W.Words.words c.args.words.now) in
    let mid : Contents = contents m (g.W.Words.words c.file_logs.new.words) in
    let slid : Contents = contents m (g.W.Words.words c.slide-plan.new.words) in
    let last : Contents = contents m (g.W.Words.words c.reset_pages.new.words) in
    let count : ℕ = c.slide-plan.result.count in
    let moves : ℕ → Move = move_at slid.scratch in
    let frame = c.reset_pages.ensures.pages.2.frame in
    let heap : last.heap ≡ slid.heap = ap (λ (x : Contents). x.heap) frame in
    let scratch : last.scratch ≡ slid.scratch = ap (λ (x : Contents). x.scratch) frame in
    let cleared : Cleared m old mid = record { filed = c.file_logs.ensures.filed; sets = c.file_logs.ensures.sets; others = c.file_logs.ensures.others } in
    let headers = c.slide-plan.ensures.headers in
    let asc : AreAscending m slid.heap count moves = record {
      header = λ k lt. (headers k lt).0;
      start = λ k lt. (let w = (headers k lt).1 in omega (arith, w));
      within = λ k lt. ∥∥₁_elim c.requires.recorded (hlevel props) (λ q. (c.slide-plan.ensures.lain q.0 (cleared-stands m old mid q.0 q.1 (buffers-told m old c.requires.recorded) cleared)).within k lt);
      behind = λ j k lt lk. ∥∥₁_elim c.requires.recorded (hlevel props) (λ q. (c.slide-plan.ensures.lain q.0 (cleared-stands m old mid q.0 q.1 (buffers-told m old c.requires.recorded) cleared)).behind j k lt lk);
    } in
    subst (λ (hp : List ℕ). AreAscending m hp count (move_at last.scratch)) (sym heap) (subst (λ (sc : List ℕ). AreAscending m slid.heap count (move_at sc)) (sym scratch) asc)

pub follow_moves-requires-clause-room : goal.follow_moves-requires-clause-room
follow_moves-requires-clause-room g c =
    let m : Areas = c.args.map in
    let old : Contents = contents m (g.W.Words.words c.args.words.now) in
    let mid : Contents = contents m (g.W.Words.words c.file_logs.new.words) in
    let cleared : Cleared m old mid = record { filed = c.file_logs.ensures.filed; sets = c.file_logs.ensures.sets; others = c.file_logs.ensures.others } in
    ∥∥₁_elim c.requires.recorded (hlevel props) (λ q. (c.slide-plan.ensures.lain q.0 (cleared-stands m old mid q.0 q.1 (buffers-told m old c.requires.recorded) cleared)).room)

pub follow_moves-requires-clause-can_follow : goal.follow_moves-requires-clause-can_follow
follow_moves-requires-clause-can_follow g c =
    let m : Areas = c.args.map in
    let old : Contents = contents m (g.W.Words.words c.args.words.now) in
    let mid : Contents = contents m (g.W.Words.words c.file_logs.new.words) in
    let slid : Contents = contents m (g.W.Words.words c.slide-plan.new.words) in
    let last : Contents = contents m (g.W.Words.words c.reset_pages.new.words) in
    let left : Contents = contents m (g.W.Words.words c.drop_others.new.words) in
    let count : ℕ = c.slide-plan.result.count in
    let moves : ℕ → Move = move_at slid.scratch in
    let frame = c.reset_pages.ensures.pages.2.frame in
    let heap : last.heap ≡ slid.heap = ap (λ (x : Contents). x.heap) frame in
    let scratch : last.scratch ≡ slid.scratch = ap (λ (x : Contents). x.scratch) frame in
    let heap_left : left.heap ≡ last.heap = ap (λ (x : Contents). x.heap) c.drop_others.ensures.others in
    let scratch_left : left.scratch ≡ slid.scratch = ap (λ (x : Contents). x.scratch) c.drop_others.ensures.others ∙ scratch in
    let cleared : Cleared m old mid = record { filed = c.file_logs.ensures.filed; sets = c.file_logs.ensures.sets; others = c.file_logs.ensures.others } in
    let buffers : BuffersHold m old = buffers-told m old c.requires.recorded in
    let lain : (s : SpaceState) (h : Stands m old s) → Lain m mid s h.places slid count moves = λ s h. c.slide-plan.ensures.lain s (cleared-stands m old mid s h buffers cleared) in
    let headers : (k : ℕ) → k < count → HasHeader last.heap (moves k).new × ((moves k).new + size_at last.heap (moves k).new ≤ heap_length m) = subst (λ (hp : List ℕ). (k : ℕ) → k < count → HasHeader hp (moves k).new × ((moves k).new + size_at hp (moves k).new ≤ heap_length m)) (sym heap) c.slide-plan.ensures.headers in
    let dropped : (x : Space) → IsRegionOf m x → chain m left x ≡ filter (is_kept m last count moves) (chain m last x) = subst (λ (sc : List ℕ). (x : Space) → IsRegionOf m x → chain m left x ≡ filter (is_kept m last count (move_at sc)) (chain m last x)) scratch c.drop_others.ensures.dropped in
    let can : CanFollow m last.heap (IsFiled m left) count moves = record {
      header = λ k lt. (headers k lt).0;
      front = λ k lt. ∥∥₁_elim c.requires.recorded (hlevel props) (λ q. (lain q.0 q.1).front k lt);
      within = λ k lt. (let w = subst (λ (hp : List ℕ). (moves k).old + size_at hp (moves k).new ≤ heap_length m) (sym heap) (∥∥₁_elim c.requires.recorded (hlevel props) (λ q. (lain q.0 q.1).within k lt)) in omega (arith, w));
      spread = λ j k lt lk. subst (λ (hp : List ℕ). (moves j).new + size_at hp (moves j).new ≤ (moves k).new) (sym heap) (∥∥₁_elim c.requires.recorded (hlevel props) (λ q. (lain q.0 q.1).spread j k lt lk));
      meets = λ k f lk lf filed fresh. ∥∥₁_elim c.requires.recorded (hlevel props) (λ q. meets m old mid slid last q.0 q.1 count moves c.args.thread c.reset_pages.ensures.pages.0 (record {
        areas = c.requires.sound.areas;
        thread = c.requires.thread;
        cleared = cleared;
        lain = lain q.0 q.1;
        ends = c.reset_pages.ensures.pages.1;
        pages = c.reset_pages.ensures.pages.2;
        pool = c.reset_pages.ensures.pool;
        buffers = buffers;
        long = length-table m (g.W.Words.words c.file_logs.new.words);
        long_now = length-table m (g.W.Words.words c.slide-plan.new.words);
      }) left q.2 dropped k f lk lf filed fresh);
    } in
    subst (λ (hp : List ℕ). CanFollow m hp (IsFiled m left) count (move_at left.scratch)) (sym heap_left) (subst (λ (sc : List ℕ). CanFollow m last.heap (IsFiled m left) count (move_at sc)) (sym scratch_left) can)

pub returns-clause-state : goal.returns-clause-state
returns-clause-state g c s h recorded =
    let m : Areas = c.args.map in
    let old : Contents = contents m (g.W.Words.words c.args.words.now) in
    let mid : Contents = contents m (g.W.Words.words c.file_logs.new.words) in
    let slid : Contents = contents m (g.W.Words.words c.slide-plan.new.words) in
    let last : Contents = contents m (g.W.Words.words c.reset_pages.new.words) in
    let left : Contents = contents m (g.W.Words.words c.drop_others.new.words) in
    let now : Contents = contents m (g.W.Words.words c.follow_moves.new.words) in
    let count : ℕ = c.slide-plan.result.count in
    let moves : ℕ → Move = move_at slid.scratch in
    let frame = c.reset_pages.ensures.pages.2.frame in
    let scratch : last.scratch ≡ slid.scratch = ap (λ (x : Contents). x.scratch) frame in
    let scratch_left : left.scratch ≡ slid.scratch = ap (λ (x : Contents). x.scratch) c.drop_others.ensures.others ∙ scratch in
    let heap_left : left.heap ≡ last.heap = ap (λ (x : Contents). x.heap) c.drop_others.ensures.others in
    let cleared : Cleared m old mid = record { filed = c.file_logs.ensures.filed; sets = c.file_logs.ensures.sets; others = c.file_logs.ensures.others } in
    let buffers : BuffersHold m old = buffers-told m old c.requires.recorded in
    let dropped : (x : Space) → IsRegionOf m x → chain m left x ≡ filter (is_kept m last count moves) (chain m last x) = subst (λ (sc : List ℕ). (x : Space) → IsRegionOf m x → chain m left x ≡ filter (is_kept m last count (move_at sc)) (chain m last x)) scratch c.drop_others.ensures.dropped in
    let went : (x : Space) → IsRegionOf m x → chain m now x ≡ followed last.heap count moves (chain m left x) = subst (λ (sc : List ℕ). (x : Space) → IsRegionOf m x → chain m now x ≡ followed last.heap count (move_at sc) (chain m left x)) scratch_left (subst (λ (hp : List ℕ). (x : Space) → IsRegionOf m x → chain m now x ≡ followed hp count (move_at left.scratch) (chain m left x)) heap_left c.follow_moves.ensures.moved) in
    collected m old mid slid last now s h count moves c.args.thread c.reset_pages.ensures.pages.0
    (record {
      ready = record {
        areas = c.requires.sound.areas;
        thread = c.requires.thread;
        cleared = cleared;
        lain = c.slide-plan.ensures.lain s (cleared-stands m old mid s h buffers cleared);
        ends = c.reset_pages.ensures.pages.1;
        pages = c.reset_pages.ensures.pages.2;
        pool = c.reset_pages.ensures.pool;
        buffers = buffers;
        long = length-table m (g.W.Words.words c.file_logs.new.words);
        long_now = length-table m (g.W.Words.words c.slide-plan.new.words);
      };
      sets = c.follow_moves.ensures.sets;
      slots = λ x q. went x q ∙ ap (followed last.heap count moves) (dropped x q);
      others = with_sets-step last left now c.drop_others.ensures.others c.follow_moves.ensures.others;
      limits = c.follow_moves.ensures.sound.limits;
    })
    recorded

pub returns-clause-room : goal.returns-clause-room
returns-clause-room g c =
    let m : Areas = c.args.map in
    let old : Contents = contents m (g.W.Words.words c.args.words.now) in
    let mid : Contents = contents m (g.W.Words.words c.file_logs.new.words) in
    let slid : Contents = contents m (g.W.Words.words c.slide-plan.new.words) in
    let last : Contents = contents m (g.W.Words.words c.reset_pages.new.words) in
    let left : Contents = contents m (g.W.Words.words c.drop_others.new.words) in
    let now : Contents = contents m (g.W.Words.words c.follow_moves.new.words) in
    let cleared : Cleared m old mid = record { filed = c.file_logs.ensures.filed; sets = c.file_logs.ensures.sets; others = c.file_logs.ensures.others } in
    room-collected m old mid slid last now c.args.thread c.reset_pages.ensures.pages.0 c.requires.thread cleared
    (∥∥₁_map c.requires.recorded (λ q.
    let lain = c.slide-plan.ensures.lain q.0 (cleared-stands m old mid q.0 q.1 (buffers-told m old c.requires.recorded) cleared) in
    record { frame = lain.frame; others = lain.others; control = lain.control }))
    c.reset_pages.ensures.pages.1 c.reset_pages.ensures.pages.2 (with_sets-step last left now c.drop_others.ensures.others c.follow_moves.ensures.others)
    (shape m (g.W.Words.words c.args.words.now) c.requires.sound).heads (length-table m (g.W.Words.words c.slide-plan.new.words)) (length-currents m (g.W.Words.words c.reset_pages.new.words))
