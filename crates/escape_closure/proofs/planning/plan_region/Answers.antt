use Rattle.std.proofs.Math.Logic.{∥∥₁_map}
use Rattle.std.proofs.Common.{◌≡◌, ◌≤◌, ◌+◌, ℕ, Ok, arith, sym, ap, ◌∙◌, subst, length}
use Rattle.heap_words.specs.declared.map.Areas.{Areas}
use Rattle.heap_words.specs.Map.{heap_length}
use Rattle.heap_words.specs.Contents.{Contents, contents}
use Rattle.yak_model.specs.Stands.{free_pages, pages_of}
use Rattle.escape_closure.specs.Rolls.{Aimed, Rolled}
use Rattle.escape_closure.specs.Needs.{RollWeighed}
use Rattle.escape_closure.specs.Placing.{Filling, index_on, rooms_at, size_on}
use Rattle.escape_closure.specs.Planning.{PlacedSoFar, RollPlaced, Underway, filled_by}
use Rattle.escape_closure.proofs.Placing.{filling_rooms, rooms_scratch}
use Rattle.escape_closure.proofs.planning.plan_region.Goals as goal

enough_now : (m : Areas) (q : Aimed) (t before after count : ℕ) (mid : Contents) (w : RollWeighed m q t before mid after (Ok count)) → (filled_by m q t mid w.count w.roll w.count).claimed ≤ length (free_pages mid.heads mid.pool)
enough_now m q t before after count mid w =
    let same = filling_rooms m (rooms_at m mid t) (rooms_at m q.words t) (index_on q mid (heap_length m) w.count w.roll) (size_on q mid (heap_length m) w.count w.roll) w.count (λ i. rooms_scratch m q.words mid t i w.roll.frame) in
    let claimed = ap (λ (f : Filling). f.claimed) same in
    let free : length (free_pages mid.heads mid.pool) ≡ length (free_pages q.words.heads q.words.pool) = ap (λ (x : Contents). length (free_pages x.heads x.pool)) w.roll.frame in
    omega (arith, claimed, free, w.weighed.1)

pub weigh_region-requires-clause-some : goal.weigh_region-requires-clause-some
weigh_region-requires-clause-some g c = ∥∥₁_map c.requires.some (λ z. (z.0, z.1, z.2, z.4))

pub place_all-requires-clause-some : goal.place_all-requires-clause-some
place_all-requires-clause-some g c = ∥∥₁_map c.requires.some (λ z.
    let m = c.args.map in
    let t = c.args.thread in
    let mid = contents m (g.W.Words.words c.weigh_region.new.words) in
    let before : ℕ = g.W.Words.reads c.args.words.now + (c.args.end + pages_of z.0.words.table z.0.region) in
    let w : RollWeighed m z.0 t before mid (g.W.Words.reads c.weigh_region.new.words) (Ok c.in_ok-count.count) = c.in_ok-count.ensures.weighed z.0 z.1 z.2 z.4 in
    let enough = enough_now m z.0 t before (g.W.Words.reads c.weigh_region.new.words) c.in_ok-count.count mid w in
    let roll = subst (λ n. (r : Rolled z.0 mid (heap_length m) n) × ((filled_by m z.0 t mid n r n).claimed ≤ length (free_pages mid.heads mid.pool))) (sym w.weighed.0) (w.roll, enough) in
    (z.0, z.2, z.3, roll.0, roll.1))

pub returns-clause-planned : goal.returns-clause-planned
returns-clause-planned g c q index ready exist same =
    let m = c.args.map in
    let t = c.args.thread in
    let mid = contents m (g.W.Words.words c.weigh_region.new.words) in
    let new = contents m (g.W.Words.words c.place_all.new.words) in
    let before : ℕ = g.W.Words.reads c.args.words.now + (c.args.end + pages_of q.words.table q.region) in
    let read = g.W.Words.reads c.weigh_region.new.words in
    let w : RollWeighed m q t before mid read (Ok c.in_ok-count.count) = c.in_ok-count.ensures.weighed q index ready same in
    let enough = enough_now m q t before read c.in_ok-count.count mid w in
    let all = subst (λ n. (r : Rolled q mid (heap_length m) n) → (filled_by m q t mid n r n).claimed ≤ length (free_pages mid.heads mid.pool) → Underway m q t mid n r new n × PlacedSoFar m q mid n r new n × (c.place_all.result.count ≡ n)) w.weighed.0 (c.place_all.ensures.planned q ready exist) in
    let placed = all w.roll enough in
    let made : RollPlaced m q t before new (g.W.Words.reads c.place_all.new.words) c.in_ok-count.count = record { between = mid; read = read; weighed = w; underway = placed.0; so_far = placed.1; reads = c.place_all.ensures.reads } in
    subst (λ n. RollPlaced m q t before new (g.W.Words.reads c.place_all.new.words) n) (w.weighed.0 ∙ sym placed.2) made
