use Rattle.std.proofs.Math.Logic.{∥∥₁_map}
use Rattle.std.proofs.Common.{◌≡◌, ◌≤◌, ◌+◌, ◌*◌, ℕ, arith, refl, sym, ap, ◌∙◌, subst, length}
use Rattle.heap_words.specs.Map.{heap_length}
use Rattle.heap_words.specs.Contents.{Contents, contents}
use Rattle.heap_words.proofs.Contents.{length-scratch}
use Rattle.yak_model.specs.Stands.{CurrentsStand, PoolStands, free_pages, pages_of}
use Rattle.escape_closure.specs.Rolls.{OnlyScratch, Rolled}
use Rattle.object_layout.specs.declared.TheConstants.{MAX_SPACE}
use Rattle.region_pages.specs.Counts.{used_of}
use Rattle.escape_closure.specs.Placing.{Filling, OnlyRooms, filling, index_on, rooms_at, size_on}
use Rattle.escape_closure.proofs.Rolls.{scratch_then}
use Rattle.escape_closure.proofs.Placing.{filling_rooms, roll_still, rooms_scratch}
use Rattle.escape_closure.proofs.weighing.weigh_region.Goals as goal

pub needed_pages-needed-requires-clause-currents : goal.needed_pages-needed-requires-clause-currents
needed_pages-needed-requires-clause-currents g c = subst (λ (x : Contents). CurrentsStand c.args.map x.currents x.table) (sym c.roll_region-count.ensures.frame) c.requires.currents

pub needed_pages-needed-requires-clause-some : goal.needed_pages-needed-requires-clause-some
needed_pages-needed-requires-clause-some g c = ∥∥₁_map c.requires.some (λ z. (z.0, z.2, (c.roll_region-count.ensures.rolled z.0 z.1 z.2 z.3).0))

pub free_count-free-requires-clause-pool : goal.free_count-free-requires-clause-pool
free_count-free-requires-clause-pool g c =
    let m = c.args.map in
    let old = contents m (g.W.Words.words c.args.words.now) in
    let mid = contents m (g.W.Words.words c.roll_region-count.new.words) in
    let done = contents m (g.W.Words.words c.needed_pages-needed.new.words) in
    let frame : OnlyScratch old done = scratch_then old mid done c.roll_region-count.ensures.frame c.needed_pages-needed.ensures.others.frame in
    subst (λ (x : Contents). PoolStands m x.heads x.pool x.table) (sym frame) c.requires.pool

pub returns-then-needed-free-clause-frame : goal.returns-then-needed-free-clause-frame
returns-then-needed-free-clause-frame g c =
    let m = c.args.map in
    let old = contents m (g.W.Words.words c.args.words.now) in
    let mid = contents m (g.W.Words.words c.roll_region-count.new.words) in
    let done = contents m (g.W.Words.words c.needed_pages-needed.new.words) in
    let frame : OnlyScratch old done = scratch_then old mid done c.roll_region-count.ensures.frame c.needed_pages-needed.ensures.others.frame in
    rw c.free_count-free.ensures.words frame

pub returns-clause-frame : goal.returns-clause-frame
returns-clause-frame g c =
    let m = c.args.map in
    let old = contents m (g.W.Words.words c.args.words.now) in
    let mid = contents m (g.W.Words.words c.roll_region-count.new.words) in
    let done = contents m (g.W.Words.words c.needed_pages-needed.new.words) in
    let frame : OnlyScratch old done = scratch_then old mid done c.roll_region-count.ensures.frame c.needed_pages-needed.ensures.others.frame in
    rw c.free_count-free.ensures.words frame

pub returns-then-needed-free-clause-weighed : goal.returns-then-needed-free-clause-weighed
returns-then-needed-free-clause-weighed g c q index ready same =
    let m = c.args.map in
    let old = contents m (g.W.Words.words c.args.words.now) in
    let mid = contents m (g.W.Words.words c.roll_region-count.new.words) in
    let done = contents m (g.W.Words.words c.needed_pages-needed.new.words) in
    let frame : OnlyScratch old done = scratch_then old mid done c.roll_region-count.ensures.frame c.needed_pages-needed.ensures.others.frame in
    let count = c.roll_region-count.result in
    let size : length done.scratch ≡ length mid.scratch = length-scratch m _ c.needed_pages-needed.ensures.sound.whole ∙ sym (length-scratch m _ c.roll_region-count.ensures.sound.whole) in
    let rolled = c.roll_region-count.ensures.rolled q index ready same in
    let last : OnlyRooms m mid done = c.needed_pages-needed.ensures.others in
    let roll : Rolled q done (heap_length m) count = roll_still m q mid done count size last rolled.0 in
    let rooms : (i : ℕ) → rooms_at m mid c.args.thread i ≡ rooms_at m q.words c.args.thread i = λ i. rooms_scratch m q.words mid c.args.thread i (subst (λ x. OnlyScratch x mid) (sym same) c.roll_region-count.ensures.frame) in
    let needed : c.needed_pages-needed.result ≡ (filling m (rooms_at m q.words c.args.thread) (index_on q done (heap_length m) count roll) (size_on q done (heap_length m) count roll) count).claimed = c.needed_pages-needed.ensures.needed q ready rolled.0 ∙ ap (λ (f : Filling). f.claimed) (filling_rooms m (rooms_at m mid c.args.thread) (rooms_at m q.words c.args.thread) (index_on q done (heap_length m) count roll) (size_on q done (heap_length m) count roll) count rooms) in
    let free : c.free_count-free.result ≡ length (free_pages q.words.heads q.words.pool) = c.free_count-free.ensures.count ∙ ap (λ (x : Contents). length (free_pages x.heads x.pool)) (frame ∙ ap (λ (x : Contents). record x { scratch = done.scratch }) (sym same)) in
    let reads : g.W.Words.reads c.free_count-free.new.words ≤ g.W.Words.reads c.args.words.now + (c.args.end + pages_of q.words.table q.region) + (used_of q.words.table q.region + 4 * count + 2 * (MAX_SPACE + 2)) = omega (arith, rolled.2, c.needed_pages-needed.ensures.reads, c.free_count-free.ensures.reads) in
    rw c.free_count-free.ensures.words (record { count = count; roll = roll; all = rolled.1; weighed = (needed, free, omega (arith, c.if-needed-free.true, needed, free)); reads = reads })

pub returns-clause-weighed : goal.returns-clause-weighed
returns-clause-weighed g c q index ready same =
    let m = c.args.map in
    let old = contents m (g.W.Words.words c.args.words.now) in
    let mid = contents m (g.W.Words.words c.roll_region-count.new.words) in
    let done = contents m (g.W.Words.words c.needed_pages-needed.new.words) in
    let frame : OnlyScratch old done = scratch_then old mid done c.roll_region-count.ensures.frame c.needed_pages-needed.ensures.others.frame in
    let count = c.roll_region-count.result in
    let size : length done.scratch ≡ length mid.scratch = length-scratch m _ c.needed_pages-needed.ensures.sound.whole ∙ sym (length-scratch m _ c.roll_region-count.ensures.sound.whole) in
    let rolled = c.roll_region-count.ensures.rolled q index ready same in
    let last : OnlyRooms m mid done = c.needed_pages-needed.ensures.others in
    let roll : Rolled q done (heap_length m) count = roll_still m q mid done count size last rolled.0 in
    let rooms : (i : ℕ) → rooms_at m mid c.args.thread i ≡ rooms_at m q.words c.args.thread i = λ i. rooms_scratch m q.words mid c.args.thread i (subst (λ x. OnlyScratch x mid) (sym same) c.roll_region-count.ensures.frame) in
    let needed : c.needed_pages-needed.result ≡ (filling m (rooms_at m q.words c.args.thread) (index_on q done (heap_length m) count roll) (size_on q done (heap_length m) count roll) count).claimed = c.needed_pages-needed.ensures.needed q ready rolled.0 ∙ ap (λ (f : Filling). f.claimed) (filling_rooms m (rooms_at m mid c.args.thread) (rooms_at m q.words c.args.thread) (index_on q done (heap_length m) count roll) (size_on q done (heap_length m) count roll) count rooms) in
    let free : c.free_count-free.result ≡ length (free_pages q.words.heads q.words.pool) = c.free_count-free.ensures.count ∙ ap (λ (x : Contents). length (free_pages x.heads x.pool)) (frame ∙ ap (λ (x : Contents). record x { scratch = done.scratch }) (sym same)) in
    let reads : g.W.Words.reads c.free_count-free.new.words ≤ g.W.Words.reads c.args.words.now + (c.args.end + pages_of q.words.table q.region) + (used_of q.words.table q.region + 4 * count + 2 * (MAX_SPACE + 2)) = omega (arith, rolled.2, c.needed_pages-needed.ensures.reads, c.free_count-free.ensures.reads) in
    rw c.free_count-free.ensures.words (record { count = count; roll = roll; all = rolled.1; weighed = (refl, omega (arith, c.if-needed-free.false, needed, free)); reads = reads })
