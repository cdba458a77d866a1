use Rattle.std.proofs.Props.{props}
use Rattle.std.proofs.Math.Logic.{∥∥₁_elim, ∥∥₁_map}
use Rattle.std.proofs.Common.{◌≡◌, ◌+◌, ℕ, List, arith, refl, sym, ap, ◌∙◌, subst, get_or, length}
use Rattle.heap_words.specs.Map.{heap_length}
use Rattle.heap_words.specs.Contents.{contents, with_scratch}
use Rattle.heap_words.proofs.Contents.{length-scratch}
use Rattle.escape_closure.specs.Placing.{Filling, RoomsStand, claims, filled, filling, index_on, left, size_on}
use Rattle.escape_closure.proofs.Placing.{entry_of_roll, claims_most, filling_more, filling_none, only_first, only_more, roll_still, rooms_more}
use Rattle.escape_closure.proofs.needing.claims_of.Goals as goal

pub read_entry-entry-requires-clause-some : goal.read_entry-entry-requires-clause-some
read_entry-entry-requires-clause-some g c =
    let m = c.args.map in
    let old = contents m (g.W.Words.words c.args.words.now) in
    let mid = contents m (g.W.Words.words c.loop-k.words) in
    let size : length mid.scratch ≡ length old.scratch = length-scratch m _ c.loop-k.invariant.sound.whole ∙ sym (length-scratch m _ c.requires.sound.whole) in
    ∥∥₁_map c.requires.some (λ z. (z.0, z.1, z.2.name c.loop-k.k, entry_of_roll m z.0 mid c.args.count c.loop-k.k (roll_still m z.0 old mid c.args.count size c.loop-k.invariant.others z.2) (omega arith)))

pub overflow_add-needed : goal.overflow_add-needed
overflow_add-needed g c =
    ∥∥₁_elim c.requires.some (hlevel props) (λ z.
    let most = claims_most c.read_entry-entry.result.size (get_or (contents c.args.map (g.W.Words.words c.read_entry-entry.new.words)).scratch (heap_length c.args.map + c.read_entry-entry.result.index) 0) in
    omega (arith, z.2.room, c.loop-k.invariant.few, c.requires.sound.areas, c.use_room-needed.ensures.claims, most))

pub loop-k-init : goal.loop-k-init
loop-k-init g c = record {
  sound = c.requires.sound;
  base = refl;
  reads = omega arith;
  few = omega arith;
  others = only_first c.args.map (contents c.args.map (g.W.Words.words c.args.words.now));
  filled = λ q ready r rooms stand. rw filling_none (refl, stand);
}

pub loop-k-preserved : goal.loop-k-preserved
loop-k-preserved g c =
    let m = c.args.map in
    let old = contents m (g.W.Words.words c.args.words.now) in
    let mid = contents m (g.W.Words.words c.loop-k.words) in
    let new = contents m (g.W.Words.words c.use_room-needed.new.words) in
    let k = c.loop-k.k in
    let index = c.read_entry-entry.result.index in
    let size = c.read_entry-entry.result.size in
    let made : new ≡ with_scratch mid (heap_length m + index) (left m size (get_or mid.scratch (heap_length m + index) 0)) =
    c.use_room-needed.ensures.left ∙ ap (λ (x : List ℕ). with_scratch (contents m x) (heap_length m + index) (left m size (get_or (contents m x).scratch (heap_length m + index) 0))) c.read_entry-entry.ensures.words in
    let claimed : c.use_room-needed.result ≡ claims size (get_or mid.scratch (heap_length m + index) 0) = c.use_room-needed.ensures.claims ∙ ap (λ (x : List ℕ). claims size (get_or (contents m x).scratch (heap_length m + index) 0)) c.read_entry-entry.ensures.words in
    let long = length-scratch m (g.W.Words.words c.loop-k.words) c.loop-k.invariant.sound.whole in
    record {
      sound = c.use_room-needed.ensures.sound;
      base = c.use_room-needed.ensures.base ∙ c.read_entry-entry.ensures.base ∙ c.loop-k.invariant.base;
      reads = omega (arith, c.use_room-needed.ensures.reads, c.read_entry-entry.ensures.reads, c.loop-k.invariant.reads);
      few = omega (arith, c.loop-k.invariant.few, claimed, claims_most size (get_or mid.scratch (heap_length m + index) 0));
      others = only_more m old mid new index (left m size (get_or mid.scratch (heap_length m + index) 0)) c.loop-k.invariant.others made;
      filled = λ q ready r rooms stand.
          let now = c.loop-k.invariant.filled q ready r rooms stand in
          let same : length mid.scratch ≡ length old.scratch = long ∙ sym (length-scratch m _ c.requires.sound.whole) in
          let told = c.read_entry-entry.ensures.read q ready (r.name k) (entry_of_roll m q mid c.args.count k (roll_still m q old mid c.args.count same c.loop-k.invariant.others r) (omega arith)) in
          let indices : ℕ → ℕ = index_on q old (heap_length m) c.args.count r in
          let sizes : ℕ → ℕ = size_on q old (heap_length m) c.args.count r in
          let f : Filling = filling m rooms indices sizes k in
          let low = c.read_entry-entry.ensures.index in
          let step : RoomsStand m new (filled m f index size).rooms = rooms_more m mid new f index size low long now.1 made in
          let cost : c.loop-k.needed + c.use_room-needed.result ≡ (filled m f index size).claimed = ap (λ n. n + c.use_room-needed.result) now.0 ∙ ap (λ n. f.claimed + n) (claimed ∙ ap (claims size) (now.1 index low)) in
          let moved : (c.loop-k.needed + c.use_room-needed.result ≡ (filled m f (indices k) (sizes k)).claimed) × RoomsStand m new (filled m f (indices k) (sizes k)).rooms =
          subst (λ i. (c.loop-k.needed + c.use_room-needed.result ≡ (filled m f i (sizes k)).claimed) × RoomsStand m new (filled m f i (sizes k)).rooms) told.2 (subst (λ s. (c.loop-k.needed + c.use_room-needed.result ≡ (filled m f index s).claimed) × RoomsStand m new (filled m f index s).rooms) told.1 (cost, step)) in
          rw (filling_more m rooms indices sizes k) moved;
    }

pub returns-clause-needed : goal.returns-clause-needed
returns-clause-needed g c q ready r rooms stand =
    let m = c.args.map in
    let old = contents m (g.W.Words.words c.args.words.now) in
    let ends : c.loop-k.k ≡ c.args.count = omega arith in
    (c.loop-k.invariant.filled q ready r rooms stand).0 ∙ ap (λ k. (filling m rooms (index_on q old (heap_length m) c.args.count r) (size_on q old (heap_length m) c.args.count r) k).claimed) ends
