use Rattle.std.proofs.Common.{◌≡◌, ◌≢◌, ◌<◌, ◌+◌, arith, subst, sym, ap, ◌∙◌, List, ℕ, get_or, set}
use Rattle.heap_words.specs.Contents.{contents}
use Rattle.relocation.specs.Moves.{scratch_of}
use Rattle.relocation.specs.Moves.{size_at, move_at, Numbered}
use Rattle.relocation.specs.Slide.{IsPageOf, Sliding}
use Rattle.relocation.proofs.Slid.{reached, Offered, given, same_table, slide-skip, slide-more}
use Rattle.relocation.proofs.slides.plan_object.Goals as goal

pub object_size-size-requires-clause-within : goal.object_size-size-requires-clause-within
object_size-size-requires-clause-within g c =
    let q = c.requires.sliding in
    let r = reached _ c.args.slid q.0 q.1 _ _ _ _ _ _ q.2 q.3 in
    omega (arith, r.within)

pub object_size-size-requires-clause-header : goal.object_size-size-requires-clause-header
object_size-size-requires-clause-header g c =
    let q = c.requires.sliding in
    (reached _ c.args.slid q.0 q.1 _ _ _ _ _ _ q.2 q.3).header

pub get_heap-requires-clause-within : goal.get_heap-requires-clause-within
get_heap-requires-clause-within g c =
    let q = c.requires.sliding in
    let r = reached _ c.args.slid q.0 q.1 _ _ _ _ _ _ q.2 q.3 in
    omega (arith, r.within)

pub returns-then-get_heap-eq0-clause-sliding : goal.returns-then-get_heap-eq0-clause-sliding
returns-then-get_heap-eq0-clause-sliding g c was runs s o =
    let m = c.args.map in
    let first = g.W.Words.words c.args.words.now in
    let now = contents m first in
    let count = c.args.plan.now.count in
    let moves = move_at (scratch_of m first) in
    let next = c.args.cursor.now.next in
    let room = c.args.cursor.now.room in
    let a = c.args.a in
    let r = reached m c.args.slid was runs now count moves next room a s o in
    let same : g.W.Words.words c.get_heap.new.words ≡ first = c.get_heap.ensures.words ∙ c.object_size-size.ensures.words in
    let size : size_at was.heap a ≡ c.object_size-size.result = sym (c.object_size-size.ensures.size ∙ r.size) in
    let read : c.get_heap.result ≡ get_or was.heap (a + 2) 0 = c.get_heap.ensures.value ∙ ap (λ (ws : List ℕ). get_or (contents m ws).heap (a + 2) 0) c.object_size-size.ensures.words ∙ r.mark in
    let unmarked : get_or was.heap (a + 2) 0 ≡ 0 = sym read ∙ c.if-get_heap-eq0.true in
    subst (λ n. Sliding m c.args.slid was runs (contents m (g.W.Words.words c.get_heap.new.words)) count (move_at (scratch_of m (g.W.Words.words c.get_heap.new.words))) next room (a + n)) size (subst (λ (ws : List ℕ). Sliding m c.args.slid was runs (contents m ws) count (move_at (scratch_of m ws)) next room (a + size_at was.heap a)) (sym same) (slide-skip m c.args.slid was runs now count moves next room a s o unmarked))

pub next_place-new-requires-clause-size : goal.next_place-new-requires-clause-size
next_place-new-requires-clause-size g c =
    let q = c.requires.sliding in
    let r = reached _ c.args.slid q.0 q.1 _ _ _ _ _ _ q.2 q.3 in
    omega (arith, r.small, r.size, c.object_size-size.ensures.size)

pub next_place-new-requires-clause-page : goal.next_place-new-requires-clause-page
next_place-new-requires-clause-page g c less =
    let m = c.args.map in
    let q = c.requires.sliding in
    let r = reached _ c.args.slid q.0 q.1 _ _ _ _ _ _ q.2 q.3 in
    let p = r.page (omega (arith, r.size, c.object_size-size.ensures.size)) in
    let same : g.W.Words.words c.get_heap.new.words ≡ g.W.Words.words c.args.words.now = c.get_heap.ensures.words ∙ c.object_size-size.ensures.words in
    let table : (contents m (g.W.Words.words c.get_heap.new.words)).table ≡ q.0.table = ap (λ (ws : List ℕ). (contents m ws).table) same ∙ same_table _ c.args.slid q.0 q.1 _ _ _ _ _ _ q.2 in
    (p.0, p.1, subst (λ (t : List (List ℕ)). IsPageOf c.args.slid t p.0) (sym table) p.2, p.3)

pub add_move-requires-clause-room : goal.add_move-requires-clause-room
add_move-requires-clause-room g c =
    let q = c.requires.sliding in
    let r = reached _ c.args.slid q.0 q.1 _ _ _ _ _ _ q.2 q.3 in
    omega (arith, r.within, q.2.few)

pub add_move-requires-clause-within : goal.add_move-requires-clause-within
add_move-requires-clause-within g c =
    let m = c.args.map in
    let q = c.requires.sliding in
    let was = q.0 in
    let now = contents m (g.W.Words.words c.args.words.now) in
    let r = reached m c.args.slid was q.1 now _ _ _ _ _ q.2 q.3 in
    let same : g.W.Words.words c.get_heap.new.words ≡ g.W.Words.words c.args.words.now = c.get_heap.ensures.words ∙ c.object_size-size.ensures.words in
    let table : (contents m (g.W.Words.words c.get_heap.new.words)).table ≡ was.table = ap (λ (ws : List ℕ). (contents m ws).table) same ∙ same_table m c.args.slid was q.1 now _ _ _ _ _ q.2 in
    let size : c.object_size-size.result ≡ size_at was.heap c.args.a = c.object_size-size.ensures.size ∙ r.size in
    let f = c.next_place-new.ensures in
    let offer : Offered m c.args.slid (contents m (g.W.Words.words c.get_heap.new.words)).table c.args.cursor.now.next c.args.cursor.now.room c.object_size-size.result c.next_place-new.result c.next_place-new.new.cursor.next c.next_place-new.new.cursor.room = record {
      bounds = f.cursor;
      filled = f.front;
      past = f.past;
      first = f.first;
      fits = λ h. (f.fits h, f.stays h);
      taken = f.taken;
      nearest = f.nearest;
      dense = f.dense;
    } in
    let offer' = subst (λ n. Offered m c.args.slid was.table c.args.cursor.now.next c.args.cursor.now.room n c.next_place-new.result c.next_place-new.new.cursor.next c.next_place-new.new.cursor.room) size (subst (λ (t : List (List ℕ)). Offered m c.args.slid t c.args.cursor.now.next c.args.cursor.now.room c.object_size-size.result c.next_place-new.result c.next_place-new.new.cursor.next c.next_place-new.new.cursor.room) table offer) in
    let v = given m c.args.slid was q.1 now _ _ _ _ c.args.a _ _ _ q.2 q.3 offer' in
    (omega (arith, r.within), omega (arith, r.within, v.down))

pub returns-clause-sliding : goal.returns-clause-sliding
returns-clause-sliding g c was runs s o =
    let m = c.args.map in
    let first = g.W.Words.words c.args.words.now in
    let third = g.W.Words.words c.next_place-new.new.words in
    let last = g.W.Words.words c.add_move.new.words in
    let now = contents m first in
    let count = c.args.plan.now.count in
    let moves = move_at (scratch_of m first) in
    let next = c.args.cursor.now.next in
    let room = c.args.cursor.now.room in
    let next' = c.next_place-new.new.cursor.next in
    let room' = c.next_place-new.new.cursor.room in
    let new = c.next_place-new.result in
    let a = c.args.a in
    let r = reached m c.args.slid was runs now count moves next room a s o in
    let same : g.W.Words.words c.get_heap.new.words ≡ first = c.get_heap.ensures.words ∙ c.object_size-size.ensures.words in
    let same3 : third ≡ first = c.next_place-new.ensures.words ∙ same in
    let table : (contents m (g.W.Words.words c.get_heap.new.words)).table ≡ was.table = ap (λ (ws : List ℕ). (contents m ws).table) same ∙ same_table m c.args.slid was runs now count moves next room a s in
    let size : c.object_size-size.result ≡ size_at was.heap a = c.object_size-size.ensures.size ∙ r.size in
    let f = c.next_place-new.ensures in
    let offer : Offered m c.args.slid (contents m (g.W.Words.words c.get_heap.new.words)).table next room c.object_size-size.result new next' room' = record {
      bounds = f.cursor;
      filled = f.front;
      past = f.past;
      first = f.first;
      fits = λ h. (f.fits h, f.stays h);
      taken = f.taken;
      nearest = f.nearest;
      dense = f.dense;
    } in
    let offer' = subst (λ n. Offered m c.args.slid was.table next room n new next' room') size (subst (λ (t : List (List ℕ)). Offered m c.args.slid t next room c.object_size-size.result new next' room') table offer) in
    let v = given m c.args.slid was runs now count moves next room a new next' room' s o offer' in
    let read : c.get_heap.result ≡ get_or was.heap (a + 2) 0 = c.get_heap.ensures.value ∙ ap (λ (ws : List ℕ). get_or (contents m ws).heap (a + 2) 0) c.object_size-size.ensures.words ∙ r.mark in
    let marked : get_or was.heap (a + 2) 0 ≢ 0 = λ e. c.if-get_heap-eq0.false (read ∙ e) in
    let then : contents m last ≡ record now { scratch = scratch_of m last; heap = set now.heap (a + 2) (count + 1) } = c.add_move.ensures.marked ∙ ap (λ (ws : List ℕ). (let x = contents m ws in record x { scratch = scratch_of m last; heap = set x.heap (a + 2) (count + 1) })) same3 in
    let former : (j : ℕ) → j < count → move_at (scratch_of m last) j ≡ moves j = λ j lt. c.add_move.ensures.former j lt ∙ ap (λ (ws : List ℕ). move_at (scratch_of m ws) j) same3 in
    let more : c.add_move.new.plan.count ≡ count + 1 = c.add_move.ensures.count in
    let numbered : Numbered m (contents m last).heap (count + 1) (move_at (scratch_of m last)) = subst (λ n. Numbered m (contents m last).heap n (move_at (scratch_of m last))) more c.add_move.ensures.plan in
    let done = slide-more m c.args.slid was runs now (contents m last) count moves (move_at (scratch_of m last)) next room a new next' room' s o marked v then numbered former c.add_move.ensures.added in
    subst (λ n. Sliding m c.args.slid was runs (contents m last) n (move_at (scratch_of m last)) next' room' (a + c.object_size-size.result)) (sym more) (subst (λ n. Sliding m c.args.slid was runs (contents m last) (count + 1) (move_at (scratch_of m last)) next' room' (a + n)) (sym size) done)
