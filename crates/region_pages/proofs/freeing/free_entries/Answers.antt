use Rattle.std.proofs.Common.{◌≡◌, ◌≢◌, ◌<◌, ◌≤◌, ◌+◌, ◌⊎◌, ℕ, ◌-◌, List, [], ◌∷◌, ◌++◌, length, get_or, set, ap, sym, ◌∙◌, arith, true≢false, inl, inr, ⊎_elim}
use Rattle.std.proofs.lemmas.Bool.{cases_eq}
use Rattle.std.proofs.lemmas.List.{length_push}
use Rattle.heap_words.specs.Cells.{row}
use Rattle.heap_words.specs.Contents.{Contents, contents, with_pool}
use Rattle.yak_model.specs.Placed.{space_word}
use Rattle.region_pages.specs.Counts.{free_in}
use Rattle.region_pages.specs.Ends.{used_end}
use Rattle.region_pages.specs.Freeing.{free_below, freed, freed_table, pool_with}
use Rattle.region_pages.proofs.Shapes.{Shape, shape}
use Rattle.region_pages.proofs.Counting.{length-below}
use Rattle.region_pages.proofs.Ends.{below_grow, end_more_taken, end_rest, none_left}
use Rattle.region_pages.proofs.Freed.{below_more_free, below_more_taken, freed_to, freed_to_row, freed_to_more, freed_to_free, pool_more, pool_over}
use Rattle.region_pages.proofs.Released.{freed_free}
use Rattle.region_pages.proofs.freeing.free_entries.Goals as goal
use Rattle.region_pages.proofs.freeing.free_entries.Goals.{then-is_free_then, else-is_free_then, then-loop-page-test+else-left-gt0, else-loop-page-test}

pub left_behind-left-requires : goal.left_behind-left-requires
left_behind-left-requires g c taken = omega (arith, c.loop-page-test.true)

-- what a page leaves of the pages in use, and of the reads
record Left (table : List (List ℕ)) (i used rest first after : ℕ) : Type 0 where
  left : rest + (i + 1) ≡ used + length (free_below table (i + 1))
  few : rest ≡ 0 → after ≤ first + used_end table (i + 1)

left_then : (table : List (List ℕ)) (i used left rest first before after : ℕ) → left + i ≡ used + length (free_below table i) → 0 < left → before ≤ first + i → after ≤ before + 1 → (space_word table i ≡ 0 → rest ≡ left) → (space_word table i ≢ 0 → rest + 1 ≡ left) → Left table i used rest first after
left_then table i used left rest first before after count some reads more free taken = ⊎_elim
    (λ (e : space_word table i ≡ 0).
    let is : rest ≡ left = free e in
    let one = ap (λ (xs : List ℕ). length xs) (below_more_free table i e) ∙ length_push (free_below table i) i in
    record {
      left = omega (arith, is, one, count);
      few = λ (z : rest ≡ 0). absurd (omega (arith, z, is, some));
    })
    (λ (ne : space_word table i ≢ 0).
    let is : rest + 1 ≡ left = taken ne in
    let one = ap (λ (xs : List ℕ). length xs) (below_more_taken table i ne) in
    let end = end_more_taken table i ne in
    record {
      left = omega (arith, is, one, count);
      few = λ (z : rest ≡ 0). omega (arith, end, more, reads);
    })
    (cases_eq (space_word table i) 0)

pub loop-page-preserved : goal.loop-page-preserved
loop-page-preserved g c =
    let m = c.args.map in
    let i = c.loop-page.page in
    let word = c.args.word in
    let inv = c.loop-page.invariant in
    let entry = c.free_entry-was.ensures in
    let old = contents m (g.W.Words.words c.args.words.now) in
    let s : Shape m old = shape m (g.W.Words.words c.args.words.now) c.requires.sound in
    let lt : i < length old.table = omega (arith, s.table) in
    let new : List (List ℕ) = freed_table word old.table in
    let pages : List ℕ = free_below new i in
    let was : c.free_entry-was.result ≡ space_word old.table i = entry.was ∙ ap (λ (x : Contents). space_word x.table i) inv.freed ∙ ap (λ (r : List ℕ). get_or r 0 0) (freed_to_row word old.table i lt) in
    let left : Left old.table i c.args.used c.left_behind-left.result (g.W.Words.reads c.args.words.now) (g.W.Words.reads c.free_entry-was.new.words) =
    left_then old.table i c.args.used c.loop-page.left c.left_behind-left.result (g.W.Words.reads c.args.words.now) (g.W.Words.reads c.loop-page.words) (g.W.Words.reads c.free_entry-was.new.words) inv.left (omega (arith, c.loop-page-test.true)) inv.reads entry.reads (λ e. c.left_behind-left.ensures.free (was ∙ e)) (λ ne. c.left_behind-left.ensures.taken (λ e. ne (sym was ∙ e))) in
    let entered : contents m (g.W.Words.words c.free_entry-was.new.words) ≡ record old { table = freed_to word old.table (i + 1); pool = pool_with pages old.pool } =
    entry.freed
    ∙ ap (λ (x : Contents). record x { table = set x.table i (freed word (row x.table i)) }) inv.freed
    ∙ ap (λ (t : List (List ℕ)). record old { table = t; pool = pool_with pages old.pool }) (ap (λ (r : List ℕ). set (freed_to word old.table i) i (freed word r)) (freed_to_row word old.table i lt) ∙ freed_to_more word old.table i lt) in
    elim c.if-is_free_then.branch [
      | then-is_free_then w ↦
          let told : (space_word old.table i ≡ 0) ⊎ (space_word old.table i ≡ word) = ⊎_elim (λ (e : c.free_entry-was.result ≡ 0). inl (sym was ∙ e)) (λ (e : c.free_entry-was.result ≡ word). inr (sym was ∙ e)) (c.is_free_then.ensures.0 w.if-is_free_then.true) in
          let free : space_word new i ≡ 0 = (freed_free word old.table i lt).1 told in
          let more = below_more_free new i free in
          let lt : length pages < length old.pool = omega (arith, inv.count, inv.most, s.pool) in
          let put : set (pool_with pages old.pool) c.loop-page.count w.from.result ≡ pool_with (free_below new (i + 1)) old.pool = ap (λ (k : ℕ). set (pool_with pages old.pool) k w.from.result) inv.count ∙ pool_more pages old.pool w.from.result lt ∙ ap (λ (v : ℕ). pool_with (pages ++ v ∷ []) old.pool) w.from.ensures ∙ ap (λ (xs : List ℕ). pool_with xs old.pool) (sym more) in
          record {
            sound = rw w.words-is w.set_pool.ensures.sound;
            base = rw w.words-is (w.set_pool.ensures.base ∙ entry.base ∙ inv.base);
            reads = rw w.words-is (omega (arith, w.set_pool.ensures.reads, entry.reads, inv.reads));
            few = λ none. rw w.words-is (omega (arith, w.set_pool.ensures.reads, left.few none));
            within = omega arith;
            most = omega (arith, w.count-is, inv.most);
            left = left.left;
            count = omega (arith, w.count-is, inv.count, ap (λ (xs : List ℕ). length xs) more, length_push pages i);
            freed = rw w.words-is (w.set_pool.ensures.set ∙ ap (λ (x : Contents). with_pool x c.loop-page.count w.from.result) entered ∙ ap (λ (xs : List ℕ). record old { table = freed_to word old.table (i + 1); pool = xs }) put);
          }
      | else-is_free_then w ↦
          let taken : space_word new i ≢ 0 = λ e.
          let told : (c.free_entry-was.result ≡ 0) ⊎ (c.free_entry-was.result ≡ word) = ⊎_elim (λ (z : space_word old.table i ≡ 0). inl (was ∙ z)) (λ (z : space_word old.table i ≡ word). inr (was ∙ z)) ((freed_free word old.table i lt).0 e) in
          true≢false (sym (c.is_free_then.ensures.1 told) ∙ w.if-is_free_then.false) in
          let same = below_more_taken new i taken in
          record {
            sound = rw w.words-is entry.sound;
            base = rw w.words-is (entry.base ∙ inv.base);
            reads = rw w.words-is (omega (arith, entry.reads, inv.reads));
            few = λ none. rw w.words-is (left.few none);
            within = omega arith;
            most = omega (arith, w.count-is, inv.most);
            left = left.left;
            count = omega (arith, w.count-is, inv.count, ap (λ (xs : List ℕ). length xs) same);
            freed = rw w.words-is (entered ∙ ap (λ (xs : List ℕ). record old { table = freed_to word old.table (i + 1); pool = pool_with xs old.pool }) (sym same));
          }
    ]

-- the pages behind that at which the loop stops are free, and so the whole table stands as it does then
record Stopped (word : ℕ) (table : List (List ℕ)) (n page : ℕ) : Type 0 where
  free : (p : ℕ) → page ≤ p → p < n → space_word (freed_table word table) p ≡ 0
  whole : freed_to word table page ≡ freed_table word table
  more : length (free_below (freed_table word table) page) ≤ length (free_below (freed_table word table) n)

stopped : (word : ℕ) (table : List (List ℕ)) (n page used left : ℕ) → 0 < word → length table ≡ n → n ≤ used + free_in table → page ≤ n → left + page ≡ used + length (free_below table page) → (left ≡ 0) ⊎ (page ≡ n) → Stopped word table n page
stopped word table n page used left some rows most within count at =
    let behind : (p : ℕ) → page ≤ p → p < n → space_word table p ≡ 0 = λ p from lt. ⊎_elim (λ (none : left ≡ 0). none_left table n page used left p rows most within count none from lt) (λ (end : page ≡ n). absurd (omega (arith, end, from, lt))) at in
    let new : List (List ℕ) = freed_table word table in
    let rest : page + (n - page) ≡ n = omega (arith, within) in
    record {
      free = λ p from lt. (freed_free word table p (omega (arith, rows, lt))).1 (inl (behind p from lt));
      whole = freed_to_free word table (n - page) page some (omega (arith, rows, rest)) (λ p from lt. behind p from (omega (arith, rows, lt)));
      more = omega (arith, below_grow new (n - page) page, ap (λ (i : ℕ). length (free_below new i)) rest);
    }

pub fill_behind-requires-clause-count : goal.fill_behind-requires-clause-count
fill_behind-requires-clause-count g c =
    let m = c.args.map in
    let i = c.loop-page.page in
    let inv = c.loop-page.invariant in
    let old = contents m (g.W.Words.words c.args.words.now) in
    let s : Shape m old = shape m (g.W.Words.words c.args.words.now) c.requires.sound in
    let at : (c.loop-page.left ≡ 0) ⊎ (i ≡ m.pages) = elim c.loop-page-test.branch [
      | then-loop-page-test+else-left-gt0 w ↦ inl (omega (arith, w.if-left-gt0.false))
      | else-loop-page-test w ↦ inr (omega (arith, w.loop-page-test.false, inv.within))
    ] in
    let stop = stopped c.args.word old.table m.pages i c.args.used c.loop-page.left c.requires.word s.table c.requires.used inv.within inv.left at in
    inv.count ∙ ap (λ (t : List (List ℕ)). length (free_below t i)) (sym stop.whole ∙ sym (ap (λ (x : Contents). x.table) inv.freed))

pub fill_behind-requires-clause-free : goal.fill_behind-requires-clause-free
fill_behind-requires-clause-free g c p from lt =
    let m = c.args.map in
    let i = c.loop-page.page in
    let inv = c.loop-page.invariant in
    let old = contents m (g.W.Words.words c.args.words.now) in
    let s : Shape m old = shape m (g.W.Words.words c.args.words.now) c.requires.sound in
    let at : (c.loop-page.left ≡ 0) ⊎ (i ≡ m.pages) = elim c.loop-page-test.branch [
      | then-loop-page-test+else-left-gt0 w ↦ inl (omega (arith, w.if-left-gt0.false))
      | else-loop-page-test w ↦ inr (omega (arith, w.loop-page-test.false, inv.within))
    ] in
    let stop = stopped c.args.word old.table m.pages i c.args.used c.loop-page.left c.requires.word s.table c.requires.used inv.within inv.left at in
    ap (λ (t : List (List ℕ)). space_word t p) (ap (λ (x : Contents). x.table) inv.freed ∙ stop.whole) ∙ stop.free p from lt

pub fill_behind-requires-clause-begun : goal.fill_behind-requires-clause-begun
fill_behind-requires-clause-begun g c =
    let m = c.args.map in
    let i = c.loop-page.page in
    let inv = c.loop-page.invariant in
    let old = contents m (g.W.Words.words c.args.words.now) in
    let mid = contents m (g.W.Words.words c.loop-page.words) in
    let s : Shape m old = shape m (g.W.Words.words c.args.words.now) c.requires.sound in
    let at : (c.loop-page.left ≡ 0) ⊎ (i ≡ m.pages) = elim c.loop-page-test.branch [
      | then-loop-page-test+else-left-gt0 w ↦ inl (omega (arith, w.if-left-gt0.false))
      | else-loop-page-test w ↦ inr (omega (arith, w.loop-page-test.false, inv.within))
    ] in
    let new : List (List ℕ) = freed_table c.args.word old.table in
    let stop = stopped c.args.word old.table m.pages i c.args.used c.loop-page.left c.requires.word s.table c.requires.used inv.within inv.left at in
    let table : mid.table ≡ new = ap (λ (x : Contents). x.table) inv.freed ∙ stop.whole in
    let pool : mid.pool ≡ pool_with (free_below new i) old.pool = ap (λ (x : Contents). x.pool) inv.freed in
    ap (λ (t : List (List ℕ)). pool_with (free_below t i) mid.pool) table
    ∙ ap (pool_with (free_below new i)) pool
    ∙ pool_over (free_below new i) (free_below new i) old.pool (omega arith)
    ∙ sym pool

pub returns-clause-count : goal.returns-clause-count
returns-clause-count g c =
    let m = c.args.map in
    let i = c.loop-page.page in
    let inv = c.loop-page.invariant in
    let old = contents m (g.W.Words.words c.args.words.now) in
    let s : Shape m old = shape m (g.W.Words.words c.args.words.now) c.requires.sound in
    let at : (c.loop-page.left ≡ 0) ⊎ (i ≡ m.pages) = elim c.loop-page-test.branch [
      | then-loop-page-test+else-left-gt0 w ↦ inl (omega (arith, w.if-left-gt0.false))
      | else-loop-page-test w ↦ inr (omega (arith, w.loop-page-test.false, inv.within))
    ] in
    let stop = stopped c.args.word old.table m.pages i c.args.used c.loop-page.left c.requires.word s.table c.requires.used inv.within inv.left at in
    c.fill_behind.ensures.count ∙ ap (λ (t : List (List ℕ)). length (free_below t m.pages)) (ap (λ (x : Contents). x.table) inv.freed ∙ stop.whole)

pub returns-clause-freed : goal.returns-clause-freed
returns-clause-freed g c =
    let m = c.args.map in
    let i = c.loop-page.page in
    let inv = c.loop-page.invariant in
    let old = contents m (g.W.Words.words c.args.words.now) in
    let mid = contents m (g.W.Words.words c.loop-page.words) in
    let s : Shape m old = shape m (g.W.Words.words c.args.words.now) c.requires.sound in
    let at : (c.loop-page.left ≡ 0) ⊎ (i ≡ m.pages) = elim c.loop-page-test.branch [
      | then-loop-page-test+else-left-gt0 w ↦ inl (omega (arith, w.if-left-gt0.false))
      | else-loop-page-test w ↦ inr (omega (arith, w.loop-page-test.false, inv.within))
    ] in
    let new : List (List ℕ) = freed_table c.args.word old.table in
    let some : List ℕ = free_below new i in
    let all : List ℕ = free_below new m.pages in
    let stop = stopped c.args.word old.table m.pages i c.args.used c.loop-page.left c.requires.word s.table c.requires.used inv.within inv.left at in
    let settled : mid ≡ record old { table = new; pool = pool_with some old.pool } = inv.freed ∙ ap (λ (t : List (List ℕ)). record old { table = t; pool = pool_with some old.pool }) stop.whole in
    c.fill_behind.ensures.filled
    ∙ ap (λ (x : Contents). record x { pool = pool_with (free_below x.table m.pages) x.pool }) settled
    ∙ ap (λ (xs : List ℕ). record old { table = new; pool = xs }) (pool_over some all old.pool stop.more)

pub returns-clause-few : goal.returns-clause-few
returns-clause-few g c exact =
    let m = c.args.map in
    let i = c.loop-page.page in
    let inv = c.loop-page.invariant in
    let old = contents m (g.W.Words.words c.args.words.now) in
    let s : Shape m old = shape m (g.W.Words.words c.args.words.now) c.requires.sound in
    let at : (c.loop-page.left ≡ 0) ⊎ (i ≡ m.pages) = elim c.loop-page-test.branch [
      | then-loop-page-test+else-left-gt0 w ↦ inl (omega (arith, w.if-left-gt0.false))
      | else-loop-page-test w ↦ inr (omega (arith, w.loop-page-test.false, inv.within))
    ] in
    let none : c.loop-page.left ≡ 0 = ⊎_elim
    (λ (z : c.loop-page.left ≡ 0). z)
    (λ (end : i ≡ m.pages).
    let all : length (free_below old.table i) ≡ free_in old.table = ap (λ (k : ℕ). length (free_below old.table k)) end ∙ length-below old.table m.pages s.table in
    omega (arith, inv.left, all, end, exact))
    at in
    let rest : i + (m.pages - i) ≡ m.pages = omega (arith, inv.within) in
    let same : used_end old.table m.pages ≡ used_end old.table i = sym (ap (used_end old.table) rest) ∙ end_rest old.table (m.pages - i) i (λ p from lt. none_left old.table m.pages i c.args.used c.loop-page.left p s.table c.requires.used inv.within inv.left none from (omega (arith, lt, rest))) in
    omega (arith, c.fill_behind.ensures.reads, inv.few none, same)
