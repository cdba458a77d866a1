use Rattle.std.proofs.Common.{◌≡◌, ◌-◌, [], ◌∷◌, replicate, ap, sym, ◌∙◌, length, refl}
use Rattle.heap_words.specs.Contents.{Contents, contents, zero_contents, with_head, with_page, with_heap, with_current}
use Rattle.heap_words.proofs.Zero.{contents-zero, sound-zero}
use Rattle.heap_words.proofs.Contents.{length-pool}
use Rattle.region_pages.specs.declared.TheConstants.{POOL_LENGTH, SPACE_WORD, USED_MARK}
use Rattle.yak_model.specs.declared.TheConstants.{ROOT_FIELDS}
use Rattle.yak_model.specs.Room.{root_words}
use Rattle.heap_core.specs.Opening.{opened}
use Rattle.object_layout.specs.Layout.{header_word}
use Rattle.heap_core.proofs.OpeningRecords.{opening_recorded}
use Rattle.heap_core.proofs.made.open_words.Goals as goal

pub set_head-requires-clause-sound : goal.set_head-requires-clause-sound
set_head-requires-clause-sound g c = rw c.requires.zero (sound-zero c.args.map c.requires.areas)

pub push_roots-requires-clause-empty : goal.push_roots-requires-clause-empty
push_roots-requires-clause-empty g c =
    let m = c.args.map in
    let zero : contents m (g.W.Words.words c.args.words.now) ≡ zero_contents m = rw c.requires.zero (contents-zero m) in
    let e : contents m (g.W.Words.words c.set_heap.new.words) ≡ with_heap (with_current (with_page (with_page (with_head (zero_contents m) POOL_LENGTH (m.pages - 1)) 0 SPACE_WORD 1) 0 USED_MARK root_words) 1 0 1) 0 c.encode_header-header.result = rw (c.set_heap.ensures.set, c.set_current.ensures.set, c.set_page-2.ensures.set, c.set_page.ensures.set, c.set_head.ensures.set, zero) refl in
    ap (λ (x : Contents). x.stacks) c.fill_pool.ensures.others ∙ ap (λ (x : Contents). x.stacks) e

pub returns-clause-opened : goal.returns-clause-opened
returns-clause-opened g c =
    let m = c.args.map in
    let zero : contents m (g.W.Words.words c.args.words.now) ≡ zero_contents m = rw c.requires.zero (contents-zero m) in
    let e : contents m (g.W.Words.words c.set_heap.new.words) ≡ with_heap (with_current (with_page (with_page (with_head (zero_contents m) POOL_LENGTH (m.pages - 1)) 0 SPACE_WORD 1) 0 USED_MARK root_words) 1 0 1) 0 (header_word (record { fields = ROOT_FIELDS; space = 0 })) = rw (c.set_heap.ensures.set, c.set_current.ensures.set, c.set_page-2.ensures.set, c.set_page.ensures.set, c.set_head.ensures.set, zero, c.encode_header-header.ensures.word) refl in
    let filled = contents m (g.W.Words.words c.fill_pool.new.words) in
    let f : contents m (g.W.Words.words c.push_roots.new.words) ≡ opened m filled.pool =
    c.push_roots.ensures.pushed ∙ ap (λ (x : Contents). record x { stacks = replicate m.threads (2 ∷ []) }) (c.fill_pool.ensures.others ∙ ap (λ (x : Contents). record x { pool = filled.pool }) e)
    in
    (filled.pool, f, c.fill_pool.ensures.counts)

pub returns-clause-stands : goal.returns-clause-stands
returns-clause-stands g c =
    let m = c.args.map in
    let o = returns-clause-opened g c in
    let long : length o.0 ≡ m.pages = ap (λ (x : Contents). length x.pool) (sym o.1) ∙ length-pool m (g.W.Words.words c.push_roots.new.words) c.push_roots.ensures.sound.whole in
    rw o.1 (opening_recorded m o.0 c.requires.areas long o.2)
