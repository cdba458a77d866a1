use Rattle.std.proofs.Common.{◌≡◌, ℕ, ◌+◌, ◌-◌, ◌*◌, ◌≤◌, ◌<◌, List, [], ◌∷◌, ◌++◌, take, drop, length, get_or, set, refl, sym, ap, subst, ◌∙◌, arith, length-take, length-drop, length-append, length-set}
use Rattle.std.proofs.Math.Seq.{map-set_same}
use Rattle.std.proofs.Props.{props}
use Rattle.std.proofs.lemmas.List.{map-set, get_or-map, length-map}
use Rattle.std.proofs.lemmas.List.Elements.{All-set, All-get_or}
use Rattle.heap_words.specs.declared.map.Areas.{Areas}
use Rattle.heap_words.specs.declared.TheConstants.{STACK_LENGTH, BUFFER_LENGTH, DEPTH_WORD, MADE_WORD, CURRENT_PAGES, HEAD_WORDS, STACK_SLOTS, BUFFER_ENTRIES}
use Rattle.heap_words.specs.Map.{max_depth, stack_start, buffer_start, chains_start, block_rest, rest_words, HasThread, HasPage, HasRegion, readers_at, sets_at, block_at, table_at, page_at, pool_at, scratch_at, heap_at, heap_length, scratch_length, total_of}
use Rattle.heap_words.specs.Cells.{Block, Cells, cells, no_block, block, with_block, row, SoundBlocks}
use Rattle.heap_words.specs.Contents.{spread, contents, stack_of, buffer_of, depth_of, made_of, currents_of, first_of, readers_of, with_stack, with_buffer, with_depth, with_made, with_current, with_first, with_head, with_page, with_pool, with_readers, with_set, with_heap, with_scratch, InLimits, Sound}
use Rattle.heap_words.proofs.Rows.{length-rows}
use Rattle.heap_words.proofs.Cells.{length-blocks, cells-set_head, cells-get_head, cells-set_page, cells-get_page, cells-set_pool, cells-get_pool, cells-set_readers, cells-get_readers, cells-set_sets, cells-get_sets, cells-set_scratch, cells-get_scratch, cells-set_heap, cells-get_heap}
use Rattle.heap_words.proofs.Blocks.{cells-grow_stack, cells-shrink_stack, cells-set_stack, cells-grow_buffer, cells-shrink_buffer, cells-set_depth, cells-set_made, cells-set_current, cells-set_first, first-word, length-block_firsts, stack_length-word, stack-word, buffer_length-word, buffer-word, depth-word, made-word, current-word, rest-word}

in_blocks : (m : Areas) (ws : List ℕ) (t : ℕ) → HasThread m t → t - 1 < length (cells m ws).blocks
in_blocks m ws t ht = rw (length-blocks m ws) (omega arith)

-- what the lists by thread have of a thread's block

pub depth-of_block : (m : Areas) (ws : List ℕ) (t : ℕ) → HasThread m t → depth_of (contents m ws) t ≡ (block (cells m ws) t).depth
unfolding contents
depth-of_block m ws t ht = get_or-map (λ (b : Block). b.depth) (cells m ws).blocks (t - 1) no_block 0 (in_blocks m ws t ht)

pub made-of_block : (m : Areas) (ws : List ℕ) (t : ℕ) → HasThread m t → made_of (contents m ws) t ≡ (block (cells m ws) t).made
unfolding contents
made-of_block m ws t ht = get_or-map (λ (b : Block). b.made) (cells m ws).blocks (t - 1) no_block 0 (in_blocks m ws t ht)

pub stack-of_block : (m : Areas) (ws : List ℕ) (t : ℕ) → HasThread m t → stack_of (contents m ws) t ≡ (block (cells m ws) t).stack
unfolding contents
stack-of_block m ws t ht = get_or-map (λ (b : Block). b.stack) (cells m ws).blocks (t - 1) no_block [] (in_blocks m ws t ht)

pub buffer-of_block : (m : Areas) (ws : List ℕ) (t : ℕ) → HasThread m t → buffer_of (contents m ws) t ≡ (block (cells m ws) t).buffer
unfolding contents
buffer-of_block m ws t ht = get_or-map (λ (b : Block). b.buffer) (cells m ws).blocks (t - 1) no_block [] (in_blocks m ws t ht)

pub current-of_block : (m : Areas) (ws : List ℕ) (t : ℕ) → HasThread m t → currents_of (contents m ws) t ≡ (block (cells m ws) t).current
unfolding contents
current-of_block m ws t ht = get_or-map (λ (b : Block). b.current) (cells m ws).blocks (t - 1) no_block [] (in_blocks m ws t ht)

pub firsts-of_block : (m : Areas) (ws : List ℕ) (t : ℕ) → HasThread m t → row (contents m ws).firsts (t - 1) ≡ (block (cells m ws) t).firsts
unfolding contents
firsts-of_block m ws t ht = get_or-map (λ (b : Block). b.firsts) (cells m ws).blocks (t - 1) no_block [] (in_blocks m ws t ht)

pub rest-of_block : (m : Areas) (ws : List ℕ) (t : ℕ) → HasThread m t → row (contents m ws).rests (t - 1) ≡ (block (cells m ws) t).rest
unfolding contents
rest-of_block m ws t ht = get_or-map (λ (b : Block). b.rest) (cells m ws).blocks (t - 1) no_block [] (in_blocks m ws t ht)

-- one part of one block changed

spread-depth : (c : Cells) (t : ℕ) (y : ℕ) → spread (with_block c t (let b = block c t in record b { depth = y })) ≡ with_depth (spread c) t y
spread-depth c t y =
    let x : Block = (let b = block c t in record b { depth = y }) in
    rw (
      map-set_same (λ (b : Block). b.made) c.blocks (t - 1) x no_block refl,
      map-set_same (λ (b : Block). b.stack) c.blocks (t - 1) x no_block refl,
      map-set_same (λ (b : Block). b.buffer) c.blocks (t - 1) x no_block refl,
      map-set_same (λ (b : Block). b.current) c.blocks (t - 1) x no_block refl,
      map-set_same (λ (b : Block). b.rest) c.blocks (t - 1) x no_block refl,
      map-set_same (λ (b : Block). b.firsts) c.blocks (t - 1) x no_block refl,
      map-set (λ (b : Block). b.depth) c.blocks (t - 1) x,
    )

contents-with_depth : (m : Areas) (ws vs : List ℕ) (t : ℕ) (y : ℕ) → cells m vs ≡ with_block (cells m ws) t (let b = block (cells m ws) t in record b { depth = y }) → contents m vs ≡ with_depth (contents m ws) t y
unfolding contents
contents-with_depth m ws vs t y p = ap spread p ∙ spread-depth (cells m ws) t y

spread-made : (c : Cells) (t : ℕ) (y : ℕ) → spread (with_block c t (let b = block c t in record b { made = y })) ≡ with_made (spread c) t y
spread-made c t y =
    let x : Block = (let b = block c t in record b { made = y }) in
    rw (
      map-set_same (λ (b : Block). b.depth) c.blocks (t - 1) x no_block refl,
      map-set_same (λ (b : Block). b.stack) c.blocks (t - 1) x no_block refl,
      map-set_same (λ (b : Block). b.buffer) c.blocks (t - 1) x no_block refl,
      map-set_same (λ (b : Block). b.current) c.blocks (t - 1) x no_block refl,
      map-set_same (λ (b : Block). b.rest) c.blocks (t - 1) x no_block refl,
      map-set_same (λ (b : Block). b.firsts) c.blocks (t - 1) x no_block refl,
      map-set (λ (b : Block). b.made) c.blocks (t - 1) x,
    )

contents-with_made : (m : Areas) (ws vs : List ℕ) (t : ℕ) (y : ℕ) → cells m vs ≡ with_block (cells m ws) t (let b = block (cells m ws) t in record b { made = y }) → contents m vs ≡ with_made (contents m ws) t y
unfolding contents
contents-with_made m ws vs t y p = ap spread p ∙ spread-made (cells m ws) t y

spread-stack : (c : Cells) (t : ℕ) (y : List ℕ) → spread (with_block c t (let b = block c t in record b { stack = y })) ≡ with_stack (spread c) t y
spread-stack c t y =
    let x : Block = (let b = block c t in record b { stack = y }) in
    rw (
      map-set_same (λ (b : Block). b.depth) c.blocks (t - 1) x no_block refl,
      map-set_same (λ (b : Block). b.made) c.blocks (t - 1) x no_block refl,
      map-set_same (λ (b : Block). b.buffer) c.blocks (t - 1) x no_block refl,
      map-set_same (λ (b : Block). b.current) c.blocks (t - 1) x no_block refl,
      map-set_same (λ (b : Block). b.rest) c.blocks (t - 1) x no_block refl,
      map-set_same (λ (b : Block). b.firsts) c.blocks (t - 1) x no_block refl,
      map-set (λ (b : Block). b.stack) c.blocks (t - 1) x,
    )

contents-with_stack : (m : Areas) (ws vs : List ℕ) (t : ℕ) (y : List ℕ) → cells m vs ≡ with_block (cells m ws) t (let b = block (cells m ws) t in record b { stack = y }) → contents m vs ≡ with_stack (contents m ws) t y
unfolding contents
contents-with_stack m ws vs t y p = ap spread p ∙ spread-stack (cells m ws) t y

spread-buffer : (c : Cells) (t : ℕ) (y : List ℕ) → spread (with_block c t (let b = block c t in record b { buffer = y })) ≡ with_buffer (spread c) t y
spread-buffer c t y =
    let x : Block = (let b = block c t in record b { buffer = y }) in
    rw (
      map-set_same (λ (b : Block). b.depth) c.blocks (t - 1) x no_block refl,
      map-set_same (λ (b : Block). b.made) c.blocks (t - 1) x no_block refl,
      map-set_same (λ (b : Block). b.stack) c.blocks (t - 1) x no_block refl,
      map-set_same (λ (b : Block). b.current) c.blocks (t - 1) x no_block refl,
      map-set_same (λ (b : Block). b.rest) c.blocks (t - 1) x no_block refl,
      map-set_same (λ (b : Block). b.firsts) c.blocks (t - 1) x no_block refl,
      map-set (λ (b : Block). b.buffer) c.blocks (t - 1) x,
    )

contents-with_buffer : (m : Areas) (ws vs : List ℕ) (t : ℕ) (y : List ℕ) → cells m vs ≡ with_block (cells m ws) t (let b = block (cells m ws) t in record b { buffer = y }) → contents m vs ≡ with_buffer (contents m ws) t y
unfolding contents
contents-with_buffer m ws vs t y p = ap spread p ∙ spread-buffer (cells m ws) t y

spread-current : (c : Cells) (t k p : ℕ) → t - 1 < length c.blocks → spread (with_block c t (let b = block c t in record b { current = set b.current k p })) ≡ with_current (spread c) t k p
spread-current c t k p lt =
    let x : Block = (let b = block c t in record b { current = set b.current k p }) in
    rw (
      map-set_same (λ (b : Block). b.depth) c.blocks (t - 1) x no_block refl,
      map-set_same (λ (b : Block). b.made) c.blocks (t - 1) x no_block refl,
      map-set_same (λ (b : Block). b.stack) c.blocks (t - 1) x no_block refl,
      map-set_same (λ (b : Block). b.buffer) c.blocks (t - 1) x no_block refl,
      map-set_same (λ (b : Block). b.rest) c.blocks (t - 1) x no_block refl,
      map-set_same (λ (b : Block). b.firsts) c.blocks (t - 1) x no_block refl,
      map-set (λ (b : Block). b.current) c.blocks (t - 1) x,
      get_or-map (λ (b : Block). b.current) c.blocks (t - 1) no_block [] lt,
    )

spread-first : (c : Cells) (t k p : ℕ) → t - 1 < length c.blocks → spread (with_block c t (let b = block c t in record b { firsts = set b.firsts (k - 1) p })) ≡ with_first (spread c) t k p
spread-first c t k p lt =
    let x : Block = (let b = block c t in record b { firsts = set b.firsts (k - 1) p }) in
    rw (
      map-set_same (λ (b : Block). b.depth) c.blocks (t - 1) x no_block refl,
      map-set_same (λ (b : Block). b.made) c.blocks (t - 1) x no_block refl,
      map-set_same (λ (b : Block). b.stack) c.blocks (t - 1) x no_block refl,
      map-set_same (λ (b : Block). b.buffer) c.blocks (t - 1) x no_block refl,
      map-set_same (λ (b : Block). b.current) c.blocks (t - 1) x no_block refl,
      map-set_same (λ (b : Block). b.rest) c.blocks (t - 1) x no_block refl,
      map-set (λ (b : Block). b.firsts) c.blocks (t - 1) x,
      get_or-map (λ (b : Block). b.firsts) c.blocks (t - 1) no_block [] lt,
    )

sound_blocks : (m : Areas) (ws : List ℕ) → Sound m ws → SoundBlocks m ws
unfolding contents
sound_blocks m ws s = record {
  areas = s.areas;
  whole = s.whole;
  limits = λ t ht.
      let lt : t - 1 < length (cells m ws).blocks = in_blocks m ws t ht in
      let at_depth = get_or-map (λ (b : Block). b.depth) (cells m ws).blocks (t - 1) no_block 0 lt in
      let at_stack = get_or-map (λ (b : Block). b.stack) (cells m ws).blocks (t - 1) no_block [] lt in
      let at_buffer = get_or-map (λ (b : Block). b.buffer) (cells m ws).blocks (t - 1) no_block [] lt in (
        subst (λ d. d ≤ max_depth m) at_depth (All-get_or (λ d. d ≤ max_depth m) (spread (cells m ws)).depths (t - 1) 0 (simp length-map lt) s.limits.depths),
        subst (λ (st : List ℕ). length st ≤ STACK_SLOTS) at_stack (All-get_or (λ (st : List ℕ). length st ≤ STACK_SLOTS) (spread (cells m ws)).stacks (t - 1) [] (simp length-map lt) s.limits.stacks),
        subst (λ (st : List ℕ). length st ≤ BUFFER_ENTRIES) at_buffer (All-get_or (λ (st : List ℕ). length st ≤ BUFFER_ENTRIES) (spread (cells m ws)).buffers (t - 1) [] (simp length-map lt) s.limits.buffers),
      );
}

-- the limits of a thread's block
pub depth_of-fits : (m : Areas) (ws : List ℕ) (t : ℕ) → HasThread m t → Sound m ws → depth_of (contents m ws) t ≤ max_depth m
depth_of-fits m ws t ht s = rw (depth-of_block m ws t ht) ((sound_blocks m ws s).limits t ht).0

pub stack_of-fits : (m : Areas) (ws : List ℕ) (t : ℕ) → HasThread m t → Sound m ws → length (stack_of (contents m ws) t) ≤ STACK_SLOTS
stack_of-fits m ws t ht s = rw (stack-of_block m ws t ht) ((sound_blocks m ws s).limits t ht).1

pub buffer_of-fits : (m : Areas) (ws : List ℕ) (t : ℕ) → HasThread m t → Sound m ws → length (buffer_of (contents m ws) t) ≤ BUFFER_ENTRIES
buffer_of-fits m ws t ht s = rw (buffer-of_block m ws t ht) ((sound_blocks m ws s).limits t ht).2

-- the words of a block as a reader meets them
pub depth_of-word : (m : Areas) (ws : List ℕ) (t : ℕ) → HasThread m t → get_or ws (block_at m t + DEPTH_WORD) 0 ≡ depth_of (contents m ws) t
depth_of-word m ws t ht = depth-word m ws t ht ∙ sym (depth-of_block m ws t ht)

pub made_of-word : (m : Areas) (ws : List ℕ) (t : ℕ) → HasThread m t → get_or ws (block_at m t + MADE_WORD) 0 ≡ made_of (contents m ws) t
made_of-word m ws t ht = made-word m ws t ht ∙ sym (made-of_block m ws t ht)

pub currents_of-word : (m : Areas) (ws : List ℕ) (t k : ℕ) → HasThread m t → k < max_depth m + 1 → get_or ws (block_at m t + (CURRENT_PAGES + k)) 0 ≡ get_or (currents_of (contents m ws) t) k 0
currents_of-word m ws t k ht h = current-word m ws t k ht h ∙ ap (λ (xs : List ℕ). get_or xs k 0) (sym (current-of_block m ws t ht))

pub first_of-word : (m : Areas) (ws : List ℕ) (t d : ℕ) → HasRegion m t d → get_or ws (block_at m t + (chains_start m + (d - 1))) 0 ≡ first_of (contents m ws) t d
first_of-word m ws t d hr =
    let ht : HasThread m t = (hr.0, hr.1) in
    first-word m ws t (d - 1) ht (omega arith) ∙ ap (λ (xs : List ℕ). get_or xs (d - 1) 0) (sym (firsts-of_block m ws t ht))

pub rests-word : (m : Areas) (ws : List ℕ) (t k : ℕ) → HasThread m t → k < rest_words m → get_or ws (block_at m t + (block_rest m + k)) 0 ≡ get_or (row (contents m ws).rests (t - 1)) k 0
rests-word m ws t k ht h = rest-word m ws t k ht h ∙ ap (λ (xs : List ℕ). get_or xs k 0) (sym (rest-of_block m ws t ht))

pub stack_of-length_word : (m : Areas) (ws : List ℕ) (t : ℕ) → HasThread m t → Sound m ws → get_or ws (block_at m t + STACK_LENGTH) 0 ≡ length (stack_of (contents m ws) t)
stack_of-length_word m ws t ht s = stack_length-word m ws t ht (sound_blocks m ws s) ∙ ap (λ (st : List ℕ). length st) (sym (stack-of_block m ws t ht))

pub stack_of-word : (m : Areas) (ws : List ℕ) (t k : ℕ) → HasThread m t → Sound m ws → k < length (stack_of (contents m ws) t) → get_or ws (block_at m t + ((stack_start m) + k)) 0 ≡ get_or (stack_of (contents m ws) t) k 0
stack_of-word m ws t k ht s h =
    let at : stack_of (contents m ws) t ≡ (block (cells m ws) t).stack = stack-of_block m ws t ht in
    stack-word m ws t k ht (sound_blocks m ws s) (subst (λ (st : List ℕ). k < length st) at h) ∙ ap (λ (st : List ℕ). get_or st k 0) (sym at)

-- what a word more, and fewer words, leave
pub contents-grow_stack : (m : Areas) (ws : List ℕ) (t w n : ℕ) → HasThread m t → Sound m ws → n ≡ length (stack_of (contents m ws) t) → n < STACK_SLOTS → contents m (set (set ws (block_at m t + ((stack_start m) + n)) w) (block_at m t + STACK_LENGTH) (n + 1)) ≡ (let c = contents m ws in with_stack c t (stack_of c t ++ w ∷ []))
contents-grow_stack m ws t w n ht s e lt =
    let at : stack_of (contents m ws) t ≡ (block (cells m ws) t).stack = stack-of_block m ws t ht in
    let n_is : n ≡ length (block (cells m ws) t).stack = e ∙ ap (λ (st : List ℕ). length st) at in
    let p = cells-grow_stack m ws t w ht (sound_blocks m ws s) n n_is lt in
    rw at (contents-with_stack m ws _ t ((block (cells m ws) t).stack ++ w ∷ []) p)

pub contents-shrink_stack : (m : Areas) (ws : List ℕ) (t n : ℕ) → HasThread m t → Sound m ws → n ≤ length (stack_of (contents m ws) t) → contents m (set ws (block_at m t + STACK_LENGTH) n) ≡ (let c = contents m ws in with_stack c t (take n (stack_of c t)))
contents-shrink_stack m ws t n ht s le =
    let at : stack_of (contents m ws) t ≡ (block (cells m ws) t).stack = stack-of_block m ws t ht in
    let p = cells-shrink_stack m ws t ht (sound_blocks m ws s) n (subst (λ (st : List ℕ). n ≤ length st) at le) in
    rw at (contents-with_stack m ws _ t (take n (block (cells m ws) t).stack) p)

-- limits are kept
pub sound-with_stack : (m : Areas) (ws vs : List ℕ) (t : ℕ) (st : List ℕ) → Sound m ws → length vs ≡ total_of m → contents m vs ≡ with_stack (contents m ws) t st → length st ≤ STACK_SLOTS → Sound m vs
sound-with_stack m ws vs t st s whole e fits = record {
  areas = s.areas;
  whole = whole;
  limits = subst (InLimits m) (sym e) (record {
    depths = s.limits.depths;
    stacks = All-set (λ (xs : List ℕ). length xs ≤ STACK_SLOTS) (contents m ws).stacks (t - 1) st fits s.limits.stacks;
    buffers = s.limits.buffers;
  });
}

pub sound-grow_stack : (m : Areas) (ws : List ℕ) (t w n : ℕ) → HasThread m t → Sound m ws → n ≡ length (stack_of (contents m ws) t) → n < STACK_SLOTS → Sound m (set (set ws (block_at m t + ((stack_start m) + n)) w) (block_at m t + STACK_LENGTH) (n + 1))
sound-grow_stack m ws t w n ht s e lt =
    let st : List ℕ = stack_of (contents m ws) t in
    let long : length (st ++ w ∷ []) ≤ STACK_SLOTS = omega (arith, length-append st (w ∷ []), e) in
    sound-with_stack m ws _ t (st ++ w ∷ []) s (simp length-set s.whole) (contents-grow_stack m ws t w n ht s e lt) long

pub sound-shrink_stack : (m : Areas) (ws : List ℕ) (t n : ℕ) → HasThread m t → Sound m ws → n ≤ length (stack_of (contents m ws) t) → Sound m (set ws (block_at m t + STACK_LENGTH) n)
sound-shrink_stack m ws t n ht s le =
    let st : List ℕ = stack_of (contents m ws) t in
    let long : length (take n st) ≤ STACK_SLOTS = omega (arith, length-take n st, stack_of-fits m ws t ht s) in
    sound-with_stack m ws _ t (take n st) s (simp length-set s.whole) (contents-shrink_stack m ws t n ht s le) long

pub buffer_of-length_word : (m : Areas) (ws : List ℕ) (t : ℕ) → HasThread m t → Sound m ws → get_or ws (block_at m t + BUFFER_LENGTH) 0 ≡ length (buffer_of (contents m ws) t)
buffer_of-length_word m ws t ht s = buffer_length-word m ws t ht (sound_blocks m ws s) ∙ ap (λ (st : List ℕ). length st) (sym (buffer-of_block m ws t ht))

pub buffer_of-word : (m : Areas) (ws : List ℕ) (t k : ℕ) → HasThread m t → Sound m ws → k < length (buffer_of (contents m ws) t) → get_or ws (block_at m t + ((buffer_start m) + k)) 0 ≡ get_or (buffer_of (contents m ws) t) k 0
buffer_of-word m ws t k ht s h =
    let at : buffer_of (contents m ws) t ≡ (block (cells m ws) t).buffer = buffer-of_block m ws t ht in
    buffer-word m ws t k ht (sound_blocks m ws s) (subst (λ (st : List ℕ). k < length st) at h) ∙ ap (λ (st : List ℕ). get_or st k 0) (sym at)

-- what a word more, and fewer words, leave
pub contents-grow_buffer : (m : Areas) (ws : List ℕ) (t w n : ℕ) → HasThread m t → Sound m ws → n ≡ length (buffer_of (contents m ws) t) → n < BUFFER_ENTRIES → contents m (set (set ws (block_at m t + ((buffer_start m) + n)) w) (block_at m t + BUFFER_LENGTH) (n + 1)) ≡ (let c = contents m ws in with_buffer c t (buffer_of c t ++ w ∷ []))
contents-grow_buffer m ws t w n ht s e lt =
    let at : buffer_of (contents m ws) t ≡ (block (cells m ws) t).buffer = buffer-of_block m ws t ht in
    let n_is : n ≡ length (block (cells m ws) t).buffer = e ∙ ap (λ (st : List ℕ). length st) at in
    let p = cells-grow_buffer m ws t w ht (sound_blocks m ws s) n n_is lt in
    rw at (contents-with_buffer m ws _ t ((block (cells m ws) t).buffer ++ w ∷ []) p)

pub contents-shrink_buffer : (m : Areas) (ws : List ℕ) (t n : ℕ) → HasThread m t → Sound m ws → n ≤ length (buffer_of (contents m ws) t) → contents m (set ws (block_at m t + BUFFER_LENGTH) n) ≡ (let c = contents m ws in with_buffer c t (take n (buffer_of c t)))
contents-shrink_buffer m ws t n ht s le =
    let at : buffer_of (contents m ws) t ≡ (block (cells m ws) t).buffer = buffer-of_block m ws t ht in
    let p = cells-shrink_buffer m ws t ht (sound_blocks m ws s) n (subst (λ (st : List ℕ). n ≤ length st) at le) in
    rw at (contents-with_buffer m ws _ t (take n (block (cells m ws) t).buffer) p)

-- limits are kept
pub sound-with_buffer : (m : Areas) (ws vs : List ℕ) (t : ℕ) (st : List ℕ) → Sound m ws → length vs ≡ total_of m → contents m vs ≡ with_buffer (contents m ws) t st → length st ≤ BUFFER_ENTRIES → Sound m vs
sound-with_buffer m ws vs t st s whole e fits = record {
  areas = s.areas;
  whole = whole;
  limits = subst (InLimits m) (sym e) (record {
    depths = s.limits.depths;
    stacks = s.limits.stacks;
    buffers = All-set (λ (xs : List ℕ). length xs ≤ BUFFER_ENTRIES) (contents m ws).buffers (t - 1) st fits s.limits.buffers;
  });
}

pub sound-grow_buffer : (m : Areas) (ws : List ℕ) (t w n : ℕ) → HasThread m t → Sound m ws → n ≡ length (buffer_of (contents m ws) t) → n < BUFFER_ENTRIES → Sound m (set (set ws (block_at m t + ((buffer_start m) + n)) w) (block_at m t + BUFFER_LENGTH) (n + 1))
sound-grow_buffer m ws t w n ht s e lt =
    let st : List ℕ = buffer_of (contents m ws) t in
    let long : length (st ++ w ∷ []) ≤ BUFFER_ENTRIES = omega (arith, length-append st (w ∷ []), e) in
    sound-with_buffer m ws _ t (st ++ w ∷ []) s (simp length-set s.whole) (contents-grow_buffer m ws t w n ht s e lt) long

pub sound-shrink_buffer : (m : Areas) (ws : List ℕ) (t n : ℕ) → HasThread m t → Sound m ws → n ≤ length (buffer_of (contents m ws) t) → Sound m (set ws (block_at m t + BUFFER_LENGTH) n)
sound-shrink_buffer m ws t n ht s le =
    let st : List ℕ = buffer_of (contents m ws) t in
    let long : length (take n st) ≤ BUFFER_ENTRIES = omega (arith, length-take n st, buffer_of-fits m ws t ht s) in
    sound-with_buffer m ws _ t (take n st) s (simp length-set s.whole) (contents-shrink_buffer m ws t n ht s le) long

pub contents-clear_buffer : (m : Areas) (ws : List ℕ) (t : ℕ) → HasThread m t → Sound m ws → contents m (set ws (block_at m t + BUFFER_LENGTH) 0) ≡ with_buffer (contents m ws) t []
contents-clear_buffer m ws t ht s = contents-shrink_buffer m ws t 0 ht s (omega arith)

pub sound-clear_buffer : (m : Areas) (ws : List ℕ) (t : ℕ) → HasThread m t → Sound m ws → Sound m (set ws (block_at m t + BUFFER_LENGTH) 0)
sound-clear_buffer m ws t ht s = sound-shrink_buffer m ws t 0 ht s (omega arith)

-- a slot of a stack changed
pub contents-set_stack : (m : Areas) (ws : List ℕ) (t k w : ℕ) → HasThread m t → Sound m ws → k < length (stack_of (contents m ws) t) → contents m (set ws (block_at m t + ((stack_start m) + k)) w) ≡ (let c = contents m ws in with_stack c t (set (stack_of c t) k w))
contents-set_stack m ws t k w ht s lt =
    let at : stack_of (contents m ws) t ≡ (block (cells m ws) t).stack = stack-of_block m ws t ht in
    let p = cells-set_stack m ws t k w ht (sound_blocks m ws s) (subst (λ (st : List ℕ). k < length st) at lt) in
    rw at (contents-with_stack m ws _ t (set (block (cells m ws) t).stack k w) p)

pub sound-set_stack : (m : Areas) (ws : List ℕ) (t k w : ℕ) → HasThread m t → Sound m ws → k < length (stack_of (contents m ws) t) → Sound m (set ws (block_at m t + ((stack_start m) + k)) w)
sound-set_stack m ws t k w ht s lt =
    let st : List ℕ = stack_of (contents m ws) t in
    let long : length (set st k w) ≤ STACK_SLOTS = simp length-set (stack_of-fits m ws t ht s) in
    sound-with_stack m ws _ t (set st k w) s (simp length-set s.whole) (contents-set_stack m ws t k w ht s lt) long

-- the depth, the number made and a current page changed
pub contents-set_depth : (m : Areas) (ws : List ℕ) (t d : ℕ) → HasThread m t → Sound m ws → contents m (set ws (block_at m t + DEPTH_WORD) d) ≡ with_depth (contents m ws) t d
contents-set_depth m ws t d ht s = contents-with_depth m ws _ t d (cells-set_depth m ws t d ht (sound_blocks m ws s))

pub sound-set_depth : (m : Areas) (ws : List ℕ) (t d : ℕ) → HasThread m t → Sound m ws → d ≤ max_depth m → Sound m (set ws (block_at m t + DEPTH_WORD) d)
sound-set_depth m ws t d ht s fits = record {
  areas = s.areas;
  whole = simp length-set s.whole;
  limits = subst (InLimits m) (sym (contents-set_depth m ws t d ht s)) (record {
    depths = All-set (λ x. x ≤ max_depth m) (contents m ws).depths (t - 1) d fits s.limits.depths;
    stacks = s.limits.stacks;
    buffers = s.limits.buffers;
  });
}

pub contents-set_made : (m : Areas) (ws : List ℕ) (t k : ℕ) → HasThread m t → Sound m ws → contents m (set ws (block_at m t + MADE_WORD) k) ≡ with_made (contents m ws) t k
contents-set_made m ws t k ht s = contents-with_made m ws _ t k (cells-set_made m ws t k ht (sound_blocks m ws s))

pub contents-set_current : (m : Areas) (ws : List ℕ) (t k p : ℕ) → HasThread m t → Sound m ws → k < max_depth m + 1 → contents m (set ws (block_at m t + (CURRENT_PAGES + k)) p) ≡ with_current (contents m ws) t k p
unfolding contents
contents-set_current m ws t k p ht s h = ap spread (cells-set_current m ws t k p ht (sound_blocks m ws s) h) ∙ spread-current (cells m ws) t k p (in_blocks m ws t ht)

pub contents-set_first : (m : Areas) (ws : List ℕ) (t d p : ℕ) → HasRegion m t d → Sound m ws → contents m (set ws (block_at m t + (chains_start m + (d - 1))) p) ≡ with_first (contents m ws) t d p
unfolding contents
contents-set_first m ws t d p hr s =
    let ht : HasThread m t = (hr.0, hr.1) in
    ap spread (cells-set_first m ws t (d - 1) p ht (sound_blocks m ws s) (omega arith)) ∙ spread-first (cells m ws) t d p (in_blocks m ws t ht)

-- a change of other areas keeps the words sound
pub sound-elsewhere : (m : Areas) (ws vs : List ℕ) → Sound m ws → length vs ≡ total_of m → (contents m vs).depths ≡ (contents m ws).depths → (contents m vs).stacks ≡ (contents m ws).stacks → (contents m vs).buffers ≡ (contents m ws).buffers → Sound m vs
sound-elsewhere m ws vs s whole d st b = record {
  areas = s.areas;
  whole = whole;
  limits = record { depths = rw d s.limits.depths; stacks = rw st s.limits.stacks; buffers = rw b s.limits.buffers };
}

-- the soundness of words has one proof at most
pub Sound-prop : (m : Areas) (ws : List ℕ) → IsProp (Sound m ws)
Sound-prop m ws = hlevel props

-- the words of the other areas
pub contents-set_head : (m : Areas) (ws : List ℕ) (i v : ℕ) → i < HEAD_WORDS → contents m (set ws i v) ≡ with_head (contents m ws) i v
unfolding contents
contents-set_head m ws i v h = ap spread (cells-set_head m ws i v h)

pub contents-get_head : (m : Areas) (ws : List ℕ) (i : ℕ) → i < HEAD_WORDS → get_or ws i 0 ≡ get_or (contents m ws).heads i 0
unfolding contents
contents-get_head m ws i h = cells-get_head m ws i h

pub contents-set_page : (m : Areas) (ws : List ℕ) (p j v : ℕ) → HasPage m p → j < 2 → contents m (set ws (page_at m p + j) v) ≡ with_page (contents m ws) p j v
unfolding contents
contents-set_page m ws p j v hp hj = ap spread (cells-set_page m ws p j v hp hj)

pub contents-get_page : (m : Areas) (ws : List ℕ) (p j : ℕ) → HasPage m p → j < 2 → get_or ws (page_at m p + j) 0 ≡ get_or (row (contents m ws).table p) j 0
unfolding contents
contents-get_page m ws p j hp hj = cells-get_page m ws p j hp hj

pub contents-set_readers : (m : Areas) (ws : List ℕ) (t d v : ℕ) → HasRegion m t d → contents m (set ws (readers_at m t d) v) ≡ with_readers (contents m ws) t d v
unfolding contents
contents-set_readers m ws t d v h = ap spread (cells-set_readers m ws t d v h)

pub contents-get_readers : (m : Areas) (ws : List ℕ) (t d : ℕ) → HasRegion m t d → get_or ws (readers_at m t d) 0 ≡ readers_of (contents m ws) t d
unfolding contents
contents-get_readers m ws t d h = cells-get_readers m ws t d h

pub contents-set_pool : (m : Areas) (ws : List ℕ) (k v : ℕ) → k < m.pages → contents m (set ws (pool_at m + k) v) ≡ with_pool (contents m ws) k v
unfolding contents
contents-set_pool m ws k v h = ap spread (cells-set_pool m ws k v h)

pub contents-get_pool : (m : Areas) (ws : List ℕ) (k : ℕ) → k < m.pages → get_or ws (pool_at m + k) 0 ≡ get_or (contents m ws).pool k 0
unfolding contents
contents-get_pool m ws k h = cells-get_pool m ws k h

pub length-pool : (m : Areas) (ws : List ℕ) → length ws ≡ total_of m → length (contents m ws).pool ≡ m.pages
unfolding contents cells
length-pool m ws h = simp (length-take, length-drop) (omega arith)

pub contents-set_set : (m : Areas) (ws : List ℕ) (k v : ℕ) → k < 2 * heap_length m → contents m (set ws (sets_at m + k) v) ≡ with_set (contents m ws) k v
unfolding contents
contents-set_set m ws k v h = ap spread (cells-set_sets m ws k v h)

pub contents-get_set : (m : Areas) (ws : List ℕ) (k : ℕ) → k < 2 * heap_length m → get_or ws (sets_at m + k) 0 ≡ get_or (contents m ws).sets k 0
unfolding contents
contents-get_set m ws k h = cells-get_sets m ws k h

pub length-sets : (m : Areas) (ws : List ℕ) → length ws ≡ total_of m → length (contents m ws).sets ≡ 2 * heap_length m
unfolding contents cells
length-sets m ws h = simp (length-take, length-drop) (omega arith)

pub contents-set_scratch : (m : Areas) (ws : List ℕ) (k v : ℕ) → k < scratch_length m → contents m (set ws (scratch_at m + k) v) ≡ with_scratch (contents m ws) k v
unfolding contents
contents-set_scratch m ws k v h = ap spread (cells-set_scratch m ws k v h)

pub contents-get_scratch : (m : Areas) (ws : List ℕ) (k : ℕ) → k < scratch_length m → get_or ws (scratch_at m + k) 0 ≡ get_or (contents m ws).scratch k 0
unfolding contents
contents-get_scratch m ws k h = cells-get_scratch m ws k h

pub length-scratch : (m : Areas) (ws : List ℕ) → length ws ≡ total_of m → length (contents m ws).scratch ≡ scratch_length m
unfolding contents cells
length-scratch m ws h = simp (length-take, length-drop) (omega arith)

pub contents-set_heap : (m : Areas) (ws : List ℕ) (k v : ℕ) → k < heap_length m → contents m (set ws (heap_at m + k) v) ≡ with_heap (contents m ws) k v
unfolding contents
contents-set_heap m ws k v h = ap spread (cells-set_heap m ws k v h)

pub contents-get_heap : (m : Areas) (ws : List ℕ) (k : ℕ) → k < heap_length m → get_or ws (heap_at m + k) 0 ≡ get_or (contents m ws).heap k 0
unfolding contents
contents-get_heap m ws k h = cells-get_heap m ws k h

pub length-heap : (m : Areas) (ws : List ℕ) → length ws ≡ total_of m → length (contents m ws).heap ≡ heap_length m
unfolding contents cells
length-heap m ws h = simp (length-take, length-drop) (omega arith)

-- how long the lists by thread are
pub length-stacks : (m : Areas) (ws : List ℕ) → length (contents m ws).stacks ≡ m.threads
unfolding contents
length-stacks m ws = simp length-map (length-blocks m ws)

pub length-buffers : (m : Areas) (ws : List ℕ) → length (contents m ws).buffers ≡ m.threads
unfolding contents
length-buffers m ws = simp length-map (length-blocks m ws)

pub length-depths : (m : Areas) (ws : List ℕ) → length (contents m ws).depths ≡ m.threads
unfolding contents
length-depths m ws = simp length-map (length-blocks m ws)

pub length-made : (m : Areas) (ws : List ℕ) → length (contents m ws).made ≡ m.threads
unfolding contents
length-made m ws = simp length-map (length-blocks m ws)

pub length-currents : (m : Areas) (ws : List ℕ) → length (contents m ws).currents ≡ m.threads
unfolding contents
length-currents m ws = simp length-map (length-blocks m ws)

pub length-firsts : (m : Areas) (ws : List ℕ) → length (contents m ws).firsts ≡ m.threads
unfolding contents
length-firsts m ws = simp length-map (length-blocks m ws)

pub length-firsts_row : (m : Areas) (ws : List ℕ) (t : ℕ) → HasThread m t → length ws ≡ total_of m → length (row (contents m ws).firsts (t - 1)) ≡ max_depth m
length-firsts_row m ws t ht whole = ap (λ (xs : List ℕ). length xs) (firsts-of_block m ws t ht) ∙ length-block_firsts m ws t ht whole

pub length-table : (m : Areas) (ws : List ℕ) → length (contents m ws).table ≡ m.pages
unfolding contents cells
length-table m ws = length-rows m.pages 2 (drop (table_at m) ws)

-- what a write leaves and what a read meets, for searches
pub ruleset writes = (contents-set_head, contents-set_page, contents-set_pool, contents-set_readers, contents-set_set, contents-set_heap, contents-set_scratch, contents-set_current, contents-set_first, contents-set_made, length-set)

pub ruleset reads = (contents-get_heap, contents-get_scratch, contents-get_page, contents-get_pool, contents-get_head, contents-get_set, contents-get_readers)

-- the same of the words of a block
pub ruleset block_writes = (contents-set_depth, contents-set_stack, contents-grow_stack, contents-shrink_stack, contents-grow_buffer, contents-clear_buffer, sound-set_depth, sound-set_stack, sound-grow_stack, sound-shrink_stack, sound-grow_buffer, sound-clear_buffer)

pub ruleset block_reads = (depth_of-word, made_of-word, stack_of-length_word, buffer_of-length_word, stack_of-word, buffer_of-word, currents_of-word, first_of-word, rests-word, depth_of-fits, stack_of-fits, buffer_of-fits)
