use Rattle.std.proofs.Common.{◌≡◌, ℕ, ◌+◌, ◌-◌, ◌≤◌, ◌<◌, ◌≢◌, List, [], ◌∷◌, ◌++◌, take, drop, length, get_or, set, refl, sym, ap, subst, ◌∙◌, arith, get_or-set_same, get_or-set_other, length-take, length-drop, length-set}
use Rattle.std.proofs.lemmas.List.{set-set, take_more_set, take-take, drop-set-add}
use Rattle.heap_words.specs.declared.map.Areas.{Areas}
use Rattle.heap_words.specs.declared.TheConstants.{DEPTH_WORD, MADE_WORD, STACK_LENGTH, BUFFER_LENGTH, CURRENT_PAGES, STACK_SLOTS, BUFFER_ENTRIES}
use Rattle.heap_words.specs.Map.{max_depth, block_words, stack_start, buffer_start, chains_start, block_rest, rest_words, HasThread, block_at, total_of}
use Rattle.heap_words.specs.Cells.{part, Block, block_of, raw_block, block, with_block, cells, SoundBlocks}
use Rattle.heap_words.proofs.Rows.{part-set_before, part-set_past, part-set_at, part-get}
use Rattle.heap_words.proofs.Cells.{cells-block, cells-set_block, raw_block-set, raw_block-get, length-raw_block}

get-set_other : (b : List ℕ) (i k v : ℕ) → k ≢ i → get_or (set b i v) k 0 ≡ get_or b k 0
get-set_other b i k v h = get_or-set_other b i k v 0 h

-- a word behind the first n of a part
behind : (a : ℕ) (b : List ℕ) (n w : ℕ) → a + n < length b → part a (n + 1) (set b (a + n) w) ≡ part a n b ++ w ∷ []
behind a b n w h =
    let lt : n < length (drop a b) = omega (arith, length-drop a b) in
    ap (take (n + 1)) (drop-set-add a b n w) ∙ take_more_set (drop a b) n w lt

-- the word of a length is the length of what it counts
pub stack_word : (m : Areas) (b : List ℕ) → length b ≡ block_words m → length (block_of m b).stack ≤ STACK_SLOTS → get_or b STACK_LENGTH 0 ≡ length (block_of m b).stack
unfolding block_of
stack_word m b h le =
    let e : length (part (stack_start m) (get_or b STACK_LENGTH 0) b) ≡ _ = length-take (get_or b STACK_LENGTH 0) (drop (stack_start m) b) in
    let f : length (drop (stack_start m) b) ≡ length b - (stack_start m) = length-drop (stack_start m) b in
    omega arith

-- a word put behind the stack, and the length raised
pub block-grow_stack : (m : Areas) (b : List ℕ) (n w : ℕ) → length b ≡ block_words m → get_or b STACK_LENGTH 0 ≡ n → n < STACK_SLOTS → get_or b BUFFER_LENGTH 0 ≤ BUFFER_ENTRIES → block_of m (set (set b ((stack_start m) + n) w) STACK_LENGTH (n + 1)) ≡ (let o = block_of m b in record o { stack = o.stack ++ w ∷ [] })
unfolding block_of
block-grow_stack m b n w h e lt fits =
    let c : List ℕ = set b ((stack_start m) + n) w in
    let long : STACK_LENGTH < length c = simp length-set (omega arith) in
    rw (
      get-set_other c STACK_LENGTH DEPTH_WORD (n + 1) (omega arith),
      get-set_other b ((stack_start m) + n) DEPTH_WORD w (omega arith),
      get-set_other c STACK_LENGTH MADE_WORD (n + 1) (omega arith),
      get-set_other b ((stack_start m) + n) MADE_WORD w (omega arith),
      get-set_other c STACK_LENGTH BUFFER_LENGTH (n + 1) (omega arith),
      get-set_other b ((stack_start m) + n) BUFFER_LENGTH w (omega arith),
      get_or-set_same c STACK_LENGTH (n + 1) 0 long,
      part-set_before c (stack_start m) (n + 1) STACK_LENGTH (n + 1) (omega arith),
      behind (stack_start m) b n w (omega arith),
      e,
      part-set_before c (buffer_start m) (get_or b BUFFER_LENGTH 0) STACK_LENGTH (n + 1) (omega arith),
      part-set_before b (buffer_start m) (get_or b BUFFER_LENGTH 0) ((stack_start m) + n) w (omega arith),
      part-set_before c (block_rest m) (rest_words m) STACK_LENGTH (n + 1) (omega arith),
      part-set_before c (chains_start m) (max_depth m) STACK_LENGTH (n + 1) (omega arith),
      part-set_before b (block_rest m) (rest_words m) ((stack_start m) + n) w (omega arith),
      part-set_before b (chains_start m) (max_depth m) ((stack_start m) + n) w (omega arith),
      part-set_before c CURRENT_PAGES (max_depth m + 1) STACK_LENGTH (n + 1) (omega arith),
      part-set_past b CURRENT_PAGES (max_depth m + 1) ((stack_start m) + n) w (omega arith),
    )

-- the length of the stack changed to a smaller one
pub block-shrink_stack : (m : Areas) (b : List ℕ) (n : ℕ) → length b ≡ block_words m → n ≤ get_or b STACK_LENGTH 0 → block_of m (set b STACK_LENGTH n) ≡ (let o = block_of m b in record o { stack = take n o.stack })
unfolding block_of
block-shrink_stack m b n h le =
    let long : STACK_LENGTH < length b = omega arith in
    rw (
      get-set_other b STACK_LENGTH DEPTH_WORD n (omega arith),
      get-set_other b STACK_LENGTH MADE_WORD n (omega arith),
      get-set_other b STACK_LENGTH BUFFER_LENGTH n (omega arith),
      get_or-set_same b STACK_LENGTH n 0 long,
      part-set_before b (stack_start m) n STACK_LENGTH n (omega arith),
      take-take n (get_or b STACK_LENGTH 0) (drop (stack_start m) b) le,
      part-set_before b (buffer_start m) (get_or b BUFFER_LENGTH 0) STACK_LENGTH n (omega arith),
      part-set_before b (block_rest m) (rest_words m) STACK_LENGTH n (omega arith),
      part-set_before b (chains_start m) (max_depth m) STACK_LENGTH n (omega arith),
      part-set_before b CURRENT_PAGES (max_depth m + 1) STACK_LENGTH n (omega arith),
    )

-- the word of a length is the length of what it counts
pub buffer_word : (m : Areas) (b : List ℕ) → length b ≡ block_words m → length (block_of m b).buffer ≤ BUFFER_ENTRIES → get_or b BUFFER_LENGTH 0 ≡ length (block_of m b).buffer
unfolding block_of
buffer_word m b h le =
    let e : length (part (buffer_start m) (get_or b BUFFER_LENGTH 0) b) ≡ _ = length-take (get_or b BUFFER_LENGTH 0) (drop (buffer_start m) b) in
    let f : length (drop (buffer_start m) b) ≡ length b - (buffer_start m) = length-drop (buffer_start m) b in
    omega arith

-- a word put behind the buffer, and the length raised
pub block-grow_buffer : (m : Areas) (b : List ℕ) (n w : ℕ) → length b ≡ block_words m → get_or b BUFFER_LENGTH 0 ≡ n → n < BUFFER_ENTRIES → get_or b STACK_LENGTH 0 ≤ STACK_SLOTS → block_of m (set (set b ((buffer_start m) + n) w) BUFFER_LENGTH (n + 1)) ≡ (let o = block_of m b in record o { buffer = o.buffer ++ w ∷ [] })
unfolding block_of
block-grow_buffer m b n w h e lt fits =
    let c : List ℕ = set b ((buffer_start m) + n) w in
    let long : BUFFER_LENGTH < length c = simp length-set (omega arith) in
    rw (
      get-set_other c BUFFER_LENGTH DEPTH_WORD (n + 1) (omega arith),
      get-set_other b ((buffer_start m) + n) DEPTH_WORD w (omega arith),
      get-set_other c BUFFER_LENGTH MADE_WORD (n + 1) (omega arith),
      get-set_other b ((buffer_start m) + n) MADE_WORD w (omega arith),
      get-set_other c BUFFER_LENGTH STACK_LENGTH (n + 1) (omega arith),
      get-set_other b ((buffer_start m) + n) STACK_LENGTH w (omega arith),
      get_or-set_same c BUFFER_LENGTH (n + 1) 0 long,
      part-set_before c (buffer_start m) (n + 1) BUFFER_LENGTH (n + 1) (omega arith),
      behind (buffer_start m) b n w (omega arith),
      e,
      part-set_before c (stack_start m) (get_or b STACK_LENGTH 0) BUFFER_LENGTH (n + 1) (omega arith),
      part-set_past b (stack_start m) (get_or b STACK_LENGTH 0) ((buffer_start m) + n) w (omega arith),
      part-set_before c (block_rest m) (rest_words m) BUFFER_LENGTH (n + 1) (omega arith),
      part-set_before c (chains_start m) (max_depth m) BUFFER_LENGTH (n + 1) (omega arith),
      part-set_before b (block_rest m) (rest_words m) ((buffer_start m) + n) w (omega arith),
      part-set_before b (chains_start m) (max_depth m) ((buffer_start m) + n) w (omega arith),
      part-set_before c CURRENT_PAGES (max_depth m + 1) BUFFER_LENGTH (n + 1) (omega arith),
      part-set_past b CURRENT_PAGES (max_depth m + 1) ((buffer_start m) + n) w (omega arith),
    )

-- the length of the buffer changed to a smaller one
pub block-shrink_buffer : (m : Areas) (b : List ℕ) (n : ℕ) → length b ≡ block_words m → n ≤ get_or b BUFFER_LENGTH 0 → block_of m (set b BUFFER_LENGTH n) ≡ (let o = block_of m b in record o { buffer = take n o.buffer })
unfolding block_of
block-shrink_buffer m b n h le =
    let long : BUFFER_LENGTH < length b = omega arith in
    rw (
      get-set_other b BUFFER_LENGTH DEPTH_WORD n (omega arith),
      get-set_other b BUFFER_LENGTH MADE_WORD n (omega arith),
      get-set_other b BUFFER_LENGTH STACK_LENGTH n (omega arith),
      get_or-set_same b BUFFER_LENGTH n 0 long,
      part-set_before b (buffer_start m) n BUFFER_LENGTH n (omega arith),
      take-take n (get_or b BUFFER_LENGTH 0) (drop (buffer_start m) b) le,
      part-set_before b (stack_start m) (get_or b STACK_LENGTH 0) BUFFER_LENGTH n (omega arith),
      part-set_before b (block_rest m) (rest_words m) BUFFER_LENGTH n (omega arith),
      part-set_before b (chains_start m) (max_depth m) BUFFER_LENGTH n (omega arith),
      part-set_before b CURRENT_PAGES (max_depth m + 1) BUFFER_LENGTH n (omega arith),
    )

-- a slot of the stack changed
pub block-set_stack : (m : Areas) (b : List ℕ) (k w : ℕ) → length b ≡ block_words m → get_or b STACK_LENGTH 0 ≤ STACK_SLOTS → k < get_or b STACK_LENGTH 0 → block_of m (set b ((stack_start m) + k) w) ≡ (let o = block_of m b in record o { stack = set o.stack k w })
unfolding block_of
block-set_stack m b k w h fits lt =
    rw (
      get-set_other b ((stack_start m) + k) DEPTH_WORD w (omega arith),
      get-set_other b ((stack_start m) + k) MADE_WORD w (omega arith),
      get-set_other b ((stack_start m) + k) STACK_LENGTH w (omega arith),
      get-set_other b ((stack_start m) + k) BUFFER_LENGTH w (omega arith),
      part-set_at b (stack_start m) (get_or b STACK_LENGTH 0) ((stack_start m) + k) k w refl lt,
      part-set_before b (buffer_start m) (get_or b BUFFER_LENGTH 0) ((stack_start m) + k) w (omega arith),
      part-set_before b (block_rest m) (rest_words m) ((stack_start m) + k) w (omega arith),
      part-set_before b (chains_start m) (max_depth m) ((stack_start m) + k) w (omega arith),
      part-set_past b CURRENT_PAGES (max_depth m + 1) ((stack_start m) + k) w (omega arith),
    )

-- the depth changed
pub block-set_depth : (m : Areas) (b : List ℕ) (d : ℕ) → length b ≡ block_words m → block_of m (set b DEPTH_WORD d) ≡ (let o = block_of m b in record o { depth = d })
unfolding block_of
block-set_depth m b d h =
    let long : DEPTH_WORD < length b = omega arith in
    rw (
      get_or-set_same b DEPTH_WORD d 0 long,
      get-set_other b DEPTH_WORD MADE_WORD d (omega arith),
      get-set_other b DEPTH_WORD STACK_LENGTH d (omega arith),
      get-set_other b DEPTH_WORD BUFFER_LENGTH d (omega arith),
      part-set_before b (stack_start m) (get_or b STACK_LENGTH 0) DEPTH_WORD d (omega arith),
      part-set_before b (buffer_start m) (get_or b BUFFER_LENGTH 0) DEPTH_WORD d (omega arith),
      part-set_before b (block_rest m) (rest_words m) DEPTH_WORD d (omega arith),
      part-set_before b (chains_start m) (max_depth m) DEPTH_WORD d (omega arith),
      part-set_before b CURRENT_PAGES (max_depth m + 1) DEPTH_WORD d (omega arith),
    )

-- the made changed
pub block-set_made : (m : Areas) (b : List ℕ) (d : ℕ) → length b ≡ block_words m → block_of m (set b MADE_WORD d) ≡ (let o = block_of m b in record o { made = d })
unfolding block_of
block-set_made m b d h =
    let long : MADE_WORD < length b = omega arith in
    rw (
      get_or-set_same b MADE_WORD d 0 long,
      get-set_other b MADE_WORD DEPTH_WORD d (omega arith),
      get-set_other b MADE_WORD STACK_LENGTH d (omega arith),
      get-set_other b MADE_WORD BUFFER_LENGTH d (omega arith),
      part-set_before b (stack_start m) (get_or b STACK_LENGTH 0) MADE_WORD d (omega arith),
      part-set_before b (buffer_start m) (get_or b BUFFER_LENGTH 0) MADE_WORD d (omega arith),
      part-set_before b (block_rest m) (rest_words m) MADE_WORD d (omega arith),
      part-set_before b (chains_start m) (max_depth m) MADE_WORD d (omega arith),
      part-set_before b CURRENT_PAGES (max_depth m + 1) MADE_WORD d (omega arith),
    )

-- a current page changed
pub block-set_current : (m : Areas) (b : List ℕ) (k p : ℕ) → length b ≡ block_words m → k < max_depth m + 1 → block_of m (set b (CURRENT_PAGES + k) p) ≡ (let o = block_of m b in record o { current = set o.current k p })
unfolding block_of
block-set_current m b k p h lt =
    rw (
      get-set_other b (CURRENT_PAGES + k) DEPTH_WORD p (omega arith),
      get-set_other b (CURRENT_PAGES + k) MADE_WORD p (omega arith),
      get-set_other b (CURRENT_PAGES + k) STACK_LENGTH p (omega arith),
      get-set_other b (CURRENT_PAGES + k) BUFFER_LENGTH p (omega arith),
      part-set_before b (stack_start m) (get_or b STACK_LENGTH 0) (CURRENT_PAGES + k) p (omega arith),
      part-set_before b (buffer_start m) (get_or b BUFFER_LENGTH 0) (CURRENT_PAGES + k) p (omega arith),
      part-set_before b (block_rest m) (rest_words m) (CURRENT_PAGES + k) p (omega arith),
      part-set_before b (chains_start m) (max_depth m) (CURRENT_PAGES + k) p (omega arith),
      part-set_at b CURRENT_PAGES (max_depth m + 1) (CURRENT_PAGES + k) k p refl lt,
    )

-- the first slot of a chain changed
pub block-set_first : (m : Areas) (b : List ℕ) (k p : ℕ) → length b ≡ block_words m → get_or b STACK_LENGTH 0 ≤ STACK_SLOTS → get_or b BUFFER_LENGTH 0 ≤ BUFFER_ENTRIES → k < max_depth m → block_of m (set b (chains_start m + k) p) ≡ (let o = block_of m b in record o { firsts = set o.firsts k p })
unfolding block_of
block-set_first m b k p h fits other lt =
    rw (
      get-set_other b (chains_start m + k) DEPTH_WORD p (omega arith),
      get-set_other b (chains_start m + k) MADE_WORD p (omega arith),
      get-set_other b (chains_start m + k) STACK_LENGTH p (omega arith),
      get-set_other b (chains_start m + k) BUFFER_LENGTH p (omega arith),
      part-set_past b (stack_start m) (get_or b STACK_LENGTH 0) (chains_start m + k) p (omega arith),
      part-set_past b (buffer_start m) (get_or b BUFFER_LENGTH 0) (chains_start m + k) p (omega arith),
      part-set_before b (block_rest m) (rest_words m) (chains_start m + k) p (omega arith),
      part-set_past b CURRENT_PAGES (max_depth m + 1) (chains_start m + k) p (omega arith),
      part-set_at b (chains_start m) (max_depth m) (chains_start m + k) k p refl lt,
    )

-- the same of the words of a heap
pub cells-grow_stack : (m : Areas) (ws : List ℕ) (t w : ℕ) → HasThread m t → SoundBlocks m ws → (n : ℕ) → n ≡ length (block (cells m ws) t).stack → n < STACK_SLOTS → cells m (set (set ws (block_at m t + ((stack_start m) + n)) w) (block_at m t + STACK_LENGTH) (n + 1)) ≡ (let o = block (cells m ws) t in with_block (cells m ws) t (record o { stack = o.stack ++ w ∷ [] }))
cells-grow_stack m ws t w ht sound n e lt =
    let vs : List ℕ = set ws (block_at m t + ((stack_start m) + n)) w in
    let b : List ℕ = raw_block m ws t in
    let at : block (cells m ws) t ≡ block_of m b = cells-block m ws t ht in
    let long : length b ≡ block_words m = length-raw_block m ws t ht sound.whole in
    let fits : length (block_of m b).stack ≤ STACK_SLOTS = subst (λ (x : Block). length x.stack ≤ STACK_SLOTS) at (sound.limits t ht).1 in
    let other_fits : length (block_of m b).buffer ≤ BUFFER_ENTRIES = subst (λ (x : Block). length x.buffer ≤ BUFFER_ENTRIES) at (sound.limits t ht).2 in
    let n_is : n ≡ length (block_of m b).stack = e ∙ ap (λ (x : Block). length x.stack) at in
    let word_is : get_or b STACK_LENGTH 0 ≡ n = stack_word m b long fits ∙ sym n_is in
    let other_word : get_or b BUFFER_LENGTH 0 ≤ BUFFER_ENTRIES = rw (buffer_word m b long other_fits) other_fits in
    rw (
      cells-set_block m vs t STACK_LENGTH (n + 1) ht (omega arith),
      cells-set_block m ws t ((stack_start m) + n) w ht (omega arith),
      raw_block-set m ws t ((stack_start m) + n) w (omega arith),
      block-grow_stack m b n w long word_is lt other_word,
      set-set (cells m ws).blocks (t - 1) _ _,
      at,
    )

pub cells-shrink_stack : (m : Areas) (ws : List ℕ) (t : ℕ) → HasThread m t → SoundBlocks m ws → (n : ℕ) → n ≤ length (block (cells m ws) t).stack → cells m (set ws (block_at m t + STACK_LENGTH) n) ≡ (let o = block (cells m ws) t in with_block (cells m ws) t (record o { stack = take n o.stack }))
cells-shrink_stack m ws t ht sound n le =
    let b : List ℕ = raw_block m ws t in
    let at : block (cells m ws) t ≡ block_of m b = cells-block m ws t ht in
    let long : length b ≡ block_words m = length-raw_block m ws t ht sound.whole in
    let fits : length (block_of m b).stack ≤ STACK_SLOTS = subst (λ (x : Block). length x.stack ≤ STACK_SLOTS) at (sound.limits t ht).1 in
    let le_is : n ≤ length (block_of m b).stack = subst (λ (x : Block). n ≤ length x.stack) at le in
    let le_word : n ≤ get_or b STACK_LENGTH 0 = rw (stack_word m b long fits) le_is in
    rw (cells-set_block m ws t STACK_LENGTH n ht (omega arith), block-shrink_stack m b n long le_word, at)

-- the words of a block that a reader meets
pub stack_length-word : (m : Areas) (ws : List ℕ) (t : ℕ) → HasThread m t → SoundBlocks m ws → get_or ws (block_at m t + STACK_LENGTH) 0 ≡ length (block (cells m ws) t).stack
stack_length-word m ws t ht sound =
    let b : List ℕ = raw_block m ws t in
    let at : block (cells m ws) t ≡ block_of m b = cells-block m ws t ht in
    let long : length b ≡ block_words m = length-raw_block m ws t ht sound.whole in
    let fits : length (block_of m b).stack ≤ STACK_SLOTS = subst (λ (x : Block). length x.stack ≤ STACK_SLOTS) at (sound.limits t ht).1 in
    raw_block-get m ws t STACK_LENGTH (omega arith) ∙ stack_word m b long fits ∙ ap (λ (x : Block). length x.stack) (sym at)

stack_is : (m : Areas) (b : List ℕ) → (block_of m b).stack ≡ part (stack_start m) (get_or b STACK_LENGTH 0) b
unfolding block_of
stack_is m b = refl

pub stack-word : (m : Areas) (ws : List ℕ) (t k : ℕ) → HasThread m t → SoundBlocks m ws → k < length (block (cells m ws) t).stack → get_or ws (block_at m t + ((stack_start m) + k)) 0 ≡ get_or (block (cells m ws) t).stack k 0
stack-word m ws t k ht sound within =
    let b : List ℕ = raw_block m ws t in
    let at : block (cells m ws) t ≡ block_of m b = cells-block m ws t ht in
    let n : ℕ = get_or b STACK_LENGTH 0 in
    let in_b : k < length (block_of m b).stack = subst (λ (x : Block). k < length x.stack) at within in
    let in_part : k < length (part (stack_start m) n b) = rw (← stack_is m b) in_b in
    let in_n : k < n = omega (arith, length-take n (drop (stack_start m) b)) in
    let lt : k < STACK_SLOTS = omega (arith, (sound.limits t ht).1) in
    raw_block-get m ws t ((stack_start m) + k) (omega arith) ∙ sym (part-get b (stack_start m) n k 0 in_n) ∙ ap (λ (xs : List ℕ). get_or xs k 0) (sym (stack_is m b)) ∙ ap (λ (x : Block). get_or x.stack k 0) (sym at)

-- the same of the words of a heap
pub cells-grow_buffer : (m : Areas) (ws : List ℕ) (t w : ℕ) → HasThread m t → SoundBlocks m ws → (n : ℕ) → n ≡ length (block (cells m ws) t).buffer → n < BUFFER_ENTRIES → cells m (set (set ws (block_at m t + ((buffer_start m) + n)) w) (block_at m t + BUFFER_LENGTH) (n + 1)) ≡ (let o = block (cells m ws) t in with_block (cells m ws) t (record o { buffer = o.buffer ++ w ∷ [] }))
cells-grow_buffer m ws t w ht sound n e lt =
    let vs : List ℕ = set ws (block_at m t + ((buffer_start m) + n)) w in
    let b : List ℕ = raw_block m ws t in
    let at : block (cells m ws) t ≡ block_of m b = cells-block m ws t ht in
    let long : length b ≡ block_words m = length-raw_block m ws t ht sound.whole in
    let fits : length (block_of m b).buffer ≤ BUFFER_ENTRIES = subst (λ (x : Block). length x.buffer ≤ BUFFER_ENTRIES) at (sound.limits t ht).2 in
    let other_fits : length (block_of m b).stack ≤ STACK_SLOTS = subst (λ (x : Block). length x.stack ≤ STACK_SLOTS) at (sound.limits t ht).1 in
    let n_is : n ≡ length (block_of m b).buffer = e ∙ ap (λ (x : Block). length x.buffer) at in
    let word_is : get_or b BUFFER_LENGTH 0 ≡ n = buffer_word m b long fits ∙ sym n_is in
    let other_word : get_or b STACK_LENGTH 0 ≤ STACK_SLOTS = rw (stack_word m b long other_fits) other_fits in
    rw (
      cells-set_block m vs t BUFFER_LENGTH (n + 1) ht (omega arith),
      cells-set_block m ws t ((buffer_start m) + n) w ht (omega arith),
      raw_block-set m ws t ((buffer_start m) + n) w (omega arith),
      block-grow_buffer m b n w long word_is lt other_word,
      set-set (cells m ws).blocks (t - 1) _ _,
      at,
    )

pub cells-shrink_buffer : (m : Areas) (ws : List ℕ) (t : ℕ) → HasThread m t → SoundBlocks m ws → (n : ℕ) → n ≤ length (block (cells m ws) t).buffer → cells m (set ws (block_at m t + BUFFER_LENGTH) n) ≡ (let o = block (cells m ws) t in with_block (cells m ws) t (record o { buffer = take n o.buffer }))
cells-shrink_buffer m ws t ht sound n le =
    let b : List ℕ = raw_block m ws t in
    let at : block (cells m ws) t ≡ block_of m b = cells-block m ws t ht in
    let long : length b ≡ block_words m = length-raw_block m ws t ht sound.whole in
    let fits : length (block_of m b).buffer ≤ BUFFER_ENTRIES = subst (λ (x : Block). length x.buffer ≤ BUFFER_ENTRIES) at (sound.limits t ht).2 in
    let le_is : n ≤ length (block_of m b).buffer = subst (λ (x : Block). n ≤ length x.buffer) at le in
    let le_word : n ≤ get_or b BUFFER_LENGTH 0 = rw (buffer_word m b long fits) le_is in
    rw (cells-set_block m ws t BUFFER_LENGTH n ht (omega arith), block-shrink_buffer m b n long le_word, at)

-- the words of a block that a reader meets
pub buffer_length-word : (m : Areas) (ws : List ℕ) (t : ℕ) → HasThread m t → SoundBlocks m ws → get_or ws (block_at m t + BUFFER_LENGTH) 0 ≡ length (block (cells m ws) t).buffer
buffer_length-word m ws t ht sound =
    let b : List ℕ = raw_block m ws t in
    let at : block (cells m ws) t ≡ block_of m b = cells-block m ws t ht in
    let long : length b ≡ block_words m = length-raw_block m ws t ht sound.whole in
    let fits : length (block_of m b).buffer ≤ BUFFER_ENTRIES = subst (λ (x : Block). length x.buffer ≤ BUFFER_ENTRIES) at (sound.limits t ht).2 in
    raw_block-get m ws t BUFFER_LENGTH (omega arith) ∙ buffer_word m b long fits ∙ ap (λ (x : Block). length x.buffer) (sym at)

buffer_is : (m : Areas) (b : List ℕ) → (block_of m b).buffer ≡ part (buffer_start m) (get_or b BUFFER_LENGTH 0) b
unfolding block_of
buffer_is m b = refl

pub buffer-word : (m : Areas) (ws : List ℕ) (t k : ℕ) → HasThread m t → SoundBlocks m ws → k < length (block (cells m ws) t).buffer → get_or ws (block_at m t + ((buffer_start m) + k)) 0 ≡ get_or (block (cells m ws) t).buffer k 0
buffer-word m ws t k ht sound within =
    let b : List ℕ = raw_block m ws t in
    let at : block (cells m ws) t ≡ block_of m b = cells-block m ws t ht in
    let n : ℕ = get_or b BUFFER_LENGTH 0 in
    let in_b : k < length (block_of m b).buffer = subst (λ (x : Block). k < length x.buffer) at within in
    let in_part : k < length (part (buffer_start m) n b) = rw (← buffer_is m b) in_b in
    let in_n : k < n = omega (arith, length-take n (drop (buffer_start m) b)) in
    let lt : k < BUFFER_ENTRIES = omega (arith, (sound.limits t ht).2) in
    raw_block-get m ws t ((buffer_start m) + k) (omega arith) ∙ sym (part-get b (buffer_start m) n k 0 in_n) ∙ ap (λ (xs : List ℕ). get_or xs k 0) (sym (buffer_is m b)) ∙ ap (λ (x : Block). get_or x.buffer k 0) (sym at)

-- a slot of the stack changed
pub cells-set_stack : (m : Areas) (ws : List ℕ) (t k w : ℕ) → HasThread m t → SoundBlocks m ws → k < length (block (cells m ws) t).stack → cells m (set ws (block_at m t + ((stack_start m) + k)) w) ≡ (let o = block (cells m ws) t in with_block (cells m ws) t (record o { stack = set o.stack k w }))
cells-set_stack m ws t k w ht sound lt =
    let b : List ℕ = raw_block m ws t in
    let at : block (cells m ws) t ≡ block_of m b = cells-block m ws t ht in
    let long : length b ≡ block_words m = length-raw_block m ws t ht sound.whole in
    let fits : length (block_of m b).stack ≤ STACK_SLOTS = subst (λ (x : Block). length x.stack ≤ STACK_SLOTS) at (sound.limits t ht).1 in
    let word_is : get_or b STACK_LENGTH 0 ≡ length (block_of m b).stack = stack_word m b long fits in
    let in_b : k < length (block_of m b).stack = subst (λ (x : Block). k < length x.stack) at lt in
    let in_word : k < get_or b STACK_LENGTH 0 = rw word_is in_b in
    let word_fits : get_or b STACK_LENGTH 0 ≤ STACK_SLOTS = rw word_is fits in
    rw (cells-set_block m ws t ((stack_start m) + k) w ht (omega arith), block-set_stack m b k w long word_fits in_word, at)

-- the depth changed, and read
pub cells-set_depth : (m : Areas) (ws : List ℕ) (t d : ℕ) → HasThread m t → SoundBlocks m ws → cells m (set ws (block_at m t + DEPTH_WORD) d) ≡ (let o = block (cells m ws) t in with_block (cells m ws) t (record o { depth = d }))
cells-set_depth m ws t d ht sound =
    let b : List ℕ = raw_block m ws t in
    let at : block (cells m ws) t ≡ block_of m b = cells-block m ws t ht in
    let long : length b ≡ block_words m = length-raw_block m ws t ht sound.whole in
    rw (cells-set_block m ws t DEPTH_WORD d ht (omega arith), block-set_depth m b d long, at)

depth_is : (m : Areas) (b : List ℕ) → (block_of m b).depth ≡ get_or b DEPTH_WORD 0
unfolding block_of
depth_is m b = refl

pub depth-word : (m : Areas) (ws : List ℕ) (t : ℕ) → HasThread m t → get_or ws (block_at m t + DEPTH_WORD) 0 ≡ (block (cells m ws) t).depth
depth-word m ws t ht =
    raw_block-get m ws t DEPTH_WORD (omega arith) ∙ sym (depth_is m (raw_block m ws t)) ∙ ap (λ (x : Block). x.depth) (sym (cells-block m ws t ht))

-- the made changed, and read
pub cells-set_made : (m : Areas) (ws : List ℕ) (t d : ℕ) → HasThread m t → SoundBlocks m ws → cells m (set ws (block_at m t + MADE_WORD) d) ≡ (let o = block (cells m ws) t in with_block (cells m ws) t (record o { made = d }))
cells-set_made m ws t d ht sound =
    let b : List ℕ = raw_block m ws t in
    let at : block (cells m ws) t ≡ block_of m b = cells-block m ws t ht in
    let long : length b ≡ block_words m = length-raw_block m ws t ht sound.whole in
    rw (cells-set_block m ws t MADE_WORD d ht (omega arith), block-set_made m b d long, at)

made_is : (m : Areas) (b : List ℕ) → (block_of m b).made ≡ get_or b MADE_WORD 0
unfolding block_of
made_is m b = refl

pub made-word : (m : Areas) (ws : List ℕ) (t : ℕ) → HasThread m t → get_or ws (block_at m t + MADE_WORD) 0 ≡ (block (cells m ws) t).made
made-word m ws t ht =
    raw_block-get m ws t MADE_WORD (omega arith) ∙ sym (made_is m (raw_block m ws t)) ∙ ap (λ (x : Block). x.made) (sym (cells-block m ws t ht))

-- a current page changed, and read
pub cells-set_current : (m : Areas) (ws : List ℕ) (t k p : ℕ) → HasThread m t → SoundBlocks m ws → k < max_depth m + 1 → cells m (set ws (block_at m t + (CURRENT_PAGES + k)) p) ≡ (let o = block (cells m ws) t in with_block (cells m ws) t (record o { current = set o.current k p }))
cells-set_current m ws t k p ht sound lt =
    let b : List ℕ = raw_block m ws t in
    let at : block (cells m ws) t ≡ block_of m b = cells-block m ws t ht in
    let long : length b ≡ block_words m = length-raw_block m ws t ht sound.whole in
    rw (cells-set_block m ws t (CURRENT_PAGES + k) p ht (omega arith), block-set_current m b k p long lt, at)

current_is : (m : Areas) (b : List ℕ) → (block_of m b).current ≡ part CURRENT_PAGES (max_depth m + 1) b
unfolding block_of
current_is m b = refl

pub current-word : (m : Areas) (ws : List ℕ) (t k : ℕ) → HasThread m t → k < (max_depth m + 1) → get_or ws (block_at m t + (CURRENT_PAGES + k)) 0 ≡ get_or (block (cells m ws) t).current k 0
current-word m ws t k ht lt =
    let b : List ℕ = raw_block m ws t in
    raw_block-get m ws t (CURRENT_PAGES + k) (omega arith) ∙ sym (part-get b CURRENT_PAGES (max_depth m + 1) k 0 lt) ∙ ap (λ (xs : List ℕ). get_or xs k 0) (sym (current_is m b)) ∙ ap (λ (x : Block). get_or x.current k 0) (sym (cells-block m ws t ht))

-- the first slot of a chain changed, and read
pub cells-set_first : (m : Areas) (ws : List ℕ) (t k p : ℕ) → HasThread m t → SoundBlocks m ws → k < max_depth m → cells m (set ws (block_at m t + (chains_start m + k)) p) ≡ (let o = block (cells m ws) t in with_block (cells m ws) t (record o { firsts = set o.firsts k p }))
cells-set_first m ws t k p ht sound lt =
    let b : List ℕ = raw_block m ws t in
    let at : block (cells m ws) t ≡ block_of m b = cells-block m ws t ht in
    let long : length b ≡ block_words m = length-raw_block m ws t ht sound.whole in
    let fits : length (block_of m b).stack ≤ STACK_SLOTS = subst (λ (x : Block). length x.stack ≤ STACK_SLOTS) at (sound.limits t ht).1 in
    let other_fits : length (block_of m b).buffer ≤ BUFFER_ENTRIES = subst (λ (x : Block). length x.buffer ≤ BUFFER_ENTRIES) at (sound.limits t ht).2 in
    let stack_fits : get_or b STACK_LENGTH 0 ≤ STACK_SLOTS = rw (stack_word m b long fits) fits in
    let buffer_fits : get_or b BUFFER_LENGTH 0 ≤ BUFFER_ENTRIES = rw (buffer_word m b long other_fits) other_fits in
    rw (cells-set_block m ws t (chains_start m + k) p ht (omega arith), block-set_first m b k p long stack_fits buffer_fits lt, at)

pub firsts_is : (m : Areas) (b : List ℕ) → (block_of m b).firsts ≡ part (chains_start m) (max_depth m) b
unfolding block_of
firsts_is m b = refl

pub length-block_firsts : (m : Areas) (ws : List ℕ) (t : ℕ) → HasThread m t → length ws ≡ total_of m → length (block (cells m ws) t).firsts ≡ max_depth m
length-block_firsts m ws t ht whole =
    let b : List ℕ = raw_block m ws t in
    let long : length b ≡ block_words m = length-raw_block m ws t ht whole in
    rw (cells-block m ws t ht, firsts_is m b) (omega (arith, length-take (max_depth m) (drop (chains_start m) b), length-drop (chains_start m) b, long))

pub first-word : (m : Areas) (ws : List ℕ) (t k : ℕ) → HasThread m t → k < max_depth m → get_or ws (block_at m t + (chains_start m + k)) 0 ≡ get_or (block (cells m ws) t).firsts k 0
first-word m ws t k ht lt =
    let b : List ℕ = raw_block m ws t in
    raw_block-get m ws t (chains_start m + k) (omega arith) ∙ sym (part-get b (chains_start m) (max_depth m) k 0 lt) ∙ ap (λ (xs : List ℕ). get_or xs k 0) (sym (firsts_is m b)) ∙ ap (λ (x : Block). get_or x.firsts k 0) (sym (cells-block m ws t ht))

rest_is : (m : Areas) (b : List ℕ) → (block_of m b).rest ≡ part (block_rest m) (rest_words m) b
unfolding block_of
rest_is m b = refl

pub rest-word : (m : Areas) (ws : List ℕ) (t k : ℕ) → HasThread m t → k < (rest_words m) → get_or ws (block_at m t + ((block_rest m) + k)) 0 ≡ get_or (block (cells m ws) t).rest k 0
rest-word m ws t k ht lt =
    let b : List ℕ = raw_block m ws t in
    raw_block-get m ws t ((block_rest m) + k) (omega arith) ∙ sym (part-get b (block_rest m) (rest_words m) k 0 lt) ∙ ap (λ (xs : List ℕ). get_or xs k 0) (sym (rest_is m b)) ∙ ap (λ (x : Block). get_or x.rest k 0) (sym (cells-block m ws t ht))
