-- What words hold after the stores that make an object.
use Rattle.std.proofs.Common.{◌≡◌, ◌≢◌, ◌⊎◌, ℕ, ◌+◌, ◌-◌, ◌≤◌, ◌<◌, List, [], ◌∷◌, ◌++◌, take, length, get_or, set, refl, sym, ap, ◌∙◌, arith, length-append, length-set, get_or-set_same, get_or-set_other}
use Rattle.std.specs.List.{All}
use Rattle.std.proofs.lemmas.List.{set-set, set-get_or, take_at}
use Rattle.std.proofs.lemmas.List.Elements.{All-head, All-tail}
use Rattle.std.proofs.Math.Logic.{⊎_elim}
use Rattle.heap_words.specs.declared.map.Areas.{Areas}
use Rattle.heap_words.specs.declared.TheConstants.{STACK_SLOTS}
use Rattle.heap_words.specs.Map.{HasThread, heap_at, heap_length}
use Rattle.heap_words.specs.Contents.{Contents, Sound, contents, stack_of, with_heap, with_stack}
use Rattle.heap_words.proofs.Contents.{contents-grow_stack, contents-set_heap, contents-shrink_stack, sound-elsewhere, length-stacks, sound-grow_stack, stack_of-length_word}
use Rattle.calls_in_flight.specs.Flight.{Cover, IsBare}
use Rattle.calls_in_flight.specs.Making.{LiesAt}
use Rattle.calls_in_flight.specs.Steps.{length_at, slot_at}
use Rattle.calls_in_flight.proofs.Covers.{bare-head, bare-tail, lifted}

-- a slot above a stack's length isn't looked at
pub contents-unused : (m : Areas) (ws : List ℕ) (t n w : ℕ) → HasThread m t → Sound m ws → n ≡ length (stack_of (contents m ws) t) → n < STACK_SLOTS → contents m (set ws (slot_at m t n) w) ≡ contents m ws
contents-unused m ws t n w ht s e lt =
    let c : Contents = contents m ws in
    let st : List ℕ = stack_of c t in
    let a : ℕ = length_at m t in
    let one : List ℕ = set ws (slot_at m t n) w in
    let two : List ℕ = set one a (n + 1) in
    let grown : contents m two ≡ with_stack c t (st ++ w ∷ []) = contents-grow_stack m ws t w n ht s e lt in
    let sound : Sound m two = sound-grow_stack m ws t w n ht s e lt in
    let stored : get_or ws a 0 ≡ n = stack_of-length_word m ws t ht s ∙ sym e in
    let same : get_or one a 0 ≡ n = get_or-set_other ws (slot_at m t n) a w 0 (λ z. omega (arith, z)) ∙ stored in
    let back : set two a n ≡ one = set-set one a (n + 1) n ∙ ap (set one a) (sym same) ∙ set-get_or one a 0 in
    let in_stacks : t - 1 < length c.stacks = omega (arith, ht.0, ht.1, length-stacks m ws) in
    let top : stack_of (contents m two) t ≡ st ++ w ∷ [] = ap (λ (x : Contents). stack_of x t) grown ∙ get_or-set_same c.stacks (t - 1) (st ++ w ∷ []) [] in_stacks in
    let more : length (st ++ w ∷ []) ≡ length st + 1 = length-append st (w ∷ []) in
    let shrunk : contents m (set two a n) ≡ with_stack (contents m two) t (take n (stack_of (contents m two) t)) = contents-shrink_stack m two t n ht sound (omega (arith, ap (λ (x : List ℕ). length x) top, more, e)) in
    let cut : take n (stack_of (contents m two) t) ≡ st = ap (take n) top ∙ take_at st (w ∷ []) n (sym e) in
    ap (contents m) (sym back) ∙ shrunk ∙ ap (with_stack (contents m two) t) cut ∙ ap (λ (x : Contents). with_stack x t st) grown ∙ ap (λ (ss : List (List ℕ)). record c { stacks = ss }) (set-set c.stacks (t - 1) (st ++ w ∷ []) st ∙ set-get_or c.stacks (t - 1) [])

-- a stored length takes in the word that stands above
pub contents-grown : (m : Areas) (ws : List ℕ) (t n w : ℕ) → HasThread m t → Sound m ws → n ≡ length (stack_of (contents m ws) t) → n < STACK_SLOTS → get_or ws (slot_at m t n) 0 ≡ w → contents m (set ws (length_at m t) (n + 1)) ≡ (let c = contents m ws in with_stack c t (stack_of c t ++ w ∷ []))
contents-grown m ws t n w ht s e lt is =
    let same : set ws (slot_at m t n) w ≡ ws = ap (set ws (slot_at m t n)) (sym is) ∙ set-get_or ws (slot_at m t n) 0 in
    ap (λ (xs : List ℕ). contents m (set xs (length_at m t) (n + 1))) (sym same) ∙ contents-grow_stack m ws t w n ht s e lt

-- words that hold the same but for what blocks' limits don't tell
pub sound-set : (m : Areas) (ws : List ℕ) (a w : ℕ) (c : Contents) → Sound m ws → contents m (set ws a w) ≡ c → c.depths ≡ (contents m ws).depths → c.stacks ≡ (contents m ws).stacks → c.buffers ≡ (contents m ws).buffers → Sound m (set ws a w)
sound-set m ws a w c s e d st b = sound-elsewhere m ws (set ws a w) s (length-set ws a w ∙ s.whole) (ap (λ (x : Contents). x.depths) e ∙ d) (ap (λ (x : Contents). x.stacks) e ∙ st) (ap (λ (x : Contents). x.buffers) e ∙ b)

-- ---- words of the heap put back

pub record Rewritten (c d : Contents) (a end : ℕ) : Type 0 where
  pub rest : d ≡ record c { heap = d.heap }
  pub others : (i : ℕ) → (i < a) ⊎ (end ≤ i) → get_or d.heap i 0 ≡ get_or c.heap i 0

outside : (i j a end : ℕ) → (i < a) ⊎ (end ≤ i) → a ≤ j → j < end → i ≢ j
outside i j a end out low high e = ⊎_elim (λ (h : i < a). let r : ⊥ = omega (arith, h, e, low) in r) (λ (h : end ≤ i). let r : ⊥ = omega (arith, h, e, high) in r) out

pub lifted-heap : (m : Areas) (ks : List Cover) (ws : List ℕ) (a end : ℕ) → end ≤ heap_length m → All (LiesAt m a end) ks → Rewritten (contents m ws) (contents m (lifted ks ws)) a end
lifted-heap m [] ws a end fits h = record { rest = refl; others = λ i out. refl }
lifted-heap m (k ∷ ks) ws a end fits h =
    let at = All-head (LiesAt m a end) k ks h in
    let j : ℕ = k.place - heap_at m in
    let is : k.place ≡ heap_at m + j = omega (arith, at.0) in
    let e : contents m (set ws k.place k.stands) ≡ with_heap (contents m ws) j k.stands = ap (λ p. contents m (set ws p k.stands)) is ∙ contents-set_heap m ws j k.stands (omega (arith, at.1, is, fits)) in
    let rest = lifted-heap m ks (set ws k.place k.stands) a end fits (All-tail (LiesAt m a end) k ks h) in
    let d : Contents = contents m (lifted ks (set ws k.place k.stands)) in
    record {
      rest = rest.rest ∙ ap (λ (x : Contents). record x { heap = d.heap }) e;
      others = λ i out. rest.others i out ∙ ap (λ (x : Contents). get_or x.heap i 0) e ∙ get_or-set_other (contents m ws).heap j i k.stands 0 (outside i j a end out (omega (arith, at.0, is)) (omega (arith, at.1, is)));
    }

pub length-lifted : (ks : List Cover) (ws : List ℕ) → length (lifted ks ws) ≡ length ws
length-lifted [] ws = refl
length-lifted (k ∷ ks) ws = length-lifted ks (set ws k.place k.stands) ∙ length-set ws k.place k.stands

-- a bare place is as it was
pub lifted-bare : (ks : List Cover) (ws : List ℕ) (a : ℕ) → IsBare ks a → get_or (lifted ks ws) a 0 ≡ get_or ws a 0
lifted-bare [] ws a h = refl
lifted-bare (k ∷ ks) ws a h = lifted-bare ks (set ws k.place k.stands) a (bare-tail k ks a h) ∙ get_or-set_other ws k.place a k.stands 0 (λ e. bare-head k ks a h (sym e))
