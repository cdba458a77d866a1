use Rattle.std.proofs.Common.{◌≡◌, ◌≢◌, ℕ, ◌+◌, ◌*◌, ◌≤◌, ◌<◌, Some, List, length, get_or, set, refl, ap, ◌∙◌, arith, length-set, get_or-set_same, get_or-set_other}
use Rattle.std.proofs.lemmas.Bool.{cases_eq}
use Rattle.std.proofs.Math.Logic.{⊎_elim}
use Rattle.heap_words.specs.declared.map.Areas.{Areas}
use Rattle.heap_words.specs.Map.{heap_length}
use Rattle.epoch_lattice.specs.declared.Space.{Space}
use Rattle.epoch_lattice.specs.Lattice.{space_of}
use Rattle.yak_model.specs.Plans.{Move}
use Rattle.relocation.specs.declared.plans.TheConstants.{MOVE_WORDS}
use Rattle.relocation.specs.Moves.{move_at, Numbered}

-- the words of a move
pub move_at-old : (s : List ℕ) (k : ℕ) → (move_at s k).old ≡ get_or s (MOVE_WORDS * k) 0
unfolding move_at
move_at-old s k = refl

pub move_at-new : (s : List ℕ) (k : ℕ) → (move_at s k).new ≡ get_or s (MOVE_WORDS * k + 1) 0
unfolding move_at
move_at-new s k = refl

-- the scratch area with a move written
abbrev pub with_move : List ℕ → ℕ → ℕ → ℕ → ℕ → List ℕ
with_move s k o n i = set (set (set s (MOVE_WORDS * k) o) (MOVE_WORDS * k + 1) n) (MOVE_WORDS * k + 2) i

pub with_move-past : (s : List ℕ) (k o n i j : ℕ) → MOVE_WORDS * (k + 1) ≤ j → get_or (with_move s k o n i) j 0 ≡ get_or s j 0
with_move-past s k o n i j past =
    let a : ℕ = MOVE_WORDS * k in
    let one : List ℕ = set s a o in
    let two : List ℕ = set one (a + 1) n in
    get_or-set_other two (a + 2) j i 0 (λ e. omega arith) ∙ get_or-set_other one (a + 1) j n 0 (λ e. omega arith) ∙ get_or-set_other s a j o 0 (λ e. omega arith)

pub move_at-added : (s : List ℕ) (k o n i : ℕ) (x : Space) → MOVE_WORDS * k + 2 < length s → space_of i ≡ Some x → move_at (with_move s k o n i) k ≡ record { old = o; new = n; space = x }
unfolding move_at
move_at-added s k o n i x within number =
    let a : ℕ = MOVE_WORDS * k in
    let one : List ℕ = set s a o in
    let two : List ℕ = set one (a + 1) n in
    let long : a + 1 < length one = rw (length-set s a o) (omega arith) in
    let long' : a + 2 < length two = rw (length-set one (a + 1) n, length-set s a o) within in
    let first : get_or (set two (a + 2) i) a 0 ≡ o = get_or-set_other two (a + 2) a i 0 (λ e. omega arith) ∙ get_or-set_other one (a + 1) a n 0 (λ e. omega arith) ∙ get_or-set_same s a o 0 (omega arith) in
    let second : get_or (set two (a + 2) i) (a + 1) 0 ≡ n = get_or-set_other two (a + 2) (a + 1) i 0 (λ e. omega arith) ∙ get_or-set_same one (a + 1) n 0 long in
    let third : get_or (set two (a + 2) i) (a + 2) 0 ≡ i = get_or-set_same two (a + 2) i 0 long' in
    rw (first, second, third, number) refl

pub move_at-former : (s : List ℕ) (k o n i j : ℕ) → j < k → move_at (with_move s k o n i) j ≡ move_at s j
unfolding move_at
move_at-former s k o n i j before =
    let a : ℕ = MOVE_WORDS * k in
    let one : List ℕ = set s a o in
    let two : List ℕ = set one (a + 1) n in
    let other : (b : ℕ) → b < a → get_or (set two (a + 2) i) b 0 ≡ get_or s b 0 = λ b lt. get_or-set_other two (a + 2) b i 0 (λ e. omega arith) ∙ get_or-set_other one (a + 1) b n 0 (λ e. omega arith) ∙ get_or-set_other s a b o 0 (λ e. omega arith) in
    rw (other (MOVE_WORDS * j) (omega arith), other (MOVE_WORDS * j + 1) (omega arith), other (MOVE_WORDS * j + 2) (omega arith)) refl

-- one move more
pub numbered-more : (m : Areas) (heap : List ℕ) (k o n : ℕ) (x : Space) (moves moves' : ℕ → Move) → Numbered m heap k moves → MOVE_WORDS * (k + 1) ≤ heap_length m → ((j : ℕ) → j < k → (moves j).old < o) → o + 2 < heap_length m → n < heap_length m → length heap ≡ heap_length m → ((j : ℕ) → j < k → moves' j ≡ moves j) → moves' k ≡ record { old = o; new = n; space = x } → Numbered m (set heap (o + 2) (k + 1)) (k + 1) moves'
numbered-more m heap k o n x moves moves' h room up within place long former added =
    let own : (moves' k).old ≡ o = ap (λ (v : Move). v.old) added in
    let own' : (moves' k).new ≡ n = ap (λ (v : Move). v.new) added in
    let olds : (j : ℕ) → j < k → (moves' j).old ≡ (moves j).old = λ j lt. ap (λ (v : Move). v.old) (former j lt) in
    let news : (j : ℕ) → j < k → (moves' j).new ≡ (moves j).new = λ j lt. ap (λ (v : Move). v.new) (former j lt) in
    record {
      room = room;
      ascending = λ i j lt le. ⊎_elim
          (λ (e : j ≡ k). let before : i < k = omega arith in rw (e, own, olds i before) (up i before))
          (λ (ne : j ≡ k → ⊥). let jk : j < k = omega arith in let ik : i < k = omega arith in rw (olds i ik, olds j jk) (h.ascending i j lt jk))
          (cases_eq j k);
      within = λ j le. ⊎_elim
          (λ (e : j ≡ k). rw (e, own, own') (within, place))
          (λ (ne : j ≡ k → ⊥). let jk : j < k = omega arith in rw (olds j jk, news j jk) (h.within j jk))
          (cases_eq j k);
      marks = λ j le. ⊎_elim
          (λ (e : j ≡ k). let in_heap : o + 2 < length heap = rw long within in rw (e, own) (get_or-set_same heap (o + 2) (k + 1) 0 in_heap))
          (λ (ne : j ≡ k → ⊥).
          let jk : j < k = omega arith in
          let less : (moves j).old < o = up j jk in
          rw (olds j jk) (get_or-set_other heap (o + 2) ((moves j).old + 2) (k + 1) 0 (λ e. omega arith) ∙ h.marks j jk))
          (cases_eq j k);
    }

pub numbered-none : (m : Areas) (heap : List ℕ) (moves : ℕ → Move) → Numbered m heap 0 moves
numbered-none m heap moves = record {
  room = omega arith;
  ascending = λ j k lt le. absurd (omega arith);
  within = λ k lt. absurd (omega arith);
  marks = λ k lt. absurd (omega arith);
}

-- a word that is no work word of a moved object
pub numbered-kept : (m : Areas) (heap : List ℕ) (count : ℕ) (moves : ℕ → Move) (i v : ℕ) → Numbered m heap count moves → ((k : ℕ) → k < count → (moves k).old + 2 ≢ i) → Numbered m (set heap i v) count moves
numbered-kept m heap count moves i v h none = record {
  room = h.room;
  ascending = h.ascending;
  within = h.within;
  marks = λ k lt. get_or-set_other heap i ((moves k).old + 2) v 0 (none k lt) ∙ h.marks k lt;
}
