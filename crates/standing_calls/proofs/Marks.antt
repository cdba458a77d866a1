-- A reader's bit that is set, over what is shown of states.
use Rattle.std.proofs.Common.{◌≡◌, ◌≢◌, ℕ, ◌-◌, ◌*◌, ◌^◌, ◌≤◌, ◌<◌, List, [], length, drop, get_or, set, sym, ap, subst, ◌∙◌, arith, bit_or, IsBitSet, length-drop, get_or-set_same, get_or-set_other}
use Rattle.std.proofs.lemmas.Bool.{cases_eq}
use Rattle.std.proofs.lemmas.Nat.{and_or_apart, and_or_self, pow_apart}
use Rattle.std.proofs.Math.Pow.{pow-sub-lt}
use Rattle.std.proofs.Math.Logic.{⊎_elim}
use Rattle.object_layout.specs.declared.names.Name.{Name}
use Rattle.heap_words.specs.declared.map.Areas.{Areas}
use Rattle.heap_words.specs.Map.{HasRegion, all_readers_at, max_depth, total_of}
use Rattle.heap_words.specs.Cells.{cells, row, row_set}
use Rattle.heap_words.specs.Contents.{Contents, contents}
use Rattle.heap_words.proofs.Rows.{length-row, length-rows}
use Rattle.yak_model.specs.State.{State, depth}
use Rattle.yak_model.specs.Placed.{Places}
use Rattle.yak_model.specs.Stands.{StandsAs}
use Rattle.yak_model.specs.Recorded.{IsReader, RecordedAs}

-- the words of the readers are as many as the regions
pub record ReadersFit (m : Areas) (readers : List (List ℕ)) : Type 0 where
  pub long : length readers ≡ m.threads
  pub rows : (k : ℕ) → k < m.threads → length (row readers k) ≡ max_depth m

length-readers : (m : Areas) (ws : List ℕ) → length (contents m ws).readers ≡ m.threads
unfolding contents cells
length-readers m ws = length-rows m.threads (max_depth m) (drop (all_readers_at m) ws)

length-readers_row : (m : Areas) (ws : List ℕ) (k : ℕ) → length ws ≡ total_of m → k < m.threads → length (row (contents m ws).readers k) ≡ max_depth m
unfolding contents cells
length-readers_row m ws k h lt =
    let long : m.threads * max_depth m ≤ length (drop (all_readers_at m) ws) = omega (arith, length-drop (all_readers_at m) ws) in
    length-row m.threads (max_depth m) (drop (all_readers_at m) ws) k lt long

pub readers_fit : (m : Areas) (ws : List ℕ) → length ws ≡ total_of m → ReadersFit m (contents m ws).readers
readers_fit m ws h = record { long = length-readers m ws; rows = λ k lt. length-readers_row m ws k h lt }

-- a cell that is set, and the others
cell-same : (rs : List (List ℕ)) (k j v : ℕ) → k < length rs → j < length (row rs k) → get_or (row (row_set rs k j v) k) j 0 ≡ v
cell-same rs k j v lk lj = ap (λ (r : List ℕ). get_or r j 0) (get_or-set_same rs k (set (row rs k) j v) [] lk) ∙ get_or-set_same (row rs k) j v 0 lj

cell-other : (rs : List (List ℕ)) (k j v k' j' : ℕ) → k < length rs → (k' ≡ k → j' ≡ j → ⊥) → get_or (row (row_set rs k j v) k') j' 0 ≡ get_or (row rs k') j' 0
cell-other rs k j v k' j' lk apart = ⊎_elim
    (λ (e : k' ≡ k).
    ap (λ i. get_or (row (row_set rs k j v) i) j' 0) e ∙ ap (λ (r : List ℕ). get_or r j' 0) (get_or-set_same rs k (set (row rs k) j v) [] lk) ∙ get_or-set_other (row rs k) j j' v 0 (λ z. apart e z) ∙ ap (λ i. get_or (row rs i) j' 0) (sym e))
    (λ (ne : k' ≢ k). ap (λ (r : List ℕ). get_or r j' 0) (get_or-set_other rs k k' (set (row rs k) j v) [] ne))
    (cases_eq k' k)

-- a bit that is set, and those that were
own_bit : (a i : ℕ) → IsBitSet (bit_or a (2 ^ i)) i
own_bit a i = λ z. let one : 0 < 1 = omega arith in let p : 2 ^ i - 1 < 2 ^ i = pow-sub-lt i one in let e : 2 ^ i ≡ 0 = sym (and_or_self (2 ^ i) a) ∙ z in omega (arith, p, e)

old_bit : (a i j : ℕ) → IsBitSet a j → IsBitSet (bit_or a (2 ^ i)) j
old_bit a i j h = ⊎_elim
    (λ (e : j ≡ i). subst (IsBitSet (bit_or a (2 ^ i))) (sym e) (own_bit a i))
    (λ (ne : j ≢ i). λ z. h (sym (and_or_apart (2 ^ j) a (2 ^ i) (pow_apart i j (λ q. ne (sym q)))) ∙ z))
    (cases_eq j i)

-- the readers with a thread's bit set in one word
abbrev pub marked : List (List ℕ) → ℕ → ℕ → ℕ → List (List ℕ)
marked rs t u d = row_set rs (u - 1) (d - 1) (bit_or (get_or (row rs (u - 1)) (d - 1) 0) (2 ^ (t - 1)))

pub now_reader : (m : Areas) (rs : List (List ℕ)) (t u d : ℕ) → ReadersFit m rs → HasRegion m u d → IsReader (marked rs t u d) t u d
now_reader m rs t u d fit hr =
    let lk : u - 1 < length rs = omega (arith, fit.long, hr.0, hr.1) in
    let lj : d - 1 < length (row rs (u - 1)) = omega (arith, fit.rows (u - 1) (omega (arith, hr.0, hr.1)), hr.2, hr.3) in
    subst (λ w. IsBitSet w (t - 1)) (sym (cell-same rs (u - 1) (d - 1) (bit_or (get_or (row rs (u - 1)) (d - 1) 0) (2 ^ (t - 1))) lk lj)) (own_bit (get_or (row rs (u - 1)) (d - 1) 0) (t - 1))

still_reader : (m : Areas) (rs : List (List ℕ)) (t u d v x e : ℕ) → ReadersFit m rs → HasRegion m u d → IsReader rs v x e → IsReader (marked rs t u d) v x e
still_reader m rs t u d v x e fit hr h =
    let w : ℕ = get_or (row rs (u - 1)) (d - 1) 0 in
    let new : ℕ = bit_or w (2 ^ (t - 1)) in
    let lk : u - 1 < length rs = omega (arith, fit.long, hr.0, hr.1) in
    let lj : d - 1 < length (row rs (u - 1)) = omega (arith, fit.rows (u - 1) (omega (arith, hr.0, hr.1)), hr.2, hr.3) in
    let other : (x - 1 ≡ u - 1 → e - 1 ≡ d - 1 → ⊥) → IsReader (marked rs t u d) v x e = λ apart. subst (λ i. IsBitSet i (v - 1)) (sym (cell-other rs (u - 1) (d - 1) new (x - 1) (e - 1) lk apart)) h in
    ⊎_elim
    (λ (p : x - 1 ≡ u - 1). ⊎_elim
    (λ (q : e - 1 ≡ d - 1).
    let cell : get_or (row (marked rs t u d) (x - 1)) (e - 1) 0 ≡ new = ap (λ i. get_or (row (marked rs t u d) i) (e - 1) 0) p ∙ ap (λ i. get_or (row (marked rs t u d) (u - 1)) i 0) q ∙ cell-same rs (u - 1) (d - 1) new lk lj in
    let was : IsBitSet w (v - 1) = subst (λ i. IsBitSet i (v - 1)) (ap (λ i. get_or (row rs i) (e - 1) 0) p ∙ ap (λ i. get_or (row rs (u - 1)) i 0) q) h in
    subst (λ i. IsBitSet i (v - 1)) (sym cell) (old_bit w (t - 1) (v - 1) was))
    (λ (ne : e - 1 ≢ d - 1). other (λ a b. ne b))
    (cases_eq (e - 1) (d - 1)))
    (λ (ne : x - 1 ≢ u - 1). other (λ a b. ne a))
    (cases_eq (x - 1) (u - 1))

-- the words stand as before
pub stands-reread : (m : Areas) (c : Contents) (s : State) (l : Places) (rs : List (List ℕ)) → StandsAs m c s l → (let x : Contents = record c { readers = rs } in StandsAs m x s l)
stands-reread m c s l rs h = record {
  heap = h.heap;
  open_spaces = h.open_spaces;
  closed = h.closed;
  stacks = h.stacks;
  depths = h.depths;
  made = h.made;
  serials = h.serials;
  threads = h.threads;
  names = h.names;
  limits = record { depths = h.limits.depths; stacks = h.limits.stacks; buffers = h.limits.buffers };
  zero = h.zero;
  pool = h.pool;
  currents = h.currents;
  sets = h.sets;
  heads_closed = h.heads_closed;
  dense = h.dense;
}

-- a bit that is set in the readers word of an open region
pub recorded-marked : (m : Areas) (c : Contents) (s : State) (at : Name → ℕ) (t u d : ℕ) → ReadersFit m c.readers → HasRegion m u d → d ≤ depth s u → RecordedAs m c s at → (let x : Contents = record c { readers = marked c.readers t u d } in RecordedAs m x s at)
recorded-marked m c s at t u d fit hr open_it r =
    let lk : u - 1 < length c.readers = omega (arith, fit.long, hr.0, hr.1) in
    record {
      crossing = r.crossing;
      fields = r.fields;
      read = λ v x e k y p hv hm hk q ey home ne. still_reader m c.readers t u d v x e fit hr (r.read v x e k y p hv hm hk q ey home ne);
      closed = λ x e hx hm he lt.
          let apart : x - 1 ≡ u - 1 → e - 1 ≡ d - 1 → ⊥ = λ a b.
          let same : depth s x ≡ depth s u = ap (λ i. get_or s.depths i 0) a in
          omega (arith, lt, same, open_it, b, hr.2)
          in
          cell-other c.readers (u - 1) (d - 1) (bit_or (get_or (row c.readers (u - 1)) (d - 1) 0) (2 ^ (t - 1))) (x - 1) (e - 1) lk apart ∙ r.closed x e hx hm he lt;
    }
