-- Current pages in Control, thread by thread.
use Rattle.std.proofs.Common.{◌≡◌, ◌≢◌, ℕ, ◌+◌, ◌-◌, ◌≤◌, ◌<◌, List, [], length, get_or, set, refl, sym, ap, ◌∙◌, arith, length-set, get_or-set_same, get_or-set_other}
use Rattle.std.proofs.lemmas.Bool.{cases_eq}
use Rattle.std.proofs.Math.Logic.{⊎_elim}
use Rattle.heap_words.specs.Cells.{row, row_set}
use Rattle.heap_words.specs.Contents.{Contents, with_current}
use Rattle.yak_model.specs.Stands.{current}
use Rattle.mark_compact.specs.Collecting.{ControlPages}

row-set_same : (rs : List (List ℕ)) (k j v : ℕ) → k < length rs → row (row_set rs k j v) k ≡ set (row rs k) j v
row-set_same rs k j v lt = get_or-set_same rs k (set (row rs k) j v) [] lt

row-set_other : (rs : List (List ℕ)) (k j v i : ℕ) → i ≢ k → row (row_set rs k j v) i ≡ row rs i
row-set_other rs k j v i ne = get_or-set_other rs k i (set (row rs k) j v) [] ne

word-other : (rs : List (List ℕ)) (k j v i d : ℕ) → k < length rs → d ≢ j → get_or (row (row_set rs k j v) i) d 0 ≡ get_or (row rs i) d 0
word-other rs k j v i d lt ne = ⊎_elim
    (λ (e : i ≡ k). rw e (ap (λ (r : List ℕ). get_or r d 0) (row-set_same rs k j v lt) ∙ get_or-set_other (row rs k) j d v 0 ne))
    (λ (o : i ≢ k). ap (λ (r : List ℕ). get_or r d 0) (row-set_other rs k j v i o))
    (cases_eq i k)

length-other : (rs : List (List ℕ)) (k j v i : ℕ) → k < length rs → length (row (row_set rs k j v) i) ≡ length (row rs i)
length-other rs k j v i lt = ⊎_elim
    (λ (e : i ≡ k). rw e (ap (λ (r : List ℕ). length r) (row-set_same rs k j v lt) ∙ length-set (row rs k) j v))
    (λ (o : i ≢ k). ap (λ (r : List ℕ). length r) (row-set_other rs k j v i o))
    (cases_eq i k)

pub control_pages-none : (c : Contents) (t page : ℕ) → 1 ≤ t → ControlPages c c t page 0
control_pages-none c t page pos = record { frame = refl; own = λ le. absurd (omega (arith, le, pos)); others = λ u low high ne. absurd (omega (arith, low, high)); regions = λ u d h. refl; slots = λ u. refl }

pub control_pages-more : (was now next : Contents) (t page below v : ℕ) → 1 ≤ t → below < length now.currents → 0 < length (row now.currents below) → ControlPages was now t page below → next ≡ with_current now (below + 1) 0 v → (below + 1 ≡ t → v ≡ page) → (below + 1 ≢ t → v ≡ 0) → ControlPages was next t page (below + 1)
control_pages-more was now next t page below v pos lt some c e own others =
    let place : below + 1 - 1 ≡ below = omega arith in
    let currents : next.currents ≡ row_set now.currents below 0 v = ap (λ (x : Contents). x.currents) e ∙ ap (λ i. row_set now.currents i 0 v) place in
    let here : row next.currents below ≡ set (row now.currents below) 0 v = ap (λ (rs : List (List ℕ)). row rs below) currents ∙ row-set_same now.currents below 0 v lt in
    let own_word : current next.currents (below + 1) 0 ≡ v = ap (λ i. get_or (row next.currents i) 0 0) place ∙ ap (λ (r : List ℕ). get_or r 0 0) here ∙ get_or-set_same (row now.currents below) 0 v 0 some in
    let other_word : (u : ℕ) → 1 ≤ u → u ≢ below + 1 → current next.currents u 0 ≡ current now.currents u 0 = λ u low ne. (
    let apart : u - 1 ≢ below = λ q. ne (omega (arith, q, low)) in
    ap (λ (r : List ℕ). get_or r 0 0) (ap (λ (rs : List (List ℕ)). row rs (u - 1)) currents ∙ row-set_other now.currents below 0 v (u - 1) apart)) in
    record {
      frame = e ∙ ap (λ (x : Contents). with_current x (below + 1) 0 v) c.frame ∙ ap (λ (rs : List (List ℕ)). record was { currents = rs }) (sym (ap (λ (x : Contents). x.currents) e));
      own = λ le. ⊎_elim
          (λ (q : below + 1 ≡ t). ap (λ i. current next.currents i 0) (sym q) ∙ own_word ∙ own q)
          (λ (ne : below + 1 ≢ t). other_word t pos (λ q. ne (sym q)) ∙ c.own (omega (arith, le, ne)))
          (cases_eq (below + 1) t);
      others = λ u low high ne. ⊎_elim
          (λ (q : u ≡ below + 1). ap (λ i. current next.currents i 0) q ∙ own_word ∙ others (λ z. ne (q ∙ z)))
          (λ (o : u ≢ below + 1). other_word u low o ∙ c.others u low (omega (arith, high, o)) ne)
          (cases_eq u (below + 1));
      regions = λ u d h. ap (λ (rs : List (List ℕ)). current rs u d) currents ∙ word-other now.currents below 0 v (u - 1) d lt (λ z. omega (arith, z, h)) ∙ c.regions u d h;
      slots = λ u. ap (λ (rs : List (List ℕ)). length (row rs u)) currents ∙ length-other now.currents below 0 v u lt ∙ c.slots u;
    }
