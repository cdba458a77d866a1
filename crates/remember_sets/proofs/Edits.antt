-- Which words change where the neighbours of a slot and its own words are set.
use Rattle.std.proofs.Common.{◌≡◌, ◌≢◌, ◌⊎◌, inl, inr, ℕ, ◌+◌, ◌-◌, ◌*◌, ◌≤◌, ◌<◌, List, [], length, get_or, set, true, false, ltb, Some, Option, refl, sym, ap, subst, ◌∙◌, arith, get_or-set_same, get_or-set_other, length-set}
use Rattle.std.proofs.Math.Logic.{⊎_elim}
use Rattle.std.proofs.lemmas.Bool.{cases_lt, cases_eq, cond-true, cond-false, lt-ltb, le-ltb}
use Rattle.heap_words.specs.declared.map.Areas.{Areas}
use Rattle.heap_words.specs.Map.{HasThread, IsAreas, heap_length, max_depth}
use Rattle.heap_words.specs.Cells.{row, row_set}
use Rattle.heap_words.specs.Contents.{Contents, with_first, with_set}
use Rattle.epoch_lattice.specs.declared.Space.{Space}
use Rattle.epoch_lattice.specs.declared.Space.TheVariants.{Control, Region}
use Rattle.epoch_lattice.specs.Lattice.{space_index, space_of}
use Rattle.epoch_lattice.proofs.Numbers.{number-reads_back}
use Rattle.yak_model.specs.Chains.{IsRegionOf, former_from, former_word, head_word, next_word}
use Rattle.yak_model.proofs.Chains.{region-index, region-own, region-valid}
use Rattle.remember_sets.specs.Linking.{IsFormer, IsNext, with_former, with_head_word, with_links, with_next}

-- how long the lists are
pub record Whole (m : Areas) (c : Contents) : Type 0 where
  pub areas : IsAreas m
  pub sets : length c.sets ≡ 2 * heap_length m
  pub firsts : length c.firsts ≡ m.threads
  pub rows : (t : ℕ) → HasThread m t → length (row c.firsts (t - 1)) ≡ max_depth m

-- the first word of what a second word names is set
pub record SetsNext (m : Areas) (c d : Contents) (former word : ℕ) : Type 0 where
  pub at : (b : ℕ) → former ≡ b + former_from → next_word d.sets b ≡ word
  pub other : (b : ℕ) → former ≢ b + former_from → next_word d.sets b ≡ next_word c.sets b
  pub formers : (b : ℕ) → former_word d.sets b ≡ former_word c.sets b
  pub head : (x : Space) → IsRegionOf m x → former ≡ space_index x → head_word d.firsts x ≡ word - 1
  pub heads : (x : Space) → IsRegionOf m x → former ≢ space_index x → head_word d.firsts x ≡ head_word c.firsts x
  pub whole : Whole m d

set-row-same : (rs : List (List ℕ)) (i j v : ℕ) → i < length rs → j < length (row rs i) → get_or (row (row_set rs i j v) i) j 0 ≡ v
set-row-same rs i j v lt within = ap (λ (r : List ℕ). get_or r j 0) (get_or-set_same rs i (set (row rs i) j v) [] lt) ∙ get_or-set_same (row rs i) j v 0 within

set-row-other : (rs : List (List ℕ)) (i j v k l : ℕ) → i < length rs → ((k ≡ i) × (l ≡ j) → ⊥) → get_or (row (row_set rs i j v) k) l 0 ≡ get_or (row rs k) l 0
set-row-other rs i j v k l lt ne =
    ⊎_elim (λ (e : k ≡ i).
    let f : l ≢ j = λ g. ne (e, g) in
    ap (λ n. get_or (row (row_set rs i j v) n) l 0) e ∙ ap (λ (r : List ℕ). get_or r l 0) (get_or-set_same rs i (set (row rs i) j v) [] lt) ∙ get_or-set_other (row rs i) j l v 0 f ∙ ap (λ n. get_or (row rs n) l 0) (sym e))
    (λ (n : k ≡ i → ⊥). ap (λ (r : List ℕ). get_or r l 0) (get_or-set_other rs i k (set (row rs i) j v) [] n))
    (cases_eq k i)

other-head : (m : Areas) (c : Contents) (t d v : ℕ) → Whole m c → IsRegionOf m (Region t d) → t - 1 < length c.firsts → (x : Space) → IsRegionOf m x → space_index (Region t d) ≢ space_index x → head_word (with_first c t d v).firsts x ≡ head_word c.firsts x
other-head m c t d v w r lt Control q e = absurd q
other-head m c t d v w r lt (Region u g) q e =
    set-row-other c.firsts (t - 1) (d - 1) v (u - 1) (g - 1) lt (λ (p : (u - 1 ≡ t - 1) × (g - 1 ≡ d - 1)).
    let a : t ≡ u = omega (arith, p.0, r.0, q.0) in
    let b : d ≡ g = omega (arith, p.1, r.2, q.2) in
    e (ap (λ n. space_index (Region n d)) a ∙ ap (λ n. space_index (Region u n)) b))

-- of a region, the head is set
head-set : (m : Areas) (c : Contents) (t d v : ℕ) → Whole m c → IsRegionOf m (Region t d) → SetsNext m c (with_first c t d v) (space_index (Region t d)) (v + 1)
head-set m c t d v w r =
    let lt : t - 1 < length c.firsts = omega (arith, w.firsts) in
    let within : d - 1 < length (row c.firsts (t - 1)) = omega (arith, w.rows t (r.0, r.1)) in
    record {
      at = λ b e. absurd (omega (arith, e, (region-index m (Region t d) w.areas r).1));
      other = λ b e. refl;
      formers = λ b. refl;
      head = λ x q e.
          let same : Region t d ≡ x = region-own m (Region t d) x w.areas r q e in
          subst (λ y. head_word (with_first c t d v).firsts y ≡ v + 1 - 1) same (set-row-same c.firsts (t - 1) (d - 1) v lt within ∙ omega arith);
      heads = λ x q e. other-head m c t d v w r lt x q e;
      whole = record {
        areas = w.areas;
        sets = w.sets;
        firsts = simp length-set w.firsts;
        rows = λ u hu.
            ⊎_elim (λ (e : u - 1 ≡ t - 1). ap (λ n. length (row (with_first c t d v).firsts n)) e ∙ ap (λ (xs : List ℕ). length xs) (get_or-set_same c.firsts (t - 1) (set (row c.firsts (t - 1)) (d - 1) v) [] lt) ∙ length-set (row c.firsts (t - 1)) (d - 1) v ∙ w.rows t (r.0, r.1))
            (λ (n : u - 1 ≡ t - 1 → ⊥). ap (λ (xs : List ℕ). length xs) (get_or-set_other c.firsts (t - 1) (u - 1) (set (row c.firsts (t - 1)) (d - 1) v) [] n) ∙ w.rows u hu)
            (cases_eq (u - 1) (t - 1));
      };
    }

-- of a slot, the first word is set
slot-set : (m : Areas) (c : Contents) (b v : ℕ) → Whole m c → b < heap_length m → SetsNext m c (with_set c (2 * b) v) (b + former_from) v
slot-set m c b v w lt = record {
  at = λ a e.
      let same : a ≡ b = omega (arith, e) in
      ap (λ n. get_or (set c.sets (2 * b) v) (2 * n) 0) same ∙ get_or-set_same c.sets (2 * b) v 0 (omega (arith, w.sets));
  other = λ a e. get_or-set_other c.sets (2 * b) (2 * a) v 0 (omega (arith, e));
  formers = λ a. get_or-set_other c.sets (2 * b) (2 * a + 1) v 0 (omega arith);
  head = λ x q e. absurd (omega (arith, e, (region-index m x w.areas q).1));
  heads = λ x q e. refl;
  whole = record { areas = w.areas; sets = simp length-set w.sets; firsts = w.firsts; rows = w.rows };
}

pub next-set : (m : Areas) (c : Contents) (former word : ℕ) → Whole m c → IsFormer m former → 1 ≤ word → SetsNext m c (with_next c former word) former word
next-set m c former word w (inl (Control, r, e)) some = absurd r
next-set m c former word w (inl (Region t d, r, e)) some =
    let below : ltb former former_from ≡ true = lt-ltb former former_from (omega (arith, e, (region-index m (Region t d) w.areas r).1)) in
    let is : with_next c former word ≡ with_head_word c (space_of former) (word - 1) = cond-true (ltb former former_from) (with_head_word c (space_of former) (word - 1)) (with_set c (2 * (former - former_from)) word) below in
    let at : space_of former ≡ Some (Region t d) = ap space_of e ∙ number-reads_back (Region t d) (region-valid m (Region t d) w.areas r) in
    let whole : with_next c former word ≡ with_first c t d (word - 1) = is ∙ ap (λ (o : Option Space). with_head_word c o (word - 1)) at in
    let back : word - 1 + 1 ≡ word = omega arith in
    subst (λ (y : Contents). SetsNext m c y former word) (sym whole) (subst (λ n. SetsNext m c (with_first c t d (word - 1)) n word) (sym e) (subst (SetsNext m c (with_first c t d (word - 1)) (space_index (Region t d))) back (head-set m c t d (word - 1) w r)))
next-set m c former word w (inr (b, lt, e)) some =
    let above : ltb former former_from ≡ false = le-ltb former former_from (omega (arith, e)) in
    let is : with_next c former word ≡ with_set c (2 * (former - former_from)) word = cond-false (ltb former former_from) (with_head_word c (space_of former) (word - 1)) (with_set c (2 * (former - former_from)) word) above in
    let at : former - former_from ≡ b = omega (arith, e) in
    subst (λ (y : Contents). SetsNext m c y former word) (sym (is ∙ ap (λ n. with_set c (2 * n) word) at)) (subst (λ n. SetsNext m c (with_set c (2 * b) word) n word) (sym e) (slot-set m c b word w lt))

-- the second word of what a first word names is set
pub record SetsFormer (m : Areas) (c d : Contents) (next word : ℕ) : Type 0 where
  pub at : (b : ℕ) → next ≡ b + 2 → former_word d.sets b ≡ word
  pub other : (b : ℕ) → next ≢ b + 2 → former_word d.sets b ≡ former_word c.sets b
  pub nexts : (b : ℕ) → next_word d.sets b ≡ next_word c.sets b
  pub firsts : d.firsts ≡ c.firsts
  pub whole : Whole m d

pub former-set : (m : Areas) (c : Contents) (next word : ℕ) → Whole m c → IsNext m next → SetsFormer m c (with_former c next word) next word
former-set m c next word w h =
    ⊎_elim (λ (lt : next < 2).
    let is : with_former c next word ≡ c = cond-true (ltb next 2) c (with_set c (2 * (next - 2) + 1) word) (lt-ltb next 2 lt) in
    subst (λ (y : Contents). SetsFormer m c y next word) (sym is) (record {
      at = λ b e. absurd (omega (arith, e, lt));
      other = λ b e. refl;
      nexts = λ b. refl;
      firsts = refl;
      whole = w;
    }))
    (λ (le : 2 ≤ next).
    let is : with_former c next word ≡ with_set c (2 * (next - 2) + 1) word = cond-false (ltb next 2) c (with_set c (2 * (next - 2) + 1) word) (le-ltb next 2 le) in
    subst (λ (y : Contents). SetsFormer m c y next word) (sym is) (record {
      at = λ b e.
          let same : b ≡ next - 2 = omega (arith, e) in
          ap (λ n. get_or (set c.sets (2 * (next - 2) + 1) word) (2 * n + 1) 0) same ∙ get_or-set_same c.sets (2 * (next - 2) + 1) word 0 (omega (arith, w.sets, h.1, le));
      other = λ b e. get_or-set_other c.sets (2 * (next - 2) + 1) (2 * b + 1) word 0 (omega (arith, e, le));
      nexts = λ b. get_or-set_other c.sets (2 * (next - 2) + 1) (2 * b) word 0 (omega arith);
      firsts = refl;
      whole = record { areas = w.areas; sets = simp length-set w.sets; firsts = w.firsts; rows = w.rows };
    }))
    (cases_lt next 2)

-- both neighbours and the two words of a slot are set
pub record Edit (m : Areas) (c d : Contents) (former next ahead behind a own_next own_former : ℕ) : Type 0 where
  pub next_here : next_word d.sets a ≡ own_next
  pub former_here : former_word d.sets a ≡ own_former
  pub next_at : (b : ℕ) → b ≢ a → former ≡ b + former_from → next_word d.sets b ≡ ahead
  pub next_other : (b : ℕ) → b ≢ a → former ≢ b + former_from → next_word d.sets b ≡ next_word c.sets b
  pub former_at : (b : ℕ) → b ≢ a → next ≡ b + 2 → former_word d.sets b ≡ behind
  pub former_other : (b : ℕ) → b ≢ a → next ≢ b + 2 → former_word d.sets b ≡ former_word c.sets b
  pub head : (x : Space) → IsRegionOf m x → former ≡ space_index x → head_word d.firsts x ≡ ahead - 1
  pub heads : (x : Space) → IsRegionOf m x → former ≢ space_index x → head_word d.firsts x ≡ head_word c.firsts x

pub edited : (m : Areas) (c : Contents) (former next ahead behind a own_next own_former : ℕ) → Whole m c → IsFormer m former → IsNext m next → 1 ≤ ahead → a < heap_length m → Edit m c (with_links (with_former (with_next c former ahead) next behind) a own_next own_former) former next ahead behind a own_next own_former
edited m c former next ahead behind a vn vf w f n some lt =
    let d : Contents = with_next c former ahead in
    let e : Contents = with_former d next behind in
    let p : SetsNext m c d former ahead = next-set m c former ahead w f some in
    let q : SetsFormer m d e next behind = former-set m d next behind p.whole n in
    let s1 : List ℕ = set e.sets (2 * a) vn in
    let long : length e.sets ≡ 2 * heap_length m = q.whole.sets in
    let long1 : length s1 ≡ 2 * heap_length m = length-set e.sets (2 * a) vn ∙ long in
    let near : (b : ℕ) → b ≢ a → get_or (set s1 (2 * a + 1) vf) (2 * b) 0 ≡ next_word e.sets b = λ b ne. get_or-set_other s1 (2 * a + 1) (2 * b) vf 0 (omega arith) ∙ get_or-set_other e.sets (2 * a) (2 * b) vn 0 (omega (arith, ne)) in
    let far : (b : ℕ) → b ≢ a → get_or (set s1 (2 * a + 1) vf) (2 * b + 1) 0 ≡ former_word e.sets b = λ b ne. get_or-set_other s1 (2 * a + 1) (2 * b + 1) vf 0 (omega (arith, ne)) ∙ get_or-set_other e.sets (2 * a) (2 * b + 1) vn 0 (omega arith) in
    let heads : (x : Space) → head_word e.firsts x ≡ head_word d.firsts x = λ x. ap (λ (rs : List (List ℕ)). head_word rs x) q.firsts in
    record {
      next_here = get_or-set_other s1 (2 * a + 1) (2 * a) vf 0 (omega arith) ∙ get_or-set_same e.sets (2 * a) vn 0 (omega (arith, long, lt));
      former_here = get_or-set_same s1 (2 * a + 1) vf 0 (omega (arith, long1, lt));
      next_at = λ b ne h. near b ne ∙ q.nexts b ∙ p.at b h;
      next_other = λ b ne h. near b ne ∙ q.nexts b ∙ p.other b h;
      former_at = λ b ne h. far b ne ∙ q.at b h;
      former_other = λ b ne h. far b ne ∙ q.other b h ∙ p.formers b;
      head = λ x r h. heads x ∙ p.head x r h;
      heads = λ x r h. heads x ∙ p.heads x r h;
    }
