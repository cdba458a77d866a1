-- When the reference in a slot enters a region.
use Rattle.std.proofs.Common.{◌≡◌, ◌≢◌, ℕ, ◌+◌, ◌-◌, ◌*◌, ◌/◌, ◌%◌, ◌<◌, ◌&&◌, true, false, not, eqb, ltb, List, get_or, sym, ap, ◌∙◌, arith}
use Rattle.std.proofs.lemmas.Bool.{and_from, and_parts, eq-eqb, eqb-false, eqb-true, false_from_ne_true, lt-ltb, ltb-true, ne_eqb, not-true}
use Rattle.heap_words.specs.declared.map.Areas.{Areas}
use Rattle.heap_words.specs.Map.{IsAreas}
use Rattle.heap_words.specs.Contents.{Contents}
use Rattle.epoch_lattice.specs.declared.Space.{Space}
use Rattle.epoch_lattice.specs.Lattice.{space_index}
use Rattle.yak_model.specs.Chains.{IsRegionOf}
use Rattle.yak_model.proofs.Chains.{region-own}
use Rattle.remember_sets.specs.Filed.{IsSlot, enters, page_word}

-- what a slot has whose reference enters a space
pub record Enter (m : Areas) (c : Contents) (x : Space) (a : ℕ) : Type 0 where
  pub goal : ℕ
  pub refers : get_or c.heap a 0 ≡ 2 * (goal + 1)
  pub into : page_word m c goal ≡ space_index x + 1
  pub from : page_word m c a ≢ space_index x + 1

pub enters-tells : (m : Areas) (c : Contents) (x : Space) (a : ℕ) → enters m c x a ≡ true → Enter m c x a
enters-tells m c x a e =
    let w : ℕ = get_or c.heap a 0 in
    let p = and_parts (ltb 0 w) (eqb (w % 2) 0 && (eqb (page_word m c (w / 2 - 1)) (space_index x + 1) && not (eqb (page_word m c a) (space_index x + 1)))) e in
    let q = and_parts (eqb (w % 2) 0) (eqb (page_word m c (w / 2 - 1)) (space_index x + 1) && not (eqb (page_word m c a) (space_index x + 1))) p.1 in
    let r = and_parts (eqb (page_word m c (w / 2 - 1)) (space_index x + 1)) (not (eqb (page_word m c a) (space_index x + 1))) q.1 in
    let some : 0 < w = ltb-true 0 w p.0 in
    let even : w % 2 ≡ 0 = eqb-true (w % 2) 0 q.0 in
    record {
      goal = w / 2 - 1;
      refers = omega (arith, some, even);
      into = eqb-true (page_word m c (w / 2 - 1)) (space_index x + 1) r.0;
      from = eqb-false (page_word m c a) (space_index x + 1) (not-true (eqb (page_word m c a) (space_index x + 1)) r.1);
    }

pub enters-since : (m : Areas) (c : Contents) (x : Space) (a : ℕ) → Enter m c x a → enters m c x a ≡ true
enters-since m c x a h =
    let w : ℕ = get_or c.heap a 0 in
    let back : w / 2 - 1 ≡ h.goal = omega (arith, h.refers) in
    let into : page_word m c (w / 2 - 1) ≡ space_index x + 1 = ap (page_word m c) back ∙ h.into in
    and_from (ltb 0 w) (eqb (w % 2) 0 && (eqb (page_word m c (w / 2 - 1)) (space_index x + 1) && not (eqb (page_word m c a) (space_index x + 1)))) (lt-ltb 0 w (omega (arith, h.refers)))
    (and_from (eqb (w % 2) 0) (eqb (page_word m c (w / 2 - 1)) (space_index x + 1) && not (eqb (page_word m c a) (space_index x + 1))) (eq-eqb (w % 2) 0 (omega (arith, h.refers)))
    (and_from (eqb (page_word m c (w / 2 - 1)) (space_index x + 1)) (not (eqb (page_word m c a) (space_index x + 1))) (eq-eqb (page_word m c (w / 2 - 1)) (space_index x + 1) into) (ap not (ne_eqb (page_word m c a) (space_index x + 1) h.from))))

pub enters-none : (m : Areas) (c : Contents) (x : Space) (a : ℕ) → (Enter m c x a → ⊥) → enters m c x a ≡ false
enters-none m c x a n = false_from_ne_true (enters m c x a) (λ e. n (enters-tells m c x a e))

-- a reference enters at most one region
pub enters-once : (m : Areas) (c : Contents) (x y : Space) (a : ℕ) → IsAreas m → IsRegionOf m x → IsRegionOf m y → Enter m c x a → Enter m c y a → x ≡ y
enters-once m c x y a areas q r h k =
    let same : h.goal ≡ k.goal = omega (arith, h.refers, k.refers) in
    region-own m x y areas q r (omega (arith, h.into, k.into, ap (page_word m c) same))

-- the frame: heap and page table stay
pub enters-same : (m : Areas) (c d : Contents) (x : Space) (a : ℕ) → d.heap ≡ c.heap → d.table ≡ c.table → enters m d x a ≡ enters m c x a
enters-same m c d x a h t = ap (λ (w : List ℕ). let k : Contents = record d { heap = w } in enters m k x a) h ∙ ap (λ (w : List (List ℕ)). let k : Contents = record c { table = w } in enters m k x a) t

pub slot-same : (m : Areas) (c d : Contents) (a : ℕ) → d.heap ≡ c.heap → IsSlot m c a → IsSlot m d a
slot-same m c d a h s = (s.0, λ b e. s.1 b (sym (ap (λ (w : List ℕ). get_or w a 0) h) ∙ e))
