-- Pages and current pages after a collection: those of regions are as before.
use Rattle.std.proofs.Common.{◌≡◌, ◌≢◌, ◌⊎◌, ℕ, ◌+◌, ◌-◌, ◌≤◌, ◌<◌, cond, Option, List, [], ◌∷◌, length, get_or, zero, suc, refl, sym, ap, ◌∙◌, arith, inl, inr}
use Rattle.std.specs.Prelude.{◌==◌}
use Rattle.std.specs.List.{sum_by}
use Rattle.std.proofs.lemmas.Bool.{cases_eq, cases_lt, ne_eqb}
use Rattle.std.proofs.lemmas.List.{get_or_past}
use Rattle.std.proofs.lemmas.List.Sums.{sum_by-cons}
use Rattle.std.proofs.Math.Logic.{⊎_elim}
use Rattle.object_layout.specs.declared.names.Name.{Name}
use Rattle.heap_words.specs.declared.map.Areas.{Areas}
use Rattle.heap_words.specs.Map.{HasThread}
use Rattle.heap_words.specs.Cells.{row}
use Rattle.heap_words.specs.Contents.{Contents}
use Rattle.epoch_lattice.specs.declared.Space.TheVariants.{Control, Region}
use Rattle.epoch_lattice.specs.Lattice.{inner_of, space_index}
use Rattle.yak_model.specs.State.{Thing}
use Rattle.yak_model.specs.Placed.{HeapStands, Places, space_word, used_mark}
use Rattle.yak_model.specs.Stands.{CurrentsStand, RegionsDense, SpacesOpen, current, pages_of, words_taken}
use Rattle.region_pages.specs.Counts.{used_of}
use Rattle.region_pages.proofs.Counting.{used_is}
use Rattle.relocation.specs.Slide.{IsPageOf}
use Rattle.mark_compact.specs.Collecting.{ControlPages, IsLast}
use Rattle.mark_compact.specs.declared.sliding.TheConstants.{CONTROL_WORD}

sum-two : {X : Type 0} (f : X → ℕ) (xs ys : List X) (e : X) → length xs ≡ length ys → ((k : ℕ) → k < length xs → f (get_or xs k e) ≡ f (get_or ys k e)) → sum_by f xs ≡ sum_by f ys
sum-two f [] [] e long h = refl
sum-two f [] (y ∷ ys) e long h = absurd (omega (arith, long))
sum-two f (x ∷ xs) [] e long h = absurd (omega (arith, long))
sum-two f (x ∷ xs) (y ∷ ys) e long h =
    let here : f x ≡ f y = h 0 (omega arith) in
    let rest : sum_by f xs ≡ sum_by f ys = sum-two f xs ys e (omega (arith, long)) (λ k lt. h (suc k) (omega (arith, lt))) in
    rw (sum_by-cons f x xs, sum_by-cons f y ys, here, rest) refl

none-of : (r : List ℕ) (i a : ℕ) → get_or r 0 0 ≢ i + 1 → cond (get_or r 0 0 == i + 1) a 0 ≡ 0
none-of r i a ne = rw (ne_eqb (get_or r 0 0) (i + 1) ne) refl

-- an entry of a current page
in-row : (currents : List (List ℕ)) (t d : ℕ) → current currents t d ≢ 0 → d < length (row currents (t - 1))
in-row currents t d ne = ⊎_elim
    (λ (lt : d < length (row currents (t - 1))). lt)
    (λ (le : length (row currents (t - 1)) ≤ d). absurd (ne (get_or_past (row currents (t - 1)) d 0 le)))
    (cases_lt d (length (row currents (t - 1))))

region-word : (t d : ℕ) → 1 ≤ d → 1 < space_index (inner_of t d) + 1
region-word t zero h = absurd (omega (arith, h))
region-word t (suc d) h = omega arith

-- a page table after a collection
pub record SameRegions (m : Areas) (was now : List (List ℕ)) : Type 0 where
  pub long : length was ≡ m.pages
  pub long_now : length now ≡ m.pages
  pub others : (p : ℕ) → (IsPageOf CONTROL_WORD was p → ⊥) → row now p ≡ row was p
  pub control : (p : ℕ) → p < m.pages → IsPageOf CONTROL_WORD was p → (space_word now p ≡ CONTROL_WORD) ⊎ (space_word now p ≡ 0)

module _ (m : Areas) (was now : List (List ℕ)) (same : SameRegions m was now) where
  control-less : (p : ℕ) → p < m.pages → IsPageOf CONTROL_WORD was p → space_word now p ≤ 1
  control-less p lt c = elim (same.control p lt c) [
    | inl one ↦ omega (arith, one)
    | inr none ↦ omega (arith, none)
  ]

  -- what is counted of a region
  counted-same : (i : ℕ) (f : List ℕ → ℕ) → 1 ≤ i → sum_by (λ (r : List ℕ). cond (get_or r 0 0 == i + 1) (f r) 0) now ≡ sum_by (λ (r : List ℕ). cond (get_or r 0 0 == i + 1) (f r) 0) was
  counted-same i f pos = sum-two (λ (r : List ℕ). cond (get_or r 0 0 == i + 1) (f r) 0) now was [] (same.long_now ∙ sym same.long) (λ p lt. ⊎_elim
      (λ (c : space_word was p ≡ CONTROL_WORD).
      let few = control-less p (omega (arith, lt, same.long_now)) c in
      none-of (row now p) i (f (row now p)) (λ e. omega (arith, e, few, pos)) ∙ sym (none-of (row was p) i (f (row was p)) (λ e. omega (arith, e, c, pos))))
      (λ (o : space_word was p ≡ CONTROL_WORD → ⊥). ap (λ (r : List ℕ). cond (get_or r 0 0 == i + 1) (f r) 0) (same.others p o))
      (cases_eq (space_word was p) CONTROL_WORD))

  pages-same : (t d : ℕ) → pages_of now (Region t d) ≡ pages_of was (Region t d)
  pages-same t d = counted-same (space_index (Region t d)) (λ r. 1) (omega arith)

  used-same : (t d : ℕ) → used_of now (Region t d) ≡ used_of was (Region t d)
  used-same t d = counted-same (space_index (Region t d)) (λ r. get_or r 1 0) (omega arith)

  pub spaces-open : (depths : List ℕ) → SpacesOpen m was depths → SpacesOpen m now depths
  spaces-open depths open_it p lt = ⊎_elim
      (λ (c : space_word was p ≡ CONTROL_WORD). elim (same.control p lt c) [
        | inl one ↦ inr (Control, one, tt)
        | inr none ↦ inl none
      ])
      (λ (o : space_word was p ≡ CONTROL_WORD → ⊥).
      let e : space_word now p ≡ space_word was p = ap (λ (r : List ℕ). get_or r 0 0) (same.others p o) in
      elim (open_it p lt) [
        | inl z ↦ inl (e ∙ z)
        | inr x ↦ inr (x.0, e ∙ x.1, x.2)
      ])
      (cases_eq (space_word was p) CONTROL_WORD)

  -- the page that is current in a region
  region-row : (c : Contents) → CurrentsStand m c.currents was → (t d : ℕ) → 1 ≤ t → t ≤ m.threads → 1 ≤ d → current c.currents t d ≢ 0 → (current c.currents t d ≤ m.pages) × (space_word was (current c.currents t d - 1) ≡ space_index (inner_of t d) + 1) × (row now (current c.currents t d - 1) ≡ row was (current c.currents t d - 1))
  region-row c stand t d ht hm hd ne =
      let b = stand.belong t d ht hm (in-row c.currents t d ne) ne in
      let big = region-word t d hd in
      (b.0, b.1, same.others (current c.currents t d - 1) (λ e. omega (arith, e, b.1, big)))

  module _ (c e : Contents) (t0 last : ℕ) (ht0 : HasThread m t0) (stand : CurrentsStand m c.currents was) (set : ControlPages c e t0 last m.threads) (is : IsLast now m.pages last) where
    -- a thread with a current page in Control is the one
    only-one : (t : ℕ) → 1 ≤ t → t ≤ m.threads → current e.currents t 0 ≢ 0 → t ≡ t0
    only-one t ht hm ne = ⊎_elim
        (λ (q : t ≡ t0). q)
        (λ (o : t ≢ t0). absurd (ne (set.others t ht hm o)))
        (cases_eq t t0)

    own-page : (t : ℕ) → 1 ≤ t → t ≤ m.threads → current e.currents t 0 ≢ 0 → (current e.currents t 0 ≤ m.pages) × (space_word now (current e.currents t 0 - 1) ≡ CONTROL_WORD)
    own-page t ht hm ne =
        let q = only-one t ht hm ne in
        let v : current e.currents t 0 ≡ last = ap (λ u. current e.currents u 0) q ∙ set.own ht0.1 in
        (omega (arith, v, is.within), ap (λ i. space_word now (i - 1)) v ∙ is.control (omega (arith, v, ne)))

    pub belong-now : (t d : ℕ) → 1 ≤ t → t ≤ m.threads → current e.currents t d ≢ 0 → (current e.currents t d ≤ m.pages) × (space_word now (current e.currents t d - 1) ≡ space_index (inner_of t d) + 1)
    belong-now t zero ht hm ne = own-page t ht hm ne
    belong-now t (suc d) ht hm ne =
        let v : current e.currents t (suc d) ≡ current c.currents t (suc d) = set.regions t (suc d) (omega arith) in
        let r = region-row c stand t (suc d) ht hm (omega arith) (λ z. ne (v ∙ z)) in
        (omega (arith, v, r.0), ap (λ i. space_word now (i - 1)) v ∙ ap (λ (x : List ℕ). get_or x 0 0) r.2 ∙ r.1)

    once-now : (t d u f : ℕ) → 1 ≤ t → t ≤ m.threads → 1 ≤ u → u ≤ m.threads → current e.currents t d ≢ 0 → current e.currents t d ≡ current e.currents u f → (t ≡ u) × (d ≡ f)
    once-now t zero u zero ht hm hu hn ne q = (only-one t ht hm ne ∙ sym (only-one u hu hn (λ z. ne (q ∙ z))), refl)
    once-now t zero u (suc f) ht hm hu hn ne q = absurd (
        let a = own-page t ht hm ne in
        let b = belong-now u (suc f) hu hn (λ z. ne (q ∙ z)) in
        let w : space_word now (current e.currents t 0 - 1) ≡ space_word now (current e.currents u (suc f) - 1) = ap (λ i. space_word now (i - 1)) q in
        omega (arith, a.1, b.1, w))
    once-now t (suc d) u zero ht hm hu hn ne q = absurd (
        let a = own-page u hu hn (λ z. ne (q ∙ z)) in
        let b = belong-now t (suc d) ht hm ne in
        let w : space_word now (current e.currents t (suc d) - 1) ≡ space_word now (current e.currents u 0 - 1) = ap (λ i. space_word now (i - 1)) q in
        omega (arith, a.1, b.1, w))
    once-now t (suc d) u (suc f) ht hm hu hn ne q =
        let v : current e.currents t (suc d) ≡ current c.currents t (suc d) = set.regions t (suc d) (omega arith) in
        let w : current e.currents u (suc f) ≡ current c.currents u (suc f) = set.regions u (suc f) (omega arith) in
        stand.once t (suc d) u (suc f) ht hm hu hn (λ z. ne (v ∙ z)) (sym v ∙ q ∙ w)

    pub currents-now : CurrentsStand m e.currents now
    currents-now = record { belong = λ t d ht hm lt ne. belong-now t d ht hm ne; once = once-now }

    pub dense-now : (heap heap' : List ℕ) (objects objects' : Name → Option Thing) (l l' : Places) (work work' : Name → ℕ) → HeapStands m was heap objects l work → HeapStands m now heap' objects' l' work' → RegionsDense m was c.currents l.pages objects → RegionsDense m now e.currents l'.pages objects'
    dense-now heap heap' objects objects' l l' work work' old new dense t d ht hm hd hmax some =
        let pages = pages-same t d in
        let x = dense t d ht hm hd hmax (omega (arith, some, pages)) in
        let v : current e.currents t d ≡ current c.currents t d = set.regions t d hd in
        let r = region-row c stand t d ht hm hd x.0 in
        let used : used_mark now (current c.currents t d - 1) ≡ used_mark was (current c.currents t d - 1) = ap (λ (y : List ℕ). get_or y 1 0) r.2 in
        let words : words_taken l'.pages objects' (Region t d) ≡ words_taken l.pages objects (Region t d) =
        sym (used_is m now heap' objects' l' work' (Region t d) same.long_now new) ∙ used-same t d ∙ used_is m was heap objects l work (Region t d) same.long old
        in
        rw (v, pages, used, words) x
