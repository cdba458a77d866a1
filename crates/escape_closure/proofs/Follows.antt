-- The words left in the current pages and the free pages follow an object that is placed.
use Rattle.std.proofs.Common.{◌≡◌, ◌≢◌, ◌⊎◌, ℕ, ◌+◌, ◌-◌, ◌≤◌, ◌<◌, List, Some, set, get_or, length, length-set, refl, sym, ap, ◌∙◌, arith, inl, inr}
use Rattle.std.proofs.lemmas.Bool.{cases_eq}
use Rattle.epoch_lattice.specs.declared.Space.{Space}
use Rattle.epoch_lattice.specs.declared.Space.TheVariants.{Control, Region}
use Rattle.epoch_lattice.specs.declared.TheConstants.{MAX_DEPTH}
use Rattle.epoch_lattice.specs.Lattice.{IsValid, space_index}
use Rattle.epoch_lattice.proofs.Numbers.{number-own}
use Rattle.heap_words.specs.declared.map.Areas.{Areas}
use Rattle.heap_words.specs.Map.{HasThread, IsAreas, page_words}
use Rattle.heap_words.specs.Cells.{row, row_set}
use Rattle.heap_words.specs.Contents.{Contents}
use Rattle.yak_model.specs.Packed.{IsSpaceOf}
use Rattle.yak_model.specs.Placed.{space_word, used_mark}
use Rattle.yak_model.specs.Stands.{CurrentsStand, PoolStands, current, free_pages}
use Rattle.region_pages.specs.Placement.{IsPlaced, IsPlacedInCurrent, IsPlacedOnClaimed, depth_in, words_left_at}
use Rattle.region_pages.proofs.Shapes.{Shape}
use Rattle.region_pages.proofs.Entries.{entry-same, entry-other, used-with_used, used-with_used_other, current-cases}
use Rattle.region_pages.proofs.Claims.{entry, free_page}
use Rattle.region_pages.proofs.Placing.{current_within, depth_fits, not_current}
use Rattle.escape_closure.specs.Placing.{owner, Filling, claims, filled, left, room_in}
use Rattle.escape_closure.proofs.Rolls.{same_is}
use Rattle.escape_closure.proofs.Placing.{claims_none, claims_one, left_claims, left_fits, other_is}

pub room_is : (m : Areas) (c : Contents) (t : ℕ) (x : Space) → room_in m c t (Some x) ≡ words_left_at m c (owner t x) (depth_in x)
room_is m c t Control = refl
room_is m c t (Region u d) = refl

pub has_owner : (m : Areas) (t : ℕ) (x : Space) → HasThread m t → IsSpaceOf m x → HasThread m (owner t x)
has_owner m t Control has of = has
has_owner m t (Region u d) has of = (of.0, of.1)

pub same_space : (m : Areas) (t : ℕ) (x y : Space) → IsSpaceOf m x → IsSpaceOf m y → owner t y ≡ owner t x → depth_in y ≡ depth_in x → y ≡ x
same_space m t Control Control hx hy o d = refl
same_space m t Control (Region v e) hx hy o d = absurd (omega (arith, hy, d))
same_space m t (Region u d') Control hx hy o d = absurd (omega (arith, hx, d))
same_space m t (Region u d') (Region v e) hx hy o d = rw (o, d) refl

pub is_valid : (m : Areas) (x : Space) → IsAreas m → IsSpaceOf m x → IsValid MAX_DEPTH x
is_valid m Control areas of = tt
is_valid m (Region u d) areas of = (of.0, omega (arith, of, areas), of.2, of.3)

pub left_none : (m : Areas) (c : Contents) (t d : ℕ) → current c.currents t d ≡ 0 → words_left_at m c t d ≡ 0
left_none m c t d e = same_is (current c.currents t d) 0 0 (page_words m - used_mark c.table (current c.currents t d - 1)) e

pub left_some : (m : Areas) (c : Contents) (t d page : ℕ) → current c.currents t d ≡ page + 1 → words_left_at m c t d ≡ page_words m - used_mark c.table page
left_some m c t d page e =
    let at : current c.currents t d - 1 ≡ page = omega (arith, e) in
    other_is (current c.currents t d) 0 0 (page_words m - used_mark c.table (current c.currents t d - 1)) (λ z. omega (arith, z, e)) ∙ ap (λ q. page_words m - used_mark c.table q) at

-- the page is not that of another thread or depth
left_still : (m : Areas) (c after : Contents) (u e page : ℕ) → current after.currents u e ≡ current c.currents u e → current c.currents u e ≢ page + 1 → ((q : ℕ) → q ≢ page → used_mark after.table q ≡ used_mark c.table q) → words_left_at m after u e ≡ words_left_at m c u e
left_still m c after u e page same other used = elim (cases_eq (current c.currents u e) 0) [
  | inl z ↦ left_none m after u e (same ∙ z) ∙ sym (left_none m c u e z)
  | inr ne ↦
      let q : ℕ = current c.currents u e - 1 in
      let is : current c.currents u e ≡ q + 1 = omega (arith, ne) in
      let apart : q ≢ page = λ z. other (is ∙ ap (λ k. k + 1) z) in
      left_some m after u e q (same ∙ is) ∙ ap (λ k. page_words m - k) (used q apart) ∙ sym (left_some m c u e q is)
]

module _ (m : Areas) (c after : Contents) (t size : ℕ) (x : Space) (s : Shape m c) (areas : IsAreas m) (has : HasThread m t) (least : 3 ≤ size) (of : IsSpaceOf m x) (stands : CurrentsStand m c.currents c.table) where
  -- in the current page
  module _ (a : ℕ) (p : IsPlacedInCurrent m c (owner t x) (depth_in x) size a after) where
    page : ℕ
    page = current c.currents (owner t x) (depth_in x) - 1

    is_some : current c.currents (owner t x) (depth_in x) ≢ 0
    is_some z = let none = left_none m c (owner t x) (depth_in x) z in omega (arith, p.fits, none, least)

    page_is : current c.currents (owner t x) (depth_in x) ≡ page + 1
    unfolding page
    page_is = let ne = is_some in omega (arith, ne)

    page_in : page < m.pages
    page_in = let w = current_within m c (owner t x) (depth_in x) s (has_owner m t x has of) (depth_fits m x of) stands is_some in omega (arith, w, page_is)

    own_after : words_left_at m after (owner t x) (depth_in x) ≡ words_left_at m c (owner t x) (depth_in x) - size
    unfolding page
    own_after =
        let used : used_mark after.table page ≡ used_mark c.table page + size = ap (λ (y : Contents). used_mark y.table page) p.changed ∙ used-with_used c.table page (used_mark c.table page + size) (omega (arith, page_in, s.table)) (s.entries page page_in) in
        let now : words_left_at m after (owner t x) (depth_in x) ≡ page_words m - used_mark after.table page = left_some m after (owner t x) (depth_in x) page (ap (λ (y : Contents). current y.currents (owner t x) (depth_in x)) p.changed ∙ page_is) in
        let was = left_some m c (owner t x) (depth_in x) page page_is in
        omega (arith, used, now, was)

    other_after : (y : Space) → IsSpaceOf m y → y ≢ x → words_left_at m after (owner t y) (depth_in y) ≡ words_left_at m c (owner t y) (depth_in y)
    unfolding page
    other_after y oy ne =
        let hy = has_owner m t y has oy in
        let hx = has_owner m t x has of in
        left_still m c after (owner t y) (depth_in y) page (ap (λ (z : Contents). current z.currents (owner t y) (depth_in y)) p.changed)
        (λ at. let w = stands.once (owner t y) (depth_in y) (owner t x) (depth_in x) hy.0 hy.1 hx.0 hx.1 (λ z. omega (arith, z, at)) (at ∙ sym page_is) in ne (same_space m t x y of oy w.0 w.1))
        (λ q apart. ap (λ (z : Contents). used_mark z.table q) p.changed ∙ used-with_used_other c.table page q (used_mark c.table page + size) apart)

    pub own_in_current : room_in m after t (Some x) ≡ left m size (room_in m c t (Some x))
    own_in_current = room_is m after t x ∙ own_after ∙ sym (left_fits m size (words_left_at m c (owner t x) (depth_in x)) p.fits) ∙ ap (left m size) (sym (room_is m c t x))

    pub other_in_current : (y : Space) → IsSpaceOf m y → y ≢ x → room_in m after t (Some y) ≡ room_in m c t (Some y)
    other_in_current y oy ne = room_is m after t y ∙ other_after y oy ne ∙ sym (room_is m c t y)

    pub free_in_current : length (free_pages c.heads c.pool) ≡ length (free_pages after.heads after.pool) + claims size (room_in m c t (Some x))
    free_in_current =
        let none : claims size (room_in m c t (Some x)) ≡ 0 = ap (claims size) (room_is m c t x) ∙ claims_none size (words_left_at m c (owner t x) (depth_in x)) p.fits in
        let same : length (free_pages after.heads after.pool) ≡ length (free_pages c.heads c.pool) = ap (λ (y : Contents). length (free_pages y.heads y.pool)) p.changed in
        omega (arith, none, same)

  -- on a claimed page
  module _ (a : ℕ) (few : words_left_at m c (owner t x) (depth_in x) < size) (pool : PoolStands m c.heads c.pool c.table) (p : IsPlacedOnClaimed m c (owner t x) x size a after) where
    free : (p.page < m.pages) × (space_word c.table p.page ≡ 0)
    free = free_page m c.heads c.pool c.table p.page (free_pages after.heads after.pool) pool p.free

    cases : (y : Space) → IsSpaceOf m y → ((owner t y ≡ owner t x) × (depth_in y ≡ depth_in x) × (current (row_set c.currents (owner t x - 1) (depth_in x) (p.page + 1)) (owner t y) (depth_in y) ≡ p.page + 1)) ⊎ (((owner t y ≡ owner t x) × (depth_in y ≡ depth_in x) → ⊥) × (current (row_set c.currents (owner t x - 1) (depth_in x) (p.page + 1)) (owner t y) (depth_in y) ≡ current c.currents (owner t y) (depth_in y)))
    cases y oy =
        let hy = has_owner m t y has oy in
        let hx = has_owner m t x has of in
        let deep = depth_fits m x of in
        current-cases c.currents (owner t x) (depth_in x) (owner t y) (depth_in y) (p.page + 1) hx.0 hy.0 (omega (arith, s.currents, hx)) (omega (arith, s.slots (owner t x) hx, deep))

    used_own : used_mark after.table p.page ≡ size
    used_own =
        let f = free in
        let within : p.page < length c.table = omega (arith, s.table, f.0) in
        let long : length (row (set c.table p.page (entry x)) p.page) ≡ 2 = ap (λ (r : List ℕ). length r) (entry-same c.table p.page (entry x) within) in
        ap (λ (y : Contents). used_mark y.table p.page) p.changed ∙ used-with_used (set c.table p.page (entry x)) p.page size (omega (arith, within, length-set c.table p.page (entry x))) long

    used_other : (q : ℕ) → q ≢ p.page → used_mark after.table q ≡ used_mark c.table q
    used_other q apart = ap (λ (y : Contents). used_mark y.table q) p.changed ∙ used-with_used_other (set c.table p.page (entry x)) p.page q size apart ∙ ap (λ (r : List ℕ). get_or r 1 0) (entry-other c.table p.page q (entry x) apart)

    currents_are : after.currents ≡ row_set c.currents (owner t x - 1) (depth_in x) (p.page + 1)
    currents_are = ap (λ (y : Contents). y.currents) p.changed

    now_current : (y : Space) → current after.currents (owner t y) (depth_in y) ≡ current (row_set c.currents (owner t x - 1) (depth_in x) (p.page + 1)) (owner t y) (depth_in y)
    now_current y = ap (λ (cs : List (List ℕ)). current cs (owner t y) (depth_in y)) currents_are

    pub own_on_claimed : room_in m after t (Some x) ≡ left m size (room_in m c t (Some x))
    own_on_claimed =
        let at : current after.currents (owner t x) (depth_in x) ≡ p.page + 1 = elim (cases x of) [
          | inl w ↦ now_current x ∙ w.2
          | inr w ↦ absurd (w.0 (refl, refl))
        ] in
        room_is m after t x ∙ left_some m after (owner t x) (depth_in x) p.page at ∙ ap (λ k. page_words m - k) used_own ∙ sym (left_claims m size (words_left_at m c (owner t x) (depth_in x)) few) ∙ ap (left m size) (sym (room_is m c t x))

    pub other_on_claimed : (y : Space) → IsSpaceOf m y → y ≢ x → room_in m after t (Some y) ≡ room_in m c t (Some y)
    other_on_claimed y oy ne =
        let hy = has_owner m t y has oy in
        let f = free in
        let same : current after.currents (owner t y) (depth_in y) ≡ current c.currents (owner t y) (depth_in y) = elim (cases y oy) [
          | inl w ↦ absurd (ne (same_space m t x y of oy w.0 w.1))
          | inr w ↦ now_current y ∙ w.1
        ] in
        room_is m after t y ∙ left_still m c after (owner t y) (depth_in y) p.page same (not_current m c.currents c.table p.page (owner t y) (depth_in y) stands f.1 hy.0 hy.1) used_other ∙ sym (room_is m c t y)

    pub free_on_claimed : length (free_pages c.heads c.pool) ≡ length (free_pages after.heads after.pool) + claims size (room_in m c t (Some x))
    free_on_claimed =
        let one : claims size (room_in m c t (Some x)) ≡ 1 = ap (claims size) (room_is m c t x) ∙ claims_one size (words_left_at m c (owner t x) (depth_in x)) few in
        let more : length (free_pages c.heads c.pool) ≡ length (free_pages after.heads after.pool) + 1 = ap (λ (xs : List ℕ). length xs) p.free ∙ omega arith in
        omega (arith, one, more)

  -- what is left after an object is placed
  module _ (a : ℕ) (pool : PoolStands m c.heads c.pool c.table) (p : IsPlaced m c (owner t x) x size a after) (f : Filling) (rooms : (y : Space) → IsSpaceOf m y → room_in m c t (Some y) ≡ f.rooms (space_index y)) where
    own_room : room_in m after t (Some x) ≡ left m size (room_in m c t (Some x))
    own_room = elim p [ inl w ↦ own_in_current a w | inr w ↦ own_on_claimed a w.0 pool w.1 ]

    other_room : (y : Space) → IsSpaceOf m y → y ≢ x → room_in m after t (Some y) ≡ room_in m c t (Some y)
    other_room y oy ne = elim p [ inl w ↦ other_in_current a w y oy ne | inr w ↦ other_on_claimed a w.0 pool w.1 y oy ne ]

    pub rooms_follow : (y : Space) → IsSpaceOf m y → room_in m after t (Some y) ≡ (filled m f (space_index x) size).rooms (space_index y)
    rooms_follow y oy = elim (cases_eq (space_index y) (space_index x)) [
      | inl e ↦
          let same : y ≡ x = number-own y x (is_valid m y areas oy) (is_valid m x areas of) e in
          ap (λ (z : Space). room_in m after t (Some z)) same ∙ own_room ∙ ap (left m size) (rooms x of) ∙ sym (same_is (space_index y) (space_index x) (left m size (f.rooms (space_index x))) (f.rooms (space_index y)) e)
      | inr ne ↦ other_room y oy (λ q. ne (ap space_index q)) ∙ rooms y oy ∙ sym (other_is (space_index y) (space_index x) (left m size (f.rooms (space_index x))) (f.rooms (space_index y)) ne)
    ]

    pub free_follows : length (free_pages c.heads c.pool) + f.claimed ≡ length (free_pages after.heads after.pool) + (filled m f (space_index x) size).claimed
    free_follows =
        let fewer : length (free_pages c.heads c.pool) ≡ length (free_pages after.heads after.pool) + claims size (room_in m c t (Some x)) = elim p [ inl w ↦ free_in_current a w | inr w ↦ free_on_claimed a w.0 pool w.1 ] in
        let room : claims size (room_in m c t (Some x)) ≡ claims size (f.rooms (space_index x)) = ap (claims size) (rooms x of) in
        omega (arith, fewer, room)

-- placing touches neither the heap nor the scratch area
pub placed_scratch : (m : Areas) (c after : Contents) (t size a : ℕ) (x : Space) → IsPlaced m c t x size a after → after.scratch ≡ c.scratch
placed_scratch m c after t size a x (inl p) = ap (λ (y : Contents). y.scratch) p.changed
placed_scratch m c after t size a x (inr p) = ap (λ (y : Contents). y.scratch) p.1.changed

pub placed_heap : (m : Areas) (c after : Contents) (t size a : ℕ) (x : Space) → IsPlaced m c t x size a after → after.heap ≡ c.heap
placed_heap m c after t size a x (inl p) = ap (λ (y : Contents). y.heap) p.changed
placed_heap m c after t size a x (inr p) = ap (λ (y : Contents). y.heap) p.1.changed
