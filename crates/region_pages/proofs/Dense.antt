-- Regions stay half full where objects are placed.
use Rattle.std.proofs.Common.{◌≡◌, ◌≢◌, ◌==◌, ℕ, zero, suc, ◌+◌, ◌-◌, ◌≤◌, ◌<◌, cond, List, [], length, get_or, set, slice_index, refl, sym, ap, ◌∙◌, subst, arith, inl, inr, ◌⊎◌, ⊎_elim, Option}
use Rattle.std.proofs.lemmas.Bool.{cases_eq}
use Rattle.std.proofs.lemmas.Bool.Decides.{nat_tests}
use Rattle.std.proofs.lemmas.List.{get_or-set_other, length-set}
use Rattle.std.proofs.lemmas.List.Sums.{sum_by-set}
use Rattle.object_layout.specs.declared.names.Name.{Name}
use Rattle.heap_words.specs.declared.map.Areas.{Areas}
use Rattle.heap_words.specs.Map.{IsAreas, HasThread, max_depth, page_words}
use Rattle.heap_words.specs.Cells.{row, row_set}
use Rattle.heap_words.specs.Contents.{Contents}
use Rattle.epoch_lattice.specs.declared.TheConstants.{MAX_DEPTH}
use Rattle.epoch_lattice.specs.declared.Space.{Space}
use Rattle.epoch_lattice.specs.declared.Space.TheVariants.{Region}
use Rattle.epoch_lattice.specs.Lattice.{IsValid, space_index, inner_of}
use Rattle.epoch_lattice.proofs.Numbers.{number-own}
use Rattle.yak_model.specs.State.{Thing}
use Rattle.yak_model.specs.Placed.{space_word, used_mark}
use Rattle.yak_model.specs.Stands.{current, free_pages, PoolStands, CurrentsStand, pages_of, words_taken, RegionsDense}
use Rattle.yak_model.specs.Packed.{IsSpaceOf}
use Rattle.region_pages.specs.Placement.{IsOwn, IsPlaced, IsPlacedInCurrent, IsPlacedOnClaimed, depth_in, words_left_at}
use Rattle.region_pages.proofs.Shapes.{Shape}
use Rattle.region_pages.proofs.Entries.{used-with_used, used-with_used_other, entry-same, entry-other, current-cases}
use Rattle.region_pages.proofs.Claims.{entry, free_page}
use Rattle.region_pages.proofs.Placing.{current_within, depth_fits, inner_is, not_current}
use Rattle.region_pages.proofs.Released.{inner_region, inner_valid}

-- the pages of a space after a used mark is written, and after a free page is entered
pub pages-used : (table : List (List ℕ)) (p u : ℕ) (y : Space) → p < length table → pages_of (row_set table p 1 u) y ≡ pages_of table y
pages-used table p u y lt =
    let f : List ℕ → ℕ = λ r. cond (slice_index r 0 == space_index y + 1) 1 0 in
    let changed = sum_by-set f table p (set (row table p) 1 u) [] lt in
    let same : f (set (row table p) 1 u) ≡ f (row table p) = ap (λ (w : ℕ). cond (w == space_index y + 1) 1 0) (get_or-set_other (row table p) 1 0 u 0 (omega arith)) in
    omega (arith, changed, same)

abbrev hit : ℕ → ℕ → ℕ
hit a b = cond (a == b) 1 0

tests_apart : (a b : ℕ) → a ≢ b → hit a b ≡ 0
tests_apart a b ne = grind (arith, nat_tests)

tests_same : (a b : ℕ) → a ≡ b → hit a b ≡ 1
tests_same a b e = grind (arith, nat_tests)

pub pages-entered_own : (table : List (List ℕ)) (p : ℕ) (x : Space) → p < length table → space_word table p ≡ 0 → pages_of (set table p (entry x)) x ≡ pages_of table x + 1
pages-entered_own table p x lt free =
    let f : List ℕ → ℕ = λ r. cond (slice_index r 0 == space_index x + 1) 1 0 in
    let changed = sum_by-set f table p (entry x) [] lt in
    let before : f (row table p) ≡ 0 = tests_apart (space_word table p) (space_index x + 1) (omega arith) in
    let after : f (entry x) ≡ 1 = tests_same (space_index x + 1) (space_index x + 1) refl in
    omega (arith, changed, before, after)

pub pages-entered_other : (table : List (List ℕ)) (p : ℕ) (x y : Space) → p < length table → space_word table p ≡ 0 → space_index x ≢ space_index y → pages_of (set table p (entry x)) y ≡ pages_of table y
pages-entered_other table p x y lt free ne =
    let f : List ℕ → ℕ = λ r. cond (slice_index r 0 == space_index y + 1) 1 0 in
    let changed = sum_by-set f table p (entry x) [] lt in
    let before : f (row table p) ≡ 0 = tests_apart (space_word table p) (space_index y + 1) (omega arith) in
    let after : f (entry x) ≡ 0 = tests_apart (space_index x + 1) (space_index y + 1) (omega arith) in
    omega (arith, changed, before, after)

-- whether a region is the one of a thread at a depth
pub same_region : (v e t d : ℕ) → ((v ≡ t) × (e ≡ d)) ⊎ ((v ≡ t) × (e ≡ d) → ⊥)
same_region v e t d =
    ⊎_elim (λ (p : v ≡ t). ⊎_elim (λ (q : e ≡ d). inl (p, q)) (λ (ne : e ≢ d). inr (λ h. ne h.1)) (cases_eq e d))
    (λ (ne : v ≢ t). inr (λ h. ne h.0))
    (cases_eq v t)

-- an object was placed in the current page
pub dense-in_current : (m : Areas) (c : Contents) (pages pages' : List (List Name)) (objects objects' : Name → Option Thing) (t d page size : ℕ) → Shape m c → HasThread m t → page < m.pages → current c.currents t d ≡ page + 1 → CurrentsStand m c.currents c.table → ((y : Space) → words_taken pages objects y ≤ words_taken pages' objects' y) → (1 ≤ d → words_taken pages objects (Region t d) + size ≤ words_taken pages' objects' (Region t d)) → RegionsDense m c.table c.currents pages objects → RegionsDense m (row_set c.table page 1 (used_mark c.table page + size)) c.currents pages' objects'
dense-in_current m c pages pages' objects objects' t d page size s ht lt at stands more own dense v e hv lv he le some =
    let u : ℕ = used_mark c.table page + size in
    let y : Space = Region v e in
    let within : page < length c.table = omega (arith, s.table) in
    let count = pages-used c.table page u y within in
    let old = dense v e hv lv he le (omega (arith, count, some)) in
    ⊎_elim (λ (w : (v ≡ t) × (e ≡ d)).
    let here : current c.currents v e ≡ page + 1 = ap (λ (k : ℕ). current c.currents k e) w.0 ∙ ap (λ (k : ℕ). current c.currents t k) w.1 ∙ at in
    let back : current c.currents v e - 1 ≡ page = omega (arith, here) in
    let mark = ap (λ (q : ℕ). used_mark (row_set c.table page 1 u) q) back ∙ used-with_used c.table page u within (s.entries page lt) in
    let mark_old = ap (λ (q : ℕ). used_mark c.table q) back in
    let region = ap (λ (k : ℕ). words_taken pages objects (Region k e)) w.0 ∙ ap (λ (k : ℕ). words_taken pages objects (Region t k)) w.1 in
    let region' = ap (λ (k : ℕ). words_taken pages' objects' (Region k e)) w.0 ∙ ap (λ (k : ℕ). words_taken pages' objects' (Region t k)) w.1 in
    (old.0, omega (arith, old.1, count, mark, mark_old, region, region', own (omega (arith, w.1)))))
    (λ (w : (v ≡ t) × (e ≡ d) → ⊥).
    let apart : current c.currents v e - 1 ≢ page = λ q. w (stands.once v e t d hv lv ht.0 ht.1 old.0 (omega (arith, old.0, q, at))) in
    let mark = used-with_used_other c.table page (current c.currents v e - 1) u apart in
    (old.0, omega (arith, old.1, count, mark, more y)))
    (same_region v e t d)

-- the inner space of a thread at a depth is its region there, and no other region
pub own_region : (t d v e : ℕ) → 1 ≤ e → t ≡ v → d ≡ e → inner_of t d ≡ Region v e
own_region t zero v e he p q = absurd (omega arith)
own_region t (suc d) v e he p q = ap (λ (k : ℕ). Region k (suc d)) p ∙ ap (λ (k : ℕ). Region v k) q

pub other_region : (m : Areas) (v e t d : ℕ) → IsAreas m → HasThread m t → d ≤ max_depth m → 1 ≤ v → v ≤ m.threads → 1 ≤ e → e ≤ max_depth m → ((v ≡ t) × (e ≡ d) → ⊥) → space_index (inner_of t d) ≡ space_index (Region v e) → ⊥
other_region m v e t d areas ht hd hv lv he le apart same =
    let region : IsValid MAX_DEPTH (Region v e) = (hv, omega (arith, areas.3, lv), he, omega (arith, le)) in
    let is = inner_region t d v e (number-own (inner_of t d) (Region v e) (inner_valid m t d areas ht hd) region same) in
    apart (sym is.0, sym is.1)

-- the words left in a current page are those above its used mark
pub left_some : (m : Areas) (c : Contents) (t d : ℕ) → current c.currents t d ≢ 0 → words_left_at m c t d ≡ page_words m - used_mark c.table (current c.currents t d - 1)
left_some m c t d some = grind (arith, nat_tests)

-- an object was placed on a claimed page
pub dense-on_claimed : (m : Areas) (c : Contents) (pages pages' : List (List Name)) (objects objects' : Name → Option Thing) (t d page size : ℕ) → Shape m c → IsAreas m → HasThread m t → d ≤ max_depth m → page < m.pages → space_word c.table page ≡ 0 → words_left_at m c t d < size → CurrentsStand m c.currents c.table → ((y : Space) → words_taken pages objects y ≤ words_taken pages' objects' y) → (1 ≤ d → words_taken pages objects (Region t d) + size ≤ words_taken pages' objects' (Region t d)) → RegionsDense m c.table c.currents pages objects → RegionsDense m (row_set (set c.table page (entry (inner_of t d))) page 1 size) (row_set c.currents (t - 1) d (page + 1)) pages' objects'
dense-on_claimed m c pages pages' objects objects' t d page size s areas ht hd lt free few stands more own dense v e hv lv he le some =
    let x : Space = inner_of t d in
    let y : Space = Region v e in
    let entered : List (List ℕ) = set c.table page (entry x) in
    let within : page < length c.table = omega (arith, s.table) in
    let within' : page < length entered = omega (arith, s.table, length-set c.table page (entry x)) in
    let long : length (row entered page) ≡ 2 = ap (λ (r : List ℕ). length r) (entry-same c.table page (entry x) within) in
    let inside : t - 1 < length c.currents = omega (arith, s.currents) in
    let slot : d < length (row c.currents (t - 1)) = omega (arith, s.slots t ht) in
    let count = pages-used entered page size y within' in
    ⊎_elim (λ (w : (v ≡ t) × (e ≡ d) × (current (row_set c.currents (t - 1) d (page + 1)) v e ≡ page + 1)).
    let same : inner_of t d ≡ y = own_region t d v e he (sym w.0) (sym w.1) in
    let own_count : pages_of entered y ≡ pages_of c.table y + 1 = ap (pages_of entered) (sym same) ∙ pages-entered_own c.table page x within free ∙ ap (λ (z : Space). pages_of c.table z + 1) same in
    let back : current (row_set c.currents (t - 1) d (page + 1)) v e - 1 ≡ page = omega (arith, w.2) in
    let mark = ap (λ (q : ℕ). used_mark (row_set entered page 1 size) q) back ∙ used-with_used entered page size within' long in
    let region = ap (λ (k : ℕ). words_taken pages objects (Region k e)) w.0 ∙ ap (λ (k : ℕ). words_taken pages objects (Region t k)) w.1 in
    let region' = ap (λ (k : ℕ). words_taken pages' objects' (Region k e)) w.0 ∙ ap (λ (k : ℕ). words_taken pages' objects' (Region t k)) w.1 in (
      omega (arith, w.2),
      ⊎_elim (λ (none : 0 ≡ pages_of c.table y). omega (arith, count, own_count, mark, region, region', own (omega (arith, w.1)), none))
          (λ (ne : 0 ≢ pages_of c.table y).
          let old = dense v e hv lv he le (omega (arith, ne)) in
          let here : current c.currents v e ≡ current c.currents t d = ap (λ (k : ℕ). current c.currents k e) w.0 ∙ ap (λ (k : ℕ). current c.currents t k) w.1 in
          let left = left_some m c t d (λ z. old.0 (here ∙ z)) in
          let mark_old = ap (λ (k : ℕ). used_mark c.table (k - 1)) here in
          omega (arith, old.1, count, own_count, mark, mark_old, left, few, region, region', own (omega (arith, w.1)), ne))
          (cases_eq 0 (pages_of c.table y)),
    ))
    (λ (w : ((v ≡ t) × (e ≡ d) → ⊥) × (current (row_set c.currents (t - 1) d (page + 1)) v e ≡ current c.currents v e)).
    let other : space_index x ≢ space_index y = λ q. other_region m v e t d areas ht hd hv lv he le w.0 q in
    let kept = pages-entered_other c.table page x y within free other in
    let old = dense v e hv lv he le (omega (arith, count, kept, some)) in
    let apart : current c.currents v e - 1 ≢ page = λ q. not_current m c.currents c.table page v e stands free hv lv (omega (arith, q, old.0)) in
    let mark = used-with_used_other entered page (current c.currents v e - 1) size apart ∙ ap (λ (r : List ℕ). get_or r 1 0) (entry-other c.table page (current c.currents v e - 1) (entry x) apart) in
    let mark' = ap (λ (k : ℕ). used_mark (row_set entered page 1 size) (k - 1)) w.1 in
    (λ z. old.0 (sym w.1 ∙ z), omega (arith, old.1, count, kept, mark, mark', more y)))
    (current-cases c.currents t d v e (page + 1) ht.0 hv inside slot)

-- where words are left, there is a current page
pub some_left : (m : Areas) (c : Contents) (t d size : ℕ) → 1 ≤ size → size ≤ words_left_at m c t d → current c.currents t d ≢ 0
some_left m c t d size least fits = grind (arith, nat_tests)

-- an object was placed, and its words count for its region
pub dense-placed : (m : Areas) (c after : Contents) (pages pages' : List (List Name)) (objects objects' : Name → Option Thing) (t : ℕ) (x : Space) (size a : ℕ) → Shape m c → IsAreas m → HasThread m t → IsSpaceOf m x → IsOwn t x → 1 ≤ size → PoolStands m c.heads c.pool c.table → CurrentsStand m c.currents c.table → ((y : Space) → words_taken pages objects y ≤ words_taken pages' objects' y) → (1 ≤ depth_in x → words_taken pages objects x + size ≤ words_taken pages' objects' x) → IsPlaced m c t x size a after → RegionsDense m c.table c.currents pages objects → RegionsDense m after.table after.currents pages' objects'
dense-placed m c after pages pages' objects objects' t x size a s areas ht valid owned least pool stands more own placed dense =
    let d : ℕ = depth_in x in
    let deep : d ≤ max_depth m = depth_fits m x valid in
    let P : List (List ℕ) → List (List ℕ) → Type 0 = λ table currents. RegionsDense m table currents pages' objects' in
    let own' : 1 ≤ d → words_taken pages objects (Region t d) + size ≤ words_taken pages' objects' (Region t d) = λ le.
    let is : x ≡ Region t d = sym (inner_is m t x valid owned) ∙ own_region t d t d le refl refl in
    omega (arith, own le, ap (λ (y : Space). words_taken pages objects y) is, ap (λ (y : Space). words_taken pages' objects' y) is) in
    ⊎_elim (λ (w : IsPlacedInCurrent m c t d size a after).
    let page : ℕ = current c.currents t d - 1 in
    let some = some_left m c t d size least w.fits in
    let at : current c.currents t d ≡ page + 1 = omega (arith, some) in
    let lt : page < m.pages = omega (arith, some, current_within m c t d s ht deep stands some) in
    subst (λ (y : Contents). P y.table y.currents) (sym w.changed) (dense-in_current m c pages pages' objects objects' t d page size s ht lt at stands more own' dense))
    (λ (w : (words_left_at m c t d < size) × IsPlacedOnClaimed m c t x size a after).
    let page : ℕ = w.1.page in
    let free = free_page m c.heads c.pool c.table page (free_pages after.heads after.pool) pool w.1.free in
    let old = dense-on_claimed m c pages pages' objects objects' t d page size s areas ht deep free.0 free.1 w.0 stands more own' dense in
    let new = subst (λ (y : Space). P (row_set (set c.table page (entry y)) page 1 size) (row_set c.currents (t - 1) d (page + 1))) (inner_is m t x valid owned) old in
    subst (λ (y : Contents). P y.table y.currents) (sym w.1.changed) new)
    placed
