-- What placing an object keeps.
use Rattle.std.proofs.Common.{◌≡◌, ◌≢◌, ℕ, zero, suc, ◌+◌, ◌-◌, ◌*◌, ◌≤◌, ◌<◌, List, [], length, get_or, set, refl, sym, ap, ◌∙◌, arith, ⊎_elim, length-set}
use Rattle.std.specs.List.{Contains}
use Rattle.std.proofs.lemmas.Bool.{cases_eq, cases_lt}
use Rattle.std.proofs.lemmas.Bool.Decides.{nat_tests}
use Rattle.std.proofs.lemmas.List.{get_or_past, get_or-set_same, get_or-set_other}
use Rattle.heap_words.specs.declared.map.Areas.{Areas}
use Rattle.heap_words.specs.Map.{HasThread, max_depth, page_words}
use Rattle.heap_words.specs.Cells.{row, row_set}
use Rattle.heap_words.specs.Contents.{Contents}
use Rattle.epoch_lattice.specs.declared.Space.{Space}
use Rattle.epoch_lattice.specs.declared.Space.TheVariants.{Control, Region}
use Rattle.epoch_lattice.specs.Lattice.{space_index, inner_of}
use Rattle.yak_model.specs.Placed.{space_word, used_mark}
use Rattle.yak_model.specs.Stands.{free_pages, PoolStands, current, CurrentsStand}
use Rattle.yak_model.specs.Packed.{IsSpaceOf}
use Rattle.region_pages.specs.Pages.{TableFits, with_claimed}
use Rattle.region_pages.specs.Placement.{IsOwn, depth_in, words_left_at, with_used, IsPlacedInCurrent, IsLastInPage}
use Rattle.region_pages.proofs.Shapes.{Shape}
use Rattle.region_pages.proofs.Entries.{entry-same, space-with_used, used-with_used, used-with_used_other, current-cases}
use Rattle.region_pages.proofs.Claims.{entry}

-- the space of a thread at the depth at which its block names the page
pub inner_is : (m : Areas) (t : ℕ) (x : Space) → IsSpaceOf m x → IsOwn t x → inner_of t (depth_in x) ≡ x
inner_is m t Control h own = refl
inner_is m t (Region u zero) h own = absurd (omega (arith, h.2))
inner_is m t (Region u (suc d)) h own = ap (λ (y : ℕ). Region y (suc d)) (sym own)

pub depth_fits : (m : Areas) (x : Space) → IsSpaceOf m x → depth_in x ≤ max_depth m
depth_fits m Control h = omega arith
depth_fits m (Region u d) h = h.3

-- a current page is one of the heap
pub current_within : (m : Areas) (c : Contents) (t d : ℕ) → Shape m c → HasThread m t → d ≤ max_depth m → CurrentsStand m c.currents c.table → current c.currents t d ≢ 0 → current c.currents t d ≤ m.pages
current_within m c t d s ht hd stands some = (stands.belong t d ht.0 ht.1 (omega (arith, s.slots t ht)) some).0

-- what is kept where the spaces of the pages are
pub pool-spaces : (m : Areas) (heads pool : List ℕ) (old new : List (List ℕ)) → ((q : ℕ) → space_word new q ≡ space_word old q) → PoolStands m heads pool old → PoolStands m heads pool new
pool-spaces m heads pool old new same stands = record {
  within = stands.within;
  passed = stands.passed;
  free = λ p. (λ (h : Contains (free_pages heads pool) p). let f = (stands.free p).0 h in (f.0, same p ∙ f.1), λ (h : (p < m.pages) × (space_word new p ≡ 0)). (stands.free p).1 (h.0, sym (same p) ∙ h.1));
  once = stands.once;
}

pub currents-spaces : (m : Areas) (currents old new : List (List ℕ)) → ((q : ℕ) → space_word new q ≡ space_word old q) → CurrentsStand m currents old → CurrentsStand m currents new
currents-spaces m currents old new same stands = record {
  belong = λ t d ht le hd some. let b = stands.belong t d ht le hd some in (b.0, same (current currents t d - 1) ∙ b.1);
  once = stands.once;
}

pub table-used : (m : Areas) (table : List (List ℕ)) (p u : ℕ) → length table ≡ m.pages → p < m.pages → length (row table p) ≡ 2 → u ≤ page_words m → TableFits m table → TableFits m (row_set table p 1 u)
table-used m table p u rows lt long small fits =
    let within : p < length table = omega arith in
    record {
      spaces = λ q h. rw (space-with_used table p q u) (fits.spaces q h);
      marks = λ q h.
          ⊎_elim (λ (e : q ≡ p). omega (arith, ap (λ (x : ℕ). used_mark (row_set table p 1 u) x) e, used-with_used table p u within long))
          (λ (ne : q ≢ p). omega (arith, used-with_used_other table p q u ne, fits.marks q h))
          (cases_eq q p);
    }

-- no current page is a free page
pub not_current : (m : Areas) (currents table : List (List ℕ)) (page u e : ℕ) → CurrentsStand m currents table → space_word table page ≡ 0 → 1 ≤ u → u ≤ m.threads → current currents u e ≢ page + 1
not_current m currents table page u e stands free hu le is =
    ⊎_elim (λ (lt : e < length (row currents (u - 1))).
    let some : current currents u e ≢ 0 = omega arith in
    let b = stands.belong u e hu le lt some in
    let at : current currents u e - 1 ≡ page = omega arith in
    absurd (omega (arith, free, b.1, ap (λ (q : ℕ). space_word table q) at)))
    (λ (past : length (row currents (u - 1)) ≤ e). absurd (omega (arith, get_or_past (row currents (u - 1)) e 0 past, is)))
    (cases_lt e (length (row currents (u - 1))))

pub length-slots_set : (currents : List (List ℕ)) (t d u v : ℕ) → 1 ≤ t → 1 ≤ u → t - 1 < length currents → length (row (row_set currents (t - 1) d v) (u - 1)) ≡ length (row currents (u - 1))
length-slots_set currents t d u v ht hu inside =
    ⊎_elim (λ (e : u - 1 ≡ t - 1). ap (λ (k : ℕ). length (row (row_set currents (t - 1) d v) k)) e ∙ ap (λ (r : List ℕ). length r) (get_or-set_same currents (t - 1) (set (row currents (t - 1)) d v) [] inside) ∙ length-set (row currents (t - 1)) d v ∙ ap (λ (k : ℕ). length (row currents k)) (sym e))
    (λ (ne : u - 1 ≢ t - 1). ap (λ (r : List ℕ). length r) (get_or-set_other currents (t - 1) (u - 1) (set (row currents (t - 1)) d v) [] ne))
    (cases_eq (u - 1) (t - 1))

-- another page becomes the current one
pub currents-moved : (m : Areas) (currents table : List (List ℕ)) (t d page : ℕ) → HasThread m t → t - 1 < length currents → d < length (row currents (t - 1)) → ((u e : ℕ) → 1 ≤ u → u ≤ m.threads → current currents u e ≢ page + 1) → page < m.pages → space_word table page ≡ space_index (inner_of t d) + 1 → CurrentsStand m currents table → CurrentsStand m (row_set currents (t - 1) d (page + 1)) table
currents-moved m currents table t d page ht inside slot fresh lt word stands =
    let new : List (List ℕ) = row_set currents (t - 1) d (page + 1) in
    record {
      belong = λ u e hu le he some.
          ⊎_elim (λ (w : (u ≡ t) × (e ≡ d) × (current new u e ≡ page + 1)).
          let at : current new u e - 1 ≡ page = omega (arith, w.2) in
          (omega (arith, w.2), ap (λ (q : ℕ). space_word table q) at ∙ word ∙ ap (λ (k : ℕ). space_index (inner_of k d) + 1) (sym w.0) ∙ ap (λ (k : ℕ). space_index (inner_of u k) + 1) (sym w.1)))
          (λ (w : ((u ≡ t) × (e ≡ d) → ⊥) × (current new u e ≡ current currents u e)).
          let inside_old : e < length (row currents (u - 1)) = omega (arith, length-slots_set currents t d u (page + 1) ht.0 hu inside) in
          let some_old : current currents u e ≢ 0 = λ z. some (w.1 ∙ z) in
          let b = stands.belong u e hu le inside_old some_old in
          (omega (arith, w.1, b.0), ap (λ (k : ℕ). space_word table (k - 1)) w.1 ∙ b.1))
          (current-cases currents t d u e (page + 1) ht.0 hu inside slot);
      once = λ u e v f hu lu hv lv some same.
          ⊎_elim (λ (w : (u ≡ t) × (e ≡ d) × (current new u e ≡ page + 1)).
          ⊎_elim (λ (z : (v ≡ t) × (f ≡ d) × (current new v f ≡ page + 1)). (w.0 ∙ sym z.0, w.1 ∙ sym z.1))
          (λ (z : ((v ≡ t) × (f ≡ d) → ⊥) × (current new v f ≡ current currents v f)). absurd (fresh v f hv lv (sym z.1 ∙ sym same ∙ w.2)))
          (current-cases currents t d v f (page + 1) ht.0 hv inside slot))
          (λ (w : ((u ≡ t) × (e ≡ d) → ⊥) × (current new u e ≡ current currents u e)).
          ⊎_elim (λ (z : (v ≡ t) × (f ≡ d) × (current new v f ≡ page + 1)). absurd (fresh u e hu lu (sym w.1 ∙ same ∙ z.2)))
          (λ (z : ((v ≡ t) × (f ≡ d) → ⊥) × (current new v f ≡ current currents v f)). stands.once u e v f hu lu hv lv (λ q. some (w.1 ∙ q)) (sym w.1 ∙ same ∙ z.1))
          (current-cases currents t d v f (page + 1) ht.0 hv inside slot))
          (current-cases currents t d u e (page + 1) ht.0 hu inside slot);
    }

-- the words left
pub none_left : (m : Areas) (c : Contents) (t d size : ℕ) → 3 ≤ size → current c.currents t d ≡ 0 → words_left_at m c t d < size
none_left m c t d size least e = grind (arith, nat_tests)

pub few_left : (m : Areas) (c : Contents) (t d size page : ℕ) → 3 ≤ size → current c.currents t d ≡ page + 1 → page_words m < used_mark c.table page + size → words_left_at m c t d < size
few_left m c t d size page least e full =
    let at : current c.currents t d - 1 ≡ page = omega arith in
    let used = ap (λ (q : ℕ). used_mark c.table q) at in
    grind (arith, nat_tests)

pub enough_left : (m : Areas) (c : Contents) (t d size page : ℕ) → current c.currents t d ≡ page + 1 → used_mark c.table page + size ≤ page_words m → size ≤ words_left_at m c t d
enough_left m c t d size page e fits =
    let at : current c.currents t d - 1 ≡ page = omega arith in
    let used = ap (λ (q : ℕ). used_mark c.table q) at in
    grind (arith, nat_tests)

-- the words that were taken are the last ones in use
pub is_last : (m : Areas) (table : List (List ℕ)) (x : Space) (p u n : ℕ) → length table ≡ m.pages → p < m.pages → length (row table p) ≡ 2 → space_word table p ≡ space_index x + 1 → u + n ≤ page_words m → IsLastInPage m (row_set table p 1 (u + n)) x (page_words m * p + u) n
is_last m table x p u n rows lt long entered fits =
    let within : p < length table = omega arith in
    let mark = used-with_used table p (u + n) within long in
    record {
      page = p;
      exists = lt;
      entered = space-with_used table p p (u + n) ∙ entered;
      from = omega arith;
      ends = omega (arith, mark);
      fits = omega (arith, mark);
    }

-- the same of a page of which nothing was in use
pub is_last_front : (m : Areas) (table : List (List ℕ)) (x : Space) (p n : ℕ) → length table ≡ m.pages → p < m.pages → length (row table p) ≡ 2 → space_word table p ≡ space_index x + 1 → n ≤ page_words m → IsLastInPage m (row_set table p 1 n) x (page_words m * p) n
is_last_front m table x p n rows lt long entered fits =
    let within : p < length table = omega arith in
    let mark = used-with_used table p n within long in
    record {
      page = p;
      exists = lt;
      entered = space-with_used table p p n ∙ entered;
      from = omega arith;
      ends = omega (arith, mark);
      fits = omega (arith, mark);
    }

pub is_placed : (m : Areas) (c after : Contents) (t d size page used : ℕ) → current c.currents t d ≡ page + 1 → used ≡ used_mark c.table page → used + size ≤ page_words m → after ≡ with_used c page (used + size) → IsPlacedInCurrent m c t d size (page_words m * page + used) after
is_placed m c after t d size page used e hu fits changed =
    let at : page ≡ current c.currents t d - 1 = omega arith in
    let mark : used ≡ used_mark c.table (current c.currents t d - 1) = hu ∙ ap (λ (q : ℕ). used_mark c.table q) at in
    record {
      fits = enough_left m c t d size page e (omega arith);
      address = ap (λ (q : ℕ). page_words m * q + used) at ∙ ap (λ (u : ℕ). page_words m * (current c.currents t d - 1) + u) mark;
      changed = changed ∙ ap (λ (q : ℕ). with_used c q (used + size)) at ∙ ap (λ (u : ℕ). with_used c (current c.currents t d - 1) (u + size)) mark;
    }

-- the word of a claimed page's space
pub claimed_word : (m : Areas) (c claimed : Contents) (x : Space) (page : ℕ) → Shape m c → page < m.pages → claimed ≡ with_claimed c x page → space_word claimed.table page ≡ space_index x + 1
claimed_word m c claimed x page s lt is =
    let within : page < length c.table = omega (arith, s.table) in
    ap (λ (y : Contents). space_word y.table page) is ∙ ap (λ (r : List ℕ). get_or r 0 0) (entry-same c.table page (entry x) within)

-- the current pages after an object is placed on a claimed page
pub currents-placed : (m : Areas) (c claimed : Contents) (x : Space) (t page u : ℕ) → Shape m c → Shape m claimed → HasThread m t → IsSpaceOf m x → IsOwn t x → page < m.pages → space_word c.table page ≡ 0 → CurrentsStand m c.currents c.table → CurrentsStand m claimed.currents claimed.table → claimed ≡ with_claimed c x page → CurrentsStand m (row_set claimed.currents (t - 1) (depth_in x) (page + 1)) (row_set claimed.table page 1 u)
currents-placed m c claimed x t page u s s' ht valid own lt free before stands is =
    let table : List (List ℕ) = row_set claimed.table page 1 u in
    let within : page < length c.table = omega (arith, s.table) in
    let inside : t - 1 < length claimed.currents = omega (arith, s'.currents) in
    let slot : depth_in x < length (row claimed.currents (t - 1)) = omega (arith, s'.slots t ht, depth_fits m x valid) in
    let entered : space_word claimed.table page ≡ space_index x + 1 = ap (λ (y : Contents). space_word y.table page) is ∙ ap (λ (r : List ℕ). get_or r 0 0) (entry-same c.table page (entry x) within) in
    let word : space_word table page ≡ space_index (inner_of t (depth_in x)) + 1 = space-with_used claimed.table page page u ∙ entered ∙ ap (λ (y : Space). space_index y + 1) (sym (inner_is m t x valid own)) in
    currents-moved m claimed.currents table t (depth_in x) page ht inside slot (λ v e hv lv at. not_current m c.currents c.table page v e before free hv lv (sym (ap (λ (y : Contents). current y.currents v e) is) ∙ at)) lt word (currents-spaces m claimed.currents claimed.table table (λ q. space-with_used claimed.table page q u) stands)
