-- What the placing of an object changes, from the words of the pages, the pool and the current pages.
use Rattle.std.proofs.Common.{◌≡◌, ◌≢◌, ℕ, ◌+◌, ◌-◌, ◌*◌, ◌≤◌, ◌<◌, List, [], ◌∷◌, length, get_or, set, drop, zero, suc, refl, sym, ap, subst, ◌∙◌, arith, inl, inr, get_or-set_same}
use Rattle.std.proofs.lemmas.Bool.{ne_eqb}
use Rattle.std.proofs.Math.Logic.{⊎_elim}
use Rattle.heap_words.specs.declared.map.Areas.{Areas}
use Rattle.heap_words.specs.Map.{HasThread, max_depth, page_words}
use Rattle.heap_words.specs.Cells.{row}
use Rattle.heap_words.specs.Contents.{Contents}
use Rattle.epoch_lattice.specs.declared.Space.{Space}
use Rattle.epoch_lattice.specs.Lattice.{inner_of}
use Rattle.yak_model.specs.State.{State}
use Rattle.yak_model.specs.Placed.{Places, used_mark}
use Rattle.yak_model.specs.Stands.{CurrentsStand, PoolStands, StandsAs, current}
use Rattle.region_pages.specs.Placement.{IsPlaced, IsPlacedInCurrent, IsPlacedOnClaimed, depth_in, words_left_at}
use Rattle.region_pages.proofs.Claims.{free_page}
use Rattle.region_pages.proofs.Entries.{current-cases, current-same}
use Rattle.region_pages.proofs.Placing.{none_left}
use Rattle.region_pages.proofs.Shapes.{Shape}
use Rattle.standing_calls.proofs.Entered.{entry, free-mark}
use Rattle.standing_calls.proofs.Added.{Placing}

depth-inner : (t d : ℕ) → depth_in (inner_of t d) ≡ d
depth-inner t zero = refl
depth-inner t (suc d) = refl

pair-set : (xs : List ℕ) (v : ℕ) → length xs ≡ 2 → set xs 1 v ≡ get_or xs 0 0 ∷ v ∷ []
pair-set [] v e = absurd (omega arith)
pair-set (x ∷ []) v e = absurd (omega arith)
pair-set (x ∷ y ∷ []) v e = refl
pair-set (x ∷ y ∷ z ∷ zs) v e = absurd (omega arith)

set-twice : {X : Type 0} (xs : List X) (i : ℕ) (a b : X) → set (set xs i a) i b ≡ set xs i b
set-twice [] i a b = refl
set-twice (x ∷ xs) zero a b = refl
set-twice (x ∷ xs) (suc i) a b = ap (λ ys. x ∷ ys) (set-twice xs i a b)

drop-set : (xs : List ℕ) (v : ℕ) → drop 3 (set xs 1 v) ≡ drop 3 xs
drop-set [] v = refl
drop-set (x ∷ []) v = refl
drop-set (x ∷ y ∷ zs) v = refl

-- the words left in a current page
left-in : (m : Areas) (c : Contents) (t d : ℕ) → current c.currents t d ≢ 0 → words_left_at m c t d ≡ page_words m - used_mark c.table (current c.currents t d - 1)
left-in m c t d ne = rw (ne_eqb (current c.currents t d) 0 ne) refl

-- where an object was placed: the page, and the words that were in use there
pub record Somewhere (m : Areas) (c c' : Contents) (t d size a : ℕ) : Type 0 where
  pub page : ℕ
  pub used : ℕ
  pub placing : Placing m c c' t d size page used
  pub address : a ≡ page_words m * page + used

in-current : (m : Areas) (c c' : Contents) (t d size a : ℕ) → Shape m c → HasThread m t → d ≤ max_depth m → 3 ≤ size → CurrentsStand m c.currents c.table → PoolStands m c'.heads c'.pool c'.table → CurrentsStand m c'.currents c'.table → IsPlacedInCurrent m c t d size a c' → Somewhere m c c' t d size a
in-current m c c' t d size a shape ht deep least cur pool' cur' h =
    let some : current c.currents t d ≢ 0 = λ z. omega (arith, h.fits, none_left m c t d size least z) in
    let p : ℕ = current c.currents t d - 1 in
    let used : ℕ = used_mark c.table p in
    let b = cur.belong t d ht.0 ht.1 (omega (arith, shape.slots t ht)) some in
    let lt : p < m.pages = omega (arith, b.0, some) in
    let at : current c.currents t d ≡ p + 1 = omega (arith, some) in
    let row-now : c'.table ≡ set c.table p (entry (inner_of t d) (used + size)) = ap (λ (x : Contents). x.table) h.changed ∙ ap (set c.table p) (pair-set (row c.table p) (used + size) (shape.entries p lt) ∙ ap (λ i. i ∷ (used + size) ∷ []) b.1) in
    record {
      page = p;
      used = used;
      placing = record {
        entered = record {
          page = lt;
          listed = rw shape.table lt;
          set = row-now;
          before = inl b.1;
          mark = refl;
          room = omega (arith, h.fits, left-in m c t d some, least);
        };
        current_now = ap (λ (x : Contents). current x.currents t d) h.changed ∙ at;
        current_was = λ e. at;
        others = λ u e hu ne. ap (λ (x : Contents). current x.currents u e) h.changed;
        few_left = λ z ne. absurd (omega (arith, z, b.1));
        pool = pool';
        currents = cur';
        unused = ap (λ (x : Contents). drop 3 x.heads) h.changed;
        slots = shape.slots;
        same_firsts = ap (λ (x : Contents). x.firsts) h.changed;
        same_sets = ap (λ (x : Contents). x.sets) h.changed;
        same_rests = ap (λ (x : Contents). x.rests) h.changed;
        same_depths = ap (λ (x : Contents). x.depths) h.changed;
        same_buffers = ap (λ (x : Contents). x.buffers) h.changed;
        same_made = ap (λ (x : Contents). x.made) h.changed;
        same_stacks = ap (λ (x : Contents). x.stacks) h.changed;
        same_heap = ap (λ (x : Contents). x.heap) h.changed;
      };
      address = h.address;
    }

on-claimed : (m : Areas) (c c' : Contents) (s : State) (l : Places) (t d size a : ℕ) → Shape m c → StandsAs m c s l → HasThread m t → d ≤ max_depth m → size ≤ page_words m → PoolStands m c'.heads c'.pool c'.table → CurrentsStand m c'.currents c'.table → words_left_at m c t d < size → IsPlacedOnClaimed m c t (inner_of t d) size a c' → Somewhere m c c' t d size a
on-claimed m c c' s l t d size a shape st ht deep most pool' cur' few h =
    let p : ℕ = h.page in
    let x : Space = inner_of t d in
    let f = free_page m c.heads c.pool c.table p _ st.pool h.free in
    let listed : p < length c.table = rw shape.table f.0 in
    let inside : t - 1 < length c.currents = omega (arith, ht.0, ht.1, shape.currents) in
    let slot : d < length (row c.currents (t - 1)) = omega (arith, shape.slots t ht) in
    let zero_size : 0 + size ≡ size = omega arith in
    let twice : set (set c.table p (entry x 0)) p (set (get_or (set c.table p (entry x 0)) p []) 1 size) ≡ set c.table p (entry x (0 + size)) = ap (λ (r : List ℕ). set (set c.table p (entry x 0)) p (set r 1 size)) (get_or-set_same c.table p (entry x 0) [] listed) ∙ set-twice c.table p (entry x 0) (entry x size) ∙ ap (λ i. set c.table p (entry x i)) (sym zero_size) in
    let deep-at : depth_in x ≡ d = depth-inner t d in
    record {
      page = p;
      used = 0;
      placing = record {
        entered = record {
          page = f.0;
          listed = listed;
          set = ap (λ (y : Contents). y.table) h.changed ∙ twice;
          before = inr (f.1, refl);
          mark = free-mark m c.table c.heap s.objects l (λ _. 0) p st.heap f.0 f.1;
          room = rw zero_size most;
        };
        current_now = ap (λ (y : Contents). current y.currents t d) h.changed ∙ ap (λ i. current (set c.currents (t - 1) (set (row c.currents (t - 1)) i (p + 1))) t d) deep-at ∙ current-same c.currents t d (p + 1) inside slot;
        current_was = λ e. absurd (omega (arith, e, f.1));
        others = λ u e hu ne. ap (λ (y : Contents). current y.currents u e) h.changed ∙ ap (λ i. current (set c.currents (t - 1) (set (row c.currents (t - 1)) i (p + 1))) u e) deep-at ∙ ⊎_elim (λ b. absurd (ne (b.0, b.1))) (λ b. b.1) (current-cases c.currents t d u e (p + 1) ht.0 hu inside slot);
        few_left = λ z ne. omega (arith, few, left-in m c t d ne);
        pool = pool';
        currents = cur';
        unused = ap (λ (y : Contents). drop 3 y.heads) h.changed ∙ drop-set c.heads (get_or c.heads 1 0 + 1);
        slots = shape.slots;
        same_firsts = ap (λ (y : Contents). y.firsts) h.changed;
        same_sets = ap (λ (y : Contents). y.sets) h.changed;
        same_rests = ap (λ (y : Contents). y.rests) h.changed;
        same_depths = ap (λ (y : Contents). y.depths) h.changed;
        same_buffers = ap (λ (y : Contents). y.buffers) h.changed;
        same_made = ap (λ (y : Contents). y.made) h.changed;
        same_stacks = ap (λ (y : Contents). y.stacks) h.changed;
        same_heap = ap (λ (y : Contents). y.heap) h.changed;
      };
      address = omega (arith, h.address);
    }

-- where an object was placed
pub somewhere : (m : Areas) (c c' : Contents) (s : State) (l : Places) (t d size a : ℕ) → Shape m c → StandsAs m c s l → HasThread m t → d ≤ max_depth m → 3 ≤ size → size ≤ page_words m → PoolStands m c'.heads c'.pool c'.table → CurrentsStand m c'.currents c'.table → IsPlaced m c t (inner_of t d) size a c' → Somewhere m c c' t d size a
somewhere m c c' s l t d size a shape st ht deep least most pool' cur' h =
    let at : depth_in (inner_of t d) ≡ d = depth-inner t d in
    ⊎_elim
    (λ (o : IsPlacedInCurrent m c t (depth_in (inner_of t d)) size a c'). in-current m c c' t d size a shape ht deep least st.currents pool' cur' (subst (λ i. IsPlacedInCurrent m c t i size a c') at o))
    (λ (o : (words_left_at m c t (depth_in (inner_of t d)) < size) × IsPlacedOnClaimed m c t (inner_of t d) size a c'). on-claimed m c c' s l t d size a shape st ht deep most pool' cur' (subst (λ i. words_left_at m c t i < size) at o.0) o.1)
    h
