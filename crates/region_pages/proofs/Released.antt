-- What a region that gives its pages back keeps.
use Rattle.std.proofs.Common.{◌≡◌, ◌≢◌, ◌↔◌, ℕ, zero, suc, ◌+◌, ◌-◌, ◌≤◌, ◌<◌, List, [], ◌∷◌, length, get_or, sym, ap, ◌∙◌, subst, arith, inl, inr, ◌⊎◌, ⊎_elim}
use Rattle.std.proofs.lemmas.Bool.{cases_eq}
use Rattle.std.proofs.lemmas.List.{get_or-map, length-map}
use Rattle.heap_words.specs.declared.map.Areas.{Areas}
use Rattle.heap_words.specs.Map.{IsAreas, HasRegion, HasThread, max_depth}
use Rattle.heap_words.specs.Cells.{row, row_set}
use Rattle.heap_words.specs.declared.TheConstants.{HEAD_WORDS}
use Rattle.heap_words.specs.Contents.{Contents, with_current, with_head}
use Rattle.epoch_lattice.specs.declared.TheConstants.{MAX_DEPTH}
use Rattle.epoch_lattice.specs.declared.Space.TheVariants.{Region}
use Rattle.epoch_lattice.specs.Lattice.{IsValid, space_index, inner_of}
use Rattle.epoch_lattice.proofs.Numbers.{number-own}
use Rattle.yak_model.specs.Placed.{space_word}
use Rattle.yak_model.specs.Stands.{current, CurrentsStand, PoolStands}
use Rattle.region_pages.specs.Pages.{TableFits}
use Rattle.region_pages.specs.Freeing.{free_below, freed, freed_table, pool_with, with_pool_rebuilt}
use Rattle.region_pages.proofs.Shapes.{Shape}
use Rattle.region_pages.proofs.Entries.{current-cases}
use Rattle.region_pages.proofs.Placing.{length-slots_set}
use Rattle.region_pages.proofs.Freed.{freed_same, freed_zero, rebuilt_at, rebuilt_stands}

-- the entry of a page after some are freed
pub freed_row : (word : ℕ) (table : List (List ℕ)) (p : ℕ) → p < length table → row (freed_table word table) p ≡ freed word (row table p)
freed_row word table p lt = get_or-map (freed word) table p [] [] lt

freed_kept : (word : ℕ) (table : List (List ℕ)) (p : ℕ) → p < length table → space_word table p ≢ word → row (freed_table word table) p ≡ row table p
freed_kept word table p lt ne = freed_row word table p lt ∙ freed_same word (row table p) ne

freed_gone : (word : ℕ) (table : List (List ℕ)) (p : ℕ) → p < length table → space_word table p ≡ word → row (freed_table word table) p ≡ 0 ∷ 0 ∷ []
freed_gone word table p lt e = freed_row word table p lt ∙ freed_zero word (row table p) e

-- the pages that are free after some are freed
pub freed_free : (word : ℕ) (table : List (List ℕ)) (p : ℕ) → p < length table → (space_word (freed_table word table) p ≡ 0) ↔ ((space_word table p ≡ 0) ⊎ (space_word table p ≡ word))
freed_free word table p lt = (
  λ (h : space_word (freed_table word table) p ≡ 0).
      ⊎_elim (λ (e : space_word table p ≡ word). inr e)
      (λ (ne : space_word table p ≢ word). inl (sym (ap (λ (r : List ℕ). get_or r 0 0) (freed_kept word table p lt ne)) ∙ h))
      (cases_eq (space_word table p) word),
  λ (h : (space_word table p ≡ 0) ⊎ (space_word table p ≡ word)).
      ⊎_elim (λ (e : space_word table p ≡ word). ap (λ (r : List ℕ). get_or r 0 0) (freed_gone word table p lt e))
      (λ (ne : space_word table p ≢ word). ap (λ (r : List ℕ). get_or r 0 0) (freed_kept word table p lt ne) ∙ ⊎_elim (λ (z : space_word table p ≡ 0). z) (λ (e : space_word table p ≡ word). absurd (ne e)) h)
      (cases_eq (space_word table p) word),
)

pub table-freed : (m : Areas) (word : ℕ) (table : List (List ℕ)) → length table ≡ m.pages → TableFits m table → TableFits m (freed_table word table)
table-freed m word table rows fits = record {
  spaces = λ p h.
      let lt : p < length table = omega arith in
      ⊎_elim (λ (e : space_word table p ≡ word). inl (ap (λ (r : List ℕ). get_or r 0 0) (freed_gone word table p lt e)))
      (λ (ne : space_word table p ≢ word). rw (freed_kept word table p lt ne) (fits.spaces p h))
      (cases_eq (space_word table p) word);
  marks = λ p h.
      let lt : p < length table = omega arith in
      ⊎_elim (λ (e : space_word table p ≡ word). omega (arith, ap (λ (r : List ℕ). get_or r 1 0) (freed_gone word table p lt e)))
      (λ (ne : space_word table p ≢ word). rw (freed_kept word table p lt ne) (fits.marks p h))
      (cases_eq (space_word table p) word);
}

-- a thread has one region at a depth
pub inner_region : (u e t d : ℕ) → inner_of u e ≡ Region t d → (u ≡ t) × (e ≡ d)
inner_region u zero t d h = absurd (cc)
inner_region u (suc e) t d h = ((cc), (cc))

pub inner_valid : (m : Areas) (u e : ℕ) → IsAreas m → HasThread m u → e ≤ max_depth m → IsValid MAX_DEPTH (inner_of u e)
inner_valid m u zero areas hu he = tt
inner_valid m u (suc e) areas hu he = (hu.0, omega (arith, areas.3, hu.1), omega arith, omega arith)

-- the current pages after a region gave its pages back
pub currents-freed : (m : Areas) (c : Contents) (t d : ℕ) → Shape m c → IsAreas m → HasRegion m t d → CurrentsStand m c.currents c.table → CurrentsStand m (row_set c.currents (t - 1) d 0) (freed_table (space_index (Region t d) + 1) c.table)
currents-freed m c t d s areas hr stands =
    let new : List (List ℕ) = row_set c.currents (t - 1) d 0 in
    let word : ℕ = space_index (Region t d) + 1 in
    let inside : t - 1 < length c.currents = omega (arith, s.currents) in
    let slot : d < length (row c.currents (t - 1)) = omega (arith, s.slots t (hr.0, hr.1)) in
    let region : IsValid MAX_DEPTH (Region t d) = (hr.0, omega (arith, areas.3, hr.1), hr.2, omega (arith, hr.3)) in
    record {
      belong = λ u e hu le he some.
          ⊎_elim (λ (w : (u ≡ t) × (e ≡ d) × (current new u e ≡ 0)). absurd (some w.2))
          (λ (w : ((u ≡ t) × (e ≡ d) → ⊥) × (current new u e ≡ current c.currents u e)).
          let inside_old : e < length (row c.currents (u - 1)) = omega (arith, length-slots_set c.currents t d u 0 hr.0 hu inside) in
          let deep : e ≤ max_depth m = omega (arith, s.slots u (hu, le)) in
          let some_old : current c.currents u e ≢ 0 = λ z. some (w.1 ∙ z) in
          let b = stands.belong u e hu le inside_old some_old in
          let lt : current c.currents u e - 1 < length c.table = omega (arith, b.0, s.table) in
          let other : space_word c.table (current c.currents u e - 1) ≢ word = λ q.
          let same : space_index (inner_of u e) ≡ space_index (Region t d) = omega (arith, sym b.1 ∙ q) in
          w.0 (inner_region u e t d (number-own (inner_of u e) (Region t d) (inner_valid m u e areas (hu, le) deep) region same)) in
          (omega (arith, w.1, b.0), ap (λ (k : ℕ). space_word (freed_table word c.table) (k - 1)) w.1 ∙ ap (λ (r : List ℕ). get_or r 0 0) (freed_kept word c.table (current c.currents u e - 1) lt other) ∙ b.1))
          (current-cases c.currents t d u e 0 hr.0 hu inside slot);
      once = λ u e v f hu lu hv lv some same.
          ⊎_elim (λ (w : (u ≡ t) × (e ≡ d) × (current new u e ≡ 0)). absurd (some w.2))
          (λ (w : ((u ≡ t) × (e ≡ d) → ⊥) × (current new u e ≡ current c.currents u e)).
          ⊎_elim (λ (z : (v ≡ t) × (f ≡ d) × (current new v f ≡ 0)). absurd (some (same ∙ z.2)))
          (λ (z : ((v ≡ t) × (f ≡ d) → ⊥) × (current new v f ≡ current c.currents v f)). stands.once u e v f hu lu hv lv (λ q. some (w.1 ∙ q)) (sym w.1 ∙ same ∙ z.1))
          (current-cases c.currents t d v f 0 hr.0 hv inside slot))
          (current-cases c.currents t d u e 0 hr.0 hu inside slot);
    }

-- the pages of a region given back, and the pool filled and opened with the free pages
pub released_at : (m : Areas) (old : Contents) (t d word n : ℕ) → length old.table ≡ m.pages → n ≡ length (free_below (freed_table word old.table) m.pages)
    → with_head (with_head (with_current (record old { table = freed_table word old.table; pool = pool_with (free_below (freed_table word old.table) m.pages) old.pool }) t d 0) 1 0) 2 n
    ≡ with_pool_rebuilt (with_current (record old { table = freed_table word old.table }) t d 0)
released_at m old t d word n rows count =
    let table : List (List ℕ) = freed_table word old.table in
    let whole : length table ≡ m.pages = omega (arith, length-map old.table (freed word), rows) in
    ap (λ (k : ℕ). with_head (with_head (with_current (record old { table = table; pool = pool_with (free_below table m.pages) old.pool }) t d 0) 1 0) 2 k) count
    ∙ ap (λ (k : ℕ). rebuilt_at k (with_current (record old { table = table }) t d 0)) (sym whole)

pub released_stands : (m : Areas) (old : Contents) (t d word : ℕ) → length old.table ≡ m.pages → length old.heads ≡ HEAD_WORDS
    → (let new = with_pool_rebuilt (with_current (record old { table = freed_table word old.table }) t d 0) in PoolStands m new.heads new.pool new.table)
released_stands m old t d word rows long =
    let table : List (List ℕ) = freed_table word old.table in
    let whole : length table ≡ m.pages = omega (arith, length-map old.table (freed word), rows) in
    let c : Contents = with_current (record old { table = table }) t d 0 in
    subst (λ (k : ℕ). PoolStands m (rebuilt_at k c).heads (rebuilt_at k c).pool table) (sym whole) (rebuilt_stands m old.heads old.pool table long)
