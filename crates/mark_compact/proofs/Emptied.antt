-- The room that a collection leaves.
use Rattle.std.proofs.Common.{◌≡◌, ◌≢◌, ℕ, ◌+◌, ◌-◌, ◌≤◌, ◌<◌, List, [], length, get_or, set, refl, sym, ap, subst, ◌∙◌, arith, inl, inr}
use Rattle.std.specs.Prelude.{replicate}
use Rattle.std.specs.List.{All}
use Rattle.std.proofs.Props.{props}
use Rattle.std.proofs.lemmas.Bool.{cases_eq, cases_lt}
use Rattle.std.proofs.lemmas.List.{get_or_past}
use Rattle.std.proofs.Math.Logic.{⊎_elim, ∥∥₁_elim}
use Rattle.heap_words.specs.declared.map.Areas.{Areas}
use Rattle.heap_words.specs.Map.{HasThread}
use Rattle.heap_words.specs.declared.TheConstants.{HEAD_WORDS}
use Rattle.heap_words.specs.Cells.{row}
use Rattle.heap_words.specs.Contents.{Contents}
use Rattle.region_pages.specs.declared.TheConstants.{CLAIM_COUNTER, POOL_LENGTH}
use Rattle.region_pages.specs.Freeing.{free_below, pool_with, with_pool_rebuilt}
use Rattle.yak_model.specs.Placed.{space_word}
use Rattle.yak_model.specs.Stands.{current}
use Rattle.remember_sets.specs.Filed.{with_sets}
use Rattle.relocation.specs.Slide.{IsPageOf}
use Rattle.forwarding.specs.Pool.{PoolAnew}
use Rattle.forwarding.proofs.Anew.{pool_anew}
use Rattle.mark_compact.specs.Collected.{CurrentsCollected, IsFilledOrFree, RoomCollected}
use Rattle.mark_compact.specs.Collecting.{Cleared, ControlPages, IsLast}
use Rattle.mark_compact.specs.declared.sliding.TheConstants.{CONTROL_WORD}
use Rattle.std.proofs.lemmas.List.Elements.{All-replicate}

-- what a slide leaves of other words than those of objects
pub record Left (m : Areas) (c1 c2 : Contents) : Type 0 where
  pub frame : c2 ≡ record c1 { stacks = c2.stacks; table = c2.table; scratch = c2.scratch; heap = c2.heap }
  pub others : (p : ℕ) → (IsPageOf CONTROL_WORD c1.table p → ⊥) → row c2.table p ≡ row c1.table p
  pub control : (p : ℕ) → p < m.pages → IsPageOf CONTROL_WORD c1.table p → IsFilledOrFree c2.table p

module _ (m : Areas) (c0 c1 c2 c3 c4 : Contents) (t last : ℕ) (ht : HasThread m t) (cleared : Cleared m c0 c1) (some : ∥ Left m c1 c2 ∥₁) (ends : IsLast (with_pool_rebuilt c2).table m.pages last) (pages : ControlPages (with_pool_rebuilt c2) c3 t last m.threads) (others : c4 ≡ with_sets c3 c4) (heads : length c0.heads ≡ HEAD_WORDS) (long : length c2.table ≡ m.pages) (threads : length c3.currents ≡ m.threads) where
  table4 : c4.table ≡ c2.table
  table4 = ap (λ (x : Contents). x.table) others ∙ ap (λ (x : Contents). x.table) pages.frame

  table1 : c1.table ≡ c0.table
  table1 = ap (λ (x : Contents). x.table) cleared.others

  currents4 : c4.currents ≡ c3.currents
  currents4 = ap (λ (x : Contents). x.currents) others

  own4 : current c4.currents t 0 ≡ last
  own4 = ap (λ (cs : List (List ℕ)). current cs t 0) currents4 ∙ pages.own ht.1

  -- a control page is before the last one's end
  before-last : (p : ℕ) → space_word c4.table p ≡ CONTROL_WORD → p + 1 ≤ last
  before-last p e =
      let z : space_word c2.table p ≡ CONTROL_WORD = ap (λ (tb : List (List ℕ)). space_word tb p) (sym table4) ∙ e in
      ⊎_elim
      (λ (lt : p < last). omega (arith, lt))
      (λ (le : last ≤ p). absurd (⊎_elim
      (λ (lt : p < m.pages). ends.none p lt le z)
      (λ (past : m.pages ≤ p).
      let none : space_word c2.table p ≡ 0 = ap (λ (r : List ℕ). get_or r 0 0) (get_or_past c2.table p [] (omega (arith, past, long))) in
      omega (arith, none, z))
      (cases_lt p m.pages)))
      (cases_lt p last)

  pub currents-collected : CurrentsCollected c0 c4 t
  currents-collected = record {
    own = ⊎_elim
        (λ (z : last ≡ 0). inl (own4 ∙ z, λ p e. (let q = before-last p e in omega (arith, q, z))))
        (λ (ne : last ≢ 0).
        let one : 1 ≤ last = omega (arith, ne) in
        inr (
          rw own4 one,
          ap (λ i. space_word c4.table (i - 1)) own4 ∙ ap (λ (tb : List (List ℕ)). space_word tb (last - 1)) table4 ∙ ends.control one,
          λ p e. (let q = before-last p e in omega (arith, q, own4)),
        ))
        (cases_eq last 0);
    others = λ u low ne. ap (λ (cs : List (List ℕ)). current cs u 0) currents4 ∙ ⊎_elim
        (λ (lt : m.threads < u). ap (λ (r : List ℕ). get_or r 0 0) (get_or_past c3.currents (u - 1) [] (omega (arith, lt, threads))))
        (λ (le : u ≤ m.threads). pages.others u low le ne)
        (cases_lt m.threads u);
    regions = λ u d h.
        ap (λ (cs : List (List ℕ)). current cs u d) currents4
        ∙ pages.regions u d h
        ∙ ∥∥₁_elim some (hlevel props) (λ f. ap (λ (x : Contents). current x.currents u d) f.frame)
        ∙ ap (λ (x : Contents). current x.currents u d) cleared.others;
  }

  control2 : (p : ℕ) → p < m.pages → space_word c0.table p ≡ CONTROL_WORD → IsFilledOrFree c2.table p
  control2 p lt own =
      let was : space_word c1.table p ≡ CONTROL_WORD = ap (λ (tb : List (List ℕ)). space_word tb p) table1 ∙ own in
      ⊎_elim
      (λ (same : space_word c2.table p ≡ CONTROL_WORD). inl (
        same,
        λ none. ∥∥₁_elim some (hlevel props) (λ f. ⊎_elim (λ filled. filled.1 none) (λ free. (let z = free.0 in omega (arith, z, same))) (f.control p lt was)),
      ))
      (λ (ne : space_word c2.table p ≡ CONTROL_WORD → ⊥). inr (
        ∥∥₁_elim some (hlevel props) (λ f. ⊎_elim (λ filled. absurd (ne filled.0)) (λ free. free.0) (f.control p lt was)),
        ∥∥₁_elim some (hlevel props) (λ f. ⊎_elim (λ filled. absurd (ne filled.0)) (λ free. free.1) (f.control p lt was)),
      ))
      (cases_eq (space_word c2.table p) CONTROL_WORD)

  -- the free pages
  free4 : free_below c2.table (length c2.table) ≡ free_below c4.table m.pages
  free4 = ap (free_below c2.table) long ∙ ap (λ (tb : List (List ℕ)). free_below tb m.pages) (sym table4)

  heads1 : c1.heads ≡ c0.heads
  heads1 = ap (λ (x : Contents). x.heads) cleared.others

  heads2 : c2.heads ≡ c1.heads
  heads2 = ∥∥₁_elim some (hlevel props) (λ f. ap (λ (x : Contents). x.heads) f.frame)

  pool2 : c2.pool ≡ c1.pool
  pool2 = ∥∥₁_elim some (hlevel props) (λ f. ap (λ (x : Contents). x.pool) f.frame)

  heads4 : c4.heads ≡ set (set c1.heads CLAIM_COUNTER 0) POOL_LENGTH (length (free_below c4.table m.pages))
  heads4 =
      ap (λ (x : Contents). x.heads) others
      ∙ ap (λ (x : Contents). x.heads) pages.frame
      ∙ ap (λ (hs : List ℕ). set (set hs CLAIM_COUNTER 0) POOL_LENGTH (length (free_below c2.table (length c2.table)))) heads2
      ∙ ap (λ (ps : List ℕ). set (set c1.heads CLAIM_COUNTER 0) POOL_LENGTH (length ps)) free4

  pool4 : c4.pool ≡ pool_with (free_below c4.table m.pages) c1.pool
  pool4 =
      ap (λ (x : Contents). x.pool) others
      ∙ ap (λ (x : Contents). x.pool) pages.frame
      ∙ ap (λ (ps : List ℕ). pool_with ps c2.pool) free4
      ∙ ap (pool_with (free_below c4.table m.pages)) pool2

  pub pool-collected : PoolAnew m c0 c4
  pool-collected = pool_anew m c0 c4 c1.heads c1.pool (ap (λ (hs : List ℕ). set hs CLAIM_COUNTER 0) heads1) (ap (λ (hs : List ℕ). length hs) heads1 ∙ heads) (ap (λ (x : Contents). x.pool) cleared.others) heads4 pool4

  pub room-collected : RoomCollected m c0 c4 t
  room-collected =
      let buffers : c4.buffers ≡ replicate m.threads [] = ap (λ (x : Contents). x.buffers) others ∙ ap (λ (x : Contents). x.buffers) pages.frame ∙ ∥∥₁_elim some (hlevel props) (λ f. ap (λ (x : Contents). x.buffers) f.frame) ∙ ap (λ (x : Contents). x.buffers) cleared.others in
      record {
        filed = subst (All (λ (es : List ℕ). es ≡ [])) (sym buffers) (All-replicate (λ (es : List ℕ). es ≡ []) m.threads [] refl);
        readers = ap (λ (x : Contents). x.readers) others ∙ ap (λ (x : Contents). x.readers) pages.frame ∙ ∥∥₁_elim some (hlevel props) (λ f. ap (λ (x : Contents). x.readers) f.frame) ∙ ap (λ (x : Contents). x.readers) cleared.others;
        currents = currents-collected;
        control = λ p lt own. subst (λ (tb : List (List ℕ)). IsFilledOrFree tb p) (sym table4) (control2 p lt own);
        others = λ p ne.
            ap (λ (tb : List (List ℕ)). row tb p) table4
            ∙ ∥∥₁_elim some (hlevel props) (λ f. f.others p (λ own. ne (ap (λ (tb : List (List ℕ)). space_word tb p) (sym table1) ∙ own)))
            ∙ ap (λ (tb : List (List ℕ)). row tb p) table1;
        pool = pool-collected;
        depths = ap (λ (x : Contents). x.depths) others ∙ ap (λ (x : Contents). x.depths) pages.frame ∙ ∥∥₁_elim some (hlevel props) (λ f. ap (λ (x : Contents). x.depths) f.frame) ∙ ap (λ (x : Contents). x.depths) cleared.others;
        made = ap (λ (x : Contents). x.made) others ∙ ap (λ (x : Contents). x.made) pages.frame ∙ ∥∥₁_elim some (hlevel props) (λ f. ap (λ (x : Contents). x.made) f.frame) ∙ ap (λ (x : Contents). x.made) cleared.others;
        rests = ap (λ (x : Contents). x.rests) others ∙ ap (λ (x : Contents). x.rests) pages.frame ∙ ∥∥₁_elim some (hlevel props) (λ f. ap (λ (x : Contents). x.rests) f.frame) ∙ ap (λ (x : Contents). x.rests) cleared.others;
      }
