-- What lawful histories bound: the words of a full heap, the numbers of a census, and what falls short at an end.
use Rattle.std.proofs.Common.{◌≡◌, ◌≢◌, ℕ, ◌+◌, ◌*◌, ◌≤◌, ◌<◌, List, length, refl, ap, arith}
use Rattle.std.proofs.Math.Logic.{⊎_elim}
use Rattle.std.proofs.Math.Nat.{max-le}
use Rattle.std.specs.List.{sum_by}
use Rattle.std.proofs.lemmas.Bool.{cases_eq}
use Rattle.std.proofs.lemmas.List.Sums.{sum_by-cons}
use Rattle.object_layout.specs.declared.replies.Shortage.{Shortage}
use Rattle.heap_words.specs.declared.map.Areas.{Areas}
use Rattle.heap_words.specs.Map.{HasThread, IsAreas, page_words}
use Rattle.heap_words.specs.Contents.{Contents, stack_of}
use Rattle.epoch_lattice.specs.declared.Space.{Space}
use Rattle.epoch_lattice.specs.declared.Space.TheVariants.{Control, Region}
use Rattle.yak_model.specs.Graph.{Limits, standard_limits, thread_of}
use Rattle.yak_model.specs.declared.history.Entry.{Entry}
use Rattle.yak_model.specs.Lawful.{HasWords, IsCensus, open_regions, present_words}
use Rattle.yak_model.specs.Spaces.{Escapes, SpaceState, innermost}
use Rattle.yak_model.specs.State.{object_of, view}
use Rattle.yak_model.specs.Stands.{Stands, free_pages, pages_of, words_taken}
use Rattle.yak_model.specs.Packed.{IsFull, IsPacked, IsSpaceOf}
use Rattle.region_pages.specs.Counts.{regions_in}
use Rattle.region_pages.proofs.Counting.{free_is, parts}
use Rattle.region_pages.proofs.Ends.{end_le}
use Rattle.escape_closure.specs.Ends.{FallsShort}
use Rattle.escape_closure.specs.Leaving.{records_of}
use Rattle.heap_core.specs.Done.{RegionsPacked}
use Rattle.heap_core.specs.EpochEnds.{end_reads}
use Rattle.yak_model.specs.Continued.{PackedIfAsked}
use Rattle.heap_core.proofs.RoomsOpen.{open_spaces, regions_of}
use Rattle.heap_core.proofs.RoomsNames.{present-paged}
use Rattle.heap_core.proofs.RoomsPages.{control-fits, control-words, packed-together, pages-counted, region-fits, region-own, regions-counted, regions-within, spaces-once, words-once}
use Rattle.heap_core.proofs.RoomsEscaped.{escaped_words, has-words, needed-most}

-- regions are packed in all words that stand for a state
pub regions-packed : (m : Areas) (c : Contents) (s : SpaceState) (h : Stands m c s) (x : Space) → IsSpaceOf m x → x ≢ Control → IsPacked m c s h x
regions-packed m c s h Control own ne = absurd (ne refl)
regions-packed m c s h (Region t d) own ne =
    let pages : ℕ = pages_of c.table (Region t d) in
    ⊎_elim
    (λ (none : pages ≡ 0). omega (arith, none))
    (λ (some : pages ≢ 0). let dense = h.stands.dense t d own.0 own.1 own.2 own.3 (omega (arith, some)) in omega (arith, some, dense.1))
    (cases_eq pages 0)

pub every-region : (m : Areas) (c : Contents) → RegionsPacked m c
every-region m c s h t d region = regions-packed m c s h (Region t d) region (λ e. cc)

-- the words of a page by the limits
page_limit : (m : Areas) (s : SpaceState) → s.graph.limits ≡ standard_limits → s.graph.limits.page ≡ page_words m
page_limit m s e = ap (λ (l : Limits). l.page) e

module _ (m : Areas) (c : Contents) (s : SpaceState) (h : Stands m c s) where
  -- the pages of the open regions
  regions-together : page_words m * sum_by (pages_of c.table) (regions_of 0 (view s).depths) ≤ 2 * sum_by (words_taken h.places.pages (object_of s)) (regions_of 0 (view s).depths) + page_words m * open_regions s
  regions-together =
      let all = packed-together m c s h (regions_of 0 (view s).depths) (λ x b. let own = region-own m c s h x b in regions-packed m c s h x own.0 own.1) in
      omega (arith, all, regions-counted m c s h)

  -- the pages of all open spaces, where Control is packed
  pub spaces-together : IsPacked m c s h Control → page_words m * sum_by (pages_of c.table) (open_spaces (view s).depths) ≤ 2 * present_words s + page_words m * (open_regions s + 1)
  spaces-together packed =
      let xs : List Space = regions_of 0 (view s).depths in
      let control : page_words m * pages_of c.table Control ≤ 2 * words_taken h.places.pages (object_of s) Control + page_words m = packed in
      let once = words-once (object_of s) h.places.pages (open_spaces (view s).depths) (spaces-once m c s h) in
      omega (arith, control, once, regions-together, sum_by-cons (pages_of c.table) Control xs, sum_by-cons (words_taken h.places.pages (object_of s)) Control xs, present-paged m c s h)

-- a heap that is full holds at least so many words
pub full-bound : (m : Areas) (c : Contents) (s : SpaceState) (h : Stands m c s) (t k : ℕ) → IsAreas m → IsFull m c s h t k → s.graph.limits.page * m.pages ≤ 2 * present_words s + s.graph.limits.page * (open_regions s + 1)
full-bound m c s h t k areas full =
    let none : length (free_pages c.heads c.pool) ≡ 0 = ap length full.none_free in
    let counted = pages-counted m c s h in
    let together = spaces-together m c s h (full.packed Control tt) in
    rw (page_limit m s h.whole.limits) (omega (arith, none, counted, together))

-- the numbers of a census, where the table has an entry for each page
pub census-bound : (m : Areas) (c : Contents) (s : SpaceState) (h : Stands m c s) (before : List Entry) → IsAreas m → length c.table ≡ m.pages → PackedIfAsked m c s h before → IsCensus m.pages before s (length (free_pages c.heads c.pool)) (regions_in c.table) (pages_of c.table Control)
census-bound m c s h before areas long packed =
    let page = page_limit m s h.whole.limits in
    let all : (length (free_pages c.heads c.pool) + regions_in c.table) + pages_of c.table Control ≡ m.pages = omega (arith, free_is m c.heads c.pool c.table long h.stands.pool, parts c.table, long) in
    let regions : List Space = regions_of 0 (view s).depths in
    record {
      all = all;
      control_fits = rw page (control-fits m c s h long);
      region_fits = rw page (region-fits m c s h long);
      region_packed = rw page (omega (arith, all, pages-counted m c s h, sum_by-cons (pages_of c.table) Control regions, regions-together m c s h, regions-within m c s h));
      control_packed = λ asked.
          let control : page_words m * pages_of c.table Control ≤ 2 * words_taken h.places.pages (object_of s) Control + page_words m = packed asked in
          rw page (omega (arith, control, control-words m c s h));
    }

-- what falls short at an end, where Control is packed
pub tight-bound : (m : Areas) (c : Contents) (s : SpaceState) (h : Stands m c s) (t : ℕ) (shortage : Shortage) → IsAreas m → HasThread m t → 0 < (thread_of s.graph t).depth → IsPacked m c s h Control → FallsShort m c s h.places t shortage
    → (escaped : ℕ) × HasWords s (Escapes s t (innermost s.graph t)) escaped × (s.graph.limits.page * m.pages < (2 * present_words s + 2 * escaped) + 2 * s.graph.limits.page * (open_regions s + 1))
tight-bound m c s h t shortage areas has some packed short =
    let escaped : ℕ = escaped_words m c s h t short.count areas has some short.order in
    let needed = needed-most m c s h t short.count areas has some short.order in
    let counted = pages-counted m c s h in
    let together = spaces-together m c s h packed in
    let many = regions-counted m c s h in
    (escaped, has-words m c s h t short.count areas has some short.order, rw (page_limit m s h.whole.limits) (omega (arith, needed, counted, together, many, short.needed, short.free, short.more)))

-- an end reads no more than if it looked at all pages
pub reads-by_pages : (m : Areas) (c d : Contents) (s : SpaceState) (h : Stands m c s) (t : ℕ) → end_reads m c d s h t ≤ 100 * (words_taken h.places.pages (object_of s) (innermost s.graph t) + records_of m c (innermost s.graph t) + length (stack_of c t) + 72) + 4 * m.pages
reads-by_pages m c d s h t = omega (arith, max-le (end_le c.table m.pages) (end_le d.table m.pages))
