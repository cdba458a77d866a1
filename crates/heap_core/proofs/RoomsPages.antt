-- The pages of all spaces, and the words in them.
use Rattle.std.proofs.Common.{◌≡◌, ◌≢◌, ◌⊎◌, ◌==◌, ℕ, ◌+◌, ◌*◌, ◌≤◌, ◌<◌, Bool, true, false, cond, nat_eq, nat_lt, Option, Some, None, List, [], ◌∷◌, length, slice_index, refl, sym, subst, ◌∙◌, arith, inl, inr}
use Rattle.std.proofs.Math.Logic.{⊎_elim}
use Rattle.std.specs.List.{All, Contains, count_by, range_with_len, sum_by}
use Rattle.std.specs.Set.{is_member}
use Rattle.std.proofs.lemmas.Bool.Decides.{nat_tests, Decides-eqb, same_from_decides}
use Rattle.std.proofs.lemmas.Cmp.{nat_eq_equiv}
use Rattle.std.proofs.lemmas.List.FromFn.{length-range_with_len}
use Rattle.std.proofs.lemmas.List.Sums.{sum_by-cons, length-filter}
use Rattle.std.proofs.lemmas.Map.Made.{length-from_same_keys, is_member-Decides, IsDistinct-from_AllPairs}
use Rattle.object_layout.specs.declared.names.Name.{Name}
use Rattle.heap_words.specs.declared.map.Areas.{Areas}
use Rattle.heap_words.specs.Map.{page_words}
use Rattle.heap_words.specs.Contents.{Contents}
use Rattle.epoch_lattice.specs.declared.Space.{Space}
use Rattle.epoch_lattice.specs.declared.Space.TheVariants.{Control, Region}
use Rattle.epoch_lattice.specs.declared.TheConstants.{MAX_DEPTH}
use Rattle.epoch_lattice.specs.Lattice.{space_index}
use Rattle.yak_model.specs.Graph.{Thread}
use Rattle.yak_model.specs.Spaces.{SpaceState}
use Rattle.yak_model.specs.State.{IsOpen, Thing, object_of, view}
use Rattle.yak_model.specs.Placed.{IsAt, names_of, size_by, space_word, words_by}
use Rattle.yak_model.specs.Stands.{Stands, free_pages, pages_of, words_in, words_taken}
use Rattle.yak_model.specs.Packed.{IsPacked, IsSpaceOf}
use Rattle.yak_model.specs.Lawful.{control_words, is_control, open_regions, region_words}
use Rattle.region_pages.specs.Counts.{regions_in}
use Rattle.region_pages.specs.Freeing.{free_below}
use Rattle.region_pages.proofs.Counting.{below_contains, below_once}
use Rattle.heap_walks.proofs.Seen.{seen}
use Rattle.heap_core.proofs.RoomsSums.{below-number, contains_first, sum-added, sum-less, sum-mapped, sum-none, sum-ones, sum-rows, sum-swapped, sums-less}
use Rattle.heap_core.proofs.RoomsOpen.{hit, hit-own, hits, hits-cons, open-listed, open-once, open_spaces, regions-many, regions-own, regions_of}
use Rattle.heap_core.proofs.RoomsNames.{control-in, control-paged, control_size, present-paged, region-paged, region_size, words-parted}
use Rattle.yak_model.proofs.Lists.{contains_cons}

-- ---- the words of spaces that a list has once
words_none : (i v : ℕ) (xs : List Space) → hits xs i ≡ 0 → sum_by (λ (x : Space). cond (i == space_index x) v 0) xs ≡ 0
words_none i v [] none = refl
words_none i v (x ∷ xs) none =
    let all = hits-cons x xs i in
    let rest = words_none i v xs (omega (arith, none, all)) in
    let here : cond (i == space_index x) v 0 ≡ 0 = apart (space_index x) i v (omega (arith, none, all)) in
    omega (arith, sum_by-cons (λ (y : Space). cond (i == space_index y) v 0) x xs, rest, here)
  where
    apart : (a b n : ℕ) → hit a b ≡ 0 → cond (b == a) n 0 ≡ 0
    apart a b n e = grind (arith, nat_tests)

words_most : (i v : ℕ) (xs : List Space) → hits xs i ≤ 1 → sum_by (λ (x : Space). cond (i == space_index x) v 0) xs ≤ v
words_most i v [] once = omega arith
words_most i v (x ∷ xs) once =
    let all = hits-cons x xs i in
    let whole = sum_by-cons (λ (y : Space). cond (i == space_index y) v 0) x xs in
    ⊎_elim
    (λ (own : (hit (space_index x) i ≡ 1) × (cond (i == space_index x) v 0 ≡ v)). omega (arith, whole, own.1, words_none i v xs (omega (arith, once, all, own.0))))
    (λ (other : cond (i == space_index x) v 0 ≡ 0). omega (arith, whole, other, words_most i v xs (omega (arith, once, all))))
    (either (space_index x) i v (space_index x == i) refl)
  where
    either : (a b n : ℕ) (t : Bool) → (a == b) ≡ t → ((hit a b ≡ 1) × (cond (b == a) n 0 ≡ n)) ⊎ (cond (b == a) n 0 ≡ 0)
    either a b n true e = inl (grind (arith, nat_tests), grind (arith, nat_tests))
    either a b n false e = inr (grind (arith, nat_tests))

object_most : (o : Option Thing) (xs : List Space) → ((i : ℕ) → hits xs i ≤ 1) → sum_by (λ (x : Space). words_in x o) xs ≤ words_by o
object_most None xs once = omega (arith, sum-none xs)
object_most (Some o) xs once = words_most (space_index o.home) (words_by (Some o)) xs (once (space_index o.home))

pub words-once : (objects : Name → Option Thing) (pages : List (List Name)) (xs : List Space) → ((i : ℕ) → hits xs i ≤ 1) → sum_by (words_taken pages objects) xs ≤ sum_by (λ (ns : List Name). sum_by (size_by objects) ns) pages
words-once objects pages xs once =
    let by_page : sum_by (words_taken pages objects) xs ≡ sum_by (λ (ns : List Name). sum_by (λ (x : Space). sum_by (λ (n : Name). words_in x (objects n)) ns) xs) pages =
    sum-swapped (λ (x : Space) (ns : List Name). sum_by (λ (n : Name). words_in x (objects n)) ns) xs pages in
    let less : sum_by (λ (ns : List Name). sum_by (λ (x : Space). sum_by (λ (n : Name). words_in x (objects n)) ns) xs) pages ≤ sum_by (λ (ns : List Name). sum_by (size_by objects) ns) pages =
    sum-less _ _ pages (λ ns b.
    let by_name : sum_by (λ (x : Space). sum_by (λ (n : Name). words_in x (objects n)) ns) xs ≡ sum_by (λ (n : Name). sum_by (λ (x : Space). words_in x (objects n)) xs) ns =
    sum-swapped (λ (x : Space) (n : Name). words_in x (objects n)) xs ns in
    let each : sum_by (λ (n : Name). sum_by (λ (x : Space). words_in x (objects n)) xs) ns ≤ sum_by (size_by objects) ns =
    sum-less _ _ ns (λ n a. object_most (objects n) xs once) in
    omega (arith, by_name, each)) in
    omega (arith, by_page, less)

-- ---- pages that are not free are those of open spaces
entered : (xs : List Space) (w j : ℕ) → w ≡ j + 1 → sum_by (λ (x : Space). cond (w == space_index x + 1) 1 0) xs ≡ hits xs j
entered xs w j e = λ i. sum_by (λ (x : Space). shifted w j (space_index x) e i) xs
  where
    shifted : (w j k : ℕ) → w ≡ j + 1 → cond (w == k + 1) 1 0 ≡ hit k j
    shifted w j k e = grind (arith, nat_tests)

no_page : (k : ℕ) → hit 0 (k + 1) ≡ 0
no_page k = grind (arith, nat_tests)

module _ (m : Areas) (c : Contents) (s : SpaceState) (h : Stands m c s) where
  abbrev depths : List ℕ
  depths = (view s).depths

  pub depths-fit : All (λ d. d ≤ MAX_DEPTH) depths
  depths-fit = subst (All (λ d. d ≤ MAX_DEPTH)) h.stands.depths h.stands.limits.depths

  pub spaces-once : (i : ℕ) → hits (open_spaces depths) i ≤ 1
  spaces-once i = open-once depths i depths-fit

  page_taken : (p : ℕ) → p < m.pages → 1 ≤ cond (space_word c.table p == 0) 1 0 + sum_by (λ (x : Space). cond (space_word c.table p == space_index x + 1) 1 0) (open_spaces depths)
  page_taken p lt = ⊎_elim
      (λ (free : space_word c.table p ≡ 0). omega (arith, hit-own (space_word c.table p) 0 free))
      (λ (o : (x : Space) × (space_word c.table p ≡ space_index x + 1) × IsOpen depths x). omega (arith, entered (open_spaces depths) (space_word c.table p) (space_index o.0) o.1, open-listed depths o.0 o.2))
      (h.stands.open_spaces p lt)

  pub free-below : length (free_pages c.heads c.pool) ≡ length (free_below c.table m.pages)
  free-below =
      let xs : List ℕ = free_pages c.heads c.pool in
      let ys : List ℕ = free_below c.table m.pages in
      let stands = h.stands.pool in
      let same : (q : ℕ) → is_member nat_eq xs q ≡ is_member nat_eq ys q = λ q.
      let dx = is_member-Decides Decides-eqb xs q in
      let dy = is_member-Decides Decides-eqb ys q in
      same_from_decides {P = Contains xs q} (is_member nat_eq xs q) (is_member nat_eq ys q) dx (λ e. (stands.free q).1 ((below_contains c.table m.pages q).0 (dy.0 e)), λ b. dy.1 ((below_contains c.table m.pages q).1 ((stands.free q).0 b))) in
      length-from_same_keys nat_eq_equiv xs ys (IsDistinct-from_AllPairs Decides-eqb xs stands.once) (IsDistinct-from_AllPairs Decides-eqb ys (below_once c.table m.pages)) same

  pub pages-counted : m.pages ≤ length (free_pages c.heads c.pool) + sum_by (pages_of c.table) (open_spaces depths)
  pages-counted =
      let all : List ℕ = range_with_len 0 m.pages in
      let xs : List Space = open_spaces depths in
      let free : ℕ → ℕ = λ p. cond (space_word c.table p == 0) 1 0 in
      let of : ℕ → Space → ℕ = λ p x. cond (space_word c.table p == space_index x + 1) 1 0 in
      let ones : sum_by (λ (p : ℕ). 1) all ≡ m.pages = sum-ones all ∙ length-range_with_len 0 m.pages in
      let least : sum_by (λ (p : ℕ). 1) all ≤ sum_by (λ (p : ℕ). free p + sum_by (of p) xs) all = sum-less (λ (p : ℕ). 1) (λ (p : ℕ). free p + sum_by (of p) xs) all (λ p b. page_taken p (below-number m.pages p b)) in
      let added : sum_by (λ (p : ℕ). free p + sum_by (of p) xs) all ≡ sum_by free all + sum_by (λ (p : ℕ). sum_by (of p) xs) all = sum-added free (λ (p : ℕ). sum_by (of p) xs) all in
      let swapped : sum_by (λ (p : ℕ). sum_by (of p) xs) all ≡ sum_by (λ (x : Space). sum_by (λ (p : ℕ). of p x) all) xs = sum-swapped of all xs in
      let rows : sum_by (λ (x : Space). sum_by (λ (p : ℕ). of p x) all) xs ≤ sum_by (pages_of c.table) xs =
      sum-less (λ (x : Space). sum_by (λ (p : ℕ). of p x) all) (pages_of c.table) xs (λ x b. sum-rows (λ (r : List ℕ). cond (slice_index r 0 == space_index x + 1) 1 0) c.table m.pages (no_page (space_index x))) in
      let frees : sum_by free all ≡ length (free_pages c.heads c.pool) = sym (length-filter (λ (p : ℕ). space_word c.table p == 0) all) ∙ sym free-below in
      omega (arith, ones, least, added, swapped, rows, frees)

  -- packed spaces together
  pub packed-together : (xs : List Space) → ((x : Space) → Contains xs x → IsPacked m c s h x) → page_words m * sum_by (pages_of c.table) xs ≤ 2 * sum_by (words_taken h.places.pages (object_of s)) xs + page_words m * length xs
  packed-together [] each = omega arith
  packed-together (x ∷ xs) each =
      let here : page_words m * pages_of c.table x ≤ 2 * words_taken h.places.pages (object_of s) x + page_words m = each x (contains_first x xs) in
      let rest = packed-together xs (λ y b. each y (contains_cons x xs y b)) in
      omega (arith, sum_by-cons (pages_of c.table) x xs, sum_by-cons (words_taken h.places.pages (object_of s)) x xs, here, rest)

  -- how many regions are open
  pub regions-counted : length (regions_of 0 depths) ≡ open_regions s
  regions-counted = regions-many 0 depths ∙ sum-mapped (λ (d : ℕ). d) (λ (t : Thread). t.depth) s.graph.threads

  pub region-own : (x : Space) → Contains (regions_of 0 depths) x → IsSpaceOf m x × (x ≢ Control)
  region-own x b = regions-own m 0 depths x (omega (arith, h.stands.threads)) depths-fit b

  -- the words of Control and those of all open regions
  pub control-words : control_words s ≡ words_taken h.places.pages (object_of s) Control
  control-words = control-paged m c s h ∙ (λ i. sum_by (λ (ns : List Name). sum_by (λ (n : Name). control-in s n i) ns) h.places.pages)

  pub regions-within : sum_by (words_taken h.places.pages (object_of s)) (regions_of 0 depths) ≤ region_words s
  regions-within =
      let once = words-once (object_of s) h.places.pages (open_spaces depths) spaces-once in
      let front = sum_by-cons (words_taken h.places.pages (object_of s)) Control (regions_of 0 depths) in
      omega (arith, once, front, present-paged m c s h, words-parted s, control-words)

-- ---- the words of a page
control_page : (x : Space) (w k : ℕ) → w ≡ space_index x + 1 → cond (is_control (Some x)) k 0 ≤ cond (w == space_index Control + 1) k 0
control_page Control w k e = grind (arith, nat_tests)
control_page (Region t d) w k e = omega arith

region_page : (x : Space) (w k : ℕ) → w ≡ space_index x + 1 → cond (is_control (Some x)) 0 k ≤ cond (nat_lt 1 w) k 0
region_page Control w k e = omega arith
region_page (Region t d) w k e = grind (arith, nat_tests)

bounded : {X : Type 0} (b : Bool) (f : X → ℕ) (ns : List X) (w : ℕ) → sum_by f ns ≤ w → sum_by (λ (n : X). cond b (f n) 0) ns ≤ w * cond b 1 0
bounded true f ns w le = omega (arith, le)
bounded false f ns w le = omega (arith, sum-none ns)

scaled : (m : Areas) (f : List ℕ → ℕ) (table : List (List ℕ)) → sum_by (λ (r : List ℕ). page_words m * f r) table ≡ page_words m * sum_by f table
scaled m f [] = refl
scaled m f (r ∷ rs) = omega (arith, sum_by-cons (λ (q : List ℕ). page_words m * f q) r rs, sum_by-cons f r rs, scaled m f rs)

module _ (m : Areas) (c : Contents) (s : SpaceState) (h : Stands m c s) (long : length c.table ≡ m.pages) where
  -- words of objects that lie only in pages by a test
  words_fit : (test : ℕ → Bool) (f : Name → ℕ) → ((n : Name) (p k : ℕ) → IsAt h.places n p k → f n ≤ cond (test (space_word c.table p)) (size_by (object_of s) n) 0)
      → sum_by (λ (ns : List Name). sum_by f ns) h.places.pages ≤ page_words m * count_by (λ (r : List ℕ). test (slice_index r 0)) c.table
  words_fit test f less =
      let size : Name → ℕ = size_by (object_of s) in
      let pages : List (List Name) = h.places.pages in
      let count = h.stands.heap.count in
      let places : sum_by (λ (ns : List Name). sum_by f ns) pages ≤ sum_by (λ (r : List ℕ). page_words m * cond (test (slice_index r 0)) 1 0) c.table =
      sums-less (λ (ns : List Name). sum_by f ns) (λ (r : List ℕ). page_words m * cond (test (slice_index r 0)) 1 0) [] [] pages c.table (count ∙ sym long) (λ p lt.
      let b : Bool = test (space_word c.table p) in
      let ns : List Name = names_of h.places p in
      let each : sum_by f ns ≤ sum_by (λ (n : Name). cond b (size n) 0) ns = sum-less f (λ (n : Name). cond b (size n) 0) ns (λ n a. less n p a.0 (record { page = lt; place = a.1; name = a.2 })) in
      let most = bounded b size ns (page_words m) (h.stands.heap.tiles.fits p lt) in
      omega (arith, each, most)) in
      omega (arith, places, scaled m (λ (r : List ℕ). cond (test (slice_index r 0)) 1 0) c.table)

  pub control-fits : control_words s ≤ page_words m * pages_of c.table Control
  control-fits =
      let fits = words_fit (λ w. w == space_index Control + 1) (control_size m c s h) (λ n p k at.
      let w = h.stands.heap.whole n p k at in
      let home = (seen s n w.0 w.1).home_is in
      subst (λ x. cond (is_control x) (size_by (object_of s) n) 0 ≤ cond (space_word c.table p == space_index Control + 1) (size_by (object_of s) n) 0) (sym home) (control_page w.0.home (space_word c.table p) (size_by (object_of s) n) w.2)) in
      omega (arith, fits, control-paged m c s h)

  pub region-fits : region_words s ≤ page_words m * regions_in c.table
  region-fits =
      let fits = words_fit (nat_lt 1) (region_size m c s h) (λ n p k at.
      let w = h.stands.heap.whole n p k at in
      let home = (seen s n w.0 w.1).home_is in
      subst (λ x. cond (is_control x) 0 (size_by (object_of s) n) ≤ cond (nat_lt 1 (space_word c.table p)) (size_by (object_of s) n) 0) (sym home) (region_page w.0.home (space_word c.table p) (size_by (object_of s) n) w.2)) in
      omega (arith, fits, region-paged m c s h)
