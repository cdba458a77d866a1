use Rattle.std.proofs.Common.{◌≡◌, ◌≢◌, ◌⊎◌, ℕ, ◌+◌, ◌*◌, ◌/◌, ◌≤◌, ◌<◌, Bool, false, Option, Some, None, List, [], ◌∷◌, take, length, get_or, zero, suc, refl, sym, ap, subst, ◌∙◌, arith, inl, inr}
use Rattle.std.proofs.lemmas.Bool.{cases_lt, ne_eqb}
use Rattle.std.proofs.lemmas.List.{get_or_default}
use Rattle.std.proofs.lemmas.List.Sums.{sum_by-cons}
use Rattle.std.proofs.lemmas.List.Elements.{All-take}
use Rattle.std.proofs.Math.Logic.{⊎_elim}
use Rattle.std.specs.List.{All, sum_by}
use Rattle.std.specs.Prelude.{◌==◌}
use Rattle.object_layout.specs.declared.names.Name.{Name}
use Rattle.heap_words.specs.declared.map.Areas.{Areas}
use Rattle.heap_words.specs.Contents.{Contents}
use Rattle.yak_model.specs.State.{Thing, State, IsClosed}
use Rattle.yak_model.specs.declared.datum.Datum.TheVariants.{Null}
use Rattle.object_layout.specs.declared.TheConstants.{MAX_SPACE}
use Rattle.heap_words.specs.Map.{page_words}
use Rattle.epoch_lattice.specs.Lattice.{space_index}
use Rattle.epoch_lattice.specs.declared.Space.TheVariants.{Control}
use Rattle.yak_model.specs.Stands.{words_in, words_taken, pages_of}
use Rattle.yak_model.specs.Packed.{PackedAs}
use Rattle.yak_model.specs.Placed.{Places, names_of, words_by, size_by, IsAt, Tiles, HeapStands}
use Rattle.yak_model.proofs.Placed.{in_page}
use Rattle.yak_model.specs.Plans.{Move}
use Rattle.relocation.specs.Moves.{size_at, corrected_word}
use Rattle.relocation.proofs.Corrected.{corrected-datum}
use Rattle.yak_model.specs.Plans.{by_move, forwarded, rehomed, without, after_moves}
use Rattle.yak_model.specs.Placed.{Holds}
use Rattle.relocation.proofs.Lawful.{by_move-at, by_move-other, Ascending}
use Rattle.relocation.specs.Slide.{IsPageOf, pages_before, Sliding}
use Rattle.relocation.specs.Moves.{words_moved}
use Rattle.relocation.specs.Slide.{Drops}
use Rattle.relocation.specs.Slidden.{table_of, names_after}
use Rattle.relocation.proofs.SlidObjects.{object-page}
use Rattle.relocation.proofs.SlidLaid.{LaidTo, laid-none, laid-more, places_of, laid-tiles, words-none, words-more}
use Rattle.relocation.proofs.SlidLawful.{runs_of, slide-present, keep-case}

-- a name for each index, that of a function below a number
abbrev pub pick : (count : ℕ) → ((k : ℕ) → k < count → Name) → ℕ → Name
pick count f k = ⊎_elim (λ (lt : k < count). f k lt) (λ (h : count ≤ k). record { thread = 0; serial = 0 }) (cases_lt k count)

pick-case : (count k : ℕ) (f : (k : ℕ) → k < count → Name) (P : Name → Type 0) → k < count → ((lt : k < count) → P (f k lt)) → (x : (k < count) ⊎ (count ≤ k)) → P (⊎_elim (λ (lt : k < count). f k lt) (λ (h : count ≤ k). record { thread = 0; serial = 0 }) x)
pick-case count k f P lt h (inl a) = h a
pick-case count k f P lt h (inr b) = absurd (omega arith)

pub pick-is : (count k : ℕ) (f : (k : ℕ) → k < count → Name) (P : Name → Type 0) → k < count → ((lt : k < count) → P (f k lt)) → P (pick count f k)
pick-is count k f P lt h = pick-case count k f P lt h (cases_lt k count)

sum-equal : (f g : Name → ℕ) (xs : List Name) → All (λ x. f x ≡ g x) xs → sum_by f xs ≡ sum_by g xs
sum-equal f g [] h = refl
sum-equal f g (x ∷ xs) h =
    let here : f x ≡ g x = h 0 x (omega arith) in
    let rest : sum_by f xs ≡ sum_by g xs = sum-equal f g xs (λ k d lt. h (suc k) d (omega arith)) in
    rw (sum_by-cons f x xs, sum_by-cons g x xs, here, rest) refl

sum-none : (f : Name → ℕ) (xs : List Name) → All (λ x. f x ≡ 0) xs → sum_by f xs ≡ 0
sum-none f [] h = refl
sum-none f (x ∷ xs) h =
    let here : f x ≡ 0 = h 0 x (omega arith) in
    let rest : sum_by f xs ≡ 0 = sum-none f xs (λ k d lt. h (suc k) d (omega arith)) in
    rw (sum_by-cons f x xs, here, rest) (omega arith)

rehomed-words : (count : ℕ) (moves : ℕ → Move) (a : ℕ) (x : Option Thing) → words_by (rehomed count moves a x) ≡ words_by x
rehomed-words count moves a None = refl
rehomed-words count moves a (Some o) = refl

-- what is known of the slide of a heap that stands for a state
pub record Slid (m : Areas) (slid : ℕ) (was : Contents) (s : State) (l : Places) (dropped : Name → Bool) (count : ℕ) (moves : ℕ → Move) (named : ℕ → Name) : Type 0 where
  pub ascending : Ascending count moves
  pub object : (k : ℕ) → k < count → (o : Thing) × ((without s dropped).objects (named k) ≡ Some o) × (l.at (named k) ≡ (moves k).old) × (size_at was.heap (moves k).old ≡ length o.fields + 3)
  pub region : (n : Name) (p k : ℕ) → IsAt l n p k → (IsPageOf slid was.table p → ⊥) → (o : Thing) × ((without s dropped).objects n ≡ Some o) × (s.objects n ≡ Some o) × (space_index o.home + 1 ≡ slid → ⊥) × ((k : ℕ) → k < count → l.at n ≢ (moves k).old)

pub slide-known : (m : Areas) (slid : ℕ) (was : Contents) (s : State) (l : Places) (work : Name → ℕ) (dropped : Name → Bool) (now : Contents) (count : ℕ) (moves : ℕ → Move) (next room a : ℕ) (h : HeapStands m was.table was.heap s.objects l work) (closed : IsClosed s) (small : slid ≤ MAX_SPACE + 1) (drops : Drops slid s work dropped) (slide : Sliding m slid was (runs_of m slid was s l work h closed small) now count moves next room a) → Slid m slid was s l dropped count moves (pick count (λ k lt. (slide-present m slid was s l work dropped now count moves next room a h closed small drops slide k lt).0))
slide-known m slid was s l work dropped now count moves next room a h closed small drops slide =
    let present = slide-present m slid was s l work dropped now count moves next room a h closed small drops slide in
    record {
      ascending = λ j k lt lk. let p = slide.apart j k lt lk in omega (arith, p);
      object = λ k lt. pick-is count k (λ i li. (present i li).0) (λ n. (o : Thing) × ((without s dropped).objects n ≡ Some o) × (l.at n ≡ (moves k).old) × (size_at was.heap (moves k).old ≡ length o.fields + 3)) lt (λ lt'. let q = present k lt' in (q.1, q.2, q.3, q.4));
      region = λ n p k at other.
          let w = h.whole n p k at in
          let far : space_index w.0.home + 1 ≡ slid → ⊥ = λ e. other (w.2 ∙ e) in
          let stays : dropped n ≡ false = drops.elsewhere n w.0 w.1 far in
          let page = in_page (page_words m) (size_by s.objects) l n p k h.tiles at in
          let size : size_by s.objects n ≡ length w.0.fields + 3 = ap words_by w.1 in (
            w.0,
            keep-case s dropped n w.0 (dropped n) refl stays w.1,
            w.1,
            far,
            λ j lj e.
                let x = (slide.marked j lj).0 in
                let q = object-page m slid was (runs_of m slid was s l work h closed small) (moves j).old x in
                let same : x.0 ≡ p = omega (arith, q.0, q.1, page.0, page.1, size, e) in
                other (subst (IsPageOf slid was.table) same x.3),
          );
    }

-- after a slide the objects of each page lie one after another
pub slide-laid : (m : Areas) (slid : ℕ) (was : Contents) (s : State) (l : Places) (work : Name → ℕ) (dropped : Name → Bool) (now : Contents) (count : ℕ) (moves : ℕ → Move) (named : ℕ → Name) (next room a : ℕ) (h : HeapStands m was.table was.heap s.objects l work) (closed : IsClosed s) (small : slid ≤ MAX_SPACE + 1) → Slid m slid was s l dropped count moves named → Sliding m slid was (runs_of m slid was s l work h closed small) now count moves next room a → (c : ℕ) → c ≤ count → LaidTo m slid was.table was.heap (size_by (after_moves count moves l.at (without s dropped)).objects) (forwarded count moves l.at) (names_after m slid was.table (names_of l) c moves named) moves c
slide-laid m slid was s l work dropped now count moves named next room a h closed small known slide zero le =
    let size' : Name → ℕ = size_by (after_moves count moves l.at (without s dropped)).objects in
    let stand : (p k : ℕ) (n : Name) → p < m.pages → k < length (names_of l p) → get_or (names_of l p) k n ≡ n → IsAt l n p k = λ p k n hp lt e. record { page = rw h.count hp; place = lt; name = e } in
    let same : (p : ℕ) → p < m.pages → (IsPageOf slid was.table p → ⊥) → All (λ x. size' x ≡ size_by s.objects x) (names_of l p) = λ p hp other k d lt.
    (let n : Name = get_or (names_of l p) k d in
    let r = known.region n p k (stand p k n hp lt (get_or_default (names_of l p) k n d lt)) other in
    rehomed-words count moves (l.at n) ((without s dropped).objects n) ∙ ap words_by (r.1 ∙ sym r.2))
    in
    laid-none m slid was.table was.heap size' (forwarded count moves l.at) (names_of l) moves named
    (λ p k n hp other lt e.
    let at = stand p k n hp lt e in
    let r = known.region n p k at other in
    let stays : forwarded count moves l.at n ≡ l.at n = by_move-other count moves (λ v. v.new) (l.at n) (l.at n) r.4 in
    let sums : sum_by size' (take k (names_of l p)) ≡ sum_by (size_by s.objects) (take k (names_of l p)) = sum-equal size' (size_by s.objects) (take k (names_of l p)) (All-take (λ x. size' x ≡ size_by s.objects x) k (names_of l p) (same p hp other)) in
    let own : size' n ≡ length r.0.fields + 3 = rehomed-words count moves (l.at n) ((without s dropped).objects n) ∙ ap words_by r.1 in
    (stays ∙ h.tiles.places n p k at ∙ ap (λ i. page_words m * p + i) (sym sums), (let three : 3 ≤ size' n = omega (arith, own) in three)))
    (λ p hp other. rw (sum-equal size' (size_by s.objects) (names_of l p) (same p hp other)) (h.tiles.fits p (rw h.count hp)))
slide-laid m slid was s l work dropped now count moves named next room a h closed small known slide (suc c) le =
    let size' : Name → ℕ = size_by (after_moves count moves l.at (without s dropped)).objects in
    let lt : c < count = omega arith in
    let x = known.object c lt in
    let page = (slide.control c lt).1 in
    let q : (moves c).new / page_words m ≡ page.0 = omega (arith, page.3, page.4) in
    let own : size' (named c) ≡ length x.0.fields + 3 = rehomed-words count moves (l.at (named c)) ((without s dropped).objects (named c)) ∙ ap words_by x.1 in
    let place : forwarded count moves l.at (named c) ≡ (moves c).new = by_move-at count moves (λ v. v.new) (l.at (named c)) (l.at (named c)) c known.ascending lt x.2 in
    laid-more m slid was.table was.heap size' (forwarded count moves l.at) (names_of l) moves named c page.0 (slide-laid m slid was s l work dropped now count moves named next room a h closed small known slide c (omega arith)) q page.1 page.2 place (rw q at (slide.tight c lt)) (own ∙ sym x.3) page.4

-- the words of Control after a slide are those of its moves
pub slide-words : (m : Areas) (slid : ℕ) (was : Contents) (s : State) (l : Places) (work : Name → ℕ) (dropped : Name → Bool) (now : Contents) (count : ℕ) (moves : ℕ → Move) (named : ℕ → Name) (next room a : ℕ) (h : HeapStands m was.table was.heap s.objects l work) (closed : IsClosed s) (small : slid ≤ MAX_SPACE + 1) → slid ≡ 1 → Slid m slid was s l dropped count moves named → Sliding m slid was (runs_of m slid was s l work h closed small) now count moves next room a → (c : ℕ) → c ≤ count → words_taken (table_of (names_after m slid was.table (names_of l) c moves named) m.pages) (after_moves count moves l.at (without s dropped)).objects Control ≡ words_moved was.heap c moves
slide-words m slid was s l work dropped now count moves named next room a h closed small control known slide zero le =
    words-none m slid was.table was.heap (λ n. words_in Control ((after_moves count moves l.at (without s dropped)).objects n)) (names_of l) moves named (λ p hp other. sum-none (λ n. words_in Control ((after_moves count moves l.at (without s dropped)).objects n)) (names_of l p) (λ k d lt.
    let n : Name = get_or (names_of l p) k d in
    let r = known.region n p k (record { page = rw h.count hp; place = lt; name = get_or_default (names_of l p) k n d lt }) other in
    let home : by_move count moves (λ v. v.space) (l.at n) r.0.home ≡ r.0.home = by_move-other count moves (λ v. v.space) (l.at n) r.0.home r.4 in
    let test : (space_index r.0.home == 0) ≡ false = ne_eqb (space_index r.0.home) 0 (λ z. r.3 (omega (arith, z, control))) in
    rw (r.1, home, test) refl))
slide-words m slid was s l work dropped now count moves named next room a h closed small control known slide (suc c) le =
    let lt : c < count = omega arith in
    let x = known.object c lt in
    let page = (slide.control c lt).1 in
    let q : (moves c).new / page_words m ≡ page.0 = omega (arith, page.3, page.4) in
    let home : by_move count moves (λ v. v.space) (l.at (named c)) x.0.home ≡ (moves c).space = by_move-at count moves (λ v. v.space) (l.at (named c)) x.0.home c known.ascending lt x.2 in
    let words : words_in Control ((after_moves count moves l.at (without s dropped)).objects (named c)) ≡ size_at was.heap (moves c).old = rw (x.1, home, (slide.control c lt).0) (sym x.3) in
    words-more m slid was.table was.heap (λ n. words_in Control ((after_moves count moves l.at (without s dropped)).objects n)) (names_of l) moves named c page.0 q page.1 words (slide-words m slid was s l work dropped now count moves named next room a h closed small control known slide c (omega arith))

-- after a slide the objects tile their pages, and Control is packed
pub slide-tiles : (m : Areas) (slid : ℕ) (was : Contents) (s : State) (l : Places) (work : Name → ℕ) (dropped : Name → Bool) (now : Contents) (count : ℕ) (moves : ℕ → Move) (named : ℕ → Name) (next room a : ℕ) (h : HeapStands m was.table was.heap s.objects l work) (closed : IsClosed s) (small : slid ≤ MAX_SPACE + 1) → Slid m slid was s l dropped count moves named → Sliding m slid was (runs_of m slid was s l work h closed small) now count moves next room a → Tiles (page_words m) (size_by (after_moves count moves l.at (without s dropped)).objects) (places_of m (names_after m slid was.table (names_of l) count moves named) (forwarded count moves l.at))
slide-tiles m slid was s l work dropped now count moves named next room a h closed small known slide = laid-tiles m slid was.table was.heap _ _ _ moves count (slide-laid m slid was s l work dropped now count moves named next room a h closed small known slide count (omega arith))

pub slide-packed : (m : Areas) (slid : ℕ) (was : Contents) (s : State) (l : Places) (work : Name → ℕ) (dropped : Name → Bool) (now : Contents) (count : ℕ) (moves : ℕ → Move) (named : ℕ → Name) (next room a : ℕ) (h : HeapStands m was.table was.heap s.objects l work) (closed : IsClosed s) (small : slid ≤ MAX_SPACE + 1) (table : List (List ℕ)) → slid ≡ 1 → Slid m slid was s l dropped count moves named → Sliding m slid was (runs_of m slid was s l work h closed small) now count moves next room a → pages_of table Control ≡ pages_before slid was.table next → PackedAs m table (table_of (names_after m slid was.table (names_of l) count moves named) m.pages) (after_moves count moves l.at (without s dropped)).objects Control
slide-packed m slid was s l work dropped now count moves named next room a h closed small table control known slide pages =
    let words = slide-words m slid was s l work dropped now count moves named next room a h closed small control known slide count (omega arith) in
    let dense = slide.dense in
    let small = slide.filled.1 in
    rw (pages, words) (omega (arith, dense, small))

-- once the fields of all objects are corrected, references lead where the plan brings the objects
pub holds-corrected : (m : Areas) (was now : List ℕ) (f : ℕ → ℕ) (at work : Name → ℕ) (objects : Name → Option Thing) → Holds m was at at work objects → ((n : Name) (o : Thing) → objects n ≡ Some o → (i : ℕ) → i < 3 → get_or now (at n + i) 0 ≡ get_or was (at n + i) 0) → ((n : Name) (o : Thing) → objects n ≡ Some o → (i : ℕ) → i < length o.fields → get_or now (at n + 3 + i) 0 ≡ corrected_word f (get_or was (at n + 3 + i) 0)) → Holds m now at (λ n. f (at n)) work objects
holds-corrected m was now f at work objects h heads fields = record {
  within = h.within;
  limits = h.limits;
  stands = λ n o e.
      let s = h.stands n o e in
      let start : at n + 0 ≡ at n = omega arith in
      record {
        header = (rw start at (heads n o e 0 (omega arith))) ∙ s.header;
        name = heads n o e 1 (omega arith) ∙ s.name;
        work_word = heads n o e 2 (omega arith) ∙ s.work_word;
        fields = λ i lt. fields n o e i lt ∙ ap (corrected_word f) (s.fields i lt) ∙ corrected-datum f at (get_or o.fields i Null);
      };
}

-- the words of a page that is not of Control stay
pub region-sum : (m : Areas) (slid : ℕ) (was : Contents) (s : State) (l : Places) (work : Name → ℕ) (dropped : Name → Bool) (count : ℕ) (moves : ℕ → Move) (named : ℕ → Name) → HeapStands m was.table was.heap s.objects l work → Slid m slid was s l dropped count moves named → (p : ℕ) → p < m.pages → (IsPageOf slid was.table p → ⊥) → sum_by (size_by (after_moves count moves l.at (without s dropped)).objects) (names_of l p) ≡ sum_by (size_by s.objects) (names_of l p)
region-sum m slid was s l work dropped count moves named h known p hp other =
    sum-equal (size_by (after_moves count moves l.at (without s dropped)).objects) (size_by s.objects) (names_of l p) (λ k d lt.
    let n : Name = get_or (names_of l p) k d in
    let r = known.region n p k (record { page = rw h.count hp; place = lt; name = get_or_default (names_of l p) k n d lt }) other in
    rehomed-words count moves (l.at n) ((without s dropped).objects n) ∙ ap words_by (r.1 ∙ sym r.2))
