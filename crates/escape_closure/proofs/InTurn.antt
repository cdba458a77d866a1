-- Objects that are placed one after another.
use Rattle.std.proofs.Common.{◌≡◌, ℕ, ◌+◌, ◌≤◌, ◌<◌, cond, nat_le, List, set, length, refl, sym, ap, subst, ◌∙◌, arith, inl, inr}
use Rattle.std.proofs.lemmas.Bool.{cases_eq}
use Rattle.std.proofs.lemmas.Bool.Decides.{nat_tests}
use Rattle.object_layout.specs.declared.names.Name.{Name}
use Rattle.heap_words.specs.declared.map.Areas.{Areas}
use Rattle.heap_words.specs.Contents.{Contents, with_current}
use Rattle.epoch_lattice.specs.declared.Space.{Space}
use Rattle.epoch_lattice.specs.declared.Space.TheVariants.{Control, Region}
use Rattle.epoch_lattice.specs.Lattice.{space_index}
use Rattle.yak_model.specs.Spaces.{SpaceState, innermost}
use Rattle.yak_model.specs.Placed.{Places}
use Rattle.yak_model.specs.Stands.{free_pages}
use Rattle.region_pages.specs.Freeing.{freed_table, free_below, pool_with, with_released}
use Rattle.region_pages.specs.Placement.{IsPlaced}
use Rattle.region_pages.specs.declared.TheConstants.{CLAIM_COUNTER, POOL_LENGTH}
use Rattle.escape_closure.specs.InTurn.{PlacedInTurn, FindsNoPlace, StandInTurn}
use Rattle.escape_closure.specs.Needs.{InOrder}
use Rattle.escape_closure.specs.Placing.{owner}

-- ---- one object more

up_to : (j k : ℕ) (x y : Contents) → j ≤ k → cond (nat_le j k) x y ≡ x
up_to j k x y le = grind (arith, nat_tests)

past : (j k : ℕ) (x y : Contents) → k < j → cond (nat_le j k) x y ≡ y
past j k x y lt = grind (arith, nat_tests)

step_as : (m : Areas) (a c b d : Contents) (t size address : ℕ) (x : Space) → a ≡ c → b ≡ d → IsPlaced m c t x size address d → IsPlaced m a t x size address b
step_as m a c b d t size address x e f p = subst (λ z. IsPlaced m z t x size address b) (sym e) (subst (λ z. IsPlaced m c t x size address z) (sym f) p)

pub in_turn_first : (m : Areas) (t : ℕ) (space : ℕ → Space) (size address : ℕ → ℕ) (c d : Contents) → c ≡ d → PlacedInTurn m t 0 space size address c d
in_turn_first m t space size address c d e = record { words = λ k. c; begins = refl; placed = λ k lt. absurd (omega (arith, lt)); ends = e }

pub in_turn_more : (m : Areas) (t k : ℕ) (space : ℕ → Space) (size address : ℕ → ℕ) (c d e : Contents) → PlacedInTurn m t k space size address c d → IsPlaced m d (owner t (space k)) (space k) (size k) (address k) e → PlacedInTurn m t (k + 1) space size address c e
in_turn_more m t k space size address c d e p next =
    let words : ℕ → Contents = λ j. cond (nat_le j k) (p.words j) e in
    record {
      words = λ j. cond (nat_le j k) (p.words j) e;
      begins = up_to 0 k (p.words 0) e (omega arith) ∙ p.begins;
      placed = λ j lt. elim (cases_eq j k) [
        | inl is ↦ subst (λ i. IsPlaced m (words i) (owner t (space i)) (space i) (size i) (address i) (words (i + 1))) (sym is) (step_as m (words k) d (words (k + 1)) e (owner t (space k)) (size k) (address k) (space k) (up_to k k (p.words k) e (omega arith) ∙ p.ends) (past (k + 1) k (p.words (k + 1)) e (omega arith)) next)
        | inr ne ↦ step_as m (words j) (p.words j) (words (j + 1)) (p.words (j + 1)) (owner t (space j)) (size j) (address j) (space j) (up_to j k (p.words j) e (omega arith)) (up_to (j + 1) k (p.words (j + 1)) e (omega (arith, lt, ne))) (p.placed j (omega (arith, lt, ne)))
      ];
      ends = past (k + 1) k (p.words (k + 1)) e (omega arith);
    }

-- the same objects at the same addresses
pub in_turn_same : (m : Areas) (t count : ℕ) (space space' : ℕ → Space) (size size' address address' : ℕ → ℕ) (c d : Contents) → ((k : ℕ) → k < count → space k ≡ space' k) → ((k : ℕ) → k < count → size k ≡ size' k) → ((k : ℕ) → k < count → address k ≡ address' k) → PlacedInTurn m t count space size address c d → PlacedInTurn m t count space' size' address' c d
in_turn_same m t count space space' size size' address address' c d spaces sizes addresses p = record {
  words = p.words;
  begins = p.begins;
  placed = λ k lt.
      subst (λ x. IsPlaced m (p.words k) (owner t x) x (size' k) (address' k) (p.words (k + 1))) (spaces k lt)
      (subst (λ n. IsPlaced m (p.words k) (owner t (space k)) (space k) n (address' k) (p.words (k + 1))) (sizes k lt)
      (subst (λ a. IsPlaced m (p.words k) (owner t (space k)) (space k) (size k) a (p.words (k + 1))) (addresses k lt) (p.placed k lt)));
  ends = p.ends;
}

pub in_turn_between : (m : Areas) (t count : ℕ) (space : ℕ → Space) (size address : ℕ → ℕ) (c c' d d' : Contents) → c ≡ c' → d ≡ d' → PlacedInTurn m t count space size address c d → PlacedInTurn m t count space size address c' d'
in_turn_between m t count space size address c c' d d' e f p = record { words = p.words; begins = p.begins ∙ e; placed = p.placed; ends = p.ends ∙ f }

-- ---- placing looks neither at the heap nor at the scratch area

pub placed_beside : (m : Areas) (c after : Contents) (scratch heap : List ℕ) (t size a : ℕ) (x : Space) → IsPlaced m c t x size a after → IsPlaced m (record c { scratch = scratch; heap = heap }) t x size a (record after { scratch = scratch; heap = heap })
placed_beside m c after scratch heap t size a x (inl p) = inl (record { fits = p.fits; address = p.address; changed = ap (λ (z : Contents). record z { scratch = scratch; heap = heap }) p.changed })
placed_beside m c after scratch heap t size a x (inr p) = inr (p.0, record { page = p.1.page; free = p.1.free; address = p.1.address; changed = ap (λ (z : Contents). record z { scratch = scratch; heap = heap }) p.1.changed })

pub in_turn_beside : (m : Areas) (t count : ℕ) (space : ℕ → Space) (size address : ℕ → ℕ) (c d : Contents) (scratch heap : List ℕ) → PlacedInTurn m t count space size address c d → PlacedInTurn m t count space size address (record c { scratch = scratch; heap = heap }) (record d { scratch = scratch; heap = heap })
in_turn_beside m t count space size address c d scratch heap p = record {
  words = λ k. record (p.words k) { scratch = scratch; heap = heap };
  begins = ap (λ (z : Contents). record z { scratch = scratch; heap = heap }) p.begins;
  placed = λ k lt. placed_beside m (p.words k) (p.words (k + 1)) scratch heap (owner t (space k)) (size k) (address k) (space k) (p.placed k lt);
  ends = ap (λ (z : Contents). record z { scratch = scratch; heap = heap }) p.ends;
}

-- ---- nor at what is recorded

-- the words with other records
abbrev recording : List (List ℕ) → List ℕ → List (List ℕ) → Contents → Contents
recording firsts sets buffers c = record c { firsts = firsts; sets = sets; buffers = buffers }

placed_recording : (m : Areas) (c after : Contents) (firsts : List (List ℕ)) (sets : List ℕ) (buffers : List (List ℕ)) (t size a : ℕ) (x : Space) → IsPlaced m c t x size a after → IsPlaced m (recording firsts sets buffers c) t x size a (recording firsts sets buffers after)
placed_recording m c after firsts sets buffers t size a x (inl p) = inl (record { fits = p.fits; address = p.address; changed = ap (recording firsts sets buffers) p.changed })
placed_recording m c after firsts sets buffers t size a x (inr p) = inr (p.0, record { page = p.1.page; free = p.1.free; address = p.1.address; changed = ap (recording firsts sets buffers) p.1.changed })

in_turn_recording : (m : Areas) (t count : ℕ) (space : ℕ → Space) (size address : ℕ → ℕ) (c d : Contents) (firsts : List (List ℕ)) (sets : List ℕ) (buffers : List (List ℕ)) → PlacedInTurn m t count space size address c d → PlacedInTurn m t count space size address (recording firsts sets buffers c) (recording firsts sets buffers d)
in_turn_recording m t count space size address c d firsts sets buffers p = record {
  words = λ k. recording firsts sets buffers (p.words k);
  begins = ap (recording firsts sets buffers) p.begins;
  placed = λ k lt. placed_recording m (p.words k) (p.words (k + 1)) firsts sets buffers (owner t (space k)) (size k) (address k) (space k) (p.placed k lt);
  ends = ap (recording firsts sets buffers) p.ends;
}

-- from words whose buffers were filed to the words before
before_filing : (c filing : Contents) → filing ≡ recording filing.firsts filing.sets filing.buffers c → recording c.firsts c.sets c.buffers filing ≡ c
before_filing c filing frame = ap (recording c.firsts c.sets c.buffers) frame

pub out_before : (m : Areas) (t count : ℕ) (space : ℕ → Space) (size : ℕ → ℕ) (c filing mid : Contents) → filing ≡ record c { firsts = filing.firsts; sets = filing.sets; buffers = filing.buffers } → mid ≡ record filing { scratch = mid.scratch; heap = mid.heap } → FindsNoPlace m t count space size mid → FindsNoPlace m t count space size c
out_before m t count space size c filing mid frame beside h =
    let still : Contents = record h.last { scratch = filing.scratch; heap = filing.heap } in
    let last : Contents = recording c.firsts c.sets c.buffers still in
    let first = in_turn_between m t h.reached space size h.address (record mid { scratch = filing.scratch; heap = filing.heap }) filing still still (ap (λ (x : Contents). record x { scratch = filing.scratch; heap = filing.heap }) beside) refl (in_turn_beside m t h.reached space size h.address mid h.last filing.scratch filing.heap h.placed) in
    record {
      reached = h.reached;
      fewer = h.fewer;
      address = h.address;
      last = last;
      placed = in_turn_between m t h.reached space size h.address (recording c.firsts c.sets c.buffers filing) c last last (before_filing c filing frame) refl (in_turn_recording m t h.reached space size h.address filing still c.firsts c.sets c.buffers first);
      little = h.little;
      none = h.none;
    }

-- ---- the pages after a region gave its own back

pub released_table : (c : Contents) (y : Space) → (with_released c y).table ≡ freed_table (space_index y + 1) c.table
released_table c Control = refl
released_table c (Region u d) = refl

released_currents : (a b : Contents) (y : Space) → a.currents ≡ b.currents → (with_released a y).currents ≡ (with_released b y).currents
released_currents a b Control e = e
released_currents a b (Region u d) e = ap (λ (cs : List (List ℕ)). (with_current (record a { currents = cs }) u d 0).currents) e

-- the free pages, after the table was freed
abbrev free_after : ℕ → List ℕ → List ℕ → List (List ℕ) → List ℕ
free_after word heads pool table =
    let pages = free_below (freed_table word table) (length (freed_table word table)) in
    free_pages (set (set heads CLAIM_COUNTER 0) POOL_LENGTH (length pages)) (pool_with pages pool)

released_is : (c : Contents) (y : Space) → free_pages (with_released c y).heads (with_released c y).pool ≡ free_after (space_index y + 1) c.heads c.pool c.table
released_is c Control = refl
released_is c (Region u d) = refl

pub released_free : (a b : Contents) (y : Space) → a.heads ≡ b.heads → a.pool ≡ b.pool → a.table ≡ b.table → free_pages (with_released a y).heads (with_released a y).pool ≡ free_pages (with_released b y).heads (with_released b y).pool
released_free a b y heads pool table =
    released_is a y
    ∙ ap (λ (hs : List ℕ). free_after (space_index y + 1) hs a.pool a.table) heads
    ∙ ap (λ (ps : List ℕ). free_after (space_index y + 1) b.heads ps a.table) pool
    ∙ ap (λ (ts : List (List ℕ)). free_after (space_index y + 1) b.heads b.pool ts) table
    ∙ sym (released_is b y)

-- what stands then
pub stand_before : (m : Areas) (c filing d : Contents) (s : SpaceState) (l : Places) (t count : ℕ) (o : InOrder s l t count) (at : Name → ℕ) → filing ≡ record c { firsts = filing.firsts; sets = filing.sets; buffers = filing.buffers } → StandInTurn m filing d s l t count o at → StandInTurn m c d s l t count o at
stand_before m c filing d s l t count o at frame h =
    let last : Contents = recording c.firsts c.sets c.buffers h.last in
    let before : recording c.firsts c.sets c.buffers filing ≡ c = before_filing c filing frame in
    record {
      last = last;
      placed = in_turn_between m t count _ _ _ (recording c.firsts c.sets c.buffers filing) c last last before refl (in_turn_recording m t count _ _ _ filing h.last c.firsts c.sets c.buffers h.placed);
      left = with_released last (innermost s.graph t);
      released = refl;
      table = h.table ∙ ap (λ (x : Contents). x.table) h.released ∙ released_table h.last (innermost s.graph t) ∙ sym (released_table last (innermost s.graph t));
      currents = h.currents ∙ ap (λ (x : Contents). x.currents) h.released ∙ released_currents h.last last (innermost s.graph t) refl;
      free = h.free ∙ ap (λ (x : Contents). free_pages x.heads x.pool) h.released ∙ sym (released_free last h.last (innermost s.graph t) refl refl refl);
    }
