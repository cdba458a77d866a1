-- A page in which an object is placed, and what the placing changes.
use Rattle.std.proofs.Common.{◌≡◌, ◌≢◌, ◌⊎◌, ℕ, ◌+◌, ◌-◌, ◌*◌, ◌≤◌, ◌<◌, true, false, Option, List, [], ◌∷◌, length, get_or, set, zero, suc, refl, sym, ap, ◌∙◌, arith, get_or-set_same, get_or-set_other}
use Rattle.std.specs.List.{sum_by}
use Rattle.std.proofs.lemmas.Bool.{cases_eq, eq-eqb, ne_eqb}
use Rattle.std.proofs.Math.Logic.{⊎_elim}
use Rattle.std.proofs.Math.Nat.{mul-suc}
use Rattle.object_layout.specs.declared.names.Name.{Name}
use Rattle.heap_words.specs.declared.map.Areas.{Areas}
use Rattle.heap_words.specs.Map.{page_words}
use Rattle.heap_words.specs.Cells.{row}
use Rattle.epoch_lattice.specs.declared.Space.{Space}
use Rattle.epoch_lattice.specs.Lattice.{space_index}
use Rattle.yak_model.specs.State.{Thing}
use Rattle.yak_model.specs.Placed.{HeapStands, IsAt, Places, names_of, size_by, space_word, used_mark}
use Rattle.yak_model.specs.Stands.{pages_of}
use Rattle.standing_calls.proofs.Sums.{is_of, pages_of-set}

-- a page's entry for a space, with some used words
abbrev pub entry : Space → ℕ → List ℕ
entry x used = (space_index x + 1) ∷ used ∷ []

-- a page that belongs to the space already, or that was free
pub record Entered (m : Areas) (table table' : List (List ℕ)) (x : Space) (p used size : ℕ) : Type 0 where
  pub page : p < m.pages
  pub listed : p < length table
  pub set : table' ≡ set table p (entry x (used + size))
  pub before : (space_word table p ≡ space_index x + 1) ⊎ ((space_word table p ≡ 0) × (used ≡ 0))
  pub mark : used_mark table p ≡ used
  pub room : used + size ≤ page_words m

pub space-entered : (m : Areas) (table table' : List (List ℕ)) (x : Space) (p used size : ℕ) → Entered m table table' x p used size → space_word table' p ≡ space_index x + 1
space-entered m table table' x p used size e = ap (λ (t : List (List ℕ)). get_or (get_or t p []) 0 0) e.set ∙ ap (λ (r : List ℕ). get_or r 0 0) (get_or-set_same table p (entry x (used + size)) [] e.listed)

pub mark-entered : (m : Areas) (table table' : List (List ℕ)) (x : Space) (p used size : ℕ) → Entered m table table' x p used size → used_mark table' p ≡ used + size
mark-entered m table table' x p used size e = ap (λ (t : List (List ℕ)). get_or (get_or t p []) 1 0) e.set ∙ ap (λ (r : List ℕ). get_or r 1 0) (get_or-set_same table p (entry x (used + size)) [] e.listed)

pub row-other : (m : Areas) (table table' : List (List ℕ)) (x : Space) (p used size : ℕ) → Entered m table table' x p used size → (q : ℕ) → q ≢ p → row table' q ≡ row table q
row-other m table table' x p used size e q ne = ap (λ (t : List (List ℕ)). get_or t q []) e.set ∙ get_or-set_other table p q (entry x (used + size)) [] ne

-- a free page holds nothing
no_names : (m : Areas) (table : List (List ℕ)) (heap : List ℕ) (objects : Name → Option Thing) (l : Places) (work : Name → ℕ) (p : ℕ) → HeapStands m table heap objects l work → p < m.pages → space_word table p ≡ 0 → (ns : List Name) → names_of l p ≡ ns → sum_by (size_by objects) ns ≡ 0
no_names m table heap objects l work p h lt free [] e = refl
no_names m table heap objects l work p h lt free (n ∷ ns) e =
    let at : IsAt l n p 0 = record {
      page = rw h.count lt;
      place = rw e (let b : 0 < length (n ∷ ns) = omega arith in b);
      name = rw e refl;
    } in
    let w = h.whole n p 0 at in
    absurd (omega (arith, w.2, free))

pub free-mark : (m : Areas) (table : List (List ℕ)) (heap : List ℕ) (objects : Name → Option Thing) (l : Places) (work : Name → ℕ) (p : ℕ) → HeapStands m table heap objects l work → p < m.pages → space_word table p ≡ 0 → used_mark table p ≡ 0
free-mark m table heap objects l work p h lt free = h.marks p lt ∙ no_names m table heap objects l work p h lt free (names_of l p) refl

-- the heap stands as before where the page is entered for the space with the words that it has in use
pub heap-entered : (m : Areas) (table : List (List ℕ)) (heap : List ℕ) (objects : Name → Option Thing) (l : Places) (work : Name → ℕ) (x : Space) (p used : ℕ) → HeapStands m table heap objects l work → p < m.pages → p < length table → (space_word table p ≡ space_index x + 1) ⊎ ((space_word table p ≡ 0) × (used ≡ 0)) → used_mark table p ≡ used → HeapStands m (set table p (entry x used)) heap objects l work
heap-entered m table heap objects l work x p used h lt listed before mark =
    let own = get_or-set_same table p (entry x used) [] listed in
    record {
      count = h.count;
      tiles = h.tiles;
      present = h.present;
      whole = λ y q k at.
          let w = h.whole y q k at in (
            w.0,
            w.1,
            ⊎_elim
                (λ (e : q ≡ p). ⊎_elim
                (λ (b : space_word table p ≡ space_index x + 1). ap (λ i. space_word (set table p (entry x used)) i) e ∙ ap (λ (r : List ℕ). get_or r 0 0) own ∙ sym b ∙ ap (space_word table) (sym e) ∙ w.2)
                (λ (b : (space_word table p ≡ 0) × (used ≡ 0)). absurd (omega (arith, w.2, b.0, ap (space_word table) e)))
                before)
                (λ (ne : q ≢ p). ap (λ (r : List ℕ). get_or r 0 0) (get_or-set_other table p q (entry x used) [] ne) ∙ w.2)
                (cases_eq q p),
          );
      marks = λ q lq. ⊎_elim
          (λ (e : q ≡ p). ap (λ i. used_mark (set table p (entry x used)) i) e ∙ ap (λ (r : List ℕ). get_or r 1 0) own ∙ sym mark ∙ ap (used_mark table) (sym e) ∙ h.marks q lq)
          (λ (ne : q ≢ p). ap (λ (r : List ℕ). get_or r 1 0) (get_or-set_other table p q (entry x used) [] ne) ∙ h.marks q lq)
          (cases_eq q p);
      held = h.held;
    }

-- the pages of another space, and of this one
pub pages-other : (m : Areas) (table table' : List (List ℕ)) (x y : Space) (p used size : ℕ) → Entered m table table' x p used size → space_index y ≢ space_index x → pages_of table' y ≡ pages_of table y
pages-other m table table' x y p used size e ne =
    let s = pages_of-set table p (entry x (used + size)) y e.listed in
    let new : is_of y (entry x (used + size)) ≡ false = ne_eqb (space_index x + 1) (space_index y + 1) (λ q. ne (omega arith)) in
    let old : is_of y (row table p) ≡ false = ⊎_elim
    (λ (b : space_word table p ≡ space_index x + 1). ne_eqb (space_word table p) (space_index y + 1) (λ q. ne (omega (arith, b))))
    (λ (b : (space_word table p ≡ 0) × (used ≡ 0)). ne_eqb (space_word table p) (space_index y + 1) (λ q. omega (arith, b.0, q)))
    e.before in
    let s' : pages_of (set table p (entry x (used + size))) y + 0 ≡ pages_of table y + 0 = rw (new, old) at s in
    ap (λ (t : List (List ℕ)). pages_of t y) e.set ∙ (let z : pages_of (set table p (entry x (used + size))) y ≡ pages_of table y = omega (arith, s') in z)

pub pages-own : (m : Areas) (table table' : List (List ℕ)) (x : Space) (p used size : ℕ) → Entered m table table' x p used size → space_word table p ≡ space_index x + 1 → pages_of table' x ≡ pages_of table x
pages-own m table table' x p used size e b =
    let s = pages_of-set table p (entry x (used + size)) x e.listed in
    let new : is_of x (entry x (used + size)) ≡ true = eq-eqb (space_index x + 1) (space_index x + 1) refl in
    let old : is_of x (row table p) ≡ true = eq-eqb (space_word table p) (space_index x + 1) b in
    let s' : pages_of (set table p (entry x (used + size))) x + 1 ≡ pages_of table x + 1 = rw (new, old) at s in
    ap (λ (t : List (List ℕ)). pages_of t x) e.set ∙ (let z : pages_of (set table p (entry x (used + size))) x ≡ pages_of table x = omega (arith, s') in z)

pub pages-more : (m : Areas) (table table' : List (List ℕ)) (x : Space) (p used size : ℕ) → Entered m table table' x p used size → space_word table p ≡ 0 → pages_of table' x ≡ pages_of table x + 1
pages-more m table table' x p used size e b =
    let s = pages_of-set table p (entry x (used + size)) x e.listed in
    let new : is_of x (entry x (used + size)) ≡ true = eq-eqb (space_index x + 1) (space_index x + 1) refl in
    let old : is_of x (row table p) ≡ false = ne_eqb (space_word table p) (space_index x + 1) (λ q. omega (arith, b, q)) in
    let s' : pages_of (set table p (entry x (used + size))) x + 0 ≡ pages_of table x + 1 = rw (new, old) at s in
    ap (λ (t : List (List ℕ)). pages_of t x) e.set ∙ (let z : pages_of (set table p (entry x (used + size))) x ≡ pages_of table x + 1 = omega (arith, s') in z)

-- a page more than half filled, but for the one that is claimed
pub claimed-dense : (w P u W size : ℕ) → 0 < P → w * (P - 1) + u ≤ 2 * W → w < u + size → w * ((P + 1) - 1) + size ≤ 2 * (W + size)
claimed-dense w zero u W size some dense over = absurd (omega arith)
claimed-dense w (suc q) u W size some dense over =
    let a : (suc q + 1) - 1 ≡ suc q = omega arith in
    let b : suc q - 1 ≡ q = omega arith in
    let d : w * q + u ≤ 2 * W = rw b at dense in
    let mul : w * suc q ≡ w * q + w = mul-suc w q in
    rw a (omega (arith, d, mul, over))
