-- What words that some targets were written into, not told of which state, show of their pages.
use Rattle.std.proofs.Common.{◌≡◌, ◌≢◌, ◌⊎◌, ℕ, ◌+◌, ◌-◌, ◌≤◌, ◌<◌, Option, Some, None, List, [], ◌∷◌, refl, sym, ap, subst, ◌∙◌, arith, inl, inr}
use Rattle.std.specs.List.{All, Contains}
use Rattle.std.proofs.Props.{props}
use Rattle.std.proofs.lemmas.Bool.{cases_eq}
use Rattle.std.proofs.Math.Logic.{⊎_elim, ∥∥₁_elim, ∥∥₁_map}
use Rattle.heap_words.specs.declared.map.Areas.{Areas}
use Rattle.heap_words.specs.Map.{IsAreas, max_depth, page_words}
use Rattle.heap_words.specs.Contents.{Contents}
use Rattle.epoch_lattice.specs.declared.Space.{Space}
use Rattle.epoch_lattice.specs.declared.Space.TheVariants.{Control, Region}
use Rattle.epoch_lattice.specs.Lattice.{space_index, space_of}
use Rattle.epoch_lattice.proofs.Numbers.{number-reads_back}
use Rattle.yak_model.specs.Spaces.{SpaceState}
use Rattle.yak_model.specs.State.{view}
use Rattle.yak_model.specs.Placed.{space_word, used_mark}
use Rattle.yak_model.specs.Stands.{CurrentsStand, PoolStands, Stands, free_pages}
use Rattle.yak_model.specs.Packed.{IsSpaceOf}
use Rattle.region_pages.specs.Pages.{TableFits}
use Rattle.region_pages.proofs.Claims.{Contains-behind, Contains-cases, Contains-front}
use Rattle.escape_closure.proofs.Aims.{open_is}
use Rattle.escape_closure.proofs.Follows.{is_valid}

-- all but the heap words and the scratch area stand for some state
abbrev pub SomeAimed : Areas → Contents → Type 0
SomeAimed m c = ∥ ((s : SpaceState) × (b : Contents) × Stands m b s × (c ≡ record b { scratch = c.scratch; heap = c.heap })) ∥₁

-- a number is in a list, or isn't
find_in : (xs : List ℕ) (p : ℕ) → Contains xs p ⊎ (Contains xs p → ⊥)
find_in [] p = inr (λ h. let lt : h.0 < 0 = h.1 in omega (arith, lt))
find_in (x ∷ xs) p = ⊎_elim
    (λ (e : x ≡ p). inl (subst (Contains (x ∷ xs)) e (Contains-front xs x)))
    (λ (ne : x ≢ p). ⊎_elim
    (λ (h : Contains xs p). inl (Contains-behind xs x p h))
    (λ (none : Contains xs p → ⊥). inr (λ h. ⊎_elim (λ (e : x ≡ p). ne e) (λ (i : Contains xs p). none i) (Contains-cases xs x p h)))
    (find_in xs p))
    (cases_eq x p)

pool_at : (m : Areas) (c b : Contents) (s : SpaceState) → Stands m b s → c ≡ record b { scratch = c.scratch; heap = c.heap } → PoolStands m c.heads c.pool c.table
pool_at m c b s st frame = subst (λ (x : Contents). PoolStands m x.heads x.pool x.table) (sym frame) st.stands.pool

-- a pool of which it is only told that it stands
pub pool_stands : (m : Areas) (heads pool : List ℕ) (table : List (List ℕ)) → ∥ PoolStands m heads pool table ∥₁ → PoolStands m heads pool table
pool_stands m heads pool table some = record {
  within = ∥∥₁_elim some (hlevel props) (λ h. h.within);
  passed = ∥∥₁_elim some (hlevel props) (λ h. h.passed);
  free = λ p. (
    λ i. ∥∥₁_elim some (hlevel props) (λ h. (h.free p).0 i),
    λ i. ⊎_elim
        (λ (found : Contains (free_pages heads pool) p). found)
        (λ (none : Contains (free_pages heads pool) p → ⊥). absurd (∥∥₁_elim some (hlevel props) (λ h. none ((h.free p).1 i))))
        (find_in (free_pages heads pool) p),
  );
  once = λ i j d lt within e. ∥∥₁_elim some (hlevel props) (λ h. h.once i j d lt within e);
}

pub pool_told : (m : Areas) (c : Contents) → SomeAimed m c → PoolStands m c.heads c.pool c.table
pool_told m c some = pool_stands m c.heads c.pool c.table (∥∥₁_map some (λ q. pool_at m c q.1 q.0 q.2 q.3))

currents_at : (m : Areas) (c b : Contents) (s : SpaceState) → Stands m b s → c ≡ record b { scratch = c.scratch; heap = c.heap } → CurrentsStand m c.currents c.table
currents_at m c b s st frame = subst (λ (x : Contents). CurrentsStand m x.currents x.table) (sym frame) st.stands.currents

pub currents_told : (m : Areas) (c : Contents) → SomeAimed m c → CurrentsStand m c.currents c.table
currents_told m c some = record {
  belong = λ t d ht hm hd ne. ∥∥₁_elim some (hlevel props) (λ q. (currents_at m c q.1 q.0 q.2 q.3).belong t d ht hm hd ne);
  once = λ t d u e ht hm hu hl ne same. ∥∥₁_elim some (hlevel props) (λ q. (currents_at m c q.1 q.0 q.2 q.3).once t d u e ht hm hu hl ne same);
}

space_prop : (m : Areas) (x : Space) → IsProp (IsSpaceOf m x)
space_prop m Control = hlevel props
space_prop m (Region t d) = hlevel props

some_space : (x y : Space) → Some x ≡ Some y → x ≡ y
some_space x y e = cc

-- the space of a page that isn't free, as some state shows it
shown_space : (m : Areas) (c b : Contents) (p : ℕ) (s : SpaceState) → IsAreas m → Stands m b s → c ≡ record b { scratch = c.scratch; heap = c.heap } → p < m.pages → space_word c.table p ≢ 0 → (x : Space) × IsSpaceOf m x × (space_word c.table p ≡ space_index x + 1) × (space_of (space_word c.table p - 1) ≡ Some x)
shown_space m c b p s areas st frame lt ne =
    let word : space_word c.table p ≡ space_word b.table p = ap (λ (x : Contents). space_word x.table p) frame in
    elim (st.stands.open_spaces p lt) [
      | inl z ↦ absurd (ne (word ∙ z))
      | inr o ↦
          let of : IsSpaceOf m o.0 = open_is m (view s).depths o.0 st.stands.threads (subst (All (λ d. d ≤ max_depth m)) st.stands.depths st.stands.limits.depths) o.2 in
          let index : space_word c.table p - 1 ≡ space_index o.0 = omega (arith, word, o.1) in
          (o.0, of, word ∙ o.1, ap space_of index ∙ number-reads_back o.0 (is_valid m o.0 areas of))
    ]

-- the same, read from the word
read_space : (m : Areas) (c : Contents) (p : ℕ) → IsAreas m → SomeAimed m c → p < m.pages → space_word c.table p ≢ 0 → (o : Option Space) → space_of (space_word c.table p - 1) ≡ o → (x : Space) × IsSpaceOf m x × (space_word c.table p ≡ space_index x + 1)
read_space m c p areas some lt ne None e = absurd (∥∥₁_elim some (hlevel props) (λ q. let x = shown_space m c q.1 p q.0 areas q.2 q.3 lt ne in let no : None ≡ Some x.0 = sym e ∙ x.3 in cc))
read_space m c p areas some lt ne (Some y) e = (
  y,
  ∥∥₁_elim some (space_prop m y) (λ q. let x = shown_space m c q.1 p q.0 areas q.2 q.3 lt ne in subst (IsSpaceOf m) (some_space x.0 y (sym x.3 ∙ e)) x.1),
  ∥∥₁_elim some (hlevel props) (λ q. let x = shown_space m c q.1 p q.0 areas q.2 q.3 lt ne in x.2 ∙ ap (λ (z : Space). space_index z + 1) (some_space x.0 y (sym x.3 ∙ e))),
)

mark_at : (m : Areas) (c b : Contents) (p : ℕ) (s : SpaceState) → Stands m b s → c ≡ record b { scratch = c.scratch; heap = c.heap } → p < m.pages → used_mark c.table p ≤ page_words m
mark_at m c b p s st frame lt =
    let heap = st.stands.heap in
    let mark : used_mark c.table p ≡ used_mark b.table p = ap (λ (x : Contents). used_mark x.table p) frame in
    omega (arith, mark, heap.marks p lt, heap.tiles.fits p (omega (arith, heap.count, lt)))

pub table_told : (m : Areas) (c : Contents) → IsAreas m → SomeAimed m c → TableFits m c.table
table_told m c areas some = record {
  spaces = λ p lt. ⊎_elim
      (λ (z : space_word c.table p ≡ 0). inl z)
      (λ (nz : space_word c.table p ≢ 0). inr (read_space m c p areas some lt nz (space_of (space_word c.table p - 1)) refl))
      (cases_eq (space_word c.table p) 0);
  marks = λ p lt. ∥∥₁_elim some (hlevel props) (λ q. mark_at m c q.1 p q.0 q.2 q.3 lt);
}
