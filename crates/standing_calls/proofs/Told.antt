-- What words that stand for some state, not told which, show of their pages.
use Rattle.std.proofs.Common.{◌≡◌, ◌≢◌, ◌⊎◌, ℕ, ◌+◌, ◌-◌, ◌≤◌, ◌<◌, Option, Some, None, List, [], ◌∷◌, length, get_or, zero, suc, refl, sym, ap, subst, ◌∙◌, arith, inl, inr}
use Rattle.std.specs.List.{Contains}
use Rattle.std.proofs.Props.{props}
use Rattle.std.proofs.lemmas.Bool.{cases_eq}
use Rattle.std.proofs.Math.Logic.{⊎_elim, ∥∥₁_elim}
use Rattle.heap_words.specs.declared.map.Areas.{Areas}
use Rattle.heap_words.specs.Map.{HasThread, IsAreas, max_depth}
use Rattle.heap_words.specs.Contents.{Contents}
use Rattle.epoch_lattice.specs.declared.Space.{Space}
use Rattle.epoch_lattice.specs.declared.Space.TheVariants.{Control, Region}
use Rattle.epoch_lattice.specs.declared.TheConstants.{MAX_DEPTH}
use Rattle.epoch_lattice.specs.Lattice.{IsValid, inner_of, space_index, space_of}
use Rattle.epoch_lattice.proofs.Numbers.{number-reads_back}
use Rattle.yak_model.specs.Spaces.{SpaceState}
use Rattle.yak_model.specs.State.{IsOpen, view}
use Rattle.yak_model.specs.Placed.{space_word}
use Rattle.yak_model.specs.Stands.{CurrentsStand, PoolStands, Stands, free_pages}
use Rattle.yak_model.specs.Packed.{IsSpaceOf}
use Rattle.yak_model.proofs.Stacks.{all-at}
use Rattle.region_pages.specs.Pages.{TableFits}
use Rattle.region_pages.specs.Placement.{IsOwn}
use Rattle.region_pages.proofs.Claims.{Contains-behind, Contains-cases, Contains-front}

-- the words stand for some state
abbrev pub SomeStands : Areas → Contents → Type 0
SomeStands m c = ∥ ((s : SpaceState) × Stands m c s) ∥₁

-- a number is in a list, or isn't
pub find_in : (xs : List ℕ) (p : ℕ) → Contains xs p ⊎ (Contains xs p → ⊥)
find_in [] p = inr (λ h. let lt : h.0 < 0 = h.1 in omega (arith, lt))
find_in (x ∷ xs) p = ⊎_elim
    (λ (e : x ≡ p). inl (subst (Contains (x ∷ xs)) e (Contains-front xs x)))
    (λ (ne : x ≢ p). ⊎_elim
    (λ (h : Contains xs p). inl (Contains-behind xs x p h))
    (λ (none : Contains xs p → ⊥). inr (λ h. ⊎_elim (λ (e : x ≡ p). ne e) (λ (i : Contains xs p). none i) (Contains-cases xs x p h)))
    (find_in xs p))
    (cases_eq x p)

pub pool-told : (m : Areas) (c : Contents) → SomeStands m c → PoolStands m c.heads c.pool c.table
pool-told m c some = record {
  within = ∥∥₁_elim some (hlevel props) (λ q. q.1.stands.pool.within);
  passed = ∥∥₁_elim some (hlevel props) (λ q. q.1.stands.pool.passed);
  free = λ p. (
    λ h. ∥∥₁_elim some (hlevel props) (λ q. (q.1.stands.pool.free p).0 h),
    λ h. ⊎_elim
        (λ (i : Contains (free_pages c.heads c.pool) p). i)
        (λ (none : Contains (free_pages c.heads c.pool) p → ⊥). absurd (∥∥₁_elim some (hlevel props) (λ q. none ((q.1.stands.pool.free p).1 h))))
        (find_in (free_pages c.heads c.pool) p),
  );
  once = λ i j d lt within e. ∥∥₁_elim some (hlevel props) (λ q. q.1.stands.pool.once i j d lt within e);
}

pub currents-told : (m : Areas) (c : Contents) → SomeStands m c → CurrentsStand m c.currents c.table
currents-told m c some = record {
  belong = λ t d ht hm hd ne. ∥∥₁_elim some (hlevel props) (λ q. q.1.stands.currents.belong t d ht hm hd ne);
  once = λ t d u e ht hm hu hl ne same. ∥∥₁_elim some (hlevel props) (λ q. q.1.stands.currents.once t d u e ht hm hu hl ne same);
}

-- an open space is one of the heap
pub open-space : (m : Areas) (depths : List ℕ) (x : Space) → length depths ≡ m.threads → ((t : ℕ) → get_or depths (t - 1) 0 ≤ max_depth m) → IsOpen depths x → IsSpaceOf m x
open-space m depths Control long deep h = tt
open-space m depths (Region t d) long deep h = (h.0, omega (arith, h.1, long), h.2, omega (arith, h.3, deep t))

pub space-valid : (m : Areas) (x : Space) → IsAreas m → IsSpaceOf m x → IsValid MAX_DEPTH x
space-valid m Control areas h = tt
space-valid m (Region t d) areas h = (h.0, omega (arith, h.1, areas.3), h.2, h.3)

pub space-prop : (m : Areas) (x : Space) → IsProp (IsSpaceOf m x)
space-prop m Control = hlevel props
space-prop m (Region t d) = hlevel props

some_space : (x y : Space) → Some x ≡ Some y → x ≡ y
some_space x y e = cc

-- the space of a page that isn't free, as some state shows it
shown-space : (m : Areas) (c : Contents) (p : ℕ) → IsAreas m → (s : SpaceState) → Stands m c s → p < m.pages → space_word c.table p ≢ 0 → (x : Space) × IsSpaceOf m x × (space_word c.table p ≡ space_index x + 1) × (space_of (space_word c.table p - 1) ≡ Some x)
shown-space m c p areas s h lt ne = ⊎_elim
    (λ (z : space_word c.table p ≡ 0). absurd (ne z))
    (λ (o : (x : Space) × (space_word c.table p ≡ space_index x + 1) × IsOpen (view s).depths x).
    let deep : (t : ℕ) → get_or (view s).depths (t - 1) 0 ≤ max_depth m = λ t. rw (← h.stands.depths) (all-at (λ i. i ≤ max_depth m) c.depths (t - 1) 0 (omega arith) h.stands.limits.depths) in
    let here : IsSpaceOf m o.0 = open-space m (view s).depths o.0 h.stands.threads deep o.2 in
    let index : space_word c.table p - 1 ≡ space_index o.0 = omega (arith, o.1) in
    (o.0, here, o.1, ap space_of index ∙ number-reads_back o.0 (space-valid m o.0 areas here)))
    (h.stands.open_spaces p lt)

-- the same, read from the word
read-space : (m : Areas) (c : Contents) (p : ℕ) → IsAreas m → SomeStands m c → p < m.pages → space_word c.table p ≢ 0 → (o : Option Space) → space_of (space_word c.table p - 1) ≡ o → (x : Space) × IsSpaceOf m x × (space_word c.table p ≡ space_index x + 1)
read-space m c p areas some lt ne None e = absurd (∥∥₁_elim some (hlevel props) (λ q. let x = shown-space m c p areas q.0 q.1 lt ne in let no : None ≡ Some x.0 = sym e ∙ x.3 in cc))
read-space m c p areas some lt ne (Some y) e = (
  y,
  ∥∥₁_elim some (space-prop m y) (λ q. let x = shown-space m c p areas q.0 q.1 lt ne in subst (IsSpaceOf m) (some_space x.0 y (sym x.3 ∙ e)) x.1),
  ∥∥₁_elim some (hlevel props) (λ q. let x = shown-space m c p areas q.0 q.1 lt ne in x.2 ∙ ap (λ (z : Space). space_index z + 1) (some_space x.0 y (sym x.3 ∙ e))),
)

pub table-told : (m : Areas) (c : Contents) → IsAreas m → SomeStands m c → TableFits m c.table
table-told m c areas some = record {
  spaces = λ p lt. ⊎_elim
      (λ (z : space_word c.table p ≡ 0). inl z)
      (λ (nz : space_word c.table p ≢ 0). inr (read-space m c p areas some lt nz (space_of (space_word c.table p - 1)) refl))
      (cases_eq (space_word c.table p) 0);
  marks = λ p lt. ∥∥₁_elim some (hlevel props) (λ q. rw (q.1.stands.heap.marks p lt) (q.1.stands.heap.tiles.fits p (rw q.1.stands.heap.count lt)));
}

-- the innermost space of a thread is one of the heap, and the thread's own
pub inner-is_space : (m : Areas) (t d : ℕ) → HasThread m t → d ≤ max_depth m → IsSpaceOf m (inner_of t d)
inner-is_space m t zero ht hd = tt
inner-is_space m t (suc d) ht hd = (ht.0, ht.1, omega arith, hd)

pub inner-is_own : (t d : ℕ) → IsOwn t (inner_of t d)
inner-is_own t zero = tt
inner-is_own t (suc d) = refl
