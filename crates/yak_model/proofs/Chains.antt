-- Chains of recorded slots: what their words decide.
use Rattle.std.proofs.Common.{◌≡◌, ◌≢◌, ◌⊎◌, inl, inr, ℕ, zero, suc, ◌+◌, ◌-◌, ◌≤◌, ◌<◌, List, [], ◌∷◌, length, get_or, refl, sym, ap, subst, ◌∙◌, add-one, arith}
use Rattle.std.specs.List.{All, AllPairs, Contains}
use Rattle.std.proofs.Props.{props}
use Rattle.std.proofs.Math.Logic.{⊎_elim}
use Rattle.std.proofs.lemmas.Bool.{cases_eq}
use Rattle.std.proofs.lemmas.Bool.Decides.{Decides-eqb}
use Rattle.std.proofs.lemmas.List.{get_or_default}
use Rattle.std.proofs.lemmas.List.Elements.{All-contains}
use Rattle.std.proofs.lemmas.Map.Made.{IsDistinct-from_AllPairs}
use Rattle.std.proofs.lemmas.Map.Steps.{length-le_from_distinct_below}
use Rattle.std.proofs.lemmas.Map.Views.{Contains-from_any}
use Rattle.heap_words.specs.declared.map.Areas.{Areas}
use Rattle.heap_words.specs.Map.{IsAreas, heap_length, max_depth}
use Rattle.epoch_lattice.specs.declared.Space.{Space}
use Rattle.epoch_lattice.specs.declared.Space.TheVariants.{Control, Region}
use Rattle.epoch_lattice.specs.declared.TheConstants.{MAX_DEPTH}
use Rattle.epoch_lattice.specs.Lattice.{IsValid, space_index}
use Rattle.epoch_lattice.proofs.Numbers.{number-own}
use Rattle.yak_model.specs.Chains.{AreChains, AreLinked, IsRegionOf, chain_of, followed, former_from, former_word, head_to, head_word, next_word}
use Rattle.yak_model.specs.Stands.{SetsStand}

-- a list has its first element and those of its rest, and no others
pub contains-here : {X : Type 0} (x : X) (xs : List X) → Contains (x ∷ xs) x
contains-here x xs = (0, omega arith, refl)

pub contains-there : {X : Type 0} (x : X) (xs : List X) (a : X) → Contains xs a → Contains (x ∷ xs) a
contains-there x xs a (k, lt, e) = (suc k, omega (arith, lt), e)

pub contains-none : {X : Type 0} (a : X) → Contains [] a → ⊥
contains-none a (k, lt, e) = omega (arith, lt)

pub contains-cases : {X : Type 0} (x : X) (xs : List X) (a : X) → Contains (x ∷ xs) a → (x ≡ a) ⊎ Contains xs a
contains-cases x xs a (zero, lt, e) = inl e
contains-cases x xs a (suc k, lt, e) = inr (k, omega (arith, lt), e)

-- a number stands in a list or not
pub contains-or : (a : ℕ) (l : List ℕ) → Contains l a ⊎ (Contains l a → ⊥)
contains-or a [] = inr (contains-none a)
contains-or a (x ∷ l) =
    ⊎_elim (λ (e : x ≡ a). inl (subst (Contains (x ∷ l)) e (contains-here x l)))
    (λ (ne : x ≡ a → ⊥).
    ⊎_elim (λ (c : Contains l a). inl (contains-there x l a c)) (λ (n : Contains l a → ⊥). inr (λ c. ⊎_elim ne n (contains-cases x l a c))) (contains-or a l))
    (cases_eq x a)

-- some number up to a bound has what each has or hasn't, or none has it
up-to : (P : ℕ → Type 0) → ((k : ℕ) → P k ⊎ (P k → ⊥)) → (n : ℕ) → ((k : ℕ) × (1 ≤ k) × (k ≤ n) × P k) ⊎ ((k : ℕ) → 1 ≤ k → k ≤ n → P k → ⊥)
up-to P or zero = inr (λ k lo hi p. omega (arith, lo, hi))
up-to P or (suc n) =
    ⊎_elim (λ (p : P (suc n)). inl (suc n, omega arith, omega arith, p))
    (λ (no : P (suc n) → ⊥).
    ⊎_elim (λ (f : (k : ℕ) × (1 ≤ k) × (k ≤ n) × P k). inl (f.0, f.1, omega (arith, f.2), f.3))
    (λ (none : (k : ℕ) → 1 ≤ k → k ≤ n → P k → ⊥). inr (λ k lo hi p. ⊎_elim (λ (e : k ≡ suc n). no (subst P e p)) (λ (ne : k ≡ suc n → ⊥). none k lo (omega (arith, hi, ne)) p) (cases_eq k (suc n))))
    (up-to P or n))
    (or (suc n))

in-none : (m : Areas) (chain : Space → List ℕ) (a : ℕ) → ((t : ℕ) → 1 ≤ t → t ≤ m.threads → ((d : ℕ) × (1 ≤ d) × (d ≤ max_depth m) × Contains (chain (Region t d)) a) → ⊥) → (x : Space) → IsRegionOf m x → Contains (chain x) a → ⊥
in-none m chain a n Control r c = absurd r
in-none m chain a n (Region t d) r c = n t r.0 r.1 (d, r.2, r.3, c)

-- a slot stands in some region's chain or in none
pub chained-or : (m : Areas) (chain : Space → List ℕ) (a : ℕ) → ((x : Space) × IsRegionOf m x × Contains (chain x) a) ⊎ ((x : Space) → IsRegionOf m x → Contains (chain x) a → ⊥)
chained-or m chain a =
    let deep : (t : ℕ) → ((d : ℕ) × (1 ≤ d) × (d ≤ max_depth m) × Contains (chain (Region t d)) a) ⊎ ((d : ℕ) → 1 ≤ d → d ≤ max_depth m → Contains (chain (Region t d)) a → ⊥) = λ t. up-to (λ d. Contains (chain (Region t d)) a) (λ d. contains-or a (chain (Region t d))) (max_depth m) in
    let none : (t : ℕ) → ((d : ℕ) → 1 ≤ d → d ≤ max_depth m → Contains (chain (Region t d)) a → ⊥) → ((d : ℕ) × (1 ≤ d) × (d ≤ max_depth m) × Contains (chain (Region t d)) a) → ⊥ = λ t n f. n f.0 f.1 f.2 f.3 in
    ⊎_elim (λ (f : (t : ℕ) × (1 ≤ t) × (t ≤ m.threads) × ((d : ℕ) × (1 ≤ d) × (d ≤ max_depth m) × Contains (chain (Region t d)) a)). inl (Region f.0 f.3.0, (f.1, f.2, f.3.1, f.3.2), f.3.3))
    (λ (n : (t : ℕ) → 1 ≤ t → t ≤ m.threads → ((d : ℕ) × (1 ≤ d) × (d ≤ max_depth m) × Contains (chain (Region t d)) a) → ⊥). inr (in-none m chain a n))
    (up-to (λ t. (d : ℕ) × (1 ≤ d) × (d ≤ max_depth m) × Contains (chain (Region t d)) a) (λ t. ⊎_elim (λ f. inl f) (λ n. inr (none t n)) (deep t)) m.threads)

-- numbers of regions are from 1 on and below those of slots
pub region-valid : (m : Areas) (x : Space) → IsAreas m → IsRegionOf m x → IsValid MAX_DEPTH x
region-valid m Control h r = absurd r
region-valid m (Region t d) h r = (omega arith, omega arith, omega arith, omega arith)

pub region-index : (m : Areas) (x : Space) → IsAreas m → IsRegionOf m x → (1 ≤ space_index x) × (space_index x < former_from)
region-index m Control h r = absurd r
region-index m (Region t d) h r = (omega arith, omega arith)

pub region-own : (m : Areas) (x y : Space) → IsAreas m → IsRegionOf m x → IsRegionOf m y → space_index x ≡ space_index y → x ≡ y
region-own m x y h r q e = number-own x y (region-valid m x h r) (region-valid m y h q) e

-- the second word of the first slot, and of one that follows another
former-first : (s : List ℕ) (w : ℕ) (l : List ℕ) → AreLinked s w l → 0 < length l → former_word s (get_or l 0 0) ≡ w
former-first s w [] h lt = absurd (omega arith)
former-first s w (a ∷ l) h lt = h.1

former-next : (s : List ℕ) (w : ℕ) (l : List ℕ) (i : ℕ) → AreLinked s w l → suc i < length l → former_word s (get_or l (suc i) 0) ≡ get_or l i 0 + former_from
former-next s w [] i h lt = absurd (omega arith)
former-next s w (a ∷ l) zero h lt = former-first s (a + former_from) l h.2 (omega arith)
former-next s w (a ∷ l) (suc i) h lt = former-next s (a + former_from) l i h.2 (omega arith)

-- a slot has one place in one chain
pub same-place : (s : List ℕ) (v w : ℕ) (l k : List ℕ) → v < former_from → w < former_from → AreLinked s v l → AreLinked s w k → (i j : ℕ) → i < length l → j < length k → get_or l i 0 ≡ get_or k j 0 → (v ≡ w) × (i ≡ j)
same-place s v w l k lv lw hl hk zero zero li lj e = (sym (former-first s v l hl li) ∙ ap (λ a. former_word s a) e ∙ former-first s w k hk lj, refl)
same-place s v w l k lv lw hl hk zero (suc j) li lj e =
    absurd (omega (arith, lv, sym (former-first s v l hl li) ∙ ap (λ a. former_word s a) e ∙ former-next s w k j hk lj))
same-place s v w l k lv lw hl hk (suc i) zero li lj e =
    absurd (omega (arith, lw, sym (former-next s v l i hl li) ∙ ap (λ a. former_word s a) e ∙ former-first s w k hk lj))
same-place s v w l k lv lw hl hk (suc i) (suc j) li lj e =
    let before : get_or l i 0 + former_from ≡ get_or k j 0 + former_from = sym (former-next s v l i hl li) ∙ ap (λ a. former_word s a) e ∙ former-next s w k j hk lj in
    let r = same-place s v w l k lv lw hl hk i j (omega (arith, li)) (omega (arith, lj)) (omega (arith, before)) in
    (r.0, omega (arith, r.1))

-- the part of the definition that the rest follows from
pub record Links (m : Areas) (firsts : List (List ℕ)) (sets : List ℕ) (chain : Space → List ℕ) : Type 0 where
  pub heads : (x : Space) → IsRegionOf m x → head_word firsts x ≡ head_to (chain x)
  pub linked : (x : Space) → IsRegionOf m x → AreLinked sets (space_index x) (chain x)
  pub within : (x : Space) → IsRegionOf m x → All (λ a. a < heap_length m) (chain x)
  pub free : (a : ℕ) → a < heap_length m → ((x : Space) → IsRegionOf m x → Contains (chain x) a → ⊥) → (next_word sets a ≡ 0) × (former_word sets a ≡ 0)

pub links-chains : (m : Areas) (f : List (List ℕ)) (s : List ℕ) (chain : Space → List ℕ) → IsAreas m → Links m f s chain → AreChains m f s chain
links-chains m f s chain areas h = record {
  heads = h.heads;
  linked = h.linked;
  within = h.within;
  free = h.free;
  once = λ x r i j d lt in_list e.
      let ix = region-index m x areas r in
      let at_i : get_or (chain x) i 0 ≡ get_or (chain x) i d = get_or_default (chain x) i 0 d (omega (arith, lt, in_list)) in
      let at_j : get_or (chain x) j d ≡ get_or (chain x) j 0 = get_or_default (chain x) j d 0 in_list in
      let p = same-place s (space_index x) (space_index x) (chain x) (chain x) ix.1 ix.1 (h.linked x r) (h.linked x r) i j (omega (arith, lt, in_list)) in_list (at_i ∙ e ∙ at_j) in
      omega (arith, lt, p.1);
  apart = λ x y a r q c d.
      let at_c : get_or (chain x) c.0 0 ≡ a = get_or_default (chain x) c.0 0 a c.1 ∙ c.2 in
      let at_d : get_or (chain y) d.0 0 ≡ a = get_or_default (chain y) d.0 0 a d.1 ∙ d.2 in
      let p = same-place s (space_index x) (space_index y) (chain x) (chain y) (region-index m x areas r).1 (region-index m y areas q).1 (h.linked x r) (h.linked y q) c.0 d.0 c.1 d.1 (at_c ∙ sym at_d) in
      region-own m x y areas r q p.0;
}

pub chains-links : (m : Areas) (f : List (List ℕ)) (s : List ℕ) (chain : Space → List ℕ) → AreChains m f s chain → Links m f s chain
chains-links m f s chain h = record { heads = h.heads; linked = h.linked; within = h.within; free = h.free }

-- first words lead through the slots in their order
pub followed-is : (n : ℕ) (s : List ℕ) (w : ℕ) (l : List ℕ) → AreLinked s w l → length l ≤ n → followed n s (head_to l) ≡ l
unfolding followed
followed-is zero s w [] h le = refl
followed-is (suc n) s w [] h le = refl
followed-is zero s w (a ∷ l) h le = absurd (omega arith)
followed-is (suc n) s w (a ∷ l) h le =
    let on : next_word s a - 1 ≡ head_to l = omega (arith, h.0) in
    rw (add-one a) (ap (λ k. a ∷ followed n s k) on ∙ ap (λ (k : List ℕ). a ∷ k) (followed-is n s (a + former_from) l h.2 (omega (arith, le))))

-- a chain is no longer than the heap
pub chain-fits : (m : Areas) (f : List (List ℕ)) (s : List ℕ) (chain : Space → List ℕ) → AreChains m f s chain → (x : Space) → IsRegionOf m x → length (chain x) ≤ heap_length m
chain-fits m f s chain h x r =
    length-le_from_distinct_below (chain x) (heap_length m) (IsDistinct-from_AllPairs Decides-eqb (chain x) (h.once x r))
    (λ q t. All-contains (λ a. a < heap_length m) (chain x) q (h.within x r) (Contains-from_any (λ y z t. (Decides-eqb y z).0 t) q (chain x) t))

-- the words of chains decode to them
pub chain-is : (m : Areas) (f : List (List ℕ)) (s : List ℕ) (chain : Space → List ℕ) → AreChains m f s chain → (x : Space) → IsRegionOf m x → chain_of m f s x ≡ chain x
chain-is m f s chain h x r =
    ap (followed (heap_length m) s) (h.heads x r) ∙ followed-is (heap_length m) s (space_index x) (chain x) (h.linked x r) (chain-fits m f s chain h x r)

-- chains that are the same at each region
pub chains-same : (m : Areas) (f : List (List ℕ)) (s : List ℕ) (chain other : Space → List ℕ) → ((x : Space) → IsRegionOf m x → other x ≡ chain x) → AreChains m f s chain → AreChains m f s other
chains-same m f s chain other same h =
    let back : (x : Space) → IsRegionOf m x → chain x ≡ other x = λ x r. sym (same x r) in
    record {
      heads = λ x r. subst (λ (l : List ℕ). head_word f x ≡ head_to l) (back x r) (h.heads x r);
      linked = λ x r. subst (AreLinked s (space_index x)) (back x r) (h.linked x r);
      within = λ x r. subst (All (λ a. a < heap_length m)) (back x r) (h.within x r);
      free = λ a lt none. h.free a lt (λ x r c. none x r (subst (λ (l : List ℕ). Contains l a) (back x r) c));
      once = λ x r. subst (AllPairs (λ (a b : ℕ). a ≢ b)) (back x r) (h.once x r);
      apart = λ x y a r q c d. h.apart x y a r q (subst (λ (l : List ℕ). Contains l a) (same x r) c) (subst (λ (l : List ℕ). Contains l a) (same y q) d);
    }

-- the agreement of words is a proposition
pub linked-prop : (s : List ℕ) (w : ℕ) (l : List ℕ) → IsProp (AreLinked s w l)
linked-prop s w [] = hlevel props
linked-prop s w (a ∷ l) = (let rest = linked-prop s (a + former_from) l in hlevel (props, rest))

pub sets-stand : (m : Areas) (f : List (List ℕ)) (s : List ℕ) (chain : Space → List ℕ) → AreChains m f s chain → SetsStand m f s
sets-stand m f s chain h = chains-same m f s chain (chain_of m f s) (chain-is m f s chain h) h
