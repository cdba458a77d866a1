-- What a claim does to the free pages, and that it keeps the pool, the table and the current pages.
use Rattle.std.proofs.Common.{◌≡◌, ◌≢◌, ℕ, zero, suc, ◌+◌, ◌-◌, ◌≤◌, ◌<◌, List, [], ◌∷◌, length, get_or, set, take, drop, refl, sym, ap, ◌∙◌, subst, arith, inl, inr, ◌⊎◌, ⊎_elim, get_or-set_same, get_or-set_other, length-take}
use Rattle.std.proofs.lemmas.Bool.{cases_eq}
use Rattle.std.specs.List.{AllPairs, Contains}
use Rattle.std.proofs.lemmas.List.{drop_more, drop_all, get_or-take}
use Rattle.heap_words.specs.declared.map.Areas.{Areas}
use Rattle.heap_words.specs.declared.TheConstants.{HEAD_WORDS}
use Rattle.heap_words.specs.Contents.{Contents}
use Rattle.epoch_lattice.specs.declared.Space.{Space}
use Rattle.epoch_lattice.specs.Lattice.{space_index}
use Rattle.yak_model.specs.Placed.{space_word, used_mark}
use Rattle.yak_model.specs.Stands.{claim_counter, pool_length, free_pages, PoolStands, current, CurrentsStand}
use Rattle.yak_model.specs.Packed.{IsSpaceOf}
use Rattle.region_pages.specs.Pages.{TableFits}
use Rattle.region_pages.proofs.Shapes.{Shape}
use Rattle.region_pages.proofs.Entries.{entry-same, entry-other}

-- the entry of a page that is claimed
abbrev pub entry : Space → List ℕ
entry x = (space_index x + 1) ∷ 0 ∷ []

-- no page is free where the counter has passed the pool
pub none_free : (heads pool : List ℕ) → pool_length heads ≤ claim_counter heads → free_pages heads pool ≡ []
none_free heads pool h =
    let short : length (take (pool_length heads) pool) ≤ claim_counter heads = omega (arith, length-take {A = ℕ} (pool_length heads) pool) in
    drop_all (claim_counter heads) (take (pool_length heads) pool) short

-- the first free page, and those after it
pub first_free : (heads pool : List ℕ) → length heads ≡ HEAD_WORDS → claim_counter heads < pool_length heads → pool_length heads ≤ length pool → free_pages heads pool ≡ get_or pool (claim_counter heads) 0 ∷ free_pages (set heads 1 (claim_counter heads + 1)) pool
first_free heads pool long lt fits =
    let k : ℕ = claim_counter heads in
    let n : ℕ = pool_length heads in
    let inside : k < length (take n pool) = omega (arith, length-take {A = ℕ} n pool) in
    let in_heads : 1 < length heads = omega arith in
    let counter : get_or (set heads 1 (k + 1)) 1 0 ≡ k + 1 = get_or-set_same heads 1 (k + 1) 0 in_heads in
    let size : get_or (set heads 1 (k + 1)) 2 0 ≡ n = get_or-set_other heads 1 2 (k + 1) 0 (omega arith) in
    drop_more (take n pool) k 0 inside
    ∙ ap (λ (p : ℕ). p ∷ drop (k + 1) (take n pool)) (get_or-take n pool k 0 lt)
    ∙ ap (λ (j : ℕ). get_or pool k 0 ∷ drop j (take n pool)) (sym counter)
    ∙ ap (λ (j : ℕ). get_or pool k 0 ∷ drop (get_or (set heads 1 (k + 1)) 1 0) (take j pool)) (sym size)

-- members of a list with another in front
pub Contains-front : (xs : List ℕ) (y : ℕ) → Contains (y ∷ xs) y
Contains-front xs y = (0, omega arith, refl)

pub Contains-behind : (xs : List ℕ) (y x : ℕ) → Contains xs x → Contains (y ∷ xs) x
Contains-behind xs y x h = (suc h.0, omega (arith, h.1), h.2)

pub Contains-cases : (xs : List ℕ) (y x : ℕ) → Contains (y ∷ xs) x → (y ≡ x) ⊎ Contains xs x
Contains-cases xs y x (zero, lt, e) = inl e
Contains-cases xs y x (suc k, lt, e) = inr (k, omega (arith, lt), e)

pub AllPairs-behind : (xs : List ℕ) (y : ℕ) → AllPairs (λ (a b : ℕ). a ≢ b) (y ∷ xs) → AllPairs (λ (a b : ℕ). a ≢ b) xs
AllPairs-behind xs y h i j d lt le = h (suc i) (suc j) d (omega (arith, lt)) (omega (arith, le))

pub front_apart : (xs : List ℕ) (y x : ℕ) → AllPairs (λ (a b : ℕ). a ≢ b) (y ∷ xs) → Contains xs x → x ≢ y
front_apart xs y x h c e = h 0 (suc c.0) x (omega arith) (omega (arith, c.1)) (sym e ∙ sym c.2)

-- a free page is one of the heap, and free in the page table
pub free_page : (m : Areas) (heads pool : List ℕ) (table : List (List ℕ)) (page : ℕ) (rest : List ℕ) → PoolStands m heads pool table → free_pages heads pool ≡ page ∷ rest → (page < m.pages) × (space_word table page ≡ 0)
free_page m heads pool table page rest stands taken = (stands.free page).0 (subst (λ (xs : List ℕ). Contains xs page) (sym taken) (Contains-front rest page))

-- the pool after a claim
pub pool-claimed : (m : Areas) (heads pool : List ℕ) (table : List (List ℕ)) (page : ℕ) (x : Space) → length heads ≡ HEAD_WORDS → length table ≡ m.pages → PoolStands m heads pool table → claim_counter heads < pool_length heads → free_pages heads pool ≡ page ∷ free_pages (set heads 1 (claim_counter heads + 1)) pool → PoolStands m (set heads 1 (claim_counter heads + 1)) pool (set table page (entry x))
pool-claimed m heads pool table page x long rows stands lt taken =
    let k : ℕ = claim_counter heads in
    let heads' : List ℕ = set heads 1 (k + 1) in
    let rest : List ℕ = free_pages heads' pool in
    let table' : List (List ℕ) = set table page (entry x) in
    let in_heads : 1 < length heads = omega arith in
    let counter : claim_counter heads' ≡ k + 1 = get_or-set_same heads 1 (k + 1) 0 in_heads in
    let size : pool_length heads' ≡ pool_length heads = get_or-set_other heads 1 2 (k + 1) 0 (omega arith) in
    let once : AllPairs (λ (a b : ℕ). a ≢ b) (page ∷ rest) = subst (AllPairs (λ (a b : ℕ). a ≢ b)) taken stands.once in
    let here : (page < m.pages) × (space_word table page ≡ 0) = (stands.free page).0 (subst (λ (xs : List ℕ). Contains xs page) (sym taken) (Contains-front rest page)) in
    let within : page < length table = omega (arith, here.0) in
    record {
      within = omega (arith, stands.within);
      passed = omega (arith, stands.passed);
      free = λ p. (
        λ (h : Contains rest p).
            let ne : p ≢ page = front_apart rest page p once h in
            let old = (stands.free p).0 (subst (λ (xs : List ℕ). Contains xs p) (sym taken) (Contains-behind rest page p h)) in
            (old.0, ap (λ (r : List ℕ). get_or r 0 0) (entry-other table page p (entry x) ne) ∙ old.1),
        λ (h : (p < m.pages) × (space_word table' p ≡ 0)).
            ⊎_elim (λ (e : p ≡ page). absurd (omega (arith, h.1, ap (λ (q : ℕ). space_word table' q) e, ap (λ (r : List ℕ). get_or r 0 0) (entry-same table page (entry x) within))))
            (λ (ne : p ≢ page).
            let old = (stands.free p).1 (h.0, sym (ap (λ (r : List ℕ). get_or r 0 0) (entry-other table page p (entry x) ne)) ∙ h.1) in
            ⊎_elim (λ (e : page ≡ p). absurd (ne (sym e))) (λ (c : Contains rest p). c) (Contains-cases rest page p (subst (λ (xs : List ℕ). Contains xs p) taken old)))
            (cases_eq p page),
      );
      once = AllPairs-behind rest page once;
    }

-- the table after a claim
pub table-claimed : (m : Areas) (table : List (List ℕ)) (page : ℕ) (x : Space) → length table ≡ m.pages → page < m.pages → IsSpaceOf m x → TableFits m table → TableFits m (set table page (entry x))
table-claimed m table page x rows lt valid fits =
    let within : page < length table = omega arith in
    record {
      spaces = λ p h.
          ⊎_elim (λ (e : p ≡ page). inr (x, valid, ap (λ (q : ℕ). space_word (set table page (entry x)) q) e ∙ ap (λ (r : List ℕ). get_or r 0 0) (entry-same table page (entry x) within)))
          (λ (ne : p ≢ page). rw (entry-other table page p (entry x) ne) (fits.spaces p h))
          (cases_eq p page);
      marks = λ p h.
          ⊎_elim (λ (e : p ≡ page). omega (arith, ap (λ (q : ℕ). used_mark (set table page (entry x)) q) e, ap (λ (r : List ℕ). get_or r 1 0) (entry-same table page (entry x) within)))
          (λ (ne : p ≢ page). rw (entry-other table page p (entry x) ne) (fits.marks p h))
          (cases_eq p page);
    }

-- the current pages after a free page is entered for a space
pub currents-claimed : (m : Areas) (currents table : List (List ℕ)) (page : ℕ) (r : List ℕ) → space_word table page ≡ 0 → CurrentsStand m currents table → CurrentsStand m currents (set table page r)
currents-claimed m currents table page r free stands = record {
  belong = λ t d ht le hd some.
      let old = stands.belong t d ht le hd some in
      let ne : current currents t d - 1 ≢ page = λ e. omega (arith, free, old.1, ap (λ (q : ℕ). space_word table q) e) in
      (old.0, ap (λ (x : List ℕ). get_or x 0 0) (entry-other table page (current currents t d - 1) r ne) ∙ old.1);
  once = stands.once;
}

-- what the first entry of the pool is that no claim took
pub first_read : (m : Areas) (c : Contents) (k n page : ℕ) → Shape m c → PoolStands m c.heads c.pool c.table → k ≡ claim_counter c.heads → n ≡ pool_length c.heads → k < n → page ≡ get_or c.pool k 0 → (page < m.pages) × (space_word c.table page ≡ 0) × (claim_counter c.heads < pool_length c.heads) × (free_pages c.heads c.pool ≡ page ∷ free_pages (set c.heads 1 (claim_counter c.heads + 1)) c.pool)
first_read m c k n page s stands hk hn below hp =
    let lt : claim_counter c.heads < pool_length c.heads = omega arith in
    let fits : pool_length c.heads ≤ length c.pool = omega (arith, s.pool, stands.within) in
    let rest : List ℕ = free_pages (set c.heads 1 (claim_counter c.heads + 1)) c.pool in
    let is : get_or c.pool (claim_counter c.heads) 0 ≡ page = ap (λ (i : ℕ). get_or c.pool i 0) (sym hk) ∙ sym hp in
    let taken : free_pages c.heads c.pool ≡ page ∷ rest = first_free c.heads c.pool s.heads lt fits ∙ ap (λ (p : ℕ). p ∷ rest) is in
    let here = free_page m c.heads c.pool c.table page rest stands taken in
    (here.0, here.1, lt, taken)
