-- The free pages, with the pages that calls in flight have claimed.
use Rattle.std.proofs.Common.{◌≡◌, ◌≢◌, ℕ, ◌+◌, ◌≤◌, ◌<◌, List, [], ◌∷◌, ◌++◌, length, get_or, set, take, suc, refl, sym, ap, subst, ◌∙◌, arith, length-set, length-take, length-drop, get_or-set_same, get_or-set_other}
use Rattle.std.specs.Prelude.{◌↔◌}
use Rattle.std.specs.List.{All, AllPairs, Contains}
use Rattle.std.proofs.lemmas.List.Elements.{All-contains, Contains-append_cases, Contains-append_left, Contains-append_right, Contains-get_or}
use Rattle.std.proofs.lemmas.List.Kept.{AllPairs-cons}
use Rattle.std.proofs.Math.Logic.{⊎_elim}
use Rattle.heap_words.specs.declared.map.Areas.{Areas}
use Rattle.heap_words.specs.declared.TheConstants.{HEAD_WORDS}
use Rattle.yak_model.specs.Placed.{space_word}
use Rattle.yak_model.specs.Stands.{PoolStands, claim_counter, free_pages, pool_length}
use Rattle.region_pages.proofs.Claims.{Contains-behind, Contains-cases, Contains-front}
use Rattle.region_pages.proofs.Freed.{rebuilt_free}
use Rattle.calls_in_flight.specs.Whole.{free_with, heads_with, pool_back}
use Rattle.calls_in_flight.proofs.Covers.{pairs-head, pairs-tail}

abbrev pub Differ : ℕ → ℕ → Type 0
Differ a b = a ≢ b

-- a list is exactly the free pages, each once
pub record AreFree (m : Areas) (pages : List ℕ) (table : List (List ℕ)) : Type 0 where
  pub free : (p : ℕ) → Contains pages p ↔ ((p < m.pages) × (space_word table p ≡ 0))
  pub once : AllPairs Differ pages
  pub few : length pages ≤ m.pages

free_few : (heads pool : List ℕ) → length (free_pages heads pool) ≤ pool_length heads
free_few heads pool = omega (arith, length-drop (claim_counter heads) (take (pool_length heads) pool), length-take (pool_length heads) pool)

-- the pool with claimed pages put back
pub pool-stands : (m : Areas) (ps heads pool : List ℕ) (table : List (List ℕ)) → length heads ≡ HEAD_WORDS → pool_length heads ≤ m.pages → claim_counter heads ≤ pool_length heads + m.threads → AreFree m (free_with ps heads pool) table → PoolStands m (heads_with ps heads pool) (pool_back ps heads pool) table
pool-stands m [] heads pool table long within passed h = record { within = within; passed = passed; free = h.free; once = h.once }
pool-stands m (p ∷ ps) heads pool table long within passed h =
    let all : List ℕ = free_with (p ∷ ps) heads pool in
    let back : free_pages (heads_with (p ∷ ps) heads pool) (pool_back (p ∷ ps) heads pool) ≡ all = rebuilt_free heads all pool long in
    let count : pool_length (heads_with (p ∷ ps) heads pool) ≡ length all = get_or-set_same (set heads 1 0) 2 (length all) 0 (omega (arith, long, length-set heads 1 0)) in
    let claims : claim_counter (heads_with (p ∷ ps) heads pool) ≡ 0 = get_or-set_other (set heads 1 0) 2 1 (length all) 0 (omega arith) ∙ get_or-set_same heads 1 0 0 (omega (arith, long)) in
    record {
      within = rw count h.few;
      passed = omega (arith, claims);
      free = λ q. subst (λ (xs : List ℕ). Contains xs q ↔ ((q < m.pages) × (space_word table q ≡ 0))) (sym back) (h.free q);
      once = subst (AllPairs Differ) (sym back) h.once;
    }

pub pool-free : (m : Areas) (ps heads pool : List ℕ) (table : List (List ℕ)) → length heads ≡ HEAD_WORDS → PoolStands m (heads_with ps heads pool) (pool_back ps heads pool) table → AreFree m (free_with ps heads pool) table
pool-free m [] heads pool table long h = record { free = h.free; once = h.once; few = omega (arith, free_few heads pool, h.within) }
pool-free m (p ∷ ps) heads pool table long h =
    let all : List ℕ = free_with (p ∷ ps) heads pool in
    let back : free_pages (heads_with (p ∷ ps) heads pool) (pool_back (p ∷ ps) heads pool) ≡ all = rebuilt_free heads all pool long in
    let count : pool_length (heads_with (p ∷ ps) heads pool) ≡ length all = get_or-set_same (set heads 1 0) 2 (length all) 0 (omega (arith, long, length-set heads 1 0)) in
    record {
      free = λ q. subst (λ (xs : List ℕ). Contains xs q ↔ ((q < m.pages) × (space_word table q ≡ 0))) back (h.free q);
      once = subst (AllPairs Differ) back h.once;
      few = rw (← count) h.within;
    }

-- ---- a page of the list may stand anywhere in it

all-in : (P : ℕ → Type 0) (xs : List ℕ) → ((y : ℕ) → Contains xs y → P y) → All P xs
all-in P xs h j d lt = h (get_or xs j d) (Contains-get_or xs j d lt)

contains-moved : (xs ys : List ℕ) (p q : ℕ) → Contains (xs ++ p ∷ ys) q → Contains (p ∷ (xs ++ ys)) q
contains-moved xs ys p q h = ⊎_elim
    (λ (l : Contains xs q). Contains-behind (xs ++ ys) p q (Contains-append_left xs ys q l))
    (λ (r : Contains (p ∷ ys) q). ⊎_elim
    (λ (e : p ≡ q). subst (Contains (p ∷ (xs ++ ys))) e (Contains-front (xs ++ ys) p))
    (λ (b : Contains ys q). Contains-behind (xs ++ ys) p q (Contains-append_right xs ys q b))
    (Contains-cases ys p q r))
    (Contains-append_cases xs (p ∷ ys) q h)

contains-put : (xs ys : List ℕ) (p q : ℕ) → Contains (p ∷ (xs ++ ys)) q → Contains (xs ++ p ∷ ys) q
contains-put xs ys p q h = ⊎_elim
    (λ (e : p ≡ q). Contains-append_right xs (p ∷ ys) q (subst (Contains (p ∷ ys)) e (Contains-front ys p)))
    (λ (b : Contains (xs ++ ys) q). ⊎_elim
    (λ (l : Contains xs q). Contains-append_left xs (p ∷ ys) q l)
    (λ (r : Contains ys q). Contains-append_right xs (p ∷ ys) q (Contains-behind ys p q r))
    (Contains-append_cases xs ys q b))
    (Contains-cases (xs ++ ys) p q h)

once-moved : (xs ys : List ℕ) (p : ℕ) → AllPairs Differ (xs ++ p ∷ ys) → AllPairs Differ (p ∷ (xs ++ ys))
once-moved [] ys p h = h
once-moved (x ∷ xs) ys p h =
    let first : All (Differ x) (xs ++ p ∷ ys) = pairs-head Differ x (xs ++ p ∷ ys) h in
    let rest : AllPairs Differ (p ∷ (xs ++ ys)) = once-moved xs ys p (pairs-tail Differ x (xs ++ p ∷ ys) h) in
    let here : x ≢ p = All-contains (Differ x) (xs ++ p ∷ ys) p first (contains-put xs ys p p (Contains-front (xs ++ ys) p)) in
    let far : All (Differ x) (xs ++ ys) = all-in (Differ x) (xs ++ ys) (λ y c. All-contains (Differ x) (xs ++ p ∷ ys) y first (contains-put xs ys p y (Contains-behind (xs ++ ys) p y c))) in
    let own : All (Differ p) (x ∷ (xs ++ ys)) = all-in (Differ p) (x ∷ (xs ++ ys)) (λ y c. ⊎_elim
    (λ (e : x ≡ y). λ z. here (e ∙ sym z))
    (λ (b : Contains (xs ++ ys) y). All-contains (Differ p) (xs ++ ys) y (pairs-head Differ p (xs ++ ys) rest) b)
    (Contains-cases (xs ++ ys) x y c)) in
    AllPairs-cons Differ p (x ∷ (xs ++ ys)) own (AllPairs-cons Differ x (xs ++ ys) far (pairs-tail Differ p (xs ++ ys) rest))

once-put : (xs ys : List ℕ) (p : ℕ) → AllPairs Differ (p ∷ (xs ++ ys)) → AllPairs Differ (xs ++ p ∷ ys)
once-put [] ys p h = h
once-put (x ∷ xs) ys p h =
    let own : All (Differ p) (x ∷ (xs ++ ys)) = pairs-head Differ p (x ∷ (xs ++ ys)) h in
    let tail : AllPairs Differ (x ∷ (xs ++ ys)) = pairs-tail Differ p (x ∷ (xs ++ ys)) h in
    let far : All (Differ x) (xs ++ ys) = pairs-head Differ x (xs ++ ys) tail in
    let behind : All (Differ p) (xs ++ ys) = all-in (Differ p) (xs ++ ys) (λ y c. All-contains (Differ p) (x ∷ (xs ++ ys)) y own (Contains-behind (xs ++ ys) x y c)) in
    let rest : AllPairs Differ (xs ++ p ∷ ys) = once-put xs ys p (AllPairs-cons Differ p (xs ++ ys) behind (pairs-tail Differ x (xs ++ ys) tail)) in
    let here : p ≢ x = All-contains (Differ p) (x ∷ (xs ++ ys)) x own (Contains-front (xs ++ ys) x) in
    AllPairs-cons Differ x (xs ++ p ∷ ys) (all-in (Differ x) (xs ++ p ∷ ys) (λ y c. ⊎_elim
    (λ (e : p ≡ y). λ z. here (e ∙ sym z))
    (λ (b : Contains (xs ++ ys) y). All-contains (Differ x) (xs ++ ys) y far b)
    (Contains-cases (xs ++ ys) p y (contains-moved xs ys p y c)))) rest

length-moved : (xs ys : List ℕ) (p : ℕ) → length (xs ++ p ∷ ys) ≡ suc (length (xs ++ ys))
length-moved [] ys p = refl
length-moved (x ∷ xs) ys p = ap suc (length-moved xs ys p)

pub free-moved : (m : Areas) (xs ys : List ℕ) (p : ℕ) (table : List (List ℕ)) → AreFree m (xs ++ p ∷ ys) table → AreFree m (p ∷ (xs ++ ys)) table
free-moved m xs ys p table h = record {
  free = λ q. (λ c. (h.free q).0 (contains-put xs ys p q c), λ b. contains-moved xs ys p q ((h.free q).1 b));
  once = once-moved xs ys p h.once;
  few = omega (arith, h.few, length-moved xs ys p);
}

pub free-put : (m : Areas) (xs ys : List ℕ) (p : ℕ) (table : List (List ℕ)) → AreFree m (p ∷ (xs ++ ys)) table → AreFree m (xs ++ p ∷ ys) table
free-put m xs ys p table h = record {
  free = λ q. (λ c. (h.free q).0 (contains-moved xs ys p q c), λ b. contains-put xs ys p q ((h.free q).1 b));
  once = once-put xs ys p h.once;
  few = omega (arith, h.few, length-moved xs ys p);
}
