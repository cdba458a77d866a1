use Rattle.std.specs.FinMap as finite
use Rattle.std.specs.Option.{is_some}
use Rattle.std.proofs.Math.Path.{fun_ext}
use Rattle.std.proofs.Common.{◌≡◌, ◌≢◌, ℕ, ◌+◌, ◌-◌, ◌*◌, ◌≤◌, ◌<◌, Bool, true, false, cond, Option, Some, None, List, [], ◌∷◌, take, map, replicate, length, get_or, set, zero, suc, refl, sym, ap, subst, ◌∙◌, arith, inl, inr, length-take, get_or-take, get_or-set_same}
use Rattle.std.specs.Prelude.{◌↔◌, slice_index, nat_eq, ◌&&◌}
use Rattle.std.specs.List.{All, AllPairs, Contains, filter, sum_by}
use Rattle.std.proofs.lemmas.Bool.{eqb-true}
use Rattle.std.proofs.lemmas.Bool.Decides.{nat_tests}
use Rattle.std.proofs.lemmas.List.{length-replicate, get_or-replicate, get_or_default}
use Rattle.std.proofs.lemmas.List.Sums.{length-filter}
use Rattle.std.proofs.lemmas.List.Elements.{All-replicate, All-cons, All-nil}
use Rattle.object_layout.specs.declared.names.Name.{Name}
use Rattle.object_layout.specs.declared.TheConstants.{MAX_FIELDS, MAX_SERIAL, OBJECT_WORDS}
use Rattle.heap_words.specs.declared.map.Areas.{Areas}
use Rattle.heap_words.specs.declared.TheConstants.{STACK_SLOTS, BUFFER_ENTRIES}
use Rattle.object_layout.specs.Layout.{header_word}
use Rattle.heap_words.specs.Map.{IsAreas, heap_length, max_depth, page_words, rest_words}
use Rattle.heap_words.specs.Contents.{InLimits, zero_contents}
use Rattle.heap_words.proofs.Zero.{map-replicate}
use Rattle.epoch_lattice.specs.declared.Space.{Space}
use Rattle.epoch_lattice.specs.declared.Space.TheVariants.{Control, Region}
use Rattle.epoch_lattice.specs.Lattice.{IsValid, space_index}
use Rattle.yak_model.specs.declared.datum.Datum.TheVariants.{Null, Object}
use Rattle.yak_model.specs.Names.{name_cmp, root_name}
use Rattle.yak_model.specs.Graph.{Fields, Thread, standard_limits}
use Rattle.yak_model.specs.Spaces.{content_at, home_of, opening_spaces}
use Rattle.yak_model.proofs.Names.{get-same, get-other, same_or_other}
use Rattle.yak_model.specs.State.{State, Thing, IsDatum, IsClosed, object_of, thing_of, view}
use Rattle.yak_model.specs.Chains.{AreChains, IsRegionOf, chain_of, head_word}
use Rattle.yak_model.proofs.Chains.{chain-is, contains-none, sets-stand}
use Rattle.yak_model.specs.Stands.{SpacesOpen, NamesMade, RestsZero, PoolStands, CurrentsStand, SetsStand, RegionsDense, IsWhole, StandsAs, Stands, pages_of}
use Rattle.yak_model.specs.Placed.{Places, names_of, datum_word, space_word, used_mark, size_by, IsAt, Tiles, ObjectAt, HeapStands}
use Rattle.yak_model.specs.declared.TheConstants.{ROOT_FIELDS}
use Rattle.yak_model.specs.Room.{root_words}
use Rattle.heap_core.specs.Opening.{opened, Counts}
use Rattle.std.specs.Prelude.{◌==◌}

-- the root as it lies in the heap
abbrev pub root : Thing
root = record { home = Control; fields = replicate ROOT_FIELDS Null }

abbrev pub is_root : Name → Bool
is_root n = nat_eq n.thread 0 && nat_eq n.serial 0

-- what is shown of the opening state: the root alone, to which each stack refers
abbrev pub opening : Areas → State
opening m =
    record {
      objects = λ n. cond (is_root n) (Some root) None;
      stacks = replicate m.threads (Object root_name ∷ []);
      depths = replicate m.threads 0;
      made = replicate m.threads 0;
    }

abbrev lay : ℕ → Places
lay n = record { pages = (root_name ∷ []) ∷ replicate n []; at = λ _. 0 }

abbrev opening_map : ℕ → ℕ → Areas
opening_map n k = record { pages = suc n; threads = suc k }

and_true : (a b : Bool) → (a && b) ≡ true → (a ≡ true) × (b ≡ true)
and_true true b h = (refl, h)
and_true false b h = cc

is_root-true : (n : Name) → is_root n ≡ true → n ≡ root_name
is_root-true n h =
    let both = and_true (nat_eq n.thread 0) (nat_eq n.serial 0) h in
    let t : n.thread ≡ 0 = eqb-true n.thread 0 both.0 in
    let k : n.serial ≡ 0 = eqb-true n.serial 0 both.1 in
    let x : n ≡ record { thread = n.thread; serial = n.serial } = refl in
    rw (x, t, k) refl

some_from : (b : Bool) (o : Thing) → cond b (Some root) None ≡ Some o → (b ≡ true) × (root ≡ o)
some_from true o h = (refl, cc)
some_from false o h = cc

-- the root alone is present
pub only_root : (n : Name) (o : Thing) → cond (is_root n) (Some root) None ≡ Some o → (n ≡ root_name) × (root ≡ o)
only_root n o h =
    let p = some_from (is_root n) o h in
    (is_root-true n p.0, p.1)

abbrev table : ℕ → List (List ℕ)
table n = (1 ∷ root_words ∷ []) ∷ replicate n (0 ∷ 0 ∷ [])

free_row : (n q : ℕ) (d : List ℕ) → q < n → get_or (replicate n (0 ∷ 0 ∷ [])) q d ≡ 0 ∷ 0 ∷ []
free_row n q d h = get_or-replicate n q (0 ∷ 0 ∷ []) d h

no_names : (n q : ℕ) → get_or (replicate n (let ns : List Name = [] in ns)) q [] ≡ []
no_names zero q = refl
no_names (suc n) zero = refl
no_names (suc n) (suc q) = no_names n q

pub zeros : (n i : ℕ) → get_or (replicate n (let z : ℕ = 0 in z)) i 0 ≡ 0
zeros zero i = refl
zeros (suc n) zero = refl
zeros (suc n) (suc i) = zeros n i

pub nulls : (n i : ℕ) → get_or (replicate n Null) i Null ≡ Null
nulls zero i = refl
nulls (suc n) zero = refl
nulls (suc n) (suc i) = nulls n i

abbrev root_alone : Name → Option Thing
root_alone x = cond (is_root x) (Some root) None

-- the root is the only name in a page
at_root : (n : ℕ) (x : Name) (p k : ℕ) → IsAt (lay n) x p k → (x ≡ root_name) × (p ≡ 0) × (k ≡ 0)
at_root n x zero zero h = (sym h.name, refl, refl)
at_root n x zero (suc k) h = let lt : suc k < 1 = h.place in absurd (omega arith)
at_root n x (suc q) k h =
    let lt : k < length (get_or (replicate n (let ns : List Name = [] in ns)) q []) = h.place in
    let lt' : k < 0 = subst (λ (ns : List Name). k < length ns) (no_names n q) lt in
    absurd (omega arith)

page_sum : (m : Areas) (n p : ℕ) → sum_by (size_by root_alone) (names_of (lay n) p) ≤ page_words m
page_sum m n zero = omega arith
page_sum m n (suc q) = rw (no_names n q) (omega arith)

first_place : (n : ℕ) → IsAt (lay n) root_name 0 0
first_place n = record { page = omega arith; place = omega arith; name = refl }

tiles : (m : Areas) (n : ℕ) → Tiles (page_words m) (size_by root_alone) (lay n)
tiles m n = record {
  fits = λ p h. page_sum m n p;
  places = λ x p k h. let r = at_root n x p k h in rw (r.1, r.2) refl;
  once = λ x p k q j hx hy.
      let r = at_root n x p k hx in
      let s = at_root n x q j hy in
      (r.1 ∙ sym s.1, r.2 ∙ sym s.2);
}

-- the header of the root
abbrev root_header : ℕ
root_header = header_word (record { fields = ROOT_FIELDS; space = 0 })

behind : (N i : ℕ) → get_or {A = ℕ} (set (replicate N 0) 0 root_header) (suc i) 0 ≡ 0
behind zero i = refl
behind (suc N) i = zeros N i

root_laid : (N : ℕ) → 0 < N → ObjectAt (set (replicate N 0) 0 root_header) (λ _. 0) (λ _. 0) root_name root
root_laid N h =
    let long : 0 < length (replicate N (let z : ℕ = 0 in z)) = rw (length-replicate {A = ℕ} N 0) h in
    record {
      header = get_or-set_same (replicate N 0) 0 root_header 0 long;
      name = behind N 0;
      work_word = behind N 1;
      fields = λ f lt.
          let e : 0 + OBJECT_WORDS + f ≡ suc (2 + f) = omega arith in
          rw (e, nulls ROOT_FIELDS f) (behind N (2 + f));
    }

marks : (n p : ℕ) → p < suc n → used_mark (table n) p ≡ sum_by (size_by root_alone) (names_of (lay n) p)
marks n zero h = refl
marks n (suc q) h = let below : q < n = omega arith in rw (no_names n q, free_row n q [] below) refl

heap_stands : (n k : ℕ) (pool : List ℕ) → HeapStands (opening_map n k) (table n) (opened (opening_map n k) pool).heap root_alone (lay n) (λ _. 0)
heap_stands n k pool = record {
  count = ap suc (length-replicate {A = List Name} n []);
  tiles = tiles (opening_map n k) n;
  present = λ x o h. (0, 0, subst (λ y. IsAt (lay n) y 0 0) (sym (only_root x o h).0) (first_place n));
  whole = λ x p i h.
      let r = at_root n x p i h in
      (root, rw r.0 refl, rw r.1 refl);
  marks = marks n;
  held = λ x o h.
      let r = only_root x o h in
      rw (r.0, ← r.1) (root_laid (heap_length (opening_map n k)) (omega arith));
}

spaces_open : (n k : ℕ) (depths : List ℕ) → SpacesOpen (opening_map n k) (table n) depths
spaces_open n k depths zero h = inr (Control, refl, tt)
spaces_open n k depths (suc q) h = inl (let below : q < n = omega arith in rw (free_row n q [] below) refl)

names_made : (made : List ℕ) → NamesMade (λ x. cond (is_root x) (Some root) None) made
names_made made n o h =
    let p = (only_root n o h).0 in
    inl (ap (λ (x : Name). x.thread) p, ap (λ (x : Name). x.serial) p)

is_closed : (m : Areas) → IsClosed (opening m)
is_closed m = record {
  stacks = All-replicate (All (IsDatum (opening m).objects)) m.threads (Object root_name ∷ []) (All-cons (IsDatum (opening m).objects) (Object root_name) [] refl (All-nil (IsDatum (opening m).objects)));
  fields = λ n o h.
      let e : root ≡ o = (only_root n o h).1 in
      subst (λ (x : Thing). All (IsDatum (opening m).objects) x.fields × (length x.fields ≤ MAX_FIELDS)) e (All-replicate (IsDatum (opening m).objects) ROOT_FIELDS Null tt, omega arith);
}

in_limits : (m : Areas) (pool : List ℕ) → InLimits m (opened m pool)
in_limits m pool = record {
  depths = All-replicate (λ d. d ≤ max_depth m) m.threads 0 (omega arith);
  stacks = All-replicate (λ (st : List ℕ). length st ≤ STACK_SLOTS) m.threads (2 ∷ []) (omega arith);
  buffers = All-replicate (λ (es : List ℕ). length es ≤ BUFFER_ENTRIES) m.threads [] (omega arith);
}

free_in : (n : ℕ) (pool : List ℕ) (p : ℕ) → length pool ≡ suc n → Counts n pool → Contains (take n pool) p ↔ ((p < suc n) × (space_word (table n) p ≡ 0))
free_in n pool zero long counts = (
  λ h.
      let lt : h.0 < n = omega (arith, length-take n pool, h.1) in
      let v : get_or pool h.0 0 ≡ 0 = sym (get_or-take n pool h.0 0 lt) ∙ h.2 in
      absurd (omega (arith, v, counts h.0 lt)),
  λ h. absurd (omega arith),
)
free_in n pool (suc q) long counts = (
  λ h.
      let lt : h.0 < n = omega (arith, length-take n pool, h.1) in
      let within : h.0 < length pool = omega arith in
      let v : get_or pool h.0 0 ≡ suc q = get_or_default pool h.0 0 (suc q) within ∙ sym (get_or-take n pool h.0 (suc q) lt) ∙ h.2 in
      let same : h.0 ≡ q = omega (arith, v, counts h.0 lt) in
      let below : q < n = omega arith in
      (omega arith, rw (free_row n q [] below) refl),
  λ h.
      let below : q < n = omega arith in
      let within : q < length pool = omega arith in
      let v : get_or (take n pool) q (suc q) ≡ suc q = get_or-take n pool q (suc q) below ∙ get_or_default pool q (suc q) 0 within ∙ counts q below ∙ (let e : q + 1 ≡ suc q = omega arith in e) in
      (q, omega (arith, length-take n pool), v),
)

counts-apart : (n : ℕ) (pool : List ℕ) → length pool ≡ suc n → Counts n pool → AllPairs (λ (a b : ℕ). a ≢ b) (take n pool)
counts-apart n pool long counts i j d h k =
    let lj : j < n = omega (arith, length-take n pool) in
    let li : i < n = omega arith in
    let vi : get_or (take n pool) i d ≡ i + 1 = get_or-take n pool i d li ∙ get_or_default pool i d 0 (omega arith) ∙ counts i li in
    let vj : get_or (take n pool) j d ≡ j + 1 = get_or-take n pool j d lj ∙ get_or_default pool j d 0 (omega arith) ∙ counts j lj in
    λ same. absurd (omega (arith, vi, vj, same))

pool_stands : (n k : ℕ) (pool : List ℕ) → length pool ≡ suc n → Counts n pool → PoolStands (opening_map n k) (opened (opening_map n k) pool).heads pool (table n)
pool_stands n k pool long counts =
    let e : suc n - 1 ≡ n = omega arith in
    rw e (record {
      within = omega arith;
      passed = omega arith;
      free = λ p. free_in n pool p long counts;
      once = counts-apart n pool long counts;
    })

zero_rows : (w k q d : ℕ) → get_or (get_or (replicate k (replicate w (let z : ℕ = 0 in z))) q []) d 0 ≡ 0
zero_rows w zero q d = refl
zero_rows w (suc k) zero d = zeros w d
zero_rows w (suc k) (suc q) d = zero_rows w k q d

-- the current pages of threads of a depth at most
abbrev first_currents : ℕ → ℕ → List (List ℕ)
first_currents w k = (1 ∷ replicate w 0) ∷ replicate k (replicate (w + 1) 0)

-- one page is current
one_current : (w k q d : ℕ) → get_or (get_or (first_currents w k) q []) d 0 ≢ 0 → (q ≡ 0) × (d ≡ 0)
one_current w k zero zero ne = (refl, refl)
one_current w k zero (suc d) ne = absurd (ne (zeros w d))
one_current w k (suc q) d ne = absurd (ne (zero_rows (w + 1) k q d))

currents_stand : (n k : ℕ) (pool : List ℕ) → CurrentsStand (opening_map n k) (opened (opening_map n k) pool).currents (table n)
currents_stand n k pool = record {
  belong = λ t d ht hk hd ne.
      let p = one_current (max_depth (opening_map n k)) k (t - 1) d ne in
      rw (p.0, p.1) (omega arith, refl);
  once = λ t d u e ht hk hu hl ne same.
      let p = one_current (max_depth (opening_map n k)) k (t - 1) d ne in
      let q = one_current (max_depth (opening_map n k)) k (u - 1) e (λ z. ne (same ∙ z)) in
      (omega (arith, p.0, q.0), p.1 ∙ sym q.1);
}

-- the chains are empty
no_head : (m : Areas) (x : Space) → head_word (zero_contents m).firsts x ≡ 0
no_head m Control = refl
no_head m (Region t d) = zero_rows (max_depth m) m.threads (t - 1) (d - 1)

no_chains : (m : Areas) → AreChains m (zero_contents m).firsts (zero_contents m).sets (λ x. [])
no_chains m = record {
  heads = λ x r. no_head m x;
  linked = λ x r. tt;
  within = λ x r. All-nil (λ a. a < heap_length m);
  free = λ a lt none. (zeros (2 * heap_length m) (2 * a), zeros (2 * heap_length m) (2 * a + 1));
  once = λ x r i j d lt within. absurd (omega (arith, within));
  apart = λ x y a r s in_x. absurd (contains-none a in_x);
}

pub empty_chain : (m : Areas) (x : Space) → IsRegionOf m x → chain_of m (zero_contents m).firsts (zero_contents m).sets x ≡ []
empty_chain m = chain-is m (zero_contents m).firsts (zero_contents m).sets (λ x. []) (no_chains m)

sets_stand : (m : Areas) → SetsStand m (zero_contents m).firsts (zero_contents m).sets
sets_stand m = sets-stand m (zero_contents m).firsts (zero_contents m).sets (λ x. []) (no_chains m)

filter-none : (f : List ℕ → Bool) (n : ℕ) (r : List ℕ) → f r ≡ false → filter f (replicate n r) ≡ []
filter-none f zero r h = refl
filter-none f (suc n) r h = rw h (filter-none f n r h)

no_pages : (n t d : ℕ) → pages_of (table n) (Region t d) ≡ 0
no_pages n t d =
    let f = λ (r : List ℕ). slice_index r 0 == space_index (Region t d) + 1 in
    let one : f (1 ∷ root_words ∷ []) ≡ false = grind (arith, nat_tests) in
    let none : f (0 ∷ 0 ∷ []) ≡ false = grind (arith, nat_tests) in
    let empty : filter f (table n) ≡ [] = rw one (filter-none f n (0 ∷ 0 ∷ []) none) in
    sym (length-filter f (table n)) ∙ ap (λ (rs : List (List ℕ)). length rs) empty

regions_dense : (n k : ℕ) (currents : List (List ℕ)) → RegionsDense (opening_map n k) (table n) currents (lay n).pages root_alone
regions_dense n k currents t d ht hk hd hg some = absurd (omega (arith, no_pages n t d))

-- the words that have no use yet
rests_zero : (n k : ℕ) (pool : List ℕ) → RestsZero (opened (opening_map n k) pool).heads (opened (opening_map n k) pool).rests
rests_zero n k pool = record {
  heads = All-replicate (λ w. w ≡ 0) 5 0 refl;
  blocks = All-replicate (All (λ w. w ≡ 0)) (suc k) (replicate (rest_words (opening_map n k)) 0) (All-replicate (λ w. w ≡ 0) (rest_words (opening_map n k)) 0 refl);
}

opening_as : (n k : ℕ) (pool : List ℕ) → length pool ≡ suc n → Counts n pool → StandsAs (opening_map n k) (opened (opening_map n k) pool) (opening (opening_map n k)) (lay n)
opening_as n k pool long counts = record {
  heap = heap_stands n k pool;
  open_spaces = spaces_open n k (opening (opening_map n k)).depths;
  closed = is_closed (opening_map n k);
  stacks = sym (map-replicate (map (datum_word (λ _. 0))) (suc k) (Object root_name ∷ []));
  depths = refl;
  made = refl;
  serials = All-replicate (λ i. i ≤ MAX_SERIAL) (suc k) 0 (omega arith);
  threads = length-replicate {A = ℕ} (suc k) 0;
  names = names_made (opening (opening_map n k)).made;
  limits = in_limits (opening_map n k) pool;
  zero = rests_zero n k pool;
  pool = pool_stands n k pool long counts;
  currents = currents_stand n k pool;
  sets = sets_stand (opening_map n k);
  heads_closed = λ u d region closed. no_head (opening_map n k) (Region u d);
  dense = regions_dense n k (opened (opening_map n k) pool).currents;
}

-- the root alone has a home and a content
is_root-self : is_root root_name ≡ true
is_root-self = refl

other_root : (x : Name) → x ≢ root_name → is_root x ≡ false
other_root x ne =
    elim (is_root x) as (λ b. is_root x ≡ b → b ≡ false) [
      | true ↦ λ e. absurd (ne (is_root-true x e))
      | false ↦ λ e. refl
    ] refl

root_shown : (threads : ℕ) (x : Name) → object_of (opening_spaces standard_limits threads) x ≡ cond (is_root x) (Some root) None
root_shown threads x =
    elim (same_or_other x root_name) [
      | inl q ↦
          rw q (ap (thing_of (home_of (opening_spaces standard_limits threads) root_name)) (get-same finite.empty root_name (Fields (replicate ROOT_FIELDS Null)))
          ∙ ap (λ h. thing_of h (Some (Fields (replicate ROOT_FIELDS Null)))) (get-same finite.empty root_name Control))
      | inr ne ↦
          rw (other_root x ne) (ap (λ h. thing_of h (content_at (opening_spaces standard_limits threads).graph x)) (get-other finite.empty root_name Control x ne ∙ finite.get-empty name_cmp x))
    ]

pub view-opening : (m : Areas) → view (opening_spaces standard_limits m.threads) ≡ opening m
view-opening m =
    let th : Thread = record { stack = Object root_name ∷ []; depth = 0; made = 0 } in
    rw (
      map-replicate (λ (t : Thread). t.stack) m.threads th,
      map-replicate (λ (t : Thread). t.depth) m.threads th,
      map-replicate (λ (t : Thread). t.made) m.threads th,
    ) (ap (λ (os : Name → Option Thing). let w = opening m in record w { objects = os }) (fun_ext (root_shown m.threads)))

some_home : (x y : Space) → Some x ≡ Some y → x ≡ y
some_home x y e = cc

is_whole : (threads : ℕ) → IsWhole (opening_spaces standard_limits threads)
is_whole threads = record {
  limits = refl;
  contents = λ x. elim (same_or_other x root_name) [
    | inl q ↦ rw q (ap is_some (get-same finite.empty root_name (Fields (replicate ROOT_FIELDS Null))) ∙ sym (ap is_some (get-same finite.empty root_name Control)))
    | inr ne ↦ ap is_some (get-other finite.empty root_name (Fields (replicate ROOT_FIELDS Null)) x ne ∙ finite.get-empty name_cmp x) ∙ sym (ap is_some (get-other finite.empty root_name Control x ne ∙ finite.get-empty name_cmp x))
  ];
  homes = λ x y e. elim (same_or_other x root_name) [
    | inl q ↦ subst (IsValid standard_limits.depth) (some_home Control y (sym (get-same finite.empty root_name Control) ∙ ap (home_of (opening_spaces standard_limits threads)) (sym q) ∙ e)) tt
    | inr ne ↦ absurd (let f : None ≡ Some y = sym (get-other finite.empty root_name Control x ne ∙ finite.get-empty name_cmp x) ∙ e in cc)
  ];
}

opening_by : (P T : ℕ) (pool : List ℕ) → 1 ≤ P → 1 ≤ T → length pool ≡ P → Counts (P - 1) pool → (l : Places) × StandsAs (record { pages = P; threads = T }) (opened (record { pages = P; threads = T }) pool) (opening (record { pages = P; threads = T })) l
opening_by zero T pool hp ht long counts = absurd (omega arith)
opening_by (suc n) zero pool hp ht long counts = absurd (omega arith)
opening_by (suc n) (suc k) pool hp ht long counts =
    let e : suc n - 1 ≡ n = omega arith in
    (lay n, opening_as n k pool long (subst (λ x. Counts x pool) e counts))

-- the opening words stand for the opening state
pub opening_stands : (m : Areas) (pool : List ℕ) → IsAreas m → length pool ≡ m.pages → Counts (m.pages - 1) pool → Stands m (opened m pool) (opening_spaces standard_limits m.threads)
opening_stands m pool areas long counts =
    let p = opening_by m.pages m.threads pool areas.0 areas.2 long counts in
    record {
      whole = is_whole m.threads;
      places = p.0;
      stands = subst (λ (w : State). StandsAs m (opened m pool) w p.0) (sym (view-opening m)) p.1;
    }
