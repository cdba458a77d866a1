-- The objects of a state by their entries, and by the names of the pages.
use Rattle.std.proofs.Common.{◌≡◌, ◌≢◌, ◌==◌, ◌&&◌, ℕ, zero, suc, ◌+◌, ◌<◌, Bool, true, false, cond, Option, Some, None, List, [], ◌∷◌, ◌++◌, map, length, get_or, is_some, refl, sym, ap, subst, ◌∙◌, arith}
use Rattle.std.specs.Prelude.{T}
use Rattle.std.proofs.Math.Logic.{⊎_elim}
use Rattle.std.specs.FinMap as finite
use Rattle.std.specs.FinMap.{find}
use Rattle.std.specs.FinMap.Entries.{below_all, is_sorted}
use Rattle.std.specs.Cmp.{tied_itself}
use Rattle.std.specs.Ordering.{is_lt}
use Rattle.std.specs.List.{Contains, sum_by}
use Rattle.std.proofs.lemmas.Bool.Decides.{nat_tests}
use Rattle.std.proofs.lemmas.List.Elements.{Contains-append_cases, Contains-append_left, Contains-append_right}
use Rattle.std.proofs.lemmas.List.Sums.{sum_by-cons, sum_by-append}
use Rattle.object_layout.specs.declared.names.Name.{Name}
use Rattle.object_layout.specs.declared.TheConstants.{OBJECT_WORDS}
use Rattle.heap_words.specs.declared.map.Areas.{Areas}
use Rattle.heap_words.specs.Contents.{Contents}
use Rattle.epoch_lattice.specs.declared.Space.{Space}
use Rattle.epoch_lattice.specs.declared.Space.TheVariants.{Control, Region}
use Rattle.epoch_lattice.specs.Lattice.{space_index}
use Rattle.yak_model.specs.Names.{name_cmp}
use Rattle.yak_model.specs.Graph.{Content, Fields, fields_of, size_of}
use Rattle.yak_model.specs.Spaces.{SpaceState, content_at, home_of}
use Rattle.yak_model.specs.State.{Thing, object_of, thing_of}
use Rattle.yak_model.specs.Placed.{size_by, words_by}
use Rattle.yak_model.specs.Stands.{IsWhole, Stands, words_in}
use Rattle.yak_model.specs.Lawful.{control_words, is_control, present_words, region_words}
use Rattle.yak_model.proofs.Lists.{contains_cases, contains_cons}
use Rattle.yak_model.proofs.Names.{find_other, find_same, name_cmp_total, same_or_other}
use Rattle.heap_walks.proofs.Seen.{seen, shown}
use Rattle.heap_core.proofs.RoomsSums.{Distinct, contains_first, distinct-append, sum-alike, sum-mapped, sum-parted, sum-same}

-- ---- the names of all pages in one list
abbrev pub listed : List (List Name) → List Name
listed [] = []
listed (ns ∷ rest) = ns ++ listed rest

abbrev pub Lies : List (List Name) → Name → ℕ → ℕ → Type 0
Lies pages n p k = (p < length pages) × (k < length (get_or pages p [])) × (get_or (get_or pages p []) k n ≡ n)

pub sum-listed : (f : Name → ℕ) (pages : List (List Name)) → sum_by f (listed pages) ≡ sum_by (λ (ns : List Name). sum_by f ns) pages
sum-listed f [] = refl
sum-listed f (ns ∷ rest) = sum_by-append f ns (listed rest) ∙ ap (λ k. sum_by f ns + k) (sum-listed f rest) ∙ sym (sum_by-cons (λ (ms : List Name). sum_by f ms) ns rest)

listed-from : (pages : List (List Name)) (n : Name) → Contains (listed pages) n → (p : ℕ) × (k : ℕ) × Lies pages n p k
listed-from [] n c = absurd (omega (arith, c.1))
listed-from (ns ∷ rest) n c = ⊎_elim
    (λ (a : Contains ns n). (0, a.0, (omega arith, a.1, a.2)))
    (λ (b : Contains (listed rest) n). let r = listed-from rest n b in (suc r.0, r.1, (omega (arith, r.2.0), r.2.1, r.2.2)))
    (Contains-append_cases ns (listed rest) n c)

listed-at : (pages : List (List Name)) (n : Name) (p k : ℕ) → Lies pages n p k → Contains (listed pages) n
listed-at [] n p k l = absurd (omega (arith, l.0))
listed-at (ns ∷ rest) n zero k l = Contains-append_left ns (listed rest) n (k, l.1, l.2)
listed-at (ns ∷ rest) n (suc p) k l = Contains-append_right ns (listed rest) n (listed-at rest n p k (omega (arith, l.0), l.1, l.2))

names-distinct : (ns : List Name) → ((n : Name) (k j : ℕ) → k < length ns → get_or ns k n ≡ n → j < length ns → get_or ns j n ≡ n → k ≡ j) → Distinct ns
names-distinct [] once = tt
names-distinct (x ∷ xs) once = (
  λ c. let e : 0 ≡ suc c.0 = once x 0 (suc c.0) (omega arith) refl (omega (arith, c.1)) c.2 in omega (arith, e),
  names-distinct xs (λ n k j lk ek lj ej. let e : suc k ≡ suc j = once n (suc k) (suc j) (omega (arith, lk)) ek (omega (arith, lj)) ej in omega (arith, e)),
)

listed-distinct : (pages : List (List Name)) → ((n : Name) (p k q j : ℕ) → Lies pages n p k → Lies pages n q j → (p ≡ q) × (k ≡ j)) → Distinct (listed pages)
listed-distinct [] once = tt
listed-distinct (ns ∷ rest) once =
    distinct-append ns (listed rest)
    (names-distinct ns (λ n k j lk ek lj ej. (once n 0 k 0 j (omega arith, lk, ek) (omega arith, lj, ej)).1))
    (listed-distinct rest (λ n p k q j a b.
    let r : (suc p ≡ suc q) × (k ≡ j) = once n (suc p) k (suc q) j (omega (arith, a.0), a.1, a.2) (omega (arith, b.0), b.1, b.2) in
    (omega (arith, r.0), r.1)))
    (λ n a b.
    let l = listed-from rest n b in
    let r : (0 ≡ suc l.0) × (a.0 ≡ l.1) = once n 0 a.0 (suc l.0) l.1 (omega arith, a.1, a.2) (omega (arith, l.2.0), l.2.1, l.2.2) in
    omega (arith, r.0))

-- ---- the keys of a finite map
abbrev pub keys_of : {X : Type 0} → List (Name × X) → List Name
keys_of {X} es = map (λ (e : Name × X). e.0) es

first : (a b : Bool) → T (a && b) → T a
first true b p = tt
first false b p = p

second : (a b : Bool) → T (a && b) → T b
second true b p = p
second false b p = absurd p

not_below : {X : Type 0} (x : Name) (es : List (Name × X)) → T (below_all name_cmp x es) → Contains (keys_of es) x → ⊥
not_below x [] below c = omega (arith, c.1)
not_below {X} x (e ∷ es) below c = ⊎_elim
    (λ (same : e.0 ≡ x).
    let self : T (is_lt (name_cmp x x)) = subst (λ (y : Name). T (is_lt (name_cmp x y))) same (first (is_lt (name_cmp x e.0)) (below_all name_cmp x es) below) in
    subst (λ r. T (is_lt r)) (tied_itself name_cmp_total x) self)
    (λ (b : Contains (keys_of es) x). not_below x es (second (is_lt (name_cmp x e.0)) (below_all name_cmp x es) below) b)
    (contains_cases e.0 (keys_of es) x c)

pub keys-distinct : {X : Type 0} (es : List (Name × X)) → T (is_sorted name_cmp es) → Distinct (keys_of es)
keys-distinct [] up = tt
keys-distinct {X} (e ∷ es) up = (not_below e.0 es (first (below_all name_cmp e.0 es) (is_sorted name_cmp es) up), keys-distinct es (second (below_all name_cmp e.0 es) (is_sorted name_cmp es) up))

key_of : {X : Type 0} (es : List (Name × X)) (e : Name × X) → Contains es e → Contains (keys_of es) e.0
key_of [] e c = absurd (omega (arith, c.1))
key_of {X} (a ∷ es) e c = ⊎_elim
    (λ (same : a ≡ e). subst (λ (b : Name × X). Contains (keys_of (a ∷ es)) b.0) same (contains_first a.0 (keys_of es)))
    (λ (b : Contains es e). contains_cons a.0 (keys_of es) e.0 (key_of es e b))
    (contains_cases a es e c)

-- an entry is what a scan finds, and what a scan finds has a key
pub entry-found : {X : Type 0} (es : List (Name × X)) (e : Name × X) → T (is_sorted name_cmp es) → Contains es e → find name_cmp e.0 es ≡ Some e.1
entry-found [] e up c = absurd (omega (arith, c.1))
entry-found {X} (a ∷ es) e up c = ⊎_elim
    (λ (same : a ≡ e). find_same e.0 a.0 a.1 es (ap (λ (b : Name × X). b.0) (sym same)) ∙ ap (λ (b : Name × X). Some b.1) same)
    (λ (b : Contains es e).
    let none = not_below a.0 es (first (below_all name_cmp a.0 es) (is_sorted name_cmp es) up) in
    let ne : e.0 ≢ a.0 = λ q. none (subst (Contains (keys_of es)) q (key_of es e b)) in
    find_other e.0 a.0 a.1 es ne ∙ entry-found es e (second (below_all name_cmp a.0 es) (is_sorted name_cmp es) up) b)
    (contains_cases a es e c)

pub found-key : {X : Type 0} (es : List (Name × X)) (n : Name) (v : X) → find name_cmp n es ≡ Some v → Contains (keys_of es) n
found-key [] n v e = absurd (cc)
found-key {X} (a ∷ es) n v e = ⊎_elim
    (λ (same : n ≡ a.0). subst (Contains (keys_of (a ∷ es))) (sym same) (contains_first a.0 (keys_of es)))
    (λ (ne : n ≢ a.0). contains_cons a.0 (keys_of es) n (found-key es n v (sym (find_other n a.0 a.1 es ne) ∙ e)))
    (same_or_other n a.0)

pub key-found : {X : Type 0} (es : List (Name × X)) (n : Name) → Contains (keys_of es) n → (v : X) × (find name_cmp n es ≡ Some v)
key-found [] n c = absurd (omega (arith, c.1))
key-found {X} (a ∷ es) n c = ⊎_elim
    (λ (same : n ≡ a.0). (a.1, find_same n a.0 a.1 es same))
    (λ (ne : n ≢ a.0).
    let rest : Contains (keys_of es) n = ⊎_elim (λ (q : a.0 ≡ n). absurd (ne (sym q))) (λ (b : Contains (keys_of es) n). b) (contains_cases a.0 (keys_of es) n c) in
    let f = key-found es n rest in
    (f.0, find_other n a.0 a.1 es ne ∙ f.1))
    (same_or_other n a.0)

-- ---- the entries of the contents
some_home : (x : Option Space) → is_some x ≡ true → (home : Space) × (x ≡ Some home)
some_home None e = absurd (cc)
some_home (Some home) e = (home, refl)

-- what has a content is a present object
pub content-shown : (s : SpaceState) (n : Name) (v : Content) → IsWhole s → content_at s.graph n ≡ Some v → (o : Thing) × (object_of s n ≡ Some o)
content-shown s n v whole e =
    let home = some_home (home_of s n) (sym (whole.contents n) ∙ ap is_some e) in
    let o = shown s n home.0 whole home.1 in
    (o.0, o.1)

size_fields : (v : Content) → size_of v ≡ length (fields_of v) + OBJECT_WORDS
size_fields (Fields values) = refl

same_content : (a b : Content) → Some a ≡ Some b → a ≡ b
same_content a b e = cc

pub content-size : (s : SpaceState) (n : Name) (v : Content) → IsWhole s → content_at s.graph n ≡ Some v → size_of v ≡ size_by (object_of s) n
content-size s n v whole e =
    let o = content-shown s n v whole e in
    let w = seen s n o.0 o.1 in
    let same : v ≡ w.content = same_content v w.content (sym e ∙ w.content_is) in
    size_fields v ∙ ap (λ (k : Content). length (fields_of k) + OBJECT_WORDS) same ∙ ap (λ (fs : List _). length fs + OBJECT_WORDS) (sym w.fields_are) ∙ ap words_by (sym o.1)

module _ (m : Areas) (c : Contents) (s : SpaceState) (h : Stands m c s) where
  abbrev es : List (Name × Content)
  es = finite.entries s.graph.objects

  sorted : T (is_sorted name_cmp es)
  sorted = finite.entries_sorted s.graph.objects

  pub content-of_entry : (e : Name × Content) → Contains es e → content_at s.graph e.0 ≡ Some e.1
  content-of_entry e b = finite.get-entries s.graph.objects e.0 ∙ entry-found es e sorted b

  -- a name of the pages is one of a present object, and the other way round
  pub listed-shown : (n : Name) → Contains (listed h.places.pages) n → (o : Thing) × (object_of s n ≡ Some o)
  listed-shown n b =
      let l = listed-from h.places.pages n b in
      let w = h.stands.heap.whole n l.0 l.1 (record { page = l.2.0; place = l.2.1; name = l.2.2 }) in
      (w.0, w.1)

  pub shown-listed : (n : Name) (o : Thing) → object_of s n ≡ Some o → Contains (listed h.places.pages) n
  shown-listed n o e =
      let at = h.stands.heap.present n o e in
      listed-at h.places.pages n at.0 at.1 (at.2.page, at.2.place, at.2.name)

  pub shown-key : (n : Name) (o : Thing) → object_of s n ≡ Some o → Contains (keys_of es) n
  shown-key n o e =
      let w = seen s n o e in
      found-key es n w.content (sym (finite.get-entries s.graph.objects n) ∙ w.content_is)

  pub pages-distinct : Distinct (listed h.places.pages)
  pages-distinct = listed-distinct h.places.pages (λ n p k q j a b. h.stands.heap.tiles.once n p k q j (record { page = a.0; place = a.1; name = a.2 }) (record { page = b.0; place = b.1; name = b.2 }))

  -- a sum over the entries of the contents is one over the names of the pages
  pub sum-keys : (f : Name → ℕ) → sum_by (λ (e : Name × Content). f e.0) es ≡ sum_by f (keys_of es)
  sum-keys f = sym (sum-mapped f (λ (e : Name × Content). e.0) es)

  pub sum-paged : (f : Name → ℕ) → sum_by (λ (e : Name × Content). f e.0) es ≡ sum_by (λ (ns : List Name). sum_by f ns) h.places.pages
  sum-paged f =
      sum-keys f
      ∙ sum-alike f (keys_of es) (listed h.places.pages) (keys-distinct es sorted) pages-distinct
      (λ n b.
      let v = key-found es n b in
      let o = content-shown s n v.0 h.whole (finite.get-entries s.graph.objects n ∙ v.1) in
      shown-listed n o.0 o.1)
      (λ n b. let o = listed-shown n b in shown-key n o.0 o.1)
      ∙ sum-listed f h.places.pages

  -- ---- the words of the objects
  pub entry-size : (e : Name × Content) → Contains es e → size_of e.1 ≡ size_by (object_of s) e.0
  entry-size e b = content-size s e.0 e.1 h.whole (content-of_entry e b)

  pub present-paged : present_words s ≡ sum_by (λ (ns : List Name). sum_by (size_by (object_of s)) ns) h.places.pages
  present-paged =
      sum-same (λ (e : Name × Content). size_of e.1) (λ (e : Name × Content). size_by (object_of s) e.0) es entry-size
      ∙ sum-paged (size_by (object_of s))

  abbrev pub control_size : Name → ℕ
  control_size n = cond (is_control (home_of s n)) (size_by (object_of s) n) 0

  abbrev pub region_size : Name → ℕ
  region_size n = cond (is_control (home_of s n)) 0 (size_by (object_of s) n)

  pub control-paged : control_words s ≡ sum_by (λ (ns : List Name). sum_by control_size ns) h.places.pages
  control-paged =
      sum-same (λ (e : Name × Content). cond (is_control (home_of s e.0)) (size_of e.1) 0) (λ (e : Name × Content). control_size e.0) es (λ e b. ap (λ (k : ℕ). cond (is_control (home_of s e.0)) k 0) (entry-size e b))
      ∙ sum-paged control_size

  pub region-paged : region_words s ≡ sum_by (λ (ns : List Name). sum_by region_size ns) h.places.pages
  region-paged =
      sum-same (λ (e : Name × Content). cond (is_control (home_of s e.0)) 0 (size_of e.1)) (λ (e : Name × Content). region_size e.0) es (λ e b. ap (λ (k : ℕ). cond (is_control (home_of s e.0)) 0 k) (entry-size e b))
      ∙ sum-paged region_size

-- all words are those of Control and those of the regions
pub words-parted : (s : SpaceState) → present_words s ≡ control_words s + region_words s
words-parted s = sum-parted (λ (e : Name × Content). is_control (home_of s e.0)) (λ (e : Name × Content). size_of e.1) (finite.entries s.graph.objects)

-- an object is in Control where the number of its space is 0
control-index : (x : Space) (k : ℕ) → cond (is_control (Some x)) k 0 ≡ cond (space_index x == 0) k 0
control-index Control k = refl
control-index (Region t d) k = grind (arith, nat_tests)

part_of : (x : Option Space) (y : Option Content) → cond (is_control x) (words_by (thing_of x y)) 0 ≡ words_in Control (thing_of x y)
part_of None y = refl
part_of (Some Control) None = refl
part_of (Some (Region t d)) None = refl
part_of (Some x) (Some v) = control-index x (length (fields_of v) + OBJECT_WORDS)

pub control-in : (s : SpaceState) (n : Name) → cond (is_control (home_of s n)) (size_by (object_of s) n) 0 ≡ words_in Control (object_of s n)
control-in s n = part_of (home_of s n) (content_at s.graph n)
