-- The objects that escape at an end: their targets are open spaces, and their words.
use Rattle.std.proofs.Common.{◌≡◌, ◌≢◌, ◌↔◌, ℕ, zero, suc, ◌+◌, ◌-◌, ◌*◌, ◌≤◌, ◌<◌, Bool, true, false, cond, Some, List, [], ◌∷◌, length, get_or, refl, sym, ap, subst, ◌∙◌, arith}
use Rattle.std.specs.Prelude.{IsTrue, eqb, min}
use Rattle.std.proofs.Math.Logic.{⊎_elim}
use Rattle.std.specs.Bool.{Decides}
use Rattle.std.specs.Cmp.{tied_itself}
use Rattle.std.specs.FinMap as finite
use Rattle.std.specs.FinSet as names
use Rattle.std.specs.List.{Contains, sum_by}
use Rattle.std.specs.Ordering.{eq_by_cmp, is_eq}
use Rattle.std.proofs.lemmas.Bool.{cases_eq}
use Rattle.std.proofs.lemmas.Bool.Decides.{nat_tests}
use Rattle.std.proofs.lemmas.List.Sums.{sum_by-cons}
use Rattle.std.proofs.lemmas.Map.Made.{is_member-Decides}
use Rattle.object_layout.specs.declared.names.Name.{Name}
use Rattle.heap_words.specs.declared.map.Areas.{Areas}
use Rattle.heap_words.specs.Map.{HasThread, IsAreas, page_words}
use Rattle.heap_words.specs.Contents.{Contents}
use Rattle.epoch_lattice.specs.declared.Space.{Space}
use Rattle.epoch_lattice.specs.declared.Space.TheVariants.{Control, Region}
use Rattle.epoch_lattice.specs.declared.TheConstants.{MAX_DEPTH}
use Rattle.epoch_lattice.specs.Lattice.{IsBelow, IsValid, parent_of, space_index}
use Rattle.yak_model.specs.Names.{name_cmp}
use Rattle.yak_model.specs.Graph.{Content, size_of, thread_of}
use Rattle.yak_model.specs.Lawful.{HasWords}
use Rattle.yak_model.specs.Spaces.{Escapes, Source, SpaceState, field, innermost, other, own}
use Rattle.yak_model.specs.State.{IsOpen, Thing, object_of, view}
use Rattle.yak_model.specs.Placed.{size_by}
use Rattle.yak_model.specs.Stands.{Stands}
use Rattle.yak_model.proofs.Lists.{contains_cases, contains_cons}
use Rattle.yak_model.proofs.Names.{name_cmp_total, same_name, same_name_test}
use Rattle.heap_walks.proofs.Seen.{shown}
use Rattle.escape_closure.specs.Targets.{IsEscaping, IsTargetAt}
use Rattle.escape_closure.specs.Needs.{InOrder, pages_needed}
use Rattle.escape_closure.specs.Placing.{rooms_at}
use Rattle.escape_closure.proofs.Reaches.{inner_region, reached_here}
use Rattle.standing_calls.proofs.Homes.{home-open}
use Rattle.standing_calls.proofs.Named.{depth-shown}
use Rattle.heap_core.proofs.RoomsSums.{Distinct, contains_first, sum-inside, sum-same}
use Rattle.heap_core.proofs.RoomsOpen.{hits, open-listed, open_spaces}
use Rattle.heap_core.proofs.RoomsNames.{entry-size, keys_of, shown-key, sum-keys}
use Rattle.heap_core.proofs.RoomsPages.{spaces-once}
use Rattle.heap_core.proofs.RoomsPlaced.{claims-most, rooms-most, words_before}

-- ---- targets are open
parent_by : (depths : List ℕ) (t d : ℕ) (b : Bool) → eqb d 1 ≡ b → 1 ≤ t → t ≤ length depths → 1 ≤ d → d ≤ get_or depths (t - 1) 0 → IsOpen depths (cond b Control (Region t (d - 1)))
parent_by depths t d true e low long some deep = tt
parent_by depths t d false e low long some deep = let ne : d ≢ 1 = not_one d e in (low, long, omega (arith, some, ne), omega (arith, deep))
  where
    not_one : (d : ℕ) → eqb d 1 ≡ false → d ≢ 1
    not_one d e = grind (arith, nat_tests)

parent-open : (depths : List ℕ) (t d : ℕ) → 1 ≤ t → t ≤ length depths → 1 ≤ d → d ≤ get_or depths (t - 1) 0 → IsOpen depths (parent_of (Region t d))
parent-open depths t d low long some deep = parent_by depths t d (eqb d 1) refl low long some deep

same_thread : (t d u e : ℕ) → Region t d ≡ Region u e → (t ≡ u) × (d ≡ e)
same_thread t d u e q = (cc, cc)

above_by : (depths : List ℕ) (t d u e : ℕ) (b : Bool) → cond b (Region t (min d e)) Control ≡ Region u e → IsOpen depths (Region t d) → 1 ≤ e → IsOpen depths (Region u e)
above_by depths t d u e true below is some =
    let q = same_thread t (min d e) u e below in
    let at : get_or depths (t - 1) 0 ≡ get_or depths (u - 1) 0 = ap (λ (k : ℕ). get_or depths (k - 1) 0) q.0 in
    (omega (arith, q.0, is.0), omega (arith, q.0, is.1), some, omega (arith, q.1, at, is.3))
above_by depths t d u e false below is some = absurd (cc)

open-above : (depths : List ℕ) (a x : Space) → IsOpen depths a → IsValid MAX_DEPTH x → IsBelow a x → IsOpen depths x
open-above depths a Control is valid below = tt
open-above depths Control (Region u e) is valid below = absurd (cc)
open-above depths (Region t d) (Region u e) is valid below = above_by depths t d u e (eqb t u) below is valid.2

module _ (m : Areas) (c : Contents) (s : SpaceState) (h : Stands m c s) (t : ℕ) (areas : IsAreas m) (has : HasThread m t) (some : 0 < (thread_of s.graph t).depth) where
  parent_open : IsOpen (view s).depths (parent_of (innermost s.graph t))
  parent_open =
      let d : ℕ = (thread_of s.graph t).depth in
      let deep = depth-shown s t in
      let is = parent-open (view s).depths t d has.0 (omega (arith, has.1, h.stands.threads)) (omega (arith, some)) (omega (arith, deep)) in
      subst (λ (x : Space). IsOpen (view s).depths (parent_of x)) (sym (inner_region t d (omega (arith, some)))) is

  source_open : (region : Space) → IsOpen (view s).depths (parent_of region) → (n : Name) (x : Space) → Source s t region n x → IsOpen (view s).depths x
  source_open region parent n x (field from _ _ home outside refers inside) =
      let o = shown s from x h.whole home in
      subst (IsOpen (view s).depths) o.2 (home-open m c s h from o.0 areas o.1).0
  source_open region parent n x (own _ on inside) = parent
  source_open region parent n x (other _ u ne on inside) = tt

  target-open : (n : Name) (x : Space) → IsEscaping s t n → IsValid MAX_DEPTH x → IsTargetAt s t n x → IsOpen (view s).depths x
  target-open n x escapes valid target =
      let reached = escapes.1 in
      let from = source_open (innermost s.graph t) parent_open reached.0 escapes.0 reached.1 in
      open-above (view s).depths escapes.0 x from valid (target.above escapes.0 reached)

  -- what escapes is present
  escaping-shown : (n : Name) → IsEscaping s t n → (o : Thing) × (object_of s n ≡ Some o)
  escaping-shown n escapes =
      let i = reached_here s h.whole t has.0 (innermost s.graph t) n escapes.0 escapes.1 in
      (i.0, i.1)

  target-once : (x : Space) → IsOpen (view s).depths x → hits (open_spaces (view s).depths) (space_index x) ≡ 1
  target-once x is = omega (arith, open-listed (view s).depths x is, spaces-once m c s h (space_index x))

-- ---- the first names of an order
abbrev names_before : (ℕ → Name) → ℕ → List Name
names_before name zero = []
names_before name (suc k) = name k ∷ names_before name k

before-from : (name : ℕ → Name) (k : ℕ) (n : Name) → Contains (names_before name k) n → (j : ℕ) × (j < k) × (name j ≡ n)
before-from name zero n b = absurd (omega (arith, b.1))
before-from name (suc k) n b = ⊎_elim
    (λ (e : name k ≡ n). (k, omega arith, e))
    (λ (a : Contains (names_before name k) n). let r = before-from name k n a in (r.0, omega (arith, r.1), r.2))
    (contains_cases (name k) (names_before name k) n b)

before-at : (name : ℕ → Name) (k j : ℕ) → j < k → Contains (names_before name k) (name j)
before-at name zero j lt = absurd (omega arith)
before-at name (suc k) j lt = ⊎_elim
    (λ (e : k ≡ j). subst (λ i. Contains (names_before name (suc k)) (name i)) e (contains_first (name k) (names_before name k)))
    (λ (ne : k ≢ j). contains_cons (name k) (names_before name k) (name j) (before-at name k j (omega (arith, lt, ne))))
    (cases_eq k j)

before-distinct : (name : ℕ → Name) (k : ℕ) → ((i j : ℕ) → i < j → j < k → name i ≢ name j) → Distinct (names_before name k)
before-distinct name zero apart = tt
before-distinct name (suc k) apart = (
  λ b. let r = before-from name k (name k) b in apart r.0 k r.1 (omega arith) r.2,
  before-distinct name k (λ i j lt to. apart i j lt (omega (arith, to))),
)

before-words : (size : Name → ℕ) (name : ℕ → Name) (k : ℕ) → sum_by size (names_before name k) ≡ words_before (λ j. size (name j)) k
before-words size name zero = refl
before-words size name (suc k) = omega (arith, sum_by-cons size (name k) (names_before name k), before-words size name k)

names_decide : (a b : Name) → Decides (eq_by_cmp name_cmp a b) (a ≡ b)
names_decide a b = (λ e. same_name a b (sym (same_name_test a b) ∙ e), λ e. ap (λ (x : Name). eq_by_cmp name_cmp a x) (sym e) ∙ ap is_eq (tied_itself name_cmp_total a))

-- what escapes, as a set with its words
module _ (m : Areas) (c : Contents) (s : SpaceState) (h : Stands m c s) (t count : ℕ) (areas : IsAreas m) (has : HasThread m t) (some : 0 < (thread_of s.graph t).depth) (o : InOrder s h.places t count) where
  abbrev all : names.FinSet name_cmp
  all = names.from_list (names_before o.name count)

  all-has : (n : Name) → IsTrue (names.contains all n) ↔ IsEscaping s t n
  all-has n =
      let read = names.contains-from_list name_cmp_total (names_before o.name count) n in
      let decides = is_member-Decides names_decide (names_before o.name count) n in (
        λ e. let r = before-from o.name count n (decides.0 (sym read ∙ e)) in subst (IsEscaping s t) r.2 (o.escaping r.0 r.1),
        λ escapes. let r = o.complete n escapes in read ∙ decides.1 (subst (Contains (names_before o.name count)) r.2 (before-at o.name count r.0 r.1)),
      )

  apart : (i j : ℕ) → i < j → j < count → o.name i ≢ o.name j
  apart i j lt to e = omega (arith, o.ascending i j lt to, ap h.places.at e)

  abbrev size_in : Name → ℕ
  size_in n = cond (names.contains all n) (size_by (object_of s) n) 0

  abbrev pub escaped_words : ℕ
  escaped_words = sum_by (λ (e : Name × Content). cond (names.contains all e.0) (size_of e.1) 0) (finite.entries s.graph.objects)

  pub has-words : HasWords s (Escapes s t (innermost s.graph t)) escaped_words
  has-words = (all, all-has, refl)

  words-within : words_before (λ k. size_by (object_of s) (o.name k)) count ≤ escaped_words
  words-within =
      let es : List (Name × Content) = finite.entries s.graph.objects in
      let ns : List Name = names_before o.name count in
      let own : sum_by (size_by (object_of s)) ns ≡ sum_by size_in ns =
      sum-same (size_by (object_of s)) size_in ns (λ n b.
      let r = before-from o.name count n b in
      let yes : names.contains all n ≡ true = (all-has n).1 (subst (IsEscaping s t) r.2 (o.escaping r.0 r.1)) in
      ap (λ (x : Bool). cond x (size_by (object_of s) n) 0) (sym yes)) in
      let inside : sum_by size_in ns ≤ sum_by size_in (keys_of es) =
      sum-inside size_in ns (keys_of es) (before-distinct o.name count apart) (λ n b.
      let r = before-from o.name count n b in
      let w = escaping-shown m c s h t areas has some n (subst (IsEscaping s t) r.2 (o.escaping r.0 r.1)) in
      shown-key m c s h n w.0 w.1) in
      let keys = sum-keys m c s h size_in in
      let entries : escaped_words ≡ sum_by (λ (e : Name × Content). size_in e.0) es =
      sum-same (λ (e : Name × Content). cond (names.contains all e.0) (size_of e.1) 0) (λ (e : Name × Content). size_in e.0) es (λ e b. ap (λ (k : ℕ). cond (names.contains all e.0) k 0) (entry-size m c s h e b)) in
      omega (arith, before-words (size_by (object_of s)) o.name count, own, inside, keys, entries)

  pub needed-most : page_words m * pages_needed m c s h.places t count o ≤ 2 * escaped_words + page_words m * length (open_spaces (view s).depths)
  needed-most =
      let claimed = claims-most m (rooms_at m c t) (λ k. space_index (o.target k)) (λ k. size_by (object_of s) (o.name k)) (open_spaces (view s).depths) count (rooms-most m c t) (λ k lt.
      let target = o.targets k lt in
      target-once m c s h t areas has some (o.target k) (target-open m c s h t areas has some (o.name k) (o.target k) (o.escaping k lt) target.0 target.1)) in
      omega (arith, claimed, words-within)
