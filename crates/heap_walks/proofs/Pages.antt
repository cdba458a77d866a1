-- The objects of a page, one after another.
use Rattle.std.proofs.Common.{◌≡◌, ℕ, ◌+◌, ◌*◌, ◌≤◌, ◌<◌, List, Some, refl, sym, ap, subst, ◌∙◌, arith, inl, inr, get_or, length, take}
use Rattle.std.proofs.lemmas.Bool.{cases_eq, cases_lt}
use Rattle.std.proofs.lemmas.List.{get_or_default, take_all}
use Rattle.std.proofs.lemmas.List.Sums.{sum_by_more, sum_by_more_le}
use Rattle.std.specs.List.{sum_by}
use Rattle.object_layout.specs.declared.names.Name.{Name}
use Rattle.object_layout.specs.declared.TheConstants.{OBJECT_WORDS}
use Rattle.heap_words.specs.declared.map.Areas.{Areas}
use Rattle.heap_words.specs.Map.{heap_length, page_words}
use Rattle.heap_words.specs.Contents.{Contents}
use Rattle.epoch_lattice.specs.Lattice.{space_index}
use Rattle.yak_model.specs.Names.{root_name}
use Rattle.yak_model.specs.State.{Thing}
use Rattle.yak_model.specs.Placed.{IsAt, names_of, size_by, space_word, used_mark}
use Rattle.heap_walks.specs.Laid.{Laid, IsAmong}
use Rattle.heap_walks.specs.Walked.{IsWalked, IsPagePassed}
use Rattle.heap_walks.proofs.Objects.{in_heap, size_is}

-- the object that a walk over a page meets
pub record Met (m : Areas) (h : Laid) (page offset place : ℕ) : Type 0 where
  pub name : Name
  pub object : Thing
  pub present : h.state.objects name ≡ Some object
  pub stands : IsAt h.places name page place
  pub address : page_words m * page + offset ≡ h.places.at name
  pub next : sum_by (size_by h.state.objects) (take (place + 1) (names_of h.places page)) ≡ offset + (length object.fields + OBJECT_WORDS)
  pub home : space_word h.before.table page ≡ space_index object.home + 1

pub table_now : (m : Areas) (h : Laid) (c : Contents) → IsAmong m h c → c.table ≡ h.before.table
table_now m h c a = ap (λ (x : Contents). x.table) a.frame

-- a page's words are used to where its last object ends
pub used_is : (m : Areas) (h : Laid) (c : Contents) (page : ℕ) → IsAmong m h c → page < m.pages → used_mark c.table page ≡ sum_by (size_by h.state.objects) (names_of h.places page)
used_is m h c page a lt = ap (λ (t : List (List ℕ)). used_mark t page) (table_now m h c a) ∙ a.stands.heap.marks page lt

-- the used words lie within the page
pub used_fits : (m : Areas) (h : Laid) (c : Contents) (page : ℕ) → IsAmong m h c → page < m.pages → used_mark c.table page ≤ page_words m
used_fits m h c page a lt =
    let count = a.stands.heap.count in
    let f = a.stands.heap.tiles.fits page (omega (arith, count, lt)) in
    omega (arith, f, used_is m h c page a lt)

before_end : (f : Name → ℕ) (ns : List Name) (k offset : ℕ) → k ≤ length ns → offset ≡ sum_by f (take k ns) → offset < sum_by f ns → k < length ns
before_end f ns k offset le e lt =
    elim (cases_lt k (length ns)) [
      | inl q ↦ q
      | inr q ↦
          let all : take k ns ≡ ns = take_all k ns q in
          let s : sum_by f (take k ns) ≡ sum_by f ns = ap (sum_by f) all in
          absurd (omega (arith, lt, e, s))
    ]

-- before the used mark stands an object
pub meets : (m : Areas) (h : Laid) (c : Contents) (fact : Name → Type 0) (page offset used : ℕ) → IsAmong m h c → page < m.pages → used ≡ used_mark c.table page → (w : IsWalked h fact page offset) → offset < used → Met m h page offset w.place
meets m h c fact page offset used a lt used_word w more =
    let size = size_by h.state.objects in
    let ns : List Name = names_of h.places page in
    let inside : w.place < length ns = before_end size ns w.place offset w.within w.offset_is (omega (arith, more, used_word, used_is m h c page a lt)) in
    let n : Name = get_or ns w.place root_name in
    let stands : IsAt h.places n page w.place = record { page = omega (arith, a.stands.heap.count, lt); place = inside; name = get_or_default ns w.place n root_name inside } in
    let object = a.stands.heap.whole n page w.place stands in
    let at : h.places.at n ≡ page_words m * page + sum_by size (take w.place ns) = a.stands.heap.tiles.places n page w.place stands in
    let next = sum_by_more size ns w.place root_name inside in
    let long = size_is h n object.0 object.1 in
    record {
      name = n;
      object = object.0;
      present = object.1;
      stands = stands;
      address = omega (arith, at, w.offset_is);
      next = omega (arith, next, long, w.offset_is);
      home = object.2;
    }

pub met_fits : (m : Areas) (h : Laid) (c : Contents) (page offset place : ℕ) → IsAmong m h c → (met : Met m h page offset place) → page_words m * page + offset + (length met.object.fields + OBJECT_WORDS) ≤ heap_length m
met_fits m h c page offset place a met = let b = in_heap m h met.name met.object a.stands met.present in omega (arith, b, met.address)

-- the object ends before the used mark
pub met_used : (m : Areas) (h : Laid) (c : Contents) (page offset place used : ℕ) → IsAmong m h c → page < m.pages → used ≡ used_mark c.table page → (met : Met m h page offset place) → offset ≡ sum_by (size_by h.state.objects) (take place (names_of h.places page)) → offset + (length met.object.fields + OBJECT_WORDS) ≤ used
met_used m h c page offset place used a lt used_word met e =
    let size = size_by h.state.objects in
    let ns : List Name = names_of h.places page in
    let most = sum_by_more_le size ns place met.name met.stands.place in
    let own : size (get_or ns place met.name) ≡ length met.object.fields + OBJECT_WORDS = ap size met.stands.name ∙ size_is h met.name met.object met.present in
    omega (arith, most, own, e, used_word, used_is m h c page a lt)

pub walk_begins : (h : Laid) (fact : Name → Type 0) (page : ℕ) → IsWalked h fact page 0
walk_begins h fact page = record { place = 0; within = omega arith; offset_is = refl; passed = λ n k lt at. absurd (omega (arith, lt)) }

same_place : (h : Laid) (x y : Name) (page k : ℕ) → IsAt h.places x page k → IsAt h.places y page k → x ≡ y
same_place h x y page k hx hy = sym hx.name ∙ get_or_default (names_of h.places page) k x y hx.place ∙ hy.name

-- a walk passes the object that it meets
pub walk_goes : (m : Areas) (h : Laid) (fact after : Name → Type 0) (page offset fields : ℕ) → (w : IsWalked h fact page offset) → (met : Met m h page offset w.place) → fields ≡ length met.object.fields → ((n : Name) → fact n → after n) → after met.name → IsWalked h after page (offset + (fields + OBJECT_WORDS))
walk_goes m h fact after page offset fields w met e still now = record {
  place = w.place + 1;
  within = let lt = met.stands.place in omega (arith, lt);
  offset_is = omega (arith, met.next, e);
  passed = λ n k lt at.
      elim (cases_eq k w.place) [
        | inl q ↦ subst after (same_place h met.name n page k (subst (λ p. IsAt h.places met.name page p) (sym q) met.stands) at) now
        | inr ne ↦ still n (w.passed n k (omega (arith, lt, ne)) at)
      ];
}

-- at the used mark all objects are passed
pub walk_ends : (m : Areas) (h : Laid) (c : Contents) (fact : Name → Type 0) (page offset used : ℕ) → IsAmong m h c → page < m.pages → used ≡ used_mark c.table page → IsWalked h fact page offset → used ≤ offset → IsPagePassed h fact page
walk_ends m h c fact page offset used a lt used_word w le n k at =
    let size = size_by h.state.objects in
    let ns : List Name = names_of h.places page in
    elim (cases_lt k w.place) [
      | inl q ↦ w.passed n k q at
      | inr q ↦
          let inside : w.place < length ns = let p = at.place in omega (arith, p, q) in
          let first : Name = get_or ns w.place root_name in
          let stands : IsAt h.places first page w.place = record { page = at.page; place = inside; name = get_or_default ns w.place first root_name inside } in
          let object = a.stands.heap.whole first page w.place stands in
          let most = sum_by_more_le size ns w.place root_name inside in
          let long = size_is h first object.0 object.1 in
          absurd (omega (arith, long, most, w.offset_is, le, used_word, used_is m h c page a lt))
    ]
