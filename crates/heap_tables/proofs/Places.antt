-- The place of a walk, in a field of the table.
use Rattle.std.proofs.Common.{zero, suc, ◌+◌, ◌≡◌, ◌≢◌, ◌⊎◌, inl, inr, ℕ, ◌<◌, ◌≤◌, Bool, true, false, List, [], ◌∷◌, ◌++◌, get_or, set, refl, ◌∙◌, ap, sym, subst, length, Some, arith, length-set, get_or-set_same, append_assoc, length-append}
use Rattle.std.proofs.lemmas.Bool.{cases_lt}
use Rattle.std.specs.FinMap.{get, insert, same_map}
use Rattle.object_layout.specs.declared.names.Name.{Name}
use Rattle.yak_model.specs.declared.datum.Datum.{Datum}
use Rattle.yak_model.specs.declared.datum.Datum.TheVariants as datum
use Rattle.yak_model.specs.Graph.{Content, Fields, Thread}
use Rattle.yak_model.specs.Private.{KnownObjects}
use Rattle.yak_model.proofs.Names.{get-same, get-other, same_or_other, name_cmp_total, name_cmp-IsAntisymmetric}
use Rattle.yak_model.specs.Standing.{Standing}
use Rattle.heap_tables.specs.Runs.{pushed, with_field}
use Rattle.heap_tables.proofs.Effects.{IsAt, slot_after, slot_same, slot_below, size_after}
use Rattle.yak_model.specs.Tables.{Link, IsChain, LacksWord}
use Rattle.heap_tables.specs.declared.chains.Look.TheVariants as look
use Rattle.heap_tables.specs.Walks.{IsAtChain, IsApart, IsPlace, Stops, Walked, Found, with_place}

-- two maps that answer alike but at one name
abbrev pub Agree : KnownObjects → KnownObjects → Name → Type 0
Agree m n name = (x : Name) → x ≢ name → get n x ≡ get m x

pub insert_agrees : (known : KnownObjects) (name : Name) (c : Content) → Agree known (insert known name c) name
insert_agrees known name c x o = get-other known name c x o

pub insert_again : (known : KnownObjects) (name : Name) (c d : Content) → insert (insert known name c) name d ≡ insert known name d
insert_again known name c d = same_map name_cmp_total name_cmp-IsAntisymmetric _ _ (λ x. elim (same_or_other x name) [
  | inl e ↦ ap (get (insert (insert known name c) name d)) e ∙ get-same (insert known name c) name d ∙ sym (ap (get (insert known name d)) e ∙ get-same known name d)
  | inr o ↦ get-other (insert known name c) name d x o ∙ get-other known name c x o ∙ sym (get-other known name d x o)
])

pub insert_same : (known : KnownObjects) (name : Name) (c : Content) → get known name ≡ Some c → insert known name c ≡ known
insert_same known name c h = same_map name_cmp_total name_cmp-IsAntisymmetric _ _ (λ x. elim (same_or_other x name) [
  | inl e ↦ ap (get (insert known name c)) e ∙ get-same known name c ∙ sym (ap (get known) e ∙ h)
  | inr o ↦ get-other known name c x o
])

pub chain_agrees : (m n : KnownObjects) (name : Name) → Agree m n name → (links : List Link) (head : Datum) → IsApart name links → IsChain m head links → IsChain n head links
chain_agrees m n name agree [] head apart chain = chain
chain_agrees m n name agree (link ∷ links) head apart chain =
    let entry = chain.1.1 in
    (chain.0, (chain.1.0, (agree link.entry apart.0 ∙ entry.0, (entry.1.0, agree link.key apart.1 ∙ entry.1.1, entry.1.2, entry.1.3)), chain_agrees m n name agree links chain.1.0 apart.2 chain.1.2))

pub set_again : (xs : List Datum) (i : ℕ) (a b : Datum) → set (set xs i a) i b ≡ set xs i b
set_again [] i a b = refl
set_again (x ∷ xs) zero a b = refl
set_again (x ∷ xs) (suc i) a b = ap (λ ys. x ∷ ys) (set_again xs i a b)

pub set_same : (xs : List Datum) (i : ℕ) → set xs i (get_or xs i datum.Null) ≡ xs
set_same [] i = refl
set_same (x ∷ xs) zero = refl
set_same (x ∷ xs) (suc i) = ap (λ ys. x ∷ ys) (set_same xs i)

pub place_again : (known : KnownObjects) (name : Name) (values : List Datum) (b : ℕ) (x y : Datum) → with_field (with_place known name values b x) name (set values b x) b y ≡ with_place known name values b y
place_again known name values b x y = insert_again known name (Fields (set values b x)) (Fields (set (set values b x) b y)) ∙ ap (λ vs. insert known name (Fields vs)) (set_again values b x y)

pub place_same : (known : KnownObjects) (name : Name) (values : List Datum) (b : ℕ) → get known name ≡ Some (Fields values) → with_place known name values b (get_or values b datum.Null) ≡ known
place_same known name values b h = ap (λ vs. insert known name (Fields vs)) (set_same values b) ∙ insert_same known name (Fields values) h

pub apart_rest : (name : Name) (passed rest : List Link) → IsApart name (passed ++ rest) → IsApart name rest
apart_rest name [] rest h = h
apart_rest name (link ∷ passed) rest h = apart_rest name passed rest h.2

pub lacks_more : (word : List ℕ) (passed : List Link) (link : Link) → LacksWord word passed → link.word ≢ word → LacksWord word (passed ++ link ∷ [])
lacks_more word [] link h ne = (ne, tt)
lacks_more word (first ∷ passed) link h ne = (h.0, lacks_more word passed link h.1 ne)

pub lacks_append : (word : List ℕ) (passed more : List Link) → LacksWord word passed → LacksWord word more → LacksWord word (passed ++ more)
lacks_append word [] more h m = m
lacks_append word (link ∷ passed) more h m = (h.0, lacks_append word passed more h.1 m)

pub append_nil : {A : Type 0} (xs : List A) → xs ++ [] ≡ xs
append_nil [] = refl
append_nil (x ∷ xs) = ap (λ ys. x ∷ ys) (append_nil xs)

tail_of : List ℕ → List ℕ
tail_of [] = []
tail_of (x ∷ xs) = xs

first_of : List ℕ → ℕ
first_of [] = 0
first_of (x ∷ xs) = x

tails_same : (x y : ℕ) (xs ys : List ℕ) → x ∷ xs ≡ y ∷ ys → xs ≡ ys
unfolding tail_of
tails_same x y xs ys e = ap tail_of e

firsts_same : (x y : ℕ) (xs ys : List ℕ) → x ∷ xs ≡ y ∷ ys → x ≡ y
unfolding first_of
firsts_same x y xs ys e = ap first_of e

nat_cases : (x y : ℕ) → (x ≡ y) ⊎ (x ≢ y)
nat_cases x y = elim (cases_lt x y) [
  | inl lt ↦ inr (λ e. omega (arith, lt, e))
  | inr ge ↦ elim (cases_lt y x) [ inl lt ↦ inr (λ e. omega (arith, lt, e)) | inr le ↦ inl (omega (arith, ge, le)) ]
]

pub word_cases : (xs ys : List ℕ) → (xs ≡ ys) ⊎ (xs ≢ ys)
word_cases [] [] = inl refl
word_cases [] (y ∷ ys) = inr (λ e. cc)
word_cases (x ∷ xs) [] = inr (λ e. cc)
word_cases (x ∷ xs) (y ∷ ys) = elim (nat_cases x y) [
  | inl e ↦ elim (word_cases xs ys) [ inl es ↦ inl (λ i. e i ∷ es i) | inr ne ↦ inr (λ q. ne (tails_same x y xs ys q)) ]
  | inr ne ↦ inr (λ q. ne (firsts_same x y xs ys q))
]

module _ (s : Standing) (known : KnownObjects) (table : ℕ) (name : Name) (values : List Datum) (b : ℕ) (word : List ℕ) (links : List Link) (at : IsAtChain s known table b name values links) (apart : IsApart name links) where
  pub start_place : (knows : KnownObjects → Type 0) → knows known → IsPlace known name values b word links knows [] links
  start_place knows k =
      let same = place_same known name values b at.0.1 in record {
        place = get_or values b datum.Null;
        parts = refl;
        lacks = tt;
        chain = subst (λ m. IsChain m (get_or values b datum.Null) links) (sym same) at.2;
        known_now = subst knows (sym same) k;
      }

  module _ (knows : KnownObjects → Type 0) (passed rest : List Link) (p : IsPlace known name values b word links knows passed rest) where
    -- what a look needs at a place
    pub at_place : (now : Standing) → now.own ≡ s.own → IsAtChain now (with_place known name values b p.place) table b name (set values b p.place) rest
    at_place now own = (
      (ap (λ (o : Thread). get_or o.stack table datum.Null) own ∙ at.0.0, get-same known name (Fields (set values b p.place))),
      subst (λ n. b < n) (sym (length-set values b p.place)) at.1,
      subst (λ d. IsChain (with_place known name values b p.place) d rest) (sym (get_or-set_same values b p.place datum.Null at.1)) p.chain,
    )

    -- a walk goes on from the place
    pub on_place : (knows_after : KnownObjects → Type 0) (more after : List Link)
        → IsPlace (with_place known name values b p.place) name (set values b p.place) b word rest knows_after more after
        → IsPlace known name values b word links knows_after (passed ++ more) after
    on_place ka more after q = record {
      place = q.place;
      parts = p.parts ∙ ap (λ ls. passed ++ ls) q.parts ∙ sym (append_assoc passed more after);
      lacks = lacks_append word passed more p.lacks q.lacks;
      chain = subst (λ m. IsChain m q.place after) (place_again known name values b p.place q.place) q.chain;
      known_now = subst ka (place_again known name values b p.place q.place) q.known_now;
    }

  -- the same place, where what was known stays so
  pub kept_place : (knows knows_after : KnownObjects → Type 0) (passed rest after : List Link) → rest ≡ after → IsPlace known name values b word links knows passed rest
      → ((known : KnownObjects) → knows known → knows_after known)
      → IsPlace known name values b word links knows_after passed after
  kept_place knows ka passed rest after e p keeps = record {
    place = p.place;
    parts = p.parts ∙ ap (λ ls. passed ++ ls) e;
    lacks = p.lacks;
    chain = subst (λ ls. IsChain (with_place known name values b p.place) p.place ls) e p.chain;
    known_now = keeps _ p.known_now;
  }

  pub apart_place : (knows : KnownObjects → Type 0) (passed rest : List Link) → IsPlace known name values b word links knows passed rest → IsApart name rest
  apart_place knows passed rest p = apart_rest name passed rest (subst (IsApart name) p.parts apart)

  pub rest_place : (knows : KnownObjects → Type 0) (passed rest : List Link) → IsPlace known name values b word links knows passed rest → length passed + length rest ≡ length links
  rest_place knows passed rest p = sym (ap length p.parts ∙ length-append passed rest)

  -- the end of a chain
  pub end_place : (knows : KnownObjects → Type 0) (passed rest : List Link) → rest ≡ [] → IsPlace known name values b word links knows passed rest → IsPlace known name values b word links knows links []
  end_place knows passed rest e p =
      let whole : links ≡ passed = p.parts ∙ ap (λ ls. passed ++ ls) e ∙ append_nil passed in record {
        place = p.place;
        parts = sym (append_nil links);
        lacks = subst (LacksWord word) (sym whole) p.lacks;
        chain = subst (λ ls. IsChain (with_place known name values b p.place) p.place ls) e p.chain;
        known_now = p.known_now;
      }

  pub spent_place : (knows : KnownObjects → Type 0) (passed rest : List Link) (p : IsPlace known name values b word links knows passed rest) → length links ≤ length passed → IsPlace known name values b word links knows links []
  spent_place knows passed [] p bound = record { place = p.place; parts = sym (append_nil links); lacks = subst (LacksWord word) (sym (p.parts ∙ append_nil passed)) p.lacks; chain = p.chain; known_now = p.known_now }
  spent_place knows passed (link ∷ after) p bound = let e = ap length p.parts ∙ length-append passed (link ∷ after) in absurd (omega (arith, bound, e))

-- a walk that stops at the word's entry
pub found_there : (known : KnownObjects) (head : Datum) (rest : List Link) (word : List ℕ) → IsChain known head rest → Stops word look.Found rest
    → (link : Link) × (more : List Link) × (rest ≡ link ∷ more) × (link.word ≡ word) × (head ≡ datum.Object link.entry)
found_there known head rest word chain stops =
    let here = subst (λ ls. IsChain known head ls) stops.2 chain in (stops.0, stops.1, stops.2, stops.3, here.0)

-- a slot below the top one keeps its value, whatever a walk pushes
below_same : (mid own : Thread) (top : ℕ) (front : Datum) → own ≡ mid → get_or mid.stack top datum.Null ≡ front → top < length mid.stack → (get_or own.stack top datum.Null ≡ front) × (top < length own.stack)
below_same mid own top front e v h = (ap (λ (o : Thread). get_or o.stack top datum.Null) e ∙ v, subst (λ n. top < n) (sym (ap (λ (o : Thread). length o.stack) e)) h)

below_pushed : (mid own : Thread) (x : Datum) (top : ℕ) (front : Datum) → own ≡ pushed mid x → get_or mid.stack top datum.Null ≡ front → top < length mid.stack → (get_or own.stack top datum.Null ≡ front) × (top < length own.stack)
below_pushed mid own x top front e v h = (ap (λ (o : Thread). get_or o.stack top datum.Null) e ∙ slot_below mid.stack x top h ∙ v, let s = size_after mid own x e in omega (arith, s, h))

-- what a walk leaves, as far as the table can be put back
pub record IsLeft (known : KnownObjects) (name : Name) (values : List Datum) (b : ℕ) (table top : ℕ) (front : Datum) (own : Thread) (knows : KnownObjects → Type 0) : Type 0 where
  pub place : Datum
  pub known_now : knows (with_place known name values b place)
  pub slot : get_or own.stack table datum.Null ≡ datum.Object name
  pub object : get (with_place known name values b place) name ≡ Some (Fields (set values b place))
  pub front_there : get_or own.stack top datum.Null ≡ front
  pub below : top < length own.stack

pub left_place : (mid : Standing) (known : KnownObjects) (name : Name) (values : List Datum) (b : ℕ) (word : List ℕ) (links : List Link) (said : Bool) (own : Thread) (knows : KnownObjects → Type 0) (table top : ℕ) (front : Datum)
    → Walked mid known name values b word links said own knows → IsAt mid.own known table name values → get_or mid.own.stack top datum.Null ≡ front → top < length mid.own.stack
    → IsLeft known name values b table top front own knows
left_place mid known name values b word links true own knows table top front walked slot v h =
    let w = walked.0 refl in
    let e = w.4 in
    let r = below_pushed mid.own own _ top front e v h in
    let t = slot_after mid.own own _ known table name values e slot in
    record { place = (w.5).place; known_now = (w.5).known_now; slot = t.0; object = get-same known name (Fields (set values b (w.5).place)); front_there = r.0; below = r.1 }
left_place mid known name values b word links false own knows table top front walked slot v h =
    let w = walked.1 refl in
    let r = below_same mid.own own top front w.0 v h in
    let t = slot_same mid.own own known table name values w.0 slot in
    record { place = (w.1).place; known_now = (w.1).known_now; slot = t.0; object = get-same known name (Fields (set values b (w.1).place)); front_there = r.0; below = r.1 }

-- the table is put back
pub put_back : (known : KnownObjects) (name : Name) (values : List Datum) (b : ℕ) (place value : Datum) (knows : KnownObjects → Type 0) → value ≡ get_or values b datum.Null → get known name ≡ Some (Fields values)
    → knows (with_field (with_place known name values b place) name (set values b place) b value) → knows known
put_back known name values b place value knows e h k =
    subst knows (ap (λ v. with_place known name values b v) e ∙ place_same known name values b h) (subst knows (place_again known name values b place value) k)

pub found_after : (mid : Standing) (own : Thread) (front : Datum) (known : KnownObjects) (name : Name) (values : List Datum) (b : ℕ) (word : List ℕ) (links : List Link) (said : Bool) (last : Thread) (knows : KnownObjects → Type 0)
    → Walked mid known name values b word links said last knows → mid.own ≡ pushed own front → Found own front word links said last
found_after mid own front known name values b word links said last knows walked e = (
  λ y. let w = walked.0 y in (w.0, w.1, w.2, (w.5).parts, w.3, (w.5).lacks, w.4 ∙ ap (λ o. pushed o (datum.Object (w.1).entry)) e),
  λ n. let w = walked.1 n in ((w.1).lacks, w.0 ∙ e),
)
