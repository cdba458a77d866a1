-- Ways to a place in a chain.
use Rattle.std.proofs.Common.{◌⊎◌, inl, inr, zero, suc, ◌≡◌, ◌≢◌, ℕ, ◌+◌, ◌<◌, ◌≤◌, List, [], ◌∷◌, get_or, set, drop, refl, ◌∙◌, ap, sym, subst, length, Some, None, arith, length-set, get_or-set_same}
use Rattle.std.specs.FinMap.{get}
use Rattle.object_layout.specs.declared.names.Name.{Name}
use Rattle.yak_model.specs.declared.datum.Datum.{Datum}
use Rattle.yak_model.specs.declared.datum.Datum.TheVariants as datum
use Rattle.yak_model.specs.Graph.{Fields, Thread}
use Rattle.yak_model.specs.Private.{KnownObjects}
use Rattle.yak_model.proofs.Names.{get-same}
use Rattle.yak_model.specs.Standing.{Standing}
use Rattle.yak_model.specs.Tables.{Link, IsChain, IsEntry}
use Rattle.heap_tables.specs.Walks.{IsApart, IsAtChain, with_place}
use Rattle.heap_tables.specs.declared.TheConstants.{KEY_BYTES}
use Rattle.heap_tables.specs.Reads.{AreShort, IsCopied, Took}
use Rattle.heap_tables.specs.Seeks.{IsSkipped, first_of}
use Rattle.heap_tables.specs.Runs.{pushed}
use Rattle.heap_tables.proofs.Effects.{size_after, slot_after, slot_below, top_after}
use Rattle.heap_tables.proofs.Places.{place_same}

drop_suc : {A : Type 0} (n : ℕ) (xs rest : List A) (x : A) → drop n xs ≡ x ∷ rest → drop (suc n) xs ≡ rest
drop_suc zero [] rest x e = cc
drop_suc zero (y ∷ xs) rest x e = let q : xs ≡ rest = cc in q
drop_suc (suc n) [] rest x e = cc
drop_suc (suc n) (y ∷ xs) rest x e = drop_suc n xs rest x e

pub drop_more : {A : Type 0} (n : ℕ) (xs rest : List A) (x : A) → drop n xs ≡ x ∷ rest → drop (n + 1) xs ≡ rest
drop_more n xs rest x e = let q : suc n ≡ n + 1 = omega arith in subst (λ m. drop m xs ≡ rest) q (drop_suc n xs rest x e)

pub drop_past : {A : Type 0} (n m : ℕ) (xs : List A) → drop n xs ≡ [] → n ≤ m → drop m xs ≡ []
drop_past n zero [] e h = refl
drop_past n (suc m) [] e h = refl
drop_past zero m (x ∷ xs) e h = cc
drop_past (suc n) zero (x ∷ xs) e h = absurd (omega (arith, h))
drop_past (suc n) (suc m) (x ∷ xs) e h = drop_past n m xs e (omega (arith, h))

pub apart_drop : (name : Name) (n : ℕ) (links : List Link) → IsApart name links → IsApart name (drop n links)
apart_drop name zero [] h = h
apart_drop name zero (l ∷ links) h = h
apart_drop name (suc n) [] h = h
apart_drop name (suc n) (l ∷ links) h = apart_drop name n links h.2

-- the value at the front of a chain
pub chain_front : (known : KnownObjects) (head : Datum) (links : List Link) → IsChain known head links → head ≡ first_of links
chain_front known head [] chain = chain
chain_front known head (l ∷ links) chain = chain.0

module _ (s : Standing) (known : KnownObjects) (table : ℕ) (name : Name) (values : List Datum) (b : ℕ) (links : List Link) (at : IsAtChain s known table b name values links) where
  pub start_skip : (knows : KnownObjects → Type 0) → knows known → IsSkipped known name values b links knows
  start_skip knows k =
      let same = place_same known name values b at.0.1 in record {
        place = get_or values b datum.Null;
        chain = subst (λ m. IsChain m (get_or values b datum.Null) links) (sym same) at.2;
        known_now = subst knows (sym same) k;
      }

  -- what is at a place
  pub at_skip : (knows : KnownObjects → Type 0) (rest : List Link) (p : IsSkipped known name values b rest knows) (now : Standing) → get_or now.own.stack table datum.Null ≡ datum.Object name → IsAtChain now (with_place known name values b p.place) table b name (set values b p.place) rest
  at_skip knows rest p now slot = (
    (slot, get-same known name (Fields (set values b p.place))),
    subst (λ n. b < n) (sym (length-set values b p.place)) at.1,
    subst (λ d. IsChain (with_place known name values b p.place) d rest) (sym (get_or-set_same values b p.place datum.Null at.1)) p.chain,
  )

-- a table on the way to a place in one of its chains, whose front is in a slot: the stack before the front was pushed, after
-- it, and with the entry at the place
pub record IsSought (known : KnownObjects) (name : Name) (values : List Datum) (b table top : ℕ) (links : List Link) (mid own : Thread) (knows : KnownObjects → Type 0) : Type 0 where
  pub place : Datum
  pub known_now : knows (with_place known name values b place)
  pub object : get (with_place known name values b place) name ≡ Some (Fields (set values b place))
  pub within : b < length (set values b place)
  pub slot_mid : get_or mid.stack table datum.Null ≡ datum.Object name
  pub value : get_or (set values b place) b datum.Null ≡ first_of links
  pub slot_own : own ≡ pushed mid (first_of links) → get_or own.stack table datum.Null ≡ datum.Object name
  pub front_own : own ≡ pushed mid (first_of links) → get_or own.stack top datum.Null ≡ get_or values b datum.Null

pub sought : (s : Standing) (known : KnownObjects) (table : ℕ) (name : Name) (values : List Datum) (b : ℕ) (links : List Link) (at : IsAtChain s known table b name values links) (top : ℕ) → length s.own.stack ≡ top
    → (rest : List Link) (knows : KnownObjects → Type 0) (p : IsSkipped known name values b rest knows) (mid own : Thread) → mid ≡ pushed s.own (get_or values b datum.Null) → IsSought known name values b table top rest mid own knows
sought s known table name values b links at top size rest knows p mid own e =
    let slot = slot_after s.own mid (get_or values b datum.Null) known table name values e at.0 in
    let there = top_after s.own mid (get_or values b datum.Null) top e size in
    let deep = size_after s.own mid (get_or values b datum.Null) e in
    record {
      place = p.place;
      known_now = p.known_now;
      object = get-same known name (Fields (set values b p.place));
      within = subst (λ n. b < n) (sym (length-set values b p.place)) at.1;
      slot_mid = slot.0;
      value = get_or-set_same values b p.place datum.Null at.1 ∙ chain_front (with_place known name values b p.place) p.place rest p.chain;
      slot_own = λ q. (slot_after mid own (first_of rest) known table name values q slot).0;
      front_own = λ q. ap (λ (o : Thread). get_or o.stack top datum.Null) q ∙ slot_below mid.stack (first_of rest) top (omega (arith, deep, size)) ∙ there;
    }

-- the entry at a place of a chain
pub entry_there : (known : KnownObjects) (head : Datum) (links : List Link) (n : ℕ) → IsChain known head links → first_of (drop n links) ≢ datum.Null
    → (link : Link) × (rest : List Link) × (next : Datum) × (drop n links ≡ link ∷ rest) × IsEntry known next link
entry_there known head [] zero chain some = absurd (some refl)
entry_there known head [] (suc n) chain some = absurd (some refl)
entry_there known head (l ∷ links) zero chain some = (l, links, chain.1.0, refl, chain.1.1)
entry_there known head (l ∷ links) (suc n) chain some = entry_there known chain.1.0 links n chain.1.2 some

-- the first entry of what is left
pub front_is : (ls rest : List Link) (link : Link) → ls ≡ link ∷ rest → first_of ls ≡ datum.Object link.entry
front_is [] rest link e = cc
front_is (l ∷ ls) rest link e = ap first_of e

pub short_first : (n : ℕ) (links rest : List Link) (link : Link) → AreShort links → drop n links ≡ link ∷ rest → length link.word ≤ KEY_BYTES
short_first zero [] rest link short e = cc
short_first zero (l ∷ links) rest link short e = let q : l ≡ link = cc in subst (λ (m : Link). length m.word ≤ KEY_BYTES) q short.0
short_first (suc n) [] rest link short e = cc
short_first (suc n) (l ∷ links) rest link short e = short_first n links rest link short.1 e

pub short_drop : (n : ℕ) (links : List Link) → AreShort links → AreShort (drop n links)
short_drop zero [] short = short
short_drop zero (l ∷ links) short = short
short_drop (suc n) [] short = short
short_drop (suc n) (l ∷ links) short = short_drop n links short.1

-- a place that is past the end, or was come to
all_dropped : (n : ℕ) (links : List Link) → length links ≡ n → drop n links ≡ []
all_dropped zero [] e = refl
all_dropped zero (l ∷ links) e = absurd (omega (arith, e))
all_dropped (suc n) [] e = refl
all_dropped (suc n) (l ∷ links) e = all_dropped n links (omega (arith, e))

pub drop_reached : (n m : ℕ) (links : List Link) → n ≤ m → (n < m → length links ≡ n) → drop n links ≡ drop m links
drop_reached n m links few end = elim (le_cases n m few) [
  | inl less ↦ let none = all_dropped n links (end less) in none ∙ sym (drop_past n m links none few)
  | inr same ↦ ap (λ k. drop k links) same
]
  where
    le_cases : (n m : ℕ) → n ≤ m → (n < m) ⊎ (n ≡ m)
    le_cases zero zero h = inr refl
    le_cases zero (suc m) h = inl (omega arith)
    le_cases (suc n) zero h = absurd (omega (arith, h))
    le_cases (suc n) (suc m) h = elim (le_cases n m (omega (arith, h))) [ inl less ↦ inl (omega (arith, less)) | inr same ↦ inr (ap suc same) ]

pub first_of_links : (known : KnownObjects) (head : Datum) (links : List Link) → IsChain known head links → head ≢ datum.Null
    → (link : Link) × (rest : List Link) × (next : Datum) × (links ≡ link ∷ rest) × (head ≡ datum.Object link.entry) × IsEntry known next link
first_of_links known head [] chain null = absurd (null chain)
first_of_links known head (link ∷ links) chain null = (link, links, chain.1.0, refl, chain.0, chain.1.1)

pub took_none : (ls : List Link) (buffer : List ℕ) → first_of ls ≡ datum.Null → Took ls None buffer
took_none [] buffer e = refl
took_none (l ∷ ls) buffer e = cc

pub took_some : (ls rest : List Link) (link : Link) (size count : ℕ) (buffer : List ℕ) → ls ≡ link ∷ rest → IsCopied link.word size buffer → count ≡ link.count → Took ls (Some (size, count)) buffer
took_some ls rest link size count buffer e copied same =
    subst (λ l. Took l (Some (size, count)) buffer) (sym e) (size, ap (λ n. Some (size, n)) same, copied)

pub entry_drop : (known : KnownObjects) (head : Datum) (links rest : List Link) (link : Link) (n : ℕ) → IsChain known head links → drop n links ≡ link ∷ rest → (next : Datum) × IsEntry known next link
entry_drop known head [] rest link zero chain e = cc
entry_drop known head [] rest link (suc n) chain e = cc
entry_drop known head (l ∷ links) rest link zero chain e = let q : l ≡ link = cc in (chain.1.0, subst (λ m. IsEntry known chain.1.0 m) q chain.1.1)
entry_drop known head (l ∷ links) rest link (suc n) chain e = entry_drop known chain.1.0 links rest link n chain.1.2 e
