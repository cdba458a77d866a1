-- The first entries of a chain, laid out on a stack.
use Rattle.std.proofs.Common.{◌-◌, zero, suc, ◌≡◌, ◌≢◌, inl, inr, ℕ, ◌+◌, ◌<◌, ◌≤◌, Bool, true, false, List, [], ◌∷◌, ◌++◌, drop, take, get_or, set, refl, ◌∙◌, ap, sym, subst, length, Some, arith, length-append, length-set, get_or-set_same, append_assoc}
use Rattle.std.proofs.Math.Seq.{take-append_seam}
use Rattle.std.proofs.lemmas.List.{get_or_append_left, get_or-append_right}
use Rattle.std.specs.FinMap.{get}
use Rattle.object_layout.specs.declared.names.Name.{Name}
use Rattle.yak_model.specs.declared.datum.Datum.{Datum}
use Rattle.yak_model.specs.declared.datum.Datum.TheVariants as datum
use Rattle.yak_model.specs.Graph.{Fields, Thread}
use Rattle.yak_model.specs.Private.{KnownObjects}
use Rattle.yak_model.specs.Tables.{IsChain, IsEntry, LacksWord, Link}
use Rattle.heap_tables.specs.Adds.{AddsCount}
use Rattle.heap_tables.specs.Layouts.{FoundBeyond, IsBeyond, IsLaid, LaysNext, firsts, laid_out}
use Rattle.heap_tables.specs.Runs.{pushed, slot_in, with_field, without_top}
use Rattle.heap_tables.specs.Seeks.{IsSkipped, first_of}
use Rattle.heap_tables.specs.Walks.{IsAtChain, Walked, with_place}
use Rattle.heap_tables.proofs.Effects.{in_bounds}
use Rattle.heap_tables.proofs.Places.{chain_agrees, insert_agrees, place_again, place_same}
use Rattle.heap_tables.proofs.Raised.{with_sum}
use Rattle.heap_tables.proofs.Sought.{chain_front, drop_more, entry_drop, front_is}
use Rattle.heap_tables.proofs.Visits.{drop_below}
use Rattle.yak_model.proofs.Names.{get-same}
use Rattle.yak_model.specs.Standing.{Standing}

-- ---- the references

pub firsts_length : (links : List Link) (n : ℕ) → length (firsts links n) ≡ n + 1
firsts_length [] zero = refl
firsts_length [] (suc n) = let h = firsts_length [] n in omega (arith, h)
firsts_length (l ∷ links) zero = refl
firsts_length (l ∷ links) (suc n) = let h = firsts_length links n in omega (arith, h)

nulls_at : (n i : ℕ) → get_or (firsts [] n) i datum.Null ≡ datum.Null
nulls_at zero zero = refl
nulls_at zero (suc i) = refl
nulls_at (suc n) zero = refl
nulls_at (suc n) (suc i) = nulls_at n i

none_left : (i : ℕ) → first_of (drop i []) ≡ datum.Null
none_left zero = refl
none_left (suc i) = refl

firsts_at : (links : List Link) (n i : ℕ) → i ≤ n → get_or (firsts links n) i datum.Null ≡ first_of (drop i links)
firsts_at [] n i h = nulls_at n i ∙ sym (none_left i)
firsts_at (l ∷ links) zero zero h = refl
firsts_at (l ∷ links) zero (suc i) h = absurd (omega (arith, h))
firsts_at (l ∷ links) (suc n) zero h = refl
firsts_at (l ∷ links) (suc n) (suc i) h = firsts_at links n i (omega (arith, h))

firsts_push : (links : List Link) (n : ℕ) → firsts links (suc n) ≡ firsts links n ++ first_of (drop (suc n) links) ∷ []
firsts_push [] zero = refl
firsts_push [] (suc n) = ap (λ vs. datum.Null ∷ vs) (firsts_push [] n)
firsts_push (l ∷ []) zero = refl
firsts_push (l ∷ k ∷ links) zero = refl
firsts_push (l ∷ links) (suc n) = ap (λ vs. datum.Object l.entry ∷ vs) (firsts_push links n)

firsts_next : (links rest : List Link) (link : Link) (n : ℕ) → drop n links ≡ link ∷ rest → firsts links (n + 1) ≡ firsts links n ++ first_of rest ∷ []
firsts_next links rest link n e =
    let q : suc n ≡ n + 1 = omega arith in
    let r : drop (suc n) links ≡ rest = ap (λ k. drop k links) q ∙ drop_more n links rest link e in
    ap (firsts links) (sym q) ∙ firsts_push links n ∙ ap (λ ls. firsts links n ++ first_of ls ∷ []) r

-- ---- the stack

module _ (own : Thread) (links : List Link) where
  pub laid_first : pushed own (first_of links) ≡ laid_out own links 0
  laid_first = ap (λ (vs : List Datum). record own { stack = own.stack ++ vs }) (one links)
    where
      one : (ls : List Link) → first_of ls ∷ [] ≡ firsts ls 0
      one [] = refl
      one (l ∷ ls) = refl

  pub laid_size : (n : ℕ) (after : Thread) → after ≡ laid_out own links n → length after.stack ≡ length own.stack + (n + 1)
  laid_size n after e = ap (λ (o : Thread). length o.stack) e ∙ length-append own.stack (firsts links n) ∙ ap (λ k. length own.stack + k) (firsts_length links n)

  pub laid_more : (n : ℕ) (link : Link) (rest : List Link) → drop n links ≡ link ∷ rest → pushed (laid_out own links n) (first_of rest) ≡ laid_out own links (n + 1)
  laid_more n link rest e =
      ap (λ (vs : List Datum). record own { stack = vs })
      (append_assoc own.stack (firsts links n) (first_of rest ∷ []) ∙ ap (λ vs. own.stack ++ vs) (sym (firsts_next links rest link n e)))

  -- a slot below
  pub laid_below : (n : ℕ) (after : Thread) → after ≡ laid_out own links n → (i : ℕ) (name : Name) → get_or own.stack i datum.Null ≡ datum.Object name → get_or after.stack i datum.Null ≡ datum.Object name
  laid_below n after e i name h = ap (λ (o : Thread). get_or o.stack i datum.Null) e ∙ get_or_append_left own.stack (firsts links n) datum.Null i (in_bounds own.stack i name h) ∙ h

  pub laid_at : (n at i : ℕ) (after : Thread) → after ≡ laid_out own links n → length own.stack ≡ at → i ≤ n → get_or after.stack (at + i) datum.Null ≡ first_of (drop i links)
  laid_at n at i after e size h =
      let less : (at + i) - at ≡ i = omega arith in
      ap (λ (o : Thread). get_or o.stack (at + i) datum.Null) e ∙ get_or-append_right own.stack (firsts links n) at (at + i) datum.Null size (omega arith) ∙ ap (λ k. get_or (firsts links n) k datum.Null) less ∙ firsts_at links n i h

  pub laid_dropped : (n : ℕ) (after : Thread) → after ≡ laid_out own links n → without_top after (n + 1) ≡ own
  laid_dropped n after e =
      let size = length-append own.stack (firsts links n) in
      let long = firsts_length links n in
      let less : length (own.stack ++ firsts links n) - (n + 1) ≡ length own.stack = omega (arith, size, long) in
      ap (λ o. without_top o (n + 1)) e ∙ ap (λ (st : List Datum). record own { stack = st }) (ap (λ k. take k (own.stack ++ firsts links n)) less ∙ take-append_seam own.stack (firsts links n))

drop_zero : (links : List Link) → drop 0 links ≡ links
drop_zero [] = refl
drop_zero (l ∷ links) = refl

pub drop_start : (first : ℕ) (links : List Link) → first ≡ 0 → links ≡ drop first links
drop_start first links e = sym (ap (λ k. drop k links) e ∙ drop_zero links)

-- entries that are laid out from the front on
pub laid_whole : (own : Thread) (links : List Link) (first n : ℕ) (after : Thread) → first ≡ 0 → IsLaid own (drop first links) n after → IsLaid own links n after
laid_whole own links first n after e = subst (λ ls. IsLaid own ls n after) (ap (λ k. drop k links) e ∙ drop_zero links)

pub whole_laid : (own : Thread) (links : List Link) (first n : ℕ) (after : Thread) → first ≡ 0 → IsLaid own links n after → IsLaid own (drop first links) n after
whole_laid own links first n after e = subst (λ ls. IsLaid own ls n after) (sym (ap (λ k. drop k links) e ∙ drop_zero links))

-- with the front of the chain below them
pub window_dropped : (own : Thread) (front : Datum) (links : List Link) (n : ℕ) (after : Thread) → after ≡ laid_out (pushed own front) links n → without_top after (n + 2) ≡ own
window_dropped own front links n after e =
    let whole = append_assoc own.stack (front ∷ []) (firsts links n) in
    let size = length-append own.stack (front ∷ firsts links n) in
    let long = firsts_length links n in
    let less : length (own.stack ++ front ∷ firsts links n) - (n + 2) ≡ length own.stack = omega (arith, size, long) in
    ap (λ o. without_top o (n + 2)) e
    ∙ ap (λ (st : List Datum). record own { stack = take (length st - (n + 2)) st }) whole
    ∙ ap (λ (st : List Datum). record own { stack = st }) (ap (λ k. take k (own.stack ++ front ∷ firsts links n)) less ∙ take-append_seam own.stack (front ∷ firsts links n))

-- ---- the chain

pub chain_first : (known : KnownObjects) (head : Datum) (links : List Link) → IsChain known head links → IsChain known (first_of links) links
chain_first known head links chain = subst (λ h. IsChain known h links) (chain_front known head links chain) chain

pub chain_at : (known : KnownObjects) (links : List Link) (n : ℕ) → IsChain known (first_of links) links → IsChain known (first_of (drop n links)) (drop n links)
chain_at known [] zero chain = chain
chain_at known [] (suc n) chain = chain
chain_at known (l ∷ links) zero chain = chain
chain_at known (l ∷ links) (suc n) chain = chain_at known links n (chain_first known chain.1.0 links chain.1.2)

drop_some : (links : List Link) (i : ℕ) → i < length links → (link : Link) × (rest : List Link) × (drop i links ≡ link ∷ rest)
drop_some [] i h = absurd (omega (arith, h))
drop_some (l ∷ links) zero h = (l, links, refl)
drop_some (l ∷ links) (suc i) h = drop_some links i (omega (arith, h))

module _ (known : KnownObjects) (own : Thread) (links : List Link) (chain : IsChain known (first_of links) links) (n at : ℕ) (after : Thread) (laid : IsLaid own links n after) (size : length own.stack ≡ at) where
  pub laid_chain : (i : ℕ) → i ≤ n → IsChain known (get_or after.stack (at + i) datum.Null) (drop i links)
  laid_chain i h = subst (λ v. IsChain known v (drop i links)) (sym (laid_at own links n at i after laid.1 size h)) (chain_at known links i chain)

  pub laid_link : (i : ℕ) → i ≤ n → (link : Link) (rest : List Link) → drop i links ≡ link ∷ rest → (next : Datum) × (get_or after.stack (at + i) datum.Null ≡ datum.Object link.entry) × IsEntry known next link
  laid_link i h link rest e =
      let entry = entry_drop known (first_of links) links rest link i chain e in
      (entry.0, laid_at own links n at i after laid.1 size h ∙ front_is (drop i links) rest link e, entry.1)

  pub laid_entry : (i : ℕ) → i < n → (link : Link) × (rest : List Link) × (next : Datum) × (drop i links ≡ link ∷ rest) × (get_or after.stack (at + i) datum.Null ≡ datum.Object link.entry) × IsEntry known next link
  laid_entry i h =
      let few = laid.0 in
      let there = drop_some links i (omega (arith, h, few)) in
      let entry = entry_drop known (first_of links) links there.1 there.0 i chain there.2 in
      (there.0, there.1, entry.0, there.2, laid_at own links n at i after laid.1 size (omega (arith, h)) ∙ front_is (drop i links) there.1 there.0 there.2, entry.1)

-- ---- one more entry

module _ (own after : Thread) (known : KnownObjects) (head : Datum) where
  pub lays_end : (links : List Link) → IsChain known head links → (head ≡ datum.Null → after ≡ own)
      → ((next : Datum) (link : Link) → head ≡ datum.Object link.entry → IsEntry known next link → ⊥)
      → LaysNext own links false after
  lays_end [] chain null some = null chain
  lays_end (link ∷ links) chain null some = absurd (some chain.1.0 link chain.0 chain.1.1)

  pub lays_more : (links : List Link) → IsChain known head links → head ≢ datum.Null
      → ((next : Datum) (link : Link) → head ≡ datum.Object link.entry → IsEntry known next link → after ≡ pushed own next)
      → LaysNext own links true after
  lays_more [] chain null on = absurd (null chain)
  lays_more (link ∷ links) chain null on =
      (link, links, refl, on chain.1.0 link chain.0 chain.1.1 ∙ ap (pushed own) (chain_front known chain.1.0 links chain.1.2))

-- no more entry
pub lays_none : (known : KnownObjects) (head : Datum) (links : List Link) → IsChain known head links
    → ((next : Datum) (link : Link) → head ≡ datum.Object link.entry → IsEntry known next link → ⊥)
    → links ≡ []
lays_none known head [] chain some = refl
lays_none known head (link ∷ links) chain some = absurd (some chain.1.0 link chain.0 chain.1.1)

pub all_passed : (n : ℕ) (links : List Link) → n ≤ length links → drop n links ≡ [] → length links ≡ n
all_passed zero [] few e = refl
all_passed zero (l ∷ links) few e = cc
all_passed (suc n) [] few e = absurd (omega (arith, few))
all_passed (suc n) (l ∷ links) few e = let h = all_passed n links (omega (arith, few)) e in omega (arith, h)

pub laid_next : (own : Thread) (links : List Link) (n : ℕ) (mid after : Thread) → IsLaid own links n mid → LaysNext mid (drop n links) true after → IsLaid own links (n + 1) after
laid_next own links n mid after laid next =
    let more = drop_below n links next.1 next.0 next.2 in
    (omega (arith, more), next.3 ∙ ap (λ o. pushed o (first_of next.1)) laid.1 ∙ laid_more own links n next.0 next.1 next.2)

-- ---- a count that was raised

firsts_raised : (passed rest : List Link) (link : Link) (k n : ℕ) → firsts (passed ++ with_sum link k ∷ rest) n ≡ firsts (passed ++ link ∷ rest) n
firsts_raised [] rest link k zero = refl
firsts_raised [] rest link k (suc n) = refl
firsts_raised (p ∷ passed) rest link k zero = refl
firsts_raised (p ∷ passed) rest link k (suc n) = ap (λ vs. datum.Object p.entry ∷ vs) (firsts_raised passed rest link k n)

length_raised : (passed rest : List Link) (link : Link) (k : ℕ) → length (passed ++ with_sum link k ∷ rest) ≡ length (passed ++ link ∷ rest)
length_raised [] rest link k = refl
length_raised (p ∷ passed) rest link k = ap suc (length_raised passed rest link k)

firsts_raised_from : (first : ℕ) (passed rest : List Link) (link : Link) (k n : ℕ) → firsts (drop first (passed ++ with_sum link k ∷ rest)) n ≡ firsts (drop first (passed ++ link ∷ rest)) n
firsts_raised_from zero [] rest link k n = firsts_raised [] rest link k n
firsts_raised_from zero (p ∷ passed) rest link k n = firsts_raised (p ∷ passed) rest link k n
firsts_raised_from (suc first) [] rest link k n = refl
firsts_raised_from (suc first) (p ∷ passed) rest link k n = firsts_raised_from first passed rest link k n

length_raised_from : (first : ℕ) (passed rest : List Link) (link : Link) (k : ℕ) → length (drop first (passed ++ with_sum link k ∷ rest)) ≡ length (drop first (passed ++ link ∷ rest))
length_raised_from zero [] rest link k = refl
length_raised_from zero (p ∷ passed) rest link k = length_raised (p ∷ passed) rest link k
length_raised_from (suc first) [] rest link k = refl
length_raised_from (suc first) (p ∷ passed) rest link k = length_raised_from first passed rest link k

-- the same, from a place of the chain on
pub laid_raised_from : (first : ℕ) (own after : Thread) (word : List ℕ) (k : ℕ) (links later : List Link) → (LacksWord word links → ⊥) → AddsCount word k links later → (n : ℕ) → IsLaid own (drop first links) n after → IsLaid own (drop first later) n after
laid_raised_from first own after word k links later there adds n laid = elim adds [
  | inl a ↦
      let old = ap (drop first) a.3 in
      let new = ap (drop first) a.5 in
      let long : length (drop first later) ≡ length (drop first links) = ap length new ∙ length_raised_from first a.0 a.2 a.1 k ∙ sym (ap length old) in
      let same : firsts (drop first links) n ≡ firsts (drop first later) n = ap (λ ls. firsts ls n) old ∙ sym (firsts_raised_from first a.0 a.2 a.1 k n) ∙ sym (ap (λ ls. firsts ls n) new) in
      let few = laid.0 in
      (omega (arith, long, few), laid.1 ∙ ap (λ (vs : List Datum). record own { stack = own.stack ++ vs }) same)
  | inr b ↦ absurd (there b.0)
]

-- ---- a walk from a later place

module _ (s : Standing) (known : KnownObjects) (table b at start : ℕ) (name : Name) (values : List Datum) (links : List Link) (y : IsBeyond s known table b at start name values links) where
  -- a place further on, put into the table's bucket
  pub skipped_at : (place : Datum) (rest : List Link) → IsChain (with_place known name values b place) place rest → (now : Standing) → now.own ≡ s.own → IsAtChain now (with_place known name values b place) table b name (set values b place) rest
  skipped_at place rest chain now own = (
    (ap (λ (o : Thread). get_or o.stack table datum.Null) own ∙ y.slot.0, get-same known name (Fields (set values b place))),
    subst (λ n. b < n) (sym (length-set values b place)) y.within,
    subst (λ d. IsChain (with_place known name values b place) d rest) (sym (get_or-set_same values b place datum.Null y.within)) chain,
  )

  pub beyond_at : (now : Standing) → now.own ≡ s.own → IsAtChain now (with_place known name values b (slot_in s start)) table b name (set values b (slot_in s start)) links
  beyond_at now own =
      let place = slot_in s start in
      skipped_at place links (chain_agrees known (with_place known name values b place) name (insert_agrees known name _) links place y.apart y.chain) now own

-- a place that was put over another one
pub skipped_again : (known : KnownObjects) (name : Name) (values : List Datum) (b : ℕ) (first : Datum) (rest : List Link) (knows : KnownObjects → Type 0)
    → IsSkipped (with_place known name values b first) name (set values b first) b rest knows → IsSkipped known name values b rest knows
skipped_again known name values b first rest knows k =
    let same = place_again known name values b first k.place in
    record { place = k.place; chain = subst (λ m. IsChain m k.place rest) same k.chain; known_now = subst knows same k.known_now }

pub beyond_found : (own : Thread) (s : Standing) (known : KnownObjects) (name : Name) (values : List Datum) (b : ℕ) (word : List ℕ) (links : List Link) (said : Bool) (last : Thread) (knows : KnownObjects → Type 0)
    → s.own ≡ own → Walked s known name values b word links said last knows → FoundBeyond own word links said last
beyond_found own s known name values b word links true last knows e walked =
    let w = walked.0 refl in (w.0, w.1, w.2, (w.5).parts, w.3, w.4 ∙ ap (λ o. pushed o (datum.Object (w.1).entry)) e)
beyond_found own s known name values b word links false last knows e walked = (walked.1 refl).0 ∙ e

-- ---- the front of a chain is put back after a walk from a later place

pub put_front : (known : KnownObjects) (name : Name) (values : List Datum) (b : ℕ) (start place value : Datum) (knows : KnownObjects → Type 0) → value ≡ get_or values b datum.Null → get known name ≡ Some (Fields values)
    → knows (with_field (with_place (with_place known name values b start) name (set values b start) b place) name (set (set values b start) b place) b value) → knows known
put_front known name values b start place value knows e h k =
    subst knows (place_again known name values b start value ∙ ap (λ v. with_place known name values b v) e ∙ place_same known name values b h) (subst knows (place_again (with_place known name values b start) name (set values b start) b place value) k)
