-- A table after the count in one of its entries was raised.
use Rattle.std.proofs.lemmas.List.{length-replicate}
use Rattle.yak_model.specs.declared.TheConstants.{BUCKETS}
use Rattle.std.proofs.Common.{replicate, zero, suc, ◌≡◌, ◌≢◌, ◌⊎◌, inl, inr, ℕ, ◌+◌, ◌<◌, List, [], ◌∷◌, ◌++◌, get_or, refl, ◌∙◌, ap, sym, subst, length, Some, arith, cond, true, false, eqb}
use Rattle.std.proofs.lemmas.Bool.Decides.{nat_tests}
use Rattle.std.proofs.lemmas.Bool.{cases_lt}
use Rattle.std.specs.FinMap.{get, insert}
use Rattle.object_layout.specs.declared.names.Name.{Name}
use Rattle.yak_model.specs.declared.datum.Datum.{Datum}
use Rattle.yak_model.specs.declared.datum.Datum.TheVariants as datum
use Rattle.yak_model.specs.Graph.{Fields}
use Rattle.yak_model.specs.Private.{KnownObjects}
use Rattle.yak_model.proofs.Names.{get-same}
use Rattle.yak_model.specs.Tables.{bucket_of}
use Rattle.yak_model.specs.Tables.{Link, IsChain, IsEntry, IsTable, LacksWord, AreDifferent, AreInBucket, HasCount, entry_fields}
use Rattle.heap_tables.specs.Walks.{IsApart}
use Rattle.heap_tables.specs.Adds.{IsAddedTo, IsNoEntry, with_bucket, with_count}
use Rattle.heap_tables.proofs.Entries.{same_fields, same_next, same_entry, key_no_entry, apart_words}
use Rattle.heap_tables.proofs.Places.{Agree, insert_agrees, chain_agrees}

abbrev pub with_sum : Link → ℕ → Link
with_sum link n = record link { count = link.count + n }

pub entry_at : (known : KnownObjects) (passed rest : List Link) (link : Link) (head : Datum) → IsChain known head (passed ++ link ∷ rest) → (next : Datum) × IsEntry known next link
entry_at known [] rest link head chain = (chain.1.0, chain.1.1)
entry_at known (p ∷ passed) rest link head chain = entry_at known passed rest link chain.1.0 chain.1.2

lacks_raised : (w : List ℕ) (passed rest : List Link) (link : Link) (n : ℕ) → LacksWord w (passed ++ link ∷ rest) → LacksWord w (passed ++ with_sum link n ∷ rest)
lacks_raised w [] rest link n h = h
lacks_raised w (p ∷ passed) rest link n h = (h.0, lacks_raised w passed rest link n h.1)

distinct_raised : (passed rest : List Link) (link : Link) (n : ℕ) → AreDifferent (passed ++ link ∷ rest) → AreDifferent (passed ++ with_sum link n ∷ rest)
distinct_raised [] rest link n h = h
distinct_raised (p ∷ passed) rest link n h = (lacks_raised p.word passed rest link n h.0, distinct_raised passed rest link n h.1)

homes_raised : (b : ℕ) (passed rest : List Link) (link : Link) (n : ℕ) → AreInBucket b (passed ++ link ∷ rest) → AreInBucket b (passed ++ with_sum link n ∷ rest)
homes_raised b [] rest link n h = h
homes_raised b (p ∷ passed) rest link n h = (h.0, homes_raised b passed rest link n h.1)

pub lacks_at : (w : List ℕ) (passed rest : List Link) (link : Link) → LacksWord w (passed ++ link ∷ rest) → link.word ≢ w
lacks_at w [] rest link h = h.0
lacks_at w (p ∷ passed) rest link h = lacks_at w passed rest link h.1

pub distinct_parts : (passed rest : List Link) (link : Link) → AreDifferent (passed ++ link ∷ rest) → LacksWord link.word passed × LacksWord link.word rest
distinct_parts [] rest link h = (tt, h.0)
distinct_parts (p ∷ passed) rest link h = let r = distinct_parts passed rest link h.1 in ((λ e. lacks_at p.word passed rest link h.0 (sym e), r.0), r.1)

pub other_bucket : (b c : ℕ) (w : List ℕ) → bucket_of w ≡ b → b ≢ c → (links : List Link) → AreInBucket c links → LacksWord w links
other_bucket b c w h o [] homes = tt
other_bucket b c w h o (l ∷ links) homes = (λ e. o (sym h ∙ sym (ap bucket_of e) ∙ homes.0), other_bucket b c w h o links homes.1)

pub home_at : (b : ℕ) (passed rest : List Link) (link : Link) → AreInBucket b (passed ++ link ∷ rest) → bucket_of link.word ≡ b
home_at b [] rest link h = h.0
home_at b (p ∷ passed) rest link h = home_at b passed rest link h.1

no_entry_at : (x : Name) (passed rest : List Link) (link : Link) → IsNoEntry x (passed ++ link ∷ rest) → link.entry ≢ x
no_entry_at x [] rest link h = h.0
no_entry_at x (p ∷ passed) rest link h = no_entry_at x passed rest link h.1

no_entry_raised : (x : Name) (passed rest : List Link) (link : Link) (n : ℕ) → IsNoEntry x (passed ++ link ∷ rest) → IsNoEntry x (passed ++ with_sum link n ∷ rest)
no_entry_raised x [] rest link n h = h
no_entry_raised x (p ∷ passed) rest link n h = (h.0, no_entry_raised x passed rest link n h.1)

raised_chain : (known after : KnownObjects) (rest : List Link) (link : Link) (next : Datum) (n : ℕ) → Agree known after link.entry → IsEntry known next link → get after link.entry ≡ Some (Fields (entry_fields next link.key (link.count + n)))
    → (passed : List Link) (head : Datum) → LacksWord link.word passed → LacksWord link.word rest → IsChain known head (passed ++ link ∷ rest) → IsChain after head (passed ++ with_sum link n ∷ rest)
raised_chain known after rest link next n agree entry now [] head lp lr chain =
    let same = same_next known next chain.1.0 link entry chain.1.1 in
    let key = chain.1.1.1 in (
      chain.0,
      (
        chain.1.0,
        (subst (λ d. get after link.entry ≡ Some (Fields (entry_fields d link.key (link.count + n)))) same now, (key.0, agree link.key (key_no_entry known link.key link.word next link key entry) ∙ key.1, key.2, key.3)),
        chain_agrees known after link.entry agree rest chain.1.0 (apart_words known next link entry rest chain.1.0 chain.1.2 lr) chain.1.2,
      ),
    )
raised_chain known after rest link next n agree entry now (p ∷ passed) head lp lr chain =
    let e = chain.1.1 in (
      chain.0,
      (
        chain.1.0,
        (agree p.entry (λ q. lp.0 (same_entry known chain.1.0 next p link q e entry)) ∙ e.0, (e.1.0, agree p.key (key_no_entry known p.key p.word next link e.1 entry) ∙ e.1.1, e.1.2, e.1.3)),
        raised_chain known after rest link next n agree entry now passed chain.1.0 lp.1 lr chain.1.2,
      ),
    )

eqb_same : (b : ℕ) → eqb b b ≡ true
eqb_same b = grind (arith, nat_tests)

pub eqb_cases : (b c : ℕ) → ((eqb c b ≡ true) × (c ≡ b)) ⊎ ((eqb c b ≡ false) × (c ≢ b))
eqb_cases b c = elim (cases_lt b c) [
  | inl lt ↦ inr ((grind (arith, nat_tests)), λ e. omega (arith, lt, e))
  | inr ge ↦ elim (cases_lt c b) [ inl lt ↦ inr ((grind (arith, nat_tests)), λ e. omega (arith, lt, e)) | inr le ↦ inl ((grind (arith, nat_tests)), omega (arith, ge, le)) ]
]

-- what holds of a new chain and of the others holds of all
pub in_bucket : (P : ℕ → List Link → Type 0) (buckets : ℕ → List Link) (b : ℕ) (links : List Link) → P b links → ((c : ℕ) → c < BUCKETS → c ≢ b → P c (buckets c)) → (c : ℕ) → c < BUCKETS → P c (with_bucket buckets b links c)
in_bucket P buckets b links new old c bound = elim (eqb_cases b c) [
  | inl s ↦ subst (λ t. P c (cond t links (buckets c))) (sym s.0) (subst (λ d. P d links) (sym s.1) new)
  | inr o ↦ subst (λ t. P c (cond t links (buckets c))) (sym o.0) (old c bound o.1)
]

pub raised_table : (known : KnownObjects) (name : Name) (heads : List Datum) (buckets : ℕ → List Link) (table : IsTable known name heads buckets) (word : List ℕ) (n : ℕ) (bound : bucket_of word < BUCKETS)
    → (passed rest : List Link) (link : Link) (parts : buckets (bucket_of word) ≡ passed ++ link ∷ rest) (same : link.word ≡ word) (next : Datum) (entry : IsEntry known next link)
    → (knows : KnownObjects → Type 0) → knows (with_count known next link (link.count + n)) → IsAddedTo known word n name buckets knows
raised_table known name heads buckets table word n bound passed rest link parts same next entry knows k =
    let after : KnownObjects = with_count known next link (link.count + n) in
    let links : List Link = passed ++ with_sum link n ∷ rest in
    let b : ℕ = bucket_of word in
    let agree : Agree known after link.entry = insert_agrees known link.entry (Fields (entry_fields next link.key (link.count + n))) in
    let now : get after link.entry ≡ Some (Fields (entry_fields next link.key (link.count + n))) = get-same known link.entry (Fields (entry_fields next link.key (link.count + n))) in
    let distinct : AreDifferent (passed ++ link ∷ rest) = subst AreDifferent parts (table.distinct b bound) in
    let homes : AreInBucket b (passed ++ link ∷ rest) = subst (AreInBucket b) parts (table.homes b bound) in
    let apart = distinct_parts passed rest link distinct in
    let not_table : name ≢ link.entry = λ e. let f = ap length (same_fields known name link.entry heads (entry_fields next link.key link.count) e table.object entry.0) in omega (arith, f, table.size) in
    record {
      after = after;
      heads = heads;
      links = links;
      known_now = k;
      is_table = record {
        object = agree name not_table ∙ table.object;
        size = table.size;
        chains = in_bucket (λ c ls. IsChain after (get_or heads c datum.Null) ls) buckets b links
            (raised_chain known after rest link next n agree entry now passed (get_or heads b datum.Null) apart.0 apart.1 (subst (IsChain known (get_or heads b datum.Null)) parts (table.chains b bound)))
            (λ c h o. chain_agrees known after link.entry agree (buckets c) (get_or heads c datum.Null)
            (apart_words known next link entry (buckets c) (get_or heads c datum.Null) (table.chains c h) (other_bucket b c link.word (ap bucket_of same) (λ e. o (sym e)) (buckets c) (table.homes c h))) (table.chains c h));
        homes = in_bucket AreInBucket buckets b links (homes_raised b passed rest link n homes) (λ c h o. table.homes c h);
        distinct = in_bucket (λ c ls. AreDifferent ls) buckets b links (distinct_raised passed rest link n distinct) (λ c h o. table.distinct c h);
      };
      adds = inl (passed, link, rest, parts, same, refl);
      others = λ x kx o no. agree x (λ e. no_entry_at x passed rest link (subst (IsNoEntry x) parts no) (sym e));
      fresh = λ x kx no. no_entry_raised x passed rest link n (subst (IsNoEntry x) parts no);
    }

pub no_int : (known : KnownObjects) (links : List Link) (head : Datum) → IsChain known head links → (m : ℕ) → head ≡ datum.Int m → ⊥
no_int known [] head chain m e = cc
no_int known (l ∷ links) head chain m e = let q = chain.0 in cc

pub table_apart : (known : KnownObjects) (name : Name) (heads : List Datum) (buckets : ℕ → List Link) (table : IsTable known name heads buckets) (links : List Link) (head : Datum) → IsChain known head links → IsApart name links
table_apart known name heads buckets table [] head chain = tt
table_apart known name heads buckets table (l ∷ links) head chain =
    let key = chain.1.1.1 in
    let some : 0 < BUCKETS = omega arith in (
      (λ e. let f = ap length (same_fields known l.entry name (entry_fields chain.1.0 l.key l.count) heads e chain.1.1.0 table.object) in omega (arith, f, table.size)),
      (λ e. let f = same_fields known l.key name key.0 heads e key.1 table.object in
          no_int known (buckets 0) (get_or heads 0 datum.Null) (table.chains 0 some) (length l.word) (sym (ap (λ vs. get_or vs 0 datum.Null) f) ∙ key.2.first)),
      table_apart known name heads buckets table links chain.1.0 chain.1.2,
    )

pub has_count_at : (word : List ℕ) (passed rest : List Link) (link : Link) → LacksWord word passed → link.word ≡ word → HasCount word (passed ++ link ∷ rest) link.count
has_count_at word [] rest link lacks same = inl (same, refl)
has_count_at word (p ∷ passed) rest link lacks same = inr (lacks.0, has_count_at word passed rest link lacks.1 same)

pub empty_table : (known : KnownObjects) (name : Name) (k : ℕ) → k ≡ BUCKETS → IsTable (insert known name (Fields (replicate k datum.Null))) name (replicate k datum.Null) (λ _. [])
empty_table known name k e = record {
  object = get-same known name (Fields (replicate k datum.Null));
  size = length-replicate k datum.Null ∙ e;
  chains = λ b h. nulls k b;
  homes = λ b h. tt;
  distinct = λ b h. tt;
}
  where
    nulls : (k b : ℕ) → get_or (replicate k datum.Null) b datum.Null ≡ datum.Null
    nulls zero b = refl
    nulls (suc k) zero = refl
    nulls (suc k) (suc b) = nulls k b
