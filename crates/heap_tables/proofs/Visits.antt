-- The walk through the buckets of a table.
use Rattle.std.proofs.Common.{zero, suc, ◌≡◌, ◌⊎◌, inl, inr, ℕ, ◌+◌, ◌<◌, ◌≤◌, List, [], ◌∷◌, ◌++◌, drop, take, refl, ◌∙◌, ap, sym, subst, Some, None, Option, cond, arith, length, get_or}
use Rattle.yak_model.specs.declared.TheConstants.{BUCKETS}
use Rattle.std.proofs.lemmas.Bool.{cases_lt}
use Rattle.std.specs.FinMap.{get}
use Rattle.object_layout.specs.declared.names.Name.{Name}
use Rattle.yak_model.specs.declared.datum.Datum.TheVariants as datum
use Rattle.yak_model.specs.Graph.{standard_limits}
use Rattle.yak_model.specs.Private.{FitPages, KnownObjects}
use Rattle.yak_model.specs.Standing.{Standing}
use Rattle.yak_model.specs.Tables.{AreDifferent, AreInBucket, HasCount, IsCountTable, LacksWord, Link, bucket_of}
use Rattle.yak_model.specs.Texts.{WordCounts}
use Rattle.heap_tables.specs.Cursors.{IsFound, IsNext, IsPast, IsVisited, MayWalk, start_in}
use Rattle.heap_tables.specs.Reads.{AreShort, IsCopied, Took}
use Rattle.heap_tables.specs.Walks.{IsApart, IsAtChain}
use Rattle.heap_tables.specs.declared.cursors.Cursor.{Cursor}
use Rattle.heap_tables.proofs.RaisedCounts.{one_count}
use Rattle.heap_tables.proofs.Effects.{value_same}
use Rattle.heap_tables.proofs.Raised.{distinct_parts, eqb_cases, has_count_at, home_at, lacks_at, table_apart}
use Rattle.heap_tables.proofs.Fitting.{chain_short}
use Rattle.heap_tables.proofs.Sought.{short_first}

same_pair : (p q : ℕ × ℕ) → Some p ≡ Some q → p ≡ q
same_pair p q e = cc

pub took_parts : (ls : List Link) (size count : ℕ) (buffer : List ℕ) → Took ls (Some (size, count)) buffer → (link : Link) × (rest : List Link) × (ls ≡ link ∷ rest) × IsCopied link.word size buffer × (count ≡ link.count)
took_parts [] size count buffer t = cc
took_parts (link ∷ rest) size count buffer t =
    let same = same_pair (size, count) (t.0, link.count) t.1 in
    (link, rest, refl, subst (λ n. IsCopied link.word n buffer) (sym (ap (λ (p : ℕ × ℕ). p.0) same)) t.2, ap (λ (p : ℕ × ℕ). p.1) same)

pub took_nothing : (ls : List Link) (buffer : List ℕ) → Took ls None buffer → ls ≡ []
took_nothing [] buffer t = refl
took_nothing (link ∷ rest) buffer t = let e = t.1 in cc

pub took_visited : (at : Cursor) (b p : ℕ) (links : List Link) (size count : ℕ) (buffer : List ℕ) → p ≡ start_in at b → Took (drop p links) (Some (size, count)) buffer → IsVisited at b links (Some (size, count, record { bucket = b; place = p + 1 })) buffer
took_visited at b p links size count buffer e t =
    let r = took_parts (drop p links) size count buffer t in
    (r.0, r.1, sym (ap (λ n. drop n links) e) ∙ r.2, r.3, r.4, ap (λ n. record { bucket = b; place = n + 1 }) e)

pub drop_below : {A : Type 0} (n : ℕ) (xs ys : List A) (y : A) → drop n xs ≡ y ∷ ys → n < length xs
drop_below zero [] ys y e = cc
drop_below zero (x ∷ xs) ys y e = omega arith
drop_below (suc n) [] ys y e = cc
drop_below (suc n) (x ∷ xs) ys y e = let h = drop_below n xs ys y e in omega (arith, h)

pub drop_short : {A : Type 0} (n : ℕ) (xs : List A) → drop n xs ≡ [] → length xs ≤ n
drop_short zero [] e = omega arith
drop_short zero (x ∷ xs) e = cc
drop_short (suc n) [] e = omega arith
drop_short (suc n) (x ∷ xs) e = let h = drop_short n xs e in omega (arith, h)

pub drop_parts : {A : Type 0} (n : ℕ) (xs ys : List A) (y : A) → drop n xs ≡ y ∷ ys → (passed : List A) × (xs ≡ passed ++ y ∷ ys)
drop_parts zero [] ys y e = cc
drop_parts zero (x ∷ xs) ys y e = ([], e)
drop_parts (suc n) [] ys y e = cc
drop_parts (suc n) (x ∷ xs) ys y e = let r = drop_parts n xs ys y e in (x ∷ r.0, ap (λ zs. x ∷ zs) r.1)

-- the start of a bucket isn't past any place that is past the cursor
pub past_start : (buckets : ℕ → List Link) (at : Cursor) (b p : ℕ) → IsPast buckets at b p → start_in at b ≤ p
past_start buckets at b p past = elim (eqb_cases at.bucket b) [
  | inl s ↦ subst (λ t. cond t at.place 0 ≤ p) (sym s.0) (elim past.2 [ inl lt ↦ (let e = s.1 in absurd (omega (arith, lt, e))) | inr same ↦ same.1 ])
  | inr o ↦ subst (λ t. cond t at.place 0 ≤ p) (sym o.0) (omega arith)
]

start_past : (at : Cursor) (b : ℕ) → at.bucket ≤ b → (at.bucket < b) ⊎ ((at.bucket ≡ b) × (at.place ≤ start_in at b))
start_past at b h = elim (eqb_cases at.bucket b) [
  | inl s ↦ inr (sym s.1, subst (λ t. at.place ≤ cond t at.place 0) (sym s.0) (omega arith))
  | inr o ↦ elim (cases_lt at.bucket b) [ inl lt ↦ inl lt | inr ge ↦ (let e : b ≡ at.bucket = omega (arith, ge, h) in absurd (o.1 e)) ]
]

-- no entry of a bucket is past the cursor where there is none from its start on
pub none_past : (buckets : ℕ → List Link) (at : Cursor) (b : ℕ) → drop (start_in at b) (buckets b) ≡ [] → ((c p : ℕ) → IsPast buckets at c p → b ≤ c) → (c p : ℕ) → IsPast buckets at c p → b + 1 ≤ c
none_past buckets at b none gone c p past = elim (cases_lt b c) [
  | inl lt ↦ omega (arith, lt)
  | inr ge ↦
      let low = gone c p past in
      let e : c ≡ b = omega (arith, ge, low) in
      let past_here : IsPast buckets at b p = subst (λ d. IsPast buckets at d p) e past in
      let start = past_start buckets at b p past_here in
      let short = drop_short (start_in at b) (buckets b) none in
      let within = past_here.1 in
      absurd (omega (arith, start, short, within))
]

pub is_next : (buckets : ℕ → List Link) (at : Cursor) (b : ℕ) → b < BUCKETS → at.bucket ≤ b → ((c p : ℕ) → IsPast buckets at c p → b ≤ c) → (said : ℕ × ℕ × Cursor) (buffer : List ℕ) → AreShort (buckets b) → IsVisited at b (buckets b) (Some said) buffer → IsFound buckets at (Some said) buffer
is_next buckets at b bound low gone said buffer short v =
    let start = start_in at b in
    let link = v.0 in
    let long = short_first start (buckets b) v.1 link short v.2 in
    let size = v.3.0 in (
      omega (arith, size, long),
      subst (λ n. IsNext buckets at (take said.0 buffer) said.1 n) (sym v.5) (record {
        place = start;
        link = link;
        rest = v.1;
        past = (bound, drop_below start (buckets b) v.1 link v.2, start_past at b low);
        first = λ c p past. let here = gone c p past in elim (cases_lt b c) [
          | inl lt ↦ inl lt
          | inr ge ↦ (let e : b ≡ c = omega (arith, ge, here) in inr (e, past_start buckets at b p (subst (λ d. IsPast buckets at d p) (sym e) past)))
        ];
        there = v.2;
        words = v.3.1;
        counts = v.4;
        after = refl;
      }),
    )

module _ (known : KnownObjects) (name : Name) (counts : WordCounts) (table : IsCountTable known name counts) (b : ℕ) (bound : b < BUCKETS) where
  -- an entry of a bucket has the count of its word
  pub counted_at : (passed rest : List Link) (link : Link) → table.buckets b ≡ passed ++ link ∷ rest → get counts link.word ≡ Some link.count
  counted_at passed rest link parts = by_option (get counts link.word) refl
    where
      home : bucket_of link.word ≡ b
      home = home_at b passed rest link (subst (AreInBucket b) parts ((table.table).homes b bound))

      by_option : (o : Option ℕ) → get counts link.word ≡ o → get counts link.word ≡ Some link.count
      by_option None e = absurd (lacks_at link.word passed rest link (subst (LacksWord link.word) (ap table.buckets home ∙ parts) (table.absent link.word e)) refl)
      by_option (Some k) e =
          let has = subst (λ ls. HasCount link.word ls k) (ap table.buckets home ∙ parts) (table.counted link.word k e) in
          let apart = distinct_parts passed rest link (subst AreDifferent parts ((table.table).distinct b bound)) in
          e ∙ ap Some (one_count link.word (passed ++ link ∷ rest) k link.count has (has_count_at link.word passed rest link apart.0 refl))

module _ (s : Standing) (known : KnownObjects) (table : ℕ) (name : Name) (counts : WordCounts) (may : MayWalk s known table name counts) (b : ℕ) (bound : b < BUCKETS) where
  pub walk_short : s.limits ≡ standard_limits → FitPages s.limits known → AreShort ((may.is_table).buckets b)
  walk_short standard fit = let t = (may.is_table).table in chain_short s.limits standard known fit ((may.is_table).buckets b) (get_or (may.is_table).heads b datum.Null) (t.chains b bound)

  pub walk_at : (now : Standing) → now.own ≡ s.own → IsAtChain now known table b name (may.is_table).heads ((may.is_table).buckets b)
  walk_at now own =
      let t = (may.is_table).table in
      ((value_same s.own now.own table own ∙ may.slot, t.object), (let size = t.size in omega (arith, size, bound)), t.chains b bound)

  pub walk_apart : IsApart name ((may.is_table).buckets b)
  walk_apart = let t = (may.is_table).table in table_apart known name (may.is_table).heads (may.is_table).buckets t ((may.is_table).buckets b) (get_or (may.is_table).heads b datum.Null) (t.chains b bound)

abbrev pub walk_now : (s now : Standing) (known : KnownObjects) (table : ℕ) (name : Name) (counts : WordCounts) → MayWalk s known table name counts → now.own ≡ s.own → MayWalk now known table name counts
walk_now s now known table name counts may own = record {
  slot = value_same s.own now.own table own ∙ may.slot;
  is_table = may.is_table;
  few = may.few;
}

-- the count of the next word of the walk
pub next_count : (known : KnownObjects) (name : Name) (counts : WordCounts) (table : IsCountTable known name counts) (at : Cursor) (word : List ℕ) (count : ℕ) (next : Cursor) → IsNext table.buckets at word count next → get counts word ≡ Some count
next_count known name counts table at word count next n =
    let parts = drop_parts n.place (table.buckets next.bucket) n.rest n.link n.there in
    let found = counted_at known name counts table next.bucket (n.past).0 parts.0 n.rest n.link parts.1 in
    ap (get counts) n.words ∙ found ∙ ap Some (sym n.counts)
