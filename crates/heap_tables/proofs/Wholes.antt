-- What a merge leaves of whole tables.
use Rattle.std.proofs.Common.{zero, suc, ◌≡◌, ◌≢◌, inl, inr, ℕ, ◌+◌, ◌-◌, ◌<◌, ◌≤◌, List, [], ◌∷◌, ◌++◌, refl, ◌∙◌, ap, sym, subst, Some, None, Option, IsSome, is_some, cond, true≢false, arith, length, append_assoc}
use Rattle.yak_model.specs.declared.TheConstants.{BUCKETS}
use Rattle.std.proofs.lemmas.Bool.{cases_lt}
use Rattle.std.specs.Cmp.Lexicographic.{nat_list_cmp_total, slice_cmp}
use Rattle.std.specs.Ordering.{nat_cmp}
use Rattle.std.specs.List.{Contains}
use Rattle.std.specs.FinMap.{empty_of_len, get, get-empty, get-remove, len, len-remove, remove}
use Rattle.object_layout.specs.declared.names.Name.{Name}
use Rattle.yak_model.specs.Graph.{Thread}
use Rattle.yak_model.specs.Private.{KnownObjects}
use Rattle.yak_model.specs.Standing.{Standing}
use Rattle.yak_model.specs.Tables.{AreDifferent, AreInBucket, HasCount, IsCountTable, LacksWord, Link, bucket_of}
use Rattle.yak_model.specs.Texts.{WordCounts}
use Rattle.heap_tables.specs.Adds.{IsNoEntry}
use Rattle.heap_tables.specs.Asides.{LacksTable}
use Rattle.heap_tables.specs.Counted.{count_of, or_zero, raised}
use Rattle.heap_tables.specs.Merges.{AreSums, Goes, IsMerge, IsMergedPart, IsMergedWhole, MayMerge, Merge, Stops, SharesNone, raised_by, sum_of, walk}
use Rattle.heap_tables.proofs.RaisedCounts.{bucket_small, count_other, count_same, not_none, word_tie}
use Rattle.heap_tables.proofs.Places.{word_cases}
use Rattle.heap_tables.proofs.Raised.{lacks_at, other_bucket}
use Rattle.heap_tables.proofs.Untouched.{from_stays, lacks_append, raised_lacks, walk_lacks}
use Rattle.heap_tables.proofs.Visits.{counted_at}

raised_append : (counts : WordCounts) (xs ys : List Link) → raised_by counts (xs ++ ys) ≡ raised_by (raised_by counts xs) ys
raised_append counts [] ys = refl
raised_append counts (x ∷ xs) ys = raised_append (raised counts x.word x.count) xs ys

raised_has : (counts : WordCounts) (w : List ℕ) (ls : List Link) (n : ℕ) → AreDifferent ls → HasCount w ls n → get (raised_by counts ls) w ≡ Some (count_of counts w + n)
raised_has counts w [] n different h = absurd h
raised_has counts w (l ∷ ls) n different h = elim h [
  | inl here ↦
      raised_lacks (raised counts l.word l.count) w ls (subst (λ v. LacksWord v ls) here.0 different.0)
      ∙ ap (get (raised counts l.word l.count)) (sym here.0) ∙ count_same counts l.word (count_of counts l.word + l.count)
      ∙ ap (λ v. Some (count_of counts v + l.count)) here.0 ∙ ap (λ k. Some (count_of counts w + k)) here.1
  | inr later ↦
      raised_has (raised counts l.word l.count) w ls n different.1 later.1
      ∙ ap (λ o. Some (or_zero o + n)) (count_other counts l.word w (count_of counts l.word + l.count) (λ q. later.0 (sym q)))
]

raised_none : (counts : WordCounts) (w : List ℕ) (ls : List Link) → get (raised_by counts ls) w ≡ None → get counts w ≡ None
raised_none counts w [] e = e
raised_none counts w (l ∷ ls) e =
    let h = raised_none (raised counts l.word l.count) w ls e in
    elim (word_cases w l.word) [
      | inl same ↦ absurd (not_none _ (sym (ap (get (raised counts l.word l.count)) same ∙ count_same counts l.word (count_of counts l.word + l.count)) ∙ h))
      | inr ne ↦ sym (count_other counts l.word w (count_of counts l.word + l.count) ne) ∙ h
    ]

module _ (buckets : ℕ → List Link) (homes : (b : ℕ) → b < BUCKETS → AreInBucket b (buckets b)) (counts : WordCounts) (w : List ℕ) where
  walk_sum : (distinct : (b : ℕ) → b < BUCKETS → AreDifferent (buckets b)) (k n : ℕ) → HasCount w (buckets (bucket_of w)) k → bucket_of w < n → n ≤ BUCKETS → get (raised_by counts (walk buckets n)) w ≡ Some (count_of counts w + k)
  walk_sum distinct k zero has h small = absurd (omega (arith, h))
  walk_sum distinct k (suc n) has h small = ap (λ cs. get cs w) (raised_append counts (walk buckets n) (buckets n)) ∙ elim (cases_lt (bucket_of w) n) [
    | inl lt ↦
        raised_lacks (raised_by counts (walk buckets n)) w (buckets n) (other_bucket (bucket_of w) n w refl (λ e. omega (arith, lt, e)) (buckets n) (homes n (omega (arith, small))))
        ∙ walk_sum distinct k n has lt (omega (arith, small))
    | inr ge ↦
        let e : bucket_of w ≡ n = omega (arith, ge, h) in
        raised_has (raised_by counts (walk buckets n)) w (buckets n) k (distinct n (omega (arith, small))) (subst (λ c. HasCount w (buckets c) k) e has)
        ∙ ap (λ o. Some (or_zero o + k)) (raised_lacks counts w (walk buckets n) (walk_lacks buckets w n homes ge (omega (arith, small))))
  ]

  walk_none : (n : ℕ) → LacksWord w (buckets (bucket_of w)) → n ≤ BUCKETS → LacksWord w (walk buckets n)
  walk_none zero lacks small = tt
  walk_none (suc n) lacks small = lacks_append w (walk buckets n) (buckets n) (walk_none n lacks (omega (arith, small))) (elim (cases_lt (bucket_of w) n) [
    | inl lt ↦ other_bucket (bucket_of w) n w refl (λ e. omega (arith, lt, e)) (buckets n) (homes n (omega (arith, small)))
    | inr ge ↦ elim (cases_lt n (bucket_of w)) [
      | inl lt ↦ other_bucket (bucket_of w) n w refl (λ e. omega (arith, lt, e)) (buckets n) (homes n (omega (arith, small)))
      | inr le ↦ (let e : bucket_of w ≡ n = omega (arith, ge, le) in subst (λ c. LacksWord w (buckets c)) e lacks)
    ]
  ])

whole_sum : (known : KnownObjects) (name : Name) (from : WordCounts) (table : IsCountTable known name from) (counts : WordCounts) (w : List ℕ) → get (raised_by counts (walk table.buckets BUCKETS)) w ≡ sum_of (get counts w) (get from w)
whole_sum known name from table counts w = by_option (get from w) refl
  where
    by_option : (o : Option ℕ) → get from w ≡ o → get (raised_by counts (walk table.buckets BUCKETS)) w ≡ sum_of (get counts w) (get from w)
    by_option None e =
        raised_lacks counts w (walk table.buckets BUCKETS) (walk_none table.buckets (table.table).homes counts w BUCKETS (table.absent w e) (omega arith))
        ∙ sym (ap (sum_of (get counts w)) e)
    by_option (Some k) e =
        walk_sum table.buckets (table.table).homes counts w (table.table).distinct k BUCKETS (table.counted w k e) (bucket_small w) (omega arith)
        ∙ sym (ap (sum_of (get counts w)) e)

module _ (s : Standing) (known : KnownObjects) (from into : ℕ) (from_name into_name : Name) (from_counts into_counts : WordCounts) (may : MayMerge s known from into from_name into_name from_counts into_counts) where
  sums_rest : (b : ℕ) → b < BUCKETS → (passed rest : List Link) → (may.from_table).buckets b ≡ passed ++ rest → AreSums into_counts rest
  sums_rest b bound passed [] parts = tt
  sums_rest b bound passed (l ∷ rest) parts =
      let sum = may.sums l.word l.count (counted_at known from_name from_counts may.from_table b bound passed rest l parts) in
      (sum, sums_rest b bound (passed ++ l ∷ []) rest (parts ∙ sym (append_assoc passed (l ∷ []) rest)))

  pub few_short : (b : ℕ) (bound : b < BUCKETS) → AreSums into_counts ((may.from_table).buckets b)
  few_short b bound = sums_rest b bound [] ((may.from_table).buckets b) refl

  -- with other maps that have no object of either table
  module _ (others : List KnownObjects) (asides : (other : KnownObjects) → Contains others other → LacksTable other from_name (may.from_table).buckets × LacksTable other into_name (may.into_table).buckets) where
    abbrev pub merge_of : Merge
    merge_of = record {
      known = known;
      from_name = from_name;
      into_name = into_name;
      heads = (may.from_table).heads;
      buckets = (may.from_table).buckets;
      counts = into_counts;
      others = others;
    }

    abbrev pub is_merge : IsMerge merge_of
    is_merge = record {
      from_table = (may.from_table).table;
      into_table = may.into_table;
      different = may.different;
      apart = may.apart;
      from_few = may.from_few;
      into_few = may.into_few;
      sums = few_short;
      from_aside = λ other has. (asides other has).0;
      into_aside = λ other has. (asides other has).1;
    }

    module _ {S B : Type 0} (base : S → B) (tells : S → ℕ → Thread → Type 0) (tells_known : S → ℕ → KnownObjects → Type 0) (standing : S → Standing) (x y : S) (knows : KnownObjects → Type 0) where
      pub merged_whole : Goes base tells tells_known standing merge_of is_merge [] (walk (may.from_table).buckets BUCKETS) x y knows → IsMergedWhole base tells tells_known standing known from_name into_name from_counts into_counts (may.from_table).buckets (may.into_table).buckets x y knows
      merged_whole goes =
          let d = goes.merged in record {
            later = d.after;
            known_now = d.known_now;
            from_table = record {
              heads = (may.from_table).heads;
              buckets = (may.from_table).buckets;
              table = from_stays merge_of is_merge d.after (d.into_table).buckets d.untouched;
              counted = (may.from_table).counted;
              absent = (may.from_table).absent;
            };
            sums = d.counts;
            into_table = d.into_table;
            sums_are = λ w. ap (λ cs. get cs w) d.counts_are ∙ whole_sum known from_name from_counts may.from_table into_counts w;
            from_same = refl;
            untouched = d.untouched;
            entries = d.entries;
            made = goes.made;
            new_words = let e = goes.new_words in omega (arith, e);
            ran = goes.ran;
            own = goes.own;
          }

      pub merged_part : Stops base tells tells_known standing merge_of is_merge [] x y knows → IsMergedPart base tells tells_known standing known from_name into_name from_counts into_counts (may.from_table).buckets (may.into_table).buckets x y knows
      merged_part stops =
          let d = stops.merged in record {
            done = stops.later;
            link = stops.link;
            rest = stops.rest;
            parts = stops.parts;
            absent = raised_none into_counts (stops.link).word stops.later stops.absent;
            later = d.after;
            known_now = d.known_now;
            from_table = record {
              heads = (may.from_table).heads;
              buckets = (may.from_table).buckets;
              table = from_stays merge_of is_merge d.after (d.into_table).buckets d.untouched;
              counted = (may.from_table).counted;
              absent = (may.from_table).absent;
            };
            counts = d.counts;
            into_table = d.into_table;
            counts_are = d.counts_are;
            from_same = refl;
            untouched = d.untouched;
            entries = d.entries;
            made = stops.made;
            new_words = let e = stops.new_words in omega (arith, e);
            ran_out = stops.ran_out;
            own = stops.own;
          }

-- ---- what a caller can use

get_removed : (counts : WordCounts) (w v : List ℕ) → v ≢ w → get (remove counts w) v ≡ get counts v
get_removed counts w v ne = get-remove nat_list_cmp_total counts w v ∙ ap (λ b. cond b None (get counts v)) (word_tie v w ne)

len_removed : (counts : WordCounts) (w : List ℕ) → IsSome (get counts w) → len counts ≡ len (remove counts w) + 1
len_removed counts w there =
    let gone = len-remove nat_list_cmp_total counts w ∙ ap (λ b. cond b (len counts - 1) (len counts)) there in
    elim (cases_lt 0 (len counts)) [
      | inl some ↦ omega (arith, gone, some)
      | inr none ↦
          let e : len counts ≡ 0 = omega (arith, none) in
          let q : IsSome {T = ℕ} None = subst (λ o. IsSome o) (ap (λ (m : WordCounts). get m w) (empty_of_len counts e) ∙ get-empty (slice_cmp nat_cmp) w) there in
          absurd (true≢false (sym q))
    ]

-- a table has no more words in a bucket than it counts
chain_len : (links : List Link) (counts : WordCounts) → AreDifferent links → ((passed rest : List Link) (link : Link) → links ≡ passed ++ link ∷ rest → IsSome (get counts link.word)) → length links ≤ len counts
chain_len [] counts different counted = omega arith
chain_len (l ∷ links) counts different counted =
    let fewer = remove counts l.word in
    let rest = chain_len links fewer different.1 (λ passed rest link parts.
    subst (λ o. IsSome o) (sym (get_removed counts l.word link.word (lacks_at l.word passed rest link (subst (LacksWord l.word) parts different.0)))) (counted (l ∷ passed) rest link (ap (λ ls. l ∷ ls) parts))) in
    let one = len_removed counts l.word (counted [] links l refl) in
    omega (arith, rest, one)

pub bucket_few : (known : KnownObjects) (name : Name) (counts : WordCounts) (table : IsCountTable known name counts) (b : ℕ) → b < BUCKETS → length (table.buckets b) ≤ len counts
bucket_few known name counts table b bound =
    chain_len (table.buckets b) counts ((table.table).distinct b bound) (λ passed rest link parts. ap is_some (counted_at known name counts table b bound passed rest link parts))

-- where links share no entry with others, the others share none with them
no_entry_of : (xs : List Link) (l : Link) (ls : List Link) → SharesNone xs (l ∷ ls) → IsNoEntry l.entry xs
no_entry_of [] l ls h = tt
no_entry_of (x ∷ xs) l ls h = ((λ e. h.0.0 (sym e)), no_entry_of xs l ls h.1)

shares_rest : (xs : List Link) (l : Link) (ls : List Link) → SharesNone xs (l ∷ ls) → SharesNone xs ls
shares_rest [] l ls h = tt
shares_rest (x ∷ xs) l ls h = (h.0.1, shares_rest xs l ls h.1)

pub shares_either_way : (xs ys : List Link) → SharesNone xs ys → SharesNone ys xs
shares_either_way xs [] h = tt
shares_either_way xs (y ∷ ys) h = (no_entry_of xs y ys h, shares_either_way xs ys (shares_rest xs y ys h))
