-- The table of a part, added to that of the total.
use Rattle.std.proofs.Common.{zero, suc, ◌≡◌, ℕ, ◌+◌, ◌-◌, ◌<◌, ◌≤◌, ◌||◌, Bool, true, false, cond, List, [], ◌∷◌, ◌++◌, All, Option, Some, None, is_some, length, get_or, take, refl, ◌∙◌, ap, sym, subst, arith}
use Rattle.std.specs.FinMap.{get}
use Rattle.std.proofs.lemmas.List.Elements.{All-nil, All-cons, All-head, All-tail, All-append}
use Rattle.object_layout.specs.declared.names.Name.{Name}
use Rattle.yak_model.specs.declared.datum.Datum.{Datum}
use Rattle.yak_model.specs.declared.datum.Datum.TheVariants as datum
use Rattle.yak_model.specs.declared.TheConstants.{BUCKETS}
use Rattle.yak_model.specs.Private.{KnownObjects}
use Rattle.yak_model.specs.Standing.{Standing}
use Rattle.yak_model.specs.Tables.{AreDifferent, AreInBucket, IsCountTable, LacksWord, Link, bucket_of}
use Rattle.yak_model.specs.Texts.{WordCounts, places_of, word_counts}
use Rattle.heap_tables.specs.Adds.{AreAfter, IsNoEntry}
use Rattle.heap_tables.specs.Counted.{count_of, or_zero, raised}
use Rattle.heap_tables.specs.Merges.{KeepsUntouched, MayMerge, SharesNone, news, one_if_none, sum_of, walk}
use Rattle.group_jobs.specs.Counts.{has_word}
use Rattle.group_jobs.specs.Tallies.{KnowsPart, Tallies}
use Rattle.group_jobs.specs.declared.TheConstants.{MOST_WORDS, PART_SLOT, TOTAL_SLOT}
use Rattle.group_jobs.proofs.Aside.{no_table, nowhere}
use Rattle.group_jobs.proofs.Counting.{get-word_counts, has_word-append, no_place, places_of-append, same_counts, told_of}
use Rattle.group_jobs.proofs.Tallying.{AreOf, are_of, count_is, few_in_bucket, few_links, few_places}

-- ---- no shared entry, seen from the other side

not_among : (x : Link) (xs ys : List Link) → All (λ y. IsNoEntry y.entry (x ∷ xs)) ys → IsNoEntry x.entry ys
not_among x xs [] all = tt
not_among x xs (y ∷ ys) all =
    let P = λ (k : Link). IsNoEntry k.entry (x ∷ xs) in
    ((λ e. (All-head P y ys all).0 (sym e)), not_among x xs ys (All-tail P y ys all))

not_rest : (x : Link) (xs ys : List Link) → All (λ y. IsNoEntry y.entry (x ∷ xs)) ys → All (λ y. IsNoEntry y.entry xs) ys
not_rest x xs [] all = All-nil (λ y. IsNoEntry y.entry xs)
not_rest x xs (y ∷ ys) all =
    let P = λ (k : Link). IsNoEntry k.entry (x ∷ xs) in
    All-cons (λ k. IsNoEntry k.entry xs) y ys ((All-head P y ys all).1) (not_rest x xs ys (All-tail P y ys all))

pub shares_none : (xs ys : List Link) → All (λ y. IsNoEntry y.entry xs) ys → SharesNone xs ys
shares_none [] ys all = tt
shares_none (x ∷ xs) ys all = (not_among x xs ys all, shares_none xs ys (not_rest x xs ys all))

pub at_one : (ys : List Link) (buckets : ℕ → List Link) (b : ℕ) → b < BUCKETS → All (λ y. (c : ℕ) → c < BUCKETS → IsNoEntry y.entry (buckets c)) ys → All (λ y. IsNoEntry y.entry (buckets b)) ys
at_one [] buckets b bound all = All-nil (λ y. IsNoEntry y.entry (buckets b))
at_one (y ∷ ys) buckets b bound all =
    let P = λ (k : Link). (c : ℕ) → c < BUCKETS → IsNoEntry k.entry (buckets c) in
    All-cons (λ k. IsNoEntry k.entry (buckets b)) y ys (All-head P y ys all b bound) (at_one ys buckets b bound (All-tail P y ys all))

-- ---- what may be merged

abbrev pub may_merge : (s : Standing) (known : KnownObjects) (name : Name) (done doing : List (List ℕ)) (t : Tallies s known name done doing) → length done + length doing ≤ MOST_WORDS
    → MayMerge s known PART_SLOT TOTAL_SLOT name (t.total).name (word_counts doing) (word_counts done)
may_merge s known name done doing t few = record {
  from_slot = t.slot;
  into_slot = (t.total).slot;
  from_table = t.table;
  into_table = (t.total).table;
  different = λ e. t.other (sym e);
  apart = λ b c hb hc. shares_none ((t.table).buckets b) (((t.total).table).buckets c) (at_one (((t.total).table).buckets c) (t.table).buckets b hb (t.apart c hc));
  from_few = λ b h. let n = few_in_bucket doing known name t.table b h in omega (arith, few, n);
  into_few = λ b h. let n = few_in_bucket done known (t.total).name (t.total).table b h in omega (arith, few, n);
  sums = λ word n e. let there : count_of (word_counts doing) word ≡ n = ap or_zero e in omega (arith, few, there, count_is done word, count_is doing word, few_places done word, few_places doing word);
}

-- ---- the sums

or_told : (words : List (List ℕ)) (word : List ℕ) → or_zero (get (word_counts words) word) ≡ places_of words word
or_told words word = count_is words word

told_sum : (done doing : List (List ℕ)) (word : List ℕ) → sum_of (get (word_counts done) word) (get (word_counts doing) word) ≡ told_of (done ++ doing) word
told_sum done doing word =
    ap (sum_of (get (word_counts done) word)) (get-word_counts doing word)
    ∙ elim (has_word doing word) as (λ b. has_word doing word ≡ b → sum_of (get (word_counts done) word) (cond b (Some (places_of doing word)) None) ≡ told_of (done ++ doing) word) [
      | true ↦ λ is.
          ap (λ n. Some (n + places_of doing word)) (or_told done word)
          ∙ sym (ap (λ b. cond b (Some (places_of (done ++ doing) word)) None) (has_word-append done doing word ∙ ap (λ b. has_word done word || b) is ∙ true_last (has_word done word)) ∙ ap Some (places_of-append done doing word))
      | false ↦ λ none.
          let zero_more : places_of (done ++ doing) word ≡ places_of done word = let p = places_of-append done doing word in let z = no_place doing word none in omega (arith, p, z) in
          get-word_counts done word
          ∙ sym (ap (λ b. cond b (Some (places_of (done ++ doing) word)) None) (has_word-append done doing word ∙ ap (λ b. has_word done word || b) none ∙ false_last (has_word done word)) ∙ ap (λ n. cond (has_word done word) (Some n) None) zero_more)
    ] refl
  where
    true_last : (b : Bool) → (b || true) ≡ true
    true_last true = refl
    true_last false = refl

    false_last : (b : Bool) → (b || false) ≡ b
    false_last true = refl
    false_last false = refl

pub sums_are_counts : (sums : WordCounts) (done doing : List (List ℕ)) → ((word : List ℕ) → get sums word ≡ sum_of (get (word_counts done) word) (get (word_counts doing) word)) → sums ≡ word_counts (done ++ doing)
sums_are_counts sums done doing are = same_counts sums (done ++ doing) (λ word. are word ∙ told_sum done doing word)

-- ---- how many entries there are

few_news : (counts : WordCounts) (links : List Link) → news counts links ≤ length links
few_news counts [] = omega arith
few_news counts (l ∷ links) = omega (arith, few_news (raised counts l.word l.count) links, one (get counts l.word))
  where
    one : (o : Option ℕ) → one_if_none o ≤ 1
    one None = omega arith
    one (Some n) = omega arith

abbrev AreBelow : ℕ → List Link → Type 0
AreBelow b links = All (λ l. bucket_of l.word < b) links

other_home : (b : ℕ) (word : List ℕ) → bucket_of word < b → (links : List Link) → AreInBucket b links → LacksWord word links
other_home b word below [] homes = tt
other_home b word below (l ∷ links) homes = ((λ e. let q = ap bucket_of e in let h = homes.0 in omega (arith, q, h, below)), other_home b word below links homes.1)

lacks_cat : (word : List ℕ) (xs ys : List Link) → LacksWord word xs → LacksWord word ys → LacksWord word (xs ++ ys)
lacks_cat word [] ys hx hy = hy
lacks_cat word (x ∷ xs) ys hx hy = (hx.0, lacks_cat word xs ys hx.1 hy)

different_cat : (b : ℕ) (xs ys : List Link) → AreDifferent xs → AreBelow b xs → AreDifferent ys → AreInBucket b ys → AreDifferent (xs ++ ys)
different_cat b [] ys dx below dy homes = dy
different_cat b (x ∷ xs) ys dx below dy homes =
    let P = λ (l : Link). bucket_of l.word < b in
    (lacks_cat x.word xs ys dx.0 (other_home b x.word (All-head P x xs below) ys homes), different_cat b xs ys dx.1 (All-tail P x xs below) dy homes)

below_more : (b : ℕ) (links : List Link) → AreBelow b links → AreBelow (suc b) links
below_more b [] all = All-nil (λ l. bucket_of l.word < suc b)
below_more b (l ∷ links) all =
    let P = λ (k : Link). bucket_of k.word < b in
    All-cons (λ k. bucket_of k.word < suc b) l links (let h = All-head P l links all in omega (arith, h)) (below_more b links (All-tail P l links all))

below_here : (b : ℕ) (links : List Link) → AreInBucket b links → AreBelow (suc b) links
below_here b [] homes = All-nil (λ l. bucket_of l.word < suc b)
below_here b (l ∷ links) homes = All-cons (λ k. bucket_of k.word < suc b) l links (let h = homes.0 in omega (arith, h)) (below_here b links homes.1)

-- Of chains whose words are among these words, each in its bucket and none twice, there are no more entries than words.
module _ (words : List (List ℕ)) (buckets : ℕ → List Link) (homes : (b : ℕ) → b < BUCKETS → AreInBucket b (buckets b)) (distinct : (b : ℕ) → b < BUCKETS → AreDifferent (buckets b)) (among : (b : ℕ) → b < BUCKETS → AreOf words (buckets b)) where
  walk_is : (b : ℕ) → b ≤ BUCKETS → AreDifferent (walk buckets b) × (AreBelow b (walk buckets b) × AreOf words (walk buckets b))
  walk_is zero h = (tt, (All-nil (λ l. bucket_of l.word < 0), All-nil (λ l. has_word words l.word ≡ true)))
  walk_is (suc b) h =
      let bound : b < BUCKETS = omega (arith, h) in
      let r = walk_is b (omega (arith, h)) in
      let links = buckets b in (
        different_cat b (walk buckets b) links r.0 r.1.0 (distinct b bound) (homes b bound),
        (
          All-append (λ l. bucket_of l.word < suc b) (walk buckets b) links (below_more b (walk buckets b) r.1.0) (below_here b links (homes b bound)),
          All-append (λ l. has_word words l.word ≡ true) (walk buckets b) links r.1.1 (among b bound),
        ),
      )

  few_walked : length (walk buckets BUCKETS) ≤ length words
  few_walked = let r = walk_is BUCKETS (omega arith) in few_links words (walk buckets BUCKETS) r.0 r.1.1

  pub few_made : (counts : WordCounts) → news counts (walk buckets BUCKETS) ≤ length words
  few_made counts = let n = few_news counts (walk buckets BUCKETS) in omega (arith, n, few_walked)

  pub few_before : (counts : WordCounts) (done rest : List Link) (link : Link) → walk buckets BUCKETS ≡ done ++ link ∷ rest → news counts done + 1 ≤ length words
  few_before counts done rest link parts =
      let n = few_news counts done in
      let size = sizes done in
      omega (arith, n, few_walked, ap length parts, size)
    where
      sizes : (xs : List Link) → length xs + 1 ≤ length (xs ++ link ∷ rest)
      sizes [] = omega arith
      sizes (x ∷ xs) = omega (arith, sizes xs)

module _ (words : List (List ℕ)) (known : KnownObjects) (name : Name) (table : IsCountTable known name (word_counts words)) where
  among : (b : ℕ) → b < BUCKETS → AreOf words (table.buckets b)
  among b bound = are_of words known name table b (table.buckets b) ((table.table).homes b bound) (λ v g. g)

  pub few_new : (counts : WordCounts) → news counts (walk table.buckets BUCKETS) ≤ length words
  few_new = few_made words table.buckets (table.table).homes (table.table).distinct among

  pub few_done : (counts : WordCounts) (done rest : List Link) (link : Link) → walk table.buckets BUCKETS ≡ done ++ link ∷ rest → news counts done + 1 ≤ length words
  few_done = few_before words table.buckets (table.table).homes (table.table).distinct among

-- ---- the total then

pub slot_left : (stack : List Datum) → length stack ≡ PART_SLOT + 1 → get_or (take (length stack - 1) stack) TOTAL_SLOT datum.Null ≡ get_or stack TOTAL_SLOT datum.Null
slot_left [] h = absurd (omega (arith, h))
slot_left (x ∷ []) h = absurd (omega (arith, h))
slot_left (x ∷ y ∷ []) h = absurd (omega (arith, h))
slot_left (x ∷ y ∷ z ∷ []) h = refl
slot_left (x ∷ y ∷ z ∷ w ∷ stack) h = absurd (omega (arith, h))

lowest_left : (stack : List Datum) → length stack ≡ PART_SLOT + 1 → get_or (take (length stack - 1) stack) 0 datum.Null ≡ get_or stack 0 datum.Null
lowest_left [] h = absurd (omega (arith, h))
lowest_left (x ∷ []) h = absurd (omega (arith, h))
lowest_left (x ∷ y ∷ []) h = absurd (omega (arith, h))
lowest_left (x ∷ y ∷ z ∷ []) h = refl
lowest_left (x ∷ y ∷ z ∷ w ∷ stack) h = absurd (omega (arith, h))

pub size_left : (stack : List Datum) → length stack ≡ PART_SLOT + 1 → length (take (length stack - 1) stack) ≡ PART_SLOT
size_left [] h = absurd (omega (arith, h))
size_left (x ∷ []) h = absurd (omega (arith, h))
size_left (x ∷ y ∷ []) h = absurd (omega (arith, h))
size_left (x ∷ y ∷ z ∷ []) h = refl
size_left (x ∷ y ∷ z ∷ w ∷ stack) h = absurd (omega (arith, h))

pub merged_tally : (s now : Standing) (known later : KnownObjects) (knows : KnownObjects → Type 0) (name : Name) (done doing : List (List ℕ)) (t : Tallies s known name done doing) (stack : List Datum) → stack ≡ (s.own).stack → length (s.own).stack ≡ PART_SLOT + 1
    → (now.own).stack ≡ take (length stack - 1) stack → knows later → (sums : WordCounts) → ((word : List ℕ) → get sums word ≡ sum_of (get (word_counts done) word) (get (word_counts doing) word)) → (table : IsCountTable later (t.total).name sums)
    → KeepsUntouched known (t.total).name ((t.total).table).buckets later table.buckets
    → (part : IsCountTable later name (word_counts doing)) → part.buckets ≡ (t.table).buckets
    → KnowsPart s known now knows name (done ++ doing) doing
merged_tally s now known later knows name done doing t stack same size own k sums are table untouched part part_same = (
  later,
  k,
  record {
    name = (t.total).name;
    slot = ap (λ (st : List Datum). get_or st TOTAL_SLOT datum.Null) own ∙ slot_left stack (ap length same ∙ size) ∙ ap (λ (st : List Datum). get_or st TOTAL_SLOT datum.Null) same ∙ (t.total).slot;
    table = subst (IsCountTable later (t.total).name) (sums_are_counts sums done doing are) table;
  },
  record {
    slot = ap (λ (st : List Datum). get_or st 0 datum.Null) own ∙ lowest_left stack (ap length same ∙ size) ∙ ap (λ (st : List Datum). get_or st 0 datum.Null) same;
    objects = λ other values is aside.
        let total = (t.total).table in
        (untouched other (ap is_some is) (no_table known other (t.total).name values total.heads is aside (total.table).object (total.table).size) (nowhere known other values is aside (t.total).name total.heads total.buckets total.table)).0 ∙ is;
  },
  record { table = part; after = λ b h. subst (λ (buckets : ℕ → List Link). AreAfter name (buckets b)) (sym part_same) (t.after b h) },
)
