-- A merge under way, with the first entries of a chain laid out on a stack.
use Rattle.std.proofs.Common.{◌≡◌, inl, inr, ℕ, ◌+◌, ◌^◌, ◌<◌, ◌≤◌, true, false, Bool, List, [], ◌∷◌, ◌++◌, cond, drop, get_or, refl, ◌∙◌, ap, sym, subst, length, length-append, arith, true≢false}
use Rattle.std.proofs.lemmas.List.{get_or_append_left}
use Rattle.std.specs.FinMap.{get}
use Rattle.object_layout.specs.declared.names.Name.{Name}
use Rattle.yak_model.specs.declared.datum.Datum.{Datum}
use Rattle.std.specs.List.{Contains}
use Rattle.yak_model.specs.declared.TheConstants.{BUCKETS}
use Rattle.yak_model.specs.declared.datum.Datum.TheVariants as datum
use Rattle.yak_model.specs.Graph.{Thread}
use Rattle.yak_model.specs.Private.{KnownObjects}
use Rattle.yak_model.specs.Standing.{Standing}
use Rattle.yak_model.specs.Tables.{Link, bucket_of}
use Rattle.heap_tables.specs.Adds.{MayAdd, with_bucket}
use Rattle.heap_tables.specs.Layouts.{AreBelow, GoesLaid, IsLaid, MergesLaid, RaisesPresent}
use Rattle.heap_tables.specs.Merges.{AreSlots, Goes, IsEntryAt, IsMerge, IsMerged, Merge, done_at, news, raised_by}
use Rattle.heap_tables.specs.Runs.{Ran, pushed}
use Rattle.heap_tables.specs.Seeks.{first_of}
use Rattle.heap_tables.specs.Walks.{IsApart, IsAtChain}
use Rattle.heap_tables.proofs.Asides.{lacks_raised}
use Rattle.heap_tables.proofs.Effects.{in_bounds}
use Rattle.heap_tables.proofs.RaisedCounts.{bucket_small}
use Rattle.heap_tables.proofs.Laid.{laid_below, laid_first, laid_raised_from}
use Rattle.heap_tables.proofs.Raised.{eqb_cases, table_apart}
use Rattle.heap_tables.proofs.Untouched.{done_lacks, done_next, few_into, get_now, having_none, length_walk, may_merge, merged_as, merged_step, news_more, shares_present, some_not_none}

bucket_same : (buckets : ℕ → List Link) (b c : ℕ) (links : List Link) → c ≡ b → with_bucket buckets b links c ≡ links
bucket_same buckets b c links e = elim (eqb_cases b c) [
  | inl s ↦ ap (λ t. cond t links (buckets c)) s.0
  | inr o ↦ absurd (o.1 e)
]

pub below_slots : (now : Standing) (own : Thread) (links : List Link) (n from into : ℕ) (m : Merge) → IsLaid own links n now.own → AreBelow own from into m → AreSlots now from into m
below_slots now own links n from into m laid below = (laid_below own links n now.own laid.1 from m.from_name below.0, laid_below own links n now.own laid.1 into m.into_name below.1)

module _ (m : Merge) (is : IsMerge m) (b start p first n : ℕ) (own after : Thread) (knows : KnownObjects → Type 0) (y : GoesLaid m is b start p first n own after knows) where
  -- nothing was merged
  pub laid_same : (k : ℕ) (later : Thread) (knows_later : KnownObjects → Type 0) → IsLaid own (drop first (((y.merged).into_table).buckets b)) k later → knows_later (y.merged).after → ((other : KnownObjects) → Contains m.others other → knows_later other) → GoesLaid m is b start p first k own later knows_later
  laid_same k later knows_later laid known others = record {
    merged = merged_as m is (done_at m.buckets b p) knows knows_later y.merged known others;
    laid = laid;
    new_words = y.new_words;
    longer = y.longer;
  }

  -- an entry was merged whose word is there
  module _ (bound : b < BUCKETS) (word : List ℕ) (count : ℕ) (link : Link) (rest : List Link) (at : IsEntryAt m b p word count link rest) where
    pub word_home : b ≡ bucket_of word
    word_home = sym (ap bucket_of at.1 ∙ (done_lacks m.known m.from_name m.heads m.buckets is.from_table b p bound link rest at.0).0)

    pub laid_may : (now : Standing) (from into : ℕ) → now.own ≡ after → AreBelow own from into m → p < 2 ^ 32 → MayAdd now (y.merged).after into word count m.into_name ((y.merged).into_table).heads ((y.merged).into_table).buckets
    laid_may now from into e below few =
        let laid = y.laid in
        may_merge now into m is b p knows y.merged bound few (length_walk m.buckets is.from_few b (omega (arith, bound)))
        (laid_below own (drop first (((y.merged).into_table).buckets b)) n now.own (e ∙ laid.1) into m.into_name below.1) word count link rest at

    pub laid_step : (k : ℕ) (later : Thread) (knows_later : KnownObjects → Type 0) → RaisesPresent (y.merged).after word count m.into_name ((y.merged).into_table).buckets true knows_later
        → IsLaid own (drop first (((y.merged).into_table).buckets (bucket_of word))) k later → ((other : KnownObjects) → Contains m.others other → knows_later other) → GoesLaid m is b start (p + 1) first k own later knows_later
    unfolding merged_step
    laid_step k later knows_later raises laid others =
        let d = y.merged in
        let done = done_at m.buckets b p in
        let table = d.into_table in
        let links = table.buckets (bucket_of word) in
        let added = raises.0 in
        let there = raises.1 in
        let merged : IsMerged m is (done ++ link ∷ []) knows_later = merged_step m is done knows d word count link at.1 at.2 knows_later added (shares_present word count link links added.links at.1 at.2 there added.adds)
        (λ other has. (others other has, lacks_raised other word count links added.links there added.adds ((d.aside other has).links (bucket_of word) (bucket_small word)))) in
        let laid_now : IsLaid own (drop first ((merged.into_table).buckets b)) k later = subst (λ ls. IsLaid own (drop first ls) k later) (sym (bucket_same table.buckets (bucket_of word) b added.links word_home)) (laid_raised_from first own later word count links added.links there added.adds k laid) in
        let none = some_not_none (get (raised_by m.counts done) link.word) (λ absent. there (table.absent word (get_now m is b p bound knows d word link at.1 ∙ absent))) in
        let more = news_more m.counts done link in
        let before = y.new_words in
        let long = length-append done (link ∷ []) in
        let longer = y.longer in
        let words : news m.counts (done_at m.buckets b start) ≡ news m.counts (done ++ link ∷ []) = omega (arith, before, more, none) in
        let length_now : length (done_at m.buckets b start) ≤ length (done ++ link ∷ []) = omega (arith, longer, long) in
        let all = subst (λ ls. (d_now : IsMerged m is ls knows_later) × IsLaid own (drop first ((d_now.into_table).buckets b)) k later × (news m.counts (done_at m.buckets b start) ≡ news m.counts ls) × (length (done_at m.buckets b start) ≤ length ls))
        (sym (done_next m.buckets b p link rest at.0)) (merged, laid_now, words, length_now) in
        record { merged = all.0; laid = all.1; new_words = all.2; longer = all.3 }

    pub laid_merges : (said : Bool) (k : ℕ) (later : Thread) (knows_later : KnownObjects → Type 0) → RaisesPresent (y.merged).after word count m.into_name ((y.merged).into_table).buckets said knows_later
        → IsLaid own (drop first (((y.merged).into_table).buckets (bucket_of word))) k later → ((other : KnownObjects) → Contains m.others other → knows_later other) → MergesLaid m is b start p first k said own later knows_later
    laid_merges true k later knows_later raises laid others = laid_step k later knows_later raises laid others
    laid_merges false k later knows_later known laid others =
        laid_same k later knows_later (subst (λ c. IsLaid own (drop first (((y.merged).into_table).buckets c)) k later) (sym word_home) laid) known others

-- ---- a chain of the other table

pub below_front : (own : Thread) (value : Datum) (from into : ℕ) (m : Merge) → AreBelow own from into m → AreBelow (pushed own value) from into m
below_front own value from into m below = (stays from m.from_name below.0, stays into m.into_name below.1)
  where
    stays : (i : ℕ) (name : Name) → get_or own.stack i datum.Null ≡ datum.Object name → get_or (own.stack ++ value ∷ []) i datum.Null ≡ datum.Object name
    stays i name h = get_or_append_left own.stack (value ∷ []) datum.Null i (in_bounds own.stack i name h) ∙ h

pub into_chain : (m : Merge) (is : IsMerge m) (b p : ℕ) (knows : KnownObjects → Type 0) (d : IsMerged m is (done_at m.buckets b p) knows) → b < BUCKETS → p < 2 ^ 32 → (s : Standing) (into : ℕ) → get_or s.own.stack into datum.Null ≡ datum.Object m.into_name
    → IsAtChain s d.after into b m.into_name (d.into_table).heads ((d.into_table).buckets b) × IsApart m.into_name ((d.into_table).buckets b) × (length ((d.into_table).buckets b) < 2 ^ 63)
into_chain m is b p knows d bound below s into slot =
    let t = (d.into_table).table in
    let size = t.size in
    let chain = t.chains b bound in (
      ((slot, t.object), omega (arith, size, bound), chain),
      table_apart d.after m.into_name (d.into_table).heads (d.into_table).buckets t ((d.into_table).buckets b) (get_or (d.into_table).heads b datum.Null) chain,
      few_into m is b p knows d bound below (length_walk m.buckets is.from_few b (omega (arith, bound))) b bound,
    )

-- the first of them is laid out
pub laid_start : (m : Merge) (is : IsMerge m) (b p first : ℕ) (own after : Thread) (knows knows_later : KnownObjects → Type 0) (d : IsMerged m is (done_at m.buckets b p) knows)
    → knows_later d.after → ((other : KnownObjects) → Contains m.others other → knows_later other) → after ≡ pushed own (first_of (drop first ((d.into_table).buckets b))) → GoesLaid m is b p p first 0 own after knows_later
laid_start m is b p first own after knows knows_later d known others e =
    record {
      merged = merged_as m is (done_at m.buckets b p) knows knows_later d known others;
      laid = (omega arith, e ∙ laid_first own (drop first ((d.into_table).buckets b)));
      new_words = refl;
      longer = omega arith;
    }

-- nothing is laid out any more
pub laid_end : {S B : Type 0} (base : S → B) (tells : S → ℕ → Thread → Type 0) (tells_known : S → ℕ → KnownObjects → Type 0) (standing : S → Standing) (m : Merge) (is : IsMerge m) (b start p first n : ℕ) (x z : S) (own after : Thread) (knows knows_later : KnownObjects → Type 0)
    → GoesLaid m is b start p first n own after knows → ((known : KnownObjects) → knows known → knows_later known) → Ran base tells tells_known standing x z 0 → (standing z).own ≡ (standing x).own
    → Goes base tells tells_known standing m is (done_at m.buckets b start) (done_at m.buckets b p) x z knows_later
laid_end base tells tells_known standing m is b start p first n x z own after knows knows_later y keeps ran same =
    let d = y.merged in
    let words = y.new_words in
    let longer = y.longer in
    record {
      merged = merged_as m is (done_at m.buckets b p) knows knows_later d (keeps d.after d.known_now) (λ other has. keeps other (d.others_known other has));
      made = 0;
      new_words = omega (arith, words);
      few = omega (arith, longer);
      ran = ran;
      own = same ∙ having_none (standing x).own;
    }

module _ (m : Merge) (is : IsMerge m) (b start p first k : ℕ) (own later : Thread) (knows : KnownObjects → Type 0) where
  pub merges_found : (said : Bool) → said ≡ true → MergesLaid m is b start p first k said own later knows → GoesLaid m is b start (p + 1) first k own later knows
  merges_found true e h = h
  merges_found false e h = absurd (true≢false (sym e))

  pub merges_lost : (said : Bool) → said ≡ false → MergesLaid m is b start p first k said own later knows → GoesLaid m is b start p first k own later knows
  merges_lost false e h = h
  merges_lost true e h = absurd (true≢false e)
