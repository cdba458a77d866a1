-- A merge of two tables, entry by entry.
use Rattle.std.proofs.Common.{◌-◌, zero, suc, ◌≡◌, ◌≢◌, inl, inr, ℕ, ◌+◌, ◌*◌, ◌<◌, ◌≤◌, ◌^◌, List, [], ◌∷◌, ◌++◌, drop, take, get_or, refl, ◌∙◌, ap, sym, subst, Some, None, Option, IsSome, is_some, Bool, true, false, cond, arith, length, append_assoc, length-append, true≢false}
use Rattle.yak_model.specs.declared.TheConstants.{BUCKETS}
use Rattle.std.proofs.lemmas.Bool.{cases_lt}
use Rattle.std.proofs.lemmas.List.{append-nil}
use Rattle.std.specs.FinMap.{get}
use Rattle.std.specs.List.{Contains}
use Rattle.object_layout.specs.declared.TheConstants.{MAX_INT}
use Rattle.object_layout.specs.declared.names.Name.{Name}
use Rattle.yak_model.specs.declared.datum.Datum.{Datum}
use Rattle.yak_model.specs.declared.datum.Datum.TheVariants as datum
use Rattle.yak_model.specs.Graph.{Limits, Thread, standard_limits}
use Rattle.yak_model.specs.Private.{FitPages, IsKnown, KnownObjects}
use Rattle.yak_model.specs.Standing.{Standing}
use Rattle.yak_model.specs.Tables.{AreDifferent, AreInBucket, IsChain, IsCountTable, IsKey, IsTable, LacksWord, Link, bucket_of}
use Rattle.yak_model.specs.Texts.{WordCounts}
use Rattle.heap_tables.specs.Adds.{AddsCount, IsAddedTo, IsNoEntry, KeepsOthers, MayAdd, StayNowhere, having_made, with_bucket}
use Rattle.heap_tables.specs.Asides.{LacksChain, LacksLinks}
use Rattle.heap_tables.specs.Counted.{count_of, or_zero, raised}
use Rattle.heap_tables.specs.Merges.{AreSlots, AreSums, Goes, IsEntryAt, IsMerge, IsMerged, IsShare, KeepsUntouched, Merge, MergesEntry, MergesLink, MergesLinks, SharesLink, SharesNone, Stops, done_at, news, one_if_none, raised_by, walk, with_shared}
use Rattle.heap_tables.specs.Reads.{AreShort}
use Rattle.heap_tables.specs.Runs.{Ran, RanOut, next_of}
use Rattle.heap_tables.specs.Walks.{IsApart, IsAtChain}
use Rattle.heap_tables.proofs.Asides.{lacks_bucket}
use Rattle.heap_tables.proofs.RaisedCounts.{added_counts, bucket_small, count_found, count_other}
use Rattle.heap_tables.proofs.Entries.{key_no_entry}
use Rattle.heap_tables.proofs.Fitting.{chain_short}
use Rattle.heap_tables.proofs.Linked.{shared_table}
use Rattle.heap_tables.proofs.Sought.{entry_drop}
use Rattle.heap_tables.proofs.RunOn.{out_words, ran_out, ran_then, ran_words}
use Rattle.heap_tables.proofs.Raised.{eqb_cases, other_bucket, table_apart}

-- ---- the order of the walk

take_suc : {A : Type 0} (n : ℕ) (xs rest : List A) (x : A) → drop n xs ≡ x ∷ rest → take (suc n) xs ≡ take n xs ++ x ∷ []
take_suc zero [] rest x e = cc
take_suc zero (y ∷ xs) rest x e = let q : y ≡ x = cc in ap (λ z. z ∷ []) q
take_suc (suc n) [] rest x e = cc
take_suc (suc n) (y ∷ xs) rest x e = ap (λ zs. y ∷ zs) (take_suc n xs rest x e)

take_all : {A : Type 0} (n : ℕ) (xs : List A) → drop n xs ≡ [] → take n xs ≡ xs
take_all zero [] e = refl
take_all zero (x ∷ xs) e = cc
take_all (suc n) [] e = refl
take_all (suc n) (x ∷ xs) e = ap (λ zs. x ∷ zs) (take_all n xs e)

take_with : {A : Type 0} (n : ℕ) (xs rest : List A) (x : A) → drop n xs ≡ x ∷ rest → xs ≡ take n xs ++ x ∷ rest
take_with zero xs rest x e = e
take_with (suc n) [] rest x e = cc
take_with (suc n) (y ∷ xs) rest x e = ap (λ zs. y ∷ zs) (take_with n xs rest x e)

pub done_next : (buckets : ℕ → List Link) (b p : ℕ) (link : Link) (rest : List Link) → drop p (buckets b) ≡ link ∷ rest → done_at buckets b (p + 1) ≡ done_at buckets b p ++ link ∷ []
done_next buckets b p link rest e =
    let q : suc p ≡ p + 1 = omega arith in
    ap (λ ls. walk buckets b ++ ls) (sym (ap (λ n. take n (buckets b)) q) ∙ take_suc p (buckets b) rest link e) ∙ sym (append_assoc (walk buckets b) (take p (buckets b)) (link ∷ []))

pub done_all : (buckets : ℕ → List Link) (b p : ℕ) → drop p (buckets b) ≡ [] → done_at buckets b p ≡ walk buckets (suc b)
done_all buckets b p e = ap (λ ls. walk buckets b ++ ls) (take_all p (buckets b) e)

pub done_full : (buckets : ℕ → List Link) (b p : ℕ) → drop p (buckets b) ≡ [] → done_at buckets b p ≡ walk buckets (b + 1)
done_full buckets b p e = let q : suc b ≡ b + 1 = omega arith in done_all buckets b p e ∙ ap (walk buckets) q

pub done_length : (buckets : ℕ → List Link) (b p : ℕ) → length (done_at buckets b p) ≤ length (walk buckets b) + p
done_length buckets b p = let long = length-append (walk buckets b) (take p (buckets b)) in let part = taken p (buckets b) in omega (arith, long, part)
  where
    taken : (n : ℕ) (xs : List Link) → length (take n xs) ≤ n
    taken zero xs = omega arith
    taken (suc n) [] = omega arith
    taken (suc n) (x ∷ xs) = let h = taken n xs in omega (arith, h)

-- a slot after objects were made
pub made_slot : (s now : Standing) (n i : ℕ) → now.own ≡ having_made s.own n → get_or now.own.stack i datum.Null ≡ get_or s.own.stack i datum.Null
made_slot s now n i e = ap (λ (o : Thread). get_or o.stack i datum.Null) e

pub done_start : (buckets : ℕ → List Link) (b : ℕ) → done_at buckets b 0 ≡ walk buckets b
done_start buckets b = append-nil (walk buckets b)

walk_more : (buckets : ℕ → List Link) (b n : ℕ) → b < n → (more : List Link) × (walk buckets n ≡ walk buckets (suc b) ++ more)
walk_more buckets b zero h = absurd (omega (arith, h))
walk_more buckets b (suc n) h = elim (cases_lt b n) [
  | inl lt ↦ (let r = walk_more buckets b n lt in (r.0 ++ buckets n, ap (λ ls. ls ++ buckets n) r.1 ∙ append_assoc (walk buckets (suc b)) r.0 (buckets n)))
  | inr ge ↦ (let e : n ≡ b = omega (arith, h, ge) in ([], ap (λ k. walk buckets (suc k)) e ∙ sym (append-nil (walk buckets (suc b)))))
]

pub walk_parts : (buckets : ℕ → List Link) (b p n : ℕ) (link : Link) (rest : List Link) → b < n → drop p (buckets b) ≡ link ∷ rest → (more : List Link) × (walk buckets n ≡ done_at buckets b p ++ link ∷ more)
walk_parts buckets b p n link rest h e =
    let r = walk_more buckets b n h in (
      rest ++ r.0,
      r.1 ∙ ap (λ ls. (walk buckets b ++ ls) ++ r.0) (take_with p (buckets b) rest link e)
          ∙ append_assoc (walk buckets b) (take p (buckets b) ++ link ∷ rest) r.0
          ∙ ap (λ ls. walk buckets b ++ ls) (append_assoc (take p (buckets b)) (link ∷ rest) r.0)
          ∙ sym (append_assoc (walk buckets b) (take p (buckets b)) (link ∷ rest ++ r.0)),
    )

-- ---- the counts

pub raised_more : (counts : WordCounts) (ls : List Link) (link : Link) → raised_by counts (ls ++ link ∷ []) ≡ raised (raised_by counts ls) link.word link.count
raised_more counts [] link = refl
raised_more counts (l ∷ ls) link = raised_more (raised counts l.word l.count) ls link

pub news_more : (counts : WordCounts) (ls : List Link) (link : Link) → news counts (ls ++ link ∷ []) ≡ news counts ls + one_if_none (get (raised_by counts ls) link.word)
news_more counts [] link = let n = one_if_none (get counts link.word) in let e : n + 0 ≡ 0 + n = omega arith in e
news_more counts (l ∷ ls) link =
    let a = one_if_none (get counts l.word) in
    let b = news (raised counts l.word l.count) ls in
    let d = one_if_none (get (raised_by (raised counts l.word l.count) ls) link.word) in
    let e : a + (b + d) ≡ a + b + d = omega arith in
    ap (λ n. a + n) (news_more (raised counts l.word l.count) ls link) ∙ e

pub raised_lacks : (counts : WordCounts) (w : List ℕ) (ls : List Link) → LacksWord w ls → get (raised_by counts ls) w ≡ get counts w
raised_lacks counts w [] lacks = refl
raised_lacks counts w (l ∷ ls) lacks = raised_lacks (raised counts l.word l.count) w ls lacks.1 ∙ count_other counts l.word w (count_of counts l.word + l.count) (λ e. lacks.0 (sym e))

pub lacks_append : (w : List ℕ) (xs ys : List Link) → LacksWord w xs → LacksWord w ys → LacksWord w (xs ++ ys)
lacks_append w [] ys h k = k
lacks_append w (x ∷ xs) ys h k = (h.0, lacks_append w xs ys h.1 k)

lacks_drop : (w : List ℕ) (p : ℕ) (xs rest : List Link) (link : Link) → LacksWord w xs → drop p xs ≡ link ∷ rest → link.word ≢ w
lacks_drop w zero [] rest link lacks e = cc
lacks_drop w zero (x ∷ xs) rest link lacks e = let q : x ≡ link = cc in subst (λ (l : Link). l.word ≢ w) q lacks.0
lacks_drop w (suc p) [] rest link lacks e = cc
lacks_drop w (suc p) (x ∷ xs) rest link lacks e = lacks_drop w p xs rest link lacks.1 e

take_lacks : (p : ℕ) (xs rest : List Link) (link : Link) → AreDifferent xs → drop p xs ≡ link ∷ rest → LacksWord link.word (take p xs)
take_lacks zero xs rest link different e = tt
take_lacks (suc p) [] rest link different e = tt
take_lacks (suc p) (x ∷ xs) rest link different e = ((λ q. lacks_drop x.word p xs rest link different.0 e (sym q)), take_lacks p xs rest link different.1 e)

pub walk_lacks : (buckets : ℕ → List Link) (w : List ℕ) (n : ℕ) → ((b : ℕ) → b < BUCKETS → AreInBucket b (buckets b)) → n ≤ bucket_of w → n ≤ BUCKETS → LacksWord w (walk buckets n)
walk_lacks buckets w zero homes h small = tt
walk_lacks buckets w (suc n) homes h small =
    lacks_append w (walk buckets n) (buckets n) (walk_lacks buckets w n homes (omega (arith, h)) (omega (arith, small)))
    (other_bucket (bucket_of w) n w refl (λ e. omega (arith, h, e)) (buckets n) (homes n (omega (arith, small))))

home_drop : (b p : ℕ) (xs rest : List Link) (link : Link) → AreInBucket b xs → drop p xs ≡ link ∷ rest → bucket_of link.word ≡ b
home_drop b zero [] rest link homes e = cc
home_drop b zero (x ∷ xs) rest link homes e = let q : x ≡ link = cc in subst (λ (l : Link). bucket_of l.word ≡ b) q homes.0
home_drop b (suc p) [] rest link homes e = cc
home_drop b (suc p) (x ∷ xs) rest link homes e = home_drop b p xs rest link homes.1 e

pub done_lacks : (known : KnownObjects) (name : Name) (heads : List Datum) (buckets : ℕ → List Link) (table : IsTable known name heads buckets) (b p : ℕ) → b < BUCKETS → (link : Link) (rest : List Link) → drop p (buckets b) ≡ link ∷ rest → (bucket_of link.word ≡ b) × LacksWord link.word (done_at buckets b p)
done_lacks known name heads buckets table b p bound link rest e =
    let home = home_drop b p (buckets b) rest link (table.homes b bound) e in
    (home, lacks_append link.word (walk buckets b) (take p (buckets b)) (walk_lacks buckets link.word b table.homes (omega (arith, home)) (omega (arith, bound))) (take_lacks p (buckets b) rest link (table.distinct b bound) e))

sums_drop : (counts : WordCounts) (p : ℕ) (xs rest : List Link) (link : Link) → AreSums counts xs → drop p xs ≡ link ∷ rest → count_of counts link.word + link.count ≤ MAX_INT
sums_drop counts zero [] rest link sums e = cc
sums_drop counts zero (x ∷ xs) rest link sums e = let q : x ≡ link = cc in subst (λ (l : Link). count_of counts l.word + l.count ≤ MAX_INT) q sums.0
sums_drop counts (suc p) [] rest link sums e = cc
sums_drop counts (suc p) (x ∷ xs) rest link sums e = sums_drop counts p xs rest link sums.1 e

-- ---- the entries

pub merges_more : (done : List Link) (link : Link) (first now next : ℕ → List Link) → MergesLinks done first now → MergesLink link now next → MergesLinks (done ++ link ∷ []) first next
merges_more [] link first now next e step = (next, subst (λ bs. MergesLink link bs next) e step, refl)
merges_more (l ∷ done) link first now next h step = (h.0, h.1, merges_more done link h.0 now next h.2 step)

-- an entry of a word that is there
pub shares_present : (word : List ℕ) (n : ℕ) (link : Link) (links after : List Link) → word ≡ link.word → n ≡ link.count → (LacksWord word links → ⊥) → AddsCount word n links after → SharesLink link links after
shares_present word n link links after e f there adds = elim adds [
  | inl a ↦ inl (a.0, a.1, a.2, a.3, a.4 ∙ e, a.5 ∙ ap (λ k. a.0 ++ (record a.1 { count = (a.1).count + k }) ∷ a.2) f)
  | inr b ↦ absurd (there b.0)
]

-- ---- what stays

apart_nowhere : (name : Name) (ls : List Link) → IsApart name ls → IsNoEntry name ls
apart_nowhere name [] h = tt
apart_nowhere name (l ∷ ls) h = (h.0, apart_nowhere name ls h.2)

key_nowhere : (known : KnownObjects) (key : Name) (w : List ℕ) → IsKey known key w → (ls : List Link) (head : Datum) → IsChain known head ls → IsNoEntry key ls
key_nowhere known key w is [] head chain = tt
key_nowhere known key w is (l ∷ ls) head chain = ((λ e. key_no_entry known key w chain.1.0 l is chain.1.1 (sym e)), key_nowhere known key w is ls chain.1.0 chain.1.2)

-- a table that shares no entry with another one stays as it was where nothing but the other one and its entries changed
module _ (known : KnownObjects) (from_name into_name : Name) (from_heads into_heads : List Datum) (from_buckets into_buckets : ℕ → List Link) (from : IsTable known from_name from_heads from_buckets) (into : IsTable known into_name into_heads into_buckets) (different : from_name ≢ into_name)
    (apart : (b c : ℕ) → b < BUCKETS → c < BUCKETS → SharesNone (from_buckets b) (into_buckets c)) (after : KnownObjects) (later : ℕ → List Link) (kept : KeepsUntouched known into_name into_buckets after later) where
  chain_kept : (ls : List Link) (head : Datum) → IsChain known head ls → ((c : ℕ) → c < BUCKETS → SharesNone ls (into_buckets c)) → IsChain after head ls
  chain_kept [] head chain away = chain
  chain_kept (l ∷ ls) head chain away =
      let entry = chain.1.1 in
      let other = table_apart known into_name into_heads into_buckets into (l ∷ ls) head chain in
      let same_entry = (kept l.entry (ap is_some entry.0) other.0 (λ c h. (away c h).0)).0 in
      let same_key = (kept l.key (ap is_some entry.1.1) other.1 (λ c h. key_nowhere known l.key l.word entry.1 (into_buckets c) (get_or into_heads c datum.Null) (into.chains c h))).0 in
      (chain.0, (chain.1.0, (same_entry ∙ entry.0, (entry.1.0, same_key ∙ entry.1.1, entry.1.2, entry.1.3)), chain_kept ls chain.1.0 chain.1.2 (λ c h. (away c h).1)))

  pub table_stays : IsTable after from_name from_heads from_buckets
  table_stays = record {
    object = (kept from_name (ap is_some from.object) different (λ c h. apart_nowhere from_name (into_buckets c) (table_apart known from_name from_heads from_buckets from (into_buckets c) (get_or into_heads c datum.Null) (into.chains c h)))).0 ∙ from.object;
    size = from.size;
    chains = λ b h. chain_kept (from_buckets b) (get_or from_heads b datum.Null) (from.chains b h) (λ c k. apart b c h k);
    homes = from.homes;
    distinct = from.distinct;
  }

pub from_stays : (m : Merge) (is : IsMerge m) (after : KnownObjects) (later : ℕ → List Link) → KeepsUntouched m.known m.into_name (is.into_table).buckets after later → IsTable after m.from_name m.heads m.buckets
from_stays m is after later kept =
    table_stays m.known m.from_name m.into_name m.heads (is.into_table).heads m.buckets (is.into_table).buckets is.from_table (is.into_table).table is.different is.apart after later kept

-- a count table that shares no entry with another one
abbrev pub counts_stay : (known : KnownObjects) (from_name into_name : Name) (from_counts into_counts : WordCounts) (from : IsCountTable known from_name from_counts) (into : IsCountTable known into_name into_counts) → from_name ≢ into_name
    → ((b c : ℕ) → b < BUCKETS → c < BUCKETS → SharesNone (from.buckets b) (into.buckets c)) → (after : KnownObjects) (later : ℕ → List Link) → KeepsUntouched known into_name into.buckets after later → IsCountTable after from_name from_counts
counts_stay known from_name into_name from_counts into_counts from into different apart after later kept = record {
  heads = from.heads;
  buckets = from.buckets;
  table = table_stays known from_name into_name from.heads into.heads from.buckets into.buckets from.table into.table different apart after later kept;
  counted = from.counted;
  absent = from.absent;
}

-- what stays where a word was added
pub untouched_by_add : (known after : KnownObjects) (name : Name) (buckets later : ℕ → List Link) (word : List ℕ) → KeepsOthers known name (buckets (bucket_of word)) after → StayNowhere known buckets later → KeepsUntouched known name buckets after later
untouched_by_add known after name buckets later word keeps stay other k ne away = (keeps other k ne (away (bucket_of word) (bucket_small word)), stay other k away)

pub untouched_step : (known : KnownObjects) (name : Name) (buckets : ℕ → List Link) (mid : KnownObjects) (now : ℕ → List Link) → KeepsUntouched known name buckets mid now → (word : List ℕ) (n : ℕ) (knows : KnownObjects → Type 0) (added : IsAddedTo mid word n name now knows) → KeepsUntouched known name buckets added.after (with_bucket now (bucket_of word) added.links)
untouched_step known name buckets mid now kept word n knows added other k ne away =
    let r = kept other k ne away in
    let k_mid : IsKnown mid other = subst (λ o. IsSome o) (sym r.0) k in
    let here = r.1 (bucket_of word) (bucket_small word) in (
      added.others other k_mid ne here ∙ r.0,
      λ c h. elim (eqb_cases (bucket_of word) c) [
        | inl s ↦ subst (λ t. IsNoEntry other (cond t added.links (now c))) (sym s.0) (added.fresh other k_mid here)
        | inr o ↦ subst (λ t. IsNoEntry other (cond t added.links (now c))) (sym o.0) (r.1 c h)
      ],
    )

longer : (word : List ℕ) (n : ℕ) (links after : List Link) → AddsCount word n links after → length after ≤ length links + 1
longer word n links after adds = elim adds [
  | inl a ↦ (let e = ap length a.3 ∙ length-append a.0 (a.1 ∷ a.2) in let f = ap length a.5 ∙ length-append a.0 (record a.1 { count = (a.1).count + n } ∷ a.2) in omega (arith, e, f))
  | inr b ↦ (let e = ap length b.1.3 in omega (arith, e))
]

pub few_step : (now : ℕ → List Link) (word : List ℕ) (n : ℕ) (links : List Link) → AddsCount word n (now (bucket_of word)) links → (c : ℕ) → length (with_bucket now (bucket_of word) links c) ≤ length (now c) + 1
few_step now word n links adds c = elim (eqb_cases (bucket_of word) c) [
  | inl s ↦ subst (λ t. length (cond t links (now c)) ≤ length (now c) + 1) (sym s.0) (subst (λ d. length links ≤ length (now d) + 1) (sym s.1) (longer word n (now (bucket_of word)) links adds))
  | inr o ↦ subst (λ t. length (cond t links (now c)) ≤ length (now c) + 1) (sym o.0) (omega arith)
]

unfoldable pub merged_step : (m : Merge) (is : IsMerge m) (done : List Link) (knows : KnownObjects → Type 0) (d : IsMerged m is done knows) (word : List ℕ) (n : ℕ) (link : Link) → word ≡ link.word → n ≡ link.count
    → (after : KnownObjects → Type 0) (added : IsAddedTo d.after word n m.into_name (d.into_table).buckets after) → SharesLink link ((d.into_table).buckets (bucket_of word)) added.links → ((other : KnownObjects) → Contains m.others other → after other × LacksLinks other added.links) → IsMerged m is (done ++ link ∷ []) after
merged_step m is done knows d word n link e f after added shares asides =
    record {
      after = added.after;
      known_now = added.known_now;
      counts = raised d.counts word n;
      counts_are = ap (λ w. raised d.counts w n) e ∙ ap (λ k. raised d.counts link.word k) f ∙ ap (λ cs. raised cs link.word link.count) d.counts_are ∙ sym (raised_more m.counts done link);
      into_table = added_counts d.after m.into_name d.counts d.into_table word n (bucket_small word) after added;
      untouched = untouched_step m.known m.into_name (is.into_table).buckets d.after (d.into_table).buckets d.untouched word n after added;
      few = λ c h.
          let old = d.few c h in
          let step = few_step (d.into_table).buckets word n added.links added.adds c in
          let long = length-append done (link ∷ []) in
          omega (arith, old, step, long);
      entries =
          let now = (d.into_table).buckets in
          merges_more done link (is.into_table).buckets now (with_bucket now (bucket_of word) added.links) d.entries
          (added.links, ap (λ w. with_bucket now (bucket_of w) added.links) e, subst (λ w. SharesLink link (now (bucket_of w)) added.links) e shares);
      others_known = λ other has. (asides other has).0;
      aside = λ other has. lacks_bucket other m.into_name (d.into_table).buckets (bucket_of word) added.links (d.aside other has) (asides other has).1;
    }

abbrev pub merged_as : (m : Merge) (is : IsMerge m) (done : List Link) (knows after : KnownObjects → Type 0) (d : IsMerged m is done knows) → after d.after → ((other : KnownObjects) → Contains m.others other → after other) → IsMerged m is done after
merged_as m is done knows after d k others = record {
  after = d.after;
  known_now = k;
  counts = d.counts;
  counts_are = d.counts_are;
  into_table = d.into_table;
  untouched = d.untouched;
  few = d.few;
  entries = d.entries;
  others_known = others;
  aside = d.aside;
}

pub merged_none : (m : Merge) (is : IsMerge m) (knows : KnownObjects → Type 0) → knows m.known → ((other : KnownObjects) → Contains m.others other → knows other) → IsMerged m is [] knows
merged_none m is knows k others = record {
  after = m.known;
  known_now = k;
  counts = m.counts;
  counts_are = refl;
  into_table = is.into_table;
  untouched = λ other h ne away. (refl, away);
  few = λ c h. omega arith;
  entries = refl;
  others_known = others;
  aside = is.into_aside;
}

pub from_lacks : (m : Merge) (is : IsMerge m) (b : ℕ) → b < BUCKETS → (other : KnownObjects) → Contains m.others other → LacksChain other m.from_name (m.buckets b)
from_lacks m is b bound other has = let lacks = is.from_aside other has in (lacks.head, lacks.links b bound)

-- a chain of the other table isn't long
pub few_into : (m : Merge) (is : IsMerge m) (b p : ℕ) (knows : KnownObjects → Type 0) (d : IsMerged m is (done_at m.buckets b p) knows) → b < BUCKETS → p < 2 ^ 32 → length (walk m.buckets b) ≤ b * 2 ^ 32
    → (c : ℕ) → c < BUCKETS → length ((d.into_table).buckets c) < 2 ^ 63
few_into m is b p knows d bound below walked c small =
    let few = d.few c small in
    let first = is.into_few c small in
    let long = length-append (walk m.buckets b) (take p (m.buckets b)) in
    let part = take_length p (m.buckets b) in
    let count : b * 2 ^ 32 ≤ (BUCKETS - 1) * 2 ^ 32 = omega (arith, bound) in
    omega (arith, few, first, long, part, walked, count, below)
  where
    take_length : (n : ℕ) (xs : List Link) → length (take n xs) ≤ n
    take_length zero xs = omega arith
    take_length (suc n) [] = omega arith
    take_length (suc n) (x ∷ xs) = let h = take_length n xs in omega (arith, h)

-- the word may be added
pub may_merge : (s : Standing) (into : ℕ) (m : Merge) (is : IsMerge m) (b p : ℕ) (knows : KnownObjects → Type 0) (d : IsMerged m is (done_at m.buckets b p) knows) → b < BUCKETS → p < 2 ^ 32 → length (walk m.buckets b) ≤ b * 2 ^ 32
    → get_or s.own.stack into datum.Null ≡ datum.Object m.into_name → (word : List ℕ) (n : ℕ) (link : Link) (rest : List Link) → IsEntryAt m b p word n link rest
    → MayAdd s d.after into word n m.into_name (d.into_table).heads (d.into_table).buckets
may_merge s into m is b p knows d bound below walked slot word n link rest at =
    let lacks = done_lacks m.known m.from_name m.heads m.buckets is.from_table b p bound link rest at.0 in
    let same : get d.counts word ≡ get m.counts link.word = ap (λ cs. get cs word) d.counts_are ∙ ap (get (raised_by m.counts (done_at m.buckets b p))) at.1 ∙ raised_lacks m.counts link.word (done_at m.buckets b p) lacks.1 in
    let sum = sums_drop m.counts p (m.buckets b) rest link (is.sums b bound) at.0 in
    let home : bucket_of word ≡ b = ap bucket_of at.1 ∙ lacks.0 in
    record {
      slot = slot;
      is_table = (d.into_table).table;
      short = few_into m is b p knows d bound below walked (bucket_of word) (bucket_small word);
      number = let e = at.2 in omega (arith, e, sum);
      sum = λ count h.
          let e = count_found d.after m.into_name d.counts d.into_table word n (bucket_small word) count h in
          let f : count_of d.counts word ≡ count_of m.counts link.word = ap or_zero same in
          let g = at.2 in
          omega (arith, e, f, g, sum);
    }

pub length_walk : (buckets : ℕ → List Link) → ((b : ℕ) → b < BUCKETS → length (buckets b) < 2 ^ 32) → (n : ℕ) → n ≤ BUCKETS → length (walk buckets n) ≤ n * 2 ^ 32
length_walk buckets few zero h = omega arith
length_walk buckets few (suc n) h =
    let old = length_walk buckets few n (omega (arith, h)) in
    let more = few n (omega (arith, h)) in
    let long = length-append (walk buckets n) (buckets n) in
    omega (arith, old, more, long)

-- ---- single steps

pub some_not_none : (o : Option ℕ) → (o ≡ None → ⊥) → one_if_none o ≡ 0
some_not_none None h = absurd (h refl)
some_not_none (Some n) h = refl

pub having_none : (o : Thread) → o ≡ having_made o 0
having_none o = let e : o.made ≡ o.made + 0 = omega arith in ap (λ n. record o { made = n }) e

having_more : (o : Thread) (a b : ℕ) → having_made (having_made o a) b ≡ having_made o (a + b)
having_more o a b = let e : o.made + a + b ≡ o.made + (a + b) = omega arith in ap (λ n. record o { made = n }) e

module _ {S B : Type 0} (base : S → B) (tells : S → ℕ → Thread → Type 0) (tells_known : S → ℕ → KnownObjects → Type 0) (standing : S → Standing) (m : Merge) (is : IsMerge m) where
  -- one more entry whose word is there, or not
  pub goes_present : (b p : ℕ) (word : List ℕ) (n : ℕ) (link : Link) (rest : List Link) → IsEntryAt m b p word n link rest → (x y : S) (knows : KnownObjects → Type 0)
      → IsMerged m is (done_at m.buckets b p ++ link ∷ []) knows → (get (raised_by m.counts (done_at m.buckets b p)) link.word ≡ None → ⊥) → Ran base tells tells_known standing x y 0 → (standing y).own ≡ (standing x).own
      → Goes base tells tells_known standing m is (done_at m.buckets b p) (done_at m.buckets b (p + 1)) x y knows
  goes_present b p word n link rest at x y knows merged there ran own =
      let done = done_at m.buckets b p in
      let e = done_next m.buckets b p link rest at.0 in
      subst (λ later. Goes base tells tells_known standing m is done later x y knows) (sym e) (record {
        merged = merged;
        made = 0;
        new_words = let q = some_not_none (get (raised_by m.counts done) link.word) there in let f = news_more m.counts done link in omega (arith, q, f);
        few = let long = length-append done (link ∷ []) in omega (arith, long);
        ran = ran;
        own = own ∙ having_none (standing x).own;
      })

  pub goes_new : (b p : ℕ) (word : List ℕ) (n : ℕ) (link : Link) (rest : List Link) → IsEntryAt m b p word n link rest → (x y : S) (knows : KnownObjects → Type 0)
      → IsMerged m is (done_at m.buckets b p ++ link ∷ []) knows → get (raised_by m.counts (done_at m.buckets b p)) link.word ≡ None → Ran base tells tells_known standing x y 6 → (standing y).own ≡ having_made (standing x).own 1
      → Goes base tells tells_known standing m is (done_at m.buckets b p) (done_at m.buckets b (p + 1)) x y knows
  goes_new b p word n link rest at x y knows merged absent ran own =
      let done = done_at m.buckets b p in
      let e = done_next m.buckets b p link rest at.0 in
      subst (λ later. Goes base tells tells_known standing m is done later x y knows) (sym e) (record {
        merged = merged;
        made = 1;
        new_words = let q = ap one_if_none absent in let f = news_more m.counts done link in omega (arith, q, f);
        few = let long = length-append done (link ∷ []) in omega (arith, long);
        ran = ran;
        own = own;
      })

  pub stops_here : (b p : ℕ) (word : List ℕ) (n : ℕ) (link : Link) (rest : List Link) → b < BUCKETS → IsEntryAt m b p word n link rest → (x y : S) (knows : KnownObjects → Type 0)
      → IsMerged m is (done_at m.buckets b p) knows → get (raised_by m.counts (done_at m.buckets b p)) link.word ≡ None → RanOut base tells tells_known standing x y 0 3 → (standing y).own ≡ (standing x).own
      → Stops base tells tells_known standing m is (done_at m.buckets b p) x y knows
  stops_here b p word n link rest bound at x y knows merged absent out own =
      let parts = walk_parts m.buckets b p BUCKETS link rest bound at.0 in
      record {
        later = done_at m.buckets b p;
        link = link;
        rest = parts.0;
        parts = parts.1;
        merged = merged;
        absent = absent;
        made = 0;
        new_words = omega arith;
        ran_out = out;
        own = own ∙ having_none (standing x).own;
      }

  pub goes_nowhere : (done : List Link) (x y : S) (knows : KnownObjects → Type 0) → IsMerged m is done knows → Ran base tells tells_known standing x y 0 → (standing y).own ≡ (standing x).own → Goes base tells tells_known standing m is done done x y knows
  goes_nowhere done x y knows merged ran own = record {
    merged = merged;
    made = 0;
    new_words = omega arith;
    few = omega arith;
    ran = ran;
    own = own ∙ having_none (standing x).own;
  }

  words_more : (a b : ℕ) → a * 6 + b * 6 ≡ (a + b) * 6
  words_more a b = omega arith

  pub goes_then : (done mid later : List Link) (x y z : S) (knows after : KnownObjects → Type 0) → Goes base tells tells_known standing m is done mid x y knows → Goes base tells tells_known standing m is mid later y z after → Goes base tells tells_known standing m is done later x z after
  goes_then done mid later x y z knows after r q = record {
    merged = q.merged;
    made = r.made + q.made;
    new_words = let e = r.new_words in let f = q.new_words in omega (arith, e, f);
    few = let e = r.few in let f = q.few in omega (arith, e, f);
    ran = ran_words base tells tells_known standing x z _ _ (words_more r.made q.made) (ran_then base tells tells_known standing x y z _ _ r.ran q.ran);
    own = q.own ∙ ap (λ o. having_made o q.made) r.own ∙ having_more (standing x).own r.made q.made;
  }

  pub goes_stops : (done mid : List Link) (x y z : S) (knows after : KnownObjects → Type 0) → Goes base tells tells_known standing m is done mid x y knows → Stops base tells tells_known standing m is mid y z after → Stops base tells tells_known standing m is done x z after
  goes_stops done mid x y z knows after r q = record {
    later = q.later;
    link = q.link;
    rest = q.rest;
    parts = q.parts;
    merged = q.merged;
    absent = q.absent;
    made = r.made + q.made;
    new_words = let e = r.new_words in let f = q.new_words in omega (arith, e, f);
    ran_out = out_words base tells tells_known standing x z _ _ 3 (words_more r.made q.made) (ran_out base tells tells_known standing x y z _ _ 3 r.ran q.ran_out);
    own = q.own ∙ ap (λ o. having_made o q.made) r.own ∙ having_more (standing x).own r.made q.made;
  }

-- ---- one entry

apart_link : (name : Name) (p : ℕ) (ls rest : List Link) (link : Link) → IsApart name ls → drop p ls ≡ link ∷ rest → link.key ≢ name
apart_link name zero [] rest link apart e = cc
apart_link name zero (l ∷ ls) rest link apart e = let q : l ≡ link = cc in subst (λ (x : Link). x.key ≢ name) q apart.1
apart_link name (suc p) [] rest link apart e = cc
apart_link name (suc p) (l ∷ ls) rest link apart e = apart_link name p ls rest link apart.2 e

module _ (m : Merge) (is : IsMerge m) (b p : ℕ) (bound : b < BUCKETS) (knows : KnownObjects → Type 0) (d : IsMerged m is (done_at m.buckets b p) knows) where
  from_now : IsTable d.after m.from_name m.heads m.buckets
  from_now = from_stays m is d.after (d.into_table).buckets d.untouched

  pub is_share : (now : Standing) (from into : ℕ) → AreSlots now from into m → (link : Link) (rest : List Link) → drop p (m.buckets b) ≡ link ∷ rest → IsShare now d.after from into b p m.from_name m.into_name m.heads (d.into_table).heads (m.buckets b) link rest
  is_share now from into slots link rest e =
      let f = from_now in
      let t = (d.into_table).table in
      let size = f.size in
      let into_size = t.size in
      let few = is.from_few b bound in
      record {
        at = ((slots.0, f.object), omega (arith, size, bound), f.chains b bound);
        apart = table_apart d.after m.from_name m.heads m.buckets f (m.buckets b) (get_or m.heads b datum.Null) (f.chains b bound);
        few = omega (arith, few);
        there = e;
        slot = (slots.1, t.object);
        within = omega (arith, into_size, bound);
      }

  pub from_chain : (now : Standing) (from : ℕ) → get_or now.own.stack from datum.Null ≡ datum.Object m.from_name → IsAtChain now d.after from b m.from_name m.heads (m.buckets b) × IsApart m.from_name (m.buckets b)
  from_chain now from slot =
      let f = from_now in
      let size = f.size in
      (((slot, f.object), omega (arith, size, bound), f.chains b bound), table_apart d.after m.from_name m.heads m.buckets f (m.buckets b) (get_or m.heads b datum.Null) (f.chains b bound))

  pub from_short : (limits : Limits) → limits ≡ standard_limits → FitPages limits d.after → AreShort (m.buckets b)
  from_short limits standard fit = let f = from_now in chain_short limits standard d.after fit (m.buckets b) (get_or m.heads b datum.Null) (f.chains b bound)

  pub get_now : (word : List ℕ) (link : Link) → word ≡ link.word → get d.counts word ≡ get (raised_by m.counts (done_at m.buckets b p)) link.word
  get_now word link e = ap (λ cs. get cs word) d.counts_are ∙ ap (get (raised_by m.counts (done_at m.buckets b p))) e

  -- a new entry with the key of the other table's entry
  pub shared_now : (word : List ℕ) (n : ℕ) (link : Link) (rest : List Link) → IsEntryAt m b p word n link rest → LacksWord word ((d.into_table).buckets (bucket_of word)) → (s : Standing) → get d.after (next_of s) ≡ None
      → (after : KnownObjects → Type 0) → after (with_shared s d.after m.into_name (d.into_table).heads b link.key n)
      → (both : ((added : IsAddedTo d.after word n m.into_name (d.into_table).buckets after) × SharesLink link ((d.into_table).buckets (bucket_of word)) added.links)) × ((both.0).links ≡ record { entry = next_of s; key = link.key; word = word; count = n } ∷ (d.into_table).buckets (bucket_of word))
  shared_now word n link rest at lacks s fresh after k =
      let f = from_now in
      let t = (d.into_table).table in
      let home : bucket_of word ≡ b = ap bucket_of at.1 ∙ (done_lacks m.known m.from_name m.heads m.buckets is.from_table b p bound link rest at.0).0 in
      let entry = entry_drop d.after (get_or m.heads b datum.Null) (m.buckets b) rest link p (f.chains b bound) at.0 in
      let key : IsKey d.after link.key word = subst (IsKey d.after link.key) (sym at.1) entry.1.1 in
      let apart = table_apart d.after m.into_name (d.into_table).heads (d.into_table).buckets t (m.buckets b) (get_or m.heads b datum.Null) (f.chains b bound) in
      let now = (d.into_table).buckets in
      let r = shared_table d.after m.into_name (d.into_table).heads now t word n b home bound (subst (λ c. LacksWord word (now c)) home lacks)
      link.key (next_of s) fresh key (λ e. apart_link m.into_name p (m.buckets b) rest link apart at.0 (sym e)) after k in
      let entry_now : ℕ → List ℕ → Link = λ k w. record { entry = next_of s; key = link.key; word = w; count = k } in
      ((r.0, inr (subst (λ w. LacksWord w (now (bucket_of word))) at.1 lacks, (next_of s, r.1 ∙ ap (λ c. entry_now n word ∷ now c) (sym home) ∙ ap (λ w. entry_now n w ∷ now (bucket_of word)) at.1 ∙ ap (λ k. entry_now k link.word ∷ now (bucket_of word)) at.2))), r.1 ∙ ap (λ c. entry_now n word ∷ now c) (sym home))

module _ {S B : Type 0} (base : S → B) (tells : S → ℕ → Thread → Type 0) (tells_known : S → ℕ → KnownObjects → Type 0) (standing : S → Standing) (m : Merge) (is : IsMerge m) (b p : ℕ) (x y : S) (knows : KnownObjects → Type 0) where
  pub merges_end : (more : Bool) → more ≡ false → MergesEntry base tells tells_known standing m is b p more x y knows → (drop p (m.buckets b) ≡ []) × Goes base tells tells_known standing m is (done_at m.buckets b p) (done_at m.buckets b p) x y knows
  merges_end false e h = h
  merges_end true e h = absurd (true≢false e)

  pub merges_on : (more : Bool) → more ≡ true → MergesEntry base tells tells_known standing m is b p more x y knows → Goes base tells tells_known standing m is (done_at m.buckets b p) (done_at m.buckets b (p + 1)) x y knows
  merges_on true e h = h
  merges_on false e h = absurd (true≢false (sym e))
