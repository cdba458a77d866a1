-- The counts of a table after one was raised.
use Rattle.std.proofs.Common.{◌≡◌, ◌≢◌, inl, inr, ℕ, ◌+◌, ◌*◌, ◌%◌, ◌<◌, List, [], ◌∷◌, ◌++◌, refl, ◌∙◌, ap, sym, subst, Some, None, Option, false, cond, true≢false, arith, IsSome}
use Rattle.yak_model.specs.declared.TheConstants.{BUCKETS, HASH_FACTOR}
use Rattle.std.specs.List.{fold}
use Rattle.std.specs.declared.cmp.Ordering.{Ordering}
use Rattle.std.specs.declared.cmp.Ordering.TheVariants.{Less, Equal, Greater}
use Rattle.std.specs.Ordering.{nat_cmp, eq_by_cmp, is_eq}
use Rattle.std.specs.Cmp.{tied_itself}
use Rattle.std.specs.Cmp.Lexicographic.{slice_cmp, nat_list_cmp_total}
use Rattle.std.specs.FinMap.{empty, get, get-empty, insert, get-insert, slice_cmp-IsAntisymmetric, nat_cmp-IsAntisymmetric}
use Rattle.object_layout.specs.declared.names.Name.{Name}
use Rattle.yak_model.specs.Private.{KnownObjects}
use Rattle.yak_model.specs.Tables.{bucket_of}
use Rattle.yak_model.specs.Tables.{HasCount, IsCountTable, IsTable, LacksWord, Link, AreDifferent}
use Rattle.yak_model.specs.Texts.{WordCounts}
use Rattle.heap_tables.specs.Adds.{AreAfter, StayAfter, AddsCount, Grows, IsAddedTo, IsNoEntry, MakesForNew, StayNowhere, with_bucket}
use Rattle.yak_model.specs.declared.datum.Datum.{Datum}
use Rattle.yak_model.specs.Standing.{Standing}
use Rattle.heap_tables.specs.Counted.{MakesUncounted, count_of, or_zero, raised}
use Rattle.heap_tables.proofs.Linked.{table_grows}
use Rattle.heap_tables.proofs.Places.{word_cases}
use Rattle.heap_tables.proofs.Raised.{distinct_parts, eqb_cases, with_sum}

pub word_tie : (v w : List ℕ) → v ≢ w → eq_by_cmp (slice_cmp nat_cmp) v w ≡ false
word_tie v w ne = by_order (slice_cmp nat_cmp v w) refl
  where
    by_order : (o : Ordering) → slice_cmp nat_cmp v w ≡ o → is_eq (slice_cmp nat_cmp v w) ≡ false
    by_order Less e = ap is_eq e
    by_order Equal e = absurd (ne (slice_cmp-IsAntisymmetric nat_cmp-IsAntisymmetric v w e))
    by_order Greater e = ap is_eq e

pub count_same : (counts : WordCounts) (w : List ℕ) (n : ℕ) → get (insert counts w n) w ≡ Some n
count_same counts w n = get-insert nat_list_cmp_total counts w n w ∙ ap (λ b. cond b (Some n) (get counts w)) (ap is_eq (tied_itself nat_list_cmp_total w))

pub count_other : (counts : WordCounts) (w v : List ℕ) (n : ℕ) → v ≢ w → get (insert counts w n) v ≡ get counts v
count_other counts w v n ne = get-insert nat_list_cmp_total counts w n v ∙ ap (λ b. cond b (Some n) (get counts v)) (word_tie v w ne)

pub same_some : (a b : ℕ) → Some a ≡ Some b → a ≡ b
same_some a b e = cc

pub not_none : (a : ℕ) → Some a ≡ None → ⊥
not_none a e = cc

is_some_none : IsSome {T = ℕ} None → ⊥
is_some_none h = true≢false (sym h)

pub lacks_count : (w : List ℕ) (links : List Link) (n : ℕ) → LacksWord w links → HasCount w links n → ⊥
lacks_count w [] n lacks h = h
lacks_count w (l ∷ links) n lacks h = elim h [ inl here ↦ lacks.0 here.0 | inr later ↦ lacks_count w links n lacks.1 later.1 ]

pub one_count : (w : List ℕ) (links : List Link) (m n : ℕ) → HasCount w links m → HasCount w links n → m ≡ n
one_count w [] m n a b = absurd a
one_count w (l ∷ links) m n a b = elim a [
  | inl here ↦ elim b [ inl too ↦ sym here.1 ∙ too.1 | inr other ↦ absurd (other.0 here.0) ]
  | inr later ↦ elim b [ inl here ↦ absurd (later.0 here.0) | inr too ↦ one_count w links m n later.1 too.1 ]
]

-- the first entry of the word, which may stand behind others
at_or_before : (w : List ℕ) (passed rest : List Link) (link : Link) → LacksWord w passed → link.word ≡ w → HasCount w (passed ++ link ∷ rest) link.count
at_or_before w [] rest link lacks same = inl (same, refl)
at_or_before w (p ∷ passed) rest link lacks same = inr (lacks.0, at_or_before w passed rest link lacks.1 same)

kept_count : (v : List ℕ) (passed rest : List Link) (link : Link) (n m : ℕ) → link.word ≢ v → HasCount v (passed ++ link ∷ rest) m → HasCount v (passed ++ with_sum link n ∷ rest) m
kept_count v [] rest link n m ne h = elim h [ inl here ↦ absurd (ne here.0) | inr later ↦ inr later ]
kept_count v (p ∷ passed) rest link n m ne h = elim h [ inl here ↦ inl here | inr later ↦ inr (later.0, kept_count v passed rest link n m ne later.1) ]

kept_lack : (v : List ℕ) (passed rest : List Link) (link : Link) (n : ℕ) → LacksWord v (passed ++ link ∷ rest) → LacksWord v (passed ++ with_sum link n ∷ rest)
kept_lack v [] rest link n h = h
kept_lack v (p ∷ passed) rest link n h = (h.0, kept_lack v passed rest link n h.1)

lacks_apart : (v : List ℕ) (word : List ℕ) (link : Link) → link.word ≡ word → v ≢ word → link.word ≢ v
lacks_apart v word link same ne e = ne (sym e ∙ same)

module _ (known : KnownObjects) (name : Name) (counts : WordCounts) (table : IsCountTable known name counts) (word : List ℕ) (n : ℕ) (bound : bucket_of word < BUCKETS) where
  -- the count that the table has of a word that stands in it
  pub count_found : (m : ℕ) → HasCount word (table.buckets (bucket_of word)) m → count_of counts word ≡ m
  count_found m h = by_option (get counts word) refl
    where
      by_option : (o : Option ℕ) → get counts word ≡ o → or_zero o ≡ m
      by_option None e = absurd (lacks_count word (table.buckets (bucket_of word)) m (table.absent word e) h)
      by_option (Some k) e = one_count word (table.buckets (bucket_of word)) k m (table.counted word k e) h

  count_lacking : LacksWord word (table.buckets (bucket_of word)) → count_of counts word ≡ 0
  count_lacking lacks = by_option (get counts word) refl
    where
      by_option : (o : Option ℕ) → get counts word ≡ o → or_zero o ≡ 0
      by_option None e = refl
      by_option (Some k) e = absurd (lacks_count word (table.buckets (bucket_of word)) k lacks (table.counted word k e))

  new_count : (links : List Link) → AddsCount word n (table.buckets (bucket_of word)) links → HasCount word links (count_of counts word + n)
  new_count links adds = elim adds [
    | inl a ↦
        let distinct = distinct_parts a.0 a.2 a.1 (subst AreDifferent a.3 ((table.table).distinct (bucket_of word) bound)) in
        let before : LacksWord word a.0 = subst (λ w. LacksWord w a.0) a.4 distinct.0 in
        let old = count_found (a.1).count (subst (λ ls. HasCount word ls (a.1).count) (sym a.3) (at_or_before word a.0 a.2 a.1 before a.4)) in
        subst (λ ls. HasCount word ls (count_of counts word + n)) (sym a.5)
        (subst (λ m. HasCount word (a.0 ++ with_sum a.1 n ∷ a.2) (m + n)) (sym old) (at_or_before word a.0 a.2 (with_sum a.1 n) before a.4))
    | inr b ↦
        let old = count_lacking b.0 in
        let sum : (b.1.0).count ≡ count_of counts word + n = omega (arith, old, b.1.2) in
        subst (λ ls. HasCount word ls (count_of counts word + n)) (sym b.1.3) (inl (b.1.1, sum))
  ]

  other_count : (links : List Link) → AddsCount word n (table.buckets (bucket_of word)) links → (v : List ℕ) → v ≢ word → (m : ℕ) → HasCount v (table.buckets (bucket_of word)) m → HasCount v links m
  other_count links adds v ne m h = elim adds [
    | inl a ↦ subst (λ ls. HasCount v ls m) (sym a.5) (kept_count v a.0 a.2 a.1 n m (lacks_apart v word a.1 a.4 ne) (subst (λ ls. HasCount v ls m) a.3 h))
    | inr b ↦ subst (λ ls. HasCount v ls m) (sym b.1.3) (inr (lacks_apart v word b.1.0 b.1.1 ne, h))
  ]

  other_lack : (links : List Link) → AddsCount word n (table.buckets (bucket_of word)) links → (v : List ℕ) → v ≢ word → LacksWord v (table.buckets (bucket_of word)) → LacksWord v links
  other_lack links adds v ne h = elim adds [
    | inl a ↦ subst (LacksWord v) (sym a.5) (kept_lack v a.0 a.2 a.1 n (subst (LacksWord v) a.3 h))
    | inr b ↦ subst (LacksWord v) (sym b.1.3) (lacks_apart v word b.1.0 b.1.1 ne, h)
  ]

  -- what holds of the new chain where it is the word's bucket, and of the old one elsewhere
  at_bucket : (P : List Link → Type 0) (links : List Link) (c : ℕ) → (c ≡ bucket_of word → P links) → (c ≢ bucket_of word → P (table.buckets c)) → P (with_bucket table.buckets (bucket_of word) links c)
  at_bucket P links c new old = elim (eqb_cases (bucket_of word) c) [
    | inl s ↦ subst (λ t. P (cond t links (table.buckets c))) (sym s.0) (new s.1)
    | inr o ↦ subst (λ t. P (cond t links (table.buckets c))) (sym o.0) (old o.1)
  ]

  pub added_counted : (knows : KnownObjects → Type 0) (added : IsAddedTo known word n name table.buckets knows) (v : List ℕ) (m : ℕ) → get (raised counts word n) v ≡ Some m → HasCount v (with_bucket table.buckets (bucket_of word) added.links (bucket_of v)) m
  added_counted knows added v m e = elim (word_cases v word) [
    | inl same ↦
        let sum : count_of counts word + n ≡ m = same_some _ m (sym (ap (get (raised counts word n)) same ∙ count_same counts word (count_of counts word + n)) ∙ e) in
        at_bucket (λ ls. HasCount v ls m) added.links (bucket_of v)
        (λ _. subst (λ k. HasCount v added.links k) sum (subst (λ w. HasCount w added.links (count_of counts word + n)) (sym same) (new_count added.links added.adds)))
        (λ o. absurd (o (ap bucket_of same)))
    | inr ne ↦
        let old = table.counted v m (sym (count_other counts word v (count_of counts word + n) ne) ∙ e) in
        at_bucket (λ ls. HasCount v ls m) added.links (bucket_of v)
        (λ s. other_count added.links added.adds v ne m (subst (λ c. HasCount v (table.buckets c) m) s old))
        (λ o. old)
  ]

  pub added_absent : (knows : KnownObjects → Type 0) (added : IsAddedTo known word n name table.buckets knows) (v : List ℕ) → get (raised counts word n) v ≡ None → LacksWord v (with_bucket table.buckets (bucket_of word) added.links (bucket_of v))
  added_absent knows added v e = elim (word_cases v word) [
    | inl same ↦ absurd (not_none _ (sym (ap (get (raised counts word n)) same ∙ count_same counts word (count_of counts word + n)) ∙ e))
    | inr ne ↦
        let old = table.absent v (sym (count_other counts word v (count_of counts word + n) ne) ∙ e) in
        at_bucket (LacksWord v) added.links (bucket_of v)
        (λ s. other_lack added.links added.adds v ne (subst (λ c. LacksWord v (table.buckets c)) s old))
        (λ o. old)
  ]

  abbrev pub added_counts : (knows : KnownObjects → Type 0) (added : IsAddedTo known word n name table.buckets knows) → IsCountTable added.after name (raised counts word n)
  added_counts knows added = record {
    heads = added.heads;
    buckets = with_bucket table.buckets (bucket_of word) added.links;
    table = added.is_table;
    counted = added_counted knows added;
    absent = added_absent knows added;
  }

pub bucket_small : (word : List ℕ) → bucket_of word < BUCKETS
bucket_small word = small word 0 (omega arith)
  where
    small : (word : List ℕ) (h : ℕ) → h < BUCKETS → fold (λ k b. (HASH_FACTOR * k + b) % BUCKETS) h word < BUCKETS
    small [] h bound = bound
    small (b ∷ rest) h bound = small rest ((HASH_FACTOR * h + b) % BUCKETS) (omega arith)

-- a table without entries counts no words
abbrev pub empty_counts : (known : KnownObjects) (name : Name) (heads : List Datum) → IsTable known name heads (λ _. []) → IsCountTable known name empty
empty_counts known name heads table = record {
  heads = heads;
  buckets = λ _. [];
  table = table;
  counted = λ word n e. absurd (not_none n (sym e ∙ get-empty (slice_cmp nat_cmp) word));
  absent = λ word e. tt;
}

-- the same counts where each object stays
abbrev pub grown_counts : (m n : KnownObjects) → Grows m n → (name : Name) (counts : WordCounts) → IsCountTable m name counts → IsCountTable n name counts
grown_counts m n grows name counts table = record {
  heads = table.heads;
  buckets = table.buckets;
  table = table_grows m n grows name table.heads table.buckets table.table;
  counted = table.counted;
  absent = table.absent;
}

-- a word that stands in no chain isn't counted
pub lacks_none : (known : KnownObjects) (name : Name) (counts : WordCounts) (table : IsCountTable known name counts) (word : List ℕ) → LacksWord word (table.buckets (bucket_of word)) → get counts word ≡ None
lacks_none known name counts table word lacks = by_option (get counts word) refl
  where
    by_option : (o : Option ℕ) → get counts word ≡ o → get counts word ≡ None
    by_option None e = e
    by_option (Some k) e = absurd (lacks_count word (table.buckets (bucket_of word)) k lacks (table.counted word k e))

-- what is made for a word of a chain, and for another
pub makes_uncounted : (s after : Standing) (known : KnownObjects) (name : Name) (counts : WordCounts) (table : IsCountTable known name counts) (word : List ℕ) → MakesForNew s after word (table.buckets (bucket_of word)) → MakesUncounted s after counts word
makes_uncounted s after known name counts table word makes = (λ some. by_option (get counts word) refl some, λ none. makes.1 (table.absent word none))
  where
    by_option : (o : Option ℕ) → get counts word ≡ o → IsSome o → after.own.made ≡ s.own.made
    by_option None e some = let h = is_some_none some in absurd h
    by_option (Some k) e some = makes.0 k (table.counted word k e)

pub stay_nowhere : (known : KnownObjects) (buckets : ℕ → List Link) (word : List ℕ) (n : ℕ) (name : Name) (knows : KnownObjects → Type 0) (added : IsAddedTo known word n name buckets knows) → StayNowhere known buckets (with_bucket buckets (bucket_of word) added.links)
stay_nowhere known buckets word n name knows added other k away c h = elim (eqb_cases (bucket_of word) c) [
  | inl s ↦ subst (λ t. IsNoEntry other (cond t added.links (buckets c))) (sym s.0) (added.fresh other k (away (bucket_of word) (bucket_small word)))
  | inr o ↦ subst (λ t. IsNoEntry other (cond t added.links (buckets c))) (sym o.0) (away c h)
]

pub stay_after : (s : Standing) (buckets : ℕ → List Link) (word : List ℕ) (links : List Link) → StayAfter s (buckets (bucket_of word)) links → (b : ℕ) → b < BUCKETS → StayAfter s (buckets b) (with_bucket buckets (bucket_of word) links b)
stay_after s buckets word links stay b h first thread within after = elim (eqb_cases (bucket_of word) b) [
  | inl same ↦ subst (λ t. AreAfter first (cond t links (buckets b))) (sym same.0) (stay first thread within (subst (λ c. AreAfter first (buckets c)) same.1 after))
  | inr other ↦ subst (λ t. AreAfter first (cond t links (buckets b))) (sym other.0) after
]
