-- The entries of a table's buckets, one bucket after the other, are those of its counts.
use Rattle.std.proofs.Common.{◌≡◌, ◌≢◌, ℕ, zero, suc, ◌+◌, ◌*◌, ◌%◌, ◌<◌, ◌≤◌, inl, inr, cond, true, false, List, [], ◌∷◌, ◌++◌, map, None, Some, All, AllPairs, refl, sym, ap, subst, ◌∙◌, arith}
use Rattle.std.specs.FinMap as finite
use Rattle.std.specs.FinMap.{find, slice_cmp-IsAntisymmetric, nat_cmp-IsAntisymmetric}
use Rattle.std.specs.Cmp.{Equal-is}
use Rattle.std.specs.List.{flat_map, fold, range_with_len}
use Rattle.std.specs.Ordering.{eq_by_cmp, is_eq}
use Rattle.std.proofs.lemmas.Bool.{cases_eq}
use Rattle.std.proofs.lemmas.Cmp.{nat_list_cmp_total, tied_itself}
use Rattle.std.proofs.lemmas.List.Elements.{All-nil, All-cons}
use Rattle.std.proofs.lemmas.List.Kept.{AllPairs-cons}
use Rattle.object_layout.specs.declared.names.Name.{Name}
use Rattle.yak_model.specs.declared.TheConstants.{BUCKETS, HASH_FACTOR}
use Rattle.yak_model.specs.Private.{KnownObjects}
use Rattle.yak_model.specs.Tables.{Link, LacksWord, HasCount, AreDifferent, AreInBucket, IsCountTable, bucket_of}
use Rattle.yak_model.specs.Texts.{WordCounts, word_cmp}
use Rattle.heap_tables.specs.Entries.{AreEntries, entry_of}

-- Two words that the test of equality takes for one are one.
pub same_by_test : (word other : List ℕ) → eq_by_cmp word_cmp word other ≡ true → word ≡ other
same_by_test word other tie = slice_cmp-IsAntisymmetric nat_cmp-IsAntisymmetric word other ((Equal-is (word_cmp word other)).0 tie)

-- the entries of so many buckets, from one on
abbrev pub walk_from : (ℕ → List Link) → ℕ → ℕ → List Link
walk_from buckets b n = flat_map buckets (range_with_len b n)

-- the entries of all buckets
abbrev pub walk_of : (ℕ → List Link) → List Link
walk_of buckets = walk_from buckets 0 BUCKETS

-- so many buckets, from one on, have the words that belong there, each once
record AreHomes (buckets : ℕ → List Link) (b n : ℕ) : Type 0 where
  homes : (k : ℕ) → b ≤ k → k < b + n → AreInBucket k (buckets k)
  distinct : (k : ℕ) → b ≤ k → k < b + n → AreDifferent (buckets k)

homes_later : (buckets : ℕ → List Link) (b n : ℕ) → AreHomes buckets b (suc n) → AreHomes buckets (b + 1) n
homes_later buckets b n are = record {
  homes = λ k le lt. are.homes k (omega arith) (omega arith);
  distinct = λ k le lt. are.distinct k (omega arith) (omega arith);
}

lacks-append : (word : List ℕ) (links others : List Link) → LacksWord word links → LacksWord word others → LacksWord word (links ++ others)
lacks-append word [] others lacks rest = rest
lacks-append word (link ∷ links) others (other, lacks) rest = (other, lacks-append word links others lacks rest)

counts-append_left : (word : List ℕ) (n : ℕ) (links others : List Link) → HasCount word links n → HasCount word (links ++ others) n
counts-append_left word n [] others has = absurd has
counts-append_left word n (link ∷ links) others (inl here) = inl here
counts-append_left word n (link ∷ links) others (inr (other, has)) = inr (other, counts-append_left word n links others has)

counts-append_right : (word : List ℕ) (n : ℕ) (links others : List Link) → LacksWord word links → HasCount word others n → HasCount word (links ++ others) n
counts-append_right word n [] others lacks has = has
counts-append_right word n (link ∷ links) others (other, lacks) has = inr (other, counts-append_right word n links others lacks has)

lacks_elsewhere : (b : ℕ) (links : List Link) → AreInBucket b links → (word : List ℕ) → (bucket_of word ≡ b → ⊥) → LacksWord word links
lacks_elsewhere b [] are word other = tt
lacks_elsewhere b (link ∷ links) (home, are) word other = (λ same. other (ap bucket_of (sym same) ∙ home), lacks_elsewhere b links are word other)

-- A word that stands not in its own bucket stands in none.
lacks_walk : (buckets : ℕ → List Link) (b n : ℕ) → AreHomes buckets b n → (word : List ℕ) → ((k : ℕ) → b ≤ k → k < b + n → bucket_of word ≡ k → LacksWord word (buckets k)) → LacksWord word (walk_from buckets b n)
lacks_walk buckets b zero are word own = tt
lacks_walk buckets b (suc n) are word own =
    lacks-append word (buckets b) (walk_from buckets (b + 1) n)
    (elim (cases_eq (bucket_of word) b) [
      | inl here ↦ own b (omega arith) (omega arith) here
      | inr other ↦ lacks_elsewhere b (buckets b) (are.homes b (omega arith) (omega arith)) word other
    ])
    (lacks_walk buckets (b + 1) n (homes_later buckets b n are) word (λ k le lt is. own k (omega arith) (omega arith) is))

different-append : (b : ℕ) (links others : List Link) → AreInBucket b links → AreDifferent links → AreDifferent others → ((word : List ℕ) → bucket_of word ≡ b → LacksWord word others) → AreDifferent (links ++ others)
different-append b [] others are different rest apart = rest
different-append b (link ∷ links) others (home, are) (lacks, different) rest apart =
    (lacks-append link.word links others lacks (apart link.word home), different-append b links others are different rest apart)

different_walk : (buckets : ℕ → List Link) (b n : ℕ) → AreHomes buckets b n → AreDifferent (walk_from buckets b n)
different_walk buckets b zero are = tt
different_walk buckets b (suc n) are =
    different-append b (buckets b) (walk_from buckets (b + 1) n) (are.homes b (omega arith) (omega arith)) (are.distinct b (omega arith) (omega arith)) (different_walk buckets (b + 1) n (homes_later buckets b n are))
    (λ word home. lacks_walk buckets (b + 1) n (homes_later buckets b n are) word (λ k le lt is. absurd (omega (arith, home, is))))

count_walk : (buckets : ℕ → List Link) (b n : ℕ) → AreHomes buckets b n → (word : List ℕ) (count : ℕ) → b ≤ bucket_of word → bucket_of word < b + n → HasCount word (buckets (bucket_of word)) count → HasCount word (walk_from buckets b n) count
count_walk buckets b zero are word count le lt has = absurd (omega arith)
count_walk buckets b (suc n) are word count le lt has = elim (cases_eq (bucket_of word) b) [
  | inl here ↦ counts-append_left word count (buckets b) (walk_from buckets (b + 1) n) (subst (λ k. HasCount word (buckets k) count) here has)
  | inr other ↦ counts-append_right word count (buckets b) (walk_from buckets (b + 1) n) (lacks_elsewhere b (buckets b) (are.homes b (omega arith) (omega arith)) word other)
      (count_walk buckets (b + 1) n (homes_later buckets b n are) word count (omega (arith, other)) (omega arith) has)
]

find_lacks : (word : List ℕ) (links : List Link) → LacksWord word links → find word_cmp word (map entry_of links) ≡ None
find_lacks word [] lacks = refl
find_lacks word (link ∷ links) (other, lacks) =
    elim (eq_by_cmp word_cmp word link.word) as (λ b. eq_by_cmp word_cmp word link.word ≡ b → cond b (Some link.count) (find word_cmp word (map entry_of links)) ≡ None) [
      | true ↦ λ tie. absurd (other (sym (same_by_test word link.word tie)))
      | false ↦ λ _. find_lacks word links lacks
    ] refl

find_count : (word : List ℕ) (n : ℕ) (links : List Link) → HasCount word links n → find word_cmp word (map entry_of links) ≡ Some n
find_count word n [] has = absurd has
find_count word n (link ∷ links) (inl (same, count)) =
    let tie : eq_by_cmp word_cmp word link.word ≡ true = ap (eq_by_cmp word_cmp word) same ∙ ap is_eq (tied_itself nat_list_cmp_total word) in
    ap (λ b. cond b (Some link.count) (find word_cmp word (map entry_of links))) tie ∙ ap Some count
find_count word n (link ∷ links) (inr (other, has)) =
    elim (eq_by_cmp word_cmp word link.word) as (λ b. eq_by_cmp word_cmp word link.word ≡ b → cond b (Some link.count) (find word_cmp word (map entry_of links)) ≡ Some n) [
      | true ↦ λ tie. absurd (other (sym (same_by_test word link.word tie)))
      | false ↦ λ _. find_count word n links has
    ] refl

all_lack : (word : List ℕ) (links : List Link) → LacksWord word links → All (λ entry. word ≢ entry.0) (map entry_of links)
all_lack word [] lacks = All-nil (λ entry. word ≢ entry.0)
all_lack word (link ∷ links) (other, lacks) = All-cons (λ entry. word ≢ entry.0) (entry_of link) (map entry_of links) (λ same. other (sym same)) (all_lack word links lacks)

apart_links : (links : List Link) → AreDifferent links → AllPairs (λ (one other : List ℕ × ℕ). one.0 ≢ other.0) (map entry_of links)
apart_links [] different = λ i j d below lt. absurd (omega arith)
apart_links (link ∷ links) (lacks, different) =
    AllPairs-cons (λ one other. one.0 ≢ other.0) (entry_of link) (map entry_of links) (all_lack link.word links lacks) (apart_links links different)

bucket_below : (word : List ℕ) → bucket_of word < BUCKETS
bucket_below word = from word 0 (omega arith)
  where
    from : (word : List ℕ) (h : ℕ) → h < BUCKETS → fold (λ h b. (HASH_FACTOR * h + b) % BUCKETS) h word < BUCKETS
    from [] h lt = lt
    from (byte ∷ word) h lt = from word ((HASH_FACTOR * h + byte) % BUCKETS) (omega arith)

-- The entries of a table's buckets are those of its counts.
pub table_entries : (known : KnownObjects) (name : Name) (counts : WordCounts) (is : IsCountTable known name counts) → AreEntries counts (map entry_of (walk_of is.buckets))
table_entries known name counts is =
    let buckets : ℕ → List Link = is.buckets in
    let are : AreHomes buckets 0 BUCKETS = record {
      homes = λ k le lt. (is.table).homes k (omega arith);
      distinct = λ k le lt. (is.table).distinct k (omega arith);
    } in
    record {
      once = apart_links (walk_of buckets) (different_walk buckets 0 BUCKETS are);
      found = λ word. elim (finite.get counts word) as (λ o. finite.get counts word ≡ o → find word_cmp word (map entry_of (walk_of buckets)) ≡ o) [
        | None ↦ λ none. find_lacks word (walk_of buckets) (lacks_walk buckets 0 BUCKETS are word (λ k le lt here. subst (λ b. LacksWord word (buckets b)) here (is.absent word none)))
        | Some n ↦ λ some. find_count word n (walk_of buckets) (count_walk buckets 0 BUCKETS are word n (omega arith) (bucket_below word) (is.counted word n some))
      ] refl;
    }
