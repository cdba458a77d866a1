-- A bucket of a table of sums has no more entries than there are lines.
use Rattle.std.proofs.Common.{◌≡◌, ◌≢◌, inl, inr, ℕ, ◌+◌, ◌<◌, ◌≤◌, ◌||◌, Bool, true, false, cond, List, [], ◌∷◌, All, Some, None, length, map, refl, ◌∙◌, ap, sym, subst, true≢false, arith}
use Rattle.std.proofs.lemmas.List.{length-map}
use Rattle.std.specs.List.{list_any}
use Rattle.std.specs.Ordering.{eq_by_cmp}
use Rattle.std.proofs.lemmas.List.Elements.{All-nil, All-cons, All-head, All-tail}
use Rattle.object_layout.specs.declared.names.Name.{Name}
use Rattle.yak_model.specs.declared.TheConstants.{BUCKETS}
use Rattle.yak_model.specs.Private.{KnownObjects}
use Rattle.yak_model.specs.Standing.{Standing}
use Rattle.yak_model.specs.Tables.{AreDifferent, AreInBucket, IsCountTable, LacksWord, Link}
use Rattle.yak_model.specs.Texts.{WordCounts, word_cmp}
use Rattle.heap_tables.specs.Cursors.{MayWalk}
use Rattle.heap_tables.proofs.Places.{word_cases}
use Rattle.sums_by_key.specs.declared.TheConstants.{MOST_LINES, TABLE_SLOT}
use Rattle.sums_by_key.specs.Held.{Holds}
use Rattle.sums_by_key.specs.declared.lines.Line.{Line}
use Rattle.sums_by_key.specs.Sums.{AreSums, is_of, sum_of}
use Rattle.sums_by_key.proofs.Adding.{same_key}

-- ---- no more links than words

abbrev has_word : List (List ℕ) → List ℕ → Bool
has_word words word = list_any (eq_by_cmp word_cmp word) words

abbrev AreOf : List (List ℕ) → List Link → Type 0
AreOf words links = All (λ l. has_word words l.word ≡ true) links

among_rest : (first word : List ℕ) (words : List (List ℕ)) → has_word (first ∷ words) word ≡ true → word ≢ first → has_word words word ≡ true
among_rest first word words is ne = elim (eq_by_cmp word_cmp word first) as (λ b. eq_by_cmp word_cmp word first ≡ b → (b || has_word words word) ≡ true → has_word words word ≡ true) [
  | true ↦ λ tie _. absurd (ne (same_key word first tie))
  | false ↦ λ _ rest. rest
] refl is

-- the links without the one of a word
record Removed (word : List ℕ) (links : List Link) : Type 0 where
  rest : List Link
  size : length links ≤ 1 + length rest
  different : AreDifferent rest
  lacks : (v : List ℕ) → LacksWord v links → LacksWord v rest
  all : (words : List (List ℕ)) → AreOf (word ∷ words) links → AreOf words rest

all_lacking : (word : List ℕ) (links : List Link) (words : List (List ℕ)) → LacksWord word links → AreOf (word ∷ words) links → AreOf words links
all_lacking word [] words lacks all = All-nil (λ l. has_word words l.word ≡ true)
all_lacking word (l ∷ links) words lacks all =
    let P = λ (k : Link). has_word (word ∷ words) k.word ≡ true in
    All-cons (λ k. has_word words k.word ≡ true) l links (among_rest word l.word words (All-head P l links all) lacks.0) (all_lacking word links words lacks.1 (All-tail P l links all))

remove : (word : List ℕ) (links : List Link) → AreDifferent links → Removed word links
remove word [] d = record { rest = []; size = omega arith; different = tt; lacks = λ v h. h; all = λ words all. All-nil (λ l. has_word words l.word ≡ true) }
remove word (l ∷ links) d = elim (word_cases l.word word) [
  | inl same ↦ record {
    rest = links;
    size = omega arith;
    different = d.1;
    lacks = λ v h. h.1;
    all = λ words all. all_lacking word links words (subst (λ w. LacksWord w links) same d.0) (All-tail (λ k. has_word (word ∷ words) k.word ≡ true) l links all);
  }
  | inr ne ↦
      let r : Removed word links = remove word links d.1 in
      record {
        rest = l ∷ r.rest;
        size = omega (arith, r.size);
        different = (r.lacks l.word d.0, r.different);
        lacks = λ v h. (h.0, r.lacks v h.1);
        all = λ words all. All-cons (λ k. has_word words k.word ≡ true) l r.rest
            (among_rest word l.word words (All-head (λ k. has_word (word ∷ words) k.word ≡ true) l links all) ne)
            (r.all words (All-tail (λ k. has_word (word ∷ words) k.word ≡ true) l links all));
      }
]

few_links : (words : List (List ℕ)) (links : List Link) → AreDifferent links → AreOf words links → length links ≤ length words
few_links [] [] d all = omega arith
few_links [] (l ∷ links) d all = absurd (true≢false (sym (All-head (λ k. has_word [] k.word ≡ true) l links all)))
few_links (first ∷ words) links d all =
    let r : Removed first links = remove first links d in
    let rest = few_links words r.rest r.different (r.all words all) in
    omega (arith, r.size, rest)

-- ---- the links of a table of sums

keys_of : List Line → List (List ℕ)
keys_of lines = map (λ line. line.key.now) lines

has_key : (lines : List Line) (key : List ℕ) → has_word (keys_of lines) key ≡ list_any (is_of key) lines
unfolding keys_of
has_key [] key = refl
has_key (line ∷ lines) key = ap (λ b. is_of key line || b) (has_key lines key)

are_of : (lines : List Line) (sums : WordCounts) (are : AreSums lines sums) (known : KnownObjects) (name : Name) (table : IsCountTable known name sums) (b : ℕ) (links : List Link) → AreInBucket b links → ((v : List ℕ) → LacksWord v (table.buckets b) → LacksWord v links) → AreOf (keys_of lines) links
are_of lines sums are known name table b [] homes lacks = All-nil (λ l. has_word (keys_of lines) l.word ≡ true)
are_of lines sums are known name table b (l ∷ links) homes lacks =
    All-cons (λ k. has_word (keys_of lines) k.word ≡ true) l links
    (elim (has_word (keys_of lines) l.word) as (λ t. has_word (keys_of lines) l.word ≡ t → t ≡ true) [
      | true ↦ λ _. refl
      | false ↦ λ none.
          let absent = are l.word ∙ ap (λ t. cond t (Some (sum_of lines l.word)) None) (sym (has_key lines l.word) ∙ none) in
          absurd ((lacks l.word (subst (λ c. LacksWord l.word (table.buckets c)) homes.0 (table.absent l.word absent))).0 refl)
    ] refl)
    (are_of lines sums are known name table b links homes.1 (λ v h. (lacks v h).1))

pub few_in_bucket : (lines : List Line) (sums : WordCounts) (are : AreSums lines sums) (known : KnownObjects) (name : Name) (table : IsCountTable known name sums) (b : ℕ) → b < BUCKETS → length (table.buckets b) ≤ length lines
unfolding keys_of
few_in_bucket lines sums are known name table b bound =
    let few = few_links (keys_of lines) (table.buckets b) ((table.table).distinct b bound) (are_of lines sums are known name table b (table.buckets b) ((table.table).homes b bound) (λ v h. h)) in
    let size : length (map (λ (line : Line). line.key.now) lines) ≡ length lines = length-map lines (λ (line : Line). line.key.now) in
    omega (arith, few, size)

-- The table of the sums can be walked through.
pub held_walk : (s : Standing) (known : KnownObjects) (lines : List Line) (t : Holds s known lines) → length lines ≤ MOST_LINES → MayWalk s known TABLE_SLOT t.name t.sums
held_walk s known lines t few = record {
  slot = t.slot;
  is_table = t.table;
  few = λ b h. let n = few_in_bucket lines t.sums t.are_sums known t.name t.table b h in omega (arith, n, few);
}
