-- The counts of all workers, one worker after the other.
use Rattle.std.proofs.Common.{◌≡◌, ◌≢◌, inl, inr, ℕ, zero, suc, ◌+◌, ◌<◌, ◌≤◌, ◌||◌, Bool, true, false, true≢false, cond, List, [], ◌∷◌, ◌++◌, IsPermutation, All, map, length, get_or, set, refl, sym, ap, ◌∙◌, subst, arith, None, Some, add-zero, zero-add, get_or-set_same}
use Rattle.std.specs.List.{range_with_len}
use Rattle.std.specs.FinMap as finite
use Rattle.std.specs.FinMap.{find}
use Rattle.std.specs.Ordering.{eq_by_cmp}
use Rattle.std.proofs.lemmas.List.{append-nil, get_or-set_other, length-set}
use Rattle.std.proofs.lemmas.List.Folds.{list_any-append}
use Rattle.std.proofs.lemmas.List.FromFn.{map-range_with_len_more}
use Rattle.std.proofs.lemmas.Bool.Decides.{eqb_tells}
use Rattle.std.proofs.lemmas.Grind.{flat_map-append}
use Rattle.std.proofs.lemmas.List.Elements.{All-head, All-tail}
use Rattle.std.proofs.lemmas.List.Sorted.{list_any-IsPermutation, sum_by-IsPermutation}
use Rattle.std.proofs.lemmas.List.Sums.{sum_by-append, sum_by-cons}
use Rattle.yak_model.specs.Texts.{counts_of, places_of, word_cmp, word_counts, words_of}
use Rattle.safepoint_gate.specs.declared.gate.Gate.{Gate}
use Rattle.task_feed.specs.Dealt.{IsAscending, IsDealt}
use Rattle.task_feed.proofs.Sums.{dealt_within}
use Rattle.group_jobs.specs.Counts.{AreParts, has_count, sum_for}
use Rattle.heap_tables.specs.Entries.{AreEntries}
use Rattle.group_jobs.specs.Dealings.{dealt_words, tasks_at, words_at}
use Rattle.group_jobs.specs.Workers.{AllCountedBy, AreSmall, HasCounted, HaveCounted, NoneRefused}
use Rattle.group_jobs.specs.declared.shares.Worker.{Worker}
use Rattle.group_jobs.specs.declared.tasks.Task.{Task}
use Rattle.group_jobs.specs.declared.TheConstants.{MOST_WORDS}
use Rattle.group_jobs.proofs.Counting.{get-word_counts, joined_count, joined_told}
use Rattle.group_jobs.proofs.Dealing.{dealt_counts, dealt_words_sum}
use Rattle.group_jobs.proofs.ShareRows.{size_is, small_row}
use Rattle.group_jobs.proofs.Summing.{Lacks, Once, Pair, lacks_from, none_sum, once_tail, tied, told_for}
use Rattle.group_jobs.proofs.Tallying.{few_places}

-- ---- the words of the first workers

abbrev pub words_to : List ℕ → List Task → (ℕ → List ℕ) → ℕ → List (List ℕ)
words_to bytes tasks row k = dealt_words bytes tasks (map row (range_with_len 0 k))

pub words_more : (bytes : List ℕ) (tasks : List Task) (row : ℕ → List ℕ) (k : ℕ) → words_to bytes tasks row (k + 1) ≡ words_to bytes tasks row k ++ words_at bytes tasks (row k)
words_more bytes tasks row k =
    ap (dealt_words bytes tasks) (map-range_with_len_more row 0 k k (omega arith))
    ∙ flat_map-append (words_at bytes tasks) (map row (range_with_len 0 k)) (row k ∷ [])
    ∙ ap (λ l. words_to bytes tasks row k ++ l) (append-nil (words_at bytes tasks (row k)))

-- ---- counts of lists, one behind the other

lacks_sum : (word : List ℕ) (list : List Pair) → Lacks word list → has_count list word ≡ false
lacks_sum word [] lacks = refl
lacks_sum word (e ∷ list) lacks = elim (eq_by_cmp word_cmp word e.0) as (λ b. eq_by_cmp word_cmp word e.0 ≡ b → (b || has_count list word) ≡ false) [
  | true ↦ λ tie. absurd (lacks.0 (sym (tied word e.0 tie)))
  | false ↦ λ _. lacks_sum word list lacks.1
] refl

-- where each word stands once, its sum is its count
pub once_told : (list : List Pair) (word : List ℕ) → Once list → find word_cmp word list ≡ told_for list word
once_told [] word once = refl
once_told (e ∷ list) word once = elim (eq_by_cmp word_cmp word e.0) as (λ b. eq_by_cmp word_cmp word e.0 ≡ b → cond b (Some e.1) (find word_cmp word list) ≡ cond (b || has_count list word) (Some (sum_for (e ∷ list) word)) None) [
  | true ↦ λ tie.
      let lacks = subst (λ w. Lacks w list) (sym (tied word e.0 tie)) (lacks_from e list once) in
      let rest = none_sum list word (lacks_sum word list lacks) in
      let sum = sum_by-cons (λ (x : Pair). cond (eq_by_cmp word_cmp word x.0) x.1 0) e list in
      let here = ap (λ (b : Bool). cond {A = ℕ} b e.1 0) tie in
      let same : e.1 ≡ sum_for (e ∷ list) word = omega (arith, rest, sum, here) in
      ap Some same
  | false ↦ λ other.
      let sum = sum_by-cons (λ (x : Pair). cond (eq_by_cmp word_cmp word x.0) x.1 0) e list in
      let here = ap (λ (b : Bool). cond {A = ℕ} b e.1 0) other in
      let same : sum_for list word ≡ sum_for (e ∷ list) word = omega (arith, sum, here) in
      once_told list word (once_tail e list once) ∙ ap (λ n. cond (has_count list word) (Some n) None) same
] refl

told_join : (list more : List Pair) (word : List ℕ) → joined_count (told_for list word) (told_for more word) ≡ told_for (list ++ more) word
told_join list more word = by_cases ∙ sym (λ i. cond (list_any-append (λ (e : Pair). eq_by_cmp word_cmp word e.0) list more i) (Some (sum_by-append (λ (e : Pair). cond (eq_by_cmp word_cmp word e.0) e.1 0) list more i)) None)
  where
    by_cases : joined_count (told_for list word) (told_for more word) ≡ cond (has_count list word || has_count more word) (Some (sum_for list word + sum_for more word)) None
    by_cases = elim (has_count list word) as (λ a. has_count list word ≡ a → joined_count (cond a (Some (sum_for list word)) None) (told_for more word) ≡ cond (a || has_count more word) (Some (sum_for list word + sum_for more word)) None) [
      | true ↦ λ _. elim (has_count more word) as (λ b. has_count more word ≡ b → joined_count (Some (sum_for list word)) (cond b (Some (sum_for more word)) None) ≡ Some (sum_for list word + sum_for more word)) [
        | true ↦ λ _. refl
        | false ↦ λ none. ap Some (sym (add-zero (sum_for list word)) ∙ ap (λ k. sum_for list word + k) (sym (none_sum more word none)))
      ] refl
      | false ↦ λ none. ap (λ k. cond (has_count more word) (Some k) None) (sym (zero-add (sum_for more word)) ∙ ap (λ k. k + sum_for more word) (sym (none_sum list word none)))
    ] refl

pub no_parts : AreParts (word_counts []) []
no_parts word = get-word_counts [] word

-- The counts of a worker behind those of others.
pub parts_more : (words others : List (List ℕ)) (list more : List Pair) → AreParts (word_counts words) list → AreEntries (word_counts others) more → AreParts (word_counts (words ++ others)) (list ++ more)
parts_more words others list more parts entries word =
    get-word_counts (words ++ others) word
    ∙ sym (joined_told words others word)
    ∙ (λ i. joined_count ((sym (get-word_counts words word) ∙ parts word) i) ((sym (get-word_counts others word) ∙ sym (entries.found word) ∙ once_told more word entries.once) i))
    ∙ told_join list more word

pub parts_moved : (words : List (List ℕ)) (list after : List Pair) → IsPermutation list after → AreParts (word_counts words) list → AreParts (word_counts words) after
parts_moved words list after moved parts word =
    parts word
    ∙ (λ i. cond (list_any-IsPermutation (λ (e : Pair). eq_by_cmp word_cmp word e.0) list after moved i) (Some (sym (sum_by-IsPermutation (λ (e : Pair). cond (eq_by_cmp word_cmp word e.0) e.1 0) list after moved) i)) None)

-- A sum is no more than the words are.
pub parts_few : (words : List (List ℕ)) (list : List Pair) (word : List ℕ) → AreParts (word_counts words) list → sum_for list word ≤ length words
parts_few words list word parts = elim (has_count list word) as (λ b. has_count list word ≡ b → sum_for list word ≤ length words) [
  | true ↦ λ has. some has
  | false ↦ λ none. let z = none_sum list word none in omega arith
] refl
  where
    is_sum : (b c : Bool) (n m : ℕ) → b ≡ true → cond c (Some n) None ≡ cond b (Some m) None → m ≤ n
    is_sum true true n m e is = let same : n ≡ m = cc in omega arith
    is_sum true false n m e is = cc
    is_sum false c n m e is = absurd (true≢false (sym e))

    some : has_count list word ≡ true → sum_for list word ≤ length words
    some has = let le = is_sum (has_count list word) _ (places_of words word) (sum_for list word) has (sym (get-word_counts words word) ∙ parts word) in let few = few_places words word in omega arith

-- ---- rows by the numbers of workers

-- what holds of all rows holds of each
pub have_at : (P : List ℕ → Type 0) (row : ℕ → List ℕ) (n k : ℕ) → k < n → All P (map row (range_with_len 0 n)) → P (row k)
have_at P row n k lt all = subst (λ z. P (row z)) (zero-add k) (from 0 n k lt all)
  where
    from : (start size j : ℕ) → j < size → All P (map row (range_with_len start size)) → P (row (start + j))
    from start zero j less each = absurd (omega (arith, less))
    from start (suc size) zero less each = subst (λ z. P (row z)) (sym (add-zero start)) (All-head P (row start) (map row (range_with_len (start + 1) size)) each)
    from start (suc size) (suc j) less each =
        let next : (start + 1) + j ≡ start + suc j = omega arith in
        subst (λ z. P (row z)) next (from (start + 1) size j (omega (arith, less)) (All-tail P (row start) (map row (range_with_len (start + 1) size)) each))

-- ---- all workers

module _ (gate : Gate) (bytes : List ℕ) (tasks : List Task) (row : ℕ → List ℕ) (left : List ℕ) (workers : List Worker) (have : HaveCounted gate bytes tasks row left workers) where
  -- where no worker found the heap without room, all tasks are dealt out
  pub all_dealt : NoneRefused workers → IsDealt (length tasks) (map row (range_with_len 0 (length workers))) []
  all_dealt none = subst (IsDealt (length tasks) (map row (range_with_len 0 (length workers)))) (have.whole none) have.dealt

  pub whole_counts : NoneRefused workers → counts_of (words_to bytes tasks row (length workers)) ≡ counts_of (words_of bytes)
  whole_counts none = ap finite.entries (dealt_counts bytes have.may.lines tasks (map row (range_with_len 0 (length workers))) have.may.cut (all_dealt none))

  pub whole_few : NoneRefused workers → length (words_to bytes tasks row (length workers)) ≤ MOST_WORDS
  whole_few none =
      let sums = dealt_words_sum (λ (word : List ℕ). 1) bytes have.may.lines tasks (map row (range_with_len 0 (length workers))) have.may.cut (all_dealt none) in
      let one = size_is (words_to bytes tasks row (length workers)) in
      let all = size_is (words_of bytes) in
      let few = have.may.small.1 in
      omega arith

  -- the words of each row are few and short
  pub each_small : (k : ℕ) → k < length workers → AreSmall (words_at bytes tasks (row k))
  each_small k lt = small_row bytes have.may.lines tasks (row k) have.may.cut (have_at (λ (r : List ℕ). IsAscending r) row (length workers) k lt have.dealt.ascending)
      (have_at (λ (r : List ℕ). All (λ task. task < length tasks) r) row (length workers) k lt (dealt_within (length tasks) (map row (range_with_len 0 (length workers))) left have.dealt)) have.may.small

-- ---- a worker reads

module _ (gate : Gate) (workers : List Worker) (k : ℕ) (w : Worker) (lt : k < length workers) where
  other_at : (j : ℕ) (d : Worker) → j ≢ k → get_or (set workers k w) j d ≡ get_or workers j d
  other_at j d apart = get_or-set_other workers k j w d apart

  all_counted : (bytes : List ℕ) (tasks : List Task) (row : ℕ → List ℕ) → AllCountedBy gate bytes tasks row workers → HasCounted gate (k + 1) bytes (tasks_at tasks (row k)) w → AllCountedBy gate bytes tasks row (set workers k w)
  all_counted bytes tasks row all here j d below = elim (eqb_tells j k) [
    | inl same ↦ subst (λ (x : ℕ × Worker). HasCounted gate (x.0 + 1) bytes (tasks_at tasks (row x.0)) x.1) (λ i. (sym same.1 i, sym (ap (λ z. get_or (set workers k w) z d) same.1 ∙ get_or-set_same workers k w d lt) i)) here
    | inr apart ↦ subst (HasCounted gate (j + 1) bytes (tasks_at tasks (row j))) (sym (other_at j d apart.1)) (all j d (let l = length-set workers k w in omega arith))
  ]

  pub none_refused : NoneRefused workers → w.refused ≡ None → NoneRefused (set workers k w)
  none_refused all here j d below = elim (eqb_tells j k) [
    | inl same ↦ ap (λ (x : Worker). x.refused) (ap (λ z. get_or (set workers k w) z d) same.1 ∙ get_or-set_same workers k w d lt) ∙ here
    | inr apart ↦ ap (λ (x : Worker). x.refused) (other_at j d apart.1) ∙ all j d (let l = length-set workers k w in omega arith)
  ]

  -- the worker's own number
  own_number : (t : ℕ) (bytes : List ℕ) (tasks : List Task) (one : Worker) → HasCounted gate t bytes tasks one → HasCounted gate one.thread bytes tasks one
  own_number t bytes tasks one had = subst (λ u. HasCounted gate u bytes tasks one) (sym had.thread) had

  module _ (bytes : List ℕ) (tasks : List Task) (row : ℕ → List ℕ) (left : List ℕ) (have : HaveCounted gate bytes tasks row left workers) (none : NoneRefused workers) (d : Worker) where
    pub may_read : HasCounted gate (get_or workers k d).thread bytes (tasks_at tasks (row k)) (get_or workers k d)
    may_read = own_number (k + 1) bytes (tasks_at tasks (row k)) (get_or workers k d) (have.counted k d lt)

    pub read_small : AreSmall (words_at bytes tasks (row k))
    read_small = each_small gate bytes tasks row left workers have k lt

    pub read_all : (HasCounted gate (get_or workers k d).thread bytes (tasks_at tasks (row k)) (get_or workers k d) → AreSmall (words_at bytes tasks (row k)) → HasCounted gate (get_or workers k d).thread bytes (tasks_at tasks (row k)) w)
        → HaveCounted gate bytes tasks row left (set workers k w)
    read_all keeps = record {
      counted = all_counted bytes tasks row have.counted (subst (λ u. HasCounted gate u bytes (tasks_at tasks (row k)) w) (have.counted k d lt).thread (keeps may_read read_small));
      may = have.may;
      dealt = subst (λ n. IsDealt (length tasks) (map row (range_with_len 0 n)) left) (sym (length-set workers k w)) have.dealt;
      whole = λ _. have.whole none;
    }

    pub read_parts : (list more after : List Pair) → AreParts (word_counts (words_to bytes tasks row k)) list → after ≡ list ++ more
        → (HasCounted gate (get_or workers k d).thread bytes (tasks_at tasks (row k)) (get_or workers k d) → AreSmall (words_at bytes tasks (row k)) → AreEntries (word_counts (words_at bytes tasks (row k))) more)
        → AreParts (word_counts (words_to bytes tasks row (k + 1))) after
    read_parts list more after parts is told =
        subst (λ (x : List (List ℕ) × List Pair). AreParts (word_counts x.0) x.1) (λ i. (sym (words_more bytes tasks row k) i, sym is i))
        (parts_more (words_to bytes tasks row k) (words_at bytes tasks (row k)) list more parts (told may_read read_small))
