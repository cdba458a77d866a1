-- Sums over tasks that are dealt out, and the counts of their words.
use Rattle.std.proofs.Common.{◌≡◌, ℕ, zero, suc, ◌+◌, ◌*◌, ◌<◌, ◌≤◌, ◌||◌, List, [], ◌∷◌, ◌++◌, Bool, true, false, true≢false, Option, Some, None, All, cond, flat_map, length, sum_by, refl, ap, sym, ◌∙◌, add-one, arith}
use Rattle.std.specs.List.{range_with_len, slice_get, cons_option}
use Rattle.std.specs.Ordering.{eq_by_cmp}
use Rattle.std.proofs.lemmas.Grind.{flat_map-append}
use Rattle.std.proofs.lemmas.List.{append-nil}
use Rattle.std.proofs.lemmas.Cmp.{eq_by_cmp_equiv, nat_list_cmp_total}
use Rattle.std.proofs.lemmas.List.Sums.{sum_by-append, sum_by-cons}
use Rattle.yak_model.specs.Room.{entry_words, key_words, table_words}
use Rattle.yak_model.specs.Texts.{places_of, word_cmp, word_counts, words_of}
use Rattle.task_feed.specs.Dealt.{IsAscending, IsDealt}
use Rattle.task_feed.proofs.Sums.{dealt_sum, row_sum_within}
use Rattle.group_jobs.specs.Counts.{has_word}
use Rattle.group_jobs.specs.Dealings.{dealt_words, tasks_at, words_at}
use Rattle.group_jobs.specs.Tallies.{busy_tasks, is_busy, tasks_room, words_in, words_room}
use Rattle.group_jobs.specs.Tasks.{AreTasks, task_bytes}
use Rattle.group_jobs.specs.declared.tasks.Task.{Task}
use Rattle.group_jobs.proofs.Counting.{get-word_counts, no_place, same_counts}
use Rattle.group_jobs.proofs.Tasking.{words_of_tasks}

-- what a task has, if there is one
abbrev told : (Task → ℕ) → Option Task → ℕ
told f None = 0
told f (Some task) = f task

row_sum : (f : Task → ℕ) (tasks : List Task) (row : List ℕ) → sum_by f (tasks_at tasks row) ≡ sum_by (λ (i : ℕ). told f (slice_get tasks i)) row
row_sum f tasks [] = refl
row_sum f tasks (i ∷ row) = by (slice_get tasks i) ∙ ap (λ (n : ℕ). told f (slice_get tasks i) + n) (row_sum f tasks row) ∙ sym (sum_by-cons (λ (k : ℕ). told f (slice_get tasks k)) i row)
  where
    by : (one : Option Task) → sum_by f (cons_option one (tasks_at tasks row)) ≡ told f one + sum_by f (tasks_at tasks row)
    by None = omega arith
    by (Some task) = sum_by-cons f task (tasks_at tasks row)

same_rows : (g h : List ℕ → ℕ) (rows : List (List ℕ)) → ((row : List ℕ) → g row ≡ h row) → sum_by g rows ≡ sum_by h rows
same_rows g h [] same = refl
same_rows g h (row ∷ rows) same = omega (arith, sum_by-cons g row rows, sum_by-cons h row rows, same row, same_rows g h rows same)

shifted : (h : ℕ → ℕ) (a n : ℕ) → sum_by h (range_with_len (a + 1) n) ≡ sum_by (λ (i : ℕ). h (i + 1)) (range_with_len a n)
shifted h a zero = refl
shifted h a (suc n) = omega (arith, sum_by-cons h (a + 1) (range_with_len ((a + 1) + 1) n), sum_by-cons (λ (i : ℕ). h (i + 1)) a (range_with_len (a + 1) n), shifted h (a + 1) n)

same_numbers : (g h : ℕ → ℕ) (numbers : List ℕ) → ((i : ℕ) → g i ≡ h i) → sum_by g numbers ≡ sum_by h numbers
same_numbers g h [] same = refl
same_numbers g h (i ∷ numbers) same = omega (arith, sum_by-cons g i numbers, sum_by-cons h i numbers, same i, same_numbers g h numbers same)

-- all tasks by their numbers
all_tasks : (f : Task → ℕ) (tasks : List Task) → sum_by (λ (i : ℕ). told f (slice_get tasks i)) (range_with_len 0 (length tasks)) ≡ sum_by f tasks
all_tasks f [] = refl
all_tasks f (task ∷ tasks) =
    let c = sum_by-cons (λ (i : ℕ). told f (slice_get (task ∷ tasks) i)) 0 (range_with_len 1 (length tasks)) in
    let s = shifted (λ (i : ℕ). told f (slice_get (task ∷ tasks) i)) 0 (length tasks) in
    let next = same_numbers (λ (i : ℕ). told f (slice_get (task ∷ tasks) (i + 1))) (λ (i : ℕ). told f (slice_get tasks i)) (range_with_len 0 (length tasks))
    (λ i. ap (λ (k : ℕ). told f (slice_get (task ∷ tasks) k)) (add-one i)) in
    omega (arith, c, s, next, all_tasks f tasks, sum_by-cons f task tasks)

-- What is added up over the tasks of all rows is what is added up over all tasks.
pub dealt_tasks : (f : Task → ℕ) (tasks : List Task) (rows : List (List ℕ)) → IsDealt (length tasks) rows [] → sum_by (λ (row : List ℕ). sum_by f (tasks_at tasks row)) rows ≡ sum_by f tasks
dealt_tasks f tasks rows dealt =
    let by_rows = same_rows (λ (row : List ℕ). sum_by f (tasks_at tasks row)) (sum_by (λ (i : ℕ). told f (slice_get tasks i))) rows (row_sum f tasks) in
    let all = dealt_sum (λ (i : ℕ). told f (slice_get tasks i)) (length tasks) rows [] dealt in
    omega (arith, by_rows, all, all_tasks f tasks)

pub sum_flat : {X A : Type 0} (g : A → ℕ) (f : X → List A) (xs : List X) → sum_by g (flat_map f xs) ≡ sum_by (λ (x : X). sum_by g (f x)) xs
sum_flat g f [] = refl
sum_flat {X} {A} g f (x ∷ xs) = omega (arith, sum_by-append g (f x) (flat_map f xs), sum_by-cons (λ (y : X). sum_by g (f y)) x xs, sum_flat g f xs)

-- What is added up over the words of all rows is what is added up over the words of the text.
pub dealt_words_sum : (g : List ℕ → ℕ) (bytes : List ℕ) (lines : ℕ) (tasks : List Task) (rows : List (List ℕ)) → AreTasks bytes lines tasks → IsDealt (length tasks) rows []
    → sum_by g (dealt_words bytes tasks rows) ≡ sum_by g (words_of bytes)
dealt_words_sum g bytes lines tasks rows are dealt =
    let f : Task → ℕ = λ (task : Task). sum_by g (words_of (task_bytes bytes task)) in
    sum_flat g (words_at bytes tasks) rows
    ∙ same_rows (λ (row : List ℕ). sum_by g (words_at bytes tasks row)) (λ (row : List ℕ). sum_by f (tasks_at tasks row)) rows
    (λ row. sum_flat g (λ (task : Task). words_of (task_bytes bytes task)) (tasks_at tasks row))
    ∙ dealt_tasks f tasks rows dealt
    ∙ sym (sum_flat g (λ (task : Task). words_of (task_bytes bytes task)) tasks)
    ∙ ap (sum_by g) (words_of_tasks bytes lines tasks are)

-- What is added up over the words of one ascending row is at most what is added up over the words of the text.
pub row_words_within : (g : List ℕ → ℕ) (bytes : List ℕ) (lines : ℕ) (tasks : List Task) (row : List ℕ) → AreTasks bytes lines tasks → IsAscending row → All (λ task. task < length tasks) row
    → sum_by g (words_at bytes tasks row) ≤ sum_by g (words_of bytes)
row_words_within g bytes lines tasks row are ascending below =
    let f : Task → ℕ = λ (task : Task). sum_by g (words_of (task_bytes bytes task)) in
    let here = sum_flat g (λ (task : Task). words_of (task_bytes bytes task)) (tasks_at tasks row) in
    let by_numbers = row_sum f tasks row in
    let within = row_sum_within (λ (i : ℕ). told f (slice_get tasks i)) (length tasks) row ascending below in
    let all = all_tasks f tasks in
    let text = sym (sum_flat g (λ (task : Task). words_of (task_bytes bytes task)) tasks) ∙ ap (sum_by g) (words_of_tasks bytes lines tasks are) in
    omega (arith, here, by_numbers, within, all, text)

-- ---- room

-- the room of rows: tables, and keys and entries
rows_room : (bytes : List ℕ) (tasks : List Task) (rows : List (List ℕ))
    → sum_by (λ (row : List ℕ). tasks_room bytes (tasks_at tasks row)) rows
    ≡ table_words * sum_by (λ (row : List ℕ). busy_tasks bytes (tasks_at tasks row)) rows + sum_by (λ (row : List ℕ). words_room (words_at bytes tasks row)) rows
rows_room bytes tasks [] = omega arith
rows_room bytes tasks (row ∷ rows) =
    omega (
      arith,
      sum_by-cons (λ (r : List ℕ). tasks_room bytes (tasks_at tasks r)) row rows,
      sum_by-cons (λ (r : List ℕ). busy_tasks bytes (tasks_at tasks r)) row rows,
      sum_by-cons (λ (r : List ℕ). words_room (words_at bytes tasks r)) row rows,
      rows_room bytes tasks rows,
    )

-- The tasks of all rows take as much room as the text: a table for each task that has a word, and what its words take.
pub dealt_room : (bytes : List ℕ) (lines : ℕ) (tasks : List Task) (rows : List (List ℕ)) → AreTasks bytes lines tasks → IsDealt (length tasks) rows []
    → sum_by (λ (row : List ℕ). tasks_room bytes (tasks_at tasks row)) rows ≡ table_words * busy_tasks bytes tasks + words_room (words_of bytes)
dealt_room bytes lines tasks rows are dealt =
    let busy = dealt_tasks (λ (task : Task). cond (is_busy (words_of (task_bytes bytes task))) 1 0) tasks rows dealt in
    let words = sym (sum_flat (λ (word : List ℕ). key_words word + 2 * entry_words) (words_at bytes tasks) rows)
    ∙ dealt_words_sum (λ (word : List ℕ). key_words word + 2 * entry_words) bytes lines tasks rows are dealt in
    omega (arith, rows_room bytes tasks rows, busy, words)

-- What is added up over the tasks of all rows is at most what is added up over all tasks, where some are left.
dealt_tasks_within : (f : Task → ℕ) (tasks : List Task) (rows : List (List ℕ)) (left : List ℕ) → IsDealt (length tasks) rows left → sum_by (λ (row : List ℕ). sum_by f (tasks_at tasks row)) rows ≤ sum_by f tasks
dealt_tasks_within f tasks rows left dealt =
    let by_rows = same_rows (λ (row : List ℕ). sum_by f (tasks_at tasks row)) (sum_by (λ (i : ℕ). told f (slice_get tasks i))) rows (row_sum f tasks) in
    let all = dealt_sum (λ (i : ℕ). told f (slice_get tasks i)) (length tasks) rows left dealt in
    omega (arith, by_rows, all, all_tasks f tasks)

-- The tasks of all rows take at most as much room as the text, where some are left.
pub dealt_room_within : (bytes : List ℕ) (lines : ℕ) (tasks : List Task) (rows : List (List ℕ)) (left : List ℕ) → AreTasks bytes lines tasks → IsDealt (length tasks) rows left
    → sum_by (λ (row : List ℕ). tasks_room bytes (tasks_at tasks row)) rows ≤ table_words * busy_tasks bytes tasks + words_room (words_of bytes)
dealt_room_within bytes lines tasks rows left are dealt =
    let g : List ℕ → ℕ = λ (word : List ℕ). key_words word + 2 * entry_words in
    let f : Task → ℕ = λ (task : Task). sum_by g (words_of (task_bytes bytes task)) in
    let busy = dealt_tasks_within (λ (task : Task). cond (is_busy (words_of (task_bytes bytes task))) 1 0) tasks rows left dealt in
    let words = dealt_tasks_within f tasks rows left dealt in
    let by_rows = same_rows (λ (row : List ℕ). words_room (words_at bytes tasks row)) (λ (row : List ℕ). sum_by f (tasks_at tasks row)) rows
    (λ row. sum_flat g (λ (task : Task). words_of (task_bytes bytes task)) (tasks_at tasks row)) in
    let text = sym (sum_flat g (λ (task : Task). words_of (task_bytes bytes task)) tasks) ∙ ap (sum_by g) (words_of_tasks bytes lines tasks are) in
    omega (arith, rows_room bytes tasks rows, busy, words, by_rows, text)

-- ---- rows that grow

words_cat : (bytes : List ℕ) (xs ys : List Task) → words_in bytes (xs ++ ys) ≡ words_in bytes xs ++ words_in bytes ys
words_cat bytes xs ys = flat_map-append (λ (task : Task). words_of (task_bytes bytes task)) xs ys

pub tasks_cat : (tasks : List Task) (row more : List ℕ) → tasks_at tasks (row ++ more) ≡ tasks_at tasks row ++ tasks_at tasks more
tasks_cat tasks [] more = refl
tasks_cat tasks (i ∷ row) more = by (slice_get tasks i) (tasks_cat tasks row more)
  where
    by : (one : Option Task) → tasks_at tasks (row ++ more) ≡ tasks_at tasks row ++ tasks_at tasks more
        → cons_option one (tasks_at tasks (row ++ more)) ≡ cons_option one (tasks_at tasks row) ++ tasks_at tasks more
    by None rest = rest
    by (Some task) rest = ap (λ (l : List Task). task ∷ l) rest

-- A row with a task more has its words behind those of the row.
pub words_at_more : (bytes : List ℕ) (tasks : List Task) (row : List ℕ) (i : ℕ) (task : Task) → slice_get tasks i ≡ Some task
    → words_at bytes tasks (row ++ i ∷ []) ≡ words_at bytes tasks row ++ words_of (task_bytes bytes task)
words_at_more bytes tasks row i task is =
    ap (words_in bytes) (tasks_cat tasks row (i ∷ []) ∙ ap (λ (one : Option Task). tasks_at tasks row ++ cons_option one []) is)
    ∙ words_cat bytes (tasks_at tasks row) (task ∷ [])
    ∙ ap (λ (l : List (List ℕ)). words_at bytes tasks row ++ l) (append-nil (words_of (task_bytes bytes task)))

-- ---- counts

turned : (word other : List ℕ) → eq_by_cmp word_cmp word other ≡ eq_by_cmp word_cmp other word
turned = (eq_by_cmp_equiv nat_list_cmp_total).symm

-- a word that stands in a list has a place there
pub some_place : (words : List (List ℕ)) (word : List ℕ) → has_word words word ≡ true → 0 < places_of words word
some_place [] word has = absurd (true≢false (sym has))
some_place (first ∷ words) word has =
    elim (eq_by_cmp word_cmp word first) as (λ b. eq_by_cmp word_cmp word first ≡ b → (b || has_word words word) ≡ true → 0 < places_of (first ∷ words) word) [
      | true ↦ λ tie is.
          let c = sum_by-cons (λ (other : List ℕ). cond (eq_by_cmp word_cmp other word) 1 0) first words in
          let t = ap (λ (b : Bool). cond {A = ℕ} b 1 0) (turned first word ∙ tie) in
          omega (arith, c, t)
      | false ↦ λ other rest.
          let c = sum_by-cons (λ (next : List ℕ). cond (eq_by_cmp word_cmp next word) 1 0) first words in
          let r = some_place words word rest in
          omega (arith, c, r)
    ] refl has

same_has : (words others : List (List ℕ)) (word : List ℕ) → places_of words word ≡ places_of others word → has_word words word ≡ has_word others word
same_has words others word same =
    elim (has_word words word) as (λ a. has_word words word ≡ a → a ≡ has_word others word) [
      | true ↦ λ is. elim (has_word others word) as (λ b. has_word others word ≡ b → true ≡ b) [
        | true ↦ λ _. refl
        | false ↦ λ none. let some_one = some_place words word is in let no_one = no_place others word none in absurd (omega (arith, some_one, no_one, same))
      ] refl
      | false ↦ λ none. elim (has_word others word) as (λ b. has_word others word ≡ b → false ≡ b) [
        | true ↦ λ is. let some_one = some_place others word is in let no_one = no_place words word none in absurd (omega (arith, some_one, no_one, same))
        | false ↦ λ _. refl
      ] refl
    ] refl

-- Lists with the same places of each word have the same counts.
pub same_places : (words others : List (List ℕ)) → ((word : List ℕ) → places_of words word ≡ places_of others word) → word_counts words ≡ word_counts others
same_places words others same =
    same_counts (word_counts words) others (λ word. get-word_counts words word ∙ (λ i. cond (same_has words others word (same word) i) (Some (same word i)) None))

pub dealt_counts : (bytes : List ℕ) (lines : ℕ) (tasks : List Task) (rows : List (List ℕ)) → AreTasks bytes lines tasks → IsDealt (length tasks) rows []
    → word_counts (dealt_words bytes tasks rows) ≡ word_counts (words_of bytes)
dealt_counts bytes lines tasks rows are dealt =
    same_places (dealt_words bytes tasks rows) (words_of bytes) (λ word. dealt_words_sum (λ (other : List ℕ). cond (eq_by_cmp word_cmp other word) 1 0) bytes lines tasks rows are dealt)
