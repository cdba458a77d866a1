-- The tasks of a row, one after the other, and their words.
use Rattle.std.proofs.Common.{zero, suc, ◌≡◌, ◌≢◌, inl, inr, ℕ, ◌+◌, ◌-◌, ◌%◌, ◌==◌, ◌<◌, ◌≤◌, Bool, true, false, true≢false, is_some, cond, List, [], ◌∷◌, ◌++◌, append_assoc, add-zero, All, length, get_or, sum_by, refl, sym, ap, ◌∙◌, subst, arith, Option, None, Some, length-append}
use Rattle.std.specs.List.{cons_option, slice_get}
use Rattle.std.proofs.lemmas.Bool.Decides.{eqb_tells}
use Rattle.std.proofs.lemmas.List.{append-nil}
use Rattle.std.proofs.lemmas.List.Elements.{All-append, All-head, All-nil}
use Rattle.std.proofs.lemmas.List.Sums.{sum_by-cons}
use Rattle.object_layout.specs.declared.TheConstants.{WORD_LIMIT}
use Rattle.object_layout.specs.declared.replies.Census.{Census}
use Rattle.yak_model.specs.Texts.{words_of}
use Rattle.safepoint_gate.specs.declared.gate.Gate.{Gate}
use Rattle.task_feed.specs.Dealt.{IsAscending}
use Rattle.task_feed.specs.Shares.{share_of}
use Rattle.task_feed.proofs.Rows.{row_fits}
use Rattle.task_feed.proofs.Shares.{share_more, shares_dealt}
use Rattle.group_jobs.specs.Dealings.{tasks_at, words_at}
use Rattle.group_jobs.specs.Tallies.{AreShort, words_in}
use Rattle.group_jobs.specs.Tasks.{AreTasks, AreTasksFrom, task_bytes}
use Rattle.group_jobs.specs.Workers.{AllCounted, AreSmall, HasCounted, HaveCounted, MayDeal, MayShare}
use Rattle.group_jobs.specs.declared.shares.Worker.{Worker}
use Rattle.group_jobs.specs.declared.tasks.Task.{Task}
use Rattle.group_jobs.proofs.Dealing.{row_words_within, tasks_cat}
use Rattle.group_jobs.proofs.Rooms.{all_left, all_right}
use Rattle.group_jobs.proofs.Sharing.{skipped}
use Rattle.group_jobs.proofs.Tasking.{words_of_tasks}

-- ---- tasks

pub get_at : (tasks : List Task) (i : ℕ) (d : Task) → i < length tasks → slice_get tasks i ≡ Some (get_or tasks i d)
get_at [] i d lt = absurd (omega (arith, lt))
get_at (x ∷ tasks) zero d lt = refl
get_at (x ∷ tasks) (suc i) d lt = get_at tasks i d (omega (arith, lt))

-- the next task of a row
pub row_next : (tasks : List Task) (row : List ℕ) (i : ℕ) (d : Task) → i < length tasks → tasks_at tasks (row ++ i ∷ []) ≡ tasks_at tasks row ++ get_or tasks i d ∷ []
row_next tasks row i d lt = tasks_cat tasks row (i ∷ []) ∙ ap (λ (o : Option Task). tasks_at tasks row ++ cons_option o []) (get_at tasks i d lt)

-- ---- fixed shares

-- the worker's next task
pub share_mine : (workers worker i : ℕ) → i % workers ≡ worker → share_of (i + 1) workers worker ≡ share_of i workers worker ++ i ∷ []
share_mine workers worker i mine = share_more i workers worker ∙ ap (λ (b : Bool). share_of i workers worker ++ cond b (i ∷ []) []) test
  where
    test : (i % workers == worker) ≡ true
    test = elim (eqb_tells (i % workers) worker) [ inl same ↦ same.0 | inr other ↦ absurd (other.1 mine) ]

-- a task of another worker
pub share_other : (workers worker i : ℕ) → i % workers ≢ worker → share_of (i + 1) workers worker ≡ share_of i workers worker
share_other workers worker i other = share_more i workers worker ∙ ap (λ (b : Bool). share_of i workers worker ++ cond b (i ∷ []) []) test ∙ append-nil (share_of i workers worker)
  where
    test : (i % workers == worker) ≡ false
    test = elim (eqb_tells (i % workers) worker) [ inl same ↦ absurd (other same.1) | inr apart ↦ apart.0 ]

-- the share of more tasks has others behind those of fewer
pub share_longer : (workers worker i more : ℕ) → (rest : List ℕ) × (share_of (i + more) workers worker ≡ share_of i workers worker ++ rest)
share_longer workers worker i zero = ([], ap (λ k. share_of k workers worker) (add-zero i) ∙ sym (append-nil (share_of i workers worker)))
share_longer workers worker i (suc more) =
    let before = share_longer workers worker i more in
    let next : (i + more) + 1 ≡ i + suc more = omega arith in (
      before.0 ++ cond ((i + more) % workers == worker) ((i + more) ∷ []) [],
      ap (λ k. share_of k workers worker) (sym next)
          ∙ share_more (i + more) workers worker
          ∙ ap (λ (l : List ℕ). l ++ cond ((i + more) % workers == worker) ((i + more) ∷ []) []) before.1
          ∙ append_assoc (share_of i workers worker) before.0 (cond ((i + more) % workers == worker) ((i + more) ∷ []) []),
    )

-- ---- words

short_at : (bytes : List ℕ) (tasks : List Task) (i : ℕ) (task : Task) → slice_get tasks i ≡ Some task → AreShort (words_in bytes tasks) → AreShort (words_of (task_bytes bytes task))
short_at bytes [] i task e short = cc
short_at bytes (x ∷ tasks) zero task e short =
    let same : x ≡ task = cc in
    subst (λ (y : Task). AreShort (words_of (task_bytes bytes y))) same (all_left (λ word. length word ≤ WORD_LIMIT) (words_of (task_bytes bytes x)) (words_in bytes tasks) short)
short_at bytes (x ∷ tasks) (suc i) task e short =
    short_at bytes tasks i task e (all_right (λ word. length word ≤ WORD_LIMIT) (words_of (task_bytes bytes x)) (words_in bytes tasks) short)

row_short : (bytes : List ℕ) (tasks : List Task) (row : List ℕ) → AreShort (words_in bytes tasks) → AreShort (words_at bytes tasks row)
row_short bytes tasks [] short = All-nil (λ (word : List ℕ). length word ≤ WORD_LIMIT)
row_short bytes tasks (i ∷ row) short = by (slice_get tasks i) refl (row_short bytes tasks row short)
  where
    by : (o : Option Task) → slice_get tasks i ≡ o → AreShort (words_at bytes tasks row) → AreShort (words_in bytes (cons_option o (tasks_at tasks row)))
    by None e rest = rest
    by (Some task) e rest = All-append (λ (word : List ℕ). length word ≤ WORD_LIMIT) (words_of (task_bytes bytes task)) (words_at bytes tasks row) (short_at bytes tasks i task e short) rest

pub size_is : (words : List (List ℕ)) → sum_by (λ (word : List ℕ). 1) words ≡ length words
size_is [] = refl
size_is (word ∷ words) = let sum = sum_by-cons (λ (w : List ℕ). 1) word words in let rest = size_is words in omega arith

-- the words of a row are few and short
pub small_row : (bytes : List ℕ) (lines : ℕ) (tasks : List Task) (row : List ℕ) → AreTasks bytes lines tasks → IsAscending row → All (λ task. task < length tasks) row → AreSmall (words_of bytes)
    → AreSmall (words_at bytes tasks row)
small_row bytes lines tasks row are ascending below small =
    let sizes = row_words_within (λ (word : List ℕ). 1) bytes lines tasks row are ascending below in
    let one = size_is (words_at bytes tasks row) in
    let all = size_is (words_of bytes) in
    let few = small.1 in
    (row_short bytes tasks row (subst AreShort (sym (words_of_tasks bytes lines tasks are)) small.0), omega arith)

-- where a row has a word, the text has one
pub row_some : (bytes : List ℕ) (lines : ℕ) (tasks : List Task) (row : List ℕ) → AreTasks bytes lines tasks → IsAscending row → All (λ task. task < length tasks) row → words_at bytes tasks row ≢ [] → words_of bytes ≢ []
row_some bytes lines tasks row are ascending below some none =
    let sizes = row_words_within (λ (word : List ℕ). 1) bytes lines tasks row are ascending below in
    let one = size_is (words_at bytes tasks row) in
    let all = size_is (words_of bytes) in
    let nothing = ap length none in
    some (empty (words_at bytes tasks row) (omega (arith, sizes, one, all, nothing)))
  where
    empty : (words : List (List ℕ)) → length words ≡ 0 → words ≡ []
    empty [] e = refl
    empty (word ∷ words) e = absurd (omega (arith, e))

-- each of the tasks is a part of the text
pub task_within : (bytes : List ℕ) (lines : ℕ) (tasks : List Task) (i : ℕ) (d : Task) → AreTasks bytes lines tasks → i < length tasks → ((get_or tasks i d).start ≤ (get_or tasks i d).end) × ((get_or tasks i d).end ≤ length bytes)
task_within bytes lines tasks i d are lt = from 0 tasks i are lt
  where
    from : (place : ℕ) (ts : List Task) (k : ℕ) → AreTasksFrom bytes lines place ts → k < length ts → ((get_or ts k d).start ≤ (get_or ts k d).end) × ((get_or ts k d).end ≤ length bytes)
    from place [] k is less = absurd (omega (arith, less))
    from place (x ∷ ts) zero is less = let some = is.1.some in let within = is.1.within in (omega arith, within)
    from place (x ∷ ts) (suc k) is less = from x.end ts k is.2 (omega (arith, less))

-- ---- a task more is dealt

module _ (tasks : List Task) (row after : List ℕ) (i : ℕ) (is : after ≡ row ++ i ∷ []) (order : IsAscending after × All (λ task. task < length tasks) after) where
  pub dealt_below : i < length tasks
  dealt_below = All-head (λ task. task < length tasks) i [] (all_right (λ task. task < length tasks) row (i ∷ []) (subst (All (λ task. task < length tasks)) is order.1))

  -- as long as tasks are dealt, fewer are left
  pub dealt_fewer : length tasks - length after < length tasks - length row
  dealt_fewer = let fits = row_fits after (length tasks) order.0 order.1 in let long = ap length is ∙ length-append row (i ∷ []) in omega (arith, fits, long)

  pub dealt_next : (d : Task) → tasks_at tasks after ≡ tasks_at tasks row ++ get_or tasks i d ∷ []
  dealt_next d = ap (tasks_at tasks) is ∙ row_next tasks row i d dealt_below

  pub dealt_small : (bytes : List ℕ) (d : Task) → MayDeal bytes tasks → AreSmall (words_in bytes (tasks_at tasks row ++ get_or tasks i d ∷ []))
  dealt_small bytes d may = subst (λ ts. AreSmall (words_in bytes ts)) (dealt_next d) (small_row bytes may.lines tasks after may.cut order.0 order.1 may.small)

-- ---- a worker's fixed share

-- A worker that found room for all tasks up to the last has counted its share of all, and one that stopped before counts no more.
pub share_counted : (gate : Gate) (t : ℕ) (bytes : List ℕ) (tasks : List Task) (workers worker next : ℕ) (w : Worker) → next ≤ length tasks → HasCounted gate t bytes (tasks_at tasks (share_of next workers worker)) w
    → (w.refused ≡ None → next ≡ length tasks) → HasCounted gate t bytes (tasks_at tasks (share_of (length tasks) workers worker)) w
share_counted gate t bytes tasks workers worker next w le had ended = by w.refused refl
  where
    by : (o : Option Census) → w.refused ≡ o → HasCounted gate t bytes (tasks_at tasks (share_of (length tasks) workers worker)) w
    by None e = subst (λ n. HasCounted gate t bytes (tasks_at tasks (share_of n workers worker)) w) (ended e) had
    by (Some census) e =
        let longer = share_longer workers worker next (length tasks - next) in
        let size : next + (length tasks - next) ≡ length tasks = omega arith in
        let row : tasks_at tasks (share_of (length tasks) workers worker) ≡ tasks_at tasks (share_of next workers worker) ++ tasks_at tasks longer.0 =
        ap (λ n. tasks_at tasks (share_of n workers worker)) (sym size) ∙ ap (tasks_at tasks) longer.1 ∙ tasks_cat tasks (share_of next workers worker) longer.0 in
        subst (λ ts. HasCounted gate t bytes ts w) (sym row) (skipped gate t bytes (tasks_at tasks (share_of next workers worker)) (tasks_at tasks longer.0) w (λ none. true≢false (ap is_some (sym e ∙ none))) had)

-- All workers have counted their fixed shares, in which each task stands once.
pub shares_counted : (gate : Gate) (bytes : List ℕ) (tasks : List Task) (workers : List Worker) → MayShare (length workers) bytes tasks → AllCounted gate bytes tasks workers
    → HaveCounted gate bytes tasks (share_of (length tasks) (length workers)) [] workers
shares_counted gate bytes tasks workers may all = record {
  counted = all;
  may = may.1;
  dealt = shares_dealt (length tasks) (length workers) may.0;
  whole = λ _. refl;
}
