-- Cutting a text into tasks.
use Rattle.std.proofs.Common.{◌≡◌, ℕ, ◌+◌, ◌-◌, ◌<◌, ◌≤◌, ◌⊎◌, inl, inr, true, false, List, [], ◌∷◌, ◌++◌, length, get_or, take, drop, count_by, All, refl, sym, ap, ◌∙◌, arith, append_assoc}
use Rattle.std.specs.List.{flat_map}
use Rattle.std.proofs.lemmas.List.{append-nil, take_all, take-append-drop, drop-drop, drop_all, length-drop, length-take-le, get_or-take}
use Rattle.std.proofs.lemmas.List.Elements.{All-nil, All-cons}
use Rattle.std.proofs.lemmas.List.Sums.{count_by_more_yes, count_by_more_no}
use Rattle.yak_model.specs.Texts.{words_of}
use Rattle.group_jobs.specs.declared.tasks.Task.{Task}
use Rattle.group_jobs.specs.Tasks.{is_feed, AreWholeLines, AreFewerLines, task_bytes, IsTask, AreTasksFrom, AreTasks}
use Rattle.group_jobs.proofs.Parting.{words_behind}

-- So many line feeds are to come before the lines are whole.
pub record Lacks (bytes : List ℕ) (lines i left : ℕ) : Type 0 where
  pub feeds : count_by is_feed (take i bytes) + left ≡ lines
  pub more : 0 < left

-- the last of the bytes up to a place
last_before : (bytes : List ℕ) (i : ℕ) → i < length bytes → get_or (take (i + 1) bytes) (length (take (i + 1) bytes) - 1) 0 ≡ get_or bytes i 0
last_before bytes i lt =
    let size : length (take (i + 1) bytes) - 1 ≡ i = ap (λ n. n - 1) (length-take-le (i + 1) bytes (omega arith)) ∙ omega arith in
    ap (λ n. get_or (take (i + 1) bytes) n 0) size ∙ get_or-take (i + 1) bytes i 0 (omega arith)

feed_is : (byte : ℕ) → byte ≡ 10 → is_feed byte ≡ true
feed_is byte is = rw is refl

pub lines_whole : (bytes : List ℕ) (lines i left : ℕ) → i < length bytes → Lacks bytes lines i left → get_or bytes i 0 ≡ 10 → left - 1 ≡ 0 → AreWholeLines lines (take (i + 1) bytes)
lines_whole bytes lines i left lt lacks is none =
    (count_by_more_yes is_feed bytes i 0 lt (feed_is (get_or bytes i 0) is) ∙ omega (arith, lacks.feeds, lacks.more), last_before bytes i lt ∙ is)

pub lacks_fewer : (bytes : List ℕ) (lines i left : ℕ) → i < length bytes → Lacks bytes lines i left → get_or bytes i 0 ≡ 10 → (left - 1 ≡ 0 → ⊥) → Lacks bytes lines (i + 1) (left - 1)
lacks_fewer bytes lines i left lt lacks is some = record {
  feeds = omega (arith, lacks.feeds, lacks.more, count_by_more_yes is_feed bytes i 0 lt (feed_is (get_or bytes i 0) is));
  more = omega (arith, some);
}

pub lacks_same : (bytes : List ℕ) (lines i left : ℕ) → i < length bytes → Lacks bytes lines i left → is_feed (get_or bytes i 0) ≡ false → Lacks bytes lines (i + 1) left
lacks_same bytes lines i left lt lacks other = record {
  feeds = omega (arith, lacks.feeds, count_by_more_no is_feed bytes i 0 lt other);
  more = lacks.more;
}

pub lines_fewer : (bytes : List ℕ) (lines i left : ℕ) → length bytes ≤ i → Lacks bytes lines i left → AreFewerLines lines bytes
lines_fewer bytes lines i left le lacks =
    let feeds : count_by is_feed bytes + left ≡ lines = rw (take_all i bytes le) at lacks.feeds in
    omega (arith, feeds, lacks.more)

-- The tasks so far cut the text up to a place.
pub record AreCutTo (bytes : List ℕ) (lines : ℕ) (tasks : List Task) (place : ℕ) : Type 0 where
  pub within : place ≤ length bytes
  pub completes : (more : List Task) → AreTasksFrom bytes lines place more → AreTasks bytes lines (tasks ++ more)

pub none_cut : (bytes : List ℕ) (lines : ℕ) → AreCutTo bytes lines [] 0
none_cut bytes lines = record { within = omega arith; completes = λ more are. are }

-- What stands at the front of the rest is a task.
front_task : (bytes : List ℕ) (lines place size : ℕ) → place < length bytes → 0 < size → size ≤ length (drop place bytes)
    → AreWholeLines lines (take size (drop place bytes)) ⊎ ((size ≡ length (drop place bytes)) × AreFewerLines lines (drop place bytes))
    → IsTask bytes lines (record { start = place; end = place + size })
front_task bytes lines place size lt some within cut =
    let left : length (drop place bytes) ≡ length bytes - place = length-drop place bytes in
    let size_is : place + size - place ≡ size = omega arith in
    let piece : task_bytes bytes (record { start = place; end = place + size }) ≡ take size (drop place bytes) = ap (λ n. take n (drop place bytes)) size_is in
    record {
      some = omega arith;
      within = omega (arith, left, within);
      cut = elim cut [
        | inl whole ↦ inl (rw piece whole)
        | inr (all, fewer) ↦ inr (omega (arith, left, all), rw (piece, take_all size (drop place bytes) (omega (arith, all))) fewer)
      ];
    }

pub one_more_task : (bytes : List ℕ) (lines place size : ℕ) (tasks : List Task) → AreCutTo bytes lines tasks place → place < length bytes → 0 < size → size ≤ length (drop place bytes)
    → AreWholeLines lines (take size (drop place bytes)) ⊎ ((size ≡ length (drop place bytes)) × AreFewerLines lines (drop place bytes))
    → AreCutTo bytes lines (tasks ++ record { start = place; end = place + size } ∷ []) (place + size)
one_more_task bytes lines place size tasks so_far lt some within cut =
    let task : Task = record { start = place; end = place + size } in
    let is : IsTask bytes lines task = front_task bytes lines place size lt some within cut in
    record {
      within = is.within;
      completes = λ more are. rw append_assoc (so_far.completes (task ∷ more) (refl, is, are));
    }

pub all_cut : (bytes : List ℕ) (lines place : ℕ) (tasks : List Task) → AreCutTo bytes lines tasks place → length bytes ≤ place → AreTasks bytes lines tasks
all_cut bytes lines place tasks so_far le =
    let within = so_far.within in
    let end : place ≡ length bytes = omega arith in
    rw append-nil at (so_far.completes [] end)

-- the words of all tasks
abbrev words_in : List ℕ → List Task → List (List ℕ)
words_in bytes tasks = flat_map (λ task. words_of (task_bytes bytes task)) tasks

words_task : (bytes : List ℕ) (lines : ℕ) (task : Task) → IsTask bytes lines task → words_of (drop task.start bytes) ≡ words_of (task_bytes bytes task) ++ words_of (drop task.end bytes)
words_task bytes lines task is =
    let some = is.some in
    let within = is.within in
    let rest : drop (task.end - task.start) (drop task.start bytes) ≡ drop task.end bytes = drop-drop (task.end - task.start) task.start bytes ∙ ap (λ n. drop n bytes) (omega arith) in
    let parts : drop task.start bytes ≡ task_bytes bytes task ++ drop task.end bytes = rw (← rest) (sym (take-append-drop (task.end - task.start) (drop task.start bytes))) in
    let size : length (task_bytes bytes task) ≡ task.end - task.start = length-take-le (task.end - task.start) (drop task.start bytes) (rw (length-drop task.start bytes) (omega arith)) in
    ap words_of parts ∙ elim is.cut [
      | inl whole ↦ words_behind (task_bytes bytes task) (drop task.end bytes) (omega (arith, size)) (rw whole.1 refl)
      | inr (end, fewer) ↦
          let none : drop task.end bytes ≡ [] = drop_all task.end bytes (omega (arith, end)) in
          rw none (ap words_of (append-nil (task_bytes bytes task)) ∙ sym (append-nil (words_of (task_bytes bytes task))))
    ]

words_from : (bytes : List ℕ) (lines place : ℕ) (tasks : List Task) → AreTasksFrom bytes lines place tasks → words_in bytes tasks ≡ words_of (drop place bytes)
words_from bytes lines place [] end = rw (drop_all place bytes (omega (arith, end))) refl
words_from bytes lines place (task ∷ tasks) (start, is, are) =
    ap (λ words. words_of (task_bytes bytes task) ++ words) (words_from bytes lines task.end tasks are) ∙ sym (words_task bytes lines task is) ∙ ap (λ n. words_of (drop n bytes)) start

-- The words of the tasks are those of the text.
pub words_of_tasks : (bytes : List ℕ) (lines : ℕ) (tasks : List Task) → AreTasks bytes lines tasks → words_in bytes tasks ≡ words_of bytes
words_of_tasks bytes lines tasks are = words_from bytes lines 0 tasks are

-- Each of the tasks is one.
pub each_task : (bytes : List ℕ) (lines place : ℕ) (tasks : List Task) → AreTasksFrom bytes lines place tasks → All (IsTask bytes lines) tasks
each_task bytes lines place [] end = All-nil (IsTask bytes lines)
each_task bytes lines place (task ∷ tasks) (start, is, are) = All-cons (IsTask bytes lines) task tasks is (each_task bytes lines task.end tasks are)
