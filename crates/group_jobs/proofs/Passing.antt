-- Tasks of a text that were counted, and the next one.
use Rattle.std.proofs.Common.{zero, suc, ◌≡◌, ◌≢◌, ℕ, ◌+◌, ◌*◌, ◌≤◌, ◌<◌, ◌||◌, Bool, true, false, cond, List, [], ◌∷◌, ◌++◌, length, get_or, take, drop, refl, ◌∙◌, ap, sym, subst, arith, length-append}
use Rattle.std.proofs.lemmas.List.{append_assoc, append-nil}
use Rattle.std.proofs.lemmas.List.Sums.{sum_by-append, sum_by-cons}
use Rattle.object_layout.specs.declared.TheConstants.{WORD_LIMIT}
use Rattle.yak_model.specs.Room.{entry_words, key_words, table_words}
use Rattle.yak_model.specs.Texts.{words_of}
use Rattle.group_jobs.specs.declared.tasks.Task.{Task}
use Rattle.group_jobs.specs.Tallies.{AreShort, is_busy, new_total, task_room, tasks_room, words_in, words_room}
use Rattle.group_jobs.specs.Tasks.{task_bytes}
use Rattle.group_jobs.proofs.Rooms.{all_left, all_right}

-- ---- one list after another

pub words_cat : (bytes : List ℕ) (xs ys : List Task) → words_in bytes (xs ++ ys) ≡ words_in bytes xs ++ words_in bytes ys
words_cat bytes [] ys = refl
words_cat bytes (x ∷ xs) ys = ap (λ ws. words_of (task_bytes bytes x) ++ ws) (words_cat bytes xs ys) ∙ sym (append_assoc (words_of (task_bytes bytes x)) (words_in bytes xs) (words_in bytes ys))

pub front_none : (xs ys : List (List ℕ)) → xs ++ ys ≡ [] → xs ≡ []
front_none [] ys e = refl
front_none (x ∷ xs) ys e = cc

pub back_none : (xs ys : List (List ℕ)) → xs ++ ys ≡ [] → ys ≡ []
back_none [] ys e = e
back_none (x ∷ xs) ys e = cc

pub words_one : (bytes : List ℕ) (x : Task) → words_in bytes (x ∷ []) ≡ words_of (task_bytes bytes x)
words_one bytes x = append-nil (words_of (task_bytes bytes x))

pub rooms_cat : (bytes : List ℕ) (xs ys : List Task) → tasks_room bytes (xs ++ ys) ≡ tasks_room bytes xs + tasks_room bytes ys
rooms_cat bytes xs ys =
    let busy = sum_by-append (λ task. cond (is_busy (words_of (task_bytes bytes task))) 1 0) xs ys in
    let words = ap words_room (words_cat bytes xs ys) ∙ sum_by-append (λ word. key_words word + 2 * entry_words) (words_in bytes xs) (words_in bytes ys) in
    omega (arith, busy, words)

cond_room : (b : Bool) → table_words * cond {A = ℕ} b 1 0 ≡ cond {A = ℕ} b table_words 0
cond_room true = omega arith
cond_room false = omega arith

pub rooms_one : (bytes : List ℕ) (x : Task) → tasks_room bytes (x ∷ []) ≡ task_room (words_of (task_bytes bytes x))
rooms_one bytes x =
    let busy = sum_by-cons (λ task. cond (is_busy (words_of (task_bytes bytes task))) 1 0) x [] in
    let words = ap words_room (words_one bytes x) in
    omega (arith, busy, words, cond_room (is_busy (words_of (task_bytes bytes x))))

pub busy_cat : (xs ys : List (List ℕ)) → is_busy (xs ++ ys) ≡ (is_busy xs || is_busy ys)
busy_cat [] ys = refl
busy_cat (x ∷ xs) ys = refl

-- ---- the task at a place

parts_at : (tasks : List Task) (i : ℕ) (d : Task) → i < length tasks → tasks ≡ take i tasks ++ (get_or tasks i d ∷ drop (suc i) tasks)
parts_at [] i d h = absurd (omega (arith, h))
parts_at (x ∷ xs) zero d h = refl
parts_at (x ∷ xs) (suc i) d h = ap (λ ys. x ∷ ys) (parts_at xs i d (omega (arith, h)))

take_next : (tasks : List Task) (i : ℕ) (d : Task) → i < length tasks → take (suc i) tasks ≡ take i tasks ++ (get_or tasks i d ∷ [])
take_next [] i d h = absurd (omega (arith, h))
take_next (x ∷ xs) zero d h = refl
take_next (x ∷ xs) (suc i) d h = ap (λ ys. x ∷ ys) (take_next xs i d (omega (arith, h)))

take_plus : (tasks : List Task) (i : ℕ) → take (i + 1) tasks ≡ take (suc i) tasks
take_plus tasks i = let e : i + 1 ≡ suc i = omega arith in ap (λ n. take n tasks) e

pub words_next : (bytes : List ℕ) (tasks : List Task) (i : ℕ) (d : Task) → i < length tasks → words_in bytes (take (i + 1) tasks) ≡ words_in bytes (take i tasks) ++ words_of (task_bytes bytes (get_or tasks i d))
words_next bytes tasks i d h =
    ap (words_in bytes) (take_plus tasks i ∙ take_next tasks i d h) ∙ words_cat bytes (take i tasks) (get_or tasks i d ∷ [])
    ∙ ap (λ ws. words_in bytes (take i tasks) ++ ws) (words_one bytes (get_or tasks i d))

pub room_next : (bytes : List ℕ) (tasks : List Task) (i : ℕ) (d : Task) → i < length tasks → tasks_room bytes (take (i + 1) tasks) ≡ tasks_room bytes (take i tasks) + task_room (words_of (task_bytes bytes (get_or tasks i d)))
room_next bytes tasks i d h =
    ap (tasks_room bytes) (take_plus tasks i ∙ take_next tasks i d h) ∙ rooms_cat bytes (take i tasks) (get_or tasks i d ∷ [])
    ∙ ap (λ n. tasks_room bytes (take i tasks) + n) (rooms_one bytes (get_or tasks i d))

words_parts : (bytes : List ℕ) (tasks : List Task) (i : ℕ) (d : Task) → i < length tasks
    → words_in bytes tasks ≡ words_in bytes (take i tasks) ++ (words_of (task_bytes bytes (get_or tasks i d)) ++ words_in bytes (drop (suc i) tasks))
words_parts bytes tasks i d h = ap (words_in bytes) (parts_at tasks i d h) ∙ words_cat bytes (take i tasks) (get_or tasks i d ∷ drop (suc i) tasks)

pub words_size : (bytes : List ℕ) (tasks : List Task) (i : ℕ) (d : Task) → i < length tasks
    → length (words_in bytes (take i tasks)) + length (words_of (task_bytes bytes (get_or tasks i d))) ≤ length (words_in bytes tasks)
words_size bytes tasks i d h =
    omega (
      arith,
      ap length (words_parts bytes tasks i d h),
      length-append (words_in bytes (take i tasks)) (words_of (task_bytes bytes (get_or tasks i d)) ++ words_in bytes (drop (suc i) tasks)),
      length-append (words_of (task_bytes bytes (get_or tasks i d))) (words_in bytes (drop (suc i) tasks)),
    )

no_longer : (part all : List (List ℕ)) → part ≢ [] → length part ≤ length all → all ≢ []
no_longer [] all some h none = some refl
no_longer (word ∷ part) all some h none = let size = ap length none in omega (arith, h, size)

-- where a task has a word, the tasks have one
pub words_some : (bytes : List ℕ) (tasks : List Task) (i : ℕ) (d : Task) → i < length tasks → words_of (task_bytes bytes (get_or tasks i d)) ≢ [] → words_in bytes tasks ≢ []
words_some bytes tasks i d h some =
    let size = words_size bytes tasks i d h in no_longer (words_of (task_bytes bytes (get_or tasks i d))) (words_in bytes tasks) some (omega (arith, size))

pub words_short : (bytes : List ℕ) (tasks : List Task) (i : ℕ) (d : Task) → i < length tasks → AreShort (words_in bytes tasks) → AreShort (words_of (task_bytes bytes (get_or tasks i d)))
words_short bytes tasks i d h short =
    all_left (λ w. length w ≤ WORD_LIMIT) (words_of (task_bytes bytes (get_or tasks i d))) (words_in bytes (drop (suc i) tasks))
    (all_right (λ w. length w ≤ WORD_LIMIT) (words_in bytes (take i tasks)) (words_of (task_bytes bytes (get_or tasks i d)) ++ words_in bytes (drop (suc i) tasks)) (subst AreShort (words_parts bytes tasks i d h) short))

pub room_within : (bytes : List ℕ) (tasks : List Task) (i : ℕ) (d : Task) → i < length tasks
    → tasks_room bytes (take i tasks) + task_room (words_of (task_bytes bytes (get_or tasks i d))) ≤ tasks_room bytes tasks
room_within bytes tasks i d h =
    omega (
      arith,
      ap (tasks_room bytes) (parts_at tasks i d h) ∙ rooms_cat bytes (take i tasks) (get_or tasks i d ∷ drop (suc i) tasks),
      rooms_cat bytes (get_or tasks i d ∷ []) (drop (suc i) tasks),
      rooms_one bytes (get_or tasks i d),
    )

pub busy_next : (bytes : List ℕ) (tasks : List Task) (i : ℕ) (d : Task) → i < length tasks → is_busy (words_in bytes (take (i + 1) tasks)) ≡ (is_busy (words_in bytes (take i tasks)) || is_busy (words_of (task_bytes bytes (get_or tasks i d))))
busy_next bytes tasks i d h = ap is_busy (words_next bytes tasks i d h) ∙ busy_cat (words_in bytes (take i tasks)) (words_of (task_bytes bytes (get_or tasks i d)))

pub whole : (tasks : List Task) (i : ℕ) → length tasks ≤ i → take i tasks ≡ tasks
whole [] zero h = refl
whole [] (suc i) h = refl
whole (x ∷ xs) zero h = absurd (omega (arith, h))
whole (x ∷ xs) (suc i) h = ap (λ ys. x ∷ ys) (whole xs i (omega (arith, h)))

-- ---- the table of the total

pub total_next : (a b : Bool) → new_total false a + new_total a (a || b) ≤ new_total false (a || b)
total_next true b = omega arith
total_next false true = omega arith
total_next false false = omega arith

pub total_out : (a : Bool) → new_total false a + new_total a true ≤ table_words
total_out true = omega arith
total_out false = omega arith

pub total_most : (a : Bool) → new_total false a ≤ table_words
total_most true = omega arith
total_most false = omega arith
