-- A text is cut into tasks in one way.
use Rattle.std.proofs.Common.{◌≡◌, ℕ, ◌+◌, ◌-◌, ◌<◌, ◌≤◌, inl, inr, true, cond, List, [], ◌∷◌, ◌++◌, length, get_or, take, drop, count_by, refl, sym, ap, ◌∙◌, arith}
use Rattle.std.proofs.lemmas.Bool.{cases_lt}
use Rattle.std.proofs.lemmas.List.{take-append-drop, take-take, length-drop, length-take-le, get_or-take}
use Rattle.std.proofs.lemmas.List.Sums.{sum_by-append, count_by_more_yes}
use Rattle.group_jobs.specs.declared.tasks.Task.{Task}
use Rattle.group_jobs.specs.Tasks.{is_feed, task_bytes, IsTask, AreTasksFrom, AreTasks}

-- A longer front has no fewer line feeds.
feeds_rise : (bytes : List ℕ) (m n : ℕ) → m ≤ n → count_by is_feed (take m bytes) ≤ count_by is_feed (take n bytes)
feeds_rise bytes m n le =
    let parts : take m bytes ++ drop m (take n bytes) ≡ take n bytes = ap (λ front. front ++ drop m (take n bytes)) (sym (take-take m n bytes le)) ∙ take-append-drop m (take n bytes) in
    let sum = sum_by-append (λ byte. cond {A = ℕ} (is_feed byte) 1 0) (take m bytes) (drop m (take n bytes)) in
    let whole : count_by is_feed (take m bytes ++ drop m (take n bytes)) ≡ count_by is_feed (take n bytes) = ap (count_by is_feed) parts in
    omega (arith, sum, whole)

-- A front that ends behind a line feed has more of them than a shorter one.
feeds_rise_strictly : (bytes : List ℕ) (m n : ℕ) → m < n → n ≤ length bytes → get_or (take n bytes) (length (take n bytes) - 1) 0 ≡ 10 → count_by is_feed (take m bytes) < count_by is_feed (take n bytes)
feeds_rise_strictly bytes m n lt le last =
    let before : n - 1 + 1 ≡ n = omega arith in
    let place : length (take n bytes) - 1 ≡ n - 1 = ap (λ k. k - 1) (length-take-le n bytes le) in
    let feed : get_or bytes (n - 1) 0 ≡ 10 = sym (get_or-take n bytes (n - 1) 0 (omega arith)) ∙ ap (λ k. get_or (take n bytes) k 0) (sym place) ∙ last in
    let is : is_feed (get_or bytes (n - 1) 0) ≡ true = ap is_feed feed in
    let more : count_by is_feed (take (n - 1 + 1) bytes) ≡ count_by is_feed (take (n - 1) bytes) + 1 = count_by_more_yes is_feed bytes (n - 1) 0 (omega arith) is in
    let whole : count_by is_feed (take (n - 1 + 1) bytes) ≡ count_by is_feed (take n bytes) = ap (λ k. count_by is_feed (take k bytes)) before in
    omega (arith, more, whole, feeds_rise bytes m (n - 1) (omega arith))

-- No task ends before another from the same place.
not_sooner : (bytes : List ℕ) (lines : ℕ) (one other : Task) → IsTask bytes lines one → IsTask bytes lines other → one.start ≡ other.start → one.end < other.end → ⊥
not_sooner bytes lines one other is are same sooner =
    let rest : List ℕ = drop one.start bytes in
    let m : ℕ = one.end - one.start in
    let n : ℕ = other.end - one.start in
    let some = is.some in
    let within = are.within in
    let size : length rest ≡ length bytes - one.start = length-drop one.start bytes in
    let piece : task_bytes bytes other ≡ take n rest = ap (λ start. take (other.end - start) (drop start bytes)) (sym same) in
    elim is.cut [
      | inr (end, fewer) ↦ omega (arith, end)
      | inl whole ↦ elim are.cut [
        | inr (end, fewer) ↦
            let few : count_by is_feed (take n rest) < lines = rw piece at fewer in
            let rise : count_by is_feed (take m rest) ≤ count_by is_feed (take n rest) = feeds_rise rest m n (omega arith) in
            omega (arith, whole.0, few, rise)
        | inl also ↦
            let last : get_or (take n rest) (length (take n rest) - 1) 0 ≡ 10 = rw piece at also.1 in
            let all : count_by is_feed (take n rest) ≡ lines = rw piece at also.0 in
            let rise : count_by is_feed (take m rest) < count_by is_feed (take n rest) = feeds_rise_strictly rest m n (omega arith) (omega (arith, size)) last in
            omega (arith, whole.0, all, rise)
      ]
    ]

same_task : (bytes : List ℕ) (lines : ℕ) (one other : Task) → IsTask bytes lines one → IsTask bytes lines other → one.start ≡ other.start → one ≡ other
same_task bytes lines one other is are same =
    let end : one.end ≡ other.end = elim (cases_lt one.end other.end) [
      | inl sooner ↦ absurd (not_sooner bytes lines one other is are same sooner)
      | inr later ↦ elim (cases_lt other.end one.end) [
        | inl sooner ↦ absurd (not_sooner bytes lines other one are is (sym same) sooner)
        | inr no_sooner ↦ omega (arith, later, no_sooner)
      ]
    ] in
    λ i. record { start = same i; end = end i }

same_from : (bytes : List ℕ) (lines place : ℕ) (tasks others : List Task) → AreTasksFrom bytes lines place tasks → AreTasksFrom bytes lines place others → tasks ≡ others
same_from bytes lines place [] [] end also = refl
same_from bytes lines place [] (other ∷ others) end (start, is, are) = absurd (omega (arith, end, start, is.some, is.within))
same_from bytes lines place (task ∷ tasks) [] (start, is, are) end = absurd (omega (arith, end, start, is.some, is.within))
same_from bytes lines place (task ∷ tasks) (other ∷ others) (start, is, are) (start', is', are') =
    let same : task ≡ other = same_task bytes lines task other is is' (start ∙ sym start') in
    let rest : tasks ≡ others = same_from bytes lines task.end tasks others are (rw same are') in
    λ i. same i ∷ rest i

pub same_tasks : (bytes : List ℕ) (lines : ℕ) (tasks others : List Task) → AreTasks bytes lines tasks → AreTasks bytes lines others → tasks ≡ others
same_tasks bytes lines tasks others are also = same_from bytes lines 0 tasks others are also
