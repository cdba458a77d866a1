-- Where a worker found no room, the heap is no greater than what all workers may fill.
use Rattle.std.proofs.Common.{◌≡◌, ◌⊎◌, inl, inr, ℕ, zero, suc, ◌+◌, ◌*◌, ◌-◌, ◌≤◌, ◌<◌, All, List, [], ◌∷◌, ◌++◌, map, length, get_or, refl, sym, ap, ◌∙◌, subst, arith}
use Rattle.std.proofs.Math.Nat.{mul-le-mul_left}
use Rattle.std.proofs.lemmas.List.{append-nil}
use Rattle.std.proofs.lemmas.List.FromFn.{length-range_with_len}
use Rattle.std.proofs.lemmas.List.Sums.{sum_by-cons}
use Rattle.std.specs.List.{Contains, range_with_len, sum_by}
use Rattle.object_layout.specs.declared.calls.Call.TheVariants as call
use Rattle.object_layout.specs.declared.replies.Census.{Census}
use Rattle.object_layout.specs.declared.replies.Reply.TheVariants as reply
use Rattle.heap_words.specs.declared.map.Areas.{Areas}
use Rattle.heap_words.specs.Map.{page_words}
use Rattle.task_feed.specs.Dealt.{IsAscending, IsDealt}
use Rattle.task_feed.proofs.Sums.{dealt_within}
use Rattle.yak_model.specs.declared.history.Entry.{Entry}
use Rattle.yak_model.specs.declared.history.Entry.TheVariants.{Said}
use Rattle.yak_model.specs.Graph.{Limits, Thread, idle, standard_limits}
use Rattle.yak_model.specs.History.{part}
use Rattle.yak_model.specs.Lawful.{IsLawful, open_regions, present_words}
use Rattle.yak_model.specs.Room.{most_room, root_words, table_words}
use Rattle.yak_model.specs.Spaces.{SpaceState, opening_spaces, spaces}
use Rattle.yak_model.specs.Texts.{words_of}
use Rattle.yak_model.proofs.Agreement.{machines_agree}
use Rattle.yak_model.proofs.Lasting.{limits_after}
use Rattle.yak_model.proofs.Lists.{contains_cases}
use Rattle.yak_model.proofs.Turned.{turns_between}
use Rattle.heap_core.proofs.RoomsSums.{below-number, sum-added, sum-less, sum-mapped}
use Rattle.safepoint_gate.specs.declared.gate.Gate.{Gate}
use Rattle.safepoint_gate.specs.declared.rule.View.{View}
use Rattle.safepoint_gate.specs.declared.seats.Away.{Away}
use Rattle.mutator.specs.Finishing.{Finishes}
use Rattle.group_jobs.specs.Dealings.{tasks_at}
use Rattle.group_jobs.specs.Epochs.{AreEpochs, AreHalted, bounds_in}
use Rattle.group_jobs.specs.Followed.{entry_made, made_in}
use Rattle.group_jobs.specs.Tallies.{busy_tasks, tasks_room}
use Rattle.group_jobs.specs.Tasks.{AreTasks}
use Rattle.group_jobs.specs.Shared.{RanOutShared}
use Rattle.group_jobs.specs.Workers.{AllCountedBy, AreSeats, SomeRefused}
use Rattle.group_jobs.specs.declared.shares.Worker.{Worker}
use Rattle.group_jobs.specs.declared.tasks.Task.{Task}
use Rattle.group_jobs.proofs.Dealing.{dealt_room_within}
use Rattle.group_jobs.proofs.Depths.{depth_bounds, depth_in, led_all}
use Rattle.group_jobs.proofs.Grown.{bounds_cat}
use Rattle.group_jobs.proofs.Parted.{IsParted, parted_from}
use Rattle.group_jobs.proofs.PartSums.{history_threads, part_cat, part_within, parts_sum}
use Rattle.group_jobs.proofs.Weighing.{history_weighs}
use Rattle.group_jobs.proofs.ShareRows.{row_some}
use Rattle.group_jobs.proofs.Totals.{have_at}
use Rattle.group_jobs.proofs.WorkerCalls.{worker_halted, worker_refused, worker_room}

-- ---- a thread's depth at any point

-- the last epoch, which was maybe begun
last_depth : (t : ℕ) (more a b : List Entry) → (more ≡ []) ⊎ (more ≡ Said t call.Begin reply.Ok ∷ []) → more ≡ a ++ b → depth_in 0 a ≤ 1
last_depth t more [] b last e = omega arith
last_depth t more (x ∷ a) b (inl none) e = absurd (no_cons (sym none ∙ e))
  where
    no_cons : [] ≡ x ∷ a ++ b → ⊥
    no_cons e = cc e
last_depth t more (x ∷ []) b (inr begun) e = let one = ap (λ y. depth_in 0 (y ∷ [])) (first (sym begun ∙ e)) in omega (arith, one)
  where
    first : Said t call.Begin reply.Ok ∷ [] ≡ x ∷ b → Said t call.Begin reply.Ok ≡ x
    first f = cc f
last_depth t more (x ∷ y ∷ a) b (inr begun) e = absurd (no_two (sym begun ∙ e))
  where
    no_two : Said t call.Begin reply.Ok ∷ [] ≡ x ∷ y ∷ a ++ b → ⊥
    no_two f = cc f

epochs_begun : (t n : ℕ) (former more a b : List Entry) → AreEpochs t n former → (more ≡ []) ⊎ (more ≡ Said t call.Begin reply.Ok ∷ []) → former ++ more ≡ a ++ b → depth_in 0 a ≤ 1
epochs_begun t zero former more a b none last e = last_depth t more a b last (sym (ap (λ l. l ++ more) none) ∙ e)
epochs_begun t (suc n) former more [] b epochs last e = omega arith
epochs_begun t (suc n) former more (x ∷ []) b epochs last e =
    let one = ap (λ y. depth_in 0 (y ∷ [])) (first (sym (ap (λ l. l ++ more) epochs.3) ∙ e)) in omega (arith, one)
  where
    first : Said t call.Begin reply.Ok ∷ Said t call.End (reply.Ended epochs.0 epochs.1) ∷ epochs.2 ++ more ≡ x ∷ b → Said t call.Begin reply.Ok ≡ x
    first f = cc f
epochs_begun t (suc n) former more (x ∷ y ∷ a) b epochs last e =
    let rest = epochs_begun t n epochs.2 more a b epochs.4 last (third whole) in
    let two : depth_in 0 a ≡ depth_in 0 (x ∷ y ∷ a) = λ i. depth_in 0 (first whole i ∷ second whole i ∷ a) in
    omega (arith, rest, two)
  where
    whole : Said t call.Begin reply.Ok ∷ Said t call.End (reply.Ended epochs.0 epochs.1) ∷ epochs.2 ++ more ≡ x ∷ y ∷ a ++ b
    whole = sym (ap (λ l. l ++ more) epochs.3) ∙ e

    first : Said t call.Begin reply.Ok ∷ Said t call.End (reply.Ended epochs.0 epochs.1) ∷ epochs.2 ++ more ≡ x ∷ y ∷ a ++ b → Said t call.Begin reply.Ok ≡ x
    first f = cc f

    second : Said t call.Begin reply.Ok ∷ Said t call.End (reply.Ended epochs.0 epochs.1) ∷ epochs.2 ++ more ≡ x ∷ y ∷ a ++ b → Said t call.End (reply.Ended epochs.0 epochs.1) ≡ y
    second f = cc f

    third : Said t call.Begin reply.Ok ∷ Said t call.End (reply.Ended epochs.0 epochs.1) ∷ epochs.2 ++ more ≡ x ∷ y ∷ a ++ b → epochs.2 ++ more ≡ a ++ b
    third f = cc f

-- at most one epoch is open after any of a worker's calls
halted_depth : (t n : ℕ) (before more : List Entry) → AreHalted t n (bounds_in (before ++ more)) → depth_in 0 before ≤ 1
halted_depth t n before more halted =
    let cut = bounds_cat before more in
    let by : depth_in 0 (bounds_in before) ≤ 1 = elim halted [
      | inl epochs ↦ epochs_begun t n (bounds_in (before ++ more)) [] (bounds_in before) (bounds_in more) epochs (inl refl) (append-nil (bounds_in (before ++ more)) ∙ cut)
      | inr begun ↦ epochs_begun t n begun.0 (Said t call.Begin reply.Ok ∷ []) (bounds_in before) (bounds_in more) begun.1 (inr refl) (sym begun.2 ∙ cut)
    ] in
    omega (arith, by, depth_bounds 0 before)

-- ---- at any point of the history

depths_within : (threads : List Thread) → ((k : ℕ) → k < length threads → (get_or threads k idle).depth ≤ 1) → sum_by (λ (thread : Thread). thread.depth) threads ≤ length threads
depths_within [] each = omega arith
depths_within (thread ∷ threads) each =
    let here = each 0 (omega arith) in
    let rest = depths_within threads (λ k lt. each (suc k) (omega arith)) in
    let sum = sum_by-cons (λ (x : Thread). x.depth) thread threads in
    omega arith

module _ (threads : ℕ) (before more : List Entry) (s : SpaceState) (leaves : spaces standard_limits threads before s) where
  -- each thread has one open region at most
  regions_within : ((k : ℕ) → k < threads → (n : ℕ) × AreHalted (k + 1) n (bounds_in (part (before ++ more) (k + 1)))) → open_regions s ≤ threads
  regions_within halted =
      let agreed = machines_agree standard_limits threads before s leaves in
      let many : length s.graph.threads ≡ threads = ap length agreed.2.threads ∙ (history_threads standard_limits threads before agreed.0 agreed.1).1 in
      let within = depths_within s.graph.threads (λ k lt.
      let told = led_all (k + 1) (omega arith) standard_limits threads before agreed.0 agreed.1 in
      let place : k ≡ (k + 1) - 1 = omega arith in
      let same : (get_or s.graph.threads k idle).depth ≡ depth_in 0 (part before (k + 1)) =
      ap (λ (ts : List Thread). (get_or ts k idle).depth) agreed.2.threads ∙ ap (λ j. (get_or agreed.0.threads j idle).depth) place ∙ told.1 in
      let at = halted k (omega (arith, lt, many)) in
      let deep = halted_depth (k + 1) at.0 (part before (k + 1)) (part more (k + 1)) (subst (λ (l : List Entry). AreHalted (k + 1) at.0 (bounds_in l)) (part_cat before more (k + 1)) at.1) in
      omega (arith, same, deep)) in
      omega (arith, within, many)

  -- the objects have no more words than all threads made
  words_within : (most : ℕ → ℕ) → ((k : ℕ) → k < threads → made_in (part (before ++ more) (k + 1)) ≤ most k) → present_words s ≤ root_words + sum_by most (range_with_len 0 threads)
  words_within most room =
      let agreed = machines_agree standard_limits threads before s leaves in
      let weighs = history_weighs threads before s leaves in
      let parts = parts_sum entry_made threads before (history_threads standard_limits threads before agreed.0 agreed.1).0 in
      let each = sum-less (λ (k : ℕ). made_in (part before (k + 1))) most (range_with_len 0 threads) (λ k c.
      let begun = part_within entry_made before more (k + 1) in
      let whole = room k (below-number threads k c) in
      omega arith) in
      omega (arith, weighs, parts, each)

-- ---- where the heap was full

-- where an element stands in a list
standing : {A : Type 0} (xs : List A) (x : A) → Contains xs x → (front : List A) × (back : List A) × (xs ≡ front ++ x ∷ back)
standing [] x c = absurd (omega (arith, c.1))
standing (y ∷ ys) x c = elim (contains_cases y ys x c) [
  | inl same ↦ ([], ys, ap (λ z. z ∷ ys) same)
  | inr later ↦ let rest = standing ys x later in (y ∷ rest.0, rest.1, ap (λ l. y ∷ l) rest.2)
]

module _ (m : Areas) (history : List Entry) (lawful : IsLawful standard_limits m.threads m.pages history) where
  -- A heap that was full is no greater than its root and what all threads may make.
  full_within : (most : ℕ → ℕ) → ((k : ℕ) → k < m.threads → (n : ℕ) × AreHalted (k + 1) n (bounds_in (part history (k + 1)))) → ((k : ℕ) → k < m.threads → made_in (part history (k + 1)) ≤ most k)
      → (t asked : ℕ) → Contains (part history t) (Said t (call.New asked) reply.OutOfHeap)
      → page_words m * m.pages ≤ 2 * (root_words + sum_by most (range_with_len 0 m.threads)) + page_words m * (m.threads + 1)
  full_within most halted room t asked c =
      let entry : Entry = Said t (call.New asked) reply.OutOfHeap in
      let own = standing (part history t) entry c in
      let at : IsParted t history own.0 entry own.1 = parted_from t history own.0 own.1 entry own.2 in
      let cut = turns_between (opening_spaces standard_limits m.threads) lawful.defined.0 at.before (entry ∷ at.after) (subst (λ (l : List Entry). spaces standard_limits m.threads l lawful.defined.0) at.whole lawful.defined.1) in
      let s : SpaceState = cut.0 in
      let agreed = machines_agree standard_limits m.threads at.before s cut.1 in
      let limits : s.graph.limits ≡ standard_limits = agreed.2.limits ∙ limits_after standard_limits m.threads at.before agreed.0 agreed.1 in
      let page : s.graph.limits.page ≡ page_words m = ap (λ (l : Limits). l.page) limits in
      let full = subst (λ p. p * m.pages ≤ 2 * present_words s + p * (open_regions s + 1)) page (lawful.entries at.before at.after entry s at.whole cut.1).1 in
      let regions = regions_within m.threads at.before (entry ∷ at.after) s cut.1 (λ k lt. let h = halted k lt in (h.0, subst (λ (l : List Entry). AreHalted (k + 1) h.0 (bounds_in (part l (k + 1)))) at.whole h.1)) in
      let words = words_within m.threads at.before (entry ∷ at.after) s cut.1 most (λ k lt. subst (λ (l : List Entry). made_in (part l (k + 1)) ≤ most k) at.whole (room k lt)) in
      let more = mul-le-mul_left (page_words m) (let r : open_regions s + 1 ≤ m.threads + 1 = omega (arith, regions) in r) in
      omega (arith, full, words, more)

-- ---- what workers may fill

-- a table for each worker, and what the tasks of all rows take
pub rows_within : (bytes : List ℕ) (lines : ℕ) (tasks : List Task) (row : ℕ → List ℕ) (left : List ℕ) (workers : ℕ) → AreTasks bytes lines tasks → IsDealt (length tasks) (map row (range_with_len 0 workers)) left
    → root_words + sum_by (λ (k : ℕ). table_words + tasks_room bytes (tasks_at tasks (row k))) (range_with_len 0 workers) ≤ most_room workers (busy_tasks bytes tasks) (words_of bytes)
rows_within bytes lines tasks row left workers are dealt =
    let rooms = dealt_room_within bytes lines tasks (map row (range_with_len 0 workers)) left are dealt in
    let mapped = sum-mapped (λ (r : List ℕ). tasks_room bytes (tasks_at tasks r)) row (range_with_len 0 workers) in
    let added = sum-added (λ (k : ℕ). table_words) (λ (k : ℕ). tasks_room bytes (tasks_at tasks (row k))) (range_with_len 0 workers) in
    let tables = all_tables (range_with_len 0 workers) in
    let many = ap (λ n. table_words * n) (length-range_with_len 0 workers) in
    omega (arith, rooms, mapped, added, tables, many)
  where
    all_tables : (xs : List ℕ) → sum_by (λ (k : ℕ). table_words) xs ≡ table_words * length xs
    all_tables [] = omega arith
    all_tables (x ∷ xs) = let rest = all_tables xs in let sum = sum_by-cons (λ (k : ℕ). table_words) x xs in omega arith

module _ (gate : Gate) (bytes : List ℕ) (lines : ℕ) (tasks : List Task) (row : ℕ → List ℕ) (left : List ℕ) (workers : List Worker)
    (counted : AllCountedBy gate bytes tasks row workers)
    (seats : List Away) (long : length seats ≡ length workers) (are : AreSeats workers seats) (v : View) (finishes : Finishes v seats)
    (full : length workers ≡ v.map.threads) (cut : AreTasks bytes lines tasks) (dealt : IsDealt (length tasks) (map row (range_with_len 0 v.map.threads)) left) where
  -- the heap is no greater than what the workers may fill
  pub room_shared : (k asked : ℕ) → Contains (part v.history (k + 1)) (Said (k + 1) (call.New asked) reply.OutOfHeap)
      → page_words v.map * v.map.pages ≤ 2 * most_room v.map.threads (busy_tasks bytes tasks) (words_of bytes) + page_words v.map * (v.map.threads + 1)
  room_shared k asked c =
      let calls = worker_room gate bytes tasks row workers counted seats long are v finishes in
      let halted = worker_halted gate bytes tasks row workers counted seats long are v finishes in
      let most = full_within v.map v.history finishes.explains.lawful (λ (j : ℕ). table_words + tasks_room bytes (tasks_at tasks (row j)))
      (λ j lt. halted j (omega (arith, lt, full))) (λ j lt. calls j (omega (arith, lt, full))) (k + 1) asked c in
      omega (arith, most, rows_within bytes lines tasks row left v.map.threads cut dealt)

  -- Where some worker found no room, the heap is as such a run leaves it.
  pub ran_out : (size : Areas) → v.map ≡ size → (census : Census) → SomeRefused workers census → (census.free ≡ 0) × RanOutShared size lines bytes v
  ran_out size same census some =
      let found = worker_refused gate bytes tasks row workers counted seats long are v finishes census some in
      let k : ℕ = found.1.0 in
      let lt = found.1.1 in
      let here : k < v.map.threads = omega (arith, lt, full) in
      let asked : ℕ = found.1.2.0 in (
        found.0,
        record {
          map_is = same;
          explains = finishes.explains;
          mine = finishes.mine;
          worker = k;
          within = let threads = ap (λ (m : Areas). m.threads) same in let lt = found.1.1 in omega arith;
          asked = asked;
          refused = found.1.2.1;
          some = row_some bytes lines tasks (row k) cut (have_at (λ (r : List ℕ). IsAscending r) row v.map.threads k here dealt.ascending)
              (have_at (λ (r : List ℕ). All (λ task. task < length tasks) r) row v.map.threads k here (dealt_within (length tasks) (map row (range_with_len 0 v.map.threads)) left dealt)) found.1.3;
          tasks = tasks;
          cut = cut;
          room = subst (λ (m : Areas). page_words m * m.pages ≤ 2 * most_room m.threads (busy_tasks bytes tasks) (words_of bytes) + page_words m * (m.threads + 1)) same (room_shared k asked found.1.2.1);
        },
      )
