-- A worker that counted one more task, and one that read its table.
use Rattle.std.proofs.Common.{zero, suc, ◌≡◌, ◌≢◌, ◌⊎◌, inl, inr, ℕ, ◌+◌, ◌*◌, ◌≤◌, ◌||◌, Bool, true, false, true≢false, cond, List, [], ◌∷◌, ◌++◌, length, refl, sym, ap, ◌∙◌, subst, arith, Option, None, Some, is_some, length-append}
use Rattle.std.specs.List.{slice_get}
use Rattle.std.specs.Option.{ForSome}
use Rattle.std.proofs.Math.Logic.{∥∥₁_map, ∥∥₁_map₂}
use Rattle.std.proofs.lemmas.List.{append-nil}
use Rattle.std.proofs.lemmas.List.Elements.{All-head, All-tail}
use Rattle.std.proofs.lemmas.List.Sums.{sum_by-cons}
use Rattle.object_layout.specs.declared.replies.Census.{Census}
use Rattle.object_layout.specs.declared.TheConstants.{WORD_LIMIT}
use Rattle.heap_words.specs.declared.map.Areas.{Areas}
use Rattle.yak_model.specs.declared.history.Entry.{Entry}
use Rattle.yak_model.specs.Graph.{Thread}
use Rattle.yak_model.specs.Room.{entry_words, key_words, table_words}
use Rattle.yak_model.specs.Texts.{words_of}
use Rattle.safepoint_gate.specs.declared.gate.Gate.{Gate}
use Rattle.safepoint_gate.specs.declared.rule.Own.{Own}
use Rattle.safepoint_gate.specs.Rule.{GoesOn}
use Rattle.safepoint_gate.specs.Seats.{IsOf}
use Rattle.safepoint_gate.specs.Steps.{first_calls, first_thread}
use Rattle.mutator.specs.declared.resting.Resting.{Resting}
use Rattle.mutator.specs.Callers.{first_past}
use Rattle.group_jobs.specs.Epochs.{AreEpochs, AreHalted, bounds_in}
use Rattle.group_jobs.specs.Followed.{Follows, IsSettled, made_in}
use Rattle.group_jobs.specs.Shared.{HasEpoch}
use Rattle.group_jobs.specs.Tallies.{AreShort, busy_tasks, is_busy, new_total, task_room, tasks_room, words_in, words_room}
use Rattle.group_jobs.specs.Tasks.{task_bytes}
use Rattle.group_jobs.specs.Workers.{AreSmall, CountsTask, HaltsTask, HasCounted, HasRefused, IsAtRest, IsGoing, IsThere, ReadsTotal, exact_most, own_of}
use Rattle.group_jobs.specs.declared.shares.Worker.{Worker}
use Rattle.group_jobs.specs.declared.tasks.Task.{Task}
use Rattle.group_jobs.specs.declared.TheConstants.{MOST_WORDS, OBJECTS_FOR_WORD}
use Rattle.group_jobs.proofs.Following.{goes_further}
use Rattle.group_jobs.proofs.Grown.{bounds_cat}
use Rattle.group_jobs.proofs.Passing.{back_none, busy_cat, front_none, rooms_cat, rooms_one, words_cat, words_one}
use Rattle.group_jobs.proofs.Rooms.{all_right}

-- ---- epochs

-- an epoch that a history has is in each that goes on from it
pub epoch_later : (threads : ℕ) (history later : List Entry) (t k : ℕ) (words : List (List ℕ)) → GoesOn history later → HasEpoch threads history t k words → HasEpoch threads later t k words
epoch_later threads history later t k words on epoch = record {
  before = epoch.before;
  inside = epoch.inside;
  moved = epoch.moved;
  tight = epoch.tight;
  goes_on = goes_further _ history later epoch.goes_on on;
  number = epoch.number;
  plain = epoch.plain;
  part_held = epoch.part_held;
}

pub epochs_later : (m : Areas) (was now : List Own) (t k : ℕ) (words : List (List ℕ)) → ∥ Follows m was now ∥₁ → ∥ HasEpoch m.threads (first_past was) t k words ∥₁ → ∥ HasEpoch m.threads (first_past now) t k words ∥₁
epochs_later m was now t k words follows epoch = ∥∥₁_map₂ follows epoch (λ f e. epoch_later m.threads (first_past was) (first_past now) t k words f.goes_on e)

-- ---- one task more

more_words : (bytes : List ℕ) (tasks : List Task) (task : Task) → words_in bytes (tasks ++ task ∷ []) ≡ words_in bytes tasks ++ words_of (task_bytes bytes task)
more_words bytes tasks task = words_cat bytes tasks (task ∷ []) ∙ ap (λ ws. words_in bytes tasks ++ ws) (words_one bytes task)

more_size : (bytes : List ℕ) (tasks : List Task) (task : Task) → length (words_in bytes (tasks ++ task ∷ [])) ≡ length (words_in bytes tasks) + length (words_of (task_bytes bytes task))
more_size bytes tasks task = ap length (more_words bytes tasks task) ∙ length-append (words_in bytes tasks) (words_of (task_bytes bytes task))

more_room : (bytes : List ℕ) (tasks : List Task) (task : Task) → tasks_room bytes (tasks ++ task ∷ []) ≡ tasks_room bytes tasks + task_room (words_of (task_bytes bytes task))
more_room bytes tasks task = rooms_cat bytes tasks (task ∷ []) ∙ ap (λ n. tasks_room bytes tasks + n) (rooms_one bytes task)

-- the words of the task are among them
pub task_short : (bytes : List ℕ) (tasks : List Task) (task : Task) → AreShort (words_in bytes (tasks ++ task ∷ [])) → AreShort (words_of (task_bytes bytes task))
task_short bytes tasks task short = all_right (λ word. length word ≤ WORD_LIMIT) (words_in bytes tasks) (words_of (task_bytes bytes task)) (subst AreShort (more_words bytes tasks task) short)

pub task_few : (bytes : List ℕ) (tasks : List Task) (task : Task) → AreSmall (words_in bytes (tasks ++ task ∷ [])) → length (words_in bytes tasks) + length (words_of (task_bytes bytes task)) ≤ MOST_WORDS
task_few bytes tasks task small = let size = more_size bytes tasks task in let few = small.1 in omega arith

-- ---- how much room short words take

abbrev most_of_word : ℕ
most_of_word = 300

word_room : (word : List ℕ) → length word ≤ WORD_LIMIT → key_words word + 2 * entry_words ≤ 169
word_room word short = omega arith

words_small : (words : List (List ℕ)) → AreShort words → words_room words ≤ 169 * length words
words_small [] short = omega arith
words_small (word ∷ words) short =
    let P = λ (w : List ℕ). length w ≤ WORD_LIMIT in
    let sum = sum_by-cons (λ (w : List ℕ). key_words w + 2 * entry_words) word words in
    let first = word_room word (All-head P word words short) in
    let rest = words_small words (All-tail P word words short) in
    omega arith

busy_one : (words : List (List ℕ)) → cond {A = ℕ} (is_busy words) 1 0 ≤ length words
busy_one [] = omega arith
busy_one (word ∷ words) = omega arith

busy_small : (bytes : List ℕ) (tasks : List Task) → busy_tasks bytes tasks ≤ length (words_in bytes tasks)
busy_small bytes [] = omega arith
busy_small bytes (task ∷ tasks) =
    let sum = sum_by-cons (λ (x : Task). cond {A = ℕ} (is_busy (words_of (task_bytes bytes x))) 1 0) task tasks in
    let first = busy_one (words_of (task_bytes bytes task)) in
    let rest = busy_small bytes tasks in
    let size = length-append (words_of (task_bytes bytes task)) (words_in bytes tasks) in
    omega arith

room_small : (bytes : List ℕ) (tasks : List Task) → AreSmall (words_in bytes tasks) → tasks_room bytes tasks ≤ most_of_word * MOST_WORDS
room_small bytes tasks small =
    let words = words_small (words_in bytes tasks) small.0 in
    let busy = busy_small bytes tasks in
    let few = small.1 in
    omega arith

pub exact_task : (bytes : List ℕ) (tasks : List Task) (task : Task) (made : ℕ) → AreSmall (words_in bytes (tasks ++ task ∷ [])) → made ≤ table_words + tasks_room bytes tasks → made + (table_words + task_room (words_of (task_bytes bytes task))) ≤ exact_most
exact_task bytes tasks task made small le =
    let room = more_room bytes tasks task in
    let most = room_small bytes (tasks ++ task ∷ []) small in
    omega arith

pub exact_all : (bytes : List ℕ) (tasks : List Task) (made : ℕ) → AreSmall (words_in bytes tasks) → made ≤ table_words + tasks_room bytes tasks → made ≤ exact_most
exact_all bytes tasks made small le = let most = room_small bytes tasks small in omega arith

-- ---- the tables

total_then : (old has b : Bool) (m was now room more : ℕ) → has ≡ (old || b) → was ≤ cond old table_words 0 + room → now ≤ was + (new_total old has + more) → now ≤ cond has table_words 0 + (room + more)
total_then true true b m was now room more e le next = omega arith
total_then true false b m was now room more e le next = absurd (true≢false (sym e))
total_then false true b m was now room more e le next = omega arith
total_then false false b m was now room more e le next = omega arith

total_at_most : (has : Bool) → cond has table_words 0 ≤ table_words
total_at_most true = omega arith
total_at_most false = omega arith

halted_room : (old : Bool) (was now room more : ℕ) → was ≤ cond old table_words 0 + room → now ≤ was + (new_total old true + more) → now ≤ table_words + (room + more)
halted_room true was now room more le next = omega arith
halted_room false was now room more le next = omega arith

-- ---- places

at_more : (tasks : List Task) (task x : Task) (k : ℕ) → slice_get (tasks ++ task ∷ []) k ≡ Some x → (slice_get tasks k ≡ Some x) ⊎ ((k ≡ length tasks) × (x ≡ task))
at_more [] task x zero e = inr (refl, cc)
at_more [] task x (suc k) e = cc
at_more (y ∷ tasks) task x zero e = inl e
at_more (y ∷ tasks) task x (suc k) e = elim (at_more tasks task x k e) [
  | inl old ↦ inl old
  | inr new ↦ inr (ap suc new.0, new.1)
]

-- ---- workers

abbrev own_thread : (r : Resting) → first_thread r.away.seat.me.0.own ≡ r.away.thread
own_thread r = r.away.numbered

module _ (gate : Gate) (t : ℕ) (bytes : List ℕ) (tasks : List Task) (w after : Worker) (r next : Resting) (was_there : w.resting ≡ Some r) (is_there : after.resting ≡ Some next) (thread : after.thread ≡ w.thread)
    (of_gate : IsOf gate next.away.seat.table_id next.away.seat.me.0) (same : next.away.thread ≡ r.away.thread) (follows : ∥ Follows gate.map r.away.seat.me.0.own next.away.seat.me.0.own ∥₁)
    (unrefused : w.refused ≡ None) (had : HasCounted gate t bytes tasks w) where
  abbrev was : List Own
  was = r.away.seat.me.0.own

  abbrev now : List Own
  now = next.away.seat.me.0.own

  r_thread : r.away.thread ≡ t
  r_thread = (subst (IsThere gate t) was_there had.there).1

  first_is : first_thread was ≡ t
  first_is = own_thread r ∙ r_thread

  own_was : own_of w.resting ≡ was
  own_was = ap own_of was_there

  own_now : own_of after.resting ≡ now
  own_now = ap own_of is_there

  going : IsGoing gate.map.threads t bytes tasks was w.has_total
  going = subst (λ l. IsGoing gate.map.threads t bytes tasks l w.has_total) own_was (had.going unrefused)

  there : IsThere gate t after.resting
  there = subst (IsThere gate t) (sym is_there) (of_gate, same ∙ r_thread)

  settled : ∥ IsSettled gate.map (own_of after.resting) ∥₁
  settled = ∥∥₁_map follows (λ f. subst (IsSettled gate.map) (sym own_now) f.settled)

  module _ (task : Task) (small : AreSmall (words_in bytes (tasks ++ task ∷ []))) where
    abbrev words : List (List ℕ)
    words = words_of (task_bytes bytes task)

    going_more : (has : Bool) → CountsTask gate.map was now w.has_total words has → IsGoing gate.map.threads t bytes (tasks ++ task ∷ []) now has
    going_more has counts = record {
      has_is = counts.has_is ∙ ap (λ b. b || is_busy words) going.has_is ∙ sym (busy_cat (words_in bytes tasks) words) ∙ ap is_busy (sym (more_words bytes tasks task));
      made = let a = counts.made in let b = going.made in let size = more_size bytes tasks task in omega arith;
      room =
          let room = more_room bytes tasks task in
          let le = total_then w.has_total has (is_busy words) 0 (made_in (first_calls was)) (made_in (first_calls now)) (tasks_room bytes tasks) (task_room words) counts.has_is going.room counts.room in
          omega arith;
      none = counts.none;
      rest = subst (IsAtRest now has) (sym (more_words bytes tasks task)) (counts.rest (words_in bytes tasks) going.rest (task_few bytes tasks task small));
      epochs =
          subst (λ n. AreEpochs t n (bounds_in (first_calls now))) (sym (length-append tasks (task ∷ [])))
          (subst (λ u. AreEpochs u (length tasks + 1) (bounds_in (first_calls now))) first_is (counts.epochs (length tasks) own_epochs));
      epoch = λ k x at. elim (at_more tasks task x k at) [
        | inl old ↦ epochs_later gate.map was now t k (words_of (task_bytes bytes x)) follows (going.epoch k x old)
        | inr new ↦ subst (λ (y : ℕ × Task). ∥ HasEpoch gate.map.threads (first_past now) t y.0 (words_of (task_bytes bytes y.1)) ∥₁) (λ i. (sym new.0 i, sym new.1 i))
            (subst (λ u. ∥ HasEpoch gate.map.threads (first_past now) u (length tasks) words ∥₁) first_is (counts.epoch (length tasks) own_epochs))
      ];
    }
      where
        own_epochs : AreEpochs (first_thread was) (length tasks) (bounds_in (first_calls was))
        own_epochs = subst (λ u. AreEpochs u (length tasks) (bounds_in (first_calls was))) (sym first_is) going.epochs

    none_some : (P : Census → Type 0) → ForSome None P
    none_some P c e = cc

    -- there was room for all
    pub counted_task : (has : Bool) → after.has_total ≡ has → after.refused ≡ w.refused → CountsTask gate.map was now w.has_total words has → HasCounted gate t bytes (tasks ++ task ∷ []) after
    counted_task has has_is refused counts =
        let more : IsGoing gate.map.threads t bytes (tasks ++ task ∷ []) now has = going_more has counts in
        record {
          thread = thread ∙ had.thread;
          there = there;
          settled = settled;
          room = subst (λ (l : List Own). made_in (first_calls l) ≤ table_words + tasks_room bytes (tasks ++ task ∷ [])) (sym own_now) (let a = more.room in let b = total_at_most has in omega arith);
          halted = (length (tasks ++ task ∷ []), inl (subst (λ (l : List Own). AreEpochs t (length (tasks ++ task ∷ [])) (bounds_in (first_calls l))) (sym own_now) more.epochs));
          going = λ _. subst (λ (x : List Own × Bool). IsGoing gate.map.threads t bytes (tasks ++ task ∷ []) x.0 x.1) (λ i. (sym own_now i, sym has_is i)) more;
          refused = subst (λ (o : Option Census). ForSome o (λ census. (census.free ≡ 0) × HasRefused t (first_calls (own_of after.resting)) × (words_in bytes (tasks ++ task ∷ []) ≢ []))) (sym (refused ∙ unrefused)) (none_some (λ census. (census.free ≡ 0) × HasRefused t (first_calls (own_of after.resting)) × (words_in bytes (tasks ++ task ∷ []) ≢ [])));
        }

    -- there was none
    pub halted_task : (census : Census) → after.refused ≡ Some census → census.free ≡ 0 → HaltsTask was now w.has_total words → HasCounted gate t bytes (tasks ++ task ∷ []) after
    halted_task census refused none_free halts = record {
      thread = thread ∙ had.thread;
      there = there;
      settled = settled;
      room = subst (λ (l : List Own). made_in (first_calls l) ≤ table_words + tasks_room bytes (tasks ++ task ∷ [])) (sym own_now)
          (let room = more_room bytes tasks task in let le = halted_room w.has_total (made_in (first_calls was)) (made_in (first_calls now)) (tasks_room bytes tasks) (task_room words) going.room halts.room in omega arith);
      halted = (
        length tasks,
        subst (λ (l : List Own). AreHalted t (length tasks) (bounds_in (first_calls l))) (sym own_now)
            (subst (λ u. AreHalted u (length tasks) (bounds_in (first_calls now))) first_is (halts.bounds (length tasks) (subst (λ u. AreEpochs u (length tasks) (bounds_in (first_calls was))) (sym first_is) going.epochs))),
      );
      going = λ none. absurd (true≢false (ap is_some (sym refused ∙ none)));
      refused = λ c e. (ap (λ (x : Census). x.free) (some_same c census (sym e ∙ refused)) ∙ none_free, subst (λ (l : List Own). HasRefused t (first_calls l)) (sym own_now) (subst (λ u. HasRefused u (first_calls now)) first_is halts.refused), λ none. halts.busy (back_none (words_in bytes tasks) words (sym (more_words bytes tasks task) ∙ none)));
    }
      where
        some_same : (a b : Census) → Some a ≡ Some b → a ≡ b
        some_same a b e = cc

  -- the table was read
  pub read_counted : w.has_total ≡ true → after.has_total ≡ w.has_total → after.refused ≡ w.refused → AreSmall (words_in bytes tasks) → ReadsTotal was now → HasCounted gate t bytes tasks after
  read_counted has has_same refused small reads =
      let kept : IsGoing gate.map.threads t bytes tasks now w.has_total = record {
        has_is = going.has_is;
        made = subst (λ n. n ≤ OBJECTS_FOR_WORD * length (words_in bytes tasks)) (sym (ap (λ (o : Thread). o.made) reads.told)) going.made;
        room = let a = going.room in let b = reads.made in omega arith;
        none = reads.none;
        rest = subst (λ b. IsAtRest now b (words_in bytes tasks)) (sym has) (reads.rest (words_in bytes tasks) small.1 (subst (λ b. IsAtRest was b (words_in bytes tasks)) has going.rest));
        epochs = subst (AreEpochs t (length tasks)) (sym bounds_same) going.epochs;
        epoch = λ k x at. epochs_later gate.map was now t k (words_of (task_bytes bytes x)) follows (going.epoch k x at);
      } in record {
        thread = thread ∙ had.thread;
        there = there;
        settled = settled;
        room = subst (λ (l : List Own). made_in (first_calls l) ≤ table_words + tasks_room bytes tasks) (sym own_now) (let a = kept.room in let b = total_at_most w.has_total in omega arith);
        halted = (length tasks, inl (subst (λ (l : List Own). AreEpochs t (length tasks) (bounds_in (first_calls l))) (sym own_now) kept.epochs));
        going = λ _. subst (λ (x : List Own × Bool). IsGoing gate.map.threads t bytes tasks x.0 x.1) (λ i. (sym own_now i, sym has_same i)) kept;
        refused = λ c e. absurd (true≢false (ap is_some (sym e ∙ refused ∙ unrefused)));
      }
    where
      bounds_same : bounds_in (first_calls now) ≡ bounds_in (first_calls was)
      bounds_same = ap bounds_in reads.calls ∙ bounds_cat (first_calls was) reads.more ∙ ap (λ l. bounds_in (first_calls was) ++ l) reads.within ∙ append-nil (bounds_in (first_calls was))

-- a worker that found no room goes no further
pub skipped : (gate : Gate) (t : ℕ) (bytes : List ℕ) (tasks : List Task) (more : List Task) (w : Worker) → w.refused ≢ None → HasCounted gate t bytes tasks w → HasCounted gate t bytes (tasks ++ more) w
skipped gate t bytes tasks more w stopped had = record {
  thread = had.thread;
  there = had.there;
  settled = had.settled;
  room = let a = had.room in let room = rooms_cat bytes tasks more in omega arith;
  halted = had.halted;
  going = λ none. absurd (stopped none);
  refused = λ census e. let r = had.refused census e in (r.0, r.1, λ none. r.2 (front_none (words_in bytes tasks) (words_in bytes more) (sym (words_cat bytes tasks more) ∙ none)));
}
