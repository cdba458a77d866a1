-- What a count by several workers leaves, worker by worker, in the one history.
use Rattle.std.proofs.Common.{◌≡◌, ◌≢◌, ℕ, ◌+◌, ◌-◌, ◌*◌, ◌<◌, ◌≤◌, Bool, true, cond, List, [], ◌∷◌, map, Some, length, get_or, sum_by, refl, sym, ap, ◌∙◌, subst, arith}
use Rattle.std.specs.List.{range_with_len, slice_get}
use Rattle.std.specs.Ordering.{eq_by_cmp}
use Rattle.std.proofs.Math.Logic.{∥∥₁_elim, ∥∥₁_map}
use Rattle.std.proofs.Math.Nat.{ℕ_set}
use Rattle.epoch_lattice.specs.declared.Space.TheVariants.{Control}
use Rattle.object_layout.specs.declared.names.Name.{Name}
use Rattle.heap_words.specs.declared.map.Areas.{Areas}
use Rattle.heap_words.specs.Contents.{contents}
use Rattle.heap_words.specs.Map.{HasThread, IsAreas, page_words}
use Rattle.yak_model.specs.declared.history.Entry.{Entry}
use Rattle.yak_model.specs.Graph.{Thread, standard_limits, thread_of}
use Rattle.yak_model.specs.History.{part}
use Rattle.yak_model.specs.Names.{root_name}
use Rattle.yak_model.specs.Room.{least_room, root_words}
use Rattle.yak_model.specs.Spaces.{IsPresent, SpaceState, content_at, home_of, spaces}
use Rattle.yak_model.specs.Tables.{IsCountTable}
use Rattle.yak_model.specs.Texts.{places_of, word_cmp, word_counts, words_of}
use Rattle.yak_model.proofs.Stacks.{is_thread}
use Rattle.safepoint_gate.specs.declared.gate.Gate.{Gate}
use Rattle.safepoint_gate.specs.declared.rule.Own.{Own}
use Rattle.safepoint_gate.specs.declared.rule.View.{View}
use Rattle.safepoint_gate.specs.declared.seats.Away.{Away}
use Rattle.safepoint_gate.specs.Rule.{AllMine, Mine}
use Rattle.safepoint_gate.specs.Steps.{first_thread}
use Rattle.safepoint_gate.proofs.Flying.{only}
use Rattle.mutator.specs.Finishing.{Finishes}
use Rattle.heap_core.proofs.RoomsSums.{sum-mapped}
use Rattle.heap_core.proofs.Weights.{weight}
use Rattle.task_feed.specs.Dealt.{IsDealt}
use Rattle.group_jobs.specs.Dealings.{tasks_at, words_at}
use Rattle.group_jobs.specs.Epochs.{AreEpochs, bounds_in}
use Rattle.group_jobs.specs.Shared.{HasEpoch, HoldsTotalOf, IsCountedDealt}
use Rattle.group_jobs.specs.Tallies.{is_busy, words_in}
use Rattle.group_jobs.specs.Tasks.{AreTasks, task_bytes}
use Rattle.group_jobs.specs.Workers.{AllCountedBy, AreSeats, IsAtRest, IsGoing, IsThere, NoneRefused, own_of}
use Rattle.group_jobs.specs.declared.shares.Worker.{Worker}
use Rattle.group_jobs.specs.declared.tasks.Task.{Task}
use Rattle.group_jobs.proofs.Dealing.{dealt_words_sum, sum_flat}
use Rattle.group_jobs.proofs.Hired.{element}
use Rattle.group_jobs.proofs.Least.{present-within}
use Rattle.group_jobs.proofs.LeastShared.{others_there, room_shared, with_root}
use Rattle.group_jobs.proofs.ReachedTables.{all_control, holds_total, root_weighs, total, total_beside}
use Rattle.group_jobs.proofs.Sharing.{epoch_later}

-- ---- one worker

busy : (words : List (List ℕ)) → words ≢ [] → is_busy words ≡ true
busy [] some = absurd (some refl)
busy (word ∷ words) some = refl

-- A worker that counted the words of these tasks, as the history has its thread.
record IsMember (v : View) (t : ℕ) (bytes : List ℕ) (tasks : List Task) : Type 0 where
  own : Own
  thread : own.thread ≡ t
  mine : Mine v.map v.history own
  has : Bool
  going : IsGoing v.map.threads t bytes tasks (own ∷ []) has

module _ (v : View) (t : ℕ) (bytes : List ℕ) (tasks : List Task) (member : IsMember v t bytes tasks) where
  abbrev own : Own
  own = member.own

  abbrev words : List (List ℕ)
  words = words_in bytes tasks

  calls : part v.history t ≡ own.calls
  calls = ap (part v.history) (sym member.thread) ∙ member.mine.calls

  epochs_of : AreEpochs t (length tasks) (bounds_in (part v.history t))
  epochs_of = subst (λ (l : List Entry). AreEpochs t (length tasks) (bounds_in l)) (sym calls) member.going.epochs

  epoch_of : (k : ℕ) (task : Task) → slice_get tasks k ≡ Some task → ∥ HasEpoch v.map.threads v.history t k (words_of (task_bytes bytes task)) ∥₁
  epoch_of k task at = ∥∥₁_map (member.going.epoch k task at) (λ e. epoch_later v.map.threads own.past v.history t k (words_of (task_bytes bytes task)) member.mine.goes_on e)

  at_rest : words ≢ [] → IsAtRest (own ∷ []) true words
  at_rest some = subst (λ b. IsAtRest (own ∷ []) b words) (member.going.has_is ∙ busy words some) member.going.rest

  module _ (s : SpaceState) (leaves : spaces standard_limits v.map.threads v.history s) where
    outside_of : (thread_of s.graph t).depth ≡ 0
    outside_of = ap (λ u. (thread_of s.graph u).depth) (sym member.thread) ∙ ap (λ (x : Thread). x.depth) (member.mine.has s leaves) ∙ member.going.rest.outside

    module _ (long : length s.graph.threads ≡ v.map.threads) where
      root_of : weight (content_at s.graph root_name) ≡ root_words
      root_of = root_weighs v.map v.history s leaves own member.mine long member.has words member.going.rest

      total_of : words ≢ [] → ((n : Name) → IsPresent s n → home_of s n ≡ Some Control) → HoldsTotalOf s t words
      total_of some control = subst (λ u. HoldsTotalOf s u words) member.thread (holds_total v.map v.history s leaves own member.mine long words (at_rest some) control)

      -- the total among the objects with the root as it was made
      total_with_root : words ≢ [] → (root : weight (content_at s.graph root_name) ≡ root_words) → (name : Name) × IsCountTable (with_root s.graph.objects root) name (word_counts words)
      total_with_root some root = (
        total v.map v.history s leaves own member.mine long words (at_rest some),
        total_beside v.map v.history s leaves own member.mine long words (at_rest some) (with_root s.graph.objects root) (others_there s.graph.objects root),
      )

-- ---- the words of all workers

pub dealt_places : (bytes : List ℕ) (lines : ℕ) (tasks : List Task) (row : ℕ → List ℕ) (workers : ℕ) → AreTasks bytes lines tasks → IsDealt (length tasks) (map row (range_with_len 0 workers)) [] → (word : List ℕ)
    → places_of (words_of bytes) word ≡ sum_by (λ worker. places_of (words_at bytes tasks (row worker)) word) (range_with_len 0 workers)
dealt_places bytes lines tasks row workers cut dealt word =
    let g : List ℕ → ℕ = λ (other : List ℕ). cond (eq_by_cmp word_cmp other word) 1 0 in
    let rows : List (List ℕ) = map row (range_with_len 0 workers) in
    sym (dealt_words_sum g bytes lines tasks rows cut dealt)
    ∙ sum_flat g (words_at bytes tasks) rows
    ∙ sum-mapped (λ (r : List ℕ). sum_by g (words_at bytes tasks r)) row (range_with_len 0 workers)

-- ---- all workers

module _ (gate : Gate) (bytes : List ℕ) (tasks : List Task) (row : ℕ → List ℕ) (team : List Worker) (counted : AllCountedBy gate bytes tasks row team) (unrefused : NoneRefused team)
    (seats : List Away) (are : AreSeats team seats) (count : length seats ≡ length team) (v : View) (finishes : Finishes v seats) (same_map : v.map ≡ gate.map) (full : length team ≡ v.map.threads) where
  member : (k : ℕ) → k < v.map.threads → IsMember v (k + 1) bytes (tasks_at tasks (row k))
  member k within =
      let lt : k < length team = omega (arith, within, full) in
      let w = (element team k lt).0 in
      let a = element seats k (omega (arith, lt, count)) in
      let seat = are k w a.0 lt in
      let own : List Own = seat.0.away.seat.me.0.own in
      let had = counted k w lt in
      let own_is : own_of (get_or team k w).resting ≡ own = ap own_of seat.1 in
      let one : length own ≡ 1 = ∥∥₁_elim had.settled (ℕ_set (length own) 1) (λ h. ap (λ (l : List Own). length l) (sym own_is) ∙ h.one) in
      let o = only own one in
      let there : IsThere gate (k + 1) (Some seat.0) = subst (IsThere gate (k + 1)) seat.1 had.there in
      let mine : AllMine v.map v.history own = subst (λ (x : Away). AllMine v.map v.history x.seat.me.0.own) (sym (a.1 a.0) ∙ seat.2) (finishes.seats_mine k a.0 a.2) in
      record {
        own = o.0;
        thread = ap first_thread (sym o.1) ∙ seat.0.away.numbered ∙ there.1;
        mine = subst (AllMine v.map v.history) o.1 mine 0 o.0 refl;
        has = (get_or team k w).has_total;
        going = subst (λ (x : ℕ × List Own). IsGoing x.0 (k + 1) bytes (tasks_at tasks (row k)) x.1 (get_or team k w).has_total) (λ i. (ap (λ (m : Areas). m.threads) (sym same_map) i, (own_is ∙ o.1) i)) (had.going (unrefused k w lt));
      }

  pub all_epochs : (worker : ℕ) → worker < v.map.threads → AreEpochs (worker + 1) (length (tasks_at tasks (row worker))) (bounds_in (part v.history (worker + 1)))
  all_epochs worker within = epochs_of v (worker + 1) bytes (tasks_at tasks (row worker)) (member worker within)

  pub each_epoch : (worker k : ℕ) (task : Task) → worker < v.map.threads → slice_get (tasks_at tasks (row worker)) k ≡ Some task → ∥ HasEpoch v.map.threads v.history (worker + 1) k (words_of (task_bytes bytes task)) ∥₁
  each_epoch worker k task within at = epoch_of v (worker + 1) bytes (tasks_at tasks (row worker)) (member worker within) k task at

  abbrev state : SpaceState
  state = finishes.explains.state

  long : length state.graph.threads ≡ v.map.threads
  long = is_thread v.map (contents v.map v.words) state finishes.explains.stands

  all_outside : (t : ℕ) → HasThread v.map t → (thread_of state.graph t).depth ≡ 0
  all_outside t thread =
      let number : (t - 1) + 1 ≡ t = omega (arith, thread.0) in
      subst (λ u. (thread_of state.graph u).depth ≡ 0) number
      (outside_of v ((t - 1) + 1) bytes (tasks_at tasks (row (t - 1))) (member (t - 1) (omega (arith, thread.0, thread.1))) state finishes.explains.leaves)

  module _ (areas : IsAreas v.map) where
    pub all_totals : (worker : ℕ) → worker < v.map.threads → words_at bytes tasks (row worker) ≢ [] → HoldsTotalOf state (worker + 1) (words_at bytes tasks (row worker))
    all_totals worker within some =
        total_of v (worker + 1) bytes (tasks_at tasks (row worker)) (member worker within) state finishes.explains.leaves long some
        (all_control v.map (contents v.map v.words) state finishes.explains.stands areas all_outside)

    module _ (lines : ℕ) (cut : AreTasks bytes lines tasks) (dealt : IsDealt (length tasks) (map row (range_with_len 0 v.map.threads)) []) where
      pub room_left : least_room (words_of bytes) ≤ page_words v.map * v.map.pages
      room_left =
          let root = root_of v 1 bytes (tasks_at tasks (row 0)) (member 0 (omega (arith, areas.2))) state finishes.explains.leaves long in
          let least = room_shared state.graph.objects root (words_of bytes) v.map.threads (λ worker. words_at bytes tasks (row worker)) (dealt_places bytes lines tasks row v.map.threads cut dealt)
          (λ worker within some. total_with_root v (worker + 1) bytes (tasks_at tasks (row worker)) (member worker within) state finishes.explains.leaves long some root) in
          omega (arith, least, present-within v.map (contents v.map v.words) state finishes.explains.stands)

      pub counted_dealt : IsCountedDealt v.map lines bytes tasks row v
      counted_dealt = record {
        map_is = refl;
        explains = finishes.explains;
        mine = finishes.mine;
        cut = cut;
        epochs = all_epochs;
        counted = each_epoch;
        totals = all_totals;
        sums = dealt_places bytes lines tasks row v.map.threads cut dealt;
      }
