-- The own lists of workers that have rested are the parts of the one history.
use Rattle.std.proofs.Common.{◌≡◌, ◌≢◌, ℕ, ◌+◌, ◌≤◌, ◌<◌, List, [], ◌∷◌, length, get_or, refl, sym, ap, ◌∙◌, subst, arith, Option}
use Rattle.object_layout.specs.declared.replies.Census.{Census}
use Rattle.heap_words.specs.declared.map.Areas.{Areas}
use Rattle.yak_model.specs.declared.history.Entry.{Entry}
use Rattle.yak_model.specs.History.{part}
use Rattle.yak_model.specs.Room.{table_words}
use Rattle.safepoint_gate.specs.declared.gate.Gate.{Gate}
use Rattle.safepoint_gate.specs.declared.rule.Own.{Own}
use Rattle.safepoint_gate.specs.declared.rule.View.{View}
use Rattle.safepoint_gate.specs.declared.seats.Away.{Away}
use Rattle.safepoint_gate.specs.Rule.{AllMine}
use Rattle.safepoint_gate.specs.Steps.{first_calls, first_thread}
use Rattle.mutator.specs.declared.resting.Resting.{Resting}
use Rattle.mutator.specs.Finishing.{Finishes}
use Rattle.group_jobs.specs.Dealings.{tasks_at}
use Rattle.group_jobs.specs.Epochs.{AreHalted, bounds_in}
use Rattle.group_jobs.specs.Followed.{made_in}
use Rattle.group_jobs.specs.Tallies.{tasks_room, words_in}
use Rattle.group_jobs.specs.Workers.{AllCountedBy, AreSeats, HasRefused, IsThere, SomeRefused, own_of}
use Rattle.group_jobs.specs.declared.shares.Worker.{Worker}
use Rattle.group_jobs.specs.declared.tasks.Task.{Task}
use Rattle.group_jobs.proofs.Hired.{element}

-- the part of a seat's first thread
first_part : (m : Areas) (history : List Entry) (own : List Own) (k : ℕ) → AllMine m history own → first_thread own ≡ k + 1 → part history (k + 1) ≡ first_calls own
first_part m history [] k mine number = absurd (omega arith)
first_part m history (o ∷ os) k mine number = ap (part history) (sym number) ∙ (mine 0 o refl).calls

module _ (gate : Gate) (bytes : List ℕ) (tasks : List Task) (row : ℕ → List ℕ) (workers : List Worker)
    (counted : AllCountedBy gate bytes tasks row workers)
    (seats : List Away) (long : length seats ≡ length workers) (are : AreSeats workers seats) (v : View) (finishes : Finishes v seats) where
  -- each worker's own list
  pub worker_calls : (k : ℕ) (d : Worker) → k < length workers → part v.history (k + 1) ≡ first_calls (own_of (get_or workers k d).resting)
  worker_calls k d lt =
      let seat = element seats k (omega (arith, lt, long)) in
      let at = are k d seat.0 lt in
      let same : seat.0 ≡ at.0.away = sym (seat.1 seat.0) ∙ at.2 in
      let there = subst (IsThere gate (k + 1)) at.1 (counted k d lt).there in
      let mine = subst (λ (a : Away). AllMine v.map v.history a.seat.me.0.own) same (finishes.seats_mine k seat.0 seat.2) in
      first_part v.map v.history at.0.away.seat.me.0.own k mine (at.0.away.numbered ∙ there.1) ∙ ap (λ (r : Option Resting). first_calls (own_of r)) (sym at.1)

  -- the words of the objects that it made
  pub worker_room : (k : ℕ) → k < length workers → made_in (part v.history (k + 1)) ≤ table_words + tasks_room bytes (tasks_at tasks (row k))
  worker_room k lt =
      let w = element workers k lt in
      subst (λ (l : List Entry). made_in l ≤ table_words + tasks_room bytes (tasks_at tasks (row k))) (sym (worker_calls k w.0 lt)) (counted k w.0 lt).room

  -- its epochs
  pub worker_halted : (k : ℕ) → k < length workers → (n : ℕ) × AreHalted (k + 1) n (bounds_in (part v.history (k + 1)))
  worker_halted k lt =
      let w = element workers k lt in
      subst (λ (l : List Entry). (n : ℕ) × AreHalted (k + 1) n (bounds_in l)) (sym (worker_calls k w.0 lt)) (counted k w.0 lt).halted

  -- where a worker found no room, no page was free, and its own list has the call
  pub worker_refused : (census : Census) → SomeRefused workers census → (census.free ≡ 0) × ((k : ℕ) × (k < length workers) × HasRefused (k + 1) (part v.history (k + 1)) × (words_in bytes (tasks_at tasks (row k)) ≢ []))
  worker_refused census (k, lt, is) =
      let w = element workers k lt in
      let found = (counted k w.0 lt).refused census (is w.0) in
      (found.0, (k, lt, subst (HasRefused (k + 1)) (sym (worker_calls k w.0 lt)) found.1, found.2))
