-- What is told of a count after all workers have rested, for the text that they counted.
use Rattle.std.proofs.Common.{◌≡◌, ◌≤◌, ◌*◌, ℕ, List, [], Result, IfOk, IfErr, length, refl, subst}
use Rattle.heap_words.specs.declared.map.Areas.{Areas}
use Rattle.heap_words.specs.Map.{page_words}
use Rattle.yak_model.specs.Room.{least_room}
use Rattle.yak_model.specs.Texts.{words_of}
use Rattle.safepoint_gate.specs.declared.finished.Finished.{Finished}
use Rattle.safepoint_gate.specs.declared.gate.Gate.{Gate}
use Rattle.safepoint_gate.specs.declared.rule.View.{View}
use Rattle.task_feed.specs.Shares.{share_of}
use Rattle.group_jobs.specs.Shared.{IsCountedDealt, IsCountedShared, TellsWhyShared}
use Rattle.group_jobs.specs.Tasks.{AreTasks}
use Rattle.group_jobs.specs.Workers.{HaveCounted, HaveLeastRoom, LeaveCounted, TellWhy}
use Rattle.group_jobs.specs.declared.count.CountError.{CountError}
use Rattle.group_jobs.specs.declared.many.Counts.{Counts}
use Rattle.group_jobs.specs.declared.shares.Worker.{Worker}
use Rattle.group_jobs.specs.declared.tasks.Task.{Task}
use Rattle.group_jobs.proofs.Working.{map_err, map_ok}

module _ (gate : Gate) (size : Areas) (map_is : gate.map ≡ size) (lines : ℕ) (bytes : List ℕ) (tasks : List Task) (row : ℕ → List ℕ) (left : List ℕ) (workers : List Worker) (cut : AreTasks bytes lines tasks)
    (have : HaveCounted gate bytes tasks row left workers) where
  all_counted : left ≡ [] → HaveCounted gate bytes tasks row [] workers
  all_counted none = subst (λ l. HaveCounted gate bytes tasks row l workers) none have

  pub leaves_counted : left ≡ [] → (v : View) → LeaveCounted gate workers v → IsCountedDealt size lines bytes tasks row v
  leaves_counted none v leaves = subst (λ m. IsCountedDealt m lines bytes tasks row v) map_is (leaves lines bytes tasks row cut (all_counted none))

  pub leaves_room : left ≡ [] → HaveLeastRoom gate workers → least_room (words_of bytes) ≤ page_words size * size.pages
  leaves_room none room = subst (λ (m : Areas). least_room (words_of bytes) ≤ page_words m * m.pages) map_is (room bytes tasks row (all_counted none))

  pub tells_why : (error : CountError Finished) → TellWhy gate workers error → TellsWhyShared size lines bytes error
  tells_why error why = subst (λ m. TellsWhyShared m lines bytes error) map_is (why lines bytes tasks row left cut have)

-- the same of the answer of a count by fixed shares
module _ (gate : Gate) (size : Areas) (map_is : gate.map ≡ size) (lines : ℕ) (bytes : List ℕ) (tasks : List Task) (workers : List Worker) (cut : AreTasks bytes lines tasks)
    (have : HaveCounted gate bytes tasks (share_of (length tasks) size.threads) [] workers) (r : Result Counts (CountError Finished)) where
  pub shared_counted : IfOk r (λ counts. LeaveCounted gate workers counts.finished.seat.me.0) → IfOk r (λ counts. IsCountedShared size lines bytes counts.finished.seat.me.0)
  shared_counted =
      map_ok r (λ (counts : Counts). LeaveCounted gate workers counts.finished.seat.me.0) (λ (counts : Counts). IsCountedShared size lines bytes counts.finished.seat.me.0)
      (λ counts leaves. (tasks, leaves_counted gate size map_is lines bytes tasks (share_of (length tasks) size.threads) [] workers cut have refl counts.finished.seat.me.0 leaves))

  pub shared_room : IfOk r (λ _. HaveLeastRoom gate workers) → IfOk r (λ _. least_room (words_of bytes) ≤ page_words size * size.pages)
  shared_room =
      map_ok r (λ (counts : Counts). HaveLeastRoom gate workers) (λ (counts : Counts). least_room (words_of bytes) ≤ page_words size * size.pages)
      (λ counts room. leaves_room gate size map_is lines bytes tasks (share_of (length tasks) size.threads) [] workers cut have refl room)

  pub shared_why : IfErr r (λ error. TellWhy gate workers error) → IfErr r (λ error. TellsWhyShared size lines bytes error)
  shared_why =
      map_err r (λ (error : CountError Finished). TellWhy gate workers error) (λ (error : CountError Finished). TellsWhyShared size lines bytes error)
      (λ error why. tells_why gate size map_is lines bytes tasks (share_of (length tasks) size.threads) [] workers cut have error why)
