-- A count by workers that took all tasks of a text from a feed.
use Rattle.std.proofs.Common.{◌≡◌, ◌≤◌, ◌*◌, ℕ, List, [], length, map, sym, ap, ◌∙◌, subst}
use Rattle.std.specs.List.{range_with_len}
use Rattle.heap_words.specs.declared.map.Areas.{Areas}
use Rattle.heap_words.specs.Map.{page_words}
use Rattle.yak_model.specs.Room.{least_room}
use Rattle.yak_model.specs.Texts.{words_of}
use Rattle.safepoint_gate.specs.declared.gate.Gate.{Gate}
use Rattle.safepoint_gate.specs.declared.rule.View.{View}
use Rattle.task_feed.specs.Dealt.{IsDealt}
use Rattle.group_jobs.specs.Dealings.{row_at}
use Rattle.group_jobs.specs.Shared.{IsCountedFed}
use Rattle.group_jobs.specs.Tasks.{AreTasks}
use Rattle.group_jobs.specs.Workers.{HaveCounted, HaveLeastRoom, LeaveCounted, NoneRefused}
use Rattle.group_jobs.specs.declared.shares.Worker.{Worker}
use Rattle.group_jobs.specs.declared.tasks.Task.{Task}
use Rattle.group_jobs.proofs.Closing.{leaves_counted, leaves_room}
use Rattle.group_jobs.proofs.Paired.{rows_back}
use Rattle.group_jobs.proofs.SameTasks.{same_tasks}

module _ (gate : Gate) (size : Areas) (map_is : gate.map ≡ size) (lines : ℕ) (bytes : List ℕ) (tasks : List Task) (rows : List (List ℕ)) (left : List ℕ) (workers : List Worker) (cut : AreTasks bytes lines tasks)
    (have : HaveCounted gate bytes tasks (row_at rows) left workers) (many : length rows ≡ size.threads) (long : length workers ≡ size.threads) (unrefused : NoneRefused workers) where
  all_dealt : IsDealt (length tasks) rows []
  all_dealt = subst (λ (x : List (List ℕ) × List ℕ). IsDealt (length tasks) x.0 x.1) (λ i. ((ap (λ n. map (row_at rows) (range_with_len 0 n)) (long ∙ sym many) ∙ rows_back rows) i, have.whole unrefused i)) have.dealt

  pub fed_dealt : (others : List Task) → AreTasks bytes lines others → IsDealt (length others) rows []
  fed_dealt others are = subst (λ (ts : List Task). IsDealt (length ts) rows []) (same_tasks bytes lines tasks others cut are) all_dealt

  pub fed_counted : (v : View) → LeaveCounted gate workers v → IsCountedFed size lines bytes rows v
  fed_counted v leaves = record {
    tasks = tasks;
    many = many;
    dealt = all_dealt;
    counted = leaves_counted gate size map_is lines bytes tasks (row_at rows) left workers cut have (have.whole unrefused) v leaves;
  }

  pub fed_room : HaveLeastRoom gate workers → least_room (words_of bytes) ≤ page_words size * size.pages
  fed_room room = leaves_room gate size map_is lines bytes tasks (row_at rows) left workers cut have (have.whole unrefused) room
