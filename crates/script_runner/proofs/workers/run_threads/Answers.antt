use Rattle.std.proofs.Common.{◌≡◌, ◌<◌, ℕ, List, length, get_or, drop, sym, ap, ◌∙◌, subst, arith}
use Rattle.heap_words.specs.declared.map.Areas.{Areas}
use Rattle.object_layout.specs.declared.replies.Reply.{Reply}
use Rattle.mutator.specs.Resting.{seats_of}
use Rattle.script_text.specs.declared.scripts.Line.{Line}
use Rattle.script_text.specs.ScriptContents.{ScriptContents}
use Rattle.script_runner.specs.declared.workers.Worker.{Worker}
use Rattle.script_runner.specs.Threaded.{IsThreaded}
use Rattle.script_runner.specs.Workers.{AllThere, AreGathered, AreSeats}
use Rattle.script_runner.proofs.Runs.{runs_at}
use Rattle.script_runner.proofs.Hired.{front, ran_rooms, ran_seats, ran_there, threaded}
use Rattle.script_runner.proofs.workers.run_threads.Goals as goal

pub run_workers-requires-clause-calls : goal.run_workers-requires-clause-calls
run_workers-requires-clause-calls g c κs within =
    let same = c.as_slice-lines.ensures.value ∙ ap (λ (s : ScriptContents). s.lines) c.script.view_is in
    λ k d lt. (runs_at c.args.script.now c.as_slice-lines.result.now k d same lt c.requires.valid).number

pub gather-requires-clause-threads : goal.gather-requires-clause-threads
gather-requires-clause-threads g c =
    let gate = c.in-Ok.made.0.gate in
    let lines = c.as_slice-lines.result.now in
    let workers = c.run_workers.new.workers in
    let many : c.in_ok-workers.workers.len ≡ length workers = let a = c.in_ok-workers.workers.ok.0 in let b = c.run_workers.auto.workers in let d = ap length c.as_mut_slice.ensures.value in omega arith in
    let whole = front c.in_ok-workers.workers.len workers (drop (length workers) c.in_ok-workers.workers.items) many in
    let same = c.as_slice-lines.ensures.value ∙ ap (λ (s : ScriptContents). s.lines) c.script.view_is in
    let long : length c.as_slice.result.now ≡ length workers = ap length (c.as_slice.ensures.value ∙ whole) in
    let threads = ap (λ (s : ScriptContents). s.heap.threads) c.script.view_is in
    let hired = c.in_ok-workers.ensures.length in
    let count = c.in-Ok.ensures.count in
    let size = c.in_ok-workers.workers.ok.0 in
    λ k d lt. let line = runs_at c.args.script.now lines k d same lt c.requires.valid in (line.some, (let few = line.few in omega arith))

pub gather-requires-clause-rooms : goal.gather-requires-clause-rooms
gather-requires-clause-rooms g c =
    let gate = c.in-Ok.made.0.gate in
    let lines = c.as_slice-lines.result.now in
    let workers = c.run_workers.new.workers in
    let many : c.in_ok-workers.workers.len ≡ length workers = let a = c.in_ok-workers.workers.ok.0 in let b = c.run_workers.auto.workers in let d = ap length c.as_mut_slice.ensures.value in omega arith in
    let whole = front c.in_ok-workers.workers.len workers (drop (length workers) c.in_ok-workers.workers.items) many in
    subst (λ (ws : List Worker). (k : ℕ) (d : Worker) → k < length ws → length (get_or ws k d).replies.items ≡ length lines) (sym (c.as_slice.ensures.value ∙ whole)) (ran_rooms gate lines workers c.run_workers.ensures.ran)

pub dismiss-requires-clause-there : goal.dismiss-requires-clause-there
dismiss-requires-clause-there g c =
    let gate = c.in-Ok.made.0.gate in
    let lines = c.as_slice-lines.result.now in
    let workers = c.run_workers.new.workers in
    let many : c.in_ok-workers.workers.len ≡ length workers = let a = c.in_ok-workers.workers.ok.0 in let b = c.run_workers.auto.workers in let d = ap length c.as_mut_slice.ensures.value in omega arith in
    let whole = front c.in_ok-workers.workers.len workers (drop (length workers) c.in_ok-workers.workers.items) many in
    subst AllThere (sym whole) (ran_there gate lines workers c.run_workers.ensures.ran)

pub finish-requires-clause-seats : goal.finish-requires-clause-seats
finish-requires-clause-seats g c =
    let gate = c.in-Ok.made.0.gate in
    let lines = c.as_slice-lines.result.now in
    let workers = c.run_workers.new.workers in
    let many : c.in_ok-workers.workers.len ≡ length workers = let a = c.in_ok-workers.workers.ok.0 in let b = c.run_workers.auto.workers in let d = ap length c.as_mut_slice.ensures.value in omega arith in
    let whole = front c.in_ok-workers.workers.len workers (drop (length workers) c.in_ok-workers.workers.items) many in
    let seats = seats_of c.dismiss.new.back.items in
    ran_seats gate lines workers c.run_workers.ensures.ran seats (c.in_ok-dismiss.ensures.length ∙ ap length whole) (subst (λ (ws : List Worker). AreSeats ws seats) whole c.in_ok-dismiss.ensures.each)

pub returns : goal.returns
returns g c =
    let gate = c.in-Ok.made.0.gate in
    let lines = c.as_slice-lines.result.now in
    let workers = c.run_workers.new.workers in
    let many : c.in_ok-workers.workers.len ≡ length workers = let a = c.in_ok-workers.workers.ok.0 in let b = c.run_workers.auto.workers in let d = ap length c.as_mut_slice.ensures.value in omega arith in
    let whole = front c.in_ok-workers.workers.len workers (drop (length workers) c.in_ok-workers.workers.items) many in
    let same = c.as_slice-lines.ensures.value ∙ ap (λ (s : ScriptContents). s.lines) c.script.view_is in
    let size = c.args.script.now.heap in
    let seats = seats_of c.dismiss.new.back.items in
    let replies = c.gather.new.replies in
    let given : length c.as_mut_slice-2.result.now ≡ length lines = ap length c.as_mut_slice-2.ensures.value ∙ c.in_ok-replies.ensures in
    let each : length replies ≡ length lines = c.gather.auto.replies ∙ given in
    let room : c.in_ok-replies.replies.len ≡ length replies = let a = c.in_ok-replies.replies.ok.0 in let b = c.gather.auto.replies in let d = ap length c.as_mut_slice-2.ensures.value in omega arith in
    let all = front c.in_ok-replies.replies.len replies (drop (length replies) c.in_ok-replies.replies.items) room in
    let map = c.in-Ok.ensures.map in
    let hired : length workers ≡ gate.map.threads =
    c.run_workers.auto.workers ∙ (ap length c.as_mut_slice.ensures.value ∙ (c.in_ok-workers.ensures.length ∙ (c.in-Ok.ensures.count ∙ sym (ap (λ (m : Areas). m.threads) map)))) in
    let run =
    threaded gate lines workers c.run_workers.ensures.ran size replies seats c.finish.result.seat.me.0 c.finish.ensures.map
    (ap (λ (m : Areas). m.pages) map ∙ ap (λ (s : ScriptContents). s.heap.pages) c.script.view_is)
    (ap (λ (m : Areas). m.threads) map ∙ ap (λ (s : ScriptContents). s.heap.threads) c.script.view_is)
    hired (c.in_ok-dismiss.ensures.length ∙ ap length whole) each
    (subst (λ (ws : List Worker). AreSeats ws seats) whole c.in_ok-dismiss.ensures.each)
    (subst (λ (ws : List Worker). AreGathered lines ws replies) (c.as_slice.ensures.value ∙ whole) c.gather.ensures)
    c.finish.ensures.finished
    in
    subst (λ (y : List Line × List Reply). IsThreaded size y.0 y.1 c.finish.result.seat.me.0) (λ i. (same i, sym all i)) run
