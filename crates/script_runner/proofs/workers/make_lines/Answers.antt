use Rattle.std.proofs.Common.{◌+◌, ◌++◌, ◌∷◌, [], List, length, slice_index_or, take, sym, ap, ◌∙◌, subst, length-set}
use Rattle.object_layout.specs.declared.replies.Reply.{Reply}
use Rattle.yak_model.specs.declared.history.Entry.{Entry}
use Rattle.yak_model.specs.History.{part}
use Rattle.mutator.specs.declared.resting.Resting.{Resting}
use Rattle.safepoint_gate.specs.Seats.{IsOf}
use Rattle.safepoint_gate.specs.Steps.{first_calls}
use Rattle.script_runner.specs.Runs.{all_said, calls_of, said}
use Rattle.script_runner.proofs.Worked.{no_line, said_other, said_own}
use Rattle.script_runner.proofs.workers.make_lines.Goals.{then-line-thread, else-line-thread}
use Rattle.script_runner.proofs.workers.make_lines.Goals as goal

pub loop-i-preserved : goal.loop-i-preserved
loop-i-preserved g c =
    let inv = c.loop-i.invariant in
    let i = c.loop-i.i in
    let lines = c.args.lines.now in
    let thread = c.thread-thread.result in
    elim c.if-line-thread.branch [
      | then-line-thread w ↦
          let made = w.make_line-next.ensures in
          let next = w.resting-is in
          let reply = w.make_line-next.result.1 in
          record {
            heap = subst (λ (r : Resting). IsOf c.args.heap.now.gate r.away.seat.table_id r.away.seat.me.0) (sym next) made.heap;
            thread = ap (λ (r : Resting). r.away.thread) next ∙ (made.thread ∙ inv.thread);
            told = ap (λ (r : Resting). calls_of (first_calls r.away.seat.me.0.own)) next
                ∙ (made.told
                ∙ (ap (λ (l : List Entry). l ++ said (slice_index_or lines i no_line) reply ∷ []) inv.told
                ∙ (sym (said_own lines c.loop-i.replies i thread reply c.loop-i-test.true inv.room w.if-line-thread.true)
                ∙ ap (λ (rs : List Reply). part (all_said (take (i + 1) lines) (take (i + 1) rs)) thread) (sym w.replies-is))));
            room = ap length w.replies-is ∙ (length-set c.loop-i.replies i reply ∙ inv.room);
          }
      | else-line-thread w ↦
          let next = w.resting-is in
          record {
            heap = subst (λ (r : Resting). IsOf c.args.heap.now.gate r.away.seat.table_id r.away.seat.me.0) (sym next) inv.heap;
            thread = ap (λ (r : Resting). r.away.thread) next ∙ inv.thread;
            told = ap (λ (r : Resting). calls_of (first_calls r.away.seat.me.0.own)) next
                ∙ (inv.told
                ∙ (sym (said_other lines c.loop-i.replies i thread c.loop-i-test.true inv.room w.if-line-thread.false)
                ∙ ap (λ (rs : List Reply). part (all_said (take (i + 1) lines) (take (i + 1) rs)) thread) (sym w.replies-is)));
            room = ap length w.replies-is ∙ inv.room;
          }
    ]
