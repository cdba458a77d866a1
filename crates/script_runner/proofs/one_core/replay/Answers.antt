use Rattle.std.proofs.Common.{ℕ, ap, subst, ◌∙◌}
use Rattle.std.proofs.lemmas.List.{take_more}
use Rattle.heap_words.specs.declared.map.Areas.{Areas}
use Rattle.object_layout.specs.declared.calls.Call.TheVariants.{Int}
use Rattle.heap_words.specs.Contents.{contents}
use Rattle.yak_model.specs.Recorded.{StandsRecorded}
use Rattle.script_text.specs.ScriptContents.{ScriptContents}
use Rattle.yak_model.specs.Graph.{standard_limits}
use Rattle.yak_model.specs.Spaces.{opening_spaces}
use Rattle.script_runner.specs.Runs.{held_of}
use Rattle.script_runner.proofs.Runs.{run_more, run_opened, runs_at}
use Rattle.script_runner.proofs.one_core.replay.Goals as goal

pub lines-init : goal.lines-init
lines-init c =
    rw c.new-replies.ensures.items (run_opened c.agreement.ensures c.args.script.now.heap c.in-Ok.core.map c.in-Ok.core.words.words.items
    (ap (λ (m : Areas). m.pages) c.in-Ok.ensures.map ∙ ap (λ (s : ScriptContents). s.heap.pages) c.script.view_is)
    (ap (λ (m : Areas). m.threads) c.in-Ok.ensures.map ∙ ap (λ (s : ScriptContents). s.heap.threads) c.script.view_is)
    (subst (λ (n : ℕ). StandsRecorded c.in-Ok.core.map (contents c.in-Ok.core.map c.in-Ok.core.words.words.items) (opening_spaces standard_limits n)) (ap (λ (s : ScriptContents). s.heap.threads) c.script.view_is) c.in-Ok.ensures.opening))

pub lines-preserved : goal.lines-preserved
lines-preserved c =
    rw (c.in_ok-add.ensures, take_more c.deref-line-items.result.now c.lines.line-index (record { number = 0; thread = 0; call = Int 0 }) c.lines-test.true)
    (run_more c.agreement.ensures c.uniqueness.ensures c.args.script.now.heap _ c.lines.replies.items c.run_line-reply.result
    (held_of c.lines.core.map c.lines.core.words.words.items) (held_of c.run_line-reply.new.core.map c.run_line-reply.new.core.words.words.items) _
    c.run_line-reply.ensures.map c.lines.invariant c.run_line-reply.ensures.runs)

pub run_line-reply-requires-clause-thread : goal.run_line-reply-requires-clause-thread
run_line-reply-requires-clause-thread c =
    let line = runs_at c.args.script.now c.deref-line-items.result.now c.lines.line-index (record { number = 0; thread = 0; call = Int 0 })
    (c.deref-line-items.ensures.value ∙ ap (λ (s : ScriptContents). s.lines) c.script.view_is) c.lines-test.true c.requires.valid in
    (line.some, rw c.lines.invariant.run.heap.threads line.few)

pub run_line-reply-requires-clause-number : goal.run_line-reply-requires-clause-number
run_line-reply-requires-clause-number c =
    (runs_at c.args.script.now c.deref-line-items.result.now c.lines.line-index (record { number = 0; thread = 0; call = Int 0 })
    (c.deref-line-items.ensures.value ∙ ap (λ (s : ScriptContents). s.lines) c.script.view_is) c.lines-test.true c.requires.valid).number
