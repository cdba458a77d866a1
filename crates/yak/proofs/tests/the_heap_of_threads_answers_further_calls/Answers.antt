use Rattle.std.proofs.Common.{rules, ◌≡◌, ℕ, Bool, true, List, sym, ap, ◌∙◌, subst}
use Rattle.std.specs.Prelude.{MatchBool, map, string_bytes}
use Rattle.heap_words.specs.declared.map.Areas.{Areas}
use Rattle.heap_words.specs.declared.memory.Image.{Image}
use Rattle.heap_words.specs.Contents.{contents}
use Rattle.yak_model.specs.Recorded.{SomeRecorded}
use Rattle.safepoint_gate.specs.declared.finished.Finished.{Finished}
use Rattle.safepoint_gate.specs.declared.rule.View.{View}
use Rattle.mutator.proofs.Stepped.{some_recorded}
use Rattle.yak.specs.declared.plain.KeptHeap.{KeptHeap}
use Rattle.yak.specs.declared.plain.KeptHeap.TheVariants.{Shared}
use Rattle.yak.specs.Endings.{Input, Output}
use Rattle.yak.specs.Keeping.{Keeping, nothing, alone, shared, kept_by}
use Rattle.yak.specs.Threaded.{AnswersThreads}
use Rattle.yak.proofs.tests.the_heap_of_threads_answers_further_calls.Goals as goal

-- the view that is kept, if one is
abbrev view_in : View → Keeping → View
view_in v nothing = v
view_in v (alone held) = v
view_in v (shared w) = w

holds : (P Q : Type 0) (b : Bool) → b ≡ true → MatchBool b P Q → P
holds P Q b e h = subst (λ c. MatchBool c P Q) e h

kept_recorded : (words_of : Image → List ℕ) (kept : KeptHeap) (finished : Finished) (number : ℕ) (input : Input) (output : Output) → AnswersThreads number input output (kept_by words_of kept) → number ≡ 0 → kept ≡ Shared finished
    → let v = finished.seat.me.0 in SomeRecorded v.map (contents v.map v.words)
kept_recorded words_of kept finished number input output answers zero is =
    let ends = answers.runs zero in
    let w = ends.2.1 in
    let v = finished.seat.me.0 in
    let same : w ≡ v = ap (view_in v) (sym ends.2.2 ∙ ap (kept_by words_of) is) in
    subst (λ (x : View). SomeRecorded x.map (contents x.map x.words)) same (some_recorded w.map (contents w.map w.words) w.history ends.2.3.run.explains)

pub over-core-requires-clause-stands : goal.over-core-requires-clause-stands
over-core-requires-clause-stands g c =
    let v = c.in-Shared.finished.seat.me.0 in
    let same = c.deref-2.ensures.value ∙ sym c.deref.ensures.value in
    let asked = ap (map string_bytes) same ∙ holds _ _ c.asks_threads.result (search rules) c.asks_threads.ensures in
    let zero : c.run-ended.result ≡ 0 = search rules in
    subst (λ (m : Areas). SomeRecorded m (contents m v.words)) (sym c.map-map.ensures) (kept_recorded _ _ c.in-Shared.finished _ _ _ (c.run-ended.ensures.threads asked) zero c.in-Shared.is)
