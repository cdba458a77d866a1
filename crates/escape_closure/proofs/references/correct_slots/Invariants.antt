use Rattle.std.proofs.Common.{◌≡◌, ◌≤◌, ◌<◌, ◌+◌, ◌-◌, ◌*◌, ℕ, List, length}
use Rattle.std.specs.Option.{MatchOption}
use Rattle.object_layout.specs.declared.values.Addr.{Addr}
use Rattle.heap_words.specs.Map.{heap_length}
use Rattle.heap_words.specs.Contents.{contents, Sound}
use Rattle.yak_model.specs.Plans.{forward}
use Rattle.relocation.specs.Moves.{Numbered, move_at}
use Rattle.remember_sets.specs.Filed.{chain}
use Rattle.escape_closure.specs.Referring.{SlotsCorrected}
use Rattle.escape_closure.proofs.Walked.{StandsAt, walked}
use Rattle.escape_closure.proofs.references.correct_slots.Given as goal

abbrev pub invariant-loop-next : goal.invariant-loop-next
invariant-loop-next g l =
    let c = contents l.map (g.W.Words.words l.fn.words) in
    let now = contents l.map (g.W.Words.words l.words) in
    let slots : List ℕ = chain l.map c l.region in
    record {
      sound : Sound l.map (g.W.Words.words l.words);
      base : g.W.Words.base l.words ≡ g.W.Words.base l.fn.words;
      reads : g.W.Words.reads l.words ≤ g.W.Words.reads l.fn.words + (1 + 6 * walked l.next slots);
      at : StandsAt l.next slots;
      in_heap : MatchOption l.next (Unit {0}) (λ (a : Addr). a.0 < heap_length l.map);
      corrected : SlotsCorrected l.map (forward l.plan.count (move_at c.scratch)) c now l.region (walked l.next slots);
      plan : Numbered l.map now.heap l.plan.count (move_at c.scratch);
    }

abbrev pub decreases-loop-next : goal.decreases-loop-next
decreases-loop-next g l =
    let slots : List ℕ = chain l.map (contents l.map (g.W.Words.words l.fn.words)) l.region in
    length slots - walked l.next slots
