use Rattle.std.proofs.Common.{◌≡◌, ◌≤◌, ◌<◌, ◌+◌, ◌-◌, ◌*◌, ℕ, List, length}
use Rattle.std.specs.Option.{MatchOption}
use Rattle.object_layout.specs.declared.values.Addr.{Addr}
use Rattle.yak_model.specs.Recorded.{RecordedAs}
use Rattle.heap_words.specs.Map.{heap_length}
use Rattle.heap_words.specs.Contents.{contents, Sound}
use Rattle.remember_sets.specs.Filed.{chain}
use Rattle.escape_closure.specs.Raising.{Ended, Raising, RaisesOn, AreSlotsPaid}
use Rattle.escape_closure.proofs.Walked.{StandsAt, walked}
use Rattle.escape_closure.proofs.sources.raise_slots.Given as goal

abbrev pub invariant-loop-next : goal.invariant-loop-next
invariant-loop-next g l =
    let was = contents l.map (g.W.Words.words l.fn.words) in
    let now = contents l.map (g.W.Words.words l.words) in
    let slots : List ℕ = chain l.map was l.fn.region in
    record {
      sound : Sound l.map (g.W.Words.words l.words);
      base : g.W.Words.base l.words ≡ g.W.Words.base l.fn.words;
      reads : g.W.Words.reads l.words ≤ g.W.Words.reads l.fn.words + (1 + 5 * walked l.next slots);
      at : StandsAt l.next slots;
      in_heap : MatchOption l.next (Unit {0}) (λ (a : Addr). a.0 < heap_length l.map);
      raising : (e : Ended) → e.region ≡ l.fn.region → Raising l.map e was l.fn.tally → RecordedAs l.map e.laid.before e.laid.state e.laid.places.at → RaisesOn l.map e was now l.tally × AreSlotsPaid l.map e now (walked l.next slots);
    }

abbrev pub decreases-loop-next : goal.decreases-loop-next
decreases-loop-next g l =
    let slots : List ℕ = chain l.map (contents l.map (g.W.Words.words l.fn.words)) l.fn.region in
    length slots - walked l.next slots
