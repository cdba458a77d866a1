use Rattle.std.proofs.Common.{◌≡◌, ◌≤◌, ◌<◌, ◌+◌, ◌-◌, ◌*◌, ℕ, List, [], drop, get_or, length, take}
use Rattle.std.specs.Option.{MatchOption}
use Rattle.object_layout.specs.declared.values.Addr.{Addr}
use Rattle.heap_words.specs.Contents.{Sound, contents}
use Rattle.remember_sets.specs.Filed.{ChainsBecome, SetsHold, all_filed, chain, with_sets}
use Rattle.escape_closure.proofs.refiling.refile_slots.Given as goal

abbrev pub invariant-loop-next : goal.invariant-loop-next
invariant-loop-next g l =
    let was = contents l.map (g.W.Words.words l.fn.words) in
    let now = contents l.map (g.W.Words.words l.words) in
    let slots : List ℕ = chain l.map was l.region in
    let left : List ℕ = chain l.map now l.region in
    record {
      filed : ChainsBecome l.map was now (λ x s. all_filed l.map was x (take (length slots - length left) slots) s);
      rest : left ≡ drop (length slots - length left) slots;
      fewer : length left ≤ length slots;
      first : MatchOption l.next (left ≡ []) (λ (a : Addr). (0 < length left) × (get_or left 0 0 ≡ a.0));
      sets : SetsHold l.map now;
      others : now ≡ with_sets was now;
      sound : Sound l.map (g.W.Words.words l.words);
      reads : g.W.Words.reads l.words ≤ g.W.Words.reads l.fn.words + (1 + 7 * (length slots - length left));
      base : g.W.Words.base l.words ≡ g.W.Words.base l.fn.words;
    }

abbrev pub decreases-loop-next : goal.decreases-loop-next
decreases-loop-next g l = length (chain l.map (contents l.map (g.W.Words.words l.words)) l.region)
