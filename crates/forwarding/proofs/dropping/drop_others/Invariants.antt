use Rattle.std.proofs.Common.{◌≡◌, ◌≤◌, ◌<◌, ◌+◌, ℕ, ltb}
use Rattle.std.specs.List.{filter}
use Rattle.heap_words.specs.Map.{heap_length}
use Rattle.heap_words.specs.Contents.{Sound, contents}
use Rattle.relocation.specs.Moves.{move_at, size_at}
use Rattle.remember_sets.specs.Filed.{ChainsBecome, SetsHold, page_word, with_sets}
use Rattle.forwarding.specs.Slots.{in_old}
use Rattle.forwarding.proofs.Gaps.{kept-to}
use Rattle.forwarding.proofs.dropping.drop_others.Given as goal

abbrev pub invariant-loop-k : goal.invariant-loop-k
invariant-loop-k g l =
    let was = contents l.map (g.W.Words.words l.fn.words) in
    let now = contents l.map (g.W.Words.words l.words) in
    let moves = move_at was.scratch in
    record {
      dropped : ChainsBecome l.map was now (λ _ slots. filter (kept-to (λ b. ltb (page_word l.map was b) 2) (in_old was.heap l.k moves) l.from) slots);
      within : l.from ≤ heap_length l.map;
      past : (j : ℕ) → j < l.k → (moves j).old + size_at was.heap (moves j).new ≤ l.from;
      next : l.k < l.plan.count → l.from ≤ (moves l.k).old;
      sets : SetsHold l.map now;
      others : now ≡ with_sets was now;
      sound : Sound l.map (g.W.Words.words l.words);
      base : g.W.Words.base l.words ≡ g.W.Words.base l.fn.words;
    }
