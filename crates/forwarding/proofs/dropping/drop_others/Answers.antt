use Rattle.std.proofs.Common.{◌≡◌, ℕ, ◌+◌, ◌≤◌, ◌<◌, ◌&&◌, ◌||◌, Bool, not, ltb, List, sym, ap, subst, refl, ◌∙◌, arith}
use Rattle.std.specs.List.{filter}
use Rattle.std.proofs.Math.Logic.{⊎_elim}
use Rattle.std.proofs.lemmas.Bool.{cases_eq}
use Rattle.std.proofs.lemmas.List.Elements.{filter_agree}
use Rattle.heap_words.specs.declared.map.Areas.{Areas}
use Rattle.heap_words.specs.Map.{heap_length}
use Rattle.heap_words.specs.Contents.{Contents, contents}
use Rattle.yak_model.specs.Plans.{Move}
use Rattle.relocation.specs.Moves.{HasHeader, move_at, size_at}
use Rattle.remember_sets.specs.Filed.{chain, page_word, with_sets}
use Rattle.remember_sets.proofs.Folded.{with_sets-step}
use Rattle.remember_sets.proofs.Outside.{filter-alike, filter-all, filter-filter}
use Rattle.forwarding.specs.Slots.{AreAscending, in_old, is_kept}
use Rattle.forwarding.proofs.Gaps.{beside, in_old-more, in_old-past, kept-all, kept-more, kept-none, kept-to}
use Rattle.forwarding.proofs.dropping.drop_others.Goals as goal

pub loop-k-init : goal.loop-k-init
loop-k-init g c =
    let m : Areas = c.args.map in
    let was : Contents = contents m (g.W.Words.words c.args.words.now) in
    record {
      dropped = λ x q. sym (filter-all _ (chain m was x) (kept-none (λ b. ltb (page_word m was b) 2) (in_old was.heap 0 (move_at was.scratch))));
      within = omega arith;
      past = λ j lt. absurd (omega (arith, lt));
      next = λ lt. omega arith;
      sets = c.requires.sets;
      others = refl;
      sound = c.requires.sound;
      base = refl;
    }

pub drop_gap-requires : goal.drop_gap-requires
drop_gap-requires g c =
    let m : Areas = c.args.map in
    let was : Contents = contents m (g.W.Words.words c.args.words.now) in
    let inv = c.loop-k.invariant in
    let old : c.read_move-v.result.old ≡ (move_at was.scratch c.loop-k.k).old = ap (λ (v : Move). v.old) (c.read_move-v.ensures.read ∙ ap (λ (x : Contents). move_at x.scratch c.loop-k.k) inv.others) in
    record {
      sound = rw c.read_move-v.ensures.words inv.sound;
      sets = rw c.read_move-v.ensures.words inv.sets;
      order = omega (arith, inv.next c.loop-k-test.true, old);
      within = omega (arith, c.requires.ascending.within c.loop-k.k c.loop-k-test.true, old);
    }

-- the words after a gap was dropped
gone : (was mid now : Contents) → mid ≡ with_sets was mid → now ≡ with_sets mid now → now.heap ≡ was.heap
gone was mid now e f = ap (λ (y : Contents). y.heap) f ∙ ap (λ (y : Contents). y.heap) e

pub object_size-requires : goal.object_size-requires
object_size-requires g c =
    let m : Areas = c.args.map in
    let was : Contents = contents m (g.W.Words.words c.args.words.now) in
    let mid : Contents = contents m (g.W.Words.words c.loop-k.words) in
    let now : Contents = contents m (g.W.Words.words c.drop_gap.new.words) in
    let inv = c.loop-k.invariant in
    let k : ℕ = c.loop-k.k in
    let new : c.read_move-v.result.new ≡ (move_at was.scratch k).new = ap (λ (v : Move). v.new) (c.read_move-v.ensures.read ∙ ap (λ (x : Contents). move_at x.scratch k) inv.others) in
    let others : now ≡ with_sets mid now = c.drop_gap.ensures.others ∙ ap (λ (ws : List ℕ). with_sets (contents m ws) now) c.read_move-v.ensures.words in
    record {
      sound = c.drop_gap.ensures.sound;
      within = omega (arith, c.requires.ascending.start k c.loop-k-test.true, new);
      header = subst (λ (l : List ℕ). HasHeader l c.read_move-v.result.new) (sym (gone was mid now inv.others others)) (subst (HasHeader was.heap) (sym new) (c.requires.ascending.header k c.loop-k-test.true));
    }

-- one move more: the gap before its object, and the object's own words
more : (m : Areas) (was : Contents) (count k from at size : ℕ) (moves : ℕ → Move) (b : ℕ) → AreAscending m was.heap count moves → k < count → ((j : ℕ) → j < k → (moves j).old + size_at was.heap (moves j).new ≤ from) → from ≤ at → at ≡ (moves k).old → size ≡ size_at was.heap (moves k).new → (kept-to (λ b. ltb (page_word m was b) 2) (in_old was.heap k moves) from b && beside (λ b. ltb (page_word m was b) 2) from at b) ≡ kept-to (λ b. ltb (page_word m was b) 2) (in_old was.heap (k + 1) moves) (at + size) b
more m was count k from at size moves b can lt past le at_is size_is =
    let is : ℕ → Bool = λ b. ltb (page_word m was b) 2 in
    let step = kept-more is (in_old was.heap k moves) from at size b le (λ ge. in_old-past was.heap k moves b (λ j lj. omega (arith, past j lj, ge))) in
    let own : (in_old was.heap k moves b || (not (ltb b at) && ltb b (at + size))) ≡ in_old was.heap (k + 1) moves b = ap (λ n. in_old was.heap k moves b || (not (ltb b n) && ltb b (n + size))) at_is ∙ ap (λ n. in_old was.heap k moves b || (not (ltb b (moves k).old) && ltb b ((moves k).old + n))) size_is ∙ sym (in_old-more was.heap k moves b) in
    step ∙ ap (λ o. not (ltb b (at + size) && (is b && not o))) own

pub loop-k-preserved : goal.loop-k-preserved
loop-k-preserved g c =
    let m : Areas = c.args.map in
    let was : Contents = contents m (g.W.Words.words c.args.words.now) in
    let mid : Contents = contents m (g.W.Words.words c.loop-k.words) in
    let gap : Contents = contents m (g.W.Words.words c.drop_gap.new.words) in
    let moves : ℕ → Move = move_at was.scratch in
    let k : ℕ = c.loop-k.k in
    let inv = c.loop-k.invariant in
    let is : ℕ → Bool = λ b. ltb (page_word m was b) 2 in
    let read = c.read_move-v.ensures.read ∙ ap (λ (x : Contents). move_at x.scratch k) inv.others in
    let old : c.read_move-v.result.old ≡ (moves k).old = ap (λ (v : Move). v.old) read in
    let new : c.read_move-v.result.new ≡ (moves k).new = ap (λ (v : Move). v.new) read in
    let same : contents m (g.W.Words.words c.read_move-v.new.words) ≡ mid = ap (contents m) c.read_move-v.ensures.words in
    let others : gap ≡ with_sets mid gap = subst (λ (y : Contents). gap ≡ with_sets y gap) same c.drop_gap.ensures.others in
    let now : contents m (g.W.Words.words c.object_size.new.words) ≡ gap = ap (contents m) c.object_size.ensures.words in
    let size : c.object_size.result ≡ size_at was.heap (moves k).new = c.object_size.ensures.size ∙ ap (λ (l : List ℕ). size_at l c.read_move-v.result.new) (gone was mid gap inv.others others) ∙ ap (size_at was.heap) new in
    let table : mid.table ≡ was.table = ap (λ (y : Contents). y.table) inv.others in
    let from : ℕ = c.loop-k.from in
    let at : ℕ = c.read_move-v.result.old in
    let one : (b : ℕ) → beside (λ b. ltb (page_word m mid b) 2) from at b ≡ beside is from at b = λ b. ap (λ (t : List (List ℕ)). let y : Contents = record was { table = t } in beside (λ b. ltb (page_word m y b) 2) from at b) table in
    let le : from ≤ at = omega (arith, inv.next c.loop-k-test.true, old) in
    let end : at + c.object_size.result ≡ (moves k).old + size_at was.heap (moves k).new = omega (arith, old, size) in
    record {
      dropped = λ x q.
          ap (λ (y : Contents). chain m y x) now ∙ c.drop_gap.ensures.dropped x q ∙ ap (λ (y : Contents). filter (beside (λ b. ltb (page_word m y b) 2) from at) (chain m y x)) same ∙ filter_agree _ (beside is from at) one (chain m mid x) ∙ ap (filter (beside is from at)) (inv.dropped x q) ∙ filter-filter (beside is from at) (kept-to is (in_old was.heap k moves) from) (chain m was x)
          ∙ filter_agree _ (kept-to is (in_old was.heap (k + 1) moves) (at + c.object_size.result)) (λ b. more m was c.args.plan.now.count k from at c.object_size.result moves b c.requires.ascending c.loop-k-test.true inv.past le old size) (chain m was x);
      within = omega (arith, end, c.requires.ascending.within k c.loop-k-test.true);
      past = λ j lt. ⊎_elim (λ (e : j ≡ k). subst (λ n. (moves n).old + size_at was.heap (moves n).new ≤ at + c.object_size.result) (sym e) (omega (arith, end))) (λ (ne : j ≡ k → ⊥). omega (arith, inv.past j (omega (arith, lt, ne)), le)) (cases_eq j k);
      next = λ lt. omega (arith, end, c.requires.ascending.behind k (k + 1) (omega arith) lt);
      sets = rw c.object_size.ensures.words c.drop_gap.ensures.sets;
      others = now ∙ with_sets-step was mid gap inv.others others ∙ ap (with_sets was) (sym now);
      sound = rw c.object_size.ensures.words c.drop_gap.ensures.sound;
      base = c.object_size.ensures.base ∙ (c.drop_gap.ensures.base ∙ (c.read_move-v.ensures.base ∙ inv.base));
    }

pub drop_gap-requires-2 : goal.drop_gap-requires-2
drop_gap-requires-2 g c = record {
  sound = c.loop-k.invariant.sound;
  sets = c.loop-k.invariant.sets;
  order = omega (arith, c.loop-k.invariant.within, c.heap_length.ensures);
  within = omega (arith, c.heap_length.ensures);
}

pub returns-clause-dropped : goal.returns-clause-dropped
returns-clause-dropped g c x q =
    let m : Areas = c.args.map in
    let was : Contents = contents m (g.W.Words.words c.args.words.now) in
    let mid : Contents = contents m (g.W.Words.words c.loop-k.words) in
    let moves : ℕ → Move = move_at was.scratch in
    let inv = c.loop-k.invariant in
    let is : ℕ → Bool = λ b. ltb (page_word m was b) 2 in
    let count : ℕ = c.args.plan.now.count in
    let all : c.loop-k.k ≡ count = omega arith in
    let table : mid.table ≡ was.table = ap (λ (y : Contents). y.table) inv.others in
    let from : ℕ = c.loop-k.from in
    let one : (b : ℕ) → beside (λ b. ltb (page_word m mid b) 2) from (heap_length m) b ≡ beside is from (heap_length m) b = λ b. ap (λ (t : List (List ℕ)). let y : Contents = record was { table = t } in beside (λ b. ltb (page_word m y b) 2) from (heap_length m) b) table in
    let past : (j : ℕ) → j < count → (moves j).old + size_at was.heap (moves j).new ≤ from = λ j lt. inv.past j (omega (arith, lt, all)) in
    c.drop_gap-2.ensures.dropped x q ∙ ap (λ n. filter (beside (λ b. ltb (page_word m mid b) 2) from n) (chain m mid x)) c.heap_length.ensures ∙ filter_agree _ (beside is from (heap_length m)) one (chain m mid x) ∙ ap (filter (beside is from (heap_length m))) (inv.dropped x q ∙ ap (λ n. filter (kept-to is (in_old was.heap n moves) from) (chain m was x)) all) ∙ filter-filter (beside is from (heap_length m)) (kept-to is (in_old was.heap count moves) from) (chain m was x)
    ∙ filter-alike _ (is_kept m was count moves) (λ b. b < heap_length m) (λ b fits. kept-all is (in_old was.heap count moves) from (heap_length m) b fits (λ ge. in_old-past was.heap count moves b (λ j lt. omega (arith, past j lt, ge)))) (chain m was x) (c.requires.sets.within x q)
