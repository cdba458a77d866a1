use Rattle.std.proofs.Common.{◌≡◌, ◌≤◌, ◌<◌, ◌+◌, ◌*◌, arith, refl, subst, sym, ap, ◌∙◌, List, ℕ}
use Rattle.std.specs.List.{All}
use Rattle.heap_words.specs.declared.map.Areas.{Areas}
use Rattle.heap_words.specs.Map.{heap_length}
use Rattle.heap_words.specs.Contents.{Contents, contents}
use Rattle.epoch_lattice.specs.declared.Space.{Space}
use Rattle.yak_model.specs.Chains.{IsRegionOf}
use Rattle.yak_model.specs.Plans.{Move}
use Rattle.relocation.specs.Moves.{HasHeader, fields_at, move_at}
use Rattle.remember_sets.specs.Filed.{IsSlot, PagesKnown, all_filed, chain, with_sets}
use Rattle.remember_sets.proofs.Entering.{slot-same}
use Rattle.remember_sets.proofs.Folded.{all_filed-append, all_filed-same, with_sets-step}
use Rattle.std.proofs.lemmas.List.Elements.{All-weaker}
use Rattle.forwarding.specs.Entering.{words_brought}
use Rattle.forwarding.specs.Slots.{slots_at, slots_brought}
use Rattle.forwarding.proofs.Entries.{slots_brought-more, slots_brought-none, words_brought-more}
use Rattle.forwarding.proofs.recording.record_moved.Goals as goal

pub loop-k-init : goal.loop-k-init
loop-k-init g c =
    let m : Areas = c.args.map in
    let was : Contents = contents m (g.W.Words.words c.args.words.now) in
    record {
      filed = λ x q. ap (λ (l : List ℕ). all_filed m was x l (chain m was x)) (sym (slots_brought-none was.heap (move_at was.scratch)));
      sets = c.requires.sets;
      others = refl;
      sound = c.requires.sound;
      reads = omega arith;
      base = refl;
    }

-- the object of a move whose turn it is, by the words of now
record Turn (m : Areas) (was now : Contents) (a : ℕ) : Type 0 where
  header : HasHeader now.heap a
  start : a < heap_length m
  slots : All (IsSlot m now) (slots_at now.heap a)

turn : (m : Areas) (was now : Contents) (a : ℕ) → now.heap ≡ was.heap → HasHeader was.heap a × (a < heap_length m) × All (IsSlot m was) (slots_at was.heap a) → Turn m was now a
turn m was now a heap h = record {
  header = subst (λ (l : List ℕ). HasHeader l a) (sym heap) h.0;
  start = h.1;
  slots = subst (λ (l : List ℕ). All (IsSlot m now) (slots_at l a)) (sym heap) (All-weaker (IsSlot m was) (IsSlot m now) (λ i s. slot-same m was now i heap s) (slots_at was.heap a) h.2);
}

pub record_object-requires : goal.record_object-requires
record_object-requires g c =
    let m : Areas = c.args.map in
    let was : Contents = contents m (g.W.Words.words c.args.words.now) in
    let now : Contents = contents m (g.W.Words.words c.read_move-v.new.words) in
    let k : ℕ = c.loop-k.k in
    let others : now ≡ with_sets was (contents m (g.W.Words.words c.loop-k.words)) = ap (contents m) c.read_move-v.ensures.words ∙ c.loop-k.invariant.others in
    let new : c.read_move-v.result.new ≡ (move_at was.scratch k).new = ap (λ (v : Move). v.new) (c.read_move-v.ensures.read ∙ ap (λ (x : Contents). move_at x.scratch k) c.loop-k.invariant.others) in
    let t : Turn m was now c.read_move-v.result.new = subst (Turn m was now) (sym new) (turn m was now (move_at was.scratch k).new (ap (λ (x : Contents). x.heap) others) (c.requires.moved k c.loop-k-test.true)) in
    record {
      sound = rw c.read_move-v.ensures.words c.loop-k.invariant.sound;
      sets = rw c.read_move-v.ensures.words c.loop-k.invariant.sets;
      start = t.start;
      header = t.header;
      slots = t.slots;
      pages = subst (PagesKnown m) (sym others) c.requires.pages;
    }

pub loop-k-preserved : goal.loop-k-preserved
loop-k-preserved g c =
    let m : Areas = c.args.map in
    let was : Contents = contents m (g.W.Words.words c.args.words.now) in
    let mid : Contents = contents m (g.W.Words.words c.loop-k.words) in
    let new : Contents = contents m (g.W.Words.words c.record_object.new.words) in
    let k : ℕ = c.loop-k.k in
    let moves : ℕ → Move = move_at was.scratch in
    let inv = c.loop-k.invariant in
    let same : contents m (g.W.Words.words c.read_move-v.new.words) ≡ mid = ap (contents m) c.read_move-v.ensures.words in
    let place : c.read_move-v.result.new ≡ (moves k).new = ap (λ (v : Move). v.new) (c.read_move-v.ensures.read ∙ ap (λ (x : Contents). move_at x.scratch k) inv.others) in
    let heap : mid.heap ≡ was.heap = ap (λ (x : Contents). x.heap) inv.others in
    let table : mid.table ≡ was.table = ap (λ (x : Contents). x.table) inv.others in
    let slots : slots_at mid.heap c.read_move-v.result.new ≡ slots_at was.heap (moves k).new = ap (λ (l : List ℕ). slots_at l c.read_move-v.result.new) heap ∙ ap (slots_at was.heap) place in
    let one : (x : Space) → IsRegionOf m x → chain m new x ≡ all_filed m mid x (slots_at mid.heap c.read_move-v.result.new) (chain m mid x) = subst (λ (y : Contents). (x : Space) → IsRegionOf m x → chain m new x ≡ all_filed m y x (slots_at y.heap c.read_move-v.result.new) (chain m y x)) same c.record_object.ensures.filed in
    let others : new ≡ with_sets mid new = subst (λ (y : Contents). new ≡ with_sets y new) same c.record_object.ensures.others in
    let count : fields_at mid.heap c.read_move-v.result.new ≡ fields_at was.heap (moves k).new = ap (λ (l : List ℕ). fields_at l c.read_move-v.result.new) heap ∙ ap (fields_at was.heap) place in
    let cost : g.W.Words.reads c.record_object.new.words ≤ g.W.Words.reads c.read_move-v.new.words + (1 + 6 * fields_at mid.heap c.read_move-v.result.new) = subst (λ (y : Contents). g.W.Words.reads c.record_object.new.words ≤ g.W.Words.reads c.read_move-v.new.words + (1 + 6 * fields_at y.heap c.read_move-v.result.new)) same c.record_object.ensures.reads in
    record {
      filed = λ x q.
          one x q ∙ all_filed-same m was mid x (slots_at mid.heap c.read_move-v.result.new) (chain m mid x) heap table ∙ ap (λ (l : List ℕ). all_filed m was x l (chain m mid x)) slots ∙ ap (all_filed m was x (slots_at was.heap (moves k).new)) (inv.filed x q) ∙ sym (ap (λ (l : List ℕ). all_filed m was x l (chain m was x)) (slots_brought-more was.heap k moves) ∙ all_filed-append m was x (slots_brought was.heap k moves) (slots_at was.heap (moves k).new) (chain m was x));
      sets = c.record_object.ensures.sets;
      others = with_sets-step was mid new inv.others others;
      sound = c.record_object.ensures.sound;
      reads = rw (words_brought-more was.heap k moves) (omega (arith, inv.reads, c.read_move-v.ensures.reads, cost, count));
      base = c.record_object.ensures.base ∙ (c.read_move-v.ensures.base ∙ inv.base);
    }

pub returns-clause-filed : goal.returns-clause-filed
returns-clause-filed g c x q =
    let m : Areas = c.args.map in
    let was : Contents = contents m (g.W.Words.words c.args.words.now) in
    let all : c.loop-k.k ≡ c.args.plan.now.count = omega arith in
    c.loop-k.invariant.filed x q ∙ ap (λ n. all_filed m was x (slots_brought was.heap n (move_at was.scratch)) (chain m was x)) all

pub returns-clause-reads : goal.returns-clause-reads
returns-clause-reads g c =
    let was : Contents = contents c.args.map (g.W.Words.words c.args.words.now) in
    let all : c.loop-k.k ≡ c.args.plan.now.count = omega arith in
    omega (arith, c.loop-k.invariant.reads, ap (λ n. words_brought was.heap n (move_at was.scratch)) all)
