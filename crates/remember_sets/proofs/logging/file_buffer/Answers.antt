use Rattle.std.proofs.Common.{◌≡◌, ℕ, ◌≤◌, ◌<◌, List, length, get_or, arith, ap, sym, subst, refl, ◌∙◌}
use Rattle.std.specs.List.{All}
use Rattle.std.proofs.lemmas.List.{take_all}
use Rattle.std.proofs.lemmas.List.Elements.{All-get_or}
use Rattle.heap_words.specs.declared.map.Areas.{Areas}
use Rattle.heap_words.specs.Map.{IsAreas}
use Rattle.heap_words.specs.Contents.{Contents, contents, buffer_of}
use Rattle.epoch_lattice.specs.declared.Space.{Space}
use Rattle.yak_model.specs.Chains.{IsRegionOf}
use Rattle.remember_sets.specs.Filed.{IsSlot, PagesKnown, all_filed, chain, filed, with_sets}
use Rattle.remember_sets.proofs.Entering.{slot-same}
use Rattle.remember_sets.proofs.Folded.{all_filed-more, filed-same, with_sets-step}
use Rattle.remember_sets.proofs.logging.file_buffer.Goals as goal

pub loop-k-init : goal.loop-k-init
loop-k-init g c = record {
  sound = rw c.buffer_length-count.ensures.words c.requires.sound;
  base = c.buffer_length-count.ensures.base;
  sets = rw c.buffer_length-count.ensures.words c.requires.sets;
  others = rw c.buffer_length-count.ensures.words refl;
  filed = rw c.buffer_length-count.ensures.words (λ x q. refl);
  reads = omega (arith, c.buffer_length-count.ensures.reads);
}

pub get_buffer-slot-requires-clause-sound : goal.get_buffer-slot-requires-clause-sound
get_buffer-slot-requires-clause-sound g c = c.loop-k.invariant.sound

pub get_buffer-slot-requires-clause-within : goal.get_buffer-slot-requires-clause-within
get_buffer-slot-requires-clause-within g c =
    let m : Areas = c.args.map in
    let was : Contents = contents m (g.W.Words.words c.args.words.now) in
    let same : buffer_of (contents m (g.W.Words.words c.loop-k.words)) c.args.thread ≡ buffer_of was c.args.thread = ap (λ (x : Contents). buffer_of x c.args.thread) c.loop-k.invariant.others in
    rw same (omega (arith, c.buffer_length-count.ensures.value))

-- the entry at a place is a slot, of the words before and of those now
entry : (m : Areas) (was mid : Contents) (t k n v : ℕ) → All (IsSlot m was) (buffer_of was t) → mid ≡ with_sets was mid → n ≡ length (buffer_of was t) → k < n → v ≡ get_or (buffer_of mid t) k 0 → IsSlot m mid v
entry m was mid t k n v h e long lt value =
    let same : buffer_of mid t ≡ buffer_of was t = ap (λ (x : Contents). buffer_of x t) e in
    let at : v ≡ get_or (buffer_of was t) k 0 = value ∙ ap (λ (l : List ℕ). get_or l k 0) same in
    subst (IsSlot m mid) (sym at) (slot-same m was mid (get_or (buffer_of was t) k 0) (ap (λ (y : Contents). y.heap) e) (All-get_or (IsSlot m was) (buffer_of was t) k 0 (omega (arith, long, lt)) h))

pub overflow_cast-slot : goal.overflow_cast-slot
overflow_cast-slot g c =
    let m : Areas = c.args.map in
    let was : Contents = contents m (g.W.Words.words c.args.words.now) in
    let s = entry m was (contents m (g.W.Words.words c.loop-k.words)) c.args.thread c.loop-k.k c.buffer_length-count.result c.get_buffer-slot.result c.requires.buffer c.loop-k.invariant.others c.buffer_length-count.ensures.value (omega arith) c.get_buffer-slot.ensures.value in
    let areas : IsAreas m = c.requires.sound.areas in
    omega (arith, s.0)

pub add_slot-requires-clause-slot : goal.add_slot-requires-clause-slot
add_slot-requires-clause-slot g c =
    let m : Areas = c.args.map in
    let was : Contents = contents m (g.W.Words.words c.args.words.now) in
    let s = entry m was (contents m (g.W.Words.words c.loop-k.words)) c.args.thread c.loop-k.k c.buffer_length-count.result c.get_buffer-slot.result c.requires.buffer c.loop-k.invariant.others c.buffer_length-count.ensures.value (omega arith) c.get_buffer-slot.ensures.value in
    subst (λ (ws : List ℕ). IsSlot m (contents m ws) c.get_buffer-slot.result) (sym c.get_buffer-slot.ensures.words) s

pub add_slot-requires-clause-pages : goal.add_slot-requires-clause-pages
add_slot-requires-clause-pages g c =
    let m : Areas = c.args.map in
    let was : Contents = contents m (g.W.Words.words c.args.words.now) in
    let same : contents m (g.W.Words.words c.get_buffer-slot.new.words) ≡ with_sets was (contents m (g.W.Words.words c.loop-k.words)) = ap (contents m) c.get_buffer-slot.ensures.words ∙ c.loop-k.invariant.others in
    subst (PagesKnown m) (sym same) c.requires.pages

pub loop-k-preserved : goal.loop-k-preserved
loop-k-preserved g c =
    let m : Areas = c.args.map in
    let was : Contents = contents m (g.W.Words.words c.args.words.now) in
    let mid : Contents = contents m (g.W.Words.words c.loop-k.words) in
    let new : Contents = contents m (g.W.Words.words c.add_slot.new.words) in
    let k : ℕ = c.loop-k.k in
    let es : List ℕ = buffer_of was c.args.thread in
    let inv = c.loop-k.invariant in
    let step = c.add_slot.ensures in
    let same : buffer_of mid c.args.thread ≡ es = ap (λ (x : Contents). buffer_of x c.args.thread) inv.others in
    let value : c.get_buffer-slot.result ≡ get_or es k 0 = c.get_buffer-slot.ensures.value ∙ ap (λ (l : List ℕ). get_or l k 0) same in
    let lt : k < length es = omega (arith, c.buffer_length-count.ensures.value) in
    let here : contents m (g.W.Words.words c.get_buffer-slot.new.words) ≡ mid = ap (contents m) c.get_buffer-slot.ensures.words in
    let others : new ≡ with_sets mid new = subst (λ (y : Contents). new ≡ with_sets y new) here step.others in
    let heap : mid.heap ≡ was.heap = ap (λ (y : Contents). y.heap) inv.others in
    let table : mid.table ≡ was.table = ap (λ (y : Contents). y.table) inv.others in
    let one : (x : Space) → IsRegionOf m x → chain m new x ≡ filed m was x (get_or es k 0) (chain m mid x) =
    λ x q.
    subst (λ (y : Contents). chain m new x ≡ filed m y x c.get_buffer-slot.result (chain m y x)) here (step.filed x q) ∙ filed-same m was mid x c.get_buffer-slot.result (chain m mid x) heap table ∙ ap (λ n. filed m was x n (chain m mid x)) value in
    record {
      sound = step.sound;
      base = step.base ∙ c.get_buffer-slot.ensures.base ∙ inv.base;
      sets = step.sets;
      others = with_sets-step was mid new inv.others others;
      filed = λ x q. one x q ∙ ap (filed m was x (get_or es k 0)) (inv.filed x q) ∙ sym (all_filed-more m was x es (chain m was x) k lt);
      reads = omega (arith, step.reads, c.get_buffer-slot.ensures.reads, inv.reads);
    }

pub returns-clause-filed : goal.returns-clause-filed
returns-clause-filed g c x q =
    let m : Areas = c.args.map in
    let was : Contents = contents m (g.W.Words.words c.args.words.now) in
    let es : List ℕ = buffer_of was c.args.thread in
    let le : length es ≤ c.loop-k.k = omega (arith, c.buffer_length-count.ensures.value) in
    rw c.clear_buffer.ensures.set (c.loop-k.invariant.filed x q ∙ ap (λ (l : List ℕ). all_filed m was x l (chain m was x)) (take_all c.loop-k.k es le))
