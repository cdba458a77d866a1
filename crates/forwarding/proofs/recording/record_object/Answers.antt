use Rattle.std.proofs.Common.{◌≡◌, ◌<◌, ◌+◌, ◌-◌, ◌∷◌, [], arith, refl, subst, sym, ap, ◌∙◌, List, ℕ}
use Rattle.std.specs.List.{All, range_with_len}
use Rattle.object_layout.specs.declared.TheConstants.{OBJECT_WORDS}
use Rattle.heap_words.specs.declared.map.Areas.{Areas}
use Rattle.heap_words.specs.Map.{IsAreas}
use Rattle.heap_words.specs.Contents.{Contents, contents}
use Rattle.relocation.specs.Moves.{fields_at, size_at}
use Rattle.remember_sets.specs.Filed.{IsSlot, PagesKnown, all_filed, chain, filed}
use Rattle.remember_sets.proofs.Entering.{slot-same}
use Rattle.remember_sets.proofs.Folded.{all_filed-append, filed-same, with_sets-step}
use Rattle.forwarding.proofs.Entries.{range-more, slot-at}
use Rattle.forwarding.specs.Slots.{slots_at}
use Rattle.forwarding.proofs.recording.record_object.Goals as goal

pub loop-f-init : goal.loop-f-init
loop-f-init g c = record {
  filed = rw c.object_size.ensures.words (λ x q. refl);
  sets = rw c.object_size.ensures.words c.requires.sets;
  others = rw c.object_size.ensures.words refl;
  sound = rw c.object_size.ensures.words c.requires.sound;
  reads = omega (arith, c.object_size.ensures.reads);
  base = c.object_size.ensures.base;
}

-- a slot of the object, in the words before
slot : (m : Areas) (was : Contents) (a f n : ℕ) → All (IsSlot m was) (slots_at was.heap a) → n ≡ size_at was.heap a → f < n - OBJECT_WORDS → IsSlot m was (a + OBJECT_WORDS + f)
slot m was a f n h size lt = slot-at m was a f h (omega (arith, size, lt))

pub overflow_add-first-in-loop-f : goal.overflow_add-first-in-loop-f
overflow_add-first-in-loop-f g c =
    let m : Areas = c.args.map in
    let was : Contents = contents m (g.W.Words.words c.args.words.now) in
    let s = slot m was c.args.a c.loop-f.f c.object_size.result c.requires.slots c.object_size.ensures.size c.loop-f-test.true in
    let areas : IsAreas m = c.requires.sound.areas in
    omega (arith, s.0)

pub add_slot-requires-clause-slot : goal.add_slot-requires-clause-slot
add_slot-requires-clause-slot g c =
    let m : Areas = c.args.map in
    let was : Contents = contents m (g.W.Words.words c.args.words.now) in
    slot-same m was (contents m (g.W.Words.words c.loop-f.words)) (c.args.a + OBJECT_WORDS + c.loop-f.f) (ap (λ (x : Contents). x.heap) c.loop-f.invariant.others) (slot m was c.args.a c.loop-f.f c.object_size.result c.requires.slots c.object_size.ensures.size c.loop-f-test.true)

pub add_slot-requires-clause-pages : goal.add_slot-requires-clause-pages
add_slot-requires-clause-pages g c = subst (PagesKnown c.args.map) (sym c.loop-f.invariant.others) c.requires.pages

pub loop-f-preserved : goal.loop-f-preserved
loop-f-preserved g c =
    let m : Areas = c.args.map in
    let was : Contents = contents m (g.W.Words.words c.args.words.now) in
    let mid : Contents = contents m (g.W.Words.words c.loop-f.words) in
    let new : Contents = contents m (g.W.Words.words c.add_slot.new.words) in
    let first : ℕ = c.args.a + OBJECT_WORDS in
    let f : ℕ = c.loop-f.f in
    let inv = c.loop-f.invariant in
    let heap : mid.heap ≡ was.heap = ap (λ (x : Contents). x.heap) inv.others in
    let table : mid.table ≡ was.table = ap (λ (x : Contents). x.table) inv.others in
    record {
      filed = λ x q. c.add_slot.ensures.filed x q ∙ filed-same m was mid x (first + f) (chain m mid x) heap table ∙ ap (filed m was x (first + f)) (inv.filed x q) ∙ sym (ap (λ (l : List ℕ). all_filed m was x l (chain m was x)) (range-more first f) ∙ all_filed-append m was x (range_with_len first f) ((first + f) ∷ []) (chain m was x));
      sets = c.add_slot.ensures.sets;
      others = with_sets-step was mid new inv.others c.add_slot.ensures.others;
      sound = c.add_slot.ensures.sound;
      reads = omega (arith, inv.reads, c.add_slot.ensures.reads);
      base = c.add_slot.ensures.base ∙ inv.base;
    }

pub returns-clause-filed : goal.returns-clause-filed
returns-clause-filed g c x q =
    let m : Areas = c.args.map in
    let was : Contents = contents m (g.W.Words.words c.args.words.now) in
    let all : c.loop-f.f ≡ fields_at was.heap c.args.a = omega (arith, c.object_size.ensures.size) in
    c.loop-f.invariant.filed x q ∙ ap (λ n. all_filed m was x (range_with_len (c.args.a + OBJECT_WORDS) n) (chain m was x)) all

pub returns-clause-reads : goal.returns-clause-reads
returns-clause-reads g c = omega (arith, c.loop-f.invariant.reads, c.object_size.ensures.size)
