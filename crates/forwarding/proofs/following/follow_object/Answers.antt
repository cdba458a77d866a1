use Rattle.std.proofs.Common.{◌≡◌, ◌≢◌, ◌⊎◌, inl, inr, ◌≤◌, ◌<◌, ◌+◌, ◌-◌, arith, refl, subst, sym, ap, ◌∙◌, List, ℕ}
use Rattle.std.specs.List.{Contains}
use Rattle.std.proofs.Math.Logic.{⊎_elim}
use Rattle.std.proofs.lemmas.Bool.{cases_eq}
use Rattle.object_layout.specs.declared.TheConstants.{OBJECT_WORDS}
use Rattle.heap_words.specs.declared.map.Areas.{Areas}
use Rattle.heap_words.specs.Map.{IsAreas}
use Rattle.heap_words.specs.Contents.{Contents, contents}
use Rattle.relocation.specs.Moves.{fields_at}
use Rattle.remember_sets.specs.Filed.{ChainsBecome, IsFiled, chain, moved_slot}
use Rattle.remember_sets.proofs.Folded.{with_sets-step}
use Rattle.forwarding.specs.Slots.{moved_run}
use Rattle.forwarding.proofs.Followed.{run-has, run-more}
use Rattle.forwarding.proofs.following.follow_object.Goals as goal

pub loop-f-init : goal.loop-f-init
loop-f-init g c = record {
  moved = rw c.object_size.ensures.words (λ x q. refl);
  sets = rw c.object_size.ensures.words c.requires.sets;
  others = rw c.object_size.ensures.words refl;
  sound = rw c.object_size.ensures.words c.requires.sound;
  base = c.object_size.ensures.base;
}

-- the new place of a field meets no recorded slot but its own old place
free : (m : Areas) (was mid : Contents) (old new f n : ℕ) → ChainsBecome m was mid (λ _ slots. moved_run (old + OBJECT_WORDS) (new + OBJECT_WORDS) f slots) → ((j : ℕ) → j < n → IsFiled m was (new + OBJECT_WORDS + j) → old ≤ new + j) → f < n → new ≤ old → (new + OBJECT_WORDS + f ≡ old + OBJECT_WORDS + f) ⊎ (IsFiled m mid (new + OBJECT_WORDS + f) → ⊥)
free m was mid old new f n moved meets lt front =
    ⊎_elim (λ (e : new ≡ old). inl (ap (λ k. k + OBJECT_WORDS + f) e))
    (λ (ne : new ≡ old → ⊥). inr (λ i.
    let c : Contains (moved_run (old + OBJECT_WORDS) (new + OBJECT_WORDS) f (chain m was i.0)) (new + OBJECT_WORDS + f) = subst (λ (l : List ℕ). Contains l (new + OBJECT_WORDS + f)) (moved i.0 i.1) i.2 in
    ⊎_elim (λ (p : (j : ℕ) × (j < f) × (new + OBJECT_WORDS + f ≡ new + OBJECT_WORDS + j)). absurd (omega (arith, p.1, p.2)))
    (λ (p : ((j : ℕ) → j < f → new + OBJECT_WORDS + f ≢ old + OBJECT_WORDS + j) × Contains (chain m was i.0) (new + OBJECT_WORDS + f)).
    let behind : old ≤ new + f = meets f lt (i.0, i.1, p.1) in
    p.0 (new + f - old) (omega (arith, behind, ne, front)) (omega (arith, behind)))
    (run-has (old + OBJECT_WORDS) (new + OBJECT_WORDS) f (new + OBJECT_WORDS + f) (chain m was i.0) c)))
    (cases_eq new old)

pub overflow_add-from-in-loop-f : goal.overflow_add-from-in-loop-f
overflow_add-from-in-loop-f g c =
    let areas : IsAreas c.args.map = c.requires.sound.areas in
    omega (arith, c.requires.within, c.object_size.ensures.size, c.loop-f-test.true)

pub overflow_add-to-in-loop-f : goal.overflow_add-to-in-loop-f
overflow_add-to-in-loop-f g c =
    let areas : IsAreas c.args.map = c.requires.sound.areas in
    omega (arith, c.requires.within, c.requires.front, c.object_size.ensures.size, c.loop-f-test.true)

pub follow_slot-requires : goal.follow_slot-requires
follow_slot-requires g c =
    let m : Areas = c.args.map in
    let was : Contents = contents m (g.W.Words.words c.args.words.now) in
    let mid : Contents = contents m (g.W.Words.words c.loop-f.words) in
    let lt : c.loop-f.f < fields_at was.heap c.args.new = omega (arith, c.object_size.ensures.size, c.loop-f-test.true) in
    record {
      sound = c.loop-f.invariant.sound;
      sets = c.loop-f.invariant.sets;
      old = omega (arith, c.requires.within, lt);
      within = omega (arith, c.requires.within, c.requires.front, lt);
      new = λ _. free m was mid c.args.old c.args.new c.loop-f.f (fields_at was.heap c.args.new) c.loop-f.invariant.moved c.requires.meets lt c.requires.front;
    }

pub loop-f-preserved : goal.loop-f-preserved
loop-f-preserved g c =
    let m : Areas = c.args.map in
    let was : Contents = contents m (g.W.Words.words c.args.words.now) in
    let mid : Contents = contents m (g.W.Words.words c.loop-f.words) in
    let new : Contents = contents m (g.W.Words.words c.follow_slot.new.words) in
    let from : ℕ = c.args.old + OBJECT_WORDS in
    let to : ℕ = c.args.new + OBJECT_WORDS in
    let f : ℕ = c.loop-f.f in
    let inv = c.loop-f.invariant in
    record {
      moved = λ x q. c.follow_slot.ensures.moved x q ∙ ap (moved_slot (from + f) (to + f)) (inv.moved x q) ∙ sym (run-more from to f (chain m was x));
      sets = c.follow_slot.ensures.sets;
      others = with_sets-step was mid new inv.others c.follow_slot.ensures.others;
      sound = c.follow_slot.ensures.sound;
      base = c.follow_slot.ensures.base ∙ inv.base;
    }

pub returns-clause-moved : goal.returns-clause-moved
returns-clause-moved g c x q =
    let m : Areas = c.args.map in
    let was : Contents = contents m (g.W.Words.words c.args.words.now) in
    let all : c.loop-f.f ≡ fields_at was.heap c.args.new = omega (arith, c.object_size.ensures.size) in
    c.loop-f.invariant.moved x q ∙ ap (λ n. moved_run (c.args.old + OBJECT_WORDS) (c.args.new + OBJECT_WORDS) n (chain m was x)) all
