use Rattle.std.proofs.Common.{◌≡◌, ◌⊎◌, ◌+◌, ◌-◌, ◌<◌, ℕ, List, length, get_or, arith, subst, ◌∙◌}
use Rattle.std.proofs.Math.Logic.{⊎_elim}
use Rattle.std.proofs.lemmas.List.{get_or_default}
use Rattle.std.proofs.lemmas.List.Elements.{All-get_or}
use Rattle.heap_words.specs.declared.map.Areas.{Areas}
use Rattle.heap_words.specs.Map.{IsAreas, heap_length}
use Rattle.heap_words.specs.Contents.{Contents, contents}
use Rattle.epoch_lattice.specs.declared.Space.{Space}
use Rattle.epoch_lattice.specs.Lattice.{space_index}
use Rattle.yak_model.specs.Chains.{IsRegionOf, next_word}
use Rattle.remember_sets.specs.Filed.{IsFiled, SetsHold, chain}
use Rattle.remember_sets.proofs.Linked.{next-at}
use Rattle.remember_sets.proofs.chains.next_slot.Given as given
use Rattle.remember_sets.proofs.chains.next_slot.Goals as goal

-- the first word of a slot at a place of a chain
step : (m : Areas) (d : Contents) (a : ℕ) (x : Space) → SetsHold m d → IsRegionOf m x → (k : ℕ) → k < length (chain m d x) → get_or (chain m d x) k 0 ≡ a → ((k + 1 ≡ length (chain m d x)) × (next_word d.sets a ≡ 1)) ⊎ ((k + 1 < length (chain m d x)) × (next_word d.sets a ≡ get_or (chain m d x) (k + 1) 0 + 2))
step m d a x h q k lt e = subst (λ b. ((k + 1 ≡ length (chain m d x)) × (next_word d.sets b ≡ 1)) ⊎ ((k + 1 < length (chain m d x)) × (next_word d.sets b ≡ get_or (chain m d x) (k + 1) 0 + 2))) e (next-at d.sets (space_index x) (chain m d x) k (h.linked x q) lt)

below : (g : given.Over) (c : goal.Else-word-lt2 g) → c.get_set-word.result - 2 < heap_length c.args.map
below g c =
    let m : Areas = c.args.map in
    let d : Contents = contents m (g.W.Words.words c.args.words.now) in
    let f : IsFiled m d c.args.slot.0 = c.requires.filed in
    let l : List ℕ = chain m d f.0 in
    let here : get_or l f.2.0 0 ≡ c.args.slot.0 = get_or_default l f.2.0 0 c.args.slot.0 f.2.1 ∙ f.2.2 in
    ⊎_elim (λ (p : (f.2.0 + 1 ≡ length l) × (next_word d.sets c.args.slot.0 ≡ 1)). absurd (omega (arith, c.if-word-lt2.false, c.get_set-word.ensures.value ∙ p.1)))
    (λ (p : (f.2.0 + 1 < length l) × (next_word d.sets c.args.slot.0 ≡ get_or l (f.2.0 + 1) 0 + 2)).
    let lt : get_or l (f.2.0 + 1) 0 < heap_length m = All-get_or (λ a. a < heap_length m) l (f.2.0 + 1) 0 p.0 (c.requires.sets.within f.0 f.1) in
    omega (arith, lt, c.get_set-word.ensures.value ∙ p.1))
    (step m d c.args.slot.0 f.0 c.requires.sets f.1 f.2.0 f.2.1 here)

pub overflow_cast-result : goal.overflow_cast-result
overflow_cast-result g c =
    let lt = below g c in
    let areas : IsAreas c.args.map = c.requires.sound.areas in
    omega (arith, lt)

pub returns-clause-in_heap : goal.returns-clause-in_heap
returns-clause-in_heap g c = below g c

pub returns-then-word-lt2-clause-next : goal.returns-then-word-lt2-clause-next
returns-then-word-lt2-clause-next g c x q k lt e =
    let m : Areas = c.args.map in
    let d : Contents = contents m (g.W.Words.words c.args.words.now) in
    ⊎_elim (λ (p : (k + 1 ≡ length (chain m d x)) × (next_word d.sets c.args.slot.0 ≡ 1)). p.0)
    (λ (p : (k + 1 < length (chain m d x)) × (next_word d.sets c.args.slot.0 ≡ get_or (chain m d x) (k + 1) 0 + 2)). absurd (omega (arith, c.if-word-lt2.true, c.get_set-word.ensures.value ∙ p.1)))
    (step m d c.args.slot.0 x c.requires.sets q k lt e)

pub returns-clause-next : goal.returns-clause-next
returns-clause-next g c x q k lt e =
    let m : Areas = c.args.map in
    let d : Contents = contents m (g.W.Words.words c.args.words.now) in
    ⊎_elim (λ (p : (k + 1 ≡ length (chain m d x)) × (next_word d.sets c.args.slot.0 ≡ 1)). absurd (omega (arith, c.if-word-lt2.false, c.get_set-word.ensures.value ∙ p.1)))
    (λ (p : (k + 1 < length (chain m d x)) × (next_word d.sets c.args.slot.0 ≡ get_or (chain m d x) (k + 1) 0 + 2)). (p.0, omega (arith, c.get_set-word.ensures.value ∙ p.1)))
    (step m d c.args.slot.0 x c.requires.sets q k lt e)
