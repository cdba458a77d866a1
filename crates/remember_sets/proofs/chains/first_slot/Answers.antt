use Rattle.std.proofs.Common.{◌≡◌, ◌-◌, ◌<◌, ℕ, List, get_or, arith, sym, ◌∙◌}
use Rattle.std.proofs.lemmas.List.Elements.{All-get_or}
use Rattle.heap_words.specs.declared.map.Areas.{Areas}
use Rattle.heap_words.specs.Map.{IsAreas, heap_length}
use Rattle.heap_words.specs.Contents.{Contents, contents}
use Rattle.yak_model.specs.Chains.{head_to}
use Rattle.remember_sets.specs.Filed.{chain}
use Rattle.remember_sets.proofs.Linked.{head-none, head-some}
use Rattle.remember_sets.proofs.chains.first_slot.Given as given
use Rattle.remember_sets.proofs.chains.first_slot.Goals as goal

below : (g : given.Over) (c : goal.Else-word-eq0 g) → c.head-word.result - 1 < heap_length c.args.map
below g c =
    let m : Areas = c.args.map in
    let d : Contents = contents m (g.W.Words.words c.args.words.now) in
    let l : List ℕ = chain m d c.args.region in
    let e : c.head-word.result ≡ head_to l = c.head-word.ensures.head ∙ c.requires.sets.heads c.args.region c.requires.region in
    let p = head-some l (λ z. c.if-word-eq0.false (e ∙ z)) in
    let lt : get_or l 0 0 < heap_length m = All-get_or (λ a. a < heap_length m) l 0 0 p.0 (c.requires.sets.within c.args.region c.requires.region) in
    omega (arith, lt, p.1, e)

pub overflow_cast-result : goal.overflow_cast-result
overflow_cast-result g c =
    let lt = below g c in
    let areas : IsAreas c.args.map = c.requires.sound.areas in
    omega (arith, lt)

pub returns-clause-in_heap : goal.returns-clause-in_heap
returns-clause-in_heap g c = below g c

pub returns-clause-first : goal.returns-clause-first
returns-clause-first g c =
    let m : Areas = c.args.map in
    let d : Contents = contents m (g.W.Words.words c.args.words.now) in
    let l : List ℕ = chain m d c.args.region in
    let e : c.head-word.result ≡ head_to l = c.head-word.ensures.head ∙ c.requires.sets.heads c.args.region c.requires.region in
    let p = head-some l (λ z. c.if-word-eq0.false (e ∙ z)) in
    (p.0, omega (arith, p.1, e))

pub returns-then-word-eq0-clause-first : goal.returns-then-word-eq0-clause-first
returns-then-word-eq0-clause-first g c =
    let m : Areas = c.args.map in
    let d : Contents = contents m (g.W.Words.words c.args.words.now) in
    head-none (chain m d c.args.region) (sym (c.requires.sets.heads c.args.region c.requires.region) ∙ sym c.head-word.ensures.head ∙ c.if-word-eq0.true)
