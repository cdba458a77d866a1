use Rattle.std.proofs.Common.{◌≡◌, ◌-◌, ◌≤◌, ◌∷◌, length, slice_index, take, drop, refl, ap, sym, subst, ◌∙◌, arith}
use Rattle.heap_words.specs.declared.map.Areas.{Areas}
use Rattle.heap_words.specs.Contents.{contents}
use Rattle.heap_words.specs.Map.{total_of}
use Rattle.heap_core.specs.Done.{Done}
use Rattle.yak_c.specs.Answers.{Makes}
use Rattle.yak_c.specs.Memory.{HasShape, Holds, IsHeap, contents_in, map_in, words_in}
use Rattle.yak_c.proofs.Splits.{left_is, lent_is}
use Rattle.yak_c.proofs.memory.step.Goals as goal

pub step_words-requires-clause-holds : goal.step_words-requires-clause-holds
step_words-requires-clause-holds c =
    let memory = c.args.memory.now in
    let shape : HasShape memory = c.in-Some.ensures.0 in
    let holds : Holds (map_in memory) (words_in memory) = record { gate = shape.gate; stands = c.requires shape } in
    subst (λ m. Holds m (take (length memory - 2) (drop 2 memory))) (sym c.in-Some.ensures.1) (subst (Holds (map_in memory)) (sym (lent_is memory)) holds)

pub returns : goal.returns
returns c =
    let memory = c.args.memory.now in
    let words = c.step_words.new.words in
    let shape : HasShape memory = c.in-Some.ensures.0 in
    let same : c.in-Some.map ≡ map_in memory = c.in-Some.ensures.1 in
    let holds : Holds (map_in memory) words = subst (λ m. Holds m words) same c.step_words.ensures.holds in
    let long : length words ≡ total_of (map_in memory) = c.step_words.ensures.whole ∙ ap total_of same in
    let done : Done (map_in memory) (contents_in memory) (contents (map_in memory) words) c.args.thread c.args.call c.step_words.result =
    subst (λ ws. Done (map_in memory) (contents (map_in memory) ws) (contents (map_in memory) words) c.args.thread c.args.call c.step_words.result) (lent_is memory)
    (subst (λ m. Done m (contents m (take (length memory - 2) (drop 2 memory))) (contents m words) c.args.thread c.args.call c.step_words.result) same c.step_words.ensures.done)
    in
    let heap : IsHeap (slice_index memory 0 ∷ slice_index memory 1 ∷ words) = record {
      shape = record { areas = shape.areas; size = omega (arith, long); gate = holds.gate };
      stands = holds.stands;
    } in
    subst (λ after. Makes memory after c.args.thread c.args.call c.step_words.result) (sym (left_is memory words (omega (arith, shape.size)))) (record {
      shape = shape;
      thread = (c.if-thread-lt1.false, subst (λ (m : Areas). c.args.thread ≤ m.threads) same c.if-thread-map.false);
      number = c.if-not-is_call.ensures.0 refl;
      heap = heap;
      same = refl;
      done = done;
    })
