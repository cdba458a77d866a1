use Rattle.std.proofs.Common.{◌∙◌}
use Rattle.heap_words.specs.Contents.{contents}
use Rattle.standing_calls.proofs.Homes.{no_header, no_home, space_own, space_told, word_within}
use Rattle.heap_core.proofs.barriers.space_of_word.Goals as goal

pub returns-in_default-clause-space : goal.returns-in_default-clause-space
returns-in_default-clause-space g c s h v = no_home c.args.map (contents c.args.map (g.W.Words.words c.args.words.now)) s h c.args.word v c.requires.sound.areas c.in_default.ensures

pub get_heap-requires-clause-within : goal.get_heap-requires-clause-within
get_heap-requires-clause-within g c = word_within c.args.map (contents c.args.map (g.W.Words.words c.args.words.now)) c.args.word c.in-Some.object c.requires.sound.areas c.in-Some.ensures c.requires.value

pub returns-in_default-decode_header-clause-space : goal.returns-in_default-decode_header-clause-space
returns-in_default-decode_header-clause-space g c s h v = absurd (no_header c.args.map (contents c.args.map (g.W.Words.words c.args.words.now)) s h c.args.word c.in-Some.object c.get_heap.result v c.requires.sound.areas c.in-Some.ensures c.get_heap.ensures.value c.in_default-decode_header.ensures.some)

pub returns-clause-space : goal.returns-clause-space
returns-clause-space g c s h v =
    c.space_at.ensures.space ∙ space_told c.args.map (contents c.args.map (g.W.Words.words c.args.words.now)) s h c.args.word c.in-Some.object c.get_heap.result v c.in-Some-decode_header.header c.requires.sound.areas c.in-Some.ensures c.get_heap.ensures.value c.in-Some-decode_header.ensures.some.0 c.in-Some-decode_header.ensures.some.1

pub returns-clause-own : goal.returns-clause-own
returns-clause-own g c =
    space_own c.args.map (contents c.args.map (g.W.Words.words c.args.words.now)) c.args.word c.in-Some.object c.space_at.result c.requires.sound.areas c.in-Some.ensures c.requires.value (λ s h v.
    c.space_at.ensures.space ∙ space_told c.args.map (contents c.args.map (g.W.Words.words c.args.words.now)) s h c.args.word c.in-Some.object c.get_heap.result v c.in-Some-decode_header.header c.requires.sound.areas c.in-Some.ensures c.get_heap.ensures.value c.in-Some-decode_header.ensures.some.0 c.in-Some-decode_header.ensures.some.1)
