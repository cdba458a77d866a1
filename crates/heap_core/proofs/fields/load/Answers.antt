use Rattle.std.proofs.Common.{◌≡◌, get_or, refl}
use Rattle.std.proofs.Math.Logic.{∥∥₁_map}
use Rattle.heap_words.specs.Contents.{contents}
use Rattle.standing_calls.proofs.Loads.{field_word, load_turns}
use Rattle.standing_calls.proofs.Marks.{readers_fit}
use Rattle.standing_calls.proofs.Reached.{load_refused}
use Rattle.heap_core.proofs.fields.load.Goals as goal

pub space_entered-space-requires-clause-value : goal.space_entered-space-requires-clause-value
space_entered-space-requires-clause-value g c =
    let m = c.args.map in
    let old = contents m (g.W.Words.words c.args.words.now) in
    let word : c.get_heap-word.result ≡ get_or old.heap c.in-Ok.a 0 = rw (c.get_heap-word.ensures.value, c.field_of.ensures.words, c.stack_length-count.ensures.words) refl in
    rw (c.get_heap-word.ensures.words, c.field_of.ensures.words, c.stack_length-count.ensures.words) (∥∥₁_map c.requires.stands (λ q. (q.0, q.1, field_word m old q.0 q.1 c.args.thread c.args.s c.args.f c.in-Ok.a c.get_heap-word.result ((rw c.stack_length-count.ensures.words at c.in-Ok.ensures.field) q.0 q.1) word)))

pub returns-in-Ok-clause-turns : goal.returns-in-Ok-clause-turns
returns-in-Ok-clause-turns g c =
    let m = c.args.map in
    let words = g.W.Words.words c.args.words.now in
    let old = contents m words in
    let word : c.get_heap-word.result ≡ get_or old.heap c.in-Ok.a 0 = rw (c.get_heap-word.ensures.value, c.field_of.ensures.words, c.stack_length-count.ensures.words) refl in
    let field = rw c.stack_length-count.ensures.words at c.in-Ok.ensures.field in
    let told = rw (c.get_heap-word.ensures.words, c.field_of.ensures.words, c.stack_length-count.ensures.words) at c.space_entered-space.ensures.space in
    let loaded = rw (c.space_entered-space.ensures.words, c.get_heap-word.ensures.words, c.field_of.ensures.words, c.stack_length-count.ensures.words) at c.push_loaded.ensures.loaded in
    load_turns m old (contents m (g.W.Words.words c.push_loaded.new.words)) c.args.thread c.args.s c.args.f c.in-Ok.a c.get_heap-word.result c.space_entered-space.result c.push_loaded.result c.requires.thread c.requires.sound.areas (readers_fit m words c.requires.sound.whole) field word told loaded

pub returns-in-Err-clause-turns : goal.returns-in-Err-clause-turns
returns-in-Err-clause-turns g c =
    let none = rw c.stack_length-count.ensures.words at c.in-Err.ensures.field in
    rw (c.field_of.ensures.words, c.stack_length-count.ensures.words) (load_refused c.args.map (contents c.args.map (g.W.Words.words c.args.words.now)) c.args.thread c.args.s c.args.f c.in-Err.why c.requires.thread none)

pub field_of-requires-clause-stands : goal.field_of-requires-clause-stands
field_of-requires-clause-stands g c = rw c.stack_length-count.ensures.words c.requires.stands
