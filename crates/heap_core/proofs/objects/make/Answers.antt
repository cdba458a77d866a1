use Rattle.std.proofs.Common.{◌∙◌}
use Rattle.heap_words.specs.Contents.{contents}
use Rattle.heap_words.proofs.Contents.{length-made}
use Rattle.region_pages.proofs.Shapes.{shape}
use Rattle.standing_calls.proofs.Makes.{make_turns}
use Rattle.heap_core.proofs.objects.make.Goals as goal

pub new_place-requires-clause-stands : goal.new_place-requires-clause-stands
new_place-requires-clause-stands g c = rw c.new_header-header.ensures.words c.requires.stands

pub write_object-requires-clause-within : goal.write_object-requires-clause-within
write_object-requires-clause-within g c = c.in-Ok.ensures.within

pub returns-in_default-clause-none : goal.returns-in_default-clause-none
returns-in_default-clause-none g c =
    let none = rw c.new_header-header.ensures.words at c.in_default.ensures.none in
    (record { few_left = none.0; none_free = none.1 }, c.in_default.ensures.none.2 ∙ c.new_header-header.ensures.words)

pub returns-clause-made : goal.returns-clause-made
returns-clause-made g c =
    let m = c.args.map in
    let words = g.W.Words.words c.args.words.now in
    let placed = rw c.new_header-header.ensures.words at c.in-Ok.ensures.placed in
    make_turns m (contents m words) (contents m (g.W.Words.words c.new_place.new.words)) (contents m (g.W.Words.words c.write_object.new.words)) (contents m (g.W.Words.words c.set_made.new.words)) (contents m (g.W.Words.words c.push_word.new.words)) c.args.thread c.args.fields c.args.made c.in-Ok.a.0 c.new_header-header.result c.encode_name-name.result c.encode_value.result c.push_word.result c.requires.sound.areas c.requires.thread c.requires.few c.requires.slot c.requires.made c.requires.unspent (shape m words c.requires.sound) (length-made m words) c.in-Ok.ensures.pool c.in-Ok.ensures.currents c.new_header-header.ensures.header c.encode_name-name.ensures.word c.encode_value.ensures.word placed c.write_object.ensures.written c.set_made.ensures.set c.push_word.ensures.pushed
