use Rattle.std.proofs.Math.Logic.{∥∥₁_map}
use Rattle.heap_words.specs.Contents.{contents}
use Rattle.heap_words.proofs.Contents.{length-buffers, length-heap}
use Rattle.standing_calls.proofs.Logged.{hold-told}
use Rattle.standing_calls.proofs.Reached.{store_refused, store_refused_value}
use Rattle.standing_calls.proofs.Storing.{store_turns}
use Rattle.std.proofs.Common.{◌≡◌}
use Rattle.yak_model.specs.Graph.{slot_of}
use Rattle.yak_model.specs.Spaces.{SpaceState}
use Rattle.yak_model.specs.Stands.{Stands}
use Rattle.standing_calls.specs.Records.{home_at}
use Rattle.standing_calls.proofs.Homes.{slot_value}
use Rattle.heap_core.proofs.fields.store.Goals as goal

pub returns-in_default-clause-turns : goal.returns-in_default-clause-turns
returns-in_default-clause-turns g c =
    rw (c.slot_below.ensures.words, c.stack_length-count.ensures.words) (store_refused_value c.args.map (contents c.args.map (g.W.Words.words c.args.words.now)) c.args.thread c.args.s c.args.f c.args.x c.requires.thread (rw c.stack_length-count.ensures.words at c.in_default.ensures.slot))

pub field_of-requires-clause-stands : goal.field_of-requires-clause-stands
field_of-requires-clause-stands g c = rw (c.slot_below.ensures.words, c.stack_length-count.ensures.words) (∥∥₁_map c.requires.recorded (λ q. (q.0, q.1)))

pub space_of_word-to-requires-clause-value : goal.space_of_word-to-requires-clause-value
space_of_word-to-requires-clause-value g c =
    let old = contents c.args.map (g.W.Words.words c.args.words.now) in
    let there = rw c.stack_length-count.ensures.words at c.in-Ok.ensures.slot in
    rw (c.field_of.ensures.words, c.slot_below.ensures.words, c.stack_length-count.ensures.words) (∥∥₁_map c.requires.recorded (λ q. (q.0, q.1, slot_value c.args.map old q.0 q.1 c.args.thread c.args.x c.in-Ok.word there.1)))

pub space_left-from-requires-clause-stands : goal.space_left-from-requires-clause-stands
space_left-from-requires-clause-stands g c = rw (c.space_of_word-to.ensures.words, c.field_of.ensures.words, c.slot_below.ensures.words, c.stack_length-count.ensures.words) (∥∥₁_map c.requires.recorded (λ q. (q.0, q.1)))

pub store_word-requires-clause-hold : goal.store_word-requires-clause-hold
store_word-requires-clause-hold g c = rw (c.space_left-from.ensures.words, c.space_of_word-to.ensures.words, c.field_of.ensures.words, c.slot_below.ensures.words, c.stack_length-count.ensures.words) (hold-told c.args.map (contents c.args.map (g.W.Words.words c.args.words.now)) c.requires.sound.areas c.requires.recorded)

pub returns-in-Ok-field_of-clause-turns : goal.returns-in-Ok-field_of-clause-turns
returns-in-Ok-field_of-clause-turns g c =
    let m = c.args.map in
    let words = g.W.Words.words c.args.words.now in
    let old = contents m words in
    let field = rw (c.slot_below.ensures.words, c.stack_length-count.ensures.words) at c.in-Ok-field_of.ensures.field in
    let from = rw (c.space_of_word-to.ensures.words, c.field_of.ensures.words, c.slot_below.ensures.words, c.stack_length-count.ensures.words) at c.space_left-from.ensures.crosses in
    let there = rw c.stack_length-count.ensures.words at c.in-Ok.ensures.slot in
    let told = rw (c.field_of.ensures.words, c.slot_below.ensures.words, c.stack_length-count.ensures.words) at c.space_of_word-to.ensures.space in
    let to : (s : SpaceState) (h : Stands m old s) → c.space_of_word-to.result ≡ home_at s (slot_of s.graph c.args.thread c.args.x) = λ s h. told s h (slot_value m old s h c.args.thread c.args.x c.in-Ok.word there.1) in
    let stored = rw (c.space_left-from.ensures.words, c.space_of_word-to.ensures.words, c.field_of.ensures.words, c.slot_below.ensures.words, c.stack_length-count.ensures.words) at c.store_word.ensures.stored in
    store_turns m old (contents m (g.W.Words.words c.store_word.new.words)) c.args.thread c.args.s c.args.f c.args.x c.in-Ok-field_of.a c.in-Ok.word c.space_left-from.result c.space_of_word-to.result c.requires.sound.areas c.requires.thread (length-heap m words c.requires.sound.whole) (length-buffers m words) (hold-told m old c.requires.sound.areas c.requires.recorded).1 c.store_word.ensures.sound.limits there.0 field there.1 from to stored

pub returns-in-Err-clause-turns : goal.returns-in-Err-clause-turns
returns-in-Err-clause-turns g c =
    let none = rw (c.slot_below.ensures.words, c.stack_length-count.ensures.words) at c.in-Err.ensures.field in
    rw (c.field_of.ensures.words, c.slot_below.ensures.words, c.stack_length-count.ensures.words) (store_refused c.args.map (contents c.args.map (g.W.Words.words c.args.words.now)) c.args.thread c.args.s c.args.f c.args.x c.in-Err.why c.requires.thread (rw c.stack_length-count.ensures.words at c.in-Ok.ensures.slot).0 none)
