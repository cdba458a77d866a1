use Rattle.std.proofs.Common.{◌∙◌, sym, ap, subst}
use Rattle.heap_words.specs.Map.{IsAreas}
use Rattle.object_layout.specs.Layout.{value_word}
use Rattle.mutator.proofs.Asking.{slot_still}
use Rattle.mutator.proofs.Valued.{gets_int, gets_null, gets_object, gets_other, header_there, looks_header, refers}
use Rattle.mutator.proofs.quick_calls.shown.Goals as goal

pub load_header-requires-clause-refers : goal.load_header-requires-clause-refers
load_header-requires-clause-refers c = (
  c.requires.slot.0,
  refers c.args.inside.now.seat.me.0 c.requires.so c.requires.slot.0 c.args.word c.requires.slot.1 c.in-Some-Ref.object.0 (sym c.in-Some-Ref.ensures.some.1 ∙ ap value_word c.in-Some-Ref.field-0-is),
)

pub returns-in-Some-Int-clause-reply : goal.returns-in-Some-Int-clause-reply
returns-in-Some-Int-clause-reply c k shows = gets_int c.args.inside.now.seat.me.0 c.requires.so k c.args.word shows c.in-Some-Int.i (sym c.in-Some-Int.ensures.some.1 ∙ ap value_word c.in-Some-Int.field-0-is)

pub returns-in-Some-Ref-clause-searched : goal.returns-in-Some-Ref-clause-searched
returns-in-Some-Ref-clause-searched c = looks_header c.args.inside.now.seat.me.0 c.load_header.new.self.seat.me.0 c.in-Some-Ref.object.0 c.load_header.result c.args.inside.now.single c.load_header.ensures.loaded

pub returns-in-Some-Ref-clause-reply : goal.returns-in-Some-Ref-clause-reply
returns-in-Some-Ref-clause-reply c k shows =
    let v = c.args.inside.now.seat.me.0 in
    let w = c.load_header.new.self.seat.me.0 in
    let one = c.args.inside.now.single in
    let at = c.in-Some-Ref.object.0 in
    let searched = looks_header v w at c.load_header.result one c.load_header.ensures.loaded in
    gets_object w searched.so k c.args.word (slot_still v w one searched k c.args.word shows) at c.load_header.result c.field_count.result (sym c.in-Some-Ref.ensures.some.1 ∙ ap value_word c.in-Some-Ref.field-0-is)
    (header_there v w at c.load_header.result one c.load_header.ensures.loaded) c.field_count.ensures.fields

pub returns-in-Some-Null-clause-reply : goal.returns-in-Some-Null-clause-reply
returns-in-Some-Null-clause-reply c k shows = gets_null c.args.inside.now.seat.me.0 c.requires.so k c.args.word shows (sym c.in-Some-Null.ensures.some.1 ∙ ap value_word c.in-Some-Null.field-0-is)

pub returns-in-None-clause-reply : goal.returns-in-None-clause-reply
returns-in-None-clause-reply c k shows =
    gets_other c.args.inside.now.seat.me.0 c.requires.so k c.args.word shows (subst IsAreas (sym c.requires.gate.1) c.args.gate.now.areas) c.in-None.ensures.some.0 c.in-None.ensures.some.1
