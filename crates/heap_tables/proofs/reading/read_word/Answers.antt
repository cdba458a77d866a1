use Rattle.std.proofs.Common.{◌≡◌, ◌+◌, ◌*◌, ◌/◌, ◌%◌, ◌<◌, ◌∙◌, ap, refl, arith, length, length-set, get_or}
use Rattle.yak_model.specs.declared.TheConstants.{GROUP_BYTES}
use Rattle.yak_model.specs.Tables.{group}
use Rattle.heap_tables.proofs.Bytes.{front_more, group_digits, next_group, same_front}
use Rattle.heap_tables.proofs.Effects.{value_same}
use Rattle.heap_tables.proofs.RunOn.{ran_more}
use Rattle.heap_tables.proofs.reading.read_word.Goals as goal

pub field_int-size-requires-clause-field : goal.field_int-size-requires-clause-field
field_int-size-requires-clause-field g c =
    let h = c.requires.key in
    (h.0, h.1, h.4.1.0, h.3, (h.4.0, h.4.1.1), omega (arith, h.4.1.2.size))

pub loop-i-init : goal.loop-i-init
loop-i-init g c = let C = g.C.Caller in record {
  ran = c.field_int-size.ensures.ran;
  keeps = c.field_int-size.ensures.keeps;
  own = c.field_int-size.ensures.own;
  buffer = refl;
  read = λ known name word k key. (
    c.field_int-size.ensures.value known name key.1.0 (length word) k (key.0, key.1.1) (omega (arith, key.1.2.size)) key.1.2.first,
    λ ne. absurd (ne refl),
    λ j h. absurd (omega (arith, h)),
  );
}

pub group_of-group-requires-clause-key : goal.group_of-group-requires-clause-key
group_of-group-requires-clause-key g c =
    let h = c.requires.key in
    let inv = c.loop-i.invariant in
    let size = (inv.read h.0 h.1 h.2 h.3 h.4).0 in
    (h.0, h.1, h.2, inv.keeps h.0 h.3, (value_same _ _ c.args.key inv.own ∙ h.4.0, h.4.1), h.5, omega (arith, c.loop-i-test.true, size))

pub loop-i-preserved : goal.loop-i-preserved
loop-i-preserved g c =
    let C = g.C.Caller in
    let inv = c.loop-i.invariant in
    let i = c.loop-i.i in
    let long = inv.buffer in
    let h = c.requires.key in
    let whole = (inv.read h.0 h.1 h.2 h.3 h.4).0 in
    let within : i < length c.loop-i.buffer = omega (arith, long, c.loop-i-test.true, whole, h.5, c.requires.buffer) in
    record {
      ran = ran_more C.base C.tells C.tells_known C.standing _ _ _ inv.ran c.group_of-group.ensures.ran;
      keeps = λ known k. c.group_of-group.ensures.keeps known (inv.keeps known k);
      own = c.group_of-group.ensures.own ∙ inv.own;
      buffer = length-set c.loop-i.buffer i c.byte_of.result ∙ inv.buffer;
      read = λ known name word k key.
          let r = inv.read known name word k key in
          let size = r.0 in
          let below : i < length word = omega (arith, c.loop-i-test.true, size) in
          let e = c.group_of-group.ensures.group known name word (inv.keeps known k) (value_same _ _ c.args.key inv.own ∙ key.0, key.1) below r.1 in
          let place : GROUP_BYTES * (i / GROUP_BYTES) + i % GROUP_BYTES ≡ i = omega arith in
          let byte = c.byte_of.ensures word (GROUP_BYTES * (i / GROUP_BYTES)) key.1.3 (e ∙ group_digits word (i / GROUP_BYTES)) ∙ ap (λ j. get_or word j 0) place in (
            r.0,
            (λ ne. let same : i / GROUP_BYTES ≡ (i + 1) / GROUP_BYTES = next_group i ne in e ∙ ap (group word) same),
            (λ j h. front_more word c.loop-i.buffer i c.byte_of.result within r.2 byte j h),
          );
    }

pub returns-clause-copied : goal.returns-clause-copied
returns-clause-copied g c known name word k key =
    let inv = c.loop-i.invariant in
    let h = c.requires.key in
    let r = inv.read known name word k key in
    let all : c.loop-i.i ≡ c.field_int-size.result = omega (arith, c.loop-i-test.false, c.loop-i.auto.i-end) in
    let long = inv.buffer in
    (r.0, same_front word c.loop-i.buffer c.field_int-size.result r.0 (let own = (inv.read h.0 h.1 h.2 h.3 h.4).0 in omega (arith, own, h.5, long, c.requires.buffer)) (λ j below. r.2 j (omega (arith, below, all))))
