use Rattle.std.proofs.Common.{◌*◌, ◌^◌, ◌<◌, ◌≡◌, arith, ap, subst, ◌∙◌}
use Rattle.yak_model.specs.declared.TheConstants.{BYTE_VALUES, GROUP_BYTES}
use Rattle.heap_tables.proofs.Groups.{power_bound}
use Rattle.yak_model.specs.Tables.{digits, group}
use Rattle.heap_tables.proofs.keys.group.Goals as goal

pub overflow_mul-value : goal.overflow_mul-value
overflow_mul-value c = let h = c.loop-j-test.true in omega (arith, c.loop-j.invariant.0, power_bound c.loop-j.j (omega (arith, h)))

pub overflow_add-value : goal.overflow_add-value
overflow_add-value c = let h = c.loop-j-test.true in omega (arith, c.loop-j.invariant.0, power_bound c.loop-j.j (omega (arith, h)), c.ranges)

pub returns-clause-same : goal.returns-clause-same
unfolding group
returns-clause-same c = let h = c.loop-j.auto.j-end in let e : c.loop-j.j ≡ GROUP_BYTES = omega (arith, h, c.loop-j-test.false) in c.loop-j.invariant.1 ∙ ap (λ n. digits c.args.word.now (GROUP_BYTES * c.args.i) n) e

pub returns-clause-small : goal.returns-clause-small
returns-clause-small c =
    let h = c.loop-j.auto.j-end in
    let e : c.loop-j.j ≡ GROUP_BYTES = omega (arith, h, c.loop-j-test.false) in
    let low : c.loop-j.value < BYTE_VALUES ^ GROUP_BYTES = subst (λ n. c.loop-j.value < BYTE_VALUES ^ n) e c.loop-j.invariant.0 in
    omega (arith, low)
