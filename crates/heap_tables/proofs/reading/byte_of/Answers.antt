use Rattle.std.proofs.Common.{◌≡◌, ◌+◌, ◌-◌, ◌/◌, ◌%◌, ◌∙◌, ap, arith}
use Rattle.yak_model.specs.declared.TheConstants.{BYTE_VALUES, GROUP_BYTES}
use Rattle.yak_model.specs.Tables.{digits}
use Rattle.heap_tables.proofs.Bytes.{digits_last, digits_over}
use Rattle.heap_tables.proofs.reading.byte_of.Goals as goal

pub loop-k-init : goal.loop-k-init
loop-k-init c word start bytes e = let same : GROUP_BYTES ≡ GROUP_BYTES + (c.args.j + 1) - (c.args.j + 1) = omega arith in e ∙ ap (digits word start) same

pub loop-k-preserved : goal.loop-k-preserved
loop-k-preserved c word start bytes e =
    let k = c.loop-k.k in
    let test = c.loop-k-test.true in
    let down : GROUP_BYTES + (c.args.j + 1) - k ≡ (GROUP_BYTES + (c.args.j + 1) - (k + 1)) + 1 = omega (arith, test) in
    ap (λ r. r / BYTE_VALUES) (c.loop-k.invariant word start bytes e) ∙ digits_over word start (GROUP_BYTES + (c.args.j + 1) - (k + 1)) (GROUP_BYTES + (c.args.j + 1) - k) bytes down

pub returns : goal.returns
returns c word start bytes e =
    let last : GROUP_BYTES + (c.args.j + 1) - c.loop-k.k ≡ c.args.j + 1 = omega (arith, c.loop-k-test.false, c.loop-k.auto.k-end) in
    ap (λ r. r % BYTE_VALUES) (c.loop-k.invariant word start bytes e) ∙ digits_last word start c.args.j (GROUP_BYTES + (c.args.j + 1) - c.loop-k.k) bytes last
