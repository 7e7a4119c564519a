use Rattle.std.proofs.Common.{ap, arith, length}
use Rattle.std.proofs.lemmas.Fmt.{decimal_digit, length-decimal-le_wide}
use Rattle.mxf_lines.proofs.MapLineLaws.{one_digit_more}
use Rattle.mxf_lines.proofs.printing.map.digits_of.Goals as goal

pub overflow_add-digits : goal.overflow_add-digits
overflow_add-digits c =
    let most = length-decimal-le_wide 39 c.args.number (omega arith) (omega (arith, c.ranges.number.fits))
    (omega (arith, c.ranges.number.fits)) in
    omega (arith, most, c.loop-left.invariant.0)

pub loop-left-preserved : goal.loop-left-preserved
loop-left-preserved c =
    let step = one_digit_more c.loop-left.left c.loop-left-test.true (omega (arith, c.loop-left.auto.left-fits)) in
    (omega (arith, step, c.loop-left.invariant.0), omega (arith, c.loop-left.invariant.1))

pub returns : goal.returns
returns c =
    let one = ap length (decimal_digit c.loop-left.left c.loop-left-test.false) in
    omega (arith, one, c.loop-left.invariant.0)
