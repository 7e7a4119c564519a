use Rattle.std.proofs.Common.{◌≡◌, ◌+◌, ◌*◌, ◌^◌, arith, add-one}
use Rattle.std.proofs.Math.Nat.{pow-suc}
use Rattle.mxf_timed.proofs.WordLaws.{digit_small, one_more}
use Rattle.mxf_timed.proofs.timecode_word.number_of.Goals as goal

pub loop-digit-preserved : goal.loop-digit-preserved
loop-digit-preserved c =
    let i = c.loop-digit.digit-index in
    let ds = c.args.digits.now in
    let more = one_more ds i c.requires.digits c.loop-digit-test.true in
    let small = digit_small ds i c.requires.digits c.loop-digit-test.true in
    let ten : 10 ^ (i + 1) ≡ 10 ^ i * 10 = rw add-one (pow-suc 10 i) in
    record {
      number_is = omega (arith, more, c.loop-digit.invariant.number_is, c.from.ensures);
      bound = omega (arith, ten, small, c.loop-digit.invariant.bound, c.from.ensures);
    }
