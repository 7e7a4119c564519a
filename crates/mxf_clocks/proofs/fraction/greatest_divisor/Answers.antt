use Rattle.mxf_views.proofs.Common.{arith, sym}
use Rattle.std.proofs.lemmas.Nat.Gcd.{IsGcd-from_zero, IsGcd-from_mod}
use Rattle.mxf_clocks.proofs.FractionLaws.{divisor_is}
use Rattle.mxf_clocks.proofs.fraction.greatest_divisor.Goals as goal

pub loop-less-preserved : goal.loop-less-preserved
loop-less-preserved c = record {
  kept = λ g h. c.loop-less.invariant.kept g (IsGcd-from_mod _ _ g h);
  some = omega arith;
}

pub returns-clause-divisor : goal.returns-clause-divisor
returns-clause-divisor c = sym (divisor_is c.args.a c.args.b c.loop-less.greater c.requires c.loop-less.invariant.some
    (c.loop-less.invariant.kept _ (IsGcd-from_zero _ _ (omega arith))))
