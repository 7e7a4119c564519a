use Rattle.std.proofs.Common.{arith, zero-mul}
use Rattle.byteorder.specs.Numbers.{big_from-take}
use Rattle.mxf_sets.proofs.BatchTests.{counted_batch, second_number}
use Rattle.mxf_sets.proofs.batch.Batch.read.Goals as goal

pub invariant_of-result : goal.invariant_of-result
invariant_of-result c = grind (arith, zero-mul)

pub returns : goal.returns
returns c = grind (arith, big_from-take, counted_batch, invariant_of-result, second_number)
