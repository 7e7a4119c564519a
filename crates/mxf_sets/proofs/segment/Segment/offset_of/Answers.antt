use Rattle.std.proofs.Common.{arith, rules}
use Rattle.std.proofs.lemmas.Nat.{mul-lt}
use Rattle.mxf_sets.proofs.segment.Segment.offset_of.Goals as goal

pub overflow_mul-result : goal.overflow_mul-result
overflow_mul-result c = grind (arith, mul-lt)

pub returns-then-numbers-gt0-clause-bound : goal.returns-then-numbers-gt0-clause-bound
returns-then-numbers-gt0-clause-bound c = grind (arith, mul-lt)

pub returns-then-unit-start-clause-offset : goal.returns-then-unit-start-clause-offset
returns-then-unit-start-clause-offset c = search rules

pub returns-then-place-duration-clause-offset : goal.returns-then-place-duration-clause-offset
returns-then-place-duration-clause-offset c = search rules

pub returns-then-numbers-gt0-clause-offset : goal.returns-then-numbers-gt0-clause-offset
returns-then-numbers-gt0-clause-offset c = search rules

pub returns-then-place-duration-2-clause-offset : goal.returns-then-place-duration-2-clause-offset
returns-then-place-duration-2-clause-offset c = search rules

pub returns-clause-offset : goal.returns-clause-offset
returns-clause-offset c = search rules
