use Rattle.mxf_klv.proofs.Common.{arith, ints}
use Rattle.mxf_find.proofs.laws.shifts_are_offsets.Goals as goal

pub returns : goal.returns
returns c f p n l = omega (arith, ints)
