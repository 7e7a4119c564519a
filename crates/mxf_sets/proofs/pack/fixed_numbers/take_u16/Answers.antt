use Rattle.std.proofs.Common.{arith}
use Rattle.mxf_klv.proofs.RoundTrips.{AreBytes-take}
use Rattle.mxf_sets.proofs.pack.fixed_numbers.take_u16.Goals as goal

pub returns-clause-number : goal.returns-clause-number
returns-clause-number c = grind (arith, AreBytes-take 2)
