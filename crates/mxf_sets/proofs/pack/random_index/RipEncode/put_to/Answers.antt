use Rattle.std.proofs.Common.{arith}
use Rattle.mxf_sets.proofs.Writing.{WritesPart-second}
use Rattle.mxf_sets.proofs.pack.random_index.RipEncode.put_to.Goals as goal

pub returns : goal.returns
returns g c = grind (arith, WritesPart-second)
