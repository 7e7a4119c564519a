use Rattle.std.proofs.Common.{arith}
use Rattle.mxf_catalogue.proofs.MergeLaws.{length-union_of}
use Rattle.mxf_catalogue.proofs.catalogue.merging.MergedNotes.of.Goals as goal

pub returns-clause-len : goal.returns-clause-len
returns-clause-len c = omega (arith, length-union_of c.from.result.items c.from-2.result.items)
