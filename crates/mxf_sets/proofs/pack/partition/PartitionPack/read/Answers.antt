use Rattle.std.proofs.Common.{arith}
use Rattle.mxf_sets.proofs.PackComputing.{pack_computes}
use Rattle.mxf_sets.proofs.pack.partition.PartitionPack.read.Goals as goal

pub returns-clause-computed : goal.returns-clause-computed
returns-clause-computed c = grind (arith, pack_computes)
