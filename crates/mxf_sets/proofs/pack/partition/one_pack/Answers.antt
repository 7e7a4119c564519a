use Rattle.mxf_sets.proofs.PackLaws.{same_pack}
use Rattle.mxf_sets.proofs.pack.partition.one_pack.Goals as goal

pub returns-clause-pack : goal.returns-clause-pack
returns-clause-pack c = same_pack
