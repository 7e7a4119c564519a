use Rattle.mxf_sets.proofs.RipLaws.{same_rip}
use Rattle.mxf_sets.proofs.pack.random_index.one_rip.Goals as goal

pub returns-clause-pack : goal.returns-clause-pack
returns-clause-pack c = same_rip
