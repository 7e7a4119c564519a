use Rattle.mxf_views.proofs.ChainLaws.{chain_iff}
use Rattle.mxf_views.proofs.chain.chain_by_definition.Goals as goal

pub returns : goal.returns
returns c = chain_iff
