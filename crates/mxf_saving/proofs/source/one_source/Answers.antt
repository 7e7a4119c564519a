use Rattle.mxf_saving.proofs.SourceLaws as laws
use Rattle.mxf_saving.proofs.source.one_source.Goals as goal

pub returns : goal.returns
returns c = laws.one_source
