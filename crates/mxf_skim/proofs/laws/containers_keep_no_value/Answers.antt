use Rattle.mxf_skim.proofs.ContainerLaws.{keeps_nothing}
use Rattle.mxf_skim.proofs.laws.containers_keep_no_value.Goals as goal

pub returns : goal.returns
returns c = keeps_nothing
