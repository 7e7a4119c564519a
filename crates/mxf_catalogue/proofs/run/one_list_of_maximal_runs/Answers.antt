use Rattle.mxf_catalogue.proofs.RunLaws.{same_runs}
use Rattle.mxf_catalogue.proofs.run.one_list_of_maximal_runs.Goals as goal

pub returns : goal.returns
returns c = same_runs 0 0
