use Rattle.mxf_views.proofs.StartLaws.{start_is, one_start}
use Rattle.mxf_views.proofs.copy.starts_by_definition.Goals as goal

pub returns : goal.returns
returns c = record { start = start_is; one = one_start }
