use Rattle.mxf_views.proofs.PrimerLaws.{primer_for_iff}
use Rattle.mxf_views.proofs.copy.primer_for_by_definition.Goals as goal

pub returns : goal.returns
returns c = primer_for_iff
