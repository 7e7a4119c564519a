use Rattle.mxf_references.proofs.ResolvedLaws.{resolved_iff}
use Rattle.mxf_references.proofs.reference.resolved.resolved_by_definition.Goals as goal

pub returns : goal.returns
returns c = resolved_iff
