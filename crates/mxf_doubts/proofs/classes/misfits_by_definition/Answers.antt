use Rattle.mxf_doubts.proofs.ClassLaws.{misfit}
use Rattle.mxf_doubts.proofs.classes.misfits_by_definition.Goals as goal

pub returns : goal.returns
returns c = misfit
