use Rattle.mxf_lines.proofs.DisputesLineLaws.{told-disputes}
use Rattle.mxf_lines.proofs.printing.unit_plan.told_disputes_by_definition.Goals as goal

pub returns : goal.returns
returns c = told-disputes
