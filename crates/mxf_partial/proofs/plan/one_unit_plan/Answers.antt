use Rattle.mxf_partial.proofs.UnitPlanLaws.{one_plan}
use Rattle.mxf_partial.proofs.plan.one_unit_plan.Goals as goal

pub returns : goal.returns
returns c = one_plan
