use Rattle.mxf_partial.proofs.UnitPlanLaws.{units_lack}
use Rattle.mxf_partial.proofs.plan.orders_of_units_are_missing.Goals as goal

pub returns : goal.returns
returns c = units_lack
