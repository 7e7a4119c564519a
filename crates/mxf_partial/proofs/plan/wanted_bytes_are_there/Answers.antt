use Rattle.mxf_partial.proofs.UnitPlanLaws.{none_left, wanted_there}
use Rattle.mxf_partial.proofs.plan.wanted_bytes_are_there.Goals as goal

pub returns : goal.returns
returns c = record { ordered = wanted_there; none = none_left }
