use Rattle.mxf_restore.proofs.PlanMembers.{gap_ordered}
use Rattle.mxf_restore.proofs.plan.gaps_are_ordered.Goals as goal

pub returns : goal.returns
returns c at notes x content gap edge = gap_ordered at notes x content gap edge
