use Rattle.mxf_partial.proofs.MetadataPlanLaws.{members, rising}
use Rattle.mxf_partial.proofs.plan.metadata.metadata_plan_by_definition.Goals as goal

pub returns-clause-members : goal.returns-clause-members
returns-clause-members c = members

pub returns-clause-rising : goal.returns-clause-rising
returns-clause-rising c = rising
