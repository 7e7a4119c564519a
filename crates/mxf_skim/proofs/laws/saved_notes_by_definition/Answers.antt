use Rattle.mxf_skim.proofs.SavingLaws.{In-with_heads, IsContent-with_heads, none_passed}
use Rattle.mxf_skim.proofs.laws.saved_notes_by_definition.Goals as goal

pub returns-clause-members : goal.returns-clause-members
returns-clause-members c = In-with_heads

pub returns-clause-rising : goal.returns-clause-rising
returns-clause-rising c = IsContent-with_heads

pub returns-clause-no_other : goal.returns-clause-no_other
returns-clause-no_other c = none_passed
