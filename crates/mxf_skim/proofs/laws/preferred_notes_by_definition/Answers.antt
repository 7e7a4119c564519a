use Rattle.mxf_skim.proofs.PreferringLaws.{In-prefer_read, IsContent-prefer_read, is_read_in-IsReadIn}
use Rattle.mxf_skim.proofs.laws.preferred_notes_by_definition.Goals as goal

pub returns-clause-members : goal.returns-clause-members
returns-clause-members c = In-prefer_read

pub returns-clause-rising : goal.returns-clause-rising
returns-clause-rising c = IsContent-prefer_read

pub returns-clause-test : goal.returns-clause-test
returns-clause-test c = is_read_in-IsReadIn
