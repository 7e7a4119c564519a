use Rattle.mxf_catalogue.proofs.MovedLaws.{In-moved_notes, rising-moved_by}
use Rattle.mxf_catalogue.proofs.catalogue.change.moved_notes_by_definition.Goals as goal

pub returns-clause-members : goal.returns-clause-members
returns-clause-members c = In-moved_notes

pub returns-clause-rising : goal.returns-clause-rising
returns-clause-rising c = rising-moved_by
