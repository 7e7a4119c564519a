use Rattle.mxf_views.proofs.CopyLaws.{copies_are, copies_rise}
use Rattle.mxf_views.proofs.copy.copies_by_definition.Goals as goal

pub returns-clause-copies : goal.returns-clause-copies
returns-clause-copies c = copies_are

pub returns-clause-rising : goal.returns-clause-rising
returns-clause-rising c = copies_rise
