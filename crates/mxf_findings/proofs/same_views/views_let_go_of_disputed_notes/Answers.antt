use Rattle.mxf_findings.proofs.SameViewsLaws.{same_views}
use Rattle.mxf_findings.proofs.same_views.views_let_go_of_disputed_notes.Goals as goal

pub returns : goal.returns
returns c = same_views
