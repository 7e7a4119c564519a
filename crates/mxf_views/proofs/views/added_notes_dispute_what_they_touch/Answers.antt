use Rattle.mxf_views.proofs.ClearChanges.{touched}
use Rattle.mxf_views.proofs.views.added_notes_dispute_what_they_touch.Goals as goal

pub returns : goal.returns
returns c = touched
