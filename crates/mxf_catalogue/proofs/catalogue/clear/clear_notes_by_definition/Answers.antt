use Rattle.mxf_catalogue.proofs.DisputeLaws.{In-clear_notes, IsContent-clear_notes}
use Rattle.mxf_catalogue.proofs.catalogue.clear.clear_notes_by_definition.Goals as goal

pub returns : goal.returns
returns c = record { members = In-clear_notes; order = IsContent-clear_notes }
