use Rattle.mxf_catalogue.proofs.DisputeLaws.{In-disputed_notes, notes-disputed_notes, IsContent-disputed_notes}
use Rattle.mxf_catalogue.proofs.catalogue.disputed.disputed_notes_by_definition.Goals as goal

pub returns : goal.returns
returns c = record { members = In-disputed_notes; sublist = notes-disputed_notes; order = IsContent-disputed_notes }
