use Rattle.mxf_catalogue.proofs.DisputeLaws.{clear-apart, clear-alone}
use Rattle.mxf_catalogue.proofs.catalogue.clear.clear_notes_stand_apart.Goals as goal

pub returns : goal.returns
returns c = record { bytes = clear-apart; offsets = clear-alone }
