use Rattle.mxf_restore.proofs.MissingPlaceLaws.{missing_places_say, missing_says}
use Rattle.mxf_restore.proofs.named.missing_places_by_definition.Goals as goal

pub returns : goal.returns
returns c = record { test = missing_says; places = missing_places_say }
