use Rattle.mxf_catalogue.proofs.DisputeLaws.{IsDisputed-two_ways}
use Rattle.mxf_catalogue.proofs.catalogue.disputed.notes_are_disputed_in_two_ways.Goals as goal

pub returns : goal.returns
returns c = IsDisputed-two_ways
