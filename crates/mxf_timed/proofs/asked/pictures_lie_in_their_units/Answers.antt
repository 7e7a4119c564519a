use Rattle.mxf_timed.proofs.BoundLaws.{lie_between}
use Rattle.mxf_timed.proofs.asked.pictures_lie_in_their_units.Goals as goal

pub returns : goal.returns
returns c = lie_between
