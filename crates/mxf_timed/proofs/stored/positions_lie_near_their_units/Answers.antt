use Rattle.mxf_timed.proofs.StoredLaws.{near}
use Rattle.mxf_timed.proofs.stored.positions_lie_near_their_units.Goals as goal

pub returns : goal.returns
returns c = near
