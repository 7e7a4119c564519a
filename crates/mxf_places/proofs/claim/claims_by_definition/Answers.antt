use Rattle.mxf_places.proofs.ClaimLaws.{claims_say}
use Rattle.mxf_places.proofs.claim.claims_by_definition.Goals as goal

pub returns : goal.returns
returns c notes claim content = claims_say notes content claim
