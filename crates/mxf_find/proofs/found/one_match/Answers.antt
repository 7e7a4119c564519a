use Rattle.mxf_find.proofs.FoundLaws.{one_found}
use Rattle.mxf_find.proofs.found.one_match.Goals as goal

pub returns : goal.returns
returns c = one_found
