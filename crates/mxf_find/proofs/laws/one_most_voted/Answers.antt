use Rattle.mxf_find.proofs.FoundLaws.{one_most}
use Rattle.mxf_find.proofs.laws.one_most_voted.Goals as goal

pub returns : goal.returns
returns c = one_most
