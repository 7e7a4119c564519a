use Rattle.mxf_partial.proofs.ManyLaws.{one_many}
use Rattle.mxf_partial.proofs.many.one_many.Goals as goal

pub returns : goal.returns
returns c = one_many
