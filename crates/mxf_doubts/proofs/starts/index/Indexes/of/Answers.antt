use Rattle.mxf_doubts.proofs.OwnLaws.{one_own}
use Rattle.mxf_doubts.proofs.starts.index.Indexes.of.Goals as goal

pub sort_once-requires : goal.sort_once-requires
sort_once-requires c = one_own
