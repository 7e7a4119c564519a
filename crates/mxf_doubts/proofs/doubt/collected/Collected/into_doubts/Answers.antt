use Rattle.mxf_doubts.specs.Codes.{doubt_cmp-IsAntisymmetric}
use Rattle.mxf_doubts.proofs.doubt.collected.Collected.into_doubts.Goals as goal

pub sort_once-requires : goal.sort_once-requires
sort_once-requires c = doubt_cmp-IsAntisymmetric
