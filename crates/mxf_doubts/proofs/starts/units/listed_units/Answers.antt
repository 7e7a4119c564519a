use Rattle.mxf_doubts.proofs.IndexLaws.{one_unit}
use Rattle.mxf_doubts.proofs.starts.units.listed_units.Goals as goal

pub sort_once-requires : goal.sort_once-requires
sort_once-requires c = one_unit
