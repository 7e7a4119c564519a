use Rattle.mxf_map.proofs.MarkLaws
use Rattle.mxf_map.proofs.map.one_map.Goals as goal

pub returns : goal.returns
returns c = MarkLaws.one_map
