use Rattle.mxf_map.proofs.FitLaws
use Rattle.mxf_map.proofs.MarkLaws
use Rattle.mxf_map.proofs.map.one_mark.Goals as goal

pub returns-clause-some : goal.returns-clause-some
returns-clause-some c = FitLaws.some_mark

pub returns-clause-one : goal.returns-clause-one
returns-clause-one c = MarkLaws.one_mark
