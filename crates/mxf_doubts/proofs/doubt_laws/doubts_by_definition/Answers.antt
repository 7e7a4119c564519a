use Rattle.mxf_doubts.proofs.DoubtLaws.{doubts_iff, doubts_rise}
use Rattle.mxf_doubts.proofs.doubt_laws.doubts_by_definition.Goals as goal

pub returns-clause-doubts : goal.returns-clause-doubts
returns-clause-doubts c = doubts_iff

pub returns-clause-rising : goal.returns-clause-rising
returns-clause-rising c = doubts_rise
