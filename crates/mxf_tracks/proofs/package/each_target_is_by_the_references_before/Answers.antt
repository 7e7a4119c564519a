use Rattle.mxf_tracks.proofs.OneTarget.{one_target}
use Rattle.mxf_tracks.proofs.TargetLaws.{by_those_before}
use Rattle.mxf_tracks.proofs.package.each_target_is_by_the_references_before.Goals as goal

pub returns-clause-told : goal.returns-clause-told
returns-clause-told c notes r content found = by_those_before notes r content found

pub returns-clause-one : goal.returns-clause-one
returns-clause-one c = one_target
