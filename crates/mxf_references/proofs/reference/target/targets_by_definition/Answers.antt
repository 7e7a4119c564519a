use Rattle.mxf_views.proofs.CopyLaws.{sets_apart}
use Rattle.mxf_references.proofs.FoundLaws.{target_of_iff}
use Rattle.mxf_references.proofs.reference.target.targets_by_definition.Goals as goal

pub returns : goal.returns
returns c notes partition wanted uid t r = target_of_iff notes partition wanted uid t (sets_apart notes partition r)
