use Rattle.mxf_views.specs.Copies.{sets_of}
use Rattle.mxf_views.proofs.CopyLaws.{sets_apart}
use Rattle.mxf_references.proofs.FoundLaws.{found_iff}
use Rattle.mxf_references.proofs.reference.found_by_definition.Goals as goal

pub returns : goal.returns
returns c notes partition uid f r = found_iff (sets_of notes partition) uid f (sets_apart notes partition r)
