use Rattle.mxf_catalogue.specs.Disputes.{clear_notes}
use Rattle.mxf_views.specs.Copies.{sets_of}
use Rattle.mxf_tracks.proofs.StartLaws.{kinds_told}
use Rattle.mxf_tracks.proofs.package.packages_are_of_the_kind_of_their_notes.Goals as goal

pub returns : goal.returns
returns c notes r f i = kinds_told (clear_notes notes) (sets_of notes r.partition) r.packages f i
