use Rattle.std.proofs.Common.{[]}
use Rattle.mxf_catalogue.specs.Disputes.{clear_notes}
use Rattle.mxf_views.specs.Copies.{sets_of}
use Rattle.mxf_tracks.proofs.OnceLaws.{packages_go}
use Rattle.mxf_tracks.proofs.package.each_set_is_read_once.Goals as goal

pub returns : goal.returns
returns c notes r = (packages_go (clear_notes notes) (sets_of notes r.partition) [] r.packages).once
