use Rattle.std.proofs.Common.{[]}
use Rattle.mxf_catalogue.specs.Disputes.{clear_notes}
use Rattle.mxf_views.specs.Copies.{sets_of}
use Rattle.mxf_tracks.proofs.FoundLaws.{packages_named, packages_there}
use Rattle.mxf_tracks.proofs.package.what_is_found_is_read_there.Goals as goal

pub returns-clause-there : goal.returns-clause-there
returns-clause-there c notes r = packages_there (clear_notes notes) (sets_of notes r.partition) [] r.packages

pub returns-clause-named : goal.returns-clause-named
returns-clause-named c notes r = packages_named (clear_notes notes) (sets_of notes r.partition) [] r.packages
