use Rattle.mxf_catalogue.specs.Disputes.{clear_notes}
use Rattle.mxf_views.specs.Copies.{sets_of}
use Rattle.mxf_tracks.proofs.StartLaws.{one_start, sequences_begin}
use Rattle.mxf_tracks.proofs.package.components_begin_behind_those_before.Goals as goal

pub returns-clause-begin : goal.returns-clause-begin
returns-clause-begin c notes r s i = sequences_begin (clear_notes notes) (sets_of notes r.partition) r.packages s i

pub returns-clause-one : goal.returns-clause-one
returns-clause-one c = one_start
