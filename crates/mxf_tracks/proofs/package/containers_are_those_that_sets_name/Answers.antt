use Rattle.std.proofs.Common.{◌∙◌, sym}
use Rattle.mxf_catalogue.specs.Disputes.{clear_notes}
use Rattle.mxf_views.specs.Copies.{sets_of}
use Rattle.mxf_tracks.proofs.NamedLaws.{container-is}
use Rattle.mxf_tracks.proofs.StartLaws.{containers_told}
use Rattle.mxf_tracks.proofs.package.containers_are_those_that_sets_name.Goals as goal

pub returns : goal.returns
returns c notes r f container i =
    let sets = sets_of notes r.partition in
    let told = containers_told (clear_notes notes) sets r.packages f i in
    let is = container-is sets f.properties.package_uid container in
    (λ e. is.0 (sym told ∙ e), λ n. told ∙ is.1 n)
