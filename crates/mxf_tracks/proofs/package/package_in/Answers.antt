use Rattle.mxf_views.proofs.Common.{◌∙◌, ap, result_ok}
use Rattle.mxf_sets.specs.Package.{package_at}
use Rattle.mxf_tracks.specs.Walk.{package_in}
use Rattle.mxf_tracks.proofs.package.package_in.Goals as goal

pub returns : goal.returns
unfolding package_in
returns c =
    let held = c.in_ok-value.ensures.some in
    rw held.0 (c.ok.ensures.value ∙ ap result_ok (c.read.ensures ∙ ap package_at held.1))
