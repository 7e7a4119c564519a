use Rattle.mxf_views.proofs.Common.{◌∙◌, ap}
use Rattle.mxf_tracks.specs.Targets.{with_reached}
use Rattle.mxf_tracks.proofs.ReachedLaws.{inserted}
use Rattle.mxf_tracks.proofs.reached.Reached.add.Goals as goal

pub returns : goal.returns
returns c =
    let offset = c.args.offset in
    c.in_ok-insert.ensures.keys ∙ inserted offset c.self.inside.offsets.keys ∙ ap (with_reached offset) c.self.view_is
