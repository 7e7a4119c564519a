use Rattle.mxf_views.proofs.Common.{◌∙◌, sym}
use Rattle.mxf_clocks.proofs.FileTableLaws.{origin-added}
use Rattle.mxf_clocks.proofs.origins.Origins.add.Goals as goal

pub returns-in_ok-insert : goal.returns-in_ok-insert
returns-in_ok-insert c =
    origin-added c.args.self.now.by_track c.insert.new.self c.args.uid.now c.args.track.now c.id.result
    c.track_origin.result c.id.ensures c.track_origin.ensures
    (sym c.contains_key.ensures ∙ c.if-not-contains_key.true) c.in_ok-insert.ensures.updates.0
