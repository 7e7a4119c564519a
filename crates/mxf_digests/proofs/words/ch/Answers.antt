use Rattle.std.proofs.Common.{w32}
use Rattle.mxf_digests.proofs.FewerSteps.{ch_short}
use Rattle.mxf_digests.proofs.LaneLemmas.{at_lane, four_lanes, lane_fits}
use Rattle.mxf_digests.proofs.words.ch.Goals as goal

pub returns : goal.returns
returns c j h =
    let x = c.args.x in
    let y = c.args.y in
    let z = c.args.z in
    let inner = four_lanes _ y z c.fits-y.0 c.fits-z.0 in
    rw (
      at_lane _ z _ j c.fits-z.0 (four_lanes _ x _ c.fits-x.0 inner) h,
      at_lane _ x _ j c.fits-x.0 inner h,
      at_lane _ y z j c.fits-y.0 c.fits-z.0 h,
    )
    (ch_short w32 _ _ _ (lane_fits x j c.fits-x.0 c.fits-x.1 h) (lane_fits y j c.fits-y.0 c.fits-y.1 h)
    (lane_fits z j c.fits-z.0 c.fits-z.1 h))
