use Rattle.std.proofs.Common.{bit_xor, slice_index}
use Rattle.std.specs.Simd.Lanes.{zip2}
use Rattle.mxf_digests.proofs.FewerSteps.{maj_short}
use Rattle.mxf_digests.proofs.LaneLemmas.{at_lane, four_lanes}
use Rattle.mxf_digests.proofs.words.maj.Goals as goal

pub returns : goal.returns
returns c j h =
    let x = c.args.x in
    let y = c.args.y in
    let z = c.args.z in
    let first = four_lanes bit_xor x y c.fits-x.0 c.fits-y.0 in
    let second = four_lanes bit_xor y z c.fits-y.0 c.fits-z.0 in
    rw (
      at_lane _ y _ j c.fits-y.0 (four_lanes _ _ _ first second) h,
      at_lane _ (zip2 bit_xor x y) (zip2 bit_xor y z) j first second h,
      at_lane _ x y j c.fits-x.0 c.fits-y.0 h,
      at_lane _ y z j c.fits-y.0 c.fits-z.0 h,
    )
    (maj_short (slice_index x j) (slice_index y j) (slice_index z j))
