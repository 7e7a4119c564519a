use Rattle.std.proofs.Common.{arith, bit_xor, refl, slice_index}
use Rattle.mxf_digests.proofs.LaneLemmas.{at_lane, lane_fits}
use Rattle.mxf_digests.proofs.NestedRotations.{nested_two}
use Rattle.mxf_digests.proofs.words.small_sigma1.Goals as goal

pub returns : goal.returns
returns c j h =
    let x = c.args.x in
    let fits = lane_fits x j c.fits-x.0 c.fits-x.1 h in
    rw (
      at_lane bit_xor c.rotate_right-2.result c.shift_right.result j (omega arith) (omega arith) h,
      c.shift_right.ensures j h,
      c.rotate_right-2.ensures j h,
      at_lane bit_xor x c.rotate_right.result j c.fits-x.0 (omega arith) h,
      c.rotate_right.ensures j h,
      nested_two (slice_index x j) 17 2 fits (omega arith) (omega arith) (omega arith),
    )
    refl
