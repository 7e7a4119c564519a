use Rattle.mxf_views.proofs.Common.{arith, pos}
use Rattle.std.proofs.Common.{w64}
use Rattle.std.proofs.lemmas.Int.{fits_signed_from_abs}
use Rattle.mxf_clocks.proofs.MomentLaws.{labels_few}
use Rattle.mxf_clocks.proofs.run.timecodes.timecode_of.Goals as goal

pub overflow_cast-number : goal.overflow_cast-number
overflow_cast-number c =
    let few = labels_few c.args.base c.args.is_drop (omega (arith, c.ranges.base)) in
    fits_signed_from_abs w64 (pos c.args.number) (omega (arith, few, c.requires))
