use Rattle.mxf_klv.proofs.Common.{arith, eqb-true, refl, to_z-of_z, nil_from_length}
use Rattle.mxf_sets.proofs.SegmentLemmas.{segment_is}
use Rattle.mxf_sets.proofs.segment.Segment.of.Goals.{else-numbers-gt0-via-then-numbers-gt0+else-not-is_empty}
use Rattle.mxf_sets.proofs.segment.Segment.of.Goals.{else-numbers-gt0-via-else-numbers-gt0}
use Rattle.mxf_sets.proofs.segment.Segment.of.Goals as goal

pub invariant_of-result : goal.invariant_of-result
invariant_of-result c = grind (arith, eqb-true, nil_from_length, segment_is, to_z-of_z)

pub returns : goal.returns
returns c = ((invariant_of-result c).1, refl)
