use Rattle.mxf_views.proofs.Common.{append_assoc, arith, max}
use Rattle.mxf_places.specs.AtHand.{lacking, some_range, up_to_bound}
use Rattle.mxf_places.proofs.AtHandLaws.{lacking-between}
use Rattle.mxf_places.proofs.at_hand.ranges_lacking.Goals as goal

pub loop-run-init : goal.loop-run-init
loop-run-init c = grind (arith, lacking, lacking-between)

pub loop-run-preserved : goal.loop-run-preserved
loop-run-preserved c = grind (arith, some_range, up_to_bound, lacking, append_assoc, max)

pub returns : goal.returns
returns c = grind (arith, lacking)
