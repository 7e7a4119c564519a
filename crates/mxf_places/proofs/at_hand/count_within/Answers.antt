use Rattle.mxf_views.proofs.Common.{arith}
use Rattle.mxf_places.proofs.CountLaws.{within, within-between, within-most, within_counted}
use Rattle.mxf_places.proofs.at_hand.count_within.Goals as goal

pub loop-run-init : goal.loop-run-init
loop-run-init c = grind (arith, within, within-between)

pub overflow_add-count : goal.overflow_add-count
overflow_add-count c = grind (arith, within, within-most)

pub returns : goal.returns
returns c = grind (arith, within, within_counted)
