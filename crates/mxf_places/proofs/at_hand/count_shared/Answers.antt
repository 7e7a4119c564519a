use Rattle.mxf_views.proofs.Common.{◌-◌, arith, count_by, max, range_with_len}
use Rattle.mxf_places.specs.AtHand.{has_offset}
use Rattle.mxf_places.proofs.CountLaws.{passing, passing-most, passing_counted}
use Rattle.mxf_places.proofs.at_hand.count_shared.Goals as goal

pub overflow_add-count : goal.overflow_add-count
overflow_add-count c = grind (arith, has_offset, passing, passing-most, max, count_by, range_with_len)

pub returns : goal.returns
returns c = grind (arith, has_offset, passing, passing_counted, count_by, range_with_len)
