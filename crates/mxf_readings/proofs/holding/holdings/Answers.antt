use Rattle.mxf_readings.specs.HoldingOrder.{holding_cmp-IsAntisymmetric}
use Rattle.mxf_readings.proofs.HoldingLaws.{sorted_holdings}
use Rattle.mxf_readings.proofs.holding.holdings.Goals as goal

pub sort_once-requires : goal.sort_once-requires
sort_once-requires c = holding_cmp-IsAntisymmetric

pub returns : goal.returns
returns c = sorted_holdings _ _ _ c.in_ok-holdings.ensures c.sort_once.ensures.members c.sort_once.ensures.rising
