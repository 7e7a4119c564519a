use Rattle.mxf_views.proofs.Common.{arith, filter_map, range_with_len}
use Rattle.mxf_units.proofs.RangeLaws.{placed-step, skipped-step}
use Rattle.mxf_doubts.specs.UnitStarts.{listed_unit}
use Rattle.mxf_doubts.proofs.starts.units.add_listed.Goals.{in-Some+in_ok-push, in_default}
use Rattle.mxf_doubts.proofs.starts.units.add_listed.Goals as goal

pub loop-unit-preserved : goal.loop-unit-preserved
loop-unit-preserved c =
    grind (arith, listed_unit, filter_map, range_with_len, in-Some+in_ok-push, placed-step, in_default, skipped-step)
