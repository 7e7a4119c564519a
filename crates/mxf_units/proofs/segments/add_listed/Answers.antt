use Rattle.mxf_views.proofs.Common.{arith, filter_map}
use Rattle.mxf_views.proofs.Common.{range_with_len, all_push, place_in}
use Rattle.mxf_units.proofs.RangeLaws.{placed-step, skipped-step}
use Rattle.mxf_units.proofs.segments.add_listed.Goals.{in-Some+in_ok-push, in_default}
use Rattle.mxf_units.proofs.segments.add_listed.Goals as goal

pub loop-unit-preserved : goal.loop-unit-preserved
loop-unit-preserved c =
    grind (
      arith,
      place_in,
      filter_map,
      range_with_len,
      in-Some+in_ok-push,
      placed-step,
      all_push,
      in_default,
      skipped-step,
    )
