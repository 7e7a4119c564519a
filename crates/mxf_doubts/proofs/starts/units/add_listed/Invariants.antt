-- The units so far, with those that are to come.
use Rattle.mxf_views.proofs.Common.{◌≡◌, ◌++◌, ◌-◌, filter_map, range_with_len}
use Rattle.mxf_doubts.specs.UnitStarts.{listed_unit}
use Rattle.mxf_doubts.proofs.starts.units.add_listed.Given as goal

abbrev pub invariant-loop-unit : goal.invariant-loop-unit
invariant-loop-unit l = l.units.items ++ filter_map (listed_unit l.segment) (range_with_len l.unit (l.end - l.unit))
    ≡ l.fn.units.items ++ filter_map (listed_unit l.segment) (range_with_len l.start (l.end - l.start))
