-- What the units so far need, with those to come.
use Rattle.std.proofs.Common.{◌≡◌, ◌≤◌, drop}
use Rattle.mxf_units.specs.Ranges.{needed_from}
use Rattle.mxf_units.proofs.range.needed_from.Given as goal

abbrev pub invariant-loop-unit : goal.invariant-loop-unit
invariant-loop-unit l = record {
  needed : needed_from l.from (drop l.unit-index l.units) ≡ needed_from l.fn.first l.units;
  bound : l.from ≤ l.fn.first;
}
