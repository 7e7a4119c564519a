-- What is counted so far, with the units to come.
use Rattle.std.proofs.Common.{◌≡◌, ◌+◌, ◌≤◌, drop, length}
use Rattle.mxf_units.specs.Ranges.{needed_from}
use Rattle.mxf_lines.specs.UnitLines.{hand_count, held_count}
use Rattle.mxf_lines.proofs.printing.units.UnitsLine.of.Given as goal

abbrev pub invariant-loop-unit : goal.invariant-loop-unit
invariant-loop-unit l = record {
  units : l.last.units ≡ length l.units;
  held : l.last.held + held_count (drop l.unit-index l.units) ≡ held_count l.units;
  hand : l.last.hand + hand_count (drop l.unit-index l.units) ≡ hand_count l.units;
  from : needed_from l.last.from (drop l.unit-index l.units) ≡ needed_from l.fn.first l.units;
  bound : l.last.held + l.last.hand ≤ l.unit-index;
}
