-- What is answered of the lines to come is answered of all; what is counted so far, with the units to come.
use Rattle.std.proofs.Common.{◌≡◌, ◌+◌, ◌++◌, ◌≤◌, [], ◌∷◌, flat_map, length}
use Rattle.mxf_units.specs.Ranges.{needed_from, units_from}
use Rattle.mxf_lines.specs.UnitLines.{hand_count, held_count, last_line, unit_line, unit_lines}
use Rattle.mxf_lines.proofs.PrintLaws.{Leads}
use Rattle.mxf_lines.proofs.printing.units.print_units.Given as goal

abbrev pub invariant-loop-unit : goal.invariant-loop-unit
invariant-loop-unit g l = record {
  lines : Leads l.initial.printer.fields.form (g.W.Write.contents l.initial.writer) l.initial.printer.progress.written
      (unit_lines l.fn.shown l.fn.range.first (units_from l.fn.units l.fn.range.first l.fn.range.count)) l.printer.fields.form
      (g.W.Write.contents l.writer) l.printer.progress.written (flat_map (λ u. unit_line l.fn.shown u ∷ []) l.unit-iterator
      ++ last_line l.fn.range.first (units_from l.fn.units l.fn.range.first l.fn.range.count) ∷ []);
  units : l.last.units ≡ l.fn.range.count;
  held : l.last.held + held_count l.unit-iterator
      ≡ held_count (units_from l.fn.units l.fn.range.first l.fn.range.count);
  hand : l.last.hand + hand_count l.unit-iterator
      ≡ hand_count (units_from l.fn.units l.fn.range.first l.fn.range.count);
  from : needed_from l.last.from l.unit-iterator
      ≡ needed_from l.fn.range.first (units_from l.fn.units l.fn.range.first l.fn.range.count);
  bound : l.last.held + l.last.hand + length l.unit-iterator ≤ l.fn.range.count;
}
