-- What was passed of the parts has its contents.
use Rattle.std.specs.Vec.Iter.{into_iter_items}
use Rattle.mxf_read.specs.Gathering.{AllTell}
use Rattle.mxf_read.proofs.GatheringLaws.{IsPassed}
use Rattle.mxf_hints.specs.Shifts.{AreShifts}
use Rattle.mxf_hints.proofs.ContentsLaws.{AreTaken}
use Rattle.mxf_hints.proofs.contents.gather_each.Given as goal

abbrev pub invariant-parts : goal.invariant-parts
invariant-parts g l = record {
  passed : IsPassed l.fn.parts.items l.number (into_iter_items l.part-iterator);
  taken : AllTell g.R.Read.remaining l.fn.parts.items
      → AreTaken g.R.Read.remaining l.fn.parts.items l.number (into_iter_items l.part-iterator)
      l.contents.contents.items l.contents.reports.items;
  shifts : AreShifts l.contents.contents.items l.contents.shifts.items;
}
