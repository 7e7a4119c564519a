-- What was passed of the parts is gathered.
use Rattle.std.specs.Vec.Iter.{into_iter_items}
use Rattle.mxf_read.specs.Gathering.{AllTell}
use Rattle.mxf_read.proofs.GatheringLaws.{IsPassed, IsGathered}
use Rattle.mxf_read.proofs.gathering.gather.Given as goal

abbrev pub invariant-parts : goal.invariant-parts
invariant-parts g l = record {
  passed : IsPassed l.fn.parts.items l.number (into_iter_items l.part-iterator);
  gathered : AllTell g.R.Read.remaining l.fn.parts.items
      → IsGathered g.R.Read.remaining l.fn.parts.items l.number (into_iter_items l.part-iterator) l.levels l.reports;
}
