-- What was passed of the parts is gathered.
use Rattle.std.specs.Vec.Iter.{into_iter_items}
use Rattle.mxf_read.specs.Gathering.{AllTell}
use Rattle.mxf_read.proofs.GatheringLaws.{IsPassed}
use Rattle.mxf_read.proofs.SkimLaws.{IsSkimmed}
use Rattle.mxf_read.proofs.gathering.skimming.gather_skim.Given as goal

abbrev pub invariant-parts : goal.invariant-parts
invariant-parts g l = record {
  passed : IsPassed l.fn.parts.items l.number (into_iter_items l.part-iterator);
  gathered : AllTell g.R.Read.remaining l.fn.parts.items
      → IsSkimmed g.R.Read.remaining l.fn.parts.items l.number (into_iter_items l.part-iterator) l.levels l.reports;
}
