-- What was passed of the parts was seen.
use Rattle.std.specs.Vec.Iter.{into_iter_items}
use Rattle.mxf_read.specs.Gathering.{AllTell}
use Rattle.mxf_read.proofs.GatheringLaws.{IsPassed}
use Rattle.mxf_verify.proofs.VerifyingLaws.{HasSeen}
use Rattle.mxf_verify.proofs.verifying.verify.Given as goal

abbrev pub invariant-parts : goal.invariant-parts
invariant-parts g l = record {
  passed : IsPassed l.fn.parts.items l.number (into_iter_items l.part-iterator);
  seen : AllTell g.R.Read.remaining l.fn.parts.items
      → HasSeen g.R.Read.remaining l.reference l.fn.parts.items l.number (into_iter_items l.part-iterator) l.seen;
}
