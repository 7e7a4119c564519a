-- The records that are kept are those that were found.
use Rattle.mxf_lines.specs.ReferenceLines.{AreRecordsIn}
use Rattle.mxf_lines.proofs.printing.references.records_of.Given as goal

abbrev pub invariant-loop-reference : goal.invariant-loop-reference
invariant-loop-reference l = AreRecordsIn l.fn.catalogue l.fn.named l.records
