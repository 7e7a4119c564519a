use Rattle.mxf_lines.proofs.printing.references.records_of.Goals as goal

pub loop-reference-preserved : goal.loop-reference-preserved
loop-reference-preserved c = c.in_ok-add_record.ensures.records c.loop-reference.invariant
