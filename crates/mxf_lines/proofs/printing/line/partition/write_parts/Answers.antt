use Rattle.mxf_lines.proofs.printing.line.partition.write_parts.Goals as goal

pub returns : goal.returns
returns c = rw (c.in_ok-number-4.ensures, c.in_ok-number-3.ensures, c.in_ok-number-2.ensures, c.in_ok-number.ensures)
    at c.number-5.ensures
