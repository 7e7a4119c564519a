use Rattle.mxf_lines.proofs.printing.verification.write_others.Goals as goal

pub returns : goal.returns
returns c = rw (c.in_ok-number-2.ensures, c.in_ok-number.ensures) at c.number-3.ensures
