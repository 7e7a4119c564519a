use Rattle.mxf_lines.proofs.printing.line.index.write_rip.Goals as goal

pub returns-in_ok-word-in-Unreadable : goal.returns-in_ok-word-in-Unreadable
returns-in_ok-word-in-Unreadable c = rw c.in-Unreadable.is (rw c.in_ok-word-in-Unreadable.ensures at c.number.ensures)
