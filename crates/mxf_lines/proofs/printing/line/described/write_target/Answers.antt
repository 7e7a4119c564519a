use Rattle.mxf_lines.proofs.printing.line.described.write_target.Goals as goal

pub returns-in-WrongKind : goal.returns-in-WrongKind
returns-in-WrongKind c = rw c.in-WrongKind.is c.write_placed.ensures

pub returns-in-Unreadable : goal.returns-in-Unreadable
returns-in-Unreadable c = rw c.in-Unreadable.is c.write_placed-in-Unreadable.ensures
