use Rattle.mxf_lines.proofs.printing.line.described.WithinValue.write_to.Goals as goal

pub returns-in-Some : goal.returns-in-Some
returns-in-Some c = rw c.in-Some.is (rw c.in_ok-word_member.ensures at c.number_member.ensures)

pub returns-in-None : goal.returns-in-None
returns-in-None c = rw c.in-None.is c.in_ok-word_member.ensures
